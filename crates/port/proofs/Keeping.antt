-- The scan's loop: what is kept from anchor to anchor, and what the answers say.
use Prim.Native.Nat.{ℕ, ◌+◌, ◌≤◌, ◌<◌}
use native.Mathlib.Omega.{arith}
use mathlib.Core.Bool.{true, false, false≢true}
use Rattle.std.specs.Prelude.{None, Some}
use mathlib.Core.Path.{◌≡◌, refl, sym, ap, ◌∙◌, subst}
use lib.ListN.{length, take, drop, get_or}
use Rattle.lexis.specs.Text.{Text, place, until}
use Rattle.lexis.proofs.Seeking.{unshifted}
use Rattle.lexis.proofs.Passing.{sought_within}
use Rattle.meaning.specs.Parts.{depth, close}
use Rattle.port.specs.Seen.{hot}
use lib.Seq.{take-length}
use Rattle.port.specs.Keys.{Sights, Placed, Scanned}
use Rattle.port.specs.declared.keys.Places.{Places}
use Rattle.port.proofs.Sighting as L
use Rattle.port.proofs.Depth as D
use Rattle.port.proofs.Behinding as B

-- what is not hot is no bracket
cold : (b x : ℕ) → hot b ≡ false → hot x ≡ true → b ≡ x → ⊥
cold b x e f g = false≢true (sym e ∙ ap hot g ∙ f)

plain : (d b : ℕ) → hot b ≡ false → depth d b ≡ Some d
plain d b e = D.level d b (cold b 60 e refl) (cold b 62 e refl)

-- a byte that is no anchor of a keyword
pub still : {s : Text} {i : ℕ} {r : Places} → Sights s i r → (get_or s i 0 ≡ 61 → ⊥) → (get_or s i 0 ≡ 60 → ⊥) → (get_or s i 0 ≡ 103 → ⊥) → Sights s (i + 1) r
still g x y z = record {
  ptr = L.other g.ptr refl y;
  spaced = L.other g.spaced refl x;
  bare = L.other g.bare refl x;
  tile = L.other g.tile refl x;
  map = L.other g.map refl x;
  traversal = L.other g.traversal refl x;
  sparse = L.other g.sparse refl x;
  named = L.other g.named refl y;
  prefixed = L.other g.prefixed refl y;
  padding = L.other g.padding refl z;
  plain = B.beside g.plain y;
}

-- to the next hot byte
pub jumped : {s : Text} {i : ℕ} {r : Places} → Sights s i r → i ≤ length s → {k : ℕ} → k ≡ i + length (until hot (drop i s)) → Sights s k r
jumped {s} {i} {r} g h {k} e = rw e (L.run hot s (λ j. Sights s j r) (λ j f q. still q (cold _ 61 f refl) (cold _ 60 f refl) (cold _ 103 f refl)) i g)

module _ {s : Text} {i : ℕ} {r : Places} (g : Sights s i r) where
  pub closed : get_or s i 0 ≡ 62 → i ≤ length s → Placed (take i s) r
  closed h k = record {
    ptr = L.closed g.ptr refl h refl k;
    spaced = L.closed g.spaced refl h refl k;
    bare = L.closed g.bare refl h refl k;
    tile = L.closed g.tile refl h refl k;
    map = L.closed g.map refl h refl k;
    traversal = L.closed g.traversal refl h refl k;
    sparse = L.closed g.sparse refl h refl k;
    named = L.closed g.named refl h refl k;
    prefixed = L.closed g.prefixed refl h refl k;
    padding = L.closed g.padding refl h refl k;
    plain = B.later g.plain k;
  }

  pub ended : length s ≤ i → i ≤ length s → Placed (take (length s) s) r
  ended h k = record {
    ptr = L.ended g.ptr refl h;
    spaced = L.ended g.spaced refl h;
    bare = L.ended g.bare refl h;
    tile = L.ended g.tile refl h;
    map = L.ended g.map refl h;
    traversal = L.ended g.traversal refl h;
    sparse = L.ended g.sparse refl h;
    named = L.ended g.named refl h;
    prefixed = L.ended g.prefixed refl h;
    padding = L.ended g.padding refl h;
    plain = let e : i ≡ length s = omega arith in B.later (rw e at g.plain) (omega arith);
  }

pub record Kept (s : Text) (d i : ℕ) (r : Places) : Type 0 where
  pub low : d ≤ i
  pub inside : i ≤ length s
  pub match : place (close 0 s) ≡ D.match s d i
  pub sights : Sights s i r

pub begin : {s : Text} {r : Places} {i : ℕ} → Sights s 0 r → i ≡ 0 + length (until hot (drop 0 s)) → Kept s 0 i r
begin {s} {r} {i} g e = record {
  low = omega arith;
  inside = sought_within hot s 0 i (omega arith) e;
  match = unshifted (place (close 0 s)) ∙ D.sought hot plain s 0 0 e;
  sights = jumped g (omega arith) e;
}

module _ {s : Text} {d i : ℕ} {r : Places} (g : Kept s d i r) where
  pub again : {e k : ℕ} {q : Places} → i < length s → depth d (get_or s i 0) ≡ Some e → Sights s (i + 1) q
      → k ≡ (i + 1) + length (until hot (drop (i + 1) s)) → Kept s e k q
  again {e} {k} h p f n = record {
    low = let a = D.grows d (get_or s i 0) p in omega (arith, g.low);
    inside = sought_within hot s (i + 1) k (omega arith) n;
    match = g.match ∙ D.step s d i (Some e) h p ∙ D.sought hot plain s e (i + 1) n;
    sights = jumped f (omega arith) n;
  }

  pub matched : i < length s → get_or s i 0 ≡ 62 → d ≡ 0 → Scanned s (record { end = Some i; places = r })
  matched h b z = record {
    end = sym (g.match ∙ D.step s d i None h (D.closes d (get_or s i 0) b z));
    inside = g.inside;
    places = closed g.sights b g.inside;
  }

  pub unmatched : length s ≤ i → Scanned s (record { end = None; places = r })
  unmatched h = record {
    end = sym (g.match ∙ D.ended s d i h);
    inside = tt;
    places = subst (λ (t : Text). Placed t r) (take-length s) (ended g.sights h g.inside);
  }
