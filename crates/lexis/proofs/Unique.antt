-- Each public function's contract leaves one answer: two answers that meet the generated reading of it, for the same arguments, are the same.
-- A returned slice is compared by what it holds.
use mathlib.Core.Path.{◌≡◌, sym, ◌∙◌}
use denote.RattleType.{RattleType}
use denote.Param.Laws.{Laws, IsCopy}
use mir.Syntax.{Dict}
use Rattle.std.specs.declared.clone.Clone as Clone
use Rattle.lexis.specs.declared.pattern.Pattern as Pattern
use Rattle.lexis.proofs.blocks.seek.Reads as seek
use Rattle.lexis.proofs.pattern.U8Pattern.matches.Reads as u8-matches
use Rattle.lexis.proofs.pattern.WhitePattern.matches.Reads as white-matches
use Rattle.lexis.proofs.pattern.InkPattern.matches.Reads as ink-matches
use Rattle.lexis.proofs.pattern.OutsidePattern.matches.Reads as outside-matches
use Rattle.lexis.proofs.room.lay.Reads as lay
use Rattle.lexis.proofs.text.same.Reads as same
use Rattle.lexis.proofs.text.begins.Reads as begins
use Rattle.lexis.proofs.text.find.Reads as find
use Rattle.lexis.proofs.text.find_by.Reads as find-by
use Rattle.lexis.proofs.text.contains.Reads as contains
use Rattle.lexis.proofs.text.until.Reads as until
use Rattle.lexis.proofs.text.trim.Reads as trim
use Rattle.lexis.proofs.text.trim_start_matches.Reads as trim-start-matches
use Rattle.lexis.proofs.text.trim_end_matches.Reads as trim-end-matches

-- A contract is over lifetimes, arguments, an answer and what is left at exit.
module _ {K : Type 0} {D R S : K → Type 0} where
  -- it leaves one answer
  abbrev pub One : ((κs : K) → D κs → R κs → S κs → Type 0) → Type 0
  One Post = (κs : K) (a : D κs) (x y : R κs) (s t : S κs) → Post κs a x s → Post κs a y t → x ≡ y

  -- it leaves one value of what is seen of the answer
  abbrev pub Alike : {A : Type 0} → ((κs : K) → R κs → A) → ((κs : K) → D κs → R κs → S κs → Type 0) → Type 0
  Alike see Post = (κs : K) (a : D κs) (x y : R κs) (s t : S κs) → Post κs a x s → Post κs a y t → see κs x ≡ see κs y

  -- it leaves one value of what is seen at exit of what was lent
  abbrev pub Left : {A : Type 0} → ((κs : K) → S κs → A) → ((κs : K) → D κs → R κs → S κs → Type 0) → Type 0
  Left see Post = (κs : K) (a : D κs) (x y : R κs) (s t : S κs) → Post κs a x s → Post κs a y t → see κs s ≡ see κs t

-- ── answers that are stated as they are ──

pub begins_one : One begins.Post
begins_one κs a x y s t p q = p ∙ sym q

pub same_one : One same.Post
same_one κs a x y s t p q = p ∙ sym q

pub contains_one : One contains.Post
contains_one κs a x y s t p q = p ∙ sym q

pub find_one : One find.Post
find_one κs a x y s t p q = p ∙ sym q

pub find_by_one : One find-by.Post
find_by_one κs a x y s t p q = p ∙ sym q

-- ── a byte beside each pattern ──

pub byte_one : One u8-matches.Post
byte_one κs a x y s t p q = p ∙ sym q

pub white_one : One white-matches.Post
white_one κs a x y s t p q = p ∙ sym q

pub ink_one : One ink-matches.Post
ink_one κs a x y s t p q = p ∙ sym q

pub outside_one : One outside-matches.Post
outside_one κs a x y s t p q = p ∙ sym q

-- ── returned slices ──

pub trim_one : Alike (λ κs x. x.now) trim.Post
trim_one κs a x y s t p q = p ∙ sym q

-- ── for every pattern ──

module _ (T : RattleType) (laws : Laws T) (copy : IsCopy T) (pattern : Pattern.Ghosts T.Denot) (d : Dict) (clone : Clone.Ghosts T.Denot) (e : Dict) where
  pub seek_one : One (seek.Post T laws copy pattern d clone e)
  seek_one κs a x y s t p q = p ∙ sym q

  pub until_one : One (until.Post T laws copy pattern d clone e)
  until_one κs a x y s t p q = p ∙ sym q

  pub trim_start_matches_one : Alike (λ κs x. x.now) (trim-start-matches.Post T laws copy pattern d clone e)
  trim_start_matches_one κs a x y s t p q = p ∙ sym q

  pub trim_end_matches_one : Alike (λ κs x. x.now) (trim-end-matches.Post T laws copy pattern d clone e)
  trim_end_matches_one κs a x y s t p q = p ∙ sym q

-- ── a room that is lent ──

pub lay_one : Left (λ κs s. s.0.now) lay.Post
lay_one κs a x y s t p q = p ∙ sym q
