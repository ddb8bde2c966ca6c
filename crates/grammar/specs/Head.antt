-- The first word of a strict form: a scalar, or what opens a form, with `!cuda_tile.` in front or not.
use Rattle.std.specs.Prelude.{ℕ, Bool, true, false, List, [], ◌∷◌, ◌++◌, ◌⊎◌, ◌≡◌, refl}
use Rattle.std.proofs.Common.{inl, inr, ltb→lt}
use Rattle.lexis.specs.Text.{bytes}
use Rattle.scalars.specs.declared.scalar.Scalar.{Scalar}
use Rattle.scalars.specs.declared.scalar.Scalar.TheVariants.{I1}
use Rattle.meaning.specs.Strict.{Name, words, word, scalars, scalar_of}
use Rattle.grammar.specs.Piece.{Piece}
use Rattle.grammar.specs.Table.{table, Among}
use Rattle.grammar.specs.Spelt.{Spelt, always, listed, listed_to, listed_from, Mem, zipped, zipped_to, zipped_from, among_left, among_right, among_split}
use Rattle.grammar.specs.Elements.{front}

-- ── the first word ──
pub data Head : Type 0 where
  scalar : Scalar → Head
  token ptr tile tensor partition gather strided : Head

pub data HeadS : Type 0 where
  scalar : Name → HeadS
  token ptr tile tensor partition gather strided : Bool → HeadS

abbrev pub head_text : HeadS → List ℕ
head_text (scalar n) = word n
head_text (token p) = front (bytes "token") p
head_text (ptr p) = front (bytes "ptr<") p
head_text (tile p) = front (bytes "tile<") p
head_text (tensor p) = front (bytes "tensor_view<") p
head_text (partition p) = front (bytes "partition_view<tile=(") p
head_text (gather p) = front (bytes "gather_scatter_view<tile=(") p
head_text (strided p) = front (bytes "strided_view<tile=(") p

abbrev pub head_mean : HeadS → Head
head_mean (scalar n) = scalar (scalar_of n)
head_mean (token p) = token
head_mean (ptr p) = ptr
head_mean (tile p) = tile
head_mean (tensor p) = tensor
head_mean (partition p) = partition
head_mean (gather p) = gather
head_mean (strided p) = strided

abbrev pub others : List HeadS
others = token false ∷ token true ∷ ptr false ∷ ptr true ∷ tile false ∷ tile true ∷ tensor false ∷ tensor true ∷ partition false ∷ partition true
    ∷ gather false ∷ gather true ∷ strided false ∷ strided true ∷ []

abbrev pub head_e : Head → List ℕ
head_e (scalar s) = bytes "6"
head_e token = []
head_e ptr = []
head_e tile = []
head_e tensor = []
head_e partition = []
head_e gather = []
head_e strided = []

abbrev pub head_f : List ℕ
head_f = bytes "ibft!pgs"

abbrev pub head_plain : Piece false head_f Head head_e
head_plain = table head_e head_f (zipped scalar words scalars ++ listed head_text head_mean others) tt

pub head_to : (h : Head) (t : List ℕ) → head_plain.In h t → Spelt always head_text head_mean h t
head_to h t i = by (among_split (zipped scalar words scalars) (listed head_text head_mean others) h t i)
  where
    by : Among (zipped scalar words scalars) h t ⊎ Among (listed head_text head_mean others) h t → Spelt always head_text head_mean h t
    by (inl a) = let p = zipped_to scalar I1 words scalars h t a in record { form = scalar (record { index = p.index; within = p.inside }); fine = tt; spells = p.word; says = p.value }
    by (inr a) = listed_to head_text head_mean others h t a

pub head_from : (h : Head) (t : List ℕ) → Spelt always head_text head_mean h t → head_plain.In h t
head_from h t s = by s.form s.spells s.says
  where
    rest : (f : HeadS) → Mem f others → head_text f ≡ t → head_mean f ≡ h → head_plain.In h t
    rest f m p q = among_right (zipped scalar words scalars) (listed head_text head_mean others) h t (listed_from head_text head_mean others f m h t p q)

    by : (f : HeadS) → head_text f ≡ t → head_mean f ≡ h → head_plain.In h t
    by (scalar n) p q = among_left (zipped scalar words scalars) (listed head_text head_mean others) h t
        (zipped_from scalar I1 words scalars refl n.index (ltb→lt n.index 22 n.within) h t p q)
    by (token false) p q = rest (token false) (inl refl) p q
    by (token true) p q = rest (token true) (inr (inl refl)) p q
    by (ptr false) p q = rest (ptr false) (inr (inr (inl refl))) p q
    by (ptr true) p q = rest (ptr true) (inr (inr (inr (inl refl)))) p q
    by (tile false) p q = rest (tile false) (inr (inr (inr (inr (inl refl))))) p q
    by (tile true) p q = rest (tile true) (inr (inr (inr (inr (inr (inl refl)))))) p q
    by (tensor false) p q = rest (tensor false) (inr (inr (inr (inr (inr (inr (inl refl))))))) p q
    by (tensor true) p q = rest (tensor true) (inr (inr (inr (inr (inr (inr (inr (inl refl)))))))) p q
    by (partition false) p q = rest (partition false) (inr (inr (inr (inr (inr (inr (inr (inr (inl refl))))))))) p q
    by (partition true) p q = rest (partition true) (inr (inr (inr (inr (inr (inr (inr (inr (inr (inl refl)))))))))) p q
    by (gather false) p q = rest (gather false) (inr (inr (inr (inr (inr (inr (inr (inr (inr (inr (inl refl))))))))))) p q
    by (gather true) p q = rest (gather true) (inr (inr (inr (inr (inr (inr (inr (inr (inr (inr (inr (inl refl)))))))))))) p q
    by (strided false) p q = rest (strided false) (inr (inr (inr (inr (inr (inr (inr (inr (inr (inr (inr (inr (inl refl))))))))))))) p q
    by (strided true) p q = rest (strided true) (inr (inr (inr (inr (inr (inr (inr (inr (inr (inr (inr (inr (inr (inl refl)))))))))))))) p q
