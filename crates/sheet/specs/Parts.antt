-- What the totals are made of, row by row.
use Rattle.std.specs.Prelude.{ℕ, ◌+◌, ◌<◌}
use Rattle.meaning.specs.declared.Reading.{Reading}
use Rattle.sheet.specs.declared.Counted.{Counted}
use Rattle.sheet.specs.declared.Counted.TheVariants.{Whole}
use Rattle.sheet.specs.declared.sums.Totals.{Totals}
use Rattle.sheet.specs.Sheet.{counted}

-- no row yet
abbrev pub none : Counted → Totals
none answer = record {
  answer = answer;
  rows = 0;
  accepted = 0;
  refused_1 = 0;
  refused_2 = 0;
  refused_3 = 0;
  refused_4 = 0;
  a = 0;
  b = 0;
  c = 0;
  d = 0;
}

-- those of one row
abbrev pub one : Reading → Totals
one r = record {
  answer = Whole;
  rows = 1;
  accepted = counted 0 r;
  refused_1 = counted 1 r;
  refused_2 = counted 2 r;
  refused_3 = counted 3 r;
  refused_4 = counted 4 r;
  a = r.note.a;
  b = r.note.b;
  c = r.note.c;
  d = r.note.d;
}

-- the numbers of both, with the first one's answer
infixl 65 ◌plus◌
abbrev pub ◌plus◌ : Totals → Totals → Totals
t plus u = record {
  answer = t.answer;
  rows = t.rows + u.rows;
  accepted = t.accepted + u.accepted;
  refused_1 = t.refused_1 + u.refused_1;
  refused_2 = t.refused_2 + u.refused_2;
  refused_3 = t.refused_3 + u.refused_3;
  refused_4 = t.refused_4 + u.refused_4;
  a = t.a + u.a;
  b = t.b + u.b;
  c = t.c + u.c;
  d = t.d + u.d;
}

-- one row more
abbrev pub added : Totals → Reading → Totals
added t r = t plus one r

-- every number is below n
pub record Below (n : ℕ) (t : Totals) : Type 0 where
  pub rows : t.rows < n
  pub accepted : t.accepted < n
  pub refused_1 : t.refused_1 < n
  pub refused_2 : t.refused_2 < n
  pub refused_3 : t.refused_3 < n
  pub refused_4 : t.refused_4 < n
  pub a : t.a < n
  pub b : t.b < n
  pub c : t.c < n
  pub d : t.d < n
