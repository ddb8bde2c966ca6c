-- Totals of a sheet and the place of a row in numbers, as they cross to C (docs/ABI.md).
use Rattle.std.specs.Prelude.{ℕ, true, false, Option, Some, None}
use Rattle.lexis.specs.Text.{Text}
use Rattle.sheet.specs.Sheet.{number, answered}
use Rattle.sheet.specs.declared.Cut.{Cut}
use Rattle.sheet.specs.declared.sums.Totals.{Totals}
use Rattle.numbers.specs.Numbers.{flag_number}
use Rattle.capi.specs.declared.count.TypetextRow.{TypetextRow}
use Rattle.capi.specs.declared.count.TypetextTotals.{TypetextTotals}

unfoldable pub total_numbers : Totals → TypetextTotals
total_numbers t = record {
  rows = t.rows;
  accepted = t.accepted;
  refused_1 = t.refused_1;
  refused_2 = t.refused_2;
  refused_3 = t.refused_3;
  refused_4 = t.refused_4;
  a = t.a;
  b = t.b;
  c = t.c;
  d = t.d;
  refusal = number t.answer;
}

-- 9 for a sheet over the limit, else 0
abbrev pub sheet_number : Text → ℕ
sheet_number s = number (answered 65536 s)

-- where the row at a place lies, beside the sheet's refusal; where there is none the place stays
unfoldable pub row_numbers : ℕ → ℕ → Option Cut → TypetextRow
row_numbers refusal place (Some c) = record {
  first = c.first;
  end = c.end;
  next = c.next;
  found = flag_number true;
  refusal = refusal;
}
row_numbers refusal place None = record {
  first = place;
  end = place;
  next = place;
  found = flag_number false;
  refusal = refusal;
}
