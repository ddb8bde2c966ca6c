-- `sheet_number` meets its contract: by its test.
use borrow.Author.Rules.{rules}
use borrow.Author.Tests.{le-leb, lt-leb}
use lib.ListN.{length}
use Rattle.capi.proofs.count.sheet_number.Goals as goal

pub returns-then-sheet-le-LIMIT : goal.returns-then-sheet-le-LIMIT
returns-then-sheet-le-LIMIT c = let s = c.args.sheet.now in rw (le-leb (length s) 65536 (search rules))

pub returns-else-sheet-le-LIMIT : goal.returns-else-sheet-le-LIMIT
returns-else-sheet-le-LIMIT c = let s = c.args.sheet.now in rw (lt-leb (length s) 65536 (search rules))
