-- The entries behind the first that the loop came past are written, each behind what stands between two.
use Rattle.std.proofs.Common.{◌++◌, take}
use Rattle.std.specs.Fmt.{HasWritten, IsPlainFormatter}
use Rattle.std.specs.List.{flat_map}
use Rattle.terminal.specs.Entries.{entry_text}
use Rattle.terminal.proofs.entry.EntriesDisplay.fmt.Given as goal

abbrev pub invariant-loop-z : goal.invariant-loop-z
invariant-loop-z g l =
    IsPlainFormatter l.initial.f → HasWritten g.W.Write.write_str_gives l.initial.f (flat_map (λ x. l.between ++ entry_text x) (take l.z-index l.rest)) l.f
