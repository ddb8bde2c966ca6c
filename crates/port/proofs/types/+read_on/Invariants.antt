-- A pass that removes a mark leaves fewer bytes to read.
use Rattle.port.proofs.types.+read_on.Given as goal

abbrev pub decreases-read_on : goal.decreases-read_on
decreases-read_on l = l.n
