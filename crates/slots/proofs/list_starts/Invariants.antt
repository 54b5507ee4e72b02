-- `list_starts` is right because it takes the start of each row, in order. The invariant: those of the rows that were looked at stand there, and nothing else.
use Rattle.std.proofs.Common.{◌≡◌, take}
use Rattle.slots.specs.Held.{starts_of}
use Rattle.slots.proofs.list_starts.Given as goal

abbrev pub invariant-loop-row : goal.invariant-loop-row
invariant-loop-row l = l.starts.items ≡ starts_of (take l.row-index l.rows)
