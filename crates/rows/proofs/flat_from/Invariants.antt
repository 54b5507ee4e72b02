-- `flat_from` is right because the largest rate can change only at an edge of one of the rows. The invariant: `largest` is the maximum of the rates at `x` of
-- the rows that were looked at, and none of these has an edge between `x` and `next`.
use Rattle.std.proofs.Common.{take}
use Rattle.rows.proofs.Plateaus.{Looked}
use Rattle.rows.proofs.flat_from.Given as goal

abbrev pub invariant-loop-row : goal.invariant-loop-row
invariant-loop-row l = Looked l.x l.to (take l.row-index l.rows) l.largest l.next
