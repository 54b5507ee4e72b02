-- `level_to` is right because before `until` a row gives the value, and before `limit` none gives more. The loop's invariant: so it is of the rows before this one.
use Rattle.std.proofs.Common.{take}
use Rattle.sums.proofs.Spanning.{Spanning}
use Rattle.sums.proofs.plateau.level_to.Given as goal

abbrev pub invariant-loop-row : goal.invariant-loop-row
invariant-loop-row l = Spanning l.x l.value l.ahead (take l.row-index l.rows) l.span
