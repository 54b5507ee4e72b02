-- `open_rows` is right because the rows stand in the order of their starts, so up to the start of the row that was opened last no later row has a base. The loop's
-- invariant: from `x` on the rows that are open can stand for the rows up to the next, and these are enough up to `ahead`.
use Rattle.std.proofs.Common.{◌≡◌, ◌+◌}
use Rattle.sums.specs.Window.{Opened}
use Rattle.sums.proofs.window.Window.open_rows.Given as goal

abbrev pub invariant-loop-row : goal.invariant-loop-row
invariant-loop-row l = Opened l.rows l.x l.self × (l.self.next ≡ l.initial.self.next + l.row-index)
