-- `push_ending` is right because it takes each row that ends at `t`, in order. The invariant: of the rows that were looked at, those stand behind the rows that
-- were there.
use Rattle.std.proofs.Common.{◌≡◌, ◌++◌, take, filter}
use Rattle.slots.specs.Slots.{ends_at}
use Rattle.slots.proofs.push_ending.Given as goal

abbrev pub invariant-loop-row : goal.invariant-loop-row
invariant-loop-row l = l.rows.items ≡ l.initial.rows.items ++ filter (ends_at l.t) (take l.row-index l.slot)
