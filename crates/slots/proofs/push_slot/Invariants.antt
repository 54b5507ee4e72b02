-- `push_slot` is right because it takes each segment that stands in slot `j`, in order. The invariant: of the segments that were looked at, those stand behind
-- the rows that were there.
use Rattle.std.proofs.Common.{◌≡◌, ◌++◌, take, filter}
use Rattle.slots.specs.Slots.{in_slot}
use Rattle.slots.proofs.push_slot.Given as goal

abbrev pub invariant-loop-segment : goal.invariant-loop-segment
invariant-loop-segment l = l.rows.items ≡ l.initial.rows.items ++ filter (in_slot l.j) (take l.segment-index l.segments)
