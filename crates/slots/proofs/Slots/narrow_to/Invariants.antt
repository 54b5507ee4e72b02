-- The narrowed slots are right because each begins where the one before it ends. The invariant: what is left of the slots below `j` stands in the rows, one slot
-- after the other, and is no more than there was in these slots.
use Rattle.std.proofs.Common.{◌≤◌, length, get_or}
use Rattle.slots.proofs.Grouping.{Grouped, left}
use Rattle.slots.proofs.Slots.narrow_to.Given as goal

abbrev pub invariant-loop-j : goal.invariant-loop-j
invariant-loop-j l =
    record {
      grouped : Grouped (left l.used l.t l.slots) l.j l.self-inside.rows.items l.self-inside.at;
      room : length l.self-inside.rows.items ≤ get_or l.slots-inside.at l.j 0;
    }
