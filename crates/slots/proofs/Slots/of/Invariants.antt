-- The slots are right because each begins where the one before it ends. The invariant: the slots below `j` stand in the rows, one after the other, and no others.
use Rattle.std.proofs.Common.{◌≡◌, filter, length}
use Rattle.slots.specs.Slots.{in_slot}
use Rattle.slots.proofs.Counting.{counted}
use Rattle.slots.proofs.Grouping.{Grouped}
use Rattle.slots.proofs.Slots.of.Given as goal

abbrev pub invariant-loop-j : goal.invariant-loop-j
invariant-loop-j l =
    record {
      grouped : Grouped (λ i. filter (in_slot i) l.segments) l.j l.rows.items l.at;
      counted : length l.rows.items ≡ counted l.j l.segments;
    }
