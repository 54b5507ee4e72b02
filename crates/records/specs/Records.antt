-- What is wrong with lent records: each is held to the ranges and the order of S lines, on the longest sequence.
use Rattle.std.specs.Prelude.{cond, List, [], ◌∷◌, ℕ, ◌+◌, leb, ℤ, pos, Option, Some, None, Result, Ok, Err}
use Rattle.gaze.specs.declared.Segment.{Segment}
use Rattle.gaze.specs.Ranges.{segment_keys}
use Rattle.refusal.specs.declared.Reason.{Reason}
use Rattle.refusal.specs.declared.Reason.TheVariants.{Crowded, Range}
use Rattle.refusal.specs.declared.Refusal.{Refusal}
use Rattle.kinds.specs.Kinds.{S, most_of, in_range}
use Rattle.kinds.specs.Order.{order, disorder}

-- A record's numbers in the order of an S line's fields.
unfoldable pub row_of : Segment → List ℤ
row_of g = pos g.kind ∷ pos g.start ∷ pos g.end ∷ g.score ∷ []

abbrev pub disorder_after : Option Segment → Segment → Option Reason
disorder_after None g = None
disorder_after (Some before) g = disorder (order (segment_keys before) (segment_keys g))

-- What is wrong with a record after so many others, of which the last one is given: one too many, out of range or out of order, looked for in this order.
unfoldable pub record_fault : ℕ → Option Segment → Segment → Option Reason
record_fault passed before g =
    cond (leb (most_of S) passed) (Some Crowded)
    (cond (in_range S 4000000 (row_of g)) (disorder_after before g) (Some Range))

-- On where nothing is wrong, or refused at the place.
abbrev pub unless : Option Reason → ℕ → Result (Unit {0}) Refusal → Result (Unit {0}) Refusal
unless None place later = later
unless (Some reason) place later = Err (record { reason = reason; place = place })

-- The first record at fault is refused, among those that stand after so many others.
unfoldable pub checked : ℕ → Option Segment → List Segment → Result (Unit {0}) Refusal
checked passed before [] = Ok tt
checked passed before (g ∷ l) = unless (record_fault passed before g) (passed + 1) (checked (passed + 1) (Some g) l)
