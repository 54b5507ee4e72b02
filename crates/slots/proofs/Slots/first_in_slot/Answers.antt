-- `first_in_slot` is right because beside a slot's rows stand their starts, which do not fall.
use Rattle.std.proofs.Common.{rules, arith, length, ap, ◌≡◌}
use lib.Dec.{ltb}
use Rattle.std.specs.List.Sorted.{IsNonDecreasingBy}
use Rattle.std.proofs.lemmas.List.{length-map}
use Rattle.std.proofs.lemmas.List.Sorted.{IsPartitionedBy-ltb, IsPartitionPoint-from_clause}
use Rattle.slots.specs.Held.{part, starts_of}
use Rattle.slots.specs.Slots.{slot_in}
use Rattle.slots.proofs.Grouping.{starts_beside, slot_rises}
use Rattle.slots.proofs.StartOrder.{rising_starts, first_of_starts}
use Rattle.slots.proofs.Slots.first_in_slot.Goals as goal
use Rattle.slots.proofs.Slots.first_in_slot.Goals.{After-partition_point}

-- the starts that are searched
beside : (c : After-partition_point) → part c.as_slice.result.now c.self.inside.at c.args.j ≡ starts_of (slot_in c.args.self.now c.args.j)
beside c = rw c.as_slice.ensures.value (starts_beside c.self.inside c.self.invariant c.args.self.now c.self.view_is c.args.j c.requires)

pub returns-clause-bound : goal.returns-clause-bound
returns-clause-bound c =
    omega (arith, c.partition_point.ensures.bound, ap length (beside c), length-map (slot_in c.args.self.now c.args.j) (λ g. g.start))

pub returns-clause-first : goal.returns-clause-first
returns-clause-first c =
    let s = c.args.s in
    let slot = slot_in c.args.self.now c.args.j in
    let first = c.partition_point in
    let rising : IsNonDecreasingBy (λ x. x) (starts_of slot) =
    rising_starts slot (slot_rises c.self.inside c.self.invariant c.args.self.now c.self.view_is c.args.j c.requires) in
    let searched = rw (beside c) at (IsPartitionPoint-from_clause (λ x. ltb x s) _ first.result first.ensures.partitioned) in
    first_of_starts s slot first.result (returns-clause-bound c)
    (searched (IsPartitionedBy-ltb (λ x. x) (starts_of slot) s rising) (λ a r f' k. search rules))
