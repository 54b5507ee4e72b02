-- `first_from` is right because the starts do not fall: where the first is not below `s`, none is.
use Rattle.std.proofs.Common.{rules, arith, sym, ap}
use lib.Dec.{ltb}
use Rattle.std.proofs.lemmas.Bool.Decides.{leb_tells}
use Rattle.std.proofs.lemmas.Option.{get_or_from_slice_get}
use Rattle.std.proofs.lemmas.List.Sorted.{IsPartitionedBy-ltb, IsPartitionPoint-from_clause}
use Rattle.slots.proofs.first_from.Goals as goal

pub returns-in-Some-clause-first : goal.returns-in-Some-clause-first
returns-in-Some-clause-first c =
    IsPartitionPoint-from_clause (λ g. ltb g.start c.args.s) c.args.rows.now c.partition_point.result c.partition_point.ensures.partitioned
    (IsPartitionedBy-ltb (λ g. g.start) c.args.rows.now c.args.s c.requires) (λ a r f' k. search rules)

pub returns-in_default-clause-first : goal.returns-in_default-clause-first
returns-in_default-clause-first c =
    let rows = c.args.rows.now in
    let row = c.in-Some.row.now in (
      λ i d h k. absurd (omega arith),
      λ i d h k.
          let first = ap (λ g. g.start) (get_or_from_slice_get rows 0 row d (sym c.in-Some.ensures.value)) in
          grind (arith, leb_tells, c.requires 0 i d h k, first, ap (λ g. g.start) c.row.view_is, c.if-row-s.false),
    )
