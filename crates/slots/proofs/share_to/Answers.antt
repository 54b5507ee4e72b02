-- `share_to` is right because the rows rise by their starts: from the first that starts behind the region on, all enter with 0.
use Rattle.std.proofs.Common.{arith, rules, ◌∙◌}
use lib.Dec.{leb}
use Rattle.whole.proofs.Bits.{back}
use Rattle.std.proofs.lemmas.List.Sorted.{IsPartitionedBy-leb, IsPartitionPoint-from_clause}
use Rattle.slots.proofs.Behind.{largest_behind}
use Rattle.slots.proofs.share_to.Goals as goal

pub returns : goal.returns
returns c =
    let rows = c.args.rows.now in
    let t = c.args.t in
    let behind = c.partition_point-behind in
    let near = c.best_share-near in
    back c.larger.result c.larger.type_inv
    ∙ (rw (back near.result near.type_inv, near.ensures) at c.larger.ensures
    ∙ largest_behind c.args.s t rows behind.result (omega (arith, behind.ensures.bound, c.if-behind-rows.false))
    (IsPartitionPoint-from_clause (λ g. leb g.start t) rows behind.result behind.ensures.partitioned
    (IsPartitionedBy-leb (λ g. g.start) rows t c.requires.rising) (λ a r f' k. search rules)).1)
