use Rattle.std.proofs.Common.{◌≡◌, true, false, rules, of_calls, take}
use Rattle.std.proofs.Math.Dec.{ltb}
use Rattle.std.specs.List.Sorted.{IsPartitionPoint}
use Rattle.std.proofs.lemmas.List.Sorted.{IsPartitionPoint-from_clause}
use Rattle.rules.proofs.LastSeen.{seen_none, seen_more, seen_all}
use Rattle.rules.proofs.Order.{parted, behind, before, kind_in, rises}
use Rattle.rules.proofs.Interrupters.before.Goals as goal
use Rattle.rules.proofs.Interrupters.before.Goals.{After-partition_point-count}

split : (c : After-partition_point-count) → IsPartitionPoint (λ f. ltb f.position c.args.target.position ≡ true) (λ f. ltb f.position c.args.target.position ≡ false) c.args.features.now c.partition_point-count.result
split c =
    let a = c.args in
    let point = c.partition_point-count in
    IsPartitionPoint-from_clause (λ f. ltb f.position a.target.position) a.features.now point.result point.ensures.partitioned (parted a.features.now c.requires a.target.position)
    (λ _ _ _ call. search (rules, of_calls))

pub loop-feature-init : goal.loop-feature-init
loop-feature-init c = seen_none (take c.partition_point-count.result c.args.features.now) c.args.target

pub bounds-last-feature : goal.bounds-last-feature
bounds-last-feature c =
    kind_in c.args.features.now c.requires c.args.target.position c.partition_point-count.result (split (goal.at.bounds-last-feature c).After-partition_point-count) c.loop-feature.feature-index _ c.loop-feature-test.true

pub loop-feature-preserved : goal.loop-feature-preserved
loop-feature-preserved c =
    let a = c.args in
    let n = c.partition_point-count.result in
    let point = split (goal.at.loop-feature-preserved c).After-partition_point-count in
    let l = c.loop-feature in
    let lt = c.loop-feature-test.true in
    seen_more (take n a.features.now) a.target l.feature-index l.last l.invariant _ lt
    (kind_in a.features.now c.requires a.target.position n point l.feature-index _ lt)
    (before a.features.now c.requires a.target.position n point l.feature-index _ lt)
    (λ k e. rises a.features.now c.requires a.target.position n point l.feature-index k _ e)

pub invariant_of-result : goal.invariant_of-result
invariant_of-result c =
    let a = c.args in
    let n = c.partition_point-count.result in
    seen_all a.features.now a.target n c.loop-feature.feature-index c.loop-feature.last c.loop-feature-test.false c.loop-feature.invariant
    (behind a.features.now c.requires a.target.position n (split (goal.at.invariant_of-result c).After-partition_point-count))
