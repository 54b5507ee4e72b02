use Rattle.std.proofs.Common.{arith, to_z-of_z, take_all}
use Rattle.sums.proofs.Spanning.{Spanning, spanning_more, spanning_all}
use Rattle.sums.proofs.plateau.level_to.Goals as goal

pub loop-row-preserved : goal.loop-row-preserved
loop-row-preserved c =
    let l = c.loop-row in
    spanning_more c.args.x _ c.args.ahead c.args.rows.now l.row-index _ l.span _ c.loop-row-test.true c.row-item.is c.span_on-span.ensures l.invariant

pub returns-clause-same : goal.returns-clause-same
returns-clause-same c =
    let a = c.args in
    let l = c.loop-row in
    let f = c.ranges.value in
    let q : Spanning a.x a.value a.ahead a.rows.now l.span = rw (to_z-of_z f, take_all l.row-index a.rows.now (omega arith)) at l.invariant in
    λ y m h. spanning_all a.x a.value a.ahead a.rows.now l.span q y m (omega arith) (omega arith)
