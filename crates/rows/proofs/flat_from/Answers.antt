use Rattle.std.proofs.Common.{take_all}
use Rattle.whole.proofs.Bits.{back}
use Rattle.rows.proofs.Plateaus.{look_none, look_more, look_all, look_small}
use Rattle.rows.proofs.flat_from.Goals as goal

pub loop-row-init : goal.loop-row-init
loop-row-init c = look_none c.args.x c.args.to c.requires

pub loop-row-preserved : goal.loop-row-preserved
loop-row-preserved c =
    let a = c.args in
    let l = c.loop-row in
    let rate = back c.rate_at.result c.rate_at.type_inv in
    let largest = back c.larger_with.result c.larger_with.type_inv in
    look_more a.x a.to a.rows.now l.row-index c.row-item.result c.loop-row-test.true c.row-item.is l.invariant
    (rw c.row.view_is at c.row.invariant.good.score) (rw c.row.view_is at c.edge.ensures) (cc) c.min-next.ensures

pub returns-clause-flat : goal.returns-clause-flat
returns-clause-flat c =
    let a = c.args in
    let r = c.unwrap_or in
    let all = take_all c.loop-row.row-index a.rows.now c.loop-row-test.false in
    rw (back r.result r.type_inv, r.ensures) (look_all a.x a.to a.rows.now (rw all at c.loop-row.invariant))

pub returns-clause-small : goal.returns-clause-small
returns-clause-small c =
    let a = c.args in
    let r = c.unwrap_or in
    let all = take_all c.loop-row.row-index a.rows.now c.loop-row-test.false in
    rw (back r.result r.type_inv, r.ensures) (look_small a.x a.to a.rows.now (rw all at c.loop-row.invariant))
