use Rattle.std.proofs.Common.{◌≡◌, sym, arith, ◌+ℤ◌, ◌*ℤ◌, pos, ◌-◌, to_z, w64}
use Rattle.whole.proofs.Bits.{back, small_fits, small_back}
use Rattle.rows.proofs.Plateaus.{sum_none, plateau_more, step_small}
use Rattle.rows.proofs.sum_rates.Goals as goal

pub loop-at-init : goal.loop-at-init
loop-at-init c = record { begun = omega arith; within = omega arith; is = sum_none _ c.args.from; small = omega arith }

pub plus-sum-requires : goal.plus-sum-requires
plus-sum-requires c =
    let l = c.loop-at in
    let p = c.flat_from-plateau in
    let t = c.times-gained in
    let small = step_small (to_z w64 l.sum-bits) p.result.value c.args.from l.at p.result.next l.invariant.begun (omega arith) l.invariant.small p.ensures.small in
    rw (back t.result t.type_inv, t.ensures, small_back p.result.value 10000000000 p.ensures.small (omega arith))
    (small_fits _ 40000010000000000 (omega arith) (omega arith))

pub loop-at-preserved : goal.loop-at-preserved
loop-at-preserved c =
    let l = c.loop-at in
    let p = c.flat_from-plateau in
    let t = c.times-gained in
    let s = c.plus-sum in
    let is : to_z w64 l.sum-bits +ℤ p.result.value *ℤ pos (p.result.next - l.at) ≡ s.result =
    let value = small_back p.result.value 10000000000 p.ensures.small (omega arith) in
    let gained = back t.result t.type_inv in
    cc in
    rw (back s.result s.type_inv, ← is)
    (record {
      begun = omega arith;
      within = omega arith;
      is = rw l.invariant.is (sym (plateau_more c.args.rows.now c.args.from l.at c.args.to l.invariant.begun p.ensures.flat));
      small = step_small (to_z w64 l.sum-bits) p.result.value c.args.from l.at p.result.next l.invariant.begun (omega arith) l.invariant.small p.ensures.small;
    })
