-- `advance` is right because before `ahead` the rows that are open give the largest rates of all rows, so a plateau of theirs is one of all.
use Rattle.std.proofs.Common.{rules, arith, to_z-of_z, w64, SFits}
use Rattle.whole.proofs.Bits.{back}
use Rattle.sums.proofs.Walking.{flat_all}
use Rattle.sums.proofs.walk.Walk.advance.Goals as goal

pub invariant_of-self : goal.invariant_of-self
invariant_of-self c =
    let w = c.self.inside in
    let q = c.self.invariant in
    let r = c.reached-self-inside in
    let f = c.flat_from-flat in
    let k = c.lengthen-self-inside in
    let o = c.reopen.ensures.opened in
    let v : SFits w64 f.result.value = search rules in
    rw (to_z-of_z v, back r.result r.type_inv)
    (record {
      begun = omega (arith, q.begun, q.onward);
      onward = omega (arith, k.ensures.after);
      bounded = omega (arith, k.ensures.within, o.bounded);
      few = q.few;
      rising = q.rising;
      sum = rw (← c.self.view_is) at r.ensures.value;
      sum_small = r.ensures.small;
      flat = flat_all w.rows.now _ o c.as_slice-open.ensures.value k.ensures;
      value_small = f.ensures.small;
      opened = o;
    })
