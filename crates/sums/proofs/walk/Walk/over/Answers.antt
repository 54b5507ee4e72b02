use Rattle.std.proofs.Common.{sym, arith}
use Rattle.sums.proofs.Summing.{upto_none}
use Rattle.sums.proofs.Walking.{opened_none}
use Rattle.sums.proofs.walk.Walk.over.Goals as goal

pub invariant_of-result : goal.invariant_of-result
invariant_of-result c =
    let n = c.none.ensures in
    record {
      begun = omega arith;
      onward = omega arith;
      bounded = omega arith;
      few = c.requires.few;
      rising = c.requires.rising;
      sum = sym (upto_none c.args.rows.now);
      sum_small = omega arith;
      flat = λ x l u. absurd (omega arith);
      value_small = omega arith;
      opened = opened_none c.args.rows.now 1 c.none.result n.rows n.next n.ahead;
    }
