use Rattle.std.proofs.Common.{arith}
use Rattle.chains.proofs.Traces.{walked, stepped, whole, counted}
use Rattle.chains.proofs.trace.Goals as goal

pub loop-place-preserved : goal.loop-place-preserved
loop-place-preserved c = rw c.source-place.ensures (walked c.loop-place.invariant (omega arith) c.loop-place-test.true)

pub returns-clause-counted : goal.returns-clause-counted
returns-clause-counted c = counted c.loop-place.invariant (omega arith) c.loop-place-test.false

pub returns-clause-written : goal.returns-clause-written
returns-clause-written c =
    let w = c.loop-place.invariant in
    rw (c.reverse.ensures.after, whole w (omega arith) c.loop-place-test.false, stepped w (omega arith) 0)
