-- `trace` is right because each turn writes one candidate and goes on to its source: what is written and the way ahead are the way back from the last.
use Rattle.chains.proofs.Traces.{Walking}
use Rattle.chains.proofs.trace.Given as goal

abbrev pub invariant-loop-place : goal.invariant-loop-place
invariant-loop-place l = Walking l.entries l.last l.initial.chain l.chain l.count l.place

abbrev pub decreases-loop-place : goal.decreases-loop-place
decreases-loop-place l = l.place
