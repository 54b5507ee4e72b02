-- `judge` is right because it takes the steps in order and stops at the first that is not legal. The invariant: the steps before entry k are legal, and
-- `score` is what they gain together.
use Rattle.engine.proofs.Walking.{Walked}
use Rattle.engine.proofs.lent.judge.Given as goal

abbrev pub invariant-loop-k : goal.invariant-loop-k
invariant-loop-k l = Walked l.sheet l.chain l.k l.score
