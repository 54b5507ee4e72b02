use Rattle.chains.proofs.Choices.{chosen_more}
use Rattle.chains.proofs.pick.Goals as goal

pub loop-source-preserved : goal.loop-source-preserved
loop-source-preserved c = rw c.consider-choice.ensures (chosen_more _ _ _ _ c.loop-source.invariant)
