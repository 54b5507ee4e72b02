-- `pick` is right because it considers every source in turn: the choice is that among the sources passed.
use Rattle.chains.specs.Within.{Chosen}
use Rattle.chains.proofs.pick.Given as goal

abbrev pub invariant-loop-source : goal.invariant-loop-source
invariant-loop-source l = Chosen l.steps l.entries l.source l.choice
