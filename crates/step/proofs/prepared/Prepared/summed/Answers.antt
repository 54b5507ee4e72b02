-- `summed` is right because what it gives back is a field of which the invariant says this.
use Rattle.step.proofs.prepared.Prepared.summed.Goals as goal

pub returns : goal.returns
returns c = rw (← c.self.view_is) c.self.invariant.summed
