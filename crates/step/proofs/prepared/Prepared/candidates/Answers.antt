use Rattle.step.proofs.Tables.{places_of}
use Rattle.step.proofs.prepared.Prepared.candidates.Goals as goal

pub returns-clause-places : goal.returns-clause-places
returns-clause-places c = rw (c.as_slice.ensures.value, c.self.invariant.candidates) (places_of c.self.invariant.ranged)
