-- `search` is right because the rows come from the model, target after target. The invariant: the entries of the candidates before the target are filled
-- in.
use Rattle.std.proofs.Common.{◌≡◌, length}
use Rattle.gaze.specs.Step.{steps}
use Rattle.chains.specs.Tables.{Searched}
use Rattle.engine.proofs.search.Given as goal

abbrev pub invariant-loop-target : goal.invariant-loop-target
invariant-loop-target l = (length l.entries.items ≡ l.target) × Searched (steps l.prepared) l.entries.items
