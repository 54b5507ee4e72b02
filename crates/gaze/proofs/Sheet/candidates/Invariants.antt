-- BEGIN and the features that were looked at are in, in order.
use Rattle.std.proofs.Common.{◌≡◌, ◌∷◌, take}
use Rattle.gaze.specs.Sheet.{begin}
use Rattle.gaze.proofs.Sheet.candidates.Given as goal

abbrev pub invariant-loop-feature : goal.invariant-loop-feature
invariant-loop-feature l = l.candidates.items ≡ begin ∷ take l.feature-index l.feature-items
