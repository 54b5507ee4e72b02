use Rattle.std.proofs.Common.{rules, take_all, ap}
use Rattle.gaze.specs.Sheet.{candidates}
use Rattle.gaze.proofs.Sheet.candidates.Goals as goal

pub returns : goal.returns
unfolding candidates
returns c =
    grind (rules, take_all, ap (λ s. s.features) c.self.view_is, ap (λ s. s.sequence_length) c.self.view_is)
