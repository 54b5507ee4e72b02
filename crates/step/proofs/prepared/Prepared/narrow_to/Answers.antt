use Rattle.std.proofs.Common.{◌≤◌, ◌∙◌, arith}
use Rattle.gaze.specs.Sheet.{end_number}
use Rattle.gaze.proofs.Candidates.{candidates_length}
use Rattle.step.proofs.Tables.{narrowed_is, position_of}
use Rattle.step.proofs.prepared.Prepared.narrow_to.Goals as goal

pub bounds-as_slice-target : goal.bounds-as_slice-target
bounds-as_slice-target c =
    let to : c.args.target ≤ end_number c.self.inside.sheet.now = rw c.self.view_is c.requires in
    rw (c.as_slice.ensures.value, c.self.invariant.candidates, candidates_length c.self.inside.sheet.now c.self.invariant.ranged) (omega arith)

pub returns : goal.returns
returns c =
    let to : c.args.target ≤ end_number c.self.inside.sheet.now = rw c.self.view_is c.requires in
    rw (← c.self.view_is, c.narrow_to.ensures, c.self.invariant.slots, position_of c.self.invariant.ranged c.as_slice.result.now c.args.target _ (c.as_slice.ensures.value ∙ c.self.invariant.candidates) to)
    (narrowed_is c.self.invariant.ranged c.self.inside.narrowed c.args.target c.self.invariant.narrowed)
