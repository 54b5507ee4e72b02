use Rattle.std.proofs.Common.{◌≤◌, ◌∙◌, ap, arith}
use Rattle.gaze.specs.Sheet.{Sheet, end_number}
use Rattle.rules.specs.Interrupters.{Ended}
use Rattle.gaze.proofs.Candidates.{candidates_length}
use Rattle.step.proofs.Tables.{features_short, candidate_of}
use Rattle.step.proofs.aim.Target.at.Goals as goal

pub bounds-candidates-number : goal.bounds-candidates-number
bounds-candidates-number c =
    let to : c.args.number ≤ end_number c.prepared.inside.sheet.now = rw c.prepared.view_is c.requires.to_end in
    rw (c.as_slice-candidates.ensures.value, c.prepared.invariant.candidates, candidates_length c.prepared.inside.sheet.now c.prepared.invariant.ranged) (omega arith)

pub before-requires : goal.before-requires
before-requires c = rw c.as_slice.ensures.value (features_short c.sheet.invariant)

pub invariant_of-result : goal.invariant_of-result
invariant_of-result c =
    let p = c.prepared.invariant in
    let to : c.args.number ≤ end_number c.prepared.inside.sheet.now = rw c.prepared.view_is c.requires.to_end in
    let listed = c.as_slice-candidates.ensures.value ∙ p.candidates in
    let feature = candidate_of p.ranged c.as_slice-candidates.result.now c.args.number _ listed to in
    record {
      held = record {
        ranged = p.ranged;
        candidates = listed;
        lines = p.lines;
        slots = p.slots;
        narrowed = rw (p.slots, c.prepared.view_is) c.requires.narrowed;
        summing = record {
          slots = rw (p.slots, c.prepared.view_is) c.requires.summing.slots;
          candidates = rw (listed, c.prepared.view_is) c.requires.summing.candidates;
        };
        to_end = to;
      };
      rules = p.rules;
      curves = p.curves;
      features = ap (λ (i : Ended). i.features) c.before-2.ensures ∙ (c.as_slice.ensures.value ∙ ap (λ (s : Sheet). s.features) c.sheet.view_is);
      target = ap (λ (i : Ended). i.target) c.before-2.ensures ∙ feature;
      feature = feature;
    }
