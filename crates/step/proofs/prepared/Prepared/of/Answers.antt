use Rattle.std.proofs.Common.{◌≡◌, ◌≤◌, ◌∙◌, ap, false, eqb, ◌&&◌, leb, of_calls}
use Rattle.gaze.specs.declared.Qualifier.{Qualifier}
use mathlib.Core.Logic.{⊎_elim}
use Rattle.gaze.proofs.ListLaws.{each_map}
use Rattle.step.specs.Steps.{SlotsMarked}
use Rattle.step.proofs.Tables.{segments_short, not_asked, not_summed}
use Rattle.step.proofs.prepared.Prepared.of.Goals as goal

pub of-requires-4 : goal.of-requires-4
of-requires-4 c = rw c.as_slice-3.ensures.value (segments_short c.sheet.invariant)

pub invariant_of-result : goal.invariant_of-result
invariant_of-result c =
    rw (← c.sheet.view_is)
    (record {
      ranged = c.sheet.invariant;
      candidates = rw c.sheet.view_is c.candidates.ensures;
      rules = c.of.ensures ∙ c.as_slice.ensures.value;
      curves = c.of-2.ensures ∙ c.as_slice-2.ensures.value;
      lines = c.of-3.ensures ∙ c.as_slice-qualifiers.ensures.value;
      slots = rw c.as_slice-3.ensures.value at c.of-4.ensures;
      narrowed = each_map _ (λ q. 2 ≤ q.matching → SlotsMarked c.marks.result q) c.sheet.inside.qualifiers.items
          (λ q h asks. ⊎_elim (λ r. let does_not_ask : false ≡ leb 2 r.shown.now.matching = search of_calls in absurd (not_asked does_not_ask (ap (λ (k : Qualifier). k.matching) r.shows) asks)) (λ m. m) h)
          (rw c.as_slice-qualifiers.ensures.value at c.marks.ensures);
      summed = each_map _ (λ q. q.method ≡ 2 → q.matching ≡ 0 → SlotsMarked c.marks-2.result q) c.sheet.inside.qualifiers.items
          (λ q h by_sums wholly. ⊎_elim (λ r. let does_not_ask : false ≡ (eqb r.shown.now.method 2 && eqb r.shown.now.matching 0) = search of_calls in absurd (not_summed does_not_ask (ap (λ (k : Qualifier). k.method) r.shows ∙ by_sums) (ap (λ (k : Qualifier). k.matching) r.shows ∙ wholly))) (λ m. m) h)
          (rw c.as_slice-qualifiers.ensures.value at c.marks-2.ensures);
    })
