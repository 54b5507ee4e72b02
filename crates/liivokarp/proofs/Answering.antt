-- Each answer of the parts below meets the row of the table of replies that it is given for.
use Rattle.std.proofs.Common.{◌≡◌, ◌∙◌, ap, List, ◌++◌, ℕ, ◌≤◌, length, ℤ, Option, Some, None, Ok, Err}
use Rattle.std.specs.Prelude.{drop, refl}
use Rattle.std.specs.Option.{ok_or}
use Rattle.gaze.specs.declared.Fault.{Fault}
use Rattle.gaze.specs.declared.Fault.TheVariants.{NoChain, BadStep}
use Rattle.gaze.specs.Chain.{Judged}
use Rattle.gaze.specs.Sheet.{Sheet, end_number}
use Rattle.gaze.specs.Step.{steps}
use Rattle.chains.specs.declared.Found.{Found}
use Rattle.chains.specs.Answer.{Answers}
use Rattle.refusal.specs.declared.Reason.TheVariants.{NoStructure}
use Rattle.sheet.specs.Reading.{reading}
use Rattle.liivokarp.specs.Replies.{candidates_of, done, refused, Assembles, no_structure, assembled, ScoresChain, no_chain, breaks, scored}
use Rattle.liivokarp.specs.Outcomes.{reply_of, refusal_of}

module _ {bytes : List ℕ} {sheet : Sheet} (is : reading bytes ≡ Ok sheet) where
  -- what is found, or that nothing is
  pub assembles : (found : Option Found) {chain₀ chain : List ℕ} → candidates_of sheet ≤ length chain₀
      → Answers (steps sheet) (end_number sheet) chain₀ found chain
      → Assembles bytes chain₀ (reply_of (ok_or found (record { reason = NoStructure; place = 0 }))) chain
  assembles (Some found) {chain₀} room h =
      assembled sheet is room h.found h.best
      (λ t. done (h.worth t) (h.counted t))
      (h.written ∙ ap (λ (n : ℕ). h.found ++ drop n chain₀) h.counted)
  assembles None room h = no_structure sheet is room h.0 refl h.1

  pub scores : {chain : List ℕ} (score : ℤ) → Judged (steps sheet) (end_number sheet) chain (Ok score)
      → ScoresChain bytes chain (done score (length chain))
  scores {chain} score h = scored sheet is h.0 (ap (λ (z : ℤ). done z (length chain)) h.1)

  pub faults : {chain : List ℕ} (fault : Fault) → Judged (steps sheet) (end_number sheet) chain (Err fault)
      → ScoresChain bytes chain (refused (refusal_of fault))
  faults NoChain h = no_chain sheet is h refl
  faults (BadStep step) h = breaks sheet is h.0 step h.1 refl
