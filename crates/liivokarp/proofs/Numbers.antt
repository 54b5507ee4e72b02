-- What a host knows by the number of a reply alone: 1 to 7 of a sheet that was refused, for the reason of that number and at the place that the reply has; any
-- other of a sheet that was read, and is in range.
use Rattle.std.proofs.Common.{List, ◌≡◌, refl, sym, ap, ℕ, ◌≤◌, arith, Ok, Err}
use Rattle.gaze.specs.Sheet.{Sheet}
use Rattle.refusal.specs.declared.Refusal.{Refusal}
use Rattle.refusal.specs.Numbers.{number_of}
use Rattle.sheet.specs.Reading.{reading}
use Rattle.sheet.proofs.Outcomes.{number, Accepted, refused_by_number, when_accepted}
use Rattle.liivokarp.specs.declared.Reply.{Reply}
use Rattle.liivokarp.specs.Replies.{refused, Assembles, sheet_refused, no_room, no_structure, assembled, ScoresChain, its_sheet_refused, no_chain, breaks, scored}
use Rattle.sheet.proofs.Refusals.{at_most_7}

abbrev pub IsOfSheet : Reply → Type 0
IsOfSheet r = (1 ≤ r.number) × (r.number ≤ 7)

pub record SheetRefused (bytes : List ℕ) (r : Reply) : Type 0 where
  pub refusal : Refusal
  pub is : reading bytes ≡ Err refusal
  pub number : number_of refusal.reason ≡ r.number
  pub place : refusal.place ≡ r.place

-- ---- how a reply follows the reading of its sheet
number_is : {r s : Reply} → r ≡ s → r.number ≡ s.number
number_is e = ap (λ (r : Reply). r.number) e

place_is : {r s : Reply} → r ≡ s → r.place ≡ s.place
place_is e = ap (λ (r : Reply). r.place) e

data Follows (bytes : List ℕ) (r : Reply) : Type 0 where
  refuses : (refusal : Refusal) → reading bytes ≡ Err refusal → r ≡ refused refusal → Follows bytes r
  goes_on : (sheet : Sheet) → reading bytes ≡ Ok sheet → (IsOfSheet r → ⊥) → Follows bytes r

done_is_not : (r : Reply) → r.number ≡ 0 → IsOfSheet r → ⊥
done_is_not r e n = omega (arith, e, n.0)

later_is_not : (r : Reply) → 8 ≤ r.number → IsOfSheet r → ⊥
later_is_not r e n = omega (arith, e, n.1)

assembles : {bytes chain₀ chain : List ℕ} {r : Reply} → Assembles bytes chain₀ r chain → Follows bytes r
assembles (sheet_refused refusal e h k) = refuses refusal e h
assembles {r = r} (no_room sheet e l h k) = goes_on sheet e (later_is_not r (omega (arith, number_is h)))
assembles {r = r} (no_structure sheet e l never h k) = goes_on sheet e (later_is_not r (omega (arith, number_is h)))
assembles {r = r} (assembled sheet e l c best h k) = goes_on sheet e (done_is_not r (number_is h))

scores : {bytes chain : List ℕ} {r : Reply} → ScoresChain bytes chain r → Follows bytes r
scores (its_sheet_refused refusal e h) = refuses refusal e h
scores {r = r} (no_chain sheet e never h) = goes_on sheet e (later_is_not r (omega (arith, number_is h)))
scores {r = r} (breaks sheet e c step bad h) = goes_on sheet e (later_is_not r (omega (arith, number_is h)))
scores {r = r} (scored sheet e v h) = goes_on sheet e (done_is_not r (number_is h))

of_refusal : (bytes : List ℕ) (refusal : Refusal) {r : Reply} → reading bytes ≡ Err refusal → r ≡ refused refusal → IsOfSheet r
of_refusal bytes refusal e h = (omega (arith, number_is h, refused_by_number refusal.reason), omega (arith, number_is h, at_most_7 bytes refusal e))

refused_of : {bytes : List ℕ} {r : Reply} → Follows bytes r → IsOfSheet r → SheetRefused bytes r
refused_of (refuses refusal e h) n = record { refusal = refusal; is = e; number = sym (number_is h); place = sym (place_is h) }
refused_of (goes_on sheet e other) n = absurd (other n)

accepted_of : {bytes : List ℕ} {r : Reply} → Follows bytes r → (IsOfSheet r → ⊥) → Accepted bytes (reading bytes)
accepted_of {bytes} (refuses refusal e h) n = absurd (n (of_refusal bytes refusal e h))
accepted_of {bytes} (goes_on sheet e other) n = when_accepted bytes (reading bytes) refl (ap number e)

-- ---- THE THEOREMS
module _ {bytes chain₀ chain : List ℕ} {r : Reply} (h : Assembles bytes chain₀ r chain) where
  pub assembles_when_refused : IsOfSheet r → SheetRefused bytes r
  assembles_when_refused n = refused_of (assembles h) n

  pub assembles_when_accepted : (IsOfSheet r → ⊥) → Accepted bytes (reading bytes)
  assembles_when_accepted n = accepted_of (assembles h) n

module _ {bytes chain : List ℕ} {r : Reply} (h : ScoresChain bytes chain r) where
  pub scores_when_refused : IsOfSheet r → SheetRefused bytes r
  scores_when_refused n = refused_of (scores h) n

  pub scores_when_accepted : (IsOfSheet r → ⊥) → Accepted bytes (reading bytes)
  scores_when_accepted n = accepted_of (scores h) n
