-- What a caller of `read` knows by the number alone, which is 0 of a sheet: a sheet, in range, or the refusal.
use Rattle.std.proofs.Common.{List, ◌≡◌, refl, sym, ◌∙◌, ℕ, Result, Ok, Err}
use Rattle.gaze.specs.Sheet.{Sheet}
use Rattle.gaze.specs.Ranges.{InRange}
use Rattle.refusal.specs.declared.Reason.{Reason}
use Rattle.refusal.specs.declared.Reason.TheVariants.{Size, Trailer, Malformed, Range, Disorder, Link, Crowded, NoRoom, NoStructure, NoChain, BadStep}
use Rattle.refusal.specs.declared.Refusal.{Refusal}
use Rattle.refusal.specs.Numbers.{number_of}
use Rattle.sheet.specs.Reading.{reading}
use Rattle.sheet.proofs.Ranged.{in_range_of_accepted}

abbrev pub number : Result Sheet Refusal → ℕ
number (Ok sheet) = 0
number (Err refusal) = number_of refusal.reason

pub record Accepted (bytes : List ℕ) (r : Result Sheet Refusal) : Type 0 where
  pub sheet : Sheet
  pub is : reading bytes ≡ Ok sheet
  pub holds : r ≡ Ok sheet
  pub in_range : InRange sheet

pub record Refused (bytes : List ℕ) (r : Result Sheet Refusal) : Type 0 where
  pub refusal : Refusal
  pub is : reading bytes ≡ Err refusal
  pub holds : r ≡ Err refusal

-- No refusal has the number of a sheet.
pub refused_by_number : (reason : Reason) → number_of reason ≡ 0 → ⊥
refused_by_number Size e = cc
refused_by_number Trailer e = cc
refused_by_number Malformed e = cc
refused_by_number Range e = cc
refused_by_number Disorder e = cc
refused_by_number Link e = cc
refused_by_number Crowded e = cc
refused_by_number NoRoom e = cc
refused_by_number NoStructure e = cc
refused_by_number NoChain e = cc
refused_by_number BadStep e = cc

module _ (bytes : List ℕ) (r : Result Sheet Refusal) (is : r ≡ reading bytes) where
  pub when_accepted : number r ≡ 0 → Accepted bytes r
  when_accepted z = go r refl z
    where
      go : (given : Result Sheet Refusal) → r ≡ given → number given ≡ 0 → Accepted bytes r
      go (Ok sheet) e z = let accepted = sym is ∙ e in record { sheet = sheet; is = accepted; holds = e; in_range = in_range_of_accepted bytes sheet accepted }
      go (Err refusal) e z = absurd (refused_by_number refusal.reason z)

  pub when_refused : (number r ≡ 0 → ⊥) → Refused bytes r
  when_refused z = go r refl z
    where
      go : (given : Result Sheet Refusal) → r ≡ given → (number given ≡ 0 → ⊥) → Refused bytes r
      go (Ok sheet) e z = absurd (z refl)
      go (Err refusal) e z = record { refusal = refusal; is = sym is ∙ e; holds = e }
