-- What each public function replies, and what it leaves in a lent buffer: a row for each number of the table of replies, in the order of the checks.
-- The rows of one function shut each other out, so that for every input one reply is right.
use Rattle.std.specs.Prelude.{◌≡◌, List, ◌++◌, ℕ, ◌+◌, ◌≤◌, ◌<◌, ℤ, pos, length, drop, Result, Ok, Err}
use Rattle.gaze.specs.declared.Segment.{Segment}
use Rattle.gaze.specs.Chain.{Chain, Valid, Best, FirstBad, total}
use Rattle.gaze.specs.Sheet.{Sheet, end_number}
use Rattle.gaze.specs.Step.{steps}
use Rattle.refusal.specs.declared.Reason.{Reason}
use Rattle.refusal.specs.declared.Reason.TheVariants.{NoRoom, NoStructure, NoChain, BadStep}
use Rattle.refusal.specs.declared.Refusal.{Refusal}
use Rattle.refusal.specs.Numbers.{number_of}
use Rattle.sheet.specs.Reading.{reading}
use Rattle.records.specs.declared.Region.{Region}
use Rattle.records.specs.Answers.{region_answer}
use Rattle.liivokarp.specs.declared.Reply.{Reply}

-- On a refusal score and count are 0.
abbrev pub refused : Refusal → Reply
refused refusal = record { number = number_of refusal.reason; place = refusal.place; score = pos 0; count = 0 }

abbrev pub refused_for : Reason → Reply
refused_for reason = refused (record { reason = reason; place = 0 })

abbrev pub done : ℤ → ℕ → Reply
done score count = record { number = 0; place = 0; score = score; count = count }

-- n + 2, for a sheet of n features: as many entries as its longest chain has.
abbrev pub candidates_of : Sheet → ℕ
candidates_of sheet = length sheet.features + 2

-- Assembling, with a buffer that held `chain₀` and now holds `chain`.
pub data Assembles (bytes chain₀ : List ℕ) (r : Reply) (chain : List ℕ) : Type 0 where
  -- 1 to 7
  sheet_refused : (refusal : Refusal) → reading bytes ≡ Err refusal → r ≡ refused refusal → chain ≡ chain₀
      → Assembles bytes chain₀ r chain
  -- 8: the buffer is too short
  no_room : (sheet : Sheet) → reading bytes ≡ Ok sheet → length chain₀ < candidates_of sheet → r ≡ refused_for NoRoom → chain ≡ chain₀
      → Assembles bytes chain₀ r chain
  -- 9: no valid chain exists
  no_structure : (sheet : Sheet) → reading bytes ≡ Ok sheet → candidates_of sheet ≤ length chain₀
      → ((c : List ℕ) → Valid (steps sheet) (end_number sheet) c → ⊥) → r ≡ refused_for NoStructure → chain ≡ chain₀
      → Assembles bytes chain₀ r chain
  -- 0: the best chain stands at the front of the buffer, and later entries are unchanged
  assembled : (sheet : Sheet) → reading bytes ≡ Ok sheet → candidates_of sheet ≤ length chain₀
      → (c : List ℕ) → Best (steps sheet) (end_number sheet) c → r ≡ done (total (steps sheet) c) (length c) → chain ≡ c ++ drop (length c) chain₀
      → Assembles bytes chain₀ r chain

-- Scoring a lent chain: no buffer changes, and neither 8 nor 9 is given.
pub data ScoresChain (bytes chain : List ℕ) (r : Reply) : Type 0 where
  -- 1 to 7
  its_sheet_refused : (refusal : Refusal) → reading bytes ≡ Err refusal → r ≡ refused refusal → ScoresChain bytes chain r
  -- 10: the list is no chain
  no_chain : (sheet : Sheet) → reading bytes ≡ Ok sheet → (Chain (end_number sheet) chain → ⊥) → r ≡ refused_for NoChain → ScoresChain bytes chain r
  -- 11: it breaks the model, first at this step
  breaks : (sheet : Sheet) → reading bytes ≡ Ok sheet → Chain (end_number sheet) chain
      → (step : ℕ) → FirstBad (steps sheet) chain step → r ≡ refused (record { reason = BadStep; place = step }) → ScoresChain bytes chain r
  -- 0: it is valid
  scored : (sheet : Sheet) → reading bytes ≡ Ok sheet → Valid (steps sheet) (end_number sheet) chain
      → r ≡ done (total (steps sheet) chain) (length chain) → ScoresChain bytes chain r

-- Scoring one region over lent records: `region_answer` refuses the region, or walks the records in order and refuses the first at fault, or says the score. There is no count.
abbrev pub region_reply : Result ℤ Refusal → Reply
region_reply (Err refusal) = refused refusal
region_reply (Ok score) = done score 0

abbrev pub ScoresRegion : Region → List Segment → Reply → Type 0
ScoresRegion region records r = r ≡ region_reply (region_answer region records)
