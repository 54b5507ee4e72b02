-- What the steps of a sheet are made of, beside what is made once: running sums of its slots and candidates, and slots that are narrowed to a target.
use Rattle.std.specs.Prelude.{◌≡◌, Bool, true, false, List, ℕ, get_or}
use Rattle.gaze.specs.declared.Qualifier.{Qualifier}
use Rattle.gaze.specs.declared.Segment.{Segment}
use Rattle.gaze.specs.Lists.{Each}
use Rattle.gaze.specs.Sheet.{Sheet, candidates, candidate}
use Rattle.slots.specs.Slots.{slot_of, slots_of}
use Rattle.sums.specs.Sums.{Summing}
use Rattle.regions.specs.Evidence.{Narrowed}

-- A sheet, and one of its candidates, at which steps end.
pub record Aimed : Type 0 where
  pub sheet : Sheet
  pub target : ℕ

-- Running sums over slots of the sheet, whichever are summed up.
pub record SumsOf (sheet : Sheet) (sums : Summing) : Type 0 where
  pub slots : sums.slots ≡ slots_of sheet.segments
  pub candidates : sums.candidates ≡ candidates sheet

-- Each line with match 2 or 3 finds in the slots those rows of its slot that end at candidate t.
abbrev pub NarrowedTo : Sheet → ℕ → List (List Segment) → Type 0
NarrowedTo sheet t narrowed = Each (Narrowed (slots_of sheet.segments) narrowed (candidate sheet t).position) sheet.qualifiers

-- The slots that a line asks for are marked, whichever the target.
abbrev pub SlotsMarked : List Bool → Qualifier → Type 0
SlotsMarked marks q = (t : ℕ) → get_or marks (slot_of q.kind q.phase t) false ≡ true
