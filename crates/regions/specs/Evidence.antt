-- What a sheet's evidence holds for the steps into one target.
use Rattle.std.specs.Prelude.{◌≡◌, List, ℕ, ◌≤◌, ◌<◌, ℤ, length}
use Rattle.gaze.specs.declared.Feature.{Feature}
use Rattle.gaze.specs.declared.Qualifier.{Qualifier}
use Rattle.gaze.specs.declared.Segment.{Segment}
use Rattle.gaze.specs.Lists.{Each, keep}
use Rattle.gaze.specs.Ranges.{InRange}
use Rattle.gaze.specs.SegmentScore.{segment_score}
use Rattle.gaze.specs.Sheet.{candidates, candidate, end_number}
use Rattle.slots.specs.Slots.{slot_of, slots_of, slot_in, ends_at}
use Rattle.sums.specs.Sums.{position}
use Rattle.regions.specs.declared.Evidence.{Evidence}

-- The running sums are those of the slots and the candidates that are held beside them.
pub record Summing (e : Evidence) : Type 0 where
  pub slots : e.sums.now.slots ≡ e.slots.now
  pub candidates : e.sums.now.candidates ≡ e.candidates.now

-- The region from candidate s to candidate t.
pub record Region (candidates : List Feature) (s t : ℕ) : Type 0 where
  pub ordered : s ≤ t
  pub within : t < length candidates
  pub rises : position candidates s ≤ position candidates t
  pub bounded : position candidates t ≤ 4000000

-- A line with match 2 or 3 finds in the narrowed slots those rows of its slot that end at the position t.
abbrev pub Narrowed : List (List Segment) → List (List Segment) → ℕ → Qualifier → Type 0
Narrowed slots narrowed t q = 2 ≤ q.matching → slot_in narrowed (slot_of q.kind q.phase t) ≡ keep (ends_at t) (slot_in slots (slot_of q.kind q.phase t))

-- All of it is made of the sheet, and the slots are narrowed to its candidate t.
pub record Holds (e : Evidence) (t : ℕ) : Type 0 where
  pub ranged : InRange e.sheet.now
  pub candidates : e.candidates.now ≡ candidates e.sheet.now
  pub lines : e.lines.now ≡ e.sheet.now.qualifiers
  pub slots : e.slots.now ≡ slots_of e.sheet.now.segments
  pub narrowed : Each (Narrowed e.slots.now e.narrowed.now (candidate e.sheet.now t).position) e.sheet.now.qualifiers
  pub summing : Summing e
  pub to_end : t ≤ end_number e.sheet.now

-- What a Q line is worth over the region from candidate s to candidate t.
abbrev pub worth : Evidence → ℕ → ℕ → Qualifier → ℤ
worth e s t q = segment_score q (position e.candidates.now s) (position e.candidates.now t) e.sheet.now.segments
