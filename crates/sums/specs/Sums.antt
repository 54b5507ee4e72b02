-- Running sums over the slots that are flagged, for pairs of candidates.
use Rattle.std.specs.Prelude.{Bool, false, cond, List, ℕ, ◌≤◌, ◌<◌, length, get_or, ℤ, Option, Some, None}
use Rattle.gaze.specs.declared.Segment.{Segment}
use Rattle.gaze.specs.declared.Feature.{Feature}
use Rattle.gaze.specs.Sheet.{begin}
use Rattle.gaze.specs.SegmentScore.{summed_rates}
use Rattle.slots.specs.Slots.{slot_in}

-- The slots, the candidates, and which slots are summed up.
pub record Summing : Type 0 where
  pub slots : List (List Segment)
  pub candidates : List Feature
  pub summed : List Bool

-- A candidate's position.
abbrev pub position : List Feature → ℕ → ℕ
position candidates i = (get_or candidates i begin).position

-- As many candidates as there may be, whose positions never fall.
pub record Places (candidates : List Feature) : Type 0 where
  pub few : length candidates ≤ 1026
  pub low : (i : ℕ) → i < length candidates → 1 ≤ position candidates i
  pub high : (i : ℕ) → i < length candidates → position candidates i ≤ 4000000
  pub rises : (i j : ℕ) → i ≤ j → j < length candidates → position candidates i ≤ position candidates j

-- The score by method 2 of a slot's segments over the region from candidate i to candidate j, where the slot is summed up.
abbrev pub pair_score : Summing → ℕ → ℕ → ℕ → Option ℤ
pair_score sums slot i j =
    cond (get_or sums.summed slot false)
    (Some (summed_rates (position sums.candidates i) (position sums.candidates j) (slot_in sums.slots slot)))
    None
