-- The table of the running sums.
use Rattle.std.specs.Prelude.{◌≡◌, Bool, true, false, cond, List, [], ℕ, ◌+◌, ◌-◌, ◌≤◌, ◌<◌, ℤ, pos, nat_abs, ◌-ℤ◌, Option, Some, None, length, get_or}
use Rattle.whole.specs.Whole.{floor_of}
use Rattle.gaze.specs.declared.Segment.{Segment}
use Rattle.gaze.specs.declared.Feature.{Feature}
use Rattle.gaze.specs.SegmentScore.{largest_rate, sum_over}
use Rattle.slots.specs.Slots.{slot_in}
use Rattle.sums.specs.declared.Sum.{Sum}
use Rattle.sums.specs.Sums.{Summing, position}

abbrev pub nothing : Sum
nothing = record { before = pos 0; along = pos 0 }

-- The sum of the largest rates over the bases from 1 to `at`, which is left out.
abbrev pub upto : List Segment → ℕ → ℤ
upto segments at = sum_over (largest_rate segments) 1 (at - 1)

-- What a slot's sum along with candidate j has more than that before candidate i, in thousandths, where the slot is summed up: also for j before i.
abbrev pub sum_between : Summing → ℕ → ℕ → ℕ → Option ℤ
sum_between sums slot i j =
    cond (get_or sums.summed slot false)
    (Some (floor_of (upto (slot_in sums.slots slot) (position sums.candidates j + 1) -ℤ upto (slot_in sums.slots slot) (position sums.candidates i)) 1000))
    None

-- For each candidate the sums up to its position, without it and with it.
pub record FilledRow (segments : List Segment) (candidates : List Feature) (row : List Sum) : Type 0 where
  pub before : (i : ℕ) → i < length candidates → (get_or row i nothing).before ≡ upto segments (position candidates i)
  pub along : (i : ℕ) → i < length candidates → (get_or row i nothing).along ≡ upto segments (position candidates i + 1)
  pub before_small : (i : ℕ) → i < length candidates → nat_abs (get_or row i nothing).before ≤ 40000010000000000
  pub along_small : (i : ℕ) → i < length candidates → nat_abs (get_or row i nothing).along ≤ 40000010000000000

-- Of each slot that is summed up the sums stand in a row of their own, one for each candidate.
pub record Filled (summed : List Bool) (slots : List (List Segment)) (candidates : List Feature) (table : List (List Sum)) : Type 0 where
  pub rows : (j : ℕ) → j < 64 → get_or summed j false ≡ true → FilledRow (slot_in slots j) candidates (get_or table j [])

-- What the filling leaves as it was: the rows of the slots that are not summed up, and of each row what stands behind the last candidate's sums.
pub record Kept (summed : List Bool) (candidates : List Feature) (table₀ table : List (List Sum)) : Type 0 where
  pub unflagged : (j : ℕ) → get_or summed j false ≡ false → get_or table j [] ≡ get_or table₀ j []
  pub beyond : (j i : ℕ) → length candidates ≤ i → get_or (get_or table j []) i nothing ≡ get_or (get_or table₀ j []) i nothing

-- A sum over a sequence of at most 4,000,000 bases, in both its parts.
pub record SmallSum (sum : Sum) : Type 0 where
  pub before : nat_abs sum.before ≤ 40000010000000000
  pub along : nat_abs sum.along ≤ 40000010000000000

-- Every entry of the table is such a sum.
abbrev pub Small : List (List Sum) → Type 0
Small table = (j i : ℕ) → SmallSum (get_or (get_or table j []) i nothing)
