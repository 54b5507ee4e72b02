-- The slots that rows in one vector are.
use Rattle.std.specs.Prelude.{◌≡◌, List, ℕ, ◌+◌, ◌≤◌, ◌<◌, length, map, get_or, slice_range}
use Rattle.gaze.specs.declared.Segment.{Segment}
use Rattle.gaze.specs.Lists.{listed}
use Rattle.slots.specs.Slots.{Rising}
use Rattle.slots.specs.declared.Slots.TheInside.{Inside}

-- What stands from at j to at (j + 1): of the rows, slot j's.
abbrev pub part : {A : Type 0} → List A → List ℕ → ℕ → List A
part items at j = slice_range items (get_or at j 0) (get_or at (j + 1) 0)

abbrev pub rows_of : Inside → ℕ → List Segment
rows_of s = part s.rows.items s.at

abbrev pub slots_in : Inside → List (List Segment)
slots_in s = listed (rows_of s) 0 64

-- The column that stands beside rows, for the search by their starts.
abbrev pub starts_of : List Segment → List ℕ
starts_of l = map (λ g. g.start) l

-- What is true of them all: the starts stand beside the rows, the bounds rise up to the number of rows, and no slot has more rows than a sheet may
-- have segments, nor has them out of the order of their starts.
pub record IsGrouped (s : Inside) : Type 0 where
  pub listed : s.starts.items ≡ starts_of s.rows.items
  pub rises : (j : ℕ) → j < 64 → get_or s.at j 0 ≤ get_or s.at (j + 1) 0
  pub within : (j : ℕ) → j < 64 → get_or s.at (j + 1) 0 ≤ length s.rows.items
  pub few : (j : ℕ) → j < 64 → length (rows_of s j) ≤ 1024
  pub rising : (j : ℕ) → j < 64 → Rising (rows_of s j)
