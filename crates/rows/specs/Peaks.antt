-- Method 2 from plateau to plateau: the largest rate at a base is the same up to the next base at which some segment starts, or after which one ends.
use Rattle.std.specs.Prelude.{◌≡◌, List, ℕ, ◌≤◌, ◌<◌, ℤ}
use Rattle.gaze.specs.declared.Segment.{Segment}
use Rattle.gaze.specs.SegmentScore.{holds, largest_rate}

-- A segment that holds x holds every base up to `next`, and one that does not holds none of them.
pub record Edge (g : Segment) (x next : ℕ) : Type 0 where
  pub after : x < next
  pub same : (y : ℕ) → x ≤ y → y < next → holds y g ≡ holds x g

-- The largest rate at x, which is that of every base up to `next`.
pub record Flat (segments : List Segment) (x to : ℕ) (value : ℤ) (next : ℕ) : Type 0 where
  pub is : value ≡ largest_rate segments x
  pub after : x < next
  pub within : next ≤ to
  pub same : (y : ℕ) → x ≤ y → y < next → largest_rate segments y ≡ largest_rate segments x
