-- The segments that matter from a base on. Of those that end before it one is as good as all, since each gives 0; of those that start behind it the first is,
-- up to where it starts. So a walk over the bases holds few of them open at a time.
use Rattle.std.specs.Prelude.{◌≡◌, List, ◌++◌, ℕ, ◌≤◌, ◌<◌, length, take}
use Rattle.gaze.specs.declared.Segment.{Segment}
use Rattle.gaze.specs.SegmentScore.{largest_rate}
use Rattle.sums.specs.declared.window.Window.{Window}

-- At the base x one list can stand for the other: the largest rates are the same there, whatever is added to both.
abbrev pub Alike : ℕ → List Segment → List Segment → Type 0
Alike x one other = (more : List Segment) → largest_rate (one ++ more) x ≡ largest_rate (other ++ more) x

-- From the base `from` on one list stands for another that is no shorter.
pub record Near (from : ℕ) (all some : List Segment) : Type 0 where
  pub few : length some ≤ length all
  pub alike : (x : ℕ) → from ≤ x → Alike x some all

-- From the base `from` on those that are open stand for those before `next`, and before the base `ahead` these give what all give.
pub record Opened (segments : List Segment) (from : ℕ) (window : Window) : Type 0 where
  pub within : window.next ≤ length segments
  pub bounded : window.ahead ≤ 4000001
  pub few : length window.rows.items ≤ window.next
  pub alike : (x : ℕ) → from ≤ x → Alike x window.rows.items (take window.next segments)
  pub enough : (x : ℕ) → x < window.ahead → largest_rate (take window.next segments) x ≡ largest_rate segments x
