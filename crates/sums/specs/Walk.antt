-- A walk over the bases from plateau to plateau.
use Rattle.std.specs.Prelude.{◌≡◌, List, ℕ, ◌-◌, ◌*◌, ◌≤◌, ◌<◌, nat_abs, length}
use Rattle.gaze.specs.declared.Segment.{Segment}
use Rattle.gaze.specs.SegmentScore.{largest_rate}
use Rattle.slots.specs.Slots.{Rising}
use Rattle.sums.specs.declared.walk.Walk.TheInside.{Inside}
use Rattle.sums.specs.Table.{upto}
use Rattle.sums.specs.Window.{Opened}

-- Where a walk over some segments stands: on the bases from `at` to `to`, which is left out.
pub record Stand : Type 0 where
  pub segments : List Segment
  pub at : ℕ
  pub to : ℕ

-- A walk that stands on a plateau: the sum of the largest rates before it, the largest rate of each of its bases, and the segments that are open.
pub record IsWalked (walk : Inside) : Type 0 where
  pub begun : 1 ≤ walk.at
  pub onward : walk.at ≤ walk.to
  pub bounded : walk.to ≤ 4000001
  pub few : length walk.rows.now ≤ 1024
  pub rising : Rising walk.rows.now
  pub sum : walk.sum ≡ upto walk.rows.now walk.at
  pub sum_small : nat_abs walk.sum ≤ (walk.at - 1) * 10000000000
  pub flat : (x : ℕ) → walk.at ≤ x → x < walk.to → largest_rate walk.rows.now x ≡ walk.value
  pub value_small : nat_abs walk.value ≤ 10000000000
  pub opened : Opened walk.rows.now walk.at walk.window
