-- The segments that a Q line takes, and what one region score asks for.
use Rattle.std.specs.Prelude.{Bool, ◌&&◌, List, ℕ, ◌≤◌, eqb, length}
use Rattle.gaze.specs.declared.Segment.{Segment}
use Rattle.gaze.specs.Lists.{Each}
use Rattle.gaze.specs.SegmentScore.{meets_phase}
use Rattle.rows.specs.Rows.{Good}

-- The part of what a Q line asks that no source position changes: a type and a phase.
abbrev pub fits : ℕ → ℕ → ℕ → Segment → Bool
fits kind phase t g = eqb g.kind kind && meets_phase phase t g

-- As many segments as a sheet may have, on the longest sequence, and a region from s to t.
pub record Region (segments : List Segment) (s t : ℕ) : Type 0 where
  pub each : Each Good segments
  pub few : length segments ≤ 1024
  pub ordered : s ≤ t
  pub bounded : t ≤ 4000000
