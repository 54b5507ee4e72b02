-- A segment with its rate, and the score of segments that are all chosen, by either method.
use Rattle.std.specs.Prelude.{◌≡◌, ◌≤◌, cond, List, ℕ, eqb, ℤ}
use Rattle.gaze.specs.declared.Segment.{Segment}
use Rattle.gaze.specs.Ranges.{Thousandths}
use Rattle.gaze.specs.SegmentScore.{rate, largest_share, summed_rates}
use Rattle.rows.specs.declared.Row.TheInside.{Inside}

-- The bases are in order and on the longest sequence, and the score is in range.
pub record Good (g : Segment) : Type 0 where
  pub ordered : g.start ≤ g.end
  pub bounded : g.end ≤ 4000000
  pub score : Thousandths g.score

-- What is true of every row: the segment is good, and the rate is its own.
pub record IsRated (r : Inside) : Type 0 where
  pub good : Good r.segment
  pub rate : r.rate ≡ rate r.segment

-- The row of a segment.
abbrev pub row_of : Segment → Inside
row_of g = record { segment = g; rate = rate g }

-- By the method alone: `segment_score` of segments that are all chosen.
abbrev pub scored : ℕ → ℕ → ℕ → List Segment → ℤ
scored method s t segments = cond (eqb method 1) (largest_share s t segments) (summed_rates s t segments)
