-- How far a plateau goes.
use Rattle.std.specs.Prelude.{◌≡◌, ◌⊎◌, ℕ, ◌≤◌, ◌<◌, ℤ}
use Rattle.std.specs.Int.Signed.{◌≤ℤ◌}
use Rattle.gaze.specs.declared.Segment.{Segment}
use Rattle.gaze.specs.SegmentScore.{rate_at}
use Rattle.sums.specs.declared.plateau.Span.{Span}

-- Bases from x on: before `until` some segment gives the value, before `limit` none gives more. What one more segment makes of them.
pub record Spanned (x : ℕ) (value : ℤ) (g : Segment) (span span' : Span) : Type 0 where
  pub within : span'.limit ≤ span.limit
  pub under : (y : ℕ) → x ≤ y → y < span'.limit → rate_at y g ≤ℤ value
  pub reached : (y : ℕ) → x ≤ y → y < span'.until → (y < span.until) ⊎ (rate_at y g ≡ value)
