-- Method 1: when a share is 0 and when the whole score, that the product fits the machine, and that no share is above both the score and 0.
use mathlib.Core.Path.{◌≡◌, ap, ◌∙◌}
use Prim.Native.Nat.{ℕ, ◌≤◌, ◌<◌}
use native.Mathlib.Omega.{arith}
use lib.IntN.{ℤ, pos, nat_abs, ◌*ℤ◌}
use mir.Syntax.{w64}
use mir.Val.{SFits}
use Rattle.whole.specs.Whole.{floor_of}
use Rattle.whole.proofs.Bits.{small_fits}
use Rattle.whole.proofs.Size.{abs_mul_le}
use Rattle.whole.proofs.Quotients.{floor_none, floor_cancel, floor_share}
use Rattle.gaze.specs.declared.Segment.{Segment}
use Rattle.gaze.specs.SegmentScore.{size, overlap, share}
use Rattle.rows.proofs.Maxima.{Beaten}

-- a segment that ends before the region has no base in it
pub share_behind : (g : Segment) (a b : ℕ) → g.end < a → share a b g ≡ pos 0
share_behind g a b h =
    let o : overlap a b g ≡ 0 = omega arith in
    ap (λ (n : ℕ). floor_of (g.score *ℤ pos n) (size g)) o ∙ floor_none g.score (size g)

module _ (a b : ℕ) (g : Segment) (h : g.start ≤ g.end) where
  pub share_whole : a ≤ g.start → g.end ≤ b → share a b g ≡ g.score
  share_whole k l =
      let e : overlap a b g ≡ size g = omega arith in
      ap (λ (n : ℕ). floor_of (g.score *ℤ pos n) (size g)) e ∙ floor_cancel g.score (size g) (omega arith)

  pub share_beaten : Beaten (share a b g) g.score
  share_beaten value k l = floor_share g.score value (overlap a b g) (size g) (omega arith) k l

pub product_fits : (z : ℤ) (bases : ℕ) → nat_abs z ≤ 10000000 → bases ≤ 4000001 → SFits w64 (z *ℤ pos bases)
product_fits z bases h k = small_fits (z *ℤ pos bases) 80000000000000 (omega (arith, abs_mul_le z bases 10000000 4000001 h k)) (omega arith)
