-- The running sum of the largest rates, and how large it can be.
use Rattle.std.proofs.Common.{◌≡◌, refl, sym, ap, ◌∙◌, arith}
use native.Mathlib.Nat.{mul-le-mul_right}
use Rattle.std.specs.Prelude.{List, map, ℕ, ◌-◌, ◌*◌, ◌≤◌, ◌<◌, ℤ, pos, nat_abs, ◌+ℤ◌, ◌-ℤ◌, ◌*ℤ◌}
use Rattle.whole.proofs.Order.{+ℤ_drop_first}
use Rattle.whole.proofs.Size.{abs_sum, abs_mul}
use Rattle.gaze.specs.declared.Segment.{Segment}
use Rattle.gaze.specs.Lists.{Each, keep}
use Rattle.gaze.specs.Ranges.{Thousandths}
use Rattle.gaze.specs.SegmentScore.{enters, rate_at, largest_rate, sum_over}
use Rattle.gaze.proofs.Bounds.{largest_size, rate_size, sum_over_size}
use Rattle.gaze.proofs.ListLaws.{each_kept, each_mapped}
use Rattle.sums.specs.Table.{upto}
use Rattle.rows.proofs.Bases.{sum_joined, sum_flat}

-- before the first base
pub upto_none : (segments : List Segment) → upto segments 1 ≡ pos 0
unfolding sum_over
upto_none segments = refl

-- on a plateau
pub upto_on : (segments : List Segment) (at p : ℕ) (z : ℤ) → 1 ≤ at → at ≤ p → ((x : ℕ) → at ≤ x → x < p → largest_rate segments x ≡ z)
    → upto segments at +ℤ z *ℤ pos (p - at) ≡ upto segments p
upto_on segments at p z h k flat =
    ap (λ (y : ℤ). upto segments at +ℤ y) (sym (sum_flat (largest_rate segments) at (p - at) z (λ x l u. flat x l (omega arith))))
    ∙ sym (sum_joined (largest_rate segments) 1 at p h k)

pub size_on : (sum z : ℤ) (at p : ℕ) → 1 ≤ at → at ≤ p → nat_abs sum ≤ (at - 1) * 10000000000 → nat_abs z ≤ 10000000000
    → nat_abs (sum +ℤ z *ℤ pos (p - at)) ≤ (p - 1) * 10000000000
size_on sum z at p h k s v =
    omega (arith, abs_sum sum (z *ℤ pos (p - at)), abs_mul z (p - at), mul-le-mul_right (p - at) v)

-- no sum over the longest sequence is beyond this
pub upto_small : (segments : List Segment) (at : ℕ) → Each (λ g. Thousandths g.score) segments → at ≤ 4000002 → nat_abs (upto segments at) ≤ 40000010000000000
upto_small segments at scores h =
    let few : at - 1 ≤ 4000001 = omega arith in
    omega (arith, sum_over_size (largest_rate segments) 1 (at - 1) 10000000000 small, mul-le-mul_right 10000000000 few)
  where
    small : (x : ℕ) → nat_abs (largest_rate segments x) ≤ 10000000000
    small x =
        largest_size 10000000000 (map (rate_at x) (keep (enters x x) segments))
        (each_mapped (λ g. Thousandths g.score) (λ z. nat_abs z ≤ 10000000000) (rate_at x) (keep (enters x x) segments) (rate_size x)
        (each_kept (λ g. Thousandths g.score) (enters x x) segments scores))

-- what one sum has more than an earlier one
pub difference : (segments : List Segment) (p q : ℕ) → 1 ≤ p → p ≤ q → upto segments q -ℤ upto segments p ≡ sum_over (largest_rate segments) p (q - p)
difference segments p q h k =
    ap (λ (z : ℤ). z -ℤ upto segments p) (sum_joined (largest_rate segments) 1 p q h k)
    ∙ +ℤ_drop_first (upto segments p) (sum_over (largest_rate segments) p (q - p))
