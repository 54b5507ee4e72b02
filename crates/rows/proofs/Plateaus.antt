-- Method 2: the largest rate stays the same up to the next edge of a row, so that a sum of largest rates is a sum of products; and these fit the machine.
use mathlib.Core.Path.{◌≡◌, refl, sym, ap, ap₂, ◌∙◌}
use mathlib.Core.Bool.{Bool, cond}
use mathlib.Core.List.{List, [], ◌∷◌, ◌++◌, map, map-append}
use Prim.Native.Nat.{ℕ, ◌+◌, ◌-◌, ◌*◌, ◌≤◌, ◌<◌, min}
use native.Mathlib.Omega.{arith}
use Rattle.std.specs.Prelude.{Option, None, Some, unwrap_or}
use Rattle.std.proofs.lemmas.List.{take_more}
use lib.IntN.{ℤ, pos, nat_abs, ◌+ℤ◌, ◌*ℤ◌}
use lib.ListN.{length, get_or, take}
use Rattle.whole.proofs.Size.{abs_sum, abs_mul_le}
use Rattle.gaze.specs.declared.Segment.{Segment}
use Rattle.gaze.specs.Lists.{Each}
use Rattle.gaze.specs.Ranges.{Thousandths}
use Rattle.gaze.specs.SegmentScore.{enters, holds, rate, rate_at, largest, largest_rate, sum_over}
use Rattle.gaze.proofs.Bounds.{rate_size, largest_size}
use Rattle.gaze.proofs.ListLaws.{each_append, keep_all}
use Rattle.rows.specs.Maximum.{larger_with}
use Rattle.rows.specs.Peaks.{Edge, Flat}
use Rattle.rows.proofs.Bases.{sum_joined, sum_flat}
use Rattle.rows.proofs.Maxima.{maximum_of, one_more, largest_is}

-- ---- sizes
abbrev Small : ℤ → Type 0
Small z = nat_abs z ≤ 10000000000

pub largest_rate_of : (l : List Segment) (x : ℕ) → largest_rate l x ≡ largest (map (rate_at x) l)
largest_rate_of l x = ap (λ (m : List Segment). largest (map (rate_at x) m)) (keep_all (enters x x) l (λ g. refl))

-- ---- what is known of the rows that were looked at
pub record Looked (x to : ℕ) (l : List Segment) (maximum : Option ℤ) (next : ℕ) : Type 0 where
  pub is : maximum ≡ maximum_of (rate_at x) l
  pub small : Each Small (map (rate_at x) l)
  pub after : x < next
  pub within : next ≤ to
  pub same : (y : ℕ) → x ≤ y → y < next → map (rate_at y) l ≡ map (rate_at x) l

pub look_none : (x to : ℕ) → x < to → Looked x to [] None to
unfolding Each
look_none x to h = record { is = refl; small = tt; after = h; within = omega arith; same = λ y l u. refl }

-- one row more
module _ (x to : ℕ) (l : List Segment) (i : ℕ) (g : Segment) (h : i < length l) (is : g ≡ get_or l i g) where
  rates_more : (y : ℕ) → map (rate_at y) (take (i + 1) l) ≡ map (rate_at y) (take i l) ++ (rate_at y g ∷ [])
  rates_more y = rw (take_more l i g h, ← is) (map-append (rate_at y) (take i l) (g ∷ []))

  pub look_more : {maximum maximum' : Option ℤ} {next edge next' : ℕ} → Looked x to (take i l) maximum next → Thousandths g.score → Edge g x edge
      → maximum' ≡ Some (larger_with maximum (rate_at x g)) → next' ≡ min next edge → Looked x to (take (i + 1) l) maximum' next'
  unfolding Each
  look_more k r e m n =
      record {
        is = m ∙ (ap (λ (o : Option ℤ). Some (larger_with o (rate_at x g))) k.is ∙ sym (one_more (rate_at x) l i g h is));
        small = rw (rates_more x) (each_append Small _ _ k.small (rate_size x g r, tt));
        after = omega (arith, n, k.after, e.after);
        within = omega (arith, n, k.within);
        same = λ y a b.
            let held : holds y g ≡ holds x g = e.same y a (omega (arith, n)) in
            rates_more y
            ∙ (ap₂ (λ (zs : List ℤ) (t : Bool). zs ++ (cond t (rate g) (pos 0) ∷ [])) (k.same y a (omega (arith, n))) held
            ∙ sym (rates_more x));
      }

-- all of them
pub look_all : (x to : ℕ) (l : List Segment) {maximum : Option ℤ} {next : ℕ} → Looked x to l maximum next
    → Flat l x to (unwrap_or maximum (pos 0)) next
look_all x to l k =
    record {
      is = rw k.is (largest_is (rate_at x) x x l);
      after = k.after;
      within = k.within;
      same = λ y a b. largest_rate_of l y ∙ (ap largest (k.same y a b) ∙ sym (largest_rate_of l x));
    }

pub look_small : (x to : ℕ) (l : List Segment) {maximum : Option ℤ} {next : ℕ} → Looked x to l maximum next → Small (unwrap_or maximum (pos 0))
look_small x to l k =
    rw (k.is, largest_is (rate_at x) x x l, largest_rate_of l x) (largest_size 10000000000 (map (rate_at x) l) k.small)

-- ---- the walk from plateau to plateau
pub sum_none : (f : ℕ → ℤ) (a : ℕ) → pos 0 ≡ sum_over f a (a - a)
unfolding sum_over
sum_none f a = let n : a - a ≡ 0 = omega arith in rw n refl

-- a plateau more
pub plateau_more : (l : List Segment) (from at to : ℕ) {value : ℤ} {next : ℕ} → from ≤ at → Flat l at to value next
    → sum_over (largest_rate l) from (next - from) ≡ sum_over (largest_rate l) from (at - from) +ℤ value *ℤ pos (next - at)
plateau_more l from at to {value} {next} h f =
    sum_joined (largest_rate l) from at next h (omega (arith, f.after))
    ∙ ap (λ (z : ℤ). sum_over (largest_rate l) from (at - from) +ℤ z)
    (sum_flat (largest_rate l) at (next - at) value (λ y a b. f.same y a (omega arith) ∙ sym f.is))

pub step_small : (sum value : ℤ) (from at next : ℕ) → from ≤ at → at ≤ next → nat_abs sum ≤ (at - from) * 10000000000 → nat_abs value ≤ 10000000000
    → nat_abs (sum +ℤ value *ℤ pos (next - at)) ≤ (next - from) * 10000000000
step_small sum value from at next h k m n =
    omega (arith, abs_sum sum (value *ℤ pos (next - at)), abs_mul_le value (next - at) 10000000000 (next - at) n (omega arith))
