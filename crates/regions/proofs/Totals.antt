-- What the first of some Q lines are worth together, one more: a line that is worth at most 40,000,000,000,000 in size.
use mathlib.Core.Path.{◌≡◌, sym, ap, ap₂, ◌∙◌}
use mathlib.Core.List.{List, [], ◌∷◌, map, map-append}
use Prim.Native.Nat.{ℕ, ◌+◌, ◌*◌, ◌≤◌, ◌<◌}
use native.Mathlib.Omega.{arith}
use lib.IntN.{ℤ, nat_abs, ◌+ℤ◌}
use lib.ListN.{length, get_or, take}
use Rattle.std.proofs.lemmas.List.{take_more}
use Rattle.whole.specs.Whole.{sum_of}
use mir.Syntax.{w64}
use mir.Val.{SFits}
use Rattle.whole.proofs.Bits.{small_fits}
use Rattle.whole.proofs.Size.{abs_sum}
use Rattle.whole.proofs.Sums.{sum_snoc}
use Rattle.gaze.specs.declared.Qualifier.{Qualifier}

total_more : (f : Qualifier → ℤ) (lines : List Qualifier) (k : ℕ) (d : Qualifier) → k < length lines
    → sum_of (map f (take (k + 1) lines)) ≡ sum_of (map f (take k lines)) +ℤ f (get_or lines k d)
total_more f lines k d h =
    ap (λ (l : List Qualifier). sum_of (map f l)) (take_more lines k d h)
    ∙ (ap sum_of (map-append f (take k lines) (get_or lines k d ∷ [])) ∙ sum_snoc (map f (take k lines)) (f (get_or lines k d)))

module _ (f : Qualifier → ℤ) (lines : List Qualifier) (k : ℕ) (d : Qualifier) (here : k < length lines) (sum : ℤ) {score : ℤ}
    (size : nat_abs sum ≤ k * 40000000000000) (is : score ≡ f (get_or lines k d)) (small : nat_abs (f (get_or lines k d)) ≤ 40000000000000) where
  score_small : nat_abs score ≤ 40000000000000
  score_small = rw is small

  pub sum_fits : length lines ≤ 256 → SFits w64 (sum +ℤ score)
  sum_fits few = small_fits (sum +ℤ score) 10280000000000000 (omega (arith, abs_sum sum score, score_small)) (omega arith)

  pub sum_more : {new : ℤ} → new ≡ sum +ℤ score → sum ≡ sum_of (map f (take k lines)) → (new ≡ sum_of (map f (take (k + 1) lines))) × (nat_abs new ≤ (k + 1) * 40000000000000)
  sum_more e w = (
    e ∙ (ap₂ ◌+ℤ◌ w is ∙ sym (total_more f lines k d here)),
    rw e (omega (arith, abs_sum sum score, score_small)),
  )
