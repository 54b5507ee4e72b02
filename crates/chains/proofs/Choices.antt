-- A look at one source takes the choice among the earlier ones to the choice with that one among them.
use Rattle.std.proofs.Common.{◌≡◌, ℕ, suc, ◌+◌, ◌^◌, ◌≤◌, List, length, get_or, refl, add-one, arith, Option, Some, None}
use Prim.Native.Nat.{zero-le}
use Rattle.std.specs.Prelude.{Bool, true, false, cond, T, ℤ, ◌+ℤ◌, ◌≤ℤ◌, nat_abs}
use Rattle.std.specs.Int.Signed.{lt_z}
use lib.Signed.{lt_z_yes, lt_z_no}
use mir.Syntax.{w64}
use mir.Val.{SFits, to_z, of_z}
use Rattle.whole.proofs.Size.{abs_sum}
use Rattle.whole.proofs.Bits.{small_fits, small_back}
use Rattle.gaze.proofs.Picked.{pick_skip, pick_keep, pick_take}
use Rattle.chains.specs.declared.Reached.{Reached}
use Rattle.chains.specs.Tables.{is_reached, total_of, table}
use Rattle.chains.specs.Within.{row_steps, considered, better, Chosen}

-- two read-back numbers that are small have a sum that fits
pub sum_fits : (a b : ℤ) → nat_abs a ≤ 2 ^ 61 → nat_abs b ≤ 2 ^ 61 → SFits w64 (to_z w64 (of_z w64 a) +ℤ to_z w64 (of_z w64 b))
sum_fits a b x y =
    rw (small_back a (2 ^ 61) x (omega arith), small_back b (2 ^ 61) y (omega arith)) (small_fits (a +ℤ b) (2 ^ 62) (omega (arith, abs_sum a b)) (omega arith))

module _ (steps : List (Option ℤ)) (entries : List (Option Reached)) (i : ℕ) where
  abbrev After : Option Reached → Type 0
  After choice = Chosen steps entries (suc i) choice

  module _ {gain : ℤ} {reached : Reached} (g : get_or steps i None ≡ Some gain) (r : get_or entries i None ≡ Some reached) where
    offer : Reached
    offer = record { total = reached.total +ℤ gain; source = i }

    taken : (choice : Option Reached) → Chosen steps entries i choice → (T (is_reached choice) → total_of choice ≤ℤ (reached.total +ℤ gain)) → After (Some offer)
    unfolding offer
    taken choice p more =
        rw (g, r) at
        (pick_take (row_steps steps) (table entries).reach (table entries).value (length entries) p zero-le (λ y. rw (g, r) (more y)) (rw g tt) (rw r tt))

    compared : (best : Reached) → Chosen steps entries i (Some best) → (b : Bool) → lt_z (reached.total +ℤ gain) best.total ≡ b → After (cond b (Some best) (Some offer))
    compared best p true less =
        pick_keep (row_steps steps) (table entries).reach (table entries).value (length entries) p tt (rw (g, r) (lt_z_yes (rw less tt)))
    compared best p false less = taken (Some best) p (λ y. lt_z_no (rw less tt))

    offered : (choice : Option Reached) → Chosen steps entries i choice → After (better choice offer)
    unfolding offer
    offered None p = taken None p (λ y. absurd y)
    offered (Some best) p = compared best p (lt_z (reached.total +ℤ gain) best.total) refl

  looked : (step : Option ℤ) (entry choice : Option Reached) → get_or steps i None ≡ step → get_or entries i None ≡ entry
      → Chosen steps entries i choice → After (considered step entry i choice)
  unfolding offer
  looked None entry choice g r p = pick_skip (row_steps steps) (table entries).reach (table entries).value (length entries) p (λ x y. rw g at x)
  looked (Some gain) None choice g r p = pick_skip (row_steps steps) (table entries).reach (table entries).value (length entries) p (λ x y. rw r at y)
  looked (Some gain) (Some reached) choice g r p = offered g r choice p

  pub chosen_more : (choice : Option Reached) → Chosen steps entries i choice
      → Chosen steps entries (i + 1) (considered (get_or steps i None) (get_or entries i None) i choice)
  chosen_more choice p = rw add-one (looked (get_or steps i None) (get_or entries i None) choice refl refl p)
