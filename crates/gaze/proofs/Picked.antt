-- The choice among the sources of one target, and how it is made source by source: a later one with no smaller a total takes the place, so of
-- equals the latest stays. That is the tie rule, read at one candidate.
use mathlib.Core.Path.{◌≡◌, refl, sym, ap, ◌∙◌, subst}
use mathlib.Core.Logic.{⊎_elim}
use mathlib.Core.Bool.{Bool, true, false, not}
use Prim.Native.Nat.{ℕ, suc, ◌≤◌, ◌<◌}
use native.Mathlib.Omega.{arith}
use native.Mathlib.Nat.{eq-or-lt_of_le}
use lib.Dec.{T, T_not}
use lib.IntN.{ℤ, ◌+ℤ◌}
use lib.Signed.{◌≤ℤ◌, ◌<ℤ◌, ≤ℤ_refl}
use Rattle.gaze.specs.Chain.{Steps}
use Rattle.whole.proofs.Order.{≤ℤ_trans, <ℤ_le, <ℤ_ne}
use Rattle.gaze.proofs.Tests.{bool_cases}

-- The choice for the target e among the sources from lo up to, and not with, hi. Where r is false there is none; where it is
-- true, f is the latest of those with the largest total, which is v.
pub record Picked (m : Steps) (reach : ℕ → Bool) (value : ℕ → ℤ) (e lo hi : ℕ) (r : Bool) (v : ℤ) (f : ℕ) : Type 0 where
  pub nothing : T (not r) → (s : ℕ) → lo ≤ s → s < hi → T (m.legal s e) → T (reach s) → ⊥
  pub above : T r → lo ≤ f
  pub below : T r → f < hi
  pub legal : T r → T (m.legal f e)
  pub reached : T r → T (reach f)
  pub worth : T r → value f +ℤ m.gain f e ≡ v
  pub most : T r → (s : ℕ) → lo ≤ s → s < hi → T (m.legal s e) → T (reach s) → (value s +ℤ m.gain s e) ≤ℤ v
  pub latest : T r → (s : ℕ) → lo ≤ s → s < hi → T (m.legal s e) → T (reach s) → value s +ℤ m.gain s e ≡ v → s ≤ f

pub split_last : {P : ℕ → Type 0} {i : ℕ} → ((s : ℕ) → s < i → P s) → P i → (s : ℕ) → s < suc i → P s
split_last {P} {i} f x s h = ⊎_elim (λ e. subst P (sym e) x) (f s) (eq-or-lt_of_le (le_down h))
  where
    le_down : {a b : ℕ} → a < suc b → a ≤ b
    le_down h = omega arith

module _ (m : Steps) (reach : ℕ → Bool) (value : ℕ → ℤ) (e : ℕ) where
  -- of no source: none is chosen
  pub pick_none : (i : ℕ) (v : ℤ) (f : ℕ) → Picked m reach value e i i false v f
  pick_none i v f =
      record {
        nothing = λ n s a b. absurd (go a b);
        above = λ y. absurd y;
        below = λ y. absurd y;
        legal = λ y. absurd y;
        reached = λ y. absurd y;
        worth = λ y. absurd y;
        most = λ y. absurd y;
        latest = λ y. absurd y;
      }
    where
      go : {x : ℕ} → i ≤ x → x < i → ⊥
      go a b = omega arith

  abbrev NoWay : ℕ → Type 0
  NoWay s = T (m.legal s e) → T (reach s) → ⊥

  abbrev NoMore : ℤ → ℕ → Type 0
  NoMore v s = T (m.legal s e) → T (reach s) → (value s +ℤ m.gain s e) ≤ℤ v

  abbrev NoLater : ℤ → ℕ → ℕ → Type 0
  NoLater v f s = T (m.legal s e) → T (reach s) → value s +ℤ m.gain s e ≡ v → s ≤ f

  module _ {lo i : ℕ} {r : Bool} {v : ℤ} {f : ℕ} (p : Picked m reach value e lo i r v f) where
    less : T r → f < suc i
    less y = let h = p.below y in omega arith

    -- the source i is no source of e
    pub pick_skip : (T (m.legal i e) → T (reach i) → ⊥) → Picked m reach value e lo (suc i) r v f
    pick_skip no_way =
        record {
          nothing = λ n s a lt. split_last {P = λ s. lo ≤ s → NoWay s} (λ s l a. p.nothing n s a l) (λ a. no_way) s lt a;
          above = p.above;
          below = less;
          legal = p.legal;
          reached = p.reached;
          worth = p.worth;
          most = λ y s a lt. split_last {P = λ s. lo ≤ s → NoMore v s} (λ s l a. p.most y s a l) (λ a x z. absurd (no_way x z)) s lt a;
          latest = λ y s a lt. split_last {P = λ s. lo ≤ s → NoLater v f s} (λ s l a. p.latest y s a l) (λ a x z. absurd (no_way x z)) s lt a;
        }

    -- it gives less
    pub pick_keep : T r → (value i +ℤ m.gain i e) <ℤ v → Picked m reach value e lo (suc i) r v f
    pick_keep yes_r h =
        record {
          nothing = λ n. absurd (T_not r n yes_r);
          above = p.above;
          below = less;
          legal = p.legal;
          reached = p.reached;
          worth = p.worth;
          most = λ y s a lt. split_last {P = λ s. lo ≤ s → NoMore v s} (λ s l a. p.most y s a l) (λ a x z. <ℤ_le h) s lt a;
          latest = λ y s a lt. split_last {P = λ s. lo ≤ s → NoLater v f s} (λ s l a. p.latest y s a l) (λ a x z same. absurd (<ℤ_ne h same)) s lt a;
        }

    -- it gives as much or more, or is the first
    pub pick_take : lo ≤ i → (T r → v ≤ℤ (value i +ℤ m.gain i e)) → T (m.legal i e) → T (reach i)
        → Picked m reach value e lo (suc i) true (value i +ℤ m.gain i e) i
    pick_take up h ok got =
        record {
          nothing = λ n. absurd n;
          above = λ y. up;
          below = λ y. omega arith;
          legal = λ y. ok;
          reached = λ y. got;
          worth = λ y. refl;
          most = λ y s a lt. split_last {P = λ s. lo ≤ s → NoMore (value i +ℤ m.gain i e) s} earlier (λ a x z. ≤ℤ_refl _) s lt a;
          latest = λ y s a lt x z same. omega arith;
        }
      where
        earlier : (s : ℕ) → s < i → lo ≤ s → NoMore (value i +ℤ m.gain i e) s
        earlier s lt a x z = ⊎_elim (λ y. ≤ℤ_trans (p.most y s a lt x z) (h y)) (λ n. absurd (p.nothing n s a lt x z)) (bool_cases r)

-- a choice among sources is one for any steps that agree on them
pub picked_same : (m m' : Steps) (reach : ℕ → Bool) (value : ℕ → ℤ) {e hi : ℕ} {r : Bool} {v : ℤ} {f : ℕ}
    → ((s : ℕ) → s < hi → m.legal s e ≡ m'.legal s e) → ((s : ℕ) → s < hi → T (m.legal s e) → m.gain s e ≡ m'.gain s e)
    → Picked m reach value e 0 hi r v f → Picked m' reach value e 0 hi r v f
picked_same m m' reach value {e} {hi} {r} {v} {f} legals gains p =
    record {
      nothing = λ n s a lt x z. p.nothing n s a lt (old s lt x) z;
      above = p.above;
      below = p.below;
      legal = λ y. subst T (legals f (p.below y)) (p.legal y);
      reached = p.reached;
      worth = λ y. ap (λ (z : ℤ). value f +ℤ z) (sym (gains f (p.below y) (p.legal y))) ∙ p.worth y;
      most = λ y s a lt x z. subst (λ (g : ℤ). (value s +ℤ g) ≤ℤ v) (gains s lt (old s lt x)) (p.most y s a lt (old s lt x) z);
      latest = λ y s a lt x z same. p.latest y s a lt (old s lt x) z (ap (λ (g : ℤ). value s +ℤ g) (gains s lt (old s lt x)) ∙ same);
    }
  where
    old : (s : ℕ) → s < hi → T (m'.legal s e) → T (m.legal s e)
    old s lt x = subst T (sym (legals s lt)) x
