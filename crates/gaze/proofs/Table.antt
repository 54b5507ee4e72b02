-- The table of a dynamic programme: for each candidate whether a valid chain ends there, the best total of those, and the source that it
-- comes from. `Filled` says of a table only how each entry follows from the earlier ones. The theorem: what is traced back in a filled table
-- is the best chain, and a candidate that is not reached has no valid chain.
use mathlib.Core.Path.{◌≡◌, refl, sym, ap, ◌∙◌, subst}
use mathlib.Core.Logic.{◌⊎◌, inl, inr, ⊎_elim, ⊎_map}
use mathlib.Core.Bool.{Bool, not}
use mathlib.Core.List.{List, [], ◌∷◌, reverse}
use Prim.Native.Nat.{ℕ, zero, suc, ◌≤◌, ◌<◌, zero-le}
use native.Mathlib.Omega.{arith}
use native.Mathlib.Nat.{eq-or-lt_of_le}
use lib.Dec.{T, T_not}
use lib.IntN.{ℤ, pos, ◌+ℤ◌}
use lib.Signed.{◌≤ℤ◌, ≤ℤ_refl}
use Rattle.gaze.specs.Chain.{Steps, Valid, total, Later, there, Best}
use Rattle.whole.proofs.Order.{≤ℤ_antisymm, ≤ℤ_trans, +ℤ_mono_l, +ℤ_cancel_r}
use Rattle.gaze.proofs.Tests.{bool_cases}
use Rattle.gaze.proofs.Picked.{Picked}
use Rattle.gaze.proofs.Back.{Back, begin, step, back_total, LastStep, last_step, BackBest, valid→back, back_best, total_back, back_total_step, later_head}

pub record Table : Type 0 where
  pub reach : ℕ → Bool
  pub value : ℕ → ℤ
  pub from : ℕ → ℕ

-- The entries below k are filled in.
pub record Filled (m : Steps) (t : Table) (k : ℕ) : Type 0 where
  pub start : T (t.reach 0)
  pub zero_value : t.value 0 ≡ pos 0
  pub cells : (e : ℕ) → 0 < e → e < k → Picked m t.reach t.value e 0 e (t.reach e) (t.value e) (t.from e)

-- The list that the sources give from e back to 0.
pub data Traced (from : ℕ → ℕ) : ℕ → List ℕ → Type 0 where
  at_begin : Traced from zero (zero ∷ [])
  came : {e : ℕ} {l : List ℕ} → from e < e → Traced from (from e) l → Traced from e (e ∷ l)

pub record Found (m : Steps) (t : Table) (e : ℕ) : Type 0 where
  pub list : List ℕ
  pub traced : Traced t.from e list
  pub best : BackBest m e list
  pub worth : back_total m list ≡ t.value e

pub record Solved (m : Steps) (t : Table) (e : ℕ) : Type 0 where
  pub empty : T (not (t.reach e)) → (l : List ℕ) → Back m e l → ⊥
  pub found : T (t.reach e) → Found m t e

module _ (m : Steps) (t : Table) where
  -- a chain to a solved candidate: it is reached, and its value is no less
  pub reach_of : {s : ℕ} {k : List ℕ} → Solved m t s → Back m s k → T (t.reach s)
  reach_of {s} {k} h b = ⊎_elim (λ y. y) (λ n. absurd (h.empty n k b)) (bool_cases (t.reach s))

  pub capped : {s : ℕ} {k : List ℕ} → Solved m t s → Back m s k → back_total m k ≤ℤ t.value s
  capped {s} {k} h b =
      let f = h.found (reach_of h b) in
      rw (← f.worth) (f.best.most k b)

  module _ (e : ℕ) (posit : 0 < e) (solved : (s : ℕ) → s < e → Solved m t s) (p : Picked m t.reach t.value e 0 e (t.reach e) (t.value e) (t.from e)) where
    none_here : T (not (t.reach e)) → (l : List ℕ) → Back m e l → ⊥
    none_here n l b =
        let q = last_step posit b in
        p.nothing n q.source zero-le q.rises q.legal (reach_of (solved q.source q.rises) q.back)

    module _ (y : T (t.reach e)) where
      prior : Found m t (t.from e)
      prior = (solved (t.from e) (p.below y)).found (p.reached y)

      chosen : List ℕ
      chosen = e ∷ prior.list

      -- what the chosen chain scores
      chosen_worth : back_total m chosen ≡ t.value e
      unfolding chosen
      chosen_worth =
          back_total_step m e prior.best.back ∙ (ap (λ (z : ℤ). z +ℤ m.gain (t.from e) e) prior.worth ∙ p.worth y)

      -- any chain to e is its last step's offer at the most
      module _ (k : List ℕ) (b : Back m e k) where
        q : LastStep m e k
        q = last_step posit b

        its_total : back_total m k ≡ back_total m q.rest +ℤ m.gain q.source e
        its_total = ap (back_total m) q.is ∙ back_total_step m e q.back

        source_solved : Solved m t q.source
        source_solved = solved q.source q.rises

        to_offer : back_total m k ≤ℤ (t.value q.source +ℤ m.gain q.source e)
        to_offer = rw its_total (+ℤ_mono_l (m.gain q.source e) (capped source_solved q.back))

        offer_most : (t.value q.source +ℤ m.gain q.source e) ≤ℤ t.value e
        offer_most = p.most y q.source zero-le q.rises q.legal (reach_of source_solved q.back)

        most_here : back_total m k ≤ℤ back_total m chosen
        most_here = rw chosen_worth (≤ℤ_trans to_offer offer_most)

        -- a chain with the same total comes from a source with the same total, no later than the chosen one
        module _ (same : back_total m k ≡ back_total m chosen) where
          full : t.value q.source +ℤ m.gain q.source e ≡ t.value e
          full = ≤ℤ_antisymm offer_most (subst (λ (z : ℤ). z ≤ℤ (t.value q.source +ℤ m.gain q.source e)) (same ∙ chosen_worth) to_offer)

          rest_full : back_total m q.rest ≡ t.value q.source
          rest_full = +ℤ_cancel_r (m.gain q.source e) (sym its_total ∙ (same ∙ (chosen_worth ∙ sym full)))

          no_later : q.source ≤ t.from e
          no_later = p.latest y q.source zero-le q.rises q.legal (reach_of source_solved q.back) full

          tie_same : q.source ≡ t.from e → (k ≡ chosen) ⊎ Later chosen k
          unfolding chosen
          tie_same h =
              ⊎_map
              (λ (w : q.rest ≡ prior.list). q.is ∙ ap (λ (l : List ℕ). e ∷ l) w)
              (λ (w : Later prior.list q.rest). subst (λ (l : List ℕ). Later (e ∷ prior.list) l) (sym q.is) (there w))
              (prior.best.latest q.rest (subst (λ (s : ℕ). Back m s q.rest) h q.back) (rest_full ∙ (ap t.value h ∙ sym prior.worth)))

          tie_less : q.source < t.from e → (k ≡ chosen) ⊎ Later chosen k
          unfolding chosen
          tie_less h =
              inr (subst (λ (l : List ℕ). Later (e ∷ prior.list) l) (sym q.is) (there (later_head m h q.back prior.best.back)))

          latest_here : (k ≡ chosen) ⊎ Later chosen k
          latest_here = ⊎_elim tie_same tie_less (eq-or-lt_of_le no_later)

      found_here : Found m t e
      unfolding chosen
      found_here =
          record {
            list = chosen;
            traced = came (p.below y) prior.traced;
            best = record { back = step (p.below y) (p.legal y) prior.best.back; most = most_here; latest = latest_here };
            worth = chosen_worth;
          }

    pub solve_one : Solved m t e
    solve_one = record { empty = none_here; found = found_here }

  -- candidate 0 has one chain
  zero_only : {x : ℕ} {l : List ℕ} → x ≡ 0 → Back m x l → l ≡ zero ∷ []
  zero_only h begin = refl
  zero_only h (step lt ok b) = absurd (go h lt)
    where
      go : {x s : ℕ} → x ≡ 0 → s < x → ⊥
      go h lt = omega arith

  module _ (k : ℕ) (f : Filled m t k) where
    solve_zero : Solved m t zero
    unfolding back_total
    solve_zero =
        record {
          empty = λ n. absurd (T_not (t.reach 0) n f.start);
          found = λ y. record {
            list = zero ∷ [];
            traced = at_begin;
            best = record {
              back = begin;
              most = λ l b. rw (zero_only refl b) (≤ℤ_refl (pos 0));
              latest = λ l b same. inl (zero_only refl b);
            };
            worth = sym f.zero_value;
          };
        }

    below : (n e : ℕ) → e < n → e < k → Solved m t e
    below zero e h lt = absurd (go h)
      where
        go : {x : ℕ} → x < 0 → ⊥
        go h = omega arith
    below (suc n) zero h lt = solve_zero
    below (suc n) (suc e) h lt =
        solve_one (suc e) (omega arith) (λ s less. below n s (omega arith) (omega arith)) (f.cells (suc e) (omega arith) lt)

    pub solved : (e : ℕ) → e < k → Solved m t e
    solved e lt = below (suc e) e (omega arith) lt

-- ---- what the sources say, as a list

-- from e back to 0; d bounds the number of steps
unfoldable pub trace_back : (ℕ → ℕ) → ℕ → ℕ → List ℕ
trace_back from zero e = e ∷ []
trace_back from (suc d) zero = zero ∷ []
trace_back from (suc d) (suc e) = suc e ∷ trace_back from d (from (suc e))

pub traced_is : {from : ℕ → ℕ} {e : ℕ} {l : List ℕ} (d : ℕ) → e ≤ d → Traced from e l → trace_back from d e ≡ l
unfolding trace_back
traced_is zero h at_begin = refl
traced_is (suc d) h at_begin = refl
traced_is {from} zero h (came {e = e} lt r) = absurd (go h lt)
  where
    go : {x y : ℕ} → x ≤ 0 → y < x → ⊥
    go h lt = omega arith
traced_is {from} (suc d) h (came {e = zero} lt r) = absurd (go lt)
  where
    go : {y : ℕ} → y < 0 → ⊥
    go lt = omega arith
traced_is {from} (suc d) h (came {e = suc e} lt r) = ap (λ (l : List ℕ). suc e ∷ l) (traced_is d (omega arith) r)

-- THE THEOREM, in the specification's words
module _ (m : Steps) (t : Table) (k : ℕ) (f : Filled m t k) (e : ℕ) (lt : e < k) where
  pub filled_none : T (not (t.reach e)) → (c : List ℕ) → Valid m e c → ⊥
  filled_none n c v = (solved m t k f e lt).empty n (reverse c) (valid→back m e c v)

  pub filled_best : T (t.reach e) → Best m e (reverse (trace_back t.from e e))
  filled_best y =
      let g = (solved m t k f e lt).found y in
      rw (traced_is e (omega arith) g.traced) (back_best m e g.list g.best)

  pub filled_total : T (t.reach e) → total m (reverse (trace_back t.from e e)) ≡ t.value e
  filled_total y =
      let g = (solved m t k f e lt).found y in
      rw (traced_is e (omega arith) g.traced) (total_back m g.list ∙ g.worth)

-- ---- a table that grows
pub record Agree (t t' : Table) (k : ℕ) : Type 0 where
  pub reach : (s : ℕ) → s < k → t.reach s ≡ t'.reach s
  pub value : (s : ℕ) → s < k → t.value s ≡ t'.value s
  pub from : (s : ℕ) → s < k → t.from s ≡ t'.from s

module _ (m : Steps) (t t' : Table) (k : ℕ) (g : Agree t t' k) where
  pub picked_frame : {e lo i : ℕ} {r : Bool} {v : ℤ} {f : ℕ} → i ≤ k → Picked m t.reach t.value e lo i r v f
      → Picked m t'.reach t'.value e lo i r v f
  picked_frame {e} {lo} {i} {r} {v} {f} h p =
      record {
        nothing = λ n s up lt a b. p.nothing n s up lt a (back_reach s lt b);
        above = p.above;
        below = p.below;
        legal = p.legal;
        reached = λ y. let lt = p.below y in rw (g.reach f (omega arith)) at (p.reached y);
        worth = λ y. let lt = p.below y in rw (g.value f (omega arith)) at (p.worth y);
        most = λ y s up lt a b. rw (g.value s (omega arith)) at (p.most y s up lt a (back_reach s lt b));
        latest = λ y s up lt a b same. p.latest y s up lt a (back_reach s lt b) (rw (g.value s (omega arith)) same);
      }
    where
      back_reach : (s : ℕ) → s < i → T (t'.reach s) → T (t.reach s)
      back_reach s lt b = rw (g.reach s (omega arith)) b

  -- one entry more
  pub filled_more : 0 < k → Filled m t k → Picked m t.reach t.value k 0 k (t'.reach k) (t'.value k) (t'.from k) → Filled m t' (suc k)
  filled_more h f p =
      record {
        start = rw (g.reach 0 h) at f.start;
        zero_value = sym (g.value 0 h) ∙ f.zero_value;
        cells = λ e up lt. ⊎_elim (at_k e) (before e up) (eq-or-lt_of_le (le_down lt));
      }
    where
      le_down : {a b : ℕ} → a < suc b → a ≤ b
      le_down h = omega arith

      at_k : (e : ℕ) → e ≡ k → Picked m t'.reach t'.value e 0 e (t'.reach e) (t'.value e) (t'.from e)
      at_k e is = subst (λ (e : ℕ). Picked m t'.reach t'.value e 0 e (t'.reach e) (t'.value e) (t'.from e)) (sym is) (picked_frame (omega arith) p)

      before : (e : ℕ) → 0 < e → e < k → Picked m t'.reach t'.value e 0 e (t'.reach e) (t'.value e) (t'.from e)
      before e up lt =
          rw (← g.reach e lt, ← g.value e lt, ← g.from e lt) (picked_frame (omega arith) (f.cells e up lt))
