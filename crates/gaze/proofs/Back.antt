-- A valid chain read back from its end, one candidate at a time, and the best of these.
use mathlib.Core.Path.{◌≡◌, refl, sym, ap, ◌∙◌, subst}
use mathlib.Core.Logic.{◌⊎◌, ⊎_map}
use Rattle.std.specs.Prelude.{None, Some}
use mathlib.Core.List.{List, [], ◌∷◌, reverse, reverse_aux, reverse-reverse}
use Prim.Native.Nat.{ℕ, zero, ◌<◌}
use native.Mathlib.Omega.{arith}
use lib.Dec.{T}
use lib.IntN.{ℤ, pos, ◌+ℤ◌, +ℤ_assoc, +ℤ_idl, +ℤ_idr}
use lib.Signed.{◌≤ℤ◌}
use Rattle.gaze.specs.Lists.{Adjacent}
use Rattle.gaze.specs.Chain.{Steps, first, last, Valid, total, Later, here, Best}

-- `Back m e l`: l is a valid chain that ends at e, written from e back to 0.
pub data Back (m : Steps) : ℕ → List ℕ → Type 0 where
  begin : Back m zero (zero ∷ [])
  step : {s e : ℕ} {l : List ℕ} → s < e → T (m.legal s e) → Back m s l → Back m e (e ∷ l)

unfoldable pub back_total : Steps → List ℕ → ℤ
back_total m [] = pos 0
back_total m (a ∷ []) = pos 0
back_total m (t ∷ s ∷ l) = back_total m (s ∷ l) +ℤ m.gain s t

pub record BackBest (m : Steps) (e : ℕ) (l : List ℕ) : Type 0 where
  pub back : Back m e l
  pub most : (k : List ℕ) → Back m e k → back_total m k ≤ℤ back_total m l
  pub latest : (k : List ℕ) → Back m e k → back_total m k ≡ back_total m l → (k ≡ l) ⊎ Later l k

module _ (m : Steps) where
  -- ---- a chain, read back
  unroll : (e s : ℕ) (acc c : List ℕ) → Back m s (s ∷ acc) → last (s ∷ c) ≡ Some e → Adjacent (λ a b. a < b) (s ∷ c)
      → Adjacent (λ a b. T (m.legal a b)) (s ∷ c) → Back m e (reverse_aux c (s ∷ acc))
  unfolding last Adjacent
  unroll e s acc [] b h r g = subst (λ (x : ℕ). Back m x (s ∷ acc)) (cc) b
  unroll e s acc (t ∷ c) b h r g = unroll e t (s ∷ acc) c (step r.0 g.0 b) h r.1 g.1

  from_zero : (e a : ℕ) (c : List ℕ) → zero ≡ a → last (a ∷ c) ≡ Some e → Adjacent (λ a b. a < b) (a ∷ c)
      → Adjacent (λ a b. T (m.legal a b)) (a ∷ c) → Back m e (reverse_aux c (a ∷ []))
  from_zero e a c z h r g = unroll e a [] c (subst (λ (x : ℕ). Back m x (x ∷ [])) z begin) h r g

  pub valid→back : (e : ℕ) (c : List ℕ) → Valid m e c → Back m e (reverse c)
  unfolding first
  valid→back e [] v =
      let n : None ≡ Some zero = v.chain.starts in
      let z : ◌≡◌ {A = ℕ} 0 1 = cc in
      absurd (zero_one z)
    where
      zero_one : ◌≡◌ {A = ℕ} 0 1 → ⊥
      zero_one z = omega arith
  valid→back e (a ∷ c) v =
      let n : Some a ≡ Some zero = v.chain.starts in
      from_zero e a c (cc) v.chain.ends v.chain.rises v.legal

  -- ---- and back again
  rewind : {s : ℕ} {l : List ℕ} (e : ℕ) (f : List ℕ) → Back m s l → last (s ∷ f) ≡ Some e → Adjacent (λ a b. a < b) (s ∷ f)
      → Adjacent (λ a b. T (m.legal a b)) (s ∷ f) → Valid m e (reverse_aux l f)
  unfolding first last Adjacent
  rewind e f begin h r g =
      record { chain = record { starts = refl; ends = h; rises = r }; legal = g }
  rewind e f (step {e = s} lt ok b) h r g = rewind e (s ∷ f) b h (lt, r) (ok, g)

  pub back→valid : (e : ℕ) (l : List ℕ) → Back m e l → Valid m e (reverse l)
  unfolding last Adjacent
  back→valid e l b = rewind e [] b refl tt tt

  -- ---- the totals agree
  total_rewind : (s : ℕ) (l f : List ℕ) → total m (reverse_aux (s ∷ l) f) ≡ back_total m (s ∷ l) +ℤ total m (s ∷ f)
  unfolding total back_total
  total_rewind s [] f = sym (+ℤ_idl (total m (s ∷ f)))
  total_rewind s (r ∷ l) f =
      total_rewind r l (s ∷ f) ∙ sym (+ℤ_assoc (back_total m (r ∷ l)) (m.gain r s) (total m (s ∷ f)))

  pub total_back : (l : List ℕ) → total m (reverse l) ≡ back_total m l
  unfolding total back_total
  total_back [] = refl
  total_back (s ∷ l) = total_rewind s l [] ∙ +ℤ_idr (back_total m (s ∷ l))

  pub total_chain : (c : List ℕ) → total m c ≡ back_total m (reverse c)
  total_chain c = ap (total m) (sym (reverse-reverse c)) ∙ total_back (reverse c)

  -- ---- so the best chain, read back, is the best of these
  pub back_best : (e : ℕ) (l : List ℕ) → BackBest m e l → Best m e (reverse l)
  back_best e l b =
      record {
        valid = back→valid e l b.back;
        most = λ d v. rw (total_chain d, total_back l) (b.most (reverse d) (valid→back e d v));
        latest = λ d v same.
            let even : back_total m (reverse d) ≡ back_total m l = sym (total_chain d) ∙ (same ∙ total_back l) in
            ⊎_map
            (λ (h : reverse d ≡ l). sym (reverse-reverse d) ∙ ap reverse h)
            (λ (h : Later l (reverse d)). rw reverse-reverse h)
            (b.latest (reverse d) (valid→back e d v) even);
      }

  pub best_back : (e : ℕ) (c : List ℕ) → Best m e c → BackBest m e (reverse c)
  best_back e c b =
      record {
        back = valid→back e c b.valid;
        most = λ k v. rw (← total_back k, ← total_chain c) (b.most (reverse k) (back→valid e k v));
        latest = λ k v same.
            let even : total m (reverse k) ≡ total m c = total_back k ∙ (same ∙ sym (total_chain c)) in
            ⊎_map
            (λ (h : reverse k ≡ c). sym (reverse-reverse k) ∙ ap reverse h)
            (λ (h : Later (reverse c) (reverse (reverse k))). rw reverse-reverse at h)
            (b.latest (reverse k) (back→valid e k v) even);
      }

  -- ---- small facts
  -- what one step more adds
  pub back_total_step : {s : ℕ} {l : List ℕ} (e : ℕ) → Back m s l → back_total m (e ∷ l) ≡ back_total m l +ℤ m.gain s e
  unfolding back_total
  back_total_step e begin = refl
  back_total_step e (step lt ok b) = refl

  -- a later end comes first
  pub later_head : {s f : ℕ} {k l : List ℕ} → s < f → Back m s k → Back m f l → Later l k
  later_head h begin begin = here h
  later_head h begin (step lt ok b) = here h
  later_head h (step lt ok b) begin = here h
  later_head h (step lt ok b) (step lt' ok' b') = here h

-- a chain that does not end at 0 has a last step
pub record LastStep (m : Steps) (e : ℕ) (l : List ℕ) : Type 0 where
  pub source : ℕ
  pub rest : List ℕ
  pub rises : source < e
  pub legal : T (m.legal source e)
  pub back : Back m source rest
  pub is : l ≡ e ∷ rest

pub last_step : {m : Steps} {e : ℕ} {l : List ℕ} → 0 < e → Back m e l → LastStep m e l
last_step h begin = absurd (no_less h)
  where
    no_less : 0 < 0 → ⊥
    no_less h = omega arith
last_step h (step {s = s} {l = l} lt ok b) =
    record { source = s; rest = l; rises = lt; legal = ok; back = b; is = refl }
