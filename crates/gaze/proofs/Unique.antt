-- What is answered is determined: two best chains are equal, so two answers to one sheet are, and so are two verdicts on one chain.
use mathlib.Core.Path.{◌≡◌, refl, sym, ap, ◌∙◌}
use mathlib.Core.Logic.{◌⊎◌, inl, inr, ⊎_elim}
use Rattle.std.specs.Prelude.{Option, None, Some, Result, Ok, Err, ℤ}
use mathlib.Core.List.{List, reverse}
use Prim.Native.Nat.{ℕ, ◌≤◌}
use native.Mathlib.Nat.{le_antisymm}
use native.Mathlib.Omega.{arith}
use lib.Dec.{T_not}
use Rattle.gaze.specs.declared.Fault.{Fault}
use Rattle.gaze.specs.declared.Fault.TheVariants.{NoChain, BadStep}
use Rattle.gaze.specs.Chain.{Steps, Valid, Later, here, there, Best, total, Assembled, legal_step, FirstBad, Judged}
use Rattle.whole.proofs.Order.{≤ℤ_antisymm}
use Rattle.gaze.proofs.Entries.{all_legal}
use Rattle.gaze.proofs.Tests.{at_or_below}

later_apart : {x y u v : List ℕ} → Later x y → Later u v → u ≡ y → v ≡ x → ⊥
later_apart (here {a = a} {b = b} h) (here {a = c} {b = d} k) e f =
    let p : c ≡ b = cc in
    let q : d ≡ a = cc in
    omega arith
later_apart (here {a = a} {b = b} h) (there {a = c} k) e f =
    let p : c ≡ b = cc in
    let q : c ≡ a = cc in
    omega arith
later_apart (there {a = a} h) (here {a = c} {b = d} k) e f =
    let p : c ≡ a = cc in
    let q : d ≡ a = cc in
    omega arith
later_apart (there {x = x} {y = y} h) (there {x = u} {y = v} k) e f =
    let p : u ≡ y = cc in
    let q : v ≡ x = cc in
    later_apart h k p q

later_asym : {x y : List ℕ} → Later x y → Later y x → ⊥
later_asym h k = later_apart h k refl refl

module _ (m : Steps) (e : ℕ) where
  pub best_unique : (c d : List ℕ) → Best m e c → Best m e d → c ≡ d
  best_unique c d p q = go (p.latest d q.valid (sym same)) (q.latest c p.valid same)
    where
      same : total m c ≡ total m d
      same = ≤ℤ_antisymm (q.most c p.valid) (p.most d q.valid)

      go : (d ≡ c) ⊎ Later (reverse c) (reverse d) → (c ≡ d) ⊎ Later (reverse d) (reverse c) → c ≡ d
      go (inl h) k = sym h
      go (inr h) (inl k) = k
      go (inr h) (inr k) = absurd (later_asym h k)

  pub assembled_unique : (a b : Option (List ℕ)) → Assembled m e a → Assembled m e b → a ≡ b
  assembled_unique None None p q = refl
  assembled_unique None (Some d) p q = absurd (p d q.valid)
  assembled_unique (Some c) None p q = absurd (q c p.valid)
  assembled_unique (Some c) (Some d) p q = ap Some (best_unique c d p q)

  -- ---- a list sent in
  module _ (c : List ℕ) where
    no_later : (j k : ℕ) → FirstBad m c j → FirstBad m c k → j ≤ k
    no_later j k p q =
        ⊎_elim (λ h. h) (λ h. absurd (T_not (legal_step m c k) q.bad (p.before k q.from_one h))) (at_or_below j k)

    pub first_bad_unique : (j k : ℕ) → FirstBad m c j → FirstBad m c k → j ≡ k
    first_bad_unique j k p q = le_antisymm (no_later j k p q) (no_later k j q p)

    bad_not_valid : {k : ℕ} → FirstBad m c k → Valid m e c → ⊥
    bad_not_valid {k} b v = T_not (legal_step m c k) b.bad (all_legal m e c v k b.from_one b.within)

    pub judged_unique : (v w : Result ℤ Fault) → Judged m e c v → Judged m e c w → v ≡ w
    judged_unique (Err NoChain) (Err NoChain) p q = refl
    judged_unique (Err NoChain) (Err (BadStep k)) p q = absurd (p q.0)
    judged_unique (Err NoChain) (Ok z) p q = absurd (p q.0.chain)
    judged_unique (Err (BadStep j)) (Err NoChain) p q = absurd (q p.0)
    judged_unique (Err (BadStep j)) (Err (BadStep k)) p q = ap (λ (n : ℕ). Err (BadStep n)) (first_bad_unique j k p.1 q.1)
    judged_unique (Err (BadStep j)) (Ok z) p q = absurd (bad_not_valid p.1 q.0)
    judged_unique (Ok y) (Err NoChain) p q = absurd (q p.0.chain)
    judged_unique (Ok y) (Err (BadStep k)) p q = absurd (bad_not_valid q.1 p.0)
    judged_unique (Ok y) (Ok z) p q = ap Ok (p.1 ∙ sym q.1)
