-- What a chain is, when it is valid, what it scores, which one is best, and what is said of one that is sent in. Nothing here says how one
-- is looked for, nor where the steps come from. Candidates are numbers: BEGIN is 0, and END is the number e.
use Rattle.std.specs.Prelude.{◌≡◌, ◌⊎◌, Bool, not, List, [], ◌∷◌, reverse, ℕ, ◌<◌, ◌-◌, T, ℤ, pos, ◌+ℤ◌, length, get_or, ◌≤ℤ◌, Option, Some, None, Result, Ok, Err}
use Rattle.gaze.specs.Lists.{Adjacent}
use Rattle.gaze.specs.declared.Fault.{Fault}
use Rattle.gaze.specs.declared.Fault.TheVariants.{NoChain, BadStep}

-- A model says of a source and a target whether the step from one to the other is legal, and what it gains.
pub record Steps : Type 0 where
  pub legal : ℕ → ℕ → Bool
  pub gain : ℕ → ℕ → ℤ

-- The first and the last number of a list; an empty list has none.
unfoldable pub first : List ℕ → Option ℕ
first [] = None
first (a ∷ l) = Some a

unfoldable pub last : List ℕ → Option ℕ
last [] = None
last (a ∷ []) = Some a
last (a ∷ b ∷ l) = last (b ∷ l)

-- A chain is a list of rising candidate numbers that starts at 0 and ends at e.
pub record Chain (e : ℕ) (c : List ℕ) : Type 0 where
  pub starts : first c ≡ Some 0
  pub ends : last c ≡ Some e
  pub rises : Adjacent (λ a b. a < b) c

-- A chain is valid if every adjacent pair is a legal step.
pub record Valid (m : Steps) (e : ℕ) (c : List ℕ) : Type 0 where
  pub chain : Chain e c
  pub legal : Adjacent (λ s t. T (m.legal s t)) c

-- The score of a chain: the sum of the gains of its steps.
unfoldable pub total : Steps → List ℕ → ℤ
total m [] = pos 0
total m (a ∷ []) = pos 0
total m (s ∷ t ∷ l) = m.gain s t +ℤ total m (t ∷ l)

-- `Later x y`: x and y differ, and at the first place where they do, x has the later candidate.
pub data Later : List ℕ → List ℕ → Type 0 where
  here : {a b : ℕ} {x y : List ℕ} → b < a → Later (a ∷ x) (b ∷ y)
  there : {a : ℕ} {x y : List ℕ} → Later x y → Later (a ∷ x) (a ∷ y)

-- The best chain: valid; no valid chain scores more; and any other valid chain with the same score, read back from END, has the earlier
-- candidate at the first difference.
pub record Best (m : Steps) (e : ℕ) (c : List ℕ) : Type 0 where
  pub valid : Valid m e c
  pub most : (d : List ℕ) → Valid m e d → total m d ≤ℤ total m c
  pub latest : (d : List ℕ) → Valid m e d → total m d ≡ total m c → (d ≡ c) ⊎ Later (reverse c) (reverse d)

-- What assembling answers: the best chain, or none exactly where no valid chain exists.
abbrev pub Assembled : Steps → ℕ → Option (List ℕ) → Type 0
Assembled m e None = (c : List ℕ) → Valid m e c → ⊥
Assembled m e (Some c) = Best m e c

-- Step k of a list, from 1, goes from its entry k - 1 to its entry k.
abbrev pub legal_step : Steps → List ℕ → ℕ → Bool
legal_step m c k = m.legal (get_or c (k - 1) 0) (get_or c k 0)

-- The first step that breaks the model.
pub record FirstBad (m : Steps) (c : List ℕ) (k : ℕ) : Type 0 where
  pub from_one : 0 < k
  pub within : k < length c
  pub bad : T (not (legal_step m c k))
  pub before : (i : ℕ) → 0 < i → i < k → T (legal_step m c i)

-- What is said of a list that is sent in as a chain: its score, or why it has none.
abbrev pub Judged : Steps → ℕ → List ℕ → Result ℤ Fault → Type 0
Judged m e c (Ok z) = Valid m e c × (z ≡ total m c)
Judged m e c (Err NoChain) = Chain e c → ⊥
Judged m e c (Err (BadStep k)) = Chain e c × FirstBad m c k
