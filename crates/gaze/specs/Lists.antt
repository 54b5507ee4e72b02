-- Lists: what holds of each entry, or of each entry and the next, the entries that pass a test, and the list that a function gives.
use Rattle.std.specs.Prelude.{Bool, cond, ◌||◌, false, List, [], ◌∷◌, ◌++◌, ℕ, zero, suc, ◌+◌, Option, None, Some}

unfoldable pub Each : {A : Type 0} → (A → Type 0) → List A → Type 0
Each P [] = Unit {0}
Each P (a ∷ l) = P a × Each P l

-- Each entry and the one right after it are related by R.
unfoldable pub Adjacent : {A : Type 0} → (A → A → Type 0) → List A → Type 0
Adjacent R [] = Unit {0}
Adjacent R (a ∷ []) = Unit {0}
Adjacent R (a ∷ b ∷ l) = R a b × Adjacent R (b ∷ l)

unfoldable pub keep : {A : Type 0} → (A → Bool) → List A → List A
keep p [] = []
keep p (a ∷ l) = cond (p a) (a ∷ keep p l) (keep p l)

-- The first entry that passes, if there is one.
unfoldable pub first_of : {A : Type 0} → (A → Bool) → List A → Option A
first_of p [] = None
first_of p (a ∷ l) = cond (p a) (Some a) (first_of p l)

-- Whether there is one.
unfoldable pub some_of : {A : Type 0} → (A → Bool) → List A → Bool
some_of p [] = false
some_of p (a ∷ l) = p a || some_of p l

-- f lo, f (lo + 1), .., n of them.
unfoldable pub listed : {A : Type 0} → (ℕ → A) → ℕ → ℕ → List A
listed f lo zero = []
listed f lo (suc n) = listed f lo n ++ (f (lo + n) ∷ [])
