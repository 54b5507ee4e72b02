-- How the table is filled: one sum after another, and one row after another.
use Rattle.std.proofs.Common.{◌≡◌, refl, ◌∙◌, arith, below_more, eqb, get_or-set_same, get_or-set_other}
use Rattle.std.specs.Prelude.{Bool, true, false, List, [], ℕ, ◌+◌, ◌≤◌, ◌<◌, nat_abs, length, get_or, set}
use borrow.Author.Tests.{eqb-true, eqb-false}
use Rattle.gaze.specs.declared.Feature.{Feature}
use Rattle.gaze.specs.declared.Segment.{Segment}
use Rattle.sums.specs.declared.Sum.{Sum}
use Rattle.sums.specs.Table.{nothing, upto, Kept}

-- the entry at i was set, and those before it were filled
pub set_more : {A : Type 0} (P : ℕ → A → Type 0) (d : A) (l : List A) (i : ℕ) (v : A) → i < length l → P i v → ((j : ℕ) → j < i → P j (get_or l j d))
    → (j : ℕ) → j < i + 1 → P j (get_or (set l i v) j d)
set_more P d l i v h here earlier =
    below_more (λ j. P j (get_or (set l i v) j d)) i
    (λ j k. rw (get_or-set_other l i j v d (λ e. omega arith)) (earlier j k))
    (rw (get_or-set_same l i v d h) here)

-- the entry at i was set, and something holds of all
set_all : {A : Type 0} (P : ℕ → A → Type 0) (d : A) (l : List A) (i : ℕ) (v : A) → i < length l → P i v → ((j : ℕ) → P j (get_or l j d))
    → (j : ℕ) → P j (get_or (set l i v) j d)
set_all P d l i v h here all j = go (eqb j i) refl
  where
    go : (b : Bool) → eqb j i ≡ b → P j (get_or (set l i v) j d)
    go true e = rw (eqb-true j i e, get_or-set_same l i v d h) here
    go false e = rw (get_or-set_other l i j v d (eqb-false j i e)) (all j)

-- the row of a slot that is summed up was filled
pub kept_more : {summed : List Bool} {candidates : List Feature} {table₀ table : List (List Sum)} (slot : ℕ) (row : List Sum) → get_or summed slot false ≡ true
    → slot < length table → ((i : ℕ) → length candidates ≤ i → get_or row i nothing ≡ get_or (get_or table slot []) i nothing)
    → Kept summed candidates table₀ table → Kept summed candidates table₀ (set table slot row)
kept_more {table₀ = table₀} {table} slot row on h same k =
    record {
      unflagged = λ j off. get_or-set_other table slot j row [] (λ e. cc) ∙ k.unflagged j off;
      beyond = λ j i u.
          set_all (λ j row. get_or row i nothing ≡ get_or (get_or table₀ j []) i nothing) [] table slot row h (same i u ∙ k.beyond slot i u) (λ j. k.beyond j i u) j;
    }

-- the sums of one candidate
pub record Summed (segments : List Segment) (at : ℕ) (sum : Sum) : Type 0 where
  pub before : sum.before ≡ upto segments at
  pub along : sum.along ≡ upto segments (at + 1)
  pub before_small : nat_abs sum.before ≤ 40000010000000000
  pub along_small : nat_abs sum.along ≤ 40000010000000000
