-- The table of rules by types. Rules in strict order have each a pair of its own: one more that is written overwrites none, and the one that is
-- found at a pair is the first of it.
use Rattle.std.proofs.Common.{◌≡◌, ℕ, zero, suc, ◌+◌, ◌<◌, ◌≤◌, List, [], ◌∷◌, Bool, true, false, Option, Some, None, length, get_or, set, replicate, refl, sym, subst, ◌∙◌, arith, inl, inr, ⊎_elim}
use Rattle.std.proofs.Math.Dec.{eqb}
use native.Mathlib.Nat.{eq-or-lt_of_le}
use borrow.Author.Tests.{eq-eqb, ne_eqb, eqb-true, eqb-false}
use Rattle.std.specs.List.{slice_get}
use Rattle.std.proofs.lemmas.List.{get_or-set_same, get_or-set_other}
use Rattle.std.proofs.lemmas.Option.{slice_get_within, get_or_from_slice_get}
use Rattle.gaze.specs.declared.Rule.{Rule}
use Rattle.gaze.specs.Lists.{first_of}
use Rattle.gaze.specs.Ranges.{RuleRanges, rule_keys, Before, Group}
use Rattle.gaze.proofs.ListLaws.{each_at, adjacent_all, repeated}
use Rattle.gaze.proofs.OrderLaws.{before_trans}
use Rattle.gaze.proofs.Pairs.{source_small, by_pair}
use Rattle.rules.specs.Rules.{of_types, pair_number, pair}
use Rattle.rules.specs.Table.{Named}

pub named_none : (rules : List Rule) → Named rules 0 (replicate 1024 None)
named_none rules =
    record {
      entry = λ j i e. let none : get_or (replicate 1024 None) j None ≡ None = repeated {A = Option ℕ} 1024 None j in cc;
      rule = λ i r lt got. absurd (omega arith);
    }

module _ (rules : List Rule) (group : Group 256 RuleRanges rule_keys rules) where
  pub ranges : (i : ℕ) (r : Rule) → slice_get rules i ≡ Some r → RuleRanges r
  ranges i r got = subst RuleRanges (get_or_from_slice_get rules i r r got) (each_at RuleRanges r rules group.each i (slice_get_within rules i r got))

  pub pair_below : (i : ℕ) (r : Rule) → slice_get rules i ≡ Some r → pair r < 1024
  pair_below i r got = let k = ranges i r got in let t = k.target in omega (arith, source_small r.source k.source)

  pairs_apart : (i k : ℕ) (r s : Rule) → i < k → slice_get rules i ≡ Some r → slice_get rules k ≡ Some s → pair r < pair s
  pairs_apart i k r s lt got got' =
      go (subst (λ (a : Rule). Before (rule_keys a) (rule_keys s)) (get_or_from_slice_get rules i r s got)
      (subst (λ (b : Rule). Before (rule_keys (get_or rules i s)) (rule_keys b)) (get_or_from_slice_get rules k s s got')
      (adjacent_all (λ a b. Before (rule_keys a) (rule_keys b)) (λ a b c. before_trans (rule_keys a) (rule_keys b) (rule_keys c)) s rules group.ordered i k lt (slice_get_within rules k s got'))))
      (ranges i r got).target.1
    where
      go : Before (rule_keys r) (rule_keys s) → r.target ≤ 31 → pair r < pair s
      go (inl h) t = omega arith
      go (inr (e, inl h)) t = omega arith
      go (inr (e, inr (f, never))) t = absurd never

  pub named_more : (k : ℕ) (r : Rule) (table : List (Option ℕ)) → slice_get rules k ≡ Some r → length table ≡ 1024 → Named rules k table → Named rules (k + 1) (set table (pair r) (Some k))
  named_more k r table got long named =
      record {
        entry = λ j i e. entry_at j i e (eqb j (pair r)) refl;
        rule = λ i s lt got'. ⊎_elim (rule_here i s got') (λ before. get_or-set_other table (pair r) (pair s) (Some k) None (apart i s before got') ∙ named.rule i s before got') (eq-or-lt_of_le (le_down lt));
      }
    where
      le_down : {i : ℕ} → i < k + 1 → i ≤ k
      le_down h = omega arith

      apart : (i : ℕ) (s : Rule) → i < k → slice_get rules i ≡ Some s → pair s ≡ pair r → ⊥
      apart i s before got' same = omega (arith, pairs_apart i k s r before got' got)

      inside : pair r < length table
      inside = rw long (pair_below k r got)

      written : get_or (set table (pair r) (Some k)) (pair r) None ≡ Some k
      written = get_or-set_same table (pair r) (Some k) None inside

      rule_here : (i : ℕ) (s : Rule) → slice_get rules i ≡ Some s → i ≡ k → get_or (set table (pair r) (Some k)) (pair s) None ≡ Some i
      rule_here i s got' e = let same : slice_get rules k ≡ Some s = subst (λ (n : ℕ). slice_get rules n ≡ Some s) e got' in let rs : r ≡ s = cc in subst (λ (n : ℕ). get_or (set table (pair r) (Some k)) (pair s) None ≡ Some n) (sym e) (subst (λ (a : Rule). get_or (set table (pair r) (Some k)) (pair a) None ≡ Some k) rs written)

      entry_at : (j i : ℕ) → get_or (set table (pair r) (Some k)) j None ≡ Some i → (b : Bool) → eqb j (pair r) ≡ b → (s : Rule) × (slice_get rules i ≡ Some s) × (pair s ≡ j)
      entry_at j i e true same =
          let here : j ≡ pair r = eqb-true j (pair r) same in
          let at : get_or (set table (pair r) (Some k)) j None ≡ Some k = rw here written in
          let ik : k ≡ i = cc in
          (r, subst (λ (n : ℕ). slice_get rules n ≡ Some r) ik got, sym here)
      entry_at j i e false other = named.entry j i (sym (get_or-set_other table (pair r) j (Some k) None (eqb-false j (pair r) other)) ∙ e)

-- ---- the first that passes
first_at : {A : Type 0} (test : A → Bool) (l : List A) (i : ℕ) (a : A) → slice_get l i ≡ Some a → test a ≡ true → ((j : ℕ) (b : A) → j < i → slice_get l j ≡ Some b → test b ≡ false) → first_of test l ≡ Some a
unfolding first_of
first_at test [] i a got passes before = cc
first_at test (b ∷ l) zero a got passes before = let e : b ≡ a = cc in rw (e, passes) refl
first_at test (b ∷ l) (suc i) a got passes before = rw (before zero b (omega arith) refl) (first_at test l i a got passes (λ j c lt. before (suc j) c (omega arith)))

first_none : {A : Type 0} (test : A → Bool) (l : List A) → ((j : ℕ) (a : A) → slice_get l j ≡ Some a → test a ≡ false) → first_of test l ≡ None
unfolding first_of
first_none test [] all = refl
first_none test (a ∷ l) all = rw (all zero a refl) (first_none test l (λ j. all (suc j)))

module _ (rules : List Rule) (group : Group 256 RuleRanges rule_keys rules) (table : List (Option ℕ)) (named : Named rules (length rules) table) (a b : ℕ) (in_range : b < 32) where
  passes : (i : ℕ) (r : Rule) → slice_get rules i ≡ Some r → pair r ≡ pair_number a b → of_types a b r ≡ true
  passes i r got e = by_pair a b r.source r.target (omega arith) (ranges rules group i r got).target.1 ∙ eq-eqb (pair r) (pair_number a b) e

  fails : (i : ℕ) (r : Rule) → slice_get rules i ≡ Some r → (pair r ≡ pair_number a b → ⊥) → of_types a b r ≡ false
  fails i r got other = by_pair a b r.source r.target (omega arith) (ranges rules group i r got).target.1 ∙ ne_eqb (pair r) (pair_number a b) other

  named_at : (i : ℕ) (r : Rule) → slice_get rules i ≡ Some r → pair r ≡ pair_number a b → get_or table (pair_number a b) None ≡ Some i
  named_at i r got e = subst (λ (j : ℕ). get_or table j None ≡ Some i) e (named.rule i r (slice_get_within rules i r got) got)

  pub none_found : get_or table (pair_number a b) None ≡ None → first_of (of_types a b) rules ≡ None
  none_found none = first_none (of_types a b) rules (λ j r got. fails j r got (λ e. let some = named_at j r got e in cc))

  pub one_found : (i : ℕ) → get_or table (pair_number a b) None ≡ Some i → (r : Rule) × (slice_get rules i ≡ Some r) × (first_of (of_types a b) rules ≡ Some r)
  one_found i is =
      let one = named.entry (pair_number a b) i is in
      (one.0, one.1, first_at (of_types a b) rules i one.0 one.1 (passes i one.0 one.1 one.2) (λ j r lt got. fails j r got (λ e. let other = named_at j r got e in let same : j ≡ i = cc in omega arith)))
