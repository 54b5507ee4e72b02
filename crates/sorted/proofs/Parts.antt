-- Rows in strict order by some keys, of which a number of each row follows: that number never falls, and the rows of one number stand
-- together, between two entries of the table of first rows.
use Rattle.std.proofs.Common.{◌≡◌, ℕ, ◌+◌, ◌-◌, ◌<◌, ◌≤◌, List, [], ◌∷◌, ◌++◌, Bool, true, false, length, map, get_or, take, drop, sym, ap, ap₂, ◌∙◌, arith, ⊎_elim}
use Rattle.std.proofs.Math.Dec.{eqb}
use native.Mathlib.Nat.{eq-or-lt_of_le}
use borrow.Author.Tests.{eq-eqb, ne_eqb}
use Rattle.std.proofs.lemmas.List.{get_or-map, length-map, get_or-take, get_or-drop, length-take, length-drop, take-append-drop, append-nil}
use Rattle.gaze.specs.Lists.{Each, keep}
use Rattle.gaze.specs.Ranges.{Before, InOrder}
use Rattle.gaze.proofs.ListLaws.{each_of, each_at, adjacent_all, keep_append, keep_each, keep_no}
use Rattle.gaze.proofs.OrderLaws.{before_trans}
use Rattle.gaze.proofs.Tests.{at_or_below}
use Rattle.sorted.specs.Sorted.{Rising, First, FirstRows}

module _ {A : Type 0} (keys : A → List ℕ) (P : A → Type 0) (key : A → ℕ) (follows : (a b : A) → P a → P b → Before (keys a) (keys b) → key a ≤ key b) where
  pub rows_rise : (rows : List A) → Each P rows → InOrder keys rows → Rising (map key rows)
  rows_rise [] each ordered i j le lt = omega arith
  rows_rise (row ∷ rows) each ordered i j le lt =
      let below : j < length (row ∷ rows) = rw (length-map (row ∷ rows) key) at lt in
      rw (get_or-map key (row ∷ rows) i row 0 (omega arith), get_or-map key (row ∷ rows) j row 0 below)
      (⊎_elim (λ (e : i ≡ j). rw e (omega arith)) (λ (before : i < j). follows _ _ (at i (omega arith)) (at j below) (later before below)) (eq-or-lt_of_le le))
    where
      at : (k : ℕ) → k < length (row ∷ rows) → P (get_or (row ∷ rows) k row)
      at = each_at P row (row ∷ rows) each

      later : i < j → j < length (row ∷ rows) → Before (keys (get_or (row ∷ rows) i row)) (keys (get_or (row ∷ rows) j row))
      later = adjacent_all (λ a b. Before (keys a) (keys b)) (λ a b c. before_trans (keys a) (keys b) (keys c)) row (row ∷ rows) ordered i j

pub each_by_place : {A : Type 0} (P : A → Type 0) (rows : List A) → ((i : ℕ) (d : A) → i < length rows → P (get_or rows i d)) → Each P rows
unfolding Each
each_by_place P [] all = tt
each_by_place P (row ∷ rows) all = each_of P row (row ∷ rows) (λ i. all i row)

-- where those from lo to hi pass a test, and no others do
module _ {A : Type 0} (test : A → Bool) (rows : List A) (lo hi : ℕ) (ordered : lo ≤ hi) (within : hi ≤ length rows) where
  abbrev part : List A
  part = take (hi - lo) (drop lo rows)

  abbrev rest : List A
  rest = drop (hi - lo) (drop lo rows)

  in_parts : rows ≡ take lo rows ++ (part ++ rest)
  in_parts = sym (ap (λ l. take lo rows ++ l) (take-append-drop (hi - lo) (drop lo rows)) ∙ take-append-drop lo rows)

  keep_between : ((i : ℕ) (d : A) → i < lo → test (get_or rows i d) ≡ false)
      → ((i : ℕ) (d : A) → lo ≤ i → i < hi → test (get_or rows i d) ≡ true)
      → ((i : ℕ) (d : A) → hi ≤ i → i < length rows → test (get_or rows i d) ≡ false)
      → keep test rows ≡ part
  keep_between before inside after =
      ap (keep test) in_parts
      ∙ (keep_append test (take lo rows) (part ++ rest)
      ∙ (ap₂ ◌++◌ none_before (keep_append test part rest ∙ ap₂ ◌++◌ all_inside none_after) ∙ append-nil part))
    where
      none_before : keep test (take lo rows) ≡ []
      none_before = keep_no test (take lo rows) (each_by_place (λ row. test row ≡ false) (take lo rows) (λ i d lt. let h : i < lo = omega (arith, length-take lo rows) in rw (get_or-take lo rows i d h) (before i d h)))

      all_inside : keep test part ≡ part
      all_inside = keep_each test part (each_by_place (λ row. test row ≡ true) part (λ i d lt. let h : i < hi - lo = omega (arith, length-take (hi - lo) (drop lo rows)) in rw (get_or-take (hi - lo) (drop lo rows) i d h, get_or-drop lo rows i d) (inside (lo + i) d (omega arith) (omega arith))))

      none_after : keep test rest ≡ []
      none_after = keep_no test rest (each_by_place (λ row. test row ≡ false) rest (λ i d lt. rw (get_or-drop (hi - lo) (drop lo rows) i d, get_or-drop lo rows (hi - lo + i) d) (after (lo + (hi - lo + i)) d (omega arith) (omega (arith, length-drop (hi - lo) (drop lo rows), length-drop lo rows)))))

-- the rows of the number x
module _ {A : Type 0} (key : A → ℕ) (rows : List A) {first : List ℕ} (firsts : FirstRows (map key rows) first) (x : ℕ) (inside : x + 1 < length first) where
  begins : First (map key rows) x (get_or first x 0)
  begins = firsts.at x (omega arith)

  ends : First (map key rows) (x + 1) (get_or first (x + 1) 0)
  ends = firsts.at (x + 1) inside

  part_within : get_or first (x + 1) 0 ≤ length rows
  part_within = rw (length-map rows key) at ends.within

  part_ordered : get_or first x 0 ≤ get_or first (x + 1) 0
  part_ordered = ⊎_elim (λ h. h) (λ lt. absurd (crossed lt)) (at_or_below (get_or first x 0) (get_or first (x + 1) 0))
    where
      crossed : get_or first (x + 1) 0 < get_or first x 0 → ⊥
      crossed lt = omega (arith, begins.less (get_or first (x + 1) 0) lt, ends.enough (get_or first (x + 1) 0) (omega arith) (omega (arith, begins.within)))

  module _ (test : A → Bool) (tests : Each (λ row. test row ≡ eqb (key row) x) rows) where
    by_key : (b : Bool) (i : ℕ) (d : A) → i < length rows → eqb (get_or (map key rows) i 0) x ≡ b → test (get_or rows i d) ≡ b
    by_key b i d lt is = each_at (λ row. test row ≡ eqb (key row) x) d rows tests i lt ∙ (ap (λ n. eqb n x) (sym (get_or-map key rows i d 0 lt)) ∙ is)

    fails : (i : ℕ) (d : A) → i < length rows → (get_or (map key rows) i 0 ≡ x → ⊥) → test (get_or rows i d) ≡ false
    fails i d lt other = by_key false i d lt (ne_eqb (get_or (map key rows) i 0) x other)

    pub stand_together : keep test rows ≡ take (get_or first (x + 1) 0 - get_or first x 0) (drop (get_or first x 0) rows)
    stand_together =
        keep_between test rows (get_or first x 0) (get_or first (x + 1) 0) part_ordered part_within
        (λ i d lt. fails i d (omega (arith, part_ordered, part_within)) (λ e. omega (arith, begins.less i lt)))
        (λ i d from lt. by_key true i d (omega (arith, part_within)) (eq-eqb (get_or (map key rows) i 0) x (omega (arith, begins.enough i from (omega (arith, ends.within)), ends.less i lt))))
        (λ i d from lt. fails i d lt (λ e. omega (arith, ends.enough i from (rw (length-map rows key) lt))))
