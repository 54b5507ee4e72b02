-- Every entry of a table stays small while the table is filled, as the sums are small and the rest is as it was. In a table with nothing in it each is.
use Rattle.std.proofs.Common.{◌≡◌, refl, arith}
use Rattle.std.proofs.lemmas.List.{get_or-replicate, length-replicate}
use mathlib.Core.Logic.{◌⊎◌, inl, inr, ⊎_elim}
use lib.ListN.{get_or-eq_default}
use Rattle.std.specs.Prelude.{ℕ, Bool, true, false, List, [], ◌≤◌, ◌<◌, length, get_or, replicate}
use Rattle.gaze.specs.declared.Feature.{Feature}
use Rattle.gaze.specs.declared.Segment.{Segment}
use Rattle.gaze.proofs.ListLaws.{repeated}
use Rattle.gaze.proofs.Tests.{at_or_below}
use Rattle.sums.specs.declared.Sum.{Sum}
use Rattle.sums.specs.Table.{nothing, Filled, Kept, SmallSum, Small}

none_small : SmallSum nothing
none_small = record { before = omega arith; along = omega arith }

pub small_nothing : (rows sums : ℕ) → Small (replicate rows (replicate sums nothing))
small_nothing rows sums j i = ⊎_elim outside inside (at_or_below rows j)
  where
    outside : rows ≤ j → SmallSum (get_or (get_or (replicate rows (replicate sums nothing)) j []) i nothing)
    outside h = rw (get_or-eq_default (replicate rows (replicate sums nothing)) [] {n = j} (rw length-replicate h)) none_small

    inside : j < rows → SmallSum (get_or (get_or (replicate rows (replicate sums nothing)) j []) i nothing)
    inside h = rw (get_or-replicate rows j (replicate sums nothing) [] h, repeated sums nothing i) none_small

pub small_empty : Small (replicate 64 (replicate 1026 nothing))
small_empty = small_nothing 64 1026

pub small_filled : {summed : List Bool} {slots : List (List Segment)} {candidates : List Feature} {table₀ table : List (List Sum)} → length summed ≡ 64
    → Filled summed slots candidates table → Kept summed candidates table₀ table → Small table₀ → Small table
small_filled {summed} {candidates = candidates} {table = table} flags filled kept small j i = go (get_or summed j false) refl (at_or_below (length candidates) i)
  where
    low : get_or summed j false ≡ true → j < 64
    low on = ⊎_elim (λ h. let off = get_or-eq_default summed false {n = j} (omega arith) in absurd (cc)) (λ h. h) (at_or_below 64 j)

    go : (b : Bool) → get_or summed j false ≡ b → (length candidates ≤ i) ⊎ (i < length candidates) → SmallSum (get_or (get_or table j []) i nothing)
    go b is (inl h) = rw (kept.beyond j i h) (small j i)
    go true is (inr h) = let row = filled.rows j (low is) is in record { before = row.before_small i h; along = row.along_small i h }
    go false is (inr h) = rw (kept.unflagged j is) (small j i)
