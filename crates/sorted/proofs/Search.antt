-- A search among rows whose keys never fall: the rows that pass `key < x` stand first, and where they end is the first row with enough.
use Rattle.std.proofs.Common.{◌≡◌, ℕ, ◌<◌, ◌≤◌, List, [], ◌∷◌, true, false, length, map, get_or, subst, sym, arith}
use Rattle.std.proofs.Math.Dec.{ltb}
use borrow.Author.Tests.{ltb-true, ltb-false}
use Rattle.std.proofs.lemmas.List.{get_or-map, length-map}
use Rattle.std.proofs.lemmas.List.Sorted.{IsPartitionedBy-ltb}
use Rattle.std.specs.List.Sorted.{IsPartitionPoint, IsPartitionedBy}
use Rattle.sorted.specs.Sorted.{Rising, First}

-- what holds of the key of row i, whatever stands for a row past the end
at_row : {X : Type 0} (key : X → ℕ) (rows : List X) (P : ℕ → Type 0) (i : ℕ) → i < length rows → ((d : X) → P (key (get_or rows i d))) → P (get_or (map key rows) i 0)
at_row key [] P i lt all = absurd (omega arith)
at_row key (row ∷ rows) P i lt all = subst P (sym (get_or-map key (row ∷ rows) i row 0 lt)) (all row)

module _ {X : Type 0} (key : X → ℕ) (rows : List X) (x : ℕ) where
  pub parted : Rising (map key rows) → IsPartitionedBy (λ row. ltb (key row) x) rows
  parted rising =
      IsPartitionedBy-ltb key rows x
      (λ i j d le lt. omega (arith, rising i j le (rw (length-map rows key) lt), get_or-map key rows i d 0 (omega arith), get_or-map key rows j d 0 lt))

  pub first_at_point : (r : ℕ) → r ≤ length rows → IsPartitionPoint (λ row. ltb (key row) x ≡ true) (λ row. ltb (key row) x ≡ false) rows r → First (map key rows) x r
  first_at_point r within point =
      record {
        within = rw (length-map rows key) within;
        less = λ i lt. at_row key rows (λ k. k < x) i (omega arith) (λ d. ltb-true _ x (point.0 i d (omega arith) lt));
        enough = λ i from lt. at_row key rows (λ k. x ≤ k) i (rw (length-map rows key) at lt) (λ d. ltb-false _ x (point.1 i d from (rw (length-map rows key) at lt)));
      }
