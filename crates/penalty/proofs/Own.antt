-- The points of one function, of all in order: they are in range, by rising distance, and stand together in the sheet.
use Rattle.std.proofs.Common.{◌≡◌, ℕ, ◌+◌, ◌-◌, ◌<◌, ◌≤◌, List, [], ◌∷◌, Bool, true, false, cond, length, map, get_or, take, drop, refl, arith, inl, inr}
use Rattle.std.proofs.Math.Dec.{eqb}
use borrow.Author.Tests.{eqb-true}
use Rattle.gaze.specs.declared.Point.{Point}
use Rattle.gaze.specs.Lists.{Each, Adjacent, keep}
use Rattle.gaze.specs.Ranges.{PointRanges, Group, Before, InOrder, point_keys}
use Rattle.gaze.specs.Penalty.{points_of}
use Rattle.gaze.proofs.ListLaws.{each_at, each_map, each_kept, adjacent_all}
use Rattle.gaze.proofs.OrderLaws.{order_rest, order_head, before_trans}
use Rattle.sorted.specs.Sorted.{Rising, FirstRows}
use Rattle.sorted.proofs.Parts.{rows_rise, stand_together}

module _ {A : Type 0} (test : A → Bool) where
  each_passes : (l : List A) → Each (λ a. test a ≡ true) (keep test l)
  unfolding Each keep
  each_passes [] = tt
  each_passes (a ∷ l) = go (test a) refl (each_passes l)
    where
      go : (b : Bool) → test a ≡ b → Each (λ a. test a ≡ true) (keep test l) → Each (λ a. test a ≡ true) (cond b (a ∷ keep test l) (keep test l))
      go true e rest = (e, rest)
      go false e rest = rest

  module _ (keys : A → List ℕ) where
    first_before : (a : A) (l : List A) → Each (λ b. Before (keys a) (keys b)) l → InOrder keys l → InOrder keys (a ∷ l)
    unfolding Each Adjacent
    first_before a [] e o = tt
    first_before a (b ∷ l) e o = (e.0, o)

    order_kept : (l : List A) → InOrder keys l → InOrder keys (keep test l)
    unfolding keep Adjacent
    order_kept [] o = tt
    order_kept (a ∷ l) o = go (test a) (order_kept l (order_rest keys a l o))
      where
        go : (b : Bool) → InOrder keys (keep test l) → InOrder keys (cond b (a ∷ keep test l) (keep test l))
        go true rest = first_before a (keep test l) (each_kept (λ b. Before (keys a) (keys b)) test l (order_head keys a l o)) rest
        go false rest = rest

module _ (points : List Point) (group : Group 512 PointRanges point_keys points) (function : ℕ) where
  pub own_rise : Rising (map (λ p. p.distance) (points_of points function))
  own_rise =
      rows_rise point_keys (λ p. eqb p.function function ≡ true) (λ p. p.distance) (λ p q e f before. by_distance (eqb-true p.function function e) (eqb-true q.function function f) before)
      (points_of points function) (each_passes (λ p. eqb p.function function) points) (order_kept (λ p. eqb p.function function) point_keys points group.ordered)
    where
      by_distance : {a b d e : ℕ} → a ≡ function → b ≡ function → Before (a ∷ d ∷ []) (b ∷ e ∷ []) → d ≤ e
      by_distance h k (inl lt) = absurd (omega arith)
      by_distance h k (inr (e, inl lt)) = omega arith
      by_distance h k (inr (e, inr (f, never))) = absurd never

  -- no two of them at one distance
  pub own_strict : (i j : ℕ) (d : Point) → i < j → j < length (points_of points function)
      → (get_or (points_of points function) i d).distance < (get_or (points_of points function) j d).distance
  own_strict i j d before within =
      by_distance (own i (omega arith)) (own j within)
      (adjacent_all (λ p q. Before (point_keys p) (point_keys q)) (λ p q r. before_trans (point_keys p) (point_keys q) (point_keys r)) d
      (points_of points function) (order_kept (λ p. eqb p.function function) point_keys points group.ordered) i j before within)
    where
      own : (k : ℕ) → k < length (points_of points function) → (get_or (points_of points function) k d).function ≡ function
      own k h = eqb-true _ function (each_at (λ p. eqb p.function function ≡ true) d (points_of points function) (each_passes (λ p. eqb p.function function) points) k h)

      by_distance : {a b m n : ℕ} → a ≡ function → b ≡ function → Before (a ∷ m ∷ []) (b ∷ n ∷ []) → m < n
      by_distance h k (inl lt) = absurd (omega arith)
      by_distance h k (inr (e, inl lt)) = omega arith
      by_distance h k (inr (e, inr (f, never))) = absurd never

  pub own_ranged : Each PointRanges (points_of points function)
  own_ranged = each_kept PointRanges (λ p. eqb p.function function) points group.each

  pub points_rise : Rising (map (λ p. p.function) points)
  points_rise = rows_rise point_keys PointRanges (λ p. p.function) (λ p q _ _ before. by_function before) points group.each group.ordered
    where
      by_function : {a b d e : ℕ} → Before (a ∷ d ∷ []) (b ∷ e ∷ []) → a ≤ b
      by_function (inl lt) = omega arith
      by_function (inr h) = let e = h.0 in omega arith

  pub own_stand : {first : List ℕ} → FirstRows (map (λ p. p.function) points) first → function + 1 < length first
      → points_of points function ≡ take (get_or first (function + 1) 0 - get_or first function 0) (drop (get_or first function 0) points)
  own_stand firsts inside =
      stand_together (λ p. p.function) points firsts function inside (λ p. eqb p.function function)
      (each_map PointRanges (λ p. eqb p.function function ≡ eqb p.function function) points (λ _ _. refl) group.each)
