-- Features in order: none stands before an earlier one, so those before a target come first.
use Rattle.std.proofs.Common.{◌≡◌, ℕ, ◌+◌, ◌<◌, ◌≤◌, List, [], ◌∷◌, true, false, length, get_or, take, drop, arith, inl, inr, ⊎_elim, pos}
use Rattle.std.proofs.Math.Dec.{ltb}
use native.Mathlib.Nat.{eq-or-lt_of_le}
use borrow.Author.Tests.{ltb-true, ltb-false}
use Rattle.std.specs.List.Sorted.{IsPartitionPoint, IsPartitionedBy}
use Rattle.std.proofs.lemmas.List.{get_or_default, get_or-take, get_or-drop, length-take, length-drop}
use Rattle.std.proofs.lemmas.List.Sorted.{IsPartitionedBy-ltb}
use Rattle.gaze.specs.declared.Feature.{Feature}
use Rattle.gaze.specs.Lists.{Each}
use Rattle.gaze.specs.Ranges.{FeatureRanges, feature_keys, Before, Group}
use Rattle.gaze.proofs.ListLaws.{each_of, each_at, adjacent_all}
use Rattle.gaze.proofs.OrderLaws.{before_trans}

module _ (features : List Feature) (group : Group 1024 (FeatureRanges 4000000) feature_keys features) where
  never_falls : (i j : ℕ) (d : Feature) → i ≤ j → j < length features → (get_or features i d).position ≤ (get_or features j d).position
  never_falls i j d le lt =
      ⊎_elim (λ (e : i ≡ j). rw e (omega arith))
      (λ (before : i < j). go (adjacent_all (λ a b. Before (feature_keys a) (feature_keys b)) (λ a b c. before_trans (feature_keys a) (feature_keys b) (feature_keys c)) d features group.ordered i j before lt))
      (eq-or-lt_of_le le)
    where
      go : {a b c e : ℕ} → Before (a ∷ c ∷ []) (b ∷ e ∷ []) → a ≤ b
      go (inl h) = omega arith
      go (inr h) = let k = h.0 in omega arith

  pub parted : (t : ℕ) → IsPartitionedBy (λ f. ltb f.position t) features
  parted t = IsPartitionedBy-ltb (λ f. f.position) features t never_falls

  module _ (t n : ℕ) (point : IsPartitionPoint (λ f. ltb f.position t ≡ true) (λ f. ltb f.position t ≡ false) features n) where
    pub behind : Each (λ f. t ≤ f.position) (drop n features)
    behind = each_of (λ f. t ≤ f.position) none (drop n features) (λ i lt. rw (get_or-drop n features i none) (ltb-false _ t (point.1 (n + i) none (omega arith) (omega (arith, length-drop n features)))))
      where
        none : Feature
        none = record { kind = 0; position = 0; score = pos 0 }

    pub before : (i : ℕ) (d : Feature) → i < length (take n features) → (get_or (take n features) i d).position < t
    before i d lt = let h : i < n = omega (arith, length-take n features) in rw (get_or-take n features i d h) (ltb-true _ t (point.0 i d (omega arith) h))

    pub kind_in : (i : ℕ) (d : Feature) → i < length (take n features) → (get_or (take n features) i d).kind < 32
    kind_in i d lt =
        let h : i < n = omega (arith, length-take n features) in
        let r = (each_at (FeatureRanges 4000000) d features group.each i (omega (arith, length-take n features))).kind in
        rw (get_or-take n features i d h) (omega arith)

    pub rises : (i k : ℕ) (d e : Feature) → i ≤ k → k < length (take n features) → (get_or (take n features) i d).position ≤ (get_or (take n features) k e).position
    rises i k d e le lt =
        let h : i < n = omega (arith, length-take n features) in
        let g : k < n = omega (arith, length-take n features) in
        rw (get_or_default (take n features) k e d lt, get_or-take n features i d h, get_or-take n features k d g) (never_falls i k d le (omega (arith, length-take n features)))
