-- Segments that start behind a region enter its maximum with 0, so that they need not be looked at one by one.
use mathlib.Core.Bool.{false}
use mathlib.Core.Path.{◌≡◌, refl, sym, ap, ◌∙◌}
use mathlib.Core.List.{List, [], ◌∷◌, ◌++◌, map, map-append, foldl, foldl-append}
use Prim.Native.Nat.{ℕ, ◌+◌, ◌<◌}
use native.Mathlib.Omega.{arith}
use lib.Dec.{leb}
use lib.IntN.{ℤ, pos, ◌*ℤ◌}
use lib.ListN.{length, get_or, take, drop, length-drop}
use Rattle.std.specs.List.{AllWithin}
use Rattle.std.proofs.lemmas.List.{take-append-drop, get_or-drop, length-map}
use Rattle.std.proofs.lemmas.Bool.Decides.{leb_tells}
use Rattle.whole.specs.Whole.{floor_of, larger_of}
use Rattle.whole.proofs.Comparisons.{larger_again}
use Rattle.whole.proofs.Quotients.{floor_none}
use Rattle.gaze.specs.declared.Segment.{Segment}
use Rattle.gaze.specs.Lists.{Each, keep}
use Rattle.gaze.specs.SegmentScore.{enters, overlap, size, share, largest, largest_share}
use Rattle.gaze.proofs.ListLaws.{each_of, each_mapped, keep_all}
use Rattle.slots.proofs.StartOrder.{blank}

abbrev Zeros : List ℤ → Type 0
Zeros l = Each (λ z. z ≡ pos 0) l

-- ---- zeros at the end of a list
fold_zeros : (v : ℤ) (l : List ℤ) → Zeros l → foldl larger_of (larger_of v (pos 0)) l ≡ larger_of v (pos 0)
unfolding Each
fold_zeros v [] p = refl
fold_zeros v (z ∷ l) p =
    ap (λ (y : ℤ). foldl larger_of (larger_of (larger_of v (pos 0)) y) l) p.0
    ∙ (ap (λ (y : ℤ). foldl larger_of y l) (larger_again v) ∙ fold_zeros v l p.1)

zeros_after : (l m : List ℤ) → 0 < length m → Zeros m → largest (l ++ m) ≡ larger_of (largest l) (pos 0)
unfolding Each
zeros_after l [] k p = absurd (none_in k)
  where
    none_in : 0 < 0 → ⊥
    none_in h = omega arith
zeros_after [] (z ∷ m) k p = ap (λ (y : ℤ). foldl larger_of y m) p.0 ∙ fold_zeros (pos 0) m p.1
zeros_after (v ∷ l) (z ∷ m) k p =
    foldl-append larger_of v l (z ∷ m)
    ∙ (ap (λ (y : ℤ). foldl larger_of (larger_of (foldl larger_of v l) y) m) p.0 ∙ fold_zeros (foldl larger_of v l) m p.1)

-- ---- the segments from `behind` on
module _ (s t : ℕ) where
  share_behind : (g : Segment) → t < g.start → share s t g ≡ pos 0
  share_behind g h =
      let o : overlap s t g ≡ 0 = omega arith in
      ap (λ (n : ℕ). floor_of (g.score *ℤ pos n) (size g)) o ∙ floor_none g.score (size g)

  shares_all : (l : List Segment) → map (share s t) (keep (enters s t) l) ≡ map (share s t) l
  shares_all l = ap (map (share s t)) (keep_all (enters s t) l (λ g. refl))

  pub largest_behind : (l : List Segment) (behind : ℕ) → behind < length l → AllWithin (λ g. leb g.start t ≡ false) l behind (length l)
      → larger_of (largest_share s t (take behind l)) (pos 0) ≡ largest_share s t l
  largest_behind l behind h late =
      let far = drop behind l in
      let k : 0 < length (map (share s t) far) = omega (arith, length-map far (share s t), length-drop behind l) in
      let each : Each (λ g. t < g.start) far = each_of (λ g. t < g.start) blank far far_late in
      ap (λ (m : List ℤ). larger_of (largest m) (pos 0)) (shares_all (take behind l))
      ∙ (sym (zeros_after (map (share s t) (take behind l)) (map (share s t) far) k (each_mapped (λ g. t < g.start) (λ z. z ≡ pos 0) (share s t) far share_behind each))
      ∙ (ap largest (sym (map-append (share s t) (take behind l) far) ∙ ap (map (share s t)) (take-append-drop behind l))
      ∙ ap largest (sym (shares_all l))))
    where
      far_late : (i : ℕ) → i < length (drop behind l) → t < (get_or (drop behind l) i blank).start
      far_late i n =
          let h = late (behind + i) blank (omega arith) (omega (arith, length-drop behind l)) in
          rw (get_or-drop behind l i blank) (grind (arith, leb_tells))
