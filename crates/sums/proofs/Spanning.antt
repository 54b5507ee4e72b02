-- How far a plateau goes: as long as one segment gives the value and none gives more. Those that give less do not matter where the value is not below 0.
use Rattle.std.proofs.Common.{◌≡◌, sym, ap, ◌∙◌, arith}
use Rattle.std.proofs.lemmas.Int.{ints}
use Rattle.std.proofs.lemmas.List.{take_more}
use mathlib.Core.Logic.{◌⊎◌, inl, inr}
use Rattle.std.specs.Prelude.{List, [], ◌∷◌, ◌++◌, ℕ, ◌+◌, ◌≤◌, ◌<◌, ℤ, Some, length, get_or, take}
use Rattle.std.specs.Int.Signed.{◌≤ℤ◌}
use Rattle.whole.specs.Whole.{larger_of}
use Rattle.gaze.specs.declared.Segment.{Segment}
use Rattle.gaze.specs.SegmentScore.{rate_at, largest_rate}
use Rattle.sums.specs.declared.plateau.Span.{Span}
use Rattle.sums.specs.Plateau.{Spanned}
use Rattle.sums.proofs.Largest.{join, join_swap, join_regroup, value, top, top_joined, largest_is}

kept : (v r : ℤ) → r ≤ℤ v → larger_of v r ≡ v
kept v r h = grind (arith, ints)

-- at the base y no segment gives more than the value, and before `until` one gives it
pub record Under (y until : ℕ) (l : List Segment) (v : ℤ) : Type 0 where
  pub most : join (Some v) (top y l) ≡ Some v
  pub reached : y < until → top y l ≡ Some v

under_more : (y until until' : ℕ) (l : List Segment) (v : ℤ) (g : Segment) → rate_at y g ≤ℤ v → (y < until' → (y < until) ⊎ (rate_at y g ≡ v)) → Under y until l v
    → Under y until' (l ++ (g ∷ [])) v
under_more y until until' l v g low why u =
    record {
      most =
          ap (join (Some v)) (top_joined y l (g ∷ []))
          ∙ (sym (join_regroup (Some v) (top y l) (Some (rate_at y g)))
          ∙ (ap (λ a. join a (Some (rate_at y g))) u.most ∙ ap Some (kept v (rate_at y g) low)));
      reached = λ h. top_joined y l (g ∷ []) ∙ go (why h);
    }
  where
    go : (y < until) ⊎ (rate_at y g ≡ v) → join (top y l) (Some (rate_at y g)) ≡ Some v
    go (inl h) = ap (λ a. join a (Some (rate_at y g))) (u.reached h) ∙ ap Some (kept v (rate_at y g) low)
    go (inr e) = ap (λ (r : ℤ). join (top y l) (Some r)) e ∙ (join_swap (top y l) (Some v) ∙ u.most)

-- what the segments that were looked at leave
pub record Spanning (x : ℕ) (v : ℤ) (ahead : ℕ) (l : List Segment) (span : Span) : Type 0 where
  pub within : span.limit ≤ ahead
  pub is : (y : ℕ) → x ≤ y → y < span.limit → Under y span.until l v

module _ (x : ℕ) (v : ℤ) (ahead : ℕ) where
  pub spanning_more : (l : List Segment) (i : ℕ) (g : Segment) (span span' : Span) → i < length l → g ≡ get_or l i g → Spanned x v g span span'
      → Spanning x v ahead (take i l) span → Spanning x v ahead (take (i + 1) l) span'
  spanning_more l i g span span' h is s q =
      record {
        within = omega (arith, q.within, s.within);
        is = λ y m u.
            rw (take_more l i g h, ← is)
            (under_more y span.until span'.until (take i l) v g (s.under y m u) (λ k. s.reached y m k) (q.is y m (omega (arith, s.within))));
      }

  pub spanning_all : (l : List Segment) (span : Span) → Spanning x v ahead l span → (y : ℕ) → x ≤ y → y < span.until → y < span.limit → largest_rate l y ≡ v
  spanning_all l span q y m h u = largest_is l y ∙ ap value ((q.is y m u).reached h)
