-- What points of rising distance give at a distance: of those before it only the last counts, and of the others only the first.
use Rattle.std.proofs.Common.{◌≡◌, ℕ, suc, ◌-◌, ◌<◌, ◌≤◌, List, [], ◌∷◌, ◌++◌, length, refl, ap, ◌∙◌, arith, ℤ, pos}
use Rattle.std.specs.Prelude.{Option, Some, None}
use Rattle.std.specs.List.{slice_get}
use borrow.Author.Tests.{le-leb, lt-leb}
use Rattle.gaze.specs.declared.Point.{Point}
use Rattle.gaze.specs.Lists.{Each}
use Rattle.gaze.specs.Penalty.{on_line, beyond, past, interpolated}

-- the last point before the distance, and the first at it or beyond
abbrev pub by_ends : Option Point → Option Point → ℕ → ℤ
by_ends None None d = pos 0
by_ends None (Some q) d = q.penalty
by_ends (Some p) None d = p.penalty
by_ends (Some p) (Some q) d = on_line p q d

module _ (d : ℕ) where
  abbrev Before : Point → Type 0
  Before p = p.distance < d

  passed : (p q : Point) (l : List Point) → Before p → Before q → interpolated (p ∷ q ∷ l) d ≡ interpolated (q ∷ l) d
  unfolding interpolated past
  passed p q [] h k = rw (lt-leb d p.distance h, lt-leb d q.distance k) refl
  passed p q (r ∷ l) h k = rw (lt-leb d p.distance h, lt-leb d q.distance k) refl

  at_last : (p : Point) (after : List Point) → Before p → Each (λ q. d ≤ q.distance) after → interpolated (p ∷ after) d ≡ by_ends (Some p) (slice_get after 0) d
  unfolding interpolated past Each
  at_last p [] h e = refl
  at_last p (q ∷ []) h e = rw (lt-leb d p.distance h, le-leb d q.distance e.0) refl
  at_last p (q ∷ r ∷ l) h e = rw (lt-leb d p.distance h, le-leb d q.distance e.0) refl

  pub interpolated_by_ends : (before after : List Point) → Each Before before → Each (λ q. d ≤ q.distance) after
      → interpolated (before ++ after) d ≡ by_ends (slice_get before (length before - 1)) (slice_get after 0) d
  unfolding interpolated Each
  interpolated_by_ends [] [] e f = refl
  interpolated_by_ends [] (q ∷ []) e f = refl
  interpolated_by_ends [] (q ∷ r ∷ l) e f = rw (le-leb d q.distance f.0) refl
  interpolated_by_ends (p ∷ []) after e f = at_last p after e.0 f
  interpolated_by_ends (p ∷ q ∷ l) after e f =
      let one_on : suc (length (q ∷ l) - 1) ≡ length (p ∷ q ∷ l) - 1 = omega arith in
      passed p q (l ++ after) e.0 e.1.0
      ∙ (interpolated_by_ends (q ∷ l) after e.1 f ∙ ap (λ (i : ℕ). by_ends (slice_get (p ∷ q ∷ l) i) (slice_get after 0) d) one_on)

  -- up to the first point that point's, wherever the others lie
  pub interpolated_first : (p : Point) (l : List Point) → d ≤ p.distance → interpolated (p ∷ l) d ≡ p.penalty
  unfolding interpolated
  interpolated_first p [] h = refl
  interpolated_first p (q ∷ l) h = rw (le-leb d p.distance h) refl

  -- between the last point before it and the next, wherever those behind lie
  pub interpolated_line : (before : List Point) (p q : Point) (after : List Point) → Each Before (before ++ p ∷ []) → d ≤ q.distance
      → interpolated (before ++ p ∷ q ∷ after) d ≡ on_line p q d
  unfolding interpolated past Each
  interpolated_line [] p q [] e h = rw (lt-leb d p.distance e.0, le-leb d q.distance h) refl
  interpolated_line [] p q (r ∷ l) e h = rw (lt-leb d p.distance e.0, le-leb d q.distance h) refl
  interpolated_line (r ∷ []) p q after e h = passed r p (q ∷ after) e.0 e.1.0 ∙ interpolated_line [] p q after e.1 h
  interpolated_line (r ∷ s ∷ l) p q after e h = passed r s (l ++ p ∷ q ∷ after) e.0 e.1.0 ∙ interpolated_line (s ∷ l) p q after e.1 h

  -- two points or more, all of them before it
  pub interpolated_beyond : (l : List Point) (p q : Point) → Each Before (l ++ p ∷ q ∷ []) → interpolated (l ++ p ∷ q ∷ []) d ≡ beyond p q d
  unfolding interpolated past Each
  interpolated_beyond [] p q e = rw (lt-leb d p.distance e.0, lt-leb d q.distance e.1.0) refl
  interpolated_beyond (r ∷ []) p q e = passed r p (q ∷ []) e.0 e.1.0 ∙ interpolated_beyond [] p q e.1
  interpolated_beyond (r ∷ s ∷ l) p q e = passed r s (l ++ p ∷ q ∷ []) e.0 e.1.0 ∙ interpolated_beyond (s ∷ l) p q e.1
