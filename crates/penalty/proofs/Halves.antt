-- The two halves of a curve at a distance: the points before it, and those at it or beyond.
use Rattle.std.proofs.Common.{◌≡◌, ℕ, ◌+◌, ◌-◌, ◌<◌, ◌≤◌, List, [], ◌∷◌, ◌++◌, true, false, length, take, drop, sym, ap, ap₂, subst, ◌∙◌, arith}
use Rattle.std.specs.Prelude.{Option, Some}
use Rattle.std.specs.List.{slice_get}
use Rattle.std.specs.List.Sorted.{IsPartitionPoint}
use Rattle.std.proofs.Math.Dec.{ltb}
use Rattle.std.proofs.lemmas.List.{get_or-take, get_or-drop, length-take, length-drop, take-append-drop}
use Rattle.std.proofs.lemmas.Option.{slice_get_within, get_or_from_slice_get}
use borrow.Author.Tests.{ltb-true, ltb-false}
use Rattle.gaze.specs.declared.Point.{Point}
use Rattle.gaze.specs.Lists.{Each}
use Rattle.gaze.specs.Penalty.{interpolated}
use Rattle.gaze.proofs.ListLaws.{each_at}
use Rattle.sorted.proofs.Parts.{each_by_place}
use Rattle.penalty.proofs.Lines.{by_ends, interpolated_by_ends}

pub record Halves (points before after : List Point) (d : ℕ) : Type 0 where
  pub whole : before ++ after ≡ points
  pub passed : Each (λ p. p.distance < d) before
  pub ahead : Each (λ p. d ≤ p.distance) after

pub halves : (points : List Point) (d r : ℕ) → r ≤ length points → IsPartitionPoint (λ p. ltb p.distance d ≡ true) (λ p. ltb p.distance d ≡ false) points r
    → Halves points (take r points) (drop r points) d
halves points d r within point =
    record {
      whole = take-append-drop r points;
      passed = each_by_place (λ p. p.distance < d) (take r points) (λ i p lt. let h : i < r = omega (arith, length-take r points) in rw (get_or-take r points i p h) (ltb-true _ d (point.0 i p (omega arith) h)));
      ahead = each_by_place (λ p. d ≤ p.distance) (drop r points) (λ i p lt. rw (get_or-drop r points i p) (ltb-false _ d (point.1 (r + i) p (omega arith) (omega (arith, length-drop r points)))));
    }

-- what holds of each point holds of each in the halves
pub each_half : {A : Type 0} (P : A → Type 0) (l m : List A) → Each P (l ++ m) → Each P l × Each P m
unfolding Each
each_half P [] m p = (tt, p)
each_half P (a ∷ l) m p = let rest = each_half P l m p.1 in ((p.0, rest.0), rest.1)

pub each_got : {A : Type 0} (P : A → Type 0) (l : List A) (i : ℕ) (a : A) → slice_get l i ≡ Some a → Each P l → P a
each_got P l i a got each = subst P (get_or_from_slice_get l i a a got) (each_at P a l each i (slice_get_within l i a got))

pub halves_value : {points before after : List Point} {d : ℕ} → Halves points before after d → {last first : Option Point}
    → slice_get before (length before - 1) ≡ last → slice_get after 0 ≡ first → by_ends last first d ≡ interpolated points d
halves_value {points} {before} {after} {d} h l f =
    sym (ap (λ (points : List Point). interpolated points d) (sym h.whole) ∙ (interpolated_by_ends d before after h.passed h.ahead ∙ ap₂ (λ l f. by_ends l f d) l f))
