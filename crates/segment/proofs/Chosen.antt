-- The segments that a Q line takes: those of its type and its phase, and among these the ones that meet its match.
use mathlib.Core.Path.{◌≡◌, refl, sym, ◌∙◌}
use mathlib.Core.Bool.{Bool, true, false, ◌&&◌}
use mathlib.Core.List.{List}
use Prim.Native.Nat.{ℕ}
use lib.Dec.{eqb}
use Rattle.gaze.specs.declared.Segment.{Segment}
use Rattle.gaze.specs.declared.Qualifier.{Qualifier}
use Rattle.gaze.specs.Lists.{keep}
use Rattle.gaze.specs.SegmentScore.{meets_phase, meets_match, asked, chosen}
use Rattle.gaze.proofs.ListLaws.{keep_same, keep_twice}
use Rattle.segment.specs.Choice.{fits}

pub chosen_is : (q : Qualifier) (s t : ℕ) (l : List Segment) → chosen q s t l ≡ keep (meets_match q.matching s t) (keep (fits q.kind q.phase t) l)
chosen_is q s t l =
    keep_same (asked q s t) (λ g. fits q.kind q.phase t g && meets_match q.matching s t g) l
    (λ g. regrouped (eqb g.kind q.kind) (meets_phase q.phase t g) (meets_match q.matching s t g))
    ∙ sym (keep_twice (fits q.kind q.phase t) (meets_match q.matching s t) l)
  where
    regrouped : (a b c : Bool) → a && (b && c) ≡ (a && b) && c
    regrouped true b c = refl
    regrouped false b c = refl
