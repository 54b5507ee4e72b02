-- What the rows of a slot say of a Q line: its segment score over a region is the score of the rows of the slot that it asks for, of those that start at
-- the source, of those that end at the target, or of those that do both, by its match.
use mathlib.Core.Path.{◌≡◌, refl, sym, ap, ◌∙◌}
use mathlib.Core.Bool.{Bool, true, false, ◌&&◌}
use mathlib.Core.List.{List}
use Prim.Native.Nat.{ℕ, ◌≤◌, ◌<◌}
use lib.ListN.{get_or}
use Rattle.gaze.specs.declared.Segment.{Segment}
use Rattle.gaze.specs.declared.Qualifier.{Qualifier}
use Rattle.gaze.specs.Lists.{keep}
use Rattle.gaze.specs.SegmentScore.{meets_match, chosen, segment_score}
use Rattle.gaze.proofs.ListLaws.{keep_same, keep_all, keep_twice}
use Rattle.rows.specs.Rows.{scored}
use Rattle.segment.specs.Choice.{fits}
use Rattle.segment.proofs.Chosen.{chosen_is}
use Rattle.slots.specs.Slots.{slot_of, in_slot, slots_of, slot_in, starts_at, ends_at, ending}
use Rattle.slots.proofs.Classes.{slot_low, slot_fits}
use Rattle.slots.proofs.Grouping.{slot_listed}

-- ---- the matches, by their numbers
and_true : (b : Bool) → b && true ≡ b
and_true true = refl
and_true false = refl

and_turned : (a b : Bool) → a && b ≡ b && a
and_turned true b = sym (and_true b)
and_turned false true = refl
and_turned false false = refl

module _ (s t : ℕ) (l : List Segment) where
  match_0 : keep (meets_match 0 s t) l ≡ l
  match_0 = keep_all (meets_match 0 s t) l (λ g. refl)

  match_1 : keep (meets_match 1 s t) l ≡ keep (starts_at s) l
  match_1 = keep_same (meets_match 1 s t) (starts_at s) l (λ g. and_true (starts_at s g))

  match_2 : keep (meets_match 2 s t) l ≡ keep (ends_at t) l
  match_2 = keep_same (meets_match 2 s t) (ends_at t) l (λ g. refl)

  match_3 : keep (meets_match 3 s t) l ≡ keep (starts_at s) (keep (ends_at t) l)
  match_3 =
      keep_same (meets_match 3 s t) (λ g. ends_at t g && starts_at s g) l (λ g. and_turned (starts_at s g) (ends_at t g))
      ∙ sym (keep_twice (ends_at t) (starts_at s) l)

-- ---- a slot that is used, narrowed to a target
pub ending_at : (used : List Bool) (t : ℕ) (slots : List (List Segment)) (j : ℕ) → j < 64 → get_or used j false ≡ true
    → slot_in (ending used t slots) j ≡ keep (ends_at t) (slot_in slots j)
unfolding ending
ending_at used t slots j low is_used =
    slot_listed (λ j. keep (λ g. get_or used j false && ends_at t g) (slot_in slots j)) j low ∙ rw is_used refl

-- ---- a Q line, and the rows of the slot that it asks for
module _ {slots : List (List Segment)} (segments : List Segment) (held : slots ≡ slots_of segments) (q : Qualifier) (kind_low : q.kind ≤ 15) (phase_low : q.phase ≤ 3) (s t : ℕ)
  where
    abbrev asked_slot : ℕ
    asked_slot = slot_of q.kind q.phase t

    slot_rows : slot_in slots asked_slot ≡ keep (fits q.kind q.phase t) segments
    unfolding slots_of
    slot_rows =
        ap (λ (l : List (List Segment)). slot_in l asked_slot) held
        ∙ (slot_listed (λ j. keep (in_slot j) segments) asked_slot (slot_low q.kind q.phase t kind_low)
        ∙ sym (keep_same (fits q.kind q.phase t) (in_slot asked_slot) segments (λ g. slot_fits q.kind q.phase t g phase_low)))

    chosen_in_slot : chosen q s t segments ≡ keep (meets_match q.matching s t) (slot_in slots asked_slot)
    chosen_in_slot = chosen_is q s t segments ∙ ap (keep (meets_match q.matching s t)) (sym slot_rows)

    by_match : (m : ℕ) (l : List Segment) → q.matching ≡ m → keep (meets_match m s t) (slot_in slots asked_slot) ≡ l
        → scored q.method s t l ≡ segment_score q s t segments
    by_match m l h e = ap (scored q.method s t) (sym (chosen_in_slot ∙ (ap (λ (x : ℕ). keep (meets_match x s t) (slot_in slots asked_slot)) h ∙ e)))

    pub score_any : q.matching ≡ 0 → scored q.method s t (slot_in slots (slot_of q.kind q.phase t)) ≡ segment_score q s t segments
    score_any h = by_match 0 _ h (match_0 s t _)

    pub score_from_source : q.matching ≡ 1 → scored q.method s t (keep (starts_at s) (slot_in slots (slot_of q.kind q.phase t))) ≡ segment_score q s t segments
    score_from_source h = by_match 1 _ h (match_1 s t _)

    -- where the slot is narrowed to the target
    module _ (narrowed : List (List Segment)) (near : slot_in narrowed (slot_of q.kind q.phase t) ≡ keep (ends_at t) (slot_in slots (slot_of q.kind q.phase t))) where
      pub score_to_target : q.matching ≡ 2 → scored q.method s t (slot_in narrowed (slot_of q.kind q.phase t)) ≡ segment_score q s t segments
      score_to_target h = by_match 2 _ h (match_2 s t _ ∙ sym near)

      pub score_both : q.matching ≡ 3 → scored q.method s t (keep (starts_at s) (slot_in narrowed (slot_of q.kind q.phase t))) ≡ segment_score q s t segments
      score_both h = by_match 3 _ h (match_3 s t _ ∙ ap (keep (starts_at s)) (sym near))
