-- Segments by slot. Of what a Q line asks, a type and a phase depend on no source position, and the phase only on the remainder of a segment's start:
-- for phase 0, 1 and 2 a class 0 to 2, for phase 3 class 3, which holds all. Slot 4 k + c is class c of type k, so there are 64.
use Rattle.std.specs.List.Sorted.{IsNonDecreasingBy}
use Rattle.std.specs.Prelude.{◌≡◌, Bool, true, false, cond, ◌&&◌, List, [], ℕ, ◌+◌, ◌*◌, ◌/◌, ◌%◌, eqb, get_or, length}
use Rattle.gaze.specs.declared.Segment.{Segment}
use Rattle.gaze.specs.Lists.{keep, listed}
use Rattle.segment.specs.Choice.{fits}

-- ---- which slot
-- The class that a phase asks for at the target position t.
abbrev pub class_of : ℕ → ℕ → ℕ
class_of phase t = cond (eqb phase 3) 3 ((t + 2 * phase) % 3)

abbrev pub slot_of : ℕ → ℕ → ℕ → ℕ
slot_of kind phase t = 4 * kind + class_of phase t

-- Marks of the slots that a type and a phase can ask for, beside those that were there.
pub record Marked (kind phase : ℕ) (used₀ used : List Bool) : Type 0 where
  pub long : length used ≡ length used₀
  pub marked : (t : ℕ) → get_or used (slot_of kind phase t) false ≡ true
  pub kept : (j : ℕ) → get_or used₀ j false ≡ true → get_or used j false ≡ true

-- A phase that asks for the class c at the target position c.
abbrev pub class_phase : ℕ → ℕ
class_phase class = cond (eqb class 3) 3 0

abbrev pub in_slot : ℕ → Segment → Bool
in_slot j = fits (j / 4) (class_phase (j % 4)) (j % 4)

-- ---- the slots of some segments, as a list of 64 lists
unfoldable pub slots_of : List Segment → List (List Segment)
slots_of segments = listed (λ j. keep (in_slot j) segments) 0 64

abbrev pub slot_in : List (List Segment) → ℕ → List Segment
slot_in slots j = get_or slots j []

-- ---- the rows of each slot that start or end at a position
abbrev pub starts_at : ℕ → Segment → Bool
starts_at s g = eqb g.start s

abbrev pub ends_at : ℕ → Segment → Bool
ends_at t g = eqb g.end t

-- Of each slot those that end at t, where the slot is used, else none.
unfoldable pub ending : List Bool → ℕ → List (List Segment) → List (List Segment)
ending used t slots = listed (λ j. keep (λ g. get_or used j false && ends_at t g) (slot_in slots j)) 0 64

-- Segments in the order of their starts.
abbrev pub Rising : List Segment → Type 0
Rising segments = IsNonDecreasingBy (λ g. g.start) segments
