-- A group's lines, read from the top up to the first at fault.
use Rattle.std.specs.Prelude.{Bool, true, false, cond, List, [], ◌∷◌, ◌++◌, ℕ, ◌+◌, leb, ℤ, length, Option, Some, None, Result, Ok, Err}
use Rattle.std.specs.List.{last_or}
use Rattle.arrayvec.specs.ArrayVec.{ArrayVec}
use Rattle.text.specs.Lines.{Line}
use Rattle.refusal.specs.declared.Reason.{Reason}
use Rattle.refusal.specs.declared.Reason.TheVariants.{Malformed, Crowded}
use Rattle.refusal.specs.declared.Refusal.{Refusal}
use Rattle.kinds.specs.Kinds.{Letter, most_of}
use Rattle.kinds.specs.Records.{line_of}
use Rattle.kinds.specs.Order.{order, disorder}
use Rattle.group.specs.declared.Placed.{Placed}

-- A line out of order right after the one before it, if there is one.
abbrev pub disorder_after : {A : Type 0} → (A → List ℕ) → Option (Placed A) → A → Option Reason
disorder_after keys None line = None
disorder_after keys (Some before) line = disorder (order (keys before.line) (keys line))

abbrev pub unless : {A : Type 0} → Option Reason → A → Result A Reason
unless None line = Ok line
unless (Some reason) line = Err reason

abbrev pub ordered : {A : Type 0} → (A → List ℕ) → List (Placed A) → Result A Reason → Result A Reason
ordered keys done (Ok line) = unless (disorder_after keys (last_or None done) line) line
ordered keys done (Err reason) = Err reason

abbrev pub is_malformed : {A : Type 0} → Result A Reason → Bool
is_malformed (Err Malformed) = true
is_malformed _ = false

-- What a line is, where `done` are the lines before it in its group: malformed, one too many, out of range or out of order, looked for in this order; or the
-- record that it says.
unfoldable pub in_turn : {A : Type 0} → ℕ → (A → List ℕ) → List (Placed A) → Result A Reason → Result A Reason
in_turn most keys done line = cond (is_malformed line) line (cond (leb most (length done)) (Err Crowded) (ordered keys done line))

-- On with a line, or refused at its place.
abbrev pub at_place : {A B : Type 0} → ℕ → Result A Reason → (A → Result B Refusal) → Result B Refusal
at_place place (Ok line) go = go line
at_place place (Err reason) go = Err (record { reason = reason; place = place })

-- The lines of a group, of which the first begins at the offset, after the lines `done`. The lines of a sheet's group are all ended: the next group, or the
-- trailer, begins where a line begins.
unfoldable pub read : {A : Type 0} → Letter → (List ℤ → A) → (A → List ℕ) → ℕ → ℕ → List (Placed A) → List Line → Result (List (Placed A)) Refusal
read letter of keys bases offset done [] = Ok done
read letter of keys bases offset done (l ∷ ls) =
    at_place offset (in_turn (most_of letter) keys done (line_of letter of bases l.bytes))
    (λ line. read letter of keys bases (offset + length l.bytes + 1) (done ++ (record { line = line; place = offset } ∷ [])) ls)

-- On with a line, or no further than the lines before it.
abbrev pub so_far : {A : Type 0} → List (Placed A) → Result A Reason → (A → List (Placed A)) → List (Placed A)
so_far done (Ok line) go = go line
so_far done (Err reason) go = done

-- The lines of a group before the first at fault, by the same steps as `read`: all of them, where none is.
unfoldable pub lines_before : {A : Type 0} → Letter → (List ℤ → A) → (A → List ℕ) → ℕ → ℕ → List (Placed A) → List Line → List (Placed A)
lines_before letter of keys bases offset done [] = done
lines_before letter of keys bases offset done (l ∷ ls) =
    so_far done (in_turn (most_of letter) keys done (line_of letter of bases l.bytes))
    (λ line. lines_before letter of keys bases (offset + length l.bytes + 1) (done ++ (record { line = line; place = offset } ∷ [])) ls)

-- The outcome of a reading that leaves its lines in a vector which it is lent.
abbrev pub outcome_of : {A B E : Type 0} → Result B E → List A → Result (List A) E
outcome_of (Ok b) items = Ok items
outcome_of (Err e) items = Err e

-- The list that the code hands over in a vector.
abbrev pub items_of : {A E : Type 0} → Result (ArrayVec A) E → Result (List A) E
items_of (Ok v) = Ok v.items
items_of (Err e) = Err e
