-- Laws of `in_turn`, `read` and `lines_before`: a line after those before it, and the next line of a group that is read up to a place.
use Rattle.std.proofs.Common.{List, [], ◌∷◌, ◌++◌, ◌≡◌, refl, ℕ, ◌+◌, ◌-◌, ◌<◌, ◌≤◌, arith, length, take, drop, length-drop, Some, None, Ok, Err}
use Rattle.std.specs.Prelude.{ℤ}
use Rattle.std.specs.List.{last_or, slice_get}
use lib.Seq.{length-take-le}
use borrow.Author.Tests.{lt-leb}
use Rattle.text.specs.Words.{next_place}
use Rattle.text.specs.Lines.{lines}
use Rattle.text.proofs.Words.{found}
use Rattle.text.proofs.Lines.{lines_at, lines_end}
use Rattle.refusal.specs.declared.Reason.{Reason}
use Rattle.kinds.specs.Kinds.{Letter, most_of}
use Rattle.kinds.specs.Records.{line_of}
use Rattle.group.specs.declared.Placed.{Placed}
use Rattle.group.specs.Group.{disorder_after, unless, in_turn, read, lines_before}

-- ---- one line
last_from : {A : Type 0} (a : A) (l : List A) → slice_get (a ∷ l) (length l) ≡ last_or (Some a) l
last_from a [] = refl
last_from a (b ∷ l) = last_from b l

pub last_is : {A : Type 0} (l : List A) → slice_get l (length l - 1) ≡ last_or None l
last_is [] = refl
last_is (a ∷ l) = let n : length (a ∷ l) - 1 ≡ length l = omega arith in rw n (last_from a l)

pub in_turn_is : {A : Type 0} (most : ℕ) (keys : A → List ℕ) (done : List (Placed A)) (line : A) → length done < most
    → in_turn most keys done (Ok line) ≡ unless (disorder_after keys (last_or None done) line) line
unfolding in_turn
in_turn_is most keys done line room = rw (lt-leb most (length done) room)

-- ---- where a line ends
pub end_low : (separator place : ℕ) (text : List ℕ) → place ≤ next_place separator place text
unfolding next_place
end_low separator place text = omega arith

pub end_high : (separator place : ℕ) (text : List ℕ) → place ≤ length text → next_place separator place text ≤ length text
end_high separator place text h = (found separator place text (next_place separator place text) h refl).high

-- ---- a group whose lines are read up to a place
module _ {A : Type 0} (letter : Letter) (of : List ℤ → A) (keys : A → List ℕ) (bases offset : ℕ) (bytes : List ℕ) (place : ℕ) (done : List (Placed A)) where
  pub read_end : length bytes ≤ place → read letter of keys bases (offset + place) done (lines (drop place bytes)) ≡ Ok done
  unfolding read
  read_end h = rw (lines_end bytes place h)

  pub before_end : length bytes ≤ place → lines_before letter of keys bases (offset + place) done (lines (drop place bytes)) ≡ done
  unfolding lines_before
  before_end h = rw (lines_end bytes place h)

  module _ (end : ℕ) (h : place < length bytes) (e : end ≡ next_place 10 place bytes) where
    pub read_refused : (reason : Reason) → in_turn (most_of letter) keys done (line_of letter of bases (take (end - place) (drop place bytes))) ≡ Err reason
        → read letter of keys bases (offset + place) done (lines (drop place bytes)) ≡ Err (record { reason = reason; place = offset + place })
    unfolding read
    read_refused reason r = rw (lines_at bytes place end h e) (rw r)

    pub before_refused : (reason : Reason) → in_turn (most_of letter) keys done (line_of letter of bases (take (end - place) (drop place bytes))) ≡ Err reason
        → lines_before letter of keys bases (offset + place) done (lines (drop place bytes)) ≡ done
    unfolding lines_before
    before_refused reason r = rw (lines_at bytes place end h e) (rw r)

    after : offset + place + length (take (end - place) (drop place bytes)) + 1 ≡ offset + (end + 1)
    after =
        let f = found 10 place bytes end (omega arith) e in
        omega (arith, length-take-le (end - place) (drop place bytes) (omega (arith, length-drop place bytes, f.high)), f.low)

    pub read_on : (line : A) → in_turn (most_of letter) keys done (line_of letter of bases (take (end - place) (drop place bytes))) ≡ Ok line
        → read letter of keys bases (offset + place) done (lines (drop place bytes))
        ≡ read letter of keys bases (offset + (end + 1)) (done ++ (record { line = line; place = offset + place } ∷ [])) (lines (drop (end + 1) bytes))
    unfolding read
    read_on line r = rw (lines_at bytes place end h e) (simp (r, after))

    pub before_on : (line : A) → in_turn (most_of letter) keys done (line_of letter of bases (take (end - place) (drop place bytes))) ≡ Ok line
        → lines_before letter of keys bases (offset + place) done (lines (drop place bytes))
        ≡ lines_before letter of keys bases (offset + (end + 1)) (done ++ (record { line = line; place = offset + place } ∷ [])) (lines (drop (end + 1) bytes))
    unfolding lines_before
    before_on line r = rw (lines_at bytes place end h e) (simp (r, after))
