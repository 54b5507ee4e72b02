-- The lines that a group is read into, up to the first at fault: no more than its most, each of a row in its ranges, and in strict order.
use Rattle.std.proofs.Common.{Bool, true, false, List, [], ◌∷◌, ◌++◌, ◌≡◌, refl, ap, ℕ, ◌+◌, ◌<◌, ◌≤◌, arith, length, length-append, map, Option, Some, None, Result, Ok, Err}
use Rattle.std.specs.Prelude.{cond, leb, ℤ}
use Rattle.std.specs.List.{last_or}
use Rattle.std.proofs.lemmas.List.{length-map}
use borrow.Author.Tests.{leb-false}
use Rattle.text.specs.Fields.{line}
use Rattle.text.specs.Lines.{Line}
use Rattle.refusal.specs.declared.Reason.{Reason}
use Rattle.refusal.specs.declared.Reason.TheVariants.{Crowded}
use Rattle.refusal.specs.declared.Refusal.{Refusal}
use Rattle.gaze.specs.Lists.{Each, Adjacent}
use Rattle.gaze.specs.Ranges.{Before, Group}
use Rattle.gaze.proofs.ListLaws.{each_append, each_mapped, adjacent_mapped}
use Rattle.kinds.specs.Kinds.{Letter, byte_of, fields_of, most_of, in_range}
use Rattle.kinds.specs.Records.{ranged, of_row, or_out_of_range, line_of}
use Rattle.kinds.proofs.Order.{stands_before}
use Rattle.group.specs.declared.Placed.{Placed}
use Rattle.group.specs.Group.{disorder_after, unless, is_malformed, in_turn, at_place, read, so_far, lines_before}

-- ---- what a line has passed
module _ {A : Type 0} (most : ℕ) (keys : A → List ℕ) (done : List (Placed A)) (line : A) where
  record Passed (read : Result A Reason) : Type 0 where
    pub room : length done < most
    pub is : read ≡ Ok line
    pub after : disorder_after keys (last_or None done) line ≡ None

  passed : (read : Result A Reason) → in_turn most keys done read ≡ Ok line → Passed read
  unfolding in_turn
  passed (Err reason) = go (is_malformed {A = A} (Err reason)) (leb most (length done))
    where
      go : (a b : Bool) → cond a (Err reason) (cond b (Err Crowded) (Err reason)) ≡ Ok line → Passed (Err reason)
      go true b e = cc
      go false true e = cc
      go false false e = cc
  passed (Ok a) = go (leb most (length done)) refl (disorder_after keys (last_or None done) a) refl
    where
      go : (b : Bool) → leb most (length done) ≡ b → (d : Option Reason) → disorder_after keys (last_or None done) a ≡ d
          → cond b (Err Crowded) (unless d a) ≡ Ok line → Passed (Ok a)
      go true b d f e = cc
      go false b (Some reason) f e = cc
      go false b None f e =
          let k : a ≡ line = cc in
          record { room = leb-false most (length done) b; is = e; after = rw (← k) f }

of_line : {A : Type 0} (letter : Letter) (of : List ℤ → A) (bases : ℕ) (bytes : List ℕ) (a : A) → line_of letter of bases bytes ≡ Ok a
    → (row : List ℤ) × (in_range letter bases row ≡ true) × (a ≡ of row)
unfolding line_of ranged
of_line letter of bases bytes a = go (line (byte_of letter) 32 (fields_of letter) bytes)
  where
    inside : (row : List ℤ) (b : Bool) → in_range letter bases row ≡ b → or_out_of_range (cond b (Some (of row)) None) ≡ Ok a
        → (row : List ℤ) × (in_range letter bases row ≡ true) × (a ≡ of row)
    inside row true q e = (row, q, (cc))
    inside row false q e = cc

    go : (l : Option (List ℤ)) → of_row letter of bases l ≡ Ok a → (row : List ℤ) × (in_range letter bases row ≡ true) × (a ≡ of row)
    go (Some row) e = inside row (in_range letter bases row) refl e
    go None e = cc

at_ok : {A B : Type 0} (place : ℕ) (r : Result A Reason) (go : A → Result B Refusal) (b : B) → at_place place r go ≡ Ok b → (a : A) × (r ≡ Ok a) × (go a ≡ Ok b)
at_ok place (Ok a) go b e = (a, refl, e)
at_ok place (Err reason) go b e = cc

-- a group that is accepted has its lines before the first at fault: all of them
pub all_before : {A : Type 0} (letter : Letter) (of : List ℤ → A) (keys : A → List ℕ) (bases offset : ℕ) (done : List (Placed A)) (ls : List Line) (placed : List (Placed A))
    → read letter of keys bases offset done ls ≡ Ok placed → lines_before letter of keys bases offset done ls ≡ placed
unfolding read lines_before
all_before letter of keys bases offset done [] placed e = cc
all_before letter of keys bases offset done (l ∷ ls) placed e =
    let p = at_ok offset (in_turn (most_of letter) keys done (line_of letter of bases l.bytes)) _ placed e in
    rw p.1 (all_before letter of keys bases (offset + length l.bytes + 1) (done ++ (record { line = p.0; place = offset } ∷ [])) ls placed p.2)

-- ---- a list in order, with one more
more_in_order : {A : Type 0} (R : A → A → Type 0) (a : A) (l : List A) (b : A) → Adjacent R (a ∷ l) → ((c : A) → last_or (Some a) l ≡ Some c → R c b) → Adjacent R (a ∷ (l ++ (b ∷ [])))
unfolding Adjacent
more_in_order R a [] b p f = (f a refl, tt)
more_in_order R a (c ∷ l) b p f = (p.0, more_in_order R c l b p.1 f)

-- ---- the group
module _ {A : Type 0} (letter : Letter) (of : List ℤ → A) (keys : A → List ℕ) (bases : ℕ) (In : A → Type 0)
    (in_ranges : (row : List ℤ) → in_range letter bases row ≡ true → In (of row)) (same : (a b : A) → length (keys a) ≡ length (keys b)) where
  pub record Sound (done : List (Placed A)) : Type 0 where
    pub few : length done ≤ most_of letter
    pub each : Each (λ p. In p.line) done
    pub ordered : Adjacent (λ p q. Before (keys p.line) (keys q.line)) done

  in_line : (done : List (Placed A)) (next : Placed A) → Adjacent (λ p q. Before (keys p.line) (keys q.line)) done
      → disorder_after keys (last_or None done) next.line ≡ None → Adjacent (λ p q. Before (keys p.line) (keys q.line)) (done ++ (next ∷ []))
  unfolding Adjacent
  in_line [] next o e = tt
  in_line (p ∷ done) next o e =
      more_in_order (λ p q. Before (keys p.line) (keys q.line)) p done next o
      (λ c l. stands_before (keys c.line) (keys next.line) (same c.line next.line) (rw l at e))

  more : (offset : ℕ) (done : List (Placed A)) (line : A) (bytes : List ℕ) → Sound done → Passed (most_of letter) keys done line (line_of letter of bases bytes)
      → Sound (done ++ (record { line = line; place = offset } ∷ []))
  unfolding Each
  more offset done line bytes s p =
      let next : Placed A = record { line = line; place = offset } in
      let row = of_line letter of bases bytes line p.is in
      record {
        few = rw (length-append done (next ∷ [])) (omega (arith, p.room));
        each = each_append (λ p. In p.line) done (next ∷ []) s.each (rw row.2 (in_ranges row.0 row.1), tt);
        ordered = in_line done next s.ordered p.after;
      }

  pub sound_before : (offset : ℕ) (done : List (Placed A)) (ls : List Line) → Sound done → Sound (lines_before letter of keys bases offset done ls)
  unfolding lines_before
  sound_before offset done [] s = s
  sound_before offset done (l ∷ ls) s =
      go (in_turn (most_of letter) keys done (line_of letter of bases l.bytes)) refl
      (λ line. sound_before (offset + length l.bytes + 1) (done ++ (record { line = line; place = offset } ∷ [])) ls)
    where
      rest : A → List (Placed A)
      rest line = lines_before letter of keys bases (offset + length l.bytes + 1) (done ++ (record { line = line; place = offset } ∷ [])) ls

      go : (r : Result A Reason) → in_turn (most_of letter) keys done (line_of letter of bases l.bytes) ≡ r
          → ((line : A) → Sound (done ++ (record { line = line; place = offset } ∷ [])) → Sound (rest line)) → Sound (so_far done r rest)
      go (Ok line) e next = next line (more offset done line l.bytes s (passed (most_of letter) keys done line (line_of letter of bases l.bytes) e))
      go (Err reason) e next = s

  sound_from : (offset : ℕ) (done : List (Placed A)) (ls : List Line) (placed : List (Placed A)) → Sound done → read letter of keys bases offset done ls ≡ Ok placed → Sound placed
  sound_from offset done ls placed s e = rw (all_before letter of keys bases offset done ls placed e) at (sound_before offset done ls s)

  pub sound : (offset : ℕ) (ls : List Line) (placed : List (Placed A)) → read letter of keys bases offset [] ls ≡ Ok placed → Group (most_of letter) In keys (map (λ p. p.line) placed)
  unfolding Each Adjacent
  sound offset ls placed e =
      let s = sound_from offset [] ls placed (record { few = omega arith; each = tt; ordered = tt }) e in
      record {
        few = rw (length-map placed (λ p. p.line)) s.few;
        each = each_mapped (λ p. In p.line) In (λ p. p.line) placed (λ p h. h) s.each;
        ordered = adjacent_mapped (λ p. In p.line) (λ p q. Before (keys p.line) (keys q.line)) (λ a b. Before (keys a) (keys b)) (λ p. p.line) placed (λ p q f g h. h) s.each s.ordered;
      }

-- ---- a group with a line is accepted with a line
module _ {A : Type 0} (letter : Letter) (of : List ℤ → A) (keys : A → List ℕ) (bases : ℕ) where
  grown : (offset : ℕ) (done : List (Placed A)) (ls : List Line) (placed : List (Placed A)) → read letter of keys bases offset done ls ≡ Ok placed → length done ≤ length placed
  unfolding read
  grown offset done [] placed e = let k : done ≡ placed = cc in omega (arith, ap length k)
  grown offset done (l ∷ ls) placed e =
      let p = at_ok offset (in_turn (most_of letter) keys done (line_of letter of bases l.bytes)) _ placed e in
      let next : Placed A = record { line = p.0; place = offset } in
      omega (arith, length-append done (next ∷ []), grown (offset + length l.bytes + 1) (done ++ (next ∷ [])) ls placed p.2)

  pub some_line : (offset : ℕ) (l : Line) (ls : List Line) (placed : List (Placed A)) → read letter of keys bases offset [] (l ∷ ls) ≡ Ok placed → 0 < length placed
  unfolding read
  some_line offset l ls placed e =
      let p = at_ok offset (in_turn (most_of letter) keys [] (line_of letter of bases l.bytes)) _ placed e in
      grown (offset + length l.bytes + 1) (record { line = p.0; place = offset } ∷ []) ls placed p.2
