-- Whatever the reader refuses has a number from 1 to 7; the others are given of a sheet that was read.
use Rattle.std.proofs.Common.{Bool, true, false, List, [], ◌∷◌, ◌≡◌, subst, ℕ, ◌+◌, ◌≤◌, arith, length, Option, Some, None, Result, Ok, Err}
use Rattle.std.specs.Prelude.{cond, ◌&&◌, ◌++◌, leb, ℤ}
use Rattle.std.specs.List.{last_or}
use Rattle.std.specs.declared.cmp.Ordering.{Ordering}
use Rattle.std.specs.declared.cmp.Ordering.TheVariants.{Less, Equal, Greater}
use Rattle.text.specs.Lines.{Line}
use Rattle.text.specs.Fields.{line}
use Rattle.gaze.specs.Ranges.{point_keys, rule_keys, qualifier_keys, feature_keys, segment_keys}
use Rattle.refusal.specs.declared.Reason.{Reason}
use Rattle.refusal.specs.declared.Reason.TheVariants.{Size, Crowded, Link}
use Rattle.refusal.specs.declared.Refusal.{Refusal}
use Rattle.refusal.specs.Numbers.{number_of}
use Rattle.kinds.specs.Kinds.{Letter, byte_of, fields_of, most_of, in_range, L, P, R, Q, F, S}
use Rattle.kinds.specs.Records.{ranged, or_out_of_range, of_row, line_of, length_of, point_of, rule_of, qualifier_of, feature_of, segment_of}
use Rattle.kinds.specs.Order.{order, disorder}
use Rattle.kinds.specs.Keys.{length_keys}
use Rattle.group.specs.declared.Placed.{Placed}
use Rattle.group.specs.Group.{disorder_after, unless, ordered, is_malformed, in_turn, at_place, read}
use Rattle.trailer.specs.declared.Trailer.{Trailer}
use Rattle.trailer.specs.Trailer.{trailer_of}
use Rattle.links.specs.Links.{lines_in, has_rule, has_points, linked}
use Rattle.sheet.specs.Reading.{and_then, group_at, bases_of, of_groups, with_trailer, reading}

-- where there is a reason, its number is at most 7
abbrev ReasonIn : {A : Type 0} → Result A Reason → Type 0
ReasonIn (Ok a) = Unit {0}
ReasonIn (Err reason) = number_of reason ≤ 7

abbrev RefusalIn : {A : Type 0} → Result A Refusal → Type 0
RefusalIn (Ok a) = Unit {0}
RefusalIn (Err refusal) = number_of refusal.reason ≤ 7

-- ---- a line
row_in : {A : Type 0} (letter : Letter) (of : List ℤ → A) (bases : ℕ) (row : Option (List ℤ)) → ReasonIn (of_row letter of bases row)
unfolding ranged
row_in letter of bases None = omega arith
row_in {A} letter of bases (Some row) = go (in_range letter bases row)
  where
    go : (b : Bool) → ReasonIn (or_out_of_range (cond b (Some (of row)) None))
    go true = tt
    go false = omega arith

line_in : {A : Type 0} (letter : Letter) (of : List ℤ → A) (bases : ℕ) (bytes : List ℕ) → ReasonIn (line_of letter of bases bytes)
unfolding line_of
line_in letter of bases bytes = row_in letter of bases (line (byte_of letter) 32 (fields_of letter) bytes)

order_in : {A : Type 0} (o : Ordering) (line : A) → ReasonIn (unless (disorder o) line)
order_in Less line = tt
order_in Equal line = omega arith
order_in Greater line = omega arith

after_in : {A : Type 0} (keys : A → List ℕ) (before : Option (Placed A)) (line : A) → ReasonIn (unless (disorder_after keys before line) line)
after_in keys None line = tt
after_in keys (Some before) line = order_in (order (keys before.line) (keys line)) line

turn_in : {A : Type 0} (most : ℕ) (keys : A → List ℕ) (done : List (Placed A)) (line : Result A Reason) → ReasonIn line → ReasonIn (in_turn most keys done line)
unfolding in_turn
turn_in {A} most keys done line h = go (is_malformed line) (leb most (length done))
  where
    rest : (line : Result A Reason) → ReasonIn line → ReasonIn (ordered keys done line)
    rest (Ok line) h = after_in keys (last_or None done) line
    rest (Err reason) h = h

    go : (a b : Bool) → ReasonIn (cond a line (cond b (Err Crowded) (ordered keys done line)))
    go true b = h
    go false true = omega arith
    go false false = rest line h

-- ---- a group
placed : {A B : Type 0} (place : ℕ) (r : Result A Reason) (go : A → Result B Refusal) → ReasonIn r → ((a : A) → RefusalIn (go a)) → RefusalIn (at_place place r go)
placed place (Ok a) go h k = k a
placed place (Err reason) go h k = h

read_in : {A : Type 0} (letter : Letter) (of : List ℤ → A) (keys : A → List ℕ) (bases offset : ℕ) (done : List (Placed A)) (ls : List Line)
    → RefusalIn (read letter of keys bases offset done ls)
unfolding read
read_in letter of keys bases offset done [] = tt
read_in letter of keys bases offset done (l ∷ ls) =
    placed offset (in_turn (most_of letter) keys done (line_of letter of bases l.bytes)) _ (turn_in (most_of letter) keys done _ (line_in letter of bases l.bytes))
    (λ line. read_in letter of keys bases (offset + length l.bytes + 1) (done ++ (record { line = line; place = offset } ∷ [])) ls)

linked_in : {A : Type 0} (has : A → Bool) (l : List (Placed A)) → RefusalIn (linked has l)
unfolding linked
linked_in has [] = tt
linked_in has (l ∷ ls) = go (has l.line) (linked_in has ls)
  where
    go : (b : Bool) → RefusalIn (linked has ls) → RefusalIn (cond b (linked has ls) (Err (record { reason = Link; place = l.place })))
    go true h = h
    go false h = omega arith

-- ---- a text
next : {A B : Type 0} (r : Result A Refusal) (go : A → Result B Refusal) → RefusalIn r → ((a : A) → RefusalIn (go a)) → RefusalIn (and_then r go)
next (Ok a) go h k = k a
next (Err refusal) go h k = h

groups_in : (bytes : List ℕ) (t : Trailer) → RefusalIn (of_groups bytes t)
unfolding of_groups
groups_in bytes t =
    next (group_at L length_of length_keys 0 bytes 0 t.p) _ (read_in _ _ _ _ _ _ _) (λ l.
    next (group_at P point_of point_keys 0 bytes t.p t.r) _ (read_in _ _ _ _ _ _ _) (λ points.
    next (group_at R rule_of rule_keys 0 bytes t.r t.q) _ (read_in _ _ _ _ _ _ _) (λ rules.
    next (group_at Q qualifier_of qualifier_keys 0 bytes t.q t.f) _ (read_in _ _ _ _ _ _ _) (λ qualifiers.
    next (group_at F feature_of feature_keys (bases_of l) bytes t.f t.s) _ (read_in _ _ _ _ _ _ _) (λ features.
    next (group_at S segment_of segment_keys (bases_of l) bytes t.s t.top) _ (read_in _ _ _ _ _ _ _) (λ segments.
    next (linked (λ q. has_rule (lines_in rules) q.source q.target) qualifiers) _ (linked_in _ _) (λ u.
    next (linked (λ r. has_points (lines_in points) r.function) rules) _ (linked_in _ _) (λ v. tt))))))))

reading_in : (bytes : List ℕ) → RefusalIn (reading bytes)
unfolding reading
reading_in bytes = go (leb 1 (length bytes) && leb (length bytes) 65536) (trailer_of bytes)
  where
    go : (b : Bool) (t : Option Trailer) → RefusalIn (cond b (with_trailer bytes t) (Err (record { reason = Size; place = 0 })))
    go true (Some t) = groups_in bytes t
    go true None = omega arith
    go false t = omega arith

pub at_most_7 : (bytes : List ℕ) (refusal : Refusal) → reading bytes ≡ Err refusal → number_of refusal.reason ≤ 7
at_most_7 bytes refusal e = subst RefusalIn e (reading_in bytes)
