-- What a text is: a sheet, or refused with a number and a place. Every byte string is one or the other. The order of the checks is 1, 2; then line by line
-- from the top, group after group; then 6, all Q lines before all R lines.
use Rattle.std.specs.Prelude.{◌&&◌, cond, List, [], ◌∷◌, ℕ, leb, ℤ, length, Option, Some, None, Result, Ok, Err}
use Rattle.gaze.specs.Sheet.{Sheet}
use Rattle.gaze.specs.Ranges.{point_keys, rule_keys, qualifier_keys, feature_keys, segment_keys}
use Rattle.text.specs.Lines.{lines}
use Rattle.refusal.specs.declared.Reason.TheVariants.{Size, Trailer as NoTrailer}
use Rattle.refusal.specs.declared.Refusal.{Refusal}
use Rattle.kinds.specs.declared.Length.{Length}
use Rattle.kinds.specs.Kinds.{Letter, L, P, R, Q, F, S}
use Rattle.kinds.specs.Records.{length_of, point_of, rule_of, qualifier_of, feature_of, segment_of}
use Rattle.kinds.specs.Keys.{length_keys}
use Rattle.group.specs.declared.Placed.{Placed}
use Rattle.group.specs.Group.{read}
use Rattle.trailer.specs.declared.Trailer.{Trailer}
use Rattle.trailer.specs.Trailer.{part, trailer_of}
use Rattle.links.specs.Links.{lines_in, has_rule, has_points, linked}

-- A refusal ends the reading.
abbrev pub and_then : {A B : Type 0} → Result A Refusal → (A → Result B Refusal) → Result B Refusal
and_then (Ok a) go = go a
and_then (Err refusal) go = Err refusal

-- The group that stands from one place up to another, in a sequence of so many bases.
abbrev pub group_at : {A : Type 0} → Letter → (List ℤ → A) → (A → List ℕ) → ℕ → List ℕ → ℕ → ℕ → Result (List (Placed A)) Refusal
group_at letter of keys bases bytes from to = read letter of keys bases from [] (lines (part bytes from to))

-- The L line's number.
abbrev pub bases_of : List (Placed Length) → ℕ
bases_of [] = 0
bases_of (l ∷ ls) = l.line.bases

-- L stands from the top up to the first offset, each other group from its offset up to the next. F and S lines are held to the length that L says.
unfoldable pub of_groups : List ℕ → Trailer → Result Sheet Refusal
of_groups bytes t =
    and_then (group_at L length_of length_keys 0 bytes 0 t.p) (λ l.
    and_then (group_at P point_of point_keys 0 bytes t.p t.r) (λ points.
    and_then (group_at R rule_of rule_keys 0 bytes t.r t.q) (λ rules.
    and_then (group_at Q qualifier_of qualifier_keys 0 bytes t.q t.f) (λ qualifiers.
    and_then (group_at F feature_of feature_keys (bases_of l) bytes t.f t.s) (λ features.
    and_then (group_at S segment_of segment_keys (bases_of l) bytes t.s t.top) (λ segments.
    and_then (linked (λ q. has_rule (lines_in rules) q.source q.target) qualifiers) (λ _.
    and_then (linked (λ r. has_points (lines_in points) r.function) rules) (λ _.
    Ok (record {
      sequence_length = bases_of l;
      points = lines_in points;
      rules = lines_in rules;
      qualifiers = lines_in qualifiers;
      features = lines_in features;
      segments = lines_in segments;
    })))))))))

abbrev pub with_trailer : List ℕ → Option Trailer → Result Sheet Refusal
with_trailer bytes None = Err (record { reason = NoTrailer; place = 0 })
with_trailer bytes (Some t) = of_groups bytes t

-- The text is 1 to 65,536 bytes long and ends in a trailer that is right.
unfoldable pub reading : List ℕ → Result Sheet Refusal
reading bytes =
    cond (leb 1 (length bytes) && leb (length bytes) 65536)
    (with_trailer bytes (trailer_of bytes))
    (Err (record { reason = Size; place = 0 }))
