-- The candidates of a sheet in range: BEGIN and END among them stand from 1 to 4,000,000 with a type below 32 and a score in its range, and
-- their positions never fall.
use mathlib.Core.Path.{◌≡◌, sym, ap, ◌∙◌}
use mathlib.Core.Logic.{inl, inr, ⊎_elim}
use mathlib.Core.List.{List, [], ◌∷◌, ◌++◌}
use Prim.Native.Nat.{ℕ, suc, ◌+◌, ◌≤◌, ◌<◌}
use native.Mathlib.Nat.{eq-or-lt_of_le}
use native.Mathlib.Omega.{arith}
use lib.ListN.{length, length-append, get_or-append, get_or-eq_default}
use lib.Seq.{ext_get_or}
use Rattle.gaze.specs.declared.Feature.{Feature}
use Rattle.gaze.specs.Lists.{Each, Adjacent, listed}
use Rattle.gaze.specs.Sheet.{Sheet, begin, end, candidates, candidate, end_number}
use Rattle.gaze.specs.Ranges.{Within, Thousandths, FeatureRanges, Before, InOrder, feature_keys, InRange}
use Rattle.gaze.proofs.ListLaws.{each_at, each_append, each_map, adjacent_all, listed_length, listed_at}
use Rattle.gaze.proofs.Tests.{at_or_below}

pub record Placed (f : Feature) : Type 0 where
  pub kind : f.kind ≤ 31
  pub position : Within 1 4000000 f.position
  pub score : Thousandths f.score

abbrev NotBehind : Feature → Feature → Type 0
NotBehind a b = a.position ≤ b.position

-- features in order, then END
with_end : (last : Feature) (l : List Feature) → InOrder feature_keys l → Each (λ f. f.position ≤ last.position) l → Adjacent NotBehind (l ++ (last ∷ []))
unfolding Adjacent Each
with_end last [] o e = tt
with_end last (f ∷ []) o e = (e.0, tt)
with_end last (f ∷ g ∷ l) o e = (go o.0, with_end last (g ∷ l) o.1 e.1)
  where
    go : Before (feature_keys f) (feature_keys g) → f.position ≤ g.position
    go (inl h) = omega arith
    go (inr h) = let k = h.0 in omega arith

-- BEGIN, then those
with_begin : (first : Feature) (l : List Feature) → Each (λ f. first.position ≤ f.position) l → Adjacent NotBehind l → Adjacent NotBehind (first ∷ l)
unfolding Adjacent Each
with_begin first [] e a = tt
with_begin first (f ∷ l) e a = (e.0, a)

module _ (sheet : Sheet) (r : InRange sheet) where
  end_placed : Placed (end sheet)
  end_placed =
      let h = r.sequence_length in
      record { kind = omega arith; position = (omega arith, omega arith); score = omega arith }

  all_placed : Each Placed (candidates sheet)
  unfolding candidates Each
  all_placed = (
    record { kind = omega arith; position = (omega arith, omega arith); score = omega arith },
    each_append Placed sheet.features (end sheet ∷ [])
        (each_map (FeatureRanges sheet.sequence_length) Placed sheet.features within r.features.each)
        (end_placed, tt),
  )
    where
      within : (f : Feature) → FeatureRanges sheet.sequence_length f → Placed f
      within f q =
          let h = r.sequence_length in
          let k = q.position in
          let j = q.kind in
          record { kind = omega arith; position = (omega arith, omega arith); score = q.score }

  pub placed : (k : ℕ) → Placed (candidate sheet k)
  unfolding candidate
  placed k =
      ⊎_elim
      (λ h. rw (get_or-eq_default (candidates sheet) (end sheet) h) end_placed)
      (λ h. each_at Placed (end sheet) (candidates sheet) all_placed k h)
      (at_or_below (length (candidates sheet)) k)

  in_order : Adjacent NotBehind (candidates sheet)
  unfolding candidates Each
  in_order =
      with_begin begin (sheet.features ++ (end sheet ∷ []))
      (each_append (λ f. 1 ≤ f.position) sheet.features (end sheet ∷ [])
      (each_map (FeatureRanges sheet.sequence_length) (λ f. 1 ≤ f.position) sheet.features (λ f q. q.position.0) r.features.each)
      (r.sequence_length.0, tt))
      (with_end (end sheet) sheet.features r.features.ordered
      (each_map (FeatureRanges sheet.sequence_length) (λ f. f.position ≤ sheet.sequence_length) sheet.features (λ f q. q.position.1) r.features.each))

  pub candidates_length : length (candidates sheet) ≡ suc (end_number sheet)
  unfolding candidates
  candidates_length = go (length-append sheet.features (end sheet ∷ []))
    where
      go : {n : ℕ} → n ≡ length sheet.features + 1 → suc n ≡ suc (suc (length sheet.features))
      go h = omega arith

  pub never_falls : (a b : ℕ) → a ≤ b → b ≤ end_number sheet → (candidate sheet a).position ≤ (candidate sheet b).position
  unfolding candidate
  never_falls a b h k =
      ⊎_elim
      (λ (e : a ≡ b). rw e (omega arith))
      (λ (lt : a < b). adjacent_all NotBehind (λ f g e p q. omega arith) (end sheet) (candidates sheet) in_order a b lt (rw candidates_length (omega arith)))
      (eq-or-lt_of_le h)

-- the F lines are candidates 1 to n
pub features_listed : (sheet : Sheet) → sheet.features ≡ listed (candidate sheet) 1 (length sheet.features)
unfolding candidate candidates
features_listed sheet =
    ext_get_or (end sheet) sheet.features (listed (candidate sheet) 1 (length sheet.features))
    (sym (listed_length (candidate sheet) 1 (length sheet.features)))
    (λ i h. sym (get_or-append sheet.features (end sheet ∷ []) (end sheet) i h)
    ∙ (ap (candidate sheet) (one_on i) ∙ sym (listed_at (candidate sheet) 1 (length sheet.features) (end sheet) i h)))
  where
    one_on : (i : ℕ) → suc i ≡ 1 + i
    one_on i = omega arith
