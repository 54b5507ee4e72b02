-- For every input one outcome is right: two that meet a public contract are equal, the lent buffer too.
use mathlib.Core.Path.{◌≡◌, refl, sym, ap, ◌∙◌}
use mathlib.Core.Logic.{◌⊎◌, inl, inr}
use mathlib.Core.List.{List, ◌++◌}
use Prim.Native.Nat.{ℕ, ◌≤◌, ◌<◌}
use native.Mathlib.Omega.{arith}
use lib.ListN.{length, drop}
use Rattle.gaze.specs.declared.Segment.{Segment}
use Rattle.std.specs.Prelude.{ℤ, Result, Ok, Err}
use Rattle.gaze.specs.declared.Fault.{Fault}
use Rattle.gaze.specs.declared.Fault.TheVariants.{NoChain, BadStep}
use Rattle.refusal.specs.declared.Refusal.{Refusal}
use Rattle.gaze.specs.Chain.{Best, Valid, Judged, total}
use Rattle.gaze.specs.Sheet.{Sheet, end_number}
use Rattle.gaze.specs.Step.{steps}
use Rattle.gaze.proofs.Unique.{best_unique, judged_unique}
use Rattle.records.specs.declared.Region.{Region}
use Rattle.sheet.specs.Reading.{reading}
use Rattle.liivokarp.specs.declared.Reply.{Reply}
use Rattle.liivokarp.specs.Replies.{refused, done, candidates_of, Assembles, sheet_refused, no_room, no_structure, assembled, ScoresChain, its_sheet_refused, no_chain, breaks, scored, ScoresRegion}
use Rattle.liivokarp.specs.Outcomes.{refusal_of}

-- ---- a text is read in one way
not_both : {x : Result Sheet Refusal} {refusal : Refusal} {sheet : Sheet} → x ≡ Err refusal → x ≡ Ok sheet → ⊥
not_both p q = cc

same_refusal : {x : Result Sheet Refusal} {a b : Refusal} → x ≡ Err a → x ≡ Err b → refused a ≡ refused b
same_refusal p q = cc

same_sheet : {x : Result Sheet Refusal} {sheet sheet' : Sheet} → x ≡ Ok sheet → x ≡ Ok sheet' → sheet ≡ sheet'
same_sheet p q = cc

-- ---- one sheet, one buffer
room_or_not : {sheet sheet' : Sheet} {n : ℕ} → sheet ≡ sheet' → n < candidates_of sheet → candidates_of sheet' ≤ n → ⊥
room_or_not e a b = omega (arith, ap candidates_of e)

valid_or_none : {sheet sheet' : Sheet} {c : List ℕ} → sheet ≡ sheet' → ((d : List ℕ) → Valid (steps sheet) (end_number sheet) d → ⊥)
    → Best (steps sheet') (end_number sheet') c → ⊥
valid_or_none {sheet} {sheet'} {c} e never best = never c (rw e best.valid)

one_best : {sheet sheet' : Sheet} {c d : List ℕ} → sheet ≡ sheet' → Best (steps sheet) (end_number sheet) c → Best (steps sheet') (end_number sheet') d → c ≡ d
one_best {sheet} {sheet'} {c} {d} e p q = best_unique (steps sheet') (end_number sheet') c d (rw e at p) q

pub record Same (r : Reply) (x : List ℕ) (r' : Reply) (x' : List ℕ) : Type 0 where
  pub reply : r ≡ r'
  pub buffer : x ≡ x'

both : {r r' a b : Reply} {x x' y z : List ℕ} → a ≡ b → y ≡ z → r ≡ a → r' ≡ b → x ≡ y → x' ≡ z → Same r x r' x'
both p q h h' k k' = record { reply = h ∙ (p ∙ sym h'); buffer = k ∙ (q ∙ sym k') }

-- THE THEOREM for `lk_assemble`
pub assembles_determined : {bytes chain₀ : List ℕ} {r r' : Reply} {x x' : List ℕ} → Assembles bytes chain₀ r x → Assembles bytes chain₀ r' x' → Same r x r' x'
assembles_determined (sheet_refused n e h k) (sheet_refused n' e' h' k') = both (same_refusal e e') refl h h' k k'
assembles_determined (sheet_refused n e h k) (no_room s e' l h' k') = absurd (not_both e e')
assembles_determined (sheet_refused n e h k) (no_structure s e' l never h' k') = absurd (not_both e e')
assembles_determined (sheet_refused n e h k) (assembled s e' l c best h' k') = absurd (not_both e e')
assembles_determined (no_room s e l h k) (sheet_refused n e' h' k') = absurd (not_both e' e)
assembles_determined (no_room s e l h k) (no_room s' e' l' h' k') = both refl refl h h' k k'
assembles_determined (no_room s e l h k) (no_structure s' e' l' never h' k') = absurd (room_or_not (same_sheet e e') l l')
assembles_determined (no_room s e l h k) (assembled s' e' l' c best h' k') = absurd (room_or_not (same_sheet e e') l l')
assembles_determined (no_structure s e l never h k) (sheet_refused n e' h' k') = absurd (not_both e' e)
assembles_determined (no_structure s e l never h k) (no_room s' e' l' h' k') = absurd (room_or_not (same_sheet e' e) l' l)
assembles_determined (no_structure s e l never h k) (no_structure s' e' l' never' h' k') = both refl refl h h' k k'
assembles_determined (no_structure s e l never h k) (assembled s' e' l' c best h' k') = absurd (valid_or_none (same_sheet e e') never best)
assembles_determined (assembled s e l c best h k) (sheet_refused n e' h' k') = absurd (not_both e' e)
assembles_determined (assembled s e l c best h k) (no_room s' e' l' h' k') = absurd (room_or_not (same_sheet e' e) l' l)
assembles_determined (assembled s e l c best h k) (no_structure s' e' l' never h' k') = absurd (valid_or_none (same_sheet e' e) never best)
assembles_determined {chain₀ = chain₀} (assembled s e l c best h k) (assembled s' e' l' d best' h' k') =
    let same = same_sheet e e' in
    let one = one_best same best best' in
    both (λ t. done (total (steps (same t)) (one t)) (length (one t))) (λ t. one t ++ drop (length (one t)) chain₀) h h' k k'

-- ---- a lent chain: the sheet is refused, or the chain is judged
record Refused (bytes : List ℕ) (r : Reply) : Type 0 where
  refusal : Refusal
  read : reading bytes ≡ Err refusal
  replied : r ≡ refused refusal

-- The reply to a judged chain, which counts its candidates where it is valid.
abbrev judged_reply : Result ℤ Fault → ℕ → Reply
judged_reply (Ok score) count = done score count
judged_reply (Err fault) count = refused (refusal_of fault)

record Judging (bytes chain : List ℕ) (r : Reply) : Type 0 where
  sheet : Sheet
  read : reading bytes ≡ Ok sheet
  verdict : Result ℤ Fault
  judged : Judged (steps sheet) (end_number sheet) chain verdict
  replied : r ≡ judged_reply verdict (length chain)

either : {bytes chain : List ℕ} {r : Reply} → ScoresChain bytes chain r → Refused bytes r ⊎ Judging bytes chain r
either (its_sheet_refused refusal e h) = inl (record { refusal = refusal; read = e; replied = h })
either (no_chain s e never h) = inr (record { sheet = s; read = e; verdict = Err NoChain; judged = never; replied = h })
either (breaks s e c k bad h) = inr (record { sheet = s; read = e; verdict = Err (BadStep k); judged = (c, bad); replied = h })
either {chain = chain} (scored s e v h) = inr (record { sheet = s; read = e; verdict = Ok (total (steps s) chain); judged = (v, refl); replied = h })

one_verdict : {sheet sheet' : Sheet} (chain : List ℕ) (v w : Result ℤ Fault) → sheet ≡ sheet' → Judged (steps sheet) (end_number sheet) chain v
    → Judged (steps sheet') (end_number sheet') chain w → v ≡ w
one_verdict {sheet} {sheet'} chain v w e p q = judged_unique (steps sheet') (end_number sheet') chain v w (rw e at p) q

-- THE THEOREM for `lk_score_chain`, which changes no buffer
pub scores_determined : {bytes chain : List ℕ} {r r' : Reply} → ScoresChain bytes chain r → ScoresChain bytes chain r' → r ≡ r'
scores_determined {bytes} {chain} {r} {r'} a b = go (either a) (either b)
  where
    go : Refused bytes r ⊎ Judging bytes chain r → Refused bytes r' ⊎ Judging bytes chain r' → r ≡ r'
    go (inl p) (inl q) = p.replied ∙ (same_refusal p.read q.read ∙ sym q.replied)
    go (inl p) (inr q) = absurd (not_both p.read q.read)
    go (inr p) (inl q) = absurd (not_both q.read p.read)
    go (inr p) (inr q) =
        p.replied
        ∙ (ap (λ (v : Result ℤ Fault). judged_reply v (length chain)) (one_verdict chain p.verdict q.verdict (same_sheet p.read q.read) p.judged q.judged)
        ∙ sym q.replied)

-- THE THEOREM for `lk_region_score`, which changes no buffer
pub region_determined : (region : Region) (records : List Segment) {r r' : Reply} → ScoresRegion region records r → ScoresRegion region records r' → r ≡ r'
region_determined region records p q = p ∙ sym q
