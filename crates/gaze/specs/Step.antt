-- The step from a source candidate to a target candidate of a sheet: whether it is legal, and what it gains. `steps` hands both to the
-- definitions of chains.
use Rattle.std.specs.Prelude.{Bool, false, not, ◌&&◌, ◌||◌, List, map, ℕ, ◌-◌, ◌%◌, leb, ltb, eqb, ℤ, pos, ◌+ℤ◌, ◌-ℤ◌}
use Rattle.std.specs.Prelude.{Option, Some, None as Nothing}
use Rattle.whole.specs.Whole.{sum_of}
use Rattle.gaze.specs.declared.Interruption.{Interruption}
use Rattle.gaze.specs.declared.Interruption.TheVariants.{None, FromSource, FromTarget}
use Rattle.gaze.specs.declared.Rule.{Rule}
use Rattle.gaze.specs.declared.Qualifier.{Qualifier}
use Rattle.gaze.specs.declared.Feature.{Feature}
use Rattle.gaze.specs.declared.Segment.{Segment}
use Rattle.gaze.specs.Lists.{keep, first_of, some_of}
use Rattle.gaze.specs.Chain.{Steps}
use Rattle.gaze.specs.Sheet.{Sheet, candidate}
use Rattle.gaze.specs.Penalty.{penalty}
use Rattle.gaze.specs.SegmentScore.{segment_score}

-- Never negative: candidates stand in order of position.
abbrev pub distance : Feature → Feature → ℕ
distance s t = t.position - s.position

-- The rule of a pair: R lines stand in strict order by source and target, so there is one at the most.
unfoldable pub rule_of : List Rule → Feature → Feature → Option Rule
rule_of rules s t = first_of (λ r. eqb r.source s.kind && eqb r.target t.kind) rules

-- ---- what a rule asks of a pair
abbrev pub meets_distance : Rule → ℕ → Bool
meets_distance r d = leb r.min d && leb d r.max

abbrev pub meets_phase : Rule → ℕ → Bool
meets_phase r d = eqb r.phase 3 || eqb (d % 3) r.phase

-- Where an interrupter stands: strictly between the source and the target.
abbrev pub stands_between : Feature → Feature → Feature → Bool
stands_between s t f = ltb s.position f.position && ltb f.position t.position

abbrev pub interrupts : Interruption → Feature → Feature → Feature → Bool
interrupts None s t f = false
interrupts (FromSource kind remainder) s t f =
    eqb f.kind kind && (stands_between s t f && eqb ((f.position - s.position) % 3) remainder)
interrupts (FromTarget kind remainder) s t f =
    eqb f.kind kind && (stands_between s t f && eqb ((t.position - f.position) % 3) remainder)

-- Any F line interrupts: it need not be on the chain.
abbrev pub interrupted : List Feature → Interruption → Feature → Feature → Bool
interrupted features i s t = some_of (interrupts i s t) features

abbrev pub meets : List Feature → Rule → Feature → Feature → Bool
meets features r s t =
    meets_distance r (distance s t) && (meets_phase r (distance s t) && not (interrupted features r.interruption s t))

-- ---- what a step gains: segment score - length penalty + the target's own score
abbrev pub of_pair : Feature → Feature → Qualifier → Bool
of_pair s t q = eqb q.source s.kind && eqb q.target t.kind

-- The sum over the rule's Q lines.
abbrev pub region_score : List Qualifier → List Segment → Feature → Feature → ℤ
region_score qualifiers segments s t =
    sum_of (map (λ q. segment_score q s.position t.position segments) (keep (of_pair s t) qualifiers))

abbrev pub gained : Sheet → Rule → Feature → Feature → ℤ
gained sheet r s t =
    (region_score sheet.qualifiers sheet.segments s t -ℤ penalty sheet.points r.function (distance s t)) +ℤ t.score

-- ---- by candidate numbers; a pair without a rule is not legal, and gains nothing
abbrev pub by_rule : {A : Type 0} → Option Rule → (Rule → A) → A → A
by_rule Nothing f other = other
by_rule (Some r) f other = f r

unfoldable pub legal : Sheet → ℕ → ℕ → Bool
legal sheet a b =
    let s = candidate sheet a in
    let t = candidate sheet b in
    by_rule (rule_of sheet.rules s t) (λ r. meets sheet.features r s t) false

unfoldable pub gain : Sheet → ℕ → ℕ → ℤ
gain sheet a b =
    let s = candidate sheet a in
    let t = candidate sheet b in
    by_rule (rule_of sheet.rules s t) (λ r. gained sheet r s t) (pos 0)

abbrev pub steps : Sheet → Steps
steps sheet = record { legal = legal sheet; gain = gain sheet }
