-- The step from a source into a target, by whether their types have a rule and whether they meet it.
use mathlib.Core.Path.{◌≡◌, refl, sym, ap, ap₂, ◌∙◌}
use mathlib.Core.Bool.{Bool, true, false, cond}
use mathlib.Core.List.{List}
use Prim.Native.Nat.{ℕ, ◌-◌, ◌≤◌, ◌<◌}
use native.Mathlib.Omega.{arith}
use lib.IntN.{ℤ, pos, nat_abs, ◌+ℤ◌, ◌-ℤ◌}
use lib.ListN.{get_or}
use Rattle.std.specs.Prelude.{Option, None, Some}
use Rattle.gaze.specs.declared.Feature.{Feature}
use Rattle.gaze.specs.declared.Point.{Point}
use Rattle.gaze.specs.declared.Rule.{Rule}
use Rattle.gaze.specs.Lists.{first_of}
use Rattle.gaze.specs.Penalty.{penalty}
use Rattle.gaze.specs.Sheet.{Sheet, begin, candidate}
use Rattle.gaze.specs.Step.{region_score, rule_of, meets, gained, by_rule, legal, gain, steps}
use Rattle.gaze.proofs.Candidates.{placed, never_falls}
use Rattle.rules.specs.Rules.{of_types}
use Rattle.chains.specs.Tables.{step}
use Rattle.regions.proofs.Held.{candidate_is}
use Rattle.step.specs.Target.{IsAimed}
use Rattle.step.specs.declared.aim.Target.TheInside.{Inside}

-- ---- by the rule that is found
module _ (sheet : Sheet) (s t : ℕ) {rule : Option Rule} (is : rule ≡ rule_of sheet.rules (candidate sheet s) (candidate sheet t)) where
  step_is : step (steps sheet) s t
      ≡ cond (by_rule rule (λ r. meets sheet.features r (candidate sheet s) (candidate sheet t)) false)
      (Some (by_rule rule (λ r. gained sheet r (candidate sheet s) (candidate sheet t)) (pos 0)))
      None
  unfolding legal gain
  step_is =
      ap
      (λ (o : Option Rule). cond (by_rule o (λ r. meets sheet.features r (candidate sheet s) (candidate sheet t)) false)
      (Some (by_rule o (λ r. gained sheet r (candidate sheet s) (candidate sheet t)) (pos 0)))
      None)
      (sym is)

-- ---- of a target that is aimed at, and a source before it
module _ {a : Inside} (h : IsAimed a) (s : ℕ) (before : s < a.number) {f : Feature} (from : f ≡ get_or a.evidence.candidates.now s begin) where
  from_is : f ≡ candidate a.evidence.sheet.now s
  from_is = from ∙ candidate_is h.held s (omega arith)

  pub source_kind : f.kind < 32
  source_kind = rw from_is (omega (arith, (placed a.evidence.sheet.now h.held.ranged s).kind))

  pub target_kind : a.feature.kind < 32
  target_kind = rw h.feature (omega (arith, (placed a.evidence.sheet.now h.held.ranged a.number).kind))

  pub target_within : a.interrupters.target.position ≤ 4000000
  target_within = rw h.target (placed a.evidence.sheet.now h.held.ranged a.number).position.1

  pub meets_rises : f.position ≤ a.interrupters.target.position
  meets_rises = rw (from_is, h.target) (never_falls a.evidence.sheet.now h.held.ranged s a.number (omega arith) h.held.to_end)

  pub step_rises : f.position ≤ a.feature.position
  step_rises = rw (from_is, h.feature) (never_falls a.evidence.sheet.now h.held.ranged s a.number (omega arith) h.held.to_end)

  pub score_small : nat_abs a.feature.score ≤ 10000000
  score_small = rw h.feature (placed a.evidence.sheet.now h.held.ranged a.number).score

  pub source_from_one : 1 ≤ f.position
  source_from_one = rw from_is (placed a.evidence.sheet.now h.held.ranged s).position.0

  rule_found : {rule : Option Rule} → rule ≡ first_of (of_types f.kind a.feature.kind) a.rules.now
      → rule ≡ rule_of a.evidence.sheet.now.rules (candidate a.evidence.sheet.now s) (candidate a.evidence.sheet.now a.number)
  unfolding rule_of
  rule_found is = is ∙ rw (from_is, h.feature, h.rules) refl

  pub no_rule : None ≡ first_of (of_types f.kind a.feature.kind) a.rules.now → None ≡ step (steps a.evidence.sheet.now) s a.number
  no_rule is = sym (step_is a.evidence.sheet.now s a.number (rule_found is))

  module _ {r : Rule} (is : Some r ≡ first_of (of_types f.kind a.feature.kind) a.rules.now) {met : Bool} (met_is : met ≡ meets a.interrupters.features r f a.interrupters.target) where
    met_by : meets a.evidence.sheet.now.features r (candidate a.evidence.sheet.now s) (candidate a.evidence.sheet.now a.number) ≡ met
    met_by = sym (met_is ∙ rw (from_is, h.target, h.features) refl)

    pub not_met : met ≡ false → None ≡ step (steps a.evidence.sheet.now) s a.number
    not_met n =
        sym (step_is a.evidence.sheet.now s a.number (rule_found is)
        ∙ ap (λ (b : Bool). cond b (Some (gained a.evidence.sheet.now r (candidate a.evidence.sheet.now s) (candidate a.evidence.sheet.now a.number))) None) (met_by ∙ n))

    pub is_met : met ≡ true → {region cost charged total : ℤ} → region ≡ region_score a.evidence.sheet.now.qualifiers a.evidence.sheet.now.segments (candidate a.evidence.sheet.now s) (candidate a.evidence.sheet.now a.number)
        → cost ≡ penalty a.curves.now r.function (a.feature.position - f.position) → charged ≡ region -ℤ cost → total ≡ charged +ℤ a.feature.score
        → Some total ≡ step (steps a.evidence.sheet.now) s a.number
    is_met y region_is cost_is charged_is total_is =
        ap Some
        (total_is
        ∙ ap₂ ◌+ℤ◌
        (charged_is ∙ ap₂ ◌-ℤ◌ region_is
        (cost_is
        ∙ (ap (λ (points : List Point). penalty points r.function (a.feature.position - f.position)) h.curves
        ∙ ap₂ (λ (g k : Feature). penalty a.evidence.sheet.now.points r.function (k.position - g.position)) from_is h.feature)))
        (ap (λ (k : Feature). k.score) h.feature))
        ∙ sym (step_is a.evidence.sheet.now s a.number (rule_found is)
        ∙ ap (λ (b : Bool). cond b (Some (gained a.evidence.sheet.now r (candidate a.evidence.sheet.now s) (candidate a.evidence.sheet.now a.number))) None) (met_by ∙ y))
