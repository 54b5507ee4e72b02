use Rattle.std.proofs.Common.{◌≡◌, ◌≤◌, ◌∙◌, ap, arith, ℕ, ◌+◌}
use Rattle.gaze.specs.Step.{steps}
use Rattle.step.proofs.Rows.{whole_row}
use Rattle.engine.proofs.Searching.{all_listed, row_long, going}
use Rattle.engine.proofs.search.Goals as goal

pub loop-target-init : goal.loop-target-init
loop-target-init c = (c.begin-entries.ensures.length, c.begin-entries.ensures.searched (steps c.args.prepared.now))

pub steps_into-requires-clause-to_end : goal.steps_into-requires-clause-to_end
steps_into-requires-clause-to_end c =
    let all = all_listed c.requires c.candidates-candidates.ensures.value in
    omega (arith, c.loop-target-test.true)

pub settle-requires : goal.settle-requires
settle-requires c =
    let long = row_long c.requires c.candidates-candidates.ensures.value c.loop-target.steps c.steps_into.new.row
    c.loop-target-test.array_long c.loop-target-test.true
    c.steps_into.auto.row in
    going c.requires c.candidates-candidates.ensures.value c.loop-target.invariant.0 c.loop-target.invariant.1 c.loop-target.auto.target
    long (whole_row long c.steps_into.ensures) c.loop-target-test.true

pub loop-target-preserved : goal.loop-target-preserved
loop-target-preserved c =
    let long = row_long c.requires c.candidates-candidates.ensures.value c.loop-target.steps c.steps_into.new.row
    c.loop-target-test.array_long c.loop-target-test.true
    c.steps_into.auto.row in (
      c.settle.ensures.length ∙ ap (λ (n : ℕ). n + 1) c.loop-target.invariant.0,
      c.settle.ensures.searched (steps c.args.prepared.now) (rw c.loop-target.invariant.0 (whole_row long c.steps_into.ensures)) c.loop-target.invariant.1,
    )

-- the loop ends at the number of candidates
ended : {t n : ℕ} → n ≤ t → (1 ≤ n → t ≤ n) → 1 ≤ n → n ≡ t
ended below above some = let e = above some in omega arith

pub returns-clause-all : goal.returns-clause-all
returns-clause-all c =
    let all = all_listed c.requires c.candidates-candidates.ensures.value in
    let e = ended c.loop-target-test.false c.loop-target.auto.target-end (omega arith) in
    rw (c.loop-target.invariant.0, ← e) all
