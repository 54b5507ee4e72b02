use Rattle.std.proofs.Common.{◌≡◌, ◌∙◌, sym, arith, ◌^◌, None}
use Rattle.std.proofs.lemmas.Result.{err_from_is_err_and}
use Rattle.whole.proofs.Bits.{back, small_back}
use Rattle.gaze.specs.declared.Fault.TheVariants.{BadStep}
use Rattle.gaze.proofs.Entries.{entry_to}
use Rattle.engine.proofs.Searching.{all_listed, chain_of_sheet, no_chain}
use Rattle.engine.proofs.Walking.{walked_none, source_before, gained_small, walked_fits, walked_more, breaks_here, walked_all}
use Rattle.engine.proofs.lent.judge.Goals as goal

pub overflow_sub-candidates : goal.overflow_sub-candidates
overflow_sub-candidates c =
    omega (arith, all_listed c.of-prepared.ensures.ranged (rw c.of-prepared.ensures.value at c.candidates-candidates.ensures.value))

pub returns-then-not-is_chain : goal.returns-then-not-is_chain
returns-then-not-is_chain c =
    no_chain c.of-prepared.ensures.ranged (rw c.of-prepared.ensures.value at c.candidates-candidates.ensures.value) c.is_chain.ensures.complete c.if-not-is_chain.true

pub loop-k-init : goal.loop-k-init
loop-k-init c = walked_none c.args.sheet.now c.args.chain.now

pub step_between-requires-clause-rises : goal.step_between-requires-clause-rises
step_between-requires-clause-rises c =
    let chain = chain_of_sheet c.of-prepared.ensures.ranged (rw c.of-prepared.ensures.value at c.candidates-candidates.ensures.value) c.is_chain.ensures.sound c.if-not-is_chain.false in
    source_before chain c.loop-k.k c.loop-k.auto.k c.loop-k-test.true

pub step_between-requires-clause-to_end : goal.step_between-requires-clause-to_end
step_between-requires-clause-to_end c =
    let chain = chain_of_sheet c.of-prepared.ensures.ranged (rw c.of-prepared.ensures.value at c.candidates-candidates.ensures.value) c.is_chain.ensures.sound c.if-not-is_chain.false in
    rw c.of-prepared.ensures.value (entry_to _ _ chain c.loop-k.k c.loop-k-test.true)

pub returns-in_err-gain : goal.returns-in_err-gain
returns-in_err-gain c =
    let chain = chain_of_sheet c.of-prepared.ensures.ranged (rw c.of-prepared.ensures.value at c.candidates-candidates.ensures.value) c.is_chain.ensures.sound c.if-not-is_chain.false in
    let none : c.step_between.result ≡ None = c.in_err-gain.ensures.ok_part in
    let bad : c.in_err-gain.field-0.0 ≡ BadStep c.loop-k.k = grind arith in
    let p = err_from_is_err_and c.from_residual.result c.from_residual.ensures.1 in
    rw (p.1, p.2, bad) (
      chain,
      breaks_here c.loop-k.invariant c.loop-k.auto.k c.loop-k-test.true
          (sym none ∙ (rw c.of-prepared.ensures.value at c.step_between.ensures)),
    )

pub plus-score-requires : goal.plus-score-requires
plus-score-requires c =
    let chain = chain_of_sheet c.of-prepared.ensures.ranged (rw c.of-prepared.ensures.value at c.candidates-candidates.ensures.value) c.is_chain.ensures.sound c.if-not-is_chain.false in
    let some = sym c.in_ok-gain.ensures.ok_part ∙ (rw c.of-prepared.ensures.value at c.step_between.ensures) in
    let small = gained_small c.of-prepared.ensures.ranged _ _ some in
    rw (small_back c.in_ok-gain.gain (2 ^ 50) small (omega arith)) (walked_fits c.of-prepared.ensures.ranged chain c.loop-k.invariant c.loop-k-test.true _ small)

pub loop-k-preserved : goal.loop-k-preserved
loop-k-preserved c =
    let some = sym c.in_ok-gain.ensures.ok_part ∙ (rw c.of-prepared.ensures.value at c.step_between.ensures) in
    let small = gained_small c.of-prepared.ensures.ranged _ _ some in
    walked_more c.loop-k.invariant c.loop-k.auto.k c.loop-k-test.true some small
    (back c.plus-score.result c.plus-score.type_inv ∙ (rw (small_back c.in_ok-gain.gain (2 ^ 50) small (omega arith)) at c.plus-score.ensures))

pub returns : goal.returns
returns c =
    let chain = chain_of_sheet c.of-prepared.ensures.ranged (rw c.of-prepared.ensures.value at c.candidates-candidates.ensures.value) c.is_chain.ensures.sound c.if-not-is_chain.false in
    walked_all c.loop-k.invariant chain c.loop-k-test.false
