-- `is_chain` is right because its tests are the parts of a chain, each by place.
use Rattle.std.proofs.Common.{arith, sym, ◌∙◌}
use Rattle.std.proofs.lemmas.Bool.Decides.{nat_tests}
use Rattle.gaze.proofs.Entries.{not_empty, chain_first, chain_last, chain_rises, chain_of}
use Rattle.whole.proofs.Comparisons.{test_true}
use Rattle.chains.proofs.is_chain.Goals as goal
use Rattle.chains.proofs.is_chain.Goals.{then-first-eq0, else-first-eq0}

pub returns-in_default-2-clause-complete : goal.returns-in_default-2-clause-complete
returns-in_default-2-clause-complete c = λ t p. omega (arith, not_empty _ _ p, c.in_default.ensures.item.3)

pub returns-then-last-e-clause-sound : goal.returns-then-last-e-clause-sound
returns-then-last-e-clause-sound c = λ t.
    let f = c.in-Some-Some.ensures.item.3 in
    let l = c.in-Some-Some.ensures'.item.3 in
    elim c.if-first-eq0.branch [
      | then-first-eq0 w ↦ chain_of _ _ f.0 (sym (f.1 0) ∙ w.if-first-eq0.true) (grind (arith, nat_tests, l.1 0)) (c.rises.ensures.0 (test_true _ t))
      | else-first-eq0 w ↦ grind (arith, nat_tests)
    ]

pub returns-then-last-e-clause-complete : goal.returns-then-last-e-clause-complete
returns-then-last-e-clause-complete c = λ t p. let a = c.rises.ensures.1 (chain_rises _ _ p) in grind (arith, nat_tests, a)

pub returns-else-last-e-clause-complete : goal.returns-else-last-e-clause-complete
returns-else-last-e-clause-complete c = λ t p.
    let f = c.in-Some-Some.ensures.item.3 in
    let l = c.in-Some-Some.ensures'.item.3 in
    elim c.if-first-eq0.branch [
      | then-first-eq0 w ↦ grind (arith, nat_tests, chain_last _ _ p, l.1 0)
      | else-first-eq0 w ↦ w.if-first-eq0.false (f.1 0 ∙ chain_first _ _ p)
    ]
