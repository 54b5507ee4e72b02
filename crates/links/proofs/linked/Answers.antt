use Rattle.std.proofs.Common.{refl, sym, ◌∙◌}
use Rattle.std.proofs.lemmas.Fn.{says_at}
use Rattle.links.proofs.Sought.{linked_at, linked_end}
use Rattle.links.proofs.linked.Goals as goal

pub returns-then-not-has : goal.returns-then-not-has
returns-then-not-has g c =
    let l = c.loop-placed in
    let p = c.placed-item in
    λ test is.
    let lacks = sym (is p.result.line c.has.result (says_at g.F.Fn c.has.ensures refl)) ∙ c.if-not-has.true in
    sym (l.invariant test is ∙ linked_at test c.args.lines.now l.placed-index p.result c.loop-placed-test.true p.is ∙ rw lacks)

pub loop-placed-preserved : goal.loop-placed-preserved
loop-placed-preserved g c =
    let l = c.loop-placed in
    let p = c.placed-item in
    λ test is.
    let has = sym (is p.result.line c.has.result (says_at g.F.Fn c.has.ensures refl)) ∙ c.if-not-has.false in
    l.invariant test is ∙ linked_at test c.args.lines.now l.placed-index p.result c.loop-placed-test.true p.is ∙ rw has

pub returns : goal.returns
returns g c = λ test is. sym (c.loop-placed.invariant test is ∙ linked_end test c.args.lines.now c.loop-placed.placed-index c.loop-placed-test.false)
