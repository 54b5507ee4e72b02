-- `reached` is right because each base of the plateau from `at` on has the largest rate `value`.
use Rattle.std.proofs.Common.{◌≡◌, rules, ap, ◌∙◌, ◌-◌, ◌≤◌, arith, to_z-of_z, w64, SFits}
use Rattle.std.specs.Prelude.{ℤ, pos, ◌+ℤ◌, ◌*ℤ◌}
use Rattle.whole.proofs.Bits.{back}
use Rattle.sums.proofs.Summing.{upto_on, size_on}
use Rattle.sums.proofs.walk.Walk.reached.Goals as goal

gained : (c : goal.After-plus) → c.plus.result ≡ c.self.inside.sum +ℤ c.self.inside.value *ℤ pos (c.args.p - c.self.inside.at)
gained c =
    let w = c.self.inside in
    let s : SFits w64 w.sum = search rules in
    let v : SFits w64 w.value = search rules in
    rw (to_z-of_z s, back c.times.result c.times.type_inv, c.times.ensures, to_z-of_z v) at c.plus.ensures

pub returns-clause-value : goal.returns-clause-value
returns-clause-value c =
    let w = c.self.inside in
    let q = c.self.invariant in
    let b : w.at ≤ c.args.p = rw (← c.self.view_is) at c.requires.behind in
    let t : c.args.p ≤ w.to = rw (← c.self.view_is) at c.requires.within in
    rw (back c.plus.result c.plus.type_inv, ← c.self.view_is, gained c)
    (ap (λ (z : ℤ). z +ℤ w.value *ℤ pos (c.args.p - w.at)) q.sum ∙ upto_on w.rows.now w.at c.args.p w.value q.begun b (λ x l u. q.flat x l (omega arith)))

pub returns-clause-small : goal.returns-clause-small
returns-clause-small c =
    let w = c.self.inside in
    let q = c.self.invariant in
    let b : w.at ≤ c.args.p = rw (← c.self.view_is) at c.requires.behind in
    rw (back c.plus.result c.plus.type_inv, gained c) (size_on w.sum w.value w.at c.args.p q.begun b q.sum_small q.value_small)
