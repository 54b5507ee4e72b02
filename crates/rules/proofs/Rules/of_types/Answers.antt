-- `of_types` is right because an entry names the one rule of its pair.
use Rattle.std.proofs.Common.{arith, ◌≡◌, ◌∙◌, ap, sym, Some, None, List, get_or}
use Rattle.std.proofs.lemmas.Option.{slice_get_within, get_or_from_slice_get}
use Rattle.gaze.specs.declared.Rule.{Rule}
use Rattle.gaze.specs.Lists.{first_of}
use Rattle.rules.specs.Rules.{of_types, pair_number}
use Rattle.rules.proofs.Table.{none_found, one_found, ranges}
use Rattle.rules.proofs.Rules.of_types.Goals as goal

pub returns-in_err-i-clause-rule : goal.returns-in_err-i-clause-rule
returns-in_err-i-clause-rule c =
    let a = c.args in
    let none : get_or c.self.inside.table (pair_number a.source a.target) None ≡ None = rw c.pair_of.ensures at c.in_err-i.was in
    c.from_residual.ensures
    ∙ (sym (none_found c.self.inside.rules.now c.self.invariant.rules c.self.inside.table c.self.invariant.named a.source a.target (omega arith) none)
    ∙ ap (λ (rules : List Rule). first_of (of_types a.source a.target) rules) c.self.view_is)

pub bounds-self-inside-i : goal.bounds-self-inside-i
bounds-self-inside-i c =
    let a = c.args in
    let named : get_or c.self.inside.table (pair_number a.source a.target) None ≡ Some c.in_ok-i.i = rw c.pair_of.ensures at c.in_ok-i.was in
    let one = one_found c.self.inside.rules.now c.self.invariant.rules c.self.inside.table c.self.invariant.named a.source a.target (omega arith) c.in_ok-i.i named in
    slice_get_within c.self.inside.rules.now c.in_ok-i.i one.0 one.1

pub returns : goal.returns
returns c =
    let a = c.args in
    let rules = c.self.inside.rules.now in
    let named : get_or c.self.inside.table (pair_number a.source a.target) None ≡ Some c.in_ok-i.i = rw c.pair_of.ensures at c.in_ok-i.was in
    let one = one_found rules c.self.invariant.rules c.self.inside.table c.self.invariant.named a.source a.target (omega arith) c.in_ok-i.i named in
    let read = get_or_from_slice_get rules c.in_ok-i.i one.0 _ one.1 in
    record {
      rule = ap (λ (r : Rule). Some r) read ∙ (sym one.2 ∙ ap (λ (rules : List Rule). first_of (of_types a.source a.target) rules) c.self.view_is);
      ranged = rw read (ranges rules c.self.invariant.rules c.in_ok-i.i one.0 one.1);
    }
