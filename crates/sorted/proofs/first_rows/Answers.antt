-- `first_rows` is right because each key's first row is searched for.
use Rattle.std.proofs.Common.{rules, of_calls, ◌≡◌, map, length, arith}
use Rattle.sorted.specs.Sorted.{First}
use Rattle.sorted.proofs.Calls.{at_each}
use Rattle.sorted.proofs.first_rows.Goals as goal

pub returns-clause-found : goal.returns-clause-found
returns-clause-found g c =
    λ key computes rising.
    let made = c.from_fn.ensures.items in
    let long : length c.from_fn.result ≡ g.row.N = made.long in
    record { at = λ x lt. at_each _ (λ x y. First (map key c.args.rows.now) x y) _ c.from_fn.result (λ x y f called. search (rules, of_calls, computes, rising)) g.row.N made x (omega arith) 0 }
