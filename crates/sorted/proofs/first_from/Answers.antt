-- `first_from` is right because the rows that pass `key < x` stand before those that do not, and each call of the closure is that test.
use Rattle.std.proofs.Common.{rules, of_calls, ◌≡◌, ℕ, [], ◌∷◌, Bor}
use Rattle.std.proofs.lemmas.List.Sorted.{IsPartitionPoint-from_clause}
use Rattle.std.proofs.Math.Dec.{ltb}
use Rattle.sorted.proofs.Search.{parted, first_at_point}
use Rattle.sorted.proofs.first_from.Goals as goal

pub returns : goal.returns
returns g c =
    λ key computes rising.
    let a = c.args in
    let point = c.partition_point in
    let answers : (a : Bor g.row.T.Denot × Unit {0}) (r : ℕ) → g.F.Fn.post c.args.key.now a r → r ≡ key a.0.now =
    λ a r h. let call = (g.met.F.FnMut.1.post_iff _ _ _).0 h in (computes.at (a ∷ []) r call.0 call.1).0 in
    first_at_point key a.rows.now a.x point.result point.ensures.bound
    (IsPartitionPoint-from_clause (λ row. ltb (key row) a.x) a.rows.now point.result point.ensures.partitioned (parted key a.rows.now a.x rising)
    (λ _ _ _ call. search (rules, of_calls, answers)))
