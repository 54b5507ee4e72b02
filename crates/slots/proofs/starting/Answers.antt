-- `starting` is right because rows that start at `s` stand from the first that does not start before `s` to the first that starts behind it.
use Rattle.std.proofs.Common.{rules, tests, drop, arith, length, take_all, ◌≡◌, ◌≤◌, ◌<◌, take, ◌-◌}
use Rattle.std.proofs.lemmas.List.Sorted.{IsNonDecreasingBy-drop}
use Rattle.std.proofs.lemmas.Iterator.{YieldsList-from_slice, IsFirst-from_position}
use lib.ListN.{length-drop}
use Rattle.std.specs.Option.{unwrap_or}
use Rattle.slots.specs.Slots.{Rising}
use Rattle.slots.proofs.StartOrder.{Behind, all_behind, starting_together}
use Rattle.slots.proofs.starting.Goals as goal

pub returns : goal.returns
returns c =
    let rows = c.args.rows.now in
    let s = c.args.s in
    let first = c.first_from in
    let rest = drop first.result rows in
    let is : take (length rows - first.result) rest ≡ rest = take_all (length rows - first.result) rest (omega (arith, length-drop first.result rows)) in
    let count = c.unwrap_or-count in
    let from_source = take (length rows - first.result) rest in
    let rising : Rising from_source = rw is (IsNonDecreasingBy-drop (λ g. g.start) first.result rows c.requires) in
    let behind : Behind s from_source (unwrap_or c.position.result (length from_source)) =
    all_behind s from_source c.position.result rising
    (IsFirst-from_position _ _ _ (λ g. s < g.start) (λ g. g.start ≤ s) c.position.ensures.ran (YieldsList-from_slice from_source cc) (λ x q k. search (rules, tests)) (λ x q k. search (rules, tests))) in
    rw is (starting_together s rows first.result count.result first.ensures.first (rw is at (rw (← count.ensures) at behind)))
