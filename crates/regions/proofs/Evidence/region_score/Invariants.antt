-- `region_score` is right because it adds what each line of the pair is worth, in order. The invariant: the sum is that of the lines so far, and its size
-- is at most 40,000,000,000,000 for each.
use Rattle.std.proofs.Common.{◌≡◌, ◌≤◌, ◌*◌, nat_abs, take, map}
use Rattle.whole.specs.Whole.{sum_of}
use Rattle.regions.specs.Evidence.{worth}
use Rattle.regions.proofs.Evidence.region_score.Given as goal

abbrev pub invariant-loop-q : goal.invariant-loop-q
invariant-loop-q l =
    (l.sum ≡ sum_of (map (worth l.self l.source l.target) (take l.q-index l.lines)))
    × (nat_abs l.sum ≤ l.q-index * 40000000000000)
