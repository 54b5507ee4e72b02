-- `push` is right because the copy goes behind the first `at` bytes, and is the front of the text that there is room for.
use Rattle.std.proofs.Common.{◌≡◌, ◌∙◌, ap, ◌-◌, ◌≤◌, length, take, arith, le_refl, take-take, length-take-le}
use Rattle.std.specs.Prelude.{min}
use Rattle.std.proofs.lemmas.List.{take_min}
use Rattle.report.proofs.Reading.{behind}
use Rattle.report.proofs.push.Goals as goal

pub returns-clause-copied : goal.returns-clause-copied
returns-clause-copied c =
    let n = c.min-count.result in
    let room = length c.args.out.now - c.args.at in
    let least : n ≡ min room (length c.args.text.now) = grind arith in
    let copy = c.copy_from_slice.ensures.after in
    let fits : n ≤ length c.copy_from_slice.new.self = omega (arith, ap length copy, length-take-le n c.args.text.now (omega (arith, least))) in
    behind c.args.at n _ c.args.out.now c.copy_from_slice.new.self c.requires fits
    ∙ (ap (take n) copy ∙ (take-take n n c.args.text.now (le_refl n) ∙ rw least (take_min room c.args.text.now)))
