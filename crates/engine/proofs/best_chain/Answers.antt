-- `best_chain` is right because all entries are filled in by the steps of the sheet, and the last one is END's.
use Rattle.std.proofs.Common.{◌≡◌, ◌-◌, arith, length}
use Rattle.gaze.specs.Sheet.{end_number}
use Rattle.gaze.specs.Step.{steps}
use Rattle.engine.proofs.Searching.{finished}
use Rattle.engine.proofs.best_chain.Goals as goal

pub answer-requires-clause-finished : goal.answer-requires-clause-finished
answer-requires-clause-finished c =
    let here = c.of-prepared.ensures in
    rw (c.as_slice.ensures.value) (finished here.ranged (rw here.value at c.search-entries.ensures.all) (rw here.value at c.search-entries.ensures.searched))

pub answer-requires-clause-room : goal.answer-requires-clause-room
answer-requires-clause-room c =
    rw (c.as_slice.ensures.value, c.search-entries.ensures.all, c.of-prepared.ensures.value) c.requires

pub returns : goal.returns
returns c =
    let here = c.of-prepared.ensures in
    let all = rw here.value at c.search-entries.ensures.all in
    let last : length c.search-entries.result.items - 1 ≡ end_number c.args.sheet.now = omega arith in
    rw (c.as_slice.ensures.value, last) at
    (c.answer.ensures (steps c.args.sheet.now) (rw c.as_slice.ensures.value (rw here.value at c.search-entries.ensures.searched)))
