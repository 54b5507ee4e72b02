-- `settle` is right because what `pick` chooses among the earlier entries is what the next entry has to be.
use Rattle.chains.proofs.Entries.{choice_size, searched_more}
use Rattle.chains.proofs.settle.Goals as goal

pub returns-clause-searched : goal.returns-clause-searched
returns-clause-searched c = λ m row done.
    let chosen = rw c.as_slice.ensures.value at c.pick.ensures in
    rw c.push.ensures.items (searched_more m _ _ _ chosen row done c.requires.some (choice_size m _ _ _ chosen done c.requires.gain_size))
