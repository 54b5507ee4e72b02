use Rattle.liivokarp.proofs.lk_assemble.Goals as goal

pub returns : goal.returns
returns c = rw c.reply_of.ensures c.assemble.ensures
