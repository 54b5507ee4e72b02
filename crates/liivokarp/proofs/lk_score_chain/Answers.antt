use Rattle.liivokarp.proofs.lk_score_chain.Goals as goal

pub returns : goal.returns
returns c = rw c.reply_of.ensures c.score_chain.ensures
