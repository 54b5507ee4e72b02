-- The reply to what a public function has come to: a score and a count, or a refusal.
use Rattle.std.specs.Prelude.{Result, Ok, Err}
use Rattle.gaze.specs.declared.Fault.{Fault}
use Rattle.gaze.specs.declared.Fault.TheVariants.{NoChain, BadStep}
use Rattle.chains.specs.declared.Found.{Found}
use Rattle.refusal.specs.declared.Reason.TheVariants.{NoChain as IsNoChain, BadStep as IsBadStep}
use Rattle.refusal.specs.declared.Refusal.{Refusal}
use Rattle.liivokarp.specs.declared.Reply.{Reply}
use Rattle.liivokarp.specs.Replies.{refused, done}

abbrev pub reply_of : Result Found Refusal → Reply
reply_of (Ok found) = done found.score found.count
reply_of (Err refusal) = refused refusal

-- A list that is no chain is refused at no place, and one that breaks the model at its first bad step.
abbrev pub refusal_of : Fault → Refusal
refusal_of NoChain = record { reason = IsNoChain; place = 0 }
refusal_of (BadStep step) = record { reason = IsBadStep; place = step }
