-- What isn't given up is a step by its refusals and what is done.
use Rattle.std.proofs.Common.{◌≡◌, ℕ, false, List, []}
use Rattle.std.specs.Prelude.{◌≢◌}
use Rattle.file_tree.specs.declared.tree.Tree.{Tree}
use Rattle.tree_model.specs.declared.script.Op.{Op}
use Rattle.tree_model.specs.declared.reply.Reply.{Reply}
use Rattle.tree_model.specs.declared.reply.Reply.TheVariants.{Fault, Memory}
use Rattle.tree_model.specs.Steps.{IsStep, StepsBy, step_refusal, HasStep, IsDone, is_given_up}

pub is_step : (upper : List ℕ) (o : Op) (stamp : ℕ) (reply : Reply) (t t' : Tree) → HasStep o t → is_given_up reply ≡ false
    → StepsBy (step_refusal upper t 0 [] o) (IsDone upper o 0 stamp reply t t') reply t t' → IsStep upper o stamp reply t t'
is_step upper o stamp reply t t' has given steps = (has, rw given steps)

pub no_memory : (reply : Reply) → is_given_up reply ≡ false → reply ≢ Memory
no_memory Memory given is = cc
no_memory reply given is = cc

pub no_fault : (reply : Reply) → is_given_up reply ≡ false → reply ≢ Fault
no_fault Fault given is = cc
no_fault reply given is = cc
