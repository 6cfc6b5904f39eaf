-- A walk that ends early is refused.
use Rattle.std.proofs.Common.{◌≡◌, false, ap, refl}
use Rattle.std.specs.Prelude.{◌≢◌, Some, Result, Err}
use Rattle.file_tree.specs.host_base.Answers.{Explains}
use Rattle.file_tree.specs.declared.node.Node.{Node}
use Rattle.tree_model.specs.declared.reply.Reply.{Reply}
use Rattle.tree_model.specs.declared.reply.Reply.TheVariants.{Fault, Memory}
use Rattle.tree_model.specs.Steps.{refused_by, reply_cause, is_given_up}

-- a reply other than want of memory is the refusal that is meant
pub refused_by_cause : (reply : Reply) (meant : Result Node Reply) → Explains (reply_cause reply) meant → reply ≢ Memory → refused_by meant ≡ Some reply
refused_by_cause Fault meant is other = absurd is
refused_by_cause Memory meant is other = absurd (other refl)
refused_by_cause reply meant is other = ap refused_by is

-- so the walk ended with it
pub walk_ends : (reply : Reply) (meant : Result Node Reply) → Explains (reply_cause reply) meant → reply ≢ Memory → meant ≡ Err reply
walk_ends Fault meant is other = absurd is
walk_ends Memory meant is other = absurd (other refl)
walk_ends reply meant is other = is

-- and it isn't given up
pub walk_given : (reply : Reply) (meant : Result Node Reply) → Explains (reply_cause reply) meant → reply ≢ Memory → is_given_up reply ≡ false
walk_given Fault meant is other = absurd is
walk_given Memory meant is other = absurd (other refl)
walk_given reply meant is other = refl
