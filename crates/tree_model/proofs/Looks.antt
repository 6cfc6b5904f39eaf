-- An operation that only looks is a step that leaves the tree.
use Rattle.std.proofs.Common.{◌≡◌, ℕ, true, List, [], Option, Some, None, refl}
use Rattle.std.specs.Prelude.{◌≢◌}
use Rattle.file_tree.specs.declared.tree.Tree.{Tree}
use Rattle.tree_model.specs.declared.script.Op.{Op}
use Rattle.tree_model.specs.declared.script.Op.TheVariants as op
use Rattle.tree_model.specs.declared.reply.Reply.{Reply}
use Rattle.tree_model.specs.declared.reply.Reply.TheVariants.{Fault, Memory}
use Rattle.tree_model.specs.Steps.{is_look, Replies, RepliesBy, IsStep, StepsBy, step_refusal, refusal, HasStep, IsDone, Done}

by_row : (row : Option Reply) (done : Type 0) (reply : Reply) (t : Tree) → RepliesBy row done reply → StepsBy row (done × (t ≡ t)) reply t t
by_row (Some row) done reply t is = (is, refl)
by_row None done reply t is = (is, refl)

-- its refusals are those of nodes and names, and it leaves the tree
by_look : (upper : List ℕ) (o : Op) (stamp : ℕ) (reply : Reply) (t : Tree) → is_look o ≡ true → Replies upper t.nodes t.links o reply → HasStep o t × StepsBy (step_refusal upper t 0 [] o) (IsDone upper o 0 stamp reply t t) reply t t
unfolding refusal
by_look upper (op.Stat path) stamp reply t looks answered = (tt, by_row (refusal upper t.nodes t.links (op.Stat path)) (Done upper t.nodes t.links (op.Stat path) reply) reply t answered)
by_look upper (op.List path) stamp reply t looks answered = (tt, by_row (refusal upper t.nodes t.links (op.List path)) (Done upper t.nodes t.links (op.List path) reply) reply t answered)
by_look upper (op.Read path offset count) stamp reply t looks answered = (tt, by_row (refusal upper t.nodes t.links (op.Read path offset count)) (Done upper t.nodes t.links (op.Read path offset count) reply) reply t answered)
by_look upper other stamp reply t looks answered = absurd cc

has_step : (o : Op) (t : Tree) → is_look o ≡ true → HasStep o t
has_step (op.Stat path) t looks = tt
has_step (op.List path) t looks = tt
has_step (op.Read path offset count) t looks = tt
has_step other t looks = absurd cc

pub look_is_step : (upper : List ℕ) (o : Op) (stamp : ℕ) (reply : Reply) (t : Tree) → is_look o ≡ true → (reply ≢ Memory → Replies upper t.nodes t.links o reply) → reply ≢ Fault → IsStep upper o stamp reply t t
look_is_step upper o stamp Fault t looks answered no_fault = absurd (no_fault refl)
look_is_step upper o stamp Memory t looks answered no_fault = (has_step o t looks, refl)
look_is_step upper o stamp reply t looks answered no_fault = by_look upper o stamp reply t looks (answered (λ e. cc))
