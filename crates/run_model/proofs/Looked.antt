-- A turn of an operation that only looks.
use Rattle.std.proofs.Common.{◌≡◌, ℕ, ◌+◌, true, List}
use Rattle.std.specs.Prelude.{◌≢◌}
use Rattle.tree_model.specs.file_tree.declared.tree.Tree.{Tree}
use Rattle.tree_model.specs.declared.script.Op.{Op}
use Rattle.tree_model.specs.declared.script.Op.TheVariants as op
use Rattle.tree_model.specs.declared.reply.Reply.{Reply}
use Rattle.tree_model.specs.declared.reply.Reply.TheVariants.{Fault, Memory}
use Rattle.tree_model.specs.Steps.{is_look, Replies, IsStep}
use Rattle.tree_model.proofs.Looks.{look_is_step}
use Rattle.run_model.specs.declared.turn.Turn.{Turn}
use Rattle.run_model.specs.Runs.{TakesStep}

-- a step of an operation that only looks is what its turn takes
pub takes : {S : Type 0} (steps : Op → ℕ → Reply → S → S → Type 0) (base : ℕ) (past : List Turn) (t : Turn) (o : Op) (reply : Reply) (x y : S) → is_look o ≡ true → steps o (base + t.serial) reply x y → TakesStep steps base past t o reply x y
takes steps base past t (op.Stat path) reply x y looks step = step
takes steps base past t (op.List path) reply x y looks step = step
takes steps base past t (op.Read path offset count) reply x y looks step = step
takes steps base past t other reply x y looks step = absurd cc

pub look_takes_step : (upper : List ℕ) (base : ℕ) (past : List Turn) (t : Turn) (o : Op) (reply : Reply) (x : Tree) → is_look o ≡ true → (reply ≢ Memory → Replies upper x.nodes x.links o reply) → reply ≢ Fault → TakesStep (IsStep upper) base past t o reply x x
look_takes_step upper base past t o reply x looks answered no_fault = takes (IsStep upper) base past t o reply x x looks (look_is_step upper o (base + t.serial) reply x looks answered no_fault)
