-- What an answer leaves of a volume that is asked.
use Rattle.std.specs.Prelude.{◌≡◌, ◌≢◌, ℕ, ◌<◌, ◌≤◌, List, Option, IfSome}
use Rattle.host_base.specs.Causes.{HasFailed, last_moment}
use Rattle.file_tree.specs.declared.tree.Tree.{Tree}
use Rattle.tree_model.specs.declared.reply.Reply.{Reply}
use Rattle.tree_model.specs.declared.reply.Reply.TheVariants.{Fault}

-- What the device counts in a command: its faults and its moment don't fall; where the tree is known, `fault` is replied only where it failed; and no other reply
-- passes over a failure, where the device's last moment hasn't come by then.
pub record TellsFaults (known : Option Tree) (before now moment_before moment_now : ℕ) (reply : Reply) : Type 0 where
  pub later : before ≤ now
  pub onwards : moment_before ≤ moment_now
  pub failed : IfSome known (λ t. reply ≡ Fault → HasFailed before now moment_now)
  pub counted : moment_now < last_moment → reply ≢ Fault → now ≡ before

-- An answer leaves the tree, its table and what each answer keeps as they are, and its reply tells where the device failed.
pub record LeavesVolume {S Kept : Type 0} (tree : S → Option Tree) (upper : S → List ℕ) (kept : S → Kept) (faults moment : S → ℕ) (old new : S) (reply : Reply) : Type 0 where
  pub same : tree new ≡ tree old
  pub table : upper new ≡ upper old
  pub stays : kept new ≡ kept old
  pub told : TellsFaults (tree old) (faults old) (faults new) (moment old) (moment new) reply
