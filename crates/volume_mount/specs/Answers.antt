-- What a mount answers, and what a command is replied.
use Rattle.std.specs.Prelude.{◌≡◌, ℕ, Option, Some, IfSome, Result, Ok, Err}
use Rattle.host_base.specs.Answers.{ExplainsOrFails}
use Rattle.host_base.specs.Causes.{HasFailed}
use Rattle.disk_model.specs.Content.{Content}
use Rattle.file_tree.specs.declared.tree.Tree.{Tree}
use Rattle.tree_model.specs.declared.reply.Reply.{Reply}
use Rattle.tree_model.specs.declared.reply.Reply.TheVariants.{Fault}
use Rattle.image_read.specs.volume_map.Maps.{IsMapOf, volume_in}
use Rattle.image_read.specs.image_open.declared.refusal.Refusal.{Refusal}
use Rattle.image_read.specs.image_open.declared.refusal.MountFault.{MountFault}
use Rattle.image_read.specs.image_open.Errors.{scan_cause}
use Rattle.image_read.specs.image_open.Writing.{IsOpenedToWrite}
use Rattle.volume_mount.specs.declared.mounted.Mounted.{Mounted}
use Rattle.volume_mount.specs.Mounts.{MountedVolume, upper_in, tree_in}
use Rattle.volume_mount.specs.Trees.{content_of_mounted, tree_over}

-- ---- a mount

-- What was mounted is what is meant, over the content of its disk: opened so, with the recovered content, the loaded volume, the heads and
-- bits of this content, and its table of upper-case units; and its tree is the one that the volume stands for.
pub record IsMounted (c : Content) (meant : MountedVolume) (m : Mounted) : Type 0 where
  pub opened : IsOpenedToWrite c meant.opened m.opening
  pub content : content_of_mounted m c ≡ meant.content
  pub volume : volume_in m.map ≡ meant.volume
  pub parts : IsMapOf meant.content m.map
  pub upper : m.upper ≡ upper_in meant
  pub tree : tree_over m (Some c) ≡ Some (tree_in meant)

abbrev pub IsMountedAs : Content → Result MountedVolume Refusal → Mounted → Type 0
IsMountedAs c (Ok meant) m = IsMounted c meant m
IsMountedAs c (Err refusal) m = ⊥

-- a mounted volume, or the refusal that is meant
abbrev pub MountsAs : Content → Result MountedVolume Refusal → Result Mounted MountFault → Type 0
MountsAs c meant (Ok m) = IsMountedAs c meant m
MountsAs c meant (Err e) = ExplainsOrFails (scan_cause e) meant

-- ---- a command

-- Of a command on a device: where the tree is known a reply `fault` says that the device failed in it; with every other reply its count
-- of faults is as it was before.
abbrev pub CountsReplyOnDevice : Option Tree → ℕ → ℕ → ℕ → Reply → Type 0
CountsReplyOnDevice known faults_before faults_now moment_now Fault = IfSome known (λ t. HasFailed faults_before faults_now moment_now)
CountsReplyOnDevice known faults_before faults_now moment_now reply = faults_now ≡ faults_before
