-- What a run prints, of a volume that was mounted.
use Rattle.std.proofs.Common.{◌≡◌, ℕ, ◌<◌, ◌≤◌, List, [], Option, Some, None, Result, Ok, Err, refl, sym, ap, ◌∙◌, subst}
use Rattle.std.specs.Prelude.{IfSome, String, string_bytes}
use Rattle.std.specs.Global.{Global}
use Rattle.host_base.specs.Answers.{ExplainsOrFails}
use Rattle.host_base.specs.Causes.{last_moment}
use Rattle.disk_model.specs.Content.{Content, content_of}
use Rattle.disk_model.specs.Sectors.{sector_of}
use Rattle.file_tree.specs.declared.tree.Tree.{Tree}
use Rattle.tree_model.specs.declared.script.Command.{Command}
use Rattle.run_model.specs.declared.turn.Turn.{Turn}
use Rattle.run_model.specs.Texts.{IsRunText}
use Rattle.serial_run.specs.Runs.{IsRunOf, TakesTurns}
use Rattle.volume_mount.specs.image_open.declared.refusal.Refusal.{Refusal}
use Rattle.volume_mount.specs.image_open.declared.refusal.MountFault.{MountFault}
use Rattle.volume_mount.specs.image_open.declared.refusal.MountFault.TheVariants as errors
use Rattle.volume_mount.specs.image_open.Errors.{scan_cause}
use Rattle.volume_mount.specs.declared.mounted.Mounted.{Mounted}
use Rattle.volume_mount.specs.Mounts.{MountedVolume, upper_in, tree_in, mounted_of}
use Rattle.volume_mount.specs.Trees.{tree_over, tree_shown}
use Rattle.volume_mount.specs.Answers.{IsMounted, IsMountedAs, MountsAs}
use Rattle.volume_run.specs.Prints.{Counted, IsPrintedRun, RunsAs}
use Rattle.volume_run.proofs.Unjournaled.{no_journal}

-- the tree that is known, and what holds of it
shown : (P : Tree → Type 0) (o : Option Tree) (t : Tree) → o ≡ Some t → P t → IfSome o P
shown P o t e p = rw e p

said : (P : Tree → Type 0) (o : Option Tree) (t : Tree) → o ≡ Some t → IfSome o P → P t
said P o t e p = subst (λ (x : Option Tree). IfSome x P) e p

unjournaled_as : (disk : List (List ℕ)) (meant : Result MountedVolume Refusal) (m : Mounted) → mounted_of disk ≡ meant → IsMountedAs (content_of (sector_of disk)) meant m → IfSome (tree_over m (Some (content_of (sector_of disk)))) (λ t. t.journal ≡ None)
unjournaled_as disk (Ok meant) m is fits = shown (λ t. t.journal ≡ None) _ (tree_in meant) fits.tree (no_journal disk meant is)
unjournaled_as disk (Err refusal) m is fits = absurd fits

-- the tree of a mounted volume has no journal, where it is known
pub unjournaled : (gives : Option (List (List ℕ))) (m : Mounted) → IfSome gives (λ disk. MountsAs (content_of (sector_of disk)) (mounted_of disk) (Ok m)) → IfSome (tree_shown m gives) (λ t. t.journal ≡ None)
unjournaled None m fits = tt
unjournaled (Some disk) m fits = unjournaled_as disk (mounted_of disk) m refl fits

printed_as : (disk : List (List ℕ)) (meant : Result MountedVolume Refusal) (m : Mounted) (script : List Command) (time : ℕ) (before : Counted) (start now : ℕ) (turns : List Turn) (text : String Global) → IsMountedAs (content_of (sector_of disk)) meant m
    → IfSome (tree_over m (Some (content_of (sector_of disk)))) (λ t. IsRunOf m.upper t script time start turns)
    → TakesTurns script start now turns → IsRunText turns [] (string_bytes text) → before.faults ≤ start → (before.moment < last_moment → start ≡ before.faults)
    → RunsAs meant script time before now (Ok text)
printed_as disk (Ok meant) m script time before start now turns text fits run taken printed later mounted = record {
  turns = turns;
  start = start;
  later = later;
  mounted = mounted;
  run = subst (λ (upper : List ℕ). IsRunOf upper (tree_in meant) script time start turns) fits.upper (said (λ t. IsRunOf m.upper t script time start turns) _ (tree_in meant) fits.tree run);
  taken = taken;
  printed = printed;
}
printed_as disk (Err refusal) m script time before start now turns text fits run taken printed later mounted = absurd fits

-- the text of the turns on a mounted volume is that of a run
pub any_run : (script : List Command) (time : ℕ) (before : Counted) (start now : ℕ) (turns : List Turn) (text : List ℕ)
    → TakesTurns script start now turns → IsRunText turns [] text → before.faults ≤ start → (before.moment < last_moment → start ≡ before.faults) → IsPrintedRun None script time before now text
any_run script time before start now turns text taken printed later mounted = record { turns = turns; start = start; later = later; mounted = mounted; run = tt; taken = taken; printed = printed }

pub run_is : (gives : Option (List (List ℕ))) (m : Mounted) (script : List Command) (time : ℕ) (before : Counted) (start now : ℕ) (turns : List Turn) (text : String Global)
    → IfSome gives (λ disk. MountsAs (content_of (sector_of disk)) (mounted_of disk) (Ok m)) → IfSome (tree_shown m gives) (λ t. IsRunOf m.upper t script time start turns)
    → TakesTurns script start now turns → IsRunText turns [] (string_bytes text) → before.faults ≤ start → (before.moment < last_moment → start ≡ before.faults)
    → IfSome gives (λ disk. RunsAs (mounted_of disk) script time before now (Ok text))
run_is None m script time before start now turns text fits run taken printed later mounted = tt
run_is (Some disk) m script time before start now turns text fits run taken printed later mounted =
    printed_as disk (mounted_of disk) m script time before start now turns text fits run taken printed later mounted

runs_err : (meant : Result MountedVolume Refusal) (script : List Command) (time : ℕ) (before : Counted) (now : ℕ) (e : MountFault) → ExplainsOrFails (scan_cause e) meant → RunsAs meant script time before now (Err e)
runs_err (Ok m) script time before now e why = why
runs_err (Err refusal) script time before now e why = why

-- what refuses the mount, or fails it, ends the run
pub mount_fails : (gives : Option (List (List ℕ))) (script : List Command) (time : ℕ) (before : Counted) (now : ℕ) (e : MountFault)
    → IfSome gives (λ disk. MountsAs (content_of (sector_of disk)) (mounted_of disk) (Err e)) → IfSome gives (λ disk. RunsAs (mounted_of disk) script time before now (Err e))
mount_fails None script time before now e why = tt
mount_fails (Some disk) script time before now e why = runs_err (mounted_of disk) script time before now e why

no_room : (meant : Result MountedVolume Refusal) (script : List Command) (time : ℕ) (before : Counted) (now : ℕ) → RunsAs meant script time before now (Err errors.Memory)
no_room (Ok m) script time before now = tt
no_room (Err refusal) script time before now = tt

-- and so does want of memory
pub wants_memory : (gives : Option (List (List ℕ))) (script : List Command) (time : ℕ) (before : Counted) (now : ℕ) → IfSome gives (λ disk. RunsAs (mounted_of disk) script time before now (Err errors.Memory))
wants_memory None script time before now = tt
wants_memory (Some disk) script time before now = no_room (mounted_of disk) script time before now
