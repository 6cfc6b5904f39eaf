-- What a run of a script prints, and what it answers.
use Rattle.std.specs.Prelude.{◌≡◌, ◌≢◌, ◌≤◌, ◌⊎◌, ⊤, ℕ, Bool, true, false, if◌then◌else◌, List, [], Option, Some, None, Result, Ok, Err, IfSome, IsSomeAnd, IsOk, IsErrAnd, String, string_bytes}
use Rattle.std.specs.Global.{Global}
use Rattle.std.specs.Io.KnownBytes.{Appends}
use Rattle.host_base.specs.Causes.{AppendsPart}
use Rattle.sector_device.specs.Moments.{Changes}
use Rattle.std.specs.List.{list_all}
use Rattle.tree_model.specs.declared.script.What.{What}
use Rattle.tree_model.specs.declared.script.What.TheVariants.{Op as Operation, Find}
use Rattle.tree_model.specs.declared.script.Command.{Command}
use Rattle.tree_model.specs.Steps.{is_look}
use Rattle.run_model.specs.declared.turn.Turn.{Turn}
use Rattle.script_text.specs.declared.fault.ScriptFault.{ScriptFault}
use Rattle.script_text.specs.Scripts.{script_of}
use Rattle.volume_run.specs.image_open.declared.refusal.Refusal.{Refusal}
use Rattle.volume_run.specs.image_open.declared.refusal.Refusal.TheVariants.{Unbuilt}
use Rattle.writing_run.specs.volume_start.declared.fault.StartFault.{StartFault}
use Rattle.writing_run.specs.volume_start.declared.fault.StartFault.TheVariants as starts
use Rattle.writing_run.specs.volume_start.Starts.{UnfitOn, UnknownOn}
use Rattle.volume_run.specs.volume_mount.Mounts.{MountedVolume, mounted_of}
use Rattle.volume_run.specs.Prints.{Counted, counted_by, IsPrintedRun}
use Rattle.writing_run.specs.Runs.{RunsOn, IsTold}
use Rattle.ntfs_host.specs.Answers.{known_mount}
use Rattle.ntfs_host.specs.declared.scripts.ScriptError.{ScriptError}
use Rattle.ntfs_host.specs.declared.scripts.ScriptError.TheVariants as errors
use Rattle.ntfs_host.specs.Scripts.{script_line}
use Rattle.ntfs_host.specs.Statuses.{IsQuietStatus}
use Rattle.ntfs_host.specs.Text.{refusal_line}

-- ---- what refuses a run

-- What refuses a run on a device of so many sectors: what refuses the mount; or that the mounted volume can't be changed yet, since the bits of its clusters don't all lie in clusters (or a block of its log would stay
-- torn), or since whole pages of its log can't be written where they lie.
abbrev pub RefusesRun : ℕ → Option (List (List ℕ)) → Refusal → Type 0
RefusesRun count gives refusal =
    IfSome (known_mount count gives) (λ m. m ≡ Err refusal) ⊎ (((refusal ≡ Unbuilt 8) × IfSome gives UnfitOn) ⊎ ((refusal ≡ Unbuilt 9) × IfSome gives (UnknownOn count)))

-- ---- what is written

-- the status of a run whose text is written: done, or its closing flush failed
abbrev pub flushed_status : Bool → ℕ
flushed_status flushed = if flushed then 0 else 8

-- the text of a run is written, by this status, or a front of it, where the sink failed
pub record WritesText (flushed : Bool) (status : ℕ) (text : List ℕ) (sink sink_now : Option (List ℕ)) : Type 0 where
  pub ends : (status ≡ flushed_status flushed) ⊎ (status ≡ 7)
  pub whole : status ≢ 7 → Appends sink sink_now text
  pub part : status ≡ 7 → AppendsPart sink sink_now text

-- the line of a refusal is written, or a front of it, where memory was wanting or the sink failed
pub record WritesRefusal (status : ℕ) (refusal : Refusal) (sink sink_now : Option (List ℕ)) : Type 0 where
  pub ends : (status ≡ 3) ⊎ ((status ≡ 6) ⊎ (status ≡ 7))
  pub whole : status ≡ 3 → Appends sink sink_now (refusal_line refusal)
  pub part : (status ≡ 6) ⊎ (status ≡ 7) → AppendsPart sink sink_now (refusal_line refusal)

-- nothing is written
pub record WritesNothing (its_status status : ℕ) (sink sink_now : Option (List ℕ)) : Type 0 where
  pub ends : status ≡ its_status
  pub same : sink_now ≡ sink

-- what is written of a fault of a start, or of want of memory for the text
abbrev pub WritesFault : StartFault → ℕ → Option (List ℕ) → Option (List ℕ) → Type 0
WritesFault (starts.Refused refusal) status sink sink_now = WritesRefusal status refusal sink sink_now
WritesFault starts.Unfit status sink sink_now = WritesRefusal status (Unbuilt 8) sink sink_now
WritesFault starts.Unknown status sink sink_now = WritesRefusal status (Unbuilt 9) sink sink_now
WritesFault starts.Memory status sink sink_now = WritesNothing 6 status sink sink_now
WritesFault starts.Device status sink sink_now = WritesNothing 8 status sink sink_now

-- what is written of a run that has a text, or of why it has none
abbrev pub WritesRan : Result (String Global) StartFault → Bool → ℕ → Option (List ℕ) → Option (List ℕ) → Type 0
WritesRan (Ok text) flushed status sink sink_now = WritesText flushed status (string_bytes text) sink sink_now
WritesRan (Err fault) flushed status sink sink_now = WritesFault fault status sink sink_now

-- ---- what a run answers

-- A device that was only read.
pub record IsOnlyRead {D : Type 0} (gives : D → Option (List (List ℕ))) (changes_of : D → Changes) (old new : D) : Type 0 where
  -- reads give what they gave
  pub same : gives new ≡ gives old
  -- no write and no sync was begun, so that a crash leaves exactly what it might have left before, now and since any moment
  pub unchanged : changes_of new ≡ changes_of old

-- A device of a run that is refused: reads give what they gave, no write was begun, and where they are known, no sync either.
pub record LeavesRefused {D : Type 0} (gives : D → Option (List (List ℕ))) (changes_of : D → Changes) (old new : D) : Type 0 where
  pub same : gives new ≡ gives old
  pub writes : (changes_of new).writes ≡ (changes_of old).writes
  pub known : IfSome (gives old) (λ first. changes_of new ≡ changes_of old)

-- the text of all commands' turns, of which this holds
abbrev pub TellsRun : List Command → (before moment_before start : ℕ) → Bool → (now moment_now : ℕ) → List Turn → (List ℕ → Type 0) → Type 0
TellsRun script before moment_before start flushed now moment_now turns Holds = (text : List ℕ) × IsTold script before moment_before start flushed now moment_now turns text × Holds text

-- the line of what refuses a run, of which this holds
abbrev pub TellsRefusal : ℕ → Option (List (List ℕ)) → (List ℕ → Type 0) → Type 0
TellsRefusal count gives Holds = (refusal : Refusal) × RefusesRun count gives refusal × Holds (refusal_line refusal)

-- ---- a script that only looks

-- the text that answers a script on a volume: that of its run from this time on, on a device that had counted so much before, and so many faults now, or the line of what
-- refuses the volume
abbrev pub IsVolumeAnswer : Result MountedVolume Refusal → List Command → ℕ → Counted → ℕ → List ℕ → Type 0
IsVolumeAnswer (Ok volume) script time before now text = IsPrintedRun (Some volume) script time before now text
IsVolumeAnswer (Err refusal) script time before now text = text ≡ refusal_line refusal

-- what a sink took grew by the whole text that answers a script on a volume, or by a front of it
abbrev pub PrintsVolume : Option (List ℕ) → Option (List ℕ) → Result MountedVolume Refusal → List Command → ℕ → Counted → ℕ → Type 0
PrintsVolume old new mounted script time before now = (text : List ℕ) × IsVolumeAnswer mounted script time before now text × Appends old new text

abbrev pub PrintsVolumePart : Option (List ℕ) → Option (List ℕ) → Result MountedVolume Refusal → List Command → ℕ → Counted → ℕ → Type 0
PrintsVolumePart old new mounted script time before now = (text : List ℕ) × IsVolumeAnswer mounted script time before now text × AppendsPart old new text

-- what a sink took grew by the text of a run on some volume
abbrev pub PrintsRun : Option (List ℕ) → Option (List ℕ) → List Command → ℕ → Counted → ℕ → Type 0
PrintsRun old new script time before now = (text : List ℕ) × IsPrintedRun None script time before now text × Appends old new text

-- What a script that only looks is answered, on a volume that may be mounted or refused, where this is known: the text is that of a serial run of the script from this time on.
pub record AnswersLooks (script : List Command) (time status : ℕ) (mounted : Option (Result MountedVolume Refusal)) (before : Counted) (now : ℕ) (old new : Option (List ℕ)) : Type 0 where
  -- it is done, or the volume is refused, or memory is wanting, or the sink or the device failed
  pub ends : IsQuietStatus status
  -- done, the volume is mounted
  pub mounts : status ≡ 0 → IfSome mounted IsOk
  -- and the sink took the text of a run, which is one of that volume
  pub told : status ≡ 0 → PrintsRun old new script time before now
  pub done : status ≡ 0 → IfSome mounted (λ m. PrintsVolume old new m script time before now)
  -- refused, the line of what refuses the volume
  pub refused : status ≡ 3 → IfSome mounted (λ m. IsErrAnd m (λ refusal. Appends old new (refusal_line refusal)))
  -- for want of memory nothing, or a front of the one or the other
  pub memory : status ≡ 6 → (new ≡ old) ⊎ IfSome mounted (λ m. PrintsVolumePart old new m script time before now)
  -- where it failed itself, a front
  pub part : status ≡ 7 → IfSome mounted (λ m. PrintsVolumePart old new m script time before now)
  -- where the device failed, nothing
  pub silent : status ≡ 8 → new ≡ old

-- and what it leaves of the device: it was only read, and its faults don't fall
pub record LooksAt {D : Type 0} (gives : D → Option (List (List ℕ))) (faults : D → ℕ) (changes : D → Changes) (old new : D) : Type 0 where
  pub read : IsOnlyRead gives changes old new
  pub later : faults old ≤ faults new

-- ---- a script that may change the volume

-- What such a script is answered on a device, whose turns are of a session that began when it had counted so many faults.
pub record AnswersChanges {D : Type 0} (gives : D → Option (List (List ℕ))) (count moment faults : D → ℕ) (changes : D → Changes) (script : List Command) (time status : ℕ) (old new : D) (sink sink_now : Option (List ℕ)) : Type 0 where
  pub turns : List Turn
  pub start : ℕ
  pub flushed : Bool
  -- it is done, or the volume is refused, or memory is wanting, or the sink or the device failed
  pub ends : IsQuietStatus status
  -- Whatever the status is, the turns are those of one serial run from the tree of the volume; and whatever a crash leaves from the call's beginning on mounts as the tree after a prefix of them in which no sync that was
  -- answered is undone.
  pub runs : RunsOn gives count moment changes script time start turns flushed old new
  -- done, the volume is mounted, all that the turns changed is on the device, and the sink took the text of all commands' turns
  pub mounts : status ≡ 0 → IfSome (gives old) (λ first. IsOk (mounted_of first))
  pub done : status ≡ 0 → (flushed ≡ true) × TellsRun script (faults old) (moment old) start flushed (faults new) (moment new) turns (Appends sink sink_now)
  -- refused, nothing was written to the device, and the sink took the line of what refuses the run
  pub refused : status ≡ 3 → LeavesRefused gives changes old new × TellsRefusal (count old) (gives old) (Appends sink sink_now)
  -- for want of memory nothing, or a front of that line
  pub memory : status ≡ 6 → (sink_now ≡ sink) ⊎ TellsRefusal (count old) (gives old) (AppendsPart sink sink_now)
  -- where it failed itself, a front of that line, or of the text
  pub part : status ≡ 7 → TellsRefusal (count old) (gives old) (AppendsPart sink sink_now) ⊎ TellsRun script (faults old) (moment old) start flushed (faults new) (moment new) turns (AppendsPart sink sink_now)
  -- where the device failed in the mount, nothing, and no command had a turn; where it failed in the closing flush, the whole text
  pub failed : status ≡ 8 → ((sink_now ≡ sink) × (turns ≡ [])) ⊎ ((flushed ≡ false) × TellsRun script (faults old) (moment old) start flushed (faults new) (moment new) turns (Appends sink sink_now))

-- the line of what refuses a script is written, or a front of it, where memory was wanting or the sink failed
pub record WritesScriptFault (status : ℕ) (fault : ScriptFault) (sink sink_now : Option (List ℕ)) : Type 0 where
  pub ends : (status ≡ 4) ⊎ ((status ≡ 6) ⊎ (status ≡ 7))
  pub whole : status ≡ 4 → Appends sink sink_now (script_line fault)
  pub part : (status ≡ 6) ⊎ (status ≡ 7) → AppendsPart sink sink_now (script_line fault)

-- what is written of why a source has no script
abbrev pub WritesNoScript : ScriptError → ℕ → Option (List ℕ) → Option (List ℕ) → Type 0
WritesNoScript (errors.Refused fault) status sink sink_now = WritesScriptFault status fault sink sink_now
WritesNoScript errors.Memory status sink sink_now = WritesNothing 6 status sink sink_now
WritesNoScript errors.Source status sink sink_now = WritesNothing 5 status sink sink_now

-- the sink isn't called where nothing refuses a script
abbrev pub CallsForLine : {K : Type 0} → ScriptError → K → K → Type 0
CallsForLine (errors.Refused fault) sink sink_now = ⊤
CallsForLine errors.Memory sink sink_now = sink_now ≡ sink
CallsForLine errors.Source sink sink_now = sink_now ≡ sink

-- What a source without a script is answered: its bytes are refused, or a read of it failed, or memory is wanting, or the sink failed.
pub record AnswersNoScript (status : ℕ) (left sink sink_now : Option (List ℕ)) : Type 0 where
  pub ends : (status ≡ 4) ⊎ ((status ≡ 5) ⊎ ((status ≡ 6) ⊎ (status ≡ 7)))
  -- refused, the line of what refuses them
  pub refused : status ≡ 4 → IfSome left (λ bytes. IsErrAnd (script_of bytes) (λ fault. Appends sink sink_now (script_line fault)))
  -- where the source failed, nothing
  pub silent : status ≡ 5 → sink_now ≡ sink
  -- for want of memory nothing, or a front of that line
  pub memory : status ≡ 6 → (sink_now ≡ sink) ⊎ IfSome left (λ bytes. IsErrAnd (script_of bytes) (λ fault. AppendsPart sink sink_now (script_line fault)))
  -- where it failed itself, a front of it
  pub part : status ≡ 7 → IfSome left (λ bytes. IsErrAnd (script_of bytes) (λ fault. AppendsPart sink sink_now (script_line fault)))

-- ---- a run

-- a command asks for an operation that only looks
abbrev pub looks : What → Bool
looks (Operation op) = is_look op
looks (Find name) = true

abbrev pub only_looks : List Command → Bool
only_looks script = list_all (λ c. looks c.what) script

-- what a script that is accepted is answered on a device, by whether it only looks
abbrev pub AnswersScript : {D : Type 0} → (D → Option (List (List ℕ))) → (count moment faults : D → ℕ) → (D → Changes) → List Command → Bool → (time status : ℕ) → (old new : D) → (sink sink_now : Option (List ℕ)) → Type 0
AnswersScript gives count moment faults changes script true time status old new sink sink_now =
    AnswersLooks script time status (known_mount (count old) (gives old)) (counted_by faults moment old) (faults new) sink sink_now × LooksAt gives faults changes old new
AnswersScript gives count moment faults changes script false time status old new sink sink_now = AnswersChanges gives count moment faults changes script time status old new sink sink_now

-- What a run answers, of a source that had this left: what its script is answered, or that it has none, and then the device isn't called.
abbrev pub AnswersRun : {D : Type 0} → (D → Option (List (List ℕ))) → (count moment faults : D → ℕ) → (D → Changes) → (time status : ℕ) → Option (List ℕ) → (old new : D) → (sink sink_now : Option (List ℕ)) → Type 0
AnswersRun gives count moment faults changes time status left old new sink sink_now =
    ((script : List Command) × IfSome left (λ bytes. script_of bytes ≡ Ok script) × AnswersScript gives count moment faults changes script (only_looks script) time status old new sink sink_now)
    ⊎ ((new ≡ old) × AnswersNoScript status left sink sink_now)

-- nothing refuses a run on a device of so many sectors: the volume is mounted; and where the script may change it, it may be changed
abbrev pub NothingRefuses : ℕ → Option (List (List ℕ)) → Bool → Type 0
NothingRefuses count gives true = IsSomeAnd (known_mount count gives) IsOk
NothingRefuses count gives false = (refusal : Refusal) → RefusesRun count gives refusal → ⊥

-- nor does anything refuse the script
abbrev pub MayRun : ℕ → Option (List (List ℕ)) → Result (List Command) ScriptFault → Type 0
MayRun count gives (Ok script) = NothingRefuses count gives (only_looks script)
MayRun count gives (Err fault) = ⊥
