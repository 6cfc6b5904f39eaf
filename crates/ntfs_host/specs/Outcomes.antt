-- What the top call promises: said of what was asked, of the status, and of the source, the sink and the device before and after.
use Rattle.std.specs.Prelude.{◌≡◌, ◌≢◌, ◌<◌, ◌≤◌, ◌⊎◌, ⊤, ℕ, List, Option, Result, IfSome, IsSomeAnd, IsOk, IsErr}
use Rattle.std.specs.Option.{option_map}
use Rattle.std.specs.Io.KnownBytes.{Appends}
use Rattle.host_base.specs.Causes.{Rose, HasFailed, AppendsPart, last_moment}
use Rattle.sector_device.specs.Moments.{Changes, Begins}
use Rattle.volume_format.specs.Layouts.{layout_of, device_writes}
use Rattle.volume_format.specs.Images.{regions, formatted}
use Rattle.volume_format.specs.Stopping.{PutsFront, KeepsOthers}
use Rattle.volume_format.specs.Crashing.{IsSettledNow, KeepsLeft}
use Rattle.script_text.specs.Scripts.{script_of}
use Rattle.volume_run.specs.image_open.declared.refusal.Refusal.{Refusal}
use Rattle.ntfs_host.specs.declared.command.Quiet.TheVariants.{Scan, Dump, Check, Journal, Format}
use Rattle.ntfs_host.specs.declared.command.Asked.{Asked}
use Rattle.ntfs_host.specs.declared.command.Asked.TheVariants.{Quietly, Run, NoLine}
use Rattle.ntfs_host.specs.Answers.{known_answer, format_line}
use Rattle.ntfs_host.specs.Runs.{IsOnlyRead, LeavesRefused, AnswersRun, MayRun}
use Rattle.ntfs_host.specs.Scripts.{IsAccepted, IsReadWhole, LosesAtMost}
use Rattle.ntfs_host.specs.Statuses.{IsQuietStatus}
use Rattle.ntfs_host.specs.Text.{printed}
use Rattle.ntfs_host.specs.Words.{usage}

-- ---- what the sink takes

-- What a command that runs no script answers, where its text or the first refusal that applies is known.
pub record AnswersQuiet (status : ℕ) (answer : Option (Result (List ℕ) Refusal)) (old new : Option (List ℕ)) : Type 0 where
  -- it is done, or refused, or memory is wanting, or the sink or the device failed
  pub ends : IsQuietStatus status
  -- done, the sink took the text
  pub done : status ≡ 0 → IfSome answer (λ a. IsOk a × Appends old new (printed a))
  -- refused, the line of the refusal
  pub refused : status ≡ 3 → IfSome answer (λ a. IsErr a × Appends old new (printed a))
  -- for want of memory nothing, or a front of the one or the other
  pub memory : status ≡ 6 → (new ≡ old) ⊎ IfSome answer (λ a. AppendsPart old new (printed a))
  -- where it failed itself, a front
  pub part : status ≡ 7 → IfSome answer (λ a. AppendsPart old new (printed a))
  -- where the device failed, nothing
  pub silent : status ≡ 8 → new ≡ old

-- What words that are no line of a command are answered.
pub record AnswersNoLine (status : ℕ) (old new : Option (List ℕ)) : Type 0 where
  -- they are refused, or memory is wanting, or the sink failed
  pub ends : (status ≡ 2) ⊎ (status ≡ 6) ⊎ (status ≡ 7)
  -- refused, the sink took the usage line
  pub whole : status ≡ 2 → Appends old new usage
  -- for want of memory nothing
  pub memory : status ≡ 6 → new ≡ old
  -- where it failed itself, a front of that line
  pub part : status ≡ 7 → AppendsPart old new usage

-- What the sink took, by what was asked, of a source that had this left. What is known of an answer is a function of what reads of the device gave before; of a run it is told with what became of the device.
abbrev pub Answers : {D K : Type 0} → Asked → ℕ → Option (List ℕ) → (D → ℕ) → (D → Option (List (List ℕ))) → (D → ℕ) → (D → ℕ) → (D → Changes) → D → D → (K → Option (List ℕ)) → K → K → Type 0
Answers (Quietly command) status left sector_count gives fault_count moment_of changes_of device device_now taken sink sink_now = AnswersQuiet status (known_answer command (sector_count device) (gives device)) (taken sink) (taken sink_now)
Answers (Run time) status left sector_count gives fault_count moment_of changes_of device device_now taken sink sink_now =
    AnswersRun gives sector_count moment_of fault_count changes_of time status left device device_now (taken sink) (taken sink_now)
Answers NoLine status left sector_count gives fault_count moment_of changes_of device device_now taken sink sink_now = AnswersNoLine status (taken sink) (taken sink_now)

-- ---- the causes of faults

-- The causes of the faults of the source, or of the sink: none is passed over, made good by a second try, or told by another status.
pub record HasCauses (its_status status before now : ℕ) : Type 0 where
  -- they rose where the status says that it failed
  pub failed : status ≡ its_status → Rose before now
  -- and only there
  pub counted : status ≢ its_status → now ≡ before

-- The same of the device, whose calls fail too from its last moment on.
pub record HasDeviceCauses {D : Type 0} (status : ℕ) (fault_count moment_of : D → ℕ) (old new : D) : Type 0 where
  -- its faults rose where the status says that it failed, or its last moment came
  pub failed : status ≡ 8 → HasFailed (fault_count old) (fault_count new) (moment_of new)
  -- and only there, of a device that began before its last moment
  pub counted : moment_of old < last_moment → status ≢ 8 → fault_count new ≡ fault_count old
  -- they never fall
  pub later : fault_count old ≤ fault_count new

-- The same of a run, whose commands may fail by the device and go on: where it is done, its text tells of them.
pub record HasRunCauses {D : Type 0} (status : ℕ) (fault_count moment_of : D → ℕ) (old new : D) : Type 0 where
  -- they rose in the mount or in the closing flush where the status says that the device failed
  pub failed : status ≡ 8 → HasFailed (fault_count old) (fault_count new) (moment_of new)
  -- and not where the volume or the script is refused, or the source failed
  pub counted : moment_of old < last_moment → (status ≡ 3) ⊎ (status ≡ 4) ⊎ (status ≡ 5) → fault_count new ≡ fault_count old
  -- they don't fall, before its last moment
  pub later : moment_of new < last_moment → fault_count old ≤ fault_count new

-- by what was asked
abbrev pub HasCausesBy : {D : Type 0} → Asked → ℕ → (D → ℕ) → (D → ℕ) → D → D → Type 0
HasCausesBy (Quietly command) status fault_count moment_of old new = HasDeviceCauses status fault_count moment_of old new
HasCausesBy (Run time) status fault_count moment_of old new = HasRunCauses status fault_count moment_of old new
HasCausesBy NoLine status fault_count moment_of old new = HasDeviceCauses status fault_count moment_of old new

-- ---- the order of calls

-- The order of the calls of a run: the whole source comes before the sink, and a script that is accepted before the device.
pub record RunsInOrder {S K D : Type 0} (status : ℕ) (left : S → Option (List ℕ)) (source source_now : S) (sink sink_now : K) (device device_now : D) : Type 0 where
  -- where it ends by the volume or by its text, the source was read to its end and is a script
  pub accepted : (status ≡ 0) ⊎ (status ≡ 3) ⊎ (status ≡ 8) → IsAccepted (left source) (left source_now)
  -- where the line of a refused script comes, or the sink fails, it was read to its end or up to a byte too many
  pub whole : (status ≡ 4) ⊎ (status ≡ 7) → IsReadWhole (left source) (left source_now)
  -- whatever the status, the sink isn't called before that
  pub sink_after : (sink_now ≡ sink) ⊎ IsReadWhole (left source) (left source_now)
  -- nor the device before the script is accepted
  pub device_after : (device_now ≡ device) ⊎ IsAccepted (left source) (left source_now)
  -- no more is read than a byte too many
  pub most_read : LosesAtMost 16777217 (left source) (left source_now)
  -- without a script the device isn't called
  pub untouched : (status ≡ 4) ⊎ (status ≡ 5) → device_now ≡ device

-- Only a run reads the source, and words that are no line leave the device uncalled.
abbrev pub KeepsOrder : {S K D : Type 0} → Asked → ℕ → (S → Option (List ℕ)) → S → S → K → K → D → D → Type 0
KeepsOrder (Quietly command) status left source source_now sink sink_now device device_now = source_now ≡ source
KeepsOrder (Run time) status left source source_now sink sink_now device device_now = RunsInOrder status left source source_now sink sink_now device device_now
KeepsOrder NoLine status left source source_now sink sink_now device device_now = (source_now ≡ source) × (device_now ≡ device)

-- ---- what is left on the device

-- A device on which a new volume was made, with this serial number, whose files have this time.
pub record IsFormatted {D : Type 0} (seed time : ℕ) (sector_count : D → ℕ) (gives : D → Option (List (List ℕ))) (changes_of : D → Changes) (old new : D) : Type 0 where
  -- reads give the new volume, with the sectors that aren't its own as they were
  pub made : gives new ≡ option_map (λ disk. formatted disk seed time) (gives old)
  -- a write was begun for each region or piece of one, and one sync
  pub begun : Begins (device_writes (layout_of (sector_count old))) 1 (changes_of old) (changes_of new)
  -- nothing is unsynced
  pub settled : IsSettledNow (changes_of new)

-- What a format leaves.
pub record Formats {D : Type 0} (seed time status : ℕ) (sector_count : D → ℕ) (gives : D → Option (List (List ℕ))) (moment_of : D → ℕ) (changes_of : D → Changes) (old new : D) : Type 0 where
  -- done, it has made its volume
  pub done : status ≡ 0 → IsFormatted seed time sector_count gives changes_of old new
  -- refused, it has only read
  pub refused : status ≡ 3 → IsOnlyRead gives changes_of old new
  -- where memory is wanting, or its line isn't written, it did the one or the other
  pub untold : (status ≡ 6) ⊎ (status ≡ 7) → IsOnlyRead gives changes_of old new ⊎ IsFormatted seed time sector_count gives changes_of old new
  -- where its line isn't written on a device that isn't refused, the volume is made
  pub part : status ≡ 7 → IsOk (format_line (sector_count old)) → IsFormatted seed time sector_count gives changes_of old new
  -- a device that is refused is only read, whatever comes of the line
  pub unfit : IsErr (format_line (sector_count old)) → IsOnlyRead gives changes_of old new
  -- where the device failed, it has put a front of its regions
  pub stopped : status ≡ 8 → PutsFront (regions (layout_of (sector_count old)) seed time) (gives old) (gives new)
  -- whatever comes of it, reads give of free clusters, of what lies behind them and of the last sector what they gave
  pub rest : KeepsOthers (layout_of (sector_count old)) (gives old) (gives new)
  -- and a crash during it or after it leaves there only what it might have left before
  pub rest_left : KeepsLeft (layout_of (sector_count old)) (sector_count old) (moment_of old) (changes_of old) (changes_of new)

-- A run without a script hasn't called the device, and one that is refused has written nothing; what it leaves else stands with what it answers.
pub record LeavesRun {D : Type 0} (status : ℕ) (gives : D → Option (List (List ℕ))) (changes_of : D → Changes) (old new : D) : Type 0 where
  pub unread : (status ≡ 4) ⊎ (status ≡ 5) → IsOnlyRead gives changes_of old new
  pub refused : status ≡ 3 → LeavesRefused gives changes_of old new

-- A format leaves that, and a run this; every other command, and words that are no line, only read.
abbrev pub LeavesBy : {D : Type 0} → Asked → ℕ → (D → ℕ) → (D → Option (List (List ℕ))) → (D → ℕ) → (D → Changes) → D → D → Type 0
LeavesBy (Quietly Scan) status sector_count gives moment_of changes_of old new = IsOnlyRead gives changes_of old new
LeavesBy (Quietly Dump) status sector_count gives moment_of changes_of old new = IsOnlyRead gives changes_of old new
LeavesBy (Quietly Check) status sector_count gives moment_of changes_of old new = IsOnlyRead gives changes_of old new
LeavesBy (Quietly Journal) status sector_count gives moment_of changes_of old new = IsOnlyRead gives changes_of old new
LeavesBy (Quietly (Format seed time)) status sector_count gives moment_of changes_of old new = Formats seed time status sector_count gives moment_of changes_of old new
LeavesBy (Run time) status sector_count gives moment_of changes_of old new = LeavesRun status gives changes_of old new
LeavesBy NoLine status sector_count gives moment_of changes_of old new = IsOnlyRead gives changes_of old new

-- What is left on the device, by what was asked and by the status.
pub record LeavesDevice {D : Type 0} (asked : Asked) (status : ℕ) (sector_count : D → ℕ) (gives : D → Option (List (List ℕ))) (moment_of : D → ℕ) (changes_of : D → Changes) (old new : D) : Type 0 where
  -- by the words above
  pub device : LeavesBy asked status sector_count gives moment_of changes_of old new
  -- it has as many sectors as before
  pub sectors : sector_count new ≡ sector_count old

-- ---- a command that nothing refuses

-- Where nothing refuses it, a command is done, or memory is wanting, or what failed is counted by its status.
abbrev pub IsWhole : {D : Type 0} → Asked → ℕ → Option (List ℕ) → (D → ℕ) → (D → Option (List (List ℕ))) → D → Type 0
IsWhole (Quietly command) status left sector_count gives device = IsSomeAnd (known_answer command (sector_count device) (gives device)) IsOk → (status ≡ 0) ⊎ (status ≡ 6) ⊎ (status ≡ 7) ⊎ (status ≡ 8)
IsWhole (Run time) status left sector_count gives device = IsSomeAnd left (λ bytes. MayRun (sector_count device) (gives device) (script_of bytes)) → (status ≡ 0) ⊎ (status ≡ 5) ⊎ (status ≡ 6) ⊎ (status ≡ 7) ⊎ (status ≡ 8)
IsWhole NoLine status left sector_count gives device = ⊤
