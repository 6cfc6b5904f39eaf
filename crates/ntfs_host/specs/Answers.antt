-- What the commands answer.
use Rattle.std.specs.Prelude.{ℕ, zero, suc, List, [], Option, Some, Result, Ok, Err}
use Rattle.std.specs.Option.{option_map}
use Rattle.host_base.specs.Answers.{◌>>=◌}
use Rattle.volume_format.specs.declared.fault.FormatFault.{FormatFault}
use Rattle.volume_format.specs.declared.fault.FormatFault.TheVariants as formats
use Rattle.volume_format.specs.declared.fault.FormatRefusal.{FormatRefusal}
use Rattle.volume_format.specs.declared.fault.FormatRefusal.TheVariants as sizes
use Rattle.volume_format.specs.Answers.{format_answer}
use Rattle.volume_run.specs.image_open.declared.refusal.Refusal.{Refusal}
use Rattle.volume_run.specs.image_open.declared.refusal.Refusal.TheVariants.{VolumeLarge, Short}
use Rattle.volume_run.specs.image_open.declared.refusal.MountFault.{MountFault}
use Rattle.volume_run.specs.image_open.declared.refusal.MountFault.TheVariants as errors
use Rattle.volume_run.specs.image_open.Errors.{refused_as}
use Rattle.volume_run.specs.image_read.Scans.{scan_of}
use Rattle.image_dump.specs.Texts.{scan_text, dump_text, check_text, journal_text}
use Rattle.volume_run.specs.image_read.Checks.{check_of}
use Rattle.volume_run.specs.image_read.Records.{journal_of}
use Rattle.volume_run.specs.volume_mount.Mounts.{MountedVolume, mounted_of}
use Rattle.ntfs_host.specs.declared.command.Quiet.{Quiet}
use Rattle.ntfs_host.specs.declared.command.Quiet.TheVariants.{Scan, Dump, Check, Journal, Format}
use Rattle.ntfs_host.specs.Text.{formatted_line}

-- the text of the long names of the volume on these sectors, or what refuses it
abbrev pub scan_answer : List (List ℕ) → Result (List ℕ) Refusal
scan_answer disk = scan_of disk >>= λ links. Ok (scan_text links)

-- the text of the tree that they stand for
abbrev pub dump_answer : List (List ℕ) → Result (List ℕ) Refusal
dump_answer disk = check_of disk >>= λ tree. Ok (dump_text tree)

-- the line that a check prints of that tree
abbrev pub check_answer : List (List ℕ) → Result (List ℕ) Refusal
check_answer disk = check_of disk >>= λ tree. Ok (check_text tree)

-- the text of the records of its change journal
abbrev pub journal_answer : List (List ℕ) → Result (List ℕ) Refusal
journal_answer disk = journal_of disk >>= λ j. Ok (journal_text j.entries j.first j.next)

-- a refusal of a format is that of an image
abbrev pub format_refusal : FormatRefusal → Refusal
format_refusal (sizes.VolumeLarge clusters) = VolumeLarge clusters
format_refusal (sizes.Short sectors device) = Short sectors device

abbrev pub error_of_format : FormatFault → MountFault
error_of_format (formats.Refused refusal) = errors.Refused (format_refusal refusal)
error_of_format formats.Fault = errors.Device
error_of_format formats.Memory = errors.Memory

-- the line of the volume that a format makes on so many sectors
abbrev pub format_line : ℕ → Result (List ℕ) Refusal
format_line sectors = refused_as format_refusal (format_answer sectors) >>= λ f. Ok (formatted_line f)

-- The sectors that reads of a device give, where they are known; those of a device that has none are.
abbrev pub known_disk : ℕ → Option (List (List ℕ)) → Option (List (List ℕ))
known_disk zero gives = Some []
known_disk (suc n) gives = gives

-- The text that answers a command on a device of so many sectors, or the first refusal that applies, where it is known: of a format by the
-- number of sectors, of another command by what reads of them give.
unfoldable pub known_answer : Quiet → ℕ → Option (List (List ℕ)) → Option (Result (List ℕ) Refusal)
known_answer Scan sectors gives = option_map scan_answer (known_disk sectors gives)
known_answer Dump sectors gives = option_map dump_answer (known_disk sectors gives)
known_answer Check sectors gives = option_map check_answer (known_disk sectors gives)
known_answer Journal sectors gives = option_map journal_answer (known_disk sectors gives)
known_answer (Format seed time) sectors gives = Some (format_line sectors)

-- the volume of a device of so many sectors, mounted, or the first refusal that applies, where it is known
unfoldable pub known_mount : ℕ → Option (List (List ℕ)) → Option (Result MountedVolume Refusal)
known_mount sectors gives = option_map mounted_of (known_disk sectors gives)

-- the status that the text of a command, or what keeps it from having one, has by itself
abbrev pub answer_status : {A : Type 0} → Result A MountFault → ℕ
answer_status (Ok text) = 0
answer_status (Err (errors.Refused refusal)) = 3
answer_status (Err errors.Memory) = 6
answer_status (Err errors.Device) = 8
