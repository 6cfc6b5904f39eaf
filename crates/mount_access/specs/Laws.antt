-- The laws of a mount: what it is to those who ask for it.
use Rattle.std.specs.Prelude.{◌≡◌, ℕ, List, Some, Result, Ok, Err}
use Rattle.host_base.specs.Answers.{◌>>=◌}
use Rattle.file_tree.specs.declared.journal.Journal.{Journal}
use Rattle.volume_state.specs.Laws.{bare}
use Rattle.volume_mount.specs.image_open.declared.refusal.Refusal.{Refusal}
use Rattle.volume_mount.specs.image_read.declared.reading.ReadJournal.{ReadJournal}
use Rattle.volume_mount.specs.image_read.Checks.{check_of}
use Rattle.volume_mount.specs.image_read.Records.{journal_of}
use Rattle.volume_mount.specs.image_read.States.{StandsFor}
use Rattle.volume_mount.specs.Mounts.{MountedVolume, tree_in, mounted_of}
use Rattle.mount_access.specs.declared.access.Access.{Access}
use Rattle.mount_access.specs.declared.access.Access.TheVariants as accesses
use Rattle.mount_access.specs.Mounts.{mounted_for}

-- mounted for a change, a volume is the mounted one
abbrev pub ChangeIsTheMount : Type 0
ChangeIsTheMount = (disk : List (List ℕ)) → mounted_for accesses.Change disk ≡ mounted_of disk

-- a check answers the tree of a volume that is mounted to look, without the bytes of its nodes and the records of its journal, or what refuses it
abbrev pub LookIsTheCheck : Type 0
LookIsTheCheck = (disk : List (List ℕ)) → check_of disk ≡ (mounted_for accesses.Look disk >>= λ m. Ok (bare (tree_in m)))

-- the records of a journal, and where it begins and ends
abbrev pub records_of : Journal → ReadJournal
records_of j = record { entries = j.entries; first = j.first; next = j.next }

-- a mounted volume has a change journal, and these are its records
abbrev pub HasRecords : MountedVolume → ReadJournal → Type 0
HasRecords m read = (j : Journal) × ((tree_in m).journal ≡ Some j) × (read ≡ records_of j)

-- the reading of a journal answers the records of the tree of a volume that is mounted for its journal, or what refuses it
abbrev pub Reads : Result MountedVolume Refusal → Result ReadJournal Refusal → Type 0
Reads (Ok m) answer = (read : ReadJournal) × HasRecords m read × (answer ≡ Ok read)
Reads (Err refusal) answer = answer ≡ Err refusal

abbrev pub JournalIsItsReading : Type 0
JournalIsItsReading = (disk : List (List ℕ)) → Reads (mounted_for accesses.Journal disk) (journal_of disk)

-- what is mounted for anything is mounted to look, as the same
abbrev pub MountsToLook : Type 0
MountsToLook = (how : Access) (disk : List (List ℕ)) (m : MountedVolume) → mounted_for how disk ≡ Ok m → mounted_for accesses.Look disk ≡ Ok m

-- and the image stands for its tree
abbrev pub StandsForItsTree : Type 0
StandsForItsTree = (how : Access) (disk : List (List ℕ)) (m : MountedVolume) → mounted_for how disk ≡ Ok m → StandsFor disk (tree_in m)
