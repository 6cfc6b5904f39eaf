-- Numbers of file records that a plan takes.
use Rattle.std.specs.Prelude.{◌≡◌, ℕ, ◌<◌, ◌≤◌, true, false, Bool, if◌then◌else◌, List, [], length, Option, Some, None}
use Rattle.std.specs.Prelude.{MatchOption}
use Rattle.host_base.specs.declared.file_ref.FileRef.{FileRef}
use Rattle.disk_model.specs.Content.{Content}
use Rattle.bit_set.specs.Bits.{bit, IsLowestClear, PutsRun}
use Rattle.draft_records.specs.state_model.declared.stream.Extents.{Extents}
use Rattle.file_tree.specs.Walks.{first_user_record}
use Rattle.volume_model.specs.Volumes.{Volume, record_bits, block_bytes}
use Rattle.volume_model.specs.Nodes.{spare_sequence, spare_at}
use Rattle.draft_records.specs.plan_draft.declared.touched.Touched.{Touched}
use Rattle.draft_bits.specs.Filling.{PutsBits, PutsFront}
use Rattle.draft_records.specs.Records.{record_block, is_past}

-- the bytes of a record of the table; there are none past its initialised size
abbrev pub number_bytes : Content → ℕ → Extents → ℕ → List ℕ
number_bytes c per e n = if is_past e n then [] else block_bytes c (record_block per e n)

-- the sequence that a new file would get there
abbrev pub new_sequence : Content → ℕ → Extents → ℕ → ℕ
new_sequence c per e n = spare_sequence (number_bytes c per e n)

-- the lowest number of users whose bit is clear, or none where each is set
abbrev pub IsLowestSpare : List Bool → Option FileRef → Type 0
IsLowestSpare bits spare = MatchOption spare ((i : ℕ) → first_user_record ≤ i → i < length bits → bit bits i ≡ true) (λ r. IsLowestClear bits first_user_record r.number)

-- the bit of the number is set where there is one, and the others stay
abbrev pub MarksNumber : List Bool → List Bool → Option FileRef → Type 0
MarksNumber old new spare = MatchOption spare (new ≡ old) (λ r. PutsRun old new r.number 1 true)

-- so is it in the bitmap of these clusters
abbrev pub PutsNumber : Content → ℕ → Extents → List Touched → List Touched → Option FileRef → Type 0
PutsNumber c per e old new spare = MatchOption spare (new ≡ old) (λ r. PutsBits c per e r.number 1 true old new)

-- nothing is put, or the first sectors of a number's bit
abbrev pub PutsNumberFront : Content → ℕ → Extents → List Touched → List Touched → Type 0
PutsNumberFront c per e old new = (n : ℕ) × PutsFront c per e n 1 true old new

-- A volume's spare numbers have this sequence.
abbrev pub SparesAreThose : Type 0
SparesAreThose = (c : Content) (v : Volume) (n : ℕ) → bit (record_bits c v) n ≡ false → spare_at c v n ≡ Some (record { number = n; seq = new_sequence c v.per v.table n })
