-- File records that a plan reads and puts.
use Rattle.std.specs.Prelude.{◌≡◌, ◌⊎◌, ℕ, ◌*◌, ◌/◌, ◌&&◌, ◌==◌, nat_le, nat_lt, if◌then◌else◌, Bool, List, map, count_by, Option, Some, None, Result, Ok, ◌++◌, ⊤}
use Rattle.resized_streams.specs.host_base.Answers.{◌>>=◌, needs}
use Rattle.record_model.specs.disk_model.declared.block.Block.{Block}
use Rattle.record_model.specs.disk_model.declared.block.BlockKind.TheVariants.{FileRec}
use Rattle.record_model.specs.disk_model.Content.{Content}
use Rattle.record_model.specs.declared.attribute.Attr.{Attr}
use Rattle.record_model.specs.declared.record.RecHead.{RecHead}
use Rattle.record_model.specs.Constants.{file_name}
use Rattle.record_model.specs.Records.{Record, record_at, record_spelling, used_of, FitsRecord}
use Rattle.resized_streams.specs.record_writer.Normal.{normal}
use Rattle.resized_streams.specs.record_writer.NormalLaws.{FitsByRoom}
use Rattle.resized_streams.specs.record_streams.Fitting.{FitsButRoom}
use Rattle.state_model.specs.declared.stream.Extents.{Extents}
use Rattle.state_model.specs.Loads.{slot_by, used_record, table_slot}
use Rattle.state_model.specs.Streams.{block_at}
use Rattle.plan_draft.specs.plan_bodies.Bodies.{NewBody}
use Rattle.plan_draft.specs.declared.touched.Touched.{Touched}
use Rattle.plan_draft.specs.Touching.{put_in_order, touch}
use Rattle.draft_records.specs.declared.fault.DraftFault.{DraftFault}
use Rattle.draft_records.specs.declared.fault.DraftFault.TheVariants.{Full, Fault, Memory}

-- ---- where they lie

-- the block of a record in these extents
abbrev pub record_block : ℕ → Extents → ℕ → Option Block
record_block per e n = block_at per e.runs FileRec n

-- the record lies wholly past the initialised size
abbrev pub is_past : Extents → ℕ → Bool
is_past e n = nat_le e.initialised (1024 * n)

-- the table's mirror has this record: it has those of 0 to 3 that it holds whole
abbrev pub has_mirror : Extents → ℕ → Bool
has_mirror mirror n = nat_lt n 4 && nat_lt n (mirror.real / 1024)

-- ---- what they are

-- a record in use that breaks none of the rules 1 to 6 and 8
abbrev pub read_in : Content → Block → Option Record
read_in c b = used_record (slot_by record_at (c b))

abbrev pub file_in : Content → Option Block → Option Record
file_in c None = None
file_in c (Some b) = read_in c b

-- the record of that number in a table of these extents; one wholly past the initialised size isn't in use
abbrev pub file_of : Content → ℕ → Extents → ℕ → Option Record
file_of c per e n = if is_past e n then None else file_in c (record_block per e n)

-- What a table has as a record in use is read as this record.
abbrev pub ReadsTheTable : Type 0
ReadsTheTable = (c : Content) (per : ℕ) (e : Extents) (n : ℕ) (r : Record) → used_record (table_slot c per e n) ≡ Some r → file_of c per e n ≡ Some r

-- ---- how they are written

abbrev pub is_name : Attr → Bool
is_name a = a.head.kind == file_name

-- how many names a record with these attributes has
abbrev pub name_count : List Attr → ℕ
name_count attrs = count_by is_name attrs

abbrev pub with_links : RecHead → ℕ → RecHead
with_links h links = record { lsn = h.lsn; seq = h.seq; links = links; flags = h.flags; base = h.base; next_id = h.next_id; number = h.number }

-- the record with these attributes more, each normal
abbrev pub with_normal : Record → List Attr → Record
with_normal r attrs = record { head = r.head; attrs = r.attrs ++ map normal attrs }

-- the record as it is written: its attributes normal, and its count of links that of its names
abbrev pub written_record : Record → Record
written_record r = record { head = with_links r.head (name_count r.attrs); attrs = map normal r.attrs }

-- the bytes that it uses so
abbrev pub written_bytes : Record → ℕ
written_bytes r = used_of (map normal r.attrs)

-- nothing, or the bytes that the record would use where these are above 1,024
abbrev pub fits_room : Record → Result (Unit {0}) ℕ
fits_room r = needs (nat_le (written_bytes r) 1024) (written_bytes r)

-- the record as it is written, where it has room
abbrev pub written_in_room : Record → Result Record ℕ
written_in_room r = fits_room r >>= λ _. Ok (written_record r)

-- the record's body as it is written
abbrev pub body_of_record : Record → Result (List ℕ) ℕ
body_of_record r = fits_room r >>= λ _. Ok (record_spelling (written_record r))

-- ---- how they are put

-- a body more in the block, if there is one
abbrev pub put_if : Option Block → List ℕ → List NewBody → List NewBody
put_if None bytes bodies = bodies
put_if (Some b) bytes bodies = put_in_order (record { block = b; bytes = bytes }) bodies

-- the bodies with this body of a record, in its own block and, where the mirror has it, in that of the mirror
abbrev pub put_record : ℕ → Extents → Extents → ℕ → List ℕ → List NewBody → List NewBody
put_record per table mirror n bytes bodies =
    let own = put_if (record_block per table n) bytes bodies in
    if has_mirror mirror n then put_if (record_block per mirror n) bytes own else own

-- the same of what is touched, with the old bodies by the content
abbrev pub touch_if : Content → Option Block → Bool → List ℕ → List Touched → List Touched
touch_if c None fresh bytes touched = touched
touch_if c (Some b) fresh bytes touched = touch b fresh bytes (c b) touched

abbrev pub touch_in : Content → ℕ → Extents → ℕ → List ℕ → List Touched → List Touched
touch_in c per e n bytes touched = touch_if c (record_block per e n) (is_past e n) bytes touched

abbrev pub touch_record : Content → ℕ → Extents → Extents → ℕ → List ℕ → List Touched → List Touched
touch_record c per table mirror n bytes touched =
    let own = touch_in c per table n bytes touched in
    if has_mirror mirror n then touch_in c per mirror n bytes own else own

-- the bodies of before, or those with the record in its own block alone
abbrev pub IsFront : ℕ → Extents → ℕ → List ℕ → List NewBody → List NewBody → Type 0
IsFront per table n bytes old new = (new ≡ old) ⊎ (new ≡ put_if (record_block per table n) bytes old)

-- where there is no room, nothing is touched
abbrev pub StaysWhereFull : List Touched → List Touched → DraftFault → Type 0
StaysWhereFull old new (Full used) = new ≡ old
StaysWhereFull old new Fault = ⊤
StaysWhereFull old new Memory = ⊤

-- A record that has a spelling has one exactly where it has room, as one that was read.
abbrev pub SpelledFitsByRoom : Type 0
SpelledFitsByRoom = (r : Record) → FitsRecord r → FitsByRoom r

-- It has a spelling but for its room, as one that was read.
abbrev pub SpelledFitsButRoom : Type 0
SpelledFitsButRoom = (r : Record) → FitsRecord r → FitsButRoom r
