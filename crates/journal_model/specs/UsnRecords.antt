-- Records of the change journal (Microsoft's reference, "USN_RECORD_V2"): reading one, its table, and the one spelling of it.
-- 00 length, 04 major version, 06 minor version, 08 file, 10 parent, 18 USN, 20 time, 28 reason, 2C source, 30 security id,
-- 34 attributes, 38 bytes of the name, 3A offset of the name, 3C name, and zeros up to a multiple of 8.
use Rattle.std.specs.Prelude.{◌≡◌, ◌≢◌, ℕ, ◌+◌, ◌-◌, ◌*◌, ◌/◌, ◌%◌, ◌^◌, ◌<◌, ◌≤◌, ◌==◌, ◌&&◌, nat_le, if◌then◌else◌, Bool, List, ◌++◌, length, take, drop, is_ok, Option, Some, None, Result, Ok, FitsSigned}
use Rattle.std.specs.Int.{w64, cast_signed, cast_unsigned}
use Rattle.record_model.specs.host_base.Answers.{Cause, refused, no_memory, ◌>>=◌, needs}
use Rattle.record_model.specs.host_base.FileRefs.{packed, unpacked}
use Rattle.record_model.specs.utf16_name.Lawful.{IsName}
use Rattle.record_model.specs.utf16_name.Names.{name_of}
use Rattle.record_model.specs.disk_model.Numbers.{field, spell}
use Rattle.record_model.specs.disk_model.Bytes.{zeros, all_zeros, up8}
use Rattle.record_model.specs.Attributes.{units_at, unit_bytes, filled}
use Rattle.file_tree.specs.declared.journal.Usn.{Usn}
use Rattle.journal_model.specs.declared.fault.UsnFault.{UsnFault}
use Rattle.journal_model.specs.declared.fault.UsnFault.TheVariants.{Cut, Shape, Memory}

-- where an error of a call comes from
abbrev pub usn_cause : UsnFault → Cause UsnFault
usn_cause (Cut at) = refused (Cut at)
usn_cause (Shape at) = refused (Shape at)
usn_cause Memory = no_memory

-- the bytes of a page; offsets in the journal count from its first page
abbrev pub page_size : ℕ
page_size = 4096

-- the version that is read
abbrev pub known_version : ℕ
known_version = 2

-- ---- the reader

-- the length stands in these bytes, and they are as many as it says
unfoldable pub is_whole : List ℕ → Bool
is_whole bytes = nat_le 4 (length bytes) && nat_le (field 0x00 4 bytes) (length bytes)

-- at least 8, and a multiple of 8
unfoldable pub is_length : ℕ → Bool
is_length n = nat_le 8 n && n % 8 == 0

-- as many bytes as the length says
abbrev pub own_bytes : List ℕ → List ℕ
own_bytes bytes = take (field 0x00 4 bytes) bytes

-- the name's units, and what stands behind them
unfoldable pub name_units : List ℕ → List ℕ
name_units own = units_at 0x3C (field 0x38 2 own / 2) own

unfoldable pub padding : List ℕ → List ℕ
padding own = drop (0x3C + field 0x38 2 own) own

-- minor version 0, the record's own offset as its USN, and a name of whole units at 0x3C that the length fits
unfoldable pub has_layout : ℕ → List ℕ → Bool
has_layout at own =
    field 0x06 2 own == 0 && field 0x18 8 own == at && field 0x3A 2 own == 0x3C && field 0x38 2 own % 2 == 0 && length own == up8 (0x3C + field 0x38 2 own)

-- a record of version 2 at this offset: its layout, a lawful name, and zeros behind it
unfoldable pub is_usn : ℕ → List ℕ → Bool
is_usn at own = has_layout at own && is_ok (name_of (name_units own)) && all_zeros (padding own)

unfoldable pub usn_of : List ℕ → Usn
usn_of own = record {
  usn = field 0x18 8 own;
  child = unpacked (field 0x08 8 own);
  parent = unpacked (field 0x10 8 own);
  reason = field 0x28 4 own;
  flags = field 0x34 4 own;
  time = cast_signed w64 (field 0x20 8 own);
  source = field 0x2C 4 own;
  security = field 0x30 4 own;
  name = name_units own;
}

-- what a record's own bytes say; nothing for another version, which is passed over
unfoldable pub entry_in : ℕ → List ℕ → Result (Option Usn) UsnFault
entry_in at own = if field 0x04 2 own == known_version then (needs (is_usn at own) (Shape at) >>= λ _. Ok (Some (usn_of own))) else Ok None

-- the record at the front of these bytes, which stand at this offset of the journal, and its length; or what refuses it
unfoldable pub usn_in : List ℕ → ℕ → Result (Option Usn × ℕ) UsnFault
usn_in bytes at =
    needs (is_whole bytes) (Cut at) >>= λ _.
    needs (is_length (field 0x00 4 bytes)) (Shape at) >>= λ _.
    entry_in at (own_bytes bytes) >>= λ entry. Ok (entry, field 0x00 4 bytes)

-- the bytes of a page from this offset of the journal on; bytes that are given behind its 4,096 are none of it
abbrev pub page_rest : List ℕ → ℕ → List ℕ
page_rest page at = drop (at % page_size) (take page_size page)

-- the record at this offset of the journal, in the bytes of its page, behind whose end no record ends
unfoldable pub usn_at : List ℕ → ℕ → Result (Option Usn × ℕ) UsnFault
usn_at page at = usn_in (page_rest page at) at

-- ---- the table

-- these bytes are the record of this entry
pub record IsUsn (s : List ℕ) (entry : Usn) : Type 0 where
  pub own_length : field 0x00 4 s ≡ length s
  pub major : field 0x04 2 s ≡ known_version
  pub minor : field 0x06 2 s ≡ 0
  pub child : unpacked (field 0x08 8 s) ≡ entry.child
  pub parent : unpacked (field 0x10 8 s) ≡ entry.parent
  pub usn : field 0x18 8 s ≡ entry.usn
  pub time : cast_signed w64 (field 0x20 8 s) ≡ entry.time
  pub reason : field 0x28 4 s ≡ entry.reason
  pub source : field 0x2C 4 s ≡ entry.source
  pub security : field 0x30 4 s ≡ entry.security
  pub flags : field 0x34 4 s ≡ entry.flags
  pub name_bytes : field 0x38 2 s ≡ 2 * length entry.name
  pub name_place : field 0x3A 2 s ≡ 0x3C
  pub name : units_at 0x3C (length entry.name) s ≡ entry.name
  pub lawful : IsName entry.name
  pub size : length s ≡ up8 (0x3C + 2 * length entry.name)
  pub behind : drop (0x3C + 2 * length entry.name) s ≡ zeros (length s - (0x3C + 2 * length entry.name))

-- these bytes are a record of another version
pub record IsOther (s : List ℕ) : Type 0 where
  pub own_length : field 0x00 4 s ≡ length s
  pub some : 8 ≤ length s
  pub eights : length s % 8 ≡ 0
  pub major : field 0x04 2 s ≢ known_version

-- these bytes are a record that stands at this offset of the journal
abbrev pub IsRecord : List ℕ → ℕ → Option Usn → Type 0
IsRecord s at (Some entry) = IsUsn s entry × (entry.usn ≡ at)
IsRecord s at None = IsOther s

-- these bytes begin with a record of n bytes
pub record BeginsRecord (bytes : List ℕ) (at : ℕ) (entry : Option Usn) (n : ℕ) : Type 0 where
  pub inside : n ≤ length bytes
  pub own : IsRecord (take n bytes) at entry

-- ---- the spelling that is written

-- how many bytes an entry's record has
abbrev pub usn_size : Usn → ℕ
usn_size entry = up8 (0x3C + 2 * length entry.name)

-- the first 0x3C bytes
unfoldable pub head_spelling : Usn → List ℕ
head_spelling entry =
    spell 4 (usn_size entry) ++ spell 2 known_version ++ spell 2 0 ++ spell 8 (packed entry.child) ++ spell 8 (packed entry.parent)
    ++ spell 8 entry.usn ++ spell 8 (cast_unsigned w64 entry.time) ++ spell 4 entry.reason ++ spell 4 entry.source ++ spell 4 entry.security
    ++ spell 4 entry.flags ++ spell 2 (2 * length entry.name) ++ spell 2 0x3C

unfoldable pub usn_spelling : Usn → List ℕ
usn_spelling entry = head_spelling entry ++ filled 0x3C (unit_bytes entry.name)

-- the entry has a spelling
pub record FitsUsn (entry : Usn) : Type 0 where
  pub usn : entry.usn < 2 ^ 64
  pub child_number : entry.child.number < 2 ^ 48
  pub child_seq : entry.child.seq < 2 ^ 16
  pub parent_number : entry.parent.number < 2 ^ 48
  pub parent_seq : entry.parent.seq < 2 ^ 16
  pub reason : entry.reason < 2 ^ 32
  pub flags : entry.flags < 2 ^ 32
  pub time : FitsSigned w64 entry.time
  pub source : entry.source < 2 ^ 32
  pub security : entry.security < 2 ^ 32
  pub name : IsName entry.name
