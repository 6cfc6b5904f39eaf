-- The laws of a file record's grammar: the table against the reader, the written spelling against both, and the rules.
use Rattle.std.specs.Prelude.{◌≡◌, ◌↔◌, ◌⊎◌, ℕ, ◌<◌, ◌≤◌, true, false, List, ◌++◌, length, map, take, Ok, Err}
use Rattle.std.specs.List.{list_all, concat, AllByRecursion}
use Rattle.disk_model.specs.host_base.Answers.{◌>>=◌, needs}
use Rattle.disk_model.specs.Numbers.{field}
use Rattle.disk_model.specs.Bytes.{AreBytes, part, zeros}
use Rattle.disk_model.specs.Content.{is_signed}
use Rattle.disk_model.specs.Fixups.{array_at, array_count}
use Rattle.disk_model.specs.declared.block.BlockKind.TheVariants.{FileRec}
use Rattle.record_model.specs.declared.attribute.Attr.{Attr}
use Rattle.record_model.specs.Attributes.{has_length, is_inside, attr_of, spelling, SpellsAttr, FitsAttr}
use Rattle.record_model.specs.Values.{has_lawful_value}
use Rattle.record_model.specs.Records.{Record, has_first, has_size, attribute_bytes, is_end_mark, types_rise, record_at, shaped_at, has_lawful_values, record_spelling, IsFileRecord, FitsRecord}

-- ---- attributes

-- bytes that are an attribute's spelling, whatever stands behind them, are read as it
pub record AttrTableIsRead : Type 0 where
  pub length : (s rest : List ℕ) (a : Attr) → SpellsAttr s a → has_length (s ++ rest) ≡ true
  pub own : (s rest : List ℕ) (a : Attr) → SpellsAttr s a → take (field 0x04 4 (s ++ rest)) (s ++ rest) ≡ s
  pub inside : (s : List ℕ) (a : Attr) → SpellsAttr s a → is_inside s ≡ true
  pub read : (s : List ℕ) (a : Attr) → SpellsAttr s a → attr_of s ≡ a

-- what is read of an attribute's own bytes is spelled by them
abbrev pub AttrReadIsTable : Type 0
AttrReadIsTable = (bytes : List ℕ) → has_length bytes ≡ true → is_inside (take (field 0x04 4 bytes) bytes) ≡ true → SpellsAttr (take (field 0x04 4 bytes) bytes) (attr_of (take (field 0x04 4 bytes) bytes))

-- the written spelling of an attribute is one of its spellings, and is read again
pub record AttrReadAgain : Type 0 where
  pub spelled : (a : Attr) → FitsAttr a → SpellsAttr (spelling a) a
  pub length : (a : Attr) (rest : List ℕ) → FitsAttr a → has_length (spelling a ++ rest) ≡ true
  pub inside : (a : Attr) → FitsAttr a → is_inside (spelling a) ≡ true
  pub read : (a : Attr) → FitsAttr a → attr_of (spelling a) ≡ a

-- ---- records

-- a body that spells a record is read as that record
abbrev pub TableIsRead : Type 0
TableIsRead = (body : List ℕ) (r : Record) → length body ≡ 1024 → IsFileRecord body r → record_at body ≡ Ok r

-- a body of bytes that is read as a record spells it
abbrev pub ReadIsTable : Type 0
ReadIsTable = (body : List ℕ) (r : Record) → length body ≡ 1024 → AreBytes body → record_at body ≡ Ok r → IsFileRecord body r

-- a body spells at most one record
abbrev pub SpellsOneRecord : Type 0
SpellsOneRecord = (body : List ℕ) (r q : Record) → length body ≡ 1024 → IsFileRecord body r → IsFileRecord body q → r ≡ q

-- a record is read where its shape is, and its values are lawful
abbrev pub RecordIsShaped : Type 0
RecordIsShaped = (body : List ℕ) → record_at body ≡ (shaped_at body >>= λ r. needs (has_lawful_values r) 8 >>= λ _. Ok r)

-- the written spelling of a record is a body that spells it, and is read again
pub record RecordReadAgain : Type 0 where
  pub size : (r : Record) → FitsRecord r → length (record_spelling r) ≡ 1024
  pub spelled : (r : Record) → FitsRecord r → IsFileRecord (record_spelling r) r
  pub read : (r : Record) → FitsRecord r → record_at (record_spelling r) ≡ Ok r

-- the written spelling begins FILE, and has the update sequence's array of three words at 0x30, as zeros
pub record RecordIsBody : Type 0 where
  pub signed : (r : Record) → is_signed FileRec (record_spelling r) ≡ true
  pub place : (r : Record) → array_at (record_spelling r) ≡ 0x30
  pub count : (r : Record) → array_count (record_spelling r) ≡ 3
  pub array : (r : Record) → part 0x30 6 (record_spelling r) ≡ zeros 6

-- ---- rules

-- an attribute's own bytes, in the middle of a record: as many as its length says, and not an end mark
pub record IsOwn (s : List ℕ) : Type 0 where
  pub length_holds : has_length s ≡ true
  pub own_length : field 0x04 4 s ≡ length s
  pub other : is_end_mark s ≡ false

-- the attributes' own bytes stand in order, and behind them the rest
pub record StandBefore (rest : List ℕ) (pieces : List (List ℕ)) (bytes : List ℕ) : Type 0 where
  pub placed : bytes ≡ concat pieces ++ rest
  pub each : AllByRecursion IsOwn pieces

-- behind the attributes stands the end mark, or too little for one, or an attribute with its length at fault
abbrev pub BeginsWithMark : List ℕ → Type 0
BeginsWithMark rest = (4 ≤ length rest) × (is_end_mark rest ≡ true)

abbrev pub IsShort : List ℕ → Type 0
IsShort rest = length rest < 4

abbrev pub HasFault : List ℕ → Type 0
HasFault rest = (4 ≤ length rest) × (is_end_mark rest ≡ false) × (has_length rest ≡ false)

-- the first attribute's offset and the sizes are right
abbrev pub HasHeader : List ℕ → Type 0
HasHeader body = (has_first body ≡ true) × (has_size body ≡ true)

-- the least rule that a body breaks
pub data LeastBroken (body : List ℕ) : ℕ → Type 0 where
  first_outside : has_first body ≡ false → LeastBroken body 1
  wrong_size : has_first body ≡ true → has_size body ≡ false → LeastBroken body 2
  wrong_length : HasHeader body → (pieces : List (List ℕ)) (rest : List ℕ) → StandBefore rest pieces (attribute_bytes body) → HasFault rest → LeastBroken body 3
  types_fall : HasHeader body → (pieces : List (List ℕ)) (rest : List ℕ) → StandBefore rest pieces (attribute_bytes body) → BeginsWithMark rest ⊎ IsShort rest → types_rise pieces ≡ false → LeastBroken body 4
  no_end_mark : HasHeader body → (pieces : List (List ℕ)) (rest : List ℕ) → StandBefore rest pieces (attribute_bytes body) → IsShort rest → types_rise pieces ≡ true → LeastBroken body 5
  part_outside : HasHeader body → (pieces : List (List ℕ)) (rest : List ℕ) → StandBefore rest pieces (attribute_bytes body) → BeginsWithMark rest → types_rise pieces ≡ true → list_all is_inside pieces ≡ false → LeastBroken body 6
  unlawful_value : HasHeader body → (pieces : List (List ℕ)) (rest : List ℕ) → StandBefore rest pieces (attribute_bytes body) → BeginsWithMark rest → types_rise pieces ≡ true → list_all is_inside pieces ≡ true → list_all has_lawful_value (map attr_of pieces) ≡ false → LeastBroken body 8

-- a refusal is the least rule that is broken
abbrev pub RuleIsLeast : Type 0
RuleIsLeast = (body : List ℕ) (rule : ℕ) → length body ≡ 1024 → (record_at body ≡ Err rule) ↔ LeastBroken body rule
