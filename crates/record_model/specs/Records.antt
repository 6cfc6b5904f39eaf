-- File records: reading a body, rule by rule, the table, and the spelling that is written.
use Rattle.std.specs.Prelude.{◌≡◌, ℕ, zero, suc, ◌+◌, ◌-◌, ◌%◌, ◌<◌, ◌≤◌, ◌^◌, List, [], ◌∷◌, ◌++◌, length, map, take, drop, Result, Ok, Bool, true, false, ◌&&◌, nat_le, nat_lt, ◌==◌, All, IsTrue}
use Rattle.std.specs.List.{list_all, flat_map, concat}
use Rattle.disk_model.specs.host_base.Answers.{◌>>=◌, needs}
use Rattle.disk_model.specs.host_base.FileRefs.{packed, unpacked}
use Rattle.disk_model.specs.Numbers.{field, spell}
use Rattle.disk_model.specs.Bytes.{part, zeros}
use Rattle.record_model.specs.declared.record.RecHead.{RecHead}
use Rattle.record_model.specs.declared.attribute.Attr.{Attr}
use Rattle.record_model.specs.Attributes.{has_length, is_inside, attr_of, spelling, SpellsAttr, FitsAttr}
use Rattle.record_model.specs.Values.{has_lawful_value}
use Rattle.record_model.specs.Constants.{end_mark}

-- a record without the bytes of its file
pub record Record : Type 0 where
  pub head : RecHead
  pub attrs : List Attr

-- ---- the reader

-- where the first attribute begins, and how many bytes are used
abbrev pub first_at : List ℕ → ℕ
first_at body = field 0x14 2 body

abbrev pub used_bytes : List ℕ → ℕ
used_bytes body = field 0x18 4 body

abbrev pub allocated_bytes : List ℕ → ℕ
allocated_bytes body = field 0x1C 4 body

-- rule 1: the first attribute begins at a multiple of 8 inside the used bytes
unfoldable pub has_first : List ℕ → Bool
has_first body = first_at body % 8 == 0 && nat_lt (first_at body) (used_bytes body)

-- rule 2: the used bytes aren't above the allocated ones, which are 1,024
unfoldable pub has_size : List ℕ → Bool
has_size body = nat_le (used_bytes body) (allocated_bytes body) && allocated_bytes body == 1024

-- the bytes from the first attribute to the end of the used ones
unfoldable pub attribute_bytes : List ℕ → List ℕ
attribute_bytes body = part (first_at body) (used_bytes body - first_at body) body

unfoldable pub is_end_mark : List ℕ → Bool
is_end_mark bytes = field 0 4 bytes == end_mark

-- the attributes' own bytes up to the end mark, and whether there is one
pub record Pieces : Type 0 where
  pub pieces : List (List ℕ)
  pub ended : Bool

abbrev pub with_piece : List ℕ → Result Pieces ℕ → Result Pieces ℕ
with_piece piece read = read >>= λ p. Ok (record { pieces = piece ∷ p.pieces; ended = p.ended })

-- cuts the bytes into at most so many attributes; rule 3 at the first whose length is at fault
unfoldable pub cut : ℕ → List ℕ → Result Pieces ℕ
cut zero bytes = Ok (record { pieces = []; ended = false })
cut (suc most) bytes =
    elim (nat_lt (length bytes) 4) [
      | true ↦ Ok (record { pieces = []; ended = false })
      | false ↦ elim (is_end_mark bytes) [
        | true ↦ Ok (record { pieces = []; ended = true })
        | false ↦ needs (has_length bytes) 3 >>= λ _. with_piece (take (field 0x04 4 bytes) bytes) (cut most (drop (field 0x04 4 bytes) bytes))
      ]
    ]

-- an attribute has at least 0x18 bytes: a record of 1,024 bytes has at most 42, and then its end mark
abbrev pub most_attributes : ℕ
most_attributes = 43

-- rule 4: types don't fall
abbrev pub types_rise : List (List ℕ) → Bool
types_rise [] = true
types_rise (p ∷ []) = true
types_rise (p ∷ q ∷ pieces) = nat_le (field 0 4 p) (field 0 4 q) && types_rise (q ∷ pieces)

unfoldable pub rec_head_of : List ℕ → RecHead
rec_head_of body = record { lsn = field 0x08 8 body; seq = field 0x10 2 body; links = field 0x12 2 body; flags = field 0x16 2 body; base = unpacked (field 0x20 8 body); next_id = field 0x28 2 body; number = field 0x2C 4 body }

-- The record of a body, or the least rule that it breaks: the first attribute's offset (1), the sizes (2), an
-- attribute's length (3), falling types (4), no end mark (5), a name or value outside its attribute (6), a file name or
-- standard information that is not resident or out of shape (8).
unfoldable pub record_at : List ℕ → Result Record ℕ
record_at body =
    needs (has_first body) 1
    >>= λ _. needs (has_size body) 2
    >>= λ _. cut most_attributes (attribute_bytes body)
    >>= λ p. needs (types_rise p.pieces) 4
    >>= λ _. needs p.ended 5
    >>= λ _. needs (list_all is_inside p.pieces) 6
    >>= λ _. needs (list_all has_lawful_value (map attr_of p.pieces)) 8
    >>= λ _. Ok (record { head = rec_head_of body; attrs = map attr_of p.pieces })

-- The record that a body spells whatever its values hold, or the least of the rules 1 to 6 that it breaks.
unfoldable pub shaped_at : List ℕ → Result Record ℕ
shaped_at body =
    needs (has_first body) 1
    >>= λ _. needs (has_size body) 2
    >>= λ _. cut most_attributes (attribute_bytes body)
    >>= λ p. needs (types_rise p.pieces) 4
    >>= λ _. needs p.ended 5
    >>= λ _. needs (list_all is_inside p.pieces) 6
    >>= λ _. Ok (record { head = rec_head_of body; attrs = map attr_of p.pieces })

-- rule 8: its standard information and file names are lawful
unfoldable pub has_lawful_values : Record → Bool
has_lawful_values r = list_all has_lawful_value r.attrs

-- its flags have the bit 1, which says that the record is in use
unfoldable pub has_in_use_flag : List ℕ → Bool
has_in_use_flag body = field 0x16 2 body % 2 == 1

-- its base reference is zero: it holds no attributes of another record
unfoldable pub is_base : List ℕ → Bool
is_base body = field 0x20 8 body == 0

-- ---- the table

-- each of these bytes spells the attribute at its place
abbrev pub SpellEach : List (List ℕ) → List Attr → Type 0
SpellEach [] [] = Unit {0}
SpellEach [] (a ∷ attrs) = ⊥
SpellEach (s ∷ spellings) [] = ⊥
SpellEach (s ∷ spellings) (a ∷ attrs) = SpellsAttr s a × SpellEach spellings attrs

-- types don't fall
abbrev pub TypesRise : List Attr → Type 0
TypesRise [] = Unit {0}
TypesRise (a ∷ []) = Unit {0}
TypesRise (a ∷ b ∷ attrs) = (a.head.kind ≤ b.head.kind) × TypesRise (b ∷ attrs)

-- The body spells the record: its header has these fields; from the first attribute's offset on stand the attributes'
-- spellings in order and then the end mark, all inside the used bytes.
pub record IsFileRecord (body : List ℕ) (r : Record) : Type 0 where
  pub first : first_at body % 8 ≡ 0
  pub first_inside : first_at body < used_bytes body
  pub used : used_bytes body ≤ allocated_bytes body
  pub allocated : allocated_bytes body ≡ 1024
  pub head : rec_head_of body ≡ r.head
  pub spellings : List (List ℕ)
  pub behind : List ℕ
  pub placed : attribute_bytes body ≡ concat spellings ++ (spell 4 end_mark ++ behind)
  pub spelled : SpellEach spellings r.attrs
  pub kinds : All (λ a. a.head.kind < end_mark) r.attrs
  pub rise : TypesRise r.attrs
  pub lawful : All (λ a. IsTrue (has_lawful_value a)) r.attrs

-- ---- the spelling that is written

-- the bytes of these attributes' spellings together
abbrev pub spelled_bytes : List Attr → ℕ
spelled_bytes [] = 0
spelled_bytes (a ∷ attrs) = length (spelling a) + spelled_bytes attrs

-- the used bytes of a record with these attributes, the end mark with 8 bytes among them
abbrev pub used_of : List Attr → ℕ
used_of attrs = 0x38 + spelled_bytes attrs + 8

-- the first 0x38 bytes, with the array of the update sequence at 0x30 as zeros
unfoldable pub head_spelling : RecHead → ℕ → List ℕ
head_spelling h used =
    (0x46 ∷ 0x49 ∷ 0x4C ∷ 0x45 ∷ []) ++ spell 2 0x30 ++ spell 2 3 ++ spell 8 h.lsn ++ spell 2 h.seq ++ spell 2 h.links ++ spell 2 0x38 ++ spell 2 h.flags ++ spell 4 used ++ spell 4 1024
    ++ spell 8 (packed h.base) ++ spell 2 h.next_id ++ zeros 2 ++ spell 4 h.number ++ zeros 8

unfoldable pub record_spelling : Record → List ℕ
record_spelling r = head_spelling r.head (used_of r.attrs) ++ flat_map spelling r.attrs ++ spell 4 end_mark ++ zeros 4 ++ zeros (1024 - used_of r.attrs)

pub record FitsHead (h : RecHead) : Type 0 where
  pub lsn : h.lsn < 2 ^ 64
  pub seq : h.seq < 2 ^ 16
  pub links : h.links < 2 ^ 16
  pub flags : h.flags < 2 ^ 16
  pub base : h.base.number < 2 ^ 48
  pub base_seq : h.base.seq < 2 ^ 16
  pub next_id : h.next_id < 2 ^ 16
  pub number : h.number < 2 ^ 32

-- the record has a spelling in 1,024 bytes
pub record FitsRecord (r : Record) : Type 0 where
  pub head : FitsHead r.head
  pub attrs : All FitsAttr r.attrs
  pub kinds : All (λ a. a.head.kind < end_mark) r.attrs
  pub rise : TypesRise r.attrs
  pub lawful : All (λ a. IsTrue (has_lawful_value a)) r.attrs
  pub used : used_of r.attrs ≤ 1024
