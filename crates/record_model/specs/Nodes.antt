-- Index nodes of directories: reading the entries behind a node header, rule by rule, the table, and the spelling that is
-- written. A node's bytes begin with its header: 00 first entry, 04 used, 08 allocated, all from the header on; 0C flags.
use Rattle.std.specs.Prelude.{◌≡◌, ℕ, zero, suc, ◌+◌, ◌-◌, ◌*◌, ◌/◌, ◌%◌, ◌<◌, ◌≤◌, ◌^◌, List, [], ◌∷◌, ◌++◌, length, map, take, drop, Option, Some, None, Result, Ok, Bool, true, false, ◌&&◌, ◌||◌, nat_le, nat_lt, ◌==◌, if◌then◌else◌, All}
use Rattle.std.specs.List.{list_all, flat_map, concat, sum_by}
use Rattle.disk_model.specs.host_base.declared.file_ref.FileRef.{FileRef}
use Rattle.disk_model.specs.host_base.Answers.{◌>>=◌, needs}
use Rattle.disk_model.specs.host_base.FileRefs.{packed, unpacked}
use Rattle.disk_model.specs.declared.block.BlockKind.TheVariants.{Index}
use Rattle.disk_model.specs.Numbers.{field, spell}
use Rattle.disk_model.specs.Bytes.{part, zeros, up8}
use Rattle.disk_model.specs.Content.{is_signed}
use Rattle.record_model.specs.declared.entry.Entry.{Entry}
use Rattle.record_model.specs.Attributes.{filled}
use Rattle.record_model.specs.Values.{is_file_name}
use Rattle.record_model.specs.Records.{Pieces, with_piece}

-- a node in an index block, without the bytes of its file
pub record Node : Type 0 where
  pub vcn : ℕ
  pub lsn : ℕ
  pub entries : List Entry

-- ---- the node header

-- where the first entry begins, and where the used and the allocated bytes end
abbrev pub first_entry : List ℕ → ℕ
first_entry node = field 0x00 4 node

abbrev pub used_end : List ℕ → ℕ
used_end node = field 0x04 4 node

abbrev pub allocated_end : List ℕ → ℕ
allocated_end node = field 0x08 4 node

-- 1 where the entries have children
abbrev pub children_flag : List ℕ → ℕ
children_flag node = field 0x0C 1 node % 2

-- rule 3: the first entry begins behind the header, at a multiple of 8, and the used bytes lie in the allocated ones,
-- which lie in the node
unfoldable pub has_node_header : List ℕ → Bool
has_node_header node =
    nat_le 0x10 (first_entry node) && first_entry node % 8 == 0 && nat_le (first_entry node) (used_end node)
    && nat_le (used_end node) (allocated_end node) && nat_le (allocated_end node) (length node)

-- the bytes from the first entry to the end of the used ones
unfoldable pub entry_bytes : List ℕ → List ℕ
entry_bytes node = part (first_entry node) (used_end node - first_entry node) node

-- ---- an entry, over its own bytes: 00 file reference, 08 length, 0A key length, 0C flags (1 child, 2 last), 10 key; the
-- VCN of a child is the last 8 bytes

abbrev pub child_flag : List ℕ → ℕ
child_flag e = field 0x0C 2 e % 2

abbrev pub is_last : List ℕ → Bool
is_last e = field 0x0C 2 e / 2 % 2 == 1

-- the length at 8 has room for what stands beside a key, is a multiple of 8, and stays inside these bytes
unfoldable pub has_entry_length : List ℕ → Bool
has_entry_length bytes = nat_le (0x10 + 8 * child_flag bytes) (field 0x08 2 bytes) && field 0x08 2 bytes % 8 == 0 && nat_le (field 0x08 2 bytes) (length bytes)

-- the key of an entry before the last lies inside it, and is a file-name value
unfoldable pub has_key : List ℕ → Bool
has_key bytes = is_last bytes || (nat_le (0x10 + field 0x0A 2 bytes + 8 * child_flag bytes) (field 0x08 2 bytes) && is_file_name (part 0x10 (field 0x0A 2 bytes) bytes))

-- rule 4: the length and the key of an entry at the front of these bytes are lawful
abbrev pub has_entry : List ℕ → Bool
has_entry bytes = has_entry_length bytes && has_key bytes

-- the file of an entry that names none
abbrev pub no_file : FileRef
no_file = record { number = 0; seq = 0 }

-- a last entry, with this child behind the other entries
abbrev pub last_entry : Option ℕ → Entry
last_entry down = record { child = no_file; key = []; down = down }

unfoldable pub down_of : List ℕ → Option ℕ
down_of e = if child_flag e == 1 then Some (field (length e - 8) 8 e) else None

-- the entry that its own bytes stand for; the last one names no file and has no key, whatever stands in their places
unfoldable pub entry_of : List ℕ → Entry
entry_of e = record {
  child = if is_last e then no_file else unpacked (field 0x00 8 e);
  key = if is_last e then [] else part 0x10 (field 0x0A 2 e) e;
  down = down_of e;
}

-- ---- the reader

-- Cuts the bytes into at most so many entries, the last one among them; rule 4 at the first whose length or key is at
-- fault. Fewer than 0x10 bytes are no entry.
unfoldable pub cut_entries : ℕ → List ℕ → Result Pieces ℕ
cut_entries zero bytes = Ok (record { pieces = []; ended = false })
cut_entries (suc most) bytes =
    elim (nat_lt (length bytes) 0x10) [
      | true ↦ Ok (record { pieces = []; ended = false })
      | false ↦ needs (has_entry bytes) 4 >>= λ _. elim (is_last bytes) [
        | true ↦ Ok (record { pieces = take (field 0x08 2 bytes) bytes ∷ []; ended = true })
        | false ↦ with_piece (take (field 0x08 2 bytes) bytes) (cut_entries most (drop (field 0x08 2 bytes) bytes))
      ]
    ]

-- an entry has at least 0x10 bytes; and one more, at which nothing is left
abbrev pub most_entries : List ℕ → ℕ
most_entries bytes = length bytes / 0x10 + 1

-- rule 6: an entry's child flag is that of the node
abbrev pub has_flag : ℕ → List ℕ → Bool
has_flag flag e = child_flag e == flag

-- The entries of a node, or the least rule that its bytes break: the node header (3), an entry's length or key (4), no
-- last entry (5), a child flag against the node's flag (6).
unfoldable pub node_entries : List ℕ → Result (List Entry) ℕ
node_entries node =
    needs (has_node_header node) 3
    >>= λ _. cut_entries (most_entries (entry_bytes node)) (entry_bytes node)
    >>= λ p. needs p.ended 5
    >>= λ _. needs (list_all (has_flag (children_flag node)) p.pieces) 6
    >>= λ _. Ok (map entry_of p.pieces)

-- The node of an index block's body, or the least rule that it breaks: the signature `INDX` (1), and those of its entries.
-- At 08 stands the LSN, at 10 the block's own VCN, at 18 the node header.
unfoldable pub node_at : List ℕ → Result Node ℕ
node_at body =
    needs (is_signed Index body) 1
    >>= λ _. node_entries (drop 0x18 body)
    >>= λ entries. Ok (record { vcn = field 0x10 8 body; lsn = field 0x08 8 body; entries = entries })

-- an index root of file names by the collation of names, over blocks of 4,096 bytes: 00 type, 04 collation, 08 bytes of a block
unfoldable pub has_root_header : List ℕ → Bool
has_root_header value = nat_le 0x10 (length value) && field 0x00 4 value == 0x30 && field 0x04 4 value == 1 && field 0x08 4 value == 4096

-- The entries of an index root's value, or the least rule that it breaks: its header or the node header at 10 (3), and
-- those of its entries.
unfoldable pub root_at : List ℕ → Result (List Entry) ℕ
root_at value = needs (has_root_header value) 3 >>= λ _. node_entries (drop 0x10 value)

-- ---- the table

-- the child flag says whether the last 8 bytes are a VCN
abbrev pub SpellsDown : List ℕ → Option ℕ → Type 0
SpellsDown s (Some vcn) = (child_flag s ≡ 1) × (field (length s - 8) 8 s ≡ vcn)
SpellsDown s None = child_flag s ≡ 0

-- these bytes are a spelling of an entry before the last
pub record SpellsEntry (s : List ℕ) (e : Entry) : Type 0 where
  pub reference : unpacked (field 0x00 8 s) ≡ e.child
  pub own_length : field 0x08 2 s ≡ length s
  pub eights : length s % 8 ≡ 0
  pub key_length : field 0x0A 2 s ≡ length e.key
  pub key_inside : 0x10 + length e.key + 8 * child_flag s ≤ length s
  pub key : part 0x10 (length e.key) s ≡ e.key
  pub lawful : is_file_name e.key ≡ true
  pub before_last : is_last s ≡ false
  pub down : SpellsDown s e.down

-- these bytes are a spelling of the last entry
pub record SpellsLast (s : List ℕ) (e : Entry) : Type 0 where
  pub no_reference : no_file ≡ e.child
  pub own_length : field 0x08 2 s ≡ length s
  pub eights : length s % 8 ≡ 0
  pub down_inside : 0x10 + 8 * child_flag s ≤ length s
  pub no_key : [] ≡ e.key
  pub last : is_last s ≡ true
  pub down : SpellsDown s e.down

-- each of these bytes spells the entry at its place, and the last of them the last entry
abbrev pub SpellEntries : List (List ℕ) → List Entry → Type 0
SpellEntries [] entries = ⊥
SpellEntries (s ∷ spellings) [] = ⊥
SpellEntries (s ∷ []) (e ∷ []) = SpellsLast s e
SpellEntries (s ∷ []) (e ∷ f ∷ entries) = ⊥
SpellEntries (s ∷ t ∷ spellings) (e ∷ []) = ⊥
SpellEntries (s ∷ t ∷ spellings) (e ∷ f ∷ entries) = SpellsEntry s e × SpellEntries (t ∷ spellings) (f ∷ entries)

-- 1 for a child
abbrev pub down_flag : Option ℕ → ℕ
down_flag None = 0
down_flag (Some vcn) = 1

-- A node's bytes hold these entries: from the first entry's place on stand their spellings in order, inside the used bytes,
-- and each has a child exactly where the node's flag says so.
pub record HoldsEntries (node : List ℕ) (entries : List Entry) : Type 0 where
  pub first_behind : 0x10 ≤ first_entry node
  pub first_eights : first_entry node % 8 ≡ 0
  pub first_inside : first_entry node ≤ used_end node
  pub used : used_end node ≤ allocated_end node
  pub allocated : allocated_end node ≤ length node
  pub spellings : List (List ℕ)
  pub behind : List ℕ
  pub placed : entry_bytes node ≡ concat spellings ++ behind
  pub spelled : SpellEntries spellings entries
  pub flags : All (λ e. down_flag e.down ≡ children_flag node) entries

-- the body of an index block spells the node
pub record IsNode (body : List ℕ) (n : Node) : Type 0 where
  pub signature : is_signed Index body ≡ true
  pub vcn : field 0x10 8 body ≡ n.vcn
  pub lsn : field 0x08 8 body ≡ n.lsn
  pub holds : HoldsEntries (drop 0x18 body) n.entries

-- the value of an index root spells these entries
pub record IsRoot (value : List ℕ) (entries : List Entry) : Type 0 where
  pub size : 0x10 ≤ length value
  pub kind : field 0x00 4 value ≡ 0x30
  pub collation : field 0x04 4 value ≡ 1
  pub block_bytes : field 0x08 4 value ≡ 4096
  pub holds : HoldsEntries (drop 0x10 value) entries

-- ---- the spelling that is written

abbrev pub down_bytes : Option ℕ → List ℕ
down_bytes None = []
down_bytes (Some vcn) = spell 8 vcn

-- the last entry is the one without a key; its flag is 2
abbrev pub last_flag : List ℕ → ℕ
last_flag [] = 2
last_flag (b ∷ key) = 0

-- the least multiple of 8 that holds an entry
unfoldable pub entry_length : Entry → ℕ
entry_length e = up8 (0x10 + length e.key) + 8 * down_flag e.down

unfoldable pub entry_spelling : Entry → List ℕ
entry_spelling e =
    spell 8 (packed e.child) ++ spell 2 (entry_length e) ++ spell 2 (length e.key) ++ spell 2 (down_flag e.down + last_flag e.key) ++ zeros 2 ++ filled 0x10 e.key ++ down_bytes e.down

-- the bytes of entries, one after the other
abbrev pub entries_length : List Entry → ℕ
entries_length entries = sum_by entry_length entries

-- the used bytes of a block's node as it is written, from its node header on; the first entry stands at 28
unfoldable pub node_used : List Entry → ℕ
node_used entries = 0x28 + entries_length entries

-- the bytes of a block from its node header on
abbrev pub node_room : ℕ
node_room = 4072

-- the flag of a node whose entries all have children, or none has
abbrev pub children_of : List Entry → ℕ
children_of [] = 0
children_of (e ∷ entries) = down_flag e.down

-- the first 40 bytes, with the array of the update sequence at 28 as zeros
unfoldable pub node_head : ℕ → ℕ → ℕ → ℕ → List ℕ
node_head lsn vcn used flag =
    (0x49 ∷ 0x4E ∷ 0x44 ∷ 0x58 ∷ []) ++ spell 2 0x28 ++ spell 2 9 ++ spell 8 lsn ++ spell 8 vcn ++ spell 4 0x28 ++ spell 4 used ++ spell 4 node_room ++ spell 1 flag ++ zeros 3 ++ zeros 0x18

unfoldable pub node_spelling : Node → List ℕ
node_spelling n = node_head n.lsn n.vcn (node_used n.entries) (children_of n.entries) ++ flat_map entry_spelling n.entries ++ zeros (node_room - node_used n.entries)

-- ---- what has a spelling

abbrev pub FitsDown : Option ℕ → Type 0
FitsDown None = Unit {0}
FitsDown (Some vcn) = vcn < 2 ^ 64

-- an entry before the last
pub record FitsEntry (e : Entry) : Type 0 where
  pub number : e.child.number < 2 ^ 48
  pub seq : e.child.seq < 2 ^ 16
  pub key : is_file_name e.key ≡ true
  pub down : FitsDown e.down

pub record FitsLast (e : Entry) : Type 0 where
  pub no_reference : no_file ≡ e.child
  pub no_key : [] ≡ e.key
  pub down : FitsDown e.down

-- entries with a file-name value as key, and behind them one without
abbrev pub FitEntries : List Entry → Type 0
FitEntries [] = ⊥
FitEntries (e ∷ []) = FitsLast e
FitEntries (e ∷ f ∷ entries) = FitsEntry e × FitEntries (f ∷ entries)

-- the node has a spelling in 4,096 bytes
pub record FitsNode (n : Node) : Type 0 where
  pub vcn : n.vcn < 2 ^ 64
  pub lsn : n.lsn < 2 ^ 64
  pub entries : FitEntries n.entries
  pub flags : All (λ e. down_flag e.down ≡ children_of n.entries) n.entries
  pub used : node_used n.entries ≤ node_room
