-- Entries of the log (Linux-NTFS documentation, "$LogFile"): reading one, its table, and the one spelling that is written.
-- Of the many kinds of entries that volumes have this host reads and writes two, with these fields:
-- 00 LSN, 08 the transaction's previous LSN or 0, 10 the same again, 18 bytes from 30 on, 1C zero, 20 the kind 1, 24 transaction, 28 zero,
-- 30 redo operation, 32 undo operation, 34 redo offset, 36 redo length, 38 undo offset, 3A undo length, 3C target attribute, 3E count of LCNs,
-- 40 first byte in the body, 42 kind of block, 44 sector in the cluster, 46 zero, 48 VCN, 50 LCN, 58 redo bytes and then undo bytes, each with
-- zeros up to a multiple of 8. The offsets at 34 and 38 count from 30. Bytes that no field names aren't looked at.
use Rattle.std.specs.Prelude.{◌≡◌, ◌⊎◌, ℕ, ◌+◌, ◌-◌, ◌*◌, ◌/◌, ◌%◌, ◌^◌, ◌<◌, ◌≤◌, ◌==◌, ◌&&◌, nat_le, nat_lt, if◌then◌else◌, Bool, true, List, ◌++◌, length, Result, Ok, Err}
use Rattle.disk_model.specs.host_base.Answers.{Cause, refused, no_memory, ◌>>=◌, needs}
use Rattle.disk_model.specs.Numbers.{field, spell}
use Rattle.disk_model.specs.Bytes.{part, zeros, all_zeros, up8}
use Rattle.log_model.specs.declared.entry.Entry.{Entry}
use Rattle.log_model.specs.declared.entry.Act.{Act}
use Rattle.log_model.specs.declared.entry.Act.TheVariants.{Update, Commit}
use Rattle.log_model.specs.declared.fault.EntryFault.{EntryFault}
use Rattle.log_model.specs.declared.fault.EntryFault.TheVariants.{Shape, Memory}

-- where an error of a call comes from
abbrev pub entry_cause : EntryFault → Cause EntryFault
entry_cause (Shape at) = refused (Shape at)
entry_cause Memory = no_memory

abbrev pub update_operation : ℕ
update_operation = 0x08

abbrev pub commit_operation : ℕ
commit_operation = 0x1A

-- the most bytes of an update's redo
abbrev pub most_bytes : ℕ
most_bytes = 1900

-- the bytes of an entry before its redo, which are all of a commit
abbrev pub head_size : ℕ
head_size = 0x58

-- the bytes of an update whose redo has n
abbrev pub update_size : ℕ → ℕ
update_size n = head_size + 2 * up8 n

-- ---- the reader

-- the test, or the field at this offset
abbrev pub keeps : Bool → ℕ → Result (Unit {0}) EntryFault
keeps test at = needs test (Shape at)

-- the bytes that an entry of this operation has
unfoldable pub said_size : List ℕ → ℕ
said_size s = if field 0x30 2 s == update_operation then update_size (field 0x36 2 s) else head_size

-- it says as many, and has them
unfoldable pub is_sized : List ℕ → Bool
is_sized s = 0x30 + field 0x18 4 s == said_size s && nat_le (said_size s) (length s)

-- the fields of the header
unfoldable pub front_fits : List ℕ → Result (Unit {0}) EntryFault
front_fits s =
    keeps (field 0x10 8 s == field 0x08 8 s) 0x10
    >>= λ _. keeps (is_sized s) 0x18
    >>= λ _. keeps (field 0x1C 4 s == 0) 0x1C
    >>= λ _. keeps (field 0x20 4 s == 1) 0x20

unfoldable pub transaction_fits : List ℕ → Result (Unit {0}) EntryFault
transaction_fits s =
    keeps (nat_le 1 (field 0x24 4 s)) 0x24
    >>= λ _. keeps (field 0x28 2 s == 0) 0x28

-- an update's second operation, offsets and lengths
unfoldable pub lengths_fit : List ℕ → Result (Unit {0}) EntryFault
lengths_fit s =
    keeps (field 0x32 2 s == update_operation) 0x32
    >>= λ _. keeps (field 0x34 2 s == 0x28) 0x34
    >>= λ _. keeps (nat_le 1 (field 0x36 2 s) && nat_le (field 0x36 2 s) most_bytes) 0x36
    >>= λ _. keeps (field 0x38 2 s == 0x28 + up8 (field 0x36 2 s)) 0x38
    >>= λ _. keeps (field 0x3A 2 s == field 0x36 2 s) 0x3A

-- a block of this kind may begin in this sector of a cluster: a file record in an even one, an index block in the first
unfoldable pub is_placed : ℕ → ℕ → Bool
is_placed kind sector = nat_lt sector 8 && (if kind == 1 then sector % 2 == 0 else (if kind == 2 then sector == 0 else true))

-- an update's target, and the kind and sector of its block
unfoldable pub target_fits : List ℕ → Result (Unit {0}) EntryFault
target_fits s =
    keeps (field 0x3C 2 s == 0) 0x3C
    >>= λ _. keeps (field 0x3E 2 s == 1) 0x3E
    >>= λ _. keeps (nat_le (field 0x42 2 s) 2) 0x42
    >>= λ _. keeps (is_placed (field 0x42 2 s) (field 0x44 2 s)) 0x44

-- its cluster, whose first sector is a number of 64 bits
unfoldable pub cluster_fits : List ℕ → Result (Unit {0}) EntryFault
cluster_fits s =
    keeps (field 0x46 2 s == 0) 0x46
    >>= λ _. keeps (field 0x48 8 s == 0) 0x48
    >>= λ _. keeps (nat_lt (field 0x50 8 s) (2 ^ 61)) 0x50

-- zeros stand between n bytes and the next multiple of 8
abbrev pub is_filled : ℕ → ℕ → List ℕ → Bool
is_filled at n s = all_zeros (part (at + n) (up8 n - n) s)

-- the zeros after its redo bytes, and after its undo bytes
unfoldable pub bytes_fit : List ℕ → Result (Unit {0}) EntryFault
bytes_fit s =
    let n = field 0x36 2 s in
    keeps (is_filled 0x58 n s) (0x58 + n)
    >>= λ _. keeps (is_filled (0x58 + up8 n) n s) (0x58 + up8 n + n)

unfoldable pub update_fits : List ℕ → Result (Unit {0}) EntryFault
update_fits s = lengths_fit s >>= λ _. target_fits s >>= λ _. cluster_fits s >>= λ _. bytes_fit s

-- the same fields of a commit, which are zeros; its target, VCN and LCN say nothing
unfoldable pub no_lengths : List ℕ → Result (Unit {0}) EntryFault
no_lengths s =
    keeps (field 0x32 2 s == 0) 0x32
    >>= λ _. keeps (field 0x34 2 s == 0) 0x34
    >>= λ _. keeps (field 0x36 2 s == 0) 0x36
    >>= λ _. keeps (field 0x38 2 s == 0) 0x38
    >>= λ _. keeps (field 0x3A 2 s == 0) 0x3A

unfoldable pub no_place : List ℕ → Result (Unit {0}) EntryFault
no_place s =
    keeps (field 0x3E 2 s == 0) 0x3E
    >>= λ _. keeps (field 0x40 2 s == 0) 0x40
    >>= λ _. keeps (field 0x42 2 s == 0) 0x42
    >>= λ _. keeps (field 0x44 2 s == 0) 0x44
    >>= λ _. keeps (field 0x46 2 s == 0) 0x46

unfoldable pub commit_fits : List ℕ → Result (Unit {0}) EntryFault
commit_fits s = no_lengths s >>= λ _. no_place s

unfoldable pub update_of : List ℕ → Act
update_of s =
    let n = field 0x36 2 s in
    Update (8 * field 0x50 8 s + field 0x44 2 s) (field 0x42 2 s) (field 0x40 2 s) (part 0x58 n s) (part (0x58 + up8 n) n s)

-- by the redo operation
unfoldable pub act_at : List ℕ → Result Act EntryFault
act_at s =
    if field 0x30 2 s == update_operation then (update_fits s >>= λ _. Ok (update_of s))
    else (if field 0x30 2 s == commit_operation then (commit_fits s >>= λ _. Ok Commit) else Err (Shape 0x30))

-- The entry at the front of these bytes, or the first field that is at fault, by its offset in the entry. Bytes that end before its redo come first.
unfoldable pub entry_at : List ℕ → Result Entry EntryFault
entry_at bytes =
    keeps (nat_le head_size (length bytes)) 0x18
    >>= λ _. front_fits bytes
    >>= λ _. transaction_fits bytes
    >>= λ _. act_at bytes
    >>= λ act. Ok (record { lsn = field 0x00 8 bytes; previous = field 0x08 8 bytes; tx = field 0x24 4 bytes; act = act })

-- ---- the table

-- a block of this kind may begin in this sector of a cluster
abbrev pub IsPlaced : ℕ → ℕ → Type 0
IsPlaced kind sector = (kind ≡ 0) ⊎ ((kind ≡ 1) × (sector % 2 ≡ 0)) ⊎ ((kind ≡ 2) × (sector ≡ 0))

-- the numbers and bytes of an update that is read and written
pub record InProfile (first kind : ℕ) (redo undo : List ℕ) : Type 0 where
  pub wide : first < 2 ^ 64
  pub placed : IsPlaced kind (first % 8)
  pub some : 1 ≤ length redo
  pub few : length redo ≤ most_bytes
  pub same : length undo ≡ length redo

-- these bytes are an update's
pub record IsUpdate (s : List ℕ) (first kind at : ℕ) (redo undo : List ℕ) : Type 0 where
  pub size : length s ≡ update_size (length redo)
  pub redo_operation : field 0x30 2 s ≡ update_operation
  pub undo_operation : field 0x32 2 s ≡ update_operation
  pub redo_offset : field 0x34 2 s ≡ 0x28
  pub redo_length : field 0x36 2 s ≡ length redo
  pub undo_offset : field 0x38 2 s ≡ 0x28 + up8 (length redo)
  pub undo_length : field 0x3A 2 s ≡ length undo
  pub target : field 0x3C 2 s ≡ 0
  pub clusters : field 0x3E 2 s ≡ 1
  pub first_byte : field 0x40 2 s ≡ at
  pub block_kind : field 0x42 2 s ≡ kind
  pub sector : field 0x44 2 s ≡ first % 8
  pub zero : field 0x46 2 s ≡ 0
  pub vcn : field 0x48 8 s ≡ 0
  pub lcn : field 0x50 8 s ≡ first / 8
  pub redo_bytes : part 0x58 (length redo) s ≡ redo
  pub redo_zeros : part (0x58 + length redo) (up8 (length redo) - length redo) s ≡ zeros (up8 (length redo) - length redo)
  pub undo_bytes : part (0x58 + up8 (length redo)) (length undo) s ≡ undo
  pub undo_zeros : part (0x58 + up8 (length redo) + length redo) (up8 (length redo) - length redo) s ≡ zeros (up8 (length redo) - length redo)
  pub profile : InProfile first kind redo undo

-- these bytes are a commit's
pub record IsCommit (s : List ℕ) : Type 0 where
  pub size : length s ≡ head_size
  pub redo_operation : field 0x30 2 s ≡ commit_operation
  pub undo_operation : field 0x32 2 s ≡ 0
  pub redo_offset : field 0x34 2 s ≡ 0
  pub redo_length : field 0x36 2 s ≡ 0
  pub undo_offset : field 0x38 2 s ≡ 0
  pub undo_length : field 0x3A 2 s ≡ 0
  pub clusters : field 0x3E 2 s ≡ 0
  pub first_byte : field 0x40 2 s ≡ 0
  pub block_kind : field 0x42 2 s ≡ 0
  pub sector : field 0x44 2 s ≡ 0
  pub zero : field 0x46 2 s ≡ 0

abbrev pub IsAct : List ℕ → Act → Type 0
IsAct s (Update first kind at redo undo) = IsUpdate s first kind at redo undo
IsAct s Commit = IsCommit s

-- these bytes are this entry
pub record IsEntry (s : List ℕ) (e : Entry) : Type 0 where
  pub lsn : field 0x00 8 s ≡ e.lsn
  pub previous : field 0x08 8 s ≡ e.previous
  pub undo_next : field 0x10 8 s ≡ e.previous
  pub own_length : 0x30 + field 0x18 4 s ≡ length s
  pub zero : field 0x1C 4 s ≡ 0
  pub kind : field 0x20 4 s ≡ 1
  pub tx : field 0x24 4 s ≡ e.tx
  pub some : 1 ≤ e.tx
  pub zero_too : field 0x28 2 s ≡ 0
  pub act : IsAct s e.act

-- ---- the spelling that is written

-- the bytes of redo in an entry
abbrev pub act_size : Act → ℕ
act_size (Update first kind at redo undo) = update_size (length redo)
act_size Commit = head_size

-- how many bytes an entry has
abbrev pub entry_size : Entry → ℕ
entry_size e = act_size e.act

-- the bytes with zeros up to a multiple of 8
unfoldable pub filled : List ℕ → List ℕ
filled bytes = bytes ++ zeros (up8 (length bytes) - length bytes)

-- the first 0x30 bytes
unfoldable pub front_spelling : Entry → List ℕ
front_spelling e = spell 8 e.lsn ++ spell 8 e.previous ++ spell 8 e.previous ++ spell 4 (entry_size e - 0x30) ++ spell 4 0 ++ spell 4 1 ++ spell 4 e.tx ++ zeros 8

-- the next 28 of an update
unfoldable pub update_spelling : ℕ → ℕ → ℕ → ℕ → List ℕ
update_spelling first kind at n =
    spell 2 update_operation ++ spell 2 update_operation ++ spell 2 0x28 ++ spell 2 n ++ spell 2 (0x28 + up8 n) ++ spell 2 n ++ spell 2 0 ++ spell 2 1
    ++ spell 2 at ++ spell 2 kind ++ spell 2 (first % 8) ++ spell 2 0 ++ spell 8 0 ++ spell 8 (first / 8)

-- and of a commit
unfoldable pub commit_spelling : List ℕ
commit_spelling = spell 2 commit_operation ++ zeros 0x26

abbrev pub act_spelling : Act → List ℕ
act_spelling (Update first kind at redo undo) = update_spelling first kind at (length redo)
act_spelling Commit = commit_spelling

-- what stands after the fields
abbrev pub bytes_spelling : Act → List ℕ
bytes_spelling (Update first kind at redo undo) = filled redo ++ filled undo
bytes_spelling Commit = zeros 0

unfoldable pub entry_spelling : Entry → List ℕ
entry_spelling e = front_spelling e ++ act_spelling e.act ++ bytes_spelling e.act

abbrev pub FitsAct : Act → Type 0
FitsAct (Update first kind at redo undo) = (at < 2 ^ 16) × InProfile first kind redo undo
FitsAct Commit = Unit {0}

-- the entry has a spelling
pub record FitsEntry (e : Entry) : Type 0 where
  pub lsn : e.lsn < 2 ^ 64
  pub previous : e.previous < 2 ^ 64
  pub some : 1 ≤ e.tx
  pub tx : e.tx < 2 ^ 32
  pub act : FitsAct e.act
