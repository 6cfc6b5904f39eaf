-- The log as a list of entries: what recovery makes of a content by it, which blocks are shadowed, and which entry is refused.
use Rattle.std.specs.Prelude.{ℕ, ◌+◌, ◌-◌, ◌*◌, ◌/◌, ◌%◌, ◌≡◌, ◌==◌, ◌&&◌, ◌||◌, not, nat_le, nat_lt, nat_eq, Bool, true, false, if◌then◌else◌, List, [], ◌∷◌, ◌++◌, length, slice_index, find, Option, Some, None, unwrap_or}
use Rattle.std.specs.List.{list_any, list_all, range_with_len}
use Rattle.std.specs.Option.{option_or, option_map}
use Rattle.std.specs.Cmp.Lexicographic.{pointwise}
use Rattle.disk_model.specs.declared.block.Block.{Block}
use Rattle.disk_model.specs.declared.block.BlockKind.{BlockKind}
use Rattle.disk_model.specs.declared.block.BlockKind.TheVariants.{Plain, FileRec, Index}
use Rattle.disk_model.specs.Sectors.{sectors, same_kind, same_block, are_rivals}
use Rattle.disk_model.specs.Content.{Content}
use Rattle.disk_model.specs.Writes.{Write, overlay}
use Rattle.log_model.specs.declared.entry.Entry.{Entry}
use Rattle.log_model.specs.declared.entry.Act.{Act}
use Rattle.log_model.specs.declared.entry.Act.TheVariants.{Update, Commit}

-- ---- updates

-- the block of an update: from this sector on, of the kind with this number
abbrev pub kind_of : ℕ → BlockKind
kind_of kind = if kind == 1 then FileRec else (if kind == 2 then Index else Plain)

abbrev pub block_of_kind : ℕ → ℕ → Block
block_of_kind first kind = record { first = first; kind = kind_of kind }

-- a block of this kind may begin in this sector: a file record in an even one, an index block in the first of eight
abbrev pub may_begin : BlockKind → ℕ → Bool
may_begin Plain first = true
may_begin FileRec first = first % 2 == 0
may_begin Index first = first % 8 == 0

-- a block that an entry may update
abbrev pub is_in_grid : Block → Bool
is_in_grid b = may_begin b.kind b.first

-- it is an update of this block
abbrev pub updates : Block → Act → Bool
updates b (Update first kind at redo undo) = same_block b (block_of_kind first kind)
updates b Commit = false

-- it is an update of another kind of block that shares a sector with this one
abbrev pub updates_rival : Block → Act → Bool
updates_rival b (Update first kind at redo undo) = are_rivals b (block_of_kind first kind)
updates_rival b Commit = false

-- the update covers this byte of this block
abbrev pub covers : Block → ℕ → Act → Bool
covers b i (Update first kind at redo undo) = same_block b (block_of_kind first kind) && nat_le at i && nat_lt i (at + length redo)
covers b i Commit = false

abbrev pub redo_byte : Act → ℕ → ℕ
redo_byte (Update first kind at redo undo) i = slice_index redo (i - at)
redo_byte Commit i = 0

abbrev pub undo_byte : Act → ℕ → ℕ
undo_byte (Update first kind at redo undo) i = slice_index undo (i - at)
undo_byte Commit i = 0

abbrev pub is_commit : Act → Bool
is_commit (Update first kind at redo undo) = false
is_commit Commit = true

-- an update has as many undo bytes as redo bytes
abbrev pub AreLevel : Act → Type 0
AreLevel (Update first kind at redo undo) = length undo ≡ length redo
AreLevel Commit = Unit {0}

abbrev pub IsLevel : Entry → Type 0
IsLevel e = AreLevel e.act

-- ---- the byte-wise choice

-- the transaction has its commit in the list
abbrev pub is_ended : List Entry → ℕ → Bool
is_ended log tx = list_any (λ e. (e.tx == tx) && is_commit e.act) log

-- the redo byte of the last update of these transactions that covers the byte
abbrev pub last_redo : (ℕ → Bool) → List Entry → Block → ℕ → Option ℕ
last_redo ended [] b i = None
last_redo ended (e ∷ log) b i = option_or (last_redo ended log b i) (if covers b i e.act && ended e.tx then Some (redo_byte e.act i) else None)

-- the undo byte of the first update that covers the byte
abbrev pub first_undo : List Entry → Block → ℕ → Option ℕ
first_undo [] b i = None
first_undo (e ∷ log) b i = if covers b i e.act then Some (undo_byte e.act i) else first_undo log b i

-- the recovered byte, where the log tells one
abbrev pub told : List Entry → Block → ℕ → Option ℕ
told log b i = option_or (last_redo (is_ended log) log b i) (first_undo log b i)

-- and else that of the disk
abbrev pub recovered_byte : Content → List Entry → Block → ℕ → ℕ
recovered_byte disk log b i = unwrap_or (told log b i) (slice_index (disk b).bytes i)

-- ---- shadows

-- what an entry says of a block: true, an update of a rival; false, an update of the block itself by an ended transaction
abbrev pub act_says : Block → Bool → Act → Option Bool
act_says b ended act = if updates_rival b act then Some true else (if updates b act && ended then Some false else None)

-- the last of these
abbrev pub last_said : (ℕ → Bool) → List Entry → Block → Option Bool
last_said ended [] b = None
last_said ended (e ∷ log) b = option_or (last_said ended log b) (act_says b (ended e.tx) e.act)

-- an update of a rival stands after the block's own last ended update, or anywhere where it has none
unfoldable pub is_shadowed : List Entry → Block → Bool
is_shadowed log b = unwrap_or (last_said (is_ended log) log b) false

-- the LSN of the first update of a rival
abbrev pub first_rival : List Entry → Block → Option ℕ
first_rival log b = option_map (λ (e : Entry). e.lsn) (find (λ e. updates_rival b e.act) log)

-- ---- the recovered content

abbrev pub redo_of : Bool → Act → List Write
redo_of true (Update first kind at redo undo) = record { block = block_of_kind first kind; at = at; bytes = redo } ∷ []
redo_of true Commit = []
redo_of false act = []

abbrev pub undo_of : Act → List Write
undo_of (Update first kind at redo undo) = record { block = block_of_kind first kind; at = at; bytes = undo } ∷ []
undo_of Commit = []

-- the redo writes of these transactions, in order
abbrev pub redos : (ℕ → Bool) → List Entry → List Write
redos ended [] = []
redos ended (e ∷ log) = redo_of (ended e.tx) e.act ++ redos ended log

-- the undo writes of all, the newest first
abbrev pub undos_back : List Entry → List Write
undos_back [] = []
undos_back (e ∷ log) = undos_back log ++ undo_of e.act

-- All updates are undone backwards, and then those of ended transactions are redone forwards.
abbrev pub recovery_of : List Entry → List Write
recovery_of log = undos_back log ++ redos (is_ended log) log

-- the disk's content after recovery; a shadowed block stays as it is
unfoldable pub recovered : Content → List Entry → Content
recovered disk log b = if is_shadowed log b then disk b else overlay disk (recovery_of log) b

-- ---- what recovery writes out

-- the updates of the list cover each byte of the block
unfoldable pub is_covered_whole : List Entry → Block → Bool
is_covered_whole log b = list_all (λ i. list_any (λ (e : Entry). covers b i e.act) log) (range_with_len 0 (512 * sectors b.kind))

-- the recovered bytes aren't the disk's
unfoldable pub is_other : Content → List Entry → Block → Bool
is_other disk log b = not (pointwise nat_eq (recovered disk log b).bytes (disk b).bytes)

-- Of the blocks with an update in the list: those that aren't shadowed, and have other bytes than the disk's or are torn there and covered whole.
unfoldable pub is_written_out : Content → List Entry → Block → Bool
is_written_out disk log b =
    list_any (λ (e : Entry). updates b e.act) log && not (is_shadowed log b) && (is_other disk log b || ((disk b).torn && is_covered_whole log b))

-- ---- entries that are refused

-- the update reaches past the volume, of so many clusters of eight sectors, or past the body of its block
unfoldable pub is_misplaced : ℕ → Act → Bool
is_misplaced clusters (Update first kind at redo undo) = nat_le clusters (first / 8) || nat_lt (512 * sectors (kind_of kind)) (at + length redo)
is_misplaced clusters Commit = false

-- the LSN of the first such update
abbrev pub first_misplaced : List Entry → ℕ → Option ℕ
first_misplaced log clusters = option_map (λ (e : Entry). e.lsn) (find (λ e. is_misplaced clusters e.act) log)

-- A file record or an index block that isn't shadowed or covered whole, and whose recovered bytes aren't the disk's.
unfoldable pub is_partial : Content → List Entry → Block → Bool
is_partial disk log b = not (same_kind b.kind Plain) && not (is_shadowed log b) && not (is_covered_whole log b) && is_other disk log b

-- it is an update of such a block
abbrev pub updates_partial : Content → List Entry → Act → Bool
updates_partial disk log (Update first kind at redo undo) = is_partial disk log (block_of_kind first kind)
updates_partial disk log Commit = false

-- the LSN of the first such update
abbrev pub first_partial : Content → List Entry → Option ℕ
first_partial disk log = option_map (λ (e : Entry). e.lsn) (find (λ e. updates_partial disk log e.act) log)
