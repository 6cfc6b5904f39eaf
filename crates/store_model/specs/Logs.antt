-- Lists of entries of the log, as a store appends them: which blocks they update, and what undoes them.
use Rattle.std.specs.Prelude.{◌≡◌, ◌≢◌, ℕ, zero, suc, ◌+◌, ◌==◌, ◌&&◌, ◌||◌, Bool, true, false, not, if◌then◌else◌, List, [], ◌∷◌, Option, Some, None, unwrap_or}
use Rattle.std.specs.List.{list_any, AllByRecursion}
use Rattle.log_model.specs.disk_model.declared.block.Block.{Block}
use Rattle.log_model.specs.declared.entry.Entry.{Entry}
use Rattle.log_model.specs.declared.entry.Act.{Act}
use Rattle.log_model.specs.declared.entry.Act.TheVariants.{Update, Commit}
use Rattle.log_model.specs.Logs.{IsLevel, block_of_kind, updates, covers, redo_byte, is_commit, is_ended, first_undo, last_said}

-- ---- entries

-- the block that an act updates, if it is an update
abbrev pub updated : Act → Option Block
updated (Update first kind at redo undo) = Some (block_of_kind first kind)
updated Commit = None

-- an update of this block by this transaction, with as many undo bytes as redo bytes
pub record IsUpdate (tx : ℕ) (c : Block) (e : Entry) : Type 0 where
  pub by : e.tx ≡ tx
  pub block : updated e.act ≡ Some c
  pub level : IsLevel e

-- each of them is
abbrev pub AreUpdates : ℕ → Block → List Entry → Type 0
AreUpdates tx c us = AllByRecursion (IsUpdate tx c) us

-- the commit of this transaction
abbrev pub commit_by : (lsn previous tx : ℕ) → Entry
commit_by lsn previous tx = record { lsn = lsn; previous = previous; tx = tx; act = Commit }

-- the commits of a list
abbrev pub commits : List Entry → ℕ
commits [] = 0
commits (e ∷ es) = (if is_commit e.act then 1 else 0) + commits es

-- the list has an update of the block
abbrev pub has_update : List Entry → Block → Bool
has_update l b = list_any (λ (e : Entry). updates b e.act) l

-- one by this transaction
abbrev pub has_by : List Entry → ℕ → Block → Bool
has_by l tx b = list_any (λ (e : Entry). (e.tx == tx) && updates b e.act) l

-- an update of the first block stands in the list, and none of the second behind it
abbrev pub is_behind : List Entry → Block → Block → Bool
is_behind [] b x = false
is_behind (e ∷ es) b x = is_behind es b x || (updates b e.act && not (has_update es x))

-- the transactions that have ended, and this one
abbrev pub ended_with : ℕ → List Entry → ℕ → Bool
ended_with tx l u = is_ended l u || (u == tx)

-- an update of a rival stands behind each update of the block, ended or not
abbrev pub IsOusted : List Entry → Block → Type 0
IsOusted l x = last_said (λ tx. true) l x ≡ Some true

-- the block isn't shadowed: no update of a rival stands behind its own last ended update
abbrev pub IsClaimed : List Entry → Block → Type 0
IsClaimed l b = last_said (is_ended l) l b ≢ Some true

-- ---- bytes

-- the bytes of a body, by their places
abbrev pub BodyBytes : Type 0
BodyBytes = ℕ → ℕ

-- each byte of each block
abbrev pub AllBytes : Type 0
AllBytes = Block → BodyBytes

-- the bytes before these updates
abbrev pub undone : List Entry → AllBytes → AllBytes
undone us bytes b i = unwrap_or (first_undo us b i) (bytes b i)

-- the bytes that many commits back: the updates of the newest commit stand first
abbrev pub back : List (List Entry) → ℕ → AllBytes → AllBytes
back [] n bytes = bytes
back (us ∷ ws) zero bytes = bytes
back (us ∷ ws) (suc n) bytes = back ws n (undone us bytes)

-- the bytes after an update
abbrev pub changed : Entry → AllBytes → AllBytes
changed e bytes b i = if covers b i e.act then redo_byte e.act i else bytes b i
