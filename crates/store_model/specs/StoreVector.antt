-- Small stores of plain blocks of one byte, and of file records around them.
use Rattle.std.specs.Prelude.{◌≡◌, ℕ, [], ◌∷◌, List, length, slice_index, true, false, Some, None}
use Rattle.log_model.specs.disk_model.declared.block.Block.{Block}
use Rattle.log_model.specs.disk_model.declared.block.BlockKind.TheVariants.{Plain, FileRec, Index}
use Rattle.log_model.specs.disk_model.Sectors.{same_block}
use Rattle.log_model.specs.disk_model.Content.{Content}
use Rattle.sector_device.specs.Disks.{Disk}
use Rattle.log_model.specs.declared.entry.Entry.{Entry}
use Rattle.log_model.specs.declared.entry.Act.TheVariants.{Update}
use Rattle.log_model.specs.Logs.{is_shadowed, told, recovered}
use Rattle.store_model.specs.Logs.{commit_by, is_behind}
use Rattle.store_model.specs.Stores.{Window, Store, member}
use Rattle.store_model.specs.Events.{after_begin, after_change, after_commit, after_give_up, changed_store}
use Rattle.store_model.specs.Runs.{mounted}
use Rattle.store_model.specs.Volumes.{is_known}

-- a plain block, and the file record whose second sector it is
abbrev pub plain : Block
plain = record { first = 9; kind = Plain }

abbrev pub record_around : Block
record_around = record { first = 8; kind = FileRec }

-- the transaction puts a byte over another one: of the plain block, or of the record
abbrev pub puts : ℕ → ℕ → ℕ → Entry
puts tx redo undo = record { lsn = 0; previous = 0; tx = tx; act = Update 9 0 0 (redo ∷ []) (undo ∷ []) }

-- the same of the record
abbrev pub puts_record : ℕ → ℕ → ℕ → Entry
puts_record tx redo undo = record { lsn = 0; previous = 0; tx = tx; act = Update 8 1 0 (redo ∷ []) (undo ∷ []) }

-- and ends
abbrev pub ends : ℕ → Entry
ends tx = commit_by 0 0 tx

-- a disk of empty sectors
abbrev pub no_disk : Disk
no_disk = record { durable = λ s. []; written = λ s. [] }

-- a store whose bodies are zeros
abbrev pub zeros : Store
zeros = mounted 1 (λ b i. 0) (λ b. false) no_disk

-- Transaction 1 puts 1 and ends, transaction 2 puts 2 and is given up, transaction 3 puts 3 and ends.
abbrev pub first_window : Window
first_window = after_commit (after_change (after_begin zeros.window) plain (puts 1 1 0))

abbrev pub second_window : Window
second_window = after_give_up (after_change (after_begin first_window) plain (puts 2 2 1))

abbrev pub third_window : Window
third_window = after_commit (after_change (after_begin second_window) plain (puts 3 3 1))

-- the entries of the three
abbrev pub three : List Entry
three = puts 1 1 0 ∷ ends 1 ∷ puts 2 2 1 ∷ puts 3 3 1 ∷ ends 3 ∷ []

-- a store where the plain block wasn't written out when the record around it was changed
abbrev pub overwritten : Store
overwritten = changed_store (record zeros { dirty = λ b. same_block b plain }) record_around (puts_record 1 7 0 ∷ [])

-- every block is torn, and holds this byte
abbrev pub torn_all : ℕ → Content
torn_all byte b = record { bytes = byte ∷ []; torn = true }

-- what small stores do
pub record StoreVector : Type 0 where
  -- the window after the three
  pub present : third_window.body plain 0 ≡ 3
  pub newest : member third_window 0 plain 0 ≡ 3
  pub one_back : member third_window 1 plain 0 ≡ 1
  pub two_back : member third_window 2 plain 0 ≡ 0
  pub waiting : length third_window.waiting ≡ 2
  pub given_up : second_window.body plain 0 ≡ 1
  -- what a crash may leave of their entries tells the same
  pub all_told : told three plain 0 ≡ Some 3
  pub four_told : told (puts 1 1 0 ∷ ends 1 ∷ puts 2 2 1 ∷ puts 3 3 1 ∷ []) plain 0 ≡ Some 1
  pub three_told : told (puts 1 1 0 ∷ ends 1 ∷ puts 2 2 1 ∷ []) plain 0 ≡ Some 1
  pub one_told : told (puts 1 1 0 ∷ []) plain 0 ≡ Some 0
  pub none_told : told [] plain 0 ≡ None
  -- the block that was changed before its rival is shadowed, whichever it is
  pub record_behind : is_shadowed (puts 1 1 0 ∷ puts_record 2 1 0 ∷ ends 1 ∷ ends 2 ∷ []) plain ≡ true
  pub plain_behind : is_shadowed (puts_record 1 1 0 ∷ puts 2 1 0 ∷ ends 1 ∷ ends 2 ∷ []) record_around ≡ true
  pub last_record : is_shadowed (puts 1 1 0 ∷ puts_record 2 1 0 ∷ ends 1 ∷ ends 2 ∷ []) record_around ≡ false
  pub last_plain : is_shadowed (puts_record 1 1 0 ∷ puts 2 1 0 ∷ ends 1 ∷ ends 2 ∷ []) plain ≡ false
  pub behind : is_behind (puts_record 1 1 0 ∷ puts 2 1 0 ∷ ends 2 ∷ []) plain record_around ≡ true
  -- a torn block that a transaction covers which didn't end is as it was before, and whole; one that isn't covered stays torn
  pub loser_bytes : slice_index (recovered (torn_all 9) (puts 1 0x22 0x11 ∷ []) plain).bytes 0 ≡ 0x11
  pub loser_whole : (recovered (torn_all 9) (puts 1 0x22 0x11 ∷ []) plain).torn ≡ false
  pub still_torn : (recovered (torn_all 9) (ends 1 ∷ []) plain).torn ≡ true
  -- of two rivals the one that is changed is dirty, and the other dead
  pub dirty : overwritten.dirty record_around ≡ true
  pub not_dirty : overwritten.dirty plain ≡ false
  pub dead : overwritten.dead plain ≡ true
  pub not_dead : overwritten.dead record_around ≡ false
  -- blocks off the grid aren't known, nor are those on the log's own sectors
  pub known : is_known (λ s. false) record_around ≡ true
  pub off_grid : is_known (λ s. false) (record { first = 9; kind = FileRec }) ≡ false
  pub index_off_grid : is_known (λ s. false) (record { first = 12; kind = Index }) ≡ false
  pub of_the_log : is_known (λ s. true) record_around ≡ false
  -- Transaction 1 puts 1 over 0, transaction 2 changes another block, transaction 1 puts 2 over 1 and is given up. From the entry of transaction 2 on, undo
  -- bytes from before the update tell 1, and those from before the transaction 0.
  pub whole_tells : told (puts 1 1 0 ∷ puts_record 2 1 0 ∷ puts 1 2 1 ∷ []) plain 0 ≡ Some 0
  pub later_tells : told (puts_record 2 1 0 ∷ puts 1 2 1 ∷ []) plain 0 ≡ Some 1
  pub later_agrees : told (puts_record 2 1 0 ∷ puts 1 2 0 ∷ []) plain 0 ≡ Some 0
