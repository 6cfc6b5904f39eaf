-- Small logs of a plain block of one byte.
use Rattle.std.specs.Prelude.{◌≡◌, ℕ, [], ◌∷◌, slice_index, true, false, Some, None}
use Rattle.disk_model.specs.declared.block.Block.{Block}
use Rattle.disk_model.specs.declared.block.BlockKind.TheVariants.{Plain, FileRec}
use Rattle.disk_model.specs.Content.{Content, plain_body}
use Rattle.log_model.specs.declared.entry.Entry.{Entry}
use Rattle.log_model.specs.declared.entry.Act.TheVariants.{Update, Commit}
use Rattle.log_model.specs.Logs.{recovered, is_shadowed, first_rival, first_misplaced, first_partial}

abbrev pub plain : Block
plain = record { first = 1; kind = Plain }

-- the file record whose second sector this is
abbrev pub record_around : Block
record_around = record { first = 0; kind = FileRec }

-- every block holds one byte
abbrev pub all : ℕ → Content
all byte b = plain_body (byte ∷ [])

-- the transaction puts a byte over another one
abbrev pub puts : ℕ → ℕ → ℕ → ℕ → Entry
puts lsn tx redo undo = record { lsn = lsn; previous = 0; tx = tx; act = Update 1 0 0 (redo ∷ []) (undo ∷ []) }

abbrev pub ends : ℕ → ℕ → Entry
ends lsn tx = record { lsn = lsn; previous = 0; tx = tx; act = Commit }

pub record LogVector : Type 0 where
  -- a transaction that didn't end is undone, and one that did is redone
  pub undone : slice_index (recovered (all 0x22) (puts 8 1 0x22 0x11 ∷ []) plain).bytes 0 ≡ 0x11
  pub redone : slice_index (recovered (all 0x11) (puts 8 1 0x22 0x11 ∷ ends 9 1 ∷ []) plain).bytes 0 ≡ 0x22
  -- another one's commit doesn't end it
  pub not_ended : slice_index (recovered (all 0x22) (puts 8 1 0x22 0x11 ∷ ends 9 2 ∷ []) plain).bytes 0 ≡ 0x11
  -- a transaction was given up, and then one ended that put another byte at the same place
  pub given_up : slice_index (recovered (all 9) (puts 8 1 9 0 ∷ puts 9 2 5 0 ∷ ends 10 2 ∷ []) plain).bytes 0 ≡ 5
  -- the record around the sector is shadowed from its first update on
  pub shadowed : is_shadowed (puts 8 1 0x22 0x11 ∷ []) record_around ≡ true
  pub own : is_shadowed (puts 8 1 0x22 0x11 ∷ []) plain ≡ false
  pub rival : first_rival (puts 8 1 0x22 0x11 ∷ puts 9 1 0x22 0x11 ∷ []) record_around ≡ Some 8
  -- a volume of one cluster has sectors 0 to 7, and one of none doesn't
  pub inside : first_misplaced (puts 8 1 0x22 0x11 ∷ []) 1 ≡ None
  pub outside : first_misplaced (ends 7 2 ∷ puts 8 1 0x22 0x11 ∷ []) 0 ≡ Some 8
  -- a plain block is never at fault
  pub plain_is_good : first_partial (all 9) (puts 8 1 0x22 0x11 ∷ []) ≡ None
