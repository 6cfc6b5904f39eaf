-- The laws of a list of entries.
use Rattle.std.specs.Prelude.{◌≡◌, ◌<◌, ℕ, ◌&&◌, not, true, false, List, ◌∷◌, ◌++◌, length, slice_index, All}
use Rattle.std.specs.List.{AllByRecursion}
use Rattle.disk_model.specs.declared.block.Block.{Block}
use Rattle.disk_model.specs.Content.{Content, HasSizes}
use Rattle.log_model.specs.declared.entry.Entry.{Entry}
use Rattle.log_model.specs.Logs.{updates, updates_rival, IsLevel, is_ended, is_shadowed, recovered, recovered_byte, is_covered_whole}

-- Recovery read aloud. Of a block that isn't shadowed a byte is the redo byte of the last update of an ended transaction that covers it; else the
-- undo byte of the first update that covers it; else the disk's. It is torn where it is torn on the disk and not covered whole. A shadowed block is the disk's.
pub record RecoveredByte : Type 0 where
  pub bytes : (disk : Content) (log : List Entry) (b : Block) (i : ℕ) → All IsLevel log → is_shadowed log b ≡ false → i < length (disk b).bytes → slice_index (recovered disk log b).bytes i ≡ recovered_byte disk log b i
  pub size : (disk : Content) (log : List Entry) (b : Block) → length (recovered disk log b).bytes ≡ length (disk b).bytes
  pub torn : (disk : Content) (log : List Entry) (b : Block) → HasSizes disk → All IsLevel log → is_shadowed log b ≡ false → (recovered disk log b).torn ≡ ((disk b).torn && not (is_covered_whole log b))
  pub shadowed : (disk : Content) (log : List Entry) (b : Block) → is_shadowed log b ≡ true → recovered disk log b ≡ disk b

-- An update of a rival of the block, after which no transaction that ended has an update of the block itself.
pub record RivalBehind (log : List Entry) (b : Block) : Type 0 where
  pub front : List Entry
  pub rival : Entry
  pub after : List Entry
  pub whole : log ≡ front ++ rival ∷ after
  pub is_rival : updates_rival b rival.act ≡ true
  pub no_own_after : AllByRecursion (λ (e : Entry). (updates b e.act && is_ended log e.tx) ≡ false) after

-- there is one exactly where the block is shadowed
pub record ShadowIsRival : Type 0 where
  pub found : (log : List Entry) (b : Block) → is_shadowed log b ≡ true → RivalBehind log b
  pub shadowed : (log : List Entry) (b : Block) → RivalBehind log b → is_shadowed log b ≡ true
