-- Marks of blocks that are changed one after the other.
use Rattle.std.specs.Prelude.{if◌then◌else◌, List, [], ◌∷◌}
use Rattle.txn_log.specs.disk_model.declared.block.Block.{Block}
use Rattle.txn_log.specs.disk_model.Sectors.{same_block}
use Rattle.txn_log.specs.txn_model.declared.mark.Mark.{Mark}

-- the marks with that of one block changed
abbrev pub turned_at : (Mark → Mark) → Block → (Block → Mark) → Block → Mark
turned_at turn b marks c = if same_block c b then turn (marks c) else marks c

-- and with those of some blocks, one after the other
abbrev pub turned_all : (Mark → Mark) → List Block → (Block → Mark) → Block → Mark
turned_all turn [] marks = marks
turned_all turn (b ∷ bs) marks = turned_all turn bs (turned_at turn b marks)
