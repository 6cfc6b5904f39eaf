-- What a store has of blocks: the bodies that it keeps, and what is marked of each.
use Rattle.std.specs.Prelude.{List, Option, unwrap_or}
use Rattle.std.specs.Option.{option_map}
use Rattle.txn_model.specs.disk_model.declared.block.Block.{Block}
use Rattle.txn_model.specs.disk_model.declared.block.Body.{Body}
use Rattle.txn_model.specs.block_pool.Pools.{held}
use Rattle.txn_model.specs.declared.mark.Mark.{Mark}
use Rattle.txn_model.specs.Values.{no_mark}
use Rattle.store_pools.specs.declared.kept.KeptBody.{KeptBody}

abbrev pub body_of_kept : KeptBody → Body
body_of_kept k = record { bytes = k.bytes; torn = k.torn }

-- the bodies of a pool, by blocks
abbrev pub bodies_of : List (Block × KeptBody) → Block → Option Body
bodies_of bodies b = option_map body_of_kept (held bodies b)

-- and the marks, of which a block that has none is plainly clean
abbrev pub marks_of : List (Block × Mark) → Block → Mark
marks_of marks b = unwrap_or (held marks b) no_mark
