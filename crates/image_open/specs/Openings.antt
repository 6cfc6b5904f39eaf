-- What a volume that was opened keeps, and its recovered content.
use Rattle.std.specs.Prelude.{ℕ, ◌*◌, ◌<◌, ◌^◌, All, Result, Ok, Err}
use Rattle.disk_model.specs.Content.{Content}
use Rattle.log_recovery.specs.declared.found.RecoveredBlocks.{RecoveredBlocks}
use Rattle.log_recovery.specs.Recovering.{content_with, IsSized, AreRecovered}
use Rattle.log_recovery.specs.LogStates.{LogState}
use Rattle.image_open.specs.declared.opening.Opening.{Opening}
use Rattle.image_open.specs.Volumes.{log_state, Opened}

-- its file table begins below the sector 2^62, and its bodies have their blocks' sizes
pub record IsOpening (o : Opening) : Type 0 where
  pub place : o.geometry.mft * o.geometry.per_cluster < 2 ^ 62
  pub sized : All IsSized o.blocks.bodies.items

-- the content with the bodies that recovery made
abbrev pub content_after : Opening → Content → Content
content_after o c = content_with o.blocks.bodies.items c

-- what was opened, over the content of its disk
abbrev pub opened_as : Content → Opening → Opened
opened_as c o = record { geometry = o.geometry; total = o.total; content = content_after o c }

-- the blocks are those that recovery by a log which isn't refused makes and shadows, over the content of its disk
abbrev pub AreFoundBy : {F : Type 0} → Content → Result LogState F → RecoveredBlocks → Type 0
AreFoundBy c (Ok state) blocks = AreRecovered c state.log blocks
AreFoundBy c (Err e) blocks = ⊥

-- the blocks of what was opened are those by its log, on a device of so many sectors
abbrev pub HasBlocks : Content → ℕ → Opening → Type 0
HasBlocks c sectors o = AreFoundBy c (log_state c o.geometry o.total sectors) o.blocks
