-- What recovery answers: the blocks that it writes out, the shadowed blocks, or the entry that is refused.
use Rattle.std.specs.Prelude.{ℕ, ◌≡◌, ◌*◌, ⊤, Bool, ◌&&◌, if◌then◌else◌, List, [], ◌∷◌, map, length, Option, Some, None, unwrap_or, Result, Ok, Err}
use Rattle.std.specs.List.{list_any, IsDistinct}
use Rattle.std.specs.Option.{option_or}
use Rattle.log_reading.specs.disk_model.declared.block.Block.{Block}
use Rattle.log_reading.specs.disk_model.Bodies.{BodyOf}
use Rattle.log_reading.specs.disk_model.Sectors.{same_block, sectors}
use Rattle.log_reading.specs.disk_model.Content.{Content}
use Rattle.log_model.specs.declared.entry.Entry.{Entry}
use Rattle.log_model.specs.Logs.{updates, is_in_grid, is_shadowed, first_rival, recovered, is_written_out, first_misplaced, first_partial}
use Rattle.log_recovery.specs.declared.found.RecoveredBlock.{RecoveredBlock}
use Rattle.log_recovery.specs.declared.found.Shadow.{Shadow}
use Rattle.log_recovery.specs.declared.found.RecoveredBlocks.{RecoveredBlocks}
use Rattle.log_reading.specs.declared.fault.RecoveryFault.{RecoveryFault}
use Rattle.log_reading.specs.declared.fault.LogRefusal.TheVariants.{LogVersion, NoRestart, ForeignLog}
use Rattle.log_reading.specs.declared.fault.RecoveryFault.TheVariants.{Refused, Fault, Memory}

-- some entry is an update of the block
abbrev pub is_updated : List Entry → Block → Bool
is_updated log b = list_any (λ (e : Entry). updates b e.act) log

-- ---- what is found

-- what the first of these that stands for the block holds of it
abbrev pub held : {R X : Type 0} → (R → Block) → (R → X) → List R → Block → Option X
held at of [] b = None
held at of (r ∷ rs) b = if same_block b (at r) then Some (of r) else held at of rs b

abbrev pub body_block : RecoveredBlock → Block
body_block r = r.block

abbrev pub shadow_block : Shadow → Block
shadow_block s = s.block

-- the body that is held of a block
abbrev pub held_body : List RecoveredBlock → Block → Option BodyOf
held_body bodies b = held body_block (λ r. r.body) bodies b

-- the LSN that is held of a block
abbrev pub held_lsn : List Shadow → Block → Option ℕ
held_lsn shadows b = held shadow_block (λ s. s.lsn) shadows b

-- a content with these bodies in place of its own
abbrev pub content_with : List RecoveredBlock → Content → Content
content_with bodies c b = unwrap_or (held_body bodies b) (c b)

-- the body has its block's size
abbrev pub IsSized : RecoveredBlock → Type 0
IsSized r = length r.body.bytes ≡ 512 * sectors r.block.kind

-- ---- what is meant

-- the recovered body of a block that is written out
abbrev pub written_body : Content → List Entry → Block → Option BodyOf
written_body c log b = if is_written_out c log b then Some (recovered c log b) else None

-- the LSN of the first update of a rival of a block of the grid that is shadowed
abbrev pub shadow_lsn : List Entry → Block → Option ℕ
shadow_lsn log b = if is_in_grid b && is_shadowed log b then first_rival log b else None

-- The bodies are the recovered ones of exactly the blocks that are written out, each once; the shadows are exactly the shadowed blocks
-- of the grid, each once; and with these bodies the content is the recovered one.
pub record AreRecovered (c : Content) (log : List Entry) (found : RecoveredBlocks) : Type 0 where
  pub bodies : (b : Block) → held_body found.bodies.items b ≡ written_body c log b
  pub once : IsDistinct same_block (map body_block found.bodies.items)
  pub shadows : (b : Block) → held_lsn found.shadows.items b ≡ shadow_lsn log b
  pub shadowed_once : IsDistinct same_block (map shadow_block found.shadows.items)
  pub content : content_with found.bodies.items c ≡ recovered c log

-- the entry that is refused: the first that is misplaced, else the first of a block that is recovered in part
unfoldable pub foreign_entry : Content → List Entry → ℕ → Option ℕ
foreign_entry c log clusters = option_or (first_misplaced log clusters) (first_partial c log)

abbrev pub Recovers : Content → List Entry → ℕ → Result RecoveredBlocks RecoveryFault → Type 0
Recovers c log clusters (Ok found) = (foreign_entry c log clusters ≡ None) × AreRecovered c log found
Recovers c log clusters (Err (Refused (LogVersion major minor))) = ⊥
Recovers c log clusters (Err (Refused NoRestart)) = ⊥
Recovers c log clusters (Err (Refused (ForeignLog lsn))) = foreign_entry c log clusters ≡ Some lsn
Recovers c log clusters (Err Fault) = ⊤
Recovers c log clusters (Err Memory) = ⊤
