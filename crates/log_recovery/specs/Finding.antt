-- What was found by the first entries of a log, and one block more; the shadowed blocks are found apart.
use Rattle.std.specs.Prelude.{ℕ, ◌≡◌, ◌*◌, ⊤, Bool, true, false, if◌then◌else◌, List, [], ◌∷◌, ◌++◌, take, drop, find, map, length, Option, Some, None, Result, Ok, Err}
use Rattle.std.specs.List.{IsDistinct}
use Rattle.log_reading.specs.disk_model.declared.block.Block.{Block}
use Rattle.log_reading.specs.disk_model.Sectors.{same_block, sectors}
use Rattle.log_reading.specs.disk_model.Content.{Content}
use Rattle.log_model.specs.declared.entry.Entry.{Entry}
use Rattle.log_model.specs.declared.entry.Act.{Act}
use Rattle.log_model.specs.declared.entry.Act.TheVariants.{Update, Commit}
use Rattle.log_model.specs.Logs.{block_of_kind, is_partial, updates_partial, first_partial}
use Rattle.log_recovery.specs.declared.found.RecoveredBlock.{RecoveredBlock}
use Rattle.log_recovery.specs.declared.found.RecoveredBlocks.{RecoveredBlocks}
use Rattle.log_recovery.specs.declared.found.Judged.{Judged}
use Rattle.log_recovery.specs.declared.found.Judged.TheVariants.{Shadowed, Partial, Kept, Made}
use Rattle.log_reading.specs.declared.fault.RecoveryFault.{RecoveryFault}
use Rattle.log_reading.specs.declared.fault.LogRefusal.TheVariants.{LogVersion, NoRestart, ForeignLog}
use Rattle.log_reading.specs.declared.fault.RecoveryFault.TheVariants.{Refused, Fault, Memory}
use Rattle.log_recovery.specs.Recovering.{is_updated, held_body, written_body, body_block, AreRecovered}

-- the bodies, where this was found of the block
abbrev pub bodies_with : Judged → Block → List RecoveredBlock → List RecoveredBlock
bodies_with (Made body) b bodies = bodies ++ record { block = b; body = body } ∷ []
bodies_with Shadowed b bodies = bodies
bodies_with Partial b bodies = bodies
bodies_with Kept b bodies = bodies

abbrev pub is_part : Judged → Bool
is_part Partial = true
is_part Shadowed = false
is_part (Made body) = false
is_part Kept = false

-- one block more
pub record Adds (judged : Judged) (b : Block) (old new : List RecoveredBlock) : Type 0 where
  pub whole : is_part judged ≡ false
  pub bodies : new ≡ bodies_with judged b old

-- what is found by the first entries
pub record Found (c : Content) (log : List Entry) (k : ℕ) (bodies : List RecoveredBlock) : Type 0 where
  pub held : (b : Block) → held_body bodies b ≡ (if is_updated (take k log) b then written_body c log b else None)
  pub once : IsDistinct same_block (map body_block bodies)
  pub whole : (b : Block) → is_updated (take k log) b ≡ true → is_partial c log b ≡ false
  pub rest : find (λ (e : Entry). updates_partial c log e.act) (drop k log) ≡ find (λ (e : Entry). updates_partial c log e.act) log

-- the block of an update
abbrev pub update_block : Act → Option Block
update_block (Update first kind at redo undo) = Some (block_of_kind first kind)
update_block Commit = None

-- a body that was made has its block's size
abbrev pub IsSizedFor : Block → Judged → Type 0
IsSizedFor b (Made body) = length body.bytes ≡ 512 * sectors b.kind
IsSizedFor b Shadowed = ⊤
IsSizedFor b Partial = ⊤
IsSizedFor b Kept = ⊤

-- why a block isn't added: it is recovered in part, and then this is the LSN of its first update
abbrev pub Refuses : Judged → ℕ → RecoveryFault → Type 0
Refuses judged lsn (Refused (LogVersion major minor)) = ⊥
Refuses judged lsn (Refused NoRestart) = ⊥
Refuses judged lsn (Refused (ForeignLog l)) = (is_part judged ≡ true) × (l ≡ lsn)
Refuses judged lsn Fault = ⊥
Refuses judged lsn Memory = ⊤

-- the first update of a block that is recovered in part has this LSN
abbrev pub IsFirstPartial : Content → List Entry → RecoveryFault → Type 0
IsFirstPartial c log (Refused (LogVersion major minor)) = ⊥
IsFirstPartial c log (Refused NoRestart) = ⊥
IsFirstPartial c log (Refused (ForeignLog lsn)) = first_partial c log ≡ Some lsn
IsFirstPartial c log Fault = ⊤
IsFirstPartial c log Memory = ⊤

-- what is answered where no entry is misplaced
abbrev pub RecoversPlaced : Content → List Entry → Result RecoveredBlocks RecoveryFault → Type 0
RecoversPlaced c log (Ok found) = (first_partial c log ≡ None) × AreRecovered c log found
RecoversPlaced c log (Err e) = IsFirstPartial c log e
