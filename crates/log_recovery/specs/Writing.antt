-- What a mount that writes makes of a log: the blocks that it writes out, and the one cause more for which it refuses the log.
use Rattle.std.specs.Prelude.{ℕ, ◌+◌, ◌≡◌, ◌&&◌, ◌||◌, not, nat_eq, Bool, false, if◌then◌else◌, List, [], ◌∷◌, find, Option, Some, None, Result, Ok, Err}
use Rattle.std.specs.List.{list_any}
use Rattle.std.specs.Option.{option_map}
use Rattle.std.specs.BTreeSet.{BTreeSet, contains}
use Rattle.std.specs.Cmp.Lexicographic.{pointwise}
use Rattle.host_base.specs.Answers.{◌>>=◌, ExplainsOrFails}
use Rattle.log_reading.specs.disk_model.declared.block.Block.{Block}
use Rattle.log_reading.specs.disk_model.Bodies.{BodyOf}
use Rattle.log_reading.specs.disk_model.Sectors.{same_block}
use Rattle.log_reading.specs.disk_model.Content.{Content}
use Rattle.log_reading.specs.fixup_record.Spellings.{has_spelling}
use Rattle.log_model.specs.declared.entry.Entry.{Entry}
use Rattle.log_model.specs.declared.entry.Act.{Act}
use Rattle.log_model.specs.declared.entry.Act.TheVariants.{Update, Commit}
use Rattle.log_model.specs.Logs.{block_of_kind, recovered, is_other, is_written_out}
use Rattle.log_reading.specs.log_page.declared.places.LogPlace.{LogPlace}
use Rattle.log_reading.specs.declared.fault.LogRefusal.{LogRefusal}
use Rattle.log_reading.specs.declared.fault.RecoveryFault.{RecoveryFault}
use Rattle.log_reading.specs.declared.fault.LogRefusal.TheVariants.{ForeignLog}
use Rattle.log_reading.specs.Views.{recovery_cause}
use Rattle.log_recovery.specs.declared.found.RecoveredBlock.{RecoveredBlock}
use Rattle.log_recovery.specs.declared.whole.Recovered.{Recovered}
use Rattle.log_recovery.specs.declared.whole.RecoveredLog.{RecoveredLog}
use Rattle.log_recovery.specs.declared.writing.ToWrite.{ToWrite}
use Rattle.log_recovery.specs.Recovering.{AreRecovered}
use Rattle.log_recovery.specs.LogStates.{LogState, recovery_in, IsRecovered}
use Rattle.log_recovery.specs.Places.{key_of, key_order}
use Rattle.log_recovery.specs.Own.{is_own}

-- ---- blocks

-- some bytes of a disk stand for the block's recovered body
abbrev pub is_spelled : Content → List Entry → Block → Bool
is_spelled c log b = has_spelling b.kind (recovered c log b).bytes

-- A mount writes it out: all that recovery writes out but a torn block that has the recovered bytes already, where no bytes of a disk stand for
-- them untorn. That block stays torn.
unfoldable pub is_put_out : Content → List Entry → Block → Bool
is_put_out c log b = is_written_out c log b && (is_spelled c log b || is_other c log b)

-- It may not be: it has a sector of the log or of what the log is found by, or no bytes of a disk stand for its body.
unfoldable pub is_barred : (Block → Bool) → Content → List Entry → Block → Bool
is_barred own c log b = is_put_out c log b && (own b || not (is_spelled c log b))

-- an update of such a block
abbrev pub updates_such : (Block → Bool) → Act → Bool
updates_such such (Update first kind at redo undo) = such (block_of_kind first kind)
updates_such such Commit = false

-- the LSN of the first one
abbrev pub first_update : (Block → Bool) → List Entry → Option ℕ
first_update such log = option_map (λ (e : Entry). e.lsn) (find (λ e. updates_such such e.act) log)

-- ---- the log

abbrev pub unless_foreign : {A : Type 0} → Option ℕ → A → Result A LogRefusal
unless_foreign (Some lsn) x = Err (ForeignLog lsn)
unless_foreign None x = Ok x

-- The log as it is for reading; it is refused with the first update of a block that a mount would write out and may not.
unfoldable pub to_write_in : Content → LogPlace → List Block → Result LogState LogRefusal
to_write_in c place kept = recovery_in c place >>= λ state. unless_foreign (first_update (is_barred (is_own place kept) c state.log) state.log) state

-- ---- what is answered

-- the places of those for which a test holds, where they stand from this place on
abbrev pub places_where : {X : Type 0} → (X → Bool) → ℕ → List X → List ℕ
places_where test i [] = []
places_where test i (x ∷ xs) = if test x then i ∷ places_where test (i + 1) xs else places_where test (i + 1) xs

-- what was found is what the log says, and these of its blocks are put out
pub record IsToWrite (c : Content) (state : LogState) (found : ToWrite) : Type 0 where
  pub recovered : IsRecovered c state found.recovered
  pub written : found.written.items ≡ places_where (λ (r : RecoveredBlock). is_put_out c state.log r.block) 0 found.recovered.blocks.bodies.items

abbrev pub IsToWriteBy : Content → Result LogState LogRefusal → ToWrite → Type 0
IsToWriteBy c (Ok state) found = IsToWrite c state found
IsToWriteBy c (Err e) found = ⊥

-- what a mount needs, or the refusal that is meant
abbrev pub RecoversToWrite : Content → Result LogState LogRefusal → Result ToWrite RecoveryFault → Type 0
RecoversToWrite c meant (Ok found) = IsToWriteBy c meant found
RecoversToWrite c meant (Err e) = ExplainsOrFails (recovery_cause e) meant

-- some bytes of a disk stand for the body that was made
abbrev pub has_spelled : RecoveredBlock → Bool
has_spelled r = has_spelling r.block.kind r.body.bytes

-- ---- how it is found

-- with its entries
abbrev pub state_with : List Entry → Recovered → LogState
state_with entries found = record { log = entries; next_lap = found.next_lap; restart = found.restart; opens = found.opens }

abbrev pub RecoversWith : Content → Result LogState LogRefusal → Result RecoveredLog RecoveryFault → Type 0
RecoversWith c meant (Ok found) = (meant ≡ Ok (state_with found.entries.items found.recovered)) × AreRecovered c found.entries.items found.recovered.blocks
RecoversWith c meant (Err e) = ExplainsOrFails (recovery_cause e) meant

-- a body that was made may not be put out
abbrev pub bars : (Block → Bool) → Content → Block → BodyOf → Bool
bars own c b body = if has_spelling b.kind body.bytes then own b else not (pointwise nat_eq body.bytes (c b).bytes)

-- the block is one of these, and may not be put out
abbrev pub is_barred_among : (Block → Bool) → Content → List RecoveredBlock → Block → Bool
is_barred_among own c bodies b = list_any (λ (r : RecoveredBlock). same_block b r.block && bars own c r.block r.body) bodies

-- the set has these blocks
abbrev pub HasBarred : (Block → Bool) → BTreeSet (ℕ × ℕ) → Type 0
HasBarred such met = (b : Block) → contains key_order met (key_of b) ≡ such b
