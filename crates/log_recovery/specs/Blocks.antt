-- What a list of entries makes of one block, where the transactions that are ended are known.
use Rattle.std.specs.Prelude.{ℕ, ◌+◌, ◌*◌, ◌≡◌, ◌≤◌, ◌&&◌, ◌||◌, not, nat_eq, Bool, true, false, List, length, unwrap_or}
use Rattle.std.specs.Cmp.Lexicographic.{pointwise}
use Rattle.log_reading.specs.disk_model.declared.block.Block.{Block}
use Rattle.log_reading.specs.disk_model.declared.block.BlockKind.TheVariants.{Plain}
use Rattle.log_reading.specs.disk_model.Bodies.{BodyOf}
use Rattle.log_reading.specs.disk_model.Sectors.{sectors, same_kind}
use Rattle.log_reading.specs.disk_model.Writes.{bytes_after}
use Rattle.log_model.specs.declared.entry.Entry.{Entry}
use Rattle.log_model.specs.declared.entry.Act.{Act}
use Rattle.log_model.specs.declared.entry.Act.TheVariants.{Update, Commit}
use Rattle.log_model.specs.Logs.{kind_of, last_said, undos_back, redos, is_covered_whole}
use Rattle.log_recovery.specs.declared.found.Judged.{Judged}
use Rattle.log_recovery.specs.declared.found.Judged.TheVariants.{Shadowed, Partial, Kept, Made}

-- an update has as many undo bytes as redo bytes, and they lie inside its block's body
abbrev pub LiesInside : Act → Type 0
LiesInside (Update first kind at redo undo) = (length undo ≡ length redo) × (at + length redo ≤ 512 * sectors (kind_of kind))
LiesInside Commit = Unit {0}

abbrev pub Lies : Entry → Type 0
Lies e = LiesInside e.act

-- an update of a rival is the last that is said of the block
unfoldable pub shadowed_by : (ℕ → Bool) → List Entry → Block → Bool
shadowed_by ended log b = unwrap_or (last_said ended log b) false

-- the bytes after all is undone, and what is ended is redone
abbrev pub bytes_by : (ℕ → Bool) → List Entry → Block → List ℕ → List ℕ
bytes_by ended log b bytes = bytes_after (redos ended log) b (bytes_after (undos_back log) b bytes)

-- they aren't those of before
unfoldable pub other_by : (ℕ → Bool) → List Entry → Block → List ℕ → Bool
other_by ended log b bytes = not (pointwise nat_eq (bytes_by ended log b bytes) bytes)

-- a file record or an index block that is changed and isn't covered whole
abbrev pub partial_by : (ℕ → Bool) → List Entry → Block → BodyOf → Bool
partial_by ended log b body = not (same_kind b.kind Plain) && not (is_covered_whole log b) && other_by ended log b body.bytes

-- a block that is changed, or torn and covered whole
abbrev pub made_by : (ℕ → Bool) → List Entry → Block → BodyOf → Bool
made_by ended log b body = other_by ended log b body.bytes || (body.torn && is_covered_whole log b)

abbrev pub body_by : (ℕ → Bool) → List Entry → Block → BodyOf → BodyOf
body_by ended log b body = record { bytes = bytes_by ended log b body.bytes; torn = body.torn && not (is_covered_whole log b) }

-- a block that isn't shadowed, of which this body stands on the disk
pub record IsSeen (ended : ℕ → Bool) (log : List Entry) (b : Block) (body : BodyOf) (in_part out : Bool) : Type 0 where
  pub seen : shadowed_by ended log b ≡ false
  pub part : partial_by ended log b body ≡ in_part
  pub made : made_by ended log b body ≡ out

-- what is found of a block, of which this body stands on the disk
abbrev pub Judges : (ℕ → Bool) → List Entry → Block → BodyOf → Judged → Type 0
Judges ended log b body Shadowed = shadowed_by ended log b ≡ true
Judges ended log b body Partial = (shadowed_by ended log b ≡ false) × (partial_by ended log b body ≡ true)
Judges ended log b body Kept = IsSeen ended log b body false false
Judges ended log b body (Made made) = IsSeen ended log b body false true × (made ≡ body_by ended log b body)
