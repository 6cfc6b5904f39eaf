-- What an edit puts into a draft, as the bodies of a plan.
use Rattle.std.specs.Prelude.{◌≡◌, ◌⊎◌, ℕ, ◌+◌, ◌≤◌, ◌<◌, true, List, length, Some}
use Rattle.std.specs.List.{AllByRecursion}
use Rattle.disk_model.specs.declared.block.Block.{Block}
use Rattle.disk_model.specs.declared.block.BlockKind.TheVariants.{Plain}
use Rattle.disk_model.specs.Content.{Content, HasSizes}
use Rattle.plan_values.specs.record_model.declared.runs.Run.{Run}
use Rattle.plan_values.specs.state_model.declared.stream.Extents.{Extents}
use Rattle.plan_values.specs.state_model.Streams.{block_at}
use Rattle.plan_values.specs.plan_bodies.Bodies.{NewBody, AreBodies, put_bodies, content_with}
use Rattle.draft_resized.specs.plan_draft.declared.touched.Touched.{Touched}
use Rattle.draft_resized.specs.plan_draft.Touching.{bodies_of}
use Rattle.draft_resized.specs.plan_draft.Drafts.{drafted}
use Rattle.draft_resized.specs.plan_draft.Same.{PutSame}
use Rattle.plan_values.specs.plan_model.Drafts.{IsPut}
use Rattle.draft_resized.specs.draft_streams.Parts.{first_sector, sector_count, touch_bytes}
use Rattle.draft_resized.specs.draft_bits.Effects.{IsKept}
use Rattle.draft_resized.specs.draft_records.Records.{record_block, has_mirror, touch_record}
use Rattle.plan_values.specs.resized_streams.declared.resized.Resized.{Resized}
use Rattle.draft_resized.specs.Effects.{PutsWhole}

-- Whole bodies make of what a draft touched before what it touches behind an edit. They are of blocks that are among the first of these,
-- and each of the second ones is put.
pub record PutsBlocks (among puts : Block → Type 0) (old new : List Touched) : Type 0 where
  pub bodies : List NewBody
  pub whole : AreBodies bodies
  pub each : AllByRecursion (λ p. among p.block) bodies
  pub put : (b : Block) → puts b → IsPut bodies b
  pub same : PutSame (bodies_of new) (put_bodies bodies (bodies_of old))

-- ---- which blocks

-- a sector of a stream
abbrev pub IsSectorOf : ℕ → List Run → Block → Type 0
IsSectorOf per runs b = (s : ℕ) × (block_at per runs Plain s ≡ Some b)

-- one of those in which so many bytes from this place on fall
abbrev pub IsSectorWith : ℕ → List Run → ℕ → ℕ → Block → Type 0
IsSectorWith per runs at n b = (s : ℕ) × ((first_sector at ≤ s) × (s < first_sector at + sector_count at n) × (block_at per runs Plain s ≡ Some b))

-- the block of a record
abbrev pub IsRecordOf : ℕ → Extents → ℕ → Block → Type 0
IsRecordOf per table n b = record_block per table n ≡ Some b

-- or that of the mirror, where this has the record
abbrev pub IsMirrored : ℕ → Extents → Extents → ℕ → Block → Type 0
IsMirrored per table mirror n b = IsRecordOf per table n b ⊎ ((has_mirror mirror n ≡ true) × IsRecordOf per mirror n b)

-- ---- the law

-- Bytes that are put into a stream are such an edit; so is a record that is put, and a file with the bits of its clusters. Edits one behind
-- the other are one, the content with the bodies over the draft before is that of the draft behind them, and the list of a plan that put
-- the same before puts the same with them.
pub record DraftsPutBlocks : Type 0 where
  pub bytes : (c : Content) (per : ℕ) (runs : List Run) (fresh at : ℕ) (bytes : List ℕ) (old : List Touched) → HasSizes c → IsKept old → PutsBlocks (IsSectorOf per runs) (IsSectorWith per runs at (length bytes)) old (touch_bytes c per runs fresh at bytes old)
  pub file : (c : Content) (per : ℕ) (table mirror : Extents) (n : ℕ) (bytes : List ℕ) (old : List Touched) → HasSizes c → IsKept old → length bytes ≡ 1024 → PutsBlocks (IsMirrored per table mirror n) (IsMirrored per table mirror n) old (touch_record c per table mirror n bytes old)
  pub resized : (c : Content) (per : ℕ) (bitmap table mirror : Extents) (n : ℕ) (z : Resized) (old new : List Touched) → PutsWhole c per bitmap table mirror n z old new
      → PutsBlocks (λ b. IsMirrored per table mirror n b ⊎ IsSectorOf per bitmap.runs b) (IsMirrored per table mirror n) old new
  pub joined : (first second : List NewBody) (old mid new : List Touched) → AreBodies first → AreBodies second → PutSame (bodies_of mid) (put_bodies first (bodies_of old)) → PutSame (bodies_of new) (put_bodies second (bodies_of mid))
      → PutSame (bodies_of new) (put_bodies (put_bodies second first) (bodies_of old))
  pub content : (c : Content) (bodies : List NewBody) (old new : List Touched) → HasSizes c → IsKept old → IsKept new → AreBodies bodies → PutSame (bodies_of new) (put_bodies bodies (bodies_of old)) → content_with (drafted old c) bodies ≡ drafted new c
  pub kept : (bodies more : List NewBody) (old new : List Touched) → AreBodies more → PutSame (bodies_of old) bodies → PutSame (bodies_of new) (put_bodies more (bodies_of old)) → PutSame (bodies_of new) (put_bodies more bodies)
