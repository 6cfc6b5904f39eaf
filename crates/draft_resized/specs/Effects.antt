-- What a file with clusters that came and went makes of the draft.
use Rattle.std.specs.Prelude.{◌≡◌, ℕ, ◌/◌, ◌<◌, true, false, List, length, slice_index, Ok, Some}
use Rattle.draft_records.specs.disk_model.declared.block.Block.{Block}
use Rattle.draft_records.specs.disk_model.declared.block.BlockKind.TheVariants.{Plain}
use Rattle.draft_records.specs.disk_model.Content.{Content, HasSizes}
use Rattle.draft_records.specs.record_writer.NormalLaws.{FitsByRoom}
use Rattle.draft_records.specs.state_model.declared.stream.Extents.{Extents}
use Rattle.draft_records.specs.state_model.Streams.{block_at, byte_at}
use Rattle.draft_records.specs.volume_model.Owners.{uses}
use Rattle.draft_records.specs.plan_bodies.Bodies.{body_in}
use Rattle.draft_records.specs.plan_draft.declared.touched.Touched.{Touched}
use Rattle.draft_records.specs.plan_draft.Touching.{bodies_of}
use Rattle.draft_records.specs.plan_draft.Drafts.{drafted}
use Rattle.draft_runs.specs.draft_streams.Parts.{touch_bytes}
use Rattle.draft_runs.specs.draft_streams.Effects.{HasOwnSectors}
use Rattle.draft_runs.specs.draft_bits.Effects.{stream_bit, IsKept, IsNoSector}
use Rattle.draft_records.specs.Records.{record_block, has_mirror, fits_room}
use Rattle.draft_records.specs.resized_streams.declared.resized.Resized.{Resized}
use Rattle.draft_resized.specs.Resized.{resized_bytes, PutsResized}

-- a file is put over whole bodies in order, its record has room, and the sectors of the bitmap lie apart
pub record PutsWhole (c : Content) (per : ℕ) (bitmap table mirror : Extents) (n : ℕ) (z : Resized) (old new : List Touched) : Type 0 where
  pub sized : HasSizes c
  pub kept : IsKept old
  pub fits : FitsByRoom z.file
  pub room : fits_room z.file ≡ Ok tt
  pub own : HasOwnSectors per bitmap.runs
  pub put : PutsResized c per bitmap table mirror n z old new

-- The record stands in its block and in that of the mirror; the clusters that came and didn't go are set, those that went are clear, and
-- each other bit is as before; what is touched are whole bodies in order.
pub record ResizedIsPut : Type 0 where
  pub own : (c : Content) (per : ℕ) (bitmap table mirror : Extents) (n : ℕ) (z : Resized) (old new : List Touched) (b : Block) → PutsWhole c per bitmap table mirror n z old new → record_block per table n ≡ Some b → body_in (bodies_of new) b ≡ Some (resized_bytes z)
  pub mirrored : (c : Content) (per : ℕ) (bitmap table mirror : Extents) (n : ℕ) (z : Resized) (old new : List Touched) (b : Block) → PutsWhole c per bitmap table mirror n z old new → has_mirror mirror n ≡ true → record_block per mirror n ≡ Some b
      → body_in (bodies_of new) b ≡ Some (resized_bytes z)
  pub taken : (c : Content) (per : ℕ) (bitmap table mirror : Extents) (n i : ℕ) (z : Resized) (old new : List Touched) (b : Block) → PutsWhole c per bitmap table mirror n z old new
      → i / 8 < bitmap.initialised → block_at per bitmap.runs Plain (i / 8 / 512) ≡ Some b → 0 < uses z.taken.items i → uses z.freed.items i ≡ 0 → stream_bit (drafted new c) per bitmap i ≡ true
  pub freed : (c : Content) (per : ℕ) (bitmap table mirror : Extents) (n i : ℕ) (z : Resized) (old new : List Touched) (b : Block) → PutsWhole c per bitmap table mirror n z old new
      → i / 8 < bitmap.initialised → block_at per bitmap.runs Plain (i / 8 / 512) ≡ Some b → 0 < uses z.freed.items i → stream_bit (drafted new c) per bitmap i ≡ false
  pub others : (c : Content) (per : ℕ) (bitmap table mirror : Extents) (n i : ℕ) (z : Resized) (old new : List Touched) → PutsWhole c per bitmap table mirror n z old new
      → i / 8 < bitmap.initialised → uses z.taken.items i ≡ 0 → uses z.freed.items i ≡ 0 → stream_bit (drafted new c) per bitmap i ≡ stream_bit (drafted old c) per bitmap i
  pub whole : (c : Content) (per : ℕ) (bitmap table mirror : Extents) (n : ℕ) (z : Resized) (old new : List Touched) → PutsWhole c per bitmap table mirror n z old new → IsKept new

-- a value is put into the clusters of its stream, whose sectors lie apart, behind its file
pub record MovesWhole (c : Content) (per : ℕ) (bitmap table mirror : Extents) (n : ℕ) (z : Resized) (value : List ℕ) (old new : List Touched) : Type 0 where
  pub mid : List Touched
  pub file : PutsWhole c per bitmap table mirror n z old mid
  pub own : HasOwnSectors per z.extents.runs
  pub put : new ≡ touch_bytes c per z.extents.runs 0 0 value mid

-- The stream has the value's bytes, where its sectors lie in runs and below its initialised size; outside of them all is as its file was put;
-- what is touched are whole bodies in order.
pub record MovedIsPut : Type 0 where
  pub bytes : (c : Content) (per : ℕ) (bitmap table mirror : Extents) (n i : ℕ) (z : Resized) (value : List ℕ) (old new : List Touched) (b : Block) → MovesWhole c per bitmap table mirror n z value old new
      → i < length value → i < z.extents.initialised → block_at per z.extents.runs Plain (i / 512) ≡ Some b → byte_at (drafted new c) per z.extents i ≡ slice_index value i
  pub rest : (c : Content) (per : ℕ) (bitmap table mirror : Extents) (n : ℕ) (z : Resized) (value : List ℕ) (old new : List Touched) (b : Block) (is : MovesWhole c per bitmap table mirror n z value old new)
      → IsNoSector per z.extents.runs b → body_in (bodies_of new) b ≡ body_in (bodies_of is.mid) b
  pub whole : (c : Content) (per : ℕ) (bitmap table mirror : Extents) (n : ℕ) (z : Resized) (value : List ℕ) (old new : List Touched) → MovesWhole c per bitmap table mirror n z value old new → IsKept new
