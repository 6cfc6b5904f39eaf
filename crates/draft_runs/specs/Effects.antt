-- What the bits of clusters make of their bitmap.
use Rattle.std.specs.Prelude.{◌≡◌, ℕ, ◌/◌, ◌<◌, Bool, List, Some}
use Rattle.draft_bits.specs.disk_model.declared.block.Block.{Block}
use Rattle.draft_bits.specs.disk_model.declared.block.BlockKind.TheVariants.{Plain}
use Rattle.draft_bits.specs.disk_model.Content.{Content, HasSizes}
use Rattle.draft_bits.specs.record_model.declared.runs.Run.{Run}
use Rattle.draft_bits.specs.state_model.declared.stream.Extents.{Extents}
use Rattle.draft_bits.specs.state_model.Streams.{block_at}
use Rattle.stream_runs.specs.volume_model.Owners.{uses}
use Rattle.draft_bits.specs.plan_bodies.Bodies.{body_in}
use Rattle.draft_bits.specs.plan_draft.declared.touched.Touched.{Touched}
use Rattle.draft_bits.specs.plan_draft.Touching.{bodies_of}
use Rattle.draft_bits.specs.plan_draft.Drafts.{drafted}
use Rattle.draft_bits.specs.draft_streams.Effects.{HasOwnSectors}
use Rattle.draft_bits.specs.Effects.{stream_bit, IsKept, IsNoSector}
use Rattle.draft_runs.specs.Clusters.{PutsRuns}

-- Where the sectors of the bitmap lie apart, each cluster of the runs has the value, if its sector lies in a run, and each other bit is
-- as before, as far as bytes lie below the initialised size. No block is touched but the bitmap's sectors, and what is touched are whole
-- bodies in order.
pub record RunsArePut : Type 0 where
  pub inside : (c : Content) (per : ℕ) (e : Extents) (i : ℕ) (value : Bool) (runs : List Run) (old new : List Touched) (b : Block) → HasSizes c → IsKept old → HasOwnSectors per e.runs → PutsRuns c per e value runs old new
      → i / 8 < e.initialised → block_at per e.runs Plain (i / 8 / 512) ≡ Some b → 0 < uses runs i → stream_bit (drafted new c) per e i ≡ value
  pub others : (c : Content) (per : ℕ) (e : Extents) (i : ℕ) (value : Bool) (runs : List Run) (old new : List Touched) → HasSizes c → IsKept old → HasOwnSectors per e.runs → PutsRuns c per e value runs old new
      → i / 8 < e.initialised → uses runs i ≡ 0 → stream_bit (drafted new c) per e i ≡ stream_bit (drafted old c) per e i
  pub elsewhere : (c : Content) (per : ℕ) (e : Extents) (value : Bool) (runs : List Run) (old new : List Touched) (b : Block) → PutsRuns c per e value runs old new → IsNoSector per e.runs b → body_in (bodies_of new) b ≡ body_in (bodies_of old) b
  pub kept : (c : Content) (per : ℕ) (e : Extents) (value : Bool) (runs : List Run) (old new : List Touched) → HasSizes c → IsKept old → PutsRuns c per e value runs old new → IsKept new
