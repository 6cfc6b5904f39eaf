-- What is then read of a file table that grew.
use Rattle.std.specs.Prelude.{◌≡◌, ◌≢◌, ℕ, ◌+◌, ◌<◌, ◌≤◌, Bool, false, List, Some}
use Rattle.disk_model.specs.declared.block.Block.{Block}
use Rattle.disk_model.specs.Bytes.{zeros}
use Rattle.disk_model.specs.Content.{Content}
use Rattle.disk_model.specs.Sectors.{same_block}
use Rattle.draft_bitmaps.specs.state_model.declared.stream.Extents.{Extents}
use Rattle.plan_bodies.specs.Bodies.{body_in}
use Rattle.draft_bitmaps.specs.plan_draft.declared.touched.Touched.{Touched}
use Rattle.draft_bitmaps.specs.plan_draft.Touching.{bodies_of}
use Rattle.draft_numbers.specs.draft_records.Records.{record_block}
use Rattle.draft_bitmaps.specs.declared.bitmap.Bitmap.{Bitmap}
use Rattle.draft_growth.specs.declared.table.Table.{Table}
use Rattle.draft_growth.specs.Growing.{table_records, record_count, GrowsTable}

-- each record lies in a block of its own
abbrev pub HasOwnRecords : ℕ → Extents → Type 0
HasOwnRecords per e = (m n : ℕ) (a b : Block) → m ≢ n → record_block per e m ≡ Some a → record_block per e n ≡ Some b → same_block a b ≡ false

-- The table has 256 records more; where its records lie apart, each new one is zeros.
pub record GrownIsRead : Type 0 where
  pub count : (c : Content) (per : ℕ) (bits : List Bool) (mirror : Extents) (t after : Table) (b clusters : Bitmap) (old new : List Touched) → GrowsTable c per bits mirror t b old new after clusters → record_count after.extents ≡ record_count t.extents + table_records
  pub records : (c : Content) (per n : ℕ) (bits : List Bool) (mirror : Extents) (t after : Table) (b clusters : Bitmap) (old new : List Touched) (block : Block) → GrowsTable c per bits mirror t b old new after clusters
      → HasOwnRecords per after.extents → record_count t.extents ≤ n → n < record_count t.extents + table_records → record_block per after.extents n ≡ Some block → body_in (bodies_of new) block ≡ Some (zeros 1024)
