-- What a draft puts of a directory's index that gets blocks as a step counts them.
use Rattle.std.specs.Prelude.{◌≡◌, ℕ, ◌*◌, ◌/◌, ◌<◌, ◌≤◌, Bool, not, List, Ok, length, count_by}
use Rattle.disk_model.specs.Content.{Content}
use Rattle.record_model.specs.Records.{Record}
use Rattle.plan_draft.specs.declared.touched.Touched.{Touched}
use Rattle.draft_indexes.specs.declared.blocks.IndexBlocks.{IndexBlocks}
use Rattle.draft_indexes.specs.Growing.{wanted_clusters, taken_for, grown_file, MayGrowBlocks, GrowsBlocks}
use Rattle.record_streams.specs.Fitting.{FitsButRoom}
use Rattle.draft_records.specs.Records.{fits_room, written_record}
use Rattle.resized_streams.specs.declared.resized.Resized.{Resized}
use Rattle.file_puts.specs.declared.streams.VolumeStreams.{VolumeStreams}
use Rattle.index_edits.specs.Grown.{HasStreams}
use Rattle.index_grows.specs.Counted.{file_with_streams, CountsOf}

-- These blocks are put so into a draft; the record is then this one, and has room with the root from before.
pub record GrowsInto (c : Content) (bits : List Bool) (s : VolumeStreams) (index : IndexBlocks) (more : ℕ) (old new : List Touched) (q : Record) : Type 0 where
  pub z : Resized
  pub grows : GrowsBlocks c 8 bits s.bitmap s.table s.mirror index more old new z
  pub space : wanted_clusters 8 more index.extents ≤ count_by not bits
  pub room : fits_room (grown_file 8 (taken_for 8 bits more index.extents) more index) ≡ Ok tt
  pub is : q ≡ written_record z.file
  pub fits : FitsButRoom q

-- The index, whose bitmap stands in the record, gets so many whole blocks, which take some clusters of these bits. With a root of so many bytes a
-- step counts the same.
pub record GrowsCounted (c : Content) (bits : List Bool) (s : VolumeStreams) (n : ℕ) (r : Record) (root more : ℕ) (old new : List Touched) (q : Record) : Type 0 where
  pub index : IndexBlocks
  pub number : index.number ≡ n
  pub streams : HasStreams r index
  pub file : index.file ≡ file_with_streams r
  pub whole : index.extents.real ≡ 4096 * (index.extents.real / 4096)
  pub some : 0 < wanted_clusters 8 more index.extents
  pub stands : MayGrowBlocks 8 (length bits) more index
  pub into : GrowsInto c bits s index more old new q
  pub counts : CountsOf bits r root more
