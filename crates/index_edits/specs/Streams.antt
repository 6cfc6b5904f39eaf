-- Where the blocks of a directory's index and their bitmap stand as a plan has them.
use Rattle.std.specs.Prelude.{◌≡◌, ℕ, true, List, [], ◌∷◌, Some, insert}
use Rattle.record_model.specs.declared.attribute.Attr.{Attr}
use Rattle.record_model.specs.declared.attribute.OwnForm.TheVariants.{Resident}
use Rattle.record_model.specs.Constants.{bitmap_type, index_allocation, names_index}
use Rattle.record_model.specs.Records.{Record}
use Rattle.state_model.specs.declared.stream.Stream.TheVariants.{Held, Placed}
use Rattle.state_model.specs.Loads.{has_fitting_pairs, no_extents}
use Rattle.state_model.specs.Streams.{is_attribute_of, attributes_of, joined, first_vcn}
use Rattle.volume_model.specs.Indexes.{index_stream}
use Rattle.draft_indexes.specs.declared.blocks.IndexBlocks.{IndexBlocks}
use Rattle.plan_blocks.specs.Blocks.{used_stream}
use Rattle.index_edits.specs.Grown.{HasStreams}

-- They stand so in the directory's own record, where it has both, the bitmap as a value; and in the record with one attribute more of each,
-- where it has neither, if that of the blocks has no clusters.
pub record StreamsOfIndexes : Type 0 where
  pub own : (i : IndexBlocks) → index_stream i.file ≡ Some (Placed i.extents) → used_stream i.file ≡ Some (Held i.bits) → HasStreams i.file i
  pub come : (r : Record) (i : IndexBlocks) (at behind : ℕ) (a b : Attr) (value : List ℕ) (indexed : ℕ) → attributes_of index_allocation names_index r.attrs ≡ [] → attributes_of bitmap_type names_index r.attrs ≡ [] → is_attribute_of index_allocation names_index a ≡ true
      → joined (a ∷ []) ≡ Some (Placed no_extents) → first_vcn a ≡ 0 → has_fitting_pairs a ≡ true → is_attribute_of bitmap_type names_index b ≡ true → b.form ≡ Resident value indexed → i.file.attrs ≡ insert (insert r.attrs at a) behind b
      → i.file.head.seq ≡ r.head.seq → i.file.head.flags ≡ r.head.flags → i.file.head.base ≡ r.head.base
      → index_stream i.file ≡ Some (Placed i.extents) → used_stream i.file ≡ Some (Held i.bits) → HasStreams r i
