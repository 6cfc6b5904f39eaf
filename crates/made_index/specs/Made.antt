-- A directory whose names all stand in the root of its index, and its record once the index has blocks and a bitmap.
use Rattle.std.specs.Prelude.{◌≡◌, ℕ, Bool, false}
use Rattle.std.specs.List.{list_any}
use Rattle.record_model.specs.declared.attribute.Attr.{Attr}
use Rattle.record_model.specs.Constants.{index_allocation, bitmap_type, names_index}
use Rattle.record_model.specs.Records.{Record}
use Rattle.state_model.specs.Streams.{is_attribute_of}
use Rattle.record_streams.specs.Placing.{placed_attr}
use Rattle.resized_streams.specs.Resizing.{unplaced}
use Rattle.draft_records.specs.Records.{written_record}
use Rattle.made_data.specs.step_model.Used.{new_attr}
use Rattle.made_data.specs.Ids.{with_attr}

-- some attribute is of this stream of its index
unfoldable pub has_stream : ℕ → Record → Bool
has_stream kind r = list_any (is_attribute_of kind names_index) r.attrs

-- its index has neither blocks nor a bitmap of these
pub record HasNoStreams (r : Record) : Type 0 where
  pub blocks : has_stream index_allocation r ≡ false
  pub bits : has_stream bitmap_type r ≡ false

-- blocks of no bytes, in no clusters
abbrev pub empty_blocks : Attr
empty_blocks = placed_attr 8 (unplaced 0) (new_attr index_allocation names_index)

-- a bitmap of no bytes
abbrev pub empty_bits : Attr
empty_bits = new_attr bitmap_type names_index

-- the record with both, of new ids
abbrev pub with_empty_index : Record → Record
with_empty_index r = with_attr empty_bits (with_attr empty_blocks r)

-- the same as it is written
abbrev pub indexed_record : Record → Record
indexed_record r = written_record (with_empty_index r)
