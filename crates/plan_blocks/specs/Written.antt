-- A record that is made with the blocks of its index, and how it is written.
use Rattle.std.specs.Prelude.{◌≡◌, ℕ, true, List, [], ◌∷◌, Some}
use Rattle.record_model.specs.declared.attribute.Attr.{Attr}
use Rattle.record_model.specs.declared.attribute.OwnForm.TheVariants.{Resident}
use Rattle.record_model.specs.Constants.{bitmap_type, index_allocation, names_index}
use Rattle.record_model.specs.Pairs.{HasSpelling}
use Rattle.record_model.specs.Records.{Record}
use Rattle.state_model.specs.declared.stream.Extents.{Extents}
use Rattle.state_model.specs.declared.stream.Stream.TheVariants.{Held, Placed}
use Rattle.state_model.specs.Loads.{has_all_pairs}
use Rattle.state_model.specs.Streams.{is_attribute_of, attributes_of, joined, first_vcn}
use Rattle.volume_model.specs.Indexes.{index_stream}
use Rattle.record_writer.specs.Edits.{with_attr_at}
use Rattle.record_values.specs.record_streams.Placing.{placed_record}
use Rattle.record_values.specs.Values.{valued_record}
use Rattle.plan_edits.specs.plan_growth.Streams.{IsWritten}
use Rattle.plan_blocks.specs.Blocks.{beside_blocks, used_stream, HasNoPlace, HasBlocks}

-- The record with the blocks of its index in these extents and their bitmap as a value, in one attribute each. All other attributes stay.
pub record MakesBlocks (r p : Record) (f : Extents) : Type 0 where
  pub seq : p.head.seq ≡ r.head.seq
  pub flags : p.head.flags ≡ r.head.flags
  pub base : p.head.base ≡ r.head.base
  pub others : beside_blocks p.attrs ≡ beside_blocks r.attrs
  pub blocks : Attr
  pub one : attributes_of index_allocation names_index p.attrs ≡ blocks ∷ []
  pub first : first_vcn blocks ≡ 0
  pub placed : index_stream p ≡ Some (Placed f)
  pub bits : Attr
  pub one_value : attributes_of bitmap_type names_index p.attrs ≡ bits ∷ []
  pub first_value : first_vcn bits ≡ 0
  pub value : List ℕ
  pub held : used_stream p ≡ Some (Held value)

-- A record that has both is made so where its blocks are placed and their bitmap gets another value; one that has neither, where an attribute
-- of each comes. Where it is written, and the bitmap had no clusters, it has the blocks in these extents.
pub record BlocksAreWritten : Type 0 where
  pub made : (per : ℕ) (r : Record) (f : Extents) (value : List ℕ) (a b : Attr) (others more : List Attr) → HasSpelling 0 f.runs → attributes_of index_allocation names_index r.attrs ≡ a ∷ others → attributes_of bitmap_type names_index r.attrs ≡ b ∷ more
      → MakesBlocks r (valued_record bitmap_type names_index value (placed_record per index_allocation names_index f r)) f
  pub come : (r : Record) (f : Extents) (i j : ℕ) (a b : Attr) (value : List ℕ) (indexed : ℕ) → attributes_of index_allocation names_index r.attrs ≡ [] → attributes_of bitmap_type names_index r.attrs ≡ [] → is_attribute_of index_allocation names_index a ≡ true
      → joined (a ∷ []) ≡ Some (Placed f) → first_vcn a ≡ 0 → is_attribute_of bitmap_type names_index b ≡ true → b.form ≡ Resident value indexed → MakesBlocks r (with_attr_at (with_attr_at r i a) j b) f
  pub written : (r p s : Record) (f : Extents) → MakesBlocks r p f → HasNoPlace (used_stream r) → has_all_pairs p ≡ true → IsWritten p s → HasBlocks r s f
