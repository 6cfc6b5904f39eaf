-- A directory's record has the streams of its index, or gets them empty.
use Rattle.std.proofs.Common.{◌≡◌, ℕ, zero, suc, true, List, [], ◌∷◌, Option, Some, None, refl, sym, ap, subst, ◌∙◌}
use Rattle.std.specs.Prelude.{insert}
use Rattle.std.specs.List.{list_all}
use Rattle.std.proofs.lemmas.Bool.{and_parts, and_from}
use Rattle.record_model.specs.declared.attribute.Attr.{Attr}
use Rattle.record_model.specs.declared.attribute.OwnForm.TheVariants.{Resident}
use Rattle.record_model.specs.Constants.{bitmap_type, index_allocation, names_index}
use Rattle.record_model.specs.Records.{Record}
use Rattle.record_writer.specs.Edits.{with_attr_at}
use Rattle.state_model.specs.declared.stream.Extents.{Extents}
use Rattle.state_model.specs.declared.stream.Stream.{Stream}
use Rattle.state_model.specs.declared.stream.Stream.TheVariants.{Held, Placed}
use Rattle.state_model.specs.Loads.{extents_or, has_all_pairs, has_fitting_pairs, no_extents}
use Rattle.state_model.specs.Streams.{is_attribute_of, attributes_of, stream_of, joined, first_vcn}
use Rattle.volume_model.specs.Indexes.{index_stream}
use Rattle.draft_indexes.specs.declared.blocks.IndexBlocks.{IndexBlocks}
use Rattle.plan_blocks.specs.Blocks.{used_stream, HasNoPlace, blocks_before}
use Rattle.plan_blocks.specs.Written.{MakesBlocks}
use Rattle.plan_blocks.proofs.Making.{blocks_written}
use Rattle.index_edits.specs.Grown.{HasStreams}
use Rattle.index_edits.specs.Streams.{StreamsOfIndexes}

own_streams : (i : IndexBlocks) → index_stream i.file ≡ Some (Placed i.extents) → used_stream i.file ≡ Some (Held i.bits) → HasStreams i.file i
own_streams i blocks used = record {
  seq = refl;
  flags = refl;
  base = refl;
  others = refl;
  pairs = λ fit. fit;
  before = ap extents_or blocks;
  no_place = subst HasNoPlace (sym used) tt;
  blocks = blocks;
  used = used;
}

-- an attribute of which the pairs fit may come anywhere
fit_put : (attrs : List Attr) (at : ℕ) (a : Attr) → has_fitting_pairs a ≡ true → list_all has_fitting_pairs attrs ≡ true → list_all has_fitting_pairs (insert attrs at a) ≡ true
fit_put [] zero a fits all = and_from (has_fitting_pairs a) true fits refl
fit_put [] (suc at) a fits all = and_from (has_fitting_pairs a) true fits refl
fit_put (x ∷ attrs) zero a fits all = and_from (has_fitting_pairs a) (list_all has_fitting_pairs (x ∷ attrs)) fits all
fit_put (x ∷ attrs) (suc at) a fits all =
    let parts = and_parts (has_fitting_pairs x) (list_all has_fitting_pairs attrs) all in
    and_from (has_fitting_pairs x) (list_all has_fitting_pairs (insert attrs at a)) parts.0 (fit_put attrs at a fits parts.1)

value_fits : (b : Attr) (value : List ℕ) (indexed : ℕ) → b.form ≡ Resident value indexed → has_fitting_pairs b ≡ true
value_fits b value indexed is = rw is refl

pairs_put : (r : Record) (at behind : ℕ) (a b : Attr) → has_fitting_pairs a ≡ true → has_fitting_pairs b ≡ true → has_all_pairs r ≡ true → has_all_pairs (with_attr_at (with_attr_at r at a) behind b) ≡ true
unfolding has_all_pairs
pairs_put r at behind a b one two all = fit_put (insert r.attrs at a) behind b two (fit_put r.attrs at a one all)

same_extents : (o : Option Stream) (e f : Extents) → o ≡ Some (Placed e) → o ≡ Some (Placed f) → e ≡ f
same_extents o e f one two = cc

no_stream : (kind : ℕ) (r : Record) → attributes_of kind names_index r.attrs ≡ [] → stream_of kind names_index r.attrs ≡ None
unfolding stream_of
no_stream kind r none = ap joined none

module _ (r : Record) (i : IndexBlocks) (at behind : ℕ) (a b : Attr) (value : List ℕ) (indexed : ℕ) (no_blocks : attributes_of index_allocation names_index r.attrs ≡ []) (no_bits : attributes_of bitmap_type names_index r.attrs ≡ []) (is_a : is_attribute_of index_allocation names_index a ≡ true)
    (placed : joined (a ∷ []) ≡ Some (Placed no_extents)) (first : first_vcn a ≡ 0) (fits : has_fitting_pairs a ≡ true) (is_b : is_attribute_of bitmap_type names_index b ≡ true) (form : b.form ≡ Resident value indexed) (attrs : i.file.attrs ≡ insert (insert r.attrs at a) behind b)
    (seq : i.file.head.seq ≡ r.head.seq) (flags : i.file.head.flags ≡ r.head.flags) (base : i.file.head.base ≡ r.head.base)
    (blocks : index_stream i.file ≡ Some (Placed i.extents)) (used : used_stream i.file ≡ Some (Held i.bits)) where
  -- the record with the new header and the old attributes
  abbrev own : Record
  own = record { head = i.file.head; attrs = r.attrs }

  file : i.file ≡ with_attr_at (with_attr_at own at a) behind b
  file = ap (λ (l : List Attr). record { head = i.file.head; attrs = l }) attrs

  made : MakesBlocks own i.file no_extents
  made = subst (λ (x : Record). MakesBlocks own x no_extents) (sym file) (blocks_written.come own no_extents at behind a b value indexed no_blocks no_bits is_a placed first is_b form)

  same_pairs : has_all_pairs r ≡ true → has_all_pairs own ≡ true
  unfolding has_all_pairs
  same_pairs all = all

  before_is : blocks_before r ≡ no_extents
  unfolding index_stream
  before_is = ap extents_or (no_stream index_allocation r no_blocks)

  pub streams_come : HasStreams r i
  streams_come = record {
    seq = seq;
    flags = flags;
    base = base;
    others = made.others;
    pairs = λ all. subst (λ (x : Record). has_all_pairs x ≡ true) (sym file) (pairs_put own at behind a b fits (value_fits b value indexed form) (same_pairs all));
    before = before_is ∙ same_extents (index_stream i.file) no_extents i.extents made.placed blocks;
    no_place = subst HasNoPlace (sym (no_stream bitmap_type r no_bits)) tt;
    blocks = blocks;
    used = used;
  }

pub streams_stand : StreamsOfIndexes
streams_stand = record {
  own = own_streams;
  come = λ r i at behind a b value indexed no_blocks no_bits is_a placed first fits is_b form attrs seq flags base blocks used. streams_come r i at behind a b value indexed no_blocks no_bits is_a placed first fits is_b form attrs seq flags base blocks used;
}
