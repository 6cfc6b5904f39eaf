-- The streams of a directory's index, which stand in its record or come empty.
use Rattle.std.proofs.Common.{◌≡◌, ℕ, ◌+◌, ◌<◌, Bool, true, false, cond, List, [], ◌∷◌, Option, Some, None, refl, sym, ap, subst, ◌∙◌, ◌⊎◌, inl, inr}
use Rattle.std.specs.Prelude.{insert}
use Rattle.std.proofs.lemmas.Bool.{cases_Bool, both_ways}
use Rattle.record_model.specs.Constants.{bitmap_type, index_allocation, names_index}
use Rattle.record_model.specs.Records.{Record}
use Rattle.state_model.specs.declared.stream.Stream.{Stream}
use Rattle.state_model.specs.declared.stream.Stream.TheVariants.{Held, Placed}
use Rattle.state_model.specs.Streams.{is_attribute_of, stream_of}
use Rattle.volume_model.specs.Indexes.{index_stream}
use Rattle.draft_indexes.specs.declared.blocks.IndexBlocks.{IndexBlocks}
use Rattle.directory_growth.specs.Growing.{LieBelow, blocks_in}
use Rattle.made_data.specs.Ids.{with_id, place_of, new_id}
use Rattle.made_index.specs.Made.{has_stream, HasNoStreams, empty_blocks, empty_bits, with_empty_index}
use Rattle.made_index.specs.Growing.{MayGrow}
use Rattle.made_index.specs.Laws.{IndexIsCounted}
use Rattle.made_index.proofs.Having.{with_blocks, own_blocks, own_bits, no_stream, empty_placed, blocks_pairs}
use Rattle.index_edits.specs.Grown.{HasStreams}
use Rattle.index_edits.specs.Streams.{StreamsOfIndexes}
use Rattle.plan_blocks.specs.Blocks.{used_stream}
use Rattle.index_grows.specs.Counted.{file_with_streams}

lies_not : (clusters : ℕ) (o : Option Stream) → o ≡ None → LieBelow clusters o → ⊥
lies_not clusters o is lies = subst (LieBelow clusters) is lies

none_of : (clusters : ℕ) (r : Record) → MayGrow clusters r → has_stream index_allocation r ≡ false → HasNoStreams r
none_of clusters r (inl has) none = absurd (lies_not clusters (blocks_in r) (no_stream index_allocation r none) has.placed)
none_of clusters r (inr root) none = root.none

own_file : (r : Record) → has_stream index_allocation r ≡ true → file_with_streams r ≡ r
own_file r is = ap (λ (b : Bool). cond b r (with_empty_index r)) is

new_file : (r : Record) → has_stream index_allocation r ≡ false → file_with_streams r ≡ with_empty_index r
new_file r is = ap (λ (b : Bool). cond b r (with_empty_index r)) is

is_blocks : (id : ℕ) → is_attribute_of index_allocation names_index (with_id id empty_blocks) ≡ true
unfolding is_attribute_of
is_blocks id = refl

is_bits : (id : ℕ) → is_attribute_of bitmap_type names_index (with_id id empty_bits) ≡ true
unfolding is_attribute_of
is_bits id = refl

pub streams_there : StreamsOfIndexes → IndexIsCounted → (clusters : ℕ) (r : Record) (i : IndexBlocks) → MayGrow clusters r → i.file ≡ file_with_streams r → stream_of index_allocation names_index i.file.attrs ≡ Some (Placed i.extents)
    → stream_of bitmap_type names_index i.file.attrs ≡ Some (Held i.bits) → HasStreams r i
unfolding index_stream
streams_there streams counted clusters r i may file blocks bits = elim (cases_Bool (has_stream index_allocation r)) [
  | inl some ↦ subst (λ (x : Record). HasStreams x i) (file ∙ own_file r some) (streams.own i blocks bits)
  | inr none ↦
      (let no : HasNoStreams r = none_of clusters r may none in
      let is : i.file ≡ with_empty_index r = file ∙ new_file r none in
      streams.come r i (place_of index_allocation names_index r.attrs) (place_of bitmap_type names_index (with_blocks r).attrs) (own_blocks r) (own_bits r) [] 0 (counted.no_blocks r no) (counted.no_bits r no) (is_blocks (new_id r)) (empty_placed (new_id r)) refl
      blocks_pairs (is_bits (new_id (with_blocks r))) refl (ap (λ (x : Record). x.attrs) is) (ap (λ (x : Record). x.head.seq) is) (ap (λ (x : Record). x.head.flags) is) (ap (λ (x : Record). x.head.base) is) blocks bits)
]
