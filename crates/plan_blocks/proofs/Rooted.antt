-- What a record shows beside the blocks of its index and their bitmap, where the root of its index is written anew.
use Rattle.std.proofs.Common.{◌≡◌, ◌≢◌, ℕ, ◌+◌, true, eqb, List, Option, Some, sym, ap, ◌∙◌, arith}
use Rattle.std.specs.Prelude.{All}
use Rattle.std.specs.List.{list_all}
use Rattle.std.proofs.lemmas.Bool.{ne_eqb, eqb-true}
use Rattle.record_model.specs.Records.{Record}
use Rattle.record_model.specs.Constants.{standard_information, file_name, index_root, index_allocation, bitmap_type, names_index}
use Rattle.file_tree.specs.declared.link.Link.{Link}
use Rattle.state_model.specs.declared.stream.Extents.{Extents}
use Rattle.state_model.specs.declared.stream.Stream.{Stream}
use Rattle.state_model.specs.declared.stream.Stream.TheVariants.{Placed}
use Rattle.state_model.specs.Files.{record_links, is_directory_record, has_type, info_of}
use Rattle.state_model.specs.Rules.{keeps_names}
use Rattle.state_model.specs.Loads.{extents_or}
use Rattle.state_model.specs.Streams.{is_attribute_of, attributes_of, stream_of}
use Rattle.volume_model.specs.Indexes.{index_stream}
use Rattle.volume_model.specs.Nodes.{first_flags}
use Rattle.volume_model.specs.Owners.{file_runs, uses}
use Rattle.volume_model.specs.Sizes.{are_joined, fits_volume, keeps_stream}
use Rattle.stream_laws.specs.Owners.{initialised_in}
use Rattle.stream_laws.specs.Sharing.{runs_in}
use Rattle.stream_laws.proofs.Sharing.{attribute_kind}
use Rattle.plan_edits.specs.plan_model.Attributes.{RewritesValues, SparesAll}
use Rattle.plan_edits.proofs.plan_model.Rewriting as again
use Rattle.plan_edits.proofs.plan_growth.Written.{Reads}
use Rattle.plan_blocks.specs.Blocks.{used_stream, HasBlocks}
use Rattle.plan_blocks.specs.Levels.{is_index_root}
use Rattle.plan_blocks.proofs.Beside as beside
use Rattle.plan_blocks.proofs.Beside.{IsBeside}

-- ---- what no root is

spares_stream : (kind : ℕ) (name : List ℕ) → kind ≢ index_root → SparesAll is_index_root (is_attribute_of kind name)
spares_stream kind name other a is = ne_eqb a.head.kind index_root (λ same. other (sym (attribute_kind kind name a is).0 ∙ same))

spares_type : (kind : ℕ) → kind ≢ index_root → SparesAll is_index_root (λ a. eqb a.head.kind kind)
spares_type kind other a is = ne_eqb a.head.kind index_root (λ same. other (sym (eqb-true a.head.kind kind is) ∙ same))

-- the stream lies where it lay, and as much of it is initialised
pub record StaysLaid (a b : Option Stream) : Type 0 where
  pub runs : runs_in b ≡ runs_in a
  pub size : initialised_in b ≡ initialised_in a

pub stays_laid : (a b : Option Stream) → b ≡ a → StaysLaid a b
stays_laid a b is = record { runs = ap runs_in is; size = ap initialised_in is }

-- ---- the record

module _ (r p s : Record) (f : Extents) (k : HasBlocks r p f) (reads : All Reads r.attrs) (values : RewritesValues is_index_root p s) where
  pub same_types : (t : ℕ) → t ≢ index_allocation → t ≢ bitmap_type → has_type t s ≡ has_type t r
  same_types t one two = again.same_types is_index_root p s t values ∙ beside.same_types r p f k reads t one two

  pub same_directory : is_directory_record s ≡ is_directory_record r
  same_directory = again.same_directory is_index_root p s values ∙ beside.same_directory r p f k reads

  pub same_links : (n : ℕ) → record_links n s ≡ record_links n r
  same_links n = again.same_links is_index_root n p s values (spares_type file_name (λ e. omega (arith, e))) ∙ beside.same_links r p f k reads n

  pub same_names : (n : ℕ) (links : List Link) → keeps_names n s links ≡ keeps_names n r links
  same_names n links = again.same_names is_index_root n p s links values ∙ beside.same_names r p f k reads n links

  pub same_info : info_of s ≡ info_of r
  same_info = again.same_info is_index_root p s values (spares_type standard_information (λ e. omega (arith, e))) ∙ beside.same_info r p f k reads

  pub same_stream : (kind : ℕ) (name : List ℕ) → IsBeside kind name → kind ≢ index_root → stream_of kind name s.attrs ≡ stream_of kind name r.attrs
  same_stream kind name apart other = again.same_stream is_index_root p s kind name values (spares_stream kind name other) ∙ beside.same_stream r p f k reads kind name apart

  pub same_flags : (kind : ℕ) (name : List ℕ) → IsBeside kind name → kind ≢ index_root → first_flags (attributes_of kind name s.attrs) ≡ first_flags (attributes_of kind name r.attrs)
  same_flags kind name apart other = ap first_flags (again.same_attributes is_index_root p s kind name values (spares_stream kind name other)) ∙ beside.same_flags r p f k reads kind name apart

  pub same_laid : (kind : ℕ) (name : List ℕ) → IsBeside kind name → StaysLaid (stream_of kind name r.attrs) (stream_of kind name s.attrs)
  same_laid kind name apart =
      let there = beside.same_stream r p f k reads kind name apart in
      record { runs = again.same_runs is_index_root p s kind name values ∙ ap runs_in there; size = again.same_initialised is_index_root p s kind name values ∙ ap initialised_in there }

  pub blocks_now : index_stream s ≡ Some (Placed f)
  unfolding index_stream
  blocks_now = again.same_stream is_index_root p s index_allocation names_index values (spares_stream index_allocation names_index (λ e. omega (arith, e))) ∙ k.blocks

  pub used_now : used_stream s ≡ used_stream p
  used_now = again.same_stream is_index_root p s bitmap_type names_index values (spares_stream bitmap_type names_index (λ e. omega (arith, e)))

  pub blocks_uses : (x : ℕ) → are_joined (attributes_of index_allocation names_index r.attrs) ≡ true → are_joined (attributes_of bitmap_type names_index r.attrs) ≡ true
      → uses (file_runs (Some s)) x + uses (extents_or (index_stream r)).runs x ≡ uses (file_runs (Some r)) x + uses f.runs x
  blocks_uses x one two =
      let same = ap (λ l. uses l x) (again.same_uses is_index_root p s values) in
      let sum = beside.blocks_uses r p f k reads x one two in
      omega (arith, same, sum)

  pub blocks_kept : (size clusters : ℕ) → fits_volume size clusters (Some (Placed f)) ≡ true → fits_volume size clusters (used_stream p) ≡ true → list_all (keeps_stream size clusters r.attrs) r.attrs ≡ true → list_all (keeps_stream size clusters s.attrs) s.attrs ≡ true
  blocks_kept size clusters fits bits_fit old = again.same_sizes is_index_root p s size clusters values ∙ beside.blocks_kept r p f k reads size clusters fits bits_fit old
