-- Records in which attributes are put in, taken out or replaced.
use Rattle.std.specs.Prelude.{◌≡◌, ◌+◌, ◌==◌, ℕ, Bool, true, false, List, [], ◌∷◌, ◌++◌, Some, ◌⊎◌}
use Rattle.std.specs.List.{filter_map, flat_map, list_all, AllByRecursion}
use Rattle.index_change.specs.record_model.declared.attribute.OwnForm.TheVariants.{Mapped}
use Rattle.index_change.specs.record_model.declared.attribute.Attr.{Attr}
use Rattle.index_change.specs.record_model.declared.attribute.Sizes.{Sizes}
use Rattle.index_change.specs.record_model.Records.{Record}
use Rattle.index_change.specs.record_model.Constants.{file_name, standard_information, data_type, bitmap_type, index_allocation, names_index}
use Rattle.plan_bodies.specs.disk_model.Content.{Content}
use Rattle.index_change.specs.volume_model.Volumes.{Volume}
use Rattle.index_change.specs.file_tree.declared.link.Link.{Link}
use Rattle.index_change.specs.state_model.Files.{attr_link, reference, record_links, has_type, info_of}
use Rattle.index_change.specs.state_model.Rules.{keeps_names}
use Rattle.index_change.specs.state_model.Streams.{is_attribute_of, attributes_of, attribute_runs, stream_of}
use Rattle.index_change.specs.volume_model.Owners.{file_runs, uses}
use Rattle.index_change.specs.volume_model.Sizes.{are_joined, keeps_stream, keeps_streams}
use Rattle.plan_owners.specs.tree_laws.Keeping.{PartReplaced}

-- The record keeps its sequence and flags, and one part of its attributes is replaced: put in, where none was there, or taken out,
-- where none comes.
pub record ReplacesAttrs (part new_part : List Attr) (r s : Record) : Type 0 where
  pub seq : s.head.seq ≡ r.head.seq
  pub flags : s.head.flags ≡ r.head.flags
  pub attrs : PartReplaced part new_part r.attrs s.attrs

-- none of these attributes passes the test, neither of those that go nor of those that come
pub record NonePass (test : Attr → Bool) (part new_part : List Attr) : Type 0 where
  pub gone : AllByRecursion (λ a. test a ≡ false) part
  pub come : AllByRecursion (λ a. test a ≡ false) new_part

-- a name, or an attribute of a stream that none of these is of
abbrev pub IsOfAnother : List Attr → List Attr → Attr → Type 0
IsOfAnother part new_part a = ((a.head.kind == file_name) ≡ true) ⊎ NonePass (is_attribute_of a.head.kind a.name) part new_part

-- no attribute that goes or comes is data, a bitmap, or the blocks of an index
pub record SparesBlocks (part new_part : List Attr) : Type 0 where
  pub records : NonePass (is_attribute_of data_type []) part new_part
  pub bits : NonePass (is_attribute_of bitmap_type []) part new_part
  pub blocks : NonePass (is_attribute_of index_allocation names_index) part new_part
  pub used : NonePass (is_attribute_of bitmap_type names_index) part new_part

-- Then the names that stand in these attributes go and come, and so do the clusters. What reads attributes of other types, or of
-- another stream, stays. Streams keep their rule where those that come do and each of the others is a name or of another stream; so does
-- the file, where none is data, a bitmap or the blocks of an index.
pub record AttrsReplaced : Type 0 where
  pub links : (part new_part : List Attr) (n : ℕ) (r s : Record) → ReplacesAttrs part new_part r s → PartReplaced (filter_map (attr_link (reference n r)) part) (filter_map (attr_link (reference n r)) new_part) (record_links n r) (record_links n s)
  pub uses_sum : (part new_part : List Attr) (r s : Record) (x : ℕ) → ReplacesAttrs part new_part r s
      → uses (file_runs (Some s)) x + uses (flat_map attribute_runs part) x ≡ uses (file_runs (Some r)) x + uses (flat_map attribute_runs new_part) x
  pub types : (part new_part : List Attr) (r s : Record) (kind : ℕ) → ReplacesAttrs part new_part r s → NonePass (λ a. a.head.kind == kind) part new_part → has_type kind s ≡ has_type kind r
  pub info : (part new_part : List Attr) (r s : Record) → ReplacesAttrs part new_part r s → NonePass (λ a. a.head.kind == standard_information) part new_part → info_of s ≡ info_of r
  pub attributes : (part new_part : List Attr) (r s : Record) (kind : ℕ) (name : List ℕ) → ReplacesAttrs part new_part r s → NonePass (is_attribute_of kind name) part new_part → attributes_of kind name s.attrs ≡ attributes_of kind name r.attrs
  pub stream : (part new_part : List Attr) (r s : Record) (kind : ℕ) (name : List ℕ) → ReplacesAttrs part new_part r s → NonePass (is_attribute_of kind name) part new_part → stream_of kind name s.attrs ≡ stream_of kind name r.attrs
  pub names : (part new_part : List Attr) (n : ℕ) (r s : Record) (links : List Link) → ReplacesAttrs part new_part r s → NonePass (λ a. a.head.kind == standard_information) part new_part → keeps_names n s links ≡ keeps_names n r links
  pub sizes : (part new_part : List Attr) (r s : Record) (per clusters : ℕ) (k : ReplacesAttrs part new_part r s) → list_all (keeps_stream per clusters r.attrs) r.attrs ≡ true → list_all (keeps_stream per clusters s.attrs) new_part ≡ true
      → AllByRecursion (λ a. IsOfAnother part new_part a) (k.attrs.front ++ k.attrs.behind) → list_all (keeps_stream per clusters s.attrs) s.attrs ≡ true
  pub streams : (part new_part : List Attr) (c : Content) (v : Volume) (n : ℕ) (r s : Record) (k : ReplacesAttrs part new_part r s) → SparesBlocks part new_part → keeps_streams c v n r ≡ true → list_all (keeps_stream v.per v.clusters s.attrs) new_part ≡ true
      → AllByRecursion (λ a. IsOfAnother part new_part a) (k.attrs.front ++ k.attrs.behind) → keeps_streams c v n s ≡ true

-- The attributes of a stream are joined into one: it begins at VCN 0 and has the runs of all, with the sizes of the first.
pub record JoinsPieces (kind : ℕ) (name : List ℕ) (r s : Record) : Type 0 where
  pub first : Attr
  pub others : List Attr
  pub pieces : attributes_of kind name r.attrs ≡ first ∷ others
  pub sizes : Sizes
  pub pairs : List ℕ
  pub is_mapped : first.form ≡ Mapped sizes pairs
  pub one : Attr
  pub joined : attributes_of kind name s.attrs ≡ one ∷ []
  pub new_sizes : Sizes
  pub new_pairs : List ℕ
  pub form : one.form ≡ Mapped new_sizes new_pairs
  pub begins : new_sizes.first ≡ 0
  pub runs : attribute_runs one ≡ flat_map attribute_runs (first ∷ others)
  pub allocated : new_sizes.allocated ≡ sizes.allocated
  pub real : new_sizes.real ≡ sizes.real
  pub initialised : new_sizes.initialised ≡ sizes.initialised

-- Then the stream is the same, with its clusters and blocks, and its attribute is joined.
pub record PiecesJoined : Type 0 where
  pub stream : (kind : ℕ) (name : List ℕ) (r s : Record) → JoinsPieces kind name r s → stream_of kind name s.attrs ≡ stream_of kind name r.attrs
  pub are : (kind : ℕ) (name : List ℕ) (r s : Record) → JoinsPieces kind name r s → are_joined (attributes_of kind name s.attrs) ≡ true
