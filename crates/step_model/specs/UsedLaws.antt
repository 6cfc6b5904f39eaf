-- What the used bytes of a record that would be are, and which files are never too full.
use Rattle.std.specs.Prelude.{◌≡◌, ℕ, ◌+◌, ◌*◌, ◌≤◌, ◌^◌, Bool, true, List, [], ◌∷◌, length, if◌then◌else◌, IfSome}
use Rattle.std.specs.List.{AllByRecursion}
use Rattle.std.specs.List.Sorted.{IsPermutation}
use Rattle.plan_model.specs.record_model.declared.attribute.OwnForm.TheVariants.{Resident, Mapped}
use Rattle.plan_model.specs.record_model.declared.attribute.Attr.{Attr}
use Rattle.plan_model.specs.record_model.declared.attribute.Sizes.{Sizes}
use Rattle.plan_model.specs.record_model.declared.runs.Run.{Run}
use Rattle.plan_model.specs.record_model.Attributes.{is_compressed_or_sparse, spelling}
use Rattle.plan_model.specs.record_model.Constants.{standard_information, file_name, data_type}
use Rattle.plan_model.specs.record_model.Pairs.{pairs_of}
use Rattle.plan_model.specs.record_model.Records.{Record, used_of}
use Rattle.record_writer.specs.Edits.{whole_length}
use Rattle.plan_model.specs.file_tree.declared.node.Node.{Node}
use Rattle.plan_model.specs.volume_model.Volumes.{size_or}
use Rattle.run_model.specs.tree_model.declared.script.Op.{Op}
use Rattle.run_model.specs.tree_model.Needs.{shrinks}
use Rattle.step_model.specs.Placing.{runs_after}
use Rattle.step_model.specs.Used.{most_used, used_after, value_attr, placed_attr}
use Rattle.step_model.specs.Streams.{stream_in, data_of, data_comes}
use Rattle.step_model.specs.Plans.{new_file_attrs}

-- Used bytes are a sum, so that they don't hang on the order of attributes. Where none comes they are those that the record has. An
-- attribute that comes has its header, name and value, or mapping pairs, each up to a multiple of 8.
pub record UsedBytes : Type 0 where
  pub order : (attrs others : List Attr) → IsPermutation attrs others → used_of others ≡ used_of attrs
  pub none : (r : Record) → used_after [] r ≡ used_of r.attrs
  pub value : (size : ℕ) (a : Attr) → length (spelling (value_attr size a)) ≡ whole_length 0x18 (length a.name) size
  pub placed : (real initialised : ℕ) (runs : List Run) (a : Attr) → length (spelling (placed_attr real initialised runs a)) ≡ whole_length (if is_compressed_or_sparse a.head.flags then 0x48 else 0x40) (length a.name) (length (pairs_of runs))

-- ---- files that are never too full

-- an attribute without a name of its own, whose value stands in the record and has at most so many bytes
pub record HasShortValue (kind most : ℕ) (a : Attr) : Type 0 where
  pub is_kind : a.head.kind ≡ kind
  pub unnamed : a.name ≡ []
  pub value : List ℕ
  pub indexed : ℕ
  pub form : a.form ≡ Resident value indexed
  pub short : length value ≤ most

-- Standard information of at most 72 bytes, one name of at most 255 units, unnamed data, and nothing else.
pub record IsPlainFile (r : Record) (stream : Attr) : Type 0 where
  pub info : Attr
  pub name : Attr
  pub attrs : r.attrs ≡ info ∷ name ∷ stream ∷ []
  pub has_info : HasShortValue standard_information 72 info
  pub has_name : HasShortValue file_name (0x42 + 2 * 255) name
  pub is_data : stream.head.kind ≡ data_type
  pub unnamed : stream.name ≡ []

-- at most 20 runs, in a volume of at most 2^24 clusters
pub record AreFew (runs : List Run) : Type 0 where
  pub few : length runs ≤ 20
  pub inside : AllByRecursion (λ r. (r.len ≤ 2 ^ 24) × IfSome r.lcn (λ lcn. lcn ≤ 2 ^ 24)) runs

-- Such a file isn't too full with data of few runs whose mapping pairs have the fewest bytes, nor with data of no bytes, as a new file has. And
-- where it isn't, its record isn't after a change of its data that leaves few runs; a node that is cut shows the size of the data.
pub record NeverFull : Type 0 where
  pub placed : (r : Record) (stream : Attr) (sizes : Sizes) (runs : List Run) → IsPlainFile r stream → stream.form ≡ Mapped sizes (pairs_of runs) → AreFew runs → used_of r.attrs ≤ most_used
  pub empty : (r : Record) (stream : Attr) (indexed : ℕ) → IsPlainFile r stream → stream.form ≡ Resident [] indexed → used_of r.attrs ≤ most_used
  pub changed : (bits : List Bool) (r : Record) (stream : Attr) (op : Op) (node : Node) → IsPlainFile r stream → used_of r.attrs ≤ most_used → (shrinks op node ≡ true → node.size ≡ size_or (stream_in r (data_of node.number))) → AreFew (runs_after (data_comes bits r op node).growth) → used_after (data_comes bits r op node).attrs r ≤ most_used
  pub made : (name : List ℕ) → length name ≤ 255 → used_of (new_file_attrs name) ≤ most_used
