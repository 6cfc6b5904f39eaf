-- A file is made in a directory whose index has room; its number is spare, and no cluster changes hands.
use Rattle.std.specs.Prelude.{◌≡◌, ◌≢◌, ◌⊎◌, ℕ, ◌<◌, ◌≤◌, ◌==◌, ◌&&◌, ◌||◌, Bool, true, false, List, [], ◌∷◌, Some, None, Option}
use Rattle.std.specs.List.{list_all, AllByRecursion}
use Rattle.std.specs.Option.{option_map}
use Rattle.plan_bodies.specs.disk_model.declared.block.Block.{Block}
use Rattle.plan_bodies.specs.disk_model.declared.block.BlockKind.{BlockKind}
use Rattle.plan_bodies.specs.disk_model.declared.block.BlockKind.TheVariants.{FileRec}
use Rattle.plan_bodies.specs.disk_model.Content.{Content, HasSizes}
use Rattle.index_change.specs.record_model.declared.attribute.Attr.{Attr}
use Rattle.index_change.specs.record_model.Records.{Record}
use Rattle.index_change.specs.record_model.Constants.{standard_information, attribute_list, index_root, index_allocation, bitmap_type}
use Rattle.index_change.specs.file_tree.declared.link.Link.{Link}
use Rattle.index_change.specs.file_tree.Trees.{node_at as node_by_number}
use Rattle.index_change.specs.bit_set.Bits.{bit}
use Rattle.index_change.specs.state_model.declared.geometry.Geometry.{Geometry}
use Rattle.index_change.specs.state_model.Files.{reference, record_links, is_directory_record, has_type, is_base_record, info_of}
use Rattle.index_change.specs.state_model.Loads.{Used, slot_of}
use Rattle.index_change.specs.state_model.Rules.{keeps_names, is_rising}
use Rattle.index_change.specs.state_model.Streams.{block_at}
use Rattle.index_change.specs.file_tree.Walks.{first_user_record}
use Rattle.index_change.specs.state_model.Trees.{is_in_system, is_system}
use Rattle.index_change.specs.volume_model.Volumes.{Volume, count_of, file_in, bytes_or, table_file, cluster_bits, record_bits, upper_of, files_by_number}
use Rattle.index_change.specs.volume_model.Indexes.{void_block, index_links}
use Rattle.index_change.specs.volume_model.Nodes.{node_by, spare_at}
use Rattle.index_change.specs.volume_model.Owners.{file_runs}
use Rattle.index_change.specs.volume_model.Sizes.{keeps_stream}
use Rattle.plan_owners.specs.volume_state.Journals.{extend_file}
use Rattle.plan_owners.specs.volume_state.Trees.{tree_of}
use Rattle.plan_owners.specs.stream_laws.Replacing.{FileEdit}
use Rattle.plan_owners.specs.stream_laws.Rewrites.{is_edited}
use Rattle.plan_owners.specs.stream_laws.Sharing.{StreamKey}
use Rattle.plan_owners.specs.tree_laws.Keeping.{PartReplaced}
use Rattle.plan_owners.specs.tree_laws.Planned.{IsInRecord}
use Rattle.plan_owners.specs.States.{Stands}
use Rattle.plan_model.specs.Attributes.{RewritesValues}
use Rattle.plan_bodies.specs.Bodies.{NewBody, whole_write, content_with, AreBodies, body_in}
use Rattle.plan_model.specs.Drafts.{GoesOn}
use Rattle.plan_model.specs.Edits.{IsOwnedIn, edited}
use Rattle.plan_model.specs.Informed.{IsApart, with_info}

-- standard information, or the root of an index
abbrev pub is_info_or_root : Attr → Bool
is_info_or_root a = a.head.kind == standard_information || a.head.kind == index_root

-- a record's block gets a whole body that is read as this record
pub record ReadsAs (v : Volume) (bodies : List NewBody) (n : ℕ) (f : Record) : Type 0 where
  pub block : Block
  pub place : block_at v.per v.table.runs FileRec n ≡ Some block
  pub bytes : List ℕ
  pub put : body_in bodies block ≡ Some bytes
  pub reads : slot_of (record { bytes = bytes; torn = false }) ≡ Used f

-- the bitmap of the file table, and the index blocks of the directory
abbrev pub made_streams : ℕ → StreamKey → Bool
made_streams dir s = (s.file == table_file && s.kind == bitmap_type) || (s.file == dir && s.kind == index_allocation)

-- the new file, and its directory
abbrev pub made_edits : ℕ → Record → ℕ → Record → List FileEdit
made_edits n f dir s = record { number = n; file = Some f } ∷ record { number = dir; file = Some s } ∷ []

-- The record of a number that is marked free becomes that of a file with this one name and no clusters, which keeps rules 1 and 4 by
-- itself. Its directory has no attribute list; standard information and the root of its index may be written anew; and its index
-- holds the name in its order. The bit of the number becomes set, and the others stay. Nothing else is put.
pub record MakesFile (c : Content) (v : Volume) (n dir : ℕ) (f r s : Record) (link : Link) (bodies : List NewBody) : Type 0 where
  pub user : first_user_record ≤ n
  pub within : n < count_of v
  pub clear : bit (record_bits c v) n ≡ false
  pub made : ReadsAs v bodies n f
  pub base : is_base_record f ≡ true
  pub no_list : has_type attribute_list f ≡ false
  pub no_directory : is_directory_record f ≡ false
  pub name : record_links n f ≡ link ∷ []
  pub parent : link.parent ≡ reference dir r
  pub names : keeps_names n f (link ∷ []) ≡ true
  pub no_clusters : file_runs (Some f) ≡ []
  pub sizes : list_all (keeps_stream v.per v.clusters f.attrs) f.attrs ≡ true
  pub file : file_in v dir ≡ Some r
  pub directory : is_directory_record r ≡ true
  pub lists_none : has_type attribute_list r ≡ false
  pub apart : IsApart dir
  pub not_extend : dir ≢ extend_file
  pub anew : ReadsAs v bodies dir s
  pub values : RewritesValues is_info_or_root r s
  pub old : List Link
  pub new : List Link
  pub listed : index_links c v.per (upper_of c v) r ≡ Some old
  pub lists : index_links (content_with c bodies) v.per (upper_of c v) s ≡ Some new
  pub put : PartReplaced [] (link ∷ []) old new
  pub rises : is_rising (upper_of c v) new ≡ true
  pub marked : (m : ℕ) → m < count_of v → bit (record_bits (content_with c bodies) v) m ≡ (m == n || bit (record_bits c v) m)
  pub whole : AreBodies bodies
  pub void : body_in bodies void_block ≡ None
  pub each : AllByRecursion (λ p. IsOwnedIn (made_streams dir) v p.block ⊎ IsInRecord (is_edited (made_edits n f dir s)) v (whole_write p)) bodies

-- The tree has one node more, one name more and one spare number less; the node is the volume's own where its directory stands below
-- one that is; the directory's node has its new standard information, and
-- all else stays.
pub record HasMade (c : Content) (v : Volume) (n dir : ℕ) (f s : Record) (link : Link) (d : Content) (w : Volume) : Type 0 where
  pub made : node_by_number (tree_of d w).nodes n ≡ Some (node_by (bytes_or d w.per) w n f)
  pub system : is_system (files_by_number w) (count_of w) n (record_links n f) ≡ is_in_system (files_by_number v) (count_of v) dir
  pub directory : node_by_number (tree_of d w).nodes dir ≡ option_map (with_info (info_of s)) (node_by_number (tree_of c v).nodes dir)
  pub others : (m : ℕ) → m ≢ n → m ≢ dir → node_by_number (tree_of d w).nodes m ≡ node_by_number (tree_of c v).nodes m
  pub links : PartReplaced [] (link ∷ []) (tree_of c v).links (tree_of d w).links
  pub spare : (m : ℕ) → m < count_of v → m ≢ n → spare_at d w m ≡ spare_at c v m
  pub spare_none : spare_at d w n ≡ None
  pub count : (tree_of d w).count ≡ (tree_of c v).count
  pub journal : (tree_of d w).journal ≡ (tree_of c v).journal
  pub room : (tree_of d w).room ≡ (tree_of c v).room

-- Where a file is made so, a state becomes one of the tree with the file; it is an edit of a plan that gives no cluster.
pub record FileIsMade : Type 0 where
  pub stands : (c : Content) (g : Geometry) (clusters : ℕ) (v : Volume) (n dir : ℕ) (f r s : Record) (link : Link) (bodies : List NewBody) → HasSizes c → Stands c g clusters v → MakesFile c v n dir f r s link bodies
      → Stands (content_with c bodies) g clusters (edited v (made_edits n f dir s))
  pub tree : (c : Content) (g : Geometry) (clusters : ℕ) (v : Volume) (n dir : ℕ) (f r s : Record) (link : Link) (bodies : List NewBody) → HasSizes c → Stands c g clusters v → MakesFile c v n dir f r s link bodies
      → HasMade c v n dir f s link (content_with c bodies) (edited v (made_edits n f dir s))
  pub goes_on : (first : Content) (start : Volume) (c : Content) (g : Geometry) (clusters : ℕ) (v : Volume) (n dir : ℕ) (f r s : Record) (link : Link) (bodies : List NewBody) (gave : ℕ → Option BlockKind) → HasSizes c → Stands c g clusters v
      → MakesFile c v n dir f r s link bodies → ((kind : BlockKind) (x : ℕ) → gave x ≡ Some kind → bit (cluster_bits first start) x ≡ false) → GoesOn first start c g clusters v bodies (edited v (made_edits n f dir s)) gave gave
