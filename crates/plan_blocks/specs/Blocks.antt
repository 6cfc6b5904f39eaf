-- The index of a directory gets more blocks, in which no node stands yet: its allocation takes clusters and has greater sizes.
use Rattle.std.specs.Prelude.{◌≡◌, ◌⊎◌, ⊤, ◌+◌, ◌*◌, ◌/◌, ◌≤◌, ◌<◌, ◌||◌, not, ℕ, Bool, nat_le, true, false, List, [], ◌∷◌, filter, map, Option, Some, None}
use Rattle.std.specs.List.{AllByRecursion}
use Rattle.disk_model.specs.declared.block.Block.{Block}
use Rattle.disk_model.specs.declared.block.BlockKind.{BlockKind}
use Rattle.disk_model.specs.declared.block.BlockKind.TheVariants.{FileRec, Index}
use Rattle.disk_model.specs.Content.{Content, HasSizes}
use Rattle.record_model.specs.declared.attribute.Attr.{Attr}
use Rattle.record_model.specs.declared.runs.Run.{Run}
use Rattle.record_model.specs.Constants.{attribute_list, bitmap_type, index_allocation, names_index}
use Rattle.record_model.specs.Pairs.{cluster_limit, HasSpelling}
use Rattle.record_model.specs.Records.{Record}
use Rattle.file_tree.specs.declared.tree.Tree.{Tree}
use Rattle.file_tree.specs.Trees.{node_at as node_by_number}
use Rattle.bit_set.specs.Bits.{bit}
use Rattle.index_model.specs.Indexes.{is_index_body}
use Rattle.plan_edits.specs.index_change.NodePlans.{GoesOn as PlaceGoesOn, KeepsNodes}
use Rattle.state_model.specs.declared.geometry.Geometry.{Geometry}
use Rattle.state_model.specs.declared.stream.Extents.{Extents}
use Rattle.state_model.specs.declared.stream.Stream.{Stream}
use Rattle.state_model.specs.declared.stream.Stream.TheVariants.{Held, Placed}
use Rattle.state_model.specs.Files.{has_type, is_directory_record}
use Rattle.state_model.specs.Loads.{extents_or, total_clusters}
use Rattle.state_model.specs.Streams.{is_attribute_of, attributes_of, stream_of, block_at}
use Rattle.volume_model.specs.Indexes.{void_block, index_block, index_stream, index_place, index_links}
use Rattle.volume_model.specs.Owners.{uses}
use Rattle.volume_model.specs.Sizes.{are_joined}
use Rattle.volume_model.specs.Volumes.{Volume, file_in, cluster_bits, upper_of}
use Rattle.volume_state.specs.Trees.{tree_of}
use Rattle.stream_laws.specs.Rewrites.{is_edited}
use Rattle.record_writer.specs.Normal.{normal}
use Rattle.plan_edits.specs.resized_streams.Resizing.{lengthened, with_sizes}
use Rattle.plan_bodies.specs.Bodies.{NewBody, AreBodies, body_in, content_with}
use Rattle.plan_owners.specs.States.{Stands}
use Rattle.plan_edits.specs.plan_model.Drafts.{GoesOn, IsPut, gives_runs}
use Rattle.plan_edits.specs.plan_model.Edits.{IsOwnedIn, LeadsTo}
use Rattle.plan_edits.specs.plan_model.Informed.{IsApart, with_record}
use Rattle.plan_edits.specs.plan_model.Made.{ReadsAs}
use Rattle.plan_edits.specs.plan_growth.Growing.{MayGive}
use Rattle.plan_edits.specs.plan_growth.Streams.{marks_streams, MayTake}

-- ---- the record

-- an attribute of the blocks of a directory's index, or of the bitmap of these
unfoldable pub is_of_blocks : Attr → Bool
is_of_blocks a = is_attribute_of index_allocation names_index a || is_attribute_of bitmap_type names_index a

-- the attributes beside these
abbrev pub beside_blocks : List Attr → List Attr
beside_blocks attrs = filter (λ (a : Attr). not (is_of_blocks a)) attrs

-- the bitmap of the blocks of a directory's index
abbrev pub used_stream : Record → Option Stream
used_stream r = stream_of bitmap_type names_index r.attrs

-- the stream has no clusters: it is a value, or isn't there
abbrev pub HasNoPlace : Option Stream → Type 0
HasNoPlace None = ⊤
HasNoPlace (Some (Held value)) = ⊤
HasNoPlace (Some (Placed e)) = ⊥

-- The record with the blocks of its index in these extents, each of the two streams being lawfully joined. Their bitmap stays, or becomes
-- a value in the record where it had no clusters. All other attributes stay, as they are written.
pub record HasBlocks (r s : Record) (f : Extents) : Type 0 where
  pub seq : s.head.seq ≡ r.head.seq
  pub flags : s.head.flags ≡ r.head.flags
  pub base : s.head.base ≡ r.head.base
  pub others : beside_blocks s.attrs ≡ map normal (beside_blocks r.attrs)
  pub blocks : index_stream s ≡ Some (Placed f)
  pub joined : are_joined (attributes_of index_allocation names_index s.attrs) ≡ true
  pub bits : (used_stream s ≡ used_stream r) ⊎ ((bits : List ℕ) × (used_stream s ≡ Some (Held bits)) × HasNoPlace (used_stream r))
  pub bits_joined : are_joined (attributes_of bitmap_type names_index s.attrs) ≡ true

-- ---- the edit

-- the extents of the blocks of a directory's index; none where they aren't there
abbrev pub blocks_before : Record → Extents
blocks_before r = extents_or (index_stream r)

-- with these runs behind them, all of them allocated, and these sizes
abbrev pub blocks_behind : ℕ → Record → List Run → ℕ → ℕ → Extents
blocks_behind per r more real initialised = with_sizes real initialised (lengthened per more (blocks_before r))

-- a block in these extents that begins at the old initialised size of the index or behind it
pub record IsFreshBlock (v : Volume) (r : Record) (f : Extents) (b : Block) : Type 0 where
  pub number : ℕ
  pub lies : block_at v.per f.runs Index number ≡ Some b
  pub past : (blocks_before r).initialised ≤ 4096 * number

-- the sizes rise, and the clusters have room for them
pub record SizesRise (e f : Extents) : Type 0 where
  pub real : e.real ≤ f.real
  pub initialised : e.initialised ≤ f.initialised
  pub lawful : f.initialised ≤ f.real
  pub room : f.real ≤ f.allocated

-- A directory's file is put, whose index has these runs, which may be taken, behind its own blocks, if it has any, and these sizes. What
-- is put besides goes to the bits of clusters, to the mirror of the file table, and to fresh blocks of the index: each that comes to
-- be initialised is put whole. The bits of the clusters become set, and the others stay. No block that the index had is past its
-- initialised size, or nothing is a node past the end of every disk.
pub record GrowsIndex (c : Content) (v : Volume) (n : ℕ) (r : Record) (more : List Run) (real initialised : ℕ) (s : Record) (bodies : List NewBody) : Type 0 where
  pub file : file_in v n ≡ Some r
  pub apart : IsApart n
  pub no_list : has_type attribute_list r ≡ false
  pub directory : is_directory_record r ≡ true
  pub spelled : HasSpelling 0 (blocks_before r).runs
  pub taken : MayTake v.clusters (cluster_bits c v) more
  pub room : total_clusters (blocks_before r).runs + total_clusters more ≤ cluster_limit
  pub sizes : SizesRise (blocks_before r) (blocks_behind v.per r more real initialised)
  pub begun : ((blocks_before r).real ≤ (blocks_before r).initialised) ⊎ (is_index_body (c void_block) ≡ false)
  pub written : HasBlocks r s (blocks_behind v.per r more real initialised)
  pub whole : AreBodies bodies
  pub anew : ReadsAs v bodies n s
  pub each : AllByRecursion (λ p. IsOwnedIn marks_streams v p.block ⊎ (block_at v.per v.table.runs FileRec n ≡ Some p.block) ⊎ IsFreshBlock v r (blocks_behind v.per r more real initialised) p.block) bodies
  pub void : body_in bodies void_block ≡ None
  pub covers : (m : ℕ) (b : Block) → block_at v.per (blocks_behind v.per r more real initialised).runs Index m ≡ Some b → (blocks_before r).initialised ≤ 4096 * m → 4096 * m < initialised → IsPut bodies b
  pub marked : (x : ℕ) → x < v.clusters → bit (cluster_bits (content_with c bodies) v) x ≡ (nat_le 1 (uses more x) || bit (cluster_bits c v) x)

-- ---- what comes of it

-- the trees are the same, but for the room
pub record RoomDiffers (t u : Tree) : Type 0 where
  pub nodes : (m : ℕ) → node_by_number u.nodes m ≡ node_by_number t.nodes m
  pub links : u.links ≡ t.links
  pub spare : u.spare ≡ t.spare
  pub count : u.count ≡ t.count
  pub journal : u.journal ≡ t.journal

-- Then a state becomes one whose tree differs in the room alone; it is an edit of a plan, which gives the runs the kind of index blocks.
-- The index lists what it listed, and each node that stood at its place stands there; where all its blocks were initialised, its place
-- goes on behind the old one. Where all are afterwards, the old size is one of whole blocks, and no fresh block is an index block, no
-- node stands there that didn't before.
pub record IndexGrown : Type 0 where
  pub leads : (c : Content) (g : Geometry) (clusters : ℕ) (v : Volume) (n : ℕ) (r : Record) (more : List Run) (real initialised : ℕ) (s : Record) (bodies : List NewBody) → HasSizes c → g.per_cluster ≡ 8 → Stands c g clusters v → GrowsIndex c v n r more real initialised s bodies
      → LeadsTo (is_edited (record { number = n; file = Some s } ∷ [])) c v (content_with c bodies) g clusters (with_record v n s)
  pub goes_on : (first : Content) (start : Volume) (c : Content) (g : Geometry) (clusters : ℕ) (v : Volume) (n : ℕ) (r : Record) (more : List Run) (real initialised : ℕ) (s : Record) (bodies : List NewBody) (gave : ℕ → Option BlockKind) → HasSizes c → g.per_cluster ≡ 8 → Stands c g clusters v
      → GrowsIndex c v n r more real initialised s bodies → MayGive first start Index more gave → GoesOn first start c g clusters v bodies (with_record v n s) gave (gives_runs Index more gave)
  pub tree : (c : Content) (g : Geometry) (clusters : ℕ) (v : Volume) (n : ℕ) (r : Record) (more : List Run) (real initialised : ℕ) (s : Record) (bodies : List NewBody) → HasSizes c → g.per_cluster ≡ 8 → Stands c g clusters v → GrowsIndex c v n r more real initialised s bodies
      → RoomDiffers (tree_of c v) (tree_of (content_with c bodies) (with_record v n s))
  pub lists : (c : Content) (g : Geometry) (clusters : ℕ) (v : Volume) (n : ℕ) (r : Record) (more : List Run) (real initialised : ℕ) (s : Record) (bodies : List NewBody) → HasSizes c → g.per_cluster ≡ 8 → Stands c g clusters v → GrowsIndex c v n r more real initialised s bodies
      → index_links (content_with c bodies) v.per (upper_of c v) s ≡ index_links c v.per (upper_of c v) r
  pub nodes : (c : Content) (g : Geometry) (clusters : ℕ) (v : Volume) (n : ℕ) (r : Record) (more : List Run) (real initialised : ℕ) (s : Record) (bodies : List NewBody) (count : ℕ → ℕ) → HasSizes c → g.per_cluster ≡ 8 → Stands c g clusters v → GrowsIndex c v n r more real initialised s bodies
      → KeepsNodes c (index_place v.per r) (content_with c bodies) (index_place v.per s) count
  pub place : (c : Content) (g : Geometry) (clusters : ℕ) (v : Volume) (n : ℕ) (r : Record) (more : List Run) (real initialised : ℕ) (s : Record) (bodies : List NewBody) → HasSizes c → g.per_cluster ≡ 8 → Stands c g clusters v → GrowsIndex c v n r more real initialised s bodies
      → (blocks_before r).real ≤ (blocks_before r).initialised → PlaceGoesOn (index_place v.per r) (index_place v.per s)
  pub none_more : (c : Content) (g : Geometry) (clusters : ℕ) (v : Volume) (n : ℕ) (r : Record) (more : List Run) (real initialised : ℕ) (s : Record) (bodies : List NewBody) (count : ℕ → ℕ) → HasSizes c → g.per_cluster ≡ 8 → Stands c g clusters v → GrowsIndex c v n r more real initialised s bodies
      → real ≤ initialised → (blocks_before r).real ≡ 4096 * ((blocks_before r).real / 4096) → ((i : ℕ) → (blocks_before r).initialised ≤ 4096 * i → 4096 * (i + 1) ≤ real → is_index_body (content_with c bodies (index_block v.per (blocks_behind v.per r more real initialised) i)) ≡ false)
      → KeepsNodes (content_with c bodies) (index_place v.per s) c (index_place v.per r) count
