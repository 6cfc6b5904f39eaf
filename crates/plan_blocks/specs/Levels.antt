-- The index of a directory gets more blocks, and its root is written anew: the entries of the old one go into a fresh block.
use Rattle.std.specs.Prelude.{◌≡◌, ◌≢◌, ◌⊎◌, ◌+◌, ◌*◌, ◌/◌, ◌≤◌, ◌<◌, ◌==◌, ◌||◌, nat_le, ℕ, Bool, true, false, List, [], ◌∷◌, Option, Some, None, Ok}
use Rattle.std.specs.List.{AllByRecursion}
use Rattle.disk_model.specs.declared.block.Block.{Block}
use Rattle.disk_model.specs.declared.block.BlockKind.{BlockKind}
use Rattle.disk_model.specs.declared.block.BlockKind.TheVariants.{FileRec, Index}
use Rattle.disk_model.specs.Content.{Content, HasSizes}
use Rattle.record_model.specs.declared.attribute.Attr.{Attr}
use Rattle.record_model.specs.declared.runs.Run.{Run}
use Rattle.record_model.specs.Constants.{attribute_list, index_root}
use Rattle.record_model.specs.Nodes.{last_entry}
use Rattle.record_model.specs.Pairs.{cluster_limit, HasSpelling}
use Rattle.record_model.specs.Records.{Record}
use Rattle.bit_set.specs.Bits.{bit}
use Rattle.index_model.specs.Indexes.{is_index_body, most_levels, node_of_block, node_of_body, nodes_of}
use Rattle.index_model.specs.Laws.{HoldsIndex}
use Rattle.index_model.specs.Trees.{Tree, Down, held, levels, raws_of}
use Rattle.index_node.specs.Roots.{root_spelling}
use Rattle.plan_edits.specs.index_change.NodePlans.{GoesOn as PlaceGoesOn, KeepsNodes}
use Rattle.plan_edits.specs.index_change.Plans.{clusters_of}
use Rattle.state_model.specs.declared.geometry.Geometry.{Geometry}
use Rattle.state_model.specs.Files.{has_type, is_directory_record}
use Rattle.state_model.specs.Loads.{total_clusters}
use Rattle.state_model.specs.Streams.{block_at}
use Rattle.volume_model.specs.Indexes.{void_block, index_block, index_place, index_links, root_value}
use Rattle.volume_model.specs.Owners.{uses}
use Rattle.volume_model.specs.Volumes.{Volume, file_in, cluster_bits, upper_of}
use Rattle.volume_state.specs.Trees.{tree_of}
use Rattle.stream_laws.specs.Rewrites.{is_edited}
use Rattle.plan_bodies.specs.Bodies.{NewBody, AreBodies, body_in, content_with}
use Rattle.plan_owners.specs.States.{Stands}
use Rattle.plan_edits.specs.plan_model.Attributes.{RewritesValues}
use Rattle.plan_edits.specs.plan_model.Drafts.{GoesOn, IsPut, gives_runs}
use Rattle.plan_edits.specs.plan_model.Edits.{IsOwnedIn, LeadsTo}
use Rattle.plan_edits.specs.plan_model.Informed.{IsApart, with_record}
use Rattle.plan_edits.specs.plan_model.Made.{ReadsAs}
use Rattle.plan_edits.specs.plan_growth.Growing.{MayGive}
use Rattle.plan_edits.specs.plan_growth.Streams.{marks_streams, MayTake}
use Rattle.plan_blocks.specs.Blocks.{blocks_before, blocks_behind, IsFreshBlock, SizesRise, HasBlocks, RoomDiffers}

-- ---- the edit

-- the root of an index
abbrev pub is_index_root : Attr → Bool
is_index_root a = a.head.kind == index_root

-- A directory's file is put as by an index that grows: the record with the blocks in these extents, but with the root of its index written anew, if
-- at all. The same goes to other blocks.
pub record PutsRooted (c : Content) (v : Volume) (n : ℕ) (r : Record) (more : List Run) (real initialised : ℕ) (p s : Record) (bodies : List NewBody) : Type 0 where
  pub file : file_in v n ≡ Some r
  pub apart : IsApart n
  pub no_list : has_type attribute_list r ≡ false
  pub directory : is_directory_record r ≡ true
  pub spelled : HasSpelling 0 (blocks_before r).runs
  pub taken : MayTake v.clusters (cluster_bits c v) more
  pub room : total_clusters (blocks_before r).runs + total_clusters more ≤ cluster_limit
  pub sizes : SizesRise (blocks_before r) (blocks_behind v.per r more real initialised)
  pub begun : ((blocks_before r).real ≤ (blocks_before r).initialised) ⊎ (is_index_body (c void_block) ≡ false)
  pub written : HasBlocks r p (blocks_behind v.per r more real initialised)
  pub values : RewritesValues is_index_root p s
  pub whole : AreBodies bodies
  pub anew : ReadsAs v bodies n s
  pub each : AllByRecursion (λ q. IsOwnedIn marks_streams v q.block ⊎ (block_at v.per v.table.runs FileRec n ≡ Some q.block) ⊎ IsFreshBlock v r (blocks_behind v.per r more real initialised) q.block) bodies
  pub void : body_in bodies void_block ≡ None
  pub covers : (m : ℕ) (b : Block) → block_at v.per (blocks_behind v.per r more real initialised).runs Index m ≡ Some b → (blocks_before r).initialised ≤ 4096 * m → 4096 * m < initialised → IsPut bodies b
  pub marked : (x : ℕ) → x < v.clusters → bit (cluster_bits (content_with c bodies) v) x ≡ (nat_le 1 (uses more x) || bit (cluster_bits c v) x)

-- and below the new root the index lists what it listed
pub record RaisesIndex (c : Content) (v : Volume) (n : ℕ) (r : Record) (more : List Run) (real initialised : ℕ) (p s : Record) (bodies : List NewBody) : Type 0 where
  pub puts : PutsRooted c v n r more real initialised p s bodies
  pub lists : index_links (content_with c bodies) v.per (upper_of c v) s ≡ index_links c v.per (upper_of c v) r

-- Then a state becomes one whose tree differs in the room alone; it is an edit of a plan, which gives the runs the kind of index blocks. Whatever
-- the new root is, each node that stood at the index's place stands there; and where all its blocks were initialised, its place goes on behind
-- the old one.
pub record IndexRaised : Type 0 where
  pub leads : (c : Content) (g : Geometry) (clusters : ℕ) (v : Volume) (n : ℕ) (r : Record) (more : List Run) (real initialised : ℕ) (p s : Record) (bodies : List NewBody) → HasSizes c → g.per_cluster ≡ 8 → Stands c g clusters v → RaisesIndex c v n r more real initialised p s bodies
      → LeadsTo (is_edited (record { number = n; file = Some s } ∷ [])) c v (content_with c bodies) g clusters (with_record v n s)
  pub goes_on : (first : Content) (start : Volume) (c : Content) (g : Geometry) (clusters : ℕ) (v : Volume) (n : ℕ) (r : Record) (more : List Run) (real initialised : ℕ) (p s : Record) (bodies : List NewBody) (gave : ℕ → Option BlockKind) → HasSizes c → g.per_cluster ≡ 8 → Stands c g clusters v
      → RaisesIndex c v n r more real initialised p s bodies → MayGive first start Index more gave → GoesOn first start c g clusters v bodies (with_record v n s) gave (gives_runs Index more gave)
  pub tree : (c : Content) (g : Geometry) (clusters : ℕ) (v : Volume) (n : ℕ) (r : Record) (more : List Run) (real initialised : ℕ) (p s : Record) (bodies : List NewBody) → HasSizes c → g.per_cluster ≡ 8 → Stands c g clusters v → RaisesIndex c v n r more real initialised p s bodies
      → RoomDiffers (tree_of c v) (tree_of (content_with c bodies) (with_record v n s))
  pub nodes : (c : Content) (g : Geometry) (clusters : ℕ) (v : Volume) (n : ℕ) (r : Record) (more : List Run) (real initialised : ℕ) (p s : Record) (bodies : List NewBody) (count : ℕ → ℕ) → HasSizes c → g.per_cluster ≡ 8 → Stands c g clusters v → PutsRooted c v n r more real initialised p s bodies
      → KeepsNodes c (index_place v.per r) (content_with c bodies) (index_place v.per s) count
  pub place : (c : Content) (g : Geometry) (clusters : ℕ) (v : Volume) (n : ℕ) (r : Record) (more : List Run) (real initialised : ℕ) (p s : Record) (bodies : List NewBody) → HasSizes c → g.per_cluster ≡ 8 → Stands c g clusters v → PutsRooted c v n r more real initialised p s bodies
      → (blocks_before r).real ≤ (blocks_before r).initialised → PlaceGoesOn (index_place v.per r) (index_place v.per s)

-- ---- a level more

-- The index with this tree, below a root with this value, has a level more: the new root has one entry alone, below which this fresh node has the
-- entries of the old root, and each other node is read as it was.
pub record IsRaised (c : Content) (v : Volume) (r : Record) (value : List ℕ) (t : Tree) (f : ℕ) (d : Content) (u : Volume) (q : Record) : Type 0 where
  pub upper : upper_of d u ≡ upper_of c v
  pub root : root_value q ≡ Some (root_spelling (clusters_of value) (last_entry (Some f) ∷ []))
  pub others : (i : ℕ) → i ≢ f → nodes_of (node_of_block d (index_place u.per q)) i ≡ nodes_of (node_of_block c (index_place v.per r)) i
  pub child : nodes_of (node_of_block d (index_place u.per q)) f ≡ Some (raws_of t)
  pub fresh : held f t ≡ 0
  pub holds : HoldsIndex d (index_place u.per q) (upper_of d u) (root_spelling (clusters_of value) (last_entry (Some f) ∷ [])) (Down f t)

-- A directory's file is put so, whose index has this tree of fewer than sixteen levels, in whole blocks that are all initialised afterwards. One of
-- the fresh blocks, f, is put as a node with the entries of the root; no other one is an index block; and the new root has one entry alone, whose
-- child is that node.
pub record PutsLevel (c : Content) (v : Volume) (n : ℕ) (r : Record) (more : List Run) (size : ℕ) (p s : Record) (bodies : List NewBody) (value : List ℕ) (t : Tree) (f : ℕ) : Type 0 where
  pub puts : PutsRooted c v n r more size size p s bodies
  pub whole : (blocks_before r).real ≡ 4096 * ((blocks_before r).real / 4096)
  pub root : root_value r ≡ Some value
  pub index : HoldsIndex c (index_place v.per r) (upper_of c v) value t
  pub low : levels t < most_levels
  pub past : (blocks_before r).initialised ≤ 4096 * f
  pub within : 4096 * (f + 1) ≤ size
  pub new_root : root_value s ≡ Some (root_spelling (clusters_of value) (last_entry (Some f) ∷ []))
  pub child : node_of_body f (content_with c bodies (index_block v.per (blocks_behind v.per r more size size) f)) ≡ Ok (raws_of t)
  pub none : (i : ℕ) → i ≢ f → (blocks_before r).initialised ≤ 4096 * i → 4096 * (i + 1) ≤ size → is_index_body (content_with c bodies (index_block v.per (blocks_behind v.per r more size size) i)) ≡ false

-- Then the index has a level more, and lists what it listed: what is put is an edit by which an index is raised.
pub record LevelCame : Type 0 where
  pub index : (c : Content) (g : Geometry) (clusters : ℕ) (v : Volume) (n : ℕ) (r : Record) (more : List Run) (size : ℕ) (p s : Record) (bodies : List NewBody) (value : List ℕ) (t : Tree) (f : ℕ) → HasSizes c → g.per_cluster ≡ 8 → Stands c g clusters v
      → PutsLevel c v n r more size p s bodies value t f → IsRaised c v r value t f (content_with c bodies) (with_record v n s) s
  pub raises : (c : Content) (g : Geometry) (clusters : ℕ) (v : Volume) (n : ℕ) (r : Record) (more : List Run) (size : ℕ) (p s : Record) (bodies : List NewBody) (value : List ℕ) (t : Tree) (f : ℕ) → HasSizes c → g.per_cluster ≡ 8 → Stands c g clusters v
      → PutsLevel c v n r more size p s bodies value t f → RaisesIndex c v n r more size size p s bodies
