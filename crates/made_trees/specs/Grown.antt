-- A draft in which the file table and the index of a directory have grown, where they have to, before a file is made in it.
use Rattle.std.specs.Prelude.{◌≡◌, ◌⊎◌, ℕ, ◌+◌, ◌<◌, ◌≤◌, true, List, [], ◌∷◌, Option, Some}
use Rattle.std.specs.List.{AllByRecursion}
use Rattle.disk_model.specs.declared.block.BlockKind.{BlockKind}
use Rattle.disk_model.specs.Content.{Content, HasSizes}
use Rattle.record_model.specs.Records.{Record}
use Rattle.file_tree.specs.declared.tree.Tree.{Tree}
use Rattle.file_tree.specs.Trees.{node_at as node_by_number}
use Rattle.index_model.specs.Indexes.{node_of_block, nodes_of}
use Rattle.state_model.specs.declared.geometry.Geometry.{Geometry}
use Rattle.state_model.specs.Files.{links_at}
use Rattle.state_model.specs.Trees.{is_in_system}
use Rattle.volume_model.specs.Indexes.{index_place, root_value}
use Rattle.volume_model.specs.Owners.{uses}
use Rattle.volume_model.specs.Volumes.{Volume, count_of, files_by_number, upper_of, cluster_bits}
use Rattle.volume_state.specs.Trees.{tree_of}
use Rattle.stream_laws.specs.Tables.{table_key}
use Rattle.tree_model.specs.Effects.{ref_at, numbers_to_take, count_to_take}
use Rattle.plan_owners.specs.States.{Stands}
use Rattle.plan_bodies.specs.Bodies.{NewBody, content_with}
use Rattle.plan_draft.specs.declared.touched.Touched.{Touched}
use Rattle.plan_draft.specs.Touching.{bodies_of}
use Rattle.plan_draft.specs.Drafts.{drafted}
use Rattle.plan_draft.specs.Same.{PutSame}
use Rattle.plan_blocks.specs.Blocks.{RoomDiffers}
use Rattle.written_values.specs.draft_bits.Effects.{IsKept}
use Rattle.written_values.specs.plan_model.Drafts.{DraftIn}
use Rattle.written_values.specs.step_model.Placing.{Growth, AllPlaced, taken_runs, wanted_by}
use Rattle.written_values.specs.step_model.Streams.{blocks_key, used_key, bits_key}
use Rattle.written_values.specs.step_model.Plans.{grows_table}
use Rattle.written_values.specs.step_model.Contents.{IsLeft}
use Rattle.made_files.specs.plan_values.Values.{IsOwnFile}
use Rattle.made_trees.specs.Left.{StaysGrown}

-- a stream of a directory's index
abbrev pub IsOfIndex : ℕ → Growth → Type 0
IsOfIndex n g = (g.stream ≡ blocks_key n) ⊎ (g.stream ≡ used_key n)

-- a stream of the file table: its records, or the bits of their numbers
abbrev pub IsOfTable : Growth → Type 0
IsOfTable g = (g.stream ≡ table_key) ⊎ (g.stream ≡ bits_key)

-- a stream of a directory's index, or one of the file table
abbrev pub IsOfGrowth : ℕ → Growth → Type 0
IsOfGrowth n g = IsOfIndex n g ⊎ IsOfTable g

-- The index lists by the same units, has the same root, and has a node exactly where it had one, the same.
pub record KeepsIndex (c : Content) (v : Volume) (r : Record) (d : Content) (u : Volume) (q : Record) : Type 0 where
  pub upper : upper_of d u ≡ upper_of c v
  pub root : root_value q ≡ root_value r
  pub nodes : (i : ℕ) → nodes_of (node_of_block d (index_place u.per q)) i ≡ nodes_of (node_of_block c (index_place v.per r)) i

-- No number was spare, and the file table has grown: the tree has the numbers that an operation takes one of then, and so many records.
pub record TableCame (t u : Tree) : Type 0 where
  pub none : grows_table t ≡ true
  pub nodes : (m : ℕ) → node_by_number u.nodes m ≡ node_by_number t.nodes m
  pub links : u.links ≡ t.links
  pub spare : (m : ℕ) → ref_at u.spare m ≡ ref_at (numbers_to_take t) m
  pub count : u.count ≡ count_to_take t
  pub journal : u.journal ≡ t.journal

-- The draft stands for a state, to which its bodies lead as those of a plan do; each cluster that was given a kind is one of those that come. The
-- directory's file has this record there, all files have the names that they had, and the directory lies as it lay below those of the volume itself.
-- The tree differs in the room alone, or has the numbers that come where none was spare; the room fell by no more than the clusters that come; and the
-- content is left as a step says, where these streams of the index and of the file table take clusters.
pub record HasGrownBefore (c : Content) (g : Geometry) (clusters : ℕ) (v : Volume) (n : ℕ) (r : Record) (growths : List Growth) (u : Volume) (q : Record) (grown : List Touched) : Type 0 where
  pub kept : IsKept grown
  pub gave : ℕ → Option BlockKind
  pub bodies : List NewBody
  pub same : PutSame (bodies_of grown) bodies
  pub content : content_with c bodies ≡ drafted grown c
  pub draft : DraftIn c g clusters v bodies u gave
  pub given : (kind : BlockKind) (x : ℕ) → gave x ≡ Some kind → 0 < uses (taken_runs growths) x
  pub own : IsOwnFile u n q
  pub names : (i : ℕ) → links_at (files_by_number u) i ≡ links_at (files_by_number v) i
  pub system : is_in_system (files_by_number u) (count_of u) n ≡ is_in_system (files_by_number v) (count_of v) n
  pub tree : RoomDiffers (tree_of c v) (tree_of (drafted grown c) u) ⊎ TableCame (tree_of c v) (tree_of (drafted grown c) u)
  pub room : (tree_of c v).room ≤ (tree_of (drafted grown c) u).room + wanted_by growths
  pub streams : AllByRecursion (IsOfGrowth n) growths
  pub left : IsLeft c v clusters (n ∷ []) growths (drafted grown c) u

-- A draft that touched nothing is one in which nothing has grown: whatever streams of the index are named as ones that take
-- clusters have those that they had.
abbrev pub NoneHasGrown : Type 0
NoneHasGrown = (c : Content) (g : Geometry) (clusters : ℕ) (v : Volume) (n : ℕ) (r : Record) (growths : List Growth) → HasSizes c → Stands c g clusters v → IsOwnFile v n r → AllPlaced (cluster_bits c v) growths → AllByRecursion (StaysGrown v n) growths
    → HasGrownBefore c g clusters v n r growths v r []
