-- A node's times are changed: one record is written anew.
use Rattle.std.specs.Prelude.{◌≡◌, ◌≢◌, ℕ, ◌==◌, Bool, false, [], ◌∷◌, length, Some}
use Rattle.std.specs.Option.{option_map}
use Rattle.plan_bodies.specs.disk_model.declared.block.BlockKind.TheVariants.{FileRec}
use Rattle.plan_bodies.specs.disk_model.Content.{Content, HasSizes}
use Rattle.index_change.specs.record_model.declared.attribute.Attr.{Attr}
use Rattle.index_change.specs.record_model.declared.values.StdInfo.{StdInfo}
use Rattle.index_change.specs.record_model.Records.{Record}
use Rattle.index_change.specs.record_model.Constants.{standard_information, attribute_list}
use Rattle.index_change.specs.file_tree.declared.node.Node.{Node}
use Rattle.index_change.specs.file_tree.declared.tree.Tree.{Tree}
use Rattle.index_change.specs.file_tree.Trees.{node_at as node_by_number}
use Rattle.index_change.specs.state_model.declared.geometry.Geometry.{Geometry}
use Rattle.index_change.specs.state_model.Files.{has_type, info_of}
use Rattle.index_change.specs.state_model.Loads.{Used, slot_of}
use Rattle.index_change.specs.state_model.Streams.{block_at}
use Rattle.index_change.specs.volume_model.Volumes.{Volume, file_in, table_file, bitmap_file, upcase_file}
use Rattle.plan_owners.specs.volume_state.Trees.{tree_of}
use Rattle.plan_owners.specs.States.{Stands}
use Rattle.plan_model.specs.Attributes.{RewritesValues}
use Rattle.plan_bodies.specs.Bodies.{NewBody, content_with}
use Rattle.plan_model.specs.Edits.{edited}

-- standard information
abbrev pub is_info : Attr → Bool
is_info a = a.head.kind == standard_information

-- none of $MFT, $Bitmap and $UpCase
pub record IsApart (n : ℕ) : Type 0 where
  pub table : n ≢ table_file
  pub bitmap : n ≢ bitmap_file
  pub upcase : n ≢ upcase_file

-- The record of a file that has no attribute list is put whole into its block, and is read as this one.
pub record PutsRecord (v : Volume) (n : ℕ) (r s : Record) (w : NewBody) : Type 0 where
  pub file : file_in v n ≡ Some r
  pub no_list : has_type attribute_list r ≡ false
  pub place : block_at v.per v.table.runs FileRec n ≡ Some w.block
  pub size : length w.bytes ≡ 1024
  pub reads : slot_of (record { bytes = w.bytes; torn = false }) ≡ Used s

-- the volume with this file in the place of that with its number
abbrev pub with_record : Volume → ℕ → Record → Volume
with_record v n s = edited v (record { number = n; file = Some s } ∷ [])

-- the node with other standard information
abbrev pub with_info : StdInfo → Node → Node
with_info info a = record {
  number = a.number;
  seq = a.seq;
  kind = a.kind;
  why = a.why;
  held = a.held;
  size = a.size;
  valid = a.valid;
  clusters = a.clusters;
  bytes = a.bytes;
  flags = info.flags;
  created = info.created;
  modified = info.modified;
  changed = info.changed;
  read_at = info.read_at;
}

-- the trees are the same, but for the standard information of this node
pub record InfoDiffers (n : ℕ) (info : StdInfo) (t u : Tree) : Type 0 where
  pub node : node_by_number u.nodes n ≡ option_map (with_info info) (node_by_number t.nodes n)
  pub others : (m : ℕ) → m ≢ n → node_by_number u.nodes m ≡ node_by_number t.nodes m
  pub links : u.links ≡ t.links
  pub spare : u.spare ≡ t.spare
  pub count : u.count ≡ t.count
  pub journal : u.journal ≡ t.journal
  pub room : u.room ≡ t.room

-- Where a file's record is put whole, with nothing but its standard information written anew, a state becomes one of a tree that
-- differs in this alone.
pub record TimesChanged : Type 0 where
  pub stands : (c : Content) (g : Geometry) (clusters : ℕ) (v : Volume) (n : ℕ) (r s : Record) (w : NewBody) → HasSizes c → Stands c g clusters v → IsApart n → PutsRecord v n r s w → RewritesValues is_info r s → Stands (content_with c (w ∷ [])) g clusters (with_record v n s)
  pub tree : (c : Content) (g : Geometry) (clusters : ℕ) (v : Volume) (n : ℕ) (r s : Record) (w : NewBody) → HasSizes c → Stands c g clusters v → IsApart n → PutsRecord v n r s w → RewritesValues is_info r s
      → InfoDiffers n (info_of s) (tree_of c v) (tree_of (content_with c (w ∷ [])) (with_record v n s))
