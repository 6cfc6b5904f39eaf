-- The laws of a volume's tree.
use Rattle.std.specs.Prelude.{◌≡◌, ℕ, map, Some, Ok, Err}
use Rattle.std.specs.Option.{option_map}
use Rattle.volume_model.specs.disk_model.Content.{Content}
use Rattle.volume_model.specs.file_tree.declared.tree.Tree.{Tree}
use Rattle.volume_model.specs.file_tree.Trees.{without_bytes}
use Rattle.volume_model.specs.state_model.declared.broken.Broken.{Broken}
use Rattle.volume_model.specs.state_model.declared.geometry.Geometry.{Geometry}
use Rattle.volume_model.specs.Volumes.{Volume, volume_of}
use Rattle.volume_state.specs.Rules.{first_broken}
use Rattle.volume_state.specs.Trees.{Holds, IsState, checked, without_records}

-- the tree without the bytes of its nodes and the records of its journal
abbrev pub bare : Tree → Tree
bare t = record {
  nodes = map without_bytes t.nodes;
  links = t.links;
  spare = t.spare;
  count = t.count;
  journal = option_map without_records t.journal;
  room = t.room;
}

-- a check reports the tree that the volume stands for, without bytes and records; or the rule that keeps it from standing for any
pub record ReportOfTree : Type 0 where
  pub holds : (c : Content) (v : Volume) (t : Tree) → Holds c v t → checked c v ≡ Ok (bare t)
  pub reports : (c : Content) (v : Volume) (t : Tree) → checked c v ≡ Ok t → (u : Tree) × Holds c v u × (t ≡ bare u)
  pub breaks : (c : Content) (v : Volume) (b : Broken) → checked c v ≡ Err b → first_broken c v ≡ Some b

-- a content stands for one tree at most, as that of a volume; and for one just where a check of the volume that is loaded from it
-- reports one, which is this tree without bytes and records
pub record CheckOfState : Type 0 where
  pub one : (c : Content) (g : Geometry) (clusters : ℕ) (t u : Tree) → IsState c g clusters t → IsState c g clusters u → t ≡ u
  pub reported : (c : Content) (g : Geometry) (clusters : ℕ) (t : Tree) (s : IsState c g clusters t) → checked c s.volume ≡ Ok (bare t)
  pub stands : (c : Content) (g : Geometry) (clusters : ℕ) (v : Volume) (t : Tree) → volume_of c g clusters ≡ Ok v → checked c v ≡ Ok t → (u : Tree) × IsState c g clusters u × (t ≡ bare u)
