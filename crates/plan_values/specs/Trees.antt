-- The tree where a file's standard information and data are other ones.
use Rattle.std.specs.Prelude.{◌≡◌, ◌≢◌, ℕ, List, Option}
use Rattle.std.specs.Option.{option_map}
use Rattle.disk_model.specs.Content.{Content}
use Rattle.plan_growth.specs.record_model.declared.values.StdInfo.{StdInfo}
use Rattle.plan_growth.specs.record_model.Records.{Record}
use Rattle.plan_growth.specs.file_tree.declared.tree.Tree.{Tree}
use Rattle.plan_growth.specs.file_tree.Trees.{node_at as node_by_number}
use Rattle.plan_growth.specs.state_model.declared.stream.Stream.{Stream}
use Rattle.plan_growth.specs.state_model.Files.{info_of}
use Rattle.plan_growth.specs.volume_model.Volumes.{Volume, bytes_or}
use Rattle.plan_growth.specs.volume_model.Nodes.{kind_in, data_shown}
use Rattle.plan_growth.specs.volume_state.Trees.{tree_of}
use Rattle.plan_growth.specs.plan_model.Informed.{with_record, with_info}
use Rattle.plan_growth.specs.Trees.{with_data}

-- the trees are the same, but for the standard information and the data of this node
pub record FileDiffers (n : ℕ) (info : StdInfo) (shown : Option Stream) (bytes : List ℕ) (t u : Tree) : Type 0 where
  pub node : node_by_number u.nodes n ≡ option_map (λ a. with_info info (with_data shown bytes a)) (node_by_number t.nodes n)
  pub others : (m : ℕ) → m ≢ n → node_by_number u.nodes m ≡ node_by_number t.nodes m
  pub links : u.links ≡ t.links
  pub spare : u.spare ≡ t.spare
  pub count : u.count ≡ t.count
  pub journal : u.journal ≡ t.journal
  pub room : u.room ≡ t.room

-- what the node showed is shown of its record as it now is
abbrev pub FileFollows : Content → Content → Volume → ℕ → Record → Record → Type 0
FileFollows c d v n r s = FileDiffers n (info_of s) (data_shown (kind_in v n r) s) (bytes_or d v.per (data_shown (kind_in v n r) s)) (tree_of c v) (tree_of d (with_record v n s))
