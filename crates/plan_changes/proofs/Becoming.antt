-- Trees that differ by one node.
use Rattle.std.proofs.Common.{◌≡◌, ℕ, List, Option, Some, refl, ap, ◌∙◌}
use Rattle.std.specs.Option.{option_map}
use Rattle.plan_informed.specs.record_model.declared.values.StdInfo.{StdInfo}
use Rattle.tree_model.specs.file_tree.declared.node.Node.{Node}
use Rattle.tree_model.specs.file_tree.declared.tree.Tree.{Tree}
use Rattle.tree_model.specs.file_tree.Trees.{node_at as node_by_number}
use Rattle.plan_informed.specs.state_model.declared.stream.Stream.{Stream}
use Rattle.plan_informed.specs.plan_model.Informed.{with_info, InfoDiffers}
use Rattle.plan_informed.specs.plan_growth.Trees.{with_data, DataDiffers}
use Rattle.plan_informed.specs.plan_values.Trees.{FileDiffers}
use Rattle.plan_changes.specs.Nodes.{NodeBecomes, NodesBecome}

pub data_becomes : (n : ℕ) (shown : Option Stream) (bytes : List ℕ) (a : Node) (t u : Tree) → node_by_number t.nodes n ≡ Some a → DataDiffers n shown bytes t u → NodeBecomes n a (with_data shown bytes a) t u
data_becomes n shown bytes a t u was k = record {
  was = was;
  is = k.node ∙ ap (option_map (with_data shown bytes)) was;
  others = k.others;
  links = k.links;
  spare = k.spare;
  count = k.count;
  journal = k.journal;
}

pub info_becomes : (n : ℕ) (info : StdInfo) (a : Node) (t u : Tree) → node_by_number t.nodes n ≡ Some a → InfoDiffers n info t u → NodeBecomes n a (with_info info a) t u
info_becomes n info a t u was k = record {
  was = was;
  is = k.node ∙ ap (option_map (with_info info)) was;
  others = k.others;
  links = k.links;
  spare = k.spare;
  count = k.count;
  journal = k.journal;
}

pub both_become : (n : ℕ) (info : StdInfo) (shown : Option Stream) (bytes : List ℕ) (a : Node) (t u : Tree) → node_by_number t.nodes n ≡ Some a → FileDiffers n info shown bytes t u → NodeBecomes n a (with_info info (with_data shown bytes a)) t u
both_become n info shown bytes a t u was k = record {
  was = was;
  is = k.node ∙ ap (option_map (λ (x : Node). with_info info (with_data shown bytes x))) was;
  others = k.others;
  links = k.links;
  spare = k.spare;
  count = k.count;
  journal = k.journal;
}

pub nodes_are : NodesBecome
nodes_are = record {
  itself = λ n a t was. record { was = was; is = was; others = λ m other. refl; links = refl; spare = refl; count = refl; journal = refl };
  shown = data_becomes;
  informed = info_becomes;
  changed = both_become;
  behind = λ n a b d t u w first second. record {
    was = first.was;
    is = second.is;
    others = λ m other. second.others m other ∙ first.others m other;
    links = second.links ∙ first.links;
    spare = second.spare ∙ first.spare;
    count = second.count ∙ first.count;
    journal = second.journal ∙ first.journal;
  };
}
