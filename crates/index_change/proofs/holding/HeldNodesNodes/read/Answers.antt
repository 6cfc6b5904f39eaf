use Rattle.std.proofs.Common.{◌≡◌, Some}
use Rattle.std.specs.Ordering.{nat_cmp}
use Rattle.std.specs.BTreeMap.{get}
use Rattle.record_model.specs.disk_model.Content.{Content}
use Rattle.index_tree.specs.index_model.Indexes.{node_of_block}
use Rattle.index_tree.specs.Places.{place_of}
use Rattle.index_change.proofs.Insertions.{read_known, read_quiet}
use Rattle.index_change.proofs.holding.HeldNodesNodes.read.Goals as goal

pub returns-in-Some-clause-node : goal.returns-in-Some-clause-node
returns-in-Some-clause-node g c =
    let got : get nat_cmp c.args.self.now.held.now c.args.vcn ≡ Some c.in-Some.node.now = cc (c.in-Some.ensures.value) in
    read_known (g.V.View.content c.args.self.now.v.now) (λ (content : Content). node_of_block content (place_of c.args.self.now.dir.now)) c.args.vcn c.args.self.now.held.now c.in-Some.node.now c.sized_copy.result c.args.self.now.right got c.sized_copy.ensures.copy c.sized_copy.ensures.fault

pub returns-in-Some-clause-cause : goal.returns-in-Some-clause-cause
returns-in-Some-clause-cause g c = read_quiet c.sized_copy.result c.sized_copy.ensures.fault
