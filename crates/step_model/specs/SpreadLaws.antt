-- A plan of a directory's index spreads it as an operation may.
use Rattle.std.specs.Prelude.{ℕ, ◌-◌, ◌≤◌, List}
use Rattle.record_writer.specs.disk_model.Content.{Content, HasSizes}
use Rattle.plan_model.specs.file_tree.declared.link.Link.{Link}
use Rattle.plan_model.specs.index_model.declared.key.Key.{Key}
use Rattle.plan_model.specs.index_model.Trees.{Tree, walk}
use Rattle.plan_model.specs.index_model.Indexes.{Place, node_of_block, nodes_of}
use Rattle.plan_model.specs.index_plan.Search.{put}
use Rattle.plan_model.specs.index_change.declared.plan.DirPlan.{DirPlan}
use Rattle.plan_model.specs.index_change.Changing.{IsLaidOut, uses}
use Rattle.plan_model.specs.index_change.Orders.{goes, link_of}
use Rattle.plan_model.specs.index_change.Plans.{root_room, seventeen, needs_level, NewIndex, TakesLittle}
use Rattle.step_model.specs.Spreads.{blocks_in, IsSpread}

-- The index after a plan that puts a key in is spread so, with a level more where the plan needs one. As many of its fresh blocks as it
-- likes lie behind those that there were.
abbrev pub PlansSpread : Type 0
PlansSpread = (c : Content) (p : Place) (upper value : List ℕ) (used : ℕ) (t : Tree) (fresh : List ℕ) (key : Key) (meant : List Link) (plan : DirPlan) (behind : ℕ) → HasSizes c → IsLaidOut p (uses t fresh)
    → (n : NewIndex c p upper value used t fresh (needs_level upper (root_room used value) key (seventeen fresh) t) (put (goes upper (link_of key).name) key (walk t)) meant plan) → TakesLittle upper value used key fresh t plan → behind ≤ blocks_in n.tree - blocks_in t
    → IsSpread (nodes_of (node_of_block c p)) upper (root_room used value) key t (needs_level upper (root_room used value) key (seventeen fresh) t) n.tree behind
