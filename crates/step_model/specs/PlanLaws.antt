-- The streams of a plan take the clusters that are chosen for them.
use Rattle.std.specs.Prelude.{ℕ}
use Rattle.record_writer.specs.disk_model.Content.{Content}
use Rattle.plan_model.specs.volume_model.Volumes.{Volume, cluster_bits}
use Rattle.run_model.specs.tree_model.declared.script.Op.{Op}
use Rattle.step_model.specs.Placing.{AllPlaced}
use Rattle.step_model.specs.Plans.{Plan, IsPlan}

-- Each stream of an operation's plan has its clusters by the one choice, behind the streams before it.
abbrev pub PlansPlaced : Type 0
PlansPlaced = (c : Content) (v : Volume) (op : Op) (end : ℕ) (p : Plan) → IsPlan c v op end p → AllPlaced (cluster_bits c v) p.growths
