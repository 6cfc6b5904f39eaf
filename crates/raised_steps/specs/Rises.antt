-- Where an index may get a level more though its root has room: its record would be too full with the blocks that a plan takes.
use Rattle.std.specs.Prelude.{◌≡◌, ℕ, ◌<◌, false, List, length}
use Rattle.disk_model.specs.Content.{Content}
use Rattle.record_model.specs.Records.{Record, used_of}
use Rattle.index_model.specs.declared.key.Key.{Key}
use Rattle.index_model.specs.Trees.{Tree, raws_of}
use Rattle.index_model.specs.Laws.{HoldsIndex}
use Rattle.index_change.specs.declared.nodes_plan.NodesPlan.{NodesPlan}
use Rattle.index_change.specs.Plans.{root_room, seventeen, needs_level}
use Rattle.volume_model.specs.Indexes.{index_place}
use Rattle.volume_model.specs.Volumes.{Volume, upper_of}
use Rattle.made_trees.specs.step_model.Used.{most_used}
use Rattle.made_trees.specs.step_model.Spreads.{IsCrowded}
use Rattle.made_trees.specs.step_model.Plans.{spread_used}
use Rattle.made_steps.specs.Behind.{MayRise}
use Rattle.made_steps.specs.Refused.{PlansKey}

-- A plan of nodes for this index needs no level and takes some block, and by the count of a step the directory's record would have above 1,024 used
-- bytes with so many of these blocks. Where the record is crowded with the key, a step allows a level.
abbrev pub RisesWhereFull : Type 0
RisesWhereFull = (c : Content) (v : Volume) (n : ℕ) (r : Record) (value : List ℕ) (used : ℕ) (key : Key) (fresh : List ℕ) (t : Tree) (nodes : NodesPlan) (more : ℕ) → HoldsIndex c (index_place v.per r) (upper_of c v) value t → PlansKey c v r value used t key fresh nodes more
    → needs_level (upper_of c v) (root_room used value) key (seventeen fresh) t ≡ false → 0 < length nodes.taken.items → ((x : Tree) → nodes.root ≡ raws_of x → most_used < spread_used c v n r x more) → IsCrowded (used_of r.attrs) key t
    → MayRise c v n r value key t
