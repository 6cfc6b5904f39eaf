-- What an index would be without a level more, where a plan needs one.
use Rattle.std.specs.Prelude.{◌≡◌, ℕ, ◌≤◌, true, false, List, length}
use Rattle.step_model.specs.disk_model.Content.{Content}
use Rattle.plan_model.specs.record_model.Values.{is_file_name}
use Rattle.plan_model.specs.index_model.declared.key.Key.{Key}
use Rattle.plan_model.specs.index_model.Trees.{Tree}
use Rattle.plan_model.specs.index_model.Indexes.{Place, node_of_block, nodes_of}
use Rattle.plan_model.specs.index_model.Laws.{HoldsIndex}
use Rattle.plan_model.specs.index_plan.Laws.{Once}
use Rattle.plan_model.specs.index_change.Plans.{root_room, seventeen, needs_level}
use Rattle.step_model.specs.Spreads.{IsSpread, IsTightWay, IsCrowded, way_of}

-- The index could be spread without a level more, with one entry more in its root, whatever room that has. Each block on the entry's way has
-- fewer than 600 free bytes, and the record is crowded with the root.
pub record CouldStayFlat (c : Content) (p : Place) (upper value : List ℕ) (used : ℕ) (key : Key) (t : Tree) : Type 0 where
  pub flat : Tree
  pub spread : (room : ℕ) → IsSpread (nodes_of (node_of_block c p)) upper room key t false flat 0
  pub tight : IsTightWay (way_of upper key t)
  pub crowded : IsCrowded used key t

-- So it is where a key that is a file name would need a level by a plan of at least seventeen fresh VCNs.
abbrev pub LevelsAreNeeded : Type 0
LevelsAreNeeded = (c : Content) (p : Place) (upper value : List ℕ) (used : ℕ) (key : Key) (fresh : List ℕ) (t : Tree) → is_file_name key.value ≡ true → HoldsIndex c p upper value t → Once t (seventeen fresh) → 17 ≤ length fresh
    → needs_level upper (root_room used value) key (seventeen fresh) t ≡ true → CouldStayFlat c p upper value used key t
