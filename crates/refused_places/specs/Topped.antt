-- An index whose root goes down as a whole: its entries stand in a fresh block below a root with one child.
use Rattle.std.specs.Prelude.{◌≡◌, ℕ, ◌+◌, ◌≤◌, true, false, List, Option}
use Rattle.record_model.specs.declared.entry.Entry.{Entry as Raw}
use Rattle.record_model.specs.Nodes.{node_used, node_room}
use Rattle.index_model.specs.declared.key.Key.{Key}
use Rattle.index_model.specs.Trees.{Tree, Down, held, raws_of}
use Rattle.place_makes.specs.made_trees.step_model.Spreads.{blocks_in, IsSpread}

-- Where an index without a level more is spread so, for whatever room, has no fewer blocks than before, and its root's entries have room in a block, it
-- is spread with the level too, by a block of a number that it hasn't.
abbrev pub LevelsTop : Type 0
LevelsTop = (nodes : ℕ → Option (List Raw)) (upper : List ℕ) (given room : ℕ) (key : Key) (t s : Tree) (f more : ℕ) → IsSpread nodes upper given key t false s more → held f s ≡ 0 → blocks_in t ≤ blocks_in s → node_used (raws_of s) ≤ node_room
    → IsSpread nodes upper room key t true (Down f s) (1 + more) × (blocks_in (Down f s) ≡ 1 + blocks_in s)
