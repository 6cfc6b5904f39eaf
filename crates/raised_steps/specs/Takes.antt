-- How many blocks a key takes in an index, and in the same index with a level more.
use Rattle.std.specs.Prelude.{◌≡◌, ℕ, ◌≤◌, true, false, List, length}
use Rattle.disk_model.specs.Content.{Content}
use Rattle.record_model.specs.Values.{is_file_name}
use Rattle.index_model.specs.declared.key.Key.{Key}
use Rattle.index_model.specs.Trees.{Tree, Down, raws_of}
use Rattle.index_model.specs.Indexes.{Place}
use Rattle.index_model.specs.Laws.{HoldsIndex}
use Rattle.index_change.specs.index_plan.Room.{is_tight}
use Rattle.index_change.specs.declared.nodes_plan.NodesPlan.{NodesPlan}
use Rattle.index_change.specs.NodePlans.{NewNodes, TakesFront}
use Rattle.index_change.specs.Plans.{root_room, seventeen, needs_level}

-- For a record without used bytes, a plan that puts a file name into an index needs no level.
abbrev pub NeverNeedsLevel : Type 0
NeverNeedsLevel = (c : Content) (p : Place) (upper value : List ℕ) (key : Key) (fresh : List ℕ) (t : Tree) → is_file_name key.value ≡ true → HoldsIndex c p upper value t → 17 ≤ length fresh → needs_level upper (root_room 0 value) key (seventeen fresh) t ≡ false

-- A plan for an index that needs no level, and one for the index that got a level before, whose child has 600 free bytes, take as many blocks for the
-- same key of the same fresh VCNs, whatever used bytes they are for.
abbrev pub TakesAlike : Type 0
TakesAlike = (c d : Content) (p q : Place) (upper value raised : List ℕ) (used given : ℕ) (key : Key) (fresh : List ℕ) (f : ℕ) (t : Tree) (n m : NodesPlan) → is_file_name key.value ≡ true → HoldsIndex d q upper raised (Down f t) → is_tight (raws_of t) ≡ false → 17 ≤ length fresh
    → NewNodes c p upper value used key fresh t n → TakesFront fresh n → needs_level upper (root_room used value) key (seventeen fresh) t ≡ false → NewNodes d q upper raised given key fresh (Down f t) m → TakesFront fresh m
    → length n.taken.items ≡ length m.taken.items

-- The entries of a root that lies in a file record have 600 free bytes as those of a block.
abbrev pub RootsAreLoose : Type 0
RootsAreLoose = (c : Content) (p : Place) (upper value : List ℕ) (t : Tree) → HoldsIndex c p upper value t → length value ≤ 1024 → is_tight (raws_of t) ≡ false
