-- An index that got a level before a key is put in: its root has one child, whose node has the entries that the root had.
use Rattle.std.specs.Prelude.{◌≡◌, ◌≢◌, ◌⊎◌, ℕ, ◌+◌, ◌≤◌, false, true, List, [], ◌∷◌, length, insert, Option, Some}
use Rattle.step_model.specs.disk_model.Content.{Content}
use Rattle.plan_model.specs.record_model.declared.entry.Entry.{Entry as Raw}
use Rattle.plan_model.specs.record_model.Nodes.{last_entry}
use Rattle.plan_model.specs.record_model.Values.{is_file_name}
use Rattle.plan_model.specs.index_model.declared.key.Key.{Key}
use Rattle.plan_model.specs.index_model.Trees.{Tree, Down, raws_of}
use Rattle.plan_model.specs.index_model.Indexes.{Place}
use Rattle.plan_model.specs.index_model.Laws.{HoldsIndex}
use Rattle.plan_model.specs.index_plan.Laws.{Once}
use Rattle.plan_model.specs.index_plan.Room.{is_tight, RootSized}
use Rattle.plan_model.specs.index_change.declared.nodes_plan.NodesPlan.{NodesPlan}
use Rattle.plan_model.specs.index_change.NodePlans.{NewNodes}
use Rattle.plan_model.specs.index_change.Plans.{root_room, seventeen, needs_level}
use Rattle.step_model.specs.Spreads.{blocks_in, IsSpread}
use Rattle.node_spreads.specs.Nodes.{WritesFit}

-- A plan that puts a key into such an index, whose child has 600 free bytes, leaves its root, and needs no level.
abbrev pub RootsStay : Type 0
RootsStay = (c : Content) (p : Place) (upper value : List ℕ) (used : ℕ) (key : Key) (fresh : List ℕ) (f : ℕ) (t : Tree) (n : NodesPlan) → is_file_name key.value ≡ true → HoldsIndex c p upper value (Down f t) → is_tight (raws_of t) ≡ false → 17 ≤ length fresh
    → NewNodes c p upper value used key fresh (Down f t) n → (needs_level upper (root_room used value) key (seventeen fresh) (Down f t) ≡ false) × (n.root ≡ last_entry (Some f) ∷ [])

-- Where the index with the level and the key has the child alone below its root, and is spread as one that needs no further level, the index from before is spread so with a level more.
-- All other nodes are those from before.
abbrev pub LevelsLift : Type 0
LevelsLift = (nodes raised : ℕ → Option (List Raw)) (upper : List ℕ) (room given : ℕ) (key : Key) (f : ℕ) (t s : Tree) (more : ℕ) → raised f ≡ Some (raws_of t) → ((i : ℕ) → i ≢ f → raised i ≡ nodes i) → is_tight (raws_of t) ≡ false → raws_of s ≡ last_entry (Some f) ∷ []
    → blocks_in s ≡ blocks_in (Down f t) + more → IsSpread raised upper given key (Down f t) false s more → IsSpread nodes upper room key t true s (1 + more)

-- Each node that a plan of a key writes has room in its block, where the entries of the root lie in a file record.
abbrev pub PlansFit : Type 0
PlansFit = (c : Content) (p : Place) (upper value : List ℕ) (used : ℕ) (key : Key) (fresh : List ℕ) (t : Tree) (n : NodesPlan) → is_file_name key.value ≡ true → HoldsIndex c p upper value t → RootSized (raws_of t) → 17 ≤ length fresh → NewNodes c p upper value used key fresh t n → WritesFit n

-- The root of a plan that needs no level is that from before, or has one entry more.
abbrev pub RootsGrow : Type 0
RootsGrow = (c : Content) (p : Place) (upper value : List ℕ) (used : ℕ) (key : Key) (fresh : List ℕ) (t : Tree) (n : NodesPlan) → NewNodes c p upper value used key fresh t n → needs_level upper (root_room used value) key (seventeen fresh) t ≡ false
    → (n.root ≡ raws_of t) ⊎ ((e : Raw) × (at : ℕ) × (n.root ≡ insert (raws_of t) at e))
