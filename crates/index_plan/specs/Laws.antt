-- Laws of index trees.
use Rattle.std.specs.Prelude.{◌≡◌, ◌⊎◌, ℕ, ◌+◌, ◌≤◌, ◌<◌, Bool, List, [], ◌∷◌, ◌++◌, Option, Some, None, IsTrue, length, Ok, true, false}
use Rattle.index_model.specs.declared.key.Key.{Key}
use Rattle.record_model.specs.declared.entry.Entry.{Entry as Raw}
use Rattle.index_plan.specs.declared.plan.Rooted.{Rooted}
use Rattle.index_model.specs.Trees.{Tree, raw, walk, times, held, levels, one_if, raws_of, Stands}
use Rattle.index_plan.specs.Paths.{over, written_vcns, Path, subtree, graft}
use Rattle.index_plan.specs.Growth.{Grown, regrown, fits_in}
use Rattle.index_plan.specs.Search.{path_to, put, Rises}
use Rattle.index_plan.specs.Takings.{drawn, none_drawn, plan_with, key_of, removed, too_full, StartsWith, first_chain}
use Rattle.index_plan.specs.declared.side.KeySide.{KeySide}
use Rattle.index_plan.specs.declared.side.KeySide.TheVariants as sides
use Rattle.index_plan.specs.declared.place.Place.{Place}
use Rattle.record_model.specs.Nodes.{entries_length, last_entry}
use Rattle.index_plan.specs.declared.write.Write.{Write}
use Rattle.index_plan.specs.Plans.{Plan, Spot}
use Rattle.index_plan.specs.Reading.{NodeReads, first_stop, way_of}
use Rattle.index_plan.specs.Room.{tight_count, EachSpotSized, EachNodeSized}
use Rattle.index_plan.specs.Seeking.{InOrder, NoneHere, seek_of}
use Rattle.index_plan.specs.Lists.{Rise, rise, way, place, rooted, overfull}

-- cutting nodes in two changes no walk
abbrev pub RegrownWalk : Type 0
RegrownWalk = (p : Path) (start : Grown) (t : Tree) → walk (regrown p start t).tree ≡ walk (graft p start.tree t)

-- each number is used as often as before
abbrev pub RegrownNumbers : Type 0
RegrownNumbers = (p : Path) (start : Grown) (t : Tree) (x : ℕ) → held x (regrown p start t).tree + times x (regrown p start t).fresh ≡ held x (graft p start.tree t) + times x start.fresh

-- What an index is after a plan: the tree of the root's new entries and the nodes after the writes; each written node is one of
-- the tree, and written once. Without a level more, the root has room for its entries, or they are those from before; with one,
-- it has one entry alone, below which the others stand.
pub record NewTree (nodes : ℕ → Option (List Raw)) (t : Tree) (fresh : List ℕ) (keys : List Key) (freed : ℕ → ℕ) (room : ℕ) (more : Bool) (r : Rooted) : Type 0 where
  pub tree : Tree
  pub root : r.root ≡ raws_of tree
  pub stands : Stands (over nodes r.plan.writes) tree
  pub walked : walk tree ≡ keys
  pub numbers : (x : ℕ) → held x tree + times x r.plan.fresh + freed x ≡ held x t + times x fresh
  pub placed : (x : ℕ) → times x (written_vcns r.plan.writes) ≤ held x tree
  pub height : levels tree ≤ levels t + one_if more
  pub has_room : more ≡ false → (fits_in room r.root ≡ true) ⊎ (r.root ≡ raws_of t)
  pub one_entry : more ≡ true → 17 ≤ length fresh → (f : ℕ) × (r.root ≡ last_entry (Some f) ∷ [])
  pub written : length r.plan.writes ≤ 33
  pub taken : length fresh ≤ length r.plan.fresh + 17

abbrev pub Once : Tree → List ℕ → Type 0
Once t fresh = (x : ℕ) → held x t + times x fresh ≤ 1

abbrev pub inserted_by : Path → Key → List ℕ → Tree → Rise
inserted_by p new fresh t = rise (way p t) (record { pending = Some (raw new None); plan = record { writes = []; fresh = fresh } })

-- an insertion puts one key into the list; each node that changes is written; a level comes only where the root is overfull
abbrev pub InsertLaw : Type 0
InsertLaw = (nodes : ℕ → Option (List Raw)) (goes : Key → Bool) (new : Key) (fresh : List ℕ) (t : Tree) (room : ℕ)
    → Stands nodes t → Once t fresh → Rises goes (walk t) → levels t ≤ 16
    → let p = path_to goes t in
    let r = inserted_by p new fresh t in
    NewTree nodes t fresh (put goes new (walk t)) (λ x. 0) room (overfull room (raws_of t) (place p) r) (rooted room (raws_of t) (place p) r)

-- a removal takes one key out of the list
abbrev pub RemoveLaw : Type 0
RemoveLaw = (nodes : ℕ → Option (List Raw)) (k : Key) (fresh : List ℕ) (p : Path) (t s : Tree) (room : ℕ)
    → Stands nodes t → Once t fresh → levels t ≤ 16 → subtree p t ≡ Some s → StartsWith k s
    → let d = drawn none_drawn (first_chain s) in
    let plan = plan_with (record { writes = []; fresh = fresh }) d.taken in
    (before : List Key) × (behind : List Key) × (walk t ≡ before ++ k ∷ behind)
    × NewTree nodes t fresh (before ++ behind) (λ x. times x d.freed) room (too_full room (raws_of t) (place p) (way p t) (key_of d.taken) plan) (removed room (raws_of t) (place p) (way p t) (key_of d.taken) plan)

-- of each index that the nodes stand for, the plan makes the index with one key more
abbrev pub InsertsInto : (ℕ → Option (List Raw)) → (Key → Bool) → Key → List ℕ → List Raw → ℕ → Rooted → Type 0
InsertsInto nodes goes new fresh root room planned = (t : Tree) → root ≡ raws_of t → Stands nodes t → Once t fresh → Rises goes (walk t) → levels t ≤ 16
    → NewTree nodes t fresh (put goes new (walk t)) (λ x. 0) room (overfull room (raws_of t) (place (path_to goes t)) (inserted_by (path_to goes t) new fresh t)) planned

-- what follows of each index that the nodes stand for from whether one key more needs a level
abbrev pub AsLevel : (ℕ → Option (List Raw)) → (Key → Bool) → Key → List ℕ → List Raw → ℕ → (Bool → Type 0) → Type 0
AsLevel nodes goes new fresh root room P = (t : Tree) → root ≡ raws_of t → Stands nodes t → levels t ≤ 16 → P (overfull room (raws_of t) (place (path_to goes t)) (inserted_by (path_to goes t) new fresh t))

-- the index has no room for one key more unless it gets a level
abbrev pub NeedsLevel : (ℕ → Option (List Raw)) → (Key → Bool) → Key → List ℕ → List Raw → ℕ → Type 0
NeedsLevel nodes goes new fresh root room = AsLevel nodes goes new fresh root room IsTrue

-- a level more comes only to an index that has fewer than sixteen
abbrev pub LevelFits : (ℕ → Option (List Raw)) → (Key → Bool) → Key → List ℕ → List Raw → ℕ → ℕ → Type 0
LevelFits nodes goes new fresh root room height = AsLevel nodes goes new fresh root room (λ more. IsTrue more → height < 16)

-- Along the way that is read, the plan is the one of which the laws speak; and a fresh block is taken only for a node on the way that had fewer than
-- 600 free bytes, or for the level.
abbrev pub PlansAlong : NodeReads → (Key → Bool) → Key → Plan → List Raw → ℕ → Rooted → Type 0
PlansAlong reads goes new plan root room planned = (path : List Spot) → way_of reads goes root ≡ Ok path
    → let r = rise path (record { pending = Some (raw new None); plan = plan }) in
    (planned ≡ rooted room root (first_stop goes root) r) × (length plan.fresh ≤ length planned.plan.fresh + tight_count path + one_if (overfull room root (first_stop goes root) r))

-- ---- removal

-- an entry of the index with a key that is looked for
pub record Sought (side : Key → KeySide) (t : Tree) : Type 0 where
  pub key : Key
  pub here : side key ≡ sides.Here
  pub way_to : Path
  pub part : Tree
  pub leads : subtree way_to t ≡ Some part
  pub starts : StartsWith key part

-- whether the root has no room for its entries after the entry is taken out
abbrev pub full_without : ℕ → (t : Tree) → Path → Tree → List ℕ → Bool
full_without room t p part fresh =
    let d = drawn none_drawn (first_chain part) in
    too_full room (raws_of t) (place p) (way p t) (key_of d.taken) (plan_with (record { writes = []; fresh = fresh }) d.taken)

-- the index without that entry; a level more comes only to one that has fewer than sixteen
pub record TakesOut (nodes : ℕ → Option (List Raw)) (side : Key → KeySide) (fresh : List ℕ) (t : Tree) (room height : ℕ) (planned : Rooted) (freed : List ℕ) : Type 0 where
  pub sought : Sought side t
  pub before : List Key
  pub behind : List Key
  pub had : walk t ≡ before ++ sought.key ∷ behind
  pub new : NewTree nodes t fresh (before ++ behind) (λ x. times x freed) room (full_without room t sought.way_to sought.part fresh) planned
  pub level : IsTrue (full_without room t sought.way_to sought.part fresh) → height < 16

-- of each index that the nodes stand for, the plan makes the index without one key
abbrev pub RemovesFrom : (ℕ → Option (List Raw)) → (Key → KeySide) → List ℕ → List Raw → ℕ → ℕ → Rooted → List ℕ → Type 0
RemovesFrom nodes side fresh root room height planned freed = (t : Tree) → root ≡ raws_of t → Stands nodes t → Once t fresh → levels t ≤ 16 → TakesOut nodes side fresh t room height planned freed

-- without the key, the root of each index that the nodes stand for has no room for its entries
abbrev pub NeedsLevelWithout : (ℕ → Option (List Raw)) → (Key → KeySide) → List ℕ → List Raw → ℕ → Type 0
NeedsLevelWithout nodes side fresh root room = (t : Tree) → root ≡ raws_of t → Stands nodes t → levels t ≤ 16 → (s : Sought side t) × IsTrue (full_without room t s.way_to s.part fresh)

-- no index that the nodes stand for has the key
abbrev pub HasNone : (ℕ → Option (List Raw)) → (Key → KeySide) → List Raw → Type 0
HasNone nodes side root = (t : Tree) → root ≡ raws_of t → Stands nodes t → levels t ≤ 16 → InOrder side (walk t) → NoneHere side (walk t)

abbrev pub TakesFewOut : NodeReads → (Key → KeySide) → Plan → List Raw → ℕ → Rooted → Type 0
TakesFewOut reads side plan root room planned = (p : Place) → seek_of reads side root ≡ Ok (Some p)
    → let d = drawn none_drawn p.trail.chain in
    length plan.fresh ≤ length planned.plan.fresh + tight_count p.trail.path + one_if (too_full room root p.at p.trail.path (key_of d.taken) (plan_with plan d.taken))

-- A level comes only where the root has room for fewer than 600 bytes more: where it takes an entry that was pending on the
-- way, and where an entry is taken out of the way's last node or has another key.
pub record LevelLaw : Type 0 where
  pub inserts : (room : ℕ) (root : List Raw) (at : ℕ) (path : List Spot) (new : Key) (plan : Plan) → plan.writes ≡ [] → EachSpotSized path → length path ≤ length plan.fresh → length new.value ≤ 576 → overfull room root at (rise path (record { pending = Some (raw new None); plan = plan })) ≡ true → room < entries_length root + 600
  pub removes : (room : ℕ) (root : List Raw) (at : ℕ) (path : List Spot) (chain : List Write) (plan : Plan) → plan.writes ≡ [] → EachSpotSized path → EachNodeSized chain → length path ≤ length plan.fresh → too_full room root at path (key_of (drawn none_drawn chain).taken) (plan_with plan (drawn none_drawn chain).taken) ≡ true → room < entries_length root + 600
