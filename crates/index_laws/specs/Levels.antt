-- When an insertion adds a level to an index.
use Rattle.std.specs.Prelude.{◌≡◌, ◌⊎◌, ℕ, ◌+◌, ◌-◌, ◌<◌, ◌≤◌, Bool, true, false, List, [], ◌∷◌, Option, Some, None, All, insert, length}
use Rattle.record_model.specs.declared.entry.Entry.{Entry as Raw}
use Rattle.record_model.specs.Nodes.{entry_length, entries_length, last_entry}
use Rattle.index_model.specs.declared.key.Key.{Key}
use Rattle.index_model.specs.Trees.{Tree, Leaf, Down, Entry, DownEntry, raw, raws_of, walk, levels, Stands}
use Rattle.index_plan.specs.declared.write.Write.{Write}
use Rattle.index_plan.specs.declared.plan.Rooted.{Rooted}
use Rattle.index_plan.specs.Growth.{fits}
use Rattle.index_plan.specs.Laws.{InsertsInto, NeedsLevel, Once, inserted_by}
use Rattle.index_plan.specs.Lists.{Rise, halved, way}
use Rattle.index_plan.specs.Paths.{over}
use Rattle.index_plan.specs.Plans.{Spot}
use Rattle.index_plan.specs.Room.{EachSpotSized, is_tight}
use Rattle.index_plan.specs.Search.{path_to, Rises}

-- the file record, which has this room for the root's entries, has none for so many bytes more
abbrev pub NoRoom : ℕ → Tree → ℕ → Type 0
NoRoom room t more = room < entries_length (raws_of t) + more

-- the file record has no room for the root with the entry: the new one, where the index has no blocks; else it has none for 600
-- bytes more, and none for the entry that the root takes
pub record NoRoomForEntry (room : ℕ) (t : Tree) (new : Key) (r : Rise) : Type 0 where
  pub without_blocks : levels t ≡ 1 → NoRoom room t (entry_length (raw new None))
  pub with_blocks : NoRoom room t 600
  pub entry : Raw
  pub takes : r.pending ≡ Some entry
  pub with_entry : NoRoom room t (entry_length entry)

-- the root is a leaf where the new entry goes: the way to its place leads to no block
abbrev pub IsLeafThere : List Spot → Type 0
IsLeafThere path = path ≡ []

-- An entry was cut upwards and reached the root. The block below the root is too long with what it takes, and is split: the
-- entries before one of them go into a fresh block, those behind it stay, and the root takes that one. Each block on the way has
-- fewer than 600 free bytes.
pub record CutUpwards (path : List Spot) (r : Rise) : Type 0 where
  pub block : Spot
  pub below : List Spot
  pub first : path ≡ block ∷ below
  pub taken : Raw
  pub too_long : fits (insert block.node block.at taken) ≡ false
  pub at : ℕ
  pub into : ℕ
  pub writes : List Write
  pub fresh : List ℕ
  pub split : r ≡ halved at into block.vcn (insert block.node block.at taken) writes fresh
  pub tight : All (λ s. is_tight s.node ≡ true) path

-- why an insertion needs a level: the file record has no room for the root with the entry, and the root is a leaf there or takes
-- an entry that was cut upwards
pub record LevelCause (room : ℕ) (t : Tree) (new : Key) (path : List Spot) (r : Rise) : Type 0 where
  pub no_room : NoRoomForEntry room t new r
  pub reached : IsLeafThere path ⊎ CutUpwards path r

-- an index that has one level more after an insertion, which needed it: the root's entries are gone down into a new node
pub record LevelAdded (room : ℕ) (t after : Tree) (new : Key) (path : List Spot) (r : Rise) : Type 0 where
  pub one : levels after ≡ levels t + 1
  pub lowered : (f : ℕ) × (raws_of after ≡ last_entry (Some f) ∷ [])
  pub cause : LevelCause room t new path r

-- an insertion adds a level only where the file record has no room for the root with the entry, and the root is a leaf there or
-- takes an entry that was cut upwards
abbrev pub LevelOfInsertion : Type 0
LevelOfInsertion = (nodes : ℕ → Option (List Raw)) (goes : Key → Bool) (new : Key) (fresh : List ℕ) (t after : Tree) (room : ℕ) (planned : Rooted)
    → Stands nodes t → Once t fresh → Rises goes (walk t) → levels t ≤ 16 → EachSpotSized (way (path_to goes t) t) → 17 ≤ length fresh → length new.value ≤ 576
    → InsertsInto nodes goes new fresh (raws_of t) room planned
    → planned.root ≡ raws_of after → Stands (over nodes planned.plan.writes) after
    → levels t < levels after
    → LevelAdded room t after new (way (path_to goes t) t) (inserted_by (path_to goes t) new fresh t)

-- an insertion that is refused because it needs a level needs it for the same cause
abbrev pub LevelNeeded : Type 0
LevelNeeded = (nodes : ℕ → Option (List Raw)) (goes : Key → Bool) (new : Key) (fresh : List ℕ) (t : Tree) (room : ℕ)
    → Stands nodes t → levels t ≤ 16 → EachSpotSized (way (path_to goes t) t) → 17 ≤ length fresh → length new.value ≤ 576
    → NeedsLevel nodes goes new fresh (raws_of t) room
    → LevelCause room t new (way (path_to goes t) t) (inserted_by (path_to goes t) new fresh t)

-- where the root takes an entry that the file record has no room for, the root's entries go down into a new node
abbrev pub RootIsLowered : Type 0
RootIsLowered = (nodes : ℕ → Option (List Raw)) (goes : Key → Bool) (new : Key) (fresh : List ℕ) (t : Tree) (room : ℕ) (planned : Rooted) (entry : Raw)
    → Stands nodes t → Once t fresh → Rises goes (walk t) → levels t ≤ 16 → 17 ≤ length fresh
    → InsertsInto nodes goes new fresh (raws_of t) room planned
    → (inserted_by (path_to goes t) new fresh t).pending ≡ Some entry → NoRoom room t (entry_length entry)
    → (f : ℕ) × (planned.root ≡ last_entry (Some f) ∷ [])

-- each way down from the first node has so many nodes
abbrev pub HasEvenWays : ℕ → Tree → Type 0
HasEvenWays n Leaf = n ≡ 1
HasEvenWays n (Down v t) = (1 < n) × HasEvenWays (n - 1) t
HasEvenWays n (Entry key rest) = (n ≡ 1) × HasEvenWays n rest
HasEvenWays n (DownEntry v t key rest) = (1 < n) × HasEvenWays (n - 1) t × HasEvenWays n rest

-- where all ways down an index have as many nodes, its root is a leaf at a place only if the index has no blocks
abbrev pub EvenRootIsLeaf : Type 0
EvenRootIsLeaf = (goes : Key → Bool) (t : Tree) → HasEvenWays (levels t) t → IsLeafThere (way (path_to goes t) t) → levels t ≡ 1
