-- How an index may be spread over its blocks with one entry more: all that an operation leaves free.
use Rattle.std.specs.Prelude.{◌≡◌, ◌⊎◌, ⊤, ℕ, ◌+◌, ◌-◌, ◌<◌, ◌≤◌, Bool, true, false, List, All, Option, Some, [], ◌∷◌}
use Rattle.plan_model.specs.record_model.declared.entry.Entry.{Entry as Raw}
use Rattle.plan_model.specs.record_model.Values.{is_file_name}
use Rattle.plan_model.specs.record_model.Records.{Record}
use Rattle.plan_model.specs.record_model.Constants.{standard_information}
use Rattle.plan_model.specs.record_model.Nodes.{node_used, node_room, entries_length, last_entry}
use Rattle.plan_model.specs.file_tree.declared.link.Link.{Link}
use Rattle.plan_model.specs.index_model.declared.key.Key.{Key}
use Rattle.plan_model.specs.index_model.Trees.{Tree, Leaf, Down, Entry, DownEntry, walk, held, levels, one_if, raws_of}
use Rattle.plan_model.specs.index_model.Indexes.{most_levels}
use Rattle.plan_model.specs.index_plan.Plans.{Spot}
use Rattle.plan_model.specs.index_plan.Growth.{fits_in}
use Rattle.plan_model.specs.index_plan.Lists.{way}
use Rattle.plan_model.specs.index_plan.Room.{is_tight, tight_count}
use Rattle.plan_model.specs.index_plan.Search.{path_to, put}
use Rattle.plan_model.specs.index_change.Orders.{goes, link_of}
use Rattle.plan_model.specs.index_change.Plans.{has_blocks, bytes_more}
use Rattle.plan_model.specs.state_model.Files.{has_type}
use Rattle.step_model.specs.Used.{most_used}

-- ---- an entry more

-- a key whose value is a file name, and that stands for this link
pub record IsKeyOf (l : Link) (key : Key) : Type 0 where
  pub lawful : is_file_name key.value ≡ true
  pub stands_for : link_of key ≡ l

-- how many blocks an index has
abbrev pub blocks_in : Tree → ℕ
blocks_in Leaf = 0
blocks_in (Down v t) = 1 + blocks_in t
blocks_in (Entry key rest) = blocks_in rest
blocks_in (DownEntry v t key rest) = 1 + blocks_in t + blocks_in rest

-- The block with this number has these entries: they stood there before, or they have room in it.
abbrev pub FitsBlock : (ℕ → Option (List Raw)) → ℕ → List Raw → Type 0
FitsBlock nodes v entries = (nodes v ≡ Some entries) ⊎ (node_used entries ≤ node_room)

abbrev pub FitBlocks : (ℕ → Option (List Raw)) → Tree → Type 0
FitBlocks nodes Leaf = ⊤
FitBlocks nodes (Down v t) = FitsBlock nodes v (raws_of t) × FitBlocks nodes t
FitBlocks nodes (Entry key rest) = FitBlocks nodes rest
FitBlocks nodes (DownEntry v t key rest) = FitsBlock nodes v (raws_of t) × FitBlocks nodes t × FitBlocks nodes rest

-- the blocks on the way to the place of a new entry, from the top
abbrev pub way_of : List ℕ → Key → Tree → List Spot
way_of upper key t = way (path_to (goes upper (link_of key).name) t) t

-- the root takes the new entry, or one that was cut upwards where a block was split
pub record TakesEntry (key : Key) (t s : Tree) : Type 0 where
  pub cause : (has_blocks t ≡ false) ⊎ (blocks_in t < blocks_in s)
  pub longer : entries_length (raws_of s) ≤ entries_length (raws_of t) + bytes_more key t

-- With a level more, the root has one entry alone, below which the others stand. Without one it stays, or its entries have room in the
-- record, or it takes one entry more.
abbrev pub RootMay : Bool → ℕ → Key → Tree → Tree → Type 0
RootMay true room key t s = (f : ℕ) × (raws_of s ≡ last_entry (Some f) ∷ [])
RootMay false room key t s = (raws_of s ≡ raws_of t) ⊎ (fits_in room (raws_of s) ≡ true) ⊎ TakesEntry key t s

-- The index with the entry in its order, with a level more or without; the record has this room for its root's entries. A fresh block is
-- taken only for the split of a block on the entry's way that has fewer than 600 free bytes, or for the level; so many of them lie behind
-- the blocks that there were.
pub record IsSpread (nodes : ℕ → Option (List Raw)) (upper : List ℕ) (room : ℕ) (key : Key) (t : Tree) (level : Bool) (s : Tree) (more : ℕ) : Type 0 where
  pub keys : walk s ≡ put (goes upper (link_of key).name) key (walk t)
  pub once : (v : ℕ) → held v s ≤ 1
  pub fit : FitBlocks nodes s
  pub root : RootMay level room key t s
  pub height : levels s ≤ levels t + one_if level
  pub fresh : blocks_in s ≤ blocks_in t + tight_count (way_of upper key t) + one_if level
  pub behind : more ≤ blocks_in s - blocks_in t

-- ---- a level more

-- The record that holds the root has this many used bytes before. It would have above 1,024 with 600 more, or, where the index has no blocks, with
-- the new entry.
abbrev pub IsCrowded : ℕ → Key → Tree → Type 0
IsCrowded used key t = most_used < used + bytes_more key t

-- each block on the entry's way has fewer than 600 free bytes
abbrev pub IsTightWay : List Spot → Type 0
IsTightWay path = All (λ s. is_tight s.node ≡ true) path

-- a block is split, and the record would have above 1,024 used bytes without the level
abbrev pub SplitsFull : Tree → Tree → ℕ → Type 0
SplitsFull t s used_without = (blocks_in t < blocks_in s) × (most_used < used_without)

-- the directory gets standard information, and its record would have above 1,024 used bytes without the level
abbrev pub InformsFull : Record → ℕ → Type 0
InformsFull r used_without = (has_type standard_information r ≡ false) × (most_used < used_without)

-- A level may be added. The record of the directory has so many used bytes before, and it would have so many with the index spread like
-- this, without a level more.
abbrev pub MayAddLevel : List ℕ → Key → Record → ℕ → Tree → Tree → ℕ → Type 0
MayAddLevel upper key r used t s used_without = (IsCrowded used key t × (IsTightWay (way_of upper key t) ⊎ SplitsFull t s used_without)) ⊎ InformsFull r used_without

-- ---- what becomes of an index

-- without a level more; with one, where without it the index would be this first one; or it has too many levels for one
pub data Outcome : Type 0 where
  Flat : Tree → ℕ → Outcome
  Raised : Tree → ℕ → Tree → ℕ → Outcome
  TooDeep : Tree → ℕ → Outcome

-- What may become of the index of a directory, by the used bytes that its record has, and would have with an index spread so: a level comes only
-- where one may be added, and where the record would be too full without it, one comes if it may; of sixteen levels there are no more.
abbrev pub MayBecome : (ℕ → Option (List Raw)) → List ℕ → ℕ → Key → Record → ℕ → Tree → (Tree → ℕ → ℕ) → Outcome → Type 0
MayBecome nodes upper room key r used t used_with (Flat s more) = IsSpread nodes upper room key t false s more × (most_used < used_with s more → MayAddLevel upper key r used t s (used_with s more) → ⊥)
MayBecome nodes upper room key r used t used_with (Raised s more u further) = IsSpread nodes upper room key t false s more × MayAddLevel upper key r used t s (used_with s more) × (levels t < most_levels) × IsSpread nodes upper room key t true u further
MayBecome nodes upper room key r used t used_with (TooDeep s more) = IsSpread nodes upper room key t false s more × MayAddLevel upper key r used t s (used_with s more) × (levels t ≡ most_levels) × (most_used < used_with s more)
