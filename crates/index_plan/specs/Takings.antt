-- A removal as the code makes it.
use Rattle.std.specs.Prelude.{◌≡◌, ℕ, suc, ◌-◌, Bool, true, false, List, [], ◌∷◌, ◌++◌, Option, Some, None, nat_lt, take, drop, length, if◌then◌else◌}
use Rattle.index_model.specs.declared.key.Key.{Key}
use Rattle.record_model.specs.declared.entry.Entry.{Entry as Raw}
use Rattle.index_plan.specs.declared.write.Write.{Write}
use Rattle.index_plan.specs.declared.plan.Rooted.{Rooted}
use Rattle.index_model.specs.Trees.{raw, raws_of, Tree, Leaf, Down, Entry, DownEntry}
use Rattle.index_plan.specs.Growth.{fits_in}
use Rattle.index_plan.specs.Plans.{Plan, Spot}
use Rattle.index_plan.specs.Lists.{Rise, entry_at, own_key, left_of, settle, step, topped, rooted, overfull}

-- a key that was pulled out of a node, and what is written for it
pub record Taken : Type 0 where
  pub key : Key
  pub write : Write

-- what was pulled out of a chain of nodes, and the nodes that go
pub record Drawn : Type 0 where
  pub taken : Option Taken
  pub freed : List ℕ

abbrev pub last_place : List Raw → ℕ
last_place raws = length raws - 2

-- a node's last key out of it
abbrev pub taken_from : Write → Taken
taken_from n = record { key = own_key (entry_at (last_place n.entries) n.entries); write = record { vcn = n.vcn; entries = left_of (last_place n.entries) n.entries } }

abbrev pub drawn_by : Write → List ℕ → Option Taken → Drawn
drawn_by n freed None = if nat_lt 1 (length n.entries) then record { taken = Some (taken_from n); freed = freed } else record { taken = None; freed = n.vcn ∷ freed }
drawn_by n freed (Some k) = record { taken = Some k; freed = freed }

-- the deepest node of a chain that has a key gives its last one; those below it go
abbrev pub drawn : Drawn → List Write → Drawn
drawn d [] = d
drawn d (n ∷ chain) = drawn_by n (drawn d chain).freed (drawn d chain).taken

abbrev pub none_drawn : Drawn
none_drawn = record { taken = None; freed = [] }

-- the nodes that the last entries lead down to
abbrev pub last_chain : Tree → List Write
last_chain Leaf = []
last_chain (Down v t) = record { vcn = v; entries = raws_of t } ∷ last_chain t
last_chain (Entry key rest) = last_chain rest
last_chain (DownEntry v t key rest) = last_chain rest

-- a node's entries without the one at a place, or with another key there
abbrev pub instead : ℕ → List Raw → Option Key → List Raw
instead at raws None = take at raws ++ drop (suc at) raws
instead at raws (Some key) = take at raws ++ raw key (entry_at at raws).down ∷ drop (suc at) raws

abbrev pub key_of : Option Taken → Option Key
key_of None = None
key_of (Some k) = Some k.key

abbrev pub plan_with : Plan → Option Taken → Plan
plan_with plan None = plan
plan_with plan (Some k) = record { writes = k.write ∷ plan.writes; fresh = plan.fresh }

-- the deepest node on the way loses its entry, and the way is climbed from there
abbrev pub climbed : Option Key → Plan → Spot → List Spot → Rise
climbed key plan n [] = settle n.vcn (instead n.at n.node key) plan
climbed key plan n (m ∷ spots) = step n (climbed key plan m spots)

abbrev pub rooted_raws : ℕ → List Raw → Plan → Rooted
rooted_raws room raws plan = if fits_in room raws then record { root = raws; plan = plan } else topped raws plan plan.fresh

unfoldable pub removed : ℕ → List Raw → ℕ → List Spot → Option Key → Plan → Rooted
removed room root at [] key plan = rooted_raws room (instead at root key) plan
removed room root at (n ∷ spots) key plan = rooted room root at (climbed key plan n spots)

unfoldable pub too_full : ℕ → List Raw → ℕ → List Spot → Option Key → Plan → Bool
too_full room root at [] key plan = if fits_in room (instead at root key) then false else true
too_full room root at (n ∷ spots) key plan = overfull room root at (climbed key plan n spots)

-- the part's first own entry has this key
abbrev pub StartsWith : Key → Tree → Type 0
StartsWith k Leaf = ⊥
StartsWith k (Down v t) = ⊥
StartsWith k (Entry key rest) = key ≡ k
StartsWith k (DownEntry v t key rest) = key ≡ k

-- the chain below a part's first own entry
abbrev pub first_chain : Tree → List Write
first_chain Leaf = []
first_chain (Down v t) = []
first_chain (Entry key rest) = []
first_chain (DownEntry v t key rest) = record { vcn = v; entries = raws_of t } ∷ last_chain t
