-- An index as a tree of entries, whose nodes lie anywhere.
use Rattle.std.specs.Prelude.{◌≡◌, ℕ, ◌+◌, Bool, true, false, List, [], ◌∷◌, ◌++◌, Option, Some, None, nat_eq, max}
use Rattle.state_model.specs.record_model.declared.entry.Entry.{Entry as Raw}
use Rattle.state_model.specs.record_model.Nodes.{last_entry}
use Rattle.index_model.specs.declared.key.Key.{Key}

-- A node's entries with what hangs below them: it begins with the last entry, or with an entry and the rest. A number is the
-- VCN of the node that hangs below.
pub data Tree : Type 0 where
  Leaf : Tree
  Down : ℕ → Tree → Tree
  Entry : Key → Tree → Tree
  DownEntry : ℕ → Tree → Key → Tree → Tree

-- the keys in order
abbrev pub walk : Tree → List Key
walk Leaf = []
walk (Down v t) = walk t
walk (Entry key rest) = key ∷ walk rest
walk (DownEntry v t key rest) = walk t ++ key ∷ walk rest

-- 1 where it holds, else 0
abbrev pub one_if : Bool → ℕ
one_if true = 1
one_if false = 0

unfoldable pub same : ℕ → ℕ → ℕ
same x y = one_if (nat_eq x y)

-- how often x stands in a list
abbrev pub times : ℕ → List ℕ → ℕ
times x [] = 0
times x (y ∷ ys) = same x y + times x ys

-- how often x is the number of a node of the tree, the root not counted
abbrev pub held : ℕ → Tree → ℕ
held x Leaf = 0
held x (Down v t) = same x v + held x t
held x (Entry key rest) = held x rest
held x (DownEntry v t key rest) = same x v + held x t + held x rest

-- the greatest number of nodes on a way, the root counted
abbrev pub levels : Tree → ℕ
levels Leaf = 1
levels (Down v t) = 1 + levels t
levels (Entry key rest) = levels rest
levels (DownEntry v t key rest) = max (1 + levels t) (levels rest)

-- the entry of a key, with what hangs below it
abbrev pub raw : Key → Option ℕ → Raw
raw key down = record { child = key.child; key = key.value; down = down }

-- the entries of the tree's first node
abbrev pub raws_of : Tree → List Raw
raws_of Leaf = last_entry None ∷ []
raws_of (Down v t) = last_entry (Some v) ∷ []
raws_of (Entry key rest) = raw key None ∷ raws_of rest
raws_of (DownEntry v t key rest) = raw key (Some v) ∷ raws_of rest

-- each node below the first one has the entries that the tree says
abbrev pub Stands : (ℕ → Option (List Raw)) → Tree → Type 0
Stands nodes Leaf = Unit {0}
Stands nodes (Down v t) = (nodes v ≡ Some (raws_of t)) × Stands nodes t
Stands nodes (Entry key rest) = Stands nodes rest
Stands nodes (DownEntry v t key rest) = (nodes v ≡ Some (raws_of t)) × Stands nodes t × Stands nodes rest
