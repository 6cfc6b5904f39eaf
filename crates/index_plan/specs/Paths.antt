-- Nodes after writes; the ways into a tree, and a tree with another part.
use Rattle.std.specs.Prelude.{ℕ, ◌+◌, Bool, true, false, List, [], ◌∷◌, Option, Some, None, nat_eq}
use Rattle.record_model.specs.declared.entry.Entry.{Entry as Raw}
use Rattle.index_model.specs.Trees.{Tree, Leaf, Down, Entry, DownEntry}
use Rattle.index_plan.specs.declared.write.Write.{Write}

abbrev pub chosen : Bool → List Raw → Option (List Raw) → Option (List Raw)
chosen true entries other = Some entries
chosen false entries other = other

-- the nodes after these writes
abbrev pub over : (ℕ → Option (List Raw)) → List Write → ℕ → Option (List Raw)
over nodes [] v = nodes v
over nodes (w ∷ writes) v = chosen (nat_eq v w.vcn) w.entries (over nodes writes v)

-- the VCNs that are written
abbrev pub written_vcns : List Write → List ℕ
written_vcns [] = []
written_vcns (w ∷ writes) = w.vcn ∷ written_vcns writes

-- ---- a path to a subtree, and the tree with another one in its place

pub data Path : Type 0 where
  Here : Path
  Below : Path → Path
  Behind : Path → Path

abbrev pub subtree : Path → Tree → Option Tree
subtree Here t = Some t
subtree (Below p) Leaf = None
subtree (Below p) (Down v t) = subtree p t
subtree (Below p) (Entry key rest) = None
subtree (Below p) (DownEntry v t key rest) = subtree p t
subtree (Behind p) Leaf = None
subtree (Behind p) (Down v t) = None
subtree (Behind p) (Entry key rest) = subtree p rest
subtree (Behind p) (DownEntry v t key rest) = subtree p rest

abbrev pub graft : Path → Tree → Tree → Tree
graft Here new t = new
graft (Below p) new Leaf = Leaf
graft (Below p) new (Down v t) = Down v (graft p new t)
graft (Below p) new (Entry key rest) = Entry key rest
graft (Below p) new (DownEntry v t key rest) = DownEntry v (graft p new t) key rest
graft (Behind p) new Leaf = Leaf
graft (Behind p) new (Down v t) = Down v t
graft (Behind p) new (Entry key rest) = Entry key (graft p new rest)
graft (Behind p) new (DownEntry v t key rest) = DownEntry v t key (graft p new rest)

-- how many nodes the path goes down
abbrev pub steps : Path → ℕ
steps Here = 0
steps (Below p) = 1 + steps p
steps (Behind p) = steps p
