-- A tree with a new subtree in the place of another one, where each node that would get too long is cut in two.
use Rattle.std.specs.Prelude.{ℕ, zero, suc, ◌-◌, Bool, true, false, List, [], ◌∷◌, Option, Some, None, nat_le, if◌then◌else◌}
use Rattle.index_model.specs.declared.key.Key.{Key}
use Rattle.record_model.specs.declared.entry.Entry.{Entry as Raw}
use Rattle.index_plan.specs.declared.write.Write.{Write}
use Rattle.record_model.specs.Nodes.{entry_length}
use Rattle.index_model.specs.Trees.{Tree, Leaf, Down, Entry, DownEntry, raws_of}
use Rattle.index_plan.specs.Paths.{Path, Here, Below, Behind}

-- ---- lengths

abbrev pub fits_in : ℕ → List Raw → Bool
fits_in room [] = true
fits_in room (r ∷ raws) = if nat_le (entry_length r) room then fits_in (room - entry_length r) raws else false

-- the entries of a block: its 4,096 bytes less 24 before the node header and 40 up to the first entry
unfoldable pub fits : List Raw → Bool
fits raws = fits_in 4032 raws

-- how many entries from the front lie within so many bytes
abbrev pub within : ℕ → List Raw → ℕ
within room [] = 0
within room (r ∷ raws) = if nat_le (entry_length r) room then suc (within (room - entry_length r) raws) else 0

-- the entry that goes up where a node is cut in two: the first one that ends past half a block
unfoldable pub middle : List Raw → ℕ
middle raws = within 2016 raws

-- ---- a cut

pub record Cut : Type 0 where
  pub left : Tree
  pub key : Key
  pub right : Tree

abbrev pub behind_front : (Tree → Tree) → Option Cut → Option Cut
behind_front front None = None
behind_front front (Some c) = Some (record { left = front c.left; key = c.key; right = c.right })

-- the entries before the entry at i with what hangs below it, its key, and the entries behind it
abbrev pub cut : ℕ → Tree → Option Cut
cut i Leaf = None
cut i (Down v t) = None
cut zero (Entry key rest) = Some (record { left = Leaf; key = key; right = rest })
cut zero (DownEntry v t key rest) = Some (record { left = Down v t; key = key; right = rest })
cut (suc i) (Entry key rest) = behind_front (λ r. Entry key r) (cut i rest)
cut (suc i) (DownEntry v t key rest) = behind_front (λ r. DownEntry v t key r) (cut i rest)

-- ---- growth

-- an entry that a node hangs below: a node's last one, or one with a key and the rest behind it
pub data Hook : Type 0 where
  Last : ℕ → Hook
  Inner : ℕ → Key → Tree → Hook

abbrev pub hang : Hook → Tree → Tree
hang (Last v) t = Down v t
hang (Inner v key rest) t = DownEntry v t key rest

abbrev pub vcn_of : Hook → ℕ
vcn_of (Last v) = v
vcn_of (Inner v key rest) = v

-- a part of a tree, whether its node's entries changed, the nodes written below it and the fresh numbers left
pub record Grown : Type 0 where
  pub tree : Tree
  pub changed : Bool
  pub writes : List Write
  pub fresh : List ℕ

abbrev pub node : ℕ → Tree → Write
node v t = record { vcn = v; entries = raws_of t }

abbrev pub rewritten : Hook → Grown → Grown
rewritten h g = record { tree = hang h g.tree; changed = false; writes = node (vcn_of h) g.tree ∷ g.writes; fresh = g.fresh }

-- the left part goes into a fresh node, and the right part stays: to the node above, that is one entry more
abbrev pub parted : Hook → Grown → List ℕ → Option Cut → Grown
parted h g [] c = rewritten h g
parted h g (f ∷ fresh) None = rewritten h g
parted h g (f ∷ fresh) (Some c) = record {
  tree = DownEntry f c.left c.key (hang h c.right);
  changed = true;
  writes = node f c.left ∷ node (vcn_of h) c.right ∷ g.writes;
  fresh = fresh;
}

abbrev pub across_by : Bool → Bool → Hook → Grown → Grown
across_by false fit h g = record { tree = hang h g.tree; changed = false; writes = g.writes; fresh = g.fresh }
across_by true true h g = rewritten h g
across_by true false h g = parted h g g.fresh (cut (middle (raws_of g.tree)) g.tree)

-- from a node to the entry that it hangs below
abbrev pub across : Hook → Grown → Grown
across h g = across_by g.changed (fits (raws_of g.tree)) h g

abbrev pub fronted : (Tree → Tree) → Grown → Grown
fronted front g = record { tree = front g.tree; changed = g.changed; writes = g.writes; fresh = g.fresh }

abbrev pub kept : Grown → Tree → Grown
kept start t = record { tree = t; changed = false; writes = []; fresh = start.fresh }

-- the tree with start in the place of what the path leads to
abbrev pub regrown : Path → Grown → Tree → Grown
regrown Here start t = start
regrown (Below p) start Leaf = kept start Leaf
regrown (Below p) start (Down v t) = across (Last v) (regrown p start t)
regrown (Below p) start (Entry key rest) = kept start (Entry key rest)
regrown (Below p) start (DownEntry v t key rest) = across (Inner v key rest) (regrown p start t)
regrown (Behind p) start Leaf = kept start Leaf
regrown (Behind p) start (Down v t) = kept start (Down v t)
regrown (Behind p) start (Entry key rest) = fronted (λ r. Entry key r) (regrown p start rest)
regrown (Behind p) start (DownEntry v t key rest) = fronted (λ r. DownEntry v t key r) (regrown p start rest)

-- a level more: the root's entries go into a fresh node
abbrev pub lifted : Grown → List ℕ → Grown
lifted g [] = g
lifted g (f ∷ fresh) = record { tree = Down f g.tree; changed = true; writes = node f g.tree ∷ g.writes; fresh = fresh }
