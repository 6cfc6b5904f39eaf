-- What stands in the place of an entry that is taken out.
use Rattle.std.specs.Prelude.{ℕ, true, List, [], ◌∷◌, ◌++◌, Option, Some, None}
use Rattle.index_model.specs.declared.key.Key.{Key}
use Rattle.index_model.specs.Trees.{Tree, Leaf, Down, Entry, DownEntry}
use Rattle.index_plan.specs.Growth.{Hook, Last, Inner, Grown, across_by, fronted}

-- the numbers of a tree's nodes, the root not counted
abbrev pub vcns : Tree → List ℕ
vcns Leaf = []
vcns (Down v t) = v ∷ vcns t
vcns (Entry key rest) = vcns rest
vcns (DownEntry v t key rest) = v ∷ vcns t ++ vcns rest

-- new entries of a node, with nothing written below
abbrev pub fresh_start : Tree → List ℕ → Grown
fresh_start t fresh = record { tree = t; changed = true; writes = []; fresh = fresh }

-- a tree without its last key, that key, and the nodes that it has no more
pub record Pulled : Type 0 where
  pub grown : Grown
  pub key : Key
  pub freed : List ℕ

abbrev pub pulled_with : (Grown → Grown) → Pulled → Pulled
pulled_with change q = record { grown = change q.grown; key = q.key; freed = q.freed }

-- a node gets shorter, so none is cut
abbrev pub settled : Hook → Grown → Grown
settled h g = across_by g.changed true h g

abbrev pub or_pulled : (Grown → Grown) → Pulled → Option Pulled → Option Pulled
or_pulled change here None = Some here
or_pulled change here (Some q) = Some (pulled_with change q)

abbrev pub and_pulled : (Grown → Grown) → Option Pulled → Option Pulled
and_pulled change None = None
and_pulled change (Some q) = Some (pulled_with change q)

-- the last key is pulled out; None where there is no key
abbrev pub pull : List ℕ → Tree → Option Pulled
pull fresh Leaf = None
pull fresh (Down v t) = and_pulled (settled (Last v)) (pull fresh t)
pull fresh (Entry key rest) = or_pulled (fronted (λ r. Entry key r)) (record { grown = fresh_start Leaf fresh; key = key; freed = vcns rest }) (pull fresh rest)
pull fresh (DownEntry v t key rest) = or_pulled (fronted (λ r. DownEntry v t key r)) (record { grown = fresh_start (Down v t) fresh; key = key; freed = vcns rest }) (pull fresh rest)

pub record Removed : Type 0 where
  pub start : Grown
  pub freed : List ℕ

-- the key before it comes up in its place; an empty tree before it goes with it
abbrev pub refilled : List ℕ → ℕ → Tree → Tree → Option Pulled → Removed
refilled fresh v t rest None = record { start = fresh_start rest fresh; freed = v ∷ vcns t }
refilled fresh v t rest (Some q) = record { start = record { tree = (settled (Inner v q.key rest) q.grown).tree; changed = true; writes = (settled (Inner v q.key rest) q.grown).writes; fresh = q.grown.fresh }; freed = q.freed }

-- a part of a tree without its first entry
abbrev pub without_first : List ℕ → Tree → Removed
without_first fresh Leaf = record { start = fresh_start Leaf fresh; freed = [] }
without_first fresh (Down v t) = record { start = fresh_start (Down v t) fresh; freed = [] }
without_first fresh (Entry key rest) = record { start = fresh_start rest fresh; freed = [] }
without_first fresh (DownEntry v t key rest) = refilled fresh v t rest (pull fresh t)
