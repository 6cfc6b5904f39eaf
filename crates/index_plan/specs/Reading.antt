-- The way to a new key's place, read node by node.
use Rattle.std.specs.Prelude.{ℕ, zero, suc, Bool, List, [], ◌∷◌, ◌++◌, Option, Some, None, Result, Ok, Err, nat_eq, if◌then◌else◌}
use Rattle.index_model.specs.host_base.Answers.{◌>>=◌}
use Rattle.record_model.specs.declared.entry.Entry.{Entry as Raw}
use Rattle.index_model.specs.declared.key.Key.{Key}
use Rattle.index_model.specs.Walks.{Broken, root_vcn}
use Rattle.index_plan.specs.Plans.{Spot}
use Rattle.index_plan.specs.Lists.{entry_at, own_key}

-- ---- nodes that are read

-- the entries of the node under a VCN, or the rule of index nodes that it breaks: 7 where there is no block with this VCN
abbrev pub NodeReads : Type 0
NodeReads = ℕ → Result (List Raw) ℕ

abbrev pub node_of : Result (List Raw) ℕ → Option (List Raw)
node_of (Ok raws) = Some raws
node_of (Err rule) = None

abbrev pub nodes_of : NodeReads → ℕ → Option (List Raw)
nodes_of reads v = node_of (reads v)

-- a node that leads to no block breaks rule 7
abbrev pub blamed : ℕ → ℕ → ℕ → Broken
blamed above v rule = record { vcn = if nat_eq rule 7 then above else v; rule = rule }

-- what is read of the node v below the node above
abbrev pub read_by : ℕ → ℕ → Result (List Raw) ℕ → Result (List Raw) Broken
read_by above v (Ok raws) = Ok raws
read_by above v (Err rule) = Err (blamed above v rule)

-- a node that leads below the sixteenth level
abbrev pub too_low : ℕ → Broken
too_low above = record { vcn = above; rule = 7 }

-- ---- the way

abbrev pub stop_at : List Raw → Bool → ℕ → ℕ
stop_at [] here later = 0
stop_at (r ∷ raws) here later = if here then 0 else suc later

-- the first entry with a key that the new one goes before, else the last entry
abbrev pub first_stop : (Key → Bool) → List Raw → ℕ
first_stop goes [] = 0
first_stop goes (r ∷ raws) = stop_at raws (goes (own_key r)) (first_stop goes raws)

-- the VCN below the entry that a node's way goes through
abbrev pub stop_down : (Key → Bool) → List Raw → Option ℕ
stop_down goes raws = (entry_at (first_stop goes raws) raws).down

-- the nodes on the way from here on, on so many levels at most; or the first of them that breaks a rule
abbrev pub way_down : NodeReads → (Key → Bool) → ℕ → ℕ → Option ℕ → Result (List Spot) Broken
way_down reads goes n above None = Ok []
way_down reads goes zero above (Some v) = Err (too_low above)
way_down reads goes (suc n) above (Some v) =
    read_by above v (reads v) >>= λ node.
    way_down reads goes n v (stop_down goes node) >>= λ spots.
    Ok (record { vcn = v; node = node; at = first_stop goes node } ∷ spots)

-- the nodes on the way below the root
abbrev pub way_of : NodeReads → (Key → Bool) → List Raw → Result (List Spot) Broken
way_of reads goes root = way_down reads goes 15 root_vcn (stop_down goes root)

abbrev pub with_front : List Spot → Result (List Spot) Broken → Result (List Spot) Broken
with_front front (Ok spots) = Ok (front ++ spots)
with_front front (Err broken) = Err broken
