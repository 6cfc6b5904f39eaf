-- The plan as the code makes it: nodes as lists of entries, the way as a list of frames.
use Rattle.std.specs.Prelude.{ℕ, suc, ◌+◌, Bool, true, false, List, [], ◌∷◌, ◌++◌, Option, Some, None, nat_lt, take, drop, insert, length, slice_index_or, if◌then◌else◌}
use Rattle.record_model.specs.declared.entry.Entry.{Entry as Raw}
use Rattle.record_model.specs.Nodes.{last_entry}
use Rattle.index_plan.specs.declared.write.Write.{Write}
use Rattle.index_plan.specs.declared.plan.Rooted.{Rooted}
use Rattle.index_plan.specs.Plans.{Plan, Spot}
use Rattle.index_model.specs.declared.key.Key.{Key}
use Rattle.index_model.specs.Trees.{raw, raws_of, Tree, Leaf, Down, Entry, DownEntry}
use Rattle.index_plan.specs.Paths.{Path, Here, Below, Behind}
use Rattle.index_plan.specs.Growth.{fits, fits_in, middle}

-- a plan, and an entry that the node above has to take
pub record Rise : Type 0 where
  pub pending : Option Raw
  pub plan : Plan

-- what an entry before the last stands for
abbrev pub own_key : Raw → Key
own_key r = record { child = r.child; value = r.key }

-- the entry at i
abbrev pub entry_at : ℕ → List Raw → Raw
entry_at i raws = slice_index_or raws i (last_entry None)

-- the entries before i, with what hangs below the entry at i below the last one
abbrev pub left_of : ℕ → List Raw → List Raw
left_of i raws = take i raws ++ last_entry (entry_at i raws).down ∷ []

abbrev pub written : ℕ → List Raw → Plan → Rise
written v raws plan = record { pending = None; plan = record { writes = record { vcn = v; entries = raws } ∷ plan.writes; fresh = plan.fresh } }

-- the entries before i go into the fresh node f
abbrev pub halved : ℕ → ℕ → ℕ → List Raw → List Write → List ℕ → Rise
halved i f v raws writes fresh = record {
  pending = Some (raw (own_key (entry_at i raws)) (Some f));
  plan = record {
    writes = record { vcn = f; entries = left_of i raws } ∷ record { vcn = v; entries = drop (i + 1) raws } ∷ writes;
    fresh = fresh;
  };
}

abbrev pub halved_if : ℕ → ℕ → List Raw → Plan → List ℕ → Rise
halved_if i v raws plan [] = written v raws plan
halved_if i v raws plan (f ∷ fresh) = halved i f v raws plan.writes fresh

-- node v gets these entries: it is written, or cut in two
unfoldable pub settle : ℕ → List Raw → Plan → Rise
settle v raws plan =
    if fits raws then written v raws plan
    else (if nat_lt (middle raws + 1) (length raws) then halved_if (middle raws) v raws plan plan.fresh else written v raws plan)

abbrev pub step_by : Spot → Plan → Option Raw → Rise
step_by f plan None = record { pending = None; plan = plan }
step_by f plan (Some e) = settle f.vcn (insert f.node f.at e) plan

-- a node on the way takes what is pending
abbrev pub step : Spot → Rise → Rise
step f r = step_by f r.plan r.pending

-- all nodes on the way below the root, the deepest one first; the list begins at the top
abbrev pub rise : List Spot → Rise → Rise
rise [] r = r
rise (f ∷ frames) r = step f (rise frames r)

-- ---- the way of a path

-- the place in the first node where the path goes down or ends
abbrev pub place : Path → ℕ
place Here = 0
place (Below p) = 0
place (Behind p) = suc (place p)

abbrev pub spot : ℕ → Tree → Path → Spot
spot v t p = record { vcn = v; node = raws_of t; at = place p }

-- the nodes below the first one
abbrev pub way : Path → Tree → List Spot
way Here t = []
way (Below p) Leaf = []
way (Below p) (Down v t) = spot v t p ∷ way p t
way (Below p) (Entry key rest) = []
way (Below p) (DownEntry v t key rest) = spot v t p ∷ way p t
way (Behind p) Leaf = []
way (Behind p) (Down v t) = []
way (Behind p) (Entry key rest) = way p rest
way (Behind p) (DownEntry v t key rest) = way p rest

-- ---- the root

abbrev pub topped : List Raw → Plan → List ℕ → Rooted
topped raws plan [] = record { root = raws; plan = plan }
topped raws plan (f ∷ fresh) = record { root = last_entry (Some f) ∷ []; plan = record { writes = record { vcn = f; entries = raws } ∷ plan.writes; fresh = fresh } }

-- a level more, exactly where the root's entries don't fit its room
abbrev pub rooted_by : ℕ → List Raw → ℕ → Plan → Option Raw → Rooted
rooted_by room root at plan None = record { root = root; plan = plan }
rooted_by room root at plan (Some e) = if fits_in room (insert root at e) then record { root = insert root at e; plan = plan } else topped (insert root at e) plan plan.fresh

unfoldable pub rooted : ℕ → List Raw → ℕ → Rise → Rooted
rooted room root at r = rooted_by room root at r.plan r.pending

-- whether the root's entries don't fit its room
abbrev pub overfull_by : ℕ → List Raw → ℕ → Option Raw → Bool
overfull_by room root at None = false
overfull_by room root at (Some e) = if fits_in room (insert root at e) then false else true

unfoldable pub overfull : ℕ → List Raw → ℕ → Rise → Bool
overfull room root at r = overfull_by room root at r.pending
