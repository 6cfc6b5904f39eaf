-- The way to a key that is there, read node by node.
use Rattle.std.specs.Prelude.{◌≡◌, ℕ, zero, suc, ◌-◌, ◌≤◌, Bool, true, false, List, [], ◌∷◌, ◌++◌, length, Option, Some, None, Result, Ok, Err, All, if◌then◌else◌}
use Rattle.index_model.specs.host_base.Answers.{◌>>=◌}
use Rattle.record_model.specs.declared.entry.Entry.{Entry as Raw}
use Rattle.index_model.specs.declared.key.Key.{Key}
use Rattle.index_model.specs.Walks.{Broken, root_vcn}
use Rattle.index_plan.specs.declared.side.KeySide.{KeySide}
use Rattle.index_plan.specs.declared.side.KeySide.TheVariants as sides
use Rattle.index_plan.specs.declared.write.Write.{Write}
use Rattle.index_plan.specs.declared.look.Look.{Look}
use Rattle.index_plan.specs.declared.look.Look.TheVariants as looks
use Rattle.index_plan.specs.declared.place.Place.{Place}
use Rattle.index_plan.specs.Plans.{Trail}
use Rattle.index_plan.specs.Lists.{own_key, entry_at}
use Rattle.index_plan.specs.Reading.{NodeReads, read_by, too_low}

-- ---- where a key stands against that which is looked for

-- 0 before it, 1 where its name is the same, 2 behind it
abbrev pub rank : KeySide → ℕ
rank sides.Behind = 0
rank sides.Beside = 1
rank sides.Here = 1
rank sides.Before = 2

-- the keys are in the order of the names
abbrev pub InOrder : (Key → KeySide) → List Key → Type 0
InOrder side [] = Unit {0}
InOrder side (key ∷ keys) = All (λ k. rank (side key) ≤ rank (side k)) keys × InOrder side keys

-- none of them is the key that is looked for
abbrev pub NoneHere : (Key → KeySide) → List Key → Type 0
NoneHere side keys = All (λ k. side k ≡ sides.Here → ⊥) keys

-- ---- the chain below a key

-- the VCN below a node's last entry
abbrev pub last_down : List Raw → Option ℕ
last_down raws = (entry_at (length raws - 1) raws).down

-- the nodes that last entries lead down to, on so many levels at most
abbrev pub chain_down : NodeReads → ℕ → ℕ → Option ℕ → Result (List Write) Broken
chain_down reads n above None = Ok []
chain_down reads zero above (Some v) = Err (too_low above)
chain_down reads (suc n) above (Some v) = read_by above v (reads v) >>= λ node. chain_down reads n v (last_down node) >>= λ chain. Ok (record { vcn = v; entries = node } ∷ chain)

abbrev pub chain_front : List Write → Result (List Write) Broken → Result (List Write) Broken
chain_front front (Ok chain) = Ok (front ++ chain)
chain_front front (Err broken) = Err broken

-- ---- the search

abbrev pub is_behind : KeySide → Bool
is_behind sides.Behind = true
is_behind sides.Beside = false
is_behind sides.Here = false
is_behind sides.Before = false

-- the last entry has no key: the search goes below it, and then on
abbrev pub side_of : (Key → KeySide) → Raw → List Raw → KeySide
side_of side r [] = sides.Beside
side_of side r (s ∷ raws) = side (own_key r)

-- what an entry says below which nothing was found
abbrev pub own_look : KeySide → Result (List Write) Broken → Result Look Broken
own_look sides.Behind chain = Ok looks.On
own_look sides.Beside chain = Ok looks.On
own_look sides.Here chain = chain >>= λ c. Ok (looks.Found (record { path = []; chain = c }))
own_look sides.Before chain = Ok looks.Stop

abbrev pub look_by : KeySide → Result (List Write) Broken → Option Trail → Result Look Broken
look_by s chain (Some trail) = Ok (looks.Found trail)
look_by s chain None = own_look s chain

-- nothing below an entry that the key stands behind is looked at
abbrev pub look_at : KeySide → Result (Option Trail) Broken → Result (List Write) Broken → Result Look Broken
look_at s below chain = if is_behind s then Ok looks.On else below >>= look_by s chain

abbrev pub OnFound : Look → (Trail → Type 0) → Type 0
OnFound (looks.Found trail) P = P trail
OnFound looks.Stop P = Unit {0}
OnFound looks.On P = Unit {0}

abbrev pub after_look : ℕ → Look → Result (Option Place) Broken → Result (Option Place) Broken
after_look at (looks.Found trail) later = Ok (Some (record { at = at; trail = trail }))
after_look at looks.Stop later = Ok None
after_look at looks.On later = later

-- the search in a node's entries from the place i on; `below` is the search below an entry, and `chain` the chain below it
abbrev pub seek_from : (Key → KeySide) → (Option ℕ → Result (Option Trail) Broken) → (Option ℕ → Result (List Write) Broken) → ℕ → List Raw → Result (Option Place) Broken
seek_from side below chain i [] = Ok None
seek_from side below chain i (r ∷ raws) = look_at (side_of side r raws) (below r.down) (chain r.down) >>= λ look. after_look i look (seek_from side below chain (suc i) raws)

abbrev pub with_spot : ℕ → List Raw → Option Place → Option Trail
with_spot v node None = None
with_spot v node (Some p) = Some (record { path = record { vcn = v; node = node; at = p.at } ∷ p.trail.path; chain = p.trail.chain })

-- the search below an entry, on so many levels at most
abbrev pub seek_down : NodeReads → (Key → KeySide) → ℕ → ℕ → Option ℕ → Result (Option Trail) Broken
seek_down reads side n above None = Ok None
seek_down reads side zero above (Some v) = Err (too_low above)
seek_down reads side (suc n) above (Some v) = read_by above v (reads v) >>= λ node. seek_from side (seek_down reads side n v) (chain_down reads n v) 0 node >>= λ o. Ok (with_spot v node o)

-- The search in a node with so many levels below: the first node on it that breaks a rule, where there is one, else the
-- place of the first entry with the key, where there is one.
abbrev pub seek_in : NodeReads → (Key → KeySide) → ℕ → ℕ → List Raw → Result (Option Place) Broken
seek_in reads side n v node = seek_from side (seek_down reads side n v) (chain_down reads n v) 0 node

abbrev pub seek_of : NodeReads → (Key → KeySide) → List Raw → Result (Option Place) Broken
seek_of reads side root = seek_in reads side 15 root_vcn root
