-- A node with room takes no block of its own, so a key takes as many blocks behind a level more as without it.
use Rattle.std.proofs.Common.{◌≡◌, inl, inr, ℕ, ◌+◌, ◌<◌, ◌≤◌, Bool, true, false, cond, List, length, insert, drop, Option, Some, None, Ok, refl, sym, ap, ◌∙◌, arith, length-drop}
use Rattle.std.specs.Prelude.{nat_lt, if◌then◌else◌}
use Rattle.std.proofs.lemmas.Bool.{cases_Bool, cases_lt, le-ltb, lt-ltb, both_ways}
use Rattle.std.proofs.lemmas.List.{length-take-le, length-take}
use Rattle.record_model.specs.declared.entry.Entry.{Entry as Raw}
use Rattle.record_model.specs.Nodes.{entry_length, entries_length, node_used, node_room, root_at}
use Rattle.record_model.specs.Values.{is_file_name}
use Rattle.index_model.specs.declared.key.Key.{Key}
use Rattle.index_model.specs.Trees.{Down, raw, raws_of}
use Rattle.index_change.specs.index_plan.declared.plan.Rooted.{Rooted}
use Rattle.index_change.specs.index_plan.Growth.{fits_in, fits, middle}
use Rattle.index_change.specs.index_plan.Lists.{Rise, settle, written, halved_if, step_by, rise, place, way, rooted, rooted_by, topped, overfull, overfull_by}
use Rattle.index_change.specs.index_plan.Paths.{Path}
use Rattle.index_change.specs.index_plan.Plans.{Plan}
use Rattle.index_change.specs.index_plan.Room.{is_tight}
use Rattle.index_change.specs.index_plan.Search.{path_to}
use Rattle.index_change.proofs.index_plan.Fitting.{bytes_is, short_bytes, ShortPending, rise_fits}
use Rattle.index_change.proofs.index_plan.Halves.{bytes, fits_bytes, insert_bytes}
use Rattle.index_change.specs.declared.nodes_plan.NodesPlan.{NodesPlan}
use Rattle.index_change.specs.NodePlans.{TakesFront}
use Rattle.index_change.specs.Orders.{goes, link_of}
use Rattle.index_change.specs.Plans.{root_room, seventeen, needs_level, has_blocks, bytes_more}
use Rattle.index_change.proofs.Sizing.{short_key, tight_record}
use Rattle.index_change.proofs.Tightening.{tight_if_higher}
use Rattle.node_spreads.proofs.Raising.{start_by, roots_stay}
use Rattle.node_spreads.proofs.Rising.{way_sized, way_short}
use Rattle.raised_steps.specs.Takes.{NeverNeedsLevel, RootsAreLoose, TakesAlike}

-- ---- no level

few_more : (key : Key) (b : Bool) → is_file_name key.value ≡ true → (if b then 600 else entry_length (raw key None)) ≤ 600
few_more key true lawful = omega arith
few_more key false lawful = short_bytes (raw key None) (short_key key.value lawful)

pub never_needs_level : NeverNeedsLevel
never_needs_level c p upper value key fresh t lawful h long = elim (cases_Bool (needs_level upper (root_room 0 value) key (seventeen fresh) t)) [
  | inl up ↦ (let crowded : 1024 < 0 + bytes_more key t = tight_if_higher c p upper value 0 fresh h.entries t h.root_read h long key lawful up in let few = few_more key (has_blocks t) lawful in absurd (omega (arith, crowded, few)))
  | inr flat ↦ flat
]

-- ---- a root as a node

root_inside : (value : List ℕ) (root : List Raw) → root_at value ≡ Ok root → entries_length root + 1024 ≤ root_room 0 value
root_inside value root read = elim (cases_lt (root_room 0 value) (entries_length root + 1024)) [
  | inl over ↦ (let high = tight_record 0 1024 value root read over in absurd (omega (arith, high)))
  | inr inside ↦ inside
]

loose_if : (raws : List Raw) → entries_length raws ≤ 3432 → is_tight raws ≡ false
unfolding is_tight node_used
loose_if raws low = le-ltb node_room (node_used raws + 600) (omega (arith, low))

pub roots_are_loose : RootsAreLoose
unfolding root_room
roots_are_loose c p upper value t h small =
    let inside = root_inside value (raws_of t) (h.root_read ∙ ap (λ (l : List Raw). Ok l) h.is_index.root_is) in
    loose_if (raws_of t) (omega (arith, inside, small))

-- ---- a node with room

not_tight : (raws : List Raw) → is_tight raws ≡ false → bytes raws ≤ 3432
unfolding is_tight node_used
not_tight raws low = elim (cases_lt 3432 (bytes raws)) [
  | inl long ↦ absurd (both_ways (is_tight raws) low (lt-ltb node_room (node_used raws + 600) (let b = bytes_is raws in omega (arith, b, long))))
  | inr short ↦ short
]

-- a node that has room for what is pending leaves the fresh numbers
fresh_stay : (v at : ℕ) (node : List Raw) (plan : Plan) (pending : Option Raw) → ShortPending pending → bytes node ≤ 3432 → (step_by (record { vcn = v; node = node; at = at }) plan pending).plan.fresh ≡ plan.fresh
unfolding settle fits
fresh_stay v at node plan None short low = refl
fresh_stay v at node plan (Some e) short low =
    let sum = insert_bytes node at e in
    let small = short_bytes e short in
    let room : fits_in 4032 (insert node at e) ≡ true = (fits_bytes 4032 (insert node at e)).1 (omega (arith, sum, small, low)) in
    ap (λ (b : Bool). (cond b (written v (insert node at e) plan) (cond (nat_lt (middle (insert node at e) + 1) (length (insert node at e))) (halved_if (middle (insert node at e)) v (insert node at e) plan plan.fresh) (written v (insert node at e) plan))).plan.fresh) room

-- a root that isn't overfull leaves the plan
plan_stays : (room : ℕ) (root : List Raw) (at : ℕ) (r : Rise) → overfull room root at r ≡ false → (rooted room root at r).plan ≡ r.plan
unfolding overfull rooted
plan_stays room root at r low = by r.pending low
  where
    choose : (e : Raw) (b : Bool) → cond b false true ≡ false → (cond b (record { root = insert root at e; plan = r.plan }) (topped (insert root at e) r.plan r.plan.fresh)).plan ≡ r.plan
    choose e true low' = refl
    choose e false low' = absurd cc

    by : (o : Option Raw) → overfull_by room root at o ≡ false → (rooted_by room root at r.plan o).plan ≡ r.plan
    by None low' = refl
    by (Some e) low' = choose e (fits_in room (insert root at e)) low'

-- ---- as many blocks

same_dropped : (i j : ℕ) (xs : List ℕ) → i ≤ length xs → j ≤ length xs → drop i xs ≡ drop j xs → i ≡ j
same_dropped i j xs one two same =
    let long = length-drop i xs in
    let other = length-drop j xs in
    let equal = ap (λ (l : List ℕ). length l) same in
    omega (arith, one, two, long, other, equal)

front_inside : (fresh : List ℕ) (n : NodesPlan) → TakesFront fresh n → length n.taken.items ≤ length (seventeen fresh)
front_inside fresh n front =
    let is = ap (λ (l : List ℕ). length l) front in
    let taken = length-take (length n.taken.items) (seventeen fresh) in
    omega (arith, is, taken)

pub takes_alike : TakesAlike
takes_alike c d p q upper value raised used given key fresh f t n m lawful h low long new front flat new_raised front_raised =
    let to : Path = path_to (goes upper (link_of key).name) t in
    let r : Rise = rise (way to t) (start_by key fresh) in
    let short = way_short to t in
    let high = h.is_index.height in
    let all = length-take-le 17 fresh long in
    let below = rise_fits (way to t) (seventeen fresh) 0 (start_by key fresh) (way_sized d q to t h.is_index.stands.1) (omega (arith, short, high, all)) (record { fits = tt; short = short_key key.value lawful; left = omega arith }) in
    let stays = roots_stay d q upper raised given key fresh f t m lawful h low long new_raised in
    let one : drop (length n.taken.items) (seventeen fresh) ≡ r.plan.fresh =
    ap (λ (x : Rooted). x.plan.fresh) new.is ∙ ap (λ (x : Plan). x.fresh) (plan_stays (root_room used value) (raws_of t) (place to) r flat)
    in
    let other : drop (length m.taken.items) (seventeen fresh) ≡ r.plan.fresh =
    ap (λ (x : Rooted). x.plan.fresh) new_raised.is
    ∙ ap (λ (x : Plan). x.fresh) (plan_stays (root_room given raised) (raws_of (Down f t)) 0 (step_by (record { vcn = f; node = raws_of t; at = place to }) r.plan r.pending) stays.0)
    ∙ fresh_stay f (place to) (raws_of t) r.plan r.pending below.short (not_tight (raws_of t) low)
    in
    same_dropped (length n.taken.items) (length m.taken.items) (seventeen fresh) (front_inside fresh n front) (front_inside fresh m front_raised) (one ∙ sym other)
