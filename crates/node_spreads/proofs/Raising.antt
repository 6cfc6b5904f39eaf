-- A key put into an index that got a level before; and what is written by a plan of nodes.
use Rattle.std.proofs.Common.{◌≡◌, ◌≢◌, ◌⊎◌, inl, inr, ℕ, ◌+◌, ◌<◌, ◌≤◌, Bool, true, false, cond, List, [], ◌∷◌, ◌++◌, length, insert, reverse, Option, Some, None, refl, sym, ap, ◌∙◌, subst, arith}
use Rattle.std.specs.Prelude.{All, nat_lt}
use Rattle.std.specs.List.{AllByRecursion}
use Rattle.std.proofs.lemmas.Bool.{cases_eq, cases_lt, lt-ltb, both_ways}
use Rattle.std.proofs.lemmas.List.{length-take-le, reverse-append, reverse-reverse}
use Rattle.std.proofs.lemmas.List.Elements.{All-head, All-tail}
use Rattle.step_model.specs.disk_model.Content.{Content}
use Rattle.plan_model.specs.record_model.declared.entry.Entry.{Entry as Raw}
use Rattle.plan_model.specs.record_model.Nodes.{entry_length, node_used, node_room, last_entry}
use Rattle.plan_model.specs.record_model.Values.{is_file_name}
use Rattle.plan_model.specs.index_model.declared.key.Key.{Key}
use Rattle.plan_model.specs.index_model.Trees.{Tree, Leaf, Down, Entry, DownEntry, raw, raws_of, one_if}
use Rattle.plan_model.specs.index_model.Indexes.{Place, node_of_block, nodes_of}
use Rattle.plan_model.specs.index_model.Laws.{HoldsIndex}
use Rattle.plan_model.specs.index_plan.declared.write.Write.{Write}
use Rattle.plan_model.specs.index_plan.declared.plan.Rooted.{Rooted}
use Rattle.plan_model.specs.index_plan.Growth.{fits_in, fits, middle}
use Rattle.plan_model.specs.index_plan.Lists.{Rise, settle, written, halved_if, step, step_by, rise, spot, place, way, rooted, rooted_by, topped, overfull, overfull_by}
use Rattle.plan_model.specs.index_plan.Paths.{Path, Here, Below, Behind}
use Rattle.plan_model.specs.index_plan.Plans.{Plan, Spot}
use Rattle.plan_model.specs.index_plan.Room.{is_tight, tight_count, RootSized, EachFits, EachSpotSized}
use Rattle.plan_model.specs.index_plan.Search.{path_to}
use Rattle.plan_model.proofs.index_plan.Fitting.{bytes_is, short_bytes, ShortPending, Fitting, rise_fits, rooted_fits, each_fits}
use Rattle.plan_model.proofs.index_plan.Halves.{bytes, fits_bytes, insert_bytes}
use Rattle.plan_model.specs.index_change.declared.nodes_plan.NodesPlan.{NodesPlan}
use Rattle.plan_model.specs.index_change.NodePlans.{NewNodes, rooted_of}
use Rattle.plan_model.specs.index_change.Orders.{goes, link_of}
use Rattle.plan_model.specs.index_change.Plans.{root_room, seventeen, needs_level}
use Rattle.plan_model.proofs.index_change.Sizing.{short_key}
use Rattle.step_model.specs.Spreads.{blocks_in, FitsBlock, FitBlocks, IsSpread}
use Rattle.node_spreads.specs.Raised.{RootsStay, LevelsLift, PlansFit, RootsGrow}
use Rattle.node_spreads.proofs.Fitting.{Fits}
use Rattle.node_spreads.proofs.Rising.{way_sized, way_short}

-- ---- a node with room

not_tight : (raws : List Raw) → is_tight raws ≡ false → bytes raws ≤ 3432
unfolding is_tight node_used
not_tight raws low = elim (cases_lt 3432 (bytes raws)) [
  | inl long ↦ absurd (both_ways (is_tight raws) low (lt-ltb node_room (node_used raws + 600) (let b = bytes_is raws in omega (arith, b, long))))
  | inr short ↦ short
]

-- a node that has room for what is pending gives nothing on
nothing_on : (v at : ℕ) (node : List Raw) (plan : Plan) (pending : Option Raw) → ShortPending pending → bytes node ≤ 3432 → (step_by (record { vcn = v; node = node; at = at }) plan pending).pending ≡ None
unfolding settle fits
nothing_on v at node plan None short low = refl
nothing_on v at node plan (Some e) short low =
    let sum = insert_bytes node at e in
    let small = short_bytes e short in
    let room : fits_in 4032 (insert node at e) ≡ true = (fits_bytes 4032 (insert node at e)).1 (omega (arith, sum, small, low)) in
    ap (λ (b : Bool). (cond b (written v (insert node at e) plan) (cond (nat_lt (middle (insert node at e) + 1) (length (insert node at e))) (halved_if (middle (insert node at e)) v (insert node at e) plan plan.fresh) (written v (insert node at e) plan))).pending) room

none_over : (room : ℕ) (root : List Raw) (at : ℕ) (r : Rise) → r.pending ≡ None → overfull room root at r ≡ false
unfolding overfull
none_over room root at r is = ap (overfull_by room root at) is

none_stays : (room : ℕ) (root : List Raw) (at : ℕ) (r : Rise) → r.pending ≡ None → (rooted room root at r).root ≡ root
unfolding rooted
none_stays room root at r is = ap (λ (o : Option Raw). (rooted_by room root at r.plan o).root) is

abbrev pub start_by : Key → List ℕ → Rise
start_by key fresh = record { pending = Some (raw key None); plan = record { writes = []; fresh = seventeen fresh } }

-- ---- what is pending above a way

module _ (c : Content) (p : Place) (upper value : List ℕ) (key : Key) (fresh : List ℕ) (t : Tree) (lawful : is_file_name key.value ≡ true) (h : HoldsIndex c p upper value t) (long : 17 ≤ length fresh) where
  abbrev to : Path
  to = path_to (goes upper (link_of key).name) t

  pub fitting : Fitting (seventeen fresh) (0 + tight_count (way to t)) (rise (way to t) (start_by key fresh))
  fitting =
      let short = way_short to t in
      let low = h.is_index.height in
      let all = length-take-le 17 fresh long in
      rise_fits (way to t) (seventeen fresh) 0 (start_by key fresh) (way_sized c p to t h.is_index.stands) (omega (arith, short, low, all)) (record { fits = tt; short = short_key key.value lawful; left = omega arith })

-- ---- the root stays

stays_pending : (c : Content) (p : Place) (upper value : List ℕ) (key : Key) (fresh : List ℕ) (f : ℕ) (t : Tree) → is_file_name key.value ≡ true → HoldsIndex c p upper value (Down f t) → is_tight (raws_of t) ≡ false → 17 ≤ length fresh
    → (rise (way (path_to (goes upper (link_of key).name) (Down f t)) (Down f t)) (start_by key fresh)).pending ≡ None
stays_pending c p upper value key fresh f t lawful h low long =
    let to : Path = path_to (goes upper (link_of key).name) t in
    let start : Rise = start_by key fresh in
    let short = way_short to t in
    let high = h.is_index.height in
    let all = length-take-le 17 fresh long in
    let below = rise_fits (way to t) (seventeen fresh) 0 start (way_sized c p to t h.is_index.stands.1) (omega (arith, short, high, all)) (record { fits = tt; short = short_key key.value lawful; left = omega arith }) in
    nothing_on f (place to) (raws_of t) (rise (way to t) start).plan (rise (way to t) start).pending below.short (not_tight (raws_of t) low)

pub roots_stay : RootsStay
roots_stay c p upper value used key fresh f t n lawful h low long new =
    let none = stays_pending c p upper value key fresh f t lawful h low long in
    (none_over _ (raws_of (Down f t)) 0 _ none, ap (λ (r : Rooted). r.root) new.is ∙ none_stays _ (raws_of (Down f t)) 0 _ none)

-- ---- a level more

used_low : (raws : List Raw) → bytes raws ≤ 4032 → node_used raws ≤ node_room
unfolding node_used
used_low raws low = let b = bytes_is raws in omega (arith, b, low)

child_fits : (nodes raised : ℕ → Option (List Raw)) (f : ℕ) (raws : List Raw) → raised f ≡ Some raws → ((i : ℕ) → i ≢ f → raised i ≡ nodes i) → node_used raws ≤ node_room → (v : ℕ) (entries : List Raw) → FitsBlock raised v entries → FitsBlock nodes v entries
child_fits nodes raised f raws child others low v entries (inr room) = inr room
child_fits nodes raised f raws child others low v entries (inl stood) = elim (cases_eq v f) [
  | inl is ↦ inr (subst (λ (l : List Raw). node_used l ≤ node_room) (same raws entries (sym child ∙ sym (ap raised is) ∙ stood)) low)
  | inr other ↦ inl (sym (others v other) ∙ stood)
]
  where
    same : (x y : List Raw) → Some x ≡ Some y → x ≡ y
    same x y e = cc

blocks_fit : (nodes raised : ℕ → Option (List Raw)) → ((v : ℕ) (entries : List Raw) → FitsBlock raised v entries → FitsBlock nodes v entries) → (s : Tree) → FitBlocks raised s → FitBlocks nodes s
blocks_fit nodes raised one Leaf fit = tt
blocks_fit nodes raised one (Down v t) fit = (one v (raws_of t) fit.0, blocks_fit nodes raised one t fit.1)
blocks_fit nodes raised one (Entry key rest) fit = blocks_fit nodes raised one rest fit
blocks_fit nodes raised one (DownEntry v t key rest) fit = (one v (raws_of t) fit.0, blocks_fit nodes raised one t fit.1, blocks_fit nodes raised one rest fit.2)

one_less : (b : Bool) (n : ℕ) → b ≡ false → cond {A = ℕ} b 1 0 + n ≤ n
one_less true n is = absurd cc
one_less false n is = omega arith

pub levels_lift : LevelsLift
levels_lift nodes raised upper room given key f t s more child others low root blocks k =
    let few = not_tight (raws_of t) low in
    let fits : node_used (raws_of t) ≤ node_room = used_low (raws_of t) (omega (arith, few)) in
    record {
      keys = k.keys;
      once = k.once;
      fit = blocks_fit nodes raised (child_fits nodes raised f (raws_of t) child others fits) s k.fit;
      root = (f, root);
      height = (let all = k.height in omega (arith, all));
      fresh = (let all = k.fresh in let tight = ap (λ (b : Bool). one_if b) low in omega (arith, all, tight));
      behind = omega (arith, blocks);
    }

-- ---- what is written

each_by : (writes : List Write) → EachFits writes → AllByRecursion Fits writes
each_by [] all = tt
each_by (w ∷ writes) all = (All-head Fits w writes all, each_by writes (All-tail Fits w writes all))

all_onto : (xs ys : List Write) → AllByRecursion Fits xs → AllByRecursion Fits ys → AllByRecursion Fits (xs ++ ys)
all_onto [] ys all more = more
all_onto (x ∷ xs) ys all more = (all.0, all_onto xs ys all.1 more)

all_reversed : (xs : List Write) → AllByRecursion Fits xs → AllByRecursion Fits (reverse xs)
all_reversed [] all = tt
all_reversed (x ∷ xs) all = subst (AllByRecursion Fits) (sym (reverse-append (x ∷ []) xs)) (all_onto (reverse xs) (x ∷ []) (all_reversed xs all.1) (all.0, tt))

pub plans_fit : PlansFit
plans_fit c p upper value used key fresh t n lawful h small long new =
    let to : Path = path_to (goes upper (link_of key).name) t in
    let risen = fitting c p upper value key fresh t lawful h long in
    let all = rooted_fits (root_room used value) (raws_of t) (place to) (rise (way to t) (start_by key fresh)) (seventeen fresh) (0 + tight_count (way to t)) small risen in
    let each : EachFits (reverse n.writes.items) = subst EachFits (sym (ap (λ (r : Rooted). r.plan.writes) new.is)) (each_fits _ all) in
    subst (AllByRecursion Fits) (reverse-reverse n.writes.items) (all_reversed (reverse n.writes.items) (each_by (reverse n.writes.items) each))

grows_by : (room : ℕ) (root : List Raw) (at : ℕ) (plan : Plan) (o : Option Raw) → overfull_by room root at o ≡ false → ((rooted_by room root at plan o).root ≡ root) ⊎ ((e : Raw) × (i : ℕ) × ((rooted_by room root at plan o).root ≡ insert root i e))
grows_by room root at plan None low = inl refl
grows_by room root at plan (Some e) low = inr (e, at, choose (fits_in room (insert root at e)) low)
  where
    choose : (b : Bool) → cond b false true ≡ false → (cond b (record { root = insert root at e; plan = plan }) (topped (insert root at e) plan plan.fresh)).root ≡ insert root at e
    choose true low = refl
    choose false low = absurd cc

pub roots_grow : RootsGrow
unfolding overfull rooted
roots_grow c p upper value used key fresh t n new low =
    elim (grows_by _ _ _ _ _ low) [
      | inl stays ↦ inl (ap (λ (r : Rooted). r.root) new.is ∙ stays)
      | inr more ↦ inr (more.0, more.1, ap (λ (r : Rooted). r.root) new.is ∙ more.2)
    ]
