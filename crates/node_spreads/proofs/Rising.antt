-- Where a plan needs a level more, each block on the way was cut, and the root would have got one entry more.
use Rattle.std.proofs.Common.{◌≡◌, ◌⊎◌, inl, inr, ℕ, ◌+◌, ◌<◌, ◌≤◌, Bool, true, false, cond, List, [], ◌∷◌, length, insert, drop, Option, Some, None, Ok, refl, sym, ap, ◌∙◌, subst, arith}
use Rattle.std.specs.Prelude.{All, nat_lt, nat_eq, if◌then◌else◌}
use Rattle.std.proofs.lemmas.Bool.{cases_Bool, cases_lt, lt-ltb, both_ways}
use Rattle.std.proofs.lemmas.List.{length-take-le}
use Rattle.std.proofs.lemmas.List.Elements.{All-nil, All-cons, All-head, All-tail}
use Rattle.step_model.specs.disk_model.Content.{Content}
use Rattle.plan_model.specs.record_model.declared.entry.Entry.{Entry as Raw}
use Rattle.plan_model.specs.record_model.Nodes.{entry_length, entries_length, node_used, node_room, root_at, last_entry, down_flag, children_flag}
use Rattle.plan_model.specs.record_model.Values.{is_file_name}
use Rattle.plan_model.proofs.record_model.NodeTables.{root_from_ok}
use Rattle.plan_model.specs.index_model.declared.key.Key.{Key}
use Rattle.plan_model.specs.index_model.Trees.{Tree, Leaf, Down, Entry, DownEntry, walk, raw, raws_of, Stands, levels}
use Rattle.plan_model.specs.index_model.Indexes.{Place, node_of_block, nodes_of}
use Rattle.plan_model.specs.index_model.Laws.{HoldsIndex}
use Rattle.plan_model.proofs.index_model.Complete.{some_levels}
use Rattle.plan_model.specs.index_plan.declared.write.Write.{Write}
use Rattle.plan_model.specs.index_plan.declared.plan.Rooted.{Rooted}
use Rattle.plan_model.specs.index_plan.Growth.{fits_in, fits, middle}
use Rattle.plan_model.specs.index_plan.Laws.{NewTree, Once}
use Rattle.plan_model.specs.index_plan.Lists.{Rise, settle, written, halved_if, step, rise, spot, place, way, rooted, rooted_by, topped, overfull, overfull_by}
use Rattle.plan_model.specs.index_plan.Paths.{Path, Here, Below, Behind, over}
use Rattle.plan_model.specs.index_plan.Plans.{Plan, Spot}
use Rattle.plan_model.specs.index_plan.Room.{is_tight, tight_count, Sized, EachSpotSized}
use Rattle.plan_model.specs.index_plan.Search.{path_to, put}
use Rattle.plan_model.proofs.index_plan.Fitting.{bytes_is, short_bytes, AllFit, ShortPending, Fitting, rise_fits}
use Rattle.plan_model.proofs.index_plan.Halves.{bytes, fits_bytes, insert_bytes}
use Rattle.plan_model.proofs.index_plan.Whole.{insert_law}
use Rattle.plan_model.specs.index_change.Orders.{goes, link_of}
use Rattle.plan_model.specs.index_change.Plans.{root_room, seventeen, needs_level, has_blocks, bytes_more}
use Rattle.plan_model.proofs.index_change.Lawful.{some_read, index_names}
use Rattle.plan_model.proofs.index_change.Putting.{keys_rise}
use Rattle.plan_model.proofs.index_change.Sizing.{block_sized, short_key}
use Rattle.plan_model.proofs.index_change.Tightening.{tight_if_higher}
use Rattle.step_model.specs.Spreads.{blocks_in, IsTightWay}
use Rattle.node_spreads.specs.Rises.{CouldStayFlat, LevelsAreNeeded}
use Rattle.node_spreads.proofs.Counting.{blocks_counted}
use Rattle.node_spreads.proofs.Fitting.{Known, one_fits, all_fit}

-- ---- the way

pub way_sized : (c : Content) (q : Place) (p : Path) (t : Tree) → Stands (nodes_of (node_of_block c q)) t → EachSpotSized (way p t)
way_sized c q Here t st = All-nil (λ (s : Spot). Sized s.node)
way_sized c q (Below p) Leaf st = All-nil (λ (s : Spot). Sized s.node)
way_sized c q (Below p) (Down v t) st = All-cons (λ (s : Spot). Sized s.node) (spot v t p) (way p t) (block_sized c q v (raws_of t) (some_read (node_of_block c q v) (raws_of t) st.0)) (way_sized c q p t st.1)
way_sized c q (Below p) (Entry key rest) st = All-nil (λ (s : Spot). Sized s.node)
way_sized c q (Below p) (DownEntry v t key rest) st = All-cons (λ (s : Spot). Sized s.node) (spot v t p) (way p t) (block_sized c q v (raws_of t) (some_read (node_of_block c q v) (raws_of t) st.0)) (way_sized c q p t st.1)
way_sized c q (Behind p) Leaf st = All-nil (λ (s : Spot). Sized s.node)
way_sized c q (Behind p) (Down v t) st = All-nil (λ (s : Spot). Sized s.node)
way_sized c q (Behind p) (Entry key rest) st = way_sized c q p rest st
way_sized c q (Behind p) (DownEntry v t key rest) st = way_sized c q p rest st.2

pub way_short : (p : Path) (t : Tree) → length (way p t) + 1 ≤ levels t
way_short Here t = let s = some_levels t in omega arith
way_short (Below p) Leaf = omega arith
way_short (Below p) (Down v t) = let w = way_short p t in omega arith
way_short (Below p) (Entry key rest) = let s = some_levels rest in omega arith
way_short (Below p) (DownEntry v t key rest) = let w = way_short p t in omega arith
way_short (Behind p) Leaf = omega arith
way_short (Behind p) (Down v t) = let s = some_levels t in omega arith
way_short (Behind p) (Entry key rest) = way_short p rest
way_short (Behind p) (DownEntry v t key rest) = let w = way_short p rest in omega arith

-- no block lies on the way just where the index has none
no_way : (g : Key → Bool) (t : Tree) → has_blocks t ≡ false → way (path_to g t) t ≡ []
no_way g Leaf e = refl
no_way g (Down v t) e = absurd cc
no_way g (Entry key rest) e = choose (g key) (no_way g rest e)
  where
    choose : (b : Bool) → way (path_to g rest) rest ≡ [] → way (if b then Here else Behind (path_to g rest)) (Entry key rest) ≡ []
    choose true later = refl
    choose false later = later
no_way g (DownEntry v t key rest) e = absurd cc

-- ---- what is pending above a node that was cut

abbrev IsPending : Rise → Type 0
IsPending r = (e : Raw) × (r.pending ≡ Some e)

abbrev rise_if : Bool → Rise → Rise → Rise
rise_if b x y = if b then x else y

-- a node was cut: it took a fresh number, and what it got didn't fit
record IsCut (raws : List Raw) (plan : Plan) (r : Rise) : Type 0 where
  longer : 4032 < bytes raws
  fewer : length r.plan.fresh < length plan.fresh

settle_cuts : (v : ℕ) (raws : List Raw) (plan : Plan) → IsPending (settle v raws plan) → IsCut raws plan (settle v raws plan)
unfolding settle fits middle
settle_cuts v raws plan = at (fits_in 4032 raws) refl
  where
    split : (b : Bool) (left : List ℕ) → left ≡ plan.fresh → IsPending (rise_if b (halved_if (middle raws) v raws plan left) (written v raws plan)) → length (rise_if b (halved_if (middle raws) v raws plan left) (written v raws plan)).plan.fresh < length plan.fresh
    split true [] e is = absurd (let none = is.1 in cc)
    split true (f ∷ fresh) e is = (let n = ap (λ (l : List ℕ). length l) e in omega (arith, n))
    split false left e is = absurd (let none = is.1 in cc)

    at : (b : Bool) → fits_in 4032 raws ≡ b → IsPending (rise_if b (written v raws plan) (rise_if (nat_lt (middle raws + 1) (length raws)) (halved_if (middle raws) v raws plan plan.fresh) (written v raws plan)))
        → IsCut raws plan (rise_if b (written v raws plan) (rise_if (nat_lt (middle raws + 1) (length raws)) (halved_if (middle raws) v raws plan plan.fresh) (written v raws plan)))
    at true e is = absurd (let none = is.1 in cc)
    at false e is = record { longer = over (cases_lt 4032 (bytes raws)); fewer = split (nat_lt (middle raws + 1) (length raws)) plan.fresh refl is }
      where
        over : (4032 < bytes raws) ⊎ (bytes raws ≤ 4032) → 4032 < bytes raws
        over (inl more) = more
        over (inr low) = absurd (both_ways (fits_in 4032 raws) e ((fits_bytes 4032 raws).1 low))

is_tight_so : (raws : List Raw) → 3432 < bytes raws → is_tight raws ≡ true
unfolding is_tight node_used
is_tight_so raws long = lt-ltb node_room (node_used raws + 600) (let b = bytes_is raws in omega (arith, b, long))

-- where something is pending above the way, each of its nodes was cut
record WasCut (spots : List Spot) (start last : Rise) : Type 0 where
  tight : IsTightWay spots
  fewer : length last.plan.fresh + length spots ≤ length start.plan.fresh
  before : IsPending start

cut_by : (f : Spot) (plan : Plan) (pending : Option Raw) → ((e : Raw) → pending ≡ Some e → entry_length e ≤ 600) → IsPending (step f (record { pending = pending; plan = plan })) → (is_tight f.node ≡ true) × (length (step f (record { pending = pending; plan = plan })).plan.fresh < length plan.fresh) × IsPending (record { pending = pending; plan = plan })
cut_by f plan None short is = absurd (let none = is.1 in cc)
cut_by f plan (Some e) short is =
    let cut = settle_cuts f.vcn (insert f.node f.at e) plan is in
    let long = cut.longer in
    let sum = insert_bytes f.node f.at e in
    let small = short e refl in
    (is_tight_so f.node (omega (arith, long, sum, small)), cut.fewer, (e, refl))

pending_short : (o : Option Raw) → ShortPending o → (e : Raw) → o ≡ Some e → entry_length e ≤ 600
pending_short None s e is = absurd cc
pending_short (Some x) s e is = subst (λ (y : Raw). entry_length y ≤ 600) (let same : x ≡ e = cc in same) (short_bytes x s)

was_cut : (spots : List Spot) (start : Rise) → EachSpotSized spots → length spots ≤ length start.plan.fresh → Fitting start.plan.fresh 0 start → IsPending (rise spots start) → WasCut spots start (rise spots start)
was_cut [] start sized enough fitting is = record { tight = All-nil (λ (s : Spot). is_tight s.node ≡ true); fewer = omega arith; before = is }
was_cut (f ∷ spots) start sized enough fitting is =
    let others : EachSpotSized spots = All-tail (λ (x : Spot). Sized x.node) f spots sized in
    let below : Fitting start.plan.fresh (0 + tight_count spots) (rise spots start) = rise_fits spots start.plan.fresh 0 start others (omega (arith, enough)) fitting in
    let cut = cut_by f (rise spots start).plan (rise spots start).pending (pending_short (rise spots start).pending below.short) is in
    let rest : WasCut spots start (rise spots start) = was_cut spots start others (omega (arith, enough)) fitting cut.2 in
    let less = cut.1 in
    let fewer = rest.fewer in
    record { tight = All-cons (λ (s : Spot). is_tight s.node ≡ true) f spots cut.0 rest.tight; fewer = omega (arith, less, fewer); before = rest.before }

-- ---- an index with blocks

Flagged : ℕ → List Raw → Type 0
Flagged flag raws = All (λ e. down_flag e.down ≡ flag) raws

-- where each entry has a child, the way leads to one
goes_below : (g : Key → Bool) (t : Tree) → Flagged 1 (raws_of t) → 0 < length (way (path_to g t) t)
unfolding Flagged
goes_below g Leaf all = absurd (let none = All-head (λ (e : Raw). down_flag e.down ≡ 1) (last_entry None) [] all in omega (arith, none))
goes_below g (Down v t) all = omega arith
goes_below g (Entry key rest) all = absurd (let none = All-head (λ (e : Raw). down_flag e.down ≡ 1) (raw key None) (raws_of rest) all in omega (arith, none))
goes_below g (DownEntry v t key rest) all = choose (g key) (goes_below g rest (All-tail (λ (e : Raw). down_flag e.down ≡ 1) (raw key (Some v)) (raws_of rest) all))
  where
    choose : (b : Bool) → 0 < length (way (path_to g rest) rest) → 0 < length (way (if b then Below (path_to g t) else Behind (path_to g rest)) (DownEntry v t key rest))
    choose true later = omega arith
    choose false later = later

-- an index with blocks whose entries all have a child or none have has one in each
has_children : (t : Tree) (flag : ℕ) → has_blocks t ≡ true → Flagged flag (raws_of t) → flag ≡ 1
unfolding Flagged
has_children Leaf flag some all = absurd cc
has_children (Down v t) flag some all = sym (All-head (λ (e : Raw). down_flag e.down ≡ flag) (last_entry (Some v)) [] all)
has_children (Entry key rest) flag some all = has_children rest flag some (All-tail (λ (e : Raw). down_flag e.down ≡ flag) (raw key None) (raws_of rest) all)
has_children (DownEntry v t key rest) flag some all = sym (All-head (λ (e : Raw). down_flag e.down ≡ flag) (raw key (Some v)) (raws_of rest) all)

root_flags : (value : List ℕ) (entries raws : List Raw) → root_at value ≡ Ok entries → entries ≡ raws → Flagged (children_flag (drop 0x10 value)) raws
unfolding Flagged
root_flags value entries raws is same = subst (λ (l : List Raw). All (λ x. down_flag x.down ≡ children_flag (drop 0x10 value)) l) same (root_from_ok value entries is).holds.flags

-- ---- the root

pending_of : (room : ℕ) (root : List Raw) (at : ℕ) (r : Rise) → overfull room root at r ≡ true → IsPending r
unfolding overfull
pending_of room root at r full = by r.pending refl full
  where
    by : (o : Option Raw) → r.pending ≡ o → overfull_by room root at o ≡ true → IsPending r
    by None is full' = absurd cc
    by (Some e) is full' = (e, is)

-- the root with the entry, where that has room
abbrev with_entry : List Raw → ℕ → Plan → Raw → Rooted
with_entry root at plan e = record { root = insert root at e; plan = plan }

not_over : (room : ℕ) (root : List Raw) (at : ℕ) (r : Rise) (e : Raw) → r.pending ≡ Some e → fits_in room (insert root at e) ≡ true → overfull room root at r ≡ false
unfolding overfull
not_over room root at r e is fit = ap (overfull_by room root at) is ∙ ap (λ (b : Bool). cond b false true) fit

takes_it : (room : ℕ) (root : List Raw) (at : ℕ) (r : Rise) (e : Raw) → r.pending ≡ Some e → fits_in room (insert root at e) ≡ true → rooted room root at r ≡ with_entry root at r.plan e
unfolding rooted
takes_it room root at r e is fit = ap (rooted_by room root at r.plan) is ∙ ap (λ (b : Bool). cond b (with_entry root at r.plan e) (topped (insert root at e) r.plan r.plan.fresh)) fit

-- ---- what is written

used_low : (raws : List Raw) → bytes raws ≤ 4032 → node_used raws ≤ node_room
unfolding node_used
used_low raws low = let b = bytes_is raws in omega (arith, b, low)

writes_known : (nodes : ℕ → Option (List Raw)) (v : ℕ) (writes : List Write) → AllFit writes → Known nodes v (over nodes writes v)
writes_known nodes v [] all = λ entries here. inl here
writes_known nodes v (w ∷ writes) all = one_fits nodes v w (over nodes writes v) (nat_eq v w.vcn) (used_low w.entries all.0) (writes_known nodes v writes all.1)

module _ (c : Content) (p : Place) (upper value : List ℕ) (used : ℕ) (key : Key) (fresh : List ℕ) (t : Tree) (lawful : is_file_name key.value ≡ true) (h : HoldsIndex c p upper value t) (once : Once t (seventeen fresh)) (long : 17 ≤ length fresh) (up : needs_level upper (root_room used value) key (seventeen fresh) t ≡ true) where
  abbrev g : Key → Bool
  g = goes upper (link_of key).name

  abbrev to : Path
  to = path_to g t

  abbrev nodes : ℕ → Option (List Raw)
  nodes = nodes_of (node_of_block c p)

  abbrev start : Rise
  start = record { pending = Some (raw key None); plan = record { writes = []; fresh = seventeen fresh } }

  abbrev r : Rise
  r = rise (way to t) start

  pending : IsPending r
  pending = pending_of (root_room used value) (raws_of t) (place to) r up

  abbrev e : Raw
  e = pending.0

  abbrev root : List Raw
  root = insert (raws_of t) (place to) e

  few : length (way to t) ≤ length (seventeen fresh)
  few = (let short = way_short to t in let low = h.is_index.height in let all = length-take-le 17 fresh long in omega (arith, short, low, all))

  sized : EachSpotSized (way to t)
  sized = way_sized c p to t h.is_index.stands

  first : Fitting (seventeen fresh) 0 start
  first = record { fits = tt; short = short_key key.value lawful; left = omega arith }

  cut : WasCut (way to t) start r
  cut = was_cut (way to t) start sized few first pending

  fitting : Fitting (seventeen fresh) (0 + tight_count (way to t)) r
  fitting = rise_fits (way to t) (seventeen fresh) 0 start sized (omega (arith, few)) first

  new : NewTree nodes t (seventeen fresh) (put g key (walk t)) (λ x. 0) (bytes root) false (with_entry (raws_of t) (place to) r.plan e)
  new =
      let fit : fits_in (bytes root) root ≡ true = (fits_bytes (bytes root) root).1 (omega arith) in
      let rises = keys_rise upper (link_of key).name (walk t) (index_names c p upper value t h) h.is_index.ordered in
      let raw_one = insert_law nodes g key (seventeen fresh) t (bytes root) h.is_index.stands once rises h.is_index.height in
      subst (λ (x : Rooted). NewTree nodes t (seventeen fresh) (put g key (walk t)) (λ x. 0) (bytes root) false x) (takes_it (bytes root) (raws_of t) (place to) r e pending.1 fit)
      (subst (λ (b : Bool). NewTree nodes t (seventeen fresh) (put g key (walk t)) (λ x. 0) (bytes root) b (rooted (bytes root) (raws_of t) (place to) r)) (not_over (bytes root) (raws_of t) (place to) r e pending.1 fit) raw_one)

  abbrev s : Tree
  s = new.tree

  count : blocks_in s + length r.plan.fresh ≡ blocks_in t + length (seventeen fresh)
  count = blocks_counted s t r.plan.fresh (seventeen fresh) (λ v. (let all = new.numbers v in omega (arith, all)))

  cause : (has_blocks t ≡ false) ⊎ (blocks_in t < blocks_in s)
  cause = elim (cases_Bool (has_blocks t)) [
    | inl some ↦
        (let flags : Flagged (children_flag (drop 0x10 value)) (raws_of t) = root_flags value h.entries (raws_of t) h.root_read h.is_index.root_is in
        let way_long = goes_below g t (subst (λ (flag : ℕ). Flagged flag (raws_of t)) (has_children t (children_flag (drop 0x10 value)) some flags) flags) in
        let fewer = cut.fewer in
        inr (let all = count in omega (arith, all, fewer, way_long)))
    | inr none ↦ inl none
  ]

  more : (b : Bool) → has_blocks t ≡ b → entry_length e ≤ (if b then 600 else entry_length (raw key None))
  more true some = pending_short r.pending fitting.short e pending.1
  more false none =
      let same : r ≡ start = ap (λ (l : List Spot). rise l start) (no_way g t none) in
      let own : Some (raw key None) ≡ Some e = sym (ap (λ (x : Rise). x.pending) same) ∙ pending.1 in
      subst (λ (x : Raw). entry_length x ≤ entry_length (raw key None)) (let is : raw key None ≡ e = cc in is) (omega arith)

  longer : entries_length (raws_of s) ≤ entries_length (raws_of t) + bytes_more key t
  longer =
      let sum = insert_bytes (raws_of t) (place to) e in
      let is = ap entries_length new.root in
      omega (arith, sum, is, bytes_is root, bytes_is (raws_of t), more (has_blocks t) refl)

  pub stays_flat : CouldStayFlat c p upper value used key t
  stays_flat = record {
    flat = s;
    spread = λ room. record {
      keys = new.walked;
      once = λ v. (let all = new.numbers v in let most = once v in omega (arith, all, most));
      fit = all_fit nodes (over nodes r.plan.writes) s new.stands (λ v. writes_known nodes v r.plan.writes fitting.fits);
      root = inr (inr (record { cause = cause; longer = longer }));
      height = new.height;
      fresh = (let all = count in let left = fitting.left in omega (arith, all, left));
      behind = omega arith;
    };
    tight = cut.tight;
    crowded = tight_if_higher c p upper value used fresh h.entries t h.root_read h long key lawful up;
  }

pub levels_needed : LevelsAreNeeded
levels_needed c p upper value used key fresh t lawful h once long up = stays_flat c p upper value used key fresh t lawful h once long up
