-- Each node that a plan writes has room in its block.
use Rattle.std.proofs.Common.{◌≡◌, ℕ, zero, suc, ◌+◌, ◌≤◌, ◌<◌, Bool, true, false, List, [], ◌∷◌, ◌++◌, Option, Some, None, refl, sym, ap, subst, arith, length, take, drop, nat_lt, ◌⊎◌, inl, inr, leb, insert, length-drop, length-append, if◌then◌else◌}
use Rattle.std.specs.Prelude.{All, IfSome}
use Rattle.std.proofs.lemmas.Bool.Decides.{leb_tells}
use Rattle.std.proofs.lemmas.List.Elements.{All-nil, All-cons, All-head, All-tail, All-append, All-take, All-drop}
use Rattle.std.proofs.lemmas.List.Sums.{sum_by-cons}
use Rattle.record_model.specs.declared.entry.Entry.{Entry as Raw}
use Rattle.record_model.specs.Nodes.{down_flag, entry_length, entries_length, node_used, node_room, last_entry}
use Rattle.index_model.specs.declared.key.Key.{Key}
use Rattle.index_model.specs.Trees.{raw, one_if}
use Rattle.index_plan.specs.Growth.{fits_in, fits, within, middle}
use Rattle.index_plan.specs.declared.write.Write.{Write}
use Rattle.index_plan.specs.declared.plan.Rooted.{Rooted}
use Rattle.index_plan.specs.declared.place.Place.{Place}
use Rattle.index_plan.specs.Plans.{Plan, Spot}
use Rattle.index_plan.specs.Lists.{Rise, entry_at, left_of, settle, written, halved_if, step, rise, rooted, rooted_by, topped, overfull, overfull_by}
use Rattle.index_plan.specs.Room.{is_tight, tight_count, IsShort, HasKeys, Sized, RootSized, EachFits, EachSpotSized, EachNodeSized}
use Rattle.index_plan.specs.Takings.{Taken, Drawn, last_place, taken_from, drawn_by, drawn, none_drawn, instead, key_of, plan_with, climbed, rooted_raws, removed, too_full}
use Rattle.index_plan.proofs.Mirror.{lt_test, ge_test}
use Rattle.index_plan.proofs.Halves.{bytes, fits_bytes, HalvesLaw, halves, insert_bytes, take_drop, take_more, bytes_append}

pub bytes_is : (raws : List Raw) → bytes raws ≡ entries_length raws
bytes_is [] = refl
bytes_is (r ∷ raws) = let b = bytes_is raws in let s = sum_by-cons entry_length r raws in omega arith

-- ---- short keys

one_flag : (d : Option ℕ) → down_flag d ≤ 1
one_flag None = omega arith
one_flag (Some v) = omega arith

pub short_bytes : (r : Raw) → IsShort r → entry_length r ≤ 600
unfolding entry_length
short_bytes r h = let f = one_flag r.down in omega arith

pub short_at : (raws : List Raw) (i : ℕ) → All IsShort raws → IsShort (entry_at i raws)
short_at [] i h = omega arith
short_at (x ∷ xs) zero h = All-head IsShort x xs h
short_at (x ∷ xs) (suc i) h = short_at xs i (All-tail IsShort x xs h)

-- each of the entries
each_short : (raws : List Raw) → ((i : ℕ) → i < length raws → IsShort (entry_at i raws)) → All IsShort raws
each_short [] h = All-nil IsShort
each_short (x ∷ xs) h = All-cons IsShort x xs (h 0 (omega arith)) (each_short xs (λ i lt. h (suc i) (omega arith)))

pub keys_short : (raws : List Raw) → HasKeys raws → All IsShort raws
keys_short raws h = each_short raws (λ i lt. (h i lt).0)

short_insert : (raws : List Raw) (at : ℕ) (e : Raw) → All IsShort raws → IsShort e → All IsShort (insert raws at e)
short_insert raws at e h k = All-append IsShort (take at raws) (e ∷ drop at raws) (All-take IsShort at raws h) (All-cons IsShort e (drop at raws) k (All-drop IsShort at raws h))

-- ---- one node

abbrev pub AllFit : List Write → Type 0
AllFit [] = Unit {0}
AllFit (w ∷ writes) = (bytes w.entries ≤ 4032) × AllFit writes

used_fits : (raws : List Raw) → bytes raws ≤ 4032 → node_used raws ≤ node_room
unfolding node_used
used_fits raws h = let b = bytes_is raws in omega arith

pub each_fits : (writes : List Write) → AllFit writes → EachFits writes
each_fits [] h = All-nil (λ w. node_used w.entries ≤ node_room)
each_fits (w ∷ writes) h = All-cons (λ x. node_used x.entries ≤ node_room) w writes (used_fits w.entries h.0) (each_fits writes h.1)

abbrev pub ShortPending : Option Raw → Type 0
ShortPending None = Unit {0}
ShortPending (Some e) = IsShort e

-- a plan under way whose nodes fit, and which took at most so many fresh numbers
pub record Fitting (fresh : List ℕ) (count : ℕ) (r : Rise) : Type 0 where
  pub fits : AllFit r.plan.writes
  pub short : ShortPending r.pending
  pub left : length fresh ≤ length r.plan.fresh + count

abbrev rise_if : Bool → Rise → Rise → Rise
rise_if b x y = if b then x else y

pub settle_fits : (v : ℕ) (raws : List Raw) (plan : Plan) → 0 < length plan.fresh → bytes raws ≤ 4656 → All IsShort raws → AllFit plan.writes → Fitting plan.fresh 1 (settle v raws plan)
unfolding settle fits middle
settle_fits v raws plan some most short before = at (fits_in 4032 raws) refl
  where
    small : (i : ℕ) → entry_length (entry_at i raws) ≤ 600
    small i = short_bytes (entry_at i raws) (short_at raws i short)

    split : (b : Bool) (left : List ℕ) → b ≡ true → left ≡ plan.fresh → HalvesLaw (within 2016 raws) raws → Fitting plan.fresh 1 (rise_if b (halved_if (within 2016 raws) v raws plan left) (written v raws plan))
    split false left e l law = absurd cc
    split true [] e l law = let none : 0 ≡ length plan.fresh = ap (λ (x : List ℕ). length x) l in absurd (omega arith)
    split true (g ∷ rest) e l law = record {
      fits = let a = law.left in let b = law.right in (omega arith, (omega arith, before));
      short = short_at raws (within 2016 raws) short;
      left = let n : suc (length rest) ≡ length plan.fresh = ap (λ (x : List ℕ). length x) l in omega arith;
    }

    at : (b : Bool) → fits_in 4032 raws ≡ b → Fitting plan.fresh 1 (rise_if b (written v raws plan) (rise_if (nat_lt (within 2016 raws + 1) (length raws)) (halved_if (within 2016 raws) v raws plan plan.fresh) (written v raws plan)))
    at true e = record { fits = ((fits_bytes 4032 raws).0 e, before); short = tt; left = omega arith }
    at false e = over_half (leb_tells (bytes raws) 4032)
      where
        over_half : ((leb (bytes raws) 4032 ≡ true) × (bytes raws ≤ 4032)) ⊎ ((leb (bytes raws) 4032 ≡ false) × (4032 < bytes raws)) → Fitting plan.fresh 1 (rise_if (nat_lt (within 2016 raws + 1) (length raws)) (halved_if (within 2016 raws) v raws plan plan.fresh) (written v raws plan))
        over_half (inl h) = let fit : fits_in 4032 raws ≡ true = (fits_bytes 4032 raws).1 h.1 in absurd cc
        over_half (inr h) =
            let law = halves raws h.1 most small in
            split (nat_lt (within 2016 raws + 1) (length raws)) plan.fresh (lt_test (within 2016 raws + 1) (length raws) law.inside) refl law

-- ---- blocks with few free bytes

tight_by : (raws : List Raw) (b : Bool) → is_tight raws ≡ b → 3432 < bytes raws → b ≡ true
unfolding is_tight node_used
tight_by raws true is h = refl
tight_by raws false is h = let t : nat_lt node_room (node_used raws + 600) ≡ true = lt_test node_room (node_used raws + 600) (let b = bytes_is raws in omega arith) in cc

-- a node that has to be cut was tight, where what it gets is not long
pub takes_tight : (old new : List Raw) (plan : Plan) (v : ℕ) → bytes new ≤ bytes old + 600 → Fitting plan.fresh 1 (settle v new plan) → Fitting plan.fresh (one_if (is_tight old)) (settle v new plan)
unfolding settle fits
takes_tight old new plan v more f = at (fits_in 4032 new) refl f
  where
    at : (b : Bool) → fits_in 4032 new ≡ b → Fitting plan.fresh 1 (rise_if b (written v new plan) (rise_if (nat_lt (middle new + 1) (length new)) (halved_if (middle new) v new plan plan.fresh) (written v new plan))) → Fitting plan.fresh (one_if (is_tight old)) (rise_if b (written v new plan) (rise_if (nat_lt (middle new + 1) (length new)) (halved_if (middle new) v new plan plan.fresh) (written v new plan)))
    at true e g = record { fits = g.fits; short = g.short; left = omega arith }
    at false e g = over (leb_tells (bytes new) 4032)
      where
        over : ((leb (bytes new) 4032 ≡ true) × (bytes new ≤ 4032)) ⊎ ((leb (bytes new) 4032 ≡ false) × (4032 < bytes new)) → Fitting plan.fresh (one_if (is_tight old)) (rise_if (nat_lt (middle new + 1) (length new)) (halved_if (middle new) v new plan plan.fresh) (written v new plan))
        over (inl h) = let fit : fits_in 4032 new ≡ true = (fits_bytes 4032 new).1 h.1 in absurd cc
        over (inr h) =
            let t : is_tight old ≡ true = tight_by old (is_tight old) refl (omega arith) in
            let one : one_if (is_tight old) ≡ 1 = ap one_if t in
            record { fits = g.fits; short = g.short; left = let l = g.left in omega arith }

count_few : (spots : List Spot) → tight_count spots ≤ length spots
count_few [] = omega arith
count_few (s ∷ spots) = let c = count_few spots in let o = one_at_most (is_tight s.node) in omega arith
  where
    one_at_most : (b : Bool) → one_if b ≤ 1
    one_at_most true = omega arith
    one_at_most false = omega arith

-- ---- the way

step_fits : (f : Spot) (r : Rise) → Sized f.node → 0 < length r.plan.fresh → AllFit r.plan.writes → ShortPending r.pending → Fitting r.plan.fresh (one_if (is_tight f.node)) (step f r)
step_fits f r sized some fits short = at r.pending short
  where
    at : (pending : Option Raw) → ShortPending pending → Fitting r.plan.fresh (one_if (is_tight f.node)) (step f (record { pending = pending; plan = r.plan }))
    at None s = record { fits = fits; short = tt; left = omega arith }
    at (Some e) s =
        let room = sized.room in
        let b = bytes_is f.node in
        let i = insert_bytes f.node f.at e in
        let k = short_bytes e s in
        takes_tight f.node (insert f.node f.at e) r.plan f.vcn (omega arith) (settle_fits f.vcn (insert f.node f.at e) r.plan some (omega arith) (short_insert f.node f.at e (keys_short f.node sized.keys) s) fits)

pub rise_fits : (spots : List Spot) (fresh : List ℕ) (count : ℕ) (r : Rise) → EachSpotSized spots → count + length spots ≤ length fresh → Fitting fresh count r → Fitting fresh (count + tight_count spots) (rise spots r)
rise_fits [] fresh count r sized enough f = record { fits = f.fits; short = f.short; left = let l = f.left in omega arith }
rise_fits (s ∷ spots) fresh count r sized enough f =
    let below = rise_fits spots fresh count r (All-tail (λ x. Sized x.node) s spots sized) (omega arith) f in
    let taken = below.left in
    let few = count_few spots in
    let here = step_fits s (rise spots r) (All-head (λ x. Sized x.node) s spots sized) (omega arith) below.fits below.short in
    record { fits = here.fits; short = here.short; left = let l = here.left in omega arith }

-- ---- the root

topped_fits : (raws : List Raw) (plan : Plan) (fresh : List ℕ) → bytes raws ≤ 4032 → AllFit plan.writes → AllFit (topped raws plan fresh).plan.writes
topped_fits raws plan [] small fits = fits
topped_fits raws plan (f ∷ fresh) small fits = (small, fits)

pub raws_fit : (room : ℕ) (raws : List Raw) (plan : Plan) → bytes raws ≤ 4032 → AllFit plan.writes → AllFit (if fits_in room raws then record { root = raws; plan = plan } else topped raws plan plan.fresh).plan.writes
raws_fit room raws plan small fits = at (fits_in room raws)
  where
    at : (b : Bool) → AllFit (if b then record { root = raws; plan = plan } else topped raws plan plan.fresh).plan.writes
    at true = fits
    at false = topped_fits raws plan plan.fresh small fits

pub rooted_fits : (room : ℕ) (root : List Raw) (at : ℕ) (r : Rise) (fresh : List ℕ) (count : ℕ) → RootSized root → Fitting fresh count r → AllFit (rooted room root at r).plan.writes
unfolding rooted
rooted_fits room root at r fresh count sized f = by r.pending f.short
  where
    by : (pending : Option Raw) → ShortPending pending → AllFit (rooted_by room root at r.plan pending).plan.writes
    by None s = f.fits
    by (Some e) s =
        let small = sized.room in
        let b = bytes_is root in
        let i = insert_bytes root at e in
        let k = short_bytes e s in
        raws_fit room (insert root at e) r.plan (omega arith) f.fits

topped_left : (raws : List Raw) (plan : Plan) (fresh : List ℕ) → fresh ≡ plan.fresh → length plan.fresh ≤ length (topped raws plan fresh).plan.fresh + 1
topped_left raws plan [] e = omega arith
topped_left raws plan (f ∷ fresh) e = let l : length (f ∷ fresh) ≡ length plan.fresh = ap (λ (x : List ℕ). length x) e in omega arith

abbrev root_if : Bool → Rooted → Rooted → Rooted
root_if b x y = if b then x else y

pub raws_left : (room : ℕ) (raws : List Raw) (plan : Plan) → length plan.fresh ≤ length (rooted_raws room raws plan).plan.fresh + one_if (if fits_in room raws then false else true)
raws_left room raws plan = at (fits_in room raws)
  where
    at : (b : Bool) → length plan.fresh ≤ length (root_if b (record { root = raws; plan = plan }) (topped raws plan plan.fresh)).plan.fresh + one_if (if b then false else true)
    at true = omega arith
    at false = topped_left raws plan plan.fresh refl

pub rooted_left : (room : ℕ) (root : List Raw) (at : ℕ) (r : Rise) → length r.plan.fresh ≤ length (rooted room root at r).plan.fresh + one_if (overfull room root at r)
unfolding rooted overfull
rooted_left room root at r = by r.pending
  where
    by : (pending : Option Raw) → length r.plan.fresh ≤ length (rooted_by room root at r.plan pending).plan.fresh + one_if (overfull_by room root at pending)
    by None = omega arith
    by (Some e) = raws_left room (insert root at e) r.plan

-- ---- an insertion

pub insertion_fits : (room : ℕ) (root : List Raw) (at : ℕ) (spots : List Spot) (new : Key) (plan : Plan) (planned : Rooted) → plan.writes ≡ [] → EachSpotSized spots → length spots ≤ length plan.fresh → RootSized root → length new.value ≤ 576 → planned ≡ rooted room root at (rise spots (record { pending = Some (raw new None); plan = plan })) → EachFits planned.plan.writes
insertion_fits room root at spots new plan planned empty sized enough root_sized short is =
    let start : Fitting plan.fresh 0 (record { pending = Some (raw new None); plan = plan }) = record { fits = subst AllFit (sym empty) tt; short = short; left = omega arith } in
    let risen = rise_fits spots plan.fresh 0 (record { pending = Some (raw new None); plan = plan }) sized (omega arith) start in
    subst (λ (r : Rooted). EachFits r.plan.writes) (sym is) (each_fits _ (rooted_fits room root at (rise spots (record { pending = Some (raw new None); plan = plan })) plan.fresh (0 + tight_count spots) root_sized risen))

pub insertion_left : (room : ℕ) (root : List Raw) (at : ℕ) (spots : List Spot) (new : Key) (plan : Plan) (planned : Rooted) → plan.writes ≡ [] → EachSpotSized spots → length spots ≤ length plan.fresh → length new.value ≤ 576 → planned ≡ rooted room root at (rise spots (record { pending = Some (raw new None); plan = plan })) → length plan.fresh ≤ length planned.plan.fresh + tight_count spots + one_if (overfull room root at (rise spots (record { pending = Some (raw new None); plan = plan })))
insertion_left room root at spots new plan planned empty sized enough short is =
    let start : Fitting plan.fresh 0 (record { pending = Some (raw new None); plan = plan }) = record { fits = subst AllFit (sym empty) tt; short = short; left = omega arith } in
    let risen = rise_fits spots plan.fresh 0 (record { pending = Some (raw new None); plan = plan }) sized (omega arith) start in
    let l = risen.left in
    let r = rooted_left room root at (rise spots (record { pending = Some (raw new None); plan = plan })) in
    let same : length planned.plan.fresh ≡ length (rooted room root at (rise spots (record { pending = Some (raw new None); plan = plan }))).plan.fresh = ap (λ (x : Rooted). length x.plan.fresh) is in
    omega arith

-- ---- a removal

abbrev pub ShortKey : Option Key → Type 0
ShortKey None = Unit {0}
ShortKey (Some key) = length key.value ≤ 576

drop_more : (i : ℕ) (raws : List Raw) → bytes (drop (suc i) raws) ≤ bytes (drop i raws)
drop_more i [] = none i
  where
    none : (j : ℕ) → bytes (drop (suc j) []) ≤ bytes (drop j [])
    none zero = omega arith
    none (suc j) = omega arith
drop_more zero (r ∷ raws) = omega arith
drop_more (suc i) (r ∷ raws) = drop_more i raws

pub instead_bytes : (at : ℕ) (raws : List Raw) (key : Option Key) → ShortKey key → bytes (instead at raws key) ≤ bytes raws + 600
instead_bytes at raws None s =
    let a = bytes_append (take at raws) (drop (suc at) raws) in
    let t = take_drop at raws in
    let d = drop_more at raws in
    omega arith
instead_bytes at raws (Some key) s =
    let a = bytes_append (take at raws) (raw key (entry_at at raws).down ∷ drop (suc at) raws) in
    let t = take_drop at raws in
    let d = drop_more at raws in
    let k = short_bytes (raw key (entry_at at raws).down) s in
    omega arith

short_instead : (at : ℕ) (raws : List Raw) (key : Option Key) → All IsShort raws → ShortKey key → All IsShort (instead at raws key)
short_instead at raws None h s = All-append IsShort (take at raws) (drop (suc at) raws) (All-take IsShort at raws h) (All-drop IsShort (suc at) raws h)
short_instead at raws (Some key) h s = All-append IsShort (take at raws) (raw key (entry_at at raws).down ∷ drop (suc at) raws) (All-take IsShort at raws h) (All-cons IsShort (raw key (entry_at at raws).down) (drop (suc at) raws) s (All-drop IsShort (suc at) raws h))

pub climbed_fits : (key : Option Key) (plan : Plan) (n : Spot) (spots : List Spot) → Sized n.node → EachSpotSized spots → 1 + length spots ≤ length plan.fresh → ShortKey key → AllFit plan.writes → Fitting plan.fresh (one_if (is_tight n.node) + tight_count spots) (climbed key plan n spots)
climbed_fits key plan n [] sized each enough s fits =
    let room = sized.room in
    let b = bytes_is n.node in
    let i = instead_bytes n.at n.node key s in
    let f = takes_tight n.node (instead n.at n.node key) plan n.vcn (omega arith) (settle_fits n.vcn (instead n.at n.node key) plan (omega arith) (omega arith) (short_instead n.at n.node key (keys_short n.node sized.keys) s) fits) in
    record { fits = f.fits; short = f.short; left = let l = f.left in omega arith }
climbed_fits key plan n (m ∷ spots) sized each enough s fits =
    let below = climbed_fits key plan m spots (All-head (λ x. Sized x.node) m spots each) (All-tail (λ x. Sized x.node) m spots each) (omega arith) s fits in
    let taken = below.left in
    let few = count_few (m ∷ spots) in
    let here = step_fits n (climbed key plan m spots) sized (omega arith) below.fits below.short in
    record { fits = here.fits; short = here.short; left = let l = here.left in omega arith }

removed_fits : (room : ℕ) (root : List Raw) (at : ℕ) (spots : List Spot) (key : Option Key) (plan : Plan) → RootSized root → EachSpotSized spots → length spots ≤ length plan.fresh → ShortKey key → AllFit plan.writes → AllFit (removed room root at spots key plan).plan.writes
unfolding removed
removed_fits room root at [] key plan sized each enough s fits =
    let small = sized.room in
    let b = bytes_is root in
    let i = instead_bytes at root key s in
    raws_fit room (instead at root key) plan (omega arith) fits
removed_fits room root at (n ∷ spots) key plan sized each enough s fits =
    rooted_fits room root at (climbed key plan n spots) plan.fresh (tight_count (n ∷ spots)) sized
    (climbed_fits key plan n spots (All-head (λ x. Sized x.node) n spots each) (All-tail (λ x. Sized x.node) n spots each) (omega arith) s fits)

-- ---- the chain

least_bytes : (r : Raw) → 16 ≤ entry_length r
unfolding entry_length
least_bytes r = omega arith

last_shorter : (r : Raw) → 0 < length r.key → entry_length (last_entry r.down) + 8 ≤ entry_length r
unfolding entry_length
last_shorter r h = omega arith

some_bytes : (raws : List Raw) → 0 < length raws → 16 ≤ bytes raws
some_bytes [] h = absurd (omega arith)
some_bytes (r ∷ raws) h = let l = least_bytes r in omega arith

-- a node without its last key
left_fits : (raws : List Raw) (i : ℕ) → i + 1 < length raws → Sized raws → bytes (left_of i raws) ≤ 4032
left_fits raws i h sized =
    let room = sized.room in
    let b = bytes_is raws in
    let a = bytes_append (take i raws) (last_entry (entry_at i raws).down ∷ []) in
    let m = take_more i raws (omega arith) in
    let t = take_drop (suc i) raws in
    let l = last_shorter (entry_at i raws) ((sized.keys i (omega arith)).1 h) in
    let n = length-drop (suc i) raws in
    let s = some_bytes (drop (suc i) raws) (omega arith) in
    omega arith

abbrev pub TakenFits : Option Taken → Type 0
TakenFits None = Unit {0}
TakenFits (Some k) = (bytes k.write.entries ≤ 4032) × (length k.key.value ≤ 576)

from_fits : (n : Write) → 1 < length n.entries → Sized n.entries → TakenFits (Some (taken_from n))
from_fits n h sized = (left_fits n.entries (last_place n.entries) (omega arith) sized, short_at n.entries (last_place n.entries) (keys_short n.entries sized.keys))

abbrev if_drawn : Bool → Drawn → Drawn → Drawn
if_drawn b x y = if b then x else y

by_fits : (n : Write) (freed : List ℕ) (taken : Option Taken) → Sized n.entries → TakenFits taken → TakenFits (drawn_by n freed taken).taken
by_fits n freed (Some k) sized f = f
by_fits n freed None sized f = at (leb_tells (length n.entries) 1)
  where
    at : ((leb (length n.entries) 1 ≡ true) × (length n.entries ≤ 1)) ⊎ ((leb (length n.entries) 1 ≡ false) × (1 < length n.entries)) → TakenFits (drawn_by n freed None).taken
    at (inl h) = subst (λ (b : Bool). TakenFits (if_drawn b (record { taken = Some (taken_from n); freed = freed }) (record { taken = None; freed = n.vcn ∷ freed })).taken) (sym (ge_test 1 (length n.entries) h.1)) tt
    at (inr h) = subst (λ (b : Bool). TakenFits (if_drawn b (record { taken = Some (taken_from n); freed = freed }) (record { taken = None; freed = n.vcn ∷ freed })).taken) (sym (lt_test 1 (length n.entries) h.1)) (from_fits n h.1 sized)

pub drawn_fits : (chain : List Write) → EachNodeSized chain → TakenFits (drawn none_drawn chain).taken
drawn_fits [] each = tt
drawn_fits (n ∷ chain) each = by_fits n (drawn none_drawn chain).freed (drawn none_drawn chain).taken (All-head (λ x. Sized x.entries) n chain each) (drawn_fits chain (All-tail (λ x. Sized x.entries) n chain each))

pub taken_key : (taken : Option Taken) → TakenFits taken → ShortKey (key_of taken)
taken_key None f = tt
taken_key (Some k) f = f.1

pub taken_plan : (plan : Plan) (taken : Option Taken) → TakenFits taken → AllFit plan.writes → AllFit (plan_with plan taken).writes
taken_plan plan None f fits = fits
taken_plan plan (Some k) f fits = (f.0, fits)

pub taken_fresh : (plan : Plan) (taken : Option Taken) → (plan_with plan taken).fresh ≡ plan.fresh
taken_fresh plan None = refl
taken_fresh plan (Some k) = refl

pub removal_fits : (room : ℕ) (root : List Raw) (at : ℕ) (spots : List Spot) (chain : List Write) (plan : Plan) (planned : Rooted) → plan.writes ≡ [] → EachSpotSized spots → EachNodeSized chain → length spots ≤ length plan.fresh → RootSized root → planned ≡ removed room root at spots (key_of (drawn none_drawn chain).taken) (plan_with plan (drawn none_drawn chain).taken) → EachFits planned.plan.writes
removal_fits room root at spots chain plan planned empty each nodes enough sized is =
    let taken : Option Taken = (drawn none_drawn chain).taken in
    let f = drawn_fits chain nodes in
    let same : length (plan_with plan taken).fresh ≡ length plan.fresh = ap (λ (l : List ℕ). length l) (taken_fresh plan taken) in
    subst (λ (r : Rooted). EachFits r.plan.writes) (sym is) (each_fits _ (removed_fits room root at spots (key_of taken) (plan_with plan taken) sized each (omega arith) (taken_key taken f) (taken_plan plan taken f (subst AllFit (sym empty) tt))))

removed_left : (room : ℕ) (root : List Raw) (at : ℕ) (spots : List Spot) (key : Option Key) (plan : Plan) → EachSpotSized spots → length spots ≤ length plan.fresh → ShortKey key → AllFit plan.writes → length plan.fresh ≤ length (removed room root at spots key plan).plan.fresh + tight_count spots + one_if (too_full room root at spots key plan)
unfolding removed too_full
removed_left room root at [] key plan each enough s fits = let r = raws_left room (instead at root key) plan in omega arith
removed_left room root at (n ∷ spots) key plan each enough s fits =
    let c = climbed_fits key plan n spots (All-head (λ x. Sized x.node) n spots each) (All-tail (λ x. Sized x.node) n spots each) (omega arith) s fits in
    let l = c.left in
    let r = rooted_left room root at (climbed key plan n spots) in
    omega arith

pub removal_left : (room : ℕ) (root : List Raw) (at : ℕ) (spots : List Spot) (chain : List Write) (plan : Plan) (planned : Rooted) → plan.writes ≡ [] → EachSpotSized spots → EachNodeSized chain → length spots ≤ length plan.fresh → planned ≡ removed room root at spots (key_of (drawn none_drawn chain).taken) (plan_with plan (drawn none_drawn chain).taken) → length plan.fresh ≤ length planned.plan.fresh + tight_count spots + one_if (too_full room root at spots (key_of (drawn none_drawn chain).taken) (plan_with plan (drawn none_drawn chain).taken))
removal_left room root at spots chain plan planned empty each nodes enough is =
    let taken : Option Taken = (drawn none_drawn chain).taken in
    let f = drawn_fits chain nodes in
    let same : length (plan_with plan taken).fresh ≡ length plan.fresh = ap (λ (l : List ℕ). length l) (taken_fresh plan taken) in
    let l = removed_left room root at spots (key_of taken) (plan_with plan taken) each (omega arith) (taken_key taken f) (taken_plan plan taken f (subst AllFit (sym empty) tt)) in
    let planned_is : length planned.plan.fresh ≡ length (removed room root at spots (key_of taken) (plan_with plan taken)).plan.fresh = ap (λ (x : Rooted). length x.plan.fresh) is in
    omega arith

-- ---- what is read

pub spots_nil : (spots : List Spot) → spots ≡ [] → EachSpotSized spots
spots_nil spots e = subst EachSpotSized (sym e) (All-nil (λ s. Sized s.node))

pub spots_more : (spots more : List Spot) (s : Spot) → more ≡ spots ++ s ∷ [] → EachSpotSized spots → Sized s.node → EachSpotSized more
spots_more spots more s e each sized = subst EachSpotSized (sym e) (All-append (λ x. Sized x.node) spots (s ∷ []) each (All-cons (λ x. Sized x.node) s [] sized (All-nil (λ x. Sized x.node))))

pub spots_above : (spots more : List Spot) (s : Spot) → more ≡ s ∷ spots → EachSpotSized spots → Sized s.node → EachSpotSized more
spots_above spots more s e each sized = subst EachSpotSized (sym e) (All-cons (λ x. Sized x.node) s spots sized each)

pub nodes_nil : (nodes : List Write) → nodes ≡ [] → EachNodeSized nodes
nodes_nil nodes e = subst EachNodeSized (sym e) (All-nil (λ w. Sized w.entries))

pub nodes_more : (nodes more : List Write) (w : Write) → more ≡ nodes ++ w ∷ [] → EachNodeSized nodes → Sized w.entries → EachNodeSized more
nodes_more nodes more w e each sized = subst EachNodeSized (sym e) (All-append (λ x. Sized x.entries) nodes (w ∷ []) each (All-cons (λ x. Sized x.entries) w [] sized (All-nil (λ x. Sized x.entries))))

pub more_length : (spots more : List Spot) (s : Spot) (n : ℕ) → more ≡ spots ++ s ∷ [] → length spots ≤ n → length more ≤ n + 1
more_length spots more s n e h = let l : length more ≡ length (spots ++ s ∷ []) = ap (λ (x : List Spot). length x) e in let a = length-append spots (s ∷ []) in omega arith

pub nil_length : (spots : List Spot) (n : ℕ) → spots ≡ [] → length spots ≤ n
nil_length spots n e = let l : length spots ≡ 0 = ap (λ (x : List Spot). length x) e in omega arith

-- the way that was found is no longer than so many nodes
pub few_of : (o : Option Place) (p : Place) (path : List Spot) (n : ℕ) → o ≡ Some p → path ≡ p.trail.path → IfSome o (λ q. length q.trail.path ≤ n) → length path ≤ n
few_of o p path n is same h =
    let l : length path ≡ length p.trail.path = ap (λ (x : List Spot). length x) same in
    let few : length p.trail.path ≤ n = subst (λ (x : Option Place). IfSome x (λ q. length q.trail.path ≤ n)) is h in
    omega arith

pub sized_of : (raws : List Raw) → HasKeys raws → fits_in 4056 raws ≡ true → Sized raws
sized_of raws keys e = record { keys = keys; room = let b = bytes_is raws in let f = (fits_bytes 4056 raws).0 e in omega arith }

pub sized_fits : (raws : List Raw) → Sized raws → fits_in 4056 raws ≡ true
sized_fits raws sized = let b = bytes_is raws in let r = sized.room in (fits_bytes 4056 raws).1 (omega arith)
