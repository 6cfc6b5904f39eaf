-- A record that has one attribute more, and a record as it is written.
use Rattle.std.proofs.Common.{◌≡◌, ℕ, zero, suc, ◌+◌, ◌<◌, ◌≤◌, ◌^◌, ◌%◌, ◌-◌, Bool, true, false, cond, leb, ltb, List, [], ◌∷◌, ◌++◌, length, map, replicate, Some, refl, sym, ap, ◌∙◌, subst, inl, inr, arith}
use Rattle.std.specs.Prelude.{All, insert, find, IsTrue, ◌==◌, ◌||◌, ◌&&◌}
use Rattle.std.specs.List.{filter, list_any, list_all, range_with_len}
use Rattle.std.proofs.lemmas.Bool.{or_parts, or_cases, or_left, or_right, and_parts, and_from, ltb-true, ltb-false, le-leb}
use Rattle.std.proofs.lemmas.Bool.Decides.{nat_tests}
use Rattle.std.proofs.lemmas.List.{append-nil, length-map}
use Rattle.std.proofs.lemmas.List.Elements.{All-head, All-tail, All-cons, All-map, All-weaker}
use Rattle.std.proofs.lemmas.List.Sums.{count_by-le-length}
use Rattle.disk_model.specs.Bytes.{up8, zeros}
use Rattle.record_model.specs.declared.attribute.Attr.{Attr}
use Rattle.record_model.specs.declared.attribute.OwnForm.{OwnForm}
use Rattle.record_model.specs.declared.attribute.OwnForm.TheVariants.{Resident, Mapped}
use Rattle.record_model.specs.Attributes.{filled, spelling, FitsAttr, FitsForm}
use Rattle.record_model.specs.Records.{Record, spelled_bytes}
use Rattle.record_model.specs.Values.{has_lawful_value}
use Rattle.data_plan.specs.record_writer.Fitting.{rise_from}
use Rattle.data_plan.specs.record_writer.Normal.{normal, normal_form}
use Rattle.data_plan.proofs.record_writer.NormalRoom.{rise_stays}
use Rattle.data_plan.proofs.record_writer.Rising.{rise_true, true_rise}
use Rattle.data_plan.proofs.record_writer.Staying.{all_stand}
use Rattle.data_plan.specs.state_model.Loads.{has_fitting_pairs, has_all_pairs}
use Rattle.data_plan.specs.draft_records.Records.{is_name, written_record}
use Rattle.data_plan.specs.record_streams.Fitting.{IsShort, FitsButRoom}
use Rattle.made_data.specs.Ids.{is_lesser, is_before, place_of, first_free, or_zero, new_id, with_id, with_attr}
use Rattle.data_plan.proofs.used_laws.Lengths.{filter_yes, filter_no}

-- ---- tests of attributes

pub any_put : (q : Attr → Bool) (p : ℕ) (new : Attr) (attrs : List Attr) → list_any q attrs ≡ true → list_any q (insert attrs p new) ≡ true
any_put q zero new attrs is = or_right (q new) (list_any q attrs) is
any_put q (suc p) new [] is = absurd cc
any_put q (suc p) new (a ∷ attrs) is = elim (or_cases (q a) (list_any q attrs) is) [
  | inl here ↦ or_left (q a) (list_any q (insert attrs p new)) here
  | inr rest ↦ or_right (q a) (list_any q (insert attrs p new)) (any_put q p new attrs rest)
]

-- a test that the new one doesn't pass
pub any_same : (q : Attr → Bool) (p : ℕ) (new : Attr) (attrs : List Attr) → q new ≡ false → list_any q (insert attrs p new) ≡ list_any q attrs
any_same q zero new attrs out = ap (λ (t : Bool). t || list_any q attrs) out
any_same q (suc p) new [] out = ap (λ (t : Bool). t || false) out
any_same q (suc p) new (a ∷ attrs) out = ap (λ (t : Bool). q a || t) (any_same q p new attrs out)

pub none_pass : (q : Attr → Bool) (attrs : List Attr) → list_any q attrs ≡ false → filter q attrs ≡ []
none_pass q [] none = refl
none_pass q (a ∷ attrs) none = (let parts = or_parts (q a) (list_any q attrs) none in filter_no q a attrs parts.0 ∙ none_pass q attrs parts.1)

-- a test that passes the new one alone
pub one_passes : (q : Attr → Bool) (p : ℕ) (new : Attr) (attrs : List Attr) → q new ≡ true → list_any q attrs ≡ false → filter q (insert attrs p new) ≡ new ∷ []
one_passes q zero new attrs is none = filter_yes q new attrs is ∙ ap (λ (l : List Attr). new ∷ l) (none_pass q attrs none)
one_passes q (suc p) new [] is none = filter_yes q new [] is
one_passes q (suc p) new (a ∷ attrs) is none = (let parts = or_parts (q a) (list_any q attrs) none in filter_no q a (insert attrs p new) parts.0 ∙ one_passes q p new attrs is parts.1)

by_first : (q : Attr → Bool) (a : Attr) (xs ys : List Attr) (t : Bool) → q a ≡ t → filter q xs ≡ filter q ys → filter q (a ∷ xs) ≡ filter q (a ∷ ys)
by_first q a xs ys true is rest = filter_yes q a xs is ∙ ap (λ (l : List Attr). a ∷ l) rest ∙ sym (filter_yes q a ys is)
by_first q a xs ys false is rest = filter_no q a xs is ∙ rest ∙ sym (filter_no q a ys is)

pub others_pass : (q : Attr → Bool) (p : ℕ) (new : Attr) (attrs : List Attr) → q new ≡ false → filter q (insert attrs p new) ≡ filter q attrs
others_pass q zero new attrs out = filter_no q new attrs out
others_pass q (suc p) new [] out = filter_no q new [] out
others_pass q (suc p) new (a ∷ attrs) out = by_first q a (insert attrs p new) attrs (q a) refl (others_pass q p new attrs out)

-- ---- a spelling but for room

pairs_same : (pairs : List ℕ) → length pairs % 8 ≡ 0 → filled 0 pairs ≡ pairs
unfolding filled zeros
pairs_same pairs eights =
    let none : up8 (0 + length pairs) - (0 + length pairs) ≡ 0 = omega (arith, eights) in
    ap (λ (n : ℕ). pairs ++ replicate n 0) none ∙ append-nil pairs

form_same : (flags : ℕ) (form : OwnForm) → FitsForm flags form → normal_form form ≡ form
form_same flags (Resident value indexed) fits = refl
form_same flags (Mapped sizes pairs) fits = ap (λ (l : List ℕ). Mapped sizes l) (pairs_same pairs fits.pairs_eights)

attr_same : (a : Attr) → FitsAttr a → normal a ≡ a
attr_same a fits = ap (λ (f : OwnForm). record { head = a.head; name = a.name; form = f }) (form_same a.head.flags a.form fits.form)

short_still : (a : Attr) → IsShort a → IsShort (normal a)
short_still a k =
    let same : normal a ≡ normal (normal a) = sym (attr_same (normal a) k.fits) in
    record {
      fits = subst FitsAttr same k.fits;
      kind = k.kind;
      lawful = subst (λ (x : Attr). IsTrue (has_lawful_value x)) same k.lawful;
      short = subst (λ (x : Attr). length (spelling x) ≤ 2 ^ 21) same k.short;
    }

all_put : (p : ℕ) (new : Attr) (attrs : List Attr) → IsShort new → All IsShort attrs → All IsShort (insert attrs p new)
all_put zero new attrs one all = All-cons IsShort new attrs one all
all_put (suc p) new [] one all = All-cons IsShort new [] one all
all_put (suc p) new (a ∷ attrs) one all = All-cons IsShort a (insert attrs p new) (All-head IsShort a attrs all) (all_put p new attrs one (All-tail IsShort a attrs all))

pub size_put : (p : ℕ) (new : Attr) (attrs : List Attr) → length (insert attrs p new) ≡ suc (length attrs)
size_put zero new attrs = refl
size_put (suc p) new [] = refl
size_put (suc p) new (a ∷ attrs) = ap suc (size_put p new attrs)

same_kind : (m n : ℕ) → (m == n) ≡ true → m ≤ n
same_kind m n is = grind (arith, nat_tests)

before_kind : (kind : ℕ) (name : List ℕ) (a : Attr) → is_before kind name a ≡ true → a.head.kind ≤ kind
unfolding is_before
before_kind kind name a is = elim (or_cases (ltb a.head.kind kind) (a.head.kind == kind && is_lesser a.name name) is) [
  | inl less ↦ omega (arith, ltb-true a.head.kind kind less)
  | inr same ↦ same_kind a.head.kind kind (and_parts (a.head.kind == kind) (is_lesser a.name name) same).0
]

behind_kind : (kind : ℕ) (name : List ℕ) (a : Attr) → is_before kind name a ≡ false → kind ≤ a.head.kind
unfolding is_before
behind_kind kind name a is = ltb-false a.head.kind kind (or_parts (ltb a.head.kind kind) (a.head.kind == kind && is_lesser a.name name) is).0

-- the new attribute stands behind those of lesser types, and before those of greater ones
rise_in : (least : ℕ) (new a : Attr) (attrs : List Attr) (t : Bool) → is_before new.head.kind new.name a ≡ t → least ≤ new.head.kind → rise_from least (a ∷ attrs) ≡ true
    → (a.head.kind ≤ new.head.kind → rise_from a.head.kind attrs ≡ true → rise_from a.head.kind (insert attrs (place_of new.head.kind new.name attrs) new) ≡ true)
    → rise_from least (insert (a ∷ attrs) (cond t (suc (place_of new.head.kind new.name attrs)) 0) new) ≡ true
rise_in least new a attrs true is low rise rest =
    let parts = and_parts (leb least a.head.kind) (rise_from a.head.kind attrs) rise in
    and_from _ _ parts.0 (rest (before_kind new.head.kind new.name a is) parts.1)
rise_in least new a attrs false is low rise rest =
    let parts = and_parts (leb least a.head.kind) (rise_from a.head.kind attrs) rise in
    and_from _ _ (le-leb _ _ low) (and_from _ _ (le-leb _ _ (behind_kind new.head.kind new.name a is)) parts.1)

rise_put : (least : ℕ) (new : Attr) (attrs : List Attr) → least ≤ new.head.kind → rise_from least attrs ≡ true → rise_from least (insert attrs (place_of new.head.kind new.name attrs) new) ≡ true
rise_put least new [] low rise = and_from _ _ (le-leb _ _ low) refl
rise_put least new (a ∷ attrs) low rise = rise_in least new a attrs (is_before new.head.kind new.name a) refl low rise (rise_put a.head.kind new attrs)

bound_step : (p : ℕ → Bool) (from n most : ℕ) (t : Bool) → from ≤ most → or_zero (find p (range_with_len (from + 1) n)) ≤ most → or_zero (cond t (Some from) (find p (range_with_len (from + 1) n))) ≤ most
bound_step p from n most true here rest = here
bound_step p from n most false here rest = rest

bound : (p : ℕ → Bool) (from n most : ℕ) → from + n ≤ most → or_zero (find p (range_with_len from n)) ≤ most
bound p from zero most le = omega arith
bound p from (suc n) most le = bound_step p from n most (p from) (omega (arith, le)) (bound p (from + 1) n most (omega (arith, le)))

free_small : (attrs : List Attr) → or_zero (first_free attrs (length attrs + 1)) ≤ length attrs + 1
unfolding first_free
free_small attrs = bound _ 0 (length attrs + 1) (length attrs + 1) (omega arith)

id_by : (free next : ℕ) (t : Bool) → free < 2 ^ 16 → next < 2 ^ 16 → cond t free next < 2 ^ 16
id_by free next true few small = few
id_by free next false few small = small

small_id : (r : Record) → FitsButRoom r → new_id r < 2 ^ 16
small_id r fits = (let free = free_small r.attrs in id_by (or_zero (first_free r.attrs (length r.attrs + 1))) r.head.next_id (r.head.next_id == 0xFFFF) (omega (arith, free, fits.few)) fits.head.next_id)

pub attr_fits : (new : Attr) (r : Record) → FitsButRoom r → length r.attrs < 2 ^ 10 → ((id : ℕ) → id < 2 ^ 16 → IsShort (with_id id new)) → FitsButRoom (with_attr new r)
attr_fits new r fits few short =
    let p = place_of new.head.kind new.name r.attrs in
    let own : Attr = with_id (new_id r) new in
    let head = fits.head in
    record {
      head = record { lsn = head.lsn; seq = head.seq; links = head.links; flags = head.flags; base = head.base; base_seq = head.base_seq; next_id = omega arith; number = head.number };
      attrs = all_put p own r.attrs (short (new_id r) (small_id r fits)) fits.attrs;
      rise = rise_true (insert r.attrs p own) (rise_put 0 own r.attrs (omega arith) (true_rise r.attrs fits.rise));
      few = omega (arith, size_put p own r.attrs, few);
    }

pub written_fits : (r : Record) → FitsButRoom r → FitsButRoom (written_record r)
written_fits r fits =
    let head = fits.head in
    let names = count_by-le-length is_name r.attrs in
    record {
      head = record { lsn = head.lsn; seq = head.seq; links = omega (arith, names, fits.few); flags = head.flags; base = head.base; base_seq = head.base_seq; next_id = head.next_id; number = head.number };
      attrs = All-map IsShort normal r.attrs (All-weaker IsShort (λ (a : Attr). IsShort (normal a)) short_still r.attrs fits.attrs);
      rise = rise_stays r.attrs fits.rise;
      few = omega (arith, length-map r.attrs normal, fits.few);
    }

-- ---- used bytes

pub spelled_put : (p : ℕ) (new : Attr) (attrs : List Attr) → spelled_bytes (insert attrs p new) ≡ length (spelling new) + spelled_bytes attrs
spelled_put zero new attrs = refl
spelled_put (suc p) new [] = refl
spelled_put (suc p) new (a ∷ attrs) = (let rest = spelled_put p new attrs in omega (arith, rest))

kept_by : (q : Attr → Bool) (a : Attr) (xs ys : List Attr) (n : ℕ) (t : Bool) → q a ≡ t → spelled_bytes (filter q xs) ≡ n + spelled_bytes (filter q ys) → spelled_bytes (filter q (a ∷ xs)) ≡ n + spelled_bytes (filter q (a ∷ ys))
kept_by q a xs ys n true here rest = omega (arith, ap spelled_bytes (filter_yes q a xs here), ap spelled_bytes (filter_yes q a ys here), rest)
kept_by q a xs ys n false here rest = omega (arith, ap spelled_bytes (filter_no q a xs here), ap spelled_bytes (filter_no q a ys here), rest)

-- the bytes of what a test passes, where it passes the new one
pub kept_put : (q : Attr → Bool) (p : ℕ) (new : Attr) (attrs : List Attr) → q new ≡ true → spelled_bytes (filter q (insert attrs p new)) ≡ length (spelling new) + spelled_bytes (filter q attrs)
kept_put q zero new attrs is = ap spelled_bytes (filter_yes q new attrs is)
kept_put q (suc p) new [] is = ap spelled_bytes (filter_yes q new [] is)
kept_put q (suc p) new (a ∷ attrs) is = (let rest = kept_put q p new attrs is in kept_by q a (insert attrs p new) attrs (length (spelling new)) (q a) refl rest)

-- ---- pairs

pairs_put : (p : ℕ) (new : Attr) (attrs : List Attr) → has_fitting_pairs new ≡ true → list_all has_fitting_pairs attrs ≡ true → list_all has_fitting_pairs (insert attrs p new) ≡ true
pairs_put zero new attrs one all = and_from (has_fitting_pairs new) (list_all has_fitting_pairs attrs) one all
pairs_put (suc p) new [] one all = and_from (has_fitting_pairs new) true one refl
pairs_put (suc p) new (a ∷ attrs) one all =
    (let parts = and_parts (has_fitting_pairs a) (list_all has_fitting_pairs attrs) all in and_from (has_fitting_pairs a) (list_all has_fitting_pairs (insert attrs p new)) parts.0 (pairs_put p new attrs one parts.1))

pub attr_pairs : (new : Attr) (r : Record) → has_fitting_pairs new ≡ true → has_all_pairs r ≡ true → has_all_pairs (with_attr new r) ≡ true
unfolding has_all_pairs
attr_pairs new r one all = pairs_put (place_of new.head.kind new.name r.attrs) (with_id (new_id r) new) r.attrs one all

with_head : (s t : Record) → s.attrs ≡ t.attrs → has_all_pairs s ≡ true → has_all_pairs t ≡ true
unfolding has_all_pairs
with_head s t same all = ap (list_all has_fitting_pairs) (sym same) ∙ all

pub written_pairs : (r : Record) → has_all_pairs r ≡ true → has_all_pairs (written_record r) ≡ true
written_pairs r all = with_head (record { head = r.head; attrs = map normal r.attrs }) (written_record r) refl (all_stand.record_whole r all).pairs
