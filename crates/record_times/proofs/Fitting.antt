-- A record whose file changed at a time has a spelling but for its room.
use Rattle.std.proofs.Common.{◌≡◌, ℕ, zero, suc, ◌+◌, ◌*◌, ◌^◌, ◌<◌, ◌≤◌, Bool, true, false, cond, ◌&&◌, eqb, leb, ltb, List, [], ◌∷◌, length, Some, refl, sym, ap, ◌∙◌, subst, arith}
use Rattle.std.specs.Prelude.{All, IsTrue, insert, find, map}
use Rattle.std.specs.List.{range_with_len}
use Rattle.std.proofs.lemmas.Bool.{and_parts, and_from, le-leb, ltb-true, ltb-false}
use Rattle.std.proofs.lemmas.List.Elements.{All-nil, All-cons, All-head, All-tail, All-map, All-weaker}
use Rattle.record_model.specs.declared.attribute.Attr.{Attr}
use Rattle.record_model.specs.Attributes.{FitsAttr}
use Rattle.record_model.specs.Constants.{end_mark, standard_information}
use Rattle.record_model.specs.Records.{Record, spelled_bytes, TypesRise, FitsHead}
use Rattle.record_model.specs.Values.{has_lawful_value}
use Rattle.plan_changes.specs.record_writer.Fitting.{rise_from}
use Rattle.plan_changes.specs.record_writer.Normal.{normal}
use Rattle.plan_changes.specs.record_writer.NormalLaws.{FitsByRoom}
use Rattle.plan_changes.proofs.record_writer.Rising.{rise_true, true_rise}
use Rattle.plan_changes.specs.record_streams.Fitting.{IsShort, FitsButRoom}
use Rattle.disk_model.specs.Numbers.{spell}
use Rattle.disk_model.specs.Bytes.{written, zeros}
use Rattle.disk_model.proofs.Frames.{length-written}
use Rattle.record_model.specs.declared.attribute.Head.{Head}
use Rattle.record_model.specs.declared.attribute.OwnForm.{OwnForm}
use Rattle.record_model.specs.declared.attribute.OwnForm.TheVariants.{Resident, Mapped}
use Rattle.record_model.specs.StdValues.{std_info_over}
use Rattle.record_model.specs.Values.{is_standard_information, is_resident_and}
use Rattle.record_model.proofs.FixedValues.{length-std_info_over}
use Rattle.record_model.proofs.UnitBytes.{length-zeros}
use Rattle.plan_changes.proofs.record_writer.Measures.{length-spelling}
use Rattle.state_model.specs.Files.{has_type, no_info}
use Rattle.plan_changes.specs.plan_model.Informed.{is_info}
use Rattle.record_times.specs.Times.{timed_info, timed_value, timed_form, timed_attr, timed_attrs, place_of_type, first_free, or_zero, new_id, new_value, new_info, timed_record}
use Rattle.record_times.specs.Laws.{TimesAreSet}
use Rattle.record_times.proofs.Timed.{with_own, with_new, had, had_none, info_lawful, rewritten, comes, info, node}

-- ---- the parts of a record that fits by its room

abbrev HasKind : Attr → Type 0
HasKind a = a.head.kind < end_mark

abbrev IsLawful : Attr → Type 0
IsLawful a = IsTrue (has_lawful_value a)

sum_short : (attrs : List Attr) → All IsShort attrs → spelled_bytes (map normal attrs) ≤ 2 ^ 21 * length attrs
sum_short [] short = omega arith
sum_short (a ∷ attrs) short = (let first = All-head IsShort a attrs short in omega (arith, sum_short attrs (All-tail IsShort a attrs short), first.short))

rise_there : (attrs : List Attr) → TypesRise attrs → TypesRise (map normal attrs)
rise_there [] rise = tt
rise_there (a ∷ []) rise = tt
rise_there (a ∷ b ∷ attrs) rise = (rise.0, rise_there (b ∷ attrs) rise.1)

pub by_parts : (s : Record) → FitsHead s.head → All IsShort s.attrs → TypesRise s.attrs → length s.attrs ≤ 2 ^ 10 + 1 → FitsByRoom s
by_parts s head short rise few =
    let attrs = All-map FitsAttr normal s.attrs (All-weaker IsShort (λ (a : Attr). FitsAttr (normal a)) (λ (a : Attr) (i : IsShort a). i.fits) s.attrs short) in
    let kinds = All-map HasKind normal s.attrs (All-weaker IsShort (λ (a : Attr). HasKind (normal a)) (λ (a : Attr) (i : IsShort a). i.kind) s.attrs short) in
    let lawful = All-map IsLawful normal s.attrs (All-weaker IsShort (λ (a : Attr). IsLawful (normal a)) (λ (a : Attr) (i : IsShort a). i.lawful) s.attrs short) in
    record {
      attrs = attrs;
      countable = omega (arith, sum_short s.attrs short, few);
      fits = (λ spelled. spelled.used, λ room. record { head = head; attrs = attrs; kinds = kinds; rise = rise_there s.attrs rise; lawful = lawful; used = room });
    }

-- ---- the attribute that is written anew

put_size : (stamp : ℕ) (value : List ℕ) (t : Bool) → length (cond t (written 0x10 (spell 8 stamp) (written 0x08 (spell 8 stamp) value)) value) ≡ length value
put_size stamp value true = length-written 0x10 (spell 8 stamp) (written 0x08 (spell 8 stamp) value) ∙ length-written 0x08 (spell 8 stamp) value
put_size stamp value false = refl

timed_size : (stamp : ℕ) (value : List ℕ) → length (timed_value stamp value) ≡ length value
unfolding timed_value
timed_size stamp value = put_size stamp value (is_standard_information value)

still_info : (stamp : ℕ) (value : List ℕ) → is_standard_information (timed_value stamp value) ≡ is_standard_information value
unfolding is_standard_information
still_info stamp value = ap (leb 0x30) (timed_size stamp value)

lawful_info : (a : Attr) → is_info a ≡ true → is_resident_and is_standard_information a.form ≡ true → has_lawful_value a ≡ true
unfolding has_lawful_value
lawful_info a is lawful = rw is lawful

short_by : (stamp : ℕ) (head : Head) (name : List ℕ) (form : OwnForm) → is_info (record { head = head; name = name; form = form }) ≡ true → IsShort (record { head = head; name = name; form = form }) → IsShort (record { head = head; name = name; form = timed_form stamp form })
short_by stamp head name (Mapped sizes pairs) is old = old
short_by stamp head name (Resident value indexed) is old =
    let a : Attr = record { head = head; name = name; form = Resident value indexed } in
    let b : Attr = record { head = head; name = name; form = Resident (timed_value stamp value) indexed } in
    record {
      fits = record {
        kind = old.fits.kind;
        flags = old.fits.flags;
        id = old.fits.id;
        name_short = old.fits.name_short;
        units = old.fits.units;
        form = record { value_short = omega (arith, timed_size stamp value, old.fits.form.value_short); indexed_byte = old.fits.form.indexed_byte };
      };
      kind = old.kind;
      lawful = lawful_info b is (still_info stamp value ∙ info_lawful a is old.lawful);
      short = omega (arith, length-spelling a, length-spelling b, timed_size stamp value, old.short);
    }

all_step : (stamp : ℕ) (a : Attr) (attrs : List Attr) (t : Bool) → is_info a ≡ t → IsShort a → All IsShort attrs → All IsShort (timed_attrs stamp attrs) → All IsShort (cond t (timed_attr stamp a ∷ attrs) (a ∷ timed_attrs stamp attrs))
all_step stamp a attrs true is one rest timed = All-cons IsShort (timed_attr stamp a) attrs (short_by stamp a.head a.name a.form is one) rest
all_step stamp a attrs false is one rest timed = All-cons IsShort a (timed_attrs stamp attrs) one timed

all_timed : (stamp : ℕ) (attrs : List Attr) → All IsShort attrs → All IsShort (timed_attrs stamp attrs)
all_timed stamp [] all = all
all_timed stamp (a ∷ attrs) all = all_step stamp a attrs (is_info a) refl (All-head IsShort a attrs all) (All-tail IsShort a attrs all) (all_timed stamp attrs (All-tail IsShort a attrs all))

rise_step : (stamp least : ℕ) (a : Attr) (attrs : List Attr) (t : Bool) → rise_from a.head.kind (timed_attrs stamp attrs) ≡ rise_from a.head.kind attrs
    → rise_from least (cond t (timed_attr stamp a ∷ attrs) (a ∷ timed_attrs stamp attrs)) ≡ rise_from least (a ∷ attrs)
rise_step stamp least a attrs true rest = refl
rise_step stamp least a attrs false rest = ap (λ (b : Bool). leb least a.head.kind && b) rest

rise_timed : (stamp least : ℕ) (attrs : List Attr) → rise_from least (timed_attrs stamp attrs) ≡ rise_from least attrs
rise_timed stamp least [] = refl
rise_timed stamp least (a ∷ attrs) = rise_step stamp least a attrs (is_info a) (rise_timed stamp a.head.kind attrs)

size_step : (stamp : ℕ) (a : Attr) (attrs : List Attr) (t : Bool) → length (timed_attrs stamp attrs) ≡ length attrs → length (cond t (timed_attr stamp a ∷ attrs) (a ∷ timed_attrs stamp attrs)) ≡ suc (length attrs)
size_step stamp a attrs true rest = refl
size_step stamp a attrs false rest = ap suc rest

size_timed : (stamp : ℕ) (attrs : List Attr) → length (timed_attrs stamp attrs) ≡ length attrs
size_timed stamp [] = refl
size_timed stamp (a ∷ attrs) = size_step stamp a attrs (is_info a) (size_timed stamp attrs)

-- ---- the attribute that comes

bound_step : (p : ℕ → Bool) (from n most : ℕ) (t : Bool) → from ≤ most → or_zero (find p (range_with_len (from + 1) n)) ≤ most → or_zero (cond t (Some from) (find p (range_with_len (from + 1) n))) ≤ most
bound_step p from n most true here rest = here
bound_step p from n most false here rest = rest

bound : (p : ℕ → Bool) (from n most : ℕ) → from + n ≤ most → or_zero (find p (range_with_len from n)) ≤ most
bound p from zero most le = omega arith
bound p from (suc n) most le = bound_step p from n most (p from) (omega (arith, le)) (bound p (from + 1) n most (omega (arith, le)))

free_small : (attrs : List Attr) → or_zero (first_free attrs (length attrs + 1)) ≤ length attrs + 1
unfolding first_free
free_small attrs = bound _ 0 (length attrs + 1) (length attrs + 1) (omega arith)

id_by : (free next : ℕ) (t : Bool) → free < 2 ^ 16 → next < 2 ^ 16 → cond t free next < 2 ^ 16
id_by free next true few small = few
id_by free next false few small = small

long_enough : (value : List ℕ) → length value ≡ 0x48 → is_standard_information value ≡ true
unfolding is_standard_information
long_enough value size = le-leb 0x30 (length value) (omega (arith, size))

new_short : (id stamp : ℕ) → id < 2 ^ 16 → IsShort (new_info id stamp)
unfolding new_value
new_short id stamp small =
    let size : length (std_info_over (timed_info stamp no_info) (zeros 0x48)) ≡ 0x48 = length-std_info_over (timed_info stamp no_info) (zeros 0x48) ∙ length-zeros 0x48 in
    record {
      fits = record {
        kind = omega arith;
        flags = omega arith;
        id = small;
        name_short = omega arith;
        units = All-nil (λ (unit : ℕ). unit < 2 ^ 16);
        form = record { value_short = omega (arith, size); indexed_byte = omega arith };
      };
      kind = omega arith;
      lawful = lawful_info (new_info id stamp) refl (long_enough (std_info_over (timed_info stamp no_info) (zeros 0x48)) size);
      short = omega (arith, length-spelling (new_info id stamp), size);
    }

all_put : (p : ℕ) (new : Attr) (attrs : List Attr) → IsShort new → All IsShort attrs → All IsShort (insert attrs p new)
all_put zero new attrs one all = All-cons IsShort new attrs one all
all_put (suc p) new [] one all = All-cons IsShort new [] one all
all_put (suc p) new (a ∷ attrs) one all = All-cons IsShort a (insert attrs p new) (All-head IsShort a attrs all) (all_put p new attrs one (All-tail IsShort a attrs all))

size_put : (p : ℕ) (new : Attr) (attrs : List Attr) → length (insert attrs p new) ≡ suc (length attrs)
size_put zero new attrs = refl
size_put (suc p) new [] = refl
size_put (suc p) new (a ∷ attrs) = ap suc (size_put p new attrs)

rise_in : (least : ℕ) (new a : Attr) (attrs : List Attr) (t : Bool) → ltb a.head.kind new.head.kind ≡ t → least ≤ new.head.kind → rise_from least (a ∷ attrs) ≡ true
    → (a.head.kind ≤ new.head.kind → rise_from a.head.kind attrs ≡ true → rise_from a.head.kind (insert attrs (place_of_type new.head.kind attrs) new) ≡ true)
    → rise_from least (insert (a ∷ attrs) (cond t (suc (place_of_type new.head.kind attrs)) 0) new) ≡ true
rise_in least new a attrs true is low rise rest =
    let parts = and_parts (leb least a.head.kind) (rise_from a.head.kind attrs) rise in
    let below : a.head.kind < new.head.kind = ltb-true _ _ is in
    and_from _ _ parts.0 (rest (omega (arith, below)) parts.1)
rise_in least new a attrs false is low rise rest =
    let parts = and_parts (leb least a.head.kind) (rise_from a.head.kind attrs) rise in
    let above : new.head.kind ≤ a.head.kind = ltb-false _ _ is in
    and_from _ _ (le-leb _ _ low) (and_from _ _ (le-leb _ _ above) parts.1)

rise_put : (least : ℕ) (new : Attr) (attrs : List Attr) → least ≤ new.head.kind → rise_from least attrs ≡ true → rise_from least (insert attrs (place_of_type new.head.kind attrs) new) ≡ true
rise_put least new [] low rise = and_from _ _ (le-leb _ _ low) refl
rise_put least new (a ∷ attrs) low rise = rise_in least new a attrs (ltb a.head.kind new.head.kind) refl low rise (rise_put a.head.kind new attrs)

-- ---- the record

own_fits : (stamp : ℕ) (r : Record) → FitsButRoom r → FitsByRoom (with_own stamp r)
own_fits stamp r fits =
    by_parts (with_own stamp r) fits.head (all_timed stamp r.attrs fits.attrs) (rise_true (timed_attrs stamp r.attrs) (rise_timed stamp 0 r.attrs ∙ true_rise r.attrs fits.rise)) (omega (arith, size_timed stamp r.attrs, fits.few))

new_fits : (stamp : ℕ) (r : Record) → FitsButRoom r → FitsByRoom (with_new stamp r)
new_fits stamp r fits =
    let free = free_small r.attrs in
    let small : new_id r < 2 ^ 16 = id_by (or_zero (first_free r.attrs (length r.attrs + 1))) r.head.next_id (eqb r.head.next_id 0xFFFF) (omega (arith, free, fits.few)) fits.head.next_id in
    let new : Attr = new_info (new_id r) stamp in
    let p : ℕ = place_of_type standard_information r.attrs in
    let head = fits.head in
    by_parts (with_new stamp r)
    (record { lsn = head.lsn; seq = head.seq; links = head.links; flags = head.flags; base = head.base; base_seq = head.base_seq; next_id = omega arith; number = head.number })
    (all_put p new r.attrs (new_short (new_id r) stamp small) fits.attrs)
    (rise_true (insert r.attrs p new) (rise_put 0 new r.attrs (omega arith) (true_rise r.attrs fits.rise)))
    (omega (arith, size_put p new r.attrs, fits.few))

fits_case : (stamp : ℕ) (r : Record) (t : Bool) → has_type standard_information r ≡ t → FitsButRoom r → FitsByRoom (timed_record stamp r)
fits_case stamp r true is fits = subst FitsByRoom (sym (had stamp r is)) (own_fits stamp r fits)
fits_case stamp r false is fits = subst FitsByRoom (sym (had_none stamp r is)) (new_fits stamp r fits)

pub timed_fits : (stamp : ℕ) (r : Record) → FitsButRoom r → FitsByRoom (timed_record stamp r)
timed_fits stamp r fits = fits_case stamp r (has_type standard_information r) refl fits

pub times_set : TimesAreSet
times_set = record { rewritten = rewritten; comes = comes; info = info; node = node; fits = timed_fits }
