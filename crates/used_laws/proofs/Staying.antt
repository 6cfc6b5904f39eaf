-- A stream whose clusters stay takes no more bytes than before.
use Rattle.std.proofs.Common.{◌≡◌, ℕ, ◌+◌, ◌*◌, ◌%◌, ◌<◌, ◌≤◌, pos, ◌-ℤ◌, Bool, true, false, cond, eqb, List, [], ◌∷◌, ◌++◌, length, map, Option, Some, None, Result, Ok, Err, refl, sym, ap, ◌∙◌, subst, inl, inr, arith, unwrap_or, append-nil, length-append, append_assoc}
use Rattle.std.specs.Prelude.{not, filter, ◌&&◌, nat_lt, All}
use Rattle.std.specs.List.{flat_map, concat, list_all, AllByRecursion}
use Rattle.std.proofs.lemmas.Bool.{cases_lt, and_parts}
use Rattle.std.proofs.lemmas.List.{get_or_append_left, get_or-append-add, get_or_past}
use Rattle.std.proofs.lemmas.List.Elements.{All-from_recursion, recursion_from_All, All-nil, All-cons, All-head, All-tail, All-filter, filter_agree}
use Rattle.host_base.specs.Answers.{◌>>=◌, needs}
use Rattle.step_model.specs.disk_model.Bytes.{up8, AreBytes}
use Rattle.step_model.proofs.disk_model.Fields.{AreBytes-drop}
use Rattle.draft_records.specs.record_model.declared.attribute.Attr.{Attr}
use Rattle.draft_records.specs.record_model.declared.attribute.OwnForm.{OwnForm}
use Rattle.draft_records.specs.record_model.declared.attribute.OwnForm.TheVariants.{Resident, Mapped}
use Rattle.draft_records.specs.record_model.declared.attribute.Sizes.{Sizes}
use Rattle.draft_records.specs.record_model.declared.runs.Run.{Run}
use Rattle.draft_records.specs.record_model.declared.runs.PairsFault.{PairsFault}
use Rattle.draft_records.specs.record_model.Attributes.{held_bytes, is_compressed_or_sparse, spelling, FitsHeld, FitsForm, FitsAttr, SpellsForm}
use Rattle.draft_records.specs.record_model.Pairs.{signed_bytes, delta_bytes, pair_of, pairs_from, pairs_of, runs_of}
use Rattle.draft_records.specs.record_model.Records.{Record, record_at, shaped_at, has_lawful_values, spelled_bytes, used_of, SpellEach}
use Rattle.draft_records.proofs.record_model.Answering.{steps_from_ok, needs_from_ok}
use Rattle.draft_records.proofs.record_model.PairsBack.{read_spelled}
use Rattle.draft_records.proofs.record_model.PairsShortest.{shortest}
use Rattle.draft_records.proofs.record_model.PairsSigned.{length-signed_bytes, signed_width-ge, signed_width-le}
use Rattle.draft_records.proofs.record_model.Records.{AreBytes-attribute_bytes, read_is_table}
use Rattle.draft_records.proofs.record_model.Shapes.{is_shaped}
use Rattle.step_model.specs.record_writer.Edits.{whole_length, form_length}
use Rattle.step_model.specs.record_writer.Normal.{normal, normal_form}
use Rattle.step_model.proofs.record_writer.Measures.{length-spelling}
use Rattle.step_model.proofs.record_writer.NormalRoom.{all_fit_by_room}
use Rattle.draft_records.specs.state_model.declared.stream.Extents.{Extents}
use Rattle.draft_records.specs.state_model.declared.stream.Stream.{Stream}
use Rattle.draft_records.specs.state_model.declared.stream.Stream.TheVariants.{Placed}
use Rattle.draft_records.specs.state_model.Loads.{span, form_fits, has_fitting_pairs, has_all_pairs, whole_record}
use Rattle.draft_records.specs.state_model.Streams.{first_vcn, is_attribute_of, with_attribute, sorted_into, attributes_of, form_first, runs_or, form_runs, attribute_runs, form_stream, joined, stream_of}
use Rattle.record_values.specs.record_streams.Fitting.{IsShort, FitsButRoom}
use Rattle.record_values.specs.record_streams.Placing.{held_clusters, held_size, placed_attr as written_attr, placed_first, placed_record}
use Rattle.record_values.proofs.record_streams.Kept.{all_of_stream}
use Rattle.record_values.proofs.record_streams.Streams.{attribute_kind, first_passes, placed_one}
use Rattle.draft_records.specs.Records.{written_bytes}
use Rattle.step_model.specs.Used.{is_replaced, used_after}
use Rattle.used_laws.specs.Laws.{AreFormBytes, HasBytes, IsReadMapped, IsReadForm, IsReadAttr, SizesUsed}
use Rattle.used_laws.proofs.Lengths.{bytes_split, held_alike, written_used}
use Rattle.used_laws.proofs.Beside.{beside, one_more, none_comes, placed_is}

-- ---- mapping pairs of runs behind runs

pair_length : (before : ℕ) (r : Run) → length (pair_of before r) ≡ 1 + (length (signed_bytes (pos r.len)) + length (delta_bytes before r.lcn))
unfolding pair_of
pair_length before r =
    let both = length-append (signed_bytes (pos r.len)) (delta_bytes before r.lcn) in
    omega arith

-- the same runs behind another LCN
rebased : (b c : ℕ) (runs : List Run) → length (pairs_from b runs) ≤ length (pairs_from c runs) + 7
unfolding pairs_from
rebased b c [] = omega arith
rebased b c (r ∷ runs) =
    let first = length-append (pair_of b r) (pairs_from (unwrap_or r.lcn b) runs) in
    let second = length-append (pair_of c r) (pairs_from (unwrap_or r.lcn c) runs) in
    let step = by_lcn r.lcn (rebased b c runs) in
    omega (arith, first, second, pair_length b r, pair_length c r, step)
  where
    by_lcn : (lcn : Option ℕ) → length (pairs_from b runs) ≤ length (pairs_from c runs) + 7 → length (delta_bytes b lcn) + length (pairs_from (unwrap_or lcn b) runs) ≤ length (delta_bytes c lcn) + length (pairs_from (unwrap_or lcn c) runs) + 7
    by_lcn None rest = omega (arith, rest)
    by_lcn (Some l) rest =
        let one = length-signed_bytes (pos l -ℤ pos b) in
        let two = length-signed_bytes (pos l -ℤ pos c) in
        omega (arith, one, two, signed_width-le (pos l -ℤ pos b), signed_width-ge (pos l -ℤ pos c))

-- runs behind runs have one end, and one LCN behind another than before
behind_runs : (b : ℕ) (xs ys : List Run) → length (pairs_from b (xs ++ ys)) + 1 ≤ length (pairs_from b xs) + length (pairs_from 0 ys) + 7
unfolding pairs_from
behind_runs b [] ys = omega (arith, rebased b 0 ys)
behind_runs b (r ∷ xs) ys =
    let whole = length-append (pair_of b r) (pairs_from (unwrap_or r.lcn b) (xs ++ ys)) in
    let part = length-append (pair_of b r) (pairs_from (unwrap_or r.lcn b) xs) in
    omega (arith, whole, part, behind_runs (unwrap_or r.lcn b) xs ys)

-- ---- the pieces of a stream

-- the pairs of a piece are no more than those that stand in it
form_pairs : (flags name : ℕ) (form : OwnForm) → IsReadForm flags form → length (pairs_of (form_runs form)) + 23 ≤ form_length name form
unfolding pairs_of pairs_from
form_pairs flags name (Resident value indexed) is = omega arith
form_pairs flags name (Mapped sizes pairs) is = mapped_pairs sizes pairs is.runs is.is (shortest is.runs pairs is.bytes (read_spelled sizes.first is.runs pairs is.is).1)
  where
    mapped_pairs : (sizes : Sizes) (pairs : List ℕ) (runs : List Run) → runs_of sizes.first pairs ≡ Ok runs → length (pairs_of runs) ≤ length pairs → length (pairs_of (runs_or (runs_of sizes.first pairs))) + 23 ≤ whole_length (0x40 + length (held_bytes sizes.held)) name (length pairs)
    mapped_pairs sizes pairs runs is short =
        let same = ap (λ (r : Result (List Run) PairsFault). length (pairs_of (runs_or r))) is in
        omega (arith, same, short)

piece_pairs : (a : Attr) → IsReadAttr a → length (pairs_of (attribute_runs a)) + 23 ≤ length (spelling a)
unfolding attribute_runs
piece_pairs a is = omega (arith, form_pairs a.head.flags (length a.name) a.form is, length-spelling a)

-- the pairs of all pieces in one attribute
pieces_pairs : (attrs : List Attr) → AllByRecursion IsReadAttr attrs → length (pairs_of (flat_map attribute_runs attrs)) ≤ 1 + spelled_bytes attrs
unfolding pairs_of pairs_from
pieces_pairs [] each = omega arith
pieces_pairs (a ∷ attrs) each =
    let whole = behind_runs 0 (attribute_runs a) (flat_map attribute_runs attrs) in
    omega (arith, whole, piece_pairs a each.0, pieces_pairs attrs each.1)

first_pairs : (runs : List Run) (others : List Attr) → AllByRecursion IsReadAttr others → length (pairs_of (runs ++ flat_map attribute_runs others)) ≤ length (pairs_of runs) + spelled_bytes others
unfolding pairs_of
first_pairs runs [] each = omega (arith, ap (λ (l : List Run). length (pairs_from 0 l)) (append-nil runs))
first_pairs runs (a ∷ others) each =
    let rest = flat_map attribute_runs others in
    let front = behind_runs 0 runs (attribute_runs a ++ rest) in
    let next = behind_runs 0 (attribute_runs a) rest in
    omega (arith, front, next, piece_pairs a each.0, pieces_pairs others each.1)

-- ---- the attribute

form_eights : (name : ℕ) (form : OwnForm) → form_length name form % 8 ≡ 0
form_eights name (Resident value indexed) = omega arith
form_eights name (Mapped sizes pairs) = omega arith

all_eights : (attrs : List Attr) → spelled_bytes attrs % 8 ≡ 0
all_eights [] = refl
all_eights (a ∷ attrs) = omega (arith, length-spelling a, form_eights (length a.name) a.form, all_eights attrs)

longer : (h v w s : ℕ) → v ≤ w + s → s % 8 ≡ 0 → up8 (up8 h + v) ≤ up8 (up8 h + w) + s
longer h v w s le eights = omega arith

-- the header says how many bytes are held exactly where it did
held_stays : (flags first held : ℕ) (old : Option ℕ) (t : Bool) → is_compressed_or_sparse flags ≡ t → first ≡ 0 → FitsHeld flags first old → length (held_bytes (cond t (Some held) None)) ≡ length (held_bytes old)
held_stays flags first held (Some old) true is zero fits = held_alike true held old
held_stays flags first held None false is zero fits = refl
held_stays flags first held (Some old) false is zero fits = absurd (let e = ap (λ (b : Bool). b && eqb first 0) is in let f = fits.1 in cc)
held_stays flags first held None true is zero fits = absurd (let e = ap (λ (b : Bool). b && eqb first 0) is ∙ ap (λ (n : ℕ). eqb n 0) zero in cc)

attr_stays : (per : ℕ) (f : Extents) (a : Attr) (sizes : Sizes) (pairs : List ℕ) (others : List Attr) → a.form ≡ Mapped sizes pairs → IsReadMapped a.head.flags sizes pairs → AllByRecursion IsReadAttr others → sizes.first ≡ 0 → f.runs ≡ form_runs (Mapped sizes pairs) ++ flat_map attribute_runs others
    → length (spelling (written_attr per f a)) ≤ length (spelling a) + spelled_bytes others
attr_stays per f a sizes pairs others form is each zero runs =
    let old : length (spelling a) ≡ whole_length (0x40 + length (held_bytes sizes.held)) (length a.name) (length pairs) = length-spelling a ∙ ap (form_length (length a.name)) form in
    let new = length-spelling (written_attr per f a) in
    let held = held_stays a.head.flags sizes.first (held_clusters f.runs * (512 * per)) sizes.held (is_compressed_or_sparse a.head.flags) refl zero is.held in
    let short = shortest is.runs pairs is.bytes (read_spelled sizes.first is.runs pairs is.is).1 in
    let own : length (pairs_of f.runs) ≡ length (pairs_of (is.runs ++ flat_map attribute_runs others)) = ap (λ (l : List Run). length (pairs_of l)) (runs ∙ ap (λ (r : Result (List Run) PairsFault). runs_or r ++ flat_map attribute_runs others) is.is) in
    let joined = first_pairs is.runs others each in
    let fits : length (pairs_of f.runs) ≤ length pairs + spelled_bytes others = omega (arith, own, joined, short) in
    let all = longer (0x40 + length (held_bytes sizes.held) + 2 * length a.name) (length (pairs_of f.runs)) (length pairs) (spelled_bytes others) fits (all_eights others) in
    let same : length (spelling (written_attr per f a)) ≡ whole_length (0x40 + length (held_bytes sizes.held)) (length a.name) (length (pairs_of f.runs)) = new ∙ ap (λ (n : ℕ). whole_length (0x40 + n) (length a.name) (length (pairs_of f.runs))) held in
    omega (arith, old, same, all)

-- ---- the record

put_bytes : (a : Attr) (attributes : List Attr) → spelled_bytes (with_attribute a attributes) ≡ length (spelling a) + spelled_bytes attributes
put_bytes a [] = refl
put_bytes a (b ∷ attributes) = by_first (nat_lt (first_vcn a) (first_vcn b)) (put_bytes a attributes)
  where
    by_first : (t : Bool) → spelled_bytes (with_attribute a attributes) ≡ length (spelling a) + spelled_bytes attributes → spelled_bytes (cond t (a ∷ b ∷ attributes) (b ∷ with_attribute a attributes)) ≡ length (spelling a) + spelled_bytes (b ∷ attributes)
    by_first true rest = refl
    by_first false rest = omega (arith, rest)

sorted_bytes : (attributes attrs : List Attr) → spelled_bytes (sorted_into attributes attrs) ≡ spelled_bytes attributes + spelled_bytes attrs
sorted_bytes attributes [] = omega arith
sorted_bytes attributes (a ∷ attrs) = omega (arith, sorted_bytes (with_attribute a attributes) attrs, put_bytes a attributes)

-- with one attribute in place of all of its stream
one_is : (kind : ℕ) (name : List ℕ) (new : Attr) (r : Record) (a : Attr) (others : List Attr) → attributes_of kind name r.attrs ≡ a ∷ others → new.head.kind ≡ kind → new.name ≡ name → used_after (new ∷ []) r + (length (spelling a) + spelled_bytes others) ≡ used_of r.attrs + length (spelling new)
unfolding attributes_of
one_is kind name new r a others is kinds names =
    let all = one_more [] new r in
    let out : ℕ → List ℕ → Attr → Bool = λ k n x. not (is_attribute_of k n x) in
    let left : ℕ → List ℕ → ℕ = λ k n. spelled_bytes (filter (out k n) r.attrs) in
    let same : left new.head.kind new.name ≡ left kind name = ap (λ (k : ℕ). left k new.name) kinds ∙ ap (λ (n : List ℕ). left kind n) names in
    let plain = ap spelled_bytes (filter_agree (λ (x : Attr). not (is_attribute_of new.head.kind new.name x) && not (is_replaced [] x)) (out new.head.kind new.name) (λ x. and_true (out new.head.kind new.name x)) r.attrs) in
    let split = bytes_split (is_attribute_of kind name) r.attrs in
    let sorted = sym (ap spelled_bytes is) ∙ sorted_bytes [] (filter (is_attribute_of kind name) r.attrs) in
    omega (arith, all, same, plain, split, sorted)
  where
    and_true : (b : Bool) → (b && true) ≡ b
    and_true true = refl
    and_true false = refl

-- the record with a stream in these clusters
placed_is_one : (per kind : ℕ) (name : List ℕ) (f : Extents) (r : Record) (a : Attr) (others : List Attr) → attributes_of kind name r.attrs ≡ a ∷ others → written_bytes (placed_record per kind name f r) + (length (spelling a) + spelled_bytes others) ≡ used_of r.attrs + length (spelling (written_attr per f a))
placed_is_one per kind name f r a others is =
    let own = placed_is per kind name f a (first_passes kind name r.attrs a others is) in
    let stream_is = attribute_kind kind name (written_attr per f a) own in
    let one = one_is kind name (written_attr per f a) r a others is stream_is.0 stream_is.1 in
    let after = beside kind name (written_attr per f a) r a others [] is own tt in
    let whole = ap (λ (l : List Attr). written_bytes (placed_first per kind name f r l)) is in
    let none = none_comes (placed_first per kind name f r (a ∷ others)) in
    omega (arith, one, after, whole, none)

-- what each attribute has, those of a stream have
all_of : (P : Attr → Type 0) (kind : ℕ) (name : List ℕ) (r : Record) → All P r.attrs → AllByRecursion P (attributes_of kind name r.attrs)
all_of P kind name r each = recursion_from_All P (attributes_of kind name r.attrs) (all_of_stream P kind name r.attrs (All-filter (is_attribute_of kind name) P r.attrs each))

own_read : (kind : ℕ) (name : List ℕ) (r : Record) → AllByRecursion IsReadAttr r.attrs → AllByRecursion IsReadAttr (attributes_of kind name r.attrs)
own_read kind name r each = all_of IsReadAttr kind name r (All-from_recursion IsReadAttr r.attrs each)

stays_by : (per : ℕ) (e f : Extents) (a : Attr) (others : List Attr) (form : OwnForm) → a.form ≡ form → IsReadForm a.head.flags form → AllByRecursion IsReadAttr others → form_first form ≡ 0 → Some (form_stream form (form_runs form ++ flat_map attribute_runs others)) ≡ Some (Placed e) → f.runs ≡ e.runs
    → length (spelling (written_attr per f a)) ≤ length (spelling a) + spelled_bytes others
stays_by per e f a others (Resident value indexed) is read each zero placed runs = absurd cc
stays_by per e f a others (Mapped sizes pairs) is read each zero placed runs =
    attr_stays per f a sizes pairs others is read each zero (runs ∙ sym (ap stream_runs placed))
  where
    stream_runs : Option Stream → List Run
    stream_runs (Some (Placed e)) = e.runs
    stream_runs other = []

stays : (per kind : ℕ) (name : List ℕ) (e f : Extents) (r : Record) (a : Attr) (others : List Attr) → attributes_of kind name r.attrs ≡ a ∷ others → AllByRecursion IsReadAttr (a ∷ others) → first_vcn a ≡ 0 → stream_of kind name r.attrs ≡ Some (Placed e) → f.runs ≡ e.runs
    → written_bytes (placed_record per kind name f r) ≤ used_of r.attrs
unfolding stream_of attribute_runs
stays per kind name e f r a others is read zero stream runs =
    let placed : joined (a ∷ others) ≡ Some (Placed e) = sym (ap joined is) ∙ stream in
    let short = stays_by per e f a others a.form refl read.0 read.1 zero placed runs in
    let one = placed_is_one per kind name f r a others is in
    omega (arith, short, one)

-- with other sizes once more
again_length : (per : ℕ) (e f : Extents) (a : Attr) → f.runs ≡ e.runs → length (spelling (written_attr per f (written_attr per e a))) ≡ length (spelling (written_attr per e a))
again_length per e f a runs =
    let held = held_alike (is_compressed_or_sparse a.head.flags) (held_clusters f.runs * (512 * per)) (held_clusters e.runs * (512 * per)) in
    length-spelling (written_attr per f (written_attr per e a))
    ∙ ap (λ (n : ℕ). whole_length (0x40 + n) (length a.name) (length (pairs_of f.runs))) held
    ∙ ap (λ (l : List Run). whole_length (0x40 + length (held_bytes (held_size a.head.flags (held_clusters e.runs * (512 * per))))) (length a.name) (length (pairs_of l))) runs
    ∙ sym (length-spelling (written_attr per e a))

again : (per kind : ℕ) (name : List ℕ) (e f : Extents) (r : Record) (a : Attr) (others : List Attr) → attributes_of kind name r.attrs ≡ a ∷ others → f.runs ≡ e.runs → written_bytes (placed_record per kind name f (placed_record per kind name e r)) ≡ written_bytes (placed_record per kind name e r)
again per kind name e f r a others is runs =
    let one = placed_is_one per kind name f (placed_record per kind name e r) (written_attr per e a) [] (placed_one per kind name e r a others is) in
    omega (arith, one, again_length per e f a runs, written_used (placed_record per kind name e r))

-- ---- records of a table

front_bytes : (xs ys : List ℕ) → AreBytes (xs ++ ys) → AreBytes xs
front_bytes xs ys each i =
    elim (cases_lt i (length xs)) [
      | inl within ↦ subst (λ (x : ℕ). x < 256) (get_or_append_left xs ys 0 i within) (each i)
      | inr behind ↦ subst (λ (x : ℕ). x < 256) (sym (get_or_past xs i 0 behind)) (omega arith)
    ]

back_bytes : (xs ys : List ℕ) → AreBytes (xs ++ ys) → AreBytes ys
back_bytes xs ys each i = subst (λ (x : ℕ). x < 256) (get_or-append-add xs ys i 0) (each (length xs + i))

read_runs : (sizes : Sizes) (answer : Result (List Run) PairsFault) → span sizes answer ≡ true → (runs : List Run) × (answer ≡ Ok runs)
read_runs sizes (Ok runs) is = (runs, refl)
read_runs sizes (Err fault) is = absurd cc

form_checked : (flags : ℕ) (form : OwnForm) → form_fits form ≡ true → FitsForm flags (normal_form form) → AreFormBytes form → IsReadForm flags form
form_checked flags (Resident value indexed) fitting fits bytes = tt
form_checked flags (Mapped sizes pairs) fitting fits bytes =
    let read = read_runs sizes (runs_of sizes.first pairs) fitting in
    record { bytes = bytes; runs = read.0; is = read.1; held = fits.held }

pairs_bytes : (s : List ℕ) (form : OwnForm) → AreBytes s → SpellsForm s form → AreFormBytes form
pairs_bytes s (Resident value indexed) bytes spelled = tt
pairs_bytes s (Mapped sizes pairs) bytes spelled = subst AreBytes spelled.pairs_bytes (AreBytes-drop _ s bytes)

each_read : (spellings : List (List ℕ)) (attrs : List Attr) (behind : List ℕ) → AreBytes (concat spellings ++ behind) → SpellEach spellings attrs → list_all has_fitting_pairs attrs ≡ true → AllByRecursion FitsAttr (map normal attrs) → AllByRecursion IsReadAttr attrs
each_read [] [] behind bytes spelled fitting fits = tt
each_read [] (a ∷ attrs) behind bytes spelled fitting fits = absurd spelled
each_read (s ∷ spellings) [] behind bytes spelled fitting fits = tt
each_read (s ∷ spellings) (a ∷ attrs) behind bytes spelled fitting fits =
    let whole = subst AreBytes (append_assoc s (concat spellings) behind) bytes in
    let both = and_parts (has_fitting_pairs a) (list_all has_fitting_pairs attrs) fitting in
    (form_checked a.head.flags a.form both.0 fits.0.form (pairs_bytes s a.form (front_bytes s (concat spellings ++ behind) whole) spelled.0.form), each_read spellings attrs behind (back_bytes s (concat spellings ++ behind) whole) spelled.1 both.1 fits.1)

read_body : (body : List ℕ) (r : Record) → length body ≡ 1024 → AreBytes body → whole_record body ≡ Ok r → AllByRecursion IsReadAttr r.attrs
unfolding whole_record has_all_pairs
read_body body r long bytes e =
    let shaped = steps_from_ok (shaped_at body) (λ q. needs (has_all_pairs q) 7 >>= λ _. needs (has_lawful_values q) 8 >>= λ _. Ok q) r e in
    let fitting = needs_from_ok (has_all_pairs shaped.0) 7 (λ _. needs (has_lawful_values shaped.0) 8 >>= λ _. Ok shaped.0) r shaped.2 in
    let lawful = needs_from_ok (has_lawful_values shaped.0) 8 (λ _. Ok shaped.0) r fitting.1 in
    let is : record_at body ≡ Ok r = is_shaped body ∙ ap (λ (s : Result Record ℕ). s >>= λ q. needs (has_lawful_values q) 8 >>= λ _. Ok q) shaped.1 ∙ fitting.1 in
    let t = read_is_table body r bytes is in
    let fits = (all_fit_by_room.loaded body r long bytes e).attrs in
    let pairs : list_all has_fitting_pairs r.attrs ≡ true = subst (λ (q : Record). list_all has_fitting_pairs q.attrs ≡ true) (ok_is lawful.1) fitting.0 in
    each_read t.spellings r.attrs _ (subst AreBytes t.placed (AreBytes-attribute_bytes body bytes)) t.spelled pairs (recursion_from_All FitsAttr (map normal r.attrs) fits)
  where
    ok_is : {x y : Record} → ◌≡◌ {A = Result Record ℕ} (Ok x) (Ok y) → x ≡ y
    ok_is e = cc

-- what is asked of an attribute but for its bytes
record MayBeRead (a : Attr) : Type 0 where
  fitting : has_fitting_pairs a ≡ true
  fits : FitsAttr (normal a)

each_may : (attrs : List Attr) → list_all has_fitting_pairs attrs ≡ true → All IsShort attrs → All MayBeRead attrs
each_may [] fitting short = All-nil MayBeRead
each_may (a ∷ attrs) fitting short =
    let both = and_parts (has_fitting_pairs a) (list_all has_fitting_pairs attrs) fitting in
    All-cons MayBeRead a attrs (record { fitting = both.0; fits = (All-head IsShort a attrs short).fits }) (each_may attrs both.1 (All-tail IsShort a attrs short))

each_checked : (attrs : List Attr) → AllByRecursion MayBeRead attrs → AllByRecursion HasBytes attrs → AllByRecursion IsReadAttr attrs
each_checked [] may bytes = tt
each_checked (a ∷ attrs) may bytes = (form_checked a.head.flags a.form may.0.fitting may.0.fits.form bytes.0, each_checked attrs may.1 bytes.1)

checked : (kind : ℕ) (name : List ℕ) (r : Record) → FitsButRoom r → has_all_pairs r ≡ true → All HasBytes r.attrs → AllByRecursion IsReadAttr (attributes_of kind name r.attrs)
unfolding has_all_pairs
checked kind name r fits fitting bytes = each_checked (attributes_of kind name r.attrs) (all_of MayBeRead kind name r (each_may r.attrs fitting fits.attrs)) (all_of HasBytes kind name r bytes)

pub sizes : SizesUsed
sizes = record { read = read_body; own = own_read; checked = checked; stays = stays; again = again }
