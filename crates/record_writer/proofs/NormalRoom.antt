-- Which normal records have a spelling.
use Rattle.std.proofs.Common.{◌≡◌, ℕ, ◌+◌, ◌*◌, ◌^◌, ◌<◌, ◌≤◌, Bool, true, cond, ◌&&◌, eqb, List, [], ◌∷◌, ◌++◌, length, map, drop, Option, Some, None, Result, Ok, refl, sym, ap, ◌∙◌, subst, inl, inr, arith}
use Rattle.std.specs.Prelude.{All, IsTrue}
use Rattle.std.specs.List.{concat, AllByRecursion, range_with_len}
use Rattle.std.proofs.lemmas.Bool.{cases_lt}
use Rattle.std.proofs.lemmas.List.{append_assoc, length-append, length-take, length-drop, get_or_append_left, get_or-append-add, get_or_past}
use Rattle.std.proofs.lemmas.List.Elements.{All-from_recursion, All-map, All-weaker}
use Rattle.disk_model.specs.host_base.Answers.{◌>>=◌, needs}
use Rattle.disk_model.specs.Numbers.{field}
use Rattle.disk_model.specs.Bytes.{AreBytes}
use Rattle.disk_model.proofs.Fields.{field-lt}
use Rattle.record_model.specs.declared.attribute.OwnForm.{OwnForm}
use Rattle.record_model.specs.declared.attribute.OwnForm.TheVariants.{Resident, Mapped}
use Rattle.record_model.specs.declared.attribute.Attr.{Attr}
use Rattle.record_model.specs.Attributes.{units_at, is_compressed_or_sparse, spelling, SpellsHeld, SpellsForm, SpellsAttr, FitsHeld, FitsForm, FitsAttr}
use Rattle.record_model.specs.Values.{is_file_name, is_standard_information, is_resident_and, has_lawful_value}
use Rattle.record_model.specs.Records.{Record, rec_head_of, record_at, shaped_at, has_lawful_values, spelled_bytes, SpellEach, TypesRise, IsFileRecord, FitsHead}
use Rattle.record_model.proofs.Answering.{steps_from_ok, needs_from_ok}
use Rattle.record_model.proofs.UnitBytes.{length-filled}
use Rattle.record_model.proofs.Records.{AreBytes-attribute_bytes, attribute_bytes_short, read_is_table}
use Rattle.record_model.proofs.Shapes.{is_shaped}
use Rattle.file_record.specs.state_model.Loads.{has_all_pairs, whole_record}
use Rattle.record_writer.specs.Edits.{form_length}
use Rattle.record_writer.specs.Normal.{normal_form, normal}
use Rattle.record_writer.specs.NormalLaws.{FitsByRoom, NormalFitsByRoom}
use Rattle.record_writer.proofs.Measures.{form_long, held_short, length-spelling}

-- ---- bytes

front_bytes : (xs ys : List ℕ) → AreBytes (xs ++ ys) → AreBytes xs
front_bytes xs ys each i =
    elim (cases_lt i (length xs)) [
      | inl within ↦ subst (λ (x : ℕ). x < 256) (get_or_append_left xs ys 0 i within) (each i)
      | inr behind ↦ subst (λ (x : ℕ). x < 256) (sym (get_or_past xs i 0 behind)) (omega arith)
    ]

back_bytes : (xs ys : List ℕ) → AreBytes (xs ++ ys) → AreBytes ys
back_bytes xs ys each i = subst (λ (x : ℕ). x < 256) (get_or-append-add xs ys i 0) (each (length xs + i))

field_small : (at n : ℕ) (body : List ℕ) (value : ℕ) → AreBytes body → field at n body ≡ value → value < 256 ^ n
field_small at n body value each e = subst (λ (x : ℕ). x < 256 ^ n) e (field-lt at n body each)

units_small : (at count : ℕ) (s : List ℕ) → AreBytes s → All (λ (unit : ℕ). unit < 2 ^ 16) (units_at at count s)
unfolding units_at
units_small at count s each = All-map (λ (unit : ℕ). unit < 2 ^ 16) (λ (i : ℕ). field (at + 2 * i) 2 s) (range_with_len 0 count) (λ i d lt. field-lt _ 2 s each)

-- ---- attributes

held_fits : (flags first : ℕ) (s : List ℕ) (held : Option ℕ) → AreBytes s → field 0x0C 2 s ≡ flags → field 0x10 8 s ≡ first → SpellsHeld s held → FitsHeld flags first held
held_fits flags first s None each f g is = tested f g ∙ is
  where
    tested : field 0x0C 2 s ≡ flags → field 0x10 8 s ≡ first → (is_compressed_or_sparse flags && eqb first 0) ≡ (is_compressed_or_sparse (field 0x0C 2 s) && eqb (field 0x10 8 s) 0)
    tested f g = ap (λ (x : ℕ). is_compressed_or_sparse x && eqb first 0) (sym f) ∙ ap (λ (x : ℕ). is_compressed_or_sparse (field 0x0C 2 s) && eqb x 0) (sym g)
held_fits flags first s (Some held) each f g is =
    (field_small 0x40 8 s held each is.2, ap (λ (x : ℕ). is_compressed_or_sparse x && eqb first 0) (sym f) ∙ ap (λ (x : ℕ). is_compressed_or_sparse (field 0x0C 2 s) && eqb x 0) (sym g) ∙ is.0)

-- a form fits, and its attribute has at most a hundred times the bytes that it was read of
record FormFits (flags name size : ℕ) (form : OwnForm) : Type 0 where
  fits : FitsForm flags (normal_form form)
  bytes : form_length name (normal_form form) ≤ 100 * size

form_fits : (flags name : ℕ) (s : List ℕ) (form : OwnForm) → AreBytes s → length s ≤ 1024 → name < 256 → field 0x0C 2 s ≡ flags → SpellsForm s form → FormFits flags name (length s) form
form_fits flags name s (Resident value indexed) each short few f is =
    let n = field 0x10 4 s in
    let at = field 0x14 2 s in
    let size = ap length is.value_bytes in
    let taken = length-take n (drop at s) in
    let dropped = length-drop at s in
    let within : length value ≤ length s = omega (arith, size, taken, dropped) in
    record {
      fits = record { value_short = omega arith; indexed_byte = field_small 0x16 1 s indexed each is.indexed_byte };
      bytes = omega (arith, within, is.header);
    }
form_fits flags name s (Mapped sizes pairs) each short few f is =
    let size = ap length is.pairs_bytes in
    let dropped = length-drop (field 0x20 2 s) s in
    let within : length pairs ≤ length s = omega (arith, size, dropped) in
    let whole = length-filled 0 pairs in
    let held = held_short sizes.held in
    record {
      fits = record {
        first = field_small 0x10 8 s sizes.first each is.first;
        last = field_small 0x18 8 s sizes.last each is.last;
        unit = field_small 0x22 2 s sizes.unit each is.unit;
        allocated = field_small 0x28 8 s sizes.allocated each is.allocated;
        real = field_small 0x30 8 s sizes.real each is.real;
        initialised = field_small 0x38 8 s sizes.initialised each is.initialised;
        held = held_fits flags sizes.first s sizes.held each f is.first is.held;
        pairs_eights = omega (arith, whole);
        pairs_short = omega (arith, whole, within);
      };
      bytes = omega (arith, whole, within, held, is.header);
    }

record AttrFits (size : ℕ) (a : Attr) : Type 0 where
  fits : FitsAttr (normal a)
  bytes : length (spelling (normal a)) ≤ 100 * size

attr_fits : (s : List ℕ) (a : Attr) → AreBytes s → length s ≤ 1024 → SpellsAttr s a → AttrFits (length s) a
attr_fits s a each short is =
    let few : length a.name < 256 = field_small 0x09 1 s (length a.name) each is.name_length in
    let form = form_fits a.head.flags (length a.name) s a.form each short few is.flags is.form in
    record {
      fits = record {
        kind = field_small 0x00 4 s a.head.kind each is.kind;
        flags = field_small 0x0C 2 s a.head.flags each is.flags;
        id = field_small 0x0E 2 s a.head.id each is.id;
        name_short = few;
        units = subst (All (λ (unit : ℕ). unit < 2 ^ 16)) is.name (units_small (field 0x0A 2 s) (length a.name) s each);
        form = form.fits;
      };
      bytes = omega (arith, length-spelling (normal a), form.bytes);
    }

pub record EachFits (size : ℕ) (attrs : List Attr) : Type 0 where
  pub fits : AllByRecursion FitsAttr (map normal attrs)
  pub bytes : spelled_bytes (map normal attrs) ≤ 100 * size
  pub few : length attrs ≤ size

each_fits : (spellings : List (List ℕ)) (attrs : List Attr) (behind : List ℕ) → AreBytes (concat spellings ++ behind) → length (concat spellings) ≤ 1024 → SpellEach spellings attrs → EachFits (length (concat spellings)) attrs
each_fits [] [] behind bytes short each = record { fits = tt; bytes = omega arith; few = omega arith }
each_fits [] (a ∷ attrs) behind bytes short each = absurd each
each_fits (s ∷ spellings) [] behind bytes short each = absurd each
each_fits (s ∷ spellings) (a ∷ attrs) behind bytes short each =
    let whole = subst AreBytes (append_assoc s (concat spellings) behind) bytes in
    let size = length-append s (concat spellings) in
    let here = attr_fits s a (front_bytes s (concat spellings ++ behind) whole) (omega (arith, size)) each.0 in
    let later = each_fits spellings attrs behind (back_bytes s (concat spellings ++ behind) whole) (omega (arith, size)) each.1 in
    let long = form_long (length a.name) (normal_form a.form) in
    let some : 1 ≤ length s = omega (arith, here.bytes, length-spelling (normal a), long) in
    record { fits = (here.fits, later.fits); bytes = omega (arith, size, here.bytes, later.bytes); few = omega (arith, size, some, later.few) }

-- ---- the record

pub head_fits : (body : List ℕ) → AreBytes body → FitsHead (rec_head_of body)
unfolding rec_head_of
head_fits body each = record {
  lsn = field-lt 0x08 8 body each;
  seq = field-lt 0x10 2 body each;
  links = field-lt 0x12 2 body each;
  flags = field-lt 0x16 2 body each;
  base = omega arith;
  base_seq = omega (arith, field-lt 0x20 8 body each);
  next_id = field-lt 0x28 2 body each;
  number = field-lt 0x2C 4 body each;
}

pub rise_stays : (attrs : List Attr) → TypesRise attrs → TypesRise (map normal attrs)
rise_stays [] rise = tt
rise_stays (a ∷ []) rise = tt
rise_stays (a ∷ b ∷ attrs) rise = (rise.0, rise_stays (b ∷ attrs) rise.1)

resident_stays : (test : List ℕ → Bool) (form : OwnForm) → is_resident_and test (normal_form form) ≡ is_resident_and test form
resident_stays test (Resident value indexed) = refl
resident_stays test (Mapped sizes pairs) = refl

lawful_by : ℕ → Bool → Bool → Bool
lawful_by kind information name = cond (eqb kind 0x10) information (cond (eqb kind 0x30) name true)

pub lawful_stays : (a : Attr) → has_lawful_value (normal a) ≡ has_lawful_value a
unfolding has_lawful_value lawful_by
lawful_stays a =
    ap (λ (b : Bool). lawful_by a.head.kind b (is_resident_and is_file_name (normal_form a.form))) (resident_stays is_standard_information a.form)
    ∙ ap (λ (b : Bool). lawful_by a.head.kind (is_resident_and is_standard_information a.form) b) (resident_stays is_file_name a.form)

-- the attributes of a record that is read, of which there are no more than it has bytes
pub read_fits : (body : List ℕ) (r : Record) → length body ≡ 1024 → AreBytes body → IsFileRecord body r → EachFits 1024 r.attrs
read_fits body r long each t =
    let size = ap length t.placed ∙ length-append (concat t.spellings) _ in
    let short = attribute_bytes_short body in
    let within : length (concat t.spellings) ≤ 1024 = omega (arith, size, short, long) in
    let fit = each_fits t.spellings r.attrs _ (subst AreBytes t.placed (AreBytes-attribute_bytes body each)) within t.spelled in
    record { fits = fit.fits; bytes = omega (arith, within, fit.bytes); few = omega (arith, within, fit.few) }

by_room : (body : List ℕ) (r : Record) → length body ≡ 1024 → AreBytes body → IsFileRecord body r → FitsByRoom r
by_room body r long each t =
    let fit = read_fits body r long each t in
    let attrs = All-from_recursion FitsAttr (map normal r.attrs) fit.fits in
    record {
      attrs = attrs;
      countable = omega (arith, fit.bytes);
      fits = (
        λ fits. fits.used,
        λ room. record {
          head = subst FitsHead t.head (head_fits body each);
          attrs = attrs;
          kinds = All-map (λ (a : Attr). a.head.kind < 0xFFFFFFFF) normal r.attrs t.kinds;
          rise = rise_stays r.attrs t.rise;
          lawful = All-map (λ (a : Attr). IsTrue (has_lawful_value a)) normal r.attrs (All-weaker (λ (a : Attr). IsTrue (has_lawful_value a)) (λ (a : Attr). IsTrue (has_lawful_value (normal a))) (λ a is. lawful_stays a ∙ is) r.attrs t.lawful);
          used = room;
        },
      );
    }

read_loaded : (body : List ℕ) (r : Record) → whole_record body ≡ Ok r → record_at body ≡ Ok r
unfolding whole_record
read_loaded body r e =
    let shaped = steps_from_ok (shaped_at body) (λ q. needs (has_all_pairs q) 7 >>= λ _. needs (has_lawful_values q) 8 >>= λ _. Ok q) r e in
    let tested = needs_from_ok (has_all_pairs shaped.0) 7 (λ _. needs (has_lawful_values shaped.0) 8 >>= λ _. Ok shaped.0) r shaped.2 in
    is_shaped body ∙ ap (λ (s : Result Record ℕ). s >>= λ q. needs (has_lawful_values q) 8 >>= λ _. Ok q) shaped.1 ∙ tested.1

pub all_fit_by_room : NormalFitsByRoom
all_fit_by_room = record {
  read = λ body r long each e. by_room body r long each (read_is_table body r each e);
  loaded = λ body r long each e. by_room body r long each (read_is_table body r each (read_loaded body r e));
}
