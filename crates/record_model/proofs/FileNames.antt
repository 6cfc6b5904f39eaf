-- File names: the table against the reader, what refuses one, and what is written.
use Rattle.std.proofs.Common.{lit≤, take, ◌≡◌, ◌≢◌, ℕ, ◌+◌, ◌*◌, ◌<◌, ◌≤◌, ◌^◌, Bool, true, false, List, [], ◌∷◌, ◌++◌, length, drop, get_or, slice_index, Option, Some, None, Result, Ok, Err, refl, sym, ap, ◌∙◌, subst, inl, inr, arith}
use Rattle.std.specs.List.{AllByRecursion}
use Rattle.std.specs.Prelude.{is_ok, position, ◌&&◌, nat_le, ◌==◌, if◌then◌else◌}
use Rattle.std.proofs.lemmas.Bool.{and_parts, and_from, cases_lt, eqb-true, eq-eqb}
use Rattle.std.proofs.lemmas.Bool.Decides.{nat_tests}
use Rattle.std.proofs.lemmas.List.{get_or_past, drop_at, length-take-le}
use Rattle.std.proofs.lemmas.List.Elements.{recursion_from_All}
use Rattle.std.proofs.lemmas.List.FromFn.{get_or-map-range_with_len}
use Rattle.disk_model.specs.host_base.declared.file_ref.FileRef.{FileRef}
use Rattle.disk_model.specs.host_base.FileRefs.{packed, unpacked}
use Rattle.utf16_name.specs.Lawful.{IsName}
use Rattle.utf16_name.specs.Names.{is_bad_unit, fault_of, ok_unless, name_of}
use Rattle.utf16_name.proofs.Naming.{lawful-of_position, name_of-of_name}
use Rattle.disk_model.specs.Numbers.{field}
use Rattle.disk_model.specs.Bytes.{AreBytes, written}
use Rattle.disk_model.proofs.Fields.{field-lt, field-written_apart}
use Rattle.disk_model.proofs.Frames.{written_before, length-written}
use Rattle.disk_model.proofs.Puts.{written_parts}
use Rattle.record_model.specs.declared.values.FileNameValue.{FileNameValue}
use Rattle.record_model.specs.declared.values.ValueFault.{ValueFault}
use Rattle.record_model.specs.declared.values.ValueFault.TheVariants.{Length, Shape}
use Rattle.record_model.specs.Attributes.{units_at, unit_bytes}
use Rattle.record_model.specs.Values.{parent_of, space_of, units_of, has_name_length, is_file_name}
use Rattle.record_model.specs.StdValues.{file_name_fields, file_name_fault, file_name_of, IsFileName, name_head_over, file_name_over, FitsFileName}
use Rattle.record_model.proofs.Attributes.{length-units_at}
use Rattle.record_model.proofs.UnitBytes.{length-unit_bytes, units_here}
use Rattle.record_model.proofs.RecordSpelling.{unpacked-packed}
use Rattle.record_model.proofs.ValueFields.{Put, put, puts, Fit, length-puts, put_read, byte_behind, byte_before, from_ok, to_ok, le_true, le_of}

-- ---- units

-- units of bytes are below 2^16
small_unit : (at count : ℕ) (bytes : List ℕ) → AreBytes bytes → (k : ℕ) → get_or (units_at at count bytes) k 0 < 2 ^ 16
unfolding units_at
small_unit at count bytes each k =
    elim (cases_lt k count) [
      | inl lt ↦ (let e = get_or-map-range_with_len (λ i. field (at + 2 * i) 2 bytes) 0 count k k 0 lt (omega arith) in let small : field (at + 2 * k) 2 bytes < 256 ^ 2 = field-lt (at + 2 * k) 2 bytes each in omega (arith, e))
      | inr le ↦ (let e = get_or_past (units_at at count bytes) k 0 (omega (arith, length-units_at at count bytes)) in omega (arith, e))
    ]

-- units that nothing refuses are a name
pub name-of_ok : (units : List ℕ) → ((k : ℕ) → get_or units k 0 < 2 ^ 16) → is_ok (name_of units) ≡ true → IsName units
name-of_ok units small e =
    let none : position is_bad_unit units ≡ None = unbad (position is_bad_unit units) units e in
    let size = sized (position is_bad_unit units) units none e in
    record { some = size.0; within = size.1; lawful = lawful-of_position units small none }
  where
    unbad : (at : Option ℕ) (units : List ℕ) → is_ok (ok_unless (fault_of at (length units)) units) ≡ true → at ≡ None
    unbad None units e = refl
    unbad (Some at) units e = absurd cc

    sized : (at : Option ℕ) (units : List ℕ) → at ≡ None → is_ok (ok_unless (fault_of at (length units)) units) ≡ true → (0 < length units) × (length units ≤ 255)
    sized (Some at) units n e = absurd cc
    sized None units n e = (grind (arith, nat_tests), grind (arith, nat_tests))

-- ---- the table

same10 : {X : Type 0} (f : FileRef → ℕ → ℕ → ℕ → ℕ → ℕ → ℕ → ℕ → ℕ → List ℕ → X) (r r' : FileRef) (a b c d e g h s a' b' c' d' e' g' h' s' : ℕ) (n n' : List ℕ)
    → r ≡ r' → a ≡ a' → b ≡ b' → c ≡ c' → d ≡ d' → e ≡ e' → g ≡ g' → h ≡ h' → s ≡ s' → n ≡ n' → f r a b c d e g h s n ≡ f r' a' b' c' d' e' g' h' s' n'
same10 f r r' a b c d e g h s a' b' c' d' e' g' h' s' n n' p0 p1 p2 p3 p4 p5 p6 p7 p8 p9 = cc

make : FileRef → ℕ → ℕ → ℕ → ℕ → ℕ → ℕ → ℕ → ℕ → List ℕ → FileNameValue
make r a b c d e g h s n = record { parent = r; created = a; modified = b; changed = c; read_at = d; allocated = e; real = g; flags = h; space = s; name = n }

-- a value's fields, one by one
pub fields_same : (value : List ℕ) (f : FileNameValue)
    → parent_of value ≡ f.parent → field 0x08 8 value ≡ f.created → field 0x10 8 value ≡ f.modified → field 0x18 8 value ≡ f.changed → field 0x20 8 value ≡ f.read_at
    → field 0x28 8 value ≡ f.allocated → field 0x30 8 value ≡ f.real → field 0x38 4 value ≡ f.flags → space_of value ≡ f.space → units_of value ≡ f.name → file_name_fields value ≡ f
unfolding file_name_fields make
fields_same value f p0 p1 p2 p3 p4 p5 p6 p7 p8 p9 = same10 make _ _ _ _ _ _ _ _ _ _ _ _ _ _ _ _ _ _ _ _ p0 p1 p2 p3 p4 p5 p6 p7 p8 p9

-- what a lawful value is
pub record IsLawful (value : List ℕ) : Type 0 where
  pub size : length value ≡ 0x42 + 2 * field 0x40 1 value
  pub space : space_of value ≤ 3
  pub name : is_ok (name_of (units_of value)) ≡ true

pub lawful_parts : (value : List ℕ) → is_file_name value ≡ true → IsLawful value
unfolding is_file_name
lawful_parts value h =
    let last = and_parts (has_name_length value && nat_le (space_of value) 3) (is_ok (name_of (units_of value))) h in
    let middle = and_parts (has_name_length value) (nat_le (space_of value) 3) last.0 in
    let first = and_parts (nat_le 0x42 (length value)) (length value == 0x42 + 2 * field 0x40 1 value) middle.0 in
    record { size = eqb-true _ _ first.1; space = le_of _ _ middle.1; name = last.1 }

has_length : (value : List ℕ) → length value ≡ 0x42 + 2 * field 0x40 1 value → has_name_length value ≡ true
has_length value size = and_from (nat_le 0x42 (length value)) (length value == 0x42 + 2 * field 0x40 1 value) (le_true _ _ (omega arith)) (eq-eqb _ _ size)

pub parts_lawful : (value : List ℕ) → IsLawful value → is_file_name value ≡ true
unfolding is_file_name
parts_lawful value l =
    and_from (has_name_length value && nat_le (space_of value) 3) (is_ok (name_of (units_of value)))
    (and_from (has_name_length value) (nat_le (space_of value) 3) (has_length value l.size) (le_true _ _ l.space)) l.name

pub file_name_table : (value : List ℕ) (f : FileNameValue) → AreBytes value → file_name_of value ≡ Ok f → IsFileName value f
unfolding file_name_of file_name_fields units_of
file_name_table value f each e =
    let p = from_ok (is_file_name value) (file_name_fields value) f (file_name_fault value) e in
    let l = lawful_parts value p.0 in
    let name : units_of value ≡ f.name = ap (λ (v : FileNameValue). v.name) p.1 in
    let count : length f.name ≡ field 0x40 1 value = ap length (sym name) ∙ length-units_at 0x42 (field 0x40 1 value) value in
    let space : space_of value ≡ f.space = ap (λ (v : FileNameValue). v.space) p.1 in
    record {
      size = omega (arith, l.size, count);
      parent = ap (λ (v : FileNameValue). v.parent) p.1;
      created = ap (λ (v : FileNameValue). v.created) p.1;
      modified = ap (λ (v : FileNameValue). v.modified) p.1;
      changed = ap (λ (v : FileNameValue). v.changed) p.1;
      read_at = ap (λ (v : FileNameValue). v.read_at) p.1;
      allocated = ap (λ (v : FileNameValue). v.allocated) p.1;
      real = ap (λ (v : FileNameValue). v.real) p.1;
      flags = ap (λ (v : FileNameValue). v.flags) p.1;
      name_length = sym count;
      space = space;
      space_known = omega (arith, l.space, space);
      name = name;
      lawful = subst IsName name (name-of_ok (units_of value) (small_unit 0x42 (field 0x40 1 value) value each) l.name);
    }

pub file_name_read : (value : List ℕ) (f : FileNameValue) → IsFileName value f → file_name_of value ≡ Ok f
unfolding file_name_of
file_name_read value f t =
    let name : IsName (units_of value) = subst IsName (sym t.name) t.lawful in
    let l : IsLawful value = record { size = omega (arith, t.size, t.name_length); space = omega (arith, t.space, t.space_known); name = ap is_ok (name_of-of_name (units_of value) name) } in
    to_ok (is_file_name value) (file_name_fields value) f (file_name_fault value) (parts_lawful value l)
    (fields_same value f t.parent t.created t.modified t.changed t.read_at t.allocated t.real t.flags t.space t.name)

-- ---- what refuses a value

answer : Bool → Bool → FileNameValue → ℕ → Result FileNameValue ValueFault
answer lawful sized f len = if lawful then Ok f else Err (if sized then Shape else Length len)

wrong_length_is : (lawful sized : Bool) (f : FileNameValue) (len n : ℕ) → answer lawful sized f len ≡ Err (Length n) → (n ≡ len) × (sized ≢ true)
unfolding answer
wrong_length_is true sized f len n e = absurd cc
wrong_length_is false true f len n e = absurd cc
wrong_length_is false false f len n e = (cc, λ h. cc)

is_wrong_length : (lawful sized : Bool) (f : FileNameValue) (len n : ℕ) → (lawful ≡ true → sized ≡ true) → n ≡ len → sized ≢ true → answer lawful sized f len ≡ Err (Length n)
unfolding answer
is_wrong_length true sized f len n up e no_size = absurd (no_size (up refl))
is_wrong_length false true f len n up e no_size = absurd (no_size refl)
is_wrong_length false false f len n up e no_size = ap (λ (k : ℕ). Err (Length k)) (sym e)

wrong_shape_is : (lawful sized : Bool) (f : FileNameValue) (len : ℕ) → answer lawful sized f len ≡ Err Shape → (sized ≡ true) × (lawful ≢ true)
unfolding answer
wrong_shape_is true sized f len e = absurd cc
wrong_shape_is false true f len e = (refl, λ h. cc)
wrong_shape_is false false f len e = absurd cc

is_wrong_shape : (lawful sized : Bool) (f : FileNameValue) (len : ℕ) → sized ≡ true → lawful ≢ true → answer lawful sized f len ≡ Err Shape
unfolding answer
is_wrong_shape true sized f len e unlawful = absurd (unlawful refl)
is_wrong_shape false true f len e unlawful = refl
is_wrong_shape false false f len e unlawful = absurd cc

lawful_size : (value : List ℕ) → is_file_name value ≡ true → has_name_length value ≡ true
lawful_size value h = has_length value (lawful_parts value h).size

read_as : (value : List ℕ) → file_name_of value ≡ answer (is_file_name value) (has_name_length value) (file_name_fields value) (length value)
unfolding file_name_of file_name_fault answer
read_as value = refl

pub wrong_length_from : (value : List ℕ) (n : ℕ) → file_name_of value ≡ Err (Length n) → (n ≡ length value) × (has_name_length value ≢ true)
wrong_length_from value n e = wrong_length_is (is_file_name value) (has_name_length value) (file_name_fields value) (length value) n (sym (read_as value) ∙ e)

pub wrong_length_to : (value : List ℕ) (n : ℕ) → (n ≡ length value) × (has_name_length value ≢ true) → file_name_of value ≡ Err (Length n)
wrong_length_to value n h = read_as value ∙ is_wrong_length (is_file_name value) (has_name_length value) (file_name_fields value) (length value) n (lawful_size value) h.0 h.1

pub wrong_shape_from : (value : List ℕ) → file_name_of value ≡ Err Shape → (has_name_length value ≡ true) × (is_file_name value ≢ true)
wrong_shape_from value e = wrong_shape_is (is_file_name value) (has_name_length value) (file_name_fields value) (length value) (sym (read_as value) ∙ e)

pub wrong_shape_to : (value : List ℕ) → (has_name_length value ≡ true) × (is_file_name value ≢ true) → file_name_of value ≡ Err Shape
wrong_shape_to value h = read_as value ∙ is_wrong_shape (is_file_name value) (has_name_length value) (file_name_fields value) (length value) h.0 h.1

pub file_name_lawful : (value : List ℕ) → is_ok (file_name_of value) ≡ is_file_name value
unfolding file_name_of
file_name_lawful value = elim (is_file_name value) as (λ b. is_ok (if b then Ok (file_name_fields value) else Err (file_name_fault value)) ≡ b) [ true ↦ refl | false ↦ refl ]

-- ---- what is written

abbrev head_puts : FileNameValue → List Put
head_puts f =
    put 0x00 8 (packed f.parent) ∷ put 0x08 8 f.created ∷ put 0x10 8 f.modified ∷ put 0x18 8 f.changed ∷ put 0x20 8 f.read_at
    ∷ put 0x28 8 f.allocated ∷ put 0x30 8 f.real ∷ put 0x38 4 f.flags ∷ put 0x40 1 (length f.name) ∷ put 0x41 1 f.space ∷ []

over_puts : (f : FileNameValue) (value : List ℕ) → file_name_over f value ≡ written 0x42 (unit_bytes f.name) (puts (head_puts f) value)
unfolding file_name_over name_head_over
over_puts f value = refl

pub length-file_name_over : (f : FileNameValue) (value : List ℕ) → length (file_name_over f value) ≡ length value
length-file_name_over f value = ap length (over_puts f value) ∙ length-written 0x42 (unit_bytes f.name) (puts (head_puts f) value) ∙ length-puts (head_puts f) value

module _ (f : FileNameValue) (value : List ℕ) (fits : FitsFileName f) (size : length value ≡ 0x42 + 2 * length f.name) where
  abbrev ps : List Put
  ps = head_puts f

  abbrev over : List ℕ
  over = file_name_over f value

  fit : Fit ps
  fit =
      let parent : packed f.parent < 256 ^ 8 = omega (arith, fits.number, fits.seq) in
      let count : length f.name < 256 ^ 1 = omega (arith, fits.name.within) in
      let space : f.space < 256 ^ 1 = omega (arith, fits.space) in
      (parent, (fits.created, (fits.modified, (fits.changed, (fits.read_at, (fits.allocated, (fits.real, (fits.flags, (count, (space, tt))))))))))

  -- the units leave what stands before them
  before : (at n : ℕ) → at + n ≤ 0x42 → field at n over ≡ field at n (puts ps value)
  before at n le = ap (field at n) (over_puts f value) ∙ field-written_apart at n 0x42 (unit_bytes f.name) (puts ps value) (inl le)

  long : 0x42 ≤ length value
  long = omega arith

  count : field 0x40 1 over ≡ length f.name
  count = before 0x40 1 (lit≤ tt) ∙ put_read ps 0x42 8 value refl refl long fit (omega arith)

  space_is : field 0x41 1 over ≡ f.space
  space_is = before 0x41 1 (lit≤ tt) ∙ put_read ps 0x42 9 value refl refl long fit (omega arith)

  parent_is : unpacked (field 0x00 8 over) ≡ f.parent
  parent_is = ap unpacked (before 0x00 8 (lit≤ tt) ∙ put_read ps 0x42 0 value refl refl long fit (omega arith)) ∙ unpacked-packed f.parent fits.number

  -- the units stand behind the rest
  placed : drop 0x42 over ≡ unit_bytes f.name ++ drop (length (unit_bytes f.name)) (drop 0x42 (puts ps value))
  placed =
      let room : 0x42 + length (unit_bytes f.name) ≤ length (puts ps value) = omega (arith, length-unit_bytes f.name, length-puts ps value) in
      let front : length (take 0x42 (puts ps value)) ≡ 0x42 = length-take-le 0x42 (puts ps value) (omega arith) in
      ap (drop 0x42) (over_puts f value ∙ written_parts 0x42 (unit_bytes f.name) (puts ps value) room) ∙ drop_at (take 0x42 (puts ps value)) _ 0x42 front

  small : AllByRecursion (λ unit. unit < 2 ^ 16) f.name
  small = recursion_from_All (λ (unit : ℕ). unit < 2 ^ 16) f.name (λ k d lt. (fits.name.lawful k d lt).0)

  name_is : units_at 0x42 (field 0x40 1 over) over ≡ f.name
  name_is = ap (λ (n : ℕ). units_at 0x42 n over) count ∙ units_here 0x42 f.name over (drop (length (unit_bytes f.name)) (drop 0x42 (puts ps value))) placed small

  pub file_name_spelled : IsFileName over f
  unfolding parent_of space_of units_of
  file_name_spelled = record {
    size = length-file_name_over f value ∙ size;
    parent = parent_is;
    created = before 0x08 8 (lit≤ tt) ∙ put_read ps 0x42 1 value refl refl long fit (omega arith);
    modified = before 0x10 8 (lit≤ tt) ∙ put_read ps 0x42 2 value refl refl long fit (omega arith);
    changed = before 0x18 8 (lit≤ tt) ∙ put_read ps 0x42 3 value refl refl long fit (omega arith);
    read_at = before 0x20 8 (lit≤ tt) ∙ put_read ps 0x42 4 value refl refl long fit (omega arith);
    allocated = before 0x28 8 (lit≤ tt) ∙ put_read ps 0x42 5 value refl refl long fit (omega arith);
    real = before 0x30 8 (lit≤ tt) ∙ put_read ps 0x42 6 value refl refl long fit (omega arith);
    flags = before 0x38 4 (lit≤ tt) ∙ put_read ps 0x42 7 value refl refl long fit (omega arith);
    name_length = count;
    space = space_is;
    space_known = fits.space;
    name = name_is;
    lawful = fits.name;
  }

-- the bytes from 0x3C to 0x40 stay
pub file_name_others : (f : FileNameValue) (value : List ℕ) (i : ℕ) → 0x3C ≤ i → i < 0x40 → slice_index (file_name_over f value) i ≡ slice_index value i
unfolding file_name_over name_head_over
file_name_others f value i le lt =
    let front = put 0x00 8 (packed f.parent) ∷ put 0x08 8 f.created ∷ put 0x10 8 f.modified ∷ put 0x18 8 f.changed ∷ put 0x20 8 f.read_at ∷ put 0x28 8 f.allocated ∷ put 0x30 8 f.real ∷ put 0x38 4 f.flags ∷ [] in
    let last = put 0x40 1 (length f.name) ∷ put 0x41 1 f.space ∷ [] in
    written_before 0x42 (unit_bytes f.name) (puts last (puts front value)) i 0 (omega arith)
    ∙ byte_before last 0x40 i (puts front value) refl lt
    ∙ byte_behind front 0x3C i value refl le
