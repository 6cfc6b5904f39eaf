-- The volume after some records are rewritten.
use Rattle.std.proofs.Common.{◌≡◌, ◌⊎◌, ℕ, zero, suc, ◌+◌, ◌-◌, ◌*◌, ◌/◌, ◌%◌, ◌<◌, ◌≤◌, Bool, true, false, not, cond, ◌&&◌, ◌||◌, eqb, leb, ltb, List, [], ◌∷◌, ◌++◌, length, get_or, set, map, replicate, Option, Some, None, Result, Ok, Err, refl, sym, ap, subst, ◌∙◌, inl, inr, arith}
use mathlib.Core.Path.{fun_ext}
use Rattle.std.specs.List.{filter, flat_map, list_all, list_any, range_with_len, AllByRecursion}
use Rattle.std.proofs.lemmas.Bool.{cases_Bool, cases_lt, or_parts, or_from, eqb-true, eqb-false, ne_eqb, both_ways, lt-leb, le-ltb}
use Rattle.std.proofs.Math.Bool.{and-false}
use Rattle.std.proofs.lemmas.List.{append-nil, length-append, length-replicate, get_or_past, get_or_append_left, get_or-append_right, get_or-replicate, get_or-set_same, get_or-set_other}
use Rattle.std.proofs.lemmas.List.FromFn.{length-map-range_with_len, get_or-map-range_with_len}
use Rattle.std.proofs.Math.ListN.{length-set}
use Rattle.volume_model.specs.host_base.Answers.{◌>>=◌}
use Rattle.volume_model.specs.host_base.FileRefs.{same_reference}
use Rattle.volume_model.specs.disk_model.declared.block.Block.{Block}
use Rattle.volume_model.specs.disk_model.declared.block.BlockKind.TheVariants.{FileRec}
use Rattle.volume_model.specs.disk_model.declared.block.Body.{Body}
use Rattle.volume_model.specs.disk_model.Bytes.{zeros}
use Rattle.volume_model.specs.disk_model.Content.{Content, HasSizes, is_signed}
use Rattle.volume_model.specs.disk_model.Writes.{Write, overlay}
use Rattle.volume_model.specs.record_model.declared.attribute.Attr.{Attr}
use Rattle.volume_model.specs.record_model.declared.runs.Run.{Run}
use Rattle.volume_model.specs.record_model.declared.list_entry.ListEntry.{ListEntry}
use Rattle.volume_model.specs.record_model.ListEntries.{ReadEntries}
use Rattle.volume_model.specs.record_model.Records.{Record}
use Rattle.volume_model.specs.state_model.declared.geometry.Geometry.{Geometry}
use Rattle.volume_model.specs.state_model.declared.geometry.MapRefusal.{MapRefusal}
use Rattle.volume_model.specs.state_model.declared.stream.Extents.{Extents}
use Rattle.volume_model.specs.state_model.Files.{Table, file_at, only_base, is_base_record, reference}
use Rattle.volume_model.specs.state_model.Streams.{block_at, is_inside_block, cuts_block, has_cut_block}
use Rattle.volume_model.specs.state_model.Loads.{Slot, Torn, Free, Broken, Used, record_count, table_of, slot_at, slot_of, table_slot, used_record, records_of, table_in, list_stream, list_entries_in, entries_of, no_entries, is_named_in, named_attrs, all_attrs, whole_file, joined_file, holds_named, is_held, holds_all, has_held_list, cuts_index, breaks_9, breaks_list, breaks_10, broken_rule, or_rule, rule_at, torn_refusal, rule_refusal, first_some, first_of, unless, files_of, files_in}
use Rattle.volume_model.specs.Volumes.{Volume, volume_of, count_of, block_bytes, record_block, record_bytes}
use Rattle.stream_laws.specs.Changes.{LeavesBytes, LeavesRecord}
use Rattle.stream_laws.specs.Volumes.{base_record}
use Rattle.stream_laws.specs.Replacing.{FileEdit, with_edits, AreEdits}
use Rattle.stream_laws.specs.Rewrites.{StandsAlone, names_one, TableGoesOn, ChangesRecords, new_file, changed_file, with_table, changed_volume, is_edited, filled_up, IsBlank, with_files, RewritesRecords}
use Rattle.stream_laws.proofs.Framing.{same_map, same_slot}
use Rattle.stream_laws.proofs.Changing.{bytes_agree, record_agrees}
use Rattle.stream_laws.proofs.Editing.{length-with_edits, other_file}
use Rattle.stream_laws.proofs.Counting.{same_list}
use Rattle.stream_laws.proofs.Loading.{same_entries}

-- ---- lists

filter_none : {A : Type 0} (p : A → Bool) (xs : List A) → ((x : A) → p x ≡ false) → filter p xs ≡ []
filter_none p [] fails = refl
filter_none p (x ∷ xs) fails = rw (fails x) (filter_none p xs fails)

flat_map_none : {A B : Type 0} (f : A → List B) (xs : List A) → ((x : A) → f x ≡ []) → flat_map f xs ≡ []
flat_map_none f [] empty = refl
flat_map_none f (x ∷ xs) empty = rw (empty x) (flat_map_none f xs empty)

either_way : {A : Type 0} (t : Bool) (x : A) → cond t x x ≡ x
either_way true x = refl
either_way false x = refl

-- ---- what an attribute list names

-- no entry names an attribute in a record that none names
no_entry : (touched : ℕ → Bool) (k : ℕ) (q : Record) (a : Attr) (entries : List ListEntry) → names_one touched entries ≡ false → touched k ≡ true → list_any (is_named_in k q a) entries ≡ false
no_entry touched k q a [] unnamed is = refl
no_entry touched k q a (e ∷ entries) unnamed is =
    let parts = or_parts (touched e.holder.number) (names_one touched entries) unnamed in
    let other : eqb e.holder.number k ≡ false = ne_eqb e.holder.number k (λ same. both_ways (touched k) (sym (ap touched same) ∙ parts.0) is) in
    rw other (no_entry touched k q a entries parts.1 is)

nothing_named : (touched : ℕ → Bool) (entries : List ListEntry) (n : ℕ) (r : Record) (k : ℕ) (o : Option Record) → names_one touched entries ≡ false → touched k ≡ true → named_attrs entries n r k o ≡ []
nothing_named touched entries n r k None unnamed is = refl
nothing_named touched entries n r k (Some q) unnamed is =
    let test = not (eqb k n) && same_reference q.head.base (reference n r) in
    ap (λ (l : List Attr). cond test l []) (filter_none (λ a. list_any (is_named_in k q a) entries) q.attrs (λ a. no_entry touched k q a entries unnamed is))
    ∙ either_way test []

-- nor in any, where there is no entry
no_names : (n : ℕ) (r : Record) (k : ℕ) (o : Option Record) → named_attrs [] n r k o ≡ []
no_names n r k None = refl
no_names n r k (Some q) =
    let test = not (eqb k n) && same_reference q.head.base (reference n r) in
    ap (λ (l : List Attr). cond test l []) (filter_none (λ a. list_any (is_named_in k q a) []) q.attrs (λ a. refl)) ∙ either_way test []

-- entries that name none of the touched records are held alike by two tables that agree on the others
same_holders : (p q : Table) (touched : ℕ → Bool) (n : ℕ) (r : Record) (entries : List ListEntry) → ((m : ℕ) → touched m ≡ false → q m ≡ p m) → names_one touched entries ≡ false → list_all (is_held q n r) entries ≡ list_all (is_held p n r) entries
unfolding is_held
same_holders p q touched n r [] same unnamed = refl
same_holders p q touched n r (e ∷ entries) same unnamed =
    let parts = or_parts (touched e.holder.number) (names_one touched entries) unnamed in
    ap (λ (o : Option Record). holds_named n r e o && list_all (is_held q n r) entries) (same e.holder.number parts.0)
    ∙ ap (λ (t : Bool). is_held p n r e && t) (same_holders p q touched n r entries same parts.1)

-- ---- a record that stands alone

entries_alone : (d : Content) (per : ℕ) (r : Record) → list_stream r ≡ None → entries_of d per r ≡ no_entries
unfolding entries_of
entries_alone d per r alone = ap (list_entries_in d per) alone

-- the same record, its fields one by one
again : Record → List Attr → Option Record
again r attrs = Some (record { head = r.head; attrs = attrs })

pub attrs_alone : (d : Content) (per : ℕ) (q : Table) (count m : ℕ) (r : Record) → list_stream r ≡ None → all_attrs d per q count m r ≡ r.attrs
unfolding all_attrs
attrs_alone d per q count m r alone =
    ap (λ (l : ReadEntries). r.attrs ++ flat_map (λ k. named_attrs l.entries m r k (q k)) (range_with_len 0 count)) (entries_alone d per r alone)
    ∙ ap (λ (l : List Attr). r.attrs ++ l) (flat_map_none (λ k. named_attrs [] m r k (q k)) (range_with_len 0 count) (λ k. no_names m r k (q k)))
    ∙ append-nil r.attrs

whole_alone : (d : Content) (per : ℕ) (q : Table) (count m : ℕ) (r : Record) (t : Bool) → list_stream r ≡ None → whole_file d per q count m (cond t (Some r) None) ≡ cond t (Some r) None
unfolding again
whole_alone d per q count m r true alone = ap (again r) (attrs_alone d per q count m r alone)
whole_alone d per q count m r false alone = refl

file_alone : (d : Content) (per : ℕ) (q : Table) (count m : ℕ) (x : Slot) → StandsAlone per x → whole_file d per q count m (only_base (used_record x)) ≡ only_base (used_record x)
file_alone d per q count m Torn alone = absurd alone
file_alone d per q count m Free alone = refl
file_alone d per q count m (Broken rule) alone = absurd alone
file_alone d per q count m (Used r) alone = whole_alone d per q count m r (is_base_record r) alone.0

uncut_base : (per : ℕ) (r : Record) (t : Bool) → cuts_index per (Some r) ≡ false → cuts_index per (cond t (Some r) None) ≡ false
uncut_base per r true uncut = uncut
uncut_base per r false uncut = refl

uncut_alone : (per : ℕ) (x : Slot) → StandsAlone per x → cuts_index per (only_base (used_record x)) ≡ false
uncut_alone per Torn alone = absurd alone
uncut_alone per Free alone = refl
uncut_alone per (Broken rule) alone = absurd alone
uncut_alone per (Used r) alone = uncut_base per r (is_base_record r) alone.1

held_alone : (d : Content) (per : ℕ) (q : Table) (m : ℕ) (r : Record) (t : Bool) → list_stream r ≡ None → breaks_list d per q m (cond t (Some r) None) ≡ false
unfolding has_held_list
held_alone d per q m r true alone = ap (λ (l : ReadEntries). not (holds_all q m r l)) (entries_alone d per r alone)
held_alone d per q m r false alone = refl

list_alone : (d : Content) (per : ℕ) (q : Table) (m : ℕ) (x : Slot) → StandsAlone per x → breaks_list d per q m (only_base (used_record x)) ≡ false
list_alone d per q m Torn alone = absurd alone
list_alone d per q m Free alone = refl
list_alone d per q m (Broken rule) alone = absurd alone
list_alone d per q m (Used r) alone = held_alone d per q m r (is_base_record r) alone.0

untorn_alone : (per m : ℕ) (x : Slot) → StandsAlone per x → torn_refusal m x ≡ None
untorn_alone per m Torn alone = absurd alone
untorn_alone per m Free alone = refl
untorn_alone per m (Broken rule) alone = absurd alone
untorn_alone per m (Used r) alone = refl

unbroken_alone : (per : ℕ) (x : Slot) → StandsAlone per x → broken_rule x ≡ None
unbroken_alone per Torn alone = absurd alone
unbroken_alone per Free alone = refl
unbroken_alone per (Broken rule) alone = absurd alone
unbroken_alone per (Used r) alone = refl

-- ---- no refusal

some_none : {A : Type 0} (a b : Option A) → first_some a b ≡ None → (a ≡ None) × (b ≡ None)
some_none None b is = (refl, is)
some_none (Some x) b is = absurd cc

none_below : {A : Type 0} (f : ℕ → Option A) (count : ℕ) → first_of f count ≡ None → (m : ℕ) → m < count → f m ≡ None
unfolding first_of
none_below f zero is m below = absurd (omega arith)
none_below {A} f (suc count) is m below =
    let parts = some_none (first_of f count) (f count) is in
    elim (cases_lt m count) [
      | inl less ↦ none_below f count parts.0 m less
      | inr last ↦ (let same : m ≡ count = omega arith in ap f same ∙ parts.1)
    ]

none_at_all : {A : Type 0} (f : ℕ → Option A) (count : ℕ) → ((m : ℕ) → m < count → f m ≡ None) → first_of f count ≡ None
unfolding first_of
none_at_all f zero each = refl
none_at_all {A} f (suc count) each = ap (λ (o : Option A). first_some o (f count)) (none_at_all f count (λ m below. each m (omega arith))) ∙ each count (omega arith)

unruled : (m : ℕ) (o : Option ℕ) → rule_refusal m o ≡ None → o ≡ None
unruled m None is = refl
unruled m (Some rule) is = absurd cc

rule_parts : (o : Option ℕ) (nine ten : Bool) → or_rule o nine ten ≡ None → (o ≡ None) × (nine ≡ false) × (ten ≡ false)
rule_parts (Some rule) nine ten is = absurd cc
rule_parts None true ten is = absurd cc
rule_parts None false true is = absurd cc
rule_parts None false false is = (refl, refl, refl)

no_rule : (o : Option ℕ) (nine ten : Bool) → o ≡ None → nine ≡ false → ten ≡ false → or_rule o nine ten ≡ None
no_rule o nine ten none first second = rw (none, first, second) refl

-- ---- numbers past the old ones

none_past : {B : Type 0} (f : ℕ → List B) (a more : ℕ) → ((k : ℕ) → a ≤ k → f k ≡ []) → flat_map f (range_with_len a more) ≡ []
none_past f a zero each = refl
none_past f a (suc more) each = rw (each a (omega arith)) (none_past f (a + 1) more (λ k above. each k (omega arith)))

up_to : {B : Type 0} (f : ℕ → List B) (a n more : ℕ) → ((k : ℕ) → a + n ≤ k → f k ≡ []) → flat_map f (range_with_len a (n + more)) ≡ flat_map f (range_with_len a n)
up_to f a zero more each =
    let all : 0 + more ≡ more = omega arith in
    ap (λ (k : ℕ). flat_map f (range_with_len a k)) all ∙ none_past f a more (λ k above. each k (omega arith))
up_to {B} f a (suc n) more each =
    let next : suc n + more ≡ suc (n + more) = omega arith in
    ap (λ (k : ℕ). flat_map f (range_with_len a k)) next ∙ ap (λ (l : List B). f a ++ l) (up_to f (a + 1) n more (λ k above. each k (omega arith)))

-- the values at numbers where there are none add nothing
pub same_up_to : {B : Type 0} (f : ℕ → List B) (n m : ℕ) → n ≤ m → ((k : ℕ) → n ≤ k → f k ≡ []) → flat_map f (range_with_len 0 m) ≡ flat_map f (range_with_len 0 n)
same_up_to {B} f n m le each =
    let size : m ≡ n + (m - n) = omega arith in
    ap (λ (k : ℕ). flat_map f (range_with_len 0 k)) size ∙ up_to f 0 n (m - n) (λ k above. each k (omega arith))

no_attrs : (entries : List ListEntry) (n : ℕ) (r : Record) (k : ℕ) (o : Option Record) → o ≡ None → named_attrs entries n r k o ≡ []
no_attrs entries n r k o is = rw is refl

-- ---- the tables of two contents that differ in some records

-- the records of a table
abbrev pub table_by : Content → ℕ → Extents → Table
table_by x per h = table_in (records_of (table_slot x per h) (record_count h))

in_table : (x : Content) (per : ℕ) (h : Extents) (m : ℕ) → m < record_count h → table_by x per h m ≡ used_record (table_slot x per h m)
unfolding records_of
in_table x per h m below = get_or-map-range_with_len (λ n. used_record (table_slot x per h n)) 0 (record_count h) m m None below (omega arith)

pub past_table : (x : Content) (per : ℕ) (h : Extents) (m : ℕ) → record_count h ≤ m → table_by x per h m ≡ None
unfolding records_of
past_table x per h m past =
    let size = length-map-range_with_len (λ n. used_record (table_slot x per h n)) 0 (record_count h) in
    get_or_past (map (λ n. used_record (table_slot x per h n)) (range_with_len 0 (record_count h))) m None (omega (arith, size))

new_base : (x : Content) (per : ℕ) (h : Extents) (m : ℕ) → m < record_count h → file_at (table_by x per h) m ≡ only_base (used_record (table_slot x per h m))
unfolding file_at
new_base x per h m below = ap only_base (in_table x per h m below)

-- a record of old number is the same by the new extents
same_by_extents : (x : Content) (per : ℕ) (e f : Extents) (m : ℕ) → TableGoesOn per e f → m < record_count e → table_slot x per f m ≡ table_slot x per e m
unfolding table_slot
same_by_extents x per e f m grows below =
    ap (λ (t : Bool). cond t Free (slot_at x (block_at per f.runs FileRec m))) (grows.begun m below)
    ∙ ap (λ (o : Option Block). cond (leb e.initialised (1024 * m)) Free (slot_at x o)) (grows.places m below)

module _ (c d : Content) (per : ℕ) (e f : Extents) (touched : ℕ → Bool) (changes : ChangesRecords c d per e f touched) where
  same_other : (m : ℕ) → m < record_count e → touched m ≡ false → table_slot d per f m ≡ table_slot c per e m
  same_other m below other = same_by_extents d per e f m changes.grows below ∙ same_slot c d per e m (changes.others m below other)

  -- each new record, and each touched one, stands alone
  stands : (m : ℕ) → m < record_count f → (touched m ≡ true) ⊎ (record_count e ≤ m) → StandsAlone per (table_slot d per f m)
  stands m below which = elim (cases_lt m (record_count e)) [
    | inl old ↦ elim which [
      | inl is ↦ changes.alone m old is
      | inr past ↦ absurd (omega (arith, old, past))
    ]
    | inr past ↦ subst (λ (x : Slot). StandsAlone per x) (sym (changes.fresh m past below)) tt
  ]

  -- there is no file at a new number
  none_there : (m : ℕ) → record_count e ≤ m → m < record_count f → used_record (table_slot d per f m) ≡ None
  none_there m past below = ap used_record (changes.fresh m past below)

  same_in_table : (m : ℕ) → touched m ≡ false → table_by d per f m ≡ table_by c per e m
  same_in_table m other = elim (cases_lt m (record_count e)) [
    | inl below ↦ in_table d per f m (omega (arith, below, changes.grows.count)) ∙ ap used_record (same_other m below other) ∙ sym (in_table c per e m below)
    | inr past ↦ elim (cases_lt m (record_count f)) [
      | inl below ↦ in_table d per f m below ∙ none_there m past below ∙ sym (past_table c per e m past)
      | inr behind ↦ past_table d per f m behind ∙ sym (past_table c per e m past)
    ]
  ]

  none_in_table : (m : ℕ) → record_count e ≤ m → table_by d per f m ≡ None
  none_in_table m past = elim (cases_lt m (record_count f)) [
    | inl below ↦ in_table d per f m below ∙ none_there m past below
    | inr behind ↦ past_table d per f m behind
  ]

  same_base : (m : ℕ) → touched m ≡ false → file_at (table_by d per f) m ≡ base_record c per e m
  unfolding file_at
  same_base m other = ap only_base (same_in_table m other)

  -- ---- one file

  -- the attributes of a file that isn't touched
  same_named : (n : ℕ) (r : Record) (entries : List ListEntry) → names_one touched entries ≡ false → (k : ℕ) → named_attrs entries n r k (table_by d per f k) ≡ named_attrs entries n r k (table_by c per e k)
  same_named n r entries unnamed k =
      let new = table_by d per f k in
      let old = table_by c per e k in
      elim (cases_Bool (touched k)) [
        | inl is ↦ nothing_named touched entries n r k new unnamed is ∙ sym (nothing_named touched entries n r k old unnamed is)
        | inr other ↦ ap (named_attrs entries n r k) (same_in_table k other)
      ]

  same_all : (m : ℕ) (r : Record) → touched m ≡ false → base_record c per e m ≡ Some r → all_attrs d per (table_by d per f) (record_count f) m r ≡ all_attrs c per (table_by c per e) (record_count e) m r
  unfolding all_attrs
  same_all m r other is =
      let q = table_by d per f in
      let entries = (entries_of c per r).entries in
      ap (λ (l : ReadEntries). r.attrs ++ flat_map (λ k. named_attrs l.entries m r k (q k)) (range_with_len 0 (record_count f))) (same_entries c d per r (changes.lists m r other is))
      ∙ ap (λ (l : List Attr). r.attrs ++ l) (same_up_to (λ k. named_attrs entries m r k (q k)) (record_count e) (record_count f) changes.grows.count (λ k past. no_attrs entries m r k (q k) (none_in_table k past)))
      ∙ ap (λ (g : ℕ → List Attr). r.attrs ++ flat_map g (range_with_len 0 (record_count e))) (fun_ext (λ k. same_named m r entries (changes.unnamed m r other is) k))

  whole_other : (m : ℕ) (o : Option Record) → touched m ≡ false → base_record c per e m ≡ o → whole_file d per (table_by d per f) (record_count f) m o ≡ whole_file c per (table_by c per e) (record_count e) m o
  unfolding again
  whole_other m None other is = refl
  whole_other m (Some r) other is = ap (again r) (same_all m r other is)

  joined_other : (m : ℕ) → touched m ≡ false → joined_file d per (table_by d per f) (record_count f) m ≡ joined_file c per (table_by c per e) (record_count e) m
  unfolding joined_file
  joined_other m other = ap (whole_file d per (table_by d per f) (record_count f) m) (same_base m other) ∙ whole_other m (base_record c per e m) other refl

  joined_new : (m : ℕ) → m < record_count f → (touched m ≡ true) ⊎ (record_count e ≤ m) → joined_file d per (table_by d per f) (record_count f) m ≡ only_base (used_record (table_slot d per f m))
  unfolding joined_file
  joined_new m below which =
      let q = table_by d per f in
      ap (whole_file d per q (record_count f) m) (new_base d per f m below) ∙ file_alone d per q (record_count f) m (table_slot d per f m) (stands m below which)

  -- ---- its rules

  held_other : (m : ℕ) (r : Record) → touched m ≡ false → base_record c per e m ≡ Some r → has_held_list d per (table_by d per f) m r ≡ has_held_list c per (table_by c per e) m r
  unfolding has_held_list
  held_other m r other is =
      let q = table_by d per f in
      let read = entries_of c per r in
      ap (holds_all q m r) (same_entries c d per r (changes.lists m r other is))
      ∙ ap (λ (t : Bool). read.whole && t) (same_holders (table_by c per e) q touched m r read.entries same_in_table (changes.unnamed m r other is))

  list_other : (m : ℕ) (o : Option Record) → touched m ≡ false → base_record c per e m ≡ o → breaks_list d per (table_by d per f) m o ≡ breaks_list c per (table_by c per e) m o
  list_other m None other is = refl
  list_other m (Some r) other is = ap not (held_other m r other is)

  ten_other : (m : ℕ) → touched m ≡ false → breaks_10 d per (table_by d per f) m ≡ breaks_10 c per (table_by c per e) m
  unfolding breaks_10
  ten_other m other = ap (breaks_list d per (table_by d per f) m) (same_base m other) ∙ list_other m (base_record c per e m) other refl

  uncut_table : (m : ℕ) → ((eqb m 0) && has_cut_block per FileRec (record_count f) f.runs) ≡ false
  uncut_table m = ap (λ (t : Bool). (eqb m 0) && t) changes.grows.uncut ∙ and-false (eqb m 0)

  nine_other : (m : ℕ) → touched m ≡ false → breaks_9 c per e (table_by c per e) (record_count e) m ≡ false → breaks_9 d per f (table_by d per f) (record_count f) m ≡ false
  unfolding breaks_9
  nine_other m other lawful =
      let parts = or_parts ((eqb m 0) && has_cut_block per FileRec (record_count e) e.runs) (cuts_index per (joined_file c per (table_by c per e) (record_count e) m)) lawful in
      or_from _ _ (uncut_table m) (ap (cuts_index per) (joined_other m other) ∙ parts.1)

  rule_other : (m : ℕ) → m < record_count e → touched m ≡ false → rule_at c per e m ≡ None → rule_at d per f m ≡ None
  unfolding rule_at
  rule_other m below other lawful =
      let parts = rule_parts (broken_rule (table_slot c per e m)) (breaks_9 c per e (table_by c per e) (record_count e) m) (breaks_10 c per (table_by c per e) m) lawful in
      no_rule _ _ _ (ap broken_rule (same_other m below other) ∙ parts.0) (nine_other m other parts.1) (ten_other m other ∙ parts.2)

  nine_new : (m : ℕ) → m < record_count f → (touched m ≡ true) ⊎ (record_count e ≤ m) → breaks_9 d per f (table_by d per f) (record_count f) m ≡ false
  unfolding breaks_9
  nine_new m below which = or_from _ _ (uncut_table m) (ap (cuts_index per) (joined_new m below which) ∙ uncut_alone per (table_slot d per f m) (stands m below which))

  ten_new : (m : ℕ) → m < record_count f → (touched m ≡ true) ⊎ (record_count e ≤ m) → breaks_10 d per (table_by d per f) m ≡ false
  unfolding breaks_10
  ten_new m below which =
      let q = table_by d per f in
      ap (breaks_list d per q m) (new_base d per f m below) ∙ list_alone d per q m (table_slot d per f m) (stands m below which)

  rule_new : (m : ℕ) → m < record_count f → (touched m ≡ true) ⊎ (record_count e ≤ m) → rule_at d per f m ≡ None
  unfolding rule_at
  rule_new m below which = no_rule _ _ _ (unbroken_alone per (table_slot d per f m) (stands m below which)) (nine_new m below which) (ten_new m below which)

  -- a number is an old one that isn't touched, or it is another
  kind_of_number : (m : ℕ) → ((m < record_count e) × (touched m ≡ false)) ⊎ ((touched m ≡ true) ⊎ (record_count e ≤ m))
  kind_of_number m = elim (cases_lt m (record_count e)) [
    | inl below ↦ elim (cases_Bool (touched m)) [
      | inl is ↦ inr (inl is)
      | inr other ↦ inl (below, other)
    ]
    | inr past ↦ inr (inr past)
  ]

  no_rule_now : ((k : ℕ) → k < record_count e → rule_at c per e k ≡ None) → (m : ℕ) → m < record_count f → rule_at d per f m ≡ None
  no_rule_now lawful m below = elim (kind_of_number m) [
    | inl old ↦ rule_other m old.0 old.1 (lawful m old.0)
    | inr which ↦ rule_new m below which
  ]

  untorn_now : ((k : ℕ) → k < record_count e → torn_refusal k (table_slot c per e k) ≡ None) → (m : ℕ) → m < record_count f → torn_refusal m (table_slot d per f m) ≡ None
  untorn_now whole m below = elim (kind_of_number m) [
    | inl old ↦ ap (torn_refusal m) (same_other m old.0 old.1) ∙ whole m old.0
    | inr which ↦ untorn_alone per m (table_slot d per f m) (stands m below which)
  ]

  -- the file at each number, where the old files are these
  file_now : (files : List (Option Record)) (m : ℕ) → m < record_count f → files ≡ files_of c per (table_by c per e) (record_count e)
      → joined_file d per (table_by d per f) (record_count f) m ≡ cond (touched m) (only_base (used_record (table_slot d per f m))) (table_in files m)
  unfolding files_of
  file_now files m below are =
      let p = table_by c per e in
      let new = only_base (used_record (table_slot d per f m)) in
      elim (cases_Bool (touched m)) [
        | inl is ↦ joined_new m below (inl is) ∙ sym (ap (λ (t : Bool). cond t new (table_in files m)) is)
        | inr other ↦
            elim (cases_lt m (record_count e)) [
              | inl old ↦
                  joined_other m other
                  ∙ sym (ap (λ (l : List (Option Record)). get_or l m None) are ∙ get_or-map-range_with_len (joined_file c per p (record_count e)) 0 (record_count e) m m None old (omega arith))
              | inr past ↦
                  (let size = length-map-range_with_len (joined_file c per p (record_count e)) 0 (record_count e) in
                  joined_new m below (inr past)
                  ∙ ap only_base (none_there m past below)
                  ∙ sym (ap (λ (l : List (Option Record)). get_or l m None) are ∙ get_or_past (map (joined_file c per p (record_count e)) (range_with_len 0 (record_count e))) m None (omega (arith, size, past))))
            ]
            ∙ sym (ap (λ (t : Bool). cond t new (table_in files m)) other)
      ]

-- ---- the files

-- what is asked of each record, and then the files
abbrev asked : Option MapRefusal → Option MapRefusal → List (Option Record) → Result (List (Option Record)) MapRefusal
asked torn broken files = unless torn >>= λ _. unless broken >>= λ _. Ok files

asked_parts : (torn broken : Option MapRefusal) (now files : List (Option Record)) → asked torn broken now ≡ Ok files → (torn ≡ None) × (broken ≡ None) × (files ≡ now)
asked_parts None None now files is = (refl, refl, cc)
asked_parts None (Some refusal) now files is = absurd cc
asked_parts (Some refusal) broken now files is = absurd cc

asked_none : (torn broken : Option MapRefusal) (now files : List (Option Record)) → torn ≡ None → broken ≡ None → now ≡ files → asked torn broken now ≡ Ok files
asked_none torn broken now files whole lawful are = rw (whole, lawful) (ap (λ (l : List (Option Record)). Ok l) are)

-- what the files are
pub parts_of_files : (c : Content) (per : ℕ) (e : Extents) (files : List (Option Record)) → files_in c per e ≡ Ok files
    → ((m : ℕ) → m < record_count e → torn_refusal m (table_slot c per e m) ≡ None) × ((m : ℕ) → m < record_count e → rule_at c per e m ≡ None) × (files ≡ files_of c per (table_in (records_of (table_slot c per e) (record_count e))) (record_count e))
unfolding files_in
parts_of_files c per e files is =
    let p = table_in (records_of (table_slot c per e) (record_count e)) in
    let torn : ℕ → Option MapRefusal = λ n. torn_refusal n (table_slot c per e n) in
    let broken : ℕ → Option MapRefusal = λ n. rule_refusal n (rule_at c per e n) in
    let parts = asked_parts (first_of torn (record_count e)) (first_of broken (record_count e)) (files_of c per p (record_count e)) files is in (
      none_below torn (record_count e) parts.0,
      λ m below. unruled m (rule_at c per e m) (none_below broken (record_count e) parts.1 m below),
      parts.2,
    )

pub files_now : (c d : Content) (per : ℕ) (e f : Extents) (touched : ℕ → Bool) (files : List (Option Record)) → ChangesRecords c d per e f touched → files_in c per e ≡ Ok files
    → files_in d per f ≡ Ok (map (λ m. cond (touched m) (only_base (used_record (table_slot d per f m))) (table_in files m)) (range_with_len 0 (record_count f)))
unfolding files_in files_of
files_now c d per e f touched files changes is =
    let old = parts_of_files c per e files is in
    let q = table_by d per f in
    let now : ℕ → Option Record = λ m. cond (touched m) (only_base (used_record (table_slot d per f m))) (table_in files m) in
    asked_none _ _ _ _
    (none_at_all (λ n. torn_refusal n (table_slot d per f n)) (record_count f) (λ m below. untorn_now c d per e f touched changes old.0 m below))
    (none_at_all (λ n. rule_refusal n (rule_at d per f n)) (record_count f) (λ m below. ap (rule_refusal m) (no_rule_now c d per e f touched changes old.1 m below)))
    (same_map (joined_file d per q (record_count f)) now 0 (record_count f) (λ m low high. file_now c d per e f touched changes files m (omega arith) old.2))

-- ---- the volume

abbrev volume_with : ℕ → ℕ → ℕ → Extents → List (Option Record) → Volume
volume_with per clusters mft e files = record { per = per; clusters = clusters; mft = mft; table = e; files = files }

pub record VolumeParts (c : Content) (g : Geometry) (clusters : ℕ) (v : Volume) : Type 0 where
  pub table : table_of c g ≡ Ok v.table
  pub files : files_in c g.per_cluster v.table ≡ Ok v.files
  pub per : g.per_cluster ≡ v.per
  pub count : clusters ≡ v.clusters
  pub place : g.mft ≡ v.mft

files_part : (per clusters mft : ℕ) (e : Extents) (read : Result (List (Option Record)) MapRefusal) (v : Volume) → (read >>= λ files. Ok (volume_with per clusters mft e files)) ≡ Ok v → (read ≡ Ok v.files) × (per ≡ v.per) × (clusters ≡ v.clusters) × (mft ≡ v.mft) × (e ≡ v.table)
files_part per clusters mft e (Ok files) v is =
    let made : volume_with per clusters mft e files ≡ v = cc in
    (ap (λ (x : Volume). Ok x.files) made, ap (λ (x : Volume). x.per) made, ap (λ (x : Volume). x.clusters) made, ap (λ (x : Volume). x.mft) made, ap (λ (x : Volume). x.table) made)
files_part per clusters mft e (Err refusal) v is = absurd cc

table_part : (c : Content) (g : Geometry) (clusters : ℕ) (t : Result Extents MapRefusal) (v : Volume) → (t >>= λ e. files_in c g.per_cluster e >>= λ files. Ok (volume_with g.per_cluster clusters g.mft e files)) ≡ Ok v
    → (t ≡ Ok v.table) × (files_in c g.per_cluster v.table ≡ Ok v.files) × (g.per_cluster ≡ v.per) × (clusters ≡ v.clusters) × (g.mft ≡ v.mft)
table_part c g clusters (Ok e) v is =
    let parts = files_part g.per_cluster clusters g.mft e (files_in c g.per_cluster e) v is in
    (ap (λ (x : Extents). Ok x) parts.4, sym (ap (files_in c g.per_cluster) parts.4) ∙ parts.0, parts.1, parts.2, parts.3)
table_part c g clusters (Err refusal) v is = absurd cc

pub volume_parts : (c : Content) (g : Geometry) (clusters : ℕ) (v : Volume) → volume_of c g clusters ≡ Ok v → VolumeParts c g clusters v
unfolding volume_of
volume_parts c g clusters v is =
    let parts = table_part c g clusters (table_of c g) v is in
    record { table = parts.0; files = parts.1; per = parts.2; count = parts.3; place = parts.4 }

-- a volume from its parts
volume_from : (d : Content) (g : Geometry) (clusters : ℕ) (e : Extents) (files : List (Option Record)) → table_of d g ≡ Ok e → files_in d g.per_cluster e ≡ Ok files → volume_of d g clusters ≡ Ok (volume_with g.per_cluster clusters g.mft e files)
unfolding volume_of
volume_from d g clusters e files table is = rw (table, is) refl

pub volume_now : (c d : Content) (g : Geometry) (clusters : ℕ) (v : Volume) (f : Extents) (touched : ℕ → Bool) → volume_of c g clusters ≡ Ok v → table_of d g ≡ Ok f → ChangesRecords c d v.per v.table f touched → volume_of d g clusters ≡ Ok (changed_volume d v f touched)
volume_now c d g clusters v f touched is table changes =
    let parts = volume_parts c g clusters v is in
    let old : files_in c v.per v.table ≡ Ok v.files = sym (ap (λ (per : ℕ). files_in c per v.table) parts.per) ∙ parts.files in
    let files = map (changed_file d v f touched) (range_with_len 0 (record_count f)) in
    let new : files_in d v.per f ≡ Ok files = files_now c d v.per v.table f touched v.files changes old in
    let there : files_in d g.per_cluster f ≡ Ok files = ap (λ (per : ℕ). files_in d per f) parts.per ∙ new in
    volume_from d g clusters f files table there
    ∙ ap (λ (per : ℕ). Ok (volume_with per clusters g.mft f files)) parts.per
    ∙ ap (λ (count : ℕ). Ok (volume_with v.per count g.mft f files)) parts.count
    ∙ ap (λ (mft : ℕ). Ok (volume_with v.per v.clusters mft f files)) parts.place

record_changes : (c : Content) (writes : List Write) (per : ℕ) (e f : Extents) (touched : ℕ → Bool) → HasSizes c → RewritesRecords c writes per e f touched → ChangesRecords c (overlay c writes) per e f touched
record_changes c writes per e f touched sized rewrites = record {
  grows = rewrites.grows;
  others = λ m below other. record_agrees c writes per e m sized (rewrites.others m below other);
  lists = λ m r other is. bytes_agree c writes per (list_stream r) (rewrites.lists m r other is);
  unnamed = rewrites.unnamed;
  alone = rewrites.alone;
  fresh = rewrites.fresh;
}

pub volume_written : (c : Content) (writes : List Write) (g : Geometry) (clusters : ℕ) (v : Volume) (f : Extents) (touched : ℕ → Bool) → HasSizes c → volume_of c g clusters ≡ Ok v → table_of (overlay c writes) g ≡ Ok f → RewritesRecords c writes v.per v.table f touched
    → volume_of (overlay c writes) g clusters ≡ Ok (changed_volume (overlay c writes) v f touched)
volume_written c writes g clusters v f touched sized is table rewrites = volume_now c (overlay c writes) g clusters v f touched is table (record_changes c writes v.per v.table f touched sized rewrites)

-- a volume has as many files as its table has records
pub count_is : (c : Content) (g : Geometry) (clusters : ℕ) (v : Volume) → volume_of c g clusters ≡ Ok v → count_of v ≡ record_count v.table
unfolding files_of
count_is c g clusters v is =
    let parts = volume_parts c g clusters v is in
    let files = parts_of_files c g.per_cluster v.table v.files parts.files in
    ap length files.2 ∙ length-map-range_with_len (joined_file c g.per_cluster (table_by c g.per_cluster v.table) (record_count v.table)) 0 (record_count v.table)

-- ---- extents that go on

none_below_none : (t : Bool) (x : ℕ) → (t && ltb x 0) ≡ false
none_below_none t x = ap (λ (u : Bool). t && u) (le-ltb x 0 (omega arith)) ∙ and-false t

none_inside : (x : ℕ) → is_inside_block FileRec 0 x ≡ false
none_inside x = none_below_none (not (eqb (x % 2) 0)) (x / 2)

-- no block below none is cut
none_cut : (per : ℕ) (runs : List Run) → has_cut_block per FileRec 0 runs ≡ false
unfolding has_cut_block
none_cut per [] = refl
none_cut per (r ∷ runs) =
    or_from (cuts_block per FileRec 0 r) (has_cut_block per FileRec 0 runs)
    (or_from (is_inside_block FileRec 0 (r.vcn * per)) (is_inside_block FileRec 0 ((r.vcn + r.len) * per)) (none_inside (r.vcn * per)) (none_inside ((r.vcn + r.len) * per)))
    (none_cut per runs)

cut_nowhere : (per : ℕ) (e : Extents) (c : Content) → ((m : ℕ) → m < record_count e → rule_at c per e m ≡ None) → (count : ℕ) → record_count e ≡ count → has_cut_block per FileRec count e.runs ≡ false
unfolding rule_at breaks_9
cut_nowhere per e c lawful zero is = none_cut per e.runs
cut_nowhere per e c lawful (suc n) is =
    let p = table_by c per e in
    let parts = rule_parts (broken_rule (table_slot c per e 0)) (breaks_9 c per e p (record_count e) 0) (breaks_10 c per p 0) (lawful 0 (omega (arith, is))) in
    sym (ap (λ (k : ℕ). has_cut_block per FileRec k e.runs) is) ∙ (or_parts (has_cut_block per FileRec (record_count e) e.runs) (cuts_index per (joined_file c per p (record_count e) 0)) parts.1).0

pub goes_on_itself : (c : Content) (g : Geometry) (clusters : ℕ) (v : Volume) → volume_of c g clusters ≡ Ok v → TableGoesOn v.per v.table v.table
goes_on_itself c g clusters v is =
    let parts = volume_parts c g clusters v is in
    let files = parts_of_files c v.per v.table v.files (sym (ap (λ (per : ℕ). files_in c per v.table) parts.per) ∙ parts.files) in
    record { count = omega arith; places = λ m below. refl; begun = λ m below. refl; uncut = cut_nowhere v.per v.table c files.1 (record_count v.table) refl }

pub goes_on_whole : (per : ℕ) (e f : Extents) → e.initialised ≡ e.real → f.initialised ≡ f.real → e.real ≤ f.real → ((m : ℕ) → m < record_count e → block_at per f.runs FileRec m ≡ block_at per e.runs FileRec m) → has_cut_block per FileRec (record_count f) f.runs ≡ false → TableGoesOn per e f
goes_on_whole per e f old new size places uncut = record {
  count = omega (arith, size);
  places = places;
  begun = λ m below. lt-leb f.initialised (1024 * m) (omega (arith, below, new, size)) ∙ sym (lt-leb e.initialised (1024 * m) (omega (arith, below, old)));
  uncut = uncut;
}

-- where the table stays
pub rewrites_in_place : (c : Content) (writes : List Write) (g : Geometry) (clusters : ℕ) (v : Volume) (touched : ℕ → Bool) → volume_of c g clusters ≡ Ok v → ((m : ℕ) → m < record_count v.table → touched m ≡ false → LeavesRecord writes v.per v.table m)
    → ((m : ℕ) (r : Record) → touched m ≡ false → base_record c v.per v.table m ≡ Some r → LeavesBytes writes v.per (list_stream r) × (names_one touched (entries_of c v.per r).entries ≡ false))
    → ((m : ℕ) → m < record_count v.table → touched m ≡ true → StandsAlone v.per (table_slot (overlay c writes) v.per v.table m)) → RewritesRecords c writes v.per v.table v.table touched
rewrites_in_place c writes g clusters v touched is others lists alone = record {
  grows = goes_on_itself c g clusters v is;
  others = others;
  lists = λ m r other base. (lists m r other base).0;
  unnamed = λ m r other base. (lists m r other base).1;
  alone = alone;
  fresh = λ m past below. absurd (omega (arith, past, below));
}

-- ---- blank records

blank_slot : (body : Body) → IsBlank body → slot_of body ≡ Free
unfolding slot_of
blank_slot body blank = rw (blank.whole, blank.unsigned) refl

free_or_there : (t : Bool) (x : Slot) → x ≡ Free → cond t Free x ≡ Free
free_or_there true x is = refl
free_or_there false x is = is

blank_at : (d : Content) (o : Option Block) → ((b : Block) → o ≡ Some b → IsBlank (d b)) → slot_at d o ≡ Free
blank_at d None blank = refl
blank_at d (Some b) blank = blank_slot (d b) (blank b refl)

pub blank_free : (d : Content) (per : ℕ) (f : Extents) (m : ℕ) → ((b : Block) → block_at per f.runs FileRec m ≡ Some b → IsBlank (d b)) → table_slot d per f m ≡ Free
unfolding table_slot
blank_free d per f m blank = free_or_there (leb f.initialised (1024 * m)) (slot_at d (block_at per f.runs FileRec m)) (blank_at d (block_at per f.runs FileRec m) blank)

unsigned_in : (d : Content) (o : Option Block) → ((b : Block) → o ≡ Some b → IsBlank (d b)) → is_signed FileRec (block_bytes d o) ≡ false
unsigned_in d None blank = refl
unsigned_in d (Some b) blank = (blank b refl).unsigned

unsigned_part : (d : Content) (t : Bool) (o : Option Block) → is_signed FileRec (block_bytes d o) ≡ false → is_signed FileRec (block_bytes d (cond t None o)) ≡ false
unsigned_part d true o is = refl
unsigned_part d false o is = is

pub blank_unsigned : (d : Content) (v : Volume) (m : ℕ) → ((b : Block) → block_at v.per v.table.runs FileRec m ≡ Some b → IsBlank (d b)) → is_signed FileRec (record_bytes d v m) ≡ false
unfolding record_bytes record_block
blank_unsigned d v m blank = unsigned_part d (leb v.table.initialised (1024 * m)) (block_at v.per v.table.runs FileRec m) (unsigned_in d (block_at v.per v.table.runs FileRec m) blank)

pub zeros_blank : (n : ℕ) → IsBlank (record { bytes = zeros n; torn = false })
unfolding zeros
zeros_blank zero = record { whole = refl; unsigned = refl }
zeros_blank (suc n) = record { whole = refl; unsigned = refl }

-- ---- the files by number

pub none_behind : (count : ℕ) (files : List (Option Record)) (m : ℕ) → length files ≤ m → table_in (filled_up count files) m ≡ None
none_behind count files m past =
    get_or-append_right files (replicate (count - length files) None) (length files) m None refl past
    ∙ elim (cases_lt (m - length files) (count - length files)) [
      | inl within ↦ get_or-replicate (count - length files) (m - length files) None None within
      | inr behind ↦ get_or_past (replicate (count - length files) None) (m - length files) None (omega (arith, behind, length-replicate {A = Option Record} (count - length files) None))
    ]

-- files that are as many, and the changed ones at each number, are the changed files
changed_by_number : (d : Content) (v : Volume) (f : Extents) (touched : ℕ → Bool) (files : List (Option Record)) → length files ≡ count_of v → count_of v ≤ record_count f → ((m : ℕ) → m < count_of v → changed_file d v f touched m ≡ table_in files m)
    → ((m : ℕ) → count_of v ≤ m → touched m ≡ false) → changed_volume d v f touched ≡ with_table v f (filled_up (record_count f) files)
changed_by_number d v f touched files count grows each untouched =
    let new = changed_file d v f touched in
    let size = length-map-range_with_len new 0 (record_count f) in
    let more = record_count f - length files in
    let filled : length (filled_up (record_count f) files) ≡ record_count f = length-append files (replicate more None) ∙ omega (arith, count, grows, length-replicate {A = Option Record} more None) in
    ap (with_table v f) (same_list None (filled_up (record_count f) files) (map new (range_with_len 0 (record_count f))) (size ∙ sym filled) (λ m. elim (cases_lt m (record_count f)) [
      | inl within ↦
          get_or-map-range_with_len new 0 (record_count f) m m None within (omega arith)
          ∙ elim (cases_lt m (count_of v)) [
            | inl below ↦ each m below ∙ sym (get_or_append_left files (replicate more None) None m (omega (arith, below, count)))
            | inr past ↦ ap (λ (t : Bool). cond t (new_file d (with_table v f v.files) m) (table_in v.files m)) (untouched m past) ∙ get_or_past v.files m None past ∙ sym (none_behind (record_count f) files m (omega (arith, count, past)))
          ]
      | inr past ↦ get_or_past (map new (range_with_len 0 (record_count f))) m None (omega (arith, size)) ∙ sym (get_or_past (filled_up (record_count f) files) m None (omega (arith, filled)))
    ]))

pub one_changed : (d : Content) (v : Volume) (f : Extents) (n : ℕ) → n < count_of v → count_of v ≤ record_count f → changed_volume d v f (λ m. eqb m n) ≡ with_table v f (filled_up (record_count f) (set v.files n (new_file d (with_table v f v.files) n)))
one_changed d v f n inside grows = changed_by_number d v f (λ m. eqb m n) (set v.files n (new_file d (with_table v f v.files) n)) (length-set v.files n (new_file d (with_table v f v.files) n)) grows (λ m within. elim (cases_Bool (eqb m n)) [
  | inl is ↦
      (let same : m ≡ n = eqb-true m n is in
      ap (λ (t : Bool). cond t (new_file d (with_table v f v.files) m) (table_in v.files m)) is
      ∙ ap (new_file d (with_table v f v.files)) same
      ∙ sym (ap (λ (k : ℕ). get_or (set v.files n (new_file d (with_table v f v.files) n)) k None) same ∙ get_or-set_same v.files n (new_file d (with_table v f v.files) n) None inside))
  | inr other ↦
      ap (λ (t : Bool). cond t (new_file d (with_table v f v.files) m) (table_in v.files m)) other
      ∙ sym (get_or-set_other v.files n m (new_file d (with_table v f v.files) n) None (eqb-false m n other))
]) (λ m past. ne_eqb m n (λ same. omega (arith, same, past, inside)))

-- the file at a number after edits, each of which puts in the new file of its number
at_edited : (new : ℕ → Option Record) (files : List (Option Record)) (edits : List FileEdit) (count m : ℕ) → length files ≡ count → AreEdits count edits → AllByRecursion (λ e. e.file ≡ new e.number) edits → cond (is_edited edits m) (new m) (table_in files m) ≡ table_in (with_edits edits files) m
at_edited new files [] count m size are puts = refl
at_edited new files (e ∷ edits) count m size are puts =
    let next = set files e.number e.file in
    elim (cases_Bool (eqb e.number m)) [
      | inl is ↦
          (let same : e.number ≡ m = eqb-true e.number m is in
          ap (λ (t : Bool). cond (t || is_edited edits m) (new m) (table_in files m)) is
          ∙ sym (ap new same)
          ∙ sym puts.0
          ∙ sym (get_or-set_same files e.number e.file None (omega (arith, are.0)))
          ∙ sym (other_file next edits e.number are.1)
          ∙ ap (table_in (with_edits edits next)) same)
      | inr other ↦
          ap (λ (t : Bool). cond (t || is_edited edits m) (new m) (table_in files m)) other
          ∙ ap (λ (o : Option Record). cond (is_edited edits m) (new m) o) (sym (get_or-set_other files e.number m e.file None (λ same. eqb-false e.number m other (sym same))))
          ∙ at_edited new next edits count m (length-set files e.number e.file ∙ size) are.2 puts.1
    ]

-- no edit is of a number from the count on
unedited : (edits : List FileEdit) (count m : ℕ) → AreEdits count edits → count ≤ m → is_edited edits m ≡ false
unedited [] count m are past = refl
unedited (e ∷ edits) count m are past = or_from _ _ (ne_eqb e.number m (λ same. omega (arith, same, past, are.0))) (unedited edits count m are.2 past)

pub edits_changed : (d : Content) (v : Volume) (f : Extents) (edits : List FileEdit) → AreEdits (count_of v) edits → count_of v ≤ record_count f → AllByRecursion (λ e. e.file ≡ new_file d (with_table v f v.files) e.number) edits
    → changed_volume d v f (is_edited edits) ≡ with_table v f (filled_up (record_count f) (with_edits edits v.files))
edits_changed d v f edits are grows puts = changed_by_number d v f (is_edited edits) (with_edits edits v.files) (length-with_edits v.files edits) grows (λ m within. at_edited (new_file d (with_table v f v.files)) v.files edits (count_of v) m refl are puts) (λ m past. unedited edits (count_of v) m are past)

pub unfilled : (count : ℕ) (files : List (Option Record)) → length files ≡ count → filled_up count files ≡ files
unfilled count files size =
    let none : count - length files ≡ 0 = omega (arith, size) in
    ap (λ (n : ℕ). files ++ replicate n None) none ∙ append-nil files

pub edits_in_place : (d : Content) (v : Volume) (edits : List FileEdit) → count_of v ≡ record_count v.table → AreEdits (count_of v) edits → AllByRecursion (λ e. e.file ≡ new_file d v e.number) edits → changed_volume d v v.table (is_edited edits) ≡ with_files v (with_edits edits v.files)
edits_in_place d v edits count are puts =
    edits_changed d v v.table edits are (omega (arith, count)) puts
    ∙ ap (with_files v) (unfilled (record_count v.table) (with_edits edits v.files) (length-with_edits v.files edits ∙ count))
