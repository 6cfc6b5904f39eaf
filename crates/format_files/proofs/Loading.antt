-- The file table of a new volume is loaded as its records.
use Rattle.std.proofs.Common.{◌≡◌, ℕ, zero, suc, ◌+◌, ◌%◌, ◌<◌, ◌≤◌, inl, inr, Bool, true, false, cond, ltb, eqb, ◌&&◌, List, ◌∷◌, map, None, Result, Ok, refl, sym, ap, ◌∙◌, subst, arith}
use Rattle.std.specs.List.{range_with_len}
use Rattle.std.proofs.lemmas.Bool.{cases_lt, lt-ltb, le-ltb}
use Rattle.host_base.specs.Answers.{◌>>=◌, needs}
use Rattle.record_model.specs.Records.{Record, record_at, shaped_at, has_lawful_values}
use Rattle.record_model.proofs.Answering.{steps_from_ok, needs_from_ok}
use Rattle.record_model.proofs.Shapes.{is_shaped}
use Rattle.record_model.specs.Constants.{names_index, index_allocation}
use Rattle.state_model.specs.Files.{is_base_record, is_directory_record}
use Rattle.state_model.specs.Streams.{is_attribute_of, attributes_of, stream_of, has_cut_block}
use Rattle.state_model.specs.Loads.{Free, Used, slot_in, is_used, slot_by, whole_record, has_all_pairs, list_stream, has_cut_index_block}
use Rattle.format_blocks.specs.volume_format.declared.layout.Layout.{Layout}
use Rattle.format_blocks.specs.volume_format.Layouts.{IsLayout}
use Rattle.format_blocks.specs.volume_format.Files.{is_directory, standard, name_attribute, system_attrs, system_data, other_streams, volume_streams, root_streams, extend_streams, system_record, reserved_record, spare_record, record_of}
use Rattle.format_blocks.specs.Blocks.{whole}
use Rattle.format_blocks.proofs.Naming.{of_twelve}
use Rattle.format_files.proofs.Streams.{root_blocks_are}

-- ---- steps

pub passes : {A F : Type 0} (test : Bool) (refusal : F) (next : Result A F) → test ≡ true → (needs test refusal >>= λ _. next) ≡ next
passes test refusal next is = ap (λ (b : Bool). needs b refusal >>= λ _. next) is

pub goes_on : {A B F : Type 0} (first : Result A F) (x : A) (next : A → Result B F) → first ≡ Ok x → (first >>= next) ≡ next x
goes_on first x next is = ap (λ (r : Result _ _). r >>= next) is

pub same_map : {X : Type 0} (f g : ℕ → X) (a n : ℕ) → ((i : ℕ) → a ≤ i → i < a + n → f i ≡ g i) → map f (range_with_len a n) ≡ map g (range_with_len a n)
same_map f g a zero each = refl
same_map {X} f g a (suc n) each =
    ap (λ (x : X). x ∷ map f (range_with_len (a + 1) n)) (each a (omega arith) (omega arith))
    ∙ ap (λ (l : List X). g a ∷ l) (same_map f g (a + 1) n (λ i low high. each i (omega arith) (omega arith)))

pub and_false : (b c : Bool) → c ≡ false → (b && c) ≡ false
and_false true c is = is
and_false false c is = refl

-- ---- one record

-- a record that is read has its shape, and lawful values
shape_of : (body : List ℕ) (r : Record) → record_at body ≡ Ok r → (shaped_at body ≡ Ok r) × (has_lawful_values r ≡ true)
shape_of body r read =
    let shape = steps_from_ok (shaped_at body) (λ r. needs (has_lawful_values r) 8 >>= λ _. Ok r) r (sym (is_shaped body) ∙ read) in
    let lawful = needs_from_ok (has_lawful_values shape.0) 8 (λ _. Ok shape.0) r shape.2 in
    let same : shape.0 ≡ r = cc in
    (shape.1 ∙ ap (λ (q : Record). Ok q) same, ap has_lawful_values (sym same) ∙ lawful.0)

-- and is read as a whole where its mapping pairs fit
pub whole_is : (body : List ℕ) (r : Record) → record_at body ≡ Ok r → has_all_pairs r ≡ true → whole_record body ≡ Ok r
unfolding whole_record
whole_is body r read pairs =
    let shape = shape_of body r read in
    goes_on (shaped_at body) r (λ q. needs (has_all_pairs q) 7 >>= λ _. needs (has_lawful_values q) 8 >>= λ _. Ok q) shape.0
    ∙ passes (has_all_pairs r) 7 (needs (has_lawful_values r) 8 >>= λ _. Ok r) pairs
    ∙ passes (has_lawful_values r) 8 (Ok r) shape.1

pub used_slot : (read : List ℕ → Result Record ℕ) (body : List ℕ) (r : Record) → is_used body ≡ true → read body ≡ Ok r → slot_by read (whole body) ≡ Used r
used_slot read body r used is = ap (λ (b : Bool). cond b (slot_in (read body)) Free) used ∙ ap slot_in is

pub free_slot : (read : List ℕ → Result Record ℕ) (body : List ℕ) → is_used body ≡ false → slot_by read (whole body) ≡ Free
free_slot read body used = ap (λ (b : Bool). cond b (slot_in (read body)) Free) used

-- ---- which record has a number

pub record_system : (v : Layout) (time n : ℕ) → n < 12 → record_of v time n ≡ system_record v time n
unfolding record_of
record_system v time n lt = ap (λ (b : Bool). cond b (system_record v time n) (cond (ltb n 16) (reserved_record time n) (spare_record n))) (lt-ltb n 12 lt)

pub record_reserved : (v : Layout) (time n : ℕ) → 12 ≤ n → n < 16 → record_of v time n ≡ reserved_record time n
unfolding record_of
record_reserved v time n le lt =
    ap (λ (b : Bool). cond b (system_record v time n) (cond (ltb n 16) (reserved_record time n) (spare_record n))) (le-ltb n 12 le)
    ∙ ap (λ (b : Bool). cond b (reserved_record time n) (spare_record n)) (lt-ltb n 16 lt)

pub record_spare : (v : Layout) (time n : ℕ) → 16 ≤ n → record_of v time n ≡ spare_record n
unfolding record_of
record_spare v time n le =
    ap (λ (b : Bool). cond b (system_record v time n) (cond (ltb n 16) (reserved_record time n) (spare_record n))) (le-ltb n 12 (omega arith))
    ∙ ap (λ (b : Bool). cond b (reserved_record time n) (spare_record n)) (le-ltb n 16 le)

-- what holds of each record in use
pub of_files : (P : Record → Type 0) (v : Layout) (time : ℕ) → ((n : ℕ) → n < 12 → P (system_record v time n)) → ((n : ℕ) → 12 ≤ n → n < 16 → P (reserved_record time n)) → (n : ℕ) → n < 16 → P (record_of v time n)
of_files P v time system reserved n lt = elim (cases_lt n 12) [
  | inl low ↦ subst P (sym (record_system v time n low)) (system n low)
  | inr high ↦ subst P (sym (record_reserved v time n high lt)) (reserved n high lt)
]

odd_flags : (directory : Bool) → eqb ((cond directory 3 1) % 2) 1 ≡ true
odd_flags true = refl
odd_flags false = refl

pub flags_set : (v : Layout) (time n : ℕ) → n < 16 → eqb ((record_of v time n).head.flags % 2) 1 ≡ true
unfolding system_record reserved_record
flags_set v time n lt = of_files (λ (r : Record). eqb (r.head.flags % 2) 1 ≡ true) v time (λ k low. odd_flags (is_directory k)) (λ k low high. refl) n lt

pub flags_clear : (v : Layout) (time n : ℕ) → 16 ≤ n → eqb ((record_of v time n).head.flags % 2) 1 ≡ false
flags_clear v time n le = ap (λ (r : Record). eqb (r.head.flags % 2) 1) (record_spare v time n le)

pub is_base : (v : Layout) (time n : ℕ) → n < 16 → is_base_record (record_of v time n) ≡ true
unfolding system_record reserved_record
is_base v time n lt = of_files (λ (r : Record). is_base_record r ≡ true) v time (λ k low. refl) (λ k low high. refl) n lt

pub no_list : (v : Layout) (time n : ℕ) → n < 16 → list_stream (record_of v time n) ≡ None
unfolding list_stream stream_of attributes_of is_attribute_of system_record system_attrs system_data other_streams standard name_attribute volume_streams root_streams extend_streams reserved_record
no_list v time n lt = of_files (λ (r : Record). list_stream r ≡ None) v time
    (λ k low. of_twelve (λ k. list_stream (system_record v time k) ≡ None) refl refl refl refl refl refl refl refl refl refl refl refl k low)
    (λ k low high. refl) n lt

-- no index block of a directory lies in two runs
abbrev pub uncut_index : Record → Bool
uncut_index r = is_directory_record r && has_cut_index_block 8 (stream_of index_allocation names_index r.attrs)

pub uncut : (v : Layout) → IsLayout v → (time n : ℕ) → n < 16 → uncut_index (record_of v time n) ≡ false
unfolding has_cut_block stream_of attributes_of is_attribute_of is_directory system_record system_attrs system_data other_streams standard name_attribute volume_streams root_streams extend_streams reserved_record
uncut v layout time n lt = of_files (λ (r : Record). uncut_index r ≡ false) v time
    (λ k low. of_twelve (λ k. uncut_index (system_record v time k) ≡ false) refl refl refl refl refl (ap (has_cut_index_block 8) (root_blocks_are v layout time)) refl refl refl refl refl refl k low)
    (λ k low high. refl) n lt
