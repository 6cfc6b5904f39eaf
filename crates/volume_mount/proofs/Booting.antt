-- The test of the first cluster is passed exactly where the boot sector is kept.
use Rattle.std.proofs.Common.{◌≡◌, ◌≢◌, ℕ, zero, suc, ◌+◌, ◌-◌, ◌≤◌, ◌<◌, Bool, true, false, not, cond, ◌&&◌, ◌||◌, eqb, List, [], ◌∷◌, get_or, Option, Some, None, Ok, refl, sym, ap, ap₂, ◌∙◌, inl, inr, arith}
use Rattle.std.specs.Prelude.{◌⊎◌, nat_eq, count_by}
use Rattle.std.specs.List.{list_any, filter, range_with_len}
use Rattle.std.specs.Cmp.Lexicographic.{pointwise}
use Rattle.std.proofs.lemmas.Bool.{cases_lt, and_parts, and_from, or_parts, eqb-true, eq-eqb}
use Rattle.std.proofs.lemmas.List.Sums.{sum_by-cons}
use Rattle.host_base.specs.Answers.{◌>>=◌, needs}
use Rattle.disk_model.specs.Content.{Content}
use Rattle.state_model.specs.record_model.declared.attribute.Attr.{Attr}
use Rattle.state_model.specs.record_model.declared.runs.Run.{Run}
use Rattle.state_model.specs.record_model.Constants.{data_type}
use Rattle.state_model.specs.record_model.Records.{Record}
use Rattle.state_model.proofs.record_model.Answering.{steps_from_ok}
use Rattle.bit_set.specs.Bits.{bit}
use Rattle.state_model.specs.declared.stream.Stream.{Stream}
use Rattle.state_model.specs.Files.{only_base, file_at}
use Rattle.state_model.specs.Streams.{is_attribute_of, sorted_into, attributes_of, joined, stream_of}
use Rattle.volume_state.specs.volume_model.Volumes.{Volume, file_in, file_stream, count_of, cluster_bits}
use Rattle.volume_state.specs.volume_model.Owners.{covers, uses}
use Rattle.volume_shadows.specs.stream_laws.Sharing.{StreamKey, stream_at, runs_in}
use Rattle.volume_shadows.proofs.stream_laws.Sharing.{attribute_kind}
use Rattle.volume_shadows.proofs.stream_laws.Tabling.{inside_list}
use Rattle.image_read.specs.image_open.declared.refusal.Refusal.TheVariants.{BadVolume}
use Rattle.volume_mount.specs.Boot.{boot_key, KeepsBoot, has_first, is_boot_data, takes_first, file_takes_first, is_taken, keeps_boot, BootIsTried}

-- ---- numbers from one on

-- a test that holds of one of so many, by the first of them
pub any_here : (test : ℕ → Bool) (n count : ℕ) (here : Bool) → n < count → here ≡ test n → list_any test (range_with_len n (count - n)) ≡ (here || list_any test (range_with_len (n + 1) (count - (n + 1))))
any_here test n count here lt is =
    let some : count - n ≡ suc (count - (n + 1)) = omega (arith, lt) in
    ap (λ (k : ℕ). list_any test (range_with_len n k)) some ∙ ap (λ (b : Bool). b || list_any test (range_with_len (n + 1) (count - (n + 1)))) (sym is)

pub any_end : (test : ℕ → Bool) (n count : ℕ) → count ≤ n → list_any test (range_with_len n (count - n)) ≡ false
any_end test n count le = (let none : count - n ≡ 0 = omega (arith, le) in ap (λ (k : ℕ). list_any test (range_with_len n k)) none)

-- where it doesn't hold of this one, the rest has the answer
pub any_passed : (test : ℕ → Bool) (n count : ℕ) (here answer : Bool) → n < count → here ≡ test n → here ≡ false → list_any test (range_with_len n (count - n)) ≡ answer → list_any test (range_with_len (n + 1) (count - (n + 1))) ≡ answer
any_passed test n count here answer lt is no_more left = sym (any_here test n count here lt is ∙ ap (λ (b : Bool). b || list_any test (range_with_len (n + 1) (count - (n + 1)))) no_more) ∙ left

none_at : (test : ℕ → Bool) (a n i : ℕ) → list_any test (range_with_len a n) ≡ false → a ≤ i → i < a + n → test i ≡ false
none_at test a zero i none low high = absurd (omega (arith, low, high))
none_at test a (suc n) i none low high =
    let parts = or_parts (test a) (list_any test (range_with_len (a + 1) n)) none in
    elim (cases_lt a i) [
      | inl behind ↦ none_at test (a + 1) n i parts.1 (omega (arith, behind)) (omega (arith, high))
      | inr here ↦ (let same : i ≡ a = omega (arith, low, here) in ap test same ∙ parts.0)
    ]

none_passes : {X : Type 0} (test : X → Bool) (xs : List X) → ((x : X) → test x ≡ false) → list_any test xs ≡ false
none_passes test [] each = refl
none_passes test (x ∷ xs) each = ap₂ (λ (s t : Bool). s || t) (each x) (none_passes test xs each)

-- ---- a stream has the first cluster where its runs use it

abbrev one_if : Bool → ℕ
one_if t = cond t 1 0

count_next : (q : Run → Bool) (r : Run) (runs : List Run) → count_by q (r ∷ runs) ≡ one_if (q r) + count_by q runs
count_next q r runs = sum_by-cons (λ (y : Run). one_if (q y)) r runs

-- none passes a test exactly where none is counted
none_counted : (q : Run → Bool) (runs : List Run) → list_any q runs ≡ false → count_by q runs ≡ 0
none_counted q [] none = refl
none_counted q (r ∷ runs) none =
    let parts = or_parts (q r) (list_any q runs) none in
    let here : one_if (q r) ≡ 0 = ap one_if parts.0 in
    omega (arith, count_next q r runs, here, none_counted q runs parts.1)

counted_none : (q : Run → Bool) (runs : List Run) → count_by q runs ≡ 0 → list_any q runs ≡ false
counted_none q [] none = refl
counted_none q (r ∷ runs) none = by (q r) refl (λ rest. counted_none q runs rest)
  where
    by : (t : Bool) → q r ≡ t → (count_by q runs ≡ 0 → list_any q runs ≡ false) → (q r || list_any q runs) ≡ false
    by true is later = (let one : one_if (q r) ≡ 1 = ap one_if is in absurd (omega (arith, none, one, count_next q r runs)))
    by false is later = ap (λ (t : Bool). t || list_any q runs) is ∙ later (omega (arith, none, count_next q r runs))

no_use : (s : Option Stream) → has_first s ≡ false → uses (runs_in s) 0 ≡ 0
unfolding uses
no_use s none = none_counted (covers 0) (runs_in s) none

no_first : (s : Option Stream) → uses (runs_in s) 0 ≡ 0 → has_first s ≡ false
unfolding uses
no_first s none = counted_none (covers 0) (runs_in s) none

-- ---- which stream it is

key : ℕ → ℕ → List ℕ → StreamKey
key n kind name = record { file = n; kind = kind; name = name }

-- an attribute of this stream isn't one of $Boot's data, where the stream is another one
other_data : (n kind : ℕ) (name : List ℕ) (a : Attr) → key n kind name ≢ boot_key → is_attribute_of kind name a ≡ true → is_boot_data n a ≡ false
unfolding key
other_data n kind name a other is = by (is_boot_data n a) refl
  where
    by : (t : Bool) → is_boot_data n a ≡ t → is_boot_data n a ≡ false
    by false e = e
    by true e =
        let parts = and_parts (eqb n 7) (is_attribute_of data_type [] a) e in
        let boot = attribute_kind data_type [] a parts.1 in
        let its = attribute_kind kind name a is in
        let file : n ≡ 7 = eqb-true n 7 parts.0 in
        let type : kind ≡ data_type = sym its.0 ∙ boot.0 in
        let alias : name ≡ [] = sym its.1 ∙ boot.1 in
        absurd (other (ap (λ (x : ℕ). key x kind name) file ∙ ap (λ (x : ℕ). key 7 x name) type ∙ ap (λ (l : List ℕ). key 7 data_type l) alias))

is_data : (a : Attr) → a.head.kind ≡ data_type → a.name ≡ [] → is_attribute_of data_type [] a ≡ true
unfolding is_attribute_of
is_data a type alias = and_from (eqb a.head.kind data_type) (pointwise nat_eq a.name []) (eq-eqb a.head.kind data_type type) (ap (λ (l : List ℕ). pointwise nat_eq l []) alias)

-- and the other way round
other_key : (n : ℕ) (a : Attr) → is_boot_data n a ≡ false → key n a.head.kind a.name ≢ boot_key
unfolding key
other_key n a none same =
    let file : n ≡ 7 = ap (λ (s : StreamKey). s.file) same in
    let type : a.head.kind ≡ data_type = ap (λ (s : StreamKey). s.kind) same in
    let alias : a.name ≡ [] = ap (λ (s : StreamKey). s.name) same in
    clash (sym none ∙ and_from (eqb n 7) (is_attribute_of data_type [] a) (eq-eqb n 7 file) (is_data a type alias))
  where
    clash : false ≡ true → ⊥
    clash e = cc

-- ---- the streams of a file

not_taking : (n : ℕ) (attrs : List Attr) (a : Attr) → is_boot_data n a ≡ false → takes_first n attrs a ≡ false → has_first (stream_of a.head.kind a.name attrs) ≡ false
unfolding takes_first
not_taking n attrs a other none = sym (ap (λ (t : Bool). not t && has_first (stream_of a.head.kind a.name attrs)) other) ∙ none

-- among some of a file's attributes none is of the stream, or it hasn't the first cluster
none_or_free : (n kind : ℕ) (name : List ℕ) (all attrs : List Attr) → key n kind name ≢ boot_key → list_any (takes_first n all) attrs ≡ false → (filter (is_attribute_of kind name) attrs ≡ []) ⊎ (has_first (stream_of kind name all) ≡ false)
none_or_free n kind name all [] other none = inl refl
none_or_free n kind name all (a ∷ attrs) other none = by (is_attribute_of kind name a) refl (λ left. none_or_free n kind name all attrs other left)
  where
    parts : (takes_first n all a ≡ false) × (list_any (takes_first n all) attrs ≡ false)
    parts = or_parts (takes_first n all a) (list_any (takes_first n all) attrs) none

    rest : (filter (is_attribute_of kind name) attrs ≡ []) ⊎ (has_first (stream_of kind name all) ≡ false) → is_attribute_of kind name a ≡ false
        → (cond (is_attribute_of kind name a) (a ∷ filter (is_attribute_of kind name) attrs) (filter (is_attribute_of kind name) attrs) ≡ []) ⊎ (has_first (stream_of kind name all) ≡ false)
    rest (inl empty) is = inl (ap (λ (t : Bool). cond t (a ∷ filter (is_attribute_of kind name) attrs) (filter (is_attribute_of kind name) attrs)) is ∙ empty)
    rest (inr free) is = inr free

    by : (t : Bool) → is_attribute_of kind name a ≡ t → (list_any (takes_first n all) attrs ≡ false → (filter (is_attribute_of kind name) attrs ≡ []) ⊎ (has_first (stream_of kind name all) ≡ false))
        → (filter (is_attribute_of kind name) (a ∷ attrs) ≡ []) ⊎ (has_first (stream_of kind name all) ≡ false)
    by true is later =
        let its = attribute_kind kind name a is in
        let free = not_taking n all a (other_data n kind name a other is) parts.0 in
        inr (sym (ap (λ (k : ℕ). has_first (stream_of k a.name all)) its.0 ∙ ap (λ (l : List ℕ). has_first (stream_of kind l all)) its.1) ∙ free)
    by false is later = rest (later parts.1) is

no_stream : (kind : ℕ) (name : List ℕ) (attrs : List Attr) → filter (is_attribute_of kind name) attrs ≡ [] → has_first (stream_of kind name attrs) ≡ false
unfolding stream_of attributes_of
no_stream kind name attrs empty = ap (λ (l : List Attr). has_first (joined (sorted_into [] l))) empty

free_stream : (n kind : ℕ) (name : List ℕ) (o : Option Record) → key n kind name ≢ boot_key → file_takes_first n o ≡ false → has_first (file_stream kind name o) ≡ false
free_stream n kind name None other none = refl
free_stream n kind name (Some r) other none = by (none_or_free n kind name r.attrs r.attrs other none)
  where
    by : (filter (is_attribute_of kind name) r.attrs ≡ []) ⊎ (has_first (stream_of kind name r.attrs) ≡ false) → has_first (stream_of kind name r.attrs) ≡ false
    by (inl empty) = no_stream kind name r.attrs empty
    by (inr free) = free

free_file : (n : ℕ) (o : Option Record) → ((kind : ℕ) (name : List ℕ) → key n kind name ≢ boot_key → has_first (file_stream kind name o) ≡ false) → file_takes_first n o ≡ false
unfolding takes_first
free_file n None free = refl
free_file n (Some r) free = none_passes (takes_first n r.attrs) r.attrs each
  where
    each : (a : Attr) → (not (is_boot_data n a) && has_first (stream_of a.head.kind a.name r.attrs)) ≡ false
    each a = by (is_boot_data n a) refl
      where
        by : (t : Bool) → is_boot_data n a ≡ t → (not (is_boot_data n a) && has_first (stream_of a.head.kind a.name r.attrs)) ≡ false
        by true is = ap (λ (t : Bool). not t && has_first (stream_of a.head.kind a.name r.attrs)) is
        by false is = ap (λ (t : Bool). not t && has_first (stream_of a.head.kind a.name r.attrs)) is ∙ free a.head.kind a.name (other_key n a is)

-- ---- all files

none_based : (o : Option Record) → o ≡ None → only_base o ≡ None
none_based o none = ap only_base none

no_file : (v : Volume) (n : ℕ) → count_of v ≤ n → file_in v n ≡ None
unfolding file_at
no_file v n past = by (get_or v.files n None) refl
  where
    by : (o : Option Record) → get_or v.files n None ≡ o → only_base (get_or v.files n None) ≡ None
    by None is = none_based (get_or v.files n None) is
    by (Some r) is = (let within = inside_list v.files n r is in absurd (omega (arith, past, within)))

free_of : (v : Volume) → is_taken v ≡ false → (n : ℕ) → file_takes_first n (file_in v n) ≡ false
free_of v none n = elim (cases_lt n (count_of v)) [
  | inl within ↦ none_at (λ k. file_takes_first k (file_in v k)) 0 (count_of v) n none (omega arith) (omega (arith, within))
  | inr past ↦ ap (file_takes_first n) (no_file v n past)
]

untaken : (v : Volume) → ((t : StreamKey) → t ≢ boot_key → uses (runs_in (stream_at v t)) 0 ≡ 0) → is_taken v ≡ false
unfolding key
untaken v others = none_passes (λ n. file_takes_first n (file_in v n)) (range_with_len 0 (count_of v)) (λ n. free_file n (file_in v n) (λ kind name other. no_first (file_stream kind name (file_in v n)) (others (key n kind name) other)))

-- ---- the test

needed : {F : Type 0} (t : Bool) (r : F) (x : Unit {0}) → needs t r ≡ Ok x → t ≡ true
needed true r x e = refl
needed false r x e = absurd cc

not_so : (t : Bool) → not t ≡ true → t ≡ false
not_so true e = absurd cc
not_so false e = refl

pub passed : (c : Content) (v : Volume) → keeps_boot (cluster_bits c v) v ≡ Ok tt → KeepsBoot c v
unfolding keeps_boot key
passed c v is =
    let first = steps_from_ok (needs (not (is_taken v)) (BadVolume 5 0)) (λ _. needs (bit (cluster_bits c v) 0) (BadVolume 6 0)) tt is in
    let free : is_taken v ≡ false = not_so (is_taken v) (needed (not (is_taken v)) (BadVolume 5 0) first.0 first.1) in
    record {
      others = λ t other. no_use (stream_at v t) (free_stream t.file t.kind t.name (file_in v t.file) other (free_of v free t.file));
      marked = needed (bit (cluster_bits c v) 0) (BadVolume 6 0) tt first.2;
    }

pub passes : (c : Content) (v : Volume) → KeepsBoot c v → keeps_boot (cluster_bits c v) v ≡ Ok tt
unfolding keeps_boot
passes c v keeps =
    ap (λ (t : Bool). needs (not t) (BadVolume 5 0) >>= λ _. needs (bit (cluster_bits c v) 0) (BadVolume 6 0)) (untaken v keeps.others)
    ∙ ap (λ (t : Bool). needs t (BadVolume 6 0)) keeps.marked

pub is_tried : BootIsTried
is_tried = record { passed = passed; passes = passes }
