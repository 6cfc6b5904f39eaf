-- The file table as a stream of its volume.
use Rattle.std.proofs.Common.{◌≡◌, ◌≢◌, ℕ, ◌*◌, ◌<◌, ◌≤◌, Bool, true, false, not, cond, eqb, leb, nat_eq, List, [], ◌∷◌, length, get_or, map, Option, Some, None, Result, Ok, Err, refl, sym, ap, subst, ◌∙◌, inl, inr, arith}
use Rattle.std.specs.Cmp.Lexicographic.{pointwise}
use Rattle.std.specs.List.{filter, list_all, list_any}
use Rattle.std.proofs.lemmas.Bool.{cases_lt, or_parts, and_left, le-leb}
use Rattle.std.proofs.lemmas.List.{get_or_past}
use Rattle.std.proofs.lemmas.List.FromFn.{length-map-range_with_len, get_or-map-range_with_len}
use Rattle.volume_model.specs.host_base.Answers.{◌>>=◌, needs}
use Rattle.volume_model.specs.disk_model.declared.block.Body.{Body}
use Rattle.volume_model.specs.disk_model.declared.block.BlockKind.TheVariants.{FileRec}
use Rattle.volume_model.specs.disk_model.Content.{Content}
use Rattle.volume_model.specs.record_model.declared.attribute.Attr.{Attr}
use Rattle.volume_model.specs.record_model.declared.record.RecHead.{RecHead}
use Rattle.volume_model.specs.record_model.declared.runs.Run.{Run}
use Rattle.volume_model.specs.record_model.Attributes.{is_inside, attr_of}
use Rattle.volume_model.specs.record_model.Values.{has_lawful_value}
use Rattle.volume_model.specs.record_model.Records.{Record, Pieces, cut, most_attributes, types_rise, has_first, has_size, attribute_bytes, rec_head_of, record_at, shaped_at, has_lawful_values}
use Rattle.volume_model.specs.record_model.Constants.{attribute_list, data_type}
use Rattle.volume_model.specs.state_model.declared.geometry.Geometry.{Geometry}
use Rattle.volume_model.specs.state_model.declared.geometry.MapRefusal.{MapRefusal}
use Rattle.volume_model.specs.state_model.declared.geometry.MapRefusal.TheVariants.{BadRecord, MftList, MftLarge}
use Rattle.volume_model.specs.state_model.declared.stream.Extents.{Extents}
use Rattle.volume_model.specs.state_model.declared.stream.Stream.{Stream}
use Rattle.volume_model.specs.state_model.declared.stream.Stream.TheVariants.{Held, Placed}
use Rattle.volume_model.specs.state_model.Files.{Table, file_at, only_base, is_base_record, has_type}
use Rattle.volume_model.specs.state_model.Streams.{is_attribute_of, sorted_into, attributes_of, joined, stream_of, block_at}
use Rattle.volume_model.specs.state_model.Loads.{Slot, Torn, Free, Broken, Used, is_used, slot_in, slot_by, slot_of, whole_record, has_all_pairs, boot_block, judged, data_stream, extents_or, record_count, most_records, table_extents, extents_in, table_of, slot_at, table_slot, used_record, records_of, table_in, list_stream, all_attrs, whole_file, joined_file, files_of, files_in}
use Rattle.volume_model.specs.Volumes.{Volume, file_in, file_stream, table_file}
use Rattle.volume_model.specs.Owners.{volume_runs}
use Rattle.stream_laws.specs.Places.{AreOnce, AreApart}
use Rattle.stream_laws.specs.Sharing.{StreamKey, stream_at, runs_in}
use Rattle.stream_laws.specs.Tables.{table_key, BeginsAtBoot}
use Rattle.stream_laws.proofs.Sharing.{stream_once, streams_apart}
use Rattle.stream_laws.proofs.Rewriting.{attrs_alone, parts_of_files, volume_parts}

-- ---- a record is read by two readers

shape_of_rest : (t e i l : Bool) (x r : Record) → (needs {F = ℕ} t 4 >>= λ _. needs {F = ℕ} e 5 >>= λ _. needs {F = ℕ} i 6 >>= λ _. needs {F = ℕ} l 8 >>= λ _. Ok x) ≡ Ok r → (needs {F = ℕ} t 4 >>= λ _. needs {F = ℕ} e 5 >>= λ _. needs {F = ℕ} i 6 >>= λ _. Ok x) ≡ Ok r
shape_of_rest false e i l x r is = absurd cc
shape_of_rest true false i l x r is = absurd cc
shape_of_rest true true false l x r is = absurd cc
shape_of_rest true true true false x r is = absurd cc
shape_of_rest true true true true x r is = is

shape_of_pieces : (head : RecHead) (read : Result Pieces ℕ) (r : Record)
    → (read >>= λ p. needs (types_rise p.pieces) 4 >>= λ _. needs p.ended 5 >>= λ _. needs (list_all is_inside p.pieces) 6 >>= λ _. needs (list_all has_lawful_value (map attr_of p.pieces)) 8 >>= λ _. Ok (record { head = head; attrs = map attr_of p.pieces })) ≡ Ok r
    → (read >>= λ p. needs (types_rise p.pieces) 4 >>= λ _. needs p.ended 5 >>= λ _. needs (list_all is_inside p.pieces) 6 >>= λ _. Ok (record { head = head; attrs = map attr_of p.pieces })) ≡ Ok r
shape_of_pieces head (Ok p) r is = shape_of_rest (types_rise p.pieces) p.ended (list_all is_inside p.pieces) (list_all has_lawful_value (map attr_of p.pieces)) (record { head = head; attrs = map attr_of p.pieces }) r is
shape_of_pieces head (Err rule) r is = absurd cc

behind_needs : (first size : Bool) (full part : Result Record ℕ) (r : Record) → (full ≡ Ok r → part ≡ Ok r) → (needs first 1 >>= λ _. needs size 2 >>= λ _. full) ≡ Ok r → (needs first 1 >>= λ _. needs size 2 >>= λ _. part) ≡ Ok r
behind_needs false size full part r step is = absurd cc
behind_needs true false full part r step is = absurd cc
behind_needs true true full part r step is = step is

-- a record that breaks no rule has its shape
shape_of_record : (body : List ℕ) (r : Record) → record_at body ≡ Ok r → shaped_at body ≡ Ok r
unfolding record_at shaped_at
shape_of_record body r is = behind_needs (has_first body) (has_size body) _ _ r (shape_of_pieces (rec_head_of body) (cut most_attributes (attribute_bytes body)) r) is

both_pass : (pairs lawful : Bool) (x r : Record) → (needs {F = ℕ} pairs 7 >>= λ _. needs {F = ℕ} lawful 8 >>= λ _. Ok x) ≡ Ok r → x ≡ r
both_pass false lawful x r is = absurd cc
both_pass true false x r is = absurd cc
both_pass true true x r is = cc

behind_shape : (shape : Result Record ℕ) (pairs lawful : Record → Bool) (r : Record) → (shape >>= λ x. needs {F = ℕ} (pairs x) 7 >>= λ _. needs {F = ℕ} (lawful x) 8 >>= λ _. Ok x) ≡ Ok r → shape ≡ Ok r
behind_shape (Err rule) pairs lawful r is = absurd cc
behind_shape (Ok x) pairs lawful r is = let same = both_pass (pairs x) (lawful x) x r is in ap (λ (y : Record). Ok y) same

shape_of_whole : (body : List ℕ) (r : Record) → whole_record body ≡ Ok r → shaped_at body ≡ Ok r
unfolding whole_record
shape_of_whole body r is = behind_shape (shaped_at body) has_all_pairs has_lawful_values r is

-- ---- a record that breaks no rule is read by both

record_of_rest : (t e i l : Bool) (x r : Record) → (x ≡ r → l ≡ true) → (needs {F = ℕ} t 4 >>= λ _. needs {F = ℕ} e 5 >>= λ _. needs {F = ℕ} i 6 >>= λ _. Ok x) ≡ Ok r → (needs {F = ℕ} t 4 >>= λ _. needs {F = ℕ} e 5 >>= λ _. needs {F = ℕ} i 6 >>= λ _. needs {F = ℕ} l 8 >>= λ _. Ok x) ≡ Ok r
record_of_rest false e i l x r lawful is = absurd cc
record_of_rest true false i l x r lawful is = absurd cc
record_of_rest true true false l x r lawful is = absurd cc
record_of_rest true true true l x r lawful is =
    let same : x ≡ r = cc in
    rw (lawful same) is

record_of_pieces : (head : RecHead) (read : Result Pieces ℕ) (r : Record) → list_all has_lawful_value r.attrs ≡ true
    → (read >>= λ p. needs (types_rise p.pieces) 4 >>= λ _. needs p.ended 5 >>= λ _. needs (list_all is_inside p.pieces) 6 >>= λ _. Ok (record { head = head; attrs = map attr_of p.pieces })) ≡ Ok r
    → (read >>= λ p. needs (types_rise p.pieces) 4 >>= λ _. needs p.ended 5 >>= λ _. needs (list_all is_inside p.pieces) 6 >>= λ _. needs (list_all has_lawful_value (map attr_of p.pieces)) 8 >>= λ _. Ok (record { head = head; attrs = map attr_of p.pieces })) ≡ Ok r
record_of_pieces head (Ok p) r lawful is =
    let read : Record = record { head = head; attrs = map attr_of p.pieces } in
    record_of_rest (types_rise p.pieces) p.ended (list_all is_inside p.pieces) (list_all has_lawful_value (map attr_of p.pieces)) read r (λ same. ap (λ (k : Record). list_all has_lawful_value k.attrs) same ∙ lawful) is
record_of_pieces head (Err rule) r lawful is = absurd cc

record_of_shape : (body : List ℕ) (r : Record) → shaped_at body ≡ Ok r → has_lawful_values r ≡ true → record_at body ≡ Ok r
unfolding record_at shaped_at has_lawful_values
record_of_shape body r is lawful = behind_needs (has_first body) (has_size body) _ _ r (record_of_pieces (rec_head_of body) (cut most_attributes (attribute_bytes body)) r lawful) is

passes : (pairs lawful : Bool) (x r : Record) → (needs {F = ℕ} pairs 7 >>= λ _. needs {F = ℕ} lawful 8 >>= λ _. Ok x) ≡ Ok r → (pairs ≡ true) × (lawful ≡ true) × (x ≡ r)
passes false lawful x r is = absurd cc
passes true false x r is = absurd cc
passes true true x r is = (refl, refl, cc)

passes_whole : (shape : Result Record ℕ) (pairs lawful : Record → Bool) (r : Record) → (shape >>= λ x. needs {F = ℕ} (pairs x) 7 >>= λ _. needs {F = ℕ} (lawful x) 8 >>= λ _. Ok x) ≡ Ok r → (pairs r ≡ true) × (lawful r ≡ true)
passes_whole (Err rule) pairs lawful r is = absurd cc
passes_whole (Ok x) pairs lawful r is = let parts = passes (pairs x) (lawful x) x r is in (sym (ap pairs parts.2) ∙ parts.0, sym (ap lawful parts.2) ∙ parts.1)

rules_of_whole : (body : List ℕ) (r : Record) → whole_record body ≡ Ok r → (has_all_pairs r ≡ true) × (has_lawful_values r ≡ true)
unfolding whole_record
rules_of_whole body r is = passes_whole (shaped_at body) has_all_pairs has_lawful_values r is

-- ---- the record in the boot sector's block

-- a slot in use is read from a body that is whole and in use
pub read_in_use : (torn used : Bool) (read : Result Record ℕ) (r : Record) → cond torn Torn (cond used (slot_in read) Free) ≡ Used r → (torn ≡ false) × (used ≡ true) × (read ≡ Ok r)
read_in_use true used read r is = absurd cc
read_in_use false false read r is = absurd cc
read_in_use false true (Ok x) r is = (refl, refl, cc)
read_in_use false true (Err rule) r is = absurd cc

judged_record : (torn used : Bool) (read : Result Record ℕ) (e : Extents) → torn ≡ false → used ≡ true → (judged 0 (cond torn Torn (cond used (slot_in read) Free)) >>= extents_in) ≡ Ok e → (r : Record) × (read ≡ Ok r) × (extents_in (Some r) ≡ Ok e)
judged_record true used read e whole in_use is = absurd cc
judged_record false false read e whole in_use is = absurd cc
judged_record false true (Ok r) e whole in_use is = (r, refl, is)
judged_record false true (Err rule) e whole in_use is = absurd cc

no_list : (listed few fit : Bool) (x e : Extents) (large : MapRefusal) → (needs (not listed) MftList >>= λ _. needs few large >>= λ _. needs fit (BadRecord 0 7) >>= λ _. Ok x) ≡ Ok e → (listed ≡ false) × (x ≡ e)
no_list true few fit x e large is = absurd cc
no_list false false fit x e large is = absurd cc
no_list false true false x e large is = absurd cc
no_list false true true x e large is = (refl, cc)

table_record : (r : Record) (e : Extents) → extents_in (Some r) ≡ Ok e → (has_type attribute_list r ≡ false) × (table_extents r ≡ e)
unfolding extents_in
table_record r e is = no_list (has_type attribute_list r) (leb (record_count (table_extents r)) most_records) (has_all_pairs r) (table_extents r) e (MftLarge (record_count (table_extents r))) is

-- ---- no attribute list

no_attributes : (kind : ℕ) (name : List ℕ) (attrs : List Attr) → list_any (λ (a : Attr). eqb a.head.kind kind) attrs ≡ false → filter (is_attribute_of kind name) attrs ≡ []
unfolding is_attribute_of
no_attributes kind name [] has = refl
no_attributes kind name (a ∷ attrs) has =
    let parts = or_parts (eqb a.head.kind kind) (list_any (λ (b : Attr). eqb b.head.kind kind) attrs) has in
    rw (and_left (eqb a.head.kind kind) (pointwise nat_eq a.name name) parts.0) (no_attributes kind name attrs parts.1)

pub no_list_stream : (r : Record) → has_type attribute_list r ≡ false → list_stream r ≡ None
unfolding has_type list_stream stream_of attributes_of
no_list_stream r has = ap (λ (l : List Attr). joined (sorted_into [] l)) (no_attributes attribute_list _ r.attrs has)

-- ---- the first file

pub only_base_some : (o : Option Record) (f : Record) → only_base o ≡ Some f → o ≡ Some f
only_base_some None f is = absurd cc
only_base_some (Some r) f is = passed (is_base_record r) is
  where
    passed : (t : Bool) → cond t (Some r) None ≡ Some f → Some r ≡ Some f
    passed true e = e
    passed false e = absurd cc

pub used_some : (x : Slot) (r : Record) → used_record x ≡ Some r → x ≡ Used r
used_some Torn r is = absurd cc
used_some Free r is = absurd cc
used_some (Broken rule) r is = absurd cc
used_some (Used q) r is = let same : q ≡ r = cc in ap (λ (k : Record). Used k) same

pub whole_some : (c : Content) (per : ℕ) (p : Table) (count n : ℕ) (o : Option Record) (f : Record) → whole_file c per p count n o ≡ Some f → (r : Record) × (o ≡ Some r) × (f.attrs ≡ all_attrs c per p count n r)
whole_some c per p count n None f is = absurd cc
whole_some c per p count n (Some r) f is = (r, refl, attrs_of (sym is))
  where
    attrs_of : Some f ≡ Some (record { head = r.head; attrs = all_attrs c per p count n r }) → f.attrs ≡ all_attrs c per p count n r
    attrs_of e = let same : f ≡ record { head = r.head; attrs = all_attrs c per p count n r } = cc in ap (λ (k : Record). k.attrs) same

-- an element that there is stands inside the list
pub inside_list : (files : List (Option Record)) (n : ℕ) (f : Record) → get_or files n None ≡ Some f → n < length files
inside_list files n f is = elim (cases_lt n (length files)) [
  | inl within ↦ within
  | inr past ↦ absurd (clash (sym (get_or_past files n None past) ∙ is))
]
  where
    clash : None ≡ Some f → ⊥
    clash e = cc

pub used_part : (initialised at : ℕ) (x : Slot) (r : Record) → cond (leb initialised at) Free x ≡ Used r → x ≡ Used r
used_part initialised at x r is = passed (leb initialised at) is
  where
    passed : (t : Bool) → cond t Free x ≡ Used r → x ≡ Used r
    passed true e = absurd cc
    passed false e = e

-- the record of file 0, which has the file's attributes where it has no attribute list
pub record FirstRecord (c : Content) (v : Volume) (f : Record) : Type 0 where
  pub base : Record
  pub slot : table_slot c v.per v.table 0 ≡ Used base
  pub attrs : f.attrs ≡ all_attrs c v.per (table_in (records_of (table_slot c v.per v.table) (record_count v.table))) (record_count v.table) 0 base

pub first_record : (c : Content) (v : Volume) (f : Record) → v.files ≡ files_of c v.per (table_in (records_of (table_slot c v.per v.table) (record_count v.table))) (record_count v.table) → file_in v table_file ≡ Some f → FirstRecord c v f
unfolding files_of records_of file_at joined_file
first_record c v f are is =
    let e = v.table in
    let count = record_count e in
    let pieces : ℕ → Option Record = λ n. used_record (table_slot c v.per e n) in
    let p = table_in (records_of (table_slot c v.per e) count) in
    let there : get_or v.files 0 None ≡ Some f = only_base_some (table_in v.files 0) f is in
    let within : 0 < length v.files = inside_list v.files 0 f there in
    let size : length v.files ≡ count = ap length are ∙ length-map-range_with_len (joined_file c v.per p count) 0 count in
    let below : 0 < count = omega arith in
    let file : joined_file c v.per p count 0 ≡ Some f = sym (ap (λ (l : List (Option Record)). get_or l 0 None) are ∙ get_or-map-range_with_len (joined_file c v.per p count) 0 count 0 0 None below (omega arith)) ∙ there in
    let whole = whole_some c v.per p count 0 (file_at p 0) f file in
    let held : p 0 ≡ Some whole.0 = only_base_some (p 0) whole.0 whole.1 in
    let read : used_record (table_slot c v.per e 0) ≡ Some whole.0 = sym (get_or-map-range_with_len pieces 0 count 0 0 None below (omega arith)) ∙ held in
    record { base = whole.0; slot = used_some (table_slot c v.per e 0) whole.0 read; attrs = whole.2 }

-- ---- the extents

pub in_boot_block : (c : Content) (g : Geometry) (v : Volume) (r : Record) → block_at v.per v.table.runs FileRec 0 ≡ Some (boot_block g 0) → table_slot c v.per v.table 0 ≡ Used r → slot_of (c (boot_block g 0)) ≡ Used r
unfolding table_slot
in_boot_block c g v r first is = sym (ap (slot_at c) first) ∙ used_part v.table.initialised (1024 * 0) (slot_at c (block_at v.per v.table.runs FileRec 0)) r is

one_answer : (read : Result Record ℕ) (x y : Record) → read ≡ Ok x → read ≡ Ok y → x ≡ y
one_answer read x y first second = cc

-- both readers give the same record of one body, and so the extents are those of its data
pub of_body : (body : Body) (r : Record) (e : Extents) → slot_of body ≡ Used r → (judged 0 (slot_by record_at body) >>= extents_in) ≡ Ok e → (has_type attribute_list r ≡ false) × (table_extents r ≡ e)
unfolding slot_of
of_body body r e slot table =
    let read = read_in_use body.torn (is_used body.bytes) (whole_record body.bytes) r slot in
    let judgement = judged_record body.torn (is_used body.bytes) (record_at body.bytes) e read.0 read.1 table in
    let found = table_record judgement.0 e judgement.2 in
    let same : judgement.0 ≡ r = one_answer (shaped_at body.bytes) judgement.0 r (shape_of_record body.bytes judgement.0 judgement.1) (shape_of_whole body.bytes r read.2) in
    (sym (ap (has_type attribute_list) same) ∙ found.0, sym (ap table_extents same) ∙ found.1)

judged_used : (torn used : Bool) (read : Result Record ℕ) (r : Record) → torn ≡ false → used ≡ true → read ≡ Ok r → (judged 0 (cond torn Torn (cond used (slot_in read) Free)) >>= extents_in) ≡ extents_in (Some r)
judged_used torn used read r whole in_use is = rw (whole, in_use, is) refl

-- the extents are those that the record in the boot sector's block says
pub table_by_record : (d : Content) (g : Geometry) (r : Record) → slot_of (d (boot_block g 0)) ≡ Used r → has_type attribute_list r ≡ false → record_count (table_extents r) ≤ most_records → table_of d g ≡ Ok (table_extents r)
unfolding table_of slot_of extents_in
table_by_record d g r slot unlisted few =
    let body = d (boot_block g 0) in
    let read = read_in_use body.torn (is_used body.bytes) (whole_record body.bytes) r slot in
    let rules = rules_of_whole body.bytes r read.2 in
    let again = record_of_shape body.bytes r (shape_of_whole body.bytes r read.2) rules.1 in
    judged_used body.torn (is_used body.bytes) (record_at body.bytes) r read.0 read.1 again
    ∙ three_pass (has_type attribute_list r) (leb (record_count (table_extents r)) most_records) (has_all_pairs r) unlisted (le-leb (record_count (table_extents r)) most_records few) rules.0
  where
    three_pass : (listed fits fit : Bool) → listed ≡ false → fits ≡ true → fit ≡ true → (needs (not listed) MftList >>= λ _. needs fits (MftLarge (record_count (table_extents r))) >>= λ _. needs fit (BadRecord 0 7) >>= λ _. Ok (table_extents r)) ≡ Ok (table_extents r)
    three_pass listed fits fit a b c = rw (a, b, c) refl

pub table_extents_is : (c : Content) (g : Geometry) (clusters : ℕ) (v : Volume) → BeginsAtBoot c g clusters v → extents_or (stream_at v table_key) ≡ v.table
unfolding table_of table_extents data_stream
table_extents_is c g clusters v begins =
    let parts = volume_parts c g clusters v begins.loaded in
    let loaded = ap (λ (per : ℕ). files_in c per v.table) (sym parts.per) ∙ parts.files in
    let files = parts_of_files c v.per v.table v.files loaded in
    let first = first_record c v begins.file files.2 begins.is_file in
    let found = of_body (c (boot_block g 0)) first.base v.table (in_boot_block c g v first.base begins.first first.slot) parts.table in
    let attrs : begins.file.attrs ≡ first.base.attrs = first.attrs ∙ attrs_alone c v.per _ (record_count v.table) 0 first.base (no_list_stream first.base found.0) in
    ap (λ (o : Option Record). extents_or (file_stream data_type [] o)) begins.is_file
    ∙ ap (λ (l : List Attr). extents_or (stream_of data_type [] l)) attrs
    ∙ found.1

-- ---- its clusters

runs_of_extents : (s : Option Stream) → runs_in s ≡ (extents_or s).runs
runs_of_extents None = refl
runs_of_extents (Some (Held value)) = refl
runs_of_extents (Some (Placed e)) = refl

pub table_runs : (c : Content) (g : Geometry) (clusters : ℕ) (v : Volume) → BeginsAtBoot c g clusters v → runs_in (stream_at v table_key) ≡ v.table.runs
table_runs c g clusters v begins = runs_of_extents (stream_at v table_key) ∙ ap (λ (e : Extents). e.runs) (table_extents_is c g clusters v begins)

pub table_once : (c : Content) (g : Geometry) (clusters : ℕ) (v : Volume) → BeginsAtBoot c g clusters v → AreOnce (volume_runs v.files) → AreOnce v.table.runs
table_once c g clusters v begins once = subst (λ (runs : List Run). AreOnce runs) (table_runs c g clusters v begins) (stream_once v table_key once)

pub table_apart : (c : Content) (g : Geometry) (clusters : ℕ) (v : Volume) (s : StreamKey) → BeginsAtBoot c g clusters v → AreOnce (volume_runs v.files) → table_key ≢ s → AreApart v.table.runs (runs_in (stream_at v s))
table_apart c g clusters v s begins once differ = subst (λ (runs : List Run). AreApart runs (runs_in (stream_at v s))) (table_runs c g clusters v begins) (streams_apart v table_key s once differ)
