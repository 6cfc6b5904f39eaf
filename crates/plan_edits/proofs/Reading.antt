-- A record that is put is read as it was meant.
use Rattle.std.proofs.Common.{◌≡◌, ℕ, ◌+◌, ◌-◌, ◌*◌, ◌%◌, ◌^◌, ◌≤◌, Bool, true, false, ◌&&◌, cond, eqb, leb, List, [], ◌∷◌, ◌++◌, Option, Some, None, Result, Ok, Err, refl, sym, ap, subst, ◌∙◌, inl, inr, arith}
use Rattle.std.specs.Prelude.{All}
use Rattle.std.specs.List.{list_all}
use Rattle.std.proofs.lemmas.Bool.{cases_lt, cases_eq, and_parts, and_from, eq-eqb, eqb-true}
use Rattle.std.proofs.lemmas.List.{append-nil}
use Rattle.std.proofs.lemmas.List.Elements.{All-nil, All-cons, All-head, All-tail}
use Rattle.host_base.specs.Answers.{◌>>=◌, needs}
use Rattle.disk_model.specs.declared.block.Block.{Block}
use Rattle.disk_model.specs.Numbers.{field}
use Rattle.disk_model.specs.Content.{Content, is_signed}
use Rattle.disk_model.specs.declared.block.Body.{Body}
use Rattle.plan_values.specs.record_model.declared.attribute.Attr.{Attr}
use Rattle.plan_values.specs.record_model.declared.record.RecHead.{RecHead}
use Rattle.plan_values.specs.record_model.Pairs.{runs_of, pairs_of, HasSpelling}
use Rattle.plan_values.specs.record_model.Records.{Record, record_at, shaped_at, rec_head_of, has_in_use_flag, has_lawful_values, record_spelling, FitsRecord}
use Rattle.plan_values.proofs.record_model.PairsRead.{spelled_read}
use Rattle.plan_values.proofs.record_model.PairsSpelled.{written_spelled}
use Rattle.plan_values.proofs.record_model.RecordSpelling.{spelling_signed, record_spells}
use Rattle.plan_values.proofs.record_model.Answering.{steps_from_ok, needs_from_ok}
use Rattle.plan_values.proofs.record_model.Records.{passed_from_ok}
use Rattle.plan_values.proofs.record_model.Shapes.{is_shaped}
use Rattle.plan_values.specs.record_writer.NormalLaws.{FitsByRoom}
use Rattle.plan_values.proofs.record_writer.Again.{read_again}
use Rattle.plan_values.proofs.record_writer.Staying.{all_stand}
use Rattle.plan_values.specs.state_model.declared.stream.Extents.{Extents}
use Rattle.plan_values.specs.state_model.Loads.{Slot, Free, Used, slot_in, slot_of, slot_at, is_used, whole_record, table_slot, total_clusters, span, has_fitting_pairs, has_all_pairs}
use Rattle.plan_values.specs.state_model.Streams.{attributes_of, block_at}
use Rattle.disk_model.specs.declared.block.BlockKind.TheVariants.{FileRec}
use Rattle.plan_values.proofs.stream_laws.Tabling.{read_in_use}
use Rattle.plan_values.specs.record_streams.Placing.{last_vcn, placed_sizes, placed_attr, placed_first, placed_record, unit_of}
use Rattle.draft_resized.specs.draft_records.Records.{written_record, written_bytes, fits_room}
use Rattle.draft_resized.proofs.draft_records.Written.{fits_written, room_full}
use Rattle.plan_values.proofs.plan_growth.Placed.{placed_all, placed_head}
use Rattle.plan_values.specs.plan_growth.Streams.{IsWritten}
use Rattle.plan_edits.specs.Written.{IsInUse, WrittenIsRead}

-- ---- the steps of a reader

whole_by : (o : Result Record ℕ) (r : Record) → (o >>= λ x. needs {F = ℕ} (has_lawful_values x) 8 >>= λ _. Ok x) ≡ Ok r → has_all_pairs r ≡ true → (o >>= λ x. needs {F = ℕ} (has_all_pairs x) 7 >>= λ _. needs {F = ℕ} (has_lawful_values x) 8 >>= λ _. Ok x) ≡ Ok r
whole_by (Err rule) r is pairs = is
whole_by (Ok x) r is pairs = chosen (has_lawful_values x) is
  where
    chosen : (t : Bool) → (needs {F = ℕ} t 8 >>= λ _. Ok x) ≡ Ok r → (needs {F = ℕ} (has_all_pairs x) 7 >>= λ _. needs {F = ℕ} t 8 >>= λ _. Ok x) ≡ Ok r
    chosen true same = (let e : x ≡ r = cc in ap (λ (b : Bool). needs {F = ℕ} b 7 >>= λ _. Ok x) (ap has_all_pairs e ∙ pairs) ∙ same)
    chosen false same = absurd cc

whole_is : (body : List ℕ) (r : Record) → record_at body ≡ Ok r → has_all_pairs r ≡ true → whole_record body ≡ Ok r
unfolding whole_record
whole_is body r read pairs = whole_by (shaped_at body) r (sym (is_shaped body) ∙ read) pairs

-- ---- a record that has a spelling

module _ (r : Record) (fits : FitsRecord r) where
  used_by : is_used (record_spelling r) ≡ eqb (r.head.flags % 2) 1
  unfolding has_in_use_flag rec_head_of
  used_by =
      ap (λ (signed : Bool). signed && eqb (field 0x16 2 (record_spelling r) % 2) 1) (spelling_signed r)
      ∙ ap (λ (h : RecHead). eqb (h.flags % 2) 1) (record_spells r fits).head

  slot_is : eqb (r.head.flags % 2) 1 ≡ true → has_all_pairs r ≡ true → slot_of (record { bytes = record_spelling r; torn = false }) ≡ Used r
  unfolding slot_of
  slot_is used pairs =
      ap (λ (b : Bool). cond b (slot_in (whole_record (record_spelling r))) Free) (used_by ∙ used)
      ∙ ap slot_in (whole_is (record_spelling r) r (read_again r fits).read pairs)

-- ---- the record as it is written

has_room : (r : Record) → fits_room r ≡ Ok tt → written_bytes r ≤ 1024
has_room r room = elim (cases_lt 1024 (written_bytes r)) [
  | inl over ↦ (let clash : Err (written_bytes r) ≡ Ok tt = sym (room_full r (written_bytes r) refl over) ∙ room in absurd cc)
  | inr short ↦ short
]

written_pairs : (r : Record) → has_all_pairs r ≡ true → has_all_pairs (written_record r) ≡ true
unfolding has_all_pairs
written_pairs r pairs = (all_stand.record_whole r pairs).pairs

reads_so : (r : Record) → FitsByRoom r → fits_room r ≡ Ok tt → IsInUse r → slot_of (record { bytes = record_spelling (written_record r); torn = false }) ≡ Used (written_record r)
reads_so r fits room used = slot_is (written_record r) (fits_written r fits (has_room r room)) (eq-eqb (r.head.flags % 2) 1 used.flag) (written_pairs r used.pairs)

is_written : (r : Record) → IsWritten r (written_record r)
is_written r = record { seq = refl; flags = refl; base = refl; attrs = refl }

-- ---- a record that is read

parts_of : (body : List ℕ) (r : Record) → whole_record body ≡ Ok r → (record_at body ≡ Ok r) × (has_all_pairs r ≡ true)
unfolding whole_record
parts_of body r is =
    let shape = steps_from_ok (shaped_at body) (λ x. needs {F = ℕ} (has_all_pairs x) 7 >>= λ _. needs {F = ℕ} (has_lawful_values x) 8 >>= λ _. Ok x) r is in
    let pairs = needs_from_ok (has_all_pairs shape.0) 7 (λ _. needs {F = ℕ} (has_lawful_values shape.0) 8 >>= λ _. Ok shape.0) r shape.2 in
    let lawful = needs_from_ok (has_lawful_values shape.0) 8 (λ _. Ok shape.0) r pairs.1 in
    let same : shape.0 ≡ r = cc in (
      is_shaped body ∙ ap (λ (o : Result Record ℕ). o >>= λ x. needs {F = ℕ} (has_lawful_values x) 8 >>= λ _. Ok x) shape.1 ∙ pairs.1,
      ap has_all_pairs (sym same) ∙ pairs.0,
    )

flag_of : (body : List ℕ) (r : Record) → is_used body ≡ true → record_at body ≡ Ok r → r.head.flags % 2 ≡ 1
unfolding has_in_use_flag rec_head_of
flag_of body r used read =
    let test = (and_parts (is_signed FileRec body) (eqb (field 0x16 2 body % 2) 1) used).1 in
    sym (ap (λ (h : RecHead). h.flags % 2) (passed_from_ok body r read).head) ∙ eqb-true (field 0x16 2 body % 2) 1 test

in_use_of : (b : Body) (r : Record) → slot_of b ≡ Used r → IsInUse r
unfolding slot_of
in_use_of b r is =
    let read = read_in_use b.torn (is_used b.bytes) (whole_record b.bytes) r is in
    let parts = parts_of b.bytes r read.2 in
    record { flag = flag_of b.bytes r read.1 parts.0; pairs = parts.1 }

at_block : (c : Content) (o : Option Block) (r : Record) → slot_at c o ≡ Used r → IsInUse r
at_block c None r is = absurd cc
at_block c (Some b) r is = in_use_of (c b) r is

by_size : (t : Bool) (x : Slot) (r : Record) → cond t Free x ≡ Used r → x ≡ Used r
by_size true x r is = absurd cc
by_size false x r is = is

used_in : (c : Content) (per : ℕ) (e : Extents) (n : ℕ) (r : Record) → table_slot c per e n ≡ Used r → IsInUse r
unfolding table_slot
used_in c per e n r is = at_block c (block_at per e.runs FileRec n) r (by_size (leb e.initialised (1024 * n)) (slot_at c (block_at per e.runs FileRec n)) r is)

-- ---- a stream in other clusters

abbrev Fits : Attr → Type 0
Fits a = has_fitting_pairs a ≡ true

pub all_fit : (attrs : List Attr) → list_all has_fitting_pairs attrs ≡ true → All Fits attrs
all_fit [] all = All-nil Fits
all_fit (a ∷ attrs) all = (let parts = and_parts (has_fitting_pairs a) (list_all has_fitting_pairs attrs) all in All-cons Fits a attrs parts.0 (all_fit attrs parts.1))

pub fit_all : (attrs : List Attr) → All Fits attrs → list_all has_fitting_pairs attrs ≡ true
fit_all [] all = refl
fit_all (a ∷ attrs) all = and_from (has_fitting_pairs a) (list_all has_fitting_pairs attrs) (All-head Fits a attrs all) (fit_all attrs (All-tail Fits a attrs all))

spans : (total : ℕ) (t : Bool) → eqb total 0 ≡ t → (0 + total) % 2 ^ 64 ≡ (cond t (2 ^ 64 - 1) (total - 1) + 1) % 2 ^ 64
spans total true none = let zero_now : total ≡ 0 = eqb-true total 0 none in ap (λ (x : ℕ). (0 + x) % 2 ^ 64) zero_now
spans total false some = elim (cases_eq total 0) [
  | inl none ↦ (let clash : true ≡ false = sym (eq-eqb total 0 none) ∙ some in absurd cc)
  | inr other ↦ (let same : 0 + total ≡ total - 1 + 1 = omega (arith, other) in ap (λ (x : ℕ). x % 2 ^ 64) same)
]

new_fits : (per : ℕ) (e : Extents) (a : Attr) → HasSpelling 0 e.runs → has_fitting_pairs (placed_attr per e a) ≡ true
new_fits per e a spelled =
    let read : runs_of 0 (pairs_of e.runs) ≡ Ok e.runs = ap (runs_of 0) (sym (append-nil (pairs_of e.runs))) ∙ spelled_read 0 e.runs (pairs_of e.runs ++ []) spelled (written_spelled 0 e.runs [] spelled) in
    ap (span (placed_sizes per a.head.flags (unit_of a.form) e)) read
    ∙ eq-eqb ((0 + total_clusters e.runs) % 2 ^ 64) ((last_vcn (total_clusters e.runs) + 1) % 2 ^ 64) (spans (total_clusters e.runs) (eqb (total_clusters e.runs) 0) refl)

placed_by : (per kind : ℕ) (name : List ℕ) (e : Extents) (r : Record) (attributes : List Attr) → attributes_of kind name r.attrs ≡ attributes → HasSpelling 0 e.runs → IsInUse r → IsInUse (placed_record per kind name e r)
unfolding has_all_pairs
placed_by per kind name e r [] is spelled used = subst IsInUse (sym (ap (placed_first per kind name e r) is)) used
placed_by per kind name e r (a ∷ others) is spelled used = record {
  flag = ap (λ (h : RecHead). h.flags % 2) (placed_head per kind name e r a others is spelled) ∙ used.flag;
  pairs = fit_all (placed_record per kind name e r).attrs (placed_all per kind name e r a others is spelled Fits (new_fits per e a spelled) (all_fit r.attrs used.pairs));
}

placed_so : (per kind : ℕ) (name : List ℕ) (e : Extents) (r : Record) → HasSpelling 0 e.runs → IsInUse r → IsInUse (placed_record per kind name e r)
placed_so per kind name e r spelled used = placed_by per kind name e r (attributes_of kind name r.attrs) refl spelled used

pub written_read : WrittenIsRead
written_read = record { reads = reads_so; written = is_written; used = used_in; placed = placed_so }
