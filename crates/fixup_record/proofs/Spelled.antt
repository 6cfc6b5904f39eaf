-- A spelling is read back as its body, and the test tells which bodies have one.
use Rattle.std.proofs.Common.{◌≡◌, ℕ, suc, ◌+◌, ◌-◌, ◌*◌, ◌%◌, ◌<◌, ◌≤◌, ◌^◌, Bool, true, false, cond, not, eqb, leb, nat_eq, List, [], ◌∷◌, length, take, drop, slice_index, Ok, refl, sym, ap, ◌∙◌, inl, inr, arith}
use Rattle.std.specs.Prelude.{◌&&◌, ◌||◌}
use Rattle.std.specs.List.{list_all}
use Rattle.std.specs.Cmp.Lexicographic.{pointwise}
use Rattle.std.proofs.lemmas.Bool.{cases_Bool, cases_lt, and_parts, and_from, or_right, le-leb, leb-true, eq-eqb, eqb-true}
use Rattle.std.proofs.lemmas.List.{ext_get_or, get_or-take, get_or-drop, length-take, length-drop}
use Rattle.std.proofs.lemmas.List.Folds.{list_all_at}
use Rattle.disk_model.specs.declared.block.BlockKind.{BlockKind}
use Rattle.disk_model.specs.declared.block.BlockKind.TheVariants.{Plain, FileRec, Index}
use Rattle.disk_model.specs.Bytes.{part}
use Rattle.disk_model.specs.Sectors.{sectors}
use Rattle.disk_model.specs.Content.{signature, signed_body, whole_or_torn, plain_body, body_of}
use Rattle.disk_model.specs.Fixups.{array_at, array_count, sector_count, is_in_shape, is_in_array, fixup_of, body_bytes}
use Rattle.disk_model.proofs.Protection.{shape_parts, in_array, not_in_array}
use Rattle.fixup_record.specs.Protecting.{protected_bytes}
use Rattle.fixup_record.specs.ProtectLaws.{IsArrayApart}
use Rattle.fixup_record.specs.Spellings.{is_sequenced, IsReady, HasSpelling, has_zeros, is_ready, has_spelling, spelled}
use Rattle.fixup_record.proofs.Protected.{length-protected, stays, undone}

clash : {X : Type 0} → true ≡ false → X
clash e = absurd cc

clash' : {X : Type 0} → false ≡ true → X
clash' e = absurd cc

-- ---- what a block's bytes are read as

body_plain : (kind : BlockKind) (raw : List ℕ) → is_sequenced kind raw ≡ false → body_of kind raw ≡ plain_body raw
unfolding body_of
body_plain Plain raw e = refl
body_plain FileRec raw e = ap (signed_body raw) e
body_plain Index raw e = ap (signed_body raw) e

body_signed : (kind : BlockKind) (raw : List ℕ) (check : ℕ) → is_sequenced kind raw ≡ true → fixup_of raw ≡ Ok check → body_of kind raw ≡ plain_body (body_bytes raw)
unfolding body_of
body_signed Plain raw check e f = clash' e
body_signed FileRec raw check e f = ap (signed_body raw) e ∙ ap (whole_or_torn raw) f
body_signed Index raw check e f = ap (signed_body raw) e ∙ ap (whole_or_torn raw) f

sequenced_front : (kind : BlockKind) (xs ys : List ℕ) → take 4 xs ≡ take 4 ys → is_sequenced kind xs ≡ is_sequenced kind ys
sequenced_front Plain xs ys e = refl
sequenced_front FileRec xs ys e = ap (pointwise nat_eq (signature FileRec)) e
sequenced_front Index xs ys e = ap (pointwise nat_eq (signature Index)) e

spelled_plain : (kind : BlockKind) (check : ℕ) (bytes : List ℕ) → is_sequenced kind bytes ≡ false → spelled kind check bytes ≡ bytes
unfolding spelled
spelled_plain kind check bytes e = ap (λ (b : Bool). cond b (protected_bytes bytes check) bytes) e

spelled_signed : (kind : BlockKind) (check : ℕ) (bytes : List ℕ) → is_sequenced kind bytes ≡ true → spelled kind check bytes ≡ protected_bytes bytes check
unfolding spelled
spelled_signed kind check bytes e = ap (λ (b : Bool). cond b (protected_bytes bytes check) bytes) e

-- ---- where the array lies

-- a block with a signature has two sectors at least
pub record IsBig (bytes : List ℕ) : Type 0 where
  pub big : 1024 ≤ length bytes
  pub whole : length bytes % 512 ≡ 0

big_of : (kind : BlockKind) (bytes : List ℕ) → length bytes ≡ 512 * sectors kind → is_sequenced kind bytes ≡ true → IsBig bytes
big_of Plain bytes size e = clash' e
big_of FileRec bytes size e = record { big = omega arith; whole = omega arith }
big_of Index bytes size e = record { big = omega arith; whole = omega arith }

behind_words : (bytes : List ℕ) → 1024 ≤ length bytes → array_count bytes ≡ sector_count bytes + 1 → IsArrayApart bytes → 8 ≤ array_at bytes
behind_words bytes big count (inl before) = absurd (omega arith)
behind_words bytes big count (inr behind) = behind

front_stays : (bytes : List ℕ) (check : ℕ) → 1024 ≤ length bytes → 8 ≤ array_at bytes → take 4 (protected_bytes bytes check) ≡ take 4 bytes
front_stays bytes check big behind =
    let size = length-protected bytes check in
    let left : length (take 4 (protected_bytes bytes check)) ≡ 4 = length-take 4 (protected_bytes bytes check) ∙ omega arith in
    let right : length (take 4 bytes) ≡ 4 = length-take 4 bytes ∙ omega arith in
    ext_get_or 0 (take 4 (protected_bytes bytes check)) (take 4 bytes) (left ∙ sym right) (λ i lt.
    let few : i < 4 = omega arith in
    get_or-take 4 (protected_bytes bytes check) i 0 few
    ∙ stays bytes check i (omega arith) (omega arith) (not_in_array bytes i (inl (omega arith)))
    ∙ sym (get_or-take 4 bytes i 0 few))

read_signed : (kind : BlockKind) (check : ℕ) (bytes : List ℕ) → IsBig bytes → is_sequenced kind bytes ≡ true → IsReady bytes → check < 2 ^ 16 → body_of kind (spelled kind check bytes) ≡ plain_body bytes
read_signed kind check bytes size signed ready small =
    let big = size.big in
    let behind = behind_words bytes size.big (shape_parts bytes ready.shape).0 ready.apart in
    let it = undone bytes check size.whole (omega arith) ready.shape ready.apart small in
    ap (body_of kind) (spelled_signed kind check bytes signed)
    ∙ body_signed kind (protected_bytes bytes check) check (sequenced_front kind _ _ (front_stays bytes check size.big behind) ∙ signed) it.answer
    ∙ ap plain_body (it.again ready.zeros)

read_plain : (kind : BlockKind) (check : ℕ) (bytes : List ℕ) → is_sequenced kind bytes ≡ false → body_of kind (spelled kind check bytes) ≡ plain_body bytes
read_plain kind check bytes plain = ap (body_of kind) (spelled_plain kind check bytes plain) ∙ body_plain kind bytes plain

pub read_spelled : (kind : BlockKind) (check : ℕ) (bytes : List ℕ) → length bytes ≡ 512 * sectors kind → HasSpelling kind bytes → check < 2 ^ 16 → body_of kind (spelled kind check bytes) ≡ plain_body bytes
read_spelled kind check bytes size (inl plain) small = read_plain kind check bytes plain
read_spelled kind check bytes size (inr ready) small = elim (cases_Bool (is_sequenced kind bytes)) [
  | inl signed ↦ read_signed kind check bytes (big_of kind bytes size signed) signed ready small
  | inr plain ↦ read_plain kind check bytes plain
]

-- ---- the test

abbrev is_nought : ℕ → Bool
is_nought b = eqb b 0

all_from : (xs : List ℕ) → ((k : ℕ) → k < length xs → slice_index xs k ≡ 0) → list_all is_nought xs ≡ true
all_from [] each = refl
all_from (x ∷ xs) each = and_from (is_nought x) (list_all is_nought xs) (eq-eqb _ _ (each 0 (omega arith))) (all_from xs (λ k lt. each (suc k) (omega arith)))

all_at : (xs : List ℕ) (k : ℕ) → list_all is_nought xs ≡ true → k < length xs → slice_index xs k ≡ 0
all_at xs k all lt = elim (cases_Bool (is_nought (slice_index xs k))) [
  | inl same ↦ eqb-true _ _ same
  | inr other ↦ clash (sym all ∙ list_all_at is_nought xs k 0 lt other)
]

abbrev array_of : List ℕ → List ℕ
array_of bytes = part (array_at bytes) (2 * (sector_count bytes + 1)) bytes

length-array : (bytes : List ℕ) → array_at bytes + 2 * (sector_count bytes + 1) ≤ length bytes → length (array_of bytes) ≡ 2 * (sector_count bytes + 1)
length-array bytes room = length-take (2 * (sector_count bytes + 1)) (drop (array_at bytes) bytes) ∙ omega (arith, length-drop (array_at bytes) bytes)

array-byte : (bytes : List ℕ) (k : ℕ) → k < 2 * (sector_count bytes + 1) → slice_index (array_of bytes) k ≡ slice_index bytes (array_at bytes + k)
array-byte bytes k lt = get_or-take (2 * (sector_count bytes + 1)) (drop (array_at bytes) bytes) k 0 lt ∙ get_or-drop (array_at bytes) bytes k 0

room_in : (bytes : List ℕ) → 512 ≤ length bytes → is_in_shape bytes ≡ true → array_at bytes + 2 * (sector_count bytes + 1) ≤ length bytes
room_in bytes some shape = let parts = shape_parts bytes shape in omega (arith, parts.0, parts.2)

zeros_at : (bytes : List ℕ) (i : ℕ) → array_at bytes + 2 * (sector_count bytes + 1) ≤ length bytes → has_zeros bytes ≡ true → is_in_array bytes i ≡ true → slice_index bytes i ≡ 0
unfolding has_zeros
zeros_at bytes i room zeros here = elim (cases_lt i (array_at bytes)) [
  | inl before ↦ clash (sym here ∙ not_in_array bytes i (inl before))
  | inr from ↦ elim (cases_lt i (array_at bytes + 2 * (sector_count bytes + 1))) [
    | inl within ↦
        let few : i - array_at bytes < 2 * (sector_count bytes + 1) = omega arith in
        let place : array_at bytes + (i - array_at bytes) ≡ i = omega arith in
        let size = length-array bytes room in
        ap (slice_index bytes) (sym place) ∙ sym (array-byte bytes (i - array_at bytes) few) ∙ all_at (array_of bytes) (i - array_at bytes) zeros (omega arith)
    | inr past ↦ clash (sym here ∙ not_in_array bytes i (inr past))
  ]
]

zeros_from : (bytes : List ℕ) → array_at bytes + 2 * (sector_count bytes + 1) ≤ length bytes → ((i : ℕ) → is_in_array bytes i ≡ true → slice_index bytes i ≡ 0) → has_zeros bytes ≡ true
unfolding has_zeros
zeros_from bytes room each =
    let size = length-array bytes room in
    all_from (array_of bytes) (λ k lt.
    let few : k < 2 * (sector_count bytes + 1) = omega arith in
    array-byte bytes k few ∙ each (array_at bytes + k) (in_array bytes (array_at bytes + k) (omega arith) (omega arith)))

ready_from : (bytes : List ℕ) → 512 ≤ length bytes → is_ready bytes ≡ true → IsReady bytes
ready_from bytes some test =
    let outer = and_parts (is_in_shape bytes && leb 8 (array_at bytes)) (has_zeros bytes) test in
    let inner = and_parts (is_in_shape bytes) (leb 8 (array_at bytes)) outer.0 in
    record { shape = inner.0; apart = inr (leb-true _ _ inner.1); zeros = λ i here. zeros_at bytes i (room_in bytes some inner.0) outer.1 here }

ready_test : (bytes : List ℕ) → 1024 ≤ length bytes → IsReady bytes → is_ready bytes ≡ true
ready_test bytes big ready =
    let behind = behind_words bytes big (shape_parts bytes ready.shape).0 ready.apart in
    and_from _ _ (and_from _ _ ready.shape (le-leb _ _ behind)) (zeros_from bytes (room_in bytes (omega arith) ready.shape) ready.zeros)

has_from : (kind : BlockKind) (bytes : List ℕ) → length bytes ≡ 512 * sectors kind → has_spelling kind bytes ≡ true → HasSpelling kind bytes
unfolding has_spelling
has_from kind bytes size test = elim (cases_Bool (is_sequenced kind bytes)) [
  | inl signed ↦
      let big = (big_of kind bytes size signed).big in
      inr (ready_from bytes (omega arith) (ap (λ (b : Bool). not b || is_ready bytes) (sym signed) ∙ test))
  | inr plain ↦ inl plain
]

has_test : (kind : BlockKind) (bytes : List ℕ) → length bytes ≡ 512 * sectors kind → HasSpelling kind bytes → has_spelling kind bytes ≡ true
unfolding has_spelling
has_test kind bytes size (inl plain) = ap (λ (b : Bool). not b || is_ready bytes) plain
has_test kind bytes size (inr ready) = elim (cases_Bool (is_sequenced kind bytes)) [
  | inl signed ↦ or_right (not (is_sequenced kind bytes)) (is_ready bytes) (ready_test bytes (big_of kind bytes size signed).big ready)
  | inr plain ↦ ap (λ (b : Bool). not b || is_ready bytes) plain
]

pub tested : (kind : BlockKind) (bytes : List ℕ) → length bytes ≡ 512 * sectors kind → ((has_spelling kind bytes ≡ true) → HasSpelling kind bytes) × (HasSpelling kind bytes → (has_spelling kind bytes ≡ true))
tested kind bytes size = (has_from kind bytes size, has_test kind bytes size)
