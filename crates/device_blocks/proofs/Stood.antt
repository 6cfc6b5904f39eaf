-- The check word that stands in the bytes by which a body was written.
use Rattle.std.proofs.Common.{◌≡◌, ℕ, ◌+◌, ◌-◌, ◌*◌, ◌%◌, ◌<◌, ◌≤◌, ◌^◌, Bool, true, false, cond, nat_eq, List, length, take, slice_index, Option, Some, None, Result, Ok, refl, sym, ap, ◌∙◌, inl, inr, arith}
use Rattle.std.specs.Cmp.Lexicographic.{pointwise}
use Rattle.std.proofs.lemmas.Bool.{cases_Bool}
use Rattle.std.proofs.lemmas.List.{ext_get_or, get_or-take, length-take}
use Rattle.disk_model.specs.declared.block.BlockKind.{BlockKind}
use Rattle.disk_model.specs.declared.block.BlockKind.TheVariants.{Plain, FileRec, Index}
use Rattle.disk_model.specs.declared.fixups.FixupFault.{FixupFault}
use Rattle.disk_model.specs.Sectors.{sectors}
use Rattle.disk_model.specs.Content.{signature}
use Rattle.disk_model.specs.Fixups.{array_at, array_count, sector_count, fixup_of}
use Rattle.disk_model.proofs.Protection.{shape_parts, not_in_array}
use Rattle.fixup_record.specs.Protecting.{protected_bytes}
use Rattle.fixup_record.specs.ProtectLaws.{IsArrayApart}
use Rattle.fixup_record.specs.Spellings.{is_sequenced, IsReady, HasSpelling, has_spelling, spelled}
use Rattle.fixup_record.proofs.Protected.{length-protected, stays, undone}
use Rattle.fixup_record.proofs.Spelled.{IsBig, tested}
use Rattle.log_area.specs.sector_device.Sectors.{sectors_of}
use Rattle.log_area.specs.sector_device.WholeSectors.{length-sectors_of}
use Rattle.device_blocks.specs.declared.word.CheckWord.{CheckWord}
use Rattle.device_blocks.specs.declared.word.CheckWord.TheVariants.{Missing, Stands}
use Rattle.device_blocks.specs.Words.{check_or_none, stood_check, read_word, written_word}

clash : {X : Type 0} → false ≡ true → X
clash e = absurd cc

-- ---- what stands in bytes

pub stood_plain : (kind : BlockKind) (raw : List ℕ) → is_sequenced kind raw ≡ false → stood_check kind raw ≡ None
unfolding stood_check
stood_plain kind raw plain = ap (λ (b : Bool). cond b (check_or_none (fixup_of raw)) None) plain

stood_signed : (kind : BlockKind) (raw : List ℕ) (check : ℕ) → is_sequenced kind raw ≡ true → fixup_of raw ≡ Ok check → stood_check kind raw ≡ Some check
unfolding stood_check
stood_signed kind raw check signed answer = ap (λ (b : Bool). cond b (check_or_none (fixup_of raw)) None) signed ∙ ap check_or_none answer

spelled_plain : (kind : BlockKind) (check : ℕ) (bytes : List ℕ) → is_sequenced kind bytes ≡ false → spelled kind check bytes ≡ bytes
unfolding spelled
spelled_plain kind check bytes e = ap (λ (b : Bool). cond b (protected_bytes bytes check) bytes) e

spelled_signed : (kind : BlockKind) (check : ℕ) (bytes : List ℕ) → is_sequenced kind bytes ≡ true → spelled kind check bytes ≡ protected_bytes bytes check
unfolding spelled
spelled_signed kind check bytes e = ap (λ (b : Bool). cond b (protected_bytes bytes check) bytes) e

-- ---- the signature stays

sequenced_front : (kind : BlockKind) (xs ys : List ℕ) → take 4 xs ≡ take 4 ys → is_sequenced kind xs ≡ is_sequenced kind ys
sequenced_front Plain xs ys e = refl
sequenced_front FileRec xs ys e = ap (pointwise nat_eq (signature FileRec)) e
sequenced_front Index xs ys e = ap (pointwise nat_eq (signature Index)) e

big_of : (kind : BlockKind) (bytes : List ℕ) → length bytes ≡ 512 * sectors kind → is_sequenced kind bytes ≡ true → IsBig bytes
big_of Plain bytes size e = clash e
big_of FileRec bytes size e = record { big = omega arith; whole = omega arith }
big_of Index bytes size e = record { big = omega arith; whole = omega arith }

behind_words : (bytes : List ℕ) → 1024 ≤ length bytes → array_count bytes ≡ sector_count bytes + 1 → IsArrayApart bytes → 8 ≤ array_at bytes
behind_words bytes big count (inl before) = absurd (omega arith)
behind_words bytes big count (inr behind) = behind

front_stays : (bytes : List ℕ) (check : ℕ) → 1024 ≤ length bytes → 8 ≤ array_at bytes → take 4 (protected_bytes bytes check) ≡ take 4 bytes
front_stays bytes check big behind =
    let size = length-protected bytes check in
    let left : length (take 4 (protected_bytes bytes check)) ≡ 4 = length-take 4 (protected_bytes bytes check) ∙ omega arith in
    let right : length (take 4 bytes) ≡ 4 = length-take 4 bytes ∙ omega arith in
    ext_get_or 0 (take 4 (protected_bytes bytes check)) (take 4 bytes) (left ∙ sym right) (λ i lt.
    let few : i < 4 = omega arith in
    get_or-take 4 (protected_bytes bytes check) i 0 few
    ∙ stays bytes check i (omega arith) (omega arith) (not_in_array bytes i (inl (omega arith)))
    ∙ sym (get_or-take 4 bytes i 0 few))

-- ---- the law

word_signed : (kind : BlockKind) (bytes : List ℕ) (check : ℕ) → IsBig bytes → is_sequenced kind bytes ≡ true → IsReady bytes → check < 2 ^ 16 → stood_check kind (spelled kind check bytes) ≡ Some check
word_signed kind bytes check size signed ready small =
    let big = size.big in
    let behind = behind_words bytes size.big (shape_parts bytes ready.shape).0 ready.apart in
    ap (stood_check kind) (spelled_signed kind check bytes signed)
    ∙ stood_signed kind (protected_bytes bytes check) check (sequenced_front kind _ _ (front_stays bytes check size.big behind) ∙ signed)
    (undone bytes check size.whole (omega arith) ready.shape ready.apart small).answer

stands_by : (kind : BlockKind) (bytes : List ℕ) (check : ℕ) → is_sequenced kind bytes ≡ true → written_word kind bytes check ≡ Stands check
stands_by kind bytes check signed = ap (λ (b : Bool). cond b (Stands check) Missing) signed

missing_by : (kind : BlockKind) (bytes : List ℕ) (check : ℕ) → is_sequenced kind bytes ≡ false → written_word kind bytes check ≡ Missing
missing_by kind bytes check plain = ap (λ (b : Bool). cond b (Stands check) Missing) plain

plain_stands : (kind : BlockKind) (bytes : List ℕ) (check : ℕ) → is_sequenced kind bytes ≡ false → read_word (stood_check kind (spelled kind check bytes)) ≡ written_word kind bytes check
plain_stands kind bytes check plain =
    ap read_word (ap (stood_check kind) (spelled_plain kind check bytes plain) ∙ stood_plain kind bytes plain) ∙ sym (missing_by kind bytes check plain)

stands_for : (kind : BlockKind) (bytes : List ℕ) (check : ℕ) → length bytes ≡ 512 * sectors kind → HasSpelling kind bytes → check < 2 ^ 16 → read_word (stood_check kind (spelled kind check bytes)) ≡ written_word kind bytes check
stands_for kind bytes check size (inl plain) small = plain_stands kind bytes check plain
stands_for kind bytes check size (inr ready) small = elim (cases_Bool (is_sequenced kind bytes)) [
  | inl signed ↦ ap read_word (word_signed kind bytes check (big_of kind bytes size signed) signed ready small) ∙ sym (stands_by kind bytes check signed)
  | inr plain ↦ plain_stands kind bytes check plain
]

pub written_stands : (kind : BlockKind) (bytes : List ℕ) (check : ℕ) → length bytes ≡ 512 * sectors kind → has_spelling kind bytes ≡ true → check < 2 ^ 16 → read_word (stood_check kind (spelled kind check bytes)) ≡ written_word kind bytes check
written_stands kind bytes check size test small = stands_for kind bytes check size ((tested kind bytes size).0 test) small

-- ---- sizes

pub length-spelled : (kind : BlockKind) (bytes : List ℕ) (check : ℕ) → length (spelled kind check bytes) ≡ length bytes
length-spelled kind bytes check = elim (cases_Bool (is_sequenced kind bytes)) [
  | inl signed ↦ ap (λ (b : List ℕ). length b) (spelled_signed kind check bytes signed) ∙ length-protected bytes check
  | inr plain ↦ ap (λ (b : List ℕ). length b) (spelled_plain kind check bytes plain)
]

pub spelled_sectors : (kind : BlockKind) (bytes : List ℕ) (check : ℕ) → length bytes ≡ 512 * sectors kind → length (sectors_of (spelled kind check bytes)) ≡ sectors kind
spelled_sectors kind bytes check size =
    let e = length-spelled kind bytes check in
    let n = length-sectors_of (spelled kind check bytes) in
    omega (arith, e, n, size)
