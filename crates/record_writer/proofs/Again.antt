-- A record that was written, and protected, is read again.
use Rattle.std.proofs.Common.{◌≡◌, ℕ, zero, suc, ◌+◌, ◌-◌, ◌*◌, ◌/◌, ◌%◌, ◌<◌, ◌≤◌, true, List, length, drop, slice_index, refl, sym, ap, ◌∙◌, inr, arith}
use Rattle.std.proofs.lemmas.Bool.{and_parts, leb-true, ltb-true}
use Rattle.std.proofs.lemmas.List.{get_or-take, get_or-drop}
use Rattle.disk_model.specs.Bytes.{zeros}
use Rattle.disk_model.specs.Fixups.{array_at, sector_count, is_in_shape, is_in_array}
use Rattle.disk_model.proofs.Protection.{shape_from}
use Rattle.record_model.specs.Records.{Record, record_spelling, FitsRecord}
use Rattle.record_model.proofs.RecordSpelling.{spelling_place, spelling_count, spelling_array, length-record_spelling, record_spells}
use Rattle.record_model.proofs.Records.{table_is_read}
use Rattle.fixup_record.proofs.Protected.{undone}
use Rattle.record_writer.specs.WriteLaws.{IsReadAgain, WrittenIsRead}

module _ (r : Record) (fits : FitsRecord r) where
  abbrev body : List ℕ
  body = record_spelling r

  size : length body ≡ 1024
  size = length-record_spelling r fits

  sectors : sector_count body ≡ 2
  sectors = ap (λ (n : ℕ). n / 512) size

  shape : is_in_shape body ≡ true
  shape = shape_from body (spelling_count r ∙ sym (ap (λ (n : ℕ). n + 1) sectors)) (ap (λ (n : ℕ). n % 2) (spelling_place r)) (omega (arith, spelling_place r, spelling_count r))

  none : (k : ℕ) → k < 6 → slice_index (zeros 6) k ≡ 0
  unfolding zeros
  none zero lt = refl
  none (suc zero) lt = refl
  none (suc (suc zero)) lt = refl
  none (suc (suc (suc zero))) lt = refl
  none (suc (suc (suc (suc zero)))) lt = refl
  none (suc (suc (suc (suc (suc zero))))) lt = refl
  none (suc (suc (suc (suc (suc (suc k)))))) lt = absurd (omega arith)

  -- the array is zeros
  empty : (i : ℕ) → is_in_array body i ≡ true → slice_index body i ≡ 0
  empty i here =
      let parts = and_parts _ _ here in
      let from : array_at body ≤ i = leb-true _ _ parts.0 in
      let to : i < array_at body + 2 * (sector_count body + 1) = ltb-true _ _ parts.1 in
      let place = spelling_place r in
      let count = sectors in
      let k : ℕ = i - 0x30 in
      let inside : i - 0x30 < 6 = omega arith in
      let spot : 0x30 + (i - 0x30) ≡ i = omega arith in
      ap (slice_index body) (sym spot) ∙ sym (get_or-drop 0x30 body (i - 0x30) 0) ∙ sym (get_or-take 6 (drop 0x30 body) (i - 0x30) 0 inside) ∙ ap (λ (l : List ℕ). slice_index l (i - 0x30)) (spelling_array r) ∙ none (i - 0x30) inside

  pub again : IsReadAgain r
  again = record {
    size = size;
    read = table_is_read body r size (record_spells r fits);
    shape = shape;
    answer = λ check small. (undone body check (omega (arith, size)) (omega (arith, size)) shape (inr (omega (arith, spelling_place r))) small).answer;
    body = λ check small. (undone body check (omega (arith, size)) (omega (arith, size)) shape (inr (omega (arith, spelling_place r))) small).again empty;
  }

pub read_again : WrittenIsRead
read_again = λ r fits. again r fits
