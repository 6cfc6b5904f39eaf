-- The body of a record that is put has a spelling.
use Rattle.std.proofs.Common.{◌≡◌, ℕ, ◌+◌, ◌*◌, ◌≤◌, true, not, ◌&&◌, eqb, leb, List, length, Ok, Err, refl, sym, ap, ◌∙◌, inl, inr, arith}
use Rattle.std.specs.List.{list_all}
use Rattle.std.proofs.lemmas.Bool.{cases_lt, and_from, or_right}
use Rattle.disk_model.specs.declared.block.BlockKind.TheVariants.{FileRec}
use Rattle.disk_model.specs.Bytes.{part, zeros}
use Rattle.disk_model.specs.Fixups.{array_at, sector_count, is_in_shape}
use Rattle.fixup_record.specs.Spellings.{is_sequenced, has_zeros, is_ready, has_spelling}
use Rattle.record_model.specs.RecordLaws.{RecordIsBody}
use Rattle.record_model.specs.Records.{Record, record_spelling}
use Rattle.names_stay.specs.record_writer.NormalLaws.{FitsByRoom}
use Rattle.names_stay.proofs.record_writer.Again.{read_again}
use Rattle.names_stay.specs.draft_records.Records.{written_record, written_bytes, fits_room}
use Rattle.names_stay.proofs.draft_records.Written.{fits_written, room_full}

has_room : (r : Record) → fits_room r ≡ Ok tt → written_bytes r ≤ 1024
has_room r room = elim (cases_lt 1024 (written_bytes r)) [
  | inl over ↦ (let clash : Err (written_bytes r) ≡ Ok tt = sym (room_full r (written_bytes r) refl over) ∙ room in absurd cc)
  | inr short ↦ short
]

module _ (body : RecordIsBody) (r : Record) (fits : FitsByRoom r) (room : fits_room r ≡ Ok tt) where
  bytes : List ℕ
  bytes = record_spelling (written_record r)

  sized : length bytes ≡ 1024
  unfolding bytes
  sized = (read_again (written_record r) (fits_written r fits (has_room r room))).size

  shape : is_in_shape bytes ≡ true
  unfolding bytes
  shape = (read_again (written_record r) (fits_written r fits (has_room r room))).shape

  place : array_at bytes ≡ 0x30
  unfolding bytes
  place = body.place (written_record r)

  zeros_there : has_zeros bytes ≡ true
  unfolding bytes has_zeros zeros
  zeros_there =
      let count : 2 * (sector_count bytes + 1) ≡ 6 = (let size = sized in omega (arith, size)) in
      ap (λ (k : ℕ). list_all (λ b. eqb b 0) (part k (2 * (sector_count bytes + 1)) bytes)) place
      ∙ ap (λ (k : ℕ). list_all (λ b. eqb b 0) (part 0x30 k bytes)) count
      ∙ ap (list_all (λ b. eqb b 0)) (body.array (written_record r))

  pub record_spelled : has_spelling FileRec (record_spelling (written_record r)) ≡ true
  unfolding bytes has_spelling
  record_spelled =
      or_right (not (is_sequenced FileRec bytes)) (is_ready bytes)
      (and_from (is_in_shape bytes && leb 8 (array_at bytes)) (has_zeros bytes) (and_from (is_in_shape bytes) (leb 8 (array_at bytes)) shape (ap (leb 8) place)) zeros_there)
