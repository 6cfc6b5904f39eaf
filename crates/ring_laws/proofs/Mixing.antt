-- A page that was written over another one, sector by sector.
use Rattle.std.proofs.Common.{◌≡◌, ◌⊎◌, ℕ, zero, suc, ◌+◌, ◌-◌, ◌*◌, ◌/◌, ◌%◌, ◌^◌, ◌<◌, ◌≤◌, Bool, true, false, cond, List, ◌++◌, length, drop, slice_index, refl, sym, ap, ◌∙◌, inl, inr, length-append, arith}
use Rattle.std.specs.Prelude.{is_ok}
use Rattle.std.proofs.lemmas.Bool.{cases_lt, and_parts, le-ltb}
use Rattle.std.proofs.lemmas.List.{get_or_append_left, get_or-append_right, get_or-drop, get_or-take, ext_get_or, take_all}
use Rattle.std.proofs.lemmas.List.FromFn.{get_or-map-range_with_len}
use Rattle.log_reading.specs.disk_model.Sectors.{raw_from, sector_of, zero_sector}
use Rattle.log_reading.specs.disk_model.Fixups.{array_at, last_word, fixup_of, restored, is_in_array}
use Rattle.log_reading.proofs.disk_model.Fields.{field_word}
use Rattle.store_model.specs.fixup_record.Protecting.{word_byte, array_byte, protected_byte, protected_bytes}
use Rattle.log_reading.specs.log_page.declared.places.LogPlace.{LogPlace}
use Rattle.log_reading.specs.log_page.CheckWords.{IsCheckWord}
use Rattle.log_reading.specs.log_page.PageLaws.{IsPartWritten}
use Rattle.log_reading.specs.log_page.RecordPages.{is_record_page, is_whole_page}
use Rattle.log_laws.proofs.log_page.Mixed.{new_or_old}
use Rattle.store_model.specs.sector_device.Sectors.{sector_in, sectors_of}
use Rattle.store_model.specs.sector_device.WholeSectors.{length-sector_in, get_or-sectors_of}
use Rattle.store_model.proofs.sector_device.SectorParts.{raw_from_is_part}
use Rattle.store_model.specs.Geometry.{SectorBytes}
use Rattle.ring_laws.specs.PageBytes.{page_sector, raw_page}
use Rattle.ring_laws.proofs.LogSectors.{raw_shift}

-- ---- bytes of rows

pub length-row : (at : ℕ → List ℕ) (first n : ℕ) → ((k : ℕ) → k < n → length (at (first + k)) ≡ 512) → length (raw_from at first n) ≡ 512 * n
unfolding raw_from
length-row at first zero sized = refl
length-row at first (suc n) sized =
    let here : length (at first) ≡ 512 = ap (λ (s : ℕ). length (at s)) (let e : first ≡ first + 0 = omega arith in e) ∙ sized 0 (omega arith) in
    let rest : length (raw_from at (first + 1) n) ≡ 512 * n = length-row at (first + 1) n (λ k lt. ap (λ (s : ℕ). length (at s)) (let e : first + 1 + k ≡ first + suc k = omega arith in e) ∙ sized (suc k) (omega (arith, lt))) in
    length-append (at first) (raw_from at (first + 1) n) ∙ omega (arith, here, rest)

pub row_byte : (at : ℕ → List ℕ) (first n k j : ℕ) → ((i : ℕ) → i < n → length (at (first + i)) ≡ 512) → k < n → j < 512 → slice_index (raw_from at first n) (512 * k + j) ≡ slice_index (at (first + k)) j
unfolding raw_from
row_byte at first zero k j sized lt few = absurd (omega (arith, lt))
row_byte at first (suc n) zero j sized lt few =
    let here : length (at first) ≡ 512 = ap (λ (s : ℕ). length (at s)) (let e : first ≡ first + 0 = omega arith in e) ∙ sized 0 (omega arith) in
    ap (λ (i : ℕ). slice_index (at first ++ raw_from at (first + 1) n) i) (let e : 512 * 0 + j ≡ j = omega arith in e)
    ∙ get_or_append_left (at first) (raw_from at (first + 1) n) 0 j (omega (arith, here, few))
    ∙ ap (λ (s : ℕ). slice_index (at s) j) (let e : first ≡ first + 0 = omega arith in e)
row_byte at first (suc n) (suc k) j sized lt few =
    let here : length (at first) ≡ 512 = ap (λ (s : ℕ). length (at s)) (let e : first ≡ first + 0 = omega arith in e) ∙ sized 0 (omega arith) in
    get_or-append_right (at first) (raw_from at (first + 1) n) 512 (512 * suc k + j) 0 here (omega arith)
    ∙ ap (λ (i : ℕ). slice_index (raw_from at (first + 1) n) i) (let e : 512 * suc k + j - 512 ≡ 512 * k + j = omega arith in e)
    ∙ row_byte at (first + 1) n k j (λ i less. ap (λ (s : ℕ). length (at s)) (let e : first + 1 + i ≡ first + suc i = omega arith in e) ∙ sized (suc i) (omega (arith, less))) (omega (arith, lt)) few
    ∙ ap (λ (s : ℕ). slice_index (at s) j) (let e : first + 1 + k ≡ first + suc k = omega arith in e)

pub sector_byte : (bytes : List ℕ) (k j : ℕ) → j < 512 → slice_index (sector_in bytes k) j ≡ slice_index bytes (512 * k + j)
unfolding sector_in
sector_byte bytes k j few = get_or-take 512 (drop (512 * k) bytes) j 0 few ∙ get_or-drop (512 * k) bytes j 0

pub sector_of_bytes : (bytes : List ℕ) (k : ℕ) → length bytes ≡ 4096 → k < 8 → sector_of (sectors_of bytes) k ≡ sector_in bytes k
sector_of_bytes bytes k size few = get_or-sectors_of bytes k zero_sector (omega (arith, size, few))

-- a row of the sectors of some bytes
pub row_is : (at : SectorBytes) (first : ℕ) (bytes : List ℕ) → length bytes ≡ 4096 → ((i : ℕ) → i < 8 → at (first + i) ≡ sector_in bytes i) → raw_from at first 8 ≡ bytes
row_is at first bytes size same =
    raw_shift at (sector_of (sectors_of bytes)) first 0 8 (λ i few. same i few ∙ sym (sector_of_bytes bytes i size few) ∙ ap (sector_of (sectors_of bytes)) (let e : i ≡ 0 + i = omega arith in e))
    ∙ raw_from_is_part bytes 0 8 (omega (arith, size))
    ∙ take_all (512 * 8) bytes (omega (arith, size))

pub page_is : (place : LogPlace) (at : SectorBytes) (k : ℕ) (bytes : List ℕ) → length bytes ≡ 4096 → ((i : ℕ) → i < 8 → at (page_sector place k + i) ≡ sector_in bytes i) → raw_page place at k ≡ bytes
unfolding raw_page
page_is place at k bytes size same = row_is at (page_sector place k) bytes size same

pub length-page : (place : LogPlace) (at : SectorBytes) (k : ℕ) → ((i : ℕ) → i < 8 → length (at (page_sector place k + i)) ≡ 512) → length (raw_page place at k) ≡ 4096
unfolding raw_page
length-page place at k sized = length-row at (page_sector place k) 8 sized

-- the sectors of a page are those of its bytes
pub page_sector_in : (place : LogPlace) (at : SectorBytes) (k i : ℕ) → ((j : ℕ) → j < 8 → length (at (page_sector place k + j)) ≡ 512) → i < 8 → sector_in (raw_page place at k) i ≡ at (page_sector place k + i)
unfolding raw_page sector_in
page_sector_in place at k i sized few =
    let all : length (raw_from at (page_sector place k) 8) ≡ 4096 = length-row at (page_sector place k) 8 sized in
    let here = length-sector all in
    ext_get_or 0 (sector_in (raw_from at (page_sector place k) 8) i) (at (page_sector place k + i)) (here ∙ sym (sized i few)) (λ j lt.
    let small : j < 512 = omega (arith, lt, here) in
    sector_byte (raw_from at (page_sector place k) 8) i j small ∙ row_byte at (page_sector place k) 8 i j sized few small)
  where
    length-sector : length (raw_from at (page_sector place k) 8) ≡ 4096 → length (sector_in (raw_from at (page_sector place k) 8) i) ≡ 512
    length-sector all = length-sector_in (raw_from at (page_sector place k) 8) i (omega (arith, all, few))

-- ---- ends of sectors

protected_at : (bytes : List ℕ) (check i : ℕ) → i < length bytes → 510 ≤ i % 512 → slice_index (protected_bytes bytes check) i ≡ word_byte check (i % 512 - 510)
unfolding protected_bytes
protected_at bytes check i lt end =
    get_or-map-range_with_len (protected_byte bytes check) 0 (length bytes) i i 0 lt (omega arith)
    ∙ ap (λ (b : Bool). cond b (inside i) (word_byte check (i % 512 - 510))) (le-ltb (i % 512) 510 end)
  where
    inside : ℕ → ℕ
    inside i = cond (is_in_array bytes i) (array_byte bytes check (i - array_at bytes)) (slice_index bytes i)

pub ends_by : (bytes : List ℕ) (check sector : ℕ) → length bytes ≡ 4096 → check < 2 ^ 16 → sector < 8 → last_word (protected_bytes bytes check) sector ≡ check
ends_by bytes check sector size small few =
    let at = 512 * sector + 510 in
    let low : slice_index (protected_bytes bytes check) at ≡ word_byte check (at % 512 - 510) = protected_at bytes check at (omega (arith, size, few)) (omega arith) in
    let high : slice_index (protected_bytes bytes check) (at + 1) ≡ word_byte check ((at + 1) % 512 - 510) = protected_at bytes check (at + 1) (omega (arith, size, few)) (omega arith) in
    let zeroth : at % 512 - 510 ≡ 0 = omega arith in
    let one : (at + 1) % 512 - 510 ≡ 1 = omega arith in
    let word : check % 256 + 256 * (check / 256) ≡ check = omega arith in
    field_word at (protected_bytes bytes check)
    ∙ ap (λ (x : ℕ). x + 256 * slice_index (protected_bytes bytes check) (at + 1)) (low ∙ ap (word_byte check) zeroth)
    ∙ ap (λ (x : ℕ). check % 256 + 256 * x) (high ∙ ap (word_byte check) one)
    ∙ word

-- ---- old and new sectors

pub fixups_hold : (pages lsn : ℕ) (raw : List ℕ) → is_whole_page pages raw lsn ≡ true → is_ok (fixup_of raw) ≡ true
unfolding is_whole_page
fixups_hold pages lsn raw whole = (and_parts (is_ok (fixup_of raw)) (is_record_page pages (restored raw) lsn) whole).0

module _ (place : LogPlace) (image : SectorBytes) (k : ℕ) (old new : List ℕ) (check : ℕ) (old_size : length old ≡ 4096) (new_size : length new ≡ 4096) (picked : IsCheckWord old check)
    (ends : (sector : ℕ) → sector < 8 → last_word new sector ≡ check)
    (each : (i : ℕ) → i < 8 → (image (page_sector place k + i) ≡ sector_in new i) ⊎ (image (page_sector place k + i) ≡ sector_in old i)) where
  abbrev Here : ℕ → Type 0
  Here i = (image (page_sector place k + i) ≡ sector_in new i) ⊎ ((image (page_sector place k + i) ≡ sector_in old i) ⊎ (8 ≤ i))

  which : (i : ℕ) → Here i
  which i = elim (cases_lt i 8) [
    | inl lt ↦ elim (each i lt) [ inl new_one ↦ inl new_one | inr old_one ↦ inr (inl old_one) ]
    | inr past ↦ inr (inr past)
  ]

  abbrev is_left : (i : ℕ) → Here i → Bool
  is_left i (inl e) = true
  is_left i (inr e) = false

  abbrev is_new : ℕ → Bool
  is_new i = is_left i (which i)

  byte_by : (i j : ℕ) (h : Here i) → i < 8 → j < 512 → slice_index (image (page_sector place k + i)) j ≡ cond (is_left i h) (slice_index new (512 * i + j)) (slice_index old (512 * i + j))
  byte_by i j (inl e) few small = ap (λ (x : List ℕ). slice_index x j) e ∙ sector_byte new i j small
  byte_by i j (inr (inl e)) few small = ap (λ (x : List ℕ). slice_index x j) e ∙ sector_byte old i j small
  byte_by i j (inr (inr past)) few small = absurd (omega (arith, past, few))

  sized : (i : ℕ) → i < 8 → length (image (page_sector place k + i)) ≡ 512
  sized i few = elim (each i few) [
    | inl e ↦ ap (λ (x : List ℕ). length x) e ∙ length-sector_in new i (omega (arith, new_size, few))
    | inr e ↦ ap (λ (x : List ℕ). length x) e ∙ length-sector_in old i (omega (arith, old_size, few))
  ]

  part_written : IsPartWritten old new (raw_page place image k) check is_new
  unfolding raw_page
  part_written = record {
    old_size = old_size;
    new_size = new_size;
    size = length-row image (page_sector place k) 8 sized;
    picked = picked;
    ends = ends;
    bytes = λ i lt.
        let parts : 512 * (i / 512) + i % 512 ≡ i = omega arith in
        let few : i / 512 < 8 = omega (arith, lt) in
        let small : i % 512 < 512 = omega arith in
        ap (λ (n : ℕ). slice_index (raw_from image (page_sector place k) 8) n) (sym parts) ∙ row_byte image (page_sector place k) 8 (i / 512) (i % 512) sized few small
        ∙ byte_by (i / 512) (i % 512) (which (i / 512)) few small ∙ ap (λ (n : ℕ). cond (is_new (i / 512)) (slice_index new n) (slice_index old n)) parts;
  }

  -- where the update sequence holds, the page is the new one or the old one
  pub mixed : is_ok (fixup_of (raw_page place image k)) ≡ true → (raw_page place image k ≡ new) ⊎ (raw_page place image k ≡ old)
  mixed holds = new_or_old old new (raw_page place image k) check is_new part_written holds
