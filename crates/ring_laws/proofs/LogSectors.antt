-- The pages of a log in their sectors: where they lie, and what is read of them.
use Rattle.std.proofs.Common.{◌≡◌, ◌≢◌, ◌⊎◌, ℕ, zero, suc, ◌+◌, ◌-◌, ◌*◌, ◌%◌, ◌<◌, ◌≤◌, Bool, true, false, List, ◌∷◌, ◌++◌, length, Option, Some, refl, sym, ap, ◌∙◌, inl, inr, append-nil, arith}
use Rattle.std.specs.Prelude.{if◌then◌else◌, unwrap_or, nat_le, nat_lt, ◌&&◌}
use Rattle.std.proofs.lemmas.Bool.{cases_lt, lt-leb, le-ltb}
use Rattle.log_reading.specs.disk_model.declared.block.BlockKind.TheVariants.{Plain}
use Rattle.log_reading.specs.disk_model.Sectors.{raw_from, sector_of}
use Rattle.log_reading.specs.disk_model.Content.{body_of, content_of}
use Rattle.log_reading.specs.log_page.declared.places.LogPlace.{LogPlace}
use Rattle.log_reading.specs.LogPages.{log_sector, sector_bytes, log_bytes, page_in}
use Rattle.log_reading.specs.Rings.{IsRingPlace}
use Rattle.log_reading.proofs.Bytes.{all_initialised}
use Rattle.store_model.specs.sector_device.Disks.{Disk, is_within, put, IsBetween}
use Rattle.store_model.specs.Geometry.{SectorBytes}
use Rattle.ring_laws.specs.PageBytes.{page_sector, raw_page, AreAlike}

-- ---- where pages lie

module _ (place : LogPlace) (ring : IsRingPlace place) where
  sector_is : (k : ℕ) (inside : k < place.pages) → page_sector place k ≡ (ring.pages k inside).0
  unfolding page_sector
  sector_is k inside =
      let at = ring.pages k inside in
      ap (λ (o : Option ℕ). unwrap_or o 0) (ap (log_sector place) (let e : 8 * k ≡ 8 * k + 0 = omega arith in e) ∙ at.1.row 0 (omega arith)) ∙ (let e : at.0 + 0 ≡ at.0 = omega arith in e)

  pub lies_in_row : (k i : ℕ) → k < place.pages → i < 8 → log_sector place (8 * k + i) ≡ Some (page_sector place k + i)
  lies_in_row k i inside few = (ring.pages k inside).1.row i few ∙ ap (λ (n : ℕ). Some (n + i)) (sym (sector_is k inside))

  begins_row : (k : ℕ) → k < place.pages → page_sector place k % 8 ≡ 0
  begins_row k inside = ap (λ (n : ℕ). n % 8) (sector_is k inside) ∙ (ring.pages k inside).1.begun

  twice : (j k : ℕ) → j < k → k < place.pages → page_sector place j ≢ page_sector place k
  twice j k lt inside same =
      ring.apart (8 * j + 0) (8 * k + 0) (page_sector place k) (omega (arith, lt)) (omega (arith, inside))
      (lies_in_row j 0 (omega (arith, lt, inside)) (omega arith) ∙ ap Some (let e : page_sector place j + 0 ≡ page_sector place k = omega (arith, same) in e))
      (lies_in_row k 0 inside (omega arith) ∙ ap Some (let e : page_sector place k + 0 ≡ page_sector place k = omega arith in e))

  pub lie_apart : (j k : ℕ) → j < place.pages → k < place.pages → j ≢ k → (page_sector place j + 8 ≤ page_sector place k) ⊎ (page_sector place k + 8 ≤ page_sector place j)
  lie_apart j k inside inside' other =
      let here = begins_row j inside in
      let there = begins_row k inside' in
      let a = page_sector place j in
      let b = page_sector place k in
      elim (cases_lt a b) [
        | inl less ↦ inl (omega arith)
        | inr more ↦ elim (cases_lt b a) [
          | inl less ↦ inr (omega arith)
          | inr even ↦
              let same : a ≡ b = omega arith in
              elim (cases_lt j k) [
                | inl before ↦ absurd (twice j k before inside' same)
                | inr behind ↦ absurd (twice k j (omega (arith, other, behind)) inside (sym same))
              ]
        ]
      ]

-- ---- what is read of a page

-- rows of equal sectors have equal bytes
pub raw_shift : (f g : ℕ → List ℕ) (a c n : ℕ) → ((k : ℕ) → k < n → f (a + k) ≡ g (c + k)) → raw_from f a n ≡ raw_from g c n
unfolding raw_from
raw_shift f g a c zero same = refl
raw_shift f g a c (suc n) same =
    let here : f a ≡ g c = ap f (let e : a ≡ a + 0 = omega arith in e) ∙ same 0 (omega arith) ∙ ap g (let e : c + 0 ≡ c = omega arith in e) in
    let rest : raw_from f (a + 1) n ≡ raw_from g (c + 1) n = raw_shift f g (a + 1) (c + 1) n
    (λ k lt. ap f (let e : a + 1 + k ≡ a + suc k = omega arith in e) ∙ same (suc k) (omega (arith, lt)) ∙ ap g (let e : c + suc k ≡ c + 1 + k = omega arith in e)) in
    ap (λ (x : List ℕ). x ++ raw_from f (a + 1) n) here ∙ ap (λ (x : List ℕ). g c ++ x) rest

plain_sector : (at : SectorBytes) (s : ℕ) → (content_of at (record { first = s; kind = Plain })).bytes ≡ at s
unfolding body_of raw_from
plain_sector at s = append-nil (at s)

pub read_is_raw : (place : LogPlace) (at : SectorBytes) (k : ℕ) → IsRingPlace place → k < place.pages → page_in (content_of at) place k ≡ raw_page place at k
unfolding page_in raw_page
read_is_raw place at k ring inside = raw_shift (log_bytes (content_of at) place) at (8 * k) (page_sector place k) 8 (λ i few. one i few)
  where
    one : (i : ℕ) → i < 8 → log_bytes (content_of at) place (8 * k + i) ≡ at (page_sector place k + i)
    one i few =
        let valid = place.initialised - 512 * (8 * k + i) in
        let enough = (ring.pages k inside).1.initialised in
        ap (λ (o : Option ℕ). sector_bytes (content_of at) valid o) (lies_in_row place ring k i inside few)
        ∙ all_initialised valid (content_of at (record { first = page_sector place k + i; kind = Plain })).bytes (omega (arith, enough, few))
        ∙ plain_sector at (page_sector place k + i)

-- two images with equal sectors of a page
pub raw_same : (place : LogPlace) (at at' : SectorBytes) (k : ℕ) → ((i : ℕ) → i < 8 → at (page_sector place k + i) ≡ at' (page_sector place k + i)) → raw_page place at k ≡ raw_page place at' k
unfolding raw_page
raw_same place at at' k same = raw_shift at at' (page_sector place k) (page_sector place k) 8 same

-- ---- writes elsewhere

not_within : (first count s : ℕ) → (s < first) ⊎ (first + count ≤ s) → is_within first count s ≡ false
not_within first count s (inl lt) = ap (λ (b : Bool). b && nat_lt s (first + count)) (lt-leb first s lt)
not_within first count s (inr le) = ap (λ (b : Bool). nat_le first s && b) (le-ltb s (first + count) le) ∙ either (nat_le first s)
  where
    either : (b : Bool) → b && false ≡ false
    either true = refl
    either false = refl

pub kept_elsewhere : (place : LogPlace) (from to first : ℕ) (new : List (List ℕ)) (disk now : Disk)
    → ((k i : ℕ) → from ≤ k → k < to → i < 8 → is_within first (length new) (page_sector place k + i) ≡ false) → IsBetween disk (put first new disk) now → AreAlike place from to disk now
kept_elsewhere place from to first new disk now out between = record {
  durable = λ k i low high few. between.durable (page_sector place k + i);
  written = λ k i low high few. same (page_sector place k + i) (out k i low high few) (between.written (page_sector place k + i));
}
  where
    same : (s : ℕ) → is_within first (length new) s ≡ false → (now.written s ≡ disk.written s) ⊎ (now.written s ≡ (put first new disk).written s) → now.written s ≡ disk.written s
    same s no_write (inl e) = e
    same s no_write (inr e) = e ∙ ap (λ (b : Bool). if b then sector_of new (s - first) ∷ disk.written s else disk.written s) no_write

pub kept_by_page : (place : LogPlace) (from to k : ℕ) (new : List (List ℕ)) (disk now : Disk) → IsRingPlace place → to ≤ place.pages → k < place.pages → length new ≡ 8
    → (k < from) ⊎ (to ≤ k) → IsBetween disk (put (page_sector place k) new disk) now → AreAlike place from to disk now
kept_by_page place from to k new disk now ring ends inside sized out between = kept_elsewhere place from to (page_sector place k) new disk now one between
  where
    other : (j : ℕ) → from ≤ j → j < to → (k < from) ⊎ (to ≤ k) → j ≢ k
    other j low high (inl lt) e = omega (arith, low, lt, e)
    other j low high (inr le) e = omega (arith, high, le, e)

    one : (j i : ℕ) → from ≤ j → j < to → i < 8 → is_within (page_sector place k) (length new) (page_sector place j + i) ≡ false
    one j i low high few = elim (lie_apart place ring j k (omega (arith, high, ends)) inside (other j low high out)) [
      | inl before ↦ not_within (page_sector place k) (length new) (page_sector place j + i) (inl (omega (arith, before, few)))
      | inr behind ↦ not_within (page_sector place k) (length new) (page_sector place j + i) (inr (omega (arith, behind, sized)))
    ]
