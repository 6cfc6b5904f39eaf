-- The numbers of pages: their places, laps and LSNs.
use Rattle.std.proofs.Common.{◌≡◌, ◌≢◌, ℕ, suc, ◌+◌, ◌*◌, ◌/◌, ◌%◌, ◌^◌, ◌<◌, ◌≤◌, Bool, true, cond, max, sym, ap, ◌∙◌, inl, inr, arith}
use Rattle.std.specs.Prelude.{nat_le, nat_lt, ◌&&◌}
use Rattle.std.proofs.lemmas.Bool.{cases_lt, eq-eqb, ne_eqb, le-leb, lt-ltb}
use Rattle.std.proofs.lemmas.Nat.{div-add-mod', mod_below, div-mul-add, mod-mul-add}
use Rattle.std.proofs.Math.Nat.{lt_of_mul-lt-mul_right, mul-le-mul_right, zero-div, zero-mod}
use Rattle.log_reading.specs.log_page.Places.{page_bytes, first_page, entries_at, place_bits, lap_of, offset_of, page_of, is_in_ring, page_after, lap_after}
use Rattle.log_reading.specs.log_page.LiveLogs.{start_in_page}
use Rattle.log_laws.proofs.log_page.PlacesFit.{log_fits, says_place}
use Rattle.store_model.specs.Rings.{HasPlaces}
use Rattle.ring_laws.specs.Numbers.{LogSession, ring_size, place_of_page, lap_of_page, lsn_of_page, IsInRing}

-- ---- rounds

round_apart : (m i j : ℕ) → i < j → j < i + m → i % m ≢ j % m
round_apart m i j lt near same =
    let here : i / m * m + i % m ≡ i = div-add-mod' i m in
    let there : j / m * m + j % m ≡ j = div-add-mod' j m in
    let less : i / m * m < j / m * m = omega arith in
    let more : i / m < j / m = lt_of_mul-lt-mul_right m less in
    let whole : (i / m + 1) * m ≤ j / m * m = mul-le-mul_right m (omega arith) in
    let parts : (i / m + 1) * m ≡ i / m * m + m = omega arith in
    absurd (omega arith)

pub has_places : (s : LogSession) → HasPlaces (ring_size s) (place_of_page s)
has_places s i j lt near same = round_apart (ring_size s) i j lt near (let e : i % ring_size s ≡ j % ring_size s = omega arith in e)

pub first_number : (s : LogSession) → (place_of_page s 0 ≡ first_page) × (lap_of_page s 0 ≡ s.lap)
first_number s = (ap (λ (k : ℕ). first_page + k) (zero-mod (ring_size s)), ap (λ (k : ℕ). s.lap + k) (zero-div (ring_size s)) ∙ omega arith)

step_inside : (m n : ℕ) → n % m + 1 < m → (suc n / m ≡ n / m) × (suc n % m ≡ n % m + 1)
step_inside m n lt =
    let here : n / m * m + n % m ≡ n = div-add-mod' n m in
    let next : suc n ≡ n / m * m + (n % m + 1) = omega arith in
    (ap (λ (k : ℕ). k / m) next ∙ div-mul-add (n / m) m (n % m + 1) lt, ap (λ (k : ℕ). k % m) next ∙ mod-mul-add (n / m) m (n % m + 1) lt)

step_round : (m n : ℕ) → 0 < m → n % m + 1 ≡ m → (suc n / m ≡ n / m + 1) × (suc n % m ≡ 0)
step_round m n some last =
    let here : n / m * m + n % m ≡ n = div-add-mod' n m in
    let parts : (n / m + 1) * m ≡ n / m * m + m = omega arith in
    let next : suc n ≡ (n / m + 1) * m + 0 = omega arith in
    (ap (λ (k : ℕ). k / m) next ∙ div-mul-add (n / m + 1) m 0 some, ap (λ (k : ℕ). k % m) next ∙ mod-mul-add (n / m + 1) m 0 some)

module _ (s : LogSession) (ring : first_page < s.place.pages) where
  abbrev pages : ℕ
  pages = s.place.pages

  some : 0 < ring_size s
  some = omega (arith, ring)

  below : (n : ℕ) → n % ring_size s < ring_size s
  below n = mod_below n (ring_size s) some

  pub in_ring : (n : ℕ) → IsInRing s.place (place_of_page s n)
  in_ring n = let lt = below n in record { begun = omega arith; inside = omega (arith, lt) }

  pub next_page : (n : ℕ) → (place_of_page s (suc n) ≡ page_after pages (place_of_page s n)) × (lap_of_page s (suc n) ≡ lap_after pages (lap_of_page s n) (place_of_page s n))
  next_page n = let lt = below n in elim (cases_lt (n % ring_size s + 1) (ring_size s)) [
    | inl before ↦
        let step = step_inside (ring_size s) n before in (
          ap (λ (k : ℕ). first_page + k) step.1 ∙ (let e : first_page + (n % ring_size s + 1) ≡ place_of_page s n + 1 = omega arith in e) ∙ sym (ap (λ (b : Bool). cond b first_page (place_of_page s n + 1)) (ne_eqb (place_of_page s n + 1) pages (λ e. omega arith))),
          ap (λ (k : ℕ). s.lap + k) step.0 ∙ sym (ap (λ (b : Bool). cond b (lap_of_page s n + 1) (lap_of_page s n)) (ne_eqb (place_of_page s n + 1) pages (λ e. omega arith))),
        )
    | inr behind ↦
        let step = step_round (ring_size s) n some (omega arith) in (
          ap (λ (k : ℕ). first_page + k) step.1 ∙ sym (ap (λ (b : Bool). cond b first_page (place_of_page s n + 1)) (eq-eqb (place_of_page s n + 1) pages (omega arith))),
          ap (λ (k : ℕ). s.lap + k) step.0 ∙ (let e : s.lap + (n / ring_size s + 1) ≡ lap_of_page s n + 1 = omega arith in e) ∙ sym (ap (λ (b : Bool). cond b (lap_of_page s n + 1) (lap_of_page s n)) (eq-eqb (place_of_page s n + 1) pages (omega arith))),
        )
  ]

  -- ---- what an LSN says

  module _ (small : page_bytes * pages < 2 ^ 64) where
    pub says_lap : (n : ℕ) → lap_of pages (lsn_of_page s n) ≡ lap_of_page s n
    says_lap n = let lt = below n in (says_place pages (lap_of_page s n) (page_bytes * place_of_page s n + entries_at) small (omega (arith, lt)) (omega arith)).0

    says_offset : (n : ℕ) → offset_of pages (lsn_of_page s n) ≡ page_bytes * place_of_page s n + entries_at
    says_offset n = let lt = below n in (says_place pages (lap_of_page s n) (page_bytes * place_of_page s n + entries_at) small (omega (arith, lt)) (omega arith)).1

    pub says_page : (n : ℕ) → page_of pages (lsn_of_page s n) ≡ place_of_page s n
    says_page n = let at = says_offset n in omega arith

    pub says_ring : (n : ℕ) → is_in_ring pages (lsn_of_page s n) ≡ true
    says_ring n =
        let lt = below n in
        let page = says_page n in
        ap (λ (k : ℕ). nat_le first_page k && nat_lt k pages) page
        ∙ ap (λ (b : Bool). b && nat_lt (place_of_page s n) pages) (le-leb first_page (place_of_page s n) (omega arith)) ∙ lt-ltb (place_of_page s n) pages (omega (arith, lt))

    pub says_start : (n : ℕ) → start_in_page pages (lsn_of_page s n) ≡ entries_at
    says_start n =
        let at = says_offset n in
        let here : offset_of pages (lsn_of_page s n) % page_bytes ≡ entries_at = omega arith in
        ap (λ (k : ℕ). max entries_at k) here

    in_eights : (n : ℕ) → lsn_of_page s n ≡ lap_of_page s n * 2 ^ place_bits pages + (512 * place_of_page s n + 8)
    in_eights n = ap (λ (k : ℕ). lap_of_page s n * 2 ^ place_bits pages + k) (let e : (page_bytes * place_of_page s n + entries_at) / 8 ≡ 512 * place_of_page s n + 8 = omega arith in e)

    pub lsns_rise : (m n : ℕ) → m < n → lsn_of_page s m + 512 ≤ lsn_of_page s n
    lsns_rise m n lt =
        let size = ring_size s in
        let w = 2 ^ place_bits pages in
        let fits : 512 * pages < w = log_fits pages (omega (arith, ring)) small in
        let here : m / size * size + m % size ≡ m = div-add-mod' m size in
        let there : n / size * size + n % size ≡ n = div-add-mod' n size in
        let early = in_eights m in
        let late = in_eights n in
        let short = below m in
        let short' = below n in
        elim (cases_lt (m / size) (n / size)) [
          | inl less ↦
              let laps : (lap_of_page s m + 1) * w ≤ lap_of_page s n * w = mul-le-mul_right w (omega arith) in
              let parts : (lap_of_page s m + 1) * w ≡ lap_of_page s m * w + w = omega arith in
              omega arith
          | inr more ↦ elim (cases_lt (n / size) (m / size)) [
            | inl back ↦
                let whole : (n / size + 1) * size ≤ m / size * size = mul-le-mul_right size (omega arith) in
                let parts : (n / size + 1) * size ≡ n / size * size + size = omega arith in
                absurd (omega arith)
            | inr equal ↦
                let round : m / size ≡ n / size = omega arith in
                let laps : lap_of_page s m * w ≡ lap_of_page s n * w = ap (λ (q : ℕ). (s.lap + q) * w) round in
                let rounds : m / size * size ≡ n / size * size = ap (λ (q : ℕ). q * size) round in
                omega arith
          ]
        ]
