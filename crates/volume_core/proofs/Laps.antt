-- The laps of a log, as a volume tests them.
use Rattle.std.proofs.Common.{◌≡◌, ℕ, suc, ◌+◌, ◌*◌, ◌/◌, ◌%◌, ◌^◌, ◌<◌, ◌≤◌, true, ap, ap₂, ◌∙◌, inl, inr, arith}
use Rattle.std.specs.Prelude.{nat_lt, ◌↔◌}
use Rattle.std.proofs.Math.Nat.{mod-lt}
use Rattle.std.proofs.Math.Pow.{pow_mono}
use Rattle.std.proofs.lemmas.Nat.{div-mul-add}
use Rattle.std.proofs.lemmas.Bool.{cases_lt, lt-ltb, le-ltb}
use Rattle.log_page.specs.Places.{place_bits, sequence_bits, lap_of}
use Rattle.log_page.proofs.PlacesFit.{log_fits}
use Rattle.log_page.proofs.Shifts.{shifted}
use Rattle.log_area.specs.Areas.{LogAreaOf, ring_size, lap_at, next_number, next_at, next_lsn}
use Rattle.log_area.proofs.Numbering.{next_inside}

-- the LSN of an entry says its lap
pub lap_said : (a : LogAreaOf) → 4 < a.pages → a.pages < 2 ^ 52 → lap_of a.pages (next_lsn a 0x58) ≡ lap_at a (next_number a 0x58)
lap_said a some few =
    let n = next_number a 0x58 in
    let at = next_at a 0x58 in
    let size = ring_size a in
    let w = 2 ^ place_bits a.pages in
    let room : 512 * a.pages < w = log_fits a.pages (omega arith) (omega arith) in
    let place : n % size < size = mod-lt n (omega arith) in
    let inside : at + 0x58 ≤ 4096 = next_inside a 0x58 (omega arith) in
    let fits : (4096 * (4 + n % size) + at) / 8 < w = omega arith in
    div-mul-add (lap_at a n) w ((4096 * (4 + n % size) + at) / 8) fits

-- the bits of laps are few, and their shift is their power of 2
pub bits_of_laps : (pages bits : ℕ) → 4 < pages → pages < 2 ^ 52 → bits ≡ sequence_bits pages → (bits < 64) × (1 * 2 ^ bits % 18446744073709551616 ≡ 2 ^ sequence_bits pages)
bits_of_laps pages bits some few is =
    let room : 512 * pages < 2 ^ place_bits pages = log_fits pages (omega arith) (omega arith) in
    elim (cases_lt 3 (place_bits pages)) [
      | inl enough ↦
          let small : bits ≤ 61 = omega arith in
          (omega arith, shifted bits small ∙ ap (λ (j : ℕ). 2 ^ j) is)
      | inr none ↦
          let low : 2 ^ place_bits pages ≤ 2 ^ 3 = pow_mono none in
          absurd (omega arith)
    ]

-- a number is tested
tested : (x y lap limit : ℕ) → x ≡ suc lap → y ≡ limit → (nat_lt x y ≡ true) ↔ (suc lap < limit)
tested x y lap limit x_is y_is = (
  λ test. elim (cases_lt x y) [
    | inl lt ↦ omega arith
    | inr le ↦ absurd (let e = le-ltb x y le in cc)
  ],
  λ lt. lt-ltb x y (omega arith),
)

-- the lap behind that of the least entry, as it is tested
pub lap_tested : (a l : LogAreaOf) (pages lsn lap bits : ℕ) → l ≡ a → pages ≡ a.pages → 4 < pages → pages < 2 ^ 52 → lsn ≡ next_lsn l 0x58 → lap ≡ lap_of pages lsn → bits ≡ sequence_bits pages
    → (nat_lt (lap + 1) (1 * 2 ^ bits % 18446744073709551616) ≡ true) ↔ (suc (lap_at a (next_number a 0x58)) < 2 ^ sequence_bits a.pages)
lap_tested a l pages lsn lap bits log_is pages_are some few lsn_is lap_is bits_are =
    let place : lsn ≡ next_lsn a 0x58 = lsn_is ∙ ap (λ (x : LogAreaOf). next_lsn x 0x58) log_is in
    let said : lap ≡ lap_at a (next_number a 0x58) = lap_is ∙ ap₂ (λ (p : ℕ) (x : ℕ). lap_of p x) pages_are place ∙ lap_said a (omega arith) (omega arith) in
    let behind : lap + 1 ≡ suc (lap_at a (next_number a 0x58)) = omega arith in
    tested (lap + 1) (1 * 2 ^ bits % 18446744073709551616) (lap_at a (next_number a 0x58)) (2 ^ sequence_bits a.pages) behind ((bits_of_laps pages bits some few bits_are).1 ∙ ap (λ (n : ℕ). 2 ^ sequence_bits n) pages_are)
