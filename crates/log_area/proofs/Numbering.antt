-- The numbers of a ring's pages, and their LSNs, fit 64 bits.
use Rattle.std.proofs.Common.{◌≡◌, ℕ, ◌+◌, ◌-◌, ◌*◌, ◌/◌, ◌%◌, ◌^◌, ◌<◌, ◌≤◌, true, sym, ap, ◌∙◌, ap₂, inl, inr, arith, length}
use Rattle.std.proofs.Math.Nat.{mod-lt, lt-mul-div-succ, div-lt_iff_lt-mul, mul-le-mul_left, mul-le-mul_right, mod-add-mod, mod-eq_of_lt, div-mul-le_self}
use Rattle.std.proofs.Math.Pow.{pow_mono}
use Rattle.std.proofs.lemmas.Nat.{pow-add}
use Rattle.std.specs.Prelude.{nat_lt, ◌↔◌}
use Rattle.std.proofs.lemmas.Bool.{cases_lt, le-leb, lt-leb, lt-ltb, le-ltb}
use Rattle.log_reading.specs.log_model.declared.entry.Entry.{Entry}
use Rattle.log_reading.specs.log_model.Entries.{entry_size}
use Rattle.log_reading.specs.log_page.Places.{page_bytes, first_page, digits, place_bits, sequence_bits, lsn_at, lap_of, page_of}
use Rattle.log_reading.proofs.log_page.PlacesFit.{log_fits}
use Rattle.log_reading.proofs.log_page.Shifts.{shifted}
use Rattle.log_reading.proofs.log_page.Readings.{size_some}
use Rattle.log_area.specs.Areas.{LogAreaOf, IsLogArea, ring_size, lap_at, number_lsn, next_number, next_at, next_lsn, IsOldest}

pub few_bits : (pages : ℕ) → place_bits pages ≤ 61
unfolding place_bits digits
few_bits pages = omega arith

-- the laps and the places share 64 bits
pub all_bits : (pages : ℕ) → 2 ^ sequence_bits pages * 2 ^ place_bits pages ≡ 2 ^ 64
all_bits pages =
    let few = few_bits pages in
    let e : 64 - place_bits pages + place_bits pages ≡ 64 = omega arith in
    sym (pow-add 2 (64 - place_bits pages) (place_bits pages)) ∙ ap (λ (j : ℕ). 2 ^ j) e

pub few_pages : (a : LogAreaOf) → IsLogArea a → a.sealed < 2 ^ 56
few_pages a k =
    let size = ring_size a in
    let w = 2 ^ place_bits a.pages in
    let laps = 2 ^ sequence_bits a.pages in
    let some = k.some in
    let few = k.few in
    let room : 512 * a.pages < w = log_fits a.pages (omega arith) (omega arith) in
    let whole : laps * w ≡ 2 ^ 64 = all_bits a.pages in
    let most : w ≤ 2 ^ 61 = pow_mono (few_bits a.pages) in
    let below : a.sealed < size * (a.sealed / size + 1) = lt-mul-div-succ a.sealed (omega arith) in
    let turns : a.sealed / size + 1 ≤ laps + 1 = omega (arith, k.laps) in
    let wide : size * (a.sealed / size + 1) ≤ size * (laps + 1) = mul-le-mul_left size (omega arith) in
    let wider : (512 * size) * (laps + 1) ≤ w * (laps + 1) = mul-le-mul_right (laps + 1) (omega arith) in
    let apart : w * (laps + 1) ≡ laps * w + w = omega arith in
    let eights : (512 * size) * (laps + 1) ≡ 512 * (size * (laps + 1)) = omega arith in
    omega arith

pub sealed_fits : (a : LogAreaOf) → IsLogArea a → a.sealed + 1 < 2 ^ 64
sealed_fits a k = let few = few_pages a k in omega arith

pub place_inside : (a : LogAreaOf) (n size : ℕ) → size ≡ ring_size a → 0 < size → length a.ring ≡ ring_size a → n % size < length a.ring
place_inside a n size is some counted = let lt = mod-lt n some in omega arith

-- one page more makes one lap more at most
pub next_turn : (n size : ℕ) → 0 < size → (n + 1) / size ≤ n / size + 1
next_turn n size some =
    let lt : n < size * (n / size + 1) = lt-mul-div-succ n some in
    let below : n + 1 < (n / size + 2) * size = omega arith in
    let q = (div-lt_iff_lt-mul some).1 below in
    omega arith

-- a lap whose entries have LSNs ends by 2^64
pub lsn_room : (a : LogAreaOf) (n at : ℕ) → 4 < a.pages → a.pages < 2 ^ 52 → lap_at a n < 2 ^ sequence_bits a.pages → at + 0x58 ≤ 4096 → number_lsn a n at + 1 < 2 ^ 64
lsn_room a n at some few lt inside =
    let size = ring_size a in
    let w = 2 ^ place_bits a.pages in
    let laps = 2 ^ sequence_bits a.pages in
    let room : 512 * a.pages < w = log_fits a.pages (omega arith) (omega arith) in
    let whole : laps * w ≡ 2 ^ 64 = all_bits a.pages in
    let place : n % size < size = mod-lt n (omega arith) in
    let ends : (lap_at a n + 1) * w ≤ laps * w = mul-le-mul_right w (omega arith) in
    let apart : (lap_at a n + 1) * w ≡ lap_at a n * w + w = omega arith in
    omega arith

pub lsn_small : (a : LogAreaOf) (n at : ℕ) → 4 < a.pages → a.pages < 2 ^ 52 → lap_at a n < 2 ^ sequence_bits a.pages → at ≤ 4096 → number_lsn a n at < 2 ^ 64
lsn_small a n at some few lt inside =
    let size = ring_size a in
    let w = 2 ^ place_bits a.pages in
    let laps = 2 ^ sequence_bits a.pages in
    let room : 512 * a.pages < w = log_fits a.pages (omega arith) (omega arith) in
    let whole : laps * w ≡ 2 ^ 64 = all_bits a.pages in
    let place : n % size < size = mod-lt n (omega arith) in
    let ends : (lap_at a n + 1) * w ≤ laps * w = mul-le-mul_right w (omega arith) in
    let apart : (lap_at a n + 1) * w ≡ lap_at a n * w + w = omega arith in
    omega arith

-- the LSN as it is computed
pub computed_lsn : (pages lap page at bits : ℕ) → bits ≡ digits (4096 * pages) - 3
    → (lap * (1 * 2 ^ bits % 18446744073709551616) % 18446744073709551616 + (512 * page + at / 8)) % 18446744073709551616 ≡ lsn_at pages lap (page_bytes * page + at) % 18446744073709551616
unfolding place_bits
computed_lsn pages lap page at bits is =
    let few = few_bits pages in
    let same : bits ≡ place_bits pages = is in
    let shift : 1 * 2 ^ bits % 18446744073709551616 ≡ 2 ^ bits = shifted bits (omega arith) in
    let offset : 512 * page + at / 8 ≡ (4096 * page + at) / 8 = omega arith in
    mod-add-mod (lap * (1 * 2 ^ bits % 18446744073709551616)) 18446744073709551616 (512 * page + at / 8)
    ∙ ap (λ (x : ℕ). (x + (512 * page + at / 8)) % 18446744073709551616) (ap (λ (x : ℕ). lap * x) (shift ∙ ap (λ (j : ℕ). 2 ^ j) same))
    ∙ ap (λ (x : ℕ). (lap * 2 ^ place_bits pages + x) % 18446744073709551616) offset

-- ---- as calls compute them

pub fits_slot : (a : LogAreaOf) (n pages : ℕ) → IsLogArea a → pages ≡ a.pages → n % (pages - 4) < length a.ring
fits_slot a n pages k is =
    let some = k.some in
    let lt : n % (pages - 4) < pages - 4 = mod-lt n (omega arith) in
    omega (arith, k.places)

-- laps are few
pub few_laps : (a : LogAreaOf) (n : ℕ) → IsLogArea a → n ≤ a.sealed + 1 → lap_at a n < 2 ^ 60
few_laps a n k le =
    let size = ring_size a in
    let w = 2 ^ place_bits a.pages in
    let laps = 2 ^ sequence_bits a.pages in
    let some = k.some in
    let few = k.few in
    let room : 512 * a.pages < w = log_fits a.pages (omega arith) (omega arith) in
    let whole : laps * w ≡ 2 ^ 64 = all_bits a.pages in
    let most : laps * 2048 ≤ laps * w = mul-le-mul_left laps (omega arith) in
    let lt : a.sealed < size * (a.sealed / size + 1) = lt-mul-div-succ a.sealed (omega arith) in
    let below : n < (a.sealed / size + 2) * size = omega arith in
    let full : 0 < size = omega arith in
    let q : n / size < a.sealed / size + 2 = (div-lt_iff_lt-mul full).1 below in
    omega (arith, k.laps)

pub lap_sum : (a : LogAreaOf) (n lap size : ℕ) → IsLogArea a → n ≤ a.sealed + 1 → lap ≡ a.lap → size ≡ ring_size a → lap + n / size < 2 ^ 60
lap_sum a n lap size k le lap_is size_is = rw lap_is (rw size_is (few_laps a n k le))

pub lsn_is : (a : LogAreaOf) (n at pages lap size again bits : ℕ) → pages ≡ a.pages → lap ≡ a.lap → size ≡ ring_size a → again ≡ ring_size a → bits ≡ digits (4096 * pages) - 3
    → ((lap + n / size) * (1 * 2 ^ bits % 18446744073709551616) % 18446744073709551616 + (512 * (4 + n % again) + at / 8)) % 18446744073709551616 ≡ number_lsn a n at % 18446744073709551616
lsn_is a n at pages lap size again bits pages_is lap_is size_is again_is bits_is =
    computed_lsn pages (lap + n / size) (4 + n % again) at bits bits_is
    ∙ ap₂ (λ (p : ℕ) (l : ℕ). lsn_at p (l + n / size) (page_bytes * (4 + n % again) + at) % 18446744073709551616) pages_is lap_is
    ∙ ap₂ (λ (s : ℕ) (t : ℕ). lsn_at a.pages (a.lap + n / s) (page_bytes * (4 + n % t) + at) % 18446744073709551616) size_is again_is

pub next_inside : (a : LogAreaOf) (bytes : ℕ) → bytes ≤ 4032 → next_at a bytes + bytes ≤ 4096
next_inside a bytes few =
    elim (cases_lt 4096 (a.free + bytes)) [
      | inl lt ↦ rw (lt-leb (a.free + bytes) 4096 lt) (omega arith)
      | inr le ↦ rw (le-leb (a.free + bytes) 4096 le) le
    ]

pub next_exact : (a : LogAreaOf) (bytes found : ℕ) → IsLogArea a → bytes ≤ 4032 → found ≡ next_lsn a bytes % 18446744073709551616 → lap_at a (next_number a bytes) < 2 ^ sequence_bits a.pages → found ≡ next_lsn a bytes
next_exact a bytes found k few is lap = is ∙ mod-eq_of_lt (lsn_small a (next_number a bytes) (next_at a bytes) k.some k.few lap (let inside = next_inside a bytes few in omega arith))

pub next_lsn_is : (a : LogAreaOf) (bytes n at found : ℕ) → n ≡ next_number a bytes → at ≡ next_at a bytes → found ≡ number_lsn a n at % 18446744073709551616 → found ≡ next_lsn a bytes % 18446744073709551616
next_lsn_is a bytes n at found n_is at_is is = is ∙ ap₂ (λ (m : ℕ) (x : ℕ). number_lsn a m x % 18446744073709551616) n_is at_is

pub front_exact : (a : LogAreaOf) (found : ℕ) → IsLogArea a → found ≡ number_lsn a a.sealed 0x40 % 18446744073709551616 → lap_at a a.sealed < 2 ^ sequence_bits a.pages → found ≡ number_lsn a a.sealed 0x40
front_exact a found k is lap = is ∙ mod-eq_of_lt (lsn_small a a.sealed 0x40 k.some k.few lap (omega arith))

pub entry_small : (a : LogAreaOf) (e : Entry) (at bytes : ℕ) → IsLogArea a → lap_at a (next_number a (entry_size e)) < 2 ^ sequence_bits a.pages → e.lsn ≡ next_lsn a (entry_size e)
    → bytes ≡ entry_size e → at ≡ next_at a bytes → at + bytes ≤ 4096 → e.lsn + 1 < 18446744073709551616
entry_small a e at bytes k lap place bytes_are at_is inside =
    let some = size_some e in
    let same : next_at a bytes ≡ next_at a (entry_size e) = ap (next_at a) bytes_are in
    let few = lsn_room a (next_number a (entry_size e)) (next_at a (entry_size e)) k.some k.few lap (omega arith) in
    omega arith

pub number_fits : (a : LogAreaOf) (lsn turns pages size : ℕ) → IsLogArea a → lsn < 2 ^ 64 → turns ≡ lap_of a.pages lsn - a.lap → pages ≡ page_of a.pages lsn - first_page → size ≡ ring_size a
    → turns * size + pages < 2 ^ 60
number_fits a lsn turns pages size k small turns_are pages_are size_is =
    let w = 2 ^ place_bits a.pages in
    let q = lap_of a.pages lsn in
    let some = k.some in
    let few = k.few in
    let room : 512 * a.pages < w = log_fits a.pages (omega arith) (omega arith) in
    let most : w ≤ 2 ^ 61 = pow_mono (few_bits a.pages) in
    let back : q * w ≤ lsn = div-mul-le_self lsn w in
    let rest : lsn % w < w = mod-lt lsn (omega arith) in
    let less : turns * size ≤ q * size = mul-le-mul_right size (omega arith) in
    let wide : q * (512 * size) ≤ q * w = mul-le-mul_left q (omega arith) in
    let apart : q * (512 * size) ≡ 512 * (q * size) = omega arith in
    omega arith

-- ---- the last lap

-- the bits of laps, as a shift makes them
pub lap_limit : (a : LogAreaOf) (bits : ℕ) → IsLogArea a → bits ≡ sequence_bits a.pages → (bits < 64) × (1 * 2 ^ bits % 18446744073709551616 ≡ 2 ^ sequence_bits a.pages)
lap_limit a bits k is =
    let some = k.some in
    let few = k.few in
    let room : 512 * a.pages < 2 ^ place_bits a.pages = log_fits a.pages (omega arith) (omega arith) in
    elim (cases_lt 3 (place_bits a.pages)) [
      | inl enough ↦
          let small : bits ≤ 61 = omega arith in
          (omega arith, shifted bits small ∙ ap (λ (j : ℕ). 2 ^ j) is)
      | inr none ↦
          let low : 2 ^ place_bits a.pages ≤ 2 ^ 3 = pow_mono none in
          absurd (omega arith)
    ]

pub next_near : (a : LogAreaOf) (bytes : ℕ) → next_number a bytes ≤ a.sealed + 1
next_near a bytes =
    elim (cases_lt 4096 (a.free + bytes)) [
      | inl lt ↦ rw (lt-leb (a.free + bytes) 4096 lt) (omega arith)
      | inr le ↦ rw (le-leb (a.free + bytes) 4096 le) (omega arith)
    ]

pub next_sum : (a : LogAreaOf) (bytes lap n size : ℕ) → IsLogArea a → lap ≡ a.lap → n ≡ next_number a bytes → size ≡ ring_size a → lap + n / size < 2 ^ 60
next_sum a bytes lap n size k lap_is n_is size_is = let near = next_near a bytes in lap_sum a n lap size k (omega arith) lap_is size_is

pub lap_tested : (a : LogAreaOf) (bytes lap n size bits : ℕ) → IsLogArea a → lap ≡ a.lap → n ≡ next_number a bytes → size ≡ ring_size a → bits ≡ sequence_bits a.pages
    → (nat_lt (lap + n / size) (1 * 2 ^ bits % 18446744073709551616) ≡ true) ↔ (lap_at a (next_number a bytes) < 2 ^ sequence_bits a.pages)
lap_tested a bytes lap n size bits k lap_is n_is size_is bits_is =
    let limit = (lap_limit a bits k bits_is).1 in
    let sum : lap + n / size ≡ lap_at a (next_number a bytes) = ap₂ (λ (l : ℕ) (z : ℕ). l + n / z) lap_is size_is ∙ ap (λ (m : ℕ). a.lap + m / ring_size a) n_is in (
      λ test. elim (cases_lt (lap + n / size) (1 * 2 ^ bits % 18446744073709551616)) [
        | inl lt ↦ omega arith
        | inr le ↦ absurd (let e = le-ltb (lap + n / size) (1 * 2 ^ bits % 18446744073709551616) le in cc)
      ],
      λ lt. lt-ltb (lap + n / size) (1 * 2 ^ bits % 18446744073709551616) (omega arith),
    )
