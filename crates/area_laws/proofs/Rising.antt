-- The place where the least entry goes next rises.
use Rattle.std.proofs.Common.{◌≡◌, ◌⊎◌, ℕ, ◌+◌, ◌*◌, ◌^◌, ◌<◌, ◌≤◌, Bool, cond, List, sym, ap, ap₂, inl, inr, arith}
use Rattle.std.proofs.lemmas.Bool.{cases_lt, lt-leb, le-leb}
use Rattle.std.proofs.Math.Nat.{div-lt_iff_lt-mul}
use Rattle.ring_laws.specs.log_page.Places.{place_bits, lap_of}
use Rattle.ring_laws.proofs.log_page.PlacesFit.{log_fits}
use Rattle.ring_laws.specs.log_reading.Rings.{IsRingPlace}
use Rattle.ring_laws.specs.Numbers.{LogSession, lap_of_page, lsn_of_page}
use Rattle.ring_laws.proofs.Numbering.{first_number, lsns_rise}
use Rattle.ring_laws.proofs.RingFacts.{has_ring, log_small}
use Rattle.log_area.specs.Areas.{RingPageOf, LogAreaOf, number_lsn, next_number, next_at, next_lsn}
use Rattle.area_laws.specs.Standing.{IsSessionOf}
use Rattle.area_laws.proofs.Appending.{session_lsn}

-- one place isn't behind the other
abbrev pub IsBefore : ℕ → ℕ → ℕ → ℕ → Type 0
IsBefore m at n bt = (m < n) ⊎ ((m ≡ n) × (at ≤ bt))

lsn_rises : (s : LogSession) (a : LogAreaOf) (m at n bt : ℕ) → IsSessionOf s a → IsRingPlace s.place → IsBefore m at n bt → at ≤ 4096 → 0x40 ≤ bt → number_lsn a m at ≤ number_lsn a n bt
lsn_rises s a m at n bt own lies (inl lt) few above =
    let here = session_lsn s a m at own in
    let there = session_lsn s a n bt own in
    let rise = lsns_rise s (has_ring s.place lies) (log_small s.place lies) m n lt in
    let w = lap_of_page s m * 2 ^ place_bits s.place.pages in
    let v = lap_of_page s n * 2 ^ place_bits s.place.pages in
    omega arith
lsn_rises s a m at n bt own lies (inr (same, le)) few above =
    let here = session_lsn s a m at own in
    let there : number_lsn a m bt ≡ number_lsn a n bt = ap (λ (j : ℕ). number_lsn a j bt) same in
    let after = session_lsn s a m bt own in
    let w = lap_of_page s m * 2 ^ place_bits s.place.pages in
    omega arith

-- where an entry of so many bytes goes
pub next_place : (a : LogAreaOf) (bytes : ℕ) → ((a.free + bytes ≤ 4096) × (next_number a bytes ≡ a.sealed) × (next_at a bytes ≡ a.free)) ⊎ ((4096 < a.free + bytes) × (next_number a bytes ≡ a.sealed + 1) × (next_at a bytes ≡ 0x40))
next_place a bytes = elim (cases_lt 4096 (a.free + bytes)) [
  | inl lt ↦
      let no = lt-leb (a.free + bytes) 4096 lt in
      inr (lt, ap (λ (b : Bool). cond b a.sealed (a.sealed + 1)) no, ap (λ (b : Bool). cond b a.free 0x40) no)
  | inr le ↦
      let fit = le-leb (a.free + bytes) 4096 le in
      inl (le, ap (λ (b : Bool). cond b a.sealed (a.sealed + 1)) fit, ap (λ (b : Bool). cond b a.free 0x40) fit)
]

module _ (s : LogSession) (a : LogAreaOf) (own : IsSessionOf s a) (lies : IsRingPlace s.place) (above : 0x40 ≤ a.free) (below : a.free ≤ 4096) (ring : List RingPageOf) (free sealed : ℕ) (past : 0x40 ≤ free) where
  abbrev b : LogAreaOf
  b = record a { ring = ring; free = free; sealed = sealed }

  by_places : (m at n bt : ℕ) → next_number a 0x58 ≡ m → next_at a 0x58 ≡ at → next_number b 0x58 ≡ n → next_at b 0x58 ≡ bt → IsBefore m at n bt → at ≤ 4096 → 0x40 ≤ bt → next_lsn a 0x58 ≤ next_lsn b 0x58
  by_places m at n bt m_is at_is n_is bt_is order few low =
      let here : next_lsn a 0x58 ≡ number_lsn a m at = ap₂ (number_lsn a) m_is at_is in
      let there : next_lsn b 0x58 ≡ number_lsn a n bt = ap₂ (number_lsn a) n_is bt_is in
      let le = lsn_rises s a m at n bt own lies order few low in
      omega arith

  pub next_rises : IsBefore a.sealed a.free sealed free → next_lsn a 0x58 ≤ next_lsn b 0x58
  next_rises order = elim (next_place a 0x58) [
    | inl (fit, number, at) ↦ elim (next_place b 0x58) [
      | inl (fit', number', at') ↦ by_places a.sealed a.free sealed free number at number' at' order below past
      | inr (full', number', at') ↦ by_places a.sealed a.free (sealed + 1) 0x40 number at number' at' (inl (sealed_rises order)) below (omega arith)
    ]
    | inr (full, number, at) ↦ elim (next_place b 0x58) [
      | inl (fit', number', at') ↦ by_places (a.sealed + 1) 0x40 sealed free number at number' at' (next_page full fit' order) (omega arith) past
      | inr (full', number', at') ↦ by_places (a.sealed + 1) 0x40 (sealed + 1) 0x40 number at number' at' (both_next order) (omega arith) (omega arith)
    ]
  ]
    where
      sealed_rises : IsBefore a.sealed a.free sealed free → a.sealed < sealed + 1
      sealed_rises (inl lt) = omega arith
      sealed_rises (inr (same, le)) = omega arith

      next_page : 4096 < a.free + 0x58 → free + 0x58 ≤ 4096 → IsBefore a.sealed a.free sealed free → IsBefore (a.sealed + 1) 0x40 sealed free
      next_page full fit (inl lt) = elim (cases_lt (a.sealed + 1) sealed) [
        | inl more ↦ inl more
        | inr le ↦ inr (omega arith, past)
      ]
      next_page full fit (inr (same, le)) = absurd (omega arith)

      both_next : IsBefore a.sealed a.free sealed free → IsBefore (a.sealed + 1) 0x40 (sealed + 1) 0x40
      both_next (inl lt) = inl (omega arith)
      both_next (inr (same, le)) = inr (omega arith, omega arith)

-- with an entry more
pub append_before : (a : LogAreaOf) (bytes : ℕ) → IsBefore a.sealed a.free (next_number a bytes) (next_at a bytes + bytes)
append_before a bytes = elim (next_place a bytes) [
  | inl (fit, number, at) ↦ inr (sym number, omega arith)
  | inr (full, number, at) ↦ inl (omega arith)
]

-- an LSN of an earlier lap is below those of a session
pub lap_below : (s : LogSession) (lsn : ℕ) → IsRingPlace s.place → lap_of s.place.pages lsn < s.lap → lsn < lsn_of_page s 0
lap_below s lsn lies lt =
    let some = lies.ring in
    let few = lies.small in
    let room = log_fits s.place.pages (omega arith) (omega arith) in
    let full : 0 < 2 ^ place_bits s.place.pages = omega arith in
    let below : lsn < s.lap * 2 ^ place_bits s.place.pages = (div-lt_iff_lt-mul full).0 lt in
    let first = (first_number s).1 in
    let w = lap_of_page s 0 * 2 ^ place_bits s.place.pages in
    let same : s.lap * 2 ^ place_bits s.place.pages ≡ lap_of_page s 0 * 2 ^ place_bits s.place.pages = ap (λ (l : ℕ). l * 2 ^ place_bits s.place.pages) (sym first) in
    omega arith
