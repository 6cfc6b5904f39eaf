-- The lap of a page behind the one that is filled.
use Rattle.std.proofs.Common.{◌≡◌, ◌↔◌, subst, ℕ, ◌+◌, ◌-◌, ◌*◌, ◌/◌, ◌%◌, ◌^◌, ◌<◌, ◌≤◌, Bool, true, false, cond, Option, Some, None, refl, sym, ap, ap₂, ◌∙◌, inl, inr, arith}
use Rattle.std.specs.Prelude.{is_some, IfSome, MatchOption}
use Rattle.std.proofs.Math.Nat.{mod-lt, lt-mul-div-succ, mul-le-mul_right}
use Rattle.std.proofs.lemmas.Nat.{div-mul-add}
use Rattle.std.proofs.lemmas.Bool.{cases_lt}
use Rattle.txn_laws.specs.log_page.Places.{place_bits, sequence_bits, lap_of, page_lsn}
use Rattle.txn_laws.proofs.log_page.PlacesFit.{log_fits}
use Rattle.device_blocks.specs.log_area.Areas.{LogAreaOf, ring_size, lap_at, place_at, number_lsn, fits, next_number, next_at, next_lsn}
use Rattle.device_blocks.proofs.log_area.Numbering.{all_bits, next_inside}
use Rattle.txn_laws.proofs.store_model.Told.{true≢false}
use Rattle.txn_core.specs.Tells.{HasLap}

module _ (a : LogAreaOf) (some : 4 < a.pages) (few : a.pages < 2 ^ 52) where
  abbrev w : ℕ
  w = 2 ^ place_bits a.pages

  abbrev laps : ℕ
  laps = 2 ^ sequence_bits a.pages

  room : 512 * a.pages < w
  room = log_fits a.pages (omega (arith, some)) (omega (arith, few))

  whole : laps * w ≡ 2 ^ 64
  whole = all_bits a.pages

  -- the lap of an LSN of a page
  pub lap_is : (n at : ℕ) → at < 4096 → lap_of a.pages (number_lsn a n at) ≡ lap_at a n
  lap_is n at inside =
      let full : 0 < ring_size a = omega (arith, some) in
      let place : n % ring_size a < ring_size a = mod-lt n full in
      let space = room in
      let below : (4096 * (4 + place_at a n) + at) / 8 < w = omega arith in
      div-mul-add (lap_at a n) w ((4096 * (4 + place_at a n) + at) / 8) below

  pub first_lap : (next n size : ℕ) → next ≡ next_lsn a 0x58 → n ≡ next_number a 0x58 → size ≡ ring_size a → (n / size ≤ lap_of a.pages next) × (lap_of a.pages next - n / size ≡ a.lap)
  first_lap next n size next_is n_is size_is =
      let inside = next_inside a 0x58 (omega arith) in
      let lap : lap_of a.pages next ≡ lap_at a (next_number a 0x58) = ap (lap_of a.pages) next_is ∙ lap_is (next_number a 0x58) (next_at a 0x58) (omega (arith, inside)) in
      let same : n / size ≡ next_number a 0x58 / ring_size a = ap₂ (λ (x : ℕ) (y : ℕ). x / y) n_is size_is in
      (omega (arith, lap, same), omega (arith, lap, same))

  -- pages are few
  pub few_sealed : HasLap a → a.sealed < 2 ^ 55
  few_sealed lap =
      let size = ring_size a in
      let full : 0 < size = omega (arith, some) in
      let le : a.sealed ≤ next_number a 0x58 = by_fit (fits a 0x58) in
      let lt : next_number a 0x58 < size * (next_number a 0x58 / size + 1) = lt-mul-div-succ (next_number a 0x58) full in
      let turns : next_number a 0x58 / size + 1 ≤ laps = omega (arith, lap) in
      let wide : (next_number a 0x58 / size + 1) * (512 * size) ≤ laps * (512 * size) = mul-le-mul_right (512 * size) turns in
      let wider : (512 * size) * laps ≤ w * laps = (let space = room in mul-le-mul_right laps (omega (arith, space))) in
      let all = whole in
      omega arith
    where
      by_fit : (t : Bool) → a.sealed ≤ cond t a.sealed (a.sealed + 1)
      by_fit true = omega arith
      by_fit false = omega arith

  -- a lap has LSNs of 64 bits exactly where its first page has
  pub tested : (lap : ℕ) (o : Option ℕ) → MatchOption o (2 ^ 64 ≤ page_lsn a.pages lap 4) (λ x. x ≡ page_lsn a.pages lap 4) → ((x : ℕ) → o ≡ Some x → x < 2 ^ 64) → (is_some o ≡ true) ↔ (lap < laps)
  tested lap (Some x) is small = (λ e. under (small x refl), λ lt. refl)
    where
      under : x < 2 ^ 64 → lap < laps
      under lt = elim (cases_lt lap laps) [
        | inl less ↦ less
        | inr over ↦ (let le : laps * w ≤ lap * w = mul-le-mul_right w over in let all = whole in absurd (omega (arith, lt, is, le, all)))
      ]
  tested lap None is small = (λ e. absurd (true≢false (sym e)), λ lt. absurd (over lt))
    where
      over : lap < laps → ⊥
      over lt =
          let ends : (lap + 1) * w ≤ laps * w = mul-le-mul_right w (omega (arith, lt)) in
          let apart : (lap + 1) * w ≡ lap * w + w = omega arith in
          let all = whole in
          let space = room in
          omega (arith, ends, apart, all, space, is, some)

pub behind : (a : LogAreaOf) (some : 4 < a.pages) (few : a.pages < 2 ^ 52) (all first page size count : ℕ) (o : Option ℕ) (result : Bool) → all ≡ a.pages → first ≡ a.lap → page ≡ a.sealed + count → size ≡ ring_size a
    → MatchOption o (2 ^ 64 ≤ page_lsn all (first + page / size) 4) (λ x. x ≡ page_lsn all (first + page / size) 4) → IfSome o (λ x. x + 504 < 2 ^ 64) → result ≡ is_some o → (result ≡ true) ↔ (lap_at a (a.sealed + count) < 2 ^ sequence_bits a.pages)
behind a some few all first page size count o result all_is first_is page_is size_is value space is =
    let lap : first + page / size ≡ lap_at a (a.sealed + count) = ap₂ (λ (x : ℕ) (y : ℕ). x + y / size) first_is page_is ∙ ap (λ (z : ℕ). a.lap + (a.sealed + count) / z) size_is in
    let there : MatchOption o (2 ^ 64 ≤ page_lsn a.pages (lap_at a (a.sealed + count)) 4) (λ x. x ≡ page_lsn a.pages (lap_at a (a.sealed + count)) 4) =
    subst (λ (p : ℕ). MatchOption o (2 ^ 64 ≤ page_lsn p (lap_at a (a.sealed + count)) 4) (λ x. x ≡ page_lsn p (lap_at a (a.sealed + count)) 4)) all_is
    (subst (λ (l : ℕ). MatchOption o (2 ^ 64 ≤ page_lsn all l 4) (λ x. x ≡ page_lsn all l 4)) lap value) in
    subst (λ (v : Bool). (v ≡ true) ↔ (lap_at a (a.sealed + count) < 2 ^ sequence_bits a.pages)) (sym is) (tested a some few (lap_at a (a.sealed + count)) o there (λ x e. small o x e space))
  where
    small : (p : Option ℕ) (x : ℕ) → p ≡ Some x → IfSome p (λ y. y + 504 < 2 ^ 64) → x < 2 ^ 64
    small p x e lt = let there : IfSome (Some x) (λ y. y + 504 < 2 ^ 64) = subst (λ (q : Option ℕ). IfSome q (λ y. y + 504 < 2 ^ 64)) e lt in omega (arith, there)
