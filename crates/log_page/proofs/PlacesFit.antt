-- Binary digits, and what an LSN says.
use Rattle.std.proofs.Common.{◌≡◌, ℕ, suc, ◌+◌, ◌-◌, ◌*◌, ◌/◌, ◌%◌, ◌^◌, ◌<◌, ◌≤◌, Option, Some, None, sym, ap, ◌∙◌, subst, inl, inr, arith}
use Rattle.std.specs.Int.Count.{count_leading_zeros}
use Rattle.std.proofs.lemmas.Nat.{pow-add, leading_top, div-mul-add, mod-mul-add}
use Rattle.std.proofs.lemmas.Bool.{cases_lt}
use Rattle.std.specs.Option.{SomeIff}
use Rattle.std.specs.Prelude.{IfSome}
use Rattle.std.proofs.Math.Nat.{div-mul-le_self, mul-le-mul_left, mul-le-mul_right, lt_of_mul-lt-mul_right}
use Rattle.std.proofs.Math.Pow.{pow_mono}
use Rattle.log_page.specs.Places.{page_bytes, digits, place_bits, lsn_at, lap_of, offset_of}
use Rattle.log_page.proofs.Shifts.{shifted}

pub has_digits : (n : ℕ) → 0 < n → n < 2 ^ 64 → (2 ^ (digits n - 1) ≤ n) × (n < 2 ^ digits n)
unfolding digits
has_digits n some small =
    let top = leading_top 64 n some small in
    let j = top.0 in
    let zeros : count_leading_zeros 64 n + suc j ≡ 64 = top.1 in
    let all : suc j ≡ 64 - count_leading_zeros 64 n = omega arith in
    let less : j ≡ 64 - count_leading_zeros 64 n - 1 = omega arith in
    (subst (λ (k : ℕ). 2 ^ k ≤ n) less top.2, subst (λ (k : ℕ). n < 2 ^ k) all top.3)

-- a log has bits enough for its places
pub log_fits : (pages : ℕ) → 0 < pages → page_bytes * pages < 2 ^ 64 → 512 * pages < 2 ^ place_bits pages
unfolding place_bits
log_fits pages some small =
    let bytes = page_bytes * pages in
    let d = digits bytes in
    let has : bytes < 2 ^ d = (has_digits bytes (omega arith) small).1 in
    elim (cases_lt d 3) [
      | inl few ↦
          let below : d ≤ 3 = omega arith in
          let le : 2 ^ d ≤ 2 ^ 3 = pow_mono below in
          absurd (omega arith)
      | inr enough ↦
          let e : d ≡ suc (suc (suc (d - 3))) = omega arith in
          let eight : 2 ^ d ≡ 8 * 2 ^ (d - 3) = ap (λ (k : ℕ). 2 ^ k) e ∙ triple (d - 3) in
          omega arith
    ]
  where
    triple : (k : ℕ) → 2 ^ suc (suc (suc k)) ≡ 8 * 2 ^ k
    triple k = omega arith

places_fit : (pages offset : ℕ) → page_bytes * pages < 2 ^ 64 → offset < page_bytes * pages → offset / 8 < 2 ^ place_bits pages
places_fit pages offset small lt =
    let some : 0 < pages = omega arith in
    let fits = log_fits pages some small in
    let w = 2 ^ place_bits pages in
    omega arith

pub says_place : (pages lap offset : ℕ) → page_bytes * pages < 2 ^ 64 → offset < page_bytes * pages → offset % 8 ≡ 0 → (lap_of pages (lsn_at pages lap offset) ≡ lap) × (offset_of pages (lsn_at pages lap offset) ≡ offset)
says_place pages lap offset small lt eights =
    let w = 2 ^ place_bits pages in
    let fits = places_fit pages offset small lt in
    let place : 8 * (offset / 8) ≡ offset = omega arith in
    (div-mul-add lap w (offset / 8) fits, ap (λ (k : ℕ). 8 * k) (mod-mul-add lap w (offset / 8) fits) ∙ place)

-- ---- laps

-- a log's laps are fewer than 2^63
pub few_laps : (pages lsn k : ℕ) → 0 < pages → pages < 2 ^ 52 → k ≡ place_bits pages → k ≤ 61 → lsn < 2 ^ 64 → lsn / (1 * 2 ^ k % 18446744073709551616) < 9223372036854775808
few_laps pages lsn k some small is le range =
    let w = 2 ^ k in
    let fits : 512 * pages < 2 ^ k = subst (λ (j : ℕ). 512 * pages < 2 ^ j) (sym is) (log_fits pages some (omega arith)) in
    let two : 2 ≤ w = omega arith in
    let back = div-mul-le_self lsn w in
    let q = lsn / w in
    let more = mul-le-mul_left q two in
    let few : q < 9223372036854775808 = omega arith in
    rw (shifted k le) few

-- a lap that has an LSN ends by 2^64
lap_ends : (lap k : ℕ) → k ≤ 61 → lap * 2 ^ k < 2 ^ 64 → lap * 2 ^ k + 2 ^ k ≤ 2 ^ 64
lap_ends lap k le lt =
    let e : 64 - k + k ≡ 64 = omega arith in
    let all : 2 ^ (64 - k) * 2 ^ k ≡ 2 ^ 64 = sym (pow-add 2 (64 - k) k) ∙ ap (λ (j : ℕ). 2 ^ j) e in
    let inside : lap * 2 ^ k < 2 ^ (64 - k) * 2 ^ k = subst (λ (x : ℕ). lap * 2 ^ k < x) (sym all) lt in
    let below : lap < 2 ^ (64 - k) = lt_of_mul-lt-mul_right (2 ^ k) inside in
    let next : lap + 1 ≤ 2 ^ (64 - k) = omega arith in
    let whole : (lap + 1) * 2 ^ k ≤ 2 ^ (64 - k) * 2 ^ k = mul-le-mul_right (2 ^ k) next in
    omega arith

-- so does a page of it
pub page_room : (pages lap page k begin : ℕ) (r : Option ℕ) → page < pages → pages < 2 ^ 52 → k ≡ place_bits pages → k ≤ 61
    → begin ≡ lap * 2 ^ k → begin < 2 ^ 64 → SomeIff r (begin + (512 * page + 8) < 18446744073709551616) (begin + (512 * page + 8)) → IfSome r (λ lsn. lsn + 504 < 18446744073709551616)
page_room pages lap page k begin None inside small is le made range added = tt
page_room pages lap page k begin (Some lsn) inside small is le made range (fits, e) =
    let room : 512 * pages < 2 ^ k = subst (λ (j : ℕ). 512 * pages < 2 ^ j) (sym is) (log_fits pages (omega arith) (omega arith)) in
    let ends = lap_ends lap k le (subst (λ (x : ℕ). x < 2 ^ 64) made range) in
    omega arith
