-- The search for the fewest bytes that hold a number.
use Rattle.std.proofs.Common.{◌≡◌, ℕ, ℤ, suc, ◌+◌, ◌-◌, ◌<◌, Bool, true, false, cond, ap, ◌∙◌, arith}
use Rattle.record_model.specs.Pairs.{least_width, fits_bytes}

one_more : (bytes : ℕ) (z : ℤ) → bytes < 8 → least_width (8 - bytes) bytes z ≡ cond (fits_bytes bytes z) bytes (least_width (8 - (bytes + 1)) (bytes + 1) z)
unfolding least_width
one_more bytes z low =
    let count : 8 - bytes ≡ suc (8 - (bytes + 1)) = omega arith in
    let next : suc bytes ≡ bytes + 1 = omega arith in
    ap (λ (n : ℕ). least_width n bytes z) count ∙ ap (λ (n : ℕ). cond (fits_bytes bytes z) bytes (least_width (8 - (bytes + 1)) n z)) next

pub found : (bytes : ℕ) (z : ℤ) → bytes < 8 → fits_bytes bytes z ≡ true → least_width (8 - bytes) bytes z ≡ bytes
found bytes z low held = one_more bytes z low ∙ ap (λ (b : Bool). cond b bytes (least_width (8 - (bytes + 1)) (bytes + 1) z)) held

pub passed : (bytes : ℕ) (z : ℤ) → bytes < 8 → fits_bytes bytes z ≡ false → least_width (8 - bytes) bytes z ≡ least_width (8 - (bytes + 1)) (bytes + 1) z
passed bytes z low not = one_more bytes z low ∙ ap (λ (b : Bool). cond b bytes (least_width (8 - (bytes + 1)) (bytes + 1) z)) not

pub last : (bytes : ℕ) (z : ℤ) → bytes ≡ 8 → least_width (8 - bytes) bytes z ≡ 8
unfolding least_width
last bytes z is = ap (λ (n : ℕ). least_width (8 - n) n z) is
