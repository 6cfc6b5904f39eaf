-- Bytes and units that are put into a list.
use Rattle.std.proofs.Common.{◌≡◌, ℕ, zero, suc, ◌+◌, ◌*◌, ◌%◌, ◌<◌, List, [], ◌∷◌, ◌++◌, length, take, set, slice_index, refl, sym, ap, ◌∙◌, arith}
use Rattle.std.proofs.lemmas.List.{take_more, append-nil, length-take-le, append_assoc}
use Rattle.record_model.specs.disk_model.Numbers.{spell}
use Rattle.record_model.specs.disk_model.Bytes.{written}
use Rattle.record_model.proofs.disk_model.Puts.{written_behind_written}
use Rattle.record_model.specs.Attributes.{unit_bytes}
use Rattle.record_model.proofs.UnitBytes.{length-unit_bytes}

set_written : (at value : ℕ) (bytes : List ℕ) → set bytes at value ≡ written at (value ∷ []) bytes
set_written at value [] = refl
set_written zero value (b ∷ bytes) = ap (λ (x : List ℕ). value ∷ x) (sym (nothing bytes))
  where
    nothing : (bytes : List ℕ) → written zero [] bytes ≡ bytes
    nothing [] = refl
    nothing (b ∷ bytes) = refl
set_written (suc at) value (b ∷ bytes) = ap (λ (x : List ℕ). b ∷ x) (set_written at value bytes)

-- a byte that is set is written
pub byte_put : (at value : ℕ) (bytes : List ℕ) → value < 256 → set bytes at value ≡ written at (spell 1 value) bytes
unfolding spell
byte_put at value bytes small =
    let low : value ≡ value % 256 = omega arith in
    set_written at value bytes ∙ ap (λ (x : ℕ). written at (x ∷ []) bytes) low

unit_bytes-append : (xs ys : List ℕ) → unit_bytes (xs ++ ys) ≡ unit_bytes xs ++ unit_bytes ys
unfolding unit_bytes
unit_bytes-append [] ys = refl
unit_bytes-append (x ∷ xs) ys = ap (λ (l : List ℕ). spell 2 x ++ l) (unit_bytes-append xs ys) ∙ sym (append_assoc (spell 2 x) (unit_bytes xs) (unit_bytes ys))

one_unit : (unit : ℕ) → unit_bytes (unit ∷ []) ≡ spell 2 unit
unfolding unit_bytes
one_unit unit = append-nil (spell 2 unit)

-- one unit more, behind those that are put
pub unit_put : (at i : ℕ) (units bytes out : List ℕ) → i < length units → out ≡ written at (unit_bytes (take i units)) bytes → written (at + 2 * i) (spell 2 (slice_index units i)) out ≡ written at (unit_bytes (take (i + 1) units)) bytes
unit_put at i units bytes out lt done =
    let unit = slice_index units i in
    let size : at + 2 * i ≡ at + length (unit_bytes (take i units)) = omega (arith, length-unit_bytes (take i units), length-take-le i units (omega arith)) in
    let more : unit_bytes (take (i + 1) units) ≡ unit_bytes (take i units) ++ spell 2 unit = ap unit_bytes (take_more units i 0 lt) ∙ unit_bytes-append (take i units) (unit ∷ []) ∙ ap (λ (l : List ℕ). unit_bytes (take i units) ++ l) (one_unit unit) in
    ap (λ (k : ℕ). written k (spell 2 unit) out) size
    ∙ ap (written (at + length (unit_bytes (take i units))) (spell 2 unit)) done
    ∙ written_behind_written at (unit_bytes (take i units)) (spell 2 unit) bytes
    ∙ ap (λ (l : List ℕ). written at l bytes) (sym more)

-- no unit is put
pub no_unit_put : (at : ℕ) (units bytes : List ℕ) → written at (unit_bytes (take 0 units)) bytes ≡ bytes
unfolding unit_bytes
no_unit_put at units bytes = none at bytes
  where
    none : (at : ℕ) (bytes : List ℕ) → written at [] bytes ≡ bytes
    none at [] = refl
    none zero (b ∷ bytes) = refl
    none (suc at) (b ∷ bytes) = ap (λ (x : List ℕ). b ∷ x) (none at bytes)
