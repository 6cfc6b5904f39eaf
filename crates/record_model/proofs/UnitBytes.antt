-- Units as bytes, and bytes filled up: what is spelled at a place is read there.
use Rattle.std.proofs.Common.{◌≡◌, ℕ, zero, suc, ◌+◌, ◌-◌, ◌*◌, ◌%◌, ◌^◌, ◌<◌, ◌≤◌, List, [], ◌∷◌, ◌++◌, length, drop, get_or, refl, sym, ap, ◌∙◌, arith}
use Rattle.std.specs.List.{AllByRecursion}
use Rattle.std.proofs.lemmas.List.{ext_get_or, append_assoc, append-nil, length-append, length-replicate, length-drop, drop-drop, drop_at}
use Rattle.std.proofs.lemmas.List.FromFn.{get_or-map-range_with_len}
use Rattle.disk_model.specs.Numbers.{field, spell}
use Rattle.disk_model.specs.Bytes.{zeros, up8}
use Rattle.disk_model.proofs.Fields.{field-append_right, field-drop, field-spell, length-spell}
use Rattle.record_model.specs.Attributes.{units_at, unit_bytes, filled}
use Rattle.record_model.proofs.Attributes.{length-units_at}

-- ---- numbers at a place

-- a number that is spelled at a place is read there
pub field_here : (at n value : ℕ) (s rest : List ℕ) → drop at s ≡ spell n value ++ rest → value < 256 ^ n → field at n s ≡ value
field_here at n value s rest e small =
    let place : at ≡ at + 0 = omega arith in
    ap (λ (x : ℕ). field x n s) place ∙ sym (field-drop 0 n at s) ∙ ap (field 0 n) e ∙ field-spell 0 n value [] rest refl small

-- a byte at a place
pub byte_here : (at value : ℕ) (s rest : List ℕ) → drop at s ≡ value ∷ rest → field at 1 s ≡ value
unfolding field
byte_here at value s rest e =
    let place : at ≡ at + 0 = omega arith in
    let same : field 0 1 (value ∷ rest) ≡ value = omega arith in
    ap (λ (x : ℕ). field x 1 s) place ∙ sym (field-drop 0 1 at s) ∙ ap (field 0 1) e ∙ same

-- ---- units

pub length-unit_bytes : (units : List ℕ) → length (unit_bytes units) ≡ 2 * length units
unfolding unit_bytes
length-unit_bytes [] = refl
length-unit_bytes (u ∷ units) = omega (arith, length-append (spell 2 u) (unit_bytes units), length-spell 2 u, length-unit_bytes units)

unit_bytes-cons : (u : ℕ) (units rest : List ℕ) → unit_bytes (u ∷ units) ++ rest ≡ spell 2 u ++ (unit_bytes units ++ rest)
unfolding unit_bytes
unit_bytes-cons u units rest = append_assoc (spell 2 u) (unit_bytes units) rest

unit_read : (units : List ℕ) (i : ℕ) (rest : List ℕ) → i < length units → AllByRecursion (λ unit. unit < 2 ^ 16) units → field (2 * i) 2 (unit_bytes units ++ rest) ≡ get_or units i 0
unit_read [] i rest lt small = absurd (omega arith)
unit_read (u ∷ units) zero rest lt small = ap (field 0 2) (unit_bytes-cons u units rest) ∙ field-spell 0 2 u [] (unit_bytes units ++ rest) refl small.0
unit_read (u ∷ units) (suc i) rest lt small =
    let place : 2 * suc i - 2 ≡ 2 * i = omega arith in
    ap (field (2 * suc i) 2) (unit_bytes-cons u units rest)
    ∙ field-append_right (2 * suc i) 2 2 (spell 2 u) (unit_bytes units ++ rest) (length-spell 2 u) (omega arith)
    ∙ ap (λ (x : ℕ). field x 2 (unit_bytes units ++ rest)) place
    ∙ unit_read units i rest (omega arith) small.1

-- units that are spelled at a place are read there
pub units_here : (at : ℕ) (units s rest : List ℕ) → drop at s ≡ unit_bytes units ++ rest → AllByRecursion (λ unit. unit < 2 ^ 16) units → units_at at (length units) s ≡ units
unfolding units_at
units_here at units s rest e small =
    ext_get_or 0 (units_at at (length units) s) units (length-units_at at (length units) s) (λ i lt.
    let within : i < length units = omega (arith, length-units_at at (length units) s) in
    get_or-map-range_with_len (λ i. field (at + 2 * i) 2 s) 0 (length units) i i 0 within (omega arith)
    ∙ sym (field-drop (2 * i) 2 at s)
    ∙ ap (field (2 * i) 2) e
    ∙ unit_read units i rest within small)

-- ---- bytes filled up

pub length-zeros : (n : ℕ) → length (zeros n) ≡ n
unfolding zeros
length-zeros n = length-replicate n 0

pub length-filled : (header : ℕ) (bytes : List ℕ) → length (filled header bytes) ≡ up8 (header + length bytes) - header
unfolding filled
length-filled header bytes = omega (arith, length-append bytes (zeros (up8 (header + length bytes) - (header + length bytes))), length-zeros (up8 (header + length bytes) - (header + length bytes)))

pub filled_front : (header : ℕ) (bytes rest : List ℕ) → filled header bytes ++ rest ≡ bytes ++ (zeros (up8 (header + length bytes) - (header + length bytes)) ++ rest)
unfolding filled
filled_front header bytes rest = append_assoc bytes (zeros (up8 (header + length bytes) - (header + length bytes))) rest

-- whole eights are filled already
pub filled_eights : (bytes : List ℕ) → length bytes % 8 ≡ 0 → filled 0 bytes ≡ bytes
unfolding filled zeros
filled_eights bytes eights =
    let none : up8 (0 + length bytes) - (0 + length bytes) ≡ 0 = omega arith in
    ap (λ (x : ℕ). bytes ++ zeros x) none ∙ append-nil bytes

-- a name and the bytes behind it, each filled up, behind a header
module _ (header : ℕ) (name body s : List ℕ) (low : header ≤ length s) (eights : header % 8 ≡ 0) (placed : drop header s ≡ filled header (unit_bytes name) ++ filled 0 body) where
  abbrev at : ℕ
  at = up8 (header + 2 * length name)

  name_size : length (filled header (unit_bytes name)) ≡ at - header
  name_size = omega (arith, length-filled header (unit_bytes name), length-unit_bytes name)

  pub body_placed : drop (up8 (header + 2 * length name)) s ≡ filled 0 body
  body_placed =
      let k = at - header in
      let split : at ≡ header + k = omega arith in
      ap (λ (n : ℕ). drop n s) split ∙ sym (drop-drop k header s) ∙ ap (drop k) placed ∙ drop_at (filled header (unit_bytes name)) (filled 0 body) k name_size

  pub whole_size : length s ≡ up8 (up8 (header + 2 * length name) + length body)
  whole_size =
      let rest : length (drop header s) ≡ (at - header) + up8 (0 + length body) = ap length placed ∙ length-append (filled header (unit_bytes name)) (filled 0 body) ∙ omega (arith, name_size, length-filled 0 body) in
      omega (arith, length-drop header s)

  pub name_placed : AllByRecursion (λ unit. unit < 2 ^ 16) name → units_at header (length name) s ≡ name
  name_placed small = units_here header name s (zeros (up8 (header + length (unit_bytes name)) - (header + length (unit_bytes name))) ++ filled 0 body) (placed ∙ filled_front header (unit_bytes name) (filled 0 body)) small
