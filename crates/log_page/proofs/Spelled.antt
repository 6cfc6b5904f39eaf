-- The written spelling of a restart page: its size, its fields, and the shape of its array.
use Rattle.std.proofs.Common.{◌≡◌, ℕ, ◌+◌, ◌^◌, ◌<◌, ◌≤◌, true, List, [], ◌∷◌, ◌++◌, length, take, drop, refl, sym, ap, ◌∙◌, arith}
use Rattle.std.specs.Prelude.{if◌then◌else◌}
use Rattle.std.proofs.lemmas.List.{length-append}
use Rattle.std.proofs.lemmas.List.{length-replicate}
use Rattle.disk_model.specs.Numbers.{field, spell}
use Rattle.disk_model.specs.Bytes.{zeros, part}
use Rattle.disk_model.specs.Fixups.{is_in_shape}
use Rattle.disk_model.proofs.Fields.{field-drop, field-spell, field-append}
use Rattle.disk_model.proofs.Protection.{shape_from}
use Rattle.log_page.specs.declared.restart.Restart.{Restart}
use Rattle.log_page.specs.Restarts.{own_name, no_client, restart_front, restart_spelling}

pub spelled_page : (r : Restart) (front rest : List ℕ) (n : ℕ) → front ≡ restart_front r → rest ≡ zeros n → n ≡ 0xEF0 → front ++ rest ≡ restart_spelling r
unfolding restart_spelling
spelled_page r front rest n e f size = ap (λ (x : List ℕ). x ++ rest) e ∙ ap (λ (x : List ℕ). restart_front r ++ x) (f ∙ ap zeros size)

-- ---- sizes

length-zeros : (n : ℕ) → length (zeros n) ≡ n
unfolding zeros
length-zeros n = length-replicate n 0

pub length-restart_front : (r : Restart) → length (restart_front r) ≡ 0x110
unfolding restart_front zeros spell
length-restart_front r = refl

pub length-restart_spelling : (r : Restart) → length (restart_spelling r) ≡ 4096
unfolding restart_spelling
length-restart_spelling r =
    let front = length-restart_front r in
    let rest = length-zeros 0xEF0 in
    length-append (restart_front r) (zeros 0xEF0) ∙ omega arith

-- ---- numbers at a place

pub field_here : (at n value : ℕ) (s rest : List ℕ) → drop at s ≡ spell n value ++ rest → value < 256 ^ n → field at n s ≡ value
field_here at n value s rest e small =
    let place : at ≡ at + 0 = omega arith in
    ap (λ (x : ℕ). field x n s) place ∙ sym (field-drop 0 n at s) ∙ ap (field 0 n) e ∙ field-spell 0 n value [] rest refl small

-- a number of the front is one of the page
pub in_page : (r : Restart) (at n value : ℕ) → at + n ≤ 0x110 → field at n (restart_front r) ≡ value → field at n (restart_spelling r) ≡ value
unfolding restart_spelling
in_page r at n value le e = let size = length-restart_front r in field-append at n (restart_front r) (zeros 0xEF0) (omega arith) ∙ e

module _ (r : Restart) where
  abbrev s : List ℕ
  s = restart_front r

  pub array_is : field 0x04 2 s ≡ 0x1E
  unfolding restart_front zeros spell
  array_is = field_here 0x04 2 0x1E s (drop 0x06 s) refl (omega arith)

  pub count_is : field 0x06 2 s ≡ 9
  unfolding restart_front zeros spell
  count_is = field_here 0x06 2 9 s (drop 0x08 s) refl (omega arith)

  pub system_is : field 0x10 4 s ≡ 4096
  unfolding restart_front zeros spell
  system_is = field_here 0x10 4 0x1000 s (drop 0x14 s) refl (omega arith)

  pub area_is : field 0x18 2 s ≡ 0x30
  unfolding restart_front zeros spell
  area_is = field_here 0x18 2 0x30 s (drop 0x1A s) refl (omega arith)

  pub minor_is : field 0x1A 2 s ≡ 1
  unfolding restart_front zeros spell
  minor_is = field_here 0x1A 2 1 s (drop 0x1C s) refl (omega arith)

  pub major_is : field 0x1C 2 s ≡ 1
  unfolding restart_front zeros spell
  major_is = field_here 0x1C 2 1 s (drop 0x1E s) refl (omega arith)

  pub current_is : r.current < 2 ^ 64 → field 0x30 8 s ≡ r.current
  unfolding restart_front zeros spell
  current_is small = field_here 0x30 8 r.current s (drop 0x38 s) refl small

  pub clients_is : field 0x38 2 s ≡ 1
  unfolding restart_front zeros spell
  clients_is = field_here 0x38 2 1 s (drop 0x3A s) refl (omega arith)

  pub in_use_is : (n : ℕ) → (if r.used then 0 else no_client) ≡ n → n < 2 ^ 16 → field 0x3C 2 s ≡ n
  unfolding restart_front zeros spell
  in_use_is n e small = field_here 0x3C 2 n s (drop 0x3E s) (ap (λ (x : ℕ). spell 2 x ++ drop 0x3E s) e) small

  pub flags_is : (n : ℕ) → (if r.clean then 2 else 0) ≡ n → n < 2 ^ 16 → field 0x3E 2 s ≡ n
  unfolding restart_front zeros spell
  flags_is n e small = field_here 0x3E 2 n s (drop 0x40 s) (ap (λ (x : ℕ). spell 2 x ++ drop 0x40 s) e) small

  pub array_place_is : field 0x46 2 s ≡ 0x40
  unfolding restart_front zeros spell
  array_place_is = field_here 0x46 2 0x40 s (drop 0x48 s) refl (omega arith)

  pub bytes_is : r.bytes < 2 ^ 64 → field 0x48 8 s ≡ r.bytes
  unfolding restart_front zeros spell
  bytes_is small = field_here 0x48 8 r.bytes s (drop 0x50 s) refl small

  pub opens_is : r.opens < 2 ^ 32 → field 0x58 4 s ≡ r.opens
  unfolding restart_front zeros spell
  opens_is small = field_here 0x58 4 r.opens s (drop 0x5C s) refl small

  pub oldest_is : r.oldest < 2 ^ 64 → field 0x70 8 s ≡ r.oldest
  unfolding restart_front zeros spell
  oldest_is small = field_here 0x70 8 r.oldest s (drop 0x78 s) refl small

  pub name_bytes_is : field 0x8C 4 s ≡ 16
  unfolding restart_front zeros spell
  name_bytes_is = field_here 0x8C 4 16 s (drop 0x90 s) refl (omega arith)

  pub signature_is : take 4 (restart_spelling r) ≡ 0x52 ∷ 0x53 ∷ 0x54 ∷ 0x52 ∷ []
  unfolding restart_spelling restart_front zeros spell
  signature_is = refl

pub name_in_page : (r : Restart) → part 0x90 16 (restart_spelling r) ≡ own_name
unfolding restart_spelling restart_front zeros spell
name_in_page r = refl

-- ---- the array

pub in_shape : (r : Restart) → is_in_shape (restart_spelling r) ≡ true
in_shape r =
    let size = length-restart_spelling r in
    let at = in_page r 0x04 2 0x1E (omega arith) (array_is r) in
    let count = in_page r 0x06 2 9 (omega arith) (count_is r) in
    shape_from (restart_spelling r) (omega arith) (omega arith) (omega arith)
