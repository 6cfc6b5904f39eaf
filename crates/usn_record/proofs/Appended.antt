-- Pieces of a record that are appended one after the other.
use Rattle.std.proofs.Common.{◌≡◌, ℕ, zero, suc, ◌<◌, ◌+◌, ◌-◌, ◌*◌, List, [], ◌∷◌, ◌++◌, length, take, slice_index, refl, sym, ap, ◌∙◌, arith}
use Rattle.std.proofs.lemmas.List.{append_assoc, append-nil, take_more}
use Rattle.std.proofs.lemmas.Grind.{flat_map-append}
use Rattle.disk_model.specs.Numbers.{spell}
use Rattle.disk_model.specs.Bytes.{zeros, up8}
use Rattle.journal_model.specs.record_model.Attributes.{unit_bytes, filled}
use Rattle.journal_model.proofs.record_model.UnitBytes.{length-unit_bytes}
use Rattle.file_tree.specs.declared.journal.Usn.{Usn}
use Rattle.journal_model.specs.UsnRecords.{head_spelling, usn_spelling}

-- one zero more
zeros_more : (n : ℕ) → zeros (n + 1) ≡ zeros n ++ 0 ∷ []
unfolding zeros
zeros_more zero = refl
zeros_more (suc n) =
    let next : suc n + 1 ≡ suc (n + 1) = omega arith in
    ap zeros next ∙ ap (λ (x : List ℕ). 0 ∷ x) (zeros_more n)

pub zero_pushed : (old out more : List ℕ) (n : ℕ) → out ≡ old ++ zeros n → more ≡ out ++ 0 ∷ [] → more ≡ old ++ zeros (n + 1)
zero_pushed old out more n e f = f ∙ ap (λ (x : List ℕ). x ++ 0 ∷ []) e ∙ append_assoc old (zeros n) (0 ∷ []) ∙ ap (λ (x : List ℕ). old ++ x) (sym (zeros_more n))

pub no_zero : (old : List ℕ) → old ≡ old ++ zeros 0
unfolding zeros
no_zero old = sym (append-nil old)

-- one unit more
one_unit : (unit : ℕ) → unit_bytes (unit ∷ []) ≡ spell 2 unit
unfolding unit_bytes
one_unit unit = append-nil (spell 2 unit)

unit_bytes-append : (xs ys : List ℕ) → unit_bytes (xs ++ ys) ≡ unit_bytes xs ++ unit_bytes ys
unfolding unit_bytes
unit_bytes-append xs ys = flat_map-append (spell 2) xs ys

pub unit_pushed : (old out more units : List ℕ) (i : ℕ) → i < length units → out ≡ old ++ unit_bytes (take i units) → more ≡ out ++ spell 2 (slice_index units i) → more ≡ old ++ unit_bytes (take (i + 1) units)
unit_pushed old out more units i lt e f =
    let unit = slice_index units i in
    let next : unit_bytes (take (i + 1) units) ≡ unit_bytes (take i units) ++ spell 2 unit = ap unit_bytes (take_more units i 0 lt) ∙ unit_bytes-append (take i units) (unit ∷ []) ∙ ap (λ (l : List ℕ). unit_bytes (take i units) ++ l) (one_unit unit) in
    f ∙ ap (λ (x : List ℕ). x ++ spell 2 unit) e ∙ append_assoc old (unit_bytes (take i units)) (spell 2 unit) ∙ ap (λ (x : List ℕ). old ++ x) (sym next)

pub no_unit : (old units : List ℕ) → old ≡ old ++ unit_bytes (take 0 units)
unfolding unit_bytes
no_unit old units = sym (append-nil old)

-- the head, the name and its zeros
pub record_pushed : (entry : Usn) (h a b : List ℕ) (n : ℕ) → h ≡ head_spelling entry → a ≡ h ++ unit_bytes entry.name → b ≡ a ++ zeros n → n ≡ up8 (0x3C + 2 * length entry.name) - (0x3C + 2 * length entry.name) → b ≡ usn_spelling entry
unfolding usn_spelling filled
record_pushed entry h a b n e f g k =
    let size = length-unit_bytes entry.name in
    let same : n ≡ up8 (0x3C + length (unit_bytes entry.name)) - (0x3C + length (unit_bytes entry.name)) = omega (arith, size) in
    g ∙ ap (λ (x : List ℕ). x ++ zeros n) (f ∙ ap (λ (x : List ℕ). x ++ unit_bytes entry.name) e) ∙ append_assoc (head_spelling entry) (unit_bytes entry.name) (zeros n) ∙ ap (λ (x : ℕ). head_spelling entry ++ (unit_bytes entry.name ++ zeros x)) same
