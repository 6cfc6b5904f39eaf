-- What is answered for bytes, by their length, the attribute's parts and its name.
use Rattle.std.proofs.Common.{◌≡◌, ◌≢◌, ℕ, zero, suc, ◌+◌, ◌*◌, ◌/◌, ◌<◌, ◌≤◌, true, false, List, length, take, drop, Ok, Err, refl, sym, ap, ◌∙◌, arith}
use Rattle.std.proofs.lemmas.Bool.{and_parts}
use Rattle.std.proofs.lemmas.List.{ext_get_or, length-take-le, length-drop}
use Rattle.std.proofs.lemmas.List.FromFn.{get_or-map-range_with_len}
use Rattle.disk_model.specs.Numbers.{field}
use Rattle.disk_model.specs.Bytes.{part}
use Rattle.disk_model.proofs.Fields.{field-part}
use Rattle.record_model.specs.declared.attribute.Head.{Head}
use Rattle.record_model.specs.declared.attribute.OwnForm.{OwnForm}
use Rattle.record_model.specs.declared.attribute.Attr.{Attr}
use Rattle.record_model.specs.Attributes.{units_at, has_length, is_name_inside, is_value_inside, is_inside, name_units, attr_of, head_of, form_of, header_length}
use Rattle.record_model.proofs.Attributes.{own_from_length, length-units_at, header_low}
use Rattle.attr_codec.specs.Reading.{own_bytes, attr_at, name_bytes, units_in}
use Rattle.attr_codec.proofs.Headers.{name_inside}

-- a length at fault, and parts that lie outside
pub breaks_length : (bytes : List ℕ) → has_length bytes ≡ false → attr_at bytes ≡ Err 3
unfolding attr_at
breaks_length bytes h = rw h refl

pub breaks_inside : (bytes : List ℕ) → has_length bytes ≡ true → is_inside (own_bytes bytes) ≡ false → attr_at bytes ≡ Err 6
unfolding attr_at
breaks_inside bytes h i = rw (h, i) refl

-- the attribute lies in the bytes, with its header
pub own_inside : (bytes : List ℕ) → has_length bytes ≡ true → field 0x04 4 bytes ≤ length bytes
own_inside bytes h = (own_from_length bytes h).0

pub own_header : (bytes : List ℕ) → has_length bytes ≡ true → header_length (take (field 0x04 4 bytes) bytes) ≤ length (take (field 0x04 4 bytes) bytes)
own_header bytes h = (own_from_length bytes h).1.header

pub own_low : (bytes : List ℕ) → has_length bytes ≡ true → 0x18 ≤ length (take (field 0x04 4 bytes) bytes)
own_low bytes h = omega (arith, own_header bytes h, header_low (take (field 0x04 4 bytes) bytes))

pub own_long : (bytes : List ℕ) → has_length bytes ≡ true → 8 ≤ length bytes
own_long bytes h =
    let n : ℕ = field 0x04 4 bytes in
    let own = own_from_length bytes h in
    omega (arith, own.0, own.1.header, header_low (take n bytes), length-take-le n bytes own.0)

pub value_parts : (a : List ℕ) → is_inside a ≡ true → is_value_inside a ≡ true
value_parts a h = (and_parts _ _ h).1

pub inside_parts : (a : List ℕ) → is_inside a ≡ true → is_name_inside a ≡ true
inside_parts a h = (and_parts _ _ h).0

-- units that stand at a place, in the part that is theirs
units_of_part : (at n : ℕ) (a : List ℕ) → length (part at (2 * n) a) ≡ 2 * n → units_in (part at (2 * n) a) ≡ units_at at n a
unfolding units_at
units_of_part at n a size =
    let own = part at (2 * n) a in
    let half : length own / 2 ≡ n = omega (arith, size) in
    let whole : units_in own ≡ units_at 0 n own = ap (λ (k : ℕ). units_at 0 k own) half in
    whole ∙ ext_get_or 0 (units_at 0 n own) (units_at at n a) (length-units_at 0 n own ∙ sym (length-units_at at n a)) (λ i lt.
    let within : i < n = omega (arith, length-units_at 0 n own) in
    let zero : 0 + 2 * i ≡ 2 * i = omega arith in
    get_or-map-range_with_len (λ i. field (0 + 2 * i) 2 own) 0 n i i 0 within (omega arith)
    ∙ ap (λ (k : ℕ). field k 2 own) zero
    ∙ field-part (2 * i) 2 at (2 * n) a (omega arith)
    ∙ sym (get_or-map-range_with_len (λ i. field (at + 2 * i) 2 a) 0 n i i 0 within (omega arith)))

-- the name's bytes are as many as its units need
name_size : (a : List ℕ) → is_name_inside a ≡ true → length (name_bytes a) ≡ 2 * field 0x09 1 a
name_size a h = sized (field 0x09 1 a) (field 0x0A 2 a) a (name_inside a h)
  where
    sized : (n at : ℕ) (a : List ℕ) → (n ≢ 0 → at + 2 * n ≤ length a) → length (part at (2 * n) a) ≡ 2 * n
    sized zero at a h = refl
    sized (suc n) at a h =
        let fits : at + 2 * suc n ≤ length a = h (λ e. omega (arith, e)) in
        length-take-le (2 * suc n) (drop at a) (omega (arith, length-drop at a))

pub name_seen : (a name : List ℕ) → is_name_inside a ≡ true → name ≡ name_bytes a → units_in name ≡ name_units a
unfolding name_units
name_seen a name h e = ap units_in e ∙ units_of_part (field 0x0A 2 a) (field 0x09 1 a) a (name_size a h)

abbrev make : Head → List ℕ → OwnForm → Attr
make h n f = record { head = h; name = n; form = f }

same_parts : (h h' : Head) (n n' : List ℕ) (f f' : OwnForm) → h ≡ h' → n ≡ n' → f ≡ f' → make h n f ≡ make h' n' f'
same_parts h h' n n' f f' p q r = ap (λ (x : Head). make x n f) p ∙ ap (λ (x : List ℕ). make h' x f) q ∙ ap (make h' n') r

-- an attribute by its parts
pub attr_parts : (bytes a name : List ℕ) (head : Head) (form : OwnForm) → has_length bytes ≡ true → is_inside (own_bytes bytes) ≡ true → a ≡ own_bytes bytes → head ≡ head_of a → name ≡ name_bytes a → form ≡ form_of a → attr_at bytes ≡ Ok (record { head = head; name = units_in name; form = form })
unfolding attr_at attr_of
attr_parts bytes a name head form h i own head_is name_is form_is =
    rw (h, i) (ap Ok (same_parts _ _ _ _ _ _ (sym (head_is ∙ ap head_of own)) (sym (name_seen (own_bytes bytes) name (inside_parts (own_bytes bytes) i) (name_is ∙ ap name_bytes own))) (sym (form_is ∙ ap form_of own))))

-- what the bytes answer
pub ruleset answers = (breaks_length, breaks_inside, own_inside, own_header, own_low, own_long, inside_parts, value_parts, attr_parts)
