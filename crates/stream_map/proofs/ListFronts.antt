-- The entry in a front is that of the bytes.
use Rattle.std.proofs.Common.{◌≡◌, ℕ, zero, suc, ◌+◌, ◌-◌, ◌*◌, ◌<◌, ◌≤◌, true, false, leb, List, ◌∷◌, ◌++◌, length, take, map, replicate, slice_index, Some, None, refl, sym, ap, ◌∙◌, subst, inl, inr, arith}
use Rattle.std.specs.Prelude.{◌&&◌}
use Rattle.std.specs.List.{range_with_len}
use Rattle.std.proofs.lemmas.Bool.{leb-true, and_parts, cases_lt, ne_eqb}
use Rattle.std.proofs.lemmas.List.{get_or-take, get_or_append_left, get_or-append_right, get_or_past, get_or-replicate, length-replicate}
use Rattle.disk_model.specs.Numbers.{field}
use Rattle.disk_model.specs.Bytes.{zeros}
use Rattle.disk_model.proofs.Fields.{field_same, field-take}
use Rattle.record_model.specs.Attributes.{units_at}
use Rattle.record_model.specs.ListEntries.{name_end, has_entry, entry_of}
use Rattle.record_model.specs.declared.list_entry.ListEntry.{ListEntry}
use Rattle.stream_map.specs.ListFronts.{front_of, has_entry_in, first_entry}

-- ---- the bytes of a front

zero_at : (n k : ℕ) → slice_index (zeros n) k ≡ 0
unfolding zeros
zero_at n k = elim (cases_lt k n) [
  | inl h ↦ get_or-replicate n k 0 0 h
  | inr h ↦ get_or_past (replicate n 0) k 0 (omega (arith, length-replicate {A = ℕ} n 0))
]

padded_at : (n : ℕ) (bytes : List ℕ) (k : ℕ) → k < n → slice_index (take n (bytes ++ zeros n)) k ≡ slice_index bytes k
padded_at n bytes k lt =
    get_or-take n (bytes ++ zeros n) k 0 lt
    ∙ elim (cases_lt k (length bytes)) [
      | inl h ↦ get_or_append_left bytes (zeros n) 0 k h
      | inr h ↦ get_or-append_right bytes (zeros n) (length bytes) k 0 refl h ∙ zero_at n (k - length bytes) ∙ sym (get_or_past bytes k 0 h)
    ]

front_at : (bytes : List ℕ) (k : ℕ) → k < 0x300 → slice_index (front_of bytes) k ≡ slice_index bytes k
unfolding front_of
front_at bytes k lt = padded_at 0x300 bytes k lt

front_field : (at n : ℕ) (bytes : List ℕ) → at + n ≤ 0x300 → field at n (front_of bytes) ≡ field at n bytes
front_field at n bytes le = field_same at at n (front_of bytes) bytes (λ k lt. front_at bytes (at + k) (omega arith))

-- ---- whether there is an entry

-- what the test says
pub record HasEntry (bytes : List ℕ) (left : ℕ) : Type 0 where
  pub long : 0x1A ≤ field 0x04 2 bytes
  pub name : name_end bytes ≤ field 0x04 2 bytes
  pub inside : field 0x04 2 bytes ≤ left

pub entry_in : (front : List ℕ) (left : ℕ) → has_entry_in front left ≡ true → HasEntry front left
unfolding has_entry_in
entry_in front left h =
    let parts = and_parts (leb 0x1A (field 0x04 2 front) && leb (name_end front) (field 0x04 2 front)) (leb (field 0x04 2 front) left) h in
    let more = and_parts (leb 0x1A (field 0x04 2 front)) (leb (name_end front) (field 0x04 2 front)) parts.0 in
    record { long = leb-true _ _ more.0; name = leb-true _ _ more.1; inside = leb-true _ _ parts.1 }

-- of bytes, so many as there are
pub entry_test : (bytes : List ℕ) → has_entry bytes ≡ has_entry_in bytes (length bytes)
unfolding has_entry has_entry_in
entry_test bytes = refl

front_name_end : (bytes : List ℕ) → name_end (front_of bytes) ≡ name_end bytes
front_name_end bytes = rw (front_field 0x06 1 bytes (omega arith), front_field 0x07 1 bytes (omega arith)) refl

front_test : (bytes : List ℕ) → has_entry_in (front_of bytes) (length bytes) ≡ has_entry bytes
unfolding has_entry has_entry_in
front_test bytes = rw (front_field 0x04 2 bytes (omega arith), front_field 0x06 1 bytes (omega arith), front_field 0x07 1 bytes (omega arith)) refl

-- ---- the entry

map_same : (f g : ℕ → ℕ) (a n : ℕ) → ((i : ℕ) → i < n → f (a + i) ≡ g (a + i)) → map f (range_with_len a n) ≡ map g (range_with_len a n)
map_same f g a zero same = refl
map_same f g a (suc n) same =
    let z : a + 0 ≡ a = omega arith in
    let here : f a ≡ g a = ap f (sym z) ∙ same 0 (omega arith) ∙ ap g z in
    let next : (i : ℕ) → i < n → f (a + 1 + i) ≡ g (a + 1 + i) = (λ (i : ℕ) (lt : i < n).
    let e : a + 1 + i ≡ a + suc i = omega arith in
    ap f e ∙ same (suc i) (omega arith) ∙ ap g (sym e)) in
    ap (λ (x : ℕ). x ∷ map f (range_with_len (a + 1) n)) here ∙ ap (λ (xs : List ℕ). g a ∷ xs) (map_same f g (a + 1) n next)

units_same : (at count : ℕ) (xs ys : List ℕ) → ((i : ℕ) → i < count → field (at + 2 * i) 2 xs ≡ field (at + 2 * i) 2 ys) → units_at at count xs ≡ units_at at count ys
unfolding units_at
units_same at count xs ys same = map_same (λ i. field (at + 2 * i) 2 xs) (λ i. field (at + 2 * i) 2 ys) 0 count (λ i lt.
    let z : 0 + i ≡ i = omega arith in
    ap (λ (k : ℕ). field (at + 2 * k) 2 xs) z ∙ same i lt ∙ ap (λ (k : ℕ). field (at + 2 * k) 2 ys) (sym z))

-- a name of some units ends behind each of them
unit_inside : (bytes : List ℕ) (i : ℕ) → i < field 0x06 1 bytes → field 0x07 1 bytes + 2 * i + 2 ≤ name_end bytes
unit_inside bytes i lt =
    let some : field 0x06 1 bytes ≡ 0 → ⊥ = (λ (e : field 0x06 1 bytes ≡ 0). omega arith) in
    rw (ne_eqb (field 0x06 1 bytes) 0 some) (omega arith)

-- entries with equal numbers and units are equal
entry_same : (xs ys : List ℕ) → ((at n : ℕ) → at + n ≤ 0x1A → field at n xs ≡ field at n ys)
    → units_at (field 0x07 1 ys) (field 0x06 1 ys) xs ≡ units_at (field 0x07 1 ys) (field 0x06 1 ys) ys → entry_of xs ≡ entry_of ys
unfolding entry_of
entry_same xs ys same units =
    rw (same 0x00 4 (omega arith), same 0x07 1 (omega arith), same 0x06 1 (omega arith), same 0x18 2 (omega arith), same 0x08 8 (omega arith), same 0x10 8 (omega arith), units) refl

-- the front's entry is that of the entry's own bytes
front_entry : (bytes : List ℕ) (left : ℕ) → HasEntry bytes left → name_end bytes ≤ 0x300 → entry_of (front_of bytes) ≡ entry_of (take (field 0x04 2 bytes) bytes)
front_entry bytes left h short =
    let n = field 0x04 2 bytes in
    let count : field 0x06 1 (take n bytes) ≡ field 0x06 1 bytes = field-take 0x06 1 n bytes (omega arith) in
    let place : field 0x07 1 (take n bytes) ≡ field 0x07 1 bytes = field-take 0x07 1 n bytes (omega arith) in
    entry_same (front_of bytes) (take n bytes)
    (λ at k le. front_field at k bytes (omega arith) ∙ sym (field-take at k n bytes (omega arith)))
    (rw (count, place) (units_same (field 0x07 1 bytes) (field 0x06 1 bytes) (front_of bytes) (take n bytes) (λ i lt.
    let inside = unit_inside bytes i lt in
    front_field (field 0x07 1 bytes + 2 * i) 2 bytes (omega arith) ∙ sym (field-take (field 0x07 1 bytes + 2 * i) 2 n bytes (omega arith)))))

-- ---- the answers

first_some : (bytes : List ℕ) → has_entry bytes ≡ true → first_entry bytes ≡ Some (record { entry = entry_of (take (field 0x04 2 bytes) bytes); length = field 0x04 2 bytes })
unfolding first_entry
first_some bytes h = rw h refl

first_none : (bytes : List ℕ) → has_entry bytes ≡ false → first_entry bytes ≡ None
unfolding first_entry
first_none bytes h = rw h refl

test_by : (bytes front : List ℕ) (left : ℕ) → front ≡ front_of bytes → left ≡ length bytes → has_entry bytes ≡ has_entry_in front left
test_by bytes front left e l = sym (front_test bytes) ∙ ap (λ (f : List ℕ). has_entry_in f (length bytes)) (sym e) ∙ ap (has_entry_in front) (sym l)

pub none_found : (bytes front : List ℕ) (left : ℕ) → front ≡ front_of bytes → left ≡ length bytes → has_entry_in front left ≡ false → None ≡ first_entry bytes
none_found bytes front left e l h = sym (first_none bytes (test_by bytes front left e l ∙ h))

pub own_entry : (bytes : List ℕ) → has_entry bytes ≡ true → HasEntry bytes (length bytes)
own_entry bytes h = entry_in bytes (length bytes) (sym (entry_test bytes) ∙ h)

pub first_found : (bytes front : List ℕ) (left : ℕ) (entry : ListEntry) (n : ℕ) → front ≡ front_of bytes → left ≡ length bytes → has_entry_in front left ≡ true → name_end front ≤ 0x300
    → entry ≡ entry_of front → n ≡ field 0x04 2 front → Some (record { entry = entry; length = n }) ≡ first_entry bytes
first_found bytes front left entry n e l h short is size =
    let lawful : has_entry bytes ≡ true = test_by bytes front left e l ∙ h in
    let own = own_entry bytes lawful in
    let end : name_end bytes ≤ 0x300 = subst (λ (x : ℕ). x ≤ 0x300) (ap name_end e ∙ front_name_end bytes) short in
    let entry_is : entry ≡ entry_of (take (field 0x04 2 bytes) bytes) = is ∙ ap entry_of e ∙ front_entry bytes (length bytes) own end in
    let size_is : n ≡ field 0x04 2 bytes = size ∙ ap (field 0x04 2) e ∙ front_field 0x04 2 bytes (omega arith) in
    rw (entry_is, size_is) (sym (first_some bytes lawful))

pub length_in : (front : List ℕ) (left n : ℕ) → has_entry_in front left ≡ true → n ≡ field 0x04 2 front → (0x1A ≤ n) × (n ≤ left)
length_in front left n h e = let own = entry_in front left h in (omega arith, omega arith)
