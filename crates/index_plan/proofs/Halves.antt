-- The two halves of a node fit a block.
use Rattle.std.proofs.Common.{◌≡◌, ℕ, zero, suc, ◌+◌, ◌-◌, ◌≤◌, ◌<◌, Bool, true, false, List, [], ◌∷◌, ◌++◌, Option, Some, None, refl, ap, arith, length, take, drop, nat_le, ◌⊎◌, inl, inr, leb, add-one, if◌then◌else◌, insert}
use Rattle.std.proofs.lemmas.Bool.{leb-true, leb-false}
use Rattle.std.proofs.lemmas.Bool.Decides.{leb_tells}
use Rattle.record_model.specs.declared.entry.Entry.{Entry as Raw}
use Rattle.record_model.specs.Nodes.{entry_length, last_entry}
use Rattle.index_plan.specs.Growth.{fits_in, within}
use Rattle.index_plan.specs.Lists.{entry_at, left_of, overfull_by}

abbrev pub bytes : List Raw → ℕ
bytes [] = 0
bytes (r ∷ raws) = entry_length r + bytes raws

le_is : (m n : ℕ) → (nat_le m n ≡ true → m ≤ n) × (nat_le m n ≡ false → n < m)
le_is m n = (λ e. leb-true m n e, λ e. leb-false m n e)

by_le : {A : Type 0} (m n : ℕ) (x y : A) (P : A → Type 0) → (m ≤ n → P x) → (n < m → P y) → P (if nat_le m n then x else y)
by_le m n x y P low other = at (nat_le m n) refl
  where
    at : (b : Bool) → nat_le m n ≡ b → P (if b then x else y)
    at true e = low ((le_is m n).0 e)
    at false e = other ((le_is m n).1 e)

-- what fits takes no more bytes than there are
pub fits_bytes : (room : ℕ) (raws : List Raw) → (fits_in room raws ≡ true → bytes raws ≤ room) × (bytes raws ≤ room → fits_in room raws ≡ true)
fits_bytes room [] = (λ e. omega arith, λ e. refl)
fits_bytes room (r ∷ raws) = by_le (entry_length r) room (fits_in (room - entry_length r) raws) false (λ b. (b ≡ true → entry_length r + bytes raws ≤ room) × (entry_length r + bytes raws ≤ room → b ≡ true))
    (λ le. let f = fits_bytes (room - entry_length r) raws in (λ e. let g = f.0 e in omega arith, λ e. f.1 (omega arith)))
    (λ lt. (λ e. absurd cc, λ e. absurd (omega arith)))

-- the entries within a room take no more, and one more would
pub within_bytes : (room : ℕ) (raws : List Raw) → (bytes (take (within room raws) raws) ≤ room) × (within room raws < length raws → room < bytes (take (suc (within room raws)) raws))
within_bytes room [] = (omega arith, λ h. absurd (omega arith))
within_bytes room (r ∷ raws) = by_le (entry_length r) room (suc (within (room - entry_length r) raws)) 0 (λ i. (bytes (take i (r ∷ raws)) ≤ room) × (i < suc (length raws) → room < bytes (take (suc i) (r ∷ raws))))
    (λ le. let f = within_bytes (room - entry_length r) raws in (let g = f.0 in omega arith, λ h. let g = f.1 (omega arith) in omega arith))
    (λ lt. (omega arith, λ h. omega arith))

pub take_drop : (i : ℕ) (raws : List Raw) → bytes (take i raws) + bytes (drop i raws) ≡ bytes raws
take_drop zero raws = omega arith
take_drop (suc i) [] = refl
take_drop (suc i) (r ∷ raws) = let b = take_drop i raws in omega arith

drop_none : (i : ℕ) (raws : List Raw) → length raws ≤ i → bytes (drop i raws) ≡ 0
drop_none i [] h = none i
  where
    none : (j : ℕ) → bytes (drop j []) ≡ 0
    none zero = refl
    none (suc j) = refl
drop_none zero (r ∷ raws) h = absurd (omega arith)
drop_none (suc i) (r ∷ raws) h = drop_none i raws (omega arith)

pub take_more : (i : ℕ) (raws : List Raw) → i < length raws → bytes (take (suc i) raws) ≡ bytes (take i raws) + entry_length (entry_at i raws)
take_more i [] h = absurd (omega arith)
take_more zero (r ∷ raws) h = omega arith
take_more (suc i) (r ∷ raws) h = let b = take_more i raws (omega arith) in omega arith

pub bytes_append : (xs ys : List Raw) → bytes (xs ++ ys) ≡ bytes xs + bytes ys
bytes_append [] ys = omega arith
bytes_append (x ∷ xs) ys = let b = bytes_append xs ys in omega arith

pub end_bytes : (d : Option ℕ) → entry_length (last_entry d) ≤ 24
unfolding entry_length
end_bytes None = omega arith
end_bytes (Some v) = omega arith

pub record HalvesLaw (i : ℕ) (raws : List Raw) : Type 0 where
  pub inside : i + 1 < length raws
  pub left : bytes (left_of i raws) ≤ 2040
  pub right : bytes (drop (i + 1) raws) ≤ 2639

-- a node that took one entry too many
pub halves : (raws : List Raw) → 4032 < bytes raws → bytes raws ≤ 4656 → ((i : ℕ) → entry_length (entry_at i raws) ≤ 600) → HalvesLaw (within 2016 raws) raws
halves raws full most small = inside_first (leb_tells (length raws) (within 2016 raws))
  where
    inside_next : within 2016 raws < length raws → ((leb (length raws) (suc (within 2016 raws)) ≡ true) × (length raws ≤ suc (within 2016 raws))) ⊎ ((leb (length raws) (suc (within 2016 raws)) ≡ false) × (suc (within 2016 raws) < length raws)) → HalvesLaw (within 2016 raws) raws
    inside_next lt (inl h) =
        let w = (within_bytes 2016 raws).0 in
        let d = drop_none (suc (within 2016 raws)) raws h.1 in
        let t = take_drop (suc (within 2016 raws)) raws in
        let m = take_more (within 2016 raws) raws lt in
        let s = small (within 2016 raws) in
        absurd (omega arith)
    inside_next lt (inr h) =
        let w = (within_bytes 2016 raws).0 in
        let past = (within_bytes 2016 raws).1 lt in
        let t = take_drop (suc (within 2016 raws)) raws in
        let e = end_bytes (entry_at (within 2016 raws) raws).down in
        let a = bytes_append (take (within 2016 raws) raws) (last_entry (entry_at (within 2016 raws) raws).down ∷ []) in
        record {
          inside = omega arith;
          left = omega arith;
          right = let same_drop : bytes (drop (within 2016 raws + 1) raws) ≡ bytes (drop (suc (within 2016 raws)) raws) = ap (λ (n : ℕ). bytes (drop n raws)) (add-one (within 2016 raws)) in omega arith;
        }

    inside_first : ((leb (length raws) (within 2016 raws) ≡ true) × (length raws ≤ within 2016 raws)) ⊎ ((leb (length raws) (within 2016 raws) ≡ false) × (within 2016 raws < length raws)) → HalvesLaw (within 2016 raws) raws
    inside_first (inl h) =
        let w = (within_bytes 2016 raws).0 in
        let d = drop_none (within 2016 raws) raws h.1 in
        let t = take_drop (within 2016 raws) raws in
        absurd (omega arith)
    inside_first (inr h) = inside_next h.1 (leb_tells (length raws) (suc (within 2016 raws)))

-- ---- a level comes only where the root's record would be too long with 600 bytes more

pub insert_bytes : (raws : List Raw) (at : ℕ) (e : Raw) → bytes (insert raws at e) ≡ bytes raws + entry_length e
insert_bytes raws at e =
    let a = bytes_append (take at raws) (e ∷ drop at raws) in
    let t = take_drop at raws in
    omega arith

pub level_needs : (room : ℕ) (root : List Raw) (at : ℕ) (e : Raw) → overfull_by room root at (Some e) ≡ true → entry_length e ≤ 600 → room < bytes root + 600
level_needs room root at e full small = tell (fits_in room (insert root at e)) refl full
  where
    tell : (b : Bool) → fits_in room (insert root at e) ≡ b → (if b then false else true) ≡ true → room < bytes root + 600
    tell true is full' = absurd cc
    tell false is full' = more (leb_tells (bytes (insert root at e)) room)
      where
        more : ((leb (bytes (insert root at e)) room ≡ true) × (bytes (insert root at e) ≤ room)) ⊎ ((leb (bytes (insert root at e)) room ≡ false) × (room < bytes (insert root at e))) → room < bytes root + 600
        more (inl h) = let fit : fits_in room (insert root at e) ≡ true = (fits_bytes room (insert root at e)).1 h.1 in absurd cc
        more (inr h) = let b = insert_bytes root at e in omega arith
