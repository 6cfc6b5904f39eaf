-- Lists by number.
use Rattle.std.proofs.Common.{◌≡◌, ℕ, zero, suc, ◌+◌, ◌<◌, ◌≤◌, List, [], ◌∷◌, ◌++◌, length, map, get_or, Some, refl, sym, ap, ◌∙◌}
use Rattle.std.specs.Prelude.{slice_get, take, filter, Bool, true, false, if◌then◌else◌}
use Rattle.std.proofs.lemmas.List.{take_more, take_all, append-nil, append_assoc}
use Rattle.std.proofs.lemmas.List.Elements.{filter-append}
use Rattle.record_model.specs.declared.attribute.Attr.{Attr}
use Rattle.volume_map.specs.declared.list_read.ListRead.{ListRead}
use Rattle.volume_map.specs.Lists.{read_of, read_at}

-- what was read of a list, by its number
pub read_there : (lists : List ListRead) (n : ℕ) (l : ListRead) → slice_get lists n ≡ Some l → read_at (map read_of lists) n ≡ read_of l
read_there [] n l e = absurd cc
read_there (m ∷ lists) zero l e = let same : m ≡ l = cc e in ap read_of same
read_there (m ∷ lists) (suc n) l e = read_there lists n l e

if_filter : (f : Attr → Bool) (x : Attr) (b : Bool) → f x ≡ b → (if b then x ∷ [] else []) ≡ filter f (x ∷ [])
if_filter f x true e = rw e refl
if_filter f x false e = rw e refl

-- those among the elements so far that pass a test
pub filter_begins : (f : Attr → Bool) (ys xs : List Attr) → ys ≡ ys ++ filter f (take 0 xs)
filter_begins f ys xs = sym (append-nil ys)

pub filter_more : (f : Attr → Bool) (ys zs xs : List Attr) (i : ℕ) (x : Attr) (b : Bool) → i < length xs → x ≡ get_or xs i x → f x ≡ b → zs ≡ ys ++ filter f (take i xs) → zs ++ (if b then x ∷ [] else []) ≡ ys ++ filter f (take (i + 1) xs)
filter_more f ys zs xs i x b lt is named before =
    ap (λ s. s ++ (if b then x ∷ [] else [])) before ∙ append_assoc ys (filter f (take i xs)) (if b then x ∷ [] else [])
    ∙ ap (λ s. ys ++ s) (ap (λ s. filter f (take i xs) ++ s) (if_filter f x b named ∙ ap (λ (y : Attr). filter f (y ∷ [])) is) ∙ sym (filter-append f (take i xs) (get_or xs i x ∷ [])) ∙ ap (filter f) (sym (take_more xs i x lt)))

pub filter_ends : (f : Attr → Bool) (ys zs xs : List Attr) (i : ℕ) → length xs ≤ i → zs ≡ ys ++ filter f (take i xs) → zs ≡ ys ++ filter f xs
filter_ends f ys zs xs i le before = before ∙ ap (λ s. ys ++ filter f s) (take_all i xs le)
