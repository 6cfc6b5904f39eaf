-- Attributes put in by their first VCN.
use Rattle.std.proofs.Common.{◌≡◌, ℕ, suc, ◌+◌, ◌<◌, ◌≤◌, Bool, true, false, cond, ltb, List, [], ◌∷◌, ◌++◌, length, get_or, take, drop, insert, Bor, refl, sym, ap, ◌∙◌, arith}
use Rattle.std.proofs.Math.Seq.{drop-cons}
use Rattle.std.proofs.Math.ListN.{get_or-map}
use Rattle.std.proofs.lemmas.Bool.{lt-ltb, le-ltb}
use Rattle.std.proofs.lemmas.List.{map-append, take-map, drop-map, append_assoc, take_more}
use Rattle.record_model.specs.declared.attribute.Attr.{Attr}
use Rattle.state_model.specs.Streams.{first_vcn, with_attribute}
use Rattle.stream_map.specs.Attributes.{behind, BeginUpTo}

pub behind-push : (refs : List (Bor Attr)) (r : Bor Attr) → behind (refs ++ r ∷ []) ≡ behind refs ++ r.now ∷ []
behind-push refs r = map-append (λ (x : Bor Attr). x.now) refs (r ∷ [])

pub behind-insert : (refs : List (Bor Attr)) (i : ℕ) (r : Bor Attr) → behind (insert refs i r) ≡ insert (behind refs) i r.now
behind-insert refs i r =
    map-append (λ (x : Bor Attr). x.now) (take i refs) (r ∷ drop i refs)
    ∙ ap (λ (l : List Attr). l ++ r.now ∷ behind (drop i refs)) (sym (take-map (λ (x : Bor Attr). x.now) i refs))
    ∙ ap (λ (l : List Attr). take i (behind refs) ++ r.now ∷ l) (sym (drop-map (λ (x : Bor Attr). x.now) i refs))

-- an attribute behind all of them
pub with_attribute_last : (a : Attr) (attributes : List Attr) (most : ℕ) → BeginUpTo most attributes → most ≤ first_vcn a → with_attribute a attributes ≡ attributes ++ a ∷ []
with_attribute_last a [] most each le = refl
with_attribute_last a (b ∷ attributes) most each le =
    let first : first_vcn b ≤ most = each.0 in
    ap (λ (t : Bool). cond t (a ∷ b ∷ attributes) (b ∷ with_attribute a attributes)) (le-ltb (first_vcn a) (first_vcn b) (omega arith))
    ∙ ap (λ (l : List Attr). b ∷ l) (with_attribute_last a attributes most each.1 le)

pub BeginUpTo_up : (attributes : List Attr) (most m : ℕ) → most ≤ m → BeginUpTo most attributes → BeginUpTo m attributes
BeginUpTo_up [] most m le each = tt
BeginUpTo_up (b ∷ attributes) most m le each = let first : first_vcn b ≤ most = each.0 in (omega arith, BeginUpTo_up attributes most m le each.1)

pub BeginUpTo-with_attribute : (a : Attr) (attributes : List Attr) (m : ℕ) → first_vcn a ≤ m → BeginUpTo m attributes → BeginUpTo m (with_attribute a attributes)
BeginUpTo-with_attribute a [] m le each = (le, tt)
BeginUpTo-with_attribute a (b ∷ attributes) m le each =
    let chosen : (t : Bool) → BeginUpTo m (cond t (a ∷ b ∷ attributes) (b ∷ with_attribute a attributes)) = λ t. elim t as (λ (v : Bool). BeginUpTo m (cond v (a ∷ b ∷ attributes) (b ∷ with_attribute a attributes))) [ true ↦ (le, each) | false ↦ (each.0, BeginUpTo-with_attribute a attributes m le each.1) ] in
    chosen (ltb (first_vcn a) (first_vcn b))

-- an element of references
pub behind-item : (refs : List (Bor Attr)) (i : ℕ) (r : Bor Attr) → i < length refs → r ≡ get_or refs i r → drop i (behind refs) ≡ r.now ∷ drop (i + 1) (behind refs)
behind-item refs i r lt is =
    let now = λ (x : Bor Attr). x.now in
    let next : suc i ≡ i + 1 = omega arith in
    let item : get_or (behind refs) i r.now ≡ r.now = get_or-map now refs i r ∙ ap now (sym is) in
    let size : length (behind refs) ≡ length refs = length_behind refs in
    drop-cons (behind refs) i r.now (omega (arith, size)) ∙ ap (λ (x : Attr). x ∷ drop (suc i) (behind refs)) item ∙ ap (λ (k : ℕ). r.now ∷ drop k (behind refs)) next
  where
    length_behind : (xs : List (Bor Attr)) → length (behind xs) ≡ length xs
    length_behind [] = refl
    length_behind (x ∷ xs) = ap suc (length_behind xs)

take-item : (refs : List (Bor Attr)) (i : ℕ) (r : Bor Attr) → i < length refs → r ≡ get_or refs i r → take (i + 1) (behind refs) ≡ take i (behind refs) ++ r.now ∷ []
take-item refs i r lt is =
    let now = λ (x : Bor Attr). x.now in
    take-map now (i + 1) refs
    ∙ ap behind (take_more refs i r lt ∙ ap (λ (x : Bor Attr). take i refs ++ x ∷ []) (sym is))
    ∙ behind-push (take i refs) r
    ∙ ap (λ (l : List Attr). l ++ r.now ∷ []) (sym (take-map now i refs))

-- the attribute stands before this one
pub put_here : (refs : List (Bor Attr)) (i : ℕ) (r : Bor Attr) (a : Attr) → i < length refs → r ≡ get_or refs i r → first_vcn a < first_vcn r.now → with_attribute a (behind refs) ≡ take i (behind refs) ++ with_attribute a (drop i (behind refs)) → with_attribute a (behind refs) ≡ insert (behind refs) i a
put_here refs i r a lt is less so_far =
    let rest = drop (i + 1) (behind refs) in
    let item = behind-item refs i r lt is in
    so_far
    ∙ ap (λ (l : List Attr). take i (behind refs) ++ with_attribute a l) item
    ∙ ap (λ (t : Bool). take i (behind refs) ++ cond t (a ∷ r.now ∷ rest) (r.now ∷ with_attribute a rest)) (lt-ltb (first_vcn a) (first_vcn r.now) less)
    ∙ ap (λ (l : List Attr). take i (behind refs) ++ a ∷ l) (sym item)

-- the attribute stands behind this one
pub passed_here : (refs : List (Bor Attr)) (i : ℕ) (r : Bor Attr) (a : Attr) → i < length refs → r ≡ get_or refs i r → first_vcn r.now ≤ first_vcn a → with_attribute a (behind refs) ≡ take i (behind refs) ++ with_attribute a (drop i (behind refs)) → with_attribute a (behind refs) ≡ take (i + 1) (behind refs) ++ with_attribute a (drop (i + 1) (behind refs))
passed_here refs i r a lt is up so_far =
    let rest = drop (i + 1) (behind refs) in
    so_far
    ∙ ap (λ (l : List Attr). take i (behind refs) ++ with_attribute a l) (behind-item refs i r lt is)
    ∙ ap (λ (t : Bool). take i (behind refs) ++ cond t (a ∷ r.now ∷ rest) (r.now ∷ with_attribute a rest)) (le-ltb (first_vcn a) (first_vcn r.now) up)
    ∙ sym (append_assoc (take i (behind refs)) (r.now ∷ []) (with_attribute a rest))
    ∙ ap (λ (l : List Attr). l ++ with_attribute a rest) (sym (take-item refs i r lt is))
