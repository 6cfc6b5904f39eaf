-- A page's sectors, one after the other.
use Rattle.std.proofs.Common.{◌≡◌, ℕ, suc, ◌+◌, ◌-◌, ◌*◌, ◌<◌, ◌≤◌, List, [], ◌++◌, Option, Some, None, sym, ap, ◌∙◌, append_assoc, arith}
use Rattle.std.specs.Prelude.{IfSome}
use Rattle.std.proofs.lemmas.List.{append-nil}
use Rattle.disk_model.specs.Sectors.{raw_from}
use Rattle.disk_model.specs.Content.{Content}
use Rattle.log_page.specs.declared.places.LogPlace.{LogPlace}
use Rattle.log_reading.specs.LogPages.{log_bytes, page_in}

one_more : (at : ℕ → List ℕ) (s i : ℕ) (page now all : List ℕ) → i < 8 → now ≡ page ++ at (s + i) → page ++ raw_from at (s + i) (8 - i) ≡ all → now ++ raw_from at (s + (i + 1)) (8 - (i + 1)) ≡ all
unfolding raw_from
one_more at s i page now all lt made so_far =
    let count : 8 - i ≡ suc (8 - (i + 1)) = omega arith in
    let next : s + (i + 1) ≡ s + i + 1 = omega arith in
    ap (λ (xs : List ℕ). xs ++ raw_from at (s + (i + 1)) (8 - (i + 1))) made
    ∙ ap (λ (k : ℕ). (page ++ at (s + i)) ++ raw_from at k (8 - (i + 1))) next
    ∙ append_assoc page (at (s + i)) (raw_from at (s + i + 1) (8 - (i + 1)))
    ∙ sym (ap (λ (k : ℕ). page ++ raw_from at (s + i) k) count)
    ∙ so_far

-- the sectors of this content
abbrev pub read_so_far : Content → LogPlace → ℕ → ℕ → List ℕ → Type 0
read_so_far c place n i page = page ++ raw_from (log_bytes c place) (8 * n + i) (8 - i) ≡ raw_from (log_bytes c place) (8 * n) 8

pub page_more : (content : Option Content) (place : LogPlace) (n i : ℕ) (page now : List ℕ) → i < 8 → IfSome content (λ c. now ≡ page ++ log_bytes c place (8 * n + i)) → IfSome content (λ c. read_so_far c place n i page) → IfSome content (λ c. read_so_far c place n (i + 1) now)
page_more None place n i page now lt made so_far = tt
page_more (Some c) place n i page now lt made so_far = one_more (log_bytes c place) (8 * n) i page now _ lt made so_far

pub page_begun : (content : Option Content) (place : LogPlace) (n : ℕ) (page : List ℕ) → page ≡ [] → IfSome content (λ c. read_so_far c place n 0 page)
page_begun None place n page e = tt
page_begun (Some c) place n page e =
    let here : 8 * n + 0 ≡ 8 * n = omega arith in
    ap (λ (xs : List ℕ). xs ++ raw_from (log_bytes c place) (8 * n + 0) 8) e ∙ ap (λ (k : ℕ). raw_from (log_bytes c place) k 8) here

whole : (c : Content) (place : LogPlace) (n i : ℕ) (page : List ℕ) → 8 ≤ i → read_so_far c place n i page → page ≡ page_in c place n
unfolding raw_from page_in
whole c place n i page past read =
    let none : 8 - i ≡ 0 = omega arith in
    sym (append-nil page) ∙ sym (ap (λ (k : ℕ). page ++ raw_from (log_bytes c place) (8 * n + i) k) none) ∙ read

pub page_whole : (content : Option Content) (place : LogPlace) (n i : ℕ) (page : List ℕ) → 8 ≤ i → IfSome content (λ c. read_so_far c place n i page) → IfSome content (λ c. page ≡ page_in c place n)
page_whole None place n i page past read = tt
page_whole (Some c) place n i page past read = whole c place n i page past read
