-- Of more words than a page has sectors, one ends no sector.
use Rattle.std.proofs.Common.{◌≡◌, ◌≢◌, ℕ, zero, suc, ◌+◌, ◌<◌, ◌≤◌, inl, inr, Bool, true, false, eqb, cond, List, [], ◌∷◌, length, map, refl, sym, ap, ◌∙◌, arith}
use Rattle.std.specs.List.{range_with_len, list_any}
use Rattle.std.proofs.lemmas.Bool.{cases_Bool, eq-eqb, eqb-true, ne_eqb, cases_lt}
use Rattle.std.proofs.lemmas.List.FromFn.{length-map-range_with_len, map-range_with_len_more, get_or-map-range_with_len}
use Rattle.std.proofs.lemmas.List.Folds.{list_any-append, list_any_at}
use Rattle.disk_model.specs.Fixups.{sector_count, last_word}
use Rattle.log_page.specs.CheckWords.{last_words, is_last_word}

abbrev is_in : List ℕ → ℕ → Bool
is_in words w = list_any (λ x. eqb x w) words

-- the words without the first one that is v
abbrev without : ℕ → List ℕ → List ℕ
without v [] = []
without v (x ∷ words) = cond (eqb x v) words (x ∷ without v words)

-- ---- one word less

length-without : (v : ℕ) (words : List ℕ) → is_in words v ≡ true → suc (length (without v words)) ≡ length words
length-without v [] e = absurd cc
length-without v (x ∷ words) e = elim (cases_Bool (eqb x v)) [
  | inl same ↦ rw same refl
  | inr other ↦
      let rest : is_in words v ≡ true = rw other at e in
      rw other (ap suc (length-without v words rest))
]

still_in : (v w : ℕ) (words : List ℕ) → w ≢ v → is_in words w ≡ true → is_in (without v words) w ≡ true
still_in v w [] ne e = absurd cc
still_in v w (x ∷ words) ne e = elim (cases_Bool (eqb x v)) [
  | inl same ↦
      let differs : eqb x w ≡ false = ne_eqb x w (λ is. ne (sym is ∙ eqb-true x v same)) in
      let rest : is_in words w ≡ true = rw differs at e in
      rw same rest
  | inr other ↦ elim (cases_Bool (eqb x w)) [
    | inl here ↦ rw (other, here) refl
    | inr differs ↦
        let rest : is_in words w ≡ true = rw differs at e in
        rw (other, differs) (still_in v w words ne rest)
  ]
]

-- a list that has each number from 1 to n has at least n places
pub few : (n : ℕ) (words : List ℕ) → ((w : ℕ) → 0 < w → w ≤ n → is_in words w ≡ true) → n ≤ length words
few zero words all = omega arith
few (suc n) words all =
    let here : is_in words (suc n) ≡ true = all (suc n) (omega arith) (omega arith) in
    let size = length-without (suc n) words here in
    let rest = few n (without (suc n) words) (λ w some le. still_in (suc n) w words (λ is. absurd (omega arith)) (all w (omega arith) (omega arith))) in
    omega arith

pub length-last_words : (page : List ℕ) → length (last_words page) ≡ sector_count page
unfolding last_words
length-last_words page = length-map-range_with_len (last_word page) 0 (sector_count page)

-- ---- the last words of a page

abbrev is_word : ℕ → ℕ → Bool
is_word word w = eqb w word

-- the words of so many sectors
abbrev words_of : List ℕ → ℕ → List ℕ
words_of page n = map (last_word page) (range_with_len 0 n)

-- none of the first n sectors ends with the word
abbrev pub EndsNone : List ℕ → ℕ → ℕ → Type 0
EndsNone page word n = list_any (is_word word) (words_of page n) ≡ false

pub ends_none_more : (page : List ℕ) (word n : ℕ) → EndsNone page word n → eqb (last_word page n) word ≡ false → EndsNone page word (n + 1)
ends_none_more page word n none other =
    ap (list_any (is_word word)) (map-range_with_len_more (last_word page) 0 n n (omega arith))
    ∙ list_any-append (is_word word) (words_of page n) (last_word page n ∷ [])
    ∙ rw (none, other) refl

pub ends_none_all : (page : List ℕ) (word n : ℕ) → EndsNone page word n → n ≡ sector_count page → is_last_word page word ≡ false
unfolding last_words
ends_none_all page word n none e = ap (λ (k : ℕ). list_any (is_word word) (words_of page k)) (sym e) ∙ none

pub ends_one : (page : List ℕ) (word sector : ℕ) → sector < sector_count page → last_word page sector ≡ word → is_last_word page word ≡ true
unfolding last_words
ends_one page word sector lt e =
    list_any_at (is_word word) (words_of page (sector_count page)) sector 0 (omega (arith, length-map-range_with_len (last_word page) 0 (sector_count page)))
    (ap (is_word word) (get_or-map-range_with_len (last_word page) 0 (sector_count page) sector sector 0 lt (omega arith)) ∙ eq-eqb _ _ e)

-- where each number from 1 to n ends a sector of a page of eight, there are at most eight
pub at_most_8 : (page : List ℕ) (n : ℕ) → length page ≡ 4096 → ((w : ℕ) → 0 < w → w ≤ n → is_last_word page w ≡ true) → n ≤ 8
at_most_8 page n size all = let le = few n (last_words page) all in let count = length-last_words page in omega arith

pub one_more : (page : List ℕ) (word : ℕ) → ((w : ℕ) → 0 < w → w < word → is_last_word page w ≡ true) → is_last_word page word ≡ true → (w : ℕ) → 0 < w → w ≤ word → is_last_word page w ≡ true
one_more page word below here w some le = elim (cases_lt w word) [
  | inl lt ↦ below w some lt
  | inr ge ↦ let same : word ≡ w = omega arith in ap (is_last_word page) (sym same) ∙ here
]
