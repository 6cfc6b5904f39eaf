-- What a word looks like, as the grammar and `clap` say it.
use Rattle.std.proofs.Common.{◌≡◌, ◌∙◌, ap, sym, refl, subst, arith}
use Rattle.std.specs.Prelude.{ℕ, suc, ◌==◌, Bool, true, false, List, [], ◌∷◌, length, slice_get, Option, Some, None}
use Rattle.std.specs.Str.{IsUtf8, bytes_eq, chars, encode_utf8_all}
use Rattle.std.specs.Char.{encode_utf8}
use Rattle.std.proofs.lemmas.Str.{encodes-chars}
use Rattle.std.proofs.lemmas.Bool.Decides.{Decides-eqb}
use Rattle.clap.specs.Lexer.{long_of, short_of}
use Rattle.command_line.specs.Grammar.{plain, closing, long, short, form_of}

abbrev pub hyphens : List ℕ
hyphens = 45 ∷ 45 ∷ []

pub data Lex (word : List ℕ) : Type 0 where
  lex_plain : form_of word ≡ plain → bytes_eq word hyphens ≡ false → long_of word ≡ None → short_of word ≡ None → Lex word
  lex_closing : form_of word ≡ closing → bytes_eq word hyphens ≡ true → Lex word
  lex_long : (name : List ℕ) (value : Option (List ℕ)) → form_of word ≡ long name value → bytes_eq word hyphens ≡ false → long_of word ≡ Some (name, value) → Lex word
  lex_short : (x k : ℕ) (flags : List ℕ) → form_of word ≡ short → bytes_eq word hyphens ≡ false → long_of word ≡ None → short_of word ≡ Some flags
      → slice_get (chars flags) 0 ≡ Some x → length flags ≡ suc k → Lex word

-- a text that follows a hyphen has a first character
after_hyphen : (b : ℕ) (more : List ℕ) → chars (45 ∷ b ∷ more) ≡ 45 ∷ chars (b ∷ more)
unfolding chars
after_hyphen b more = refl

one_hyphen : encode_utf8_all (45 ∷ []) ≡ 45 ∷ []
unfolding encode_utf8
one_hyphen = refl

first_char : (b : ℕ) (more : List ℕ) → IsUtf8 (45 ∷ b ∷ more) → (x : ℕ) × (slice_get (chars (b ∷ more)) 0 ≡ Some x)
first_char b more utf8 = go (chars (b ∷ more)) refl
  where
    go : (cs : List ℕ) → chars (b ∷ more) ≡ cs → (x : ℕ) × (slice_get (chars (b ∷ more)) 0 ≡ Some x)
    go [] none =
        let whole = sym (encodes-chars (45 ∷ b ∷ more) utf8) ∙ ap encode_utf8_all (after_hyphen b more ∙ ap (λ (cs : List ℕ). 45 ∷ cs) none) ∙ one_hyphen in
        let long = ap (λ (bs : List ℕ). length bs) whole in
        absurd (omega (arith, long))
    go (x ∷ cs) some = (x, ap (λ (l : List ℕ). slice_get l 0) some)

lex_two : (text : List ℕ) → Lex (45 ∷ 45 ∷ text)
lex_two [] = lex_closing refl refl
lex_two (c ∷ text) = lex_long _ _ refl refl refl

lex_one : (rest : List ℕ) → IsUtf8 (45 ∷ rest) → Lex (45 ∷ rest)
lex_one [] utf8 = lex_plain refl refl refl refl
lex_one (b ∷ more) utf8 = go (b == 45) refl
  where
    go : (t : Bool) → (b == 45) ≡ t → Lex (45 ∷ b ∷ more)
    go true e = subst (λ (n : ℕ). Lex (45 ∷ n ∷ more)) (sym ((Decides-eqb b 45).0 e)) (lex_two more)
    go false e =
        let first = first_char b more utf8 in
        lex_short first.0 (length more) (b ∷ more) (rw e refl) (rw e refl) (rw e refl) (rw e refl) first.1 refl

pub lex : (word : List ℕ) → IsUtf8 word → Lex word
lex [] utf8 = lex_plain refl refl refl refl
lex (a ∷ rest) utf8 = go (a == 45) refl
  where
    go : (t : Bool) → (a == 45) ≡ t → Lex (a ∷ rest)
    go true e =
        let is = (Decides-eqb a 45).0 e in
        subst (λ (n : ℕ). Lex (n ∷ rest)) (sym is) (lex_one rest (subst (λ (n : ℕ). IsUtf8 (n ∷ rest)) is utf8))
    go false e = lex_plain (rw e refl) (rw e refl) (rw e refl) (rw e refl)
