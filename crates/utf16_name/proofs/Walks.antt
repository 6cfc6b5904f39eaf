-- Steps over the elements of a text.
use Rattle.std.proofs.Common.{◌≡◌, ℕ, ◌<◌, ◌≤◌, List, [], ◌∷◌, ◌++◌, length, Option, Some, None, Result, Ok, Err, refl, ap, ◌∙◌, arith, append_assoc}
use Rattle.std.specs.Prelude.{suc, zero, encode_utf8_all}
use Rattle.std.specs.Str.{chars, IsUtf8}
use Rattle.std.proofs.lemmas.Str.{encodes-chars}
use Rattle.utf16_name.specs.Elements.{element_at}
use Rattle.utf16_name.proofs.Fronts.{element-shorter}
use Rattle.utf16_name.specs.Reading.{with_front, behind, units_in}

pub with_front-append : (a b : List ℕ) (read : Result (List ℕ) (List ℕ)) → with_front (a ++ b) read ≡ with_front a (with_front b read)
with_front-append a b (Ok units) = rw append_assoc refl
with_front-append a b (Err rest) = refl

-- as many steps as there are characters are enough
pub enough_steps : (m n : ℕ) (cs : List ℕ) → length cs ≤ m → length cs ≤ n → units_in m cs ≡ units_in n cs
unfolding units_in
enough_steps m n [] h k = refl
enough_steps zero n (c ∷ cs) h k = absurd (omega arith)
enough_steps (suc m) zero (c ∷ cs) h k = absurd (omega arith)
enough_steps (suc m) (suc n) (c ∷ cs) h k = by (λ rest i j. enough_steps m n rest i j) (element_at (c ∷ cs)) refl
  where
    by : ((rest : List ℕ) → length rest ≤ m → length rest ≤ n → units_in m rest ≡ units_in n rest) → (o : Option (List ℕ × List ℕ)) → element_at (c ∷ cs) ≡ o → behind (c ∷ cs) (units_in m) o ≡ behind (c ∷ cs) (units_in n) o
    by same None e = refl
    by same (Some x) e =
        let less = element-shorter (c ∷ cs) x e in
        ap (with_front x.0) (same x.1 (omega (arith, less)) (omega (arith, less)))

-- an element and what is behind it
pub units_in-element : (cs : List ℕ) (x : List ℕ × List ℕ) → element_at cs ≡ Some x → units_in (length cs) cs ≡ with_front x.0 (units_in (length x.1) x.1)
unfolding units_in
units_in-element [] x e = absurd (omega (arith, element-shorter [] x e))
units_in-element (c ∷ cs) x e =
    ap (behind (c ∷ cs) (units_in (length cs))) e
    ∙ ap (with_front x.0) (enough_steps (length cs) (length x.1) x.1 (omega (arith, element-shorter (c ∷ cs) x e)) (omega arith))

-- the end
pub units_in-nil : (steps : ℕ) → units_in steps [] ≡ Ok []
unfolding units_in
units_in-nil steps = refl

-- what is no element is at fault
pub units_in-fault : (cs : List ℕ) → 0 < length cs → element_at cs ≡ None → units_in (length cs) cs ≡ Err cs
unfolding units_in
units_in-fault [] h e = absurd (omega arith)
units_in-fault (c ∷ cs) h e = ap (behind (c ∷ cs) (units_in (length cs))) e

-- a text of some bytes has a character
pub some_character : (text : List ℕ) → IsUtf8 text → 0 < length text → 0 < length (chars text)
some_character text utf8 some = by (chars text) (encodes-chars text utf8)
  where
    by : (cs : List ℕ) → encode_utf8_all cs ≡ text → 0 < length cs
    by [] e = absurd (omega (arith, ap length e))
    by (c ∷ cs) e = omega arith
