-- What the reader of an element reads stands at the front.
use Rattle.std.proofs.Common.{◌≡◌, ℕ, ◌+◌, ◌*◌, ◌<◌, Bool, true, false, cond, List, [], ◌∷◌, ◌++◌, length, Option, Some, None, ◌⊎◌, inl, inr, refl, sym, ap, subst, ◌∙◌, arith, length-append}
use Rattle.std.specs.Prelude.{nat_lt, ◌==◌}
use Rattle.std.specs.Char.{digit_value}
use Rattle.std.specs.Char.Escape.{encode_utf16}
use Rattle.std.proofs.lemmas.Option.{cond_some, same_Some}
use Rattle.std.proofs.lemmas.Bool.{eqb-true}
use borrow.Author.Tests.{ltb-true}
use Rattle.utf16_name.specs.Texts.{is_plain}
use Rattle.utf16_name.specs.Elements.{◌>>=◌, digit_of, digit_at, digits_at, escape_at, element_of, element_at}
use Rattle.utf16_name.specs.Spelling.{Element, IsDigit, IsElement}

-- where something was found at the end, something was found at first
found : {A B P : Type 0} (o : Option A) (f : A → Option B) (y : B) → (o >>= f) ≡ Some y → ((x : A) → o ≡ Some x → f x ≡ Some y → P) → P
found (Some x) f y e then = then x refl e
found None f y e then = cc

-- which side was chosen
chosen : {A : Type 0} (b : Bool) (x y z : A) → cond b x y ≡ z → ((b ≡ true) × (x ≡ z)) ⊎ ((b ≡ false) × (y ≡ z))
chosen true x y z e = inl (refl, e)
chosen false x y z e = inr (refl, e)

-- what stands only where a test holds
cond_some_of : {A : Type 0} (b : Bool) (o : Option A) (x : A) → cond b o None ≡ Some x → (b ≡ true) × (o ≡ Some x)
cond_some_of true o x e = (refl, e)
cond_some_of false o x e = cc

-- characters begin with a digit, which is read so
record IsDigitRead (cs : List ℕ) (x : ℕ × List ℕ) : Type 0 where
  c : ℕ
  digit : IsDigit c
  whole : cs ≡ c ∷ x.1
  value : digit_value c ≡ x.0

digit-read : (cs : List ℕ) (x : ℕ × List ℕ) → digit_at cs ≡ Some x → IsDigitRead cs x
unfolding digit_at digit_of
digit-read [] x e = cc
digit-read (c ∷ cs) x e =
    let p = cond_some (nat_lt (digit_value c) 16) (digit_value c, cs) x e in
    record {
      c = c;
      digit = ltb-true (digit_value c) 16 p.0;
      whole = ap (λ (y : ℕ × List ℕ). c ∷ y.1) p.1;
      value = ap (λ (y : ℕ × List ℕ). y.0) p.1;
    }

-- characters begin with an element, which is read so
pub record IsRead (cs : List ℕ) (x : List ℕ × List ℕ) : Type 0 where
  pub front : List ℕ
  pub element : IsElement (record { characters = front; units = x.0 })
  pub whole : cs ≡ front ++ x.1

four_cells : (cs : List ℕ) (w x y z : ℕ × List ℕ) (a : IsDigitRead cs w) (b : IsDigitRead w.1 x) (c : IsDigitRead x.1 y) (d : IsDigitRead y.1 z) → cs ≡ a.c ∷ (b.c ∷ (c.c ∷ (d.c ∷ z.1)))
four_cells cs w x y z a b c d =
    a.whole ∙ ap (λ (r : List ℕ). a.c ∷ r) (b.whole ∙ ap (λ (r : List ℕ). b.c ∷ r) (c.whole ∙ ap (λ (r : List ℕ). c.c ∷ r) d.whole))

escape-from_digits : (cs : List ℕ) (w x y z : ℕ × List ℕ) → IsDigitRead cs w → IsDigitRead w.1 x → IsDigitRead x.1 y → IsDigitRead y.1 z
    → IsRead (92 ∷ (117 ∷ cs)) ((((w.0 * 16 + x.0) * 16 + y.0) * 16 + z.0) ∷ [], z.1)
escape-from_digits cs w x y z a b c d = record {
  front = 92 ∷ (117 ∷ (a.c ∷ (b.c ∷ (c.c ∷ (d.c ∷ [])))));
  element = inr (inl (record {
    a = a.c;
    b = b.c;
    c = c.c;
    d = d.c;
    digits = (a.digit, b.digit, c.digit, d.digit);
    spelled = refl;
    stands = ap (λ (n : ℕ). n ∷ []) (omega (arith, a.value, b.value, c.value, d.value));
  }));
  whole = ap (λ (r : List ℕ). 92 ∷ (117 ∷ r)) (four_cells cs w x y z a b c d);
}

-- what is read stays what it is where it is named anew
same_read : (cs : List ℕ) (x y : List ℕ × List ℕ) → Some x ≡ Some y → IsRead cs x → IsRead cs y
same_read cs x y e h = let P : List ℕ × List ℕ → Type 0 = λ z. IsRead cs z in subst P (same_Some x y e) h

escape-read : (cs : List ℕ) (x : List ℕ × List ℕ) → escape_at cs ≡ Some x → IsRead (92 ∷ cs) x
unfolding escape_at digits_at
escape-read [] x e = cc
escape-read (c ∷ cs) x e =
    let p = cond_some_of (c == 117) (digits_at cs >>= λ unit. Some (unit.0 ∷ [], unit.1)) x e in
    let u : 117 ≡ c = sym (eqb-true c 117 p.0) in
    let P : ℕ → Type 0 = λ n. IsRead (92 ∷ (n ∷ cs)) x in
    subst P u (
    found (digits_at cs) (λ unit. Some (unit.0 ∷ [], unit.1)) x p.1 (λ unit read e.
    found (digit_at cs) _ unit read (λ a ea read.
    found (digit_at a.1) _ unit read (λ b eb read.
    found (digit_at b.1) _ unit read (λ c ec read.
    found (digit_at c.1) _ unit read (λ d ed read.
    same_read (92 ∷ (117 ∷ cs)) ((((a.0 * 16 + b.0) * 16 + c.0) * 16 + d.0) ∷ [], d.1) x (ap (λ (y : ℕ × List ℕ). Some (y.0 ∷ [], y.1)) (same_Some _ unit read) ∙ e)
    (escape-from_digits cs a b c d (digit-read cs a ea) (digit-read a.1 b eb) (digit-read b.1 c ec) (digit-read c.1 d ed))))))))

element_of-read : (c : ℕ) (cs : List ℕ) (x : List ℕ × List ℕ) → element_of c cs ≡ Some x → IsRead (c ∷ cs) x
unfolding element_of
element_of-read c cs x e = by_plain (chosen (is_plain c) _ _ _ e)
  where
    by_wide : ((nat_lt 0x7F c ≡ true) × (Some (encode_utf16 c, cs) ≡ Some x)) ⊎ ((nat_lt 0x7F c ≡ false) × (None ≡ Some x)) → IsRead (c ∷ cs) x
    by_wide (inl w) = same_read (c ∷ cs) (encode_utf16 c, cs) x w.1 (record {
      front = c ∷ [];
      element = inr (inr (record { c = c; above = ltb-true 0x7F c w.0; spelled = refl; stands = refl }));
      whole = refl;
    })
    by_wide (inr w) = cc

    by_escape : ((c == 92 ≡ true) × (escape_at cs ≡ Some x)) ⊎ ((c == 92 ≡ false) × (cond (nat_lt 0x7F c) (Some (encode_utf16 c, cs)) None ≡ Some x)) → IsRead (c ∷ cs) x
    by_escape (inl w) = let P : ℕ → Type 0 = λ n. IsRead (n ∷ cs) x in subst P (sym (eqb-true c 92 w.0)) (escape-read cs x w.1)
    by_escape (inr w) = by_wide (chosen (nat_lt 0x7F c) _ _ _ w.1)

    by_plain : ((is_plain c ≡ true) × (Some (c ∷ [], cs) ≡ Some x)) ⊎ ((is_plain c ≡ false) × (cond (c == 92) (escape_at cs) (cond (nat_lt 0x7F c) (Some (encode_utf16 c, cs)) None) ≡ Some x)) → IsRead (c ∷ cs) x
    by_plain (inl w) = same_read (c ∷ cs) (c ∷ [], cs) x w.1 (record {
      front = c ∷ [];
      element = inl (record { c = c; plain = w.0; spelled = refl; stands = refl });
      whole = refl;
    })
    by_plain (inr w) = by_escape (chosen (c == 92) _ _ _ w.1)

pub element-read : (cs : List ℕ) (x : List ℕ × List ℕ) → element_at cs ≡ Some x → IsRead cs x
unfolding element_at
element-read [] x e = cc
element-read (c ∷ cs) x e = element_of-read c cs x e

-- an element has a character at least
some_characters : (e : Element) → IsElement e → 0 < length e.characters
some_characters e (inl h) = omega (arith, ap length h.spelled)
some_characters e (inr (inl h)) = omega (arith, ap length h.spelled)
some_characters e (inr (inr h)) = omega (arith, ap length h.spelled)

-- so what is behind it is shorter
pub element-shorter : (cs : List ℕ) (x : List ℕ × List ℕ) → element_at cs ≡ Some x → length x.1 < length cs
element-shorter cs x e =
    let h = element-read cs x e in
    omega (arith, some_characters (record { characters = h.front; units = x.0 }) h.element, ap length h.whole, length-append h.front x.1)
