-- The reader of a text answers by the grammar.
use Rattle.std.proofs.Common.{◌≡◌, ℕ, ◌-◌, ◌<◌, ◌≤◌, Bool, cond, List, [], ◌∷◌, ◌++◌, length, Option, Some, None, Result, Ok, Err, inl, inr, refl, sym, ap, subst, ◌∙◌, arith, append_assoc, length-append}
use Rattle.std.specs.Prelude.{suc, zero, nat_lt, ◌==◌, encode_utf8_all}
use Rattle.std.specs.Str.{chars, IsUtf8}
use Rattle.std.specs.List.{flat_map, AllByRecursion}
use Rattle.std.specs.Char.{digit_value}
use Rattle.std.specs.Char.Escape.{encode_utf16}
use Rattle.std.proofs.lemmas.Bool.Decides.{nat_tests}
use Rattle.std.proofs.lemmas.Str.{encodes-append, encodes-chars}
use Rattle.utf16_name.specs.declared.name.NameFault.{NameFault}
use Rattle.utf16_name.specs.declared.name.NameFault.TheVariants.{BadUnit, Length, Text, Memory}
use Rattle.utf16_name.specs.Elements.{digit_of, digit_at, digits_at, escape_at, element_of, element_at}
use Rattle.utf16_name.specs.Reading.{with_front, behind, units_in, placed, units_of_text}
use Rattle.utf16_name.specs.Spelling.{Element, IsItself, IsDigit, IsEscape, IsWide, IsElement, Spells, BeginsNone, IsFaultOf}
use Rattle.utf16_name.proofs.Fronts.{IsRead, element-read, element-shorter}
use Rattle.utf16_name.proofs.Walks.{units_in-element, units_in-nil}

-- ---- what is spelled is read

digit_at-digit : (c : ℕ) (rest : List ℕ) → IsDigit c → digit_at (c ∷ rest) ≡ Some (digit_value c, rest)
unfolding digit_at digit_of
digit_at-digit c rest lt = grind (arith, nat_tests)

escape-again : (e : Element) (more : List ℕ) → IsEscape e → element_at (e.characters ++ more) ≡ Some (e.units, more)
unfolding element_at element_of escape_at digits_at
escape-again e more h =
    ap (λ (cs : List ℕ). element_at (cs ++ more)) h.spelled
    ∙ rw (digit_at-digit h.a _ h.digits.0, digit_at-digit h.b _ h.digits.1, digit_at-digit h.c _ h.digits.2, digit_at-digit h.d more h.digits.3)
    (rw h.stands (ap (λ (n : ℕ). Some (n ∷ [], more)) (omega arith)))

itself-again : (e : Element) (more : List ℕ) → IsItself e → element_at (e.characters ++ more) ≡ Some (e.units, more)
unfolding element_at element_of
itself-again e more h =
    ap (λ (cs : List ℕ). element_at (cs ++ more)) h.spelled
    ∙ ap (λ (b : Bool). cond b (Some (h.c ∷ [], more)) (cond (h.c == 92) (escape_at more) (cond (nat_lt 0x7F h.c) (Some (encode_utf16 h.c, more)) None))) h.plain
    ∙ ap (λ (us : List ℕ). Some (us, more)) (sym h.stands)

wide-again : (e : Element) (more : List ℕ) → IsWide e → element_at (e.characters ++ more) ≡ Some (e.units, more)
unfolding element_at element_of
wide-again e more h =
    ap (λ (cs : List ℕ). element_at (cs ++ more)) h.spelled
    ∙ by h.c h.above
    ∙ ap (λ (us : List ℕ). Some (us, more)) (sym h.stands)
  where
    by : (c : ℕ) → 0x7F < c → element_of c more ≡ Some (encode_utf16 c, more)
    by c above = grind (arith, nat_tests)

element-again : (e : Element) (more : List ℕ) → IsElement e → element_at (e.characters ++ more) ≡ Some (e.units, more)
element-again e more (inl h) = itself-again e more h
element-again e more (inr (inl h)) = escape-again e more h
element-again e more (inr (inr h)) = wide-again e more h

elements-again : (es : List Element) → AllByRecursion IsElement es → units_in (length (flat_map (λ e. e.characters) es)) (flat_map (λ e. e.characters) es) ≡ Ok (flat_map (λ e. e.units) es)
elements-again [] h = units_in-nil 0
elements-again (e ∷ es) h =
    units_in-element (e.characters ++ flat_map (λ e. e.characters) es) (e.units, flat_map (λ e. e.characters) es) (element-again e (flat_map (λ e. e.characters) es) h.0)
    ∙ ap (with_front e.units) (elements-again es h.1)

-- what is spelled is read
pub spelled_is_read : (text units : List ℕ) → Spells (chars text) units → units_of_text text ≡ Ok units
spelled_is_read text units h =
    ap (λ (cs : List ℕ). placed (length text) (units_in (length cs) cs)) (sym h.characters)
    ∙ ap (placed (length text)) (elements-again h.elements h.each)
    ∙ ap (λ (us : List ℕ). Ok us) h.units

-- ---- what is read is spelled

Spells-nil : Spells [] []
Spells-nil = record { elements = []; each = tt; characters = refl; units = refl }

-- one element more at the front
Spells-cons : (cs us : List ℕ) (x : List ℕ × List ℕ) → IsRead cs x → Spells x.1 us → Spells cs (x.0 ++ us)
Spells-cons cs us x h s = record {
  elements = record { characters = h.front; units = x.0 } ∷ s.elements;
  each = (h.element, s.each);
  characters = ap (λ (rest : List ℕ). h.front ++ rest) s.characters ∙ sym h.whole;
  units = ap (λ (rest : List ℕ). x.0 ++ rest) s.units;
}

-- what a walk says: its units are spelled, or elements are, up to characters at which none begins
record StopsAt (cs rest : List ℕ) : Type 0 where
  before : List ℕ
  us : List ℕ
  whole : cs ≡ before ++ rest
  spelled : Spells before us
  some : 0 < length rest
  none : element_at rest ≡ None

abbrev IsWalked : List ℕ → Result (List ℕ) (List ℕ) → Type 0
IsWalked cs (Ok us) = Spells cs us
IsWalked cs (Err rest) = StopsAt cs rest

one_more : (cs : List ℕ) (x : List ℕ × List ℕ) (read : Result (List ℕ) (List ℕ)) → IsRead cs x → IsWalked x.1 read → IsWalked cs (with_front x.0 read)
one_more cs x (Ok us) h walked = Spells-cons cs us x h walked
one_more cs x (Err rest) h stops = record {
  before = h.front ++ stops.before;
  us = x.0 ++ stops.us;
  whole = h.whole ∙ ap (λ (more : List ℕ). h.front ++ more) stops.whole ∙ sym append_assoc_at;
  spelled = Spells-cons (h.front ++ stops.before) stops.us (x.0, stops.before) (record { front = h.front; element = h.element; whole = refl }) stops.spelled;
  some = stops.some;
  none = stops.none;
}
  where
    append_assoc_at : (h.front ++ stops.before) ++ rest ≡ h.front ++ (stops.before ++ rest)
    append_assoc_at = rw append_assoc refl

walked : (steps : ℕ) (cs : List ℕ) → length cs ≤ steps → IsWalked cs (units_in steps cs)
unfolding units_in
walked steps [] h = Spells-nil
walked zero (c ∷ cs) h = absurd (omega arith)
walked (suc steps) (c ∷ cs) h = by (λ rest k. walked steps rest k) (element_at (c ∷ cs)) refl
  where
    by : ((rest : List ℕ) → length rest ≤ steps → IsWalked rest (units_in steps rest)) → (o : Option (List ℕ × List ℕ)) → element_at (c ∷ cs) ≡ o → IsWalked (c ∷ cs) (behind (c ∷ cs) (units_in steps) o)
    by so None e = record { before = []; us = []; whole = refl; spelled = Spells-nil; some = omega arith; none = e }
    by so (Some x) e = one_more (c ∷ cs) x (units_in steps x.1) (element-read (c ∷ cs) x e) (so x.1 (omega (arith, element-shorter (c ∷ cs) x e)))

-- the units that are read are spelled
pub read_is_spelled : (text units : List ℕ) → units_of_text text ≡ Ok units → Spells (chars text) units
read_is_spelled text units e = by (units_in (length (chars text)) (chars text)) (walked (length (chars text)) (chars text) (omega arith)) e
  where
    by : (read : Result (List ℕ) (List ℕ)) → IsWalked (chars text) read → placed (length text) read ≡ Ok units → Spells (chars text) units
    by (Ok us) h e = let P : List ℕ → Type 0 = λ u. Spells (chars text) u in let same : us ≡ units = cc in subst P same h
    by (Err rest) h e = cc

begins_none : (cs : List ℕ) → element_at cs ≡ None → BeginsNone cs
begins_none cs none e more h whole = let again = element-again e more h in let moved = ap element_at whole in cc

-- a fault names the byte where the first element at fault begins
pub fault_is_first : (text : List ℕ) (fault : NameFault) → IsUtf8 text → units_of_text text ≡ Err fault → IsFaultOf text fault
fault_is_first text fault utf8 e = by (units_in (length (chars text)) (chars text)) (walked (length (chars text)) (chars text) (omega arith)) fault e
  where
    by : (read : Result (List ℕ) (List ℕ)) → IsWalked (chars text) read → (fault : NameFault) → placed (length text) read ≡ Err fault → IsFaultOf text fault
    by (Ok us) h fault e = cc
    by (Err rest) h (BadUnit at) e = absurd cc
    by (Err rest) h (Length len) e = absurd cc
    by (Err rest) h Memory e = absurd cc
    by (Err rest) h (Text at) e =
        let bytes = sym (encodes-chars text utf8) ∙ ap encode_utf8_all h.whole ∙ encodes-append h.before rest in
        let place : length text - length (encode_utf8_all rest) ≡ at = cc in
        record {
          before = h.before;
          rest = rest;
          us = h.us;
          whole = h.whole;
          spelled = h.spelled;
          some = h.some;
          none = begins_none rest h.none;
          place = omega (arith, ap length bytes, length-append (encode_utf8_all h.before) (encode_utf8_all rest), place);
        }
