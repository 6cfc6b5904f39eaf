-- The elements of a name's text: which characters spell UTF-16 units.
use Rattle.std.specs.Prelude.{◌≡◌, ℕ, ◌+◌, ◌*◌, ◌==◌, nat_lt, if◌then◌else◌, List, [], ◌∷◌, Option, Some, None}
use Rattle.std.specs.Char.{digit_value}
use Rattle.std.specs.Char.Escape.{encode_utf16}
use Rattle.utf16_name.specs.Texts.{is_plain}

-- goes on with what was found
infixl 10 ◌>>=◌
abbrev pub ◌>>=◌ : {A B : Type 0} → Option A → (A → Option B) → Option B
(Some x) >>= f = f x
None >>= f = None

-- what was answered, seen by view, is what is found
abbrev pub Finds : {X Y : Type 0} → (X → Y) → Option X → Option Y → Type 0
Finds view (Some x) found = found ≡ Some (view x)
Finds view None found = found ≡ None

-- the first character, and those behind it
abbrev pub first_at : List ℕ → Option (ℕ × List ℕ)
first_at [] = None
first_at (c ∷ cs) = Some (c, cs)

-- the value of a hexadecimal digit of either case
unfoldable pub digit_of : ℕ → List ℕ → Option (ℕ × List ℕ)
digit_of c cs = if nat_lt (digit_value c) 16 then Some (digit_value c, cs) else None

-- the digit at the front, and the characters behind it
unfoldable pub digit_at : List ℕ → Option (ℕ × List ℕ)
digit_at cs = do
  first ← first_at cs
  digit_of first.0 first.1

-- the unit that four hexadecimal digits at the front spell, and the characters behind them
unfoldable pub digits_at : List ℕ → Option (ℕ × List ℕ)
digits_at cs = do
  a ← digit_at cs
  b ← digit_at a.1
  c ← digit_at b.1
  d ← digit_at c.1
  Some (((a.0 * 16 + b.0) * 16 + c.0) * 16 + d.0, d.1)

-- an escape behind its `\`: `u`, and the unit that four digits spell
unfoldable pub escape_at : List ℕ → Option (List ℕ × List ℕ)
escape_at cs = do
  first ← first_at cs
  if first.0 == 117 then (digits_at first.1 >>= λ unit. Some (unit.0 ∷ [], unit.1)) else None

-- the units of the element that begins with a character, and the characters behind it: a character
-- from 0x21 to 0x7E other than `\` and `/` stands for itself, `\u` and four digits for their unit,
-- and a character above 0x7F for its one or two units; nothing else is an element
unfoldable pub element_of : ℕ → List ℕ → Option (List ℕ × List ℕ)
element_of c cs =
    if is_plain c then Some (c ∷ [], cs)
    else if c == 92 then escape_at cs
    else if nat_lt 0x7F c then Some (encode_utf16 c, cs)
    else None

-- the units of the element at the front, and the characters behind it
unfoldable pub element_at : List ℕ → Option (List ℕ × List ℕ)
element_at cs = do
  first ← first_at cs
  element_of first.0 first.1
