-- The grammar of a name's text: which characters spell which UTF-16 units, element by element.
use Rattle.std.specs.Prelude.{◌≡◌, ℕ, ◌+◌, ◌*◌, ◌<◌, true, ◌⊎◌, List, [], ◌∷◌, ◌++◌, length, encode_utf8_all}
use Rattle.std.specs.Char.{digit_value}
use Rattle.std.specs.Char.Escape.{encode_utf16}
use Rattle.std.specs.List.{flat_map, AllByRecursion}
use Rattle.std.specs.Str.{chars}
use Rattle.utf16_name.specs.declared.name.NameFault.{NameFault}
use Rattle.utf16_name.specs.declared.name.NameFault.TheVariants.{Text}
use Rattle.utf16_name.specs.Texts.{is_plain}

-- an element: the characters that spell it, and the units that they stand for
pub record Element : Type 0 where
  pub characters : List ℕ
  pub units : List ℕ

-- a character from 0x21 to 0x7E other than `\` and `/` stands for itself
pub record IsItself (e : Element) : Type 0 where
  pub c : ℕ
  pub plain : is_plain c ≡ true
  pub spelled : e.characters ≡ c ∷ []
  pub stands : e.units ≡ c ∷ []

-- a hexadecimal digit of either case
abbrev pub IsDigit : ℕ → Type 0
IsDigit c = digit_value c < 16

-- `\u` and four hexadecimal digits, the highest first, stand for that unit
pub record IsEscape (e : Element) : Type 0 where
  pub a : ℕ
  pub b : ℕ
  pub c : ℕ
  pub d : ℕ
  pub digits : IsDigit a × IsDigit b × IsDigit c × IsDigit d
  pub spelled : e.characters ≡ 92 ∷ (117 ∷ (a ∷ (b ∷ (c ∷ (d ∷ [])))))
  pub stands : e.units ≡ (digit_value a * 4096 + digit_value b * 256 + digit_value c * 16 + digit_value d) ∷ []

-- a character above 0x7F stands for its one or two units
pub record IsWide (e : Element) : Type 0 where
  pub c : ℕ
  pub above : 0x7F < c
  pub spelled : e.characters ≡ c ∷ []
  pub stands : e.units ≡ encode_utf16 c

abbrev pub IsElement : Element → Type 0
IsElement e = IsItself e ⊎ (IsEscape e ⊎ IsWide e)

-- the characters are elements, one behind the other, and the units are what these stand for
pub record Spells (cs us : List ℕ) : Type 0 where
  pub elements : List Element
  pub each : AllByRecursion IsElement elements
  pub characters : flat_map (λ e. e.characters) elements ≡ cs
  pub units : flat_map (λ e. e.units) elements ≡ us

-- no element stands at the front
abbrev pub BeginsNone : List ℕ → Type 0
BeginsNone cs = (e : Element) (more : List ℕ) → IsElement e → cs ≡ e.characters ++ more → ⊥

-- the first element at fault begins at this byte: elements stand before it, and none begins there
pub record FaultAt (text : List ℕ) (at : ℕ) : Type 0 where
  pub before : List ℕ
  pub rest : List ℕ
  pub us : List ℕ
  pub whole : chars text ≡ before ++ rest
  pub spelled : Spells before us
  pub some : 0 < length rest
  pub none : BeginsNone rest
  pub place : length (encode_utf8_all before) ≡ at

-- a text has faults of this kind alone
abbrev pub IsFaultOf : List ℕ → NameFault → Type 0
IsFaultOf text (Text at) = FaultAt text at
IsFaultOf text fault = ⊥
