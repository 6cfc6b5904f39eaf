-- The laws of reading and writing attributes.
use Rattle.std.specs.Prelude.{◌≡◌, ℕ, List, ◌++◌, Ok}
use Rattle.record_model.specs.declared.attribute.Attr.{Attr}
use Rattle.record_model.specs.Attributes.{spelling, SpellsAttr, FitsAttr}
use Rattle.attr_codec.specs.Reading.{own_bytes, attr_at}

-- bytes that begin with a spelling of an attribute are read as it
abbrev pub SpelledIsRead : Type 0
SpelledIsRead = (s rest : List ℕ) (a : Attr) → SpellsAttr s a → attr_at (s ++ rest) ≡ Ok a

-- an attribute that is read is spelled by its own bytes
abbrev pub ReadIsSpelled : Type 0
ReadIsSpelled = (bytes : List ℕ) (a : Attr) → attr_at bytes ≡ Ok a → SpellsAttr (own_bytes bytes) a

-- what was written is read again, whatever stands behind it
abbrev pub WrittenIsRead : Type 0
WrittenIsRead = (a : Attr) (rest : List ℕ) → FitsAttr a → attr_at (spelling a ++ rest) ≡ Ok a
