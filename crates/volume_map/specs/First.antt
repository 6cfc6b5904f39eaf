-- The first attribute of a stream.
use Rattle.std.specs.Prelude.{ℕ, nat_lt, if◌then◌else◌, List, [], ◌∷◌, Option, Some, None}
use Rattle.record_model.specs.declared.attribute.Attr.{Attr}
use Rattle.state_model.specs.Streams.{first_vcn}

abbrev pub first_of : List Attr → Option Attr
first_of [] = None
first_of (a ∷ attributes) = Some a

-- of an attribute found so far and a later one, the one that begins first; of two that begin at one VCN the one found before
abbrev pub earlier : Option Attr → Attr → Option Attr
earlier None a = Some a
earlier (Some b) a = if nat_lt (first_vcn a) (first_vcn b) then Some a else Some b

abbrev pub flags_or : Option Attr → ℕ
flags_or None = 0
flags_or (Some a) = a.head.flags
