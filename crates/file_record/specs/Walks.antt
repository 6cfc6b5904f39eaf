-- The walk over the bytes of a record's attributes.
use Rattle.std.specs.Prelude.{ℕ, nat_le, ◌&&◌, Bool, true, false, if◌then◌else◌, List, [], ◌∷◌, ◌++◌, map, Result, Ok}
use Rattle.std.specs.List.{list_all}
use Rattle.state_model.specs.host_base.Answers.{◌>>=◌, needs}
use Rattle.record_model.specs.disk_model.Numbers.{field}
use Rattle.record_model.specs.declared.attribute.Attr.{Attr}
use Rattle.record_model.specs.Attributes.{has_length, is_inside, attr_of}
use Rattle.record_model.specs.Values.{has_lawful_value}
use Rattle.record_model.specs.Records.{Pieces, cut, most_attributes, types_rise}
use Rattle.file_record.specs.declared.walk.Attributes.{Attributes}
use Rattle.file_record.specs.declared.walk.Found.{Found}

-- the length of the attribute at the front of these bytes, or rule 3
unfoldable pub length_at : List ℕ → Result ℕ ℕ
length_at bytes = needs (has_length bytes) 3 >>= λ _. Ok (field 0x04 4 bytes)

-- before the first attribute
abbrev pub nothing_found : Found
nothing_found = record { attrs = []; least = 0; rises = true; inside = true; lawful = true }

-- one attribute more
abbrev pub with_attr : Found → Attr → Found
with_attr found attr =
    record {
      attrs = found.attrs ++ attr ∷ [];
      least = attr.head.kind;
      rises = found.rises && nat_le found.least attr.head.kind;
      inside = found.inside;
      lawful = found.lawful && has_lawful_value attr;
    }

-- one more of this type that isn't inside its bytes
abbrev pub with_outside : Found → ℕ → Found
with_outside found kind =
    record { attrs = found.attrs; least = kind; rises = found.rises && nat_le found.least kind; inside = false; lawful = found.lawful }

-- one more, by its own bytes
unfoldable pub with_found : Found → List ℕ → Found
with_found found piece = if is_inside piece then with_attr found (attr_of piece) else with_outside found (field 0x00 4 piece)

-- the attributes that were found, or the least rule that is broken
abbrev pub verdict_of : Found → Bool → Result Attributes ℕ
verdict_of found ended =
    needs found.rises 4 >>= λ _. needs ended 5 >>= λ _. needs found.inside 6 >>= λ _. Ok (record { attrs = found.attrs; lawful = found.lawful })

-- the attributes of the pieces, or the least of the rules 4 to 6 that they break
abbrev pub attributes_of : Pieces → Result Attributes ℕ
attributes_of p =
    needs (types_rise p.pieces) 4
    >>= λ _. needs p.ended 5
    >>= λ _. needs (list_all is_inside p.pieces) 6
    >>= λ _. Ok (record { attrs = map attr_of p.pieces; lawful = list_all has_lawful_value (map attr_of p.pieces) })

-- the attributes that stand in these bytes up to the end mark, or the least of the rules 3 to 6 that is broken
unfoldable pub attributes_at : List ℕ → Result Attributes ℕ
attributes_at bytes = cut most_attributes bytes >>= attributes_of
