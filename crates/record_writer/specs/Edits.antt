-- A record with one attribute more, or one less, or of a list of attributes, and the bytes of an attribute's spelling.
use Rattle.std.specs.Prelude.{ℕ, ◌+◌, ◌*◌, List, insert, remove, nat_le, length, Result, Ok}
use Rattle.disk_model.specs.host_base.Answers.{◌>>=◌, needs}
use Rattle.disk_model.specs.Bytes.{up8}
use Rattle.record_model.specs.declared.attribute.OwnForm.{OwnForm}
use Rattle.record_model.specs.declared.attribute.OwnForm.TheVariants.{Resident, Mapped}
use Rattle.record_model.specs.declared.attribute.Attr.{Attr}
use Rattle.record_model.specs.declared.record.RecHead.{RecHead}
use Rattle.record_model.specs.Attributes.{held_bytes}
use Rattle.record_model.specs.Records.{Record, used_of}

-- the record with this attribute at a place; those from there on stand behind it
abbrev pub with_attr_at : Record → ℕ → Attr → Record
with_attr_at r at attr = record { head = r.head; attrs = insert r.attrs at attr }

-- the bytes that this record would use
abbrev pub used_with : Record → ℕ → Attr → ℕ
used_with r at attr = used_of (insert r.attrs at attr)

-- the record with this attribute at a place, or the bytes that it would use where these are above 1,024
abbrev pub extended : Record → ℕ → Attr → Result Record ℕ
extended r at attr = needs (nat_le (used_with r at attr) 1024) (used_with r at attr) >>= λ _. Ok (with_attr_at r at attr)

-- the record without the attribute at a place
abbrev pub without_attr_at : Record → ℕ → Record
without_attr_at r at = record { head = r.head; attrs = remove r.attrs at }

-- the record of these attributes, or the bytes that it would use where these are above 1,024
abbrev pub made_of : RecHead → List Attr → Result Record ℕ
made_of head attrs = needs (nat_le (used_of attrs) 1024) (used_of attrs) >>= λ _. Ok (record { head = head; attrs = attrs })

-- the bytes of an attribute with a header, a name of so many units, and a value or mapping pairs of so many bytes
abbrev pub whole_length : ℕ → ℕ → ℕ → ℕ
whole_length header name value = up8 (up8 (header + 2 * name) + value)

abbrev pub form_length : ℕ → OwnForm → ℕ
form_length name (Resident value indexed) = whole_length 0x18 name (length value)
form_length name (Mapped sizes pairs) = whole_length (0x40 + length (held_bytes sizes.held)) name (length pairs)
