-- Reading of the attribute at the front of bytes.
use Rattle.std.specs.Prelude.{ℕ, ◌*◌, ◌/◌, List, length, take, Result, Ok}
use Rattle.disk_model.specs.host_base.Answers.{Cause, refused, ◌>>=◌, needs}
use Rattle.disk_model.specs.Numbers.{field}
use Rattle.disk_model.specs.Bytes.{part}
use Rattle.record_model.specs.declared.attribute.OwnForm.{OwnForm}
use Rattle.record_model.specs.declared.attribute.OwnForm.TheVariants.{Resident, Mapped}
use Rattle.record_model.specs.declared.attribute.Attr.{Attr}
use Rattle.record_model.specs.Attributes.{units_at, has_length, is_inside, attr_of}
use Rattle.attr_codec.specs.declared.borrowed.Form.{Form}
use Rattle.attr_codec.specs.declared.borrowed.Form.TheVariants.{Resident as resident_form, Mapped as mapped_form}
use Rattle.attr_codec.specs.declared.borrowed.AttrRef.{AttrRef}
use Rattle.attr_codec.specs.declared.borrowed.AttrFault.{AttrFault}
use Rattle.attr_codec.specs.declared.borrowed.AttrFault.TheVariants.{Rule}

-- as many bytes as the attribute's length says
abbrev pub own_bytes : List ℕ → List ℕ
own_bytes bytes = take (field 0x04 4 bytes) bytes

-- the attribute at the front of these bytes, or the rule that they break: its length (3), a name, value or mapping pairs outside it (6)
unfoldable pub attr_at : List ℕ → Result Attr ℕ
attr_at bytes = needs (has_length bytes) 3 >>= λ _. needs (is_inside (own_bytes bytes)) 6 >>= λ _. Ok (attr_of (own_bytes bytes))

-- the bytes of the name in an attribute's own bytes
abbrev pub name_bytes : List ℕ → List ℕ
name_bytes a = part (field 0x0A 2 a) (2 * field 0x09 1 a) a

-- the units that bytes spell
abbrev pub units_in : List ℕ → List ℕ
units_in bytes = units_at 0 (length bytes / 2) bytes

-- what stands in the bytes, as an attribute that owns its parts
abbrev pub form_seen : Form → OwnForm
form_seen (resident_form value indexed) = Resident value.now indexed
form_seen (mapped_form sizes pairs) = Mapped sizes pairs.now

abbrev pub attr_seen : AttrRef → Attr
attr_seen a = record { head = a.head; name = units_in a.name.now; form = form_seen a.form }

-- a refusal is the number of the rule that is broken
abbrev pub attr_cause : AttrFault → Cause ℕ
attr_cause (Rule rule) = refused rule
