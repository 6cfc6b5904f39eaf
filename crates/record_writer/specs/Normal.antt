-- An attribute and a record with mapping pairs that fill whole eights, as this project writes them.
use Rattle.std.specs.Prelude.{map}
use Rattle.record_model.specs.declared.attribute.OwnForm.{OwnForm}
use Rattle.record_model.specs.declared.attribute.OwnForm.TheVariants.{Resident, Mapped}
use Rattle.record_model.specs.declared.attribute.Attr.{Attr}
use Rattle.record_model.specs.Attributes.{filled}
use Rattle.record_model.specs.Records.{Record}

-- mapping pairs are filled with zeros to a multiple of 8; a value stays
abbrev pub normal_form : OwnForm → OwnForm
normal_form (Resident value indexed) = Resident value indexed
normal_form (Mapped sizes pairs) = Mapped sizes (filled 0 pairs)

-- the attribute with its pairs filled so; all else stays
abbrev pub normal : Attr → Attr
normal a = record { head = a.head; name = a.name; form = normal_form a.form }

-- the record with each of its attributes so
abbrev pub normal_record : Record → Record
normal_record r = record { head = r.head; attrs = map normal r.attrs }
