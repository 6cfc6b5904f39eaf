-- The written spelling of an attribute is in the table, and is read again.
use Rattle.std.proofs.Common.{◌≡◌, ℕ, true, List, ◌++◌, refl}
use Rattle.record_model.specs.declared.attribute.OwnForm.{OwnForm}
use Rattle.record_model.specs.declared.attribute.OwnForm.TheVariants.{Resident, Mapped}
use Rattle.record_model.specs.declared.attribute.Attr.{Attr}
use Rattle.record_model.specs.Attributes.{has_length, is_inside, attr_of, form_spelling, spelling, SpellsAttr, FitsForm, FitsAttr}
use Rattle.record_model.proofs.Attributes.{own_from_table, attr_from_table, inside_from_table, length_from_own}
use Rattle.record_model.proofs.ResidentSpelling.{resident_spells}
use Rattle.record_model.proofs.MappedSpelling.{mapped_spells}

form_spells : (a : Attr) (form : OwnForm) → FitsAttr a → FitsForm a.head.flags form → a.form ≡ form → SpellsAttr (form_spelling a form) a
form_spells a (Resident value indexed) fits is e = resident_spells a value indexed fits is e
form_spells a (Mapped sizes pairs) fits is e = mapped_spells a sizes pairs fits is e

pub spelling_spells : (a : Attr) → FitsAttr a → SpellsAttr (spelling a) a
spelling_spells a fits = form_spells a a.form fits fits.form refl

pub spelling_read : (a : Attr) → FitsAttr a → attr_of (spelling a) ≡ a
spelling_read a fits = attr_from_table (spelling a) a (spelling_spells a fits)

pub spelling_has_length : (a : Attr) (rest : List ℕ) → FitsAttr a → has_length (spelling a ++ rest) ≡ true
spelling_has_length a rest fits = length_from_own (spelling a) rest (own_from_table (spelling a) a (spelling_spells a fits))

pub spelling_inside : (a : Attr) → FitsAttr a → is_inside (spelling a) ≡ true
spelling_inside a fits = inside_from_table (spelling a) a (spelling_spells a fits)
