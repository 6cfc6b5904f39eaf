-- The attributes that are written.
use Rattle.std.specs.Prelude.{ℕ, List}
use Rattle.record_model.specs.declared.attribute.Head.{Head}
use Rattle.record_model.specs.declared.attribute.Sizes.{Sizes}
use Rattle.record_model.specs.declared.attribute.OwnForm.TheVariants.{Resident, Mapped}
use Rattle.record_model.specs.declared.attribute.Attr.{Attr}

-- an attribute whose value stands in the record
abbrev pub resident_attr : Head → List ℕ → List ℕ → ℕ → Attr
resident_attr head name value indexed = record { head = head; name = name; form = Resident value indexed }

-- an attribute whose value stands in clusters
abbrev pub mapped_attr : Head → List ℕ → Sizes → List ℕ → Attr
mapped_attr head name sizes pairs = record { head = head; name = name; form = Mapped sizes pairs }
