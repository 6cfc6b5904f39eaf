-- A file record in which a stream that stands there has another value.
use Rattle.std.specs.Prelude.{ℕ, List, [], ◌∷◌}
use Rattle.record_streams.specs.record_model.declared.attribute.Attr.{Attr}
use Rattle.record_streams.specs.record_model.declared.attribute.OwnForm.{OwnForm}
use Rattle.record_streams.specs.record_model.declared.attribute.OwnForm.TheVariants.{Resident, Mapped}
use Rattle.record_streams.specs.record_model.Records.{Record}
use Rattle.record_streams.specs.state_model.Streams.{attributes_of}
use Rattle.record_streams.specs.Placing.{with_stream}

-- whether a value is one that an index lists; one that stood in clusters isn't
abbrev pub indexed_of : OwnForm → ℕ
indexed_of (Resident value indexed) = indexed
indexed_of (Mapped sizes pairs) = 0

-- the attribute with this value in its record; the rest stays
abbrev pub valued_attr : List ℕ → Attr → Attr
valued_attr value a = record { head = a.head; name = a.name; form = Resident value (indexed_of a.form) }

-- the first of these attributes of a stream with this value; a record that has none stays
abbrev pub valued_first : ℕ → List ℕ → List ℕ → Record → List Attr → Record
valued_first kind name value r [] = r
valued_first kind name value r (a ∷ others) = record { head = r.head; attrs = with_stream kind name (valued_attr value a) r.attrs }

-- the record with this value of the stream, in one attribute
abbrev pub valued_record : ℕ → List ℕ → List ℕ → Record → Record
valued_record kind name value r = valued_first kind name value r (attributes_of kind name r.attrs)
