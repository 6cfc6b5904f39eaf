-- A stream of a file record in other clusters.
use Rattle.std.specs.Prelude.{ℕ, ◌+◌, ◌-◌, ◌*◌, ◌^◌, ◌==◌, Bool, not, is_some, if◌then◌else◌, List, [], ◌∷◌, filter, Option, Some, None}
use Rattle.record_writer.specs.record_model.declared.attribute.Attr.{Attr}
use Rattle.record_writer.specs.record_model.declared.attribute.Sizes.{Sizes}
use Rattle.record_writer.specs.record_model.declared.attribute.OwnForm.{OwnForm}
use Rattle.record_writer.specs.record_model.declared.attribute.OwnForm.TheVariants.{Resident, Mapped}
use Rattle.record_writer.specs.record_model.declared.runs.Run.{Run}
use Rattle.record_writer.specs.record_model.Attributes.{is_compressed_or_sparse}
use Rattle.record_writer.specs.record_model.Pairs.{pairs_of}
use Rattle.record_writer.specs.record_model.Records.{Record}
use Rattle.stream_map.specs.state_model.declared.stream.Extents.{Extents}
use Rattle.stream_map.specs.state_model.Loads.{total_clusters}
use Rattle.stream_map.specs.state_model.Streams.{is_attribute_of, attributes_of}

-- ---- one attribute

-- the last VCN of so many clusters; that of none is the one before VCN 0, modulo 2 ^ 64
abbrev pub last_vcn : ℕ → ℕ
last_vcn clusters = if clusters == 0 then 2 ^ 64 - 1 else clusters - 1

-- the clusters that the volume holds of a run; it holds none of a sparse one
abbrev pub held_in : Run → ℕ
held_in r = if is_some r.lcn then r.len else 0

abbrev pub held_clusters : List Run → ℕ
held_clusters [] = 0
held_clusters (r ∷ runs) = held_in r + held_clusters runs

-- a compressed or sparse stream says how many bytes of its clusters are held
abbrev pub held_size : ℕ → ℕ → Option ℕ
held_size flags bytes = if is_compressed_or_sparse flags then Some bytes else None

abbrev pub unit_of : OwnForm → ℕ
unit_of (Resident value indexed) = 0
unit_of (Mapped sizes pairs) = sizes.unit

-- the sizes of a stream in these clusters, of so many sectors each
abbrev pub placed_sizes : ℕ → ℕ → ℕ → Extents → Sizes
placed_sizes per flags unit e = record {
  first = 0;
  last = last_vcn (total_clusters e.runs);
  unit = unit;
  allocated = e.allocated;
  real = e.real;
  initialised = e.initialised;
  held = held_size flags (held_clusters e.runs * (512 * per));
}

-- the attribute in these clusters, from VCN 0 on, with mapping pairs in the fewest bytes; the rest stays
abbrev pub placed_attr : ℕ → Extents → Attr → Attr
placed_attr per e a = record { head = a.head; name = a.name; form = Mapped (placed_sizes per a.head.flags (unit_of a.form) e) (pairs_of e.runs) }

-- ---- in its record

-- the attributes of other streams
abbrev pub without_stream : ℕ → List ℕ → List Attr → List Attr
without_stream kind name attrs = filter (λ (a : Attr). not (is_attribute_of kind name a)) attrs

-- the attribute in the place of the first one of the stream, whose others go
abbrev pub with_stream : ℕ → List ℕ → Attr → List Attr → List Attr
with_stream kind name new [] = []
with_stream kind name new (a ∷ attrs) = if is_attribute_of kind name a then new ∷ without_stream kind name attrs else a ∷ with_stream kind name new attrs

-- the stream's attribute by rising first VCN that is the first of these, in these clusters; a record that has none stays
abbrev pub placed_first : ℕ → ℕ → List ℕ → Extents → Record → List Attr → Record
placed_first per kind name e r [] = r
placed_first per kind name e r (a ∷ others) = record { head = r.head; attrs = with_stream kind name (placed_attr per e a) r.attrs }

-- the record with this stream in these clusters, in one attribute
abbrev pub placed_record : ℕ → ℕ → List ℕ → Extents → Record → Record
placed_record per kind name e r = placed_first per kind name e r (attributes_of kind name r.attrs)
