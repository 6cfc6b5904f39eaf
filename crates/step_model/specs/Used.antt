-- The used bytes of a file record that would be: of the attributes that come, each in the place of those of its stream, and of those
-- that stay.
use Rattle.std.specs.Prelude.{ℕ, ◌-◌, ◌*◌, Bool, true, false, not, ◌&&◌, ◌||◌, ◌==◌, nat_le, if◌then◌else◌, List, [], ◌∷◌, ◌++◌, filter, Option, Some, None}
use Rattle.std.specs.List.{list_any}
use Rattle.record_writer.specs.disk_model.Bytes.{zeros}
use Rattle.plan_model.specs.record_model.declared.attribute.OwnForm.{OwnForm}
use Rattle.plan_model.specs.record_model.declared.attribute.OwnForm.TheVariants.{Resident, Mapped}
use Rattle.plan_model.specs.record_model.declared.attribute.Attr.{Attr}
use Rattle.plan_model.specs.record_model.declared.runs.Run.{Run}
use Rattle.plan_model.specs.record_model.Attributes.{is_compressed_or_sparse}
use Rattle.plan_model.specs.record_model.Pairs.{pairs_of}
use Rattle.plan_model.specs.record_model.Records.{Record, used_of}
use Rattle.plan_model.specs.state_model.declared.stream.Stream.{Stream}
use Rattle.plan_model.specs.state_model.declared.stream.Stream.TheVariants.{Held, Placed}
use Rattle.plan_model.specs.state_model.Loads.{total_clusters}
use Rattle.plan_model.specs.state_model.Streams.{is_attribute_of, attributes_of}

-- the most used bytes of a record
abbrev pub most_used : ℕ
most_used = 1024

-- ---- records

-- one of the attributes that come is of the same stream
abbrev pub is_replaced : List Attr → Attr → Bool
is_replaced new a = list_any (λ (b : Attr). is_attribute_of b.head.kind b.name a) new

-- those that come, and those that stay; used bytes are a sum, so that their order is free
unfoldable pub attrs_with : List Attr → List Attr → List Attr
attrs_with new attrs = new ++ filter (λ a. not (is_replaced new a)) attrs

-- the used bytes of the record with these attributes
unfoldable pub used_after : List Attr → Record → ℕ
used_after new r = used_of (attrs_with new r.attrs)

-- ---- attributes

-- an attribute that wasn't there
abbrev pub new_attr : ℕ → List ℕ → Attr
new_attr kind name = record { head = record { kind = kind; flags = 0; id = 0 }; name = name; form = Resident [] 0 }

abbrev pub first_or : Attr → List Attr → Attr
first_or a [] = a
first_or a (b ∷ attributes) = b

-- the first attribute of a stream, which has its flags, or a new one
unfoldable pub own_attr : ℕ → List ℕ → Record → Attr
own_attr kind name r = first_or (new_attr kind name) (attributes_of kind name r.attrs)

-- the attribute with this value or these clusters
abbrev pub with_form : OwnForm → Attr → Attr
with_form form a = record { head = a.head; name = a.name; form = form }

-- an attribute with a value of so many bytes; which ones they are doesn't count
abbrev pub value_attr : ℕ → Attr → Attr
value_attr size a = with_form (Resident (zeros size) 0) a

-- a compressed or sparse stream says how many bytes of its clusters are held
abbrev pub held_if : ℕ → ℕ → Option ℕ
held_if flags bytes = if is_compressed_or_sparse flags then Some bytes else None

-- in these clusters, with mapping pairs in the fewest bytes
abbrev pub placed_form : ℕ → ℕ → ℕ → List Run → OwnForm
placed_form flags real initialised runs =
    Mapped (record { first = 0; last = total_clusters runs - 1; unit = 0; allocated = 4096 * total_clusters runs; real = real; initialised = initialised; held = held_if flags (4096 * total_clusters runs) }) (pairs_of runs)

abbrev pub placed_attr : ℕ → ℕ → List Run → Attr → Attr
placed_attr real initialised runs a = with_form (placed_form a.head.flags real initialised runs) a

-- ---- what may leave a record

-- a value, or no stream yet
abbrev pub is_in_record : Option Stream → Bool
is_in_record None = true
is_in_record (Some (Held value)) = true
is_in_record (Some (Placed e)) = false

-- A stream of this size stands in its record then: it did, and it has no bytes or the record with its value has at most 1,024 used
-- bytes. One that is once in clusters stays so.
abbrev pub stays_in : Option Stream → ℕ → ℕ → Bool
stays_in old size used = is_in_record old && (size == 0 || nat_le used most_used)
