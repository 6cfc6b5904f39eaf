-- A file record whose file changed at a time.
use Rattle.std.specs.Prelude.{ℕ, suc, ◌+◌, min, ◌==◌, nat_lt, not, Bool, if◌then◌else◌, List, [], ◌∷◌, insert, length, find, Option, Some, None}
use Rattle.std.specs.List.{list_any, range_with_len}
use Rattle.disk_model.specs.Numbers.{spell}
use Rattle.disk_model.specs.Bytes.{written, zeros}
use Rattle.record_model.specs.declared.attribute.OwnForm.{OwnForm}
use Rattle.record_model.specs.declared.attribute.OwnForm.TheVariants.{Resident, Mapped}
use Rattle.record_model.specs.declared.attribute.Attr.{Attr}
use Rattle.record_model.specs.declared.record.RecHead.{RecHead}
use Rattle.record_model.specs.declared.values.StdInfo.{StdInfo}
use Rattle.record_model.specs.Constants.{standard_information}
use Rattle.record_model.specs.Records.{Record}
use Rattle.record_model.specs.StdValues.{std_info_over}
use Rattle.record_model.specs.Values.{is_standard_information}
use Rattle.state_model.specs.Files.{has_type, no_info}
use Rattle.plan_changes.specs.plan_model.Informed.{is_info}

-- modified and changed at the stamp
abbrev pub timed_info : ℕ → StdInfo → StdInfo
timed_info stamp info = record { created = info.created; modified = stamp; changed = stamp; read_at = info.read_at; flags = info.flags }

-- ---- a record with standard information

-- the time of the last change of the data stands at 08, that of the record at 10; a value that is no standard information stays
unfoldable pub timed_value : ℕ → List ℕ → List ℕ
timed_value stamp value = if is_standard_information value then written 0x10 (spell 8 stamp) (written 0x08 (spell 8 stamp) value) else value

abbrev pub timed_form : ℕ → OwnForm → OwnForm
timed_form stamp (Resident value indexed) = Resident (timed_value stamp value) indexed
timed_form stamp (Mapped sizes pairs) = Mapped sizes pairs

abbrev pub timed_attr : ℕ → Attr → Attr
timed_attr stamp a = record { head = a.head; name = a.name; form = timed_form stamp a.form }

-- the first standard information of these attributes has the times
abbrev pub timed_attrs : ℕ → List Attr → List Attr
timed_attrs stamp [] = []
timed_attrs stamp (a ∷ attrs) = if is_info a then timed_attr stamp a ∷ attrs else a ∷ timed_attrs stamp attrs

-- ---- a record that gets it

-- how many attributes stand before the first whose type isn't below this one
abbrev pub place_of_type : ℕ → List Attr → ℕ
place_of_type kind [] = 0
place_of_type kind (a ∷ attrs) = if nat_lt a.head.kind kind then suc (place_of_type kind attrs) else 0

unfoldable pub has_id : List Attr → ℕ → Bool
has_id attrs id = list_any (λ (a : Attr). a.head.id == id) attrs

abbrev pub or_zero : Option ℕ → ℕ
or_zero None = 0
or_zero (Some id) = id

-- the least id below this one that none of these attributes has
unfoldable pub first_free : List Attr → ℕ → Option ℕ
first_free attrs count = find (λ id. not (has_id attrs id)) (range_with_len 0 count)

-- the least id that none of them has; they can't have more ids than they are
abbrev pub free_id : List Attr → ℕ
free_id attrs = or_zero (first_free attrs (length attrs + 1))

-- the id of a new attribute: the header's next one, or, where these have come to their end, the least that is free
abbrev pub new_id : Record → ℕ
new_id r = if r.head.next_id == 0xFFFF then free_id r.attrs else r.head.next_id

-- the header after an id was taken
abbrev pub with_next_id : RecHead → RecHead
with_next_id h = record { lsn = h.lsn; seq = h.seq; links = h.links; flags = h.flags; base = h.base; next_id = min (h.next_id + 1) 0xFFFF; number = h.number }

-- standard information of 72 bytes, zeros but for these times
unfoldable pub new_value : ℕ → List ℕ
new_value stamp = std_info_over (timed_info stamp no_info) (zeros 0x48)

abbrev pub new_info : ℕ → ℕ → Attr
new_info id stamp = record { head = record { kind = standard_information; flags = 0; id = id }; name = []; form = Resident (new_value stamp) 0 }

-- ---- both

-- the record with these times, in its standard information or in one that comes
abbrev pub timed_record : ℕ → Record → Record
timed_record stamp r =
    if has_type standard_information r then record { head = r.head; attrs = timed_attrs stamp r.attrs }
    else record { head = with_next_id r.head; attrs = insert r.attrs (place_of_type standard_information r.attrs) (new_info (new_id r) stamp) }
