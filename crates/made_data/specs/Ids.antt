-- An attribute that comes into a record: where it stands there, and with which id.
use Rattle.std.specs.Prelude.{ℕ, suc, ◌+◌, min, ◌==◌, nat_lt, not, Bool, ◌&&◌, ◌||◌, if◌then◌else◌, List, [], ◌∷◌, length, find, insert, Option, Some, None}
use Rattle.std.specs.List.{range_with_len, list_any}
use Rattle.std.specs.Ordering.{nat_cmp, is_lt}
use Rattle.std.specs.Cmp.Lexicographic.{slice_cmp}
use Rattle.record_model.specs.declared.attribute.Attr.{Attr}
use Rattle.record_model.specs.declared.record.RecHead.{RecHead}
use Rattle.record_model.specs.Records.{Record}

-- ---- its place

-- the name is lesser: by the first unit that differs, or because it ends there
abbrev pub is_lesser : List ℕ → List ℕ → Bool
is_lesser name other = is_lt (slice_cmp nat_cmp name other)

-- an attribute of a lesser type, or of this one with a lesser name
unfoldable pub is_before : ℕ → List ℕ → Attr → Bool
is_before kind name a = nat_lt a.head.kind kind || (a.head.kind == kind && is_lesser a.name name)

-- how many attributes stand before the first that isn't before those of this type and name
abbrev pub place_of : ℕ → List ℕ → List Attr → ℕ
place_of kind name [] = 0
place_of kind name (a ∷ attrs) = if is_before kind name a then suc (place_of kind name attrs) else 0

-- ---- its id

unfoldable pub has_id : List Attr → ℕ → Bool
has_id attrs id = list_any (λ (a : Attr). a.head.id == id) attrs

abbrev pub or_zero : Option ℕ → ℕ
or_zero None = 0
or_zero (Some id) = id

-- the least id below this one that none of these attributes has
unfoldable pub first_free : List Attr → ℕ → Option ℕ
first_free attrs count = find (λ id. not (has_id attrs id)) (range_with_len 0 count)

-- the least id that none of them has; they can't have more ids than they are
abbrev pub free_id : List Attr → ℕ
free_id attrs = or_zero (first_free attrs (length attrs + 1))

-- the id of a new attribute: the header's next one, or, where these have come to their end, the least that is free
abbrev pub new_id : Record → ℕ
new_id r = if r.head.next_id == 0xFFFF then free_id r.attrs else r.head.next_id

-- the header after an id was taken
abbrev pub with_next_id : RecHead → RecHead
with_next_id h = record { lsn = h.lsn; seq = h.seq; links = h.links; flags = h.flags; base = h.base; next_id = min (h.next_id + 1) 0xFFFF; number = h.number }

-- ---- the record with it

abbrev pub with_id : ℕ → Attr → Attr
with_id id a = record { head = record { kind = a.head.kind; flags = a.head.flags; id = id }; name = a.name; form = a.form }

-- the record with this attribute more, in its place by types and then by names, with a new id
abbrev pub with_attr : Attr → Record → Record
with_attr a r = record { head = with_next_id r.head; attrs = insert r.attrs (place_of a.head.kind a.name r.attrs) (with_id (new_id r) a) }
