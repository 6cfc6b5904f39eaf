-- A file without unnamed data that gets it.
use Rattle.std.specs.Prelude.{ℕ, Bool, if◌then◌else◌, []}
use Rattle.std.specs.List.{list_any}
use Rattle.record_model.specs.declared.attribute.Attr.{Attr}
use Rattle.record_model.specs.declared.attribute.OwnForm.TheVariants.{Resident}
use Rattle.record_model.specs.Constants.{data_type}
use Rattle.record_model.specs.Records.{Record}
use Rattle.data_plan.specs.state_model.Streams.{is_attribute_of}
use Rattle.made_data.specs.Ids.{with_attr}
use Rattle.data_plan.specs.draft_records.Records.{written_record}

-- some attribute is of its unnamed data
unfoldable pub has_data : Record → Bool
has_data r = list_any (is_attribute_of data_type []) r.attrs

-- unnamed data without bytes
abbrev pub empty_data : ℕ → Attr
empty_data id = record { head = record { kind = data_type; flags = 0; id = id }; name = []; form = Resident [] 0 }

-- the record with such data, of a new id, before its data of other names
abbrev pub with_empty_data : Record → Record
with_empty_data r = with_attr (empty_data 0) r

-- the same as it is written
abbrev pub made_record : Record → Record
made_record r = written_record (with_empty_data r)

-- the record by which a file is written or cut: its own, or the one with data that is empty
abbrev pub record_with_data : Record → Record
record_with_data r = if has_data r then r else made_record r
