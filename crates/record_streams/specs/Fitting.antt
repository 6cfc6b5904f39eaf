-- Records that have a spelling but for their room.
use Rattle.std.specs.Prelude.{◌≡◌, ℕ, ◌≤◌, ◌<◌, ◌^◌, ◌==◌, false, List, length, map, All, IsTrue}
use Rattle.record_writer.specs.record_model.declared.attribute.Attr.{Attr}
use Rattle.record_writer.specs.record_model.Attributes.{spelling, FitsAttr}
use Rattle.record_writer.specs.record_model.Constants.{end_mark, standard_information, file_name}
use Rattle.record_writer.specs.record_model.Records.{Record, TypesRise, FitsHead}
use Rattle.record_writer.specs.record_model.Values.{has_lawful_value}
use Rattle.record_writer.specs.Normal.{normal}
use Rattle.stream_map.specs.state_model.declared.stream.Extents.{Extents}

-- an attribute that stands in some record as it is written, of at most so many bytes
pub record IsShort (a : Attr) : Type 0 where
  pub fits : FitsAttr (normal a)
  pub kind : a.head.kind < end_mark
  pub lawful : IsTrue (has_lawful_value (normal a))
  pub short : length (spelling (normal a)) ≤ 2 ^ 21

-- The record has a spelling where it uses at most 1,024 bytes; it may use more, but not any number.
pub record FitsButRoom (r : Record) : Type 0 where
  pub head : FitsHead r.head
  pub attrs : All IsShort r.attrs
  pub rise : TypesRise r.attrs
  pub few : length r.attrs ≤ 2 ^ 10

-- streams of this type may stand in clusters: it is neither that of standard information nor that of file names
pub record IsPlaceable (kind : ℕ) : Type 0 where
  pub not_info : (kind == standard_information) ≡ false
  pub not_name : (kind == file_name) ≡ false

-- sizes that fit the fields of an attribute
pub record HasFields (e : Extents) : Type 0 where
  pub allocated : e.allocated < 2 ^ 64
  pub real : e.real < 2 ^ 64
  pub initialised : e.initialised < 2 ^ 64
