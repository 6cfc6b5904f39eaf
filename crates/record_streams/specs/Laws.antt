-- What a record keeps in which a stream is placed.
use Rattle.std.specs.Prelude.{◌≡◌, ◌≢◌, ◌⊎◌, ℕ, ◌+◌, ◌<◌, ◌≤◌, ◌^◌, List, [], ◌∷◌, length, Some, Ok}
use Rattle.record_writer.specs.disk_model.Bytes.{AreBytes}
use Rattle.record_writer.specs.record_model.declared.attribute.Attr.{Attr}
use Rattle.record_writer.specs.record_model.Pairs.{HasSpelling}
use Rattle.record_writer.specs.record_model.Records.{Record, record_at, FitsRecord}
use Rattle.record_writer.specs.Normal.{normal_record}
use Rattle.record_writer.specs.NormalLaws.{FitsByRoom}
use Rattle.stream_map.specs.state_model.declared.stream.Extents.{Extents}
use Rattle.stream_map.specs.state_model.declared.stream.Stream.TheVariants.{Placed}
use Rattle.stream_map.specs.state_model.Streams.{attributes_of, stream_of}
use Rattle.record_streams.specs.Placing.{placed_attr, placed_record}
use Rattle.record_streams.specs.Fitting.{FitsButRoom}

-- A record that has a spelling has one but for its room; so does one that is read of a body, of which the normal form may use more than the
-- body's bytes; and one that has one but for its room has one exactly where it has room.
pub record PlacedFits : Type 0 where
  pub spelled : (r : Record) → FitsRecord (normal_record r) → FitsButRoom r
  pub read : (body : List ℕ) (r : Record) → length body ≡ 1024 → AreBytes body → record_at body ≡ Ok r → FitsButRoom r
  pub by_room : (r : Record) → FitsButRoom r → FitsByRoom r

-- The stream stands in one attribute, with these runs and sizes. Other streams stay, and what is read of attributes of other types.
pub record StreamsArePlaced : Type 0 where
  pub one : (per kind : ℕ) (name : List ℕ) (e : Extents) (r : Record) (a : Attr) (others : List Attr) → attributes_of kind name r.attrs ≡ a ∷ others → attributes_of kind name (placed_record per kind name e r).attrs ≡ placed_attr per e a ∷ []
  pub stream : (per kind : ℕ) (name : List ℕ) (e : Extents) (r : Record) (a : Attr) (others : List Attr) → attributes_of kind name r.attrs ≡ a ∷ others → HasSpelling 0 e.runs → stream_of kind name (placed_record per kind name e r).attrs ≡ Some (Placed e)
  pub others : (per kind other : ℕ) (name other_name : List ℕ) (e : Extents) (r : Record) → (other ≢ kind) ⊎ (other_name ≢ name) → attributes_of other other_name (placed_record per kind name e r).attrs ≡ attributes_of other other_name r.attrs
