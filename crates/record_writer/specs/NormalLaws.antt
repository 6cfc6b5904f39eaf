-- What a normal attribute stands for, and which normal records have a spelling.
use Rattle.std.specs.Prelude.{◌≡◌, ◌↔◌, ℕ, ◌<◌, ◌≤◌, ◌^◌, true, List, [], ◌∷◌, length, Some, Ok, All}
use Rattle.disk_model.specs.host_base.declared.file_ref.FileRef.{FileRef}
use Rattle.disk_model.specs.Bytes.{AreBytes}
use Rattle.record_model.specs.declared.attribute.Attr.{Attr}
use Rattle.record_model.specs.declared.runs.Run.{Run}
use Rattle.record_model.specs.Attributes.{filled, FitsAttr}
use Rattle.record_model.specs.Pairs.{runs_of}
use Rattle.record_model.specs.Records.{Record, record_at, used_of, FitsRecord}
use Rattle.file_record.specs.state_model.Files.{attr_link, attr_info, record_links, info_of}
use Rattle.file_record.specs.state_model.Loads.{has_fitting_pairs, has_all_pairs, whole_record}
use Rattle.file_record.specs.state_model.Streams.{stream_of}
use Rattle.record_writer.specs.Normal.{normal, normal_record}

-- filled pairs are read as the same runs: bytes behind the end are free
abbrev pub FilledIsRead : Type 0
FilledIsRead = (first : ℕ) (pairs : List ℕ) (runs : List Run) → runs_of first pairs ≡ Ok runs → runs_of first (filled 0 pairs) ≡ Ok runs

-- The attribute stands for the same link, information and stream, and its pairs have the same clusters.
pub record AttrStays (a : Attr) : Type 0 where
  pub link : (child : FileRef) → attr_link child (normal a) ≡ attr_link child a
  pub info : attr_info (Some (normal a)) ≡ attr_info (Some a)
  pub stream : (kind : ℕ) (name : List ℕ) → stream_of kind name (normal a ∷ []) ≡ stream_of kind name (a ∷ [])
  pub pairs : has_fitting_pairs (normal a) ≡ true

-- The record stands for the same links, information and streams, and its pairs have the same clusters.
pub record RecordStays (r : Record) : Type 0 where
  pub links : (n : ℕ) → record_links n (normal_record r) ≡ record_links n r
  pub info : info_of (normal_record r) ≡ info_of r
  pub streams : (kind : ℕ) (name : List ℕ) → stream_of kind name (normal_record r).attrs ≡ stream_of kind name r.attrs
  pub pairs : has_all_pairs (normal_record r) ≡ true

-- so stand attributes and records whose pairs are read and have the clusters that their sizes say
pub record NormalStandsForSame : Type 0 where
  pub attr : (a : Attr) → has_fitting_pairs a ≡ true → AttrStays a
  pub record_whole : (r : Record) → has_all_pairs r ≡ true → RecordStays r

-- Each normal attribute has a spelling, their bytes can be counted, and the record has a spelling exactly where it
-- uses at most 1,024.
pub record FitsByRoom (r : Record) : Type 0 where
  pub attrs : All FitsAttr (normal_record r).attrs
  pub countable : used_of (normal_record r).attrs < 2 ^ 32
  pub fits : FitsRecord (normal_record r) ↔ (used_of (normal_record r).attrs ≤ 1024)

-- so does a record that is read of a body, as the records of a loaded volume are where no attribute list names others
pub record NormalFitsByRoom : Type 0 where
  pub read : (body : List ℕ) (r : Record) → length body ≡ 1024 → AreBytes body → record_at body ≡ Ok r → FitsByRoom r
  pub loaded : (body : List ℕ) (r : Record) → length body ≡ 1024 → AreBytes body → whole_record body ≡ Ok r → FitsByRoom r
