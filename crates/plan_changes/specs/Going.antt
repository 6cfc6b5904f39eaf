-- Behind an edit the file is one of its own again, so that the next edit begins where it ends.
use Rattle.std.specs.Prelude.{◌≡◌, ℕ, List}
use Rattle.disk_model.specs.Content.{Content, HasSizes}
use Rattle.plan_informed.specs.record_model.declared.attribute.Attr.{Attr}
use Rattle.plan_informed.specs.record_model.declared.runs.Run.{Run}
use Rattle.plan_informed.specs.record_model.Records.{Record}
use Rattle.plan_informed.specs.state_model.declared.geometry.Geometry.{Geometry}
use Rattle.plan_informed.specs.state_model.declared.stream.Extents.{Extents}
use Rattle.plan_informed.specs.state_model.declared.stream.Stream.{Stream}
use Rattle.plan_informed.specs.state_model.declared.stream.Stream.TheVariants.{Placed}
use Rattle.plan_informed.specs.state_model.Files.{info_of}
use Rattle.plan_informed.specs.state_model.Streams.{stream_of}
use Rattle.plan_informed.specs.volume_model.Volumes.{Volume}
use Rattle.plan_informed.specs.plan_owners.States.{Stands}
use Rattle.plan_informed.specs.plan_bodies.Bodies.{NewBody}
use Rattle.plan_informed.specs.plan_model.Informed.{with_record}
use Rattle.plan_informed.specs.resized_streams.declared.resized.Resized.{Resized}
use Rattle.plan_informed.specs.plan_growth.Streams.{IsOwnStream}
use Rattle.plan_informed.specs.plan_growth.Growing.{GrowsStream}
use Rattle.plan_informed.specs.plan_growth.Cutting.{CutsStream}
use Rattle.plan_informed.specs.plan_growth.Sizing.{SizesStream}
use Rattle.plan_informed.specs.plan_growth.Leaving.{MovesValue}
use Rattle.plan_informed.specs.plan_values.Values.{IsOwnFile, WritesValues}
use Rattle.plan_informed.specs.plan_values.Made.{MakesData}

-- Its record stands in the volume behind the edit, with the same information, and the stream is one of its own, in the new extents.
pub record GoesOnIn (v : Volume) (n kind : ℕ) (name : List ℕ) (r s : Record) (new : Stream) : Type 0 where
  pub own : IsOwnStream (with_record v n s) n kind name s new
  pub info : info_of s ≡ info_of r

-- Its record stands in the volume behind the edit, and has the information and the streams that it was meant to have.
pub record StandsAs (v : Volume) (n : ℕ) (p s : Record) : Type 0 where
  pub own : IsOwnFile (with_record v n s) n s
  pub info : info_of s ≡ info_of p
  pub streams : (kind : ℕ) (name : List ℕ) → stream_of kind name s.attrs ≡ stream_of kind name p.attrs

-- So it is where a stream took clusters, was cut, got other sizes, or left its record, and where values were written anew or data came.
pub record FilesGoOn : Type 0 where
  pub grown : (c : Content) (g : Geometry) (clusters : ℕ) (v : Volume) (n kind : ℕ) (name : List ℕ) (e : Extents) (r : Record) (more : List Run) (z : Resized) (s : Record) (bodies : List NewBody) → Stands c g clusters v → GrowsStream c v n kind name e r more z s bodies → GoesOnIn v n kind name r s (Placed z.extents)
  pub cut : (c : Content) (g : Geometry) (clusters : ℕ) (v : Volume) (n kind : ℕ) (name : List ℕ) (e : Extents) (r : Record) (size : ℕ) (z : Resized) (s : Record) (bodies : List NewBody) → Stands c g clusters v → CutsStream c v n kind name e r size z s bodies → GoesOnIn v n kind name r s (Placed z.extents)
  pub sized : (c : Content) (g : Geometry) (clusters : ℕ) (v : Volume) (n kind : ℕ) (name : List ℕ) (e : Extents) (r : Record) (real initialised : ℕ) (z : Resized) (s : Record) (bodies : List NewBody) → Stands c g clusters v → SizesStream c v n kind name e r real initialised z s bodies
      → GoesOnIn v n kind name r s (Placed z.extents)
  pub moved : (c : Content) (g : Geometry) (clusters : ℕ) (v : Volume) (n kind : ℕ) (name value : List ℕ) (r : Record) (more : List Run) (z : Resized) (s : Record) (bodies : List NewBody) → Stands c g clusters v → MovesValue c v n kind name value r more z s bodies → GoesOnIn v n kind name r s (Placed z.extents)
  pub written : (c : Content) (g : Geometry) (clusters : ℕ) (v : Volume) (n : ℕ) (r p s : Record) (bodies : List NewBody) → HasSizes c → Stands c g clusters v → WritesValues c v n r p s bodies → StandsAs v n p s
  pub made : (c : Content) (g : Geometry) (clusters : ℕ) (v : Volume) (n : ℕ) (r p s : Record) (one : Attr) (bodies : List NewBody) → HasSizes c → Stands c g clusters v → MakesData c v n r p s one bodies → StandsAs v n p s
