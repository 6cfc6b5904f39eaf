-- A record that a draft has put is an edit of a plan.
use Rattle.std.specs.Prelude.{◌≡◌, ℕ, false, List, Ok, Some}
use Rattle.disk_model.specs.Content.{Content, HasSizes}
use Rattle.plan_values.specs.record_model.Constants.{attribute_list}
use Rattle.plan_values.specs.record_model.Records.{Record, record_spelling}
use Rattle.plan_values.specs.record_writer.NormalLaws.{FitsByRoom}
use Rattle.plan_values.specs.state_model.declared.geometry.Geometry.{Geometry}
use Rattle.plan_values.specs.state_model.declared.stream.Extents.{Extents}
use Rattle.plan_values.specs.state_model.Files.{has_type}
use Rattle.plan_values.specs.state_model.Loads.{extents_or}
use Rattle.plan_values.specs.volume_model.Volumes.{Volume, file_in, cluster_bits}
use Rattle.plan_values.specs.stream_laws.Sharing.{stream_at}
use Rattle.plan_values.specs.plan_owners.States.{Stands}
use Rattle.plan_values.specs.plan_bodies.Bodies.{NewBody, content_with}
use Rattle.draft_resized.specs.plan_draft.declared.touched.Touched.{Touched}
use Rattle.draft_resized.specs.plan_draft.Drafts.{drafted}
use Rattle.draft_resized.specs.draft_bits.Effects.{IsKept}
use Rattle.draft_resized.specs.draft_records.Records.{written_record, fits_room, touch_record}
use Rattle.plan_values.specs.plan_growth.Streams.{marks_streams, PutsFile}
use Rattle.plan_edits.specs.Written.{IsInUse}
use Rattle.plan_edits.specs.Edits.{mirror_key}
use Rattle.plan_edits.specs.Moves.{EditsDraft}

-- A record that has room is put, over whole bodies in order, into a draft of a volume of which the file table's mirror is this.
pub record PutsRecordOf (c : Content) (v : Volume) (mirror : Extents) (n : ℕ) (p : Record) (old new : List Touched) : Type 0 where
  pub sized : HasSizes c
  pub kept : IsKept old
  pub mirror_is : extents_or (stream_at v mirror_key) ≡ mirror
  pub fits : FitsByRoom p
  pub room : fits_room p ≡ Ok tt
  pub put : new ≡ touch_record c v.per v.table mirror n (record_spelling (written_record p)) old

-- The bodies that it puts are those of an edit over the draft before: it is read as it is written, all else goes to the mirror, and the
-- bits of the clusters stay.
pub record IsRecordEdit (c : Content) (v : Volume) (n : ℕ) (p : Record) (old new : List Touched) : Type 0 where
  pub bodies : List NewBody
  pub edits : EditsDraft c old new bodies
  pub puts : PutsFile marks_streams v n (written_record p) bodies
  pub marked : cluster_bits (content_with (drafted old c) bodies) v ≡ cluster_bits (drafted old c) v

-- So is a record in use that is put in the place of a file's that has no attribute list, in a state that the draft before stands for.
-- What is touched then are whole bodies in order.
pub record RecordIsEdit : Type 0 where
  pub edit : (c : Content) (g : Geometry) (clusters : ℕ) (v : Volume) (mirror : Extents) (n : ℕ) (r p : Record) (old new : List Touched) → Stands (drafted old c) g clusters v → file_in v n ≡ Some r → has_type attribute_list r ≡ false → IsInUse p
      → PutsRecordOf c v mirror n p old new → IsRecordEdit c v n p old new
  pub kept : (c : Content) (v : Volume) (mirror : Extents) (n : ℕ) (p : Record) (old new : List Touched) → PutsRecordOf c v mirror n p old new → IsKept new
