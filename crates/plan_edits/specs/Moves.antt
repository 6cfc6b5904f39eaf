-- A value that left its record, put into a draft, is an edit of a plan.
use Rattle.std.specs.Prelude.{◌≡◌, ◌≢◌, ◌≤◌, ℕ, List, length}
use Rattle.disk_model.specs.declared.block.BlockKind.TheVariants.{Plain}
use Rattle.disk_model.specs.Content.{Content}
use Rattle.plan_values.specs.record_model.declared.runs.Run.{Run}
use Rattle.plan_values.specs.record_model.Constants.{index_allocation}
use Rattle.plan_values.specs.record_model.Pairs.{cluster_limit}
use Rattle.plan_values.specs.record_model.Records.{Record}
use Rattle.plan_values.specs.state_model.declared.geometry.Geometry.{Geometry}
use Rattle.plan_values.specs.state_model.declared.stream.Extents.{Extents}
use Rattle.plan_values.specs.state_model.declared.stream.Stream.TheVariants.{Held}
use Rattle.plan_values.specs.state_model.Loads.{extents_or, total_clusters}
use Rattle.plan_values.specs.volume_model.Volumes.{Volume, cluster_bits}
use Rattle.plan_values.specs.volume_state.Journals.{limits_name}
use Rattle.plan_values.specs.stream_laws.Owners.{stream_kind}
use Rattle.plan_values.specs.stream_laws.Sharing.{stream_at}
use Rattle.plan_values.specs.plan_owners.States.{Stands}
use Rattle.plan_values.specs.plan_bodies.Bodies.{NewBody, put_bodies, content_with}
use Rattle.draft_resized.specs.plan_draft.declared.touched.Touched.{Touched}
use Rattle.draft_resized.specs.plan_draft.Touching.{bodies_of}
use Rattle.draft_resized.specs.plan_draft.Drafts.{drafted}
use Rattle.draft_resized.specs.plan_draft.Same.{PutSame}
use Rattle.draft_resized.specs.draft_records.Records.{written_record}
use Rattle.plan_values.specs.resized_streams.declared.resized.Resized.{Resized}
use Rattle.plan_values.specs.resized_streams.Resizing.{IsGrown, clusters_for, unplaced}
use Rattle.draft_resized.specs.Effects.{MovesWhole}
use Rattle.plan_values.specs.plan_growth.Streams.{IsOwnStream, MayTake, key_of}
use Rattle.plan_values.specs.plan_growth.Leaving.{MovesValue}
use Rattle.plan_edits.specs.Edits.{mirror_key, HasBitmap}

-- A value is put into a draft behind its file, in a volume of which the bitmap, the file table and its mirror are these.
pub record MovesOfVolume (c : Content) (v : Volume) (bitmap mirror : Extents) (n : ℕ) (z : Resized) (value : List ℕ) (old new : List Touched) : Type 0 where
  pub bits : HasBitmap v bitmap
  pub mirror_is : extents_or (stream_at v mirror_key) ≡ mirror
  pub put : MovesWhole c v.per bitmap v.table mirror n z value old new

-- these bodies over those of the draft before are those of the draft behind
pub record EditsDraft (c : Content) (old new : List Touched) (bodies : List NewBody) : Type 0 where
  pub same : PutSame (bodies_of new) (put_bodies bodies (bodies_of old))
  pub content : content_with (drafted old c) bodies ≡ drafted new c

-- Where a value left its record for clusters that were clear, with another one or the same, in a state that the draft before stands for, what is put is the edit that
-- leads to a state. The blocks of the value's stream are sectors.
abbrev pub MovedIsEdit : Type 0
MovedIsEdit = (c : Content) (g : Geometry) (clusters : ℕ) (v : Volume) (bitmap mirror : Extents) (n kind : ℕ) (name was value : List ℕ) (r : Record) (more : List Run) (z : Resized) (old new : List Touched) → Stands (drafted old c) g clusters v
    → IsOwnStream v n kind name r (Held was) → index_allocation ≢ kind → limits_name ≢ name → stream_kind (key_of n kind name) ≡ Plain → IsGrown v.per kind name (unplaced (length value)) r more z
    → MayTake v.clusters (cluster_bits (drafted old c) v) more → clusters_for v.per (length value) ≤ total_clusters more → total_clusters more ≤ cluster_limit → MovesOfVolume c v bitmap mirror n z value old new
    → (bodies : List NewBody) × (EditsDraft c old new bodies × MovesValue (drafted old c) v n kind name value r more z (written_record z.file) bodies)
