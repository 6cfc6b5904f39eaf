-- A stream that got other sizes, with bytes, put into a draft, is an edit of a plan.
use Rattle.std.specs.Prelude.{◌≡◌, ℕ, ◌+◌, ◌*◌, ◌≤◌, max, false, List, ◌++◌, length, take, drop, Some}
use Rattle.disk_model.specs.declared.block.BlockKind.TheVariants.{Plain}
use Rattle.disk_model.specs.Content.{Content}
use Rattle.plan_values.specs.record_model.Pairs.{HasSpelling}
use Rattle.plan_values.specs.record_model.Records.{Record}
use Rattle.plan_values.specs.state_model.declared.geometry.Geometry.{Geometry}
use Rattle.plan_values.specs.state_model.declared.stream.Extents.{Extents}
use Rattle.plan_values.specs.state_model.declared.stream.Stream.TheVariants.{Placed}
use Rattle.plan_values.specs.volume_model.Volumes.{Volume, bytes_or}
use Rattle.plan_values.specs.volume_model.Sizes.{has_hole}
use Rattle.plan_values.specs.stream_laws.Owners.{stream_kind}
use Rattle.plan_values.specs.stream_laws.Sharing.{stream_at}
use Rattle.plan_values.specs.plan_owners.States.{Stands}
use Rattle.plan_values.specs.plan_bodies.Bodies.{NewBody}
use Rattle.draft_resized.specs.plan_draft.declared.touched.Touched.{Touched}
use Rattle.draft_resized.specs.plan_draft.Drafts.{drafted}
use Rattle.plan_values.specs.plan_model.Informed.{with_record}
use Rattle.draft_resized.specs.draft_streams.Parts.{touch_bytes}
use Rattle.draft_resized.specs.draft_records.Records.{written_record}
use Rattle.plan_values.specs.resized_streams.declared.resized.Resized.{Resized}
use Rattle.plan_values.specs.resized_streams.Resizing.{IsSized}
use Rattle.plan_values.specs.plan_growth.Streams.{IsOwnStream, key_of}
use Rattle.plan_values.specs.plan_growth.Sizing.{SizesStream}
use Rattle.plan_edits.specs.Moves.{EditsDraft}
use Rattle.plan_edits.specs.Records.{PutsRecordOf}

-- A stream of sectors gets these sizes, which its clusters have room for. So many bytes begin within those that were initialised, and
-- reach as far as those that are now.
pub record SizesWith (v : Volume) (n kind : ℕ) (name : List ℕ) (e : Extents) (r : Record) (real initialised : ℕ) (z : Resized) (at count : ℕ) : Type 0 where
  pub own : IsOwnStream v n kind name r (Placed e)
  pub plain : stream_kind (key_of n kind name) ≡ Plain
  pub spelled : HasSpelling 0 e.runs
  pub sized : IsSized v.per kind name e r real initialised z
  pub lawful : initialised ≤ real
  pub room : real ≤ e.allocated
  pub begins : at ≤ e.initialised
  pub reaches : initialised ≤ max e.initialised (at + count)

-- Its file is put into a draft, and bytes into its sectors from a place of it on; sectors from a number on count as fresh.
pub record SizesOfVolume (c : Content) (v : Volume) (mirror : Extents) (n : ℕ) (z : Resized) (fresh at : ℕ) (bytes : List ℕ) (old new : List Touched) : Type 0 where
  pub mid : List Touched
  pub file : PutsRecordOf c v mirror n z.file old mid
  pub put : new ≡ touch_bytes c v.per z.extents.runs fresh at bytes mid

-- these bytes at a place of others, which may end there or behind it
abbrev pub put_over : ℕ → List ℕ → List ℕ → List ℕ
put_over at bytes old = take at old ++ (bytes ++ drop (at + length bytes) old)

-- In a state that the draft before stands for, what is put is the edit that leads to a state. Where the stream has no sparse run, no sector
-- of what was initialised counts as fresh, and the sizes grow only by the bytes, it is read as before with the bytes at their place.
pub record SizedIsEdit : Type 0 where
  pub edit : (c : Content) (g : Geometry) (clusters : ℕ) (v : Volume) (mirror : Extents) (n kind : ℕ) (name : List ℕ) (e : Extents) (r : Record) (real initialised : ℕ) (z : Resized) (fresh at : ℕ) (bytes : List ℕ) (old new : List Touched) → Stands (drafted old c) g clusters v
      → SizesWith v n kind name e r real initialised z at (length bytes) → SizesOfVolume c v mirror n z fresh at bytes old new
      → (bodies : List NewBody) × (EditsDraft c old new bodies × SizesStream (drafted old c) v n kind name e r real initialised z (written_record z.file) bodies)
  pub bytes : (c : Content) (g : Geometry) (clusters : ℕ) (v : Volume) (mirror : Extents) (n kind : ℕ) (name : List ℕ) (e : Extents) (r : Record) (real initialised : ℕ) (z : Resized) (fresh at : ℕ) (bytes : List ℕ) (old new : List Touched) → g.per_cluster ≡ 8 → Stands (drafted old c) g clusters v
      → SizesWith v n kind name e r real initialised z at (length bytes) → SizesOfVolume c v mirror n z fresh at bytes old new → has_hole (Some (Placed e)) ≡ false → e.initialised ≤ 512 * fresh
      → initialised ≡ max e.initialised (at + length bytes) → real ≡ max e.real (at + length bytes)
      → bytes_or (drafted new c) v.per (stream_at (with_record v n (written_record z.file)) (key_of n kind name)) ≡ put_over at bytes (bytes_or (drafted old c) v.per (stream_at v (key_of n kind name)))
