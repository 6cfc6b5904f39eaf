-- A file that an operation was found to write or cut is what the call that does it asks for.
use Rattle.std.specs.Prelude.{◌≡◌, ℕ, ◌^◌, ◌<◌, ◌≤◌, true, false, length, Some}
use Rattle.disk_model.specs.Content.{Content}
use Rattle.record_model.specs.Constants.{attribute_list}
use Rattle.record_model.specs.Pairs.{cluster_limit}
use Rattle.record_model.specs.Records.{Record}
use Rattle.written_made.specs.record_streams.Fitting.{FitsButRoom}
use Rattle.file_tree.specs.declared.node.Node.{Node}
use Rattle.state_model.specs.declared.geometry.Geometry.{Geometry}
use Rattle.state_model.specs.declared.stream.Extents.{Extents}
use Rattle.state_model.specs.declared.stream.Stream.TheVariants.{Placed}
use Rattle.state_model.specs.Files.{has_type}
use Rattle.volume_model.specs.Volumes.{Volume, file_in}
use Rattle.tree_model.specs.declared.script.Op.{Op}
use Rattle.tree_model.specs.Steps.{IsWithinBounds}
use Rattle.change_lookup.specs.declared.found.Found.TheVariants.{File}
use Rattle.written_made.specs.plan_owners.States.{Stands}
use Rattle.written_made.specs.plan_changes.Files.{IsChangeable}
use Rattle.written_made.specs.data_plan.Changes.{data_in}
use Rattle.written_made.specs.made_data.Made.{made_record, has_data}
use Rattle.written_made.specs.file_puts.declared.streams.VolumeStreams.{VolumeStreams}
use Rattle.written_made.specs.file_puts.Written.{AreStreamsOf}
use Rattle.written_made.specs.file_writes.Writing.{MayWrite}
use Rattle.written_made.specs.change_steps.Found.{HasChange, Finds}

-- the record has few attributes, and its unnamed data few runs
pub record HasFewParts (r : Record) : Type 0 where
  pub attrs : length r.attrs ≤ 43
  pub runs : (e : Extents) → data_in r ≡ Some (Placed e) → length e.runs ≤ 512

-- The operation was found to change the node, whose record has a spelling but for its room.
pub record IsFoundFile (c : Content) (g : Geometry) (clusters : ℕ) (v : Volume) (s : VolumeStreams) (op : Op) (node a : Node) (r : Record) : Type 0 where
  pub has : HasChange c g clusters v op
  pub finds : Finds c v op (File node true)
  pub file : IsChangeable c v node.number r a
  pub fits : FitsButRoom r
  pub bounds : IsWithinBounds op
  pub few : clusters ≤ cluster_limit
  pub bitmap : s.bitmap.initialised < 2 ^ 63

-- A file of a state that has no attribute list has few parts, and the bits of its clusters have few bytes. A file that an operation was found to
-- write or cut may be written, and where it has no unnamed data, with its record as that is made, which has a spelling but for its room too.
pub record FoundMayWrite : Type 0 where
  pub few : (c : Content) (g : Geometry) (clusters : ℕ) (v : Volume) (n : ℕ) (r : Record) → Stands c g clusters v → file_in v n ≡ Some r → has_type attribute_list r ≡ false → HasFewParts r
  pub has : (c : Content) (g : Geometry) (clusters : ℕ) (v : Volume) (s : VolumeStreams) (op : Op) (node a : Node) (r : Record) → IsFoundFile c g clusters v s op node a r → has_data r ≡ true → MayWrite clusters node.number s r op node
  pub made : (c : Content) (g : Geometry) (clusters : ℕ) (v : Volume) (s : VolumeStreams) (op : Op) (node a : Node) (r : Record) → IsFoundFile c g clusters v s op node a r → has_data r ≡ false → MayWrite clusters node.number s (made_record r) op node
  pub fits : (r : Record) → FitsButRoom r → length r.attrs < 2 ^ 10 → FitsButRoom (made_record r)
  pub bits : (c : Content) (g : Geometry) (clusters : ℕ) (v : Volume) (s : VolumeStreams) → Stands c g clusters v → g.per_cluster ≡ 8 → clusters ≤ cluster_limit → AreStreamsOf v s → s.bitmap.initialised < 2 ^ 63
