-- The record of a file is read as it stands.
use Rattle.std.specs.Prelude.{◌≡◌, ℕ, ◌<◌, ◌^◌, Some}
use Rattle.disk_model.specs.Content.{Content}
use Rattle.record_model.specs.Records.{Record}
use Rattle.file_tree.specs.declared.node.Node.{Node}
use Rattle.state_model.specs.declared.geometry.Geometry.{Geometry}
use Rattle.volume_model.specs.Volumes.{Volume}
use Rattle.found_files.specs.plan_owners.States.{Stands}
use Rattle.found_files.specs.plan_changes.Files.{IsChangeable}
use Rattle.found_files.specs.draft_records.Records.{file_of}

-- In a state a file that can be changed is read of the file table as the record that it has, and its number is within the bounds of one.
abbrev pub FilesAreRead : Type 0
FilesAreRead = (c : Content) (g : Geometry) (clusters : ℕ) (v : Volume) (n : ℕ) (r : Record) (a : Node) → Stands c g clusters v → IsChangeable c v n r a → (file_of c v.per v.table n ≡ Some r) × (n < 2 ^ 48)
