-- What each state of a volume gives to the plans that change it.
use Rattle.std.specs.Prelude.{◌≡◌, ℕ, ◌<◌, ◌⊎◌, Bool, true, false, Some, None, Ok}
use Rattle.log_model.specs.disk_model.Content.{Content}
use Rattle.tree_laws.specs.record_model.Records.{Record}
use Rattle.tree_laws.specs.file_tree.declared.tree.Tree.{Tree}
use Rattle.tree_laws.specs.bit_set.Bits.{bit}
use Rattle.tree_laws.specs.state_model.declared.geometry.Geometry.{Geometry}
use Rattle.tree_laws.specs.state_model.Loads.{entries_of}
use Rattle.tree_laws.specs.volume_model.Volumes.{Volume, volume_of, count_of, file_in, record_bits}
use Rattle.tree_laws.specs.volume_model.Owners.{volume_runs}
use Rattle.tree_laws.specs.volume_state.Rules.{first_broken}
use Rattle.tree_laws.specs.volume_state.Trees.{IsState, tree_of}
use Rattle.tree_laws.specs.stream_laws.Places.{AreOnce}
use Rattle.tree_laws.specs.stream_laws.Rewrites.{names_one}
use Rattle.tree_laws.specs.stream_laws.Tables.{BeginsAtBoot}
use Rattle.tree_laws.specs.stream_laws.Volumes.{base_record}

-- The content is a state, and this is its volume, which has clusters.
pub record Stands (c : Content) (g : Geometry) (clusters : ℕ) (v : Volume) : Type 0 where
  pub loaded : volume_of c g clusters ≡ Ok v
  pub kept : first_broken c v ≡ None
  pub some : 0 < v.per
  pub room : 0 < v.clusters

-- the record with this number is that of a file, or is marked free
abbrev pub IsOwnRecord : Content → Volume → ℕ → Type 0
IsOwnRecord c v n = ((r : Record) × (file_in v n ≡ Some r)) ⊎ ((n < count_of v) × (bit (record_bits c v) n ≡ false))

-- A state stands as its volume, and the other way round. Then the file table begins where the boot sector says; no cluster lies
-- twice in the volume; and no other file's attribute list names a file's own record, nor one that is marked free.
pub record StatesStand : Type 0 where
  pub volume : (c : Content) (g : Geometry) (clusters : ℕ) (t : Tree) (s : IsState c g clusters t) → 0 < g.per_cluster → 0 < clusters → Stands c g clusters s.volume
  pub state : (c : Content) (g : Geometry) (clusters : ℕ) (v : Volume) → Stands c g clusters v → IsState c g clusters (tree_of c v)
  pub begins : (c : Content) (g : Geometry) (clusters : ℕ) (v : Volume) → Stands c g clusters v → BeginsAtBoot c g clusters v
  pub once : (c : Content) (g : Geometry) (clusters : ℕ) (v : Volume) → Stands c g clusters v → AreOnce (volume_runs v.files)
  pub unnamed : (c : Content) (g : Geometry) (clusters : ℕ) (v : Volume) (touched : ℕ → Bool) (m : ℕ) (r : Record) → Stands c g clusters v → ((n : ℕ) → touched n ≡ true → IsOwnRecord c v n) → touched m ≡ false
      → base_record c v.per v.table m ≡ Some r → names_one touched (entries_of c v.per r).entries ≡ false
