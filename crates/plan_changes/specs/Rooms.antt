-- By how much the room falls where an edit takes clusters.
use Rattle.std.specs.Prelude.{◌≡◌, ◌≢◌, ℕ, ◌+◌, ◌<◌, ◌≤◌, ◌||◌, nat_le, false, List}
use Rattle.disk_model.specs.Content.{Content}
use Rattle.plan_informed.specs.record_model.declared.runs.Run.{Run}
use Rattle.plan_informed.specs.record_model.Records.{Record}
use Rattle.bit_set.specs.Bits.{bit}
use Rattle.plan_informed.specs.state_model.Loads.{total_clusters}
use Rattle.plan_informed.specs.volume_model.Volumes.{Volume, bitmap_file, cluster_bits}
use Rattle.plan_informed.specs.volume_model.Owners.{uses}
use Rattle.plan_informed.specs.volume_state.Trees.{tree_of}
use Rattle.plan_informed.specs.plan_model.Informed.{with_record}

-- A record is put in the place of that of a file other than $Bitmap. Where the bits of runs come to be set, and no others, the room falls by
-- at most their clusters; where each clear bit stays clear, it doesn't fall.
pub record RoomsFall : Type 0 where
  pub taken : (c d : Content) (v : Volume) (n : ℕ) (s : Record) (more : List Run) → n ≢ bitmap_file → ((x : ℕ) → x < v.clusters → bit (cluster_bits d v) x ≡ (nat_le 1 (uses more x) || bit (cluster_bits c v) x))
      → (tree_of c v).room ≤ (tree_of d (with_record v n s)).room + total_clusters more
  pub kept : (c d : Content) (v : Volume) (n : ℕ) (s : Record) → n ≢ bitmap_file → ((x : ℕ) → x < v.clusters → bit (cluster_bits c v) x ≡ false → bit (cluster_bits d v) x ≡ false) → (tree_of c v).room ≤ (tree_of d (with_record v n s)).room
