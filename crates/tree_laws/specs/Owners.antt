-- Rules 5 and 6 of a volume where files take clusters and give them back.
use Rattle.std.specs.Prelude.{◌≡◌, ◌≢◌, ℕ, ◌+◌, ◌<◌, ◌≤◌, Bool, true, false, List, Option, None}
use Rattle.volume_state.specs.disk_model.Content.{Content}
use Rattle.volume_state.specs.record_model.Records.{Record}
use Rattle.volume_state.specs.bit_set.Bits.{bit}
use Rattle.volume_state.specs.state_model.Loads.{table_in}
use Rattle.volume_state.specs.volume_model.Volumes.{Volume, bitmap_file, cluster_bits}
use Rattle.volume_state.specs.volume_model.Owners.{file_runs, volume_runs, uses}
use Rattle.volume_state.specs.Rules.{broken_5, broken_6}
use Rattle.stream_laws.specs.Replacing.{OneFileDiffers}
use Rattle.stream_laws.specs.Rewrites.{with_files}

-- How often each cluster is used changes by how often it is taken and given back. A clear cluster is taken at most once, and a
-- marked one no more often than it is given back. One that is clear in the end isn't taken, and was clear before or is given back.
pub record TakesClusters (taken given : ℕ → ℕ) (clusters : ℕ) (bits new_bits : List Bool) (old new : List (Option Record)) : Type 0 where
  pub balance : (x : ℕ) → x < clusters → uses (volume_runs new) x + given x ≡ uses (volume_runs old) x + taken x
  pub clear : (x : ℕ) → x < clusters → bit bits x ≡ false → taken x ≤ 1
  pub marked : (x : ℕ) → x < clusters → bit bits x ≡ true → taken x ≤ given x
  pub not_taken : (x : ℕ) → x < clusters → bit new_bits x ≡ false → taken x ≡ 0
  pub freed : (x : ℕ) → x < clusters → bit bits x ≡ true → bit new_bits x ≡ false → 1 ≤ given x

-- Then rules 5 and 6 are kept. Where a file is replaced by one with the same clusters, they are as before. A cluster whose bit is clear is
-- in no stream.
pub record OwnersKept : Type 0 where
  pub rule_5 : (taken given : ℕ → ℕ) (c d : Content) (v : Volume) (files : List (Option Record)) → broken_5 v ≡ None → broken_6 c v ≡ None → TakesClusters taken given v.clusters (cluster_bits c v) (cluster_bits d (with_files v files)) v.files files → broken_5 (with_files v files) ≡ None
  pub rule_6 : (taken given : ℕ → ℕ) (c d : Content) (v : Volume) (files : List (Option Record)) → broken_5 v ≡ None → broken_6 c v ≡ None → TakesClusters taken given v.clusters (cluster_bits c v) (cluster_bits d (with_files v files)) v.files files → broken_6 d (with_files v files) ≡ None
  pub same_5 : (v : Volume) (files : List (Option Record)) (n : ℕ) → OneFileDiffers n v.files files → ((x : ℕ) → uses (file_runs (table_in files n)) x ≡ uses (file_runs (table_in v.files n)) x) → broken_5 (with_files v files) ≡ broken_5 v
  pub same_6 : (c : Content) (v : Volume) (files : List (Option Record)) (n : ℕ) → OneFileDiffers n v.files files → ((x : ℕ) → uses (file_runs (table_in files n)) x ≡ uses (file_runs (table_in v.files n)) x) → n ≢ bitmap_file → broken_6 c (with_files v files) ≡ broken_6 c v
  pub clear : (c : Content) (v : Volume) (x : ℕ) → broken_6 c v ≡ None → x < v.clusters → bit (cluster_bits c v) x ≡ false → uses (volume_runs v.files) x ≡ 0
