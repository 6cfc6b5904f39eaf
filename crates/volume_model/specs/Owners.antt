-- The clusters that streams own.
use Rattle.std.specs.Prelude.{ℕ, ◌+◌, Bool, false, ◌&&◌, nat_le, nat_lt, List, [], count_by, Option, Some, None}
use Rattle.std.specs.List.{flat_map}
use Rattle.upcase_order.specs.disk_model.Content.{Content}
use Rattle.upcase_order.specs.record_model.declared.runs.Run.{Run}
use Rattle.upcase_order.specs.record_model.Records.{Record}
use Rattle.bit_set.specs.Bits.{bit}
use Rattle.upcase_order.specs.state_model.Rules.{implies}
use Rattle.upcase_order.specs.state_model.Streams.{attribute_runs}
use Rattle.volume_model.specs.Volumes.{Volume, record_bits, is_in_use}

-- the runs of a file's attributes
abbrev pub file_runs : Option Record → List Run
file_runs None = []
file_runs (Some r) = flat_map attribute_runs r.attrs

-- the runs of all files
unfoldable pub volume_runs : List (Option Record) → List Run
volume_runs files = flat_map file_runs files

abbrev pub covers_from : ℕ → ℕ → Option ℕ → Bool
covers_from x len None = false
covers_from x len (Some lcn) = nat_le lcn x && nat_lt x (lcn + len)

-- the run has this cluster
abbrev pub covers : ℕ → Run → Bool
covers x r = covers_from x r.len r.lcn

-- how often streams have this cluster
unfoldable pub uses : List Run → ℕ → ℕ
uses runs x = count_by (covers x) runs

-- rule 5: no cluster lies in two streams, nor in one stream twice
abbrev pub keeps_owner : List Run → ℕ → Bool
keeps_owner runs x = nat_le (uses runs x) 1

-- rule 6: a cluster that a stream has is marked in use
abbrev pub keeps_cluster_bit : List Bool → List Run → ℕ → Bool
keeps_cluster_bit bits runs x = implies (nat_le 1 (uses runs x)) (bit bits x)

-- rule 7: a record that is in use is marked so
unfoldable pub keeps_record_bit : Content → Volume → ℕ → Bool
keeps_record_bit c v n = implies (is_in_use c v n) (bit (record_bits c v) n)
