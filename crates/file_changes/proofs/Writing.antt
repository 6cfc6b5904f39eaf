-- What an operation that is asked so has put, by this record.
use Rattle.std.proofs.Common.{◌≡◌, ℕ, ◌<◌, ◌≤◌, ◌^◌, Bool, List, [], length, ap, subst, ◌∙◌}
use Rattle.std.specs.Prelude.{not, count_by}
use Rattle.disk_model.specs.Content.{Content}
use Rattle.record_model.specs.Pairs.{cluster_limit}
use Rattle.record_model.specs.Records.{Record}
use Rattle.file_tree.specs.declared.node.Node.{Node}
use Rattle.state_model.specs.declared.geometry.Geometry.{Geometry}
use Rattle.written_clusters.specs.volume_model.Volumes.{Volume, cluster_bits}
use Rattle.tree_model.specs.declared.script.Op.{Op}
use Rattle.plan_draft.specs.declared.touched.Touched.{Touched}
use Rattle.written_clusters.specs.step_model.Placing.{Growth, more_of}
use Rattle.written_clusters.specs.data_plan.declared.change.DataChange.{DataChange}
use Rattle.written_clusters.specs.data_plan.Changes.{HasData, growth_of, row_of, IsChange}
use Rattle.file_writes.specs.file_puts.declared.streams.VolumeStreams.{VolumeStreams}
use Rattle.file_writes.specs.file_puts.Puts.{PutsChange}
use Rattle.file_writes.specs.file_puts.Written.{WritesFile, WritesBy}
use Rattle.file_writes.specs.Writing.{PutsWrite}
use Rattle.written_clusters.specs.Done.{HasClusters}
use Rattle.written_clusters.specs.change_steps.Ready.{BareIsEnough}
use Rattle.file_changes.specs.Calls.{IsAsked}

module _ (bare : BareIsEnough) (c : Content) (g : Geometry) (clusters : ℕ) (v : Volume) (s : VolumeStreams) (op : Op) (node a : Node) (stamp : ℕ) (r by : Record) (bits : List Bool) (asked : IsAsked c g clusters v s op node a r bits) where
  growth_now : growth_of bits by op node ≡ growth_of (cluster_bits c v) by op a
  growth_now = ap (λ (x : Node). growth_of bits by op x) asked.bare ∙ bare.growth bits by op a ∙ ap (λ (l : List Bool). growth_of l by op a) asked.of_volume

  pub row_now : row_of bits by op node ≡ row_of (cluster_bits c v) by op a
  row_now = ap (λ (x : Node). row_of bits by op x) asked.bare ∙ bare.row bits by op a ∙ ap (λ (l : List Bool). row_of l by op a) asked.of_volume

  pub enough_now : more_of (growth_of bits by op node) ≤ count_by not bits → HasClusters c v op a by
  enough_now enough = subst (λ (l : List Bool). more_of (growth_of (cluster_bits c v) by op a) ≤ count_by not l) asked.of_volume (subst (λ (x : Growth). more_of x ≤ count_by not bits) growth_now enough)

  is_now : (what : DataChange) → IsChange (growth_of bits by op node) by op node what → IsChange (growth_of (cluster_bits c v) by op a) by op a what
  is_now what is =
      subst (λ (x : Growth). IsChange x by op a what) growth_now
      (bare.change (growth_of bits by op node) by op a what (subst (λ (x : Node). IsChange (growth_of bits by op node) by op x what) asked.bare is))

  puts_now : (what : DataChange) (old new : List Touched) → PutsChange c s node.number op node stamp by what old new → PutsChange c s node.number op a stamp by what old new
  puts_now what old new put = bare.puts c s node.number op a stamp by what old new (subst (λ (x : Node). PutsChange c s node.number op x stamp by what old new) asked.bare put)

  pub writes_now : (old new : List Touched) → stamp < 2 ^ 64 → length bits ≤ cluster_limit → HasData (length bits) by → old ≡ [] → (put : PutsWrite c bits s node.number op node stamp by old new) → WritesBy c g clusters v s op node.number stamp a r by put.change new
  writes_now old new soon few has none put = record {
    sized = asked.sized;
    eight = asked.has.eight;
    few = subst (λ (x : ℕ). x ≤ cluster_limit) asked.count few;
    stands = asked.has.stands;
    journal = asked.has.journal;
    streams = asked.streams;
    file = asked.file;
    changes = asked.changes;
    soon = soon;
    has = subst (λ (x : ℕ). HasData x by) asked.count has;
    is = is_now put.change put.is;
    put = subst (λ (l : List Touched). PutsChange c s node.number op a stamp by put.change l new) none (puts_now put.change old new put.put);
  }

-- by its own record the file's data is put
pub own_writes : (c : Content) (g : Geometry) (clusters : ℕ) (v : Volume) (s : VolumeStreams) (op : Op) (n stamp : ℕ) (a : Node) (r : Record) (change : DataChange) (new : List Touched) → WritesBy c g clusters v s op n stamp a r r change new → WritesFile c g clusters v s op n stamp a r change new
own_writes c g clusters v s op n stamp a r change new w = record {
  sized = w.sized;
  eight = w.eight;
  few = w.few;
  stands = w.stands;
  journal = w.journal;
  streams = w.streams;
  file = w.file;
  changes = w.changes;
  soon = w.soon;
  has = w.has;
  is = w.is;
  put = w.put;
}
