-- A file that is written or cut is written, by what the draft has put.
use Rattle.std.proofs.Common.{◌≡◌, ℕ, ◌<◌, ◌≤◌, ◌^◌, Bool, List, [], length, Option, Some, None, Result, Ok, Err}
use Rattle.std.specs.Prelude.{IfSome, OnOk, not, count_by}
use Rattle.disk_model.specs.Content.{Content}
use Rattle.record_model.specs.Pairs.{cluster_limit}
use Rattle.record_model.specs.Records.{Record}
use Rattle.file_tree.specs.declared.node.Node.{Node}
use Rattle.state_model.specs.declared.geometry.Geometry.{Geometry}
use Rattle.written_clusters.specs.volume_model.Volumes.{Volume}
use Rattle.tree_model.specs.declared.script.Op.{Op}
use Rattle.plan_draft.specs.declared.touched.Touched.{Touched}
use Rattle.written_clusters.specs.step_model.Placing.{more_of}
use Rattle.written_clusters.specs.data_plan.Changes.{HasData, growth_of, row_of}
use Rattle.file_writes.specs.file_puts.declared.streams.VolumeStreams.{VolumeStreams}
use Rattle.file_writes.specs.declared.fault.WriteFault.{WriteFault}
use Rattle.file_writes.specs.Faults.{IsShortOf, HasRow}
use Rattle.file_writes.specs.Writing.{PutsWrite}
use Rattle.written_clusters.specs.change_steps.Ready.{BareIsEnough}
use Rattle.file_changes.specs.Calls.{IsAsked}
use Rattle.file_changes.specs.Writes.{WritesAreDone}
use Rattle.file_changes.specs.Written.{IsWritten, WrittenFrom}
use Rattle.file_changes.proofs.Writing.{enough_now, writes_now, own_writes}
use Rattle.file_changes.proofs.Calling.{done_is}

gives : WritesAreDone → BareIsEnough → (c : Content) (g : Geometry) (clusters : ℕ) (v : Volume) (s : VolumeStreams) (op : Op) (node a : Node) (stamp : ℕ) (r : Record) (bits : List Bool) → IsAsked c g clusters v s op node a r bits → (old new : List Touched) → stamp < 2 ^ 64 → length bits ≤ cluster_limit → HasData (length bits) r → old ≡ []
    → PutsWrite c bits s node.number op node stamp r old new → more_of (growth_of bits r op node) ≤ count_by not bits → IsWritten c g clusters v s op node.number stamp a r r new
gives done bare c g clusters v s op node a stamp r bits asked old new soon few has none put enough =
    let puts = writes_now bare c g clusters v s op node a stamp r r bits asked old new soon few has none put in
    record {
      written = done c g clusters v s op node.number stamp a r put.change new (enough_now bare c g clusters v s op node a stamp r r bits asked enough) (own_writes c g clusters v s op node.number stamp a r put.change new puts);
      change = put.change;
      puts = puts;
    }

pub call_gives : WritesAreDone → BareIsEnough → (content : Option Content) (s : VolumeStreams) (op : Op) (node : Node) (stamp : ℕ) (r : Record) (bits : List Bool) (old new : List Touched) (result : Result (Unit {0}) WriteFault) → stamp < 2 ^ 64 → length bits ≤ cluster_limit → HasData (length bits) r
    → OnOk result (IfSome content (λ c. PutsWrite c bits s node.number op node stamp r old new)) → (count_by not bits < more_of (growth_of bits r op node) → IsShortOf (count_by not bits) result)
    → (more_of (growth_of bits r op node) ≤ count_by not bits → HasRow (row_of bits r op node) result) → IfSome content (WrittenFrom s op node stamp r r bits old new result)
call_gives done bare None s op node stamp r bits old new result soon few has put short full = tt
call_gives done bare (Some c) s op node stamp r bits old new (Ok u) soon few has put short full =
    let is = done_is bits (more_of (growth_of bits r op node)) (row_of bits r op node) u short full in
    λ g clusters v a asked none. gives done bare c g clusters v s op node a stamp r bits asked old new soon few has none put is.0
call_gives done bare (Some c) s op node stamp r bits old new (Err why) soon few has put short full = λ g clusters v a asked none. tt
