-- A file that is written or cut takes its step.
use Rattle.std.proofs.Common.{◌≡◌, ℕ, ◌<◌, ◌≤◌, ◌^◌, Bool, List, [], length, Option, Some, None, Result, Ok, Err, refl, sym, subst, ◌∙◌, inl, inr}
use Rattle.std.specs.Prelude.{IfSome, OnOk, not, count_by}
use Rattle.std.proofs.lemmas.Bool.{cases_lt}
use Rattle.disk_model.specs.Content.{Content}
use Rattle.record_model.specs.Pairs.{cluster_limit}
use Rattle.record_model.specs.Records.{Record}
use Rattle.file_tree.specs.declared.node.Node.{Node}
use Rattle.state_model.specs.declared.geometry.Geometry.{Geometry}
use Rattle.written_clusters.specs.volume_model.Volumes.{Volume, cluster_bits}
use Rattle.tree_model.specs.declared.script.Op.{Op}
use Rattle.tree_model.specs.declared.reply.Reply.{Reply}
use Rattle.tree_model.specs.declared.reply.Reply.TheVariants as reply
use Rattle.plan_draft.specs.declared.touched.Touched.{Touched}
use Rattle.written_clusters.specs.step_model.Placing.{more_of}
use Rattle.written_clusters.specs.data_plan.Changes.{HasData, growth_of, row_of}
use Rattle.file_writes.specs.file_puts.declared.streams.VolumeStreams.{VolumeStreams}
use Rattle.file_writes.specs.declared.fault.WriteFault.{WriteFault}
use Rattle.file_writes.specs.declared.fault.WriteFault.TheVariants.{Full, Short, Fault, Memory}
use Rattle.file_writes.specs.Faults.{IsShortOf, HasRow}
use Rattle.file_writes.specs.Writing.{PutsWrite}
use Rattle.written_clusters.specs.change_steps.Changes.{ChangesAreSteps}
use Rattle.written_clusters.specs.change_steps.Ready.{BareIsEnough, FilesAreReady}
use Rattle.file_changes.specs.Steps.{WritesAreSteps}
use Rattle.file_changes.specs.Calls.{IsAsked, StepsTo, StepsFrom}
use Rattle.file_changes.proofs.Writing.{row_now, enough_now, writes_now, own_writes}

-- a refused row is that of the step, and where none is, there are clusters enough
pub row_is : (bits : List Bool) (more : ℕ) (row : Option Reply) (used : ℕ) → (count_by not bits < more → IsShortOf {T = Unit {0}} (count_by not bits) (Err (Full used))) → (more ≤ count_by not bits → HasRow {T = Unit {0}} row (Err (Full used))) → row ≡ Some (reply.RecordFull used)
row_is bits more row used short full = elim (cases_lt (count_by not bits) more) [
  | inl less ↦ absurd (short less)
  | inr enough ↦ full enough
]

pub done_is : (bits : List Bool) (more : ℕ) (row : Option Reply) (u : Unit {0}) → (count_by not bits < more → IsShortOf (count_by not bits) (Ok u)) → (more ≤ count_by not bits → HasRow row (Ok u)) → (more ≤ count_by not bits) × (row ≡ None)
done_is bits more row u short full = elim (cases_lt (count_by not bits) more) [
  | inl less ↦ absurd (short less)
  | inr enough ↦ (enough, full enough)
]

-- where there are clusters enough, none lack
never_short : (bits : List Bool) (more : ℕ) (row : Option Reply) (room : ℕ) → (more ≤ count_by not bits → HasRow {T = Unit {0}} row (Err (Short room))) → more ≤ count_by not bits → ⊥
never_short bits more row room full enough = full enough

module _ (done : WritesAreSteps) (steps : ChangesAreSteps) (bare : BareIsEnough) (ready : FilesAreReady) (c : Content) (g : Geometry) (clusters : ℕ) (v : Volume) (s : VolumeStreams) (op : Op) (node a : Node) (stamp : ℕ) (r : Record) (bits : List Bool) (asked : IsAsked c g clusters v s op node a r bits) where
  row_here : row_of bits r op node ≡ row_of (cluster_bits c v) r op a
  row_here = row_now bare c g clusters v s op node a stamp r r bits asked

  pub ok_steps : (old new : List Touched) (u : Unit {0}) → stamp < 2 ^ 64 → length bits ≤ cluster_limit → HasData (length bits) r → old ≡ [] → PutsWrite c bits s node.number op node stamp r old new → more_of (growth_of bits r op node) ≤ count_by not bits → row_of bits r op node ≡ None
      → StepsTo (Ok u) c g clusters op stamp new
  ok_steps old new u soon few has none put enough row =
      done c g clusters v s op stamp node a r put.change new asked.has asked.finds (sym row_here ∙ row) (enough_now bare c g clusters v s op node a stamp r r bits asked enough)
      (own_writes c g clusters v s op node.number stamp a r put.change new (writes_now bare c g clusters v s op node a stamp r r bits asked old new soon few has none put))

  pub full_steps : (used : ℕ) (new : List Touched) → row_of bits r op node ≡ Some (reply.RecordFull used) → StepsTo (Err (Full used)) c g clusters op stamp new
  full_steps used new row = steps.full c g clusters v op stamp node a r (reply.RecordFull used) asked.has asked.finds asked.file (sym row_here ∙ row)

  pub short_steps : (room : ℕ) (new : List Touched) → (more_of (growth_of bits r op node) ≤ count_by not bits → HasRow {T = Unit {0}} (row_of bits r op node) (Err (Short room))) → StepsTo (Err (Short room)) c g clusters op stamp new
  short_steps room new full =
      never_short bits (more_of (growth_of bits r op node)) (row_of bits r op node) room full
      (subst (λ (l : List Bool). more_of (growth_of l r op node) ≤ count_by not l) (sym asked.of_volume) (ready.room c g clusters v op node a r asked.has asked.finds asked.file))

  pub fault_steps : (new : List Touched) → StepsTo (Err Fault) c g clusters op stamp new
  fault_steps new = steps.given_up c g clusters v op stamp reply.Fault asked.has refl

  pub memory_steps : (new : List Touched) → StepsTo (Err Memory) c g clusters op stamp new
  memory_steps new = steps.given_up c g clusters v op stamp reply.Memory asked.has refl

pub call_steps : WritesAreSteps → ChangesAreSteps → BareIsEnough → FilesAreReady → (content : Option Content) (s : VolumeStreams) (op : Op) (node : Node) (stamp : ℕ) (r : Record) (bits : List Bool) (old new : List Touched) (result : Result (Unit {0}) WriteFault) → stamp < 2 ^ 64 → length bits ≤ cluster_limit → HasData (length bits) r
    → OnOk result (IfSome content (λ c. PutsWrite c bits s node.number op node stamp r old new)) → (count_by not bits < more_of (growth_of bits r op node) → IsShortOf (count_by not bits) result)
    → (more_of (growth_of bits r op node) ≤ count_by not bits → HasRow (row_of bits r op node) result) → IfSome content (StepsFrom s op node stamp r bits old new result)
call_steps done steps bare ready None s op node stamp r bits old new result soon few has put short full = tt
call_steps done steps bare ready (Some c) s op node stamp r bits old new (Ok u) soon few has put short full =
    let is = done_is bits (more_of (growth_of bits r op node)) (row_of bits r op node) u short full in
    λ g clusters v a asked none. ok_steps done steps bare ready c g clusters v s op node a stamp r bits asked old new u soon few has none put is.0 is.1
call_steps done steps bare ready (Some c) s op node stamp r bits old new (Err (Full used)) soon few has put short full =
    λ g clusters v a asked none. full_steps done steps bare ready c g clusters v s op node a stamp r bits asked used new (row_is bits (more_of (growth_of bits r op node)) (row_of bits r op node) used short full)
call_steps done steps bare ready (Some c) s op node stamp r bits old new (Err (Short room)) soon few has put short full = λ g clusters v a asked none. short_steps done steps bare ready c g clusters v s op node a stamp r bits asked room new full
call_steps done steps bare ready (Some c) s op node stamp r bits old new (Err Fault) soon few has put short full = λ g clusters v a asked none. fault_steps done steps bare ready c g clusters v s op node a stamp r bits asked new
call_steps done steps bare ready (Some c) s op node stamp r bits old new (Err Memory) soon few has put short full = λ g clusters v a asked none. memory_steps done steps bare ready c g clusters v s op node a stamp r bits asked new
