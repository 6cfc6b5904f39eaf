-- A call that writes or cuts a file without unnamed data takes the step of the operation, and has written the file.
use Rattle.std.proofs.Common.{◌≡◌, ℕ, ◌<◌, ◌≤◌, ◌^◌, Bool, false, List, [], length, Option, Some, None, Result, Ok, Err, refl, sym, ap, subst, ◌∙◌, inl, inr}
use Rattle.std.specs.Prelude.{IfSome, OnOk, IfErr, not, count_by}
use Rattle.std.proofs.lemmas.Bool.{cases_lt}
use Rattle.disk_model.specs.Content.{Content}
use Rattle.record_model.specs.Pairs.{cluster_limit}
use Rattle.record_model.specs.Records.{Record}
use Rattle.file_tree.specs.declared.node.Node.{Node}
use Rattle.state_model.specs.declared.geometry.Geometry.{Geometry}
use Rattle.volume_model.specs.Volumes.{Volume}
use Rattle.tree_model.specs.declared.script.Op.{Op}
use Rattle.tree_model.specs.declared.reply.Reply.{Reply}
use Rattle.tree_model.specs.declared.reply.Reply.TheVariants as reply
use Rattle.plan_draft.specs.declared.touched.Touched.{Touched}
use Rattle.space_model.specs.Choosing.{with_runs}
use Rattle.file_changes.specs.record_streams.Fitting.{FitsButRoom}
use Rattle.file_changes.specs.step_model.Placing.{Growth, more_of}
use Rattle.made_data.specs.data_plan.Changes.{HasData, growth_of, row_of}
use Rattle.made_data.specs.Laws.{MadeIsCounted}
use Rattle.made_data.specs.Made.{made_record, has_data}
use Rattle.file_changes.specs.file_puts.declared.streams.VolumeStreams.{VolumeStreams}
use Rattle.file_changes.specs.file_writes.declared.fault.WriteFault.{WriteFault}
use Rattle.file_changes.specs.file_writes.declared.fault.WriteFault.TheVariants.{Full, Short, Fault, Memory}
use Rattle.file_changes.specs.file_writes.Faults.{IsShortOf, HasRow, StaysWhereRefused}
use Rattle.file_changes.specs.file_writes.Writing.{PutsWrite}
use Rattle.file_changes.specs.change_steps.Changes.{ChangesAreSteps}
use Rattle.file_changes.specs.change_steps.Ready.{BareIsEnough, FilesAreReady}
use Rattle.file_changes.specs.Calls.{IsAsked, StepsFrom}
use Rattle.file_changes.specs.Written.{WrittenFrom}
use Rattle.file_changes.specs.Changes.{ChangesFile}
use Rattle.file_changes.proofs.Writing.{row_now, enough_now, writes_now}
use Rattle.written_made.specs.Made.{WritesMade, MadeIsDone}
use Rattle.written_made.specs.Steps.{MadeIsStep}

-- what a call says of its failures: fewer clusters are clear than are wanted, or a row refuses the record
pub record SaysWhy (bits : List Bool) (r : Record) (op : Op) (node : Node) (result : Result (Unit {0}) WriteFault) : Type 0 where
  pub short : count_by not bits < more_of (growth_of bits r op node) → IsShortOf (count_by not bits) result
  pub full : more_of (growth_of bits r op node) ≤ count_by not bits → HasRow (row_of bits r op node) result

-- of the file without data what is said of it with empty data
pub same_reasons : MadeIsCounted → (bits : List Bool) (r : Record) (op : Op) (node : Node) (result : Result (Unit {0}) WriteFault) → has_data r ≡ false → SaysWhy bits (made_record r) op node result → SaysWhy bits r op node result
same_reasons counted bits r op node result none says = record {
  short = subst (λ (x : Growth). count_by not bits < more_of x → IsShortOf (count_by not bits) result) (counted.growth bits r op node none) says.short;
  full = subst (λ (x : Growth). more_of x ≤ count_by not bits → HasRow (row_of bits r op node) result) (counted.growth bits r op node none)
      (subst (λ (o : Option Reply). more_of (growth_of bits (made_record r) op node) ≤ count_by not bits → HasRow o result) (counted.row bits r op node none) says.full);
}

done_is : (bits : List Bool) (more : ℕ) (row : Option Reply) (u : Unit {0}) → (count_by not bits < more → IsShortOf (count_by not bits) (Ok u)) → (more ≤ count_by not bits → HasRow row (Ok u)) → (more ≤ count_by not bits) × (row ≡ None)
done_is bits more row u short full = elim (cases_lt (count_by not bits) more) [
  | inl less ↦ absurd (short less)
  | inr enough ↦ (enough, full enough)
]

row_is : (bits : List Bool) (more : ℕ) (row : Option Reply) (used : ℕ) → (count_by not bits < more → IsShortOf {T = Unit {0}} (count_by not bits) (Err (Full used))) → (more ≤ count_by not bits → HasRow {T = Unit {0}} row (Err (Full used))) → row ≡ Some (reply.RecordFull used)
row_is bits more row used short full = elim (cases_lt (count_by not bits) more) [
  | inl less ↦ absurd (short less)
  | inr enough ↦ full enough
]

never_short : (bits : List Bool) (more : ℕ) (row : Option Reply) (room : ℕ) → (more ≤ count_by not bits → HasRow {T = Unit {0}} row (Err (Short room))) → more ≤ count_by not bits → ⊥
never_short bits more row room full enough = full enough

-- what is asked of the file
pub record IsBare (clusters : ℕ) (r : Record) (stamp : ℕ) : Type 0 where
  pub none : has_data r ≡ false
  pub fits : FitsButRoom r
  pub short : length r.attrs < 2 ^ 10
  pub soon : stamp < 2 ^ 64
  pub few : clusters ≤ cluster_limit
  pub has : HasData clusters (made_record r)

made_now : BareIsEnough → (c : Content) (g : Geometry) (clusters : ℕ) (v : Volume) (s : VolumeStreams) (op : Op) (node a : Node) (stamp : ℕ) (r : Record) (bits : List Bool) → IsAsked c g clusters v s op node a r bits → IsBare (length bits) r stamp → (old new : List Touched) → old ≡ []
    → (put : PutsWrite c bits s node.number op node stamp (made_record r) old new) → WritesMade c g clusters v s op node.number stamp a r put.change new
made_now bare c g clusters v s op node a stamp r bits asked of_file old new none put = record {
  puts = writes_now bare c g clusters v s op node a stamp r (made_record r) bits asked old new of_file.soon of_file.few of_file.has none put;
  none = of_file.none;
  fits = of_file.fits;
  short = of_file.short;
}

-- ---- the steps

module _ (done : MadeIsStep) (steps : ChangesAreSteps) (bare : BareIsEnough) (ready : FilesAreReady) (s : VolumeStreams) (op : Op) (node : Node) (stamp : ℕ) (r : Record) (bits : List Bool) (of_file : IsBare (length bits) r stamp) where
  pub call_steps : (content : Option Content) (old new : List Touched) (result : Result (Unit {0}) WriteFault) → OnOk result (IfSome content (λ c. PutsWrite c bits s node.number op node stamp (made_record r) old new)) → SaysWhy bits r op node result
      → IfSome content (StepsFrom s op node stamp r bits old new result)
  call_steps None old new result put says = tt
  call_steps (Some c) old new (Ok u) put says =
      let is = done_is bits (more_of (growth_of bits r op node)) (row_of bits r op node) u says.short says.full in
      λ g clusters v a asked none. done c g clusters v s op stamp node a r put.change new asked.has asked.finds (sym (row_now bare c g clusters v s op node a stamp r r bits asked) ∙ is.1) (enough_now bare c g clusters v s op node a stamp r r bits asked is.0)
      (made_now bare c g clusters v s op node a stamp r bits asked of_file old new none put)
  call_steps (Some c) old new (Err (Full used)) put says =
      let row = row_is bits (more_of (growth_of bits r op node)) (row_of bits r op node) used says.short says.full in
      λ g clusters v a asked none. steps.full c g clusters v op stamp node a r (reply.RecordFull used) asked.has asked.finds asked.file (sym (row_now bare c g clusters v s op node a stamp r r bits asked) ∙ row)
  call_steps (Some c) old new (Err (Short room)) put says =
      λ g clusters v a asked none. never_short bits (more_of (growth_of bits r op node)) (row_of bits r op node) room says.full
      (subst (λ (l : List Bool). more_of (growth_of l r op node) ≤ count_by not l) (sym asked.of_volume) (ready.room c g clusters v op node a r asked.has asked.finds asked.file))
  call_steps (Some c) old new (Err Fault) put says = λ g clusters v a asked none. steps.given_up c g clusters v op stamp reply.Fault asked.has refl
  call_steps (Some c) old new (Err Memory) put says = λ g clusters v a asked none. steps.given_up c g clusters v op stamp reply.Memory asked.has refl

-- ---- what is written

call_gives : MadeIsDone → BareIsEnough → (s : VolumeStreams) (op : Op) (node : Node) (stamp : ℕ) (r : Record) (bits : List Bool) → IsBare (length bits) r stamp → (content : Option Content) (old new : List Touched) (result : Result (Unit {0}) WriteFault)
    → OnOk result (IfSome content (λ c. PutsWrite c bits s node.number op node stamp (made_record r) old new)) → SaysWhy bits r op node result → IfSome content (WrittenFrom s op node stamp r (made_record r) bits old new result)
call_gives done bare s op node stamp r bits of_file None old new result put says = tt
call_gives done bare s op node stamp r bits of_file (Some c) old new (Ok u) put says =
    let is = done_is bits (more_of (growth_of bits r op node)) (row_of bits r op node) u says.short says.full in
    λ g clusters v a asked none.
    (let k = made_now bare c g clusters v s op node a stamp r bits asked of_file old new none put in
    record {
      written = done c g clusters v s op node.number stamp a r put.change new (enough_now bare c g clusters v s op node a stamp r r bits asked is.0) k;
      change = put.change;
      puts = k.puts;
    })
call_gives done bare s op node stamp r bits of_file (Some c) old new (Err why) put says = λ g clusters v a asked none. tt

-- ---- by the record that was given

-- what is said of the record that was made
says_why : MadeIsCounted → (bits : List Bool) (r q : Record) (op : Op) (node : Node) (result : Result (Unit {0}) WriteFault) → has_data r ≡ false → q ≡ made_record r → (count_by not bits < more_of (growth_of bits q op node) → IsShortOf (count_by not bits) result)
    → (more_of (growth_of bits q op node) ≤ count_by not bits → HasRow (row_of bits q op node) result) → SaysWhy bits r op node result
says_why counted bits r q op node result none is short full = same_reasons counted bits r op node result none (subst (λ (y : Record). SaysWhy bits y op node result) is (record { short = short; full = full }))

pub made_changes : MadeIsCounted → MadeIsStep → MadeIsDone → ChangesAreSteps → BareIsEnough → FilesAreReady → (content : Option Content) (s : VolumeStreams) (op : Op) (node : Node) (stamp : ℕ) (r q : Record) (bits left : List Bool) (old new : List Touched) (result : Result (Unit {0}) WriteFault) → IsBare (length bits) r stamp → q ≡ made_record r
    → OnOk result (IfSome content (λ c. PutsWrite c bits s node.number op node stamp q old new)) → OnOk result (left ≡ with_runs (growth_of bits q op node).runs bits) → (count_by not bits < more_of (growth_of bits q op node) → IsShortOf (count_by not bits) result)
    → (more_of (growth_of bits q op node) ≤ count_by not bits → HasRow (row_of bits q op node) result) → IfErr result (StaysWhereRefused old new) → ChangesFile content s op node stamp r (made_record r) bits left old new result
made_changes counted step done steps bare ready content s op node stamp r q bits left old new result of_file is put taken short full refused =
    let puts = subst (λ (y : Record). OnOk result (IfSome content (λ c. PutsWrite c bits s node.number op node stamp y old new))) is put in
    let says = says_why counted bits r q op node result of_file.none is short full in
    let same = ap (λ (y : Record). growth_of bits y op node) is ∙ counted.growth bits r op node of_file.none in
    record {
      step = call_steps step steps bare ready s op node stamp r bits of_file content old new result puts says;
      written = call_gives done bare s op node stamp r bits of_file content old new result puts says;
      bits = subst (λ (x : Growth). OnOk result (left ≡ with_runs x.runs bits)) same taken;
      short = says.short;
      refused = refused;
    }
