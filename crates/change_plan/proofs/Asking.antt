-- A file of a state that an operation was found to change may be given to the call that does it.
use Rattle.std.proofs.Common.{◌≡◌, ℕ, ◌+◌, ◌<◌, ◌≤◌, ◌^◌, Bool, true, false, cond, List, length, Option, Some, None, Err, refl, sym, ap, subst, arith}
use Rattle.std.specs.Prelude.{IfSome, ◌↔◌}
use Rattle.disk_model.specs.Content.{Content}
use Rattle.record_model.specs.Records.{Record}
use Rattle.found_files.specs.record_streams.Fitting.{FitsButRoom}
use Rattle.file_tree.specs.declared.node.Node.{Node}
use Rattle.state_model.specs.declared.geometry.Geometry.{Geometry}
use Rattle.volume_model.specs.Volumes.{Volume}
use Rattle.tree_model.specs.declared.script.Op.{Op}
use Rattle.tree_model.specs.Steps.{IsWithinBounds}
use Rattle.found_files.specs.made_data.Made.{made_record, has_data, record_with_data}
use Rattle.found_files.specs.file_puts.declared.streams.VolumeStreams.{VolumeStreams}
use Rattle.found_files.specs.file_writes.Writing.{MayWrite}
use Rattle.found_files.specs.file_changes.Calls.{IsAsked}
use Rattle.found_files.proofs.written_values.Owning.{is_owned}
use Rattle.found_files.specs.Found.{IsFoundFile, FoundMayWrite}
use Rattle.change_plan.specs.declared.fault.PlanFault.TheVariants.{Unknown}
use Rattle.change_plan.specs.States.{HasFewClusters}
use Rattle.change_plan.specs.Checking.{MayChange}
use Rattle.change_plan.specs.Drafting.{KnowsAsked}

may_by : FoundMayWrite → (c : Content) (g : Geometry) (clusters : ℕ) (v : Volume) (s : VolumeStreams) (o : Op) (node a : Node) (r : Record) → IsFoundFile c g clusters v s o node a r → (t : Bool) → has_data r ≡ t → MayWrite clusters node.number s (cond t r (made_record r)) o node
may_by law c g clusters v s o node a r k true is = law.has c g clusters v s o node a r k is
may_by law c g clusters v s o node a r k false is = law.made c g clusters v s o node a r k is

may_there : FoundMayWrite → (c : Content) (g : Geometry) (clusters : ℕ) (v : Volume) (s : VolumeStreams) (o : Op) (node a : Node) (r : Record) (bits : List Bool) → IsAsked c g clusters v s o node a r bits → FitsButRoom r → IsWithinBounds o → HasFewClusters clusters → MayChange (length bits) node.number s r o node
may_there law c g clusters v s o node a r bits asked fits bounds sizes =
    let is : IsFoundFile c g clusters v s o node a r = record { has = asked.has; finds = asked.finds; file = asked.file; fits = fits; bounds = bounds; few = sizes; bitmap = law.bits c g clusters v s asked.has.stands asked.has.eight (omega (arith, sizes)) asked.streams } in
    let own = (is_owned c g clusters v node.number r a asked.has.stands asked.file).own in
    let few = (law.few c g clusters v node.number r asked.has.stands asked.file.file own.no_list).attrs in
    record {
      attrs = omega (arith, few);
      may = subst (λ (x : ℕ). MayWrite x node.number s (record_with_data r) o node) (sym asked.count) (may_by law c g clusters v s o node a r is (has_data r) refl);
    }

clash : (may : Bool) → may ≡ true → may ≡ false → ⊥
clash may first second = cc

-- so where it may not, the content is no such state
pub never_refused : FoundMayWrite → (content : Option Content) (s : VolumeStreams) (o : Op) (node : Node) (r : Record) (bits : List Bool) (may : Bool) → FitsButRoom r → IsWithinBounds o → may ≡ false → ((may ≡ true) ↔ MayChange (length bits) node.number s r o node) → IfSome content (KnowsAsked s o node r bits (Err Unknown))
never_refused law None s o node r bits may fits bounds no_write same = tt
never_refused law (Some c) s o node r bits may fits bounds no_write same =
    λ g clusters v a asked sizes. absurd (clash may (same.1 (may_there law c g clusters v s o node a r bits asked fits bounds sizes)) no_write)
