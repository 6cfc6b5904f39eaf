-- An operation behind steps that made room for it.
use Rattle.std.proofs.Common.{◌≡◌, subst, ℕ, ◌≤◌, true, false, List, Option, Some, None, Result, Ok, Err, refl, sym, ◌∙◌, inl, inr, arith}
use Rattle.std.specs.Prelude.{◌≢◌, IfSome}
use Rattle.host_base.specs.Causes.{HasFailed}
use Rattle.sector_device.specs.Moments.{Changes}
use Rattle.file_tree.specs.declared.tree.Tree.{Tree}
use Rattle.tree_model.specs.declared.script.Op.{Op}
use Rattle.tree_model.specs.declared.script.Op.TheVariants as op
use Rattle.tree_model.specs.declared.reply.Reply.{Reply}
use Rattle.tree_model.specs.declared.reply.Reply.TheVariants.{Memory, Fault}
use Rattle.tree_model.specs.Steps.{HasStep}
use Rattle.log_area.specs.Areas.{ring_size}
use Rattle.txn_state.specs.States.{StateOf, facts_of}
use Rattle.volume_sync.specs.volume_core.txn_core.Views.{present_content}
use Rattle.volume_sync.specs.volume_core.working_volume.map_change.Parts.{MapParts}
use Rattle.volume_sync.specs.volume_core.working_volume.file_puts.declared.streams.VolumeStreams.{VolumeStreams}
use Rattle.volume_sync.specs.volume_core.change_plan.States.{is_data_change}
use Rattle.volume_sync.specs.volume_core.working_volume.Ready.{IsReady}
use Rattle.volume_sync.specs.volume_core.working_volume.declared.fault.DoFault.{DoFault}
use Rattle.volume_sync.specs.volume_core.working_volume.declared.fault.DoFault.TheVariants.{NeedsRoom, Unknown}
use Rattle.volume_sync.specs.volume_core.working_volume.step_model.StepLaws.{is_content_row}
use Rattle.volume_sync.specs.volume_core.working_volume.Doing.{CountsChange}
use Rattle.volume_sync.specs.volume_core.Volumes.{SeenVolume, present_tree, volume_tree}
use Rattle.volume_sync.specs.volume_core.Trees.{StepsTree}
use Rattle.volume_sync.specs.Runs.{RunsOn}
use Rattle.volume_sync.proofs.Runs.{runs_joined}
use Rattle.volume_replies.specs.Replies.{RepliesOn, IsTried, reply_of}
use Rattle.volume_replies.proofs.Laps.{none_most}
use Rattle.volume_replies.proofs.Trying.{memory_tree, goes_nowhere}

-- ---- the tree

-- an operation that changes a file has steps on the tree of a volume that is ready
pub has_step : (o : Op) → is_data_change o ≡ true → (gives : Option (List (List ℕ))) (state : StateOf) (m : MapParts) (table : List ℕ) (s : VolumeStreams) → IfSome (present_content gives state) (IsReady (facts_of state) m table s) → IfSome (present_tree gives state m) (HasStep o)
has_step o is None state m table s ready = tt
has_step (op.Write path offset bytes) is (Some disk) state m table s ready = ready.plannable.journal
has_step (op.Fill path offset count byte) is (Some disk) state m table s ready = ready.plannable.journal
has_step (op.Truncate path size) is (Some disk) state m table s ready = ready.plannable.journal
has_step other is (Some disk) state m table s ready = absurd cc

fault_tree : (table : List ℕ) (o : Op) (stamp : ℕ) (t : Option Tree) → IfSome t (HasStep o) → StepsTree table o stamp (Ok Fault) t t
fault_tree table o stamp None has = tt
fault_tree table o stamp (Some t) has = record { step = λ row. (has, refl); stays = λ done. refl }

unknown_tree : (table : List ℕ) (o : Op) (stamp : ℕ) (why : DoFault) (said : Reply) (t u : Option Tree) → t ≡ None → StepsTree table o stamp (Err why) t u → StepsTree table o stamp (Ok said) t u
unknown_tree table o stamp why said None None is steps = tt
unknown_tree table o stamp why said None (Some u) is steps = absurd steps
unknown_tree table o stamp why said (Some t) u is steps = absurd cc

-- ---- faults

module _ {D : Type 0} (gives : D → Option (List (List ℕ))) (count moment failures : D → ℕ) (changes : D → Changes) (o : Op) (stamp : ℕ) where
  abbrev Tried : Result Reply DoFault → SeenVolume D → SeenVolume D → Type 0
  Tried result old new = IsTried gives count moment failures changes o stamp result old new

  abbrev Runs : SeenVolume D → SeenVolume D → Type 0
  Runs old new = RunsOn gives count moment changes old new

  -- ---- steps before a try

  pub behind_runs : (result : Result Reply DoFault) (old mid new : SeenVolume D) → Runs old mid → RepliesOn gives count moment changes o stamp result mid new → RepliesOn gives count moment changes o stamp result old new
  behind_runs result old mid new runs r = record {
    mid = r.mid;
    runs = runs_joined gives count moment changes old mid r.mid runs r.runs;
    goes = r.goes;
    tree = subst (λ (t : Option Tree). StepsTree old.table o stamp result t (volume_tree gives new)) runs.tree (subst (λ (table : List ℕ). StepsTree table o stamp result (volume_tree gives mid) (volume_tree gives new)) runs.table r.tree);
    row = r.row;
    table = r.table ∙ runs.table;
    streams = r.streams ∙ runs.streams;
    place = r.place;
    durable = r.durable;
    sectors = r.sectors;
    later = r.later;
    laps = r.laps;
    begins = r.begins;
  }

  counts_behind : (first result : Result Reply DoFault) (old v mid new : SeenVolume D) → CountsChange failures moment first old.store.device v.store.device → first ≢ Ok Fault → moment v.store.device ≤ moment mid.store.device → failures mid.store.device ≡ failures v.store.device
      → CountsChange failures moment result mid.store.device new.store.device → CountsChange failures moment result old.store.device new.store.device
  counts_behind first result old v mid new before other later same now =
      let a = before.onwards.later in
      let b = before.onwards.onwards in
      let c = now.onwards.later in
      let d = now.onwards.onwards in
      record {
        onwards = record { later = omega (arith, a, same, c); onwards = omega (arith, b, later, d) };
        fault = λ is. since (omega (arith, a, same)) (now.fault is);
        counted = λ early not. now.counted early not ∙ same ∙ before.counted (omega (arith, early, d, later)) other;
      }
    where
      since : failures old.store.device ≤ failures mid.store.device → HasFailed (failures mid.store.device) (failures new.store.device) (moment new.store.device) → HasFailed (failures old.store.device) (failures new.store.device) (moment new.store.device)
      since le (inl rose) = inl (omega (arith, le, rose))
      since le (inr ends) = inr ends

  pub tried_again : (pages room : ℕ) (result : Result Reply DoFault) (old v mid new : SeenVolume D) → Tried (Err (NeedsRoom pages room)) old v → Runs v mid → failures mid.store.device ≡ failures v.store.device → Tried result mid new → Tried result old new
  tried_again pages room result old v mid new before runs same again =
      let all = runs_joined gives count moment changes old v mid (before.short pages room refl) runs in
      record {
        replies = behind_runs result old mid new all again.replies;
        short = λ more free is. runs_joined gives count moment changes old mid new all (again.short more free is);
        unknown = λ is. sym all.tree ∙ again.unknown is;
        counts = counts_behind (Err (NeedsRoom pages room)) result old v mid new before.counts (λ is. cc) runs.later same again.counts;
      }

  -- behind a try that wanted room
  pub behind_short : (pages room : ℕ) (result : Result Reply DoFault) (old mid new : SeenVolume D) → Tried (Err (NeedsRoom pages room)) old mid → RepliesOn gives count moment changes o stamp result mid new → RepliesOn gives count moment changes o stamp result old new
  behind_short pages room result old mid new tried replies = behind_runs result old mid new (tried.short pages room refl) replies

  -- ---- what is given up

  gives_up : (said : Reply) (old new : SeenVolume D) → is_content_row said ≡ false → Runs old new → StepsTree old.table o stamp (Ok said) (volume_tree gives old) (volume_tree gives old) → RepliesOn gives count moment changes o stamp (Ok said) old new
  gives_up said old new plain runs tree = record {
    mid = new;
    runs = runs;
    goes = goes_nowhere gives count changes new;
    tree = subst (λ (t : Option Tree). StepsTree old.table o stamp (Ok said) (volume_tree gives old) t) (sym runs.tree) tree;
    row = λ changes row. absurd (let both = sym row ∙ plain in cc);
    table = runs.table;
    streams = runs.streams;
    place = refl;
    durable = refl;
    sectors = refl;
    later = omega arith;
    laps = omega arith;
    begins = none_most (ring_size new.store.state.log) (facts_of new.store.state);
  }

  pub no_room : (pages room : ℕ) (old v new : SeenVolume D) → IfSome (volume_tree gives old) (HasStep o) → Tried (Err (NeedsRoom pages room)) old v → Runs v new → RepliesOn gives count moment changes o stamp (Ok Memory) old new
  no_room pages room old v new has tried runs =
      gives_up Memory old new refl (runs_joined gives count moment changes old v new (tried.short pages room refl) runs) (memory_tree old.table o stamp (volume_tree gives old) has)

  pub no_step : (pages room : ℕ) (old v new : SeenVolume D) → IfSome (volume_tree gives old) (HasStep o) → Tried (Err (NeedsRoom pages room)) old v → Runs v new → RepliesOn gives count moment changes o stamp (Ok Fault) old new
  no_step pages room old v new has tried runs =
      gives_up Fault old new refl (runs_joined gives count moment changes old v new (tried.short pages room refl) runs) (fault_tree old.table o stamp (volume_tree gives old) has)

  -- ---- what was tried last

  pub replied : (tried : Result Reply DoFault) (old new : SeenVolume D) → IfSome (volume_tree gives old) (HasStep o) → Tried tried old new → RepliesOn gives count moment changes o stamp (Ok (reply_of tried)) old new
  replied (Ok said) old new has t = t.replies
  replied (Err (NeedsRoom pages room)) old new has t = gives_up Memory old new refl (t.short pages room refl) (memory_tree old.table o stamp (volume_tree gives old) has)
  replied (Err Unknown) old new has t = record {
    mid = t.replies.mid;
    runs = t.replies.runs;
    goes = t.replies.goes;
    tree = unknown_tree old.table o stamp Unknown Fault (volume_tree gives old) (volume_tree gives new) (t.unknown refl) t.replies.tree;
    row = λ changes row. absurd cc;
    table = t.replies.table;
    streams = t.replies.streams;
    place = t.replies.place;
    durable = t.replies.durable;
    sectors = t.replies.sectors;
    later = t.replies.later;
    laps = t.replies.laps;
    begins = t.replies.begins;
  }
