-- What a look and a sync leave of a volume.
use Rattle.std.proofs.Common.{◌≡◌, subst, ℕ, ◌≤◌, true, List, Option, Some, None, Ok, refl, sym, ap, ◌∙◌, inl, arith}
use Rattle.std.specs.Prelude.{IfSome}
use Rattle.sector_device.specs.Moments.{Changes, LeftSince}
use Rattle.file_tree.specs.declared.tree.Tree.{Tree}
use Rattle.tree_model.specs.declared.script.Op.{Op}
use Rattle.tree_model.specs.declared.script.Op.TheVariants as op
use Rattle.tree_model.specs.declared.reply.Reply.{Reply}
use Rattle.tree_model.specs.Steps.{is_look}
use Rattle.log_area.specs.Areas.{ring_size}
use Rattle.txn_state.specs.States.{StateOf, facts_of}
use Rattle.volume_sync.specs.txn_laws.Windows.{lap_behind}
use Rattle.volume_sync.specs.volume_core.state_store.Preparing.{KeepsSeen}
use Rattle.volume_sync.specs.volume_core.change_plan.States.{is_data_change}
use Rattle.volume_sync.specs.volume_core.working_volume.map_change.Parts.{MapParts}
use Rattle.volume_sync.specs.volume_core.Volumes.{SeenVolume, present_tree, volume_tree}
use Rattle.volume_sync.specs.volume_core.Calls.{StaysPut}
use Rattle.volume_sync.specs.volume_core.Trees.{StepsTree}
use Rattle.volume_sync.specs.volume_core.Looks.{RepliesOf}
use Rattle.volume_sync.proofs.Runs.{runs_none}
use Rattle.volume_replies.specs.Replies.{BeginsAtMost, RepliesOn}
use Rattle.volume_replies.proofs.Laps.{none_most}

-- ---- a look

no_change : (o : Op) → is_look o ≡ true → is_data_change o ≡ true → ⊥
no_change (op.Write path offset bytes) looks changes = absurd cc
no_change (op.Fill path offset count byte) looks changes = absurd cc
no_change (op.Truncate path size) looks changes = absurd cc
no_change other looks changes = absurd cc

module _ {D : Type 0} (gives : D → Option (List (List ℕ))) (count moment failures : D → ℕ) (changes : D → Changes) (o : Op) (stamp : ℕ) (said : Reply) (old new : SeenVolume D) (kept : KeepsSeen gives count changes failures moment old.store new.store) (map : new.map ≡ old.map) (table : new.table ≡ old.table)
    (streams : new.streams ≡ old.streams) where
  same_tree : volume_tree gives new ≡ volume_tree gives old
  same_tree =
      ap (λ (known : Option (List (List ℕ))). present_tree known new.store.state new.map) kept.same
      ∙ ap (λ (s : StateOf). present_tree (gives old.store.device) s new.map) kept.state
      ∙ ap (λ (m : MapParts). present_tree (gives old.store.device) old.store.state m) map

  looked_tree : (known : Option Tree) → IfSome known (RepliesOf old.table o said) → StepsTree old.table o stamp (Ok said) known known
  looked_tree None replies = tt
  looked_tree (Some t) replies = record { step = λ row. replies.step stamp; stays = λ done. refl }

  pub looked : is_look o ≡ true → StaysPut gives count changes old new → IfSome (volume_tree gives old) (RepliesOf old.table o said) → RepliesOn gives count moment changes o stamp (Ok said) old new
  looked looks stays replies = record {
    mid = old;
    runs = runs_none gives count moment changes old;
    goes = record {
      commits = inl (ap (λ (s : StateOf). s.commits) kept.state);
      same = λ is. stays.history;
      stays = λ is first trees h. same_tree;
      more = λ is. absurd (let same = ap (λ (s : StateOf). s.commits) kept.state in omega (arith, is, same));
      left = λ t image left. subst (λ (c : Changes). LeftSince (count old.store.device) c t image) stays.left left;
    };
    tree = subst (λ (t : Option Tree). StepsTree old.table o stamp (Ok said) (volume_tree gives old) t) (sym same_tree) (looked_tree (volume_tree gives old) replies);
    row = λ changes row. absurd (no_change o looks changes);
    table = table;
    streams = streams;
    place = ap (λ (s : StateOf). s.place) kept.state;
    durable = ap (λ (s : StateOf). s.durable) kept.state;
    sectors = kept.sectors;
    later = kept.onwards;
    laps = subst (λ (s : StateOf). lap_behind (facts_of old.store.state) ≤ lap_behind (facts_of s)) (sym kept.state) (omega arith);
    begins = subst (λ (s : StateOf). BeginsAtMost (ring_size old.store.state.log) (facts_of old.store.state) (facts_of s)) (sym kept.state) (none_most (ring_size old.store.state.log) (facts_of old.store.state));
  }
