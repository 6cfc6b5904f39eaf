-- An operation that was tried on a volume once.
use Rattle.std.proofs.Common.{◌≡◌, subst, ℕ, ◌≤◌, Bool, true, false, List, [], ◌∷◌, Option, Some, None, Result, Ok, Err, refl, sym, ap, ◌∙◌, inl, arith}
use Rattle.std.specs.Prelude.{◌==◌, IfSome}
use Rattle.std.proofs.lemmas.Bool.Decides.{nat_tests}
use Rattle.disk_model.specs.declared.block.Change.{Change}
use Rattle.disk_model.specs.Content.{Content}
use Rattle.sector_device.specs.Moments.{Changes}
use Rattle.file_tree.specs.declared.tree.Tree.{Tree}
use Rattle.tree_model.specs.declared.script.Op.{Op}
use Rattle.tree_model.specs.declared.reply.Reply.{Reply}
use Rattle.tree_model.specs.declared.reply.Reply.TheVariants.{Memory}
use Rattle.tree_model.specs.Steps.{HasStep}
use Rattle.log_area.specs.Areas.{ring_size, used_pages}
use Rattle.txn_state.specs.States.{facts_of}
use Rattle.volume_sync.specs.txn_laws.Windows.{lap_behind}
use Rattle.volume_sync.specs.volume_core.txn_core.Kept.{IsKept}
use Rattle.volume_sync.specs.volume_core.txn_core.Views.{present_content}
use Rattle.volume_sync.specs.volume_core.state_store.declared.fault.PutFault.{PutFault}
use Rattle.volume_sync.specs.volume_core.state_store.declared.fault.PutFault.TheVariants as faults
use Rattle.volume_sync.specs.volume_core.state_store.Puts.{PutsMap, commits_after}
use Rattle.volume_sync.specs.volume_core.working_volume.map_change.Parts.{MapParts}
use Rattle.volume_sync.specs.volume_core.working_volume.declared.fault.DoFault.{DoFault}
use Rattle.volume_sync.specs.volume_core.working_volume.declared.fault.DoFault.TheVariants.{NeedsRoom, Unknown}
use Rattle.volume_sync.specs.volume_core.working_volume.Doing.{put_answer, IsAnswered, DoesStep, Does, CountsChange}
use Rattle.volume_sync.specs.volume_core.Volumes.{SeenVolume, present_tree, volume_tree}
use Rattle.volume_sync.specs.volume_core.Calls.{GoesOn}
use Rattle.volume_sync.specs.volume_core.Trees.{StepsTree}
use Rattle.volume_sync.proofs.volume_core.Working.{place_kept}
use Rattle.volume_sync.specs.Runs.{RunsOn}
use Rattle.volume_sync.proofs.Runs.{runs_none}
use Rattle.volume_replies.specs.Replies.{TellsRow, RepliesOn, IsTried, settled}
use Rattle.volume_replies.proofs.Laps.{StaysInRing, put_rises, put_stays, none_most, most_begun, none_used}

-- ---- answers

-- a tree that stays
pub stays_tree : (table : List ℕ) (op : Op) (stamp : ℕ) (why : DoFault) (t : Option Tree) → StepsTree table op stamp (Err why) t t
stays_tree table op stamp why None = tt
stays_tree table op stamp why (Some t) = refl

-- what the content tells
tells_row : (o : Op) (stamp : ℕ) (m : MapParts) (r : Result Reply DoFault) (old new : Option Content) → DoesStep o stamp m r old new → TellsRow o stamp m r old new
tells_row o stamp m (Ok said) old new step = λ changes row. step
tells_row o stamp m (Err why) old new step = tt

-- a tree that is known has a step that wants memory
pub memory_tree : (table : List ℕ) (o : Op) (stamp : ℕ) (t : Option Tree) → IfSome t (HasStep o) → StepsTree table o stamp (Ok Memory) t t
memory_tree table o stamp None has = tt
memory_tree table o stamp (Some t) has = record { step = λ row. (has, refl); stays = λ done. refl }

same_tree : (table : List ℕ) (op : Op) (stamp : ℕ) (why : DoFault) (t u : Option Tree) → StepsTree table op stamp (Err why) t u → u ≡ t
same_tree table op stamp why None None steps = refl
same_tree table op stamp why None (Some u) steps = absurd steps
same_tree table op stamp why (Some t) None steps = absurd steps
same_tree table op stamp why (Some t) (Some u) steps = ap (λ (x : Tree). Some x) steps

-- where room is wanted, the put of some changes wanted it
wanted_by : (said : Reply) (put : Result (Unit {0}) PutFault) (pages room : ℕ) → Err (NeedsRoom pages room) ≡ put_answer said put → put ≡ Err (faults.NeedsRoom pages room)
wanted_by said (Ok tt) pages room is = absurd cc
wanted_by said (Err (faults.NeedsRoom more free)) pages room is = (let e : ◌≡◌ {A = Result Reply DoFault} (Err (NeedsRoom pages room)) (Err (NeedsRoom more free)) = is in cc)
wanted_by said (Err faults.Fault) pages room is = absurd cc
wanted_by said (Err faults.Memory) pages room is = absurd cc
wanted_by said (Err faults.Broken) pages room is = absurd cc

-- as many pages are used as it was told
pub used_same : (after before used old_used : ℕ) → after ≡ used → before ≡ old_used → (after == before) ≡ true → used ≡ old_used
used_same after before used old_used now then is = (let same : after ≡ before = grind (arith, nat_tests, is) in omega (arith, now, then, same))

-- ---- one try

pub goes_nowhere : {D : Type 0} (gives : D → Option (List (List ℕ))) (count : D → ℕ) (changes : D → Changes) (v : SeenVolume D) → GoesOn gives count changes v v
goes_nowhere gives count changes v = record {
  commits = inl refl;
  same = λ is first trees h. h;
  stays = λ is first trees h. refl;
  more = λ is. absurd (omega (arith, is));
  left = λ t image left. left;
}

module _ {D : Type 0} (gives : D → Option (List (List ℕ))) (count moment failures : D → ℕ) (changes : D → Changes) (op : Op) (stamp : ℕ) where
  -- where the log has no number left
  pub untried : (v : SeenVolume D) (pages room : ℕ) → IsTried gives count moment failures changes op stamp (Err (NeedsRoom pages room)) v v
  untried v pages room = record {
    replies = record {
      mid = v;
      runs = runs_none gives count moment changes v;
      goes = goes_nowhere gives count changes v;
      tree = stays_tree v.table op stamp (NeedsRoom pages room) (volume_tree gives v);
      row = tt;
      table = refl;
      streams = refl;
      place = refl;
      durable = refl;
      sectors = refl;
      later = omega arith;
      laps = omega arith;
      begins = none_most (ring_size v.store.state.log) (facts_of v.store.state);
    };
    short = λ more free is. runs_none gives count moment changes v;
    unknown = λ is. absurd cc;
    counts = record {
      onwards = record { later = omega arith; onwards = omega arith };
      fault = λ is. absurd cc;
      counted = λ early other. refl;
    };
  }

  module _ (result : Result Reply DoFault) (old new : SeenVolume D)
      (does : Does op stamp old.table old.streams result (gives old.store.device) (gives new.store.device) old.store.state new.store.state (changes old.store.device) (changes new.store.device) old.map new.map)
      (tree : StepsTree old.table op stamp result (volume_tree gives old) (volume_tree gives new)) (table : new.table ≡ old.table) (streams : new.streams ≡ old.streams) (unknown : result ≡ Err Unknown → gives old.store.device ≡ None)
      (counts : CountsChange failures moment result old.store.device new.store.device) (goes : GoesOn gives count changes old new) (sectors : count new.store.device ≡ count old.store.device)
      (before : IsKept (facts_of old.store.state)) (now : IsKept (facts_of new.store.state)) where
    place : new.store.state.place ≡ old.store.state.place
    place = place_kept op stamp old.table old.streams result (gives old.store.device) (gives new.store.device) old.store.state new.store.state (changes old.store.device) (changes new.store.device) old.map new.map does

    rises : lap_behind (facts_of old.store.state) ≤ lap_behind (facts_of new.store.state)
    rises = put_rises does.puts.put does.puts.list (gives old.store.device) (facts_of old.store.state) (facts_of new.store.state) does.puts.over.facts

    stays : StaysInRing old.store.state.log new.store.state.log
    stays = put_stays does.puts.put does.puts.list (gives old.store.device) (facts_of old.store.state) (facts_of new.store.state) does.puts.over.facts

    replies : (r : Result Reply DoFault) → StepsTree old.table op stamp r (volume_tree gives old) (volume_tree gives new)
        → TellsRow op stamp old.map r (present_content (gives old.store.device) old.store.state) (present_content (gives new.store.device) new.store.state) → RepliesOn gives count moment changes op stamp r old new
    replies r steps row = record {
      mid = old;
      runs = runs_none gives count moment changes old;
      goes = goes;
      tree = steps;
      row = row;
      table = table;
      streams = streams;
      place = place;
      durable = does.puts.over.durable;
      sectors = sectors;
      later = counts.onwards.onwards;
      laps = rises;
      begins = most_begun (facts_of old.store.state) (facts_of new.store.state) before now stays;
    }

    -- where room is wanted and as many pages are used, nothing was done but what a store does of itself
    runs : used_pages new.store.state.log ≡ used_pages old.store.state.log → (map : new.map ≡ old.map) → new.store.state.commits ≡ old.store.state.commits → volume_tree gives new ≡ volume_tree gives old → RunsOn gives count moment changes old new
    runs used map commits same = record {
      tree = same;
      map = map;
      table = table;
      streams = streams;
      commits = commits;
      place = place;
      sectors = sectors;
      later = counts.onwards.onwards;
      laps = rises;
      begins_none = none_used (facts_of old.store.state) (facts_of new.store.state) before now stays used;
      history = goes.same commits;
      fewer = λ first trees h. (let durable = does.puts.over.durable in omega (arith, commits, durable));
      left = λ first trees t image h far early left. inl (goes.left t image left);
    }

    short : used_pages new.store.state.log ≡ used_pages old.store.state.log → (pages room : ℕ) → result ≡ Err (NeedsRoom pages room) → RunsOn gives count moment changes old new
    short used pages room is = by does.puts.list does.puts.put does.puts.over.map does.puts.over.commits (subst (λ (r : Result Reply DoFault). IsAnswered r does.puts.list does.puts.put) is does.puts.answered)
      where
        put_short : (xs : List Change) (put : Result (Unit {0}) PutFault) → PutsMap put xs (present_content (gives old.store.device) old.store.state) old.map new.map → new.store.state.commits ≡ commits_after put xs old.store.state.commits
            → put ≡ Err (faults.NeedsRoom pages room) → RunsOn gives count moment changes old new
        put_short xs put map commits wanted = runs used
            (subst (λ (r : Result (Unit {0}) PutFault). PutsMap r xs (present_content (gives old.store.device) old.store.state) old.map new.map) wanted map)
            (subst (λ (r : Result (Unit {0}) PutFault). new.store.state.commits ≡ commits_after r xs old.store.state.commits) wanted commits)
            (same_tree old.table op stamp (NeedsRoom pages room) (volume_tree gives old) (volume_tree gives new) (subst (λ (r : Result Reply DoFault). StepsTree old.table op stamp r (volume_tree gives old) (volume_tree gives new)) is tree))

        by : (xs : List Change) (put : Result (Unit {0}) PutFault) → PutsMap put xs (present_content (gives old.store.device) old.store.state) old.map new.map → new.store.state.commits ≡ commits_after put xs old.store.state.commits
            → IsAnswered (Err (NeedsRoom pages room)) xs put → RunsOn gives count moment changes old new
        by [] put map commits none = absurd none
        by (x ∷ xs) put map commits (said, e) = put_short (x ∷ xs) put map commits (wanted_by said put pages room e)

    unknown_tree : result ≡ Err Unknown → volume_tree gives old ≡ None
    unknown_tree is = ap (λ (o : Option (List (List ℕ))). present_tree o old.store.state old.map) (unknown is)

    -- as it was tried
    as_tried : ((pages room : ℕ) → result ≡ Err (NeedsRoom pages room) → RunsOn gives count moment changes old new) → IsTried gives count moment failures changes op stamp result old new
    as_tried wants = record { replies = replies result tree (tells_row op stamp old.map result (present_content (gives old.store.device) old.store.state) (present_content (gives new.store.device) new.store.state) does.step); short = wants; unknown = unknown_tree; counts = counts }

    -- where it wanted room and yet used some
    gives_up : IfSome (volume_tree gives old) (HasStep op) → (pages room : ℕ) → result ≡ Err (NeedsRoom pages room) → IsTried gives count moment failures changes op stamp (Ok Memory) old new
    gives_up has pages room is = record {
      replies = replies (Ok Memory)
          (subst (λ (t : Option Tree). StepsTree old.table op stamp (Ok Memory) (volume_tree gives old) t)
          (sym (same_tree old.table op stamp (NeedsRoom pages room) (volume_tree gives old) (volume_tree gives new) (subst (λ (r : Result Reply DoFault). StepsTree old.table op stamp r (volume_tree gives old) (volume_tree gives new)) is tree)))
          (memory_tree old.table op stamp (volume_tree gives old) has)) (λ changes row. absurd cc);
      short = λ more free wrong. absurd cc;
      unknown = λ wrong. absurd cc;
      counts = record {
        onwards = counts.onwards;
        fault = λ wrong. absurd cc;
        counted = λ early other. counts.counted early (λ wrong. absurd (let both = sym is ∙ wrong in cc));
      };
    }

    abbrev Tried : Result Reply DoFault → Type 0
    Tried r = IsTried gives count moment failures changes op stamp r old new

    pub once : (idle : Bool) → (idle ≡ true → used_pages new.store.state.log ≡ used_pages old.store.state.log) → IfSome (volume_tree gives old) (HasStep op) → IsTried gives count moment failures changes op stamp (settled idle result) old new
    once idle used has = by result refl idle used
      where
        by : (r : Result Reply DoFault) → result ≡ r → (idle : Bool) → (idle ≡ true → used_pages new.store.state.log ≡ used_pages old.store.state.log) → IsTried gives count moment failures changes op stamp (settled idle r) old new
        by (Ok said) is true used = subst Tried is (as_tried (λ pages room wrong. absurd (let both = sym is ∙ wrong in cc)))
        by (Ok said) is false used = subst Tried is (as_tried (λ pages room wrong. absurd (let both = sym is ∙ wrong in cc)))
        by (Err Unknown) is true used = subst Tried is (as_tried (λ pages room wrong. absurd (let both = sym is ∙ wrong in cc)))
        by (Err Unknown) is false used = subst Tried is (as_tried (λ pages room wrong. absurd (let both = sym is ∙ wrong in cc)))
        by (Err (NeedsRoom pages room)) is true used = subst Tried is (as_tried (short (used refl)))
        by (Err (NeedsRoom pages room)) is false used = gives_up has pages room is
