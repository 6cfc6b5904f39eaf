-- One command more of a run.
use Rattle.std.proofs.Common.{◌≡◌, ◌⊎◌, subst, ℕ, ◌+◌, ◌-◌, ◌*◌, ◌<◌, ◌≤◌, Bool, true, false, cond, List, [], ◌∷◌, ◌++◌, length, take, get_or, Option, Some, None, Ok, All, refl, sym, ap, ◌∙◌, inl, inr, arith}
use Rattle.std.specs.Prelude.{◌≢◌, filter, ◌==◌, IfSome}
use Rattle.std.proofs.lemmas.List.{append-nil}
use Rattle.std.proofs.lemmas.List.Elements.{filter-append, All-nil, All-push}
use Rattle.host_base.specs.Causes.{HasFailed}
use Rattle.sector_device.specs.Disks.{AreOver}
use Rattle.sector_device.specs.Moments.{Changes}
use Rattle.file_tree.specs.declared.tree.Tree.{Tree}
use Rattle.tree_model.specs.declared.script.Op.{Op}
use Rattle.tree_model.specs.declared.script.Op.TheVariants as op
use Rattle.tree_model.specs.declared.script.What.TheVariants.{Op as Operation}
use Rattle.tree_model.specs.declared.script.Command.{Command}
use Rattle.tree_model.specs.declared.reply.Reply.{Reply}
use Rattle.tree_model.specs.declared.reply.Reply.TheVariants.{Synced, Fault}
use Rattle.tree_model.specs.Steps.{HasStep, StepsBy, IsDone, step_refusal}
use Rattle.run_model.specs.declared.turn.Turn.{Turn}
use Rattle.run_model.specs.Runs.{RunStart, TakesStep, own, turn_commands, serial_of_last, next_of}
use Rattle.run_model.specs.Leaving.{TellsNoSync}
use Rattle.run_model.proofs.Segments.{segment_push}
use Rattle.step_model.specs.Steps.{Answer, Done, Refused, Never, answer_of}
use Rattle.step_model.proofs.Stepping.{answers_listed}
use Rattle.serial_run.specs.Runs.{run_start, IsSound}
use Rattle.volume_replies.specs.log_area.Areas.{ring_size}
use Rattle.txn_state.specs.States.{facts_of}
use Rattle.serial_run.proofs.RunSteps.{last_moment_push, fault_push, next_command, each_push, counted_on, front_all}
use Rattle.volume_replies.specs.volume_core.Volumes.{SeenVolume, volume_tree}
use Rattle.volume_replies.specs.volume_core.Trees.{StepsTo, StepsTree}
use Rattle.script_text.specs.Asking.{is_asked}
use Rattle.volume_replies.specs.Replies.{BeginsAtMost, RepliesOn, SyncsOn, Answers}
use Rattle.volume_replies.proofs.Laps.{none_most}
use Rattle.volume_replies.proofs.Trying.{goes_nowhere}
use Rattle.change_run.specs.Turns.{IsVolumeTurn, IsBlank, IsTurnOn}
use Rattle.change_run.specs.Runs.{RunsTree, StartsAs, CarriesOn, RunsSoFar}
use Rattle.change_run.proofs.Bounds.{begins_more}
use Rattle.change_run.proofs.Carrying.{begins, behind_runs, behind_turn, behind_sync}

-- ---- replies

same_answer : (a b : Answer) (o : Op) (said : Reply) → answer_of o said ≡ a → answer_of o said ≡ b → a ≡ b
same_answer a b o said one two = sym one ∙ two

-- an operation that isn't a sync never says how many turns are durable
never_synced : (o : Op) (n : ℕ) → is_asked o ≡ true → o ≢ op.Sync → answer_of o (Synced n) ≡ Never
never_synced (op.Stat path) n is other = refl
never_synced (op.List path) n is other = refl
never_synced (op.Read path offset count) n is other = refl
never_synced (op.Write path offset bytes) n is other = refl
never_synced (op.Fill path offset count byte) n is other = refl
never_synced (op.Truncate path size) n is other = refl
never_synced op.Sync n is other = absurd (other refl)
never_synced (op.Create path) n is other = absurd cc
never_synced (op.Mkdir path) n is other = absurd cc
never_synced (op.Link path to) n is other = absurd cc
never_synced (op.Rename path to) n is other = absurd cc
never_synced (op.Remove path) n is other = absurd cc
never_synced op.Index n is other = absurd cc
never_synced (op.Journal from) n is other = absurd cc

no_row : (upper : List ℕ) (o : Op) (stamp n : ℕ) (t u : Tree) → HasStep o t → answer_of o (Synced n) ≡ Never → (r : Option Reply) → step_refusal upper t 0 [] o ≡ r → StepsBy r (IsDone upper o 0 stamp (Synced n) t u) (Synced n) t u → ⊥
no_row upper o stamp n t u has never None is done = (let e : Done ≡ Never = same_answer Done Never o (Synced n) (answers_listed.done upper o 0 stamp (Synced n) t u has done) never in cc)
no_row upper o stamp n t u has never (Some row) is said =
    (let e : Refused ≡ Never = same_answer Refused Never o (Synced n) (subst (λ (r : Reply). answer_of o r ≡ Refused) (sym said.0) (answers_listed.refused upper t 0 o row has is)) never in cc)

quiet : (upper : List ℕ) (o : Op) (stamp : ℕ) (said : Reply) (t u : Tree) → is_asked o ≡ true → o ≢ op.Sync → StepsTo upper o stamp said t u → TellsNoSync said
quiet upper o stamp (Synced n) t u is other steps =
    let s = steps.step refl in
    absurd (no_row upper o stamp n t u s.0 (never_synced o n is other) (step_refusal upper t 0 [] o) refl s.1)
quiet upper o stamp said t u is other steps = tt

-- the turn of an operation that isn't a sync takes its step
takes : (upper : List ℕ) (time : ℕ) (past : List Turn) (t : Turn) (o : Op) (said : Reply) (x y : Tree) → is_asked o ≡ true → o ≢ op.Sync → StepsTo upper o (time + t.serial) said x y → TakesStep (λ op stamp r u v. StepsTo upper op stamp r u v) time past t o said x y
takes upper time past t (op.Stat path) said x y is other step = step
takes upper time past t (op.List path) said x y is other step = step
takes upper time past t (op.Read path offset count) said x y is other step = step
takes upper time past t (op.Write path offset bytes) said x y is other step = step
takes upper time past t (op.Fill path offset count byte) said x y is other step = step
takes upper time past t (op.Truncate path size) said x y is other step = step
takes upper time past t op.Sync said x y is other step = absurd (other refl)
takes upper time past t (op.Create path) said x y is other step = absurd cc
takes upper time past t (op.Mkdir path) said x y is other step = absurd cc
takes upper time past t (op.Link path to) said x y is other step = absurd cc
takes upper time past t (op.Rename path to) said x y is other step = absurd cc
takes upper time past t (op.Remove path) said x y is other step = absurd cc
takes upper time past t op.Index said x y is other step = absurd cc
takes upper time past t (op.Journal from) said x y is other step = absurd cc

-- ---- serials

serial_push : (start : ℕ) (turns : List Turn) (t : Turn) → serial_of_last start (turns ++ t ∷ []) ≡ t.serial
serial_push start [] t = refl
serial_push start (u ∷ turns) t = serial_push u.serial turns t

serial_by : (b : Bool) (n more : ℕ) (turns : List Turn) (t : Turn) → serial_of_last 0 turns ≤ n → n ≤ more → t.serial ≡ more → serial_of_last 0 (turns ++ cond b (t ∷ []) []) ≤ more
serial_by true n more turns t most le is = rw (serial_push 0 turns t) (omega (arith, is))
serial_by false n more turns t most le is = rw (append-nil turns) (omega (arith, most, le))

serials_push : (n more client : ℕ) (turns : List Turn) (t : Turn) → serial_of_last 0 (own turns client) ≤ n → n ≤ more → t.serial ≡ more → serial_of_last 0 (own (turns ++ t ∷ []) client) ≤ more
unfolding own
serials_push n more client turns t most le is = rw (filter-append (λ (u : Turn). u.client == client) turns (t ∷ [])) (serial_by (t.client == client) n more (filter (λ (u : Turn). u.client == client) turns) t most le is)

length_push : (turns : List Turn) (t : Turn) → length (turns ++ t ∷ []) ≡ length turns + 1
length_push [] t = refl
length_push (u ∷ turns) t = (let more = length_push turns t in omega (arith, more))

module _ {D : Type 0} (gives : D → Option (List (List ℕ))) (count moment faults : D → ℕ) (changes : D → Changes) (over : (d : D) → AreOver (moment d) (changes d).past) (script : List Command) (time : ℕ) where
  abbrev SoFar : ℕ → List Turn → SeenVolume D → SeenVolume D → Type 0
  SoFar i turns old v = RunsSoFar gives count moment faults changes script time i turns old v

  abbrev start : SeenVolume D → RunStart
  start old = run_start old.table script time (faults old.store.device) 0

  -- ---- no command yet

  none_tree : (f : RunStart) (t : Option Tree) → RunsTree f [] t t
  none_tree f None = tt
  none_tree f (Some x) = refl

  pub none_yet : (v : SeenVolume D) → SoFar 0 [] v v
  unfolding own turn_commands
  none_yet v = record {
    each = λ client. refl;
    serials = λ client. omega arith;
    moments = omega arith;
    onwards = omega arith;
    after = All-nil (λ (u : Turn). moment v.store.device ≤ u.moment);
    last = λ client. omega arith;
    later = omega arith;
    counted = All-nil (λ (u : Turn). u.faults_after ≤ faults v.store.device);
    told = λ all. refl;
    table = refl;
    sectors = refl;
    place = refl;
    begins = none_most (0 * ring_size v.store.state.log) (facts_of v.store.state);
    tree = none_tree (start v) (volume_tree gives v);
    carries = λ since first tree s. begins gives count changes moment over (start v) since first tree v s;
  }

  -- ---- one more

  module _ (i : ℕ) (turns : List Turn) (old v new : SeenVolume D) (blank t : Turn) (c : Command) (lt : i < length script) (here : length turns ≡ i) (is_blank : IsBlank (get_or script i c) (i + 1) blank) (replied : is_asked blank.op ≡ true) (so_far : SoFar i turns old v)
      (on : IsTurnOn gives count moment faults changes time blank t v new) where
    serial_is : t.serial ≡ length turns + 1
    serial_is = (let a = on.serial in let b = is_blank.place in omega (arith, a, b, here))

    what_is : (get_or script i c).what ≡ Operation blank.op
    what_is = is_blank.what

    turn_of : (x y : Tree) → (t.reply ≡ Fault → HasFailed (faults v.store.device) (faults new.store.device) (moment new.store.device)) → y.journal ≡ None → TakesStep (λ o stamp r u w. StepsTo old.table o stamp r u w) time turns t t.op t.reply x y → IsVolumeTurn (start old) turns t x y
    turn_of x y failed journal step = record {
      serial = serial_is;
      command = next_command script i c turns t blank.op lt what_is (on.client ∙ is_blank.client) (on.number ∙ is_blank.number) on.asked (so_far.each t.client);
      usn = on.usn ∙ sym (ap next_of journal);
      moment = (let a = so_far.moments in let b = on.time_is in let d = on.told.onwards in omega (arith, a, b, d));
      since = (let a = so_far.last t.client in let b = on.first in omega (arith, a, b));
      later = (let a = on.first in let b = on.last in let d = on.told.later in omega (arith, a, b, d));
      fault = λ e. rw (on.first, on.last, on.time_is) (failed e);
      step = step;
    }

    abbrev said : Reply
    said = t.reply

    abbrev failed : Type 0
    failed = said ≡ Fault → HasFailed (faults v.store.device) (faults new.store.device) (moment new.store.device)

    -- what was answered
    answered : (o : Op) (stamp k : ℕ) → is_asked o ≡ true → Answers gives count moment changes o stamp k said v new → ((o ≡ op.Sync) × SyncsOn gives count moment changes k said v new) ⊎ ((o ≢ op.Sync) × RepliesOn gives count moment changes o stamp (Ok said) v new)
    answered op.Sync stamp k is a = inl (refl, a)
    answered (op.Stat path) stamp k is a = inr ((λ e. cc), a)
    answered (op.List path) stamp k is a = inr ((λ e. cc), a)
    answered (op.Read path offset bytes) stamp k is a = inr ((λ e. cc), a)
    answered (op.Write path offset bytes) stamp k is a = inr ((λ e. cc), a)
    answered (op.Fill path offset bytes byte) stamp k is a = inr ((λ e. cc), a)
    answered (op.Truncate path size) stamp k is a = inr ((λ e. cc), a)
    answered (op.Create path) stamp k is a = absurd cc
    answered (op.Mkdir path) stamp k is a = absurd cc
    answered (op.Link path to) stamp k is a = absurd cc
    answered (op.Rename path to) stamp k is a = absurd cc
    answered (op.Remove path) stamp k is a = absurd cc
    answered op.Index stamp k is a = absurd cc
    answered (op.Journal from) stamp k is a = absurd cc

    more_turns : List Turn
    more_turns = turns ++ t ∷ []

    -- ---- what is counted

    each_on : (client : ℕ) → length (own (turns ++ t ∷ []) client) ≡ length (turn_commands (take (i + 1) script) client)
    each_on client = each_push script i c turns t blank.op client lt what_is (on.client ∙ is_blank.client) (so_far.each client)

    serials_on : (client : ℕ) → serial_of_last 0 (own (turns ++ t ∷ []) client) ≤ length (turns ++ t ∷ [])
    serials_on client = serials_push (length turns) (length (turns ++ t ∷ [])) client turns t (so_far.serials client) (let more = length_push turns t in omega (arith, more)) (serial_is ∙ sym (length_push turns t))

    told_on : All IsSound (turns ++ t ∷ []) → faults new.store.device ≡ faults old.store.device
    told_on all =
        let parts = front_all turns t all in
        let sound = parts.1 in
        on.told.counted (let a = on.time_is in let b = sound.0 in omega (arith, a, b)) sound.1 ∙ so_far.told parts.0

    -- the rest of a run so far, whatever was answered
    with_tree : new.table ≡ old.table → count new.store.device ≡ count v.store.device → new.store.state.place ≡ v.store.state.place → BeginsAtMost ((i + 1) * ring_size old.store.state.log) (facts_of old.store.state) (facts_of new.store.state)
        → RunsTree (start old) (turns ++ t ∷ []) (volume_tree gives old) (volume_tree gives new)
        → ((since : ℕ) (first : List (List ℕ)) (tree : Tree) → StartsAs gives count changes old since first tree → CarriesOn gives count changes (start old) since first tree (turns ++ t ∷ []) new) → SoFar (i + 1) (turns ++ t ∷ []) old new
    with_tree table sectors place begun tree carries = record {
      each = each_on;
      serials = serials_on;
      moments = rw (last_moment_push 0 turns t) (let a = on.time_is in omega (arith, a));
      onwards = (let a = so_far.onwards in let b = on.told.onwards in omega (arith, a, b));
      after = All-push (λ (u : Turn). moment old.store.device ≤ u.moment) turns t so_far.after (let a = so_far.onwards in let b = on.told.onwards in let d = on.time_is in omega (arith, a, b, d));
      last = λ client. fault_push (faults old.store.device) (faults v.store.device) (faults new.store.device) client turns t (so_far.last client) on.told.later on.last;
      later = (let a = so_far.later in let b = on.told.later in omega (arith, a, b));
      counted = All-push (λ (u : Turn). u.faults_after ≤ faults new.store.device) turns t (counted_on (faults v.store.device) (faults new.store.device) turns on.told.later so_far.counted) (let a = on.last in omega (arith, a));
      told = told_on;
      table = table;
      sectors = sectors ∙ so_far.sectors;
      place = place ∙ so_far.place;
      begins = begun;
      tree = tree;
      carries = carries;
    }

    -- ---- an operation

    module _ (other : blank.op ≢ op.Sync) (r : RepliesOn gives count moment changes blank.op (time + blank.serial) (Ok said) v new) where
      step_of : (x y : Tree) → StepsTo v.table blank.op (time + blank.serial) said x y → TakesStep (λ o stamp q u w. StepsTo old.table o stamp q u w) time turns t t.op said x y
      step_of x y steps =
          subst (λ (o : Op). TakesStep (λ p stamp q u w. StepsTo old.table p stamp q u w) time turns t o said x y) (sym on.asked)
          (takes old.table time turns t blank.op said x y replied other
          (subst (λ (n : ℕ). StepsTo old.table blank.op (time + n) said x y) (sym on.serial) (subst (λ (u : List ℕ). StepsTo u blank.op (time + blank.serial) said x y) so_far.table steps)))

      tree_on : (a b z : Option Tree) → RunsTree (start old) turns a b → StepsTree v.table blank.op (time + blank.serial) (Ok said) b z → IfSome b (λ x. failed) → IfSome z (λ x. x.journal ≡ None) → RunsTree (start old) (turns ++ t ∷ []) a z
      tree_on (Some a) (Some b) (Some z) run steps fault journal = segment_push (IsVolumeTurn (start old)) [] turns t a b z run (turn_of b z fault journal (step_of b z steps))
      tree_on (Some a) (Some b) None run steps fault journal = absurd steps
      tree_on (Some a) None z run steps fault journal = absurd run
      tree_on None (Some b) z run steps fault journal = absurd run
      tree_on None None (Some z) run steps fault journal = absurd steps
      tree_on None None None run steps fault journal = tt

      next_of_step : (y : Tree) (o : Option Tree) → StepsTree v.table blank.op (time + blank.serial) (Ok said) (Some y) o → (z : Tree) × (o ≡ Some z) × StepsTo v.table blank.op (time + blank.serial) said y z
      next_of_step y None steps = absurd steps
      next_of_step y (Some z) steps = (z, refl, steps)

      carries_on : (since : ℕ) (first : List (List ℕ)) (tree : Tree) → StartsAs gives count changes old since first tree → CarriesOn gives count changes (start old) since first tree (turns ++ t ∷ []) new
      carries_on since first tree s =
          let carried = behind_runs gives count changes moment over (start old) since first tree turns v r.mid (so_far.carries since first tree s) r.runs in
          let known : volume_tree gives v ≡ Some carried.now = sym r.runs.tree ∙ carried.present in
          let next = next_of_step carried.now (volume_tree gives new) (subst (λ (x : Option Tree). StepsTree v.table blank.op (time + blank.serial) (Ok said) x (volume_tree gives new)) known r.tree) in
          let fault : failed = subst (λ (x : Option Tree). IfSome x (λ y. failed)) known on.told.failed in
          let journal = subst (λ (x : Option Tree). IfSome x (λ y. y.journal ≡ None)) next.1 on.journal in
          behind_turn gives count changes moment over (start old) since first tree turns t next.0 r.mid new carried
          (turn_of carried.now next.0 fault journal (step_of carried.now next.0 next.2)) (quiet v.table blank.op (time + blank.serial) said carried.now next.0 replied other next.2) next.1 r.place r.laps r.sectors r.durable r.goes

      pub operation_more : SoFar (i + 1) (turns ++ t ∷ []) old new
      operation_more = with_tree (r.table ∙ so_far.table) (r.sectors ∙ r.runs.sectors) (r.place ∙ r.runs.place) (begins_more i (facts_of old.store.state) (facts_of v.store.state) (facts_of r.mid.store.state) (facts_of new.store.state) so_far.begins r.runs.begins_none r.begins)
          (tree_on (volume_tree gives old) (volume_tree gives v) (volume_tree gives new) so_far.tree r.tree on.told.failed on.journal) carries_on

    -- ---- a sync

    module _ (is_sync : blank.op ≡ op.Sync) (r : SyncsOn gives count moment changes (blank.serial - 1) said v new) where
      k_is : blank.serial - 1 ≡ length turns
      k_is = (let a = is_blank.place in omega (arith, a, here))

      sync_step : (x : Tree) (q : Reply) → (q ≡ Synced (blank.serial - 1)) ⊎ (q ≡ Fault) → TakesStep (λ p stamp s u w. StepsTo old.table p stamp s u w) time turns t op.Sync q x x
      sync_step x q (inl is) = subst (λ (s : Reply). TakesStep (λ p stamp m u w. StepsTo old.table p stamp m u w) time turns t op.Sync s x x) (sym is)
          ((let a = so_far.serials t.client in omega (arith, a, k_is)), (let a = serial_is in omega (arith, a, k_is)), refl)
      sync_step x q (inr is) = subst (λ (s : Reply). TakesStep (λ p stamp m u w. StepsTo old.table p stamp m u w) time turns t op.Sync s x x) (sym is) refl

      taken : (x : Tree) → TakesStep (λ p stamp s u w. StepsTo old.table p stamp s u w) time turns t t.op said x x
      taken x = subst (λ (o : Op). TakesStep (λ p stamp s u w. StepsTo old.table p stamp s u w) time turns t o said x x) (sym (on.asked ∙ is_sync)) (sync_step x said r.reply)

      sync_tree : (a b : Option Tree) → RunsTree (start old) turns a b → IfSome b (λ x. failed) → IfSome b (λ x. x.journal ≡ None) → RunsTree (start old) (turns ++ t ∷ []) a b
      sync_tree (Some a) (Some b) run fault journal = segment_push (IsVolumeTurn (start old)) [] turns t a b b run (turn_of b b fault journal (taken b))
      sync_tree (Some a) None run fault journal = absurd run
      sync_tree None (Some b) run fault journal = absurd run
      sync_tree None None run fault journal = tt

      carries_sync : (since : ℕ) (first : List (List ℕ)) (tree : Tree) → StartsAs gives count changes old since first tree → CarriesOn gives count changes (start old) since first tree (turns ++ t ∷ []) new
      carries_sync since first tree s =
          let carried = behind_runs gives count changes moment over (start old) since first tree turns v new (so_far.carries since first tree s) r.runs in
          let known : volume_tree gives v ≡ Some carried.now = sym r.runs.tree ∙ carried.present in
          let fault : failed = subst (λ (x : Option Tree). IfSome x (λ y. failed)) known on.told.failed in
          let journal = subst (λ (x : Option Tree). IfSome x (λ y. y.journal ≡ None)) carried.present on.journal in
          let turn = turn_of carried.now carried.now fault journal (taken carried.now) in
          by carried turn r.reply
        where
          by : (carried : CarriesOn gives count changes (start old) since first tree turns new) → IsVolumeTurn (start old) turns t carried.now carried.now → (said ≡ Synced (blank.serial - 1)) ⊎ (said ≡ Fault)
              → CarriesOn gives count changes (start old) since first tree (turns ++ t ∷ []) new
          by carried turn (inl is) =
              behind_sync gives count changes moment over (start old) since first tree turns t new carried turn (is ∙ ap (λ (n : ℕ). Synced n) k_is) on.time_is (r.durable is) (r.newest is)
          by carried turn (inr is) =
              behind_turn gives count changes moment over (start old) since first tree turns t carried.now new new carried turn (subst TellsNoSync (sym is) tt) carried.present refl (omega arith) refl refl (goes_nowhere gives count changes new)

      pub sync_more : SoFar (i + 1) (turns ++ t ∷ []) old new
      sync_more = with_tree (r.runs.table ∙ so_far.table) r.runs.sectors r.runs.place
          (begins_more i (facts_of old.store.state) (facts_of v.store.state) (facts_of new.store.state) (facts_of new.store.state) so_far.begins r.runs.begins_none (none_most (ring_size new.store.state.log) (facts_of new.store.state)))
          (subst (λ (x : Option Tree). RunsTree (start old) (turns ++ t ∷ []) (volume_tree gives old) x) (sym r.runs.tree)
          (sync_tree (volume_tree gives old) (volume_tree gives v) so_far.tree on.told.failed (subst (λ (x : Option Tree). IfSome x (λ y. y.journal ≡ None)) r.runs.tree on.journal))) carries_sync

    pub one_more : SoFar (i + 1) (turns ++ t ∷ []) old new
    one_more = by (answered blank.op (time + blank.serial) (blank.serial - 1) replied on.answers)
      where
        by : ((blank.op ≡ op.Sync) × SyncsOn gives count moment changes (blank.serial - 1) said v new) ⊎ ((blank.op ≢ op.Sync) × RepliesOn gives count moment changes blank.op (time + blank.serial) (Ok said) v new) → SoFar (i + 1) (turns ++ t ∷ []) old new
        by (inl sync) = sync_more sync.0 sync.1
        by (inr operation) = operation_more operation.0 operation.1
