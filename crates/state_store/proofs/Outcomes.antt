-- What stands after changes were put, from what each call leaves.
use Rattle.std.proofs.Common.{◌≡◌, subst, ℕ, suc, ◌^◌, ◌<◌, ◌≤◌, true, false, List, [], ◌∷◌, length, Option, Some, None, Result, Ok, Err, refl, sym, ap, ◌∙◌, inl, inr, arith}
use Rattle.std.specs.Prelude.{IfSome, IfErr, IsErrOf, is_some}
use Rattle.std.specs.List.{AllByRecursion}
use Rattle.std.specs.Option.{option_map}
use Rattle.host_base.specs.Answers.{Gives, GivesOrFails}
use Rattle.host_base.specs.Causes.{HasFailed, last_moment}
use Rattle.disk_model.specs.declared.block.Block.{Block}
use Rattle.disk_model.specs.declared.block.Body.{Body}
use Rattle.disk_model.specs.declared.block.Change.{Change}
use Rattle.disk_model.specs.Content.{Content, HasSizes}
use Rattle.fixup_record.specs.Spellings.{has_spelling}
use Rattle.sector_device.specs.Moments.{Changes}
use Rattle.sector_device.specs.Sectors.{IsDiskOf}
use Rattle.block_view.specs.Changes.{content_after}
use Rattle.turn_laws.specs.device_view.Devices.{GoesOnwards, CountsOnDevice, CountsCauseOnDevice}
use Rattle.turn_laws.specs.log_page.declared.places.LogPlace.{LogPlace}
use Rattle.same_names.specs.map_change.record_model.Records.{Record}
use Rattle.same_names.specs.map_change.Parts.{MapParts, map_of}
use Rattle.turn_laws.specs.txn_model.Values.{StoreFacts}
use Rattle.turn_laws.specs.txn_state.States.{StateOf, facts_of, HasSize, IsStore}
use Rattle.turn_laws.proofs.txn_laws.Telling.{is_open_of}
use Rattle.turn_laws.specs.txn_core.declared.fault.ChangeFault.{ChangeFault}
use Rattle.turn_laws.specs.txn_core.declared.fault.ChangeFault.TheVariants as causes
use Rattle.turn_laws.specs.txn_core.Changes.{change_cause}
use Rattle.turn_laws.specs.txn_core.Seen.{Seen}
use Rattle.turn_laws.specs.txn_core.Sizes.{sized_present}
use Rattle.turn_laws.specs.txn_core.Views.{present_on, present_content, KeepsSizes}
use Rattle.state_store.specs.declared.fault.PutFault.{PutFault}
use Rattle.state_store.specs.declared.fault.PutFault.TheVariants.{NeedsRoom, Fault, Memory, Broken}
use Rattle.state_store.specs.Volumes.{geometry_of, IsStateOf, SparesState, HoldsState}
use Rattle.state_store.specs.Changes.{MayLog, AreApart, IsWritable, AreWritable, LeadsOn, KeepsNamesBy}
use Rattle.state_store.specs.Rooms.{Shortage, room_cause}
use Rattle.state_store.specs.Windows.{LeadsTo, AfterPut, StaysWindow, AfterChanges}
use Rattle.state_store.specs.Logging.{AreSpelled, HasCommitted}
use Rattle.state_store.specs.Preparing.{HaveMaps, NeverShort}
use Rattle.state_store.specs.Puts.{put_cause, change_put_fault, PutsContent, PutsMap, PutsFacts, commits_for, PutsOver, IsUnknownWhereBroken, HasPutCauses}
use Rattle.state_store.proofs.Lists.{each_weaker, same_after}
use Rattle.state_store.proofs.Contents.{committed_content, stopped_content, committed_counts, stopped_counts}
use Rattle.state_store.proofs.Following.{has_map, have_maps, state_after}
use Rattle.state_store.proofs.Sparing.{place_stays, spares_behind}
use Rattle.state_store.proofs.Claiming.{untouched_claims}

-- ---- bodies that are put have spellings

pub are_spelled : (gives : Option (List (List ℕ))) (state : StateOf) (xs : List Change) → IfSome (present_content gives state) (λ c. AreWritable xs (content_after xs c)) → IfSome gives (AreSpelled (facts_of state) xs)
are_spelled None state xs writable = tt
are_spelled (Some disk) state xs writable =
    each_weaker (λ (x : Change). IsWritable (content_after xs (present_on disk (facts_of state))) x.block) (λ (x : Change). has_spelling x.block.kind (content_after xs (present_on disk (facts_of state)) x.block).bytes ≡ true) (λ x is. is.spelled) xs writable

-- ---- sizes

some_size : (b : Block) (o : Option Body) (x : Body) → IfSome o (HasSize b) → o ≡ Some x → HasSize b x
some_size b (Some y) x size is = subst (HasSize b) (some_is is) size
  where
    some_is : Some y ≡ Some x → y ≡ x
    some_is e = cc
some_size b None x size is = absurd cc

keeps_sizes : (state : StateOf) → IsStore (facts_of state) → KeepsSizes state
keeps_sizes state k b x is = some_size b ((facts_of state).body b) x (k.blocks.sized b) is

-- ---- one transaction

windows_some : (changes : Changes) (f g : StoreFacts) (xs : List Change) → 0 < length xs → LeadsTo changes f g (AfterPut xs) → LeadsTo changes f g (AfterChanges xs)
windows_some changes f g [] some leads = absurd (omega (arith, some))
windows_some changes f g (x ∷ xs) some leads = leads

one_more : (xs : List Change) (n : ℕ) → 0 < length xs → suc n ≡ commits_for xs n
one_more [] n some = absurd (omega (arith, some))
one_more (x ∷ xs) n some = refl

facts_put : (gives : Option (List (List ℕ))) (f g : StoreFacts) (xs : List Change) → 0 < length xs → HasCommitted {E = ChangeFault} (Ok tt) gives xs f g → PutsFacts {E = ChangeFault} (Ok tt) xs gives f g
facts_put gives f g [] some done = absurd (omega (arith, some))
facts_put gives f g (x ∷ xs) some done = done

-- the same with other faults
facts_as : (E F : Type 0) (xs : List Change) (gives : Option (List (List ℕ))) (f g : StoreFacts) → PutsFacts {E = E} (Ok tt) xs gives f g → PutsFacts {E = F} (Ok tt) xs gives f g
facts_as E F [] gives f g is = is
facts_as E F (x ∷ xs) gives f g is = is

content_put : (gives : Option (List (List ℕ))) (count : ℕ) (old new : StateOf) (xs : List Change) → IsStore (facts_of old) → IfSome gives (IsDiskOf count) → IfSome (present_content gives old) (λ c. AreWritable xs (content_after xs c))
    → HasCommitted {E = ChangeFault} (Ok tt) gives xs (facts_of old) (facts_of new) → present_content gives new ≡ option_map (content_after xs) (present_content gives old)
content_put None count old new xs k whole writable done = refl
content_put (Some disk) count old new xs k whole writable done =
    let sized = sized_present (Some disk) count old (keeps_sizes old k) whole in
    ap Some (committed_content disk xs (facts_of old) (facts_of new) done ∙ same_after xs (present_on disk (facts_of old)) sized writable)

content_left : (gives : Option (List (List ℕ))) (old new : StateOf) (xs : List Change) (failure : ChangeFault) → ((b : Block) → is_some ((facts_of old).before b) ≡ false) → HasCommitted (Err failure) gives xs (facts_of old) (facts_of new) → present_content gives new ≡ present_content gives old
content_left None old new xs failure shut done = refl
content_left (Some disk) old new xs failure shut done = ap Some (stopped_content disk xs (facts_of old) (facts_of new) shut done)

abbrev on_gives : StateOf → Option (List (List ℕ)) → Option Content
on_gives state gives = present_content gives state

pub is_put : (gives gave : Option (List (List ℕ))) (count : ℕ) (old new : StateOf) (before now : Changes) (xs : List Change) (m next after : MapParts) → 0 < length xs → gave ≡ gives → now ≡ before → IsStore (facts_of old) → IfSome gives (IsDiskOf count)
    → IfSome (present_content gives old) (λ c. AreWritable xs (content_after xs c)) → IfSome (present_content gives old) (λ c. map_of (content_after xs c) (geometry_of m) m.volume.clusters ≡ Ok after) → next ≡ after
    → HasCommitted {E = ChangeFault} (Ok tt) gives xs (facts_of old) (facts_of new) → LeadsTo before (facts_of old) (facts_of new) (AfterPut xs) → PutsOver {E = ChangeFault} (Ok tt) xs gives gave old new before now m next
is_put gives gave count old new before now xs m next after some same unchanged k whole writable value is done windows =
    let counts = committed_counts gives xs (facts_of old) (facts_of new) done in
    record {
      content = ap (on_gives new) same ∙ content_put gives count old new xs k whole writable done;
      map = subst (λ (y : MapParts). IfSome (present_content gives old) (λ c. map_of (content_after xs c) (geometry_of m) m.volume.clusters ≡ Ok y)) (sym is) value;
      commits = counts.0 ∙ one_more xs old.commits some;
      durable = counts.1;
      facts = facts_put gives (facts_of old) (facts_of new) xs some done;
      closed = counts.2;
      same = same;
      unchanged = unchanged;
      windows = windows_some before (facts_of old) (facts_of new) xs some windows;
    }

pub is_left : (gives gave : Option (List (List ℕ))) (old new : StateOf) (before now : Changes) (xs : List Change) (m next : MapParts) (failure : ChangeFault) → gave ≡ gives → now ≡ before → ((b : Block) → is_some ((facts_of old).before b) ≡ false) → next ≡ m
    → HasCommitted (Err failure) gives xs (facts_of old) (facts_of new) → LeadsTo before (facts_of old) (facts_of new) (StaysWindow xs) → PutsOver (Err failure) xs gives gave old new before now m next
is_left gives gave old new before now xs m next failure same unchanged shut is done windows =
    let counts = stopped_counts gives xs (facts_of old) (facts_of new) done in
    record {
      content = ap (on_gives new) same ∙ content_left gives old new xs failure shut done;
      map = is;
      commits = counts.0;
      durable = counts.1;
      facts = inr done;
      closed = counts.2;
      same = same;
      unchanged = unchanged;
      windows = windows;
    }

-- ---- after a reading of the store

stays_now : (changes : Changes) (f : StoreFacts) (xs : List Change) → f.is_open ≡ false → LeadsTo changes f f (StaysWindow xs)
stays_now changes f xs closed = λ w has. (w, has, record { claimed = untouched_claims xs w.claimed; present = λ b. refl; others = λ k le b. refl; waiting = refl; is_open = is_open_of changes f w has ∙ closed })

pub none_put : {E : Type 0} (failure : E) (xs : List Change) (gives gave : Option (List (List ℕ))) (old new : StateOf) (before now : Changes) (m next : MapParts) → old.is_open ≡ false → new ≡ old → gave ≡ gives → now ≡ before → next ≡ m → PutsOver (Err failure) xs gives gave old new before now m next
none_put {E} failure xs gives gave old new before now m next closed stays same unchanged is =
    subst (λ (s : StateOf). PutsOver (Err failure) xs gives gave old s before now m next) (sym stays)
    (record {
      content = ap (on_gives old) same;
      map = is;
      commits = refl;
      durable = refl;
      facts = inl refl;
      closed = closed;
      same = same;
      unchanged = unchanged;
      windows = stays_now before (facts_of old) xs closed;
    })

-- the same of no changes, which are put at once
pub nothing_put : {E : Type 0} (xs : List Change) (gives : Option (List (List ℕ))) (count : ℕ) (state : StateOf) (before : Changes) (m : MapParts) (table : List ℕ) → xs ≡ [] → state.is_open ≡ false → IsStore (facts_of state) → IfSome gives (IsDiskOf count)
    → IfSome (present_content gives state) (IsStateOf m table) → PutsOver {E = E} (Ok tt) xs gives gives state state before before m m
nothing_put {E} xs gives count state before m table none closed k whole shown = subst (λ (ys : List Change). PutsOver {E = E} (Ok tt) ys gives gives state state before before m m) (sym none)
    (record {
      content = same_content (present_content gives state) sized;
      map = mapped (present_content gives state) sized shown;
      commits = refl;
      durable = refl;
      facts = refl;
      closed = closed;
      same = refl;
      unchanged = refl;
      windows = stays_now before (facts_of state) [] closed;
    })
  where
    sized : IfSome (present_content gives state) HasSizes
    sized = sized_present gives count state (keeps_sizes state k) whole

    same_content : (o : Option Content) → IfSome o HasSizes → o ≡ option_map (content_after []) o
    same_content None size = refl
    same_content (Some c) size = ap Some (same_after [] c size tt)

    mapped : (o : Option Content) → IfSome o HasSizes → IfSome o (IsStateOf m table) → IfSome o (λ c. map_of (content_after [] c) (geometry_of m) m.volume.clusters ≡ Ok m)
    mapped None size is = tt
    mapped (Some c) size is = ap (λ (d : Content). map_of d (geometry_of m) m.volume.clusters) (sym (same_after [] c size tt)) ∙ has_map m table c is

-- ---- one call behind another

pub after_reading : {E : Type 0} (result : Result (Unit {0}) E) (xs : List Change) (gives given gave : Option (List (List ℕ))) (old mid new : StateOf) (first before now : Changes) (m read next : MapParts) → mid ≡ old → given ≡ gives → before ≡ first → read ≡ m
    → PutsOver result xs given gave mid new before now read next → PutsOver result xs gives gave old new first now m next
after_reading {E} result xs gives given gave old mid new first before now m read next state same unchanged is put =
    subst (λ (x : MapParts). PutsOver result xs gives gave old new first now x next) is
    (subst (λ (x : Changes). PutsOver result xs gives gave old new x now read next) unchanged
    (subst (λ (x : Option (List (List ℕ))). PutsOver result xs x gave old new before now read next) same
    (subst (λ (x : StateOf). PutsOver result xs given gave x new before now read next) state put)))

pub ok_as : {E F : Type 0} (xs : List Change) (gives gave : Option (List (List ℕ))) (old new : StateOf) (before now : Changes) (m next : MapParts) → PutsOver {E = E} (Ok tt) xs gives gave old new before now m next → PutsOver {E = F} (Ok tt) xs gives gave old new before now m next
ok_as {E} {F} xs gives gave old new before now m next p = record { content = p.content; map = p.map; commits = p.commits; durable = p.durable; facts = facts_as E F xs gives (facts_of old) (facts_of new) p.facts; closed = p.closed; same = p.same; unchanged = p.unchanged; windows = p.windows }

pub err_as : {E F : Type 0} (e : E) (f : F) (xs : List Change) (gives gave : Option (List (List ℕ))) (old new : StateOf) (before now : Changes) (m next : MapParts) → PutsOver (Err e) xs gives gave old new before now m next → PutsOver (Err f) xs gives gave old new before now m next
err_as e f xs gives gave old new before now m next p = record { content = p.content; map = p.map; commits = p.commits; durable = p.durable; facts = p.facts; closed = p.closed; same = p.same; unchanged = p.unchanged; windows = p.windows }

-- ---- faults

pub change_short : (failure : ChangeFault) (why : PutFault) → why ≡ change_put_fault failure → NeverShort {X = Unit {0}} (Err why)
change_short failure why is = subst (λ (e : PutFault). NeverShort {X = Unit {0}} (Err e)) (sym is) (by failure)
  where
    by : (e : ChangeFault) → NeverShort {X = Unit {0}} (Err (change_put_fault e))
    by causes.Fault = tt
    by causes.Memory = tt
    by causes.Unspelled = tt

unspelled_is : (failure : ChangeFault) → change_put_fault failure ≡ Broken → failure ≡ causes.Unspelled
unspelled_is causes.Fault is = absurd cc
unspelled_is causes.Memory is = absurd cc
unspelled_is causes.Unspelled is = refl

pub change_broken : (failure : ChangeFault) (why : PutFault) (gives : Option (List (List ℕ))) → why ≡ change_put_fault failure → (failure ≡ causes.Unspelled → gives ≡ None) → IsUnknownWhereBroken {X = Unit {0}} (Err why) gives
change_broken failure why gives is unknown = λ broken. unknown (unspelled_is failure (sym is ∙ broken))

failed_since : (before mid now moment : ℕ) → before ≤ mid → HasFailed mid now moment → HasFailed before now moment
failed_since before mid now moment later (inl rose) = inl (omega (arith, later, rose))
failed_since before mid now moment later (inr ends) = inr ends

pub change_counts : (failure : ChangeFault) (why : PutFault) (before now moment : ℕ) → why ≡ change_put_fault failure → CountsOnDevice {T = Unit {0}} change_cause before now moment (Err failure) → CountsOnDevice {T = Unit {0}} put_cause before now moment (Err why)
change_counts failure why before now moment is counts = subst (λ (e : PutFault). CountsOnDevice {T = Unit {0}} put_cause before now moment (Err e)) (sym is) (by failure counts)
  where
    by : (e : ChangeFault) → CountsOnDevice {T = Unit {0}} change_cause before now moment (Err e) → CountsOnDevice {T = Unit {0}} put_cause before now moment (Err (change_put_fault e))
    by causes.Fault c = c
    by causes.Memory c = c
    by causes.Unspelled c = c

pub broken_since : (result : Result (Unit {0}) PutFault) (given gives : Option (List (List ℕ))) → given ≡ gives → IsUnknownWhereBroken result given → IsUnknownWhereBroken result gives
broken_since result given gives same is = subst (λ (o : Option (List (List ℕ))). IsUnknownWhereBroken result o) same is

pub causes_since : {D : Type 0} (faults moment : D → ℕ) (result : Result (Unit {0}) PutFault) (old mid new : Seen D) → faults old.device ≤ faults mid.device → moment old.device ≤ moment mid.device → (moment old.device < last_moment → faults mid.device ≡ faults old.device)
    → GoesOnwards faults moment mid.device new.device → CountsOnDevice put_cause (faults mid.device) (faults new.device) (moment new.device) result → HasPutCauses faults moment result old new
causes_since {D} faults moment result old mid new later onwards same then counts = record {
  onwards = record { later = omega (arith, later, then.later); onwards = omega (arith, onwards, then.onwards) };
  failed = by result counts;
  counted = λ early. subst (λ (n : ℕ). CountsOnDevice put_cause n (faults new.device) (moment new.device) result) (same early) counts;
}
  where
    by : (r : Result (Unit {0}) PutFault) → CountsOnDevice put_cause (faults mid.device) (faults new.device) (moment new.device) r → IfErr r (λ failure. failure ≡ Fault → HasFailed (faults old.device) (faults new.device) (moment new.device))
    by (Ok tt) c = tt
    by (Err failure) c = λ is. failed_since (faults old.device) (faults mid.device) (faults new.device) (moment new.device) later (subst (λ (e : PutFault). CountsCauseOnDevice (faults mid.device) (faults new.device) (moment new.device) (put_cause e)) is c)

pub causes_of : {D X : Type 0} (faults moment : D → ℕ) (failure : PutFault) (old new : Seen D) → faults old.device ≤ faults new.device → moment old.device ≤ moment new.device → (IsErrOf {T = X} (Err failure) Fault → HasFailed (faults old.device) (faults new.device) (moment new.device))
    → (moment old.device < last_moment → CountsOnDevice {T = X} put_cause (faults old.device) (faults new.device) (moment new.device) (Err failure)) → HasPutCauses faults moment (Err failure) old new
causes_of {D} {X} faults moment failure old new later onwards failed counted = record { onwards = record { later = later; onwards = onwards }; failed = λ is. failed (ap (λ (e : PutFault). Err e) is); counted = counted }

-- ---- room

lacks_cause : (failure : PutFault) (n moment : ℕ) (meant : Result (Unit {0}) Shortage) → Gives {X = Unit {0}} (λ u. u) room_cause (Err failure) meant → CountsOnDevice {T = Unit {0}} put_cause n n moment (Err failure)
lacks_cause (NeedsRoom pages room) n moment meant is = refl
lacks_cause Fault n moment meant is = absurd is
lacks_cause Memory n moment meant is = refl
lacks_cause Broken n moment meant is = absurd is

pub lacks_answer : (failure : PutFault) (meant : Result (Unit {0}) Shortage) → Gives {X = Unit {0}} (λ u. u) room_cause (Err failure) meant → GivesOrFails {X = Unit {0}} (λ u. u) room_cause (Err failure) meant
lacks_answer (NeedsRoom pages room) meant is = is
lacks_answer Fault meant is = absurd is
lacks_answer Memory meant is = is
lacks_answer Broken meant is = absurd is

never_broken : (failure : PutFault) (meant : Result (Unit {0}) Shortage) → Gives {X = Unit {0}} (λ u. u) room_cause (Err failure) meant → (failure ≡ Broken → ⊥) × (failure ≡ Fault → ⊥)
never_broken (NeedsRoom pages room) meant is = (λ e. cc, λ e. cc)
never_broken Fault meant is = absurd is
never_broken Memory meant is = (λ e. cc, λ e. cc)
never_broken Broken meant is = absurd is

pub lacks_broken : (failure : PutFault) (meant : Result (Unit {0}) Shortage) (gives : Option (List (List ℕ))) → Gives {X = Unit {0}} (λ u. u) room_cause (Err failure) meant → IsUnknownWhereBroken {X = Unit {0}} (Err failure) gives
lacks_broken failure meant gives is = λ broken. absurd ((never_broken failure meant is).0 broken)

pub lacks_causes : {D : Type 0} (faults moment : D → ℕ) (failure : PutFault) (meant : Result (Unit {0}) Shortage) (s : Seen D) → Gives {X = Unit {0}} (λ u. u) room_cause (Err failure) meant → HasPutCauses faults moment (Err failure) s s
lacks_causes {D} faults moment failure meant s is = record {
  onwards = record { later = omega arith; onwards = omega arith };
  failed = λ failed. absurd ((never_broken failure meant is).1 failed);
  counted = λ early. lacks_cause failure (faults s.device) (moment s.device) meant is;
}

pub room_answer : (result : Result (Unit {0}) PutFault) (meant : Result (Unit {0}) Shortage) → meant ≡ Ok tt → NeverShort result → GivesOrFails {X = Unit {0}} (λ u. u) room_cause result meant
room_answer (Ok tt) meant is short = is
room_answer (Err (NeedsRoom pages room)) meant is short = absurd short
room_answer (Err Fault) meant is short = tt
room_answer (Err Memory) meant is short = tt
room_answer (Err Broken) meant is short = tt

-- ---- the volume

pub all_maps : (may : List (Option Record) → List (Option Record) → Type 0) (m : MapParts) (table : List ℕ) (xs : List Change) (known : Option Content) → IfSome known (IsStateOf m table) → IfSome known (LeadsOn m table xs) → IfSome known (KeepsNamesBy may m xs)
    → IfSome known (λ c. HaveMaps may m c (content_after xs c))
all_maps may m table xs None shown leads allowed = tt
all_maps may m table xs (Some c) shown leads allowed = have_maps may m table xs c shown leads allowed

pub all_writable : (m : MapParts) (table : List ℕ) (xs : List Change) (known : Option Content) → IfSome known (LeadsOn m table xs) → IfSome known (λ c. AreWritable xs (content_after xs c))
all_writable m table xs None leads = tt
all_writable m table xs (Some c) leads = leads.writable

-- it shows a state again
pub shows_state : (result : Result (Unit {0}) PutFault) (xs : List Change) (m next : MapParts) (table : List ℕ) (old new : Option Content) → IfSome old (IsStateOf m table) → IfSome old (LeadsOn m table xs) → PutsContent result xs old new → PutsMap result xs old m next
    → IfSome new (IsStateOf next table)
shows_state (Ok tt) xs m next table None new shown leads content map = subst (λ (o : Option Content). IfSome o (IsStateOf next table)) (sym content) tt
shows_state (Ok tt) xs m next table (Some c) new shown leads content map = subst (λ (o : Option Content). IfSome o (IsStateOf next table)) (sym content) (state_after m next table xs c leads map)
shows_state (Err failure) xs m next table old new shown leads content map =
    subst (λ (o : Option Content). IfSome o (IsStateOf next table)) (sym content) (subst (λ (y : MapParts). IfSome old (IsStateOf y table)) (sym map) shown)

pub holds_again : (result : Result (Unit {0}) PutFault) (xs : List Change) (gives gave : Option (List (List ℕ))) (old new : StateOf) (before now : Changes) (m next : MapParts) (table : List ℕ) → 0 < length xs → ((b : Block) → is_some ((facts_of old).before b) ≡ false) → AllByRecursion (MayLog (facts_of old)) xs
    → AreApart xs → HoldsState gives before old m table → IfSome (present_content gives old) (LeadsOn m table xs) → PutsOver result xs gives gave old new before now m next → HoldsState gave now new next table
holds_again result xs gives gave old new before now m next table some shut each apart holds leads put = record {
  closed = put.closed;
  near = subst (λ (p : LogPlace). p.device ≤ 2 ^ 62) (sym (place_stays result xs gives (facts_of old) (facts_of new) put.facts)) holds.near;
  shown = shows_state result xs m next table (present_content gives old) (present_content gave new) holds.shown leads put.content put.map;
  spares = subst (λ (o : Option (List (List ℕ))). IfSome o (SparesState now (facts_of new) next.volume)) (sym put.same)
      (spares_behind result xs gives old new before now m next table some shut each apart put.unchanged put.facts put.windows
      (subst (λ (o : Option (List (List ℕ))). PutsContent result xs (present_content gives old) (present_content o new)) put.same put.content) holds.spares leads put.map);
}
