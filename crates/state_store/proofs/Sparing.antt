-- Which blocks are spared behind changes that were put, or weren't.
use Rattle.std.proofs.Common.{◌≡◌, subst, ℕ, zero, suc, ◌+◌, ◌<◌, ◌≤◌, Bool, true, false, not, ◌||◌, List, [], ◌∷◌, length, Option, Some, None, Result, Ok, Err, refl, sym, ap, ◌∙◌, inl, inr, arith}
use Rattle.std.specs.Prelude.{◌⊎◌, ◌==◌, IfSome, is_some, unwrap_or}
use Rattle.std.specs.List.{AllByRecursion, list_all, range_with_len}
use Rattle.std.proofs.lemmas.Bool.{cases_Bool, and_parts, and_from}
use Rattle.disk_model.specs.declared.block.Block.{Block}
use Rattle.disk_model.specs.declared.block.Body.{Body}
use Rattle.disk_model.specs.declared.block.Change.{Change}
use Rattle.disk_model.specs.Content.{Content}
use Rattle.disk_model.specs.Sectors.{sectors, are_rivals}
use Rattle.sector_device.specs.Disks.{Disk, is_within}
use Rattle.sector_device.specs.Moments.{Changes}
use Rattle.block_view.specs.Changes.{content_after}
use Rattle.log_model.specs.declared.entry.Entry.{Entry}
use Rattle.log_model.specs.Logs.{is_in_grid}
use Rattle.turn_laws.specs.log_page.declared.places.LogPlace.{LogPlace}
use Rattle.turn_laws.specs.store_model.Logs.{has_update}
use Rattle.turn_laws.specs.store_model.Stores.{Store}
use Rattle.turn_laws.specs.store_model.Volumes.{is_known, is_free}
use Rattle.turn_laws.specs.store_claims.Windows.{StoreWindow}
use Rattle.turn_laws.proofs.store_model.Told.{true≢false, or_left}
use Rattle.turn_laws.proofs.store_model.Known.{is_in}
use Rattle.turn_laws.proofs.ring_laws.SeenDisks.{not_own}
use Rattle.same_names.specs.volume_model.Volumes.{Volume}
use Rattle.same_names.specs.map_change.Parts.{MapParts, map_of}
use Rattle.state_blocks.specs.Needing.{IsNeeded}
use Rattle.turn_laws.specs.txn_model.Values.{StoreFacts, is_own, own_of}
use Rattle.turn_laws.specs.txn_model.Calls.{begun_facts, committed_facts}
use Rattle.turn_laws.specs.txn_laws.Standing.{StandsBehind}
use Rattle.turn_laws.specs.txn_laws.Windows.{HasWindow}
use Rattle.turn_laws.specs.txn_state.States.{StateOf, facts_of}
use Rattle.turn_laws.specs.txn_core.Views.{present_on, present_content}
use Rattle.turn_laws.specs.Sparing.{IsSpared}
use Rattle.state_store.specs.Volumes.{geometry_of, SparesState}
use Rattle.state_blocks.specs.Drafts.{is_changed}
use Rattle.state_store.specs.Changes.{MayLog, AreApart, LeadsOn}
use Rattle.state_store.specs.Windows.{changed_by, LeadsTo, StaysWindow, AfterChanges, AfterPutting}
use Rattle.state_store.specs.Logging.{StoppedBy, ChangedBy}
use Rattle.state_store.specs.declared.fault.PutFault.{PutFault}
use Rattle.state_store.specs.Puts.{PutsContent, PutsMap, PutsFacts}
use Rattle.state_store.specs.Spared.{PutsSpare}
use Rattle.state_store.proofs.Lists.{each_weaker, unchanged_by, changed_whole, changed_found}
use Rattle.state_store.proofs.Contents.{committed_content, stopped_content}
use Rattle.state_store.proofs.Following.{next_map}
use Rattle.state_store.proofs.Marking.{rivals_unchanged, Marked, marked_committed, fresh_committed, Stopped, stopped_by}
use Rattle.state_store.specs.Claims.{NoRival}

pub some_length : {X : Type 0} (xs : List X) → (length xs == 0) ≡ false → 0 < length xs
some_length [] none = absurd (true≢false none)
some_length (x ∷ xs) none = omega arith

-- ---- a block that has no sector that the log keeps for itself has none of its pages

all_from : (test : ℕ → Bool) (from n : ℕ) → ((s : ℕ) → from ≤ s → s < from + n → test s ≡ true) → list_all test (range_with_len from n) ≡ true
all_from test from zero each = refl
all_from test from (suc n) each = and_from (test from) (list_all test (range_with_len (from + 1) n)) (each from (omega arith) (omega arith)) (all_from test (from + 1) n (λ s low high. each s (omega arith) (omega arith)))

pub known_pages : (place : LogPlace) (found : List Block) (b : Block) → is_known (is_own place found) b ≡ true → is_known (is_own place []) b ≡ true
known_pages place found b known =
    and_from (is_in_grid b) (is_free (is_own place []) b) (and_parts (is_in_grid b) (is_free (is_own place found) b) known).0
    (all_from (λ s. not (is_own place [] s)) b.first (sectors b.kind) (λ s low high. ap not (free s (is_in b.first (sectors b.kind) s low high))))
  where
    free : (s : ℕ) → is_within b.first (sectors b.kind) s ≡ true → is_own place [] s ≡ false
    free s within = ap (λ (t : Bool). t || false) (or_left _ _ (not_own (is_own place found) b s known within))

-- ---- changes that were made

module _ (disk : List (List ℕ)) (xs : List Change) (f g : StoreFacts) (w v : StoreWindow) (done : (h : StoreFacts) × ChangedBy (Some disk) xs (begun_facts f) h × (g ≡ committed_facts h)) (after : (b : Block) → v.present b ≡ changed_by xs w.present b) (b : Block) where
  marked : Marked xs f g
  marked = marked_committed (Some disk) xs f g done

  content : present_on disk g ≡ changed_by xs (present_on disk f)
  content = committed_content disk xs f g done

  -- a block that was changed
  fresh_spared : AreApart xs → AllByRecursion (MayLog f) xs → is_changed xs b ≡ true → IsSpared g v disk b
  fresh_spared apart each some =
      let fresh = fresh_committed (Some disk) xs f g b apart done some in
      let may : is_known (own_of f) b ≡ true = changed_found (λ c. is_known (own_of f) c ≡ true) xs b some (each_weaker (MayLog f) (λ (x : Change). is_known (own_of f) x.block ≡ true) (λ x is. is.known) xs each) in
      record {
        known = ap (λ (p : LogPlace). is_known (is_own p []) b) marked.place ∙ known_pages f.place f.found b may;
        alive = fresh.alive;
        alone = fresh.alone;
        whole = λ kept. ap (λ (c : Content). (c b).torn) content ∙ changed_whole xs (present_on disk f) b some;
        shown = λ torn. absurd (true≢false (sym torn ∙ ap (λ (y : Body). y.torn) (after b) ∙ changed_whole xs w.present b some));
      }

  -- and one that wasn't
  still_spared : NoRival xs b → is_changed xs b ≡ false → IsSpared f w disk b → IsSpared g v disk b
  still_spared none other spared =
      let same : present_on disk g b ≡ present_on disk f b = ap (λ (c : Content). c b) content ∙ unchanged_by xs (present_on disk f) b other in
      record {
        known = ap (λ (p : LogPlace). is_known (is_own p []) b) marked.place ∙ spared.known;
        alive = marked.dead b none spared.alive;
        alone = λ c rivals. marked.dirty c (rivals_unchanged xs b c none rivals) (spared.alone c rivals);
        whole = λ kept. ap (λ (y : Body). y.torn) same ∙ spared.whole (ap (λ (o : Option Body). is_some o) (sym (marked.body b other)) ∙ kept);
        shown = λ torn. ap (λ (y : Body). y.torn) same ∙ spared.shown (ap (λ (y : Body). y.torn) (sym (after b ∙ unchanged_by xs w.present b other)) ∙ torn);
      }

-- ---- changes that weren't

none_some : (o : Option Body) → is_some o ≡ false → o ≡ None
none_some (Some x) is = absurd (true≢false is)
none_some None is = refl

module _ (disk : List (List ℕ)) (xs : List Change) (f g : StoreFacts) (w v : StoreWindow) (shut : (b : Block) → is_some (f.before b) ≡ false) (done : StoppedBy (Some disk) xs (begun_facts f) g) (after : (b : Block) → v.present b ≡ w.present b) (b : Block) where
  stopped : Stopped xs (begun_facts f) g
  stopped = stopped_by (Some disk) xs (begun_facts f) g done

  same_body : present_on disk g b ≡ present_on disk f b
  same_body = ap (λ (c : Content). c b) (stopped_content disk xs f g shut done)

  stopped_spared : NoRival xs b → (is_changed xs b ≡ true → (present_on disk f b).torn ≡ false) → IsSpared f w disk b → IsSpared g v disk b
  stopped_spared none whole spared = record {
    known = ap (λ (p : LogPlace). is_known (is_own p []) b) stopped.place ∙ spared.known;
    alive = stopped.dead b none spared.alive;
    alone = λ c rivals. stopped.dirty c (rivals_unchanged xs b c none rivals) (none_some (f.before c) (shut c)) (spared.alone c rivals);
    whole = λ kept. ap (λ (y : Body). y.torn) same_body ∙ by kept;
    shown = λ torn. ap (λ (y : Body). y.torn) same_body ∙ spared.shown (ap (λ (y : Body). y.torn) (sym (after b)) ∙ torn);
  }
    where
      by : is_some (g.body b) ≡ true → (present_on disk f b).torn ≡ false
      by kept = elim (cases_Bool (is_changed xs b)) [
        | inl some ↦ whole some
        | inr other ↦ spared.whole (ap (λ (o : Option Body). is_some o) (sym (stopped.body b other (none_some (f.before b) (shut b)))) ∙ kept)
      ]

-- ---- the blocks of a state

-- no change is a rival of a block from which the state before was read
no_rival : (c : Content) (v : Volume) (xs : List Change) (b : Block) → IsNeeded c v b → AllByRecursion (λ (x : Change). (r : Block) → IsNeeded c v r → are_rivals x.block r ≡ false) xs → NoRival xs b
no_rival c v xs b needed all = each_weaker (λ (x : Change). (r : Block) → IsNeeded c v r → are_rivals x.block r ≡ false) (λ (x : Change). are_rivals x.block b ≡ false) (λ x is. is b needed) xs all

pub place_stays : {E : Type 0} (result : Result (Unit {0}) E) (xs : List Change) (gives : Option (List (List ℕ))) (f g : StoreFacts) → PutsFacts result xs gives f g → g.place ≡ f.place
place_stays (Ok tt) [] gives f g is = ap (λ (h : StoreFacts). h.place) is
place_stays (Ok tt) (x ∷ xs) gives f g is = (marked_committed gives (x ∷ xs) f g is).place
place_stays (Err e) xs gives f g (inl is) = ap (λ (h : StoreFacts). h.place) is
place_stays (Err e) xs gives f g (inr is) = (stopped_by gives xs (begun_facts f) g is).place

put_window : (xs : List Change) (w v : StoreWindow) → 0 < length xs → AfterChanges xs w v → (b : Block) → v.present b ≡ changed_by xs w.present b
put_window [] w v some after b = absurd (omega (arith, some))
put_window (x ∷ xs) w v some after b = after.present b

put_done : (E : Type 0) (xs : List Change) (gives : Option (List (List ℕ))) (f g : StoreFacts) → 0 < length xs → PutsFacts {E = E} (Ok tt) xs gives f g → (h : StoreFacts) × ChangedBy gives xs (begun_facts f) h × (g ≡ committed_facts h)
put_done E [] gives f g some is = absurd (omega (arith, some))
put_done E (x ∷ xs) gives f g some is = is

one_content : (c d : Content) → Some d ≡ Some c → d ≡ c
one_content c d is = ap (λ (o : Option Content). unwrap_or o c) is

-- what is spared behind a list that was put
put_spared : (disk : List (List ℕ)) (xs : List Change) (f g : StoreFacts) (w v : StoreWindow) (m : MapParts) (table : List ℕ) (leads : LeadsOn m table xs (present_on disk f)) → AreApart xs → AllByRecursion (MayLog f) xs → present_on disk g ≡ content_after xs (present_on disk f)
    → ((h : StoreFacts) × ChangedBy (Some disk) xs (begun_facts f) h × (g ≡ committed_facts h)) → ((b : Block) → v.present b ≡ changed_by xs w.present b) → ((b : Block) → IsNeeded (present_on disk f) m.volume b → IsSpared f w disk b)
    → (b : Block) → IsNeeded (present_on disk g) leads.volume b → IsSpared g v disk b
put_spared disk xs f g w v m table leads apart each is done after spared b needed = elim (cases_Bool (is_changed xs b)) [
  | inl some ↦ fresh_spared disk xs f g w v done after b apart each some
  | inr other ↦ before (leads.draft.covers b (subst (λ (c : Content). IsNeeded c leads.volume b) is needed)) other
]
  where
    before : IsNeeded (present_on disk f) m.volume b ⊎ (is_changed xs b ≡ true) → is_changed xs b ≡ false → IsSpared g v disk b
    before (inl old) other = still_spared disk xs f g w v done after b (no_rival (present_on disk f) m.volume xs b old leads.draft.rivals) other (spared b old)
    before (inr some) other = absurd (true≢false (sym some ∙ other))

-- and behind one that wasn't
left_spared : (disk : List (List ℕ)) (xs : List Change) (f g : StoreFacts) (w v : StoreWindow) (m : MapParts) (table : List ℕ) → LeadsOn m table xs (present_on disk f) → ((b : Block) → is_some (f.before b) ≡ false) → StoppedBy (Some disk) xs (begun_facts f) g
    → ((b : Block) → v.present b ≡ w.present b) → ((b : Block) → IsNeeded (present_on disk f) m.volume b → IsSpared f w disk b) → (b : Block) → IsNeeded (present_on disk g) m.volume b → IsSpared g v disk b
left_spared disk xs f g w v m table leads shut done after spared b needed =
    let old : IsNeeded (present_on disk f) m.volume b = subst (λ (c : Content). IsNeeded c m.volume b) (stopped_content disk xs f g shut done) needed in
    stopped_spared disk xs f g w v shut done after b (no_rival (present_on disk f) m.volume xs b old leads.draft.rivals)
    (λ some. changed_found (λ c. IsNeeded (present_on disk f) m.volume c → (present_on disk f c).torn ≡ false) xs b some leads.draft.whole old) (spared b old)

-- nothing was done
same_spared : (disk : List (List ℕ)) (f g : StoreFacts) (w v : StoreWindow) (b : Block) → g ≡ f → v.present b ≡ w.present b → IsSpared f w disk b → IsSpared g v disk b
same_spared disk f g w v b is after spared =
    subst (λ (h : StoreFacts). IsSpared h v disk b) (sym is)
    (record { known = spared.known; alive = spared.alive; alone = spared.alone; whole = spared.whole; shown = λ torn. spared.shown (ap (λ (y : Body). y.torn) (sym after) ∙ torn) })

module _ (disk : List (List ℕ)) (xs : List Change) (f g : StoreFacts) (before now : Changes) (m next : MapParts) (table : List ℕ) (some : 0 < length xs) (shut : (b : Block) → is_some (f.before b) ≡ false) (each : AllByRecursion (MayLog f) xs) (apart : AreApart xs) (same : now ≡ before)
    (old : SparesState before f m.volume disk) (leads : LeadsOn m table xs (present_on disk f)) where
  spares_put : PutsFacts {E = PutFault} (Ok tt) xs (Some disk) f g → LeadsTo before f g (AfterChanges xs) → present_on disk g ≡ content_after xs (present_on disk f) → map_of (content_after xs (present_on disk f)) (geometry_of m) m.volume.clusters ≡ Ok next → SparesState now g next.volume disk
  spares_put facts windows content map =
      let done = put_done PutFault xs (Some disk) f g some facts in
      let w = windows old.window old.has in
      let volume : next.volume ≡ leads.volume = ap (λ (x : MapParts). x.volume) (next_map m next table xs (present_on disk f) leads map) in
      record {
        window = w.0;
        has = subst (λ (c : Changes). HasWindow c g w.0) (sym same) w.1;
        spared = λ b needed. put_spared disk xs f g old.window w.0 m table leads apart each content done (put_window xs old.window w.0 some w.2) old.spared b (subst (λ (x : Volume). IsNeeded (present_on disk g) x b) volume needed);
      }

  spares_left : (failure : PutFault) → PutsFacts (Err failure) xs (Some disk) f g → LeadsTo before f g (StaysWindow xs) → next ≡ m → SparesState now g next.volume disk
  spares_left failure facts windows is =
      let w = windows old.window old.has in
      subst (λ (x : MapParts). SparesState now g x.volume disk) (sym is)
      (record { window = w.0; has = subst (λ (c : Changes). HasWindow c g w.0) (sym same) w.1; spared = λ b needed. by facts w.0 w.2.present b needed })
    where
      by : PutsFacts (Err failure) xs (Some disk) f g → (v : StoreWindow) → ((b : Block) → v.present b ≡ old.window.present b) → (b : Block) → IsNeeded (present_on disk g) m.volume b → IsSpared g v disk b
      by (inl stays) v after b needed = same_spared disk f g old.window v b stays (after b) (old.spared b (subst (λ (h : StoreFacts). IsNeeded (present_on disk h) m.volume b) stays needed))
      by (inr done) v after b needed = left_spared disk xs f g old.window v m table leads shut done after old.spared b needed

pub spares_behind : (result : Result (Unit {0}) PutFault) (xs : List Change) (gives : Option (List (List ℕ))) (old new : StateOf) (before now : Changes) (m next : MapParts) (table : List ℕ) → 0 < length xs → ((b : Block) → is_some ((facts_of old).before b) ≡ false) → AllByRecursion (MayLog (facts_of old)) xs → AreApart xs → now ≡ before
    → PutsFacts result xs gives (facts_of old) (facts_of new) → LeadsTo before (facts_of old) (facts_of new) (AfterPutting result xs) → PutsContent result xs (present_content gives old) (present_content gives new) → IfSome gives (SparesState before (facts_of old) m.volume) → IfSome (present_content gives old) (LeadsOn m table xs)
    → PutsMap result xs (present_content gives old) m next → IfSome gives (SparesState now (facts_of new) next.volume)
spares_behind result xs None old new before now m next table some shut each apart same facts windows content spares leads map = tt
spares_behind (Ok tt) xs (Some disk) old new before now m next table some shut each apart same facts windows content spares leads map =
    spares_put disk xs (facts_of old) (facts_of new) before now m next table some shut each apart same spares leads facts windows
    (one_content (content_after xs (present_on disk (facts_of old))) (present_on disk (facts_of new)) content) map
spares_behind (Err failure) xs (Some disk) old new before now m next table some shut each apart same facts windows content spares leads map =
    spares_left disk xs (facts_of old) (facts_of new) before now m next table some shut each apart same spares leads failure facts windows map

-- ---- by each window that follows

-- where no transaction is open none changed a block
shut_window : (changes : Changes) (f : StoreFacts) (w : StoreWindow) → HasWindow changes f w → f.is_open ≡ false → (b : Block) → is_some (f.before b) ≡ false
shut_window changes f w has closed b = behind has.0 has.2 has.3
  where
    behind : (raw : Disk) (m : Store) → StandsBehind f raw m → is_some (f.before b) ≡ false
    behind raw m h = sym (h.window.changed b) ∙ ap (λ (us : List Entry). has_update us b) (h.sound.closed (h.window.is_open ∙ closed))

-- no changes were put
none_spared : (disk : List (List ℕ)) (f g : StoreFacts) (w v : StoreWindow) (m : MapParts) (table : List ℕ) (leads : LeadsOn m table [] (present_on disk f)) → g ≡ f → ((b : Block) → v.present b ≡ w.present b) → present_on disk g ≡ content_after [] (present_on disk f)
    → ((b : Block) → IsNeeded (present_on disk f) m.volume b → IsSpared f w disk b) → (b : Block) → IsNeeded (present_on disk g) leads.volume b → IsSpared g v disk b
none_spared disk f g w v m table leads same after content spared b needed = elim (leads.draft.covers b (subst (λ (c : Content). IsNeeded c leads.volume b) content needed)) [
  | inl old ↦ same_spared disk f g w v b same (after b) (spared b old)
  | inr some ↦ absurd (true≢false (sym some))
]

changes_spared : (xs : List Change) (disk : List (List ℕ)) (f g : StoreFacts) (w v : StoreWindow) (m : MapParts) (table : List ℕ) (leads : LeadsOn m table xs (present_on disk f)) → AreApart xs → AllByRecursion (MayLog f) xs → present_on disk g ≡ content_after xs (present_on disk f)
    → PutsFacts {E = PutFault} (Ok tt) xs (Some disk) f g → AfterChanges xs w v → ((b : Block) → IsNeeded (present_on disk f) m.volume b → IsSpared f w disk b) → (b : Block) → IsNeeded (present_on disk g) leads.volume b → IsSpared g v disk b
changes_spared [] disk f g w v m table leads apart each content facts after spared b needed = none_spared disk f g w v m table leads facts after.present content spared b needed
changes_spared (x ∷ xs) disk f g w v m table leads apart each content facts after spared b needed = put_spared disk (x ∷ xs) f g w v m table leads apart each content facts after.present spared b needed

failed_spared : (failure : PutFault) (xs : List Change) (disk : List (List ℕ)) (f g : StoreFacts) (w v : StoreWindow) (m : MapParts) (table : List ℕ) → LeadsOn m table xs (present_on disk f) → ((b : Block) → is_some (f.before b) ≡ false) → PutsFacts (Err failure) xs (Some disk) f g
    → ((b : Block) → v.present b ≡ w.present b) → ((b : Block) → IsNeeded (present_on disk f) m.volume b → IsSpared f w disk b) → (b : Block) → IsNeeded (present_on disk g) m.volume b → IsSpared g v disk b
failed_spared failure xs disk f g w v m table leads shut (inl stays) after spared b needed = same_spared disk f g w v b stays (after b) (spared b (subst (λ (h : StoreFacts). IsNeeded (present_on disk h) m.volume b) stays needed))
failed_spared failure xs disk f g w v m table leads shut (inr done) after spared b needed = left_spared disk xs f g w v m table leads shut done after spared b needed

pub all_spared : PutsSpare
all_spared (Ok tt) xs disk old new before now m next table w u has closed each apart leads put after spared b needed =
    changes_spared xs disk (facts_of old) (facts_of new) w u m table leads apart each (one_content (content_after xs (present_on disk (facts_of old))) (present_on disk (facts_of new)) put.content) put.facts after spared b
    (subst (λ (x : Volume). IsNeeded (present_on disk (facts_of new)) x b) (ap (λ (x : MapParts). x.volume) (next_map m next table xs (present_on disk (facts_of old)) leads put.map)) needed)
all_spared (Err failure) xs disk old new before now m next table w u has closed each apart leads put after spared b needed =
    failed_spared failure xs disk (facts_of old) (facts_of new) w u m table leads (shut_window before (facts_of old) w has closed) put.facts after.present spared b
    (subst (λ (x : MapParts). IsNeeded (present_on disk (facts_of new)) x.volume b) put.map needed)
