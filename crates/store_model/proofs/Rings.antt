-- The durable pages are a prefix of those that recovery reads, and these are pages that were written.
use Rattle.std.proofs.Common.{◌≡◌, ◌≢◌, ◌⊎◌, inl, inr, ⊎_elim, ℕ, zero, suc, ◌+◌, ◌-◌, ◌%◌, ◌<◌, ◌≤◌, max, Bool, true, false, List, [], ◌∷◌, ◌++◌, Option, Some, None, length, take, drop, get_or, refl, sym, ◌∙◌, ap, subst, arith, eq-eqb, length-append}
use Rattle.std.specs.Prelude.{if◌then◌else◌, Contains}
use Rattle.std.proofs.lemmas.Bool.{eqb-true}
use Rattle.log_model.specs.declared.entry.Entry.{Entry}
use Rattle.store_model.specs.Geometry.{SectorBytes, CanLeave}
use Rattle.store_model.specs.Stores.{Store, MayLeave, list_of}
use Rattle.store_model.specs.Rings.{PagePlaces, newest_page, PlaceMayHold, MayLeavePages, Ring, is_page, read_to, HasPlaces, IsRing, new_ring, PutsPage, synced_places, RingStep, entries_on, HoldsList, ReadsPrefix, restart_place, Restarts, greater_page, chosen_page, AreRestarts, RestartStep, IsChosen, IsKept, read_from, ReadsList, IsLeft}
use Rattle.store_model.specs.Rings.ReadsList.{from_oldest, from_noted}
use Rattle.store_model.specs.Rings.RingStep.{write, write_fails, sync_ring, free}
use Rattle.store_model.specs.Rings.RestartStep.{write_page, write_page_fails, sync_before, sync_after}
use Rattle.store_model.proofs.Told.{true≢false}

-- a page that is there is read
page_there : (o : Option ℕ) (j : ℕ) → o ≡ Some j → is_page o j ≡ true
page_there o j e = rw e (eq-eqb j j refl)

there_page : (o : Option ℕ) (j : ℕ) → is_page o j ≡ true → o ≡ Some j
there_page (Some n) j e = ap (λ (m : ℕ). Some m) (eqb-true n j e)
there_page None j e = absurd (true≢false (sym e))

reads_on : (place : ℕ → ℕ) (image : ℕ → Option ℕ) (fuel j : ℕ) → j ≤ read_to place image j fuel
reads_on place image zero j = omega arith
reads_on place image (suc n) j = go (is_page (image (place j)) j) (reads_on place image n (suc j))
  where
    go : (v : Bool) → suc j ≤ read_to place image (suc j) n → j ≤ (if v then read_to place image (suc j) n else j)
    go true h = omega (arith, h)
    go false h = omega arith

-- what recovery reads begins with what is known to be there
pub reads_durable : (place : ℕ → ℕ) (image : ℕ → Option ℕ) (fuel j synced : ℕ) → j ≤ synced → synced ≤ j + fuel → ((i : ℕ) → j ≤ i → i < synced → image (place i) ≡ Some i) → synced ≤ read_to place image j fuel
reads_durable place image zero j synced low high there = omega arith
reads_durable place image (suc n) j synced low high there = go (cases j synced low) (λ lt. reads_durable place image n (suc j) synced (omega arith) (omega arith) (λ i le lt'. there i (omega arith) lt'))
  where
    cases : (j synced : ℕ) → j ≤ synced → (j ≡ synced) ⊎ (j < synced)
    cases j synced le = grind arith

    go : (j ≡ synced) ⊎ (j < synced) → (j < synced → synced ≤ read_to place image (suc j) n) → synced ≤ read_to place image j (suc n)
    go (inl e) ih = omega (arith, e, reads_on place image (suc n) j)
    go (inr lt) ih = rw (page_there (image (place j)) j (there j (omega arith) lt)) (ih lt)

-- and has no page that wasn't written
pub reads_sent : (place : ℕ → ℕ) (image : ℕ → Option ℕ) (fuel j sent : ℕ) → j ≤ sent → ((k i : ℕ) → image k ≡ Some i → i < sent) → read_to place image j fuel ≤ sent
reads_sent place image zero j sent low below = low
reads_sent place image (suc n) j sent low below = go (is_page (image (place j)) j) refl (λ lt. reads_sent place image n (suc j) sent lt below)
  where
    go : (v : Bool) → is_page (image (place j)) j ≡ v → (suc j ≤ sent → read_to place image (suc j) n ≤ sent) → (if v then read_to place image (suc j) n else j) ≤ sent
    go true h ih = ih (below (place j) j (there_page (image (place j)) j h))
    go false h ih = low

-- the layer's promise: whatever a crash leaves, recovery reads all durable pages, and only pages that were written
pub ring_prefix : (place : ℕ → ℕ) (r : Ring) → IsRing place r → (image : ℕ → Option ℕ) → ((k : ℕ) → PlaceMayHold r.places k (image k)) → (r.synced ≤ read_to place image r.oldest r.size) × (read_to place image r.oldest r.size ≤ r.sent)
ring_prefix place r ring image holds = (
  reads_durable place image r.size r.oldest r.synced ring.oldest (omega (arith, ring.room, ring.done, ring.synced)) (λ i le lt. ring.stays i (image (place i)) le lt (holds (place i))),
  reads_sent place image r.size r.oldest r.sent (omega (arith, ring.oldest, ring.synced, ring.done)) (λ k i e. ring.below k i (image k) (holds k) e),
)

-- what a place may have after a write
put_page : (place : ℕ → ℕ) (j : ℕ) (value : Option ℕ) (before after : PagePlaces) → PutsPage place j value before after → (k : ℕ) (x : Option ℕ) → PlaceMayHold after k x → PlaceMayHold before k x ⊎ ((k ≡ place j) × (x ≡ value))
put_page place j value before after puts k x holds = go (which k (place j)) holds
  where
    which : (m n : ℕ) → (m ≡ n) ⊎ (m ≢ n)
    which m n = grind arith

    found : (vs : List (Option ℕ)) (i : ℕ) → i < length (value ∷ vs) → get_or (value ∷ vs) i x ≡ x → Contains vs x ⊎ (x ≡ value)
    found vs zero lt e = inr (sym e)
    found vs (suc i) lt e = inl (i, omega arith, e)

    go : (k ≡ place j) ⊎ (k ≢ place j) → PlaceMayHold after k x → PlaceMayHold before k x ⊎ ((k ≡ place j) × (x ≡ value))
    go c (inl e) = inl (inl (e ∙ puts.durable k))
    go (inr apart) (inr m) = inl (inr (subst (λ (vs : List (Option ℕ)). Contains vs x) (puts.other k apart) m))
    go (inl same) (inr m) =
        let m' = subst (λ (vs : List (Option ℕ)). Contains vs x) (ap after.written same ∙ puts.own ∙ ap (λ (n : ℕ). value ∷ before.written n) (sym same)) m in
        ⊎_elim (λ c. inl (inr c)) (λ e. inr (same, e)) (found (before.written k) m'.0 m'.1 m'.2)

none_some : (i : ℕ) → ◌≡◌ {A = Option ℕ} None (Some i) → ⊥
none_some i e = cc

same_page : (i j : ℕ) → ◌≡◌ {A = Option ℕ} (Some i) (Some j) → i ≡ j
same_page i j e = cc

module _ (place : ℕ → ℕ) (r : Ring) (ring : IsRing place r) (places : HasPlaces r.size place) (value : Option ℕ) (after : PagePlaces) (room : r.done < r.oldest + r.size) (puts : PutsPage place r.done value r.places after) where
  stays_put : (j : ℕ) (x : Option ℕ) → r.oldest ≤ j → j < r.synced → PlaceMayHold after (place j) x → x ≡ Some j
  stays_put j x low lt holds = ⊎_elim (λ was. ring.stays j x low lt was) (λ new. absurd (places j r.done (omega (arith, ring.synced)) (omega (arith, room)) new.0)) (put_page place r.done value r.places after puts (place j) x holds)

  below_put : (k j : ℕ) (x : Option ℕ) → PlaceMayHold after k x → x ≡ Some j → j < max r.sent (suc r.done)
  below_put k j x holds e = ⊎_elim (λ was. omega (arith, ring.below k j x was e)) (λ new. whole puts.whole new.1) (put_page place r.done value r.places after puts k x holds)
    where
      whole : (value ≡ Some r.done) ⊎ (value ≡ None) → x ≡ value → j < max r.sent (suc r.done)
      whole (inl h) is = omega (arith, same_page j r.done (sym e ∙ is ∙ h))
      whole (inr h) is = absurd (none_some j (sym h ∙ sym is ∙ e))

  reads_put : (j : ℕ) → r.oldest ≤ j → j < r.done → newest_page (after.written (place j)) (after.durable (place j)) ≡ Some j
  reads_put j low lt = rw (puts.other (place j) (places j r.done lt (omega (arith, room))), puts.durable (place j)) (ring.reads j low lt)

-- a new ring
pub ring-start : (place : ℕ → ℕ) (size next : ℕ) (places : PagePlaces) → ((k j : ℕ) (x : Option ℕ) → PlaceMayHold places k x → x ≡ Some j → j < next) → IsRing place (new_ring size next places)
ring-start place size next places none = record {
  oldest = omega arith;
  synced = omega arith;
  done = omega arith;
  room = omega arith;
  stays = λ j x low lt holds. absurd (omega (arith, low, lt));
  reads = λ j low lt. absurd (omega (arith, low, lt));
  below = none;
}

-- each event keeps the ring
pub ring-step : (place : ℕ → ℕ) (r r' : Ring) → HasPlaces r.size place → RingStep place r r' → IsRing place r → IsRing place r'
ring-step place r r' places (write after room puts) ring = record {
  oldest = ring.oldest;
  synced = omega (arith, ring.synced);
  done = omega arith;
  room = omega (arith, ring.room, room);
  stays = stays_put place r ring places (Some r.done) after room puts;
  reads = λ j low lt. go j low lt (cases j r.done lt);
  below = below_put place r ring places (Some r.done) after room puts;
}
  where
    cases : (j n : ℕ) → j < suc n → (j < n) ⊎ (j ≡ n)
    cases j n lt = grind arith

    go : (j : ℕ) → r.oldest ≤ j → j < suc r.done → (j < r.done) ⊎ (j ≡ r.done) → newest_page (after.written (place j)) (after.durable (place j)) ≡ Some j
    go j low lt (inl h) = reads_put place r ring places (Some r.done) after room puts j low h
    go j low lt (inr h) = rw (h, puts.own) refl
ring-step place r r' places (write_fails value after room puts) ring = record {
  oldest = ring.oldest;
  synced = ring.synced;
  done = omega (arith, ring.done);
  room = omega (arith, ring.room, room);
  stays = stays_put place r ring places value after room puts;
  reads = reads_put place r ring places value after room puts;
  below = below_put place r ring places value after room puts;
}
ring-step place r r' places sync_ring ring = record {
  oldest = omega (arith, ring.oldest, ring.synced);
  synced = omega arith;
  done = ring.done;
  room = ring.room;
  stays = λ j x low lt holds. one j x low lt holds;
  reads = ring.reads;
  below = λ k j x holds e. any k j x holds e;
}
  where
    one : (j : ℕ) (x : Option ℕ) → r.oldest ≤ j → j < r.done → PlaceMayHold (synced_places r.places) (place j) x → x ≡ Some j
    one j x low lt (inl e) = e ∙ ring.reads j low lt
    one j x low lt (inr m) = absurd (omega (arith, m.1))

    newest_held : (vs : List (Option ℕ)) (k : ℕ) → r.places.written k ≡ vs → (x : Option ℕ) → x ≡ newest_page vs (r.places.durable k) → PlaceMayHold r.places k x
    newest_held [] k h x e = inl e
    newest_held (v ∷ vs) k h x e = inr (subst (λ (us : List (Option ℕ)). Contains us x) (sym h) (0, omega arith, sym e))

    any : (k j : ℕ) (x : Option ℕ) → PlaceMayHold (synced_places r.places) k x → x ≡ Some j → j < r.sent
    any k j x (inl e) is = ring.below k j x (newest_held (r.places.written k) k refl x e) is
    any k j x (inr m) is = absurd (omega (arith, m.1))
ring-step place r r' places (free oldest low high) ring = record {
  oldest = high;
  synced = ring.synced;
  done = ring.done;
  room = omega (arith, ring.room, low);
  stays = λ j x le lt. ring.stays j x (omega (arith, low, le)) lt;
  reads = λ j le lt. ring.reads j (omega (arith, low, le)) lt;
  below = ring.below;
}

-- ---- the list on the pages

-- some pages from the front have a beginning of the entries
pub entries_front : (pages : List (List Entry)) (n : ℕ) → entries_on (take n pages) ≡ take (length (entries_on (take n pages))) (entries_on pages)
entries_front pages zero = nothing (entries_on pages)
  where
    nothing : (l : List Entry) → ◌≡◌ {A = List Entry} [] (take 0 l)
    nothing [] = refl
    nothing (e ∷ l) = refl
entries_front [] (suc n) = refl
entries_front (page ∷ pages) (suc n) = front page (entries_on (take n pages)) (entries_on pages) (entries_front pages n)
  where
    front : (xs ys zs : List Entry) → ys ≡ take (length ys) zs → xs ++ ys ≡ take (length (xs ++ ys)) (xs ++ zs)
    front [] ys zs h = h
    front (x ∷ xs) ys zs h = ap (λ (l : List Entry). x ∷ l) (front xs ys zs h)

-- more pages have no fewer entries
pub entries_longer : (pages : List (List Entry)) (m n : ℕ) → m ≤ n → length (entries_on (take m pages)) ≤ length (entries_on (take n pages))
entries_longer pages zero n le = omega arith
entries_longer [] (suc m) zero le = absurd (omega (arith, le))
entries_longer [] (suc m) (suc n) le = omega arith
entries_longer (page ∷ pages) (suc m) zero le = absurd (omega (arith, le))
entries_longer (page ∷ pages) (suc m) (suc n) le = omega (arith, length-append page (entries_on (take m pages)), length-append page (entries_on (take n pages)), entries_longer pages m n (omega (arith, le)))

pub reads_prefix : (place : ℕ → ℕ) (r : Ring) (pages : List (List Entry)) (s : Store) → IsRing place r → HoldsList r pages s → (image : ℕ → Option ℕ) → MayLeavePages r.places image
    → ReadsPrefix s (entries_on (take (read_to place image r.oldest r.size - r.oldest) pages))
reads_prefix place r pages s ring holds image left =
    let bounds = ring_prefix place r ring image left in
    let n = read_to place image r.oldest r.size - r.oldest in
    record {
      beginning = entries_front pages n ∙ ap (λ (l : List Entry). take (length (entries_on (take n pages))) l) (sym holds.log);
      durable = omega (arith, holds.synced, entries_longer pages (r.synced - r.oldest) n (omega (arith, bounds.0)));
      written = omega (arith, holds.sent, entries_longer pages n (r.sent - r.oldest) (omega (arith, bounds.1)));
    }

-- ---- the restart pages

turns : (n : ℕ) → ((n % 2 ≡ 0) × (suc n % 2 ≡ 1)) ⊎ ((n % 2 ≡ 1) × (suc n % 2 ≡ 0))
turns n = grind arith

apart_turns : (n : ℕ) → restart_place n ≢ restart_place (suc n)
apart_turns n e = ⊎_elim (λ h. absurd (omega (arith, h.0, h.1, e))) (λ h. absurd (omega (arith, h.0, h.1, e))) (turns n)

greater_swap : (a b : Option ℕ) → greater_page a b ≡ greater_page b a
greater_swap None None = refl
greater_swap None (Some n) = refl
greater_swap (Some m) None = refl
greater_swap (Some m) (Some n) = ap (λ (k : ℕ). Some k) (let e : max m n ≡ max n m = omega arith in e)

greater_is : (r : Restarts) (o : Option ℕ) → ((j : ℕ) → o ≡ Some j → (j ≤ r.sure) ⊎ ((r.begun ≡ true) × (j ≡ suc r.sure))) → IsChosen r (greater_page (Some r.sure) o)
greater_is r None h = inl refl
greater_is r (Some j) h = ⊎_elim (λ le. inl (ap (λ (k : ℕ). Some k) (let e : max r.sure j ≡ r.sure = omega (arith, le) in e)))
    (λ new. inr (new.0, ap (λ (k : ℕ). Some k) (let e : max r.sure j ≡ suc r.sure = omega (arith, new.1) in e))) (h j refl)

pub restart_chosen : (r : Restarts) → AreRestarts r → (image : ℕ → Option ℕ) → MayLeavePages r.places image → IsChosen r (chosen_page image)
restart_chosen r are image left = go (turns r.sure)
  where
    here : image (restart_place r.sure) ≡ Some r.sure
    here = are.stays (image (restart_place r.sure)) (left (restart_place r.sure))

    there : (j : ℕ) → image (restart_place (suc r.sure)) ≡ Some j → (j ≤ r.sure) ⊎ ((r.begun ≡ true) × (j ≡ suc r.sure))
    there j e = are.next j (image (restart_place (suc r.sure))) (left (restart_place (suc r.sure))) e

    both : IsChosen r (greater_page (image (restart_place r.sure)) (image (restart_place (suc r.sure))))
    both = subst (λ (o : Option ℕ). IsChosen r (greater_page o (image (restart_place (suc r.sure))))) (sym here) (greater_is r (image (restart_place (suc r.sure))) there)

    go : ((r.sure % 2 ≡ 0) × (suc r.sure % 2 ≡ 1)) ⊎ ((r.sure % 2 ≡ 1) × (suc r.sure % 2 ≡ 0)) → IsChosen r (chosen_page image)
    go (inl h) = subst (λ (k : ℕ). IsChosen r (greater_page (image 0) (image k))) h.1 (subst (λ (k : ℕ). IsChosen r (greater_page (image k) (image (restart_place (suc r.sure))))) h.0 both)
    go (inr h) = subst (λ (o : Option ℕ). IsChosen r o) (greater_swap (image 1) (image 0))
        (subst (λ (k : ℕ). IsChosen r (greater_page (image 1) (image k))) h.1 (subst (λ (k : ℕ). IsChosen r (greater_page (image k) (image (restart_place (suc r.sure))))) h.0 both))

-- after a sync a place holds what a read gave
one_held : (p : PagePlaces) (k : ℕ) (x : Option ℕ) → PlaceMayHold (synced_places p) k x → PlaceMayHold p k x × (x ≡ newest_page (p.written k) (p.durable k))
one_held p k x (inl e) = (held (p.written k) refl, e)
  where
    held : (vs : List (Option ℕ)) → p.written k ≡ vs → PlaceMayHold p k x
    held [] h = inl (e ∙ ap (λ (us : List (Option ℕ)). newest_page us (p.durable k)) h)
    held (v ∷ vs) h = inr (subst (λ (us : List (Option ℕ)). Contains us x) (sym h) (0, omega arith, sym (e ∙ ap (λ (us : List (Option ℕ)). newest_page us (p.durable k)) h)))
one_held p k x (inr m) = absurd (omega (arith, m.1))

module _ (r : Restarts) (are : AreRestarts r) (value : Option ℕ) (after : PagePlaces) (puts : PutsPage restart_place (suc r.sure) value r.places after) where
  stays_restart : (x : Option ℕ) → PlaceMayHold after (restart_place r.sure) x → x ≡ Some r.sure
  stays_restart x holds = ⊎_elim (λ was. are.stays x was) (λ new. absurd (apart_turns r.sure new.0)) (put_page restart_place (suc r.sure) value r.places after puts (restart_place r.sure) x holds)

  next_restart : (j : ℕ) (x : Option ℕ) → PlaceMayHold after (restart_place (suc r.sure)) x → x ≡ Some j → (j ≤ r.sure) ⊎ ((true ≡ true) × (j ≡ suc r.sure))
  next_restart j x holds e = ⊎_elim (λ was. ⊎_elim (λ le. inl le) (λ new. inr (refl, new.1)) (are.next j x was e)) (λ new. whole puts.whole new.1) (put_page restart_place (suc r.sure) value r.places after puts (restart_place (suc r.sure)) x holds)
    where
      whole : (value ≡ Some (suc r.sure)) ⊎ (value ≡ None) → x ≡ value → (j ≤ r.sure) ⊎ ((true ≡ true) × (j ≡ suc r.sure))
      whole (inl h) is = inr (refl, same_page j (suc r.sure) (sym e ∙ is ∙ h))
      whole (inr h) is = absurd (none_some j (sym h ∙ sym is ∙ e))

-- each event keeps the restart pages
pub restarts-step : (r r' : Restarts) → RestartStep r r' → AreRestarts r → AreRestarts r'
restarts-step r r' (write_page after early puts) are = record {
  stays = stays_restart r are (Some (suc r.sure)) after puts;
  next = next_restart r are (Some (suc r.sure)) after puts;
  reads = λ d. rw puts.own refl;
  begun = λ d. refl;
}
restarts-step r r' (write_page_fails value after early puts) are = record {
  stays = stays_restart r are value after puts;
  next = next_restart r are value after puts;
  reads = λ d. absurd (true≢false (sym d ∙ early));
  begun = λ d. refl;
}
restarts-step r r' (sync_before early) are = record {
  stays = λ x holds. are.stays x (one_held r.places (restart_place r.sure) x holds).0;
  next = λ j x holds e. are.next j x (one_held r.places (restart_place (suc r.sure)) x holds).0 e;
  reads = λ d. absurd (true≢false (sym d ∙ early));
  begun = are.begun;
}
restarts-step r r' (sync_after d) are = record {
  stays = λ x holds. (one_held r.places (restart_place (suc r.sure)) x holds).1 ∙ are.reads d;
  next = λ j x holds e. inl (omega (arith, old j x holds e));
  reads = λ e. absurd (true≢false (sym e));
  begun = λ e. absurd (true≢false (sym e));
}
  where
    back_again : restart_place (suc (suc r.sure)) ≡ restart_place r.sure
    back_again = omega arith

    old : (j : ℕ) (x : Option ℕ) → PlaceMayHold (synced_places r.places) (restart_place (suc (suc r.sure))) x → x ≡ Some j → j ≡ r.sure
    old j x holds e = same_page j r.sure (sym e ∙ are.stays x (one_held r.places (restart_place r.sure) x (subst (λ (k : ℕ). PlaceMayHold (synced_places r.places) k x) back_again holds)).0)

-- ---- the images of a store

-- pages behind some from the front have the entries behind theirs
pub drop_entries : (pages : List (List Entry)) (n : ℕ) → drop (length (entries_on (take n pages))) (entries_on pages) ≡ entries_on (drop n pages)
drop_entries pages zero = none (entries_on pages) pages refl
  where
    none : (l : List Entry) (pages : List (List Entry)) → l ≡ entries_on pages → drop (length (entries_on (take 0 pages))) l ≡ entries_on pages
    none l [] e = e
    none l (page ∷ pages) e = e
drop_entries [] (suc n) = refl
drop_entries (page ∷ pages) (suc n) =
    ap (λ (k : ℕ). drop k (page ++ entries_on pages)) (length-append page (entries_on (take n pages)))
    ∙ behind page (entries_on pages) (length (entries_on (take n pages))) ∙ drop_entries pages n
  where
    behind : (xs ys : List Entry) (k : ℕ) → drop (length xs + k) (xs ++ ys) ≡ drop k ys
    behind [] ys k = ap (λ (n : ℕ). drop n ys) (let e : 0 + k ≡ k = omega arith in e)
    behind (x ∷ xs) ys k = ap (λ (n : ℕ). drop n (x ∷ xs ++ ys)) (let e : length (x ∷ xs) + k ≡ suc (length xs + k) = omega arith in e) ∙ behind xs ys k

-- the entries of pages in two parts
pub take_entries : (pages : List (List Entry)) (m n : ℕ) → length (entries_on (take (m + n) pages)) ≡ length (entries_on (take m pages)) + length (entries_on (take n (drop m pages)))
take_entries pages zero n = ap (λ (k : ℕ). length (entries_on (take k pages))) (let e : 0 + n ≡ n = omega arith in e) ∙ none pages
  where
    none : (pages : List (List Entry)) → length (entries_on (take n pages)) ≡ length (entries_on (take 0 pages)) + length (entries_on (take n (drop 0 pages)))
    none [] = omega arith
    none (page ∷ pages) = omega arith
take_entries [] (suc m) n = nothing (suc m + n) n
  where
    nothing : (j k : ℕ) → length (entries_on (take j [])) ≡ length (entries_on (take (suc m) [])) + length (entries_on (take k (drop (suc m) [])))
    nothing zero zero = omega arith
    nothing zero (suc k) = omega arith
    nothing (suc j) zero = omega arith
    nothing (suc j) (suc k) = omega arith
take_entries (page ∷ pages) (suc m) n =
    ap (λ (k : ℕ). length (entries_on (take k (page ∷ pages)))) (let e : suc m + n ≡ suc (m + n) = omega arith in e)
    ∙ length-append page (entries_on (take (m + n) pages))
    ∙ omega (arith, take_entries pages m n, length-append page (entries_on (take m pages)))

module _ (place : ℕ → ℕ) (r : Ring) (q : Restarts) (noted : ℕ) (pages : List (List Entry)) (s : Store) (kept : IsKept place r q noted pages s) (sectors : SectorBytes) (disk : CanLeave s.disk sectors)
    (image restarts : ℕ → Option ℕ) (left : MayLeavePages r.places image) where
  -- read from a page on, which is durable or the next one
  abbrev upto : ℕ → ℕ
  upto start = length (entries_on (take (read_to place image start r.size - r.oldest) pages))

  bounds : (start : ℕ) → r.oldest ≤ start → start ≤ r.synced → (r.synced ≤ read_to place image start r.size) × (read_to place image start r.size ≤ r.sent)
  bounds start low high = ring_prefix place (record r { oldest = start }) (ring-step-free start low high) image left
    where
      ring-step-free : (start : ℕ) → r.oldest ≤ start → start ≤ r.synced → IsRing place (record r { oldest = start })
      ring-step-free start low high = record {
        oldest = high;
        synced = kept.ring.synced;
        done = kept.ring.done;
        room = omega (arith, kept.ring.room, low);
        stays = λ j x le lt. kept.ring.stays j x (omega (arith, low, le)) lt;
        reads = λ j le lt. kept.ring.reads j (omega (arith, low, le)) lt;
        below = kept.ring.below;
      }

  image_from : (start from : ℕ) → r.oldest ≤ start → start ≤ r.synced → from ≡ length (entries_on (take (start - r.oldest) pages)) → (from ≡ 0) ⊎ ((s.renamed ≡ true) × (from ≡ s.place))
      → MayLeave s (record { from = from; upto = upto start; sectors = sectors }) × (list_of s (record { from = from; upto = upto start; sectors = sectors }) ≡ read_from place r pages image start)
  image_from start from low high is named = (
    record {
      from = named;
      low = omega (arith, kept.holds.synced, entries_longer pages (r.synced - r.oldest) (read_to place image start r.size - r.oldest) (omega (arith, (bounds start low high).0)));
      high = omega (arith, kept.holds.sent, entries_longer pages (read_to place image start r.size - r.oldest) (r.sent - r.oldest) (omega (arith, (bounds start low high).1)));
      disk = disk;
    },
    ap (λ (n : ℕ). take (upto start - from) (drop n s.log)) is ∙ ap (λ (l : List Entry). take (upto start - from) (drop (length (entries_on (take (start - r.oldest) pages))) l)) kept.holds.log
        ∙ ap (λ (l : List Entry). take (upto start - from) l) (drop_entries pages (start - r.oldest)) ∙ ap (λ (n : ℕ). take n (entries_on (drop (start - r.oldest) pages))) many
        ∙ sym (entries_front (drop (start - r.oldest) pages) (read_to place image start r.size - start)),
  )
    where
      many : upto start - from ≡ length (entries_on (take (read_to place image start r.size - start) (drop (start - r.oldest) pages)))
      many = omega (
        arith,
        is,
        ap (λ (n : ℕ). length (entries_on (take n pages))) (let e : start - r.oldest + (read_to place image start r.size - start) ≡ read_to place image start r.size - r.oldest = omega (arith, low, high, (bounds start low high).0) in e),
        take_entries pages (start - r.oldest) (read_to place image start r.size - start),
      )

  pub images_left : IsChosen q (chosen_page restarts) → IsLeft place r q noted pages s sectors image restarts
  images_left (inl old) =
      let none : 0 ≡ length (entries_on (take (r.oldest - r.oldest) pages)) = first pages (r.oldest - r.oldest) (omega arith) in
      let x = image_from r.oldest 0 (omega arith) kept.ring.oldest none (inl refl) in
      record {
        left = record { from = 0; upto = upto r.oldest; sectors = sectors };
        sectors_are = refl;
        may = x.0;
        reads = subst (λ (l : List Entry). ReadsList place r q noted pages image restarts l) (sym x.1) (from_oldest old);
      }
    where
      first : (pages : List (List Entry)) (n : ℕ) → n ≡ 0 → 0 ≡ length (entries_on (take n pages))
      first [] zero e = refl
      first (page ∷ pages) zero e = refl
      first pages (suc n) e = absurd (omega (arith, e))
  images_left (inr new) =
      let renamed : s.renamed ≡ true = kept.begun new.0 in
      let x = image_from noted s.place (kept.low renamed) (kept.high renamed) (kept.names renamed) (inr (renamed, refl)) in
      record {
        left = record { from = s.place; upto = upto noted; sectors = sectors };
        sectors_are = refl;
        may = x.0;
        reads = subst (λ (l : List Entry). ReadsList place r q noted pages image restarts l) (sym x.1) (from_noted new.0 new.1);
      }

pub images_are_left : (place : ℕ → ℕ) (r : Ring) (q : Restarts) (noted : ℕ) (pages : List (List Entry)) (s : Store) → IsKept place r q noted pages s → (sectors : SectorBytes) → CanLeave s.disk sectors
    → (image restarts : ℕ → Option ℕ) → MayLeavePages r.places image → MayLeavePages q.places restarts → IsLeft place r q noted pages s sectors image restarts
images_are_left place r q noted pages s kept sectors disk image restarts left chosen = images_left place r q noted pages s kept sectors disk image restarts left (restart_chosen q kept.restarts restarts chosen)
