-- The laps of a store's log don't fall in a transaction, and it begins no more pages than the ring has.
use Rattle.std.proofs.Common.{◌≡◌, subst, ℕ, zero, suc, ◌+◌, ◌-◌, ◌/◌, ◌≤◌, Bool, true, false, cond, List, [], ◌∷◌, Option, Result, Ok, Err, refl, sym, ◌∙◌, inl, inr, arith}
use Rattle.std.specs.Prelude.{nat_le}
use Rattle.std.proofs.Math.Nat.{div-zero, div-mul-le_self}
use Rattle.std.proofs.lemmas.Nat.{le-div}
use Rattle.std.proofs.lemmas.Bool.{leb-true, leb-false}
use Rattle.disk_model.specs.declared.block.Change.{Change}
use Rattle.log_page.specs.Places.{page_bytes, entries_at}
use Rattle.log_model.specs.declared.entry.Entry.{Entry}
use Rattle.log_model.specs.declared.entry.Act.{Act}
use Rattle.log_model.specs.declared.entry.Act.TheVariants.{Commit}
use Rattle.log_model.specs.Entries.{entry_size}
use Rattle.log_area.specs.Areas.{LogAreaOf, ring_size, lap_at, fits, is_filling, used_pages, next_number, next_at, appended}
use Rattle.volume_sync.specs.txn_model.Values.{StoreFacts}
use Rattle.volume_sync.specs.txn_model.Pieces.{next_entry, log_with}
use Rattle.volume_sync.specs.txn_model.Calls.{begun_facts, changed_facts, committed_facts, change_acts}
use Rattle.volume_sync.specs.txn_laws.Windows.{lap_behind}
use Rattle.volume_sync.specs.volume_core.crash_trees.txn_close.Passing.{BeginsNoPage}
use Rattle.volume_sync.specs.volume_core.txn_core.Kept.{IsKept}
use Rattle.volume_sync.specs.volume_core.state_store.Logging.{ChangedBy, StoppedBy}
use Rattle.volume_sync.specs.volume_core.state_store.Puts.{PutsFacts}
use Rattle.volume_replies.specs.Replies.{BeginsAtMost}

abbrev pub lap_next : LogAreaOf → ℕ
lap_next a = suc (lap_at a (next_number a 0x58))

div_rises : (k n m : ℕ) → n ≤ m → n / k ≤ m / k
div_rises zero n m le = (let none = div-zero n in let other = div-zero m in omega (arith, none, other))
div_rises (suc k) n m le = le-div (n / suc k) m (suc k) (omega arith) (let part = div-mul-le_self n (suc k) in omega (arith, part, le))

-- an entry behind which one of so many bytes goes no lower
next_goes : (t u w : Bool) (s free size : ℕ) → nat_le (free + 0x58) page_bytes ≡ u → nat_le (cond t free entries_at + size + 0x58) page_bytes ≡ w → cond u s (s + 1) ≤ cond w (cond t s (s + 1)) (cond t s (s + 1) + 1)
next_goes true true true s free size is is_now = omega arith
next_goes true true false s free size is is_now = omega arith
next_goes true false true s free size is is_now =
    absurd (let low = leb-true (free + size + 0x58) page_bytes is_now in let high = leb-false (free + 0x58) page_bytes is in omega (arith, low, high))
next_goes true false false s free size is is_now = omega arith
next_goes false true true s free size is is_now = omega arith
next_goes false true false s free size is is_now = omega arith
next_goes false false true s free size is is_now = omega arith
next_goes false false false s free size is is_now = omega arith

appended_rises : (e : Entry) (a : LogAreaOf) → lap_next a ≤ lap_next (appended e a)
appended_rises e a =
    let le = next_goes (fits a (entry_size e)) (fits a 0x58) (nat_le (next_at a (entry_size e) + entry_size e + 0x58) page_bytes) a.sealed a.free (entry_size e) refl refl in
    let less = div_rises (ring_size a) (next_number a 0x58) (next_number (appended e a) 0x58) le in
    omega (arith, less)

logged_rises : (log : LogAreaOf) (tx last : ℕ) (acts : List Act) → lap_next log ≤ lap_next (log_with log tx last acts)
logged_rises log tx last [] = omega arith
logged_rises log tx last (act ∷ acts) =
    let e = next_entry log tx last act in
    let one = appended_rises e log in
    let more = logged_rises (appended e log) tx e.lsn acts in
    omega (arith, one, more)

changed_rises : (gives : Option (List (List ℕ))) (xs : List Change) (f g : StoreFacts) → ChangedBy gives xs f g → lap_behind f ≤ lap_behind g
changed_rises gives [] f g is = subst (λ (h : StoreFacts). lap_behind f ≤ lap_behind h) (sym is) (omega arith)
changed_rises gives (x ∷ xs) f g (p, present, rest) =
    let one = logged_rises f.log f.tx f.last (change_acts f x.block x.offset x.new p) in
    let more = changed_rises gives xs (changed_facts x.block x.offset x.new p f) g rest in
    omega (arith, one, more)

stopped_rises : (gives : Option (List (List ℕ))) (xs : List Change) (f g : StoreFacts) → StoppedBy gives xs f g → lap_behind f ≤ lap_behind g
stopped_rises gives [] f g is = subst (λ (h : StoreFacts). lap_behind f ≤ lap_behind h) (sym is) (omega arith)
stopped_rises gives (x ∷ xs) f g (inl is) = subst (λ (h : StoreFacts). lap_behind f ≤ lap_behind h) (sym is) (omega arith)
stopped_rises gives (x ∷ xs) f g (inr (p, present, rest)) =
    let one = logged_rises f.log f.tx f.last (change_acts f x.block x.offset x.new p) in
    let more = stopped_rises gives xs (changed_facts x.block x.offset x.new p f) g rest in
    omega (arith, one, more)

committed_rises : (gives : Option (List (List ℕ))) (xs : List Change) (f g h : StoreFacts) → ChangedBy gives xs (begun_facts f) h → g ≡ committed_facts h → lap_behind f ≤ lap_behind g
committed_rises gives xs f g h changed is =
    let one = changed_rises gives xs (begun_facts f) h changed in
    let more : lap_behind h ≤ lap_behind (committed_facts h) = logged_rises h.log h.tx h.last (Commit ∷ []) in
    subst (λ (k : StoreFacts). lap_behind f ≤ lap_behind k) (sym is) (omega (arith, one, more))

pub put_rises : {E : Type 0} (result : Result (Unit {0}) E) (xs : List Change) (gives : Option (List (List ℕ))) (f g : StoreFacts) → PutsFacts result xs gives f g → lap_behind f ≤ lap_behind g
put_rises (Ok tt) [] gives f g is = subst (λ (h : StoreFacts). lap_behind f ≤ lap_behind h) (sym is) (omega arith)
put_rises (Ok tt) (x ∷ xs) gives f g (h, changed, is) = committed_rises gives (x ∷ xs) f g h changed is
put_rises (Err e) xs gives f g (inl is) = subst (λ (h : StoreFacts). lap_behind f ≤ lap_behind h) (sym is) (omega arith)
put_rises (Err e) xs gives f g (inr is) = stopped_rises gives xs (begun_facts f) g is

-- ---- pages

-- the ring is as long, its first page is of the same lap, and its oldest page stays
abbrev pub StaysInRing : LogAreaOf → LogAreaOf → Type 0
StaysInRing a b = (b.pages ≡ a.pages) × (b.lap ≡ a.lap) × (b.oldest ≡ a.oldest)

rings_joined : (a b c : LogAreaOf) → StaysInRing a b → StaysInRing b c → StaysInRing a c
rings_joined a b c one two = (two.0 ∙ one.0, two.1 ∙ one.1, two.2 ∙ one.2)

same_ring : (f g : StoreFacts) → g ≡ f → StaysInRing f.log g.log
same_ring f g is = subst (λ (h : StoreFacts). StaysInRing f.log h.log) (sym is) (refl, refl, refl)

logged_stays : (log : LogAreaOf) (tx last : ℕ) (acts : List Act) → StaysInRing log (log_with log tx last acts)
logged_stays log tx last [] = (refl, refl, refl)
logged_stays log tx last (act ∷ acts) = let e = next_entry log tx last act in logged_stays (appended e log) tx e.lsn acts

changed_stays : (gives : Option (List (List ℕ))) (xs : List Change) (f g : StoreFacts) → ChangedBy gives xs f g → StaysInRing f.log g.log
changed_stays gives [] f g is = same_ring f g is
changed_stays gives (x ∷ xs) f g (p, present, rest) =
    let h = changed_facts x.block x.offset x.new p f in
    rings_joined f.log h.log g.log (logged_stays f.log f.tx f.last (change_acts f x.block x.offset x.new p)) (changed_stays gives xs h g rest)

stopped_stays : (gives : Option (List (List ℕ))) (xs : List Change) (f g : StoreFacts) → StoppedBy gives xs f g → StaysInRing f.log g.log
stopped_stays gives [] f g is = subst (λ (h : StoreFacts). StaysInRing f.log h.log) (sym is) (refl, refl, refl)
stopped_stays gives (x ∷ xs) f g (inl is) = subst (λ (h : StoreFacts). StaysInRing f.log h.log) (sym is) (refl, refl, refl)
stopped_stays gives (x ∷ xs) f g (inr (p, present, rest)) =
    let h = changed_facts x.block x.offset x.new p f in
    rings_joined f.log h.log g.log (logged_stays f.log f.tx f.last (change_acts f x.block x.offset x.new p)) (stopped_stays gives xs h g rest)

pub put_stays : {E : Type 0} (result : Result (Unit {0}) E) (xs : List Change) (gives : Option (List (List ℕ))) (f g : StoreFacts) → PutsFacts result xs gives f g → StaysInRing f.log g.log
put_stays (Ok tt) [] gives f g is = same_ring f g is
put_stays (Ok tt) (x ∷ xs) gives f g (h, changed, is) =
    subst (λ (k : StoreFacts). StaysInRing f.log k.log) (sym is)
    (rings_joined f.log h.log (committed_facts h).log (changed_stays gives (x ∷ xs) (begun_facts f) h changed) (logged_stays h.log h.tx h.last (Commit ∷ [])))
put_stays (Err e) xs gives f g (inl is) = same_ring f g is
put_stays (Err e) xs gives f g (inr is) = stopped_stays gives xs (begun_facts f) g is

pub none_most : (most : ℕ) (f : StoreFacts) → BeginsAtMost most f f
none_most most f = record { pages = refl; lap = refl; few = omega arith }

-- pages that are used end no further than a ring behind the oldest one
ends_upto : (sealed more old_sealed old_more oldest size : ℕ) → sealed - oldest + more ≤ size → oldest ≤ old_sealed → sealed + more ≤ old_sealed + old_more + size
ends_upto sealed more old_sealed old_more oldest size within low = omega (arith, within, low)

pub most_begun : (f g : StoreFacts) → IsKept f → IsKept g → StaysInRing f.log g.log → BeginsAtMost (ring_size f.log) f g
most_begun f g before now stays = record {
  pages = stays.0;
  lap = stays.1;
  few =
      let one = before.order.freed_pages in
      let two = before.order.synced_pages in
      let three = before.order.done_pages in
      let within = now.order.within in
      let long = stays.0 in
      let same = stays.2 in
      ends_upto g.log.sealed (cond (is_filling g.log) 1 0) f.log.sealed (cond (is_filling f.log) 1 0) g.log.oldest (ring_size f.log) (omega (arith, within, long)) (omega (arith, one, two, three, same));
}

-- where as many pages are used
ends_same : (sealed more old_sealed old_more oldest old_oldest : ℕ) → sealed - oldest + more ≡ old_sealed - old_oldest + old_more → oldest ≡ old_oldest → oldest ≤ sealed → old_oldest ≤ old_sealed → sealed + more ≡ old_sealed + old_more
ends_same sealed more old_sealed old_more oldest old_oldest used same low old_low = omega (arith, used, same, low, old_low)

pub none_used : (f g : StoreFacts) → IsKept f → IsKept g → StaysInRing f.log g.log → used_pages g.log ≡ used_pages f.log → BeginsNoPage f g
none_used f g before now stays used = record {
  pages = stays.0;
  lap = stays.1;
  begun =
      let one = before.order.freed_pages in
      let two = before.order.synced_pages in
      let three = before.order.done_pages in
      let a = now.order.freed_pages in
      let b = now.order.synced_pages in
      let c = now.order.done_pages in
      ends_same g.log.sealed (cond (is_filling g.log) 1 0) f.log.sealed (cond (is_filling f.log) 1 0) g.log.oldest f.log.oldest used stays.2 (omega (arith, a, b, c)) (omega (arith, one, two, three));
}
