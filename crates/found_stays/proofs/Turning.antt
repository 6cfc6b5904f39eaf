-- A step of a store writes no sector of the blocks by which its log is found, and the store keeps no body of them.
use Rattle.std.proofs.Common.{◌≡◌, subst, ℕ, ◌+◌, ◌-◌, ◌*◌, ◌%◌, ◌<◌, Bool, true, false, List, length, drop, slice_index, Option, Some, None, Result, refl, sym, ap, ◌∙◌, inl, inr, arith}
use Rattle.std.specs.Prelude.{◌||◌, is_some, unwrap_or, IfSome}
use Rattle.std.specs.List.{list_any, range_with_len}
use Rattle.std.proofs.lemmas.Bool.{true≢false, cases_Bool, and_from, le-leb, lt-ltb}
use Rattle.std.proofs.lemmas.List.{length-append, length-drop}
use Rattle.host_base.specs.declared.outside.Failed.{Failed}
use Rattle.disk_model.specs.declared.block.Block.{Block}
use Rattle.disk_model.specs.declared.block.BlockKind.{BlockKind}
use Rattle.disk_model.specs.declared.block.BlockKind.TheVariants.{Plain, FileRec, Index}
use Rattle.disk_model.specs.declared.block.Body.{Body}
use Rattle.disk_model.specs.Bytes.{zeros}
use Rattle.disk_model.specs.Content.{content_of}
use Rattle.disk_model.specs.Numbers.{spell}
use Rattle.disk_model.specs.Sectors.{sectors, sector_of, same_block}
use Rattle.fixup_record.specs.Protecting.{protected_bytes}
use Rattle.fixup_record.proofs.Protected.{length-protected}
use Rattle.sector_device.specs.Disks.{Disk, SeesDisk, is_within}
use Rattle.sector_device.specs.Moments.{Changes}
use Rattle.txn_core.specs.log_page.declared.places.LogPlace.{LogPlace}
use Rattle.txn_core.specs.log_page.PageSpellings.{page_front}
use Rattle.txn_core.specs.log_page.Restarts.{restart_spelling}
use Rattle.txn_core.proofs.log_page.Spelled.{length-restart_spelling}
use Rattle.txn_core.specs.log_area.Areas.{RingPageOf, page_sector as area_sector, page_first, restart_sector, held_page, made_page, sent_word}
use Rattle.txn_core.specs.store_model.Geometry.{SectorBytes}
use Rattle.txn_core.specs.store_model.Stores.{Store}
use Rattle.txn_core.specs.store_model.Volumes.{is_known}
use Rattle.txn_core.proofs.store_model.Volumes.{length-first_bytes}
use Rattle.txn_core.specs.store_claims.Windows.{StoreWindow}
use Rattle.txn_core.specs.ring_laws.Numbers.{LogSession, place_of_page}
use Rattle.txn_core.specs.ring_laws.PageBytes.{page_sector}
use Rattle.txn_core.proofs.ring_laws.Numbering.{in_ring}
use Rattle.txn_core.proofs.ring_laws.RingFacts.{has_ring}
use Rattle.txn_core.proofs.ring_laws.SeenDisks.{not_own}
use Rattle.txn_core.proofs.area_laws.Calling.{held_here}
use Rattle.flush_policy.specs.declared.facts.StoreStep.{StoreStep}
use Rattle.flush_policy.specs.declared.facts.StoreStep.TheVariants.{SealPage, WritePage, SyncDevice, WriteOut, BeginCheckpoint, WriteRestart}
use Rattle.txn_core.specs.device_blocks.declared.word.CheckWord.{CheckWord}
use Rattle.txn_core.specs.txn_model.Values.{StoreFacts, is_own}
use Rattle.txn_core.specs.txn_laws.Standing.{HasBytes, StandsBehindAs, StandsBehind, session_of}
use Rattle.txn_core.specs.txn_laws.Windows.{HasMachineAs, HasWindowAs, HasMachine, HasWindow}
use Rattle.txn_core.specs.txn_state.States.{IsStore}
use Rattle.txn_core.specs.Calls.{is_spelled}
use Rattle.txn_core.specs.Seen.{word_of}
use Rattle.txn_core.specs.Steps.{MayTurn, TurnsDevice}
use Rattle.txn_core.specs.Turns.{restart_page, SendsRestartPage}
use Rattle.txn_core.specs.Views.{present_on}
use Rattle.txn_core.proofs.Outs.{ready_dirty}
use Rattle.found_stays.specs.Found.{is_in, StaysFirst, AreOffLog, BearsFirst, StaysOver}
use Rattle.found_stays.proofs.Bearing.{or_true, in_found, none_stays, given_bears}
use Rattle.found_stays.proofs.Writing.{Misses, sync_stays, page_stays, out_stays}

-- ---- known blocks

pub found_own : (place : LogPlace) (found : List Block) (s : ℕ) → is_in found s ≡ true → is_own place found s ≡ true
found_own place found s inside = ap (λ (t : Bool). list_any (λ (k : ℕ). is_within (page_first place k) 8 s) (range_with_len 0 place.pages) || t) inside ∙ or_true (list_any (λ (k : ℕ). is_within (page_first place k) 8 s) (range_with_len 0 place.pages))

pub known_misses : (place : LogPlace) (found : List Block) (b : Block) → is_known (is_own place found) b ≡ true → Misses found b.first (sectors b.kind)
known_misses place found b known s inside = elim (cases_Bool (is_within b.first (sectors b.kind) s)) [
  | inl within ↦ absurd (true≢false (sym (found_own place found s inside) ∙ not_own (is_own place found) b s known within))
  | inr out ↦ out
]

some_sectors : (kind : BlockKind) → 0 < sectors kind
some_sectors Plain = omega arith
some_sectors FileRec = omega arith
some_sectors Index = omega arith

within_first : (b : Block) → is_within b.first (sectors b.kind) b.first ≡ true
within_first b = and_from _ _ (le-leb b.first b.first (omega arith)) (lt-ltb b.first (b.first + sectors b.kind) (let some = some_sectors b.kind in omega (arith, some)))

never_known : (place : LogPlace) (found : List Block) (b : Block) → list_any (same_block b) found ≡ true → is_known (is_own place found) b ≡ true → ⊥
never_known place found b listed known = true≢false (sym (found_own place found b.first (in_found b found b.first listed (within_first b))) ∙ not_own (is_own place found) b b.first known (within_first b))

-- ---- bodies

pub none_kept : (f : StoreFacts) (raw : Disk) (m : Store) (b : Block) → StandsBehind f raw m → list_any (same_block b) f.found ≡ true → f.body b ≡ None
none_kept f raw m b h listed = by (f.body b) refl
  where
    by : (o : Option Body) → f.body b ≡ o → o ≡ None
    by None at = refl
    by (Some x) at = absurd (never_known f.place f.found b listed (h.marks.known b (ap (λ (o : Option Body). is_some o) at)))

pub present_bears : (f : StoreFacts) (raw : Disk) (m : Store) (first : SectorBytes) (disk : List (List ℕ)) (b : Block) → StandsBehind f raw m → BearsFirst f.found first (sector_of disk) → list_any (same_block b) f.found ≡ true → present_on disk f b ≡ content_of first b
present_bears f raw m first disk b h bearing listed = ap (λ (o : Option Body). unwrap_or o (content_of (sector_of disk) b)) (none_kept f raw m b h listed) ∙ bearing b listed

pub given_present : (f : StoreFacts) (first : SectorBytes) (gives : Option (List (List ℕ))) (changes : Changes) → HasMachine changes f → SeesDisk gives changes.disk → StaysFirst f.found first changes
    → IfSome gives (λ disk. (b : Block) → list_any (same_block b) f.found ≡ true → present_on disk f b ≡ content_of first b)
given_present f first gives changes machine sees stays = by gives changes.disk refl sees (given_bears f.found first gives changes sees stays)
  where
    by : (o : Option (List (List ℕ))) (p : Option Disk) → changes.disk ≡ p → SeesDisk o p → IfSome o (λ disk. BearsFirst f.found first (sector_of disk)) → IfSome o (λ disk. (b : Block) → list_any (same_block b) f.found ≡ true → present_on disk f b ≡ content_of first b)
    by None p is seen_so bearing = tt
    by (Some disk) None is seen_so bearing = absurd seen_so
    by (Some disk) (Some raw) is seen_so bearing = λ b listed. (let m = machine raw is in present_bears f raw m.0 first disk b m.1 bearing listed)

-- ---- pages of the log

length-front : (last free : ℕ) → length (page_front last free) ≡ 0x40
unfolding page_front zeros spell
length-front last free = refl

length-made : (p : RingPageOf) → length p.bytes ≡ 4096 → length (made_page p) ≡ 4096
length-made p size = length-append (page_front p.last p.free) (drop 0x40 p.bytes) ∙ omega (arith, length-front p.last p.free, length-drop 0x40 p.bytes, size)

pub page_misses : (place : LogPlace) (found : List Block) (k at : ℕ) → at ≡ page_sector place k → k < place.pages → AreOffLog place found → Misses found at 8
unfolding page_sector
page_misses place found k at is lt off s inside = ap (λ (n : ℕ). is_within n 8 s) is ∙ off s k inside lt

-- where the page that is written next lies, and where the next restart page goes
module _ {ends : Bool} (f : StoreFacts) (disk : Disk) (m : Store) (h : StandsBehindAs ends f disk m) where
  page_lies : (area_sector f.log f.log.done ≡ page_sector f.place (place_of_page (session_of f h.lap) f.log.done)) × (place_of_page (session_of f h.lap) f.log.done < f.place.pages)
  page_lies =
      let s : LogSession = session_of f h.lap in
      let there = in_ring s (has_ring f.place h.stands.ring.ring.lies) f.log.done in
      let e : f.log.done % (f.log.pages - 4) + 4 ≡ place_of_page s f.log.done = ap (λ (p : ℕ). f.log.done % (p - 4) + 4) h.stands.ring.session.pages ∙ omega arith in
      (ap (λ (i : ℕ). slice_index f.log.firsts i) e ∙ h.stands.ring.session.firsts (place_of_page s f.log.done) there.inside, there.inside)

  page_size : f.log.done < f.log.sealed → (word : ℕ) → length (protected_bytes (made_page (held_page f.log f.log.done)) word) ≡ 4096
  page_size lt word = length-protected (made_page (held_page f.log f.log.done)) word ∙ length-made (held_page f.log f.log.done) (held_here (session_of f h.lap) f.log h.ring h.pages disk h.stands.ring lt).size

  restart_lies : (restart_sector f.log ≡ page_sector f.place f.log.restart) × (f.log.restart < f.place.pages)
  restart_lies =
      let area = h.stands.ring.area in
      let two = area.two in
      let some = area.some in
      let pages = h.stands.ring.session.pages in
      let inside : f.log.restart < f.place.pages = omega arith in
      (h.stands.ring.session.firsts f.log.restart inside, inside)

-- ---- each step

-- a body that is kept is as long as its block
kept_size : {ends : Bool} (f : StoreFacts) (disk : Disk) (m : Store) (c : Block) (x : Body) → StandsBehindAs ends f disk m → f.body c ≡ Some x → length x.bytes ≡ 512 * sectors c.kind
kept_size f disk m c x h kept =
    let held : HasBytes c (m.window.body c) (m.window.is_torn c) x = subst (λ (o : Option Body). IfSome o (HasBytes c (m.window.body c) (m.window.is_torn c))) kept (h.window.body c) in
    ap (λ (bytes : List ℕ). length bytes) held.bytes ∙ length-first_bytes (512 * sectors c.kind) (m.window.body c)

some_body : (o : Option Body) → is_some o ≡ true → (x : Body) × (o ≡ Some x)
some_body (Some x) some = (x, refl)
some_body None some = absurd (true≢false (sym some))

module _ {ends : Bool} {D : Type 0} (gives : D → Option (List (List ℕ))) (changes : D → Changes) (moment : D → ℕ) (count : ℕ) (first : SectorBytes) (f g : StoreFacts) (old new : D) (machine : HasMachineAs ends (changes old) f) (off : AreOffLog f.place f.found) where
  abbrev Stays : Type 0
  Stays = StaysOver count f.found first (changes old) (changes new)

  pub restart_stays : (clean : Bool) (result : Result (Unit {0}) Failed) → SendsRestartPage gives changes moment clean f g result old new → Stays
  restart_stays clean result sent =
      page_stays gives changes moment count f.found first (sent_word f.log.sent) (sent_word g.log.sent) (restart_sector f.log) (protected_bytes (restart_spelling (restart_page clean f))) result old new sent
      (λ d was. let m = machine d was in let lies = restart_lies f d m.0 m.1 in (
        λ word. length-protected (restart_spelling (restart_page clean f)) word ∙ length-restart_spelling (restart_page clean f),
        page_misses f.place f.found f.log.restart (restart_sector f.log) lies.0 lies.1 off,
      ))

  pub turn_stays : (step : StoreStep) (result : Result (Unit {0}) Failed) (words left : List (Block × CheckWord)) → ((c : Block) → (f.mark c).dirty ≡ true → is_some (f.body c) ≡ true) → MayTurn f step → TurnsDevice gives changes moment step result f g words left old new → Stays
  turn_stays SealPage result words left kept may turned = none_stays count f.found first (changes old) (changes new) (ap changes turned)
  turn_stays WritePage result words left kept may turned =
      page_stays gives changes moment count f.found first f.log.check g.log.check (area_sector f.log f.log.done) (protected_bytes (made_page (held_page f.log f.log.done))) result old new turned
      (λ d was. let m = machine d was in let lies = page_lies f d m.0 m.1 in (
        page_size f d m.0 m.1 may,
        page_misses f.place f.found (place_of_page (session_of f m.1.lap) f.log.done) (area_sector f.log f.log.done) lies.0 lies.1 off,
      ))
  turn_stays SyncDevice result words left kept may turned = sync_stays count (moment old) result f.found first (changes old) (changes new) turned.1
  turn_stays (WriteOut c) result words left kept may turned =
      let some = kept c (ready_dirty f c may) in
      let x = some_body (f.body c) some in
      out_stays gives changes moment count f.found first (is_spelled f c) (word_of words c) turned.now c x.0.bytes result old new (turned.sent x.0 x.1)
      (λ d was. let m = machine d was in (kept_size f d m.0 c x.0 m.1 x.1, known_misses f.place f.found c (m.1.marks.known c some)))
  turn_stays BeginCheckpoint result words left kept may turned = none_stays count f.found first (changes old) (changes new) (ap changes turned)
  turn_stays WriteRestart result words left kept may turned = restart_stays false result turned

pub store_keeps : (f : StoreFacts) → IsStore f → (c : Block) → (f.mark c).dirty ≡ true → is_some (f.body c) ≡ true
store_keeps f k c dirty = k.blocks.kept c ∙ ap (λ (t : Bool). t || (f.mark c).dead) dirty

-- ---- a store with a window

some_disk : (a b : Disk) → Some a ≡ Some b → a ≡ b
some_disk a b e = cc

pub window_machine : {ends : Bool} (changes : Changes) (f : StoreFacts) (w : StoreWindow) → HasWindowAs ends changes f w → HasMachineAs ends changes f
window_machine {ends} changes f w has disk is = (has.2, subst (λ (d : Disk). StandsBehindAs ends f d has.2) (some_disk has.0 disk (sym has.1 ∙ is)) has.3)

pub window_keeps : (changes : Changes) (f : StoreFacts) (w : StoreWindow) → HasWindow changes f w → (c : Block) → (f.mark c).dirty ≡ true → is_some (f.body c) ≡ true
window_keeps changes f w has c dirty = has.3.marks.kept c ∙ ap (λ (t : Bool). t || (f.mark c).dead) dirty
