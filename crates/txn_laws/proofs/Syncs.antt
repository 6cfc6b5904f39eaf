-- A sync that went well: where a restart page was written, it frees the ring up to the noted page.
use Rattle.std.proofs.Common.{◌≡◌, ◌≢◌, subst, ℕ, zero, suc, ◌+◌, ◌-◌, ◌*◌, ◌%◌, ◌<◌, ◌≤◌, Bool, true, false, cond, List, [], ◌∷◌, length, take, drop, get_or, Option, Some, None, Ok, refl, sym, ap, ap₂, ◌∙◌, inl, inr, arith}
use Rattle.std.specs.Prelude.{◌&&◌, ◌||◌, not, nat_le, is_some, IfSome, slice_index, unwrap_or}
use Rattle.std.proofs.lemmas.Bool.{cases_Bool, cases_lt, lt-leb, le-leb, leb-false, eq-eqb, ne_eqb}
use Rattle.std.proofs.lemmas.List.{length-take-le, length-append, length-drop, get_or-take, get_or-drop, drop-drop}
use Rattle.area_laws.specs.disk_model.declared.block.Block.{Block}
use Rattle.area_laws.specs.disk_model.declared.block.Body.{Body}
use Rattle.area_laws.specs.disk_model.Sectors.{sectors}
use Rattle.area_laws.specs.sector_device.Disks.{Disk, IsSized, seen, settled}
use Rattle.area_laws.specs.log_model.declared.entry.Entry.{Entry}
use Rattle.area_laws.specs.log_model.Logs.{first_undo, is_misplaced}
use Rattle.area_laws.specs.log_page.declared.restart.Restart.{Restart}
use Rattle.area_laws.specs.log_area.Areas.{place_at, synced_area, number_of}
use Rattle.store_claims.specs.store_model.Logs.{BodyBytes, commits, undone, has_update, IsOusted}
use Rattle.store_claims.specs.store_model.Stores.{Store}
use Rattle.store_claims.specs.store_model.Events.{Loses, MayBury, synced_store, buried, freed, Step}
use Rattle.store_claims.specs.store_model.Events.Step.{sync, sync_frees}
use Rattle.store_claims.specs.store_model.Rings.{Ring, entries_on, synced_places}
use Rattle.store_claims.specs.store_model.Volumes.{first_bytes}
use Rattle.store_claims.specs.Windows.{store_window}
use Rattle.store_claims.proofs.store_model.Told.{true≢false, all_drop}
use Rattle.store_claims.proofs.store_model.Lost.{has_drop, loses_at, loses_rest}
use Rattle.store_claims.proofs.store_model.Ends.{commits-drop_le}
use Rattle.store_claims.proofs.store_model.Rings.{entries_front, entries_longer, drop_entries, take_entries}
use Rattle.store_claims.proofs.store_model.Sound.{sound-step}
use Rattle.store_claims.proofs.store_model.Moving.{windows_move_law}
use Rattle.area_laws.specs.ring_laws.Numbers.{LogSession, ring_size}
use Rattle.area_laws.specs.ring_laws.RestartPages.{restart_synced}
use Rattle.area_laws.specs.ring_laws.StoreLogs.{LogNumbers}
use Rattle.area_laws.proofs.ring_laws.SeenDisks.{without_synced}
use Rattle.area_laws.proofs.ring_laws.StoreEvents.{log_synced, log_freed}
use Rattle.area_laws.specs.Standing.{Stands, freed_to}
use Rattle.area_laws.proofs.Joined.{syncs_all}
use Rattle.area_laws.proofs.Reading.{is_first, number_is}
use Rattle.txn_model.specs.Values.{StoreFacts, own_of}
use Rattle.txn_model.specs.Calls.{is_buried, durable_after, synced_facts}
use Rattle.txn_laws.proofs.Mountable.{own_synced}
use Rattle.txn_laws.proofs.Closed.{closes_synced, closes_freed}
use Rattle.txn_laws.specs.Standing.{HasBytes, IsKilled, StandsBehindAs, session_of, numbers_of}
use Rattle.txn_laws.specs.Windows.{SimulatesAs, MovesTo}
use Rattle.txn_laws.specs.Laws.{SyncsNow}
use Rattle.txn_laws.proofs.Telling.{by_device, known_before_sync, sized_of}
use Rattle.area_laws.specs.sector_device.Moments.{Changes}
use Rattle.std.specs.Option.{option_map}
use Rattle.store_claims.proofs.Moving.{claims_move}
use Rattle.store_claims.proofs.Staying.{claimed_stays}

pub and_left : (a b : Bool) → (a && b) ≡ true → a ≡ true
and_left true b is = refl
and_left false b is = absurd cc

pub and_right : (a b : Bool) → (a && b) ≡ true → b ≡ true
and_right true b is = is
and_right false b is = absurd cc

not_left : (a b : Bool) → a ≡ true → (a && b) ≡ false → b ≡ false
not_left true b is none = none
not_left false b is none = absurd (true≢false (sym is))

pub is_below : (a b : ℕ) → nat_le a b ≡ true → a ≤ b
is_below a b is = elim (cases_lt b a) [
  | inl less ↦ absurd (true≢false (sym is ∙ lt-leb a b less))
  | inr le ↦ le
]

-- what a list loses by an earlier place it loses by a later one
loses_later : (l : List Entry) (k d : ℕ) (x : Block) → k ≤ d → Loses l k x → Loses l d x
loses_later l k d x le lose = record {
  ousted = loses_at l k x lose d (λ tx. true) le;
  quiet = ap (λ (es : List Entry). has_update es x) (sym (drop-drop (d - k) k l ∙ ap (λ (n : ℕ). drop n l) (let e : k + (d - k) ≡ d = omega (arith, le) in e))) ∙ has_drop (d - k) (drop k l) x lose.quiet;
}

-- pages that have all entries are all pages, where none is empty
all_pages : (pages : List (List Entry)) (n : ℕ) → ((k : ℕ) → k < length pages → get_or pages k [] ≢ []) → length (entries_on pages) ≤ length (entries_on (take n pages)) → length pages ≤ n
all_pages [] n some le = omega arith
all_pages ([] ∷ pages) n some le = absurd (some 0 (omega arith) refl)
all_pages ((e ∷ es) ∷ pages) zero some le = absurd (omega (arith, le))
all_pages ((e ∷ es) ∷ pages) (suc n) some le =
    let rest = all_pages pages n (λ k lt. some (suc k) (omega (arith, lt))) (omega (arith, le, length-append (e ∷ es) (entries_on pages), length-append (e ∷ es) (entries_on (take n pages)))) in
    omega (arith, rest)

module _ {ends : Bool} (f : StoreFacts) (disk : Disk) (m : Store) (h : StandsBehindAs ends f disk m) where
  abbrev s : LogSession
  s = session_of f h.lap

  abbrev l : LogNumbers
  l = numbers_of f h.ring h.pages h.restarts h.fields h.noted

  abbrev g : StoreFacts
  g = synced_facts f

  abbrev r : Ring
  r = record h.ring { synced = h.ring.done; places = synced_places h.ring.places }

  abbrev gone : Block → Bool
  gone b = m.dead b && nat_le (f.mark b).killed f.log.done

  abbrev n : Store
  n = buried h.geometry (synced_store m) (λ b. m.dead b && nat_le (f.mark b).killed f.log.done)

  done_is : m.done ≡ length (entries_on (take (h.ring.done - h.ring.oldest) h.pages))
  done_is = h.holds.done

  -- ---- what is dropped

  -- what the pages before the killer's end lose
  loses_there : (b : Block) → m.dead b ≡ true → Loses m.log (length (entries_on (take ((f.mark b).killed - h.ring.oldest) h.pages))) b
  loses_there b dead =
      let x = h.by_pages.killed b dead in
      let k = (f.mark b).killed - h.ring.oldest in
      record {
        ousted = subst (λ (es : List Entry). IsOusted es b) (entries_front h.pages k ∙ ap (λ (es : List Entry). take (length (entries_on (take k h.pages))) es) (sym h.holds.kept.holds.log)) x.ousted;
        quiet = ap (λ (es : List Entry). has_update es b) (ap (λ (es : List Entry). drop (length (entries_on (take k h.pages))) es) h.holds.kept.holds.log ∙ drop_entries h.pages k) ∙ x.quiet;
      }

  loses : (b : Block) → m.dead b ≡ true → (f.mark b).killed ≤ f.log.done → Loses m.log m.done b
  loses b dead le =
      let k = (f.mark b).killed - h.ring.oldest in
      loses_later m.log (length (entries_on (take k h.pages))) m.done b (omega (arith, done_is, entries_longer h.pages k (h.ring.done - h.ring.oldest) (omega (arith, le, h.stands.ring.done)))) (loses_there b dead)

  all_gone : m.done ≡ length m.log → (b : Block) → m.dead b ≡ true → (f.mark b).killed ≤ f.log.done
  all_gone all b dead =
      let x = h.by_pages.killed b dead in
      let whole : length (entries_on h.pages) ≤ length (entries_on (take (h.ring.done - h.ring.oldest) h.pages)) = omega (arith, all, done_is, ap (λ (es : List Entry). length es) h.holds.kept.holds.log) in
      let pages = all_pages h.pages (h.ring.done - h.ring.oldest) h.by_pages.some whole in
      omega (arith, pages, x.within, h.stands.ring.done, h.stands.ring.ring.ring.oldest, h.stands.ring.ring.ring.synced)

  buries : MayBury (synced_store m) (λ b. m.dead b && nat_le (f.mark b).killed f.log.done)
  buries = record {
    dead = λ b is. and_left (m.dead b) (nat_le (f.mark b).killed f.log.done) is;
    lost = λ b is. loses b (and_left (m.dead b) (nat_le (f.mark b).killed f.log.done) is) (is_below (f.mark b).killed f.log.done (and_right (m.dead b) (nat_le (f.mark b).killed f.log.done) is));
    all = λ all b dead. ap₂ (λ (a : Bool) (c : Bool). a && c) dead (le-leb (f.mark b).killed f.log.done (all_gone all b dead));
  }

  -- what stays by the marks stays in the machine
  stays : (b : Block) → is_buried f.log.done (f.mark b) ≡ false → gone b ≡ false
  stays b none = elim (cases_Bool (m.dead b)) [
    | inl dead ↦
        let marked : (f.mark b).dead ≡ true = and_left (f.mark b).dead (h.geometry.has_spelling b (m.window.body b)) (sym (h.marks.dead b) ∙ dead) in
        ap (λ (v : Bool). v && nat_le (f.mark b).killed f.log.done) dead ∙ not_left (f.mark b).dead (nat_le (f.mark b).killed f.log.done) marked none
    | inr alive ↦ ap (λ (v : Bool). v && nat_le (f.mark b).killed f.log.done) alive
  ]

  same_body : (b : Block) → gone b ≡ false → n.window.body b ≡ m.window.body b
  same_body b none = ap (λ (v : Bool). λ i. cond v (h.geometry.decode b (seen (settled m.disk)) i) (m.window.body b i)) none

  same_torn : (b : Block) → gone b ≡ false → n.window.is_torn b ≡ m.window.is_torn b
  same_torn b none = ap (λ (v : Bool). cond v (h.geometry.torn b (seen (settled m.disk))) (m.window.is_torn b)) none

  same_before : (b : Block) → gone b ≡ false → n.window.was_torn 0 b ≡ m.window.was_torn 0 b
  same_before b none = ap (λ (v : Bool). cond v (h.geometry.torn b (seen (settled m.disk))) (m.window.was_torn 0 b)) none

  -- ---- commits

  abbrev c : ℕ
  c = commits (drop m.done m.log)

  c_is : c ≡ commits (entries_on (drop (h.ring.done - h.ring.oldest) h.pages))
  c_is = ap₂ (λ (d : ℕ) (es : List Entry). commits (drop d es)) done_is h.holds.kept.holds.log ∙ ap commits (drop_entries h.pages (h.ring.done - h.ring.oldest))

  few : c ≤ length m.window.waiting
  few = omega (arith, h.sound.counts, commits-drop_le m.log m.synced m.done h.sound.synced)

  kept_waiting : length (take c m.window.waiting) ≡ c
  kept_waiting = length-take-le c m.window.waiting few

  now_durable : durable_after f.log f.ends f.durable + c ≡ f.commits
  now_durable = elim (cases_lt f.log.synced f.log.done) [
    | inl less ↦
        let k = f.log.done - 1 - h.ring.oldest in
        let low = h.stands.ring.ring.ring.oldest in
        let area = h.stands.ring.area in
        let told = h.by_pages.ends k (omega (arith, less, h.stands.ring.counted, h.stands.ring.oldest, area.durable_pages, area.written_pages, area.sealed_pages)) (omega (arith, less, h.stands.ring.synced, h.stands.ring.oldest, area.durable_pages)) in
        let at : place_at f.log (f.log.done - 1) ≡ (h.ring.oldest + k) % ring_size s = ap₂ (λ (x : ℕ) (p : ℕ). x % (p - 4)) (let e : f.log.done - 1 ≡ h.ring.oldest + k = omega (arith, less, h.stands.ring.oldest, area.durable_pages) in e) h.stands.ring.session.pages in
        let next : suc k ≡ h.ring.done - h.ring.oldest = omega (arith, less, h.stands.ring.oldest, h.stands.ring.done, area.durable_pages) in
        ap (λ (v : Bool). cond v f.durable (slice_index f.ends (place_at f.log (f.log.done - 1))) + c) (ne_eqb f.log.synced f.log.done (λ e. omega (arith, less, e)))
        ∙ ap₂ (λ (x : ℕ) (y : ℕ). slice_index f.ends x + y) at (c_is ∙ ap (λ (d : ℕ). commits (entries_on (drop d h.pages))) (sym next)) ∙ told
    | inr more ↦
        let same : f.log.synced ≡ f.log.done = omega (arith, more, h.stands.ring.area.written_pages) in
        let rings : h.ring.synced ≡ h.ring.done = h.stands.ring.synced ∙ same ∙ sym h.stands.ring.done in
        let counts : m.synced ≡ m.done = h.holds.kept.holds.synced ∙ ap (λ (x : ℕ). length (entries_on (take (x - h.ring.oldest) h.pages))) rings ∙ sym done_is in
        let all : c ≡ length m.window.waiting = ap (λ (d : ℕ). commits (drop d m.log)) (sym counts) ∙ h.sound.counts in
        ap (λ (v : Bool). cond v f.durable (slice_index f.ends (place_at f.log (f.log.done - 1))) + c) (eq-eqb f.log.synced f.log.done same)
        ∙ ap (λ (x : ℕ). f.durable + x) all ∙ h.window.waiting
  ]

  -- ---- marks

  dirty_now : (b : Block) → n.dirty b ≡ ((g.mark b).dirty && h.geometry.has_spelling b (n.window.body b))
  dirty_now b = elim (cases_Bool (gone b)) [
    | inl is ↦
        let dead = and_left (m.dead b) (nat_le (f.mark b).killed f.log.done) is in
        let marked : (f.mark b).dead ≡ true = and_left (f.mark b).dead (h.geometry.has_spelling b (m.window.body b)) (sym (h.marks.dead b) ∙ dead) in
        let clean = h.marks.apart b marked in
        h.marks.dirty b ∙ ap (λ (v : Bool). v && h.geometry.has_spelling b (m.window.body b)) clean ∙ sym (ap (λ (v : Bool). v && h.geometry.has_spelling b (n.window.body b)) clean)
    | inr none ↦ h.marks.dirty b ∙ ap (λ (bytes : BodyBytes). (f.mark b).dirty && h.geometry.has_spelling b bytes) (sym (same_body b none))
  ]

  dead_now : (b : Block) → n.dead b ≡ ((g.mark b).dead && h.geometry.has_spelling b (n.window.body b))
  dead_now b = elim (cases_Bool (gone b)) [
    | inl is ↦
        let dead = and_left (m.dead b) (nat_le (f.mark b).killed f.log.done) is in
        let marked : (f.mark b).dead ≡ true = and_left (f.mark b).dead (h.geometry.has_spelling b (m.window.body b)) (sym (h.marks.dead b) ∙ dead) in
        let low = and_right (m.dead b) (nat_le (f.mark b).killed f.log.done) is in
        ap (λ (v : Bool). not v && m.dead b) is
        ∙ sym (ap₂ (λ (v : Bool) (u : Bool). (v && not (v && u)) && h.geometry.has_spelling b (n.window.body b)) marked low)
    | inr none ↦
        ap (λ (v : Bool). not v && m.dead b) none ∙ h.marks.dead b
        ∙ ap (λ (bytes : BodyBytes). (f.mark b).dead && h.geometry.has_spelling b bytes) (sym (same_body b none))
        ∙ by_low (f.mark b).dead (nat_le (f.mark b).killed f.log.done) (h.geometry.has_spelling b (n.window.body b))
        (ap (λ (v : Bool). v && nat_le (f.mark b).killed f.log.done) (ap (λ (bytes : BodyBytes). (f.mark b).dead && h.geometry.has_spelling b bytes) (same_body b none) ∙ sym (h.marks.dead b)) ∙ none)
  ]
    where
      by_low : (d low spelled : Bool) → ((d && spelled) && low) ≡ false → (d && spelled) ≡ ((d && not (d && low)) && spelled)
      by_low true true true is = absurd (true≢false is)
      by_low true true false is = refl
      by_low true false true is = refl
      by_low true false false is = refl
      by_low false low spelled is = refl

  kept_now : (b : Block) → is_some (g.body b) ≡ ((g.mark b).dirty || (g.mark b).dead)
  kept_now b = elim (cases_Bool (is_buried f.log.done (f.mark b))) [
    | inl is ↦
        let marked = and_left (f.mark b).dead (nat_le (f.mark b).killed f.log.done) is in
        ap (λ (v : Bool). is_some (cond v None (f.body b))) is
        ∙ sym (ap₂ (λ (x : Bool) (v : Bool). x || ((f.mark b).dead && not v)) (h.marks.apart b marked) is ∙ dead_none (f.mark b).dead)
    | inr none ↦
        ap (λ (v : Bool). is_some (cond v None (f.body b))) none ∙ h.marks.kept b
        ∙ ap (λ (x : Bool). (f.mark b).dirty || x) (sym (ap (λ (v : Bool). (f.mark b).dead && not v) none ∙ and_true (f.mark b).dead))
  ]
    where
      dead_none : (d : Bool) → (false || (d && not true)) ≡ false
      dead_none true = refl
      dead_none false = refl

      and_true : (d : Bool) → (d && not false) ≡ d
      and_true true = refl
      and_true false = refl

  some_kept : (b : Block) → is_some (g.body b) ≡ true → is_some (f.body b) ≡ true
  some_kept b is = elim (cases_Bool (is_buried f.log.done (f.mark b))) [
    | inl gone ↦ absurd (true≢false (sym is ∙ ap (λ (v : Bool). is_some (cond v None (f.body b))) gone))
    | inr none ↦ sym (ap (λ (v : Bool). is_some (cond v None (f.body b))) none) ∙ is
  ]

  owed_now : n.begun ≡ true → (b : Block) → n.owed b ≡ true → (g.mark b).owed ≡ true
  owed_now begun b is =
      let owed = and_right (not (gone b)) (m.owed b) is in
      let none = not_true (gone b) (and_left (not (gone b)) (m.owed b) is) in
      ap₂ (λ (x : Bool) (v : Bool). x && not v) (h.marks.owed begun b owed) (not_buried none (h.sound.owing begun b owed))
    where
      not_true : (v : Bool) → not v ≡ true → v ≡ false
      not_true true is = absurd (true≢false (sym is))
      not_true false is = refl

      not_buried : gone b ≡ false → (m.dirty b || m.dead b) ≡ true → is_buried f.log.done (f.mark b) ≡ false
      not_buried none held = elim (cases_Bool (is_buried f.log.done (f.mark b))) [
        | inl is ↦
            let marked = and_left (f.mark b).dead (nat_le (f.mark b).killed f.log.done) is in
            let clean : m.dirty b ≡ false = h.marks.dirty b ∙ ap (λ (v : Bool). v && h.geometry.has_spelling b (m.window.body b)) (h.marks.apart b marked) in
            let dead : m.dead b ≡ true = sym (ap (λ (v : Bool). v || m.dead b) clean) ∙ held in
            absurd (true≢false (sym (ap₂ (λ (v : Bool) (u : Bool). v && u) dead (and_right (f.mark b).dead (nat_le (f.mark b).killed f.log.done) is)) ∙ none))
        | inr not ↦ not
      ]

  -- ---- bodies

  body_now : (b : Block) → IfSome (g.body b) (HasBytes b (n.window.body b) (n.window.is_torn b))
  body_now b = elim (cases_Bool (is_buried f.log.done (f.mark b))) [
    | inl is ↦ subst (λ (v : Bool). IfSome (cond v None (f.body b)) (HasBytes b (n.window.body b) (n.window.is_torn b))) (sym is) tt
    | inr none ↦
        let none' = stays b none in
        subst (λ (v : Bool). IfSome (cond v None (f.body b)) (HasBytes b (n.window.body b) (n.window.is_torn b))) (sym none)
        (subst (λ (bytes : BodyBytes). IfSome (f.body b) (HasBytes b bytes (n.window.is_torn b))) (sym (same_body b none'))
        (subst (λ (t : Bool). IfSome (f.body b) (HasBytes b (m.window.body b) t)) (sym (same_torn b none')) (h.window.body b)))
  ]

  alive : (b : Block) → is_some (f.before b) ≡ true → is_buried f.log.done (f.mark b) ≡ false
  alive b some = elim (cases_Bool (f.mark b).dead) [
    | inl dead ↦ absurd (true≢false (sym (h.marks.changed b some) ∙ h.marks.apart b dead))
    | inr not ↦ ap (λ (v : Bool). v && nat_le (f.mark b).killed f.log.done) not
  ]

  before_now : (b : Block) (x : Option Body) → f.before b ≡ x → IfSome x (HasBytes b (undone n.window.draft n.window.body b) (n.window.was_torn 0 b))
  before_now b None is = tt
  before_now b (Some x) is =
      let none = stays b (alive b (ap (λ (o : Option Body). is_some o) is)) in
      subst (λ (bytes : BodyBytes). HasBytes b (λ i. unwrap_or (first_undo m.window.draft b i) (bytes i)) (n.window.was_torn 0 b) x) (sym (same_body b none))
      (subst (λ (t : Bool). HasBytes b (undone m.window.draft m.window.body b) t x) (sym (same_before b none))
      (subst (λ (o : Option Body). IfSome o (HasBytes b (undone m.window.draft m.window.body b) (m.window.was_torn 0 b))) is (h.window.before b)))

  -- ---- no restart page was written

  module _ (unnamed : f.log.named ≡ None) where
    early : m.replaced ≡ false
    early = h.holds.replaced ∙ h.stands.restarts.done ∙ ap (λ (o : Option ℕ). is_some o) unnamed

    abbrev step : Step h.geometry m n
    step = sync (λ b. m.dead b && nat_le (f.mark b).killed f.log.done) early buries

    oldest_is : freed_to f.log ≡ h.ring.oldest
    oldest_is = ap (λ (o : Option ℕ). unwrap_or o f.log.oldest) unnamed ∙ sym h.stands.ring.oldest

    dropped_none : (k : ℕ) → k ≡ 0 → drop k h.pages ≡ h.pages
    dropped_none k is = ap (λ (j : ℕ). drop j h.pages) is ∙ drop_zero h.pages
      where
        drop_zero : (ps : List (List Entry)) → drop 0 ps ≡ ps
        drop_zero [] = refl
        drop_zero (p ∷ ps) = refl

    stands_now : Stands s (synced_area f.log) r (restart_synced h.restarts) h.pages h.fields (settled disk)
    stands_now =
        subst (λ (ps : List (List Entry)). Stands s (synced_area f.log) r (restart_synced h.restarts) ps h.fields (settled disk)) (dropped_none (freed_to f.log - f.log.oldest) (omega (arith, oldest_is, h.stands.ring.oldest)))
        (subst (λ (o : ℕ). Stands s (synced_area f.log) (record h.ring { oldest = o; synced = h.ring.done; places = synced_places h.ring.places }) (restart_synced h.restarts) (drop (freed_to f.log - f.log.oldest) h.pages) h.fields (settled disk)) oldest_is
        (syncs_all s f.log h.ring h.restarts h.pages h.fields disk h.stands))

    syncs_well : IsSized (settled disk) → (n : Store) × StandsBehindAs ends (synced_facts f) (settled disk) n × MovesTo (λ b. is_buried f.log.done (f.mark b)) (store_window m) (store_window n)
    syncs_well sized = (n, stands, moves)
      where
        moves : MovesTo (λ b. is_buried f.log.done (f.mark b)) (store_window m) (store_window n)
        moves = record {
          is_open = refl;
          waiting = omega (arith, kept_waiting, few);
          present = λ b none. ap₂ (λ (bytes : BodyBytes) (t : Bool). record { bytes = first_bytes (512 * sectors b.kind) bytes; torn = t }) (same_body b (stays b none)) (same_torn b (stays b none));
          others = λ k le b none. subst (λ (j : ℕ). (store_window n).before j b ≡ (store_window m).before k b) (let e : 0 + k ≡ k = omega arith in e)
              (windows_move_law.members h.geometry m n step b (stays b none) k (omega (arith, le))).1;
          claimed = claims_move.step h.geometry m n step h.sound;
          shown = λ b will. claimed_stays.present h.geometry m n step h.sound b will refl;
          kept = λ k le b claims. subst (λ (j : ℕ). (store_window n).before j b ≡ (store_window m).before k b) (let e : 0 + k ≡ k = omega arith in e)
              (claimed_stays.members h.geometry m n step h.sound k b claims (omega (arith, le))).1;
        }

        stands : StandsBehindAs ends g (settled disk) n
        stands = record {
          geometry = h.geometry;
          volume = h.volume;
          lap = h.lap;
          ring = r;
          pages = h.pages;
          restarts = restart_synced h.restarts;
          fields = h.fields;
          noted = h.noted;
          stands = stands_now;
          holds = log_synced s l m disk h.holds n early
              (record { log_is = refl; synced_is = refl; done_is = refl; sent_is = refl; place_is = refl; begun_is = refl; renamed_is = refl; replaced_is = refl });
          below = h.below;
          note = subst (λ (o : Option ℕ). IfSome (cond (is_some o) None f.noted) (λ n. n ≡ h.noted)) (sym unnamed) h.note;
          same = ap settled h.same ∙ sym (without_synced (own_of f) disk);
          sized = sized;
          own_pages = own_synced h.restarts h.fields h.stands.restarts.restarts.restarts h.own_pages;
          closes = closes_synced ends f.log.sent h.restarts h.fields (length h.pages) (h.ring.oldest + length h.pages - h.noted) (h.stands.restarts.done ∙ ap (λ (o : Option ℕ). is_some o) unnamed) h.closes;
          placed = h.placed;
          sound = sound-step h.geometry m n step h.sound;
          window = record {
            is_open = h.window.is_open;
            tx = h.window.tx;
            waiting = ap (λ (x : ℕ). durable_after f.log f.ends f.durable + x) kept_waiting ∙ now_durable;
            body = body_now;
            changed = h.window.changed;
            before = λ b. before_now b (f.before b) refl;
          };
          marks = record {
            dirty = dirty_now;
            dead = dead_now;
            kept = kept_now;
            apart = λ b is. h.marks.apart b (and_left (f.mark b).dead (not (is_buried f.log.done (f.mark b))) is);
            lone = h.marks.lone;
            known = λ b is. h.marks.known b (some_kept b is);
            changed = h.marks.changed;
            wet = λ b is. absurd (true≢false (sym is));
            owed = owed_now;
            due = λ begun b is. absurd (true≢false (sym is));
          };
          by_pages = record {
            some = h.by_pages.some;
            imaged = λ b is. let x = h.by_pages.imaged b is in (record { has = x.0.has; last = x.0.last }, λ e. record { has = (x.1 e).has; last = (x.1 e).last });
            until = h.by_pages.until;
            commit = λ b k lt has. h.by_pages.commit b k (omega (arith, lt, kept_waiting, few)) (ap (λ (us : List Entry). has_update us b) (sym (get_or-take c m.window.waiting k [] (omega (arith, lt, kept_waiting)))) ∙ has);
            killed = λ b dead. h.by_pages.killed b (and_right (not (gone b)) (m.dead b) dead);
            counted = h.by_pages.counted;
            ends = λ k lt low. h.by_pages.ends k lt (omega (arith, low, h.stands.ring.ring.ring.synced));
            begun = h.by_pages.begun ∙ sym (ap (λ (o : Option ℕ). is_some (cond (is_some o) None f.noted)) unnamed);
          };
        }

  -- ---- a restart page was written

  module _ (p : ℕ) (named : f.log.named ≡ Some p) where
    late : m.replaced ≡ true
    late = h.holds.replaced ∙ h.stands.restarts.done ∙ ap (λ (o : Option ℕ). is_some o) named

    abbrev e : Store
    e = freed (buried h.geometry (synced_store m) (λ b. m.dead b && nat_le (f.mark b).killed f.log.done))

    abbrev free_step : Step h.geometry m e
    free_step = sync_frees (λ b. m.dead b && nat_le (f.mark b).killed f.log.done) late buries

    restart_begun : h.restarts.begun ≡ true
    restart_begun = h.holds.kept.restarts.begun (h.stands.restarts.done ∙ ap (λ (o : Option ℕ). is_some o) named)

    renamed : m.renamed ≡ true
    renamed = h.holds.kept.begun restart_begun

    begun : m.begun ≡ true
    begun = h.holds.renamed renamed

    low : h.ring.oldest ≤ h.noted
    low = h.holds.low begun

    high : h.noted ≤ f.log.done
    high = omega (arith, h.holds.kept.high renamed, h.stands.ring.ring.ring.synced, h.stands.ring.done)

    -- the restart page names the noted page
    names_noted : p ≡ h.noted
    names_noted =
        let x = subst (λ (o : Option ℕ). IfSome o (λ n. (x : Restart) × (h.fields (suc h.restarts.sure) ≡ Some x) × (number_of f.log x.oldest ≡ n))) named h.stands.restarts.names in
        sym x.2 ∙ ap (number_of f.log) (h.holds.names.next x.0 restart_begun x.1 ∙ sym (is_first s f.log h.ring h.restarts h.pages h.fields disk h.stands h.noted))
        ∙ number_is s f.log h.ring h.restarts h.pages h.fields disk h.stands h.noted

    freed_is : freed_to f.log ≡ h.noted
    freed_is = ap (λ (o : Option ℕ). unwrap_or o f.log.oldest) named ∙ names_noted

    abbrev k : ℕ
    k = h.noted - h.ring.oldest

    abbrev rest : List (List Entry)
    rest = drop (h.noted - h.ring.oldest) h.pages

    abbrev t : Ring
    t = record h.ring { oldest = h.noted; synced = h.ring.done; places = synced_places h.ring.places }

    stands_freed : Stands s (synced_area f.log) t (restart_synced h.restarts) rest h.fields (settled disk)
    stands_freed =
        subst (λ (i : ℕ). Stands s (synced_area f.log) t (restart_synced h.restarts) (drop i h.pages) h.fields (settled disk)) (let i : freed_to f.log - f.log.oldest ≡ h.noted - h.ring.oldest = omega (arith, freed_is, h.stands.ring.oldest) in i)
        (subst (λ (o : ℕ). Stands s (synced_area f.log) (record h.ring { oldest = o; synced = h.ring.done; places = synced_places h.ring.places }) (restart_synced h.restarts) (drop (freed_to f.log - f.log.oldest) h.pages) h.fields (settled disk)) freed_is
        (syncs_all s f.log h.ring h.restarts h.pages h.fields disk h.stands))

    place_is : m.place ≡ length (entries_on (take k h.pages))
    place_is = h.holds.place begun

    rest_is : drop m.place m.log ≡ entries_on rest
    rest_is = ap₂ (λ (i : ℕ) (es : List Entry). drop i es) place_is h.holds.kept.holds.log ∙ drop_entries h.pages k

    few_pages : k ≤ length h.pages
    few_pages = let area = h.stands.ring.area in omega (arith, low, high, h.stands.ring.counted, h.stands.ring.oldest, area.durable_pages, area.written_pages, area.sealed_pages)

    length-rest : h.noted + length rest ≡ h.ring.oldest + length h.pages
    length-rest = omega (arith, length-drop k h.pages, few_pages, low)

    in_rest : (i : ℕ) → i < length rest → k + i < length h.pages
    in_rest i lt = omega (arith, lt, length-drop k h.pages)

    -- a dead body that stays stands behind the noted page
    killed_rest : (b : Block) → e.dead b ≡ true → IsKilled rest h.noted (f.mark b).killed b
    killed_rest b is =
        let dead = and_right (not (gone b)) (m.dead b) is in
        let x = h.by_pages.killed b dead in
        let above = stays_above b dead (not_true (gone b) (and_left (not (gone b)) (m.dead b) is)) in
        let j = (f.mark b).killed - h.ring.oldest in
        let i = (f.mark b).killed - h.noted in
        let all : k + i ≡ j = omega (arith, low, high, above) in
        let lost = loses_rest m.log m.place (length (entries_on (take j h.pages))) b (has_there b dead) (loses_there b dead) in
        let parts = take_entries h.pages k i in
        let front : length (entries_on (take j h.pages)) - m.place ≡ length (entries_on (take i rest)) = omega (arith, parts, place_is, ap (λ (n : ℕ). length (entries_on (take n h.pages))) all) in
        record {
          ousted = subst (λ (es : List Entry). IsOusted es b) (ap₂ (λ (n : ℕ) (es : List Entry). take n es) front rest_is ∙ sym (entries_front rest i)) lost.ousted;
          quiet = ap (λ (ps : List (List Entry)). has_update (entries_on ps) b) (drop-drop i k h.pages ∙ ap (λ (n : ℕ). drop n h.pages) all) ∙ x.quiet;
          within = omega (arith, x.within, length-rest);
        }
      where
        not_true : (v : Bool) → not v ≡ true → v ≡ false
        not_true true is = absurd (true≢false (sym is))
        not_true false is = refl

        stays_above : (b : Block) → m.dead b ≡ true → gone b ≡ false → f.log.done < (f.mark b).killed
        stays_above b dead none = leb-false (f.mark b).killed f.log.done (not_left (m.dead b) (nat_le (f.mark b).killed f.log.done) dead none)

        has_there : (b : Block) → m.dead b ≡ true → has_update (drop m.place m.log) b ≡ true
        has_there b dead = elim ((h.sound.shades_next begun).of_dead b dead) [
          | inl x ↦ x.0
          | inr x ↦ absurd (true≢false (sym x.0 ∙ (h.sound.paid renamed b).0))
        ]

    frees_well : IsSized (settled disk) → (n : Store) × StandsBehindAs ends (synced_facts f) (settled disk) n × MovesTo (λ b. is_buried f.log.done (f.mark b)) (store_window m) (store_window n)
    frees_well sized = (e, stands, moves)
      where
        moves : MovesTo (λ b. is_buried f.log.done (f.mark b)) (store_window m) (store_window e)
        moves = record {
          is_open = refl;
          waiting = omega (arith, kept_waiting, few);
          present = λ b none. ap₂ (λ (bytes : BodyBytes) (t : Bool). record { bytes = first_bytes (512 * sectors b.kind) bytes; torn = t }) (same_body b (stays b none)) (same_torn b (stays b none));
          others = λ k le b none. subst (λ (j : ℕ). (store_window e).before j b ≡ (store_window m).before k b) (let e : 0 + k ≡ k = omega arith in e)
              (windows_move_law.members h.geometry m e free_step b (stays b none) k (omega (arith, le))).1;
          claimed = claims_move.step h.geometry m e free_step h.sound;
          shown = λ b will. claimed_stays.present h.geometry m e free_step h.sound b will refl;
          kept = λ k le b claims. subst (λ (j : ℕ). (store_window e).before j b ≡ (store_window m).before k b) (let e : 0 + k ≡ k = omega arith in e)
              (claimed_stays.members h.geometry m e free_step h.sound k b claims (omega (arith, le))).1;
        }

        stands : StandsBehindAs ends g (settled disk) e
        stands = record {
          geometry = h.geometry;
          volume = h.volume;
          lap = h.lap;
          ring = t;
          pages = rest;
          restarts = restart_synced h.restarts;
          fields = h.fields;
          noted = h.noted;
          stands = stands_freed;
          holds = log_freed s l m disk h.holds late e
              (record { log_is = refl; synced_is = refl; done_is = refl; sent_is = refl; place_is = refl; begun_is = refl; renamed_is = refl; replaced_is = refl });
          below = λ is. absurd (true≢false (sym is));
          note = subst (λ (o : Option ℕ). IfSome (cond (is_some o) None f.noted) (λ n. n ≡ h.noted)) (sym named) tt;
          same = ap settled h.same ∙ sym (without_synced (own_of f) disk);
          sized = sized;
          own_pages = own_synced h.restarts h.fields h.stands.restarts.restarts.restarts h.own_pages;
          closes = closes_freed ends f.log.sent h.restarts h.fields (length h.pages) (h.ring.oldest + length h.pages - h.noted) (length rest) (h.noted + length rest - h.noted)
              (h.stands.restarts.done ∙ ap (λ (o : Option ℕ). is_some o) named) restart_begun (omega (arith, length-rest)) (omega (arith, length-rest)) h.closes;
          placed = all_drop (λ (x : Entry). is_misplaced f.place.clusters x.act ≡ false) m.place m.log h.placed;
          sound = sound-step h.geometry m e free_step h.sound;
          window = record {
            is_open = h.window.is_open;
            tx = h.window.tx;
            waiting = ap (λ (x : ℕ). durable_after f.log f.ends f.durable + x) kept_waiting ∙ now_durable;
            body = body_now;
            changed = h.window.changed;
            before = λ b. before_now b (f.before b) refl;
          };
          marks = record {
            dirty = dirty_now;
            dead = dead_now;
            kept = kept_now;
            apart = λ b is. h.marks.apart b (and_left (f.mark b).dead (not (is_buried f.log.done (f.mark b))) is);
            lone = h.marks.lone;
            known = λ b is. h.marks.known b (some_kept b is);
            changed = h.marks.changed;
            wet = λ b is. absurd (true≢false (sym is));
            owed = λ begun b is. absurd (true≢false (sym begun));
            due = λ begun b is. absurd (true≢false (sym begun));
          };
          by_pages = record {
            some = λ i lt none. h.by_pages.some (k + i) (in_rest i lt) (sym (get_or-drop k h.pages i []) ∙ none);
            imaged = λ b is. let x = (h.by_pages.imaged b is).1 begun in (record { has = x.has; last = x.last }, λ late. absurd (true≢false (sym late)));
            until = λ b i lt has. (let old = h.by_pages.until b (k + i) (in_rest i lt) (ap (λ (es : List Entry). has_update es b) (sym (get_or-drop k h.pages i [])) ∙ has) in omega (arith, old, low));
            commit = λ b k lt has. h.by_pages.commit b k (omega (arith, lt, kept_waiting, few)) (ap (λ (us : List Entry). has_update us b) (sym (get_or-take c m.window.waiting k [] (omega (arith, lt, kept_waiting)))) ∙ has);
            killed = killed_rest;
            counted = h.by_pages.counted;
            ends = λ i lt from.
                (let at : h.noted + i ≡ h.ring.oldest + (k + i) = omega (arith, low) in
                ap₂ (λ (x : ℕ) (ps : List (List Entry)). slice_index f.ends (x % ring_size s) + commits (entries_on ps)) at (drop-drop (suc i) k h.pages ∙ ap (λ (n : ℕ). drop n h.pages) (let n : k + suc i ≡ suc (k + i) = omega arith in n))
                ∙ h.by_pages.ends (k + i) (in_rest i lt) (omega (arith, from, low, h.stands.ring.ring.ring.synced)));
            begun = sym (ap (λ (o : Option ℕ). is_some (cond (is_some o) None f.noted)) named);
          };
        }

  -- ---- either

  pub any_syncs : IsSized (settled disk) → (n : Store) × StandsBehindAs ends (synced_facts f) (settled disk) n × MovesTo (λ b. is_buried f.log.done (f.mark b)) (store_window m) (store_window n)
  any_syncs sized = by_named f.log.named refl
    where
      by_named : (o : Option ℕ) → f.log.named ≡ o → (n : Store) × StandsBehindAs ends (synced_facts f) (settled disk) n × MovesTo (λ b. is_buried f.log.done (f.mark b)) (store_window m) (store_window n)
      by_named None is = syncs_well is sized
      by_named (Some p) is = frees_well p is sized

-- ---- the call

pub is_synced : {ends : Bool} {D : Type 0} (changes : D → Changes) (moment : D → ℕ) (count : ℕ) (f : StoreFacts) (old new : D) → IfSome (changes new).disk IsSized → SyncsNow changes moment (Ok tt) old new
    → SimulatesAs ends count (moment old) (changes old) (changes new) f (synced_facts f) (MovesTo (λ b. is_buried f.log.done (f.mark b)))
is_synced changes moment count f old new sized syncs =
    by_device count (moment old) (moment old) (changes old) (changes new) f (synced_facts f) (MovesTo (λ b. is_buried f.log.done (f.mark b))) refl refl
    (known_before_sync _ _ (changes old) (changes new) syncs) (omega arith) syncs.past
    (λ disk m is h. let known : (changes new).disk ≡ Some (settled disk) = syncs.ok ∙ ap (option_map settled) is in let it = any_syncs f disk m h (sized_of (changes new) (settled disk) known sized) in (settled disk, known, it.0, it.1, it.2))
