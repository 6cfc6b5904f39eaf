-- A block is written out, in a write that answers Ok or fails.
use Rattle.txn_laws.proofs.Rivals.{among_rivals}
use Rattle.std.specs.List.{list_any}
use Rattle.area_laws.proofs.sector_device.Images.{known_after_write}
use Rattle.host_base.specs.declared.outside.Failed.{Failed}
use Rattle.std.proofs.Common.{◌≡◌, subst, ℕ, zero, suc, ◌+◌, ◌-◌, ◌*◌, ◌^◌, ◌<◌, ◌≤◌, Bool, true, false, cond, List, [], ◌∷◌, length, drop, get_or, Option, Some, None, Ok, refl, sym, ap, ap₂, ◌∙◌, inl, inr, arith, Err}
use Rattle.std.specs.Prelude.{if◌then◌else◌, ◌&&◌, ◌||◌, not, nat_le, is_some, IfSome, unwrap_or, Contains}
use Rattle.std.proofs.lemmas.Bool.{cases_Bool}
use Rattle.area_laws.specs.disk_model.declared.block.Block.{Block}
use Rattle.area_laws.specs.disk_model.declared.block.Body.{Body}
use Rattle.area_laws.specs.disk_model.Sectors.{sectors, same_block, are_rivals}
use Rattle.area_laws.specs.disk_model.declared.block.BlockKind.{BlockKind}
use Rattle.area_laws.proofs.disk_model.Frames.{same_block-is}
use Rattle.area_laws.specs.fixup_record.Protecting.{protected_bytes}
use Rattle.area_laws.specs.fixup_record.Spellings.{has_spelling, is_sequenced, spelled}
use Rattle.area_laws.proofs.fixup_record.Protected.{length-protected}
use Rattle.area_laws.specs.sector_device.Disks.{Disk, IsSized, IsBetween, put, seen, is_within}
use Rattle.area_laws.specs.sector_device.Moments.{Changes}
use Rattle.std.specs.Option.{option_map}
use Rattle.area_laws.specs.sector_device.Sectors.{sectors_of}
use Rattle.area_laws.specs.sector_device.WholeSectors.{length-sectors_of}
use Rattle.area_laws.specs.log_model.declared.entry.Entry.{Entry}
use Rattle.area_laws.specs.log_model.Logs.{first_undo, is_in_grid}
use Rattle.txn_laws.specs.Laws.{SendsBody}
use Rattle.store_claims.specs.store_model.Logs.{BodyBytes, undone, has_update}
use Rattle.store_claims.specs.store_model.Geometry.{PutsAll, Puts}
use Rattle.store_claims.specs.store_model.Stores.{Window, Store, is_held}
use Rattle.store_claims.specs.store_model.Events.{reread, MayWriteOut, Spells, written_out, Step, put_in_part}
use Rattle.store_claims.specs.store_model.Events.Step.{write_out, write_out_fails}
use Rattle.store_claims.specs.store_model.Rings.{entries_on}
use Rattle.store_claims.specs.store_model.Volumes.{is_known, first_bytes, sectors_from, is_free}
use Rattle.store_claims.specs.Windows.{store_window}
use Rattle.store_claims.proofs.store_model.Told.{true≢false, or_left, or_right, same_self, rival_apart, rivals_both, rivals_other, or-true, or-false}
use Rattle.store_claims.proofs.store_model.Known.{is_in}
use Rattle.store_claims.proofs.store_model.Lost.{has_none}
use Rattle.store_claims.proofs.store_model.Volumes.{length-first_bytes}
use Rattle.store_claims.proofs.store_model.Devices.{spells_body}
use Rattle.store_claims.proofs.store_model.Rings.{drop_entries}
use Rattle.store_claims.proofs.store_model.Sound.{sound-step}
use Rattle.store_claims.proofs.store_model.Moving.{windows_move_law}
use Rattle.area_laws.specs.ring_laws.Numbers.{LogSession}
use Rattle.area_laws.specs.ring_laws.PageBytes.{page_sector, AreAlike}
use Rattle.area_laws.specs.ring_laws.StoreDisks.{disk_without}
use Rattle.area_laws.specs.ring_laws.StoreLogs.{LogNumbers}
use Rattle.area_laws.proofs.ring_laws.LogSectors.{kept_elsewhere}
use Rattle.area_laws.proofs.ring_laws.SeenDisks.{not_own, without_written, without_failed}
use Rattle.area_laws.proofs.ring_laws.StoreEvents.{log_kept}
use Rattle.area_laws.proofs.Joined.{stays}
use Rattle.txn_model.specs.declared.mark.Mark.{Mark}
use Rattle.txn_model.specs.Values.{StoreFacts, own_of}
use Rattle.txn_model.specs.Calls.{is_ready, is_noted, written_out_facts, sent_out_facts, rivals_of}
use Rattle.txn_laws.specs.Standing.{HasBytes, IsMarked, IsKilled, StandsBehind, session_of, numbers_of}
use Rattle.txn_laws.specs.Windows.{Simulates, MovesTo}
use Rattle.txn_laws.proofs.Telling.{by_device, known_before_write, sized_of}
use Rattle.txn_laws.proofs.PageWrites.{page_is_own}
use Rattle.txn_laws.proofs.Syncs.{and_left, and_right, is_below}
use Rattle.store_claims.specs.Claims.{claims_of}
use Rattle.store_claims.proofs.Moving.{claims_move}
use Rattle.store_claims.proofs.Staying.{claimed_stays}
use Rattle.txn_laws.proofs.Claiming.{stay_same}

not_is : (v : Bool) → not v ≡ true → v ≡ false
not_is true is = absurd (true≢false (sym is))
not_is false is = refl

pub spelled_length : (kind : BlockKind) (check : ℕ) (bytes : List ℕ) → length (spelled kind check bytes) ≡ length bytes
unfolding spelled
spelled_length kind check bytes = go (is_sequenced kind bytes)
  where
    go : (v : Bool) → length (if v then protected_bytes bytes check else bytes) ≡ length bytes
    go true = length-protected bytes check
    go false = refl

-- pages from a place on have no update where each of them has none
none_from : (b : Block) (pages : List (List Entry)) (d : ℕ) → ((k : ℕ) → k < length pages → d ≤ k → has_update (get_or pages k []) b ≡ false) → has_update (entries_on (drop d pages)) b ≡ false
none_from b [] zero none = refl
none_from b [] (suc d) none = refl
none_from b (page ∷ pages) zero none =
    has_none page (entries_on pages) b (none 0 (omega arith) (omega arith)) (ap (λ (ps : List (List Entry)). has_update (entries_on ps) b) (sym (all pages)) ∙ none_from b pages 0 (λ k lt le. none (suc k) (omega (arith, lt)) (omega arith)))
  where
    all : (ps : List (List Entry)) → drop 0 ps ≡ ps
    all [] = refl
    all (p ∷ ps) = refl
none_from b (page ∷ pages) (suc d) none = none_from b pages d (λ k lt le. none (suc k) (omega (arith, lt)) (omega (arith, le)))

-- the parts of what is ready
pub record IsReady (f : StoreFacts) (b : Block) : Type 0 where
  pub dirty : (f.mark b).dirty ≡ true
  pub free : is_some (f.before b) ≡ false
  pub commit : (f.mark b).commit ≤ f.durable
  pub until : (f.mark b).until ≤ f.log.synced

ready_parts : (f : StoreFacts) (b : Block) → is_ready f b ≡ true → IsReady f b
ready_parts f b is =
    let one = and_left (((f.mark b).dirty && not (is_some (f.before b))) && nat_le (f.mark b).commit f.durable) (nat_le (f.mark b).until f.log.synced) is in
    let two = and_left ((f.mark b).dirty && not (is_some (f.before b))) (nat_le (f.mark b).commit f.durable) one in
    record {
      dirty = and_left (f.mark b).dirty (not (is_some (f.before b))) two;
      free = not_is (is_some (f.before b)) (and_right (f.mark b).dirty (not (is_some (f.before b))) two);
      commit = is_below (f.mark b).commit f.durable (and_right ((f.mark b).dirty && not (is_some (f.before b))) (nat_le (f.mark b).commit f.durable) one);
      until = is_below (f.mark b).until f.log.synced (and_right (((f.mark b).dirty && not (is_some (f.before b))) && nat_le (f.mark b).commit f.durable) (nat_le (f.mark b).until f.log.synced) is);
    }

module _ (f : StoreFacts) (disk : Disk) (m : Store) (b : Block) (x : Body) (kept : f.body b ≡ Some x) (ready : is_ready f b ≡ true) (spells : has_spelling b.kind x.bytes ≡ true) (h : StandsBehind f disk m) where
  abbrev s : LogSession
  s = session_of f h.lap

  abbrev l : LogNumbers
  l = numbers_of f h.ring h.pages h.restarts h.fields h.noted

  parts : IsReady f b
  parts = ready_parts f b ready

  bytes_are : x.bytes ≡ first_bytes (512 * sectors b.kind) (m.window.body b)
  bytes_are = (subst (λ (o : Option Body). IfSome o (HasBytes b (m.window.body b) (m.window.is_torn b))) kept (h.window.body b)).bytes

  spelled_now : h.geometry.has_spelling b (m.window.body b) ≡ true
  spelled_now = h.volume.has_spelling b (m.window.body b) ∙ ap (has_spelling b.kind) (sym bytes_are) ∙ spells

  dirty : m.dirty b ≡ true
  dirty = h.marks.dirty b ∙ ap₂ (λ (u : Bool) (v : Bool). u && v) parts.dirty spelled_now

  held : is_held m b ≡ true
  held = ap (λ (v : Bool). v || has_update m.window.draft b) dirty

  known : is_known (own_of f) b ≡ true
  known = h.marks.known b (ap (λ (o : Option Body). is_some o) kept)

  -- ---- it may be written out

  settled : (us : List Entry) → Contains m.window.waiting us → has_update us b ≡ false
  settled us in_waiting = elim (cases_Bool (has_update us b)) [
    | inl has ↦
        let at = h.by_pages.commit b in_waiting.0 in_waiting.1 (ap (λ (es : List Entry). has_update es b) (at_default in_waiting.0 m.window.waiting us in_waiting.1 ∙ in_waiting.2) ∙ has) in
        absurd (omega (arith, at, in_waiting.1, parts.commit, h.window.waiting))
    | inr none ↦ none
  ]
    where
      at_default : (k : ℕ) (xs : List (List Entry)) (d : List Entry) → k < length xs → get_or xs k [] ≡ get_or xs k d
      at_default k [] d lt = absurd (omega (arith, lt))
      at_default zero (x ∷ xs) d lt = refl
      at_default (suc k) (x ∷ xs) d lt = at_default k xs d (omega (arith, lt))

  logged : has_update (drop m.synced m.log) b ≡ false
  logged =
      ap₂ (λ (n : ℕ) (es : List Entry). has_update (drop n es) b) h.holds.kept.holds.synced h.holds.kept.holds.log
      ∙ ap (λ (es : List Entry). has_update es b) (drop_entries h.pages (h.ring.synced - h.ring.oldest))
      ∙ none_from b h.pages (h.ring.synced - h.ring.oldest) (λ k lt le. by_has k lt le (has_update (get_or h.pages k []) b) refl)
    where
      by_has : (k : ℕ) → k < length h.pages → h.ring.synced - h.ring.oldest ≤ k → (v : Bool) → has_update (get_or h.pages k []) b ≡ v → has_update (get_or h.pages k []) b ≡ false
      by_has k lt le false is = is
      by_has k lt le true is = absurd (omega (arith, h.by_pages.until b k lt is, parts.until, le, h.stands.ring.synced))

  may : MayWriteOut m b
  may = record { dirty = dirty; free = h.window.changed b ∙ parts.free; settled = settled; logged = logged }

  -- ---- the sectors that are written

  abbrev new : ℕ → List (List ℕ)
  new check = sectors_of (spelled b.kind check x.bytes)

  length-spelled : (check : ℕ) → length (spelled b.kind check x.bytes) ≡ 512 * sectors b.kind
  length-spelled check = spelled_length b.kind check x.bytes ∙ ap length bytes_are ∙ length-first_bytes (512 * sectors b.kind) (m.window.body b)

  sized_new : (check : ℕ) → length (new check) ≡ sectors b.kind
  sized_new check = length-sectors_of (spelled b.kind check x.bytes) ∙ omega (arith, length-spelled check)

  spells_new : (check : ℕ) → check < 2 ^ 16 → Spells h.geometry m.window b (sectors_from b.first (new check))
  spells_new check small =
      subst (λ (bytes : List ℕ). Spells h.geometry m.window b (sectors_from b.first (sectors_of (spelled b.kind check bytes)))) (sym bytes_are)
      (spells_body (own_of f) h.geometry h.volume m.window b check spelled_now small)

  -- the log isn't touched
  alike : (check : ℕ) (now : Disk) → IsBetween disk (put b.first (new check) disk) now → AreAlike s.place 0 s.place.pages disk now
  alike check now between = kept_elsewhere s.place 0 s.place.pages b.first (new check) disk now (λ k i low lt few. apart k i lt few (is_within b.first (length (new check)) (page_sector s.place k + i)) refl) between
    where
      apart : (k i : ℕ) → k < f.place.pages → i < 8 → (v : Bool) → is_within b.first (length (new check)) (page_sector f.place k + i) ≡ v → is_within b.first (length (new check)) (page_sector f.place k + i) ≡ false
      apart k i lt few false is = is
      apart k i lt few true is =
          let inside : is_within b.first (sectors b.kind) (page_sector f.place k + i) ≡ true = ap (λ (c : ℕ). is_within b.first c (page_sector f.place k + i)) (sym (sized_new check)) ∙ is in
          let own = page_is_own f.place f.found k (page_sector f.place k + i) lt (is_in (page_sector f.place k) 8 (page_sector f.place k + i) (omega arith) (omega (arith, few))) in
          absurd (true≢false (sym own ∙ not_own (own_of f) b (page_sector f.place k + i) known inside))

  -- ---- rivals

  -- of its rivals none is dirty, and none was changed by the open transaction
  not_dirty : (c : Block) → are_rivals b c ≡ true → m.dirty c ≡ false
  not_dirty c rival = or_left (m.dirty c) (has_update m.window.draft c) (h.sound.lone b c rival held)

  not_changed : (c : Block) → is_some (f.before c) ≡ true → are_rivals b c ≡ false
  not_changed c some = by_rival (are_rivals b c) refl
    where
      by_rival : (v : Bool) → are_rivals b c ≡ v → are_rivals b c ≡ false
      by_rival false is = is
      by_rival true is = absurd (true≢false (sym (h.window.changed c ∙ some) ∙ or_right (m.dirty c) (has_update m.window.draft c) (h.sound.lone b c is held)))

  own_alive : (f.mark b).dead ≡ false
  own_alive = by_dead (f.mark b).dead refl
    where
      by_dead : (v : Bool) → (f.mark b).dead ≡ v → (f.mark b).dead ≡ false
      by_dead false is = is
      by_dead true is = absurd (true≢false (sym parts.dirty ∙ h.marks.apart b is))

  -- ---- what the window keeps

  abbrev w' : Disk → Window
  w' now = reread h.geometry now (are_rivals b) m.window

  same_body : (now : Disk) (c : Block) → are_rivals b c ≡ false → (w' now).body c ≡ m.window.body c
  same_body now c none = ap (λ (v : Bool). λ i. cond v (h.geometry.decode c (seen now) i) (m.window.body c i)) none

  same_torn : (now : Disk) (c : Block) → are_rivals b c ≡ false → (w' now).is_torn c ≡ m.window.is_torn c
  same_torn now c none = ap (λ (v : Bool). cond v (h.geometry.torn c (seen now)) (m.window.is_torn c)) none

  same_before : (now : Disk) (c : Block) → are_rivals b c ≡ false → (w' now).was_torn 0 c ≡ m.window.was_torn 0 c
  same_before now c none = ap (λ (v : Bool). cond v (h.geometry.torn c (seen now)) (m.window.was_torn 0 c)) none

  body_kept : (now : Disk) (c : Block) → are_rivals b c ≡ false → IfSome (f.body c) (HasBytes c ((w' now).body c) ((w' now).is_torn c))
  body_kept now c none =
      subst (λ (bytes : BodyBytes). IfSome (f.body c) (HasBytes c bytes ((w' now).is_torn c))) (sym (same_body now c none))
      (subst (λ (t : Bool). IfSome (f.body c) (HasBytes c (m.window.body c) t)) (sym (same_torn now c none)) (h.window.body c))

  before_kept : (now : Disk) (c : Block) (y : Option Body) → f.before c ≡ y → IfSome y (HasBytes c (undone (w' now).draft (w' now).body c) ((w' now).was_torn 0 c))
  before_kept now c None is = tt
  before_kept now c (Some y) is =
      let none = not_changed c (ap (λ (o : Option Body). is_some o) is) in
      subst (λ (bytes : BodyBytes). HasBytes c (λ i. unwrap_or (first_undo m.window.draft c i) (bytes i)) ((w' now).was_torn 0 c) y) (sym (same_body now c none))
      (subst (λ (t : Bool). HasBytes c (undone m.window.draft m.window.body c) t y) (sym (same_before now c none))
      (subst (λ (o : Option Body). IfSome o (HasBytes c (undone m.window.draft m.window.body c) (m.window.was_torn 0 c))) is (h.window.before c)))

  -- ---- what a checkpoint waits for

  in_grid : (c : Block) → is_some (f.body c) ≡ true → is_in_grid c ≡ true
  in_grid c some = and_left (is_in_grid c) (is_free (own_of f) c) (h.marks.known c some)

  held_body : (c : Block) → (m.dirty c || m.dead c) ≡ true → is_some (f.body c) ≡ true
  held_body c is = h.marks.kept c ∙ either (m.dirty c) (m.dead c) refl refl is
    where
      either : (u v : Bool) → m.dirty c ≡ u → m.dead c ≡ v → (u || v) ≡ true → ((f.mark c).dirty || (f.mark c).dead) ≡ true
      either true v one two or = ap (λ (x : Bool). x || (f.mark c).dead) (and_left (f.mark c).dirty (h.geometry.has_spelling c (m.window.body c)) (sym (h.marks.dirty c) ∙ one))
      either false true one two or = or-true (f.mark c).dirty (f.mark c).dead (and_left (f.mark c).dead (h.geometry.has_spelling c (m.window.body c)) (sym (h.marks.dead c) ∙ two))
      either false false one two or = absurd (true≢false (sym or))

  noted_own : m.begun ≡ true → m.owed b ≡ true → is_noted f.mark b ≡ true
  noted_own begun owed = ap (λ (v : Bool). v || list_any (λ c. (f.mark c).owed) (rivals_of b)) (h.marks.owed begun b owed)

  noted_rival : m.begun ≡ true → (c : Block) → are_rivals b c ≡ true → m.owed c ≡ true → is_noted f.mark b ≡ true
  noted_rival begun c rival owed =
      or-true (f.mark b).owed (list_any (λ c. (f.mark c).owed) (rivals_of b))
      (among_rivals b c (λ c. (f.mark c).owed) rival (in_grid b (ap (λ (o : Option Body). is_some o) kept)) (in_grid c (held_body c (h.sound.owing begun c owed))) (h.marks.owed begun c owed))

  noted_one : m.begun ≡ true → (c : Block) → are_rivals b c ≡ true → (m.owed b || m.owed c) ≡ true → is_noted f.mark b ≡ true
  noted_one begun c rival is = by_own (m.owed b) refl is
    where
      by_own : (v : Bool) → m.owed b ≡ v → (m.owed b || m.owed c) ≡ true → is_noted f.mark b ≡ true
      by_own true e or = noted_own begun e
      by_own false e or = noted_rival begun c rival (sym (ap (λ (v : Bool). v || m.owed c) e) ∙ or)

  -- ---- the write answered Ok

  abbrev g : StoreFacts
  g = written_out_facts b f

  abbrev n : Disk → Store
  n now = written_out h.geometry m b (disk_without (own_of f) now)

  -- the mark of the block, of a rival, and of another one
  at_own : (c : Block) → same_block c b ≡ true → g.mark c ≡ record (f.mark c) { dirty = false; wet = true; owed = false; due = (f.mark c).due || is_noted f.mark b }
  at_own c same = ap (λ (v : Bool). cond v (record (f.mark c) { dirty = false; wet = true; owed = false; due = (f.mark c).due || is_noted f.mark b }) (cond (are_rivals b c) (record (f.mark c) { dead = false; owed = false }) (f.mark c))) same

  other_than : (c : Block) → same_block c b ≡ false → g.mark c ≡ cond (are_rivals b c) (record (f.mark c) { dead = false; owed = false }) (f.mark c)
  other_than c none = ap (λ (v : Bool). cond v (record (f.mark c) { dirty = false; wet = true; owed = false; due = (f.mark c).due || is_noted f.mark b }) (cond (are_rivals b c) (record (f.mark c) { dead = false; owed = false }) (f.mark c))) none

  at_rival : (c : Block) → same_block c b ≡ false → are_rivals b c ≡ true → g.mark c ≡ record (f.mark c) { dead = false; owed = false }
  at_rival c none rival = other_than c none ∙ ap (λ (v : Bool). cond v (record (f.mark c) { dead = false; owed = false }) (f.mark c)) rival

  at_other : (c : Block) → same_block c b ≡ false → are_rivals b c ≡ false → g.mark c ≡ f.mark c
  at_other c none away = other_than c none ∙ ap (λ (v : Bool). cond v (record (f.mark c) { dead = false; owed = false }) (f.mark c)) away

  not_same : (c : Block) → are_rivals b c ≡ true → same_block c b ≡ false
  not_same c rival = rival_apart c b (rivals_both c b ∙ rival)

  -- what holds of the block, of its rivals and of others holds of all
  by_block : (P : Block → Type 0) → ((c : Block) → same_block c b ≡ true → P c) → ((c : Block) → same_block c b ≡ false → are_rivals b c ≡ true → P c)
      → ((c : Block) → same_block c b ≡ false → are_rivals b c ≡ false → P c) → (c : Block) → P c
  by_block P own rival other c = elim (cases_Bool (same_block c b)) [
    | inl same ↦ own c same
    | inr none ↦ elim (cases_Bool (are_rivals b c)) [
      | inl is ↦ rival c none is
      | inr away ↦ other c none away
    ]
  ]

  is_b : (c : Block) → same_block c b ≡ true → c ≡ b
  is_b c same = same_block-is c b same

  away_own : (c : Block) → same_block c b ≡ true → are_rivals b c ≡ false
  away_own c same = ap (λ (d : Block). are_rivals b d) (is_b c same) ∙ rivals_other b

  same_mark : {X : Type 0} (of : Mark → X) → ((y : Mark) (due : Bool) → of (record y { dirty = false; wet = true; owed = false; due = due }) ≡ of y) → ((y : Mark) → of (record y { dead = false; owed = false }) ≡ of y)
      → (c : Block) → of (g.mark c) ≡ of (f.mark c)
  same_mark of own rival = by_block (λ c. of (g.mark c) ≡ of (f.mark c))
      (λ c same. ap of (at_own c same) ∙ own (f.mark c) ((f.mark c).due || is_noted f.mark b))
      (λ c none is. ap of (at_rival c none is) ∙ rival (f.mark c))
      (λ c none away. ap of (at_other c none away))

  dirty_now : (now : Disk) (c : Block) → (n now).dirty c ≡ ((g.mark c).dirty && h.geometry.has_spelling c ((n now).window.body c))
  dirty_now now = by_block (λ c. (n now).dirty c ≡ ((g.mark c).dirty && h.geometry.has_spelling c ((n now).window.body c)))
      (λ c same. ap (λ (v : Bool). not v && m.dirty c) same ∙ sym (ap (λ (y : Mark). y.dirty && h.geometry.has_spelling c ((n now).window.body c)) (at_own c same)))
      (λ c none is. ap (λ (v : Bool). not v && m.dirty c) none ∙ not_dirty c is
      ∙ sym (ap (λ (v : Bool). v && h.geometry.has_spelling c ((n now).window.body c)) (ap (λ (y : Mark). y.dirty) (at_rival c none is) ∙ h.marks.lone b c is parts.dirty)))
      (λ c none away. ap (λ (v : Bool). not v && m.dirty c) none ∙ h.marks.dirty c
      ∙ ap₂ (λ (y : Mark) (bytes : BodyBytes). y.dirty && h.geometry.has_spelling c bytes) (sym (at_other c none away)) (sym (same_body (disk_without (own_of f) now) c away)))

  dead_now : (now : Disk) (c : Block) → (n now).dead c ≡ ((g.mark c).dead && h.geometry.has_spelling c ((n now).window.body c))
  dead_now now = by_block (λ c. (n now).dead c ≡ ((g.mark c).dead && h.geometry.has_spelling c ((n now).window.body c)))
      (λ c same. ap (λ (v : Bool). not v && m.dead c) (away_own c same) ∙ h.marks.dead c
      ∙ ap₂ (λ (y : Bool) (bytes : BodyBytes). y && h.geometry.has_spelling c bytes) (sym (ap (λ (y : Mark). y.dead) (at_own c same))) (sym (same_body (disk_without (own_of f) now) c (away_own c same))))
      (λ c none is. ap (λ (v : Bool). not v && m.dead c) is ∙ sym (ap (λ (y : Mark). y.dead && h.geometry.has_spelling c ((n now).window.body c)) (at_rival c none is)))
      (λ c none away. ap (λ (v : Bool). not v && m.dead c) away ∙ h.marks.dead c
      ∙ ap₂ (λ (y : Mark) (bytes : BodyBytes). y.dead && h.geometry.has_spelling c bytes) (sym (at_other c none away)) (sym (same_body (disk_without (own_of f) now) c away)))

  kept_now : (c : Block) → is_some (g.body c) ≡ ((g.mark c).dirty || (g.mark c).dead)
  kept_now = by_block (λ c. is_some (g.body c) ≡ ((g.mark c).dirty || (g.mark c).dead))
      (λ c same. ap (λ (v : Bool). is_some (cond (v || are_rivals b c) None (f.body c))) same
      ∙ sym (ap (λ (y : Mark). y.dirty || y.dead) (at_own c same) ∙ ap (λ (d : Block). (f.mark d).dead) (is_b c same) ∙ own_alive))
      (λ c none is. ap₂ (λ (v : Bool) (u : Bool). is_some (cond (v || u) None (f.body c))) none is
      ∙ sym (ap (λ (y : Mark). y.dirty || y.dead) (at_rival c none is) ∙ ap (λ (v : Bool). v || false) (h.marks.lone b c is parts.dirty)))
      (λ c none away. ap₂ (λ (v : Bool) (u : Bool). is_some (cond (v || u) None (f.body c))) none away ∙ h.marks.kept c ∙ sym (ap (λ (y : Mark). y.dirty || y.dead) (at_other c none away)))

  apart_now : (c : Block) → (g.mark c).dead ≡ true → (g.mark c).dirty ≡ false
  apart_now = by_block (λ c. (g.mark c).dead ≡ true → (g.mark c).dirty ≡ false)
      (λ c same is. ap (λ (y : Mark). y.dirty) (at_own c same))
      (λ c none is dead. absurd (true≢false (sym dead ∙ ap (λ (y : Mark). y.dead) (at_rival c none is))))
      (λ c none away dead. ap (λ (y : Mark). y.dirty) (at_other c none away) ∙ h.marks.apart c (sym (ap (λ (y : Mark). y.dead) (at_other c none away)) ∙ dead))

  -- what is dirty was so, and what isn't stays so
  was_dirty : (c : Block) → (g.mark c).dirty ≡ true → (f.mark c).dirty ≡ true
  was_dirty = by_block (λ c. (g.mark c).dirty ≡ true → (f.mark c).dirty ≡ true)
      (λ c same is. absurd (true≢false (sym is ∙ ap (λ (y : Mark). y.dirty) (at_own c same))))
      (λ c none rival is. sym (ap (λ (y : Mark). y.dirty) (at_rival c none rival)) ∙ is)
      (λ c none away is. sym (ap (λ (y : Mark). y.dirty) (at_other c none away)) ∙ is)

  clean_still : (c : Block) → (f.mark c).dirty ≡ false → (g.mark c).dirty ≡ false
  clean_still c is = by_value (g.mark c).dirty refl
    where
      by_value : (v : Bool) → (g.mark c).dirty ≡ v → (g.mark c).dirty ≡ false
      by_value false e = e
      by_value true e = absurd (true≢false (sym (was_dirty c e) ∙ is))

  some_kept : (c : Block) → is_some (g.body c) ≡ true → is_some (f.body c) ≡ true
  some_kept c is = by_value (same_block c b || are_rivals b c) refl
    where
      by_value : (v : Bool) → (same_block c b || are_rivals b c) ≡ v → is_some (f.body c) ≡ true
      by_value true e = absurd (true≢false (sym is ∙ ap (λ (v : Bool). is_some (cond v None (f.body c))) e))
      by_value false e = sym (ap (λ (v : Bool). is_some (cond v None (f.body c))) e) ∙ is

  changed_now : (c : Block) → is_some (f.before c) ≡ true → (g.mark c).dirty ≡ true
  changed_now c some = by_value (same_block c b) refl
    where
      by_value : (v : Bool) → same_block c b ≡ v → (g.mark c).dirty ≡ true
      by_value true same = absurd (true≢false (sym some ∙ ap (λ (d : Block). is_some (f.before d)) (is_b c same) ∙ parts.free))
      by_value false none = ap (λ (y : Mark). y.dirty) (at_other c none (not_changed c some)) ∙ h.marks.changed c some

  wet_still : (c : Block) → (f.mark c).wet ≡ true → (g.mark c).wet ≡ true
  wet_still = by_block (λ c. (f.mark c).wet ≡ true → (g.mark c).wet ≡ true)
      (λ c same is. ap (λ (y : Mark). y.wet) (at_own c same))
      (λ c none rival is. ap (λ (y : Mark). y.wet) (at_rival c none rival) ∙ is)
      (λ c none away is. ap (λ (y : Mark). y.wet) (at_other c none away) ∙ is)

  own_wet : (g.mark b).wet ≡ true
  own_wet = ap (λ (y : Mark). y.wet) (at_own b (same_self b))

  marked_still : (c : Block) → IsMarked (λ (y : Mark). y.wet) f c → IsMarked (λ (y : Mark). y.wet) g c
  marked_still c (inl is) = inl (wet_still c is)
  marked_still c (inr y) = inr (y.0, y.1, wet_still y.0 y.2)

  wet_now : (now : Disk) (c : Block) → (n now).wet c ≡ true → IsMarked (λ (y : Mark). y.wet) g c
  wet_now now c is = by_value (same_block c b) refl (are_rivals b c) refl
    where
      by_value : (u : Bool) → same_block c b ≡ u → (v : Bool) → are_rivals b c ≡ v → IsMarked (λ (y : Mark). y.wet) g c
      by_value true same v e = inl (ap (λ (y : Mark). y.wet) (at_own c same))
      by_value false none true rival = inr (b, rival, own_wet)
      by_value false none false away = marked_still c (h.marks.wet c (sym (ap₂ (λ (u : Bool) (v : Bool). (u || v) || m.wet c) none away) ∙ is))

  due_still : (c : Block) → (f.mark c).due ≡ true → (g.mark c).due ≡ true
  due_still = by_block (λ c. (f.mark c).due ≡ true → (g.mark c).due ≡ true)
      (λ c same is. ap (λ (y : Mark). y.due) (at_own c same) ∙ ap (λ (v : Bool). v || is_noted f.mark b) is)
      (λ c none rival is. ap (λ (y : Mark). y.due) (at_rival c none rival) ∙ is)
      (λ c none away is. ap (λ (y : Mark). y.due) (at_other c none away) ∙ is)

  due_marked : (c : Block) → IsMarked (λ (y : Mark). y.due) f c → IsMarked (λ (y : Mark). y.due) g c
  due_marked c (inl is) = inl (due_still c is)
  due_marked c (inr y) = inr (y.0, y.1, due_still y.0 y.2)

  own_due : (c : Block) → same_block c b ≡ true → is_noted f.mark b ≡ true → (g.mark c).due ≡ true
  own_due c same noted = ap (λ (y : Mark). y.due) (at_own c same) ∙ or-true (f.mark c).due (is_noted f.mark b) noted

  owed_now : (now : Disk) → m.begun ≡ true → (c : Block) → (n now).owed c ≡ true → (g.mark c).owed ≡ true
  owed_now now begun c is =
      let away = not_is (same_block c b || are_rivals b c) (and_left (not (same_block c b || are_rivals b c)) (m.owed c) is) in
      ap (λ (y : Mark). y.owed) (at_other c (or_left (same_block c b) (are_rivals b c) away) (or_right (same_block c b) (are_rivals b c) away))
      ∙ h.marks.owed begun c (and_right (not (same_block c b || are_rivals b c)) (m.owed c) is)

  due_now : (now : Disk) → m.begun ≡ true → (c : Block) → (n now).due c ≡ true → IsMarked (λ (y : Mark). y.due) g c
  due_now now begun c is = by_due (m.due c) refl
    where
      by_due : (v : Bool) → m.due c ≡ v → IsMarked (λ (y : Mark). y.due) g c
      by_due true e = due_marked c (h.marks.due begun c e)
      by_due false e = by_value (same_block c b) refl
        where
          written : ((same_block c b || are_rivals b c) && (m.owed b || m.owed c)) ≡ true
          written = sym (or-false ((same_block c b || are_rivals b c) && (m.owed b || m.owed c))) ∙ ap (λ (v : Bool). ((same_block c b || are_rivals b c) && (m.owed b || m.owed c)) || v) (sym e) ∙ is

          by_value : (u : Bool) → same_block c b ≡ u → IsMarked (λ (y : Mark). y.due) g c
          by_value true same =
              let owed : (m.owed b || m.owed b) ≡ true = ap (λ (d : Block). m.owed b || m.owed d) (sym (is_b c same)) ∙ and_right (same_block c b || are_rivals b c) (m.owed b || m.owed c) written in
              inl (own_due c same (noted_own begun (either (m.owed b) owed)))
            where
              either : (v : Bool) → (v || v) ≡ true → v ≡ true
              either true or = refl
              either false or = or
          by_value false none =
              let rival : are_rivals b c ≡ true = sym (ap (λ (v : Bool). v || are_rivals b c) none) ∙ and_left (same_block c b || are_rivals b c) (m.owed b || m.owed c) written in
              inr (b, rival, own_due b (same_self b) (noted_one begun c rival (and_right (same_block c b || are_rivals b c) (m.owed b || m.owed c) written)))

  body_now : (now : Disk) (c : Block) → IfSome (g.body c) (HasBytes c ((n now).window.body c) ((n now).window.is_torn c))
  body_now now c = by_value (same_block c b || are_rivals b c) refl
    where
      by_value : (v : Bool) → (same_block c b || are_rivals b c) ≡ v → IfSome (g.body c) (HasBytes c ((n now).window.body c) ((n now).window.is_torn c))
      by_value true e = subst (λ (v : Bool). IfSome (cond v None (f.body c)) (HasBytes c ((n now).window.body c) ((n now).window.is_torn c))) (sym e) tt
      by_value false e =
          subst (λ (v : Bool). IfSome (cond v None (f.body c)) (HasBytes c ((n now).window.body c) ((n now).window.is_torn c))) (sym e)
          (body_kept (disk_without (own_of f) now) c (or_right (same_block c b) (are_rivals b c) e))

  killed_now : (now : Disk) (c : Block) → (n now).dead c ≡ true → IsKilled h.pages h.ring.oldest (g.mark c).killed c
  killed_now now c dead =
      subst (λ (k : ℕ). IsKilled h.pages h.ring.oldest k c) (sym (same_mark (λ (y : Mark). y.killed) (λ y due. refl) (λ y. refl) c))
      (h.by_pages.killed c (and_right (not (are_rivals b c)) (m.dead c) dead))

  between : (check : ℕ) (now : Disk) → now ≡ put b.first (new check) disk → IsBetween disk (put b.first (new check) disk) now
  between check now is = subst (λ (d : Disk). IsBetween disk (put b.first (new check) disk) d) (sym is) (record { durable = λ i. refl; written = λ i. inr refl })

  puts : (check : ℕ) (now : Disk) → now ≡ put b.first (new check) disk → PutsAll h.geometry b (sectors_from b.first (new check)) m.disk (disk_without (own_of f) now)
  puts check now is = subst (λ (d : Disk). PutsAll h.geometry b (sectors_from b.first (new check)) d (disk_without (own_of f) now)) (sym h.same)
      (subst (λ (d : Disk). PutsAll h.geometry b (sectors_from b.first (new check)) (disk_without (own_of f) disk) (disk_without (own_of f) d)) (sym is)
      (without_written (own_of f) h.geometry h.volume b (new check) known (sized_new check) disk))

  abbrev step : (check : ℕ) → check < 2 ^ 16 → (now : Disk) → now ≡ put b.first (new check) disk → Step h.geometry m (n now)
  step check small now is = write_out b (sectors_from b.first (new check)) (disk_without (own_of f) now) may (spells_new check small) (puts check now is)

  pub goes_out : (check : ℕ) → check < 2 ^ 16 → (now : Disk) → now ≡ put b.first (sectors_of (spelled b.kind check x.bytes)) disk → IsSized now
      → (n : Store) × StandsBehind (written_out_facts b f) now n × MovesTo (are_rivals b) (store_window m) (store_window n)
  goes_out check small now is sized = (n now, stands, moves)
    where
      moves : MovesTo (are_rivals b) (store_window m) (store_window (n now))
      moves = record {
        is_open = refl;
        waiting = omega arith;
        present = λ c none. ap₂ (λ (bytes : BodyBytes) (t : Bool). record { bytes = first_bytes (512 * sectors c.kind) bytes; torn = t }) (same_body (disk_without (own_of f) now) c none) (same_torn (disk_without (own_of f) now) c none);
        others = λ k le c none. subst (λ (j : ℕ). (store_window (n now)).before j c ≡ (store_window m).before k c) (let e : 0 + k ≡ k = omega arith in e)
            (windows_move_law.members h.geometry m (n now) (step check small now is) c none k (omega (arith, le))).1;
        claimed = stay_same (claims_of m) (claims_of (n now)) (claims_move.step h.geometry m (n now) (step check small now is) h.sound);
        shown = λ c will. claimed_stays.present h.geometry m (n now) (step check small now is) h.sound c will refl;
        kept = λ k le c claims. subst (λ (j : ℕ). (store_window (n now)).before j c ≡ (store_window m).before k c) (let e : 0 + k ≡ k = omega arith in e)
            (claimed_stays.members h.geometry m (n now) (step check small now is) h.sound k c claims (omega (arith, le))).1;
      }

      stands : StandsBehind g now (n now)
      stands = record {
        geometry = h.geometry;
        volume = h.volume;
        lap = h.lap;
        ring = h.ring;
        pages = h.pages;
        restarts = h.restarts;
        fields = h.fields;
        noted = h.noted;
        stands = stays s f.log h.ring h.restarts h.pages h.fields disk now h.stands (alike check now (between check now is));
        holds = log_kept s l m disk h.holds (n now) now
            (record { log_is = refl; synced_is = refl; done_is = refl; sent_is = refl; place_is = refl; begun_is = refl; renamed_is = refl; replaced_is = refl }) (alike check now (between check now is));
        below = h.below;
        note = h.note;
        same = refl;
        sized = sized;
        own_pages = h.own_pages;
        closes = h.closes;
        placed = h.placed;
        sound = sound-step h.geometry m (n now) (step check small now is) h.sound;
        window = record { is_open = h.window.is_open; tx = h.window.tx; waiting = h.window.waiting; body = body_now now; changed = h.window.changed; before = λ c. before_kept (disk_without (own_of f) now) c (f.before c) refl };
        marks = record {
          dirty = dirty_now now;
          dead = dead_now now;
          kept = kept_now;
          apart = apart_now;
          lone = λ c d rival is. clean_still d (h.marks.lone c d rival (was_dirty c is));
          known = λ c is. h.marks.known c (some_kept c is);
          changed = changed_now;
          wet = wet_now now;
          owed = owed_now now;
          due = due_now now;
        };
        by_pages = record {
          some = h.by_pages.some;
          imaged = λ c is. let y = h.by_pages.imaged c (sym (same_mark (λ (y : Mark). y.imaged) (λ y due. refl) (λ y. refl) c) ∙ is) in
              (record { has = y.0.has; last = y.0.last }, λ e. record { has = (y.1 e).has; last = (y.1 e).last });
          until = λ c k lt has. subst (λ (u : ℕ). h.ring.oldest + suc k ≤ u) (sym (same_mark (λ (y : Mark). y.until) (λ y due. refl) (λ y. refl) c)) (h.by_pages.until c k lt has);
          commit = λ c k lt has. subst (λ (u : ℕ). f.commits ≤ k + u) (sym (same_mark (λ (y : Mark). y.commit) (λ y due. refl) (λ y. refl) c)) (h.by_pages.commit c k lt has);
          killed = killed_now now;
          counted = h.by_pages.counted;
          ends = h.by_pages.ends;
          begun = h.by_pages.begun;
        };
      }

  -- ---- the write failed

  abbrev gf : StoreFacts
  gf = sent_out_facts b f

  abbrev nf : Disk → Store
  nf now = put_in_part h.geometry m b (disk_without (own_of f) now)

  failed_own : (c : Block) → same_block c b ≡ true → gf.mark c ≡ record (f.mark c) { wet = true; due = (f.mark c).due || is_noted f.mark b }
  failed_own c same = ap (λ (v : Bool). cond v (record (f.mark c) { wet = true; due = (f.mark c).due || is_noted f.mark b }) (cond (are_rivals b c) (record (f.mark c) { dead = false; owed = false }) (f.mark c))) same

  failed_rival : (c : Block) → same_block c b ≡ false → are_rivals b c ≡ true → gf.mark c ≡ record (f.mark c) { dead = false; owed = false }
  failed_rival c none rival =
      ap₂ (λ (v : Bool) (u : Bool). cond v (record (f.mark c) { wet = true; due = (f.mark c).due || is_noted f.mark b }) (cond u (record (f.mark c) { dead = false; owed = false }) (f.mark c))) none rival

  failed_other : (c : Block) → same_block c b ≡ false → are_rivals b c ≡ false → gf.mark c ≡ f.mark c
  failed_other c none away =
      ap₂ (λ (v : Bool) (u : Bool). cond v (record (f.mark c) { wet = true; due = (f.mark c).due || is_noted f.mark b }) (cond u (record (f.mark c) { dead = false; owed = false }) (f.mark c))) none away

  failed_mark : {X : Type 0} (of : Mark → X) → ((y : Mark) (due : Bool) → of (record y { wet = true; due = due }) ≡ of y) → ((y : Mark) → of (record y { dead = false; owed = false }) ≡ of y)
      → (c : Block) → of (gf.mark c) ≡ of (f.mark c)
  failed_mark of own rival = by_block (λ c. of (gf.mark c) ≡ of (f.mark c))
      (λ c same. ap of (failed_own c same) ∙ own (f.mark c) ((f.mark c).due || is_noted f.mark b))
      (λ c none is. ap of (failed_rival c none is) ∙ rival (f.mark c))
      (λ c none away. ap of (failed_other c none away))

  failed_dirty : (c : Block) → (gf.mark c).dirty ≡ (f.mark c).dirty
  failed_dirty = failed_mark (λ (y : Mark). y.dirty) (λ y due. refl) (λ y. refl)

  dirty_still : (now : Disk) (c : Block) → (nf now).dirty c ≡ ((gf.mark c).dirty && h.geometry.has_spelling c ((nf now).window.body c))
  dirty_still now c = by_value (are_rivals b c) refl
    where
      by_value : (v : Bool) → are_rivals b c ≡ v → (nf now).dirty c ≡ ((gf.mark c).dirty && h.geometry.has_spelling c ((nf now).window.body c))
      by_value true is = not_dirty c is ∙ sym (ap (λ (v : Bool). v && h.geometry.has_spelling c ((nf now).window.body c)) (failed_dirty c ∙ h.marks.lone b c is parts.dirty))
      by_value false away =
          h.marks.dirty c ∙ ap₂ (λ (v : Bool) (bytes : BodyBytes). v && h.geometry.has_spelling c bytes) (sym (failed_dirty c)) (sym (same_body (disk_without (own_of f) now) c away))

  dead_still : (now : Disk) (c : Block) → (nf now).dead c ≡ ((gf.mark c).dead && h.geometry.has_spelling c ((nf now).window.body c))
  dead_still now = by_block (λ c. (nf now).dead c ≡ ((gf.mark c).dead && h.geometry.has_spelling c ((nf now).window.body c)))
      (λ c same. ap (λ (v : Bool). not v && m.dead c) (away_own c same) ∙ h.marks.dead c
      ∙ ap₂ (λ (y : Bool) (bytes : BodyBytes). y && h.geometry.has_spelling c bytes) (sym (ap (λ (y : Mark). y.dead) (failed_own c same))) (sym (same_body (disk_without (own_of f) now) c (away_own c same))))
      (λ c none is. ap (λ (v : Bool). not v && m.dead c) is ∙ sym (ap (λ (y : Mark). y.dead && h.geometry.has_spelling c ((nf now).window.body c)) (failed_rival c none is)))
      (λ c none away. ap (λ (v : Bool). not v && m.dead c) away ∙ h.marks.dead c
      ∙ ap₂ (λ (y : Mark) (bytes : BodyBytes). y.dead && h.geometry.has_spelling c bytes) (sym (failed_other c none away)) (sym (same_body (disk_without (own_of f) now) c away)))

  kept_still : (c : Block) → is_some (gf.body c) ≡ ((gf.mark c).dirty || (gf.mark c).dead)
  kept_still = by_block (λ c. is_some (gf.body c) ≡ ((gf.mark c).dirty || (gf.mark c).dead))
      (λ c same. ap (λ (v : Bool). is_some (cond v None (f.body c))) (away_own c same) ∙ h.marks.kept c ∙ sym (ap (λ (y : Mark). y.dirty || y.dead) (failed_own c same)))
      (λ c none is. ap (λ (v : Bool). is_some (cond v None (f.body c))) is
      ∙ sym (ap (λ (y : Mark). y.dirty || y.dead) (failed_rival c none is) ∙ ap (λ (v : Bool). v || false) (h.marks.lone b c is parts.dirty)))
      (λ c none away. ap (λ (v : Bool). is_some (cond v None (f.body c))) away ∙ h.marks.kept c ∙ sym (ap (λ (y : Mark). y.dirty || y.dead) (failed_other c none away)))

  apart_still : (c : Block) → (gf.mark c).dead ≡ true → (gf.mark c).dirty ≡ false
  apart_still = by_block (λ c. (gf.mark c).dead ≡ true → (gf.mark c).dirty ≡ false)
      (λ c same dead. failed_dirty c ∙ h.marks.apart c (sym (ap (λ (y : Mark). y.dead) (failed_own c same)) ∙ dead))
      (λ c none is dead. absurd (true≢false (sym dead ∙ ap (λ (y : Mark). y.dead) (failed_rival c none is))))
      (λ c none away dead. failed_dirty c ∙ h.marks.apart c (sym (ap (λ (y : Mark). y.dead) (failed_other c none away)) ∙ dead))

  some_still : (c : Block) → is_some (gf.body c) ≡ true → is_some (f.body c) ≡ true
  some_still c is = by_value (are_rivals b c) refl
    where
      by_value : (v : Bool) → are_rivals b c ≡ v → is_some (f.body c) ≡ true
      by_value true e = absurd (true≢false (sym is ∙ ap (λ (v : Bool). is_some (cond v None (f.body c))) e))
      by_value false e = sym (ap (λ (v : Bool). is_some (cond v None (f.body c))) e) ∙ is

  failed_wet : (c : Block) → (f.mark c).wet ≡ true → (gf.mark c).wet ≡ true
  failed_wet = by_block (λ c. (f.mark c).wet ≡ true → (gf.mark c).wet ≡ true)
      (λ c same is. ap (λ (y : Mark). y.wet) (failed_own c same))
      (λ c none rival is. ap (λ (y : Mark). y.wet) (failed_rival c none rival) ∙ is)
      (λ c none away is. ap (λ (y : Mark). y.wet) (failed_other c none away) ∙ is)

  failed_marked : (c : Block) → IsMarked (λ (y : Mark). y.wet) f c → IsMarked (λ (y : Mark). y.wet) gf c
  failed_marked c (inl is) = inl (failed_wet c is)
  failed_marked c (inr y) = inr (y.0, y.1, failed_wet y.0 y.2)

  wet_still_marked : (now : Disk) (c : Block) → (nf now).wet c ≡ true → IsMarked (λ (y : Mark). y.wet) gf c
  wet_still_marked now c is = by_value (are_rivals b c) refl
    where
      by_value : (v : Bool) → are_rivals b c ≡ v → IsMarked (λ (y : Mark). y.wet) gf c
      by_value true rival = inr (b, rival, ap (λ (y : Mark). y.wet) (failed_own b (same_self b)))
      by_value false away = failed_marked c (h.marks.wet c (sym (ap (λ (v : Bool). v || m.wet c) away) ∙ is))

  failed_due : (c : Block) → (f.mark c).due ≡ true → (gf.mark c).due ≡ true
  failed_due = by_block (λ c. (f.mark c).due ≡ true → (gf.mark c).due ≡ true)
      (λ c same is. ap (λ (y : Mark). y.due) (failed_own c same) ∙ ap (λ (v : Bool). v || is_noted f.mark b) is)
      (λ c none rival is. ap (λ (y : Mark). y.due) (failed_rival c none rival) ∙ is)
      (λ c none away is. ap (λ (y : Mark). y.due) (failed_other c none away) ∙ is)

  failed_due_marked : (c : Block) → IsMarked (λ (y : Mark). y.due) f c → IsMarked (λ (y : Mark). y.due) gf c
  failed_due_marked c (inl is) = inl (failed_due c is)
  failed_due_marked c (inr y) = inr (y.0, y.1, failed_due y.0 y.2)

  owed_still : (now : Disk) → m.begun ≡ true → (c : Block) → (nf now).owed c ≡ true → (gf.mark c).owed ≡ true
  owed_still now begun c is = by_value (same_block c b) refl
    where
      away : are_rivals b c ≡ false
      away = not_is (are_rivals b c) (and_left (not (are_rivals b c)) (m.owed c) is)

      owed : m.owed c ≡ true
      owed = and_right (not (are_rivals b c)) (m.owed c) is

      by_value : (v : Bool) → same_block c b ≡ v → (gf.mark c).owed ≡ true
      by_value true same = ap (λ (y : Mark). y.owed) (failed_own c same) ∙ h.marks.owed begun c owed
      by_value false none = ap (λ (y : Mark). y.owed) (failed_other c none away) ∙ h.marks.owed begun c owed

  due_still_marked : (now : Disk) → m.begun ≡ true → (c : Block) → (nf now).due c ≡ true → IsMarked (λ (y : Mark). y.due) gf c
  due_still_marked now begun c is = by_due (m.due c) refl
    where
      by_due : (v : Bool) → m.due c ≡ v → IsMarked (λ (y : Mark). y.due) gf c
      by_due true e = failed_due_marked c (h.marks.due begun c e)
      by_due false e =
          let written : (are_rivals b c && (m.owed b || m.owed c)) ≡ true = sym (or-false (are_rivals b c && (m.owed b || m.owed c))) ∙ ap (λ (v : Bool). (are_rivals b c && (m.owed b || m.owed c)) || v) (sym e) ∙ is in
          let rival = and_left (are_rivals b c) (m.owed b || m.owed c) written in
          inr (b, rival, ap (λ (y : Mark). y.due) (failed_own b (same_self b)) ∙ or-true (f.mark b).due (is_noted f.mark b) (noted_one begun c rival (and_right (are_rivals b c) (m.owed b || m.owed c) written)))

  body_still : (now : Disk) (c : Block) → IfSome (gf.body c) (HasBytes c ((nf now).window.body c) ((nf now).window.is_torn c))
  body_still now c = by_value (are_rivals b c) refl
    where
      by_value : (v : Bool) → are_rivals b c ≡ v → IfSome (gf.body c) (HasBytes c ((nf now).window.body c) ((nf now).window.is_torn c))
      by_value true e = subst (λ (v : Bool). IfSome (cond v None (f.body c)) (HasBytes c ((nf now).window.body c) ((nf now).window.is_torn c))) (sym e) tt
      by_value false e =
          subst (λ (v : Bool). IfSome (cond v None (f.body c)) (HasBytes c ((nf now).window.body c) ((nf now).window.is_torn c))) (sym e) (body_kept (disk_without (own_of f) now) c e)

  failed_puts : (check : ℕ) (now : Disk) → IsBetween disk (put b.first (new check) disk) now → Puts h.geometry b (sectors_from b.first (new check)) m.disk (disk_without (own_of f) now)
  failed_puts check now part = subst (λ (d : Disk). Puts h.geometry b (sectors_from b.first (new check)) d (disk_without (own_of f) now)) (sym h.same)
      (without_failed (own_of f) h.geometry h.volume b (new check) known (sized_new check) disk now part)

  abbrev failed_step : (check : ℕ) (now : Disk) → IsBetween disk (put b.first (new check) disk) now → Step h.geometry m (nf now)
  failed_step check now part = write_out_fails b (sectors_from b.first (new check)) (disk_without (own_of f) now) may (failed_puts check now part)

  pub goes_badly : (check : ℕ) → (now : Disk) → IsBetween disk (put b.first (sectors_of (spelled b.kind check x.bytes)) disk) now → IsSized now
      → (n : Store) × StandsBehind (sent_out_facts b f) now n × MovesTo (are_rivals b) (store_window m) (store_window n)
  goes_badly check now part sized = (nf now, stands, moves)
    where
      moves : MovesTo (are_rivals b) (store_window m) (store_window (nf now))
      moves = record {
        is_open = refl;
        waiting = omega arith;
        present = λ c none. ap₂ (λ (bytes : BodyBytes) (t : Bool). record { bytes = first_bytes (512 * sectors c.kind) bytes; torn = t }) (same_body (disk_without (own_of f) now) c none) (same_torn (disk_without (own_of f) now) c none);
        others = λ k le c none. subst (λ (j : ℕ). (store_window (nf now)).before j c ≡ (store_window m).before k c) (let e : 0 + k ≡ k = omega arith in e)
            (windows_move_law.members h.geometry m (nf now) (failed_step check now part) c none k (omega (arith, le))).1;
        claimed = stay_same (claims_of m) (claims_of (nf now)) (claims_move.step h.geometry m (nf now) (failed_step check now part) h.sound);
        shown = λ c will. claimed_stays.present h.geometry m (nf now) (failed_step check now part) h.sound c will refl;
        kept = λ k le c claims. subst (λ (j : ℕ). (store_window (nf now)).before j c ≡ (store_window m).before k c) (let e : 0 + k ≡ k = omega arith in e)
            (claimed_stays.members h.geometry m (nf now) (failed_step check now part) h.sound k c claims (omega (arith, le))).1;
      }

      stands : StandsBehind gf now (nf now)
      stands = record {
        geometry = h.geometry;
        volume = h.volume;
        lap = h.lap;
        ring = h.ring;
        pages = h.pages;
        restarts = h.restarts;
        fields = h.fields;
        noted = h.noted;
        stands = stays s f.log h.ring h.restarts h.pages h.fields disk now h.stands (alike check now part);
        holds = log_kept s l m disk h.holds (nf now) now
            (record { log_is = refl; synced_is = refl; done_is = refl; sent_is = refl; place_is = refl; begun_is = refl; renamed_is = refl; replaced_is = refl }) (alike check now part);
        below = h.below;
        note = h.note;
        same = refl;
        sized = sized;
        own_pages = h.own_pages;
        closes = h.closes;
        placed = h.placed;
        sound = sound-step h.geometry m (nf now) (failed_step check now part) h.sound;
        window = record { is_open = h.window.is_open; tx = h.window.tx; waiting = h.window.waiting; body = body_still now; changed = h.window.changed; before = λ c. before_kept (disk_without (own_of f) now) c (f.before c) refl };
        marks = record {
          dirty = dirty_still now;
          dead = dead_still now;
          kept = kept_still;
          apart = apart_still;
          lone = λ c d rival is. failed_dirty d ∙ h.marks.lone c d rival (sym (failed_dirty c) ∙ is);
          known = λ c is. h.marks.known c (some_still c is);
          changed = λ c is. failed_dirty c ∙ h.marks.changed c is;
          wet = wet_still_marked now;
          owed = owed_still now;
          due = due_still_marked now;
        };
        by_pages = record {
          some = h.by_pages.some;
          imaged = λ c is. let y = h.by_pages.imaged c (sym (failed_mark (λ (y : Mark). y.imaged) (λ y due. refl) (λ y. refl) c) ∙ is) in
              (record { has = y.0.has; last = y.0.last }, λ e. record { has = (y.1 e).has; last = (y.1 e).last });
          until = λ c k lt has. subst (λ (u : ℕ). h.ring.oldest + suc k ≤ u) (sym (failed_mark (λ (y : Mark). y.until) (λ y due. refl) (λ y. refl) c)) (h.by_pages.until c k lt has);
          commit = λ c k lt has. subst (λ (u : ℕ). f.commits ≤ k + u) (sym (failed_mark (λ (y : Mark). y.commit) (λ y due. refl) (λ y. refl) c)) (h.by_pages.commit c k lt has);
          killed = λ c dead. subst (λ (k : ℕ). IsKilled h.pages h.ring.oldest k c) (sym (failed_mark (λ (y : Mark). y.killed) (λ y due. refl) (λ y. refl) c))
              (h.by_pages.killed c (and_right (not (are_rivals b c)) (m.dead c) dead));
          counted = h.by_pages.counted;
          ends = h.by_pages.ends;
          begun = h.by_pages.begun;
        };
      }

-- ---- the call

pub is_written_out : {D : Type 0} (gives : D → Option (List (List ℕ))) (changes : D → Changes) (moment : D → ℕ) (count begun check : ℕ) (f : StoreFacts) (b : Block) (x : Body) (old new : D)
    → f.body b ≡ Some x → is_ready f b ≡ true → has_spelling b.kind x.bytes ≡ true → check < 2 ^ 16 → IfSome (changes new).disk IsSized → moment old ≤ begun
    → SendsBody gives changes moment begun b x.bytes check (Ok tt) old new → Simulates count (moment old) (changes old) (changes new) f (written_out_facts b f) (MovesTo (are_rivals b))
is_written_out gives changes moment count begun check f b x old new kept ready spells small sized later sent =
    by_device count (moment old) begun (changes old) (changes new) f (written_out_facts b f) (MovesTo (are_rivals b)) refl refl
    (known_before_write _ _ _ _ (changes old) (changes new) sent.writes) later sent.writes.past
    (λ disk m is h.
    let now = put b.first (sectors_of (spelled b.kind check x.bytes)) disk in
    let known : (changes new).disk ≡ Some now = sent.writes.ok ∙ ap (option_map (put b.first (sectors_of (spelled b.kind check x.bytes)))) is in
    let it = goes_out f disk m b x kept ready spells h check small now refl (sized_of (changes new) now known sized) in
    (now, known, it.0, it.1, it.2))

pub is_not_written_out : {D : Type 0} (gives : D → Option (List (List ℕ))) (changes : D → Changes) (moment : D → ℕ) (count begun check : ℕ) (f : StoreFacts) (b : Block) (x : Body) (old new : D)
    → f.body b ≡ Some x → is_ready f b ≡ true → has_spelling b.kind x.bytes ≡ true → IfSome (changes new).disk IsSized → moment old ≤ begun
    → (fault : Failed) → SendsBody gives changes moment begun b x.bytes check (Err fault) old new → Simulates count (moment old) (changes old) (changes new) f (sent_out_facts b f) (MovesTo (are_rivals b))
is_not_written_out gives changes moment count begun check f b x old new kept ready spells sized later fault sent =
    by_device count (moment old) begun (changes old) (changes new) f (sent_out_facts b f) (MovesTo (are_rivals b)) refl refl
    (known_before_write _ _ _ _ (changes old) (changes new) sent.writes) later sent.writes.past
    (λ disk m is h.
    let now = known_after_write _ _ _ _ (changes old) (changes new) disk sent.writes is in
    let it = goes_badly f disk m b x kept ready spells h check now.0 now.2 (sized_of (changes new) now.0 now.1 sized) in
    (now.0, now.1, it.0, it.1, it.2))
