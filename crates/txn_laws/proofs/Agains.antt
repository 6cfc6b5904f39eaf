-- A block that a give-up brought back, and whose body has no spelling, is written as its sectors stand.
use Rattle.std.proofs.Common.{◌≡◌, subst, ℕ, suc, ◌+◌, ◌*◌, ◌<◌, ◌≤◌, Bool, true, false, cond, List, length, Option, Some, None, Ok, Err, refl, sym, ap, ap₂, ◌∙◌, inl, inr, arith}
use Rattle.std.specs.Prelude.{◌&&◌, ◌||◌, is_some, IfSome}
use Rattle.std.proofs.lemmas.Bool.{cases_Bool}
use Rattle.host_base.specs.declared.outside.Failed.{Failed}
use Rattle.area_laws.specs.disk_model.declared.block.Block.{Block}
use Rattle.area_laws.specs.disk_model.declared.block.Body.{Body}
use Rattle.area_laws.specs.disk_model.Sectors.{sector_of, sectors, same_block}
use Rattle.area_laws.proofs.disk_model.Frames.{same_block-is}
use Rattle.area_laws.specs.fixup_record.Spellings.{has_spelling}
use Rattle.area_laws.specs.sector_device.Disks.{Disk, IsSized, IsBetween, SeesDisk, put, seen, is_within}
use Rattle.area_laws.specs.sector_device.Moments.{Changes}
use Rattle.area_laws.specs.sector_device.Sectors.{sectors_of}
use Rattle.area_laws.specs.sector_device.WholeSectors.{length-sectors_of}
use Rattle.area_laws.proofs.sector_device.Images.{known_after_write}
use Rattle.store_claims.specs.store_model.Stores.{Store}
use Rattle.store_claims.specs.store_model.Events.{StandsAs}
use Rattle.store_claims.specs.store_model.Events.Step.{write_again}
use Rattle.store_claims.specs.store_model.Volumes.{is_known, sectors_from}
use Rattle.store_claims.proofs.store_model.Told.{true≢false, same_self}
use Rattle.store_claims.proofs.store_model.Known.{is_in}
use Rattle.store_claims.proofs.store_model.Devices.{again_is}
use Rattle.store_claims.proofs.store_model.Sound.{sound-step}
use Rattle.area_laws.specs.ring_laws.Numbers.{LogSession}
use Rattle.area_laws.specs.ring_laws.PageBytes.{page_sector, AreAlike}
use Rattle.area_laws.specs.ring_laws.StoreDisks.{disk_without}
use Rattle.area_laws.specs.ring_laws.StoreLogs.{LogNumbers}
use Rattle.area_laws.proofs.ring_laws.LogSectors.{kept_elsewhere}
use Rattle.area_laws.proofs.ring_laws.SeenDisks.{not_own, without_again}
use Rattle.area_laws.proofs.ring_laws.StoreEvents.{log_kept}
use Rattle.area_laws.proofs.Joined.{stays}
use Rattle.txn_model.specs.declared.mark.Mark.{Mark}
use Rattle.txn_model.specs.Values.{StoreFacts, own_of}
use Rattle.txn_model.specs.Calls.{again_facts}
use Rattle.txn_laws.specs.Standing.{HasBytes, IsMarked, IsKilled, StandsBehind, session_of, numbers_of}
use Rattle.txn_laws.specs.Windows.{Simulates, AfterWrite}
use Rattle.txn_laws.specs.Laws.{SendsAgain}
use Rattle.txn_laws.proofs.Telling.{by_device, known_before_write, sized_of}
use Rattle.txn_laws.proofs.PageWrites.{page_is_own}
use Rattle.txn_laws.proofs.Claiming.{after_step}

module _ (f : StoreFacts) (disk : Disk) (m : Store) (b : Block) (x : Body) (kept : f.body b ≡ Some x) (dirty : (f.mark b).dirty ≡ true) (free : is_some (f.before b) ≡ false) (bare : has_spelling b.kind x.bytes ≡ false) (h : StandsBehind f disk m)
    (bytes : List ℕ) (size : length bytes ≡ 512 * sectors b.kind) (same_sectors : (n : ℕ) → is_within b.first (sectors b.kind) n ≡ true → sectors_from b.first (sectors_of bytes) n ≡ seen disk n) where
  abbrev s : LogSession
  s = session_of f h.lap

  abbrev l : LogNumbers
  l = numbers_of f h.ring h.pages h.restarts h.fields h.noted

  known : is_known (own_of f) b ≡ true
  known = h.marks.known b (ap (λ (o : Option Body). is_some o) kept)

  sized_new : length (sectors_of bytes) ≡ sectors b.kind
  sized_new = length-sectors_of bytes ∙ omega (arith, size)

  -- so the disk stands as it did
  as_before : (now : Disk) → IsBetween disk (put b.first (sectors_of bytes) disk) now → StandsAs m.disk (disk_without (own_of f) now)
  as_before now between =
      subst (λ (d : Disk). StandsAs d (disk_without (own_of f) now)) (sym h.same)
      (without_again (own_of f) disk now (again_is b.first (sectors_of bytes) disk now (λ n within. same_sectors n (ap (λ (c : ℕ). is_within b.first c n) (sym sized_new) ∙ within)) between))

  alike : (now : Disk) → IsBetween disk (put b.first (sectors_of bytes) disk) now → AreAlike s.place 0 s.place.pages disk now
  alike now between = kept_elsewhere s.place 0 s.place.pages b.first (sectors_of bytes) disk now (λ k i low lt few. apart k i lt few (is_within b.first (length (sectors_of bytes)) (page_sector s.place k + i)) refl) between
    where
      apart : (k i : ℕ) → k < f.place.pages → i < 8 → (v : Bool) → is_within b.first (length (sectors_of bytes)) (page_sector f.place k + i) ≡ v → is_within b.first (length (sectors_of bytes)) (page_sector f.place k + i) ≡ false
      apart k i lt few false is = is
      apart k i lt few true is =
          let inside : is_within b.first (sectors b.kind) (page_sector f.place k + i) ≡ true = ap (λ (c : ℕ). is_within b.first c (page_sector f.place k + i)) (sym sized_new) ∙ is in
          let own = page_is_own f.place f.found k (page_sector f.place k + i) lt (is_in (page_sector f.place k) 8 (page_sector f.place k + i) (omega arith) (omega (arith, few))) in
          absurd (true≢false (sym own ∙ not_own (own_of f) b (page_sector f.place k + i) known inside))

  abbrev n : Disk → Store
  n now = record m { disk = disk_without (own_of f) now }

  -- the same fields, on the disk after the write
  pub on_disk : (now : Disk) → IsBetween disk (put b.first (sectors_of bytes) disk) now → IsSized now → StandsBehind f now (n now)
  on_disk now between sized = record {
    geometry = h.geometry;
    volume = h.volume;
    lap = h.lap;
    ring = h.ring;
    pages = h.pages;
    restarts = h.restarts;
    fields = h.fields;
    noted = h.noted;
    stands = stays s f.log h.ring h.restarts h.pages h.fields disk now h.stands (alike now between);
    holds = log_kept s l m disk h.holds (n now) now
        (record { log_is = refl; synced_is = refl; done_is = refl; sent_is = refl; place_is = refl; begun_is = refl; renamed_is = refl; replaced_is = refl }) (alike now between);
    below = h.below;
    note = h.note;
    same = refl;
    sized = sized;
    own_pages = h.own_pages;
    closes = h.closes;
    placed = h.placed;
    sound = sound-step h.geometry m (n now) (write_again (disk_without (own_of f) now) (as_before now between)) h.sound;
    window = h.window;
    marks = record { dirty = h.marks.dirty; dead = h.marks.dead; kept = h.marks.kept; apart = h.marks.apart; lone = h.marks.lone; known = h.marks.known; changed = h.marks.changed; wet = h.marks.wet; owed = h.marks.owed; due = h.marks.due };
    by_pages = record { some = h.by_pages.some; imaged = h.by_pages.imaged; until = h.by_pages.until; commit = h.by_pages.commit; killed = h.by_pages.killed; counted = h.by_pages.counted; ends = h.by_pages.ends; begun = h.by_pages.begun };
  }

  -- ---- the block is clean then

  abbrev g : StoreFacts
  g = again_facts b f

  spelled_not : h.geometry.has_spelling b (m.window.body b) ≡ false
  spelled_not =
      h.volume.has_spelling b (m.window.body b)
      ∙ ap (has_spelling b.kind) (sym (subst (λ (o : Option Body). IfSome o (HasBytes b (m.window.body b) (m.window.is_torn b))) kept (h.window.body b)).bytes) ∙ bare

  clean : m.dirty b ≡ false
  clean = h.marks.dirty b ∙ ap₂ (λ (u : Bool) (v : Bool). u && v) dirty spelled_not

  alive : (f.mark b).dead ≡ false
  alive = by_dead (f.mark b).dead refl
    where
      by_dead : (v : Bool) → (f.mark b).dead ≡ v → (f.mark b).dead ≡ false
      by_dead false is = is
      by_dead true is = absurd (true≢false (sym dirty ∙ h.marks.apart b is))

  not_dead : m.dead b ≡ false
  not_dead = h.marks.dead b ∙ ap (λ (v : Bool). v && h.geometry.has_spelling b (m.window.body b)) alive

  own : g.mark b ≡ record (f.mark b) { dirty = false; wet = true; owed = false; due = (f.mark b).due || (f.mark b).owed }
  own = ap (λ (v : Bool). cond v (record (f.mark b) { dirty = false; wet = true; owed = false; due = (f.mark b).due || (f.mark b).owed }) (f.mark b)) (same_self b)

  other : (c : Block) → same_block c b ≡ false → g.mark c ≡ f.mark c
  other c none = ap (λ (v : Bool). cond v (record (f.mark c) { dirty = false; wet = true; owed = false; due = (f.mark c).due || (f.mark c).owed }) (f.mark c)) none

  by_block : (P : Block → Type 0) → P b → ((c : Block) → same_block c b ≡ false → P c) → (c : Block) → P c
  by_block P here there c = elim (cases_Bool (same_block c b)) [
    | inl same ↦ subst P (sym (same_block-is c b same)) here
    | inr none ↦ there c none
  ]

  same_mark : {X : Type 0} (of : Mark → X) → ((y : Mark) → of (record y { dirty = false; wet = true; owed = false; due = y.due || y.owed }) ≡ of y) → (c : Block) → of (g.mark c) ≡ of (f.mark c)
  same_mark of here = by_block (λ c. of (g.mark c) ≡ of (f.mark c)) (ap of own ∙ here (f.mark b)) (λ c none. ap of (other c none))

  was_dirty : (c : Block) → (g.mark c).dirty ≡ true → (f.mark c).dirty ≡ true
  was_dirty = by_block (λ c. (g.mark c).dirty ≡ true → (f.mark c).dirty ≡ true) (λ is. absurd (true≢false (sym is ∙ ap (λ (y : Mark). y.dirty) own))) (λ c none is. sym (ap (λ (y : Mark). y.dirty) (other c none)) ∙ is)

  clean_still : (c : Block) → (f.mark c).dirty ≡ false → (g.mark c).dirty ≡ false
  clean_still c is = by_value (g.mark c).dirty refl
    where
      by_value : (v : Bool) → (g.mark c).dirty ≡ v → (g.mark c).dirty ≡ false
      by_value false e = e
      by_value true e = absurd (true≢false (sym (was_dirty c e) ∙ is))

  flag_still : (of : Mark → Bool) → ((y : Mark) → of y ≡ true → of (record y { dirty = false; wet = true; owed = false; due = y.due || y.owed }) ≡ true) → (c : Block) → IsMarked of f c → IsMarked of g c
  flag_still of here c (inl is) = inl (one c is)
    where
      one : (c : Block) → of (f.mark c) ≡ true → of (g.mark c) ≡ true
      one = by_block (λ c. of (f.mark c) ≡ true → of (g.mark c) ≡ true) (λ is. ap of own ∙ here (f.mark b) is) (λ c none is. ap of (other c none) ∙ is)
  flag_still of here c (inr y) = inr (y.0, y.1, one y.0 y.2)
    where
      one : (c : Block) → of (f.mark c) ≡ true → of (g.mark c) ≡ true
      one = by_block (λ c. of (f.mark c) ≡ true → of (g.mark c) ≡ true) (λ is. ap of own ∙ here (f.mark b) is) (λ c none is. ap of (other c none) ∙ is)

  pub goes_again : (now : Disk) → IsBetween disk (put b.first (sectors_of bytes) disk) now → IsSized now → StandsBehind (again_facts b f) now (n now)
  goes_again now between sized =
      record {
        geometry = h.geometry;
        volume = h.volume;
        lap = h.lap;
        ring = h.ring;
        pages = h.pages;
        restarts = h.restarts;
        fields = h.fields;
        noted = h.noted;
        stands = stays s f.log h.ring h.restarts h.pages h.fields disk now h.stands (alike now between);
        holds = log_kept s l m disk h.holds (n now) now
            (record { log_is = refl; synced_is = refl; done_is = refl; sent_is = refl; place_is = refl; begun_is = refl; renamed_is = refl; replaced_is = refl }) (alike now between);
        below = h.below;
        note = h.note;
        same = refl;
        sized = sized;
        own_pages = h.own_pages;
        closes = h.closes;
        placed = h.placed;
        sound = sound-step h.geometry m (n now) (write_again (disk_without (own_of f) now) (as_before now between)) h.sound;
        window = record {
          is_open = h.window.is_open;
          tx = h.window.tx;
          waiting = h.window.waiting;
          body = by_block (λ c. IfSome (g.body c) (HasBytes c (m.window.body c) (m.window.is_torn c)))
              (subst (λ (v : Bool). IfSome (cond v None (f.body b)) (HasBytes b (m.window.body b) (m.window.is_torn b))) (sym (same_self b)) tt)
              (λ c none. subst (λ (v : Bool). IfSome (cond v None (f.body c)) (HasBytes c (m.window.body c) (m.window.is_torn c))) (sym none) (h.window.body c));
          changed = h.window.changed;
          before = h.window.before;
        };
        marks = record {
          dirty = by_block (λ c. m.dirty c ≡ ((g.mark c).dirty && h.geometry.has_spelling c (m.window.body c))) (clean ∙ sym (ap (λ (y : Mark). y.dirty && h.geometry.has_spelling b (m.window.body b)) own))
              (λ c none. h.marks.dirty c ∙ sym (ap (λ (y : Mark). y.dirty && h.geometry.has_spelling c (m.window.body c)) (other c none)));
          dead = λ c. h.marks.dead c ∙ ap (λ (v : Bool). v && h.geometry.has_spelling c (m.window.body c)) (sym (same_mark (λ (y : Mark). y.dead) (λ y. refl) c));
          kept = by_block (λ c. is_some (g.body c) ≡ ((g.mark c).dirty || (g.mark c).dead))
              (ap (λ (v : Bool). is_some (cond v None (f.body b))) (same_self b) ∙ sym (ap (λ (y : Mark). y.dirty || y.dead) own ∙ alive))
              (λ c none. ap (λ (v : Bool). is_some (cond v None (f.body c))) none ∙ h.marks.kept c ∙ sym (ap (λ (y : Mark). y.dirty || y.dead) (other c none)));
          apart = λ c is. clean_still c (h.marks.apart c (sym (same_mark (λ (y : Mark). y.dead) (λ y. refl) c) ∙ is));
          lone = λ c d rival is. clean_still d (h.marks.lone c d rival (was_dirty c is));
          known = by_block (λ c. is_some (g.body c) ≡ true → is_known (own_of f) c ≡ true) (λ is. known) (λ c none is. h.marks.known c (sym (ap (λ (v : Bool). is_some (cond v None (f.body c))) none) ∙ is));
          changed = by_block (λ c. is_some (f.before c) ≡ true → (g.mark c).dirty ≡ true) (λ some. absurd (true≢false (sym some ∙ free))) (λ c none some. ap (λ (y : Mark). y.dirty) (other c none) ∙ h.marks.changed c some);
          wet = λ c is. flag_still (λ (y : Mark). y.wet) (λ y e. refl) c (h.marks.wet c is);
          owed = λ begun. by_block (λ c. m.owed c ≡ true → (g.mark c).owed ≡ true)
              (λ owed. absurd (true≢false (sym (h.sound.owing begun b owed) ∙ ap₂ (λ (u : Bool) (v : Bool). u || v) clean not_dead)))
              (λ c none owed. ap (λ (y : Mark). y.owed) (other c none) ∙ h.marks.owed begun c owed);
          due = λ begun c is. flag_still (λ (y : Mark). y.due) (λ y e. ap (λ (v : Bool). v || y.owed) e) c (h.marks.due begun c is);
        };
        by_pages = record {
          some = h.by_pages.some;
          imaged = λ c is. h.by_pages.imaged c (sym (same_mark (λ (y : Mark). y.imaged) (λ y. refl) c) ∙ is);
          until = λ c k lt has. subst (λ (u : ℕ). h.ring.oldest + suc k ≤ u) (sym (same_mark (λ (y : Mark). y.until) (λ y. refl) c)) (h.by_pages.until c k lt has);
          commit = λ c k lt has. subst (λ (u : ℕ). f.commits ≤ k + u) (sym (same_mark (λ (y : Mark). y.commit) (λ y. refl) c)) (h.by_pages.commit c k lt has);
          killed = λ c dead. subst (λ (k : ℕ). IsKilled h.pages h.ring.oldest k c) (sym (same_mark (λ (y : Mark). y.killed) (λ y. refl) c)) (h.by_pages.killed c dead);
          counted = h.by_pages.counted;
          ends = h.by_pages.ends;
          begun = h.by_pages.begun;
        };
      }

-- ---- the calls

-- what stands there, by what is seen of the disk
as_seen : (gives : Option (List (List ℕ))) (o : Option Disk) (disk : Disk) (new : List (List ℕ)) (first count : ℕ) → o ≡ Some disk → SeesDisk gives o
    → ((n : ℕ) → is_within first count n ≡ true → IfSome gives (λ d. sectors_from first new n ≡ sector_of d n)) → (n : ℕ) → is_within first count n ≡ true → sectors_from first new n ≡ seen disk n
as_seen None o disk new first count is sees same n within = absurd (subst (λ (y : Option Disk). SeesDisk None y) is sees)
as_seen (Some d) o disk new first count is sees same n within = same n within ∙ subst (λ (y : Option Disk). SeesDisk (Some d) y) is sees n

module _ {D : Type 0} (gives : D → Option (List (List ℕ))) (changes : D → Changes) (moment : D → ℕ) (count begun : ℕ) (f : StoreFacts) (b : Block) (x : Body) (bytes : List ℕ) (old new : D)
    (kept : f.body b ≡ Some x) (dirty : (f.mark b).dirty ≡ true) (free : is_some (f.before b) ≡ false) (bare : has_spelling b.kind x.bytes ≡ false) (size : length bytes ≡ 512 * sectors b.kind)
    (sees : SeesDisk (gives old) (changes old).disk) (same : (n : ℕ) → is_within b.first (sectors b.kind) n ≡ true → IfSome (gives old) (λ d. sectors_from b.first (sectors_of bytes) n ≡ sector_of d n))
    (sized : IfSome (changes new).disk IsSized) (later : moment old ≤ begun) where
  pub is_written_again : SendsAgain gives changes moment begun b bytes (Ok tt) old new → Simulates count (moment old) (changes old) (changes new) f (again_facts b f) AfterWrite
  is_written_again sent =
      by_device count (moment old) begun (changes old) (changes new) f (again_facts b f) AfterWrite refl refl (known_before_write _ _ _ _ (changes old) (changes new) sent.writes) later sent.writes.past
      (λ disk m is h.
      let now = known_after_write _ _ _ _ (changes old) (changes new) disk sent.writes is in
      let stood = as_seen (gives old) (changes old).disk disk (sectors_of bytes) b.first (sectors b.kind) is sees same in
      (now.0, now.1, n f disk m b x kept dirty free bare h bytes size stood now.0, goes_again f disk m b x kept dirty free bare h bytes size stood now.0 now.2 (sized_of (changes new) now.0 now.1 sized), after_step m (n f disk m b x kept dirty free bare h bytes size stood now.0) refl refl refl refl refl))

  pub is_not_written_again : (fault : Failed) → SendsAgain gives changes moment begun b bytes (Err fault) old new → Simulates count (moment old) (changes old) (changes new) f f AfterWrite
  is_not_written_again fault sent =
      by_device count (moment old) begun (changes old) (changes new) f f AfterWrite refl refl (known_before_write _ _ _ _ (changes old) (changes new) sent.writes) later sent.writes.past
      (λ disk m is h.
      let now = known_after_write _ _ _ _ (changes old) (changes new) disk sent.writes is in
      let stood = as_seen (gives old) (changes old).disk disk (sectors_of bytes) b.first (sectors b.kind) is sees same in
      (now.0, now.1, n f disk m b x kept dirty free bare h bytes size stood now.0, on_disk f disk m b x kept dirty free bare h bytes size stood now.0 now.2 (sized_of (changes new) now.0 now.1 sized), after_step m (n f disk m b x kept dirty free bare h bytes size stood now.0) refl refl refl refl refl))
