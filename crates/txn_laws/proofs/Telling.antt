-- What a window says, and simulations from steps of the machine behind a store.
use Rattle.std.proofs.Common.{◌≡◌, ◌⊎◌, subst, ℕ, ◌+◌, ◌-◌, ◌≤◌, max, Bool, true, false, List, length, drop, Option, Some, None, refl, sym, ap, ◌∙◌, inl, inr, arith}
use Rattle.std.specs.Prelude.{Result, Ok, Err, IfSome}
use Rattle.std.specs.Option.{option_map}
use Rattle.area_laws.specs.disk_model.declared.block.Block.{Block}
use Rattle.area_laws.specs.disk_model.Sectors.{sector_of}
use Rattle.area_laws.specs.sector_device.Disks.{Disk, MayLeave, IsSized, IsTornDisk, put, settled}
use Rattle.area_laws.specs.sector_device.Moments.{Changes, Remembers, Writes, Syncs, MayLeaveNow, LeftSince}
use Rattle.area_laws.proofs.sector_device.Images.{image_is_disk, one_call_more}
use Rattle.area_laws.specs.log_page.declared.places.LogPlace.{LogPlace}
use Rattle.store_claims.specs.store_model.Geometry.{SectorBytes, CanLeave}
use Rattle.area_laws.specs.log_model.declared.entry.Entry.{Entry}
use Rattle.area_laws.specs.log_model.Logs.{is_misplaced}
use Rattle.area_laws.specs.log_page.declared.restart.Restart.{Restart}
use Rattle.area_laws.specs.log_page.LiveLogs.{live_log}
use Rattle.area_laws.specs.log_page.RecordPages.{Reading}
use Rattle.area_laws.specs.log_page.Restarts.{FitsRestart}
use Rattle.store_claims.specs.store_model.Rings.{Restarts}
use Rattle.store_claims.specs.store_model.Stores.{Store, Image, list_of}
use Rattle.store_claims.proofs.store_model.Told.{all_drop, all_take}
use Rattle.area_laws.specs.ring_laws.PageBytes.{raw_page}
use Rattle.area_laws.specs.ring_laws.RestartPages.{RestartFields}
use Rattle.area_laws.specs.ring_laws.StoreDisks.{sectors_without}
use Rattle.area_laws.specs.ring_laws.StoreLogs.{LogNumbers, IsOfLog}
use Rattle.area_laws.proofs.ring_laws.SeenDisks.{without_left}
use Rattle.area_laws.proofs.ring_laws.StoreImages.{log_is_left}
use Rattle.store_claims.specs.store_model.Volumes.{AreWhole}
use Rattle.store_claims.specs.Windows.{StoreWindow, store_window}
use Rattle.area_laws.proofs.ring_laws.StoreRecovers.{image_recovers}
use Rattle.txn_model.specs.Values.{StoreFacts, own_of, is_own}
use Rattle.txn_laws.specs.Standing.{AreOwnPages, ArePlaced, StandsBehindAs, session_of, numbers_of}
use Rattle.txn_laws.proofs.Mountable.{none_misplaced}
use Rattle.txn_laws.proofs.Closed.{may_end, closed_list}
use Rattle.txn_laws.proofs.Laps.{next_lap_shown}
use Rattle.txn_laws.specs.Windows.{HasMachineAs, HasWindowAs, RecoversWithin, lap_behind, next_lap_in, During, LapsDuring, SimulatesAs, AfterWrite}
use Rattle.store_claims.specs.Claims.{commits_behind}
use Rattle.txn_laws.proofs.Claiming.{ClaimedImage, claimed, claimed_image}

some_inj : {A : Type 0} (a b : A) → Some a ≡ Some b → a ≡ b
some_inj a b e = cc

same_restart : (a b : Restart) → Some a ≡ Some b → a ≡ b
same_restart a b e = cc

list_placed : (clusters : ℕ) (m : Store) (image : Image) → ArePlaced clusters m.log → ArePlaced clusters (list_of m image)
list_placed clusters m image all =
    all_take (λ (e : Entry). is_misplaced clusters e.act ≡ false) (image.upto - image.from) (drop image.from m.log) (all_drop (λ (e : Entry). is_misplaced clusters e.act ≡ false) image.from m.log all)

-- the page that recovery chooses is this host's
own_chosen : (q : Restarts) (fields : RestartFields) → AreOwnPages q fields → (restart : Restart) (list : List Entry) (l : LogNumbers) → l.restarts ≡ q → l.fields ≡ fields → IsOfLog l restart list → FitsRestart restart
own_chosen q fields own restart list l same_q same_fields of_log =
    let here : AreOwnPages l.restarts l.fields = subst (λ (p : Restarts). AreOwnPages p l.fields) (sym same_q) (subst (λ (g : RestartFields). AreOwnPages q g) (sym same_fields) own) in
    elim of_log [
      | inl sure ↦ subst (λ (o : Option Restart). IfSome o FitsRestart) sure here.sure
      | inr begun ↦ subst (λ (o : Option Restart). IfSome o FitsRestart) begun.1 (here.next begun.0)
    ]

behind_recovers : {ends : Bool} (f : StoreFacts) (disk : Disk) (m : Store) → StandsBehindAs ends f disk m → (image : SectorBytes) → CanLeave disk image → AreWhole image → RecoversWithin f.place (own_of f) (store_window m) image
behind_recovers {ends} f disk m h image left whole =
    let x = image_recovers (own_of f) h.geometry h.volume (session_of f h.lap) (numbers_of f h.ring h.pages h.restarts h.fields h.noted) m disk h.sound h.holds h.same image left whole in
    let y =
    log_is_left (session_of f h.lap) (numbers_of f h.ring h.pages h.restarts h.fields h.noted) m disk h.holds image left (sectors_without (own_of f) image)
    (subst (λ (d : Disk). CanLeave d (sectors_without (own_of f) image)) (sym h.same) (without_left (own_of f) disk image left)) in
    let one : x.restart ≡ y.restart = same_restart x.restart y.restart (sym x.chosen ∙ y.chosen) in
    let same : x.list ≡ list_of m y.left = ap (λ (r : Reading). r.entries) (sym x.reads ∙ ap (λ (r : Restart). live_log f.place.pages (raw_page f.place image) r.oldest) one ∙ y.reads) in
    let placed : ArePlaced f.place.clusters x.list = subst (ArePlaced f.place.clusters) (sym same) (list_placed f.place.clusters m y.left h.placed) in
    let mine = claimed_image (own_of f) h.geometry h.volume (session_of f h.lap) (numbers_of f h.ring h.pages h.restarts h.fields h.noted) m h.sound image whole y in
    let kept = subst (λ (es : List Entry). ClaimedImage (own_of f) m es image (commits_behind m y.left)) (sym same) mine in
    let page : FitsRestart x.restart = own_chosen h.restarts h.fields h.own_pages x.restart x.list (numbers_of f h.ring h.pages h.restarts h.fields h.noted) refl refl x.of_log in
    record {
      restart = x.restart;
      chosen = x.chosen;
      own_page = page;
      list = x.list;
      reads = x.reads;
      closed = closed_list f disk m h x.restart x.list y.left x.of_log same;
      back = commits_behind m y.left;
      within = (claimed (own_of f) h.geometry h.volume (session_of f h.lap) (numbers_of f h.ring h.pages h.restarts h.fields h.noted) m h.sound image whole y).recoverable.within;
      recovers = kept.recovers;
      clear = kept.clear;
      updates = x.updates;
      placed = none_misplaced f.place.clusters x.list placed;
      no_partial = x.no_partial;
      known = x.known;
      spelled = λ b out other. kept.spelled b (x.known b out) out other;
    }

pub at_return : {ends : Bool} (count : ℕ) (changes : Changes) (f : StoreFacts) (w : StoreWindow) (image : List (List ℕ)) → HasWindowAs ends changes f w → MayLeaveNow count changes image → RecoversWithin f.place (own_of f) w (sector_of image)
at_return count changes f w image has left =
    let may : MayLeave count has.0 image = subst (λ (o : Option Disk). IfSome o (λ d. MayLeave count d image)) has.1 left in
    subst (λ (v : StoreWindow). RecoversWithin f.place (own_of f) v (sector_of image)) has.4
    (behind_recovers f has.0 has.2 has.3 (sector_of image) may.each (image_is_disk count has.0 image has.3.sized may).whole)

pub waits : {ends : Bool} (changes : Changes) (f : StoreFacts) (w : StoreWindow) → HasWindowAs ends changes f w → f.durable + w.waiting ≡ f.commits
waits changes f w has = subst (λ (v : StoreWindow). f.durable + v.waiting ≡ f.commits) has.4 has.3.window.waiting

pub is_open_of : {ends : Bool} (changes : Changes) (f : StoreFacts) (w : StoreWindow) → HasWindowAs ends changes f w → w.is_open ≡ f.is_open
is_open_of changes f w has = subst (λ (v : StoreWindow). v.is_open ≡ f.is_open) has.4 has.3.window.is_open

pub machine_of : {ends : Bool} (changes : Changes) (f : StoreFacts) (w : StoreWindow) → HasWindowAs ends changes f w → HasMachineAs ends changes f
machine_of {ends} changes f w has disk is = (has.2, subst (λ (d : Disk). StandsBehindAs ends f d has.2) (some_inj has.0 disk (sym has.1 ∙ is)) has.3)

-- a store that goes on is one that ends
pub behind_ends : {ends : Bool} (f : StoreFacts) (disk : Disk) (m : Store) → StandsBehindAs ends f disk m → StandsBehindAs true f disk m
behind_ends {ends} f disk m h = record {
  geometry = h.geometry;
  volume = h.volume;
  lap = h.lap;
  ring = h.ring;
  pages = h.pages;
  restarts = h.restarts;
  fields = h.fields;
  noted = h.noted;
  stands = h.stands;
  holds = h.holds;
  below = h.below;
  note = h.note;
  same = h.same;
  sized = h.sized;
  own_pages = h.own_pages;
  closes = may_end ends f.log.sent h.restarts h.fields (length h.pages) (h.ring.oldest + length h.pages - h.noted) h.closes;
  placed = h.placed;
  sound = h.sound;
  window = h.window;
  marks = h.marks;
  by_pages = h.by_pages;
}

pub window_ends : (changes : Changes) (f : StoreFacts) (w : StoreWindow) → HasWindowAs false changes f w → HasWindowAs true changes f w
window_ends changes f w has = (has.0, has.1, has.2, behind_ends f has.0 has.2 has.3, has.4)

pub machine_ends : (changes : Changes) (f : StoreFacts) → HasMachineAs false changes f → HasMachineAs true changes f
machine_ends changes f has disk is = let m = has disk is in (m.0, behind_ends f disk m.0 m.1)

pub keeps : {ends : Bool} (count moment : ℕ) (old now : Changes) (f g : StoreFacts) (After : StoreWindow → StoreWindow → Type 0) → SimulatesAs ends count moment old now f g After → HasMachineAs ends old f → HasMachineAs ends now g
keeps count moment old now f g After step has e is =
    let d = step.known e is in
    let m = has d.0 d.1 in
    let next = step.steps (store_window m.0) (d.0, d.1, m.0, m.1, refl) in
    machine_of now g next.0 next.1 e is

-- ---- simulations

-- a call in memory
pub in_memory : {ends : Bool} (count moment : ℕ) (changes : Changes) (f g : StoreFacts) (After : StoreWindow → StoreWindow → Type 0) → g.place ≡ f.place → g.found ≡ f.found
    → ((disk : Disk) (m : Store) → changes.disk ≡ Some disk → StandsBehindAs ends f disk m → (n : Store) × StandsBehindAs ends g disk n × After (store_window m) (store_window n)) → SimulatesAs ends count moment changes changes f g After
in_memory count moment changes f g After place found step = record {
  known = λ e is. (e, is);
  place = place;
  found = found;
  steps = λ w has. let next = step has.0 has.2 has.1 has.3 in (
    store_window next.0,
    (has.0, has.1, next.0, next.1, refl),
    subst (λ (u : StoreWindow). After u (store_window next.0)) has.4 next.2,
    λ t image le left. inl left,
  );
  laps = λ w has t image le left. inl left;
}

here : (f g : StoreFacts) (w : StoreWindow) (image : SectorBytes) → g.place ≡ f.place → g.found ≡ f.found → RecoversWithin g.place (own_of g) w image → RecoversWithin f.place (own_of f) w image
here f g w image place found x =
    subst (λ (bs : List Block). RecoversWithin f.place (is_own f.place bs) w image) found (subst (λ (p : LogPlace). RecoversWithin p (is_own p g.found) w image) place x)

-- a call that makes one call of the device, which begins at this moment or later
pub by_device : {ends : Bool} (count moment begun : ℕ) (old now : Changes) (f g : StoreFacts) (After : StoreWindow → StoreWindow → Type 0) → g.place ≡ f.place → g.found ≡ f.found
    → ((e : Disk) → now.disk ≡ Some e → (d : Disk) × (old.disk ≡ Some d)) → moment ≤ begun → Remembers begun old now
    → ((disk : Disk) (m : Store) → old.disk ≡ Some disk → StandsBehindAs ends f disk m → (e : Disk) × (now.disk ≡ Some e) × (n : Store) × StandsBehindAs ends g e n × After (store_window m) (store_window n))
    → SimulatesAs ends count moment old now f g After
by_device {ends} count moment begun old now f g After place found known later remembers step = record {
  known = known;
  place = place;
  found = found;
  steps = λ w has. let next = step has.0 has.2 has.1 has.3 in
      let has' : HasWindowAs ends now g (store_window next.2) = (next.0, next.1, next.2, next.3, refl) in (
        store_window next.2,
        has',
        subst (λ (u : StoreWindow). After u (store_window next.2)) has.4 next.4,
        λ t image le left. during t image (omega (arith, le, later)) (store_window next.2) has' left w,
      );
  laps = λ w has t image le left. let next = step has.0 has.2 has.1 has.3 in laps t image (omega (arith, le, later)) (store_window next.2) (next.0, next.1, next.2, next.3, refl) left;
}
  where
    laps : (t : ℕ) (image : List (List ℕ)) → t ≤ begun → (v : StoreWindow) → HasWindowAs ends now g v → LeftSince count now t image → LeftSince count old t image ⊎ (next_lap_in f.place (sector_of image) ≤ max (lap_behind f) (lap_behind g))
    laps t image le v has left =
        elim (one_call_more count begun t old now image remembers le left) [
          | inl before ↦ inl before
          | inr may ↦
              let low : next_lap_in f.place (sector_of image) ≤ lap_behind g = subst (λ (p : LogPlace). next_lap_in p (sector_of image) ≤ lap_behind g) place (next_lap_shown count now g v image has may) in
              inr (omega (arith, low))
        ]

    during : (t : ℕ) (image : List (List ℕ)) → t ≤ begun → (v : StoreWindow) → HasWindowAs ends now g v → LeftSince count now t image → (w : StoreWindow)
        → LeftSince count old t image ⊎ (RecoversWithin f.place (own_of f) w (sector_of image) ⊎ RecoversWithin f.place (own_of f) v (sector_of image))
    during t image le v has left w =
        elim (one_call_more count begun t old now image remembers le left) [
          | inl before ↦ inl before
          | inr may ↦ inr (inr (here f g v (sector_of image) place found (at_return count now g v image has may)))
        ]

-- a call that reads, and changes nothing
pub by_read : {ends : Bool} (count moment : ℕ) (old now : Changes) (f : StoreFacts) (After : StoreWindow → StoreWindow → Type 0) → ((w : StoreWindow) → After w w) → now ≡ old → SimulatesAs ends count moment old now f f After
by_read {ends} count moment old now f After same is =
    subst (λ (c : Changes). SimulatesAs ends count moment old c f f After) (sym is)
    (record { known = λ e h. (e, h); place = refl; found = refl; steps = λ w has. (w, has, same w, λ t image le left. inl left); laps = λ w has t image le left. inl left })

-- ---- disks that are known

known_torn : (first : ℕ) (new : List (List ℕ)) (old now : Option Disk) (e : Disk) → now ≡ Some e → IsTornDisk first new old now → (d : Disk) × (old ≡ Some d)
known_torn first new None None e is torn = absurd cc
known_torn first new None (Some x) e is torn = absurd torn
known_torn first new (Some d) now e is torn = (d, refl)

known_map : (change : Disk → Disk) (old : Option Disk) (e : Disk) → option_map change old ≡ Some e → (d : Disk) × (old ≡ Some d)
known_map change None e is = absurd cc
known_map change (Some d) e is = (d, refl)

pub known_before_write : {T E : Type 0} (moment first : ℕ) (new : List (List ℕ)) (result : Result T E) (old now : Changes) → Writes moment first new result old now → (e : Disk) → now.disk ≡ Some e → (d : Disk) × (old.disk ≡ Some d)
known_before_write moment first new (Ok x) old now writes e is = known_map (put first new) old.disk e (sym writes.ok ∙ is)
known_before_write moment first new (Err x) old now writes e is = known_torn first new old.disk now.disk e is writes.err

pub known_before_sync : {T E : Type 0} (moment : ℕ) (result : Result T E) (old now : Changes) → Syncs moment result old now → (e : Disk) → now.disk ≡ Some e → (d : Disk) × (old.disk ≡ Some d)
known_before_sync moment (Ok x) old now syncs e is = known_map settled old.disk e (sym syncs.ok ∙ is)
known_before_sync moment (Err x) old now syncs e is = (e, sym syncs.err ∙ is)

-- a sized disk, as a device's is
pub sized_of : (changes : Changes) (disk : Disk) → changes.disk ≡ Some disk → IfSome changes.disk IsSized → IsSized disk
sized_of changes disk is sized = subst (λ (o : Option Disk). IfSome o IsSized) is sized

pub some_is : (a b : Disk) → Some a ≡ Some b → a ≡ b
some_is a b e = some_inj a b e

-- ---- a call behind one that reads

joined : (count early late : ℕ) (old mid now : Changes) (f : StoreFacts) (w v : StoreWindow) (t : ℕ) (image : List (List ℕ)) → t ≤ early → early ≤ late
    → During count early old mid f w w → During count late mid now f w v → LeftSince count now t image → LeftSince count old t image ⊎ (RecoversWithin f.place (own_of f) w (sector_of image) ⊎ RecoversWithin f.place (own_of f) v (sector_of image))
joined count early late old mid now f w v t image le later first second left =
    elim (second t image (omega (arith, le, later)) left) [
      | inl between ↦ elim (first t image le between) [
        | inl before ↦ inl before
        | inr recovers ↦ inr (inl (either (RecoversWithin f.place (own_of f) w (sector_of image)) recovers))
      ]
      | inr recovers ↦ inr recovers
    ]
  where
    either : (X : Type 0) → X ⊎ X → X
    either X (inl x) = x
    either X (inr x) = x

joined_laps : (count early late : ℕ) (old mid now : Changes) (f g : StoreFacts) (t : ℕ) (image : List (List ℕ)) → LapsDuring count early old mid f f → LapsDuring count late mid now f g → t ≤ early → early ≤ late
    → LeftSince count now t image → LeftSince count old t image ⊎ (next_lap_in f.place (sector_of image) ≤ max (lap_behind f) (lap_behind g))
joined_laps count early late old mid now f g t image first second le later left =
    elim (second t image (omega (arith, le, later)) left) [
      | inl between ↦ elim (first t image le between) [
        | inl before ↦ inl before
        | inr low ↦ inr (omega (arith, low))
      ]
      | inr low ↦ inr low
    ]

pub after_reading : {ends : Bool} (count early late : ℕ) (old mid now : Changes) (f g : StoreFacts) (After : StoreWindow → StoreWindow → Type 0) → early ≤ late → SimulatesAs ends count early old mid f f AfterWrite → SimulatesAs ends count late mid now f g After
    → SimulatesAs ends count early old now f g After
after_reading {ends} count early late old mid now f g After later read then = record {
  known = λ e is. let d = then.known e is in read.known d.0 d.1;
  place = then.place;
  found = then.found;
  steps = λ w has.
      let one = read.steps w has in
      let same : one.0 ≡ w = one.2.same in
      let two = then.steps w (subst (λ (v : StoreWindow). HasWindowAs ends mid f v) same one.1) in
      (two.0, two.1, two.2, λ t image le left. joined count early late old mid now f w two.0 t image le later (subst (λ (v : StoreWindow). During count early old mid f w v) same one.3) two.3 left);
  laps = λ w has t image le left.
      let one = read.steps w has in
      let same : one.0 ≡ w = one.2.same in
      joined_laps count early late old mid now f g t image (read.laps w has) (then.laps w (subst (λ (v : StoreWindow). HasWindowAs ends mid f v) same one.1)) le later left;
}

-- ---- a sync that failed

pub sync_fails : {ends : Bool} {T E : Type 0} (count moment : ℕ) (fault : E) (old now : Changes) (f : StoreFacts) → Syncs {T = T} {E = E} moment (Err fault) old now → SimulatesAs ends count moment old now f f AfterWrite
sync_fails count moment fault old now f syncs =
    by_device count moment moment old now f f AfterWrite refl refl (λ e is. (e, sym syncs.err ∙ is)) (omega arith) syncs.past (λ disk m is h. (disk, syncs.err ∙ is, m, h, record { same = refl }))
