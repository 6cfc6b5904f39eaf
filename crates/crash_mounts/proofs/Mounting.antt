-- An image that a crash leaves mounts as the state to which it recovers.
use Rattle.std.proofs.Common.{◌≡◌, ℕ, ◌/◌, ◌<◌, ◌≤◌, Bool, true, false, cond, List, length, Some, Result, Ok, refl, sym, ap, ◌∙◌, subst, arith}
use Rattle.std.specs.Prelude.{nat_lt, is_some}
use Rattle.std.proofs.lemmas.Bool.{leb-true, le-leb}
use Rattle.host_base.specs.Answers.{◌>>=◌, needs}
use Rattle.disk_model.specs.Sectors.{sector_of}
use Rattle.disk_model.specs.Content.{Content, content_of}
use Rattle.record_model.proofs.Answering.{steps_from_ok, needs_from_ok}
use Rattle.state_model.specs.declared.geometry.MapRefusal.{MapRefusal}
use Rattle.volume_model.specs.Volumes.{Volume, volume_of, file_in, log_file, cluster_bits, upper_of}
use Rattle.mount_laws.specs.volume_state.Trees.{tree_of}
use Rattle.mount_laws.specs.plan_owners.States.{Stands}
use Rattle.member_states.specs.state_blocks.Needing.{AgreeOnNeeded, NeededIsAll}
use Rattle.log_model.specs.declared.entry.Entry.{Entry}
use Rattle.log_model.specs.Logs.{recovered}
use Rattle.log_page.specs.declared.places.LogPlace.{LogPlace}
use Rattle.log_page.specs.declared.restart.Restart.{Restart}
use Rattle.log_page.specs.RecordPages.{Reading}
use Rattle.log_page.specs.LiveLogs.{live_log}
use Rattle.txn_mount.specs.log_recovery.LogStates.{LogState}
use Rattle.txn_mount.specs.log_recovery.Recovering.{shadow_lsn}
use Rattle.txn_mount.specs.log_recovery.Writing.{to_write_in}
use Rattle.mount_laws.specs.image_open.declared.refusal.Refusal.{Refusal}
use Rattle.mount_laws.specs.image_open.declared.refusal.Refusal.TheVariants.{Short, LogSmall}
use Rattle.mount_laws.specs.image_open.Writing.{OpenedToWrite, opened_to_write_in}
use Rattle.mount_laws.specs.image_read.Checks.{volume_on, has_version}
use Rattle.member_states.specs.ring_laws.PageBytes.{raw_page}
use Rattle.store_claims.specs.Windows.{StoreWindow}
use Rattle.member_states.specs.txn_laws.Windows.{RecoversWithin}
use Rattle.mount_laws.specs.volume_mount.Boot.{KeepsBoot, keeps_boot}
use Rattle.mount_laws.specs.volume_mount.Mounts.{Said, has_no_journal, front_sectors, lying_pages, pages_needed, pages_lie, has_single_lists, has_pages, changeable, may_be_changed, unshadowed, placed, ruled, settled, paged, unjournaled, tried, loaded_on, MountedVolume, content_behind, mounted_as, mounted_by, mounted_in, mounted_of}
use Rattle.member_states.specs.Members.{VolumeBase, MembersAre}
use Rattle.member_states.specs.Crashes.{RecoversToState}
use Rattle.member_states.proofs.Recovering.{to_state}
use Rattle.crash_mounts.specs.Opening.{with_state}
use Rattle.mount_laws.specs.volume_mount.Welcome.{IsWelcome}
use Rattle.mount_laws.proofs.volume_mount.Booting.{passes}
use Rattle.crash_mounts.specs.Mounting.{base_behind, IsLeftBy, MountsAsState, CrashesMount}
use Rattle.crash_mounts.proofs.Opening.{opens_alike}
use Rattle.crash_mounts.proofs.Reading.{reads_list}
use Rattle.crash_mounts.proofs.Loading.{states_load}
use Rattle.crash_mounts.proofs.Clearing.{none_shadowed}

-- ---- the first mount

-- how it was opened, and that its log has its pages, which lie on the device
pub record FirstParts (c : Content) (sectors : ℕ) (m : MountedVolume) : Type 0 where
  pub opened : opened_to_write_in c sectors ≡ Ok m.opened
  pub pages : has_pages m.opened.place ≡ Ok tt
  pub volume : Volume
  pub lies : pages_lie m.opened.place volume ≡ Ok tt

unit_is : (r : Result (Unit {0}) Refusal) (x : Unit {0}) → r ≡ Ok x → r ≡ Ok tt
unit_is r tt is = is

pub first_parts : (c : Content) (sectors : ℕ) (m : MountedVolume) → mounted_in c sectors ≡ Ok m → FirstParts c sectors m
unfolding mounted_in mounted_by loaded_on tried unjournaled paged settled placed changeable
first_parts c sectors m is =
    let first = steps_from_ok (opened_to_write_in c sectors) (mounted_by c) m is in
    let o = first.0 in
    let after : Content = content_behind c o in
    let said : Said = shadow_lsn o.state.log in
    let second = steps_from_ok (loaded_on said o.place after o.geometry o.total) (λ v. Ok (mounted_as c o v)) m first.2 in
    let third = steps_from_ok (volume_on after o.geometry o.total) (tried said o.place after) second.0 second.1 in
    let v = third.0 in
    let version = steps_from_ok (has_version v) (λ _. unjournaled said (upper_of after v) o.place after v) second.0 third.2 in
    let journal = steps_from_ok (has_no_journal (upper_of after v) v) (λ _. paged said o.place after v) second.0 version.2 in
    let pages = steps_from_ok (has_pages o.place) (λ _. settled said o.place after v) second.0 journal.2 in
    let rules = steps_from_ok (ruled after v) (λ x. placed said o.place (cluster_bits after x) x) second.0 pages.2 in
    let fit = steps_from_ok (may_be_changed o.place after rules.0) (λ _. unshadowed said rules.0) second.0 rules.2 in
    let lying = steps_from_ok (pages_lie o.place rules.0) (λ _. has_single_lists rules.0 >>= λ _. keeps_boot (cluster_bits after rules.0) rules.0) fit.0 fit.1 in
    let made : mounted_as c o second.0 ≡ m = cc in
    let parts : FirstParts c sectors (mounted_as c o second.0) =
    record { opened = first.1; pages = unit_is (has_pages o.place) pages.0 pages.1; volume = rules.0; lies = unit_is (pages_lie o.place rules.0) lying.0 lying.1 }
    in
    subst (FirstParts c sectors) made parts

needed : (t : Bool) (r : Refusal) → needs t r ≡ Ok tt → t ≡ true
needed true r e = refl
needed false r e = absurd cc

some_front : (t : Bool) (pages front : ℕ) → 4 < pages → pages ≤ cond t front 0 → pages ≤ front
some_front true pages front some le = le
some_front false pages front some le = absurd (omega (arith, some, le))

-- a log whose pages lie on the device for one volume does so for each of which record 2 is a file's
lies_again : (place : LogPlace) (v u : Volume) → 4 < place.pages → pages_lie place v ≡ Ok tt → is_some (file_in u log_file) ≡ true → pages_lie place u ≡ Ok tt
unfolding pages_lie
lies_again place v u some lies file =
    let enough = leb-true place.pages (lying_pages place v) (needed _ _ lies) in
    let front = some_front (is_some (file_in v log_file)) place.pages (front_sectors place / 8) some enough in
    let same : lying_pages place u ≡ front_sectors place / 8 = ap (λ (t : Bool). cond t (front_sectors place / 8) 0) file in
    ap (λ (t : Bool). needs t (LogSmall (lying_pages place u) (pages_needed place))) (le-leb place.pages (lying_pages place u) (omega (arith, front, same)))

-- where the bits of the clusters are the same, the boot sector is kept again
kept_again : (c d : Content) (v : Volume) → cluster_bits d v ≡ cluster_bits c v → KeepsBoot c v → KeepsBoot d v
kept_again c d v same keeps = record { others = keeps.others; marked = rw same keeps.marked }

-- ---- the image

same_restart : (r q : Restart) → Some r ≡ Some q → r ≡ q
same_restart r q is = cc

same_volume : (read : Result Volume MapRefusal) (v u : Volume) → read ≡ Ok v → read ≡ Ok u → v ≡ u
same_volume read v u p q = cc

pub some_sectors : (disk : List (List ℕ)) (m : MountedVolume) → mounted_of disk ≡ Ok m → (nat_lt 0 (length disk) ≡ true) × (mounted_in (content_of (sector_of disk)) (length disk) ≡ Ok m)
unfolding mounted_of
some_sectors disk m is = needs_from_ok (nat_lt 0 (length disk)) _ (λ _. mounted_in (content_of (sector_of disk)) (length disk)) m is

pub as_mounted : (c : Content) (sectors : ℕ) (o : OpenedToWrite) (v : Volume) → opened_to_write_in c sectors ≡ Ok o → loaded_on (shadow_lsn o.state.log) o.place (content_behind c o) o.geometry o.total ≡ Ok v → mounted_in c sectors ≡ Ok (mounted_as c o v)
unfolding mounted_in mounted_by
as_mounted c sectors o v opened loaded = ap (λ (r : Result OpenedToWrite Refusal). r >>= mounted_by c) opened ∙ ap (λ (r : Result Volume Refusal). r >>= λ u. okay (mounted_as c o u)) loaded
  where
    okay : MountedVolume → Result MountedVolume Refusal
    okay x = Ok x

pub on_sectors : (disk : List (List ℕ)) (sectors : ℕ) (m : MountedVolume) → length disk ≡ sectors → nat_lt 0 sectors ≡ true → mounted_in (content_of (sector_of disk)) sectors ≡ Ok m → mounted_of disk ≡ Ok m
unfolding mounted_of
on_sectors disk sectors m long some is =
    ap (λ (n : ℕ). needs (nat_lt 0 n) (Short 1 0) >>= λ _. mounted_in (content_of (sector_of disk)) n) long
    ∙ ap (λ (t : Bool). needs t (Short 1 0) >>= λ _. mounted_in (content_of (sector_of disk)) sectors) some
    ∙ is

module _ (needed_is_all : NeededIsAll) (first image : List (List ℕ)) (m : MountedVolume) (place : LogPlace) (w : StoreWindow) (x : IsLeftBy first image m place w) where
  abbrev base : VolumeBase
  base = base_behind first m place

  abbrev c : Content
  c = content_of (sector_of image)

  abbrev list : List Entry
  list = x.recovers.list

  -- the state
  abbrev state : Content
  state = w.before x.recovers.back

  -- the window that holds it alone
  abbrev alone : StoreWindow
  alone = record {
    present = state;
    is_open = false;
    waiting = 0;
    before = λ k. state;
    claimed = record { claims = λ k. w.claimed.claims x.recovers.back; will = w.claimed.claims x.recovers.back };
  }

  alone_members : MembersAre base alone
  alone_members = record { volume = x.volume; present = x.member; members = λ k le. (x.volume, x.member) }

  alone_recovers : RecoversWithin place base.own alone (sector_of image)
  alone_recovers = record {
    restart = x.recovers.restart;
    chosen = x.recovers.chosen;
    own_page = x.recovers.own_page;
    list = list;
    reads = x.recovers.reads;
    closed = x.recovers.closed;
    back = 0;
    within = omega arith;
    recovers = x.recovers.recovers;
    clear = x.recovers.clear;
    updates = x.recovers.updates;
    placed = x.recovers.placed;
    no_partial = x.recovers.no_partial;
    known = x.recovers.known;
    spelled = x.recovers.spelled;
  }

  to : RecoversToState place base alone (sector_of image)
  to = to_state place base alone image x.inside x.near x.bears alone_members alone_recovers

  list_is : to.list ≡ list
  list_is =
      let restart = same_restart to.restart x.recovers.restart (sym to.chosen ∙ x.recovers.chosen) in
      ap (λ (r : Reading). r.entries) (sym to.reads ∙ ap (λ (r : Restart). live_log place.pages (raw_page place (sector_of image)) r.oldest) restart ∙ x.recovers.reads)

  volume_is : to.volume ≡ x.volume
  volume_is = same_volume (volume_of state base.geometry base.clusters) to.volume x.volume to.member.stands.loaded x.member.stands.loaded

  agrees : AgreeOnNeeded state (recovered c list) x.volume
  agrees = subst (λ (l : List Entry). AgreeOnNeeded state (recovered c l) x.volume) list_is (subst (λ (v : Volume). AgreeOnNeeded state (recovered c to.list) v) volume_is to.agrees)

  stands : Stands (recovered c list) base.geometry base.clusters x.volume
  stands = needed_is_all.stands state (recovered c list) base.geometry base.clusters x.volume x.member.stands agrees

  tree_is : tree_of (recovered c list) x.volume ≡ tree_of state x.volume
  tree_is = needed_is_all.tree state (recovered c list) base.geometry base.clusters x.volume x.member.stands agrees

  welcome : IsWelcome (recovered c list) x.volume
  welcome = record {
    version = x.welcome.version;
    no_journal = subst (λ (u : List ℕ). has_no_journal u x.volume ≡ Ok tt) (sym (needed_is_all.upper state (recovered c list) x.volume agrees)) x.welcome.no_journal;
    lists = x.welcome.lists;
    log = x.welcome.log;
    boot = kept_again state (recovered c list) x.volume (needed_is_all.clusters state (recovered c list) x.volume agrees) x.welcome.boot;
  }

  abbrev sectors : ℕ
  sectors = length first

  parts : FirstParts (content_of (sector_of first)) sectors m
  parts = first_parts (content_of (sector_of first)) sectors m (some_sectors first m x.mounted).1

  lies : pages_lie m.opened.place x.volume ≡ Ok tt
  lies =
      let ring = x.ring.ring in
      let pages = x.alike.pages in
      lies_again m.opened.place parts.volume x.volume (omega (arith, ring, pages)) parts.lies x.welcome.log

  fit : may_be_changed m.opened.place (recovered c list) x.volume ≡ Ok tt
  unfolding changeable
  fit =
      let bits = cluster_bits (recovered c list) x.volume in
      ap (λ (r : Result (Unit {0}) Refusal). r >>= λ _. has_single_lists x.volume >>= λ _. keeps_boot bits x.volume) lies
      ∙ ap (λ (r : Result (Unit {0}) Refusal). r >>= λ _. keeps_boot bits x.volume) x.welcome.lists
      ∙ passes (recovered c list) x.volume welcome.boot

  loaded : loaded_on (shadow_lsn list) m.opened.place (recovered c list) base.geometry base.clusters ≡ Ok x.volume
  loaded = states_load (shadow_lsn list) m.opened.place (recovered c list) base.geometry base.clusters x.volume stands welcome parts.pages fit (none_shadowed place base w (sector_of image) x.recovers x.volume x.member x.log_clear)

  read : (found : LogState) × (to_write_in c m.opened.place base.found ≡ Ok found) × (found.log ≡ list)
  read = reads_list place m.opened.place base.found w (sector_of image) x.recovers x.ring x.alike x.far

  abbrev opened : OpenedToWrite
  opened = with_state m.opened read.0

  is_opened : opened_to_write_in c sectors ≡ Ok (with_state m.opened read.0)
  is_opened = opens_alike (content_of (sector_of first)) c sectors m.opened read.0 parts.opened x.bears read.1

  is_loaded : loaded_on (shadow_lsn read.0.log) m.opened.place (recovered c read.0.log) base.geometry base.clusters ≡ Ok x.volume
  is_loaded = subst (λ (l : List Entry). loaded_on (shadow_lsn l) m.opened.place (recovered c l) base.geometry base.clusters ≡ Ok x.volume) (sym read.2) loaded

  mounts : mounted_of image ≡ Ok (mounted_as c (with_state m.opened read.0) x.volume)
  mounts = on_sectors image sectors (mounted_as c opened x.volume) x.long (some_sectors first m x.mounted).0 (as_mounted c sectors opened x.volume is_opened is_loaded)

  as_state : MountsAsState first image m place w x
  as_state = record {
    now = mounted_as c opened x.volume;
    mounts = mounts;
    geometry = refl;
    total = refl;
    place_is = refl;
    log = read.2;
    content = ap (recovered c) read.2;
    volume = refl;
    tree = ap (λ (l : List Entry). tree_of (recovered c l) x.volume) read.2 ∙ tree_is;
  }

pub crashes_mount : NeededIsAll → CrashesMount
crashes_mount needed_is_all = as_state needed_is_all
