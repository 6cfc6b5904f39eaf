-- The log of a mounted volume may be written as it lies.
use Rattle.std.proofs.Common.{◌≡◌, ℕ, ◌*◌, ◌/◌, ◌^◌, ◌<◌, ◌≤◌, Bool, true, false, cond, not, Option, Some, None, Result, Ok, Err, find, refl, sym, ap, subst, ◌∙◌, arith}
use Rattle.std.specs.Prelude.{is_some}
use Rattle.std.specs.List.{range_with_len}
use Rattle.std.proofs.lemmas.Bool.{leb-true}
use Rattle.host_base.specs.Answers.{◌>>=◌, needs}
use Rattle.disk_model.specs.Content.{Content}
use Rattle.record_model.specs.Records.{Record}
use Rattle.record_model.proofs.Answering.{steps_from_ok}
use Rattle.volume_mount.specs.state_model.declared.stream.Stream.{Stream}
use Rattle.volume_mount.specs.state_model.declared.stream.Stream.TheVariants.{Held, Placed}
use Rattle.volume_mount.specs.state_model.Rules.{first_failing}
use Rattle.volume_mount.specs.volume_model.Volumes.{Volume, volume_of, file_in, log_file, cluster_bits, upper_of}
use Rattle.volume_mount.specs.volume_state.Rules.{first_broken}
use Rattle.volume_mount.specs.volume_state.Trees.{checked}
use Rattle.volume_mount.proofs.volume_state.Reports.{reports}
use Rattle.volume_mount.proofs.stream_laws.Rewriting.{volume_parts}
use Rattle.volume_mount.proofs.stream_rules.Failing.{FindsLeast, finds_least}
use Rattle.plan_owners.specs.States.{Stands}
use Rattle.log_laws.specs.log_page.declared.places.LogPlace.{LogPlace}
use Rattle.volume_mount.specs.log_reading.Rings.{IsRingPlace}
use Rattle.volume_mount.specs.log_recovery.Recovering.{shadow_lsn}
use Rattle.volume_mount.specs.image_open.declared.refusal.Refusal.{Refusal}
use Rattle.volume_mount.specs.image_open.Errors.{map_refusal, refused_as}
use Rattle.volume_mount.specs.image_open.LogPlaces.{stream_place, place_of_log, LieAlike}
use Rattle.volume_mount.specs.image_open.Volumes.{data_of}
use Rattle.volume_mount.specs.image_open.Writing.{OpenedToWrite, opened_to_write_in}
use Rattle.volume_mount.specs.image_read.Errors.{broken_refusal}
use Rattle.volume_mount.specs.image_read.Checks.{volume_on, has_version, tree_on}
use Rattle.volume_mount.specs.Boot.{keeps_boot}
use Rattle.volume_mount.specs.Mounts.{Said, unless_said, is_there, begun_sectors, or_all, front_sectors, lying_pages, pages_lie, has_single_lists, changeable, may_be_changed, pages_needed, whole_pages, has_pages, has_no_journal, unshadowed, placed, ruled, settled, paged, unjournaled, tried, loaded_on, MountedVolume, content_behind, mounted_as, mounted_by, mounted_in}
use Rattle.volume_mount.specs.volume_shadows.Live.{least_live}
use Rattle.volume_mount.proofs.Booting.{passed}
use Rattle.mount_laws.specs.Laws.{MountedOnRing, LiesByRecord, MountedByRecord, PassesMount, MountedPasses}
use Rattle.mount_laws.proofs.Opened.{OpenedParts, opened_parts, IsWhole, its_place, lies_in_ring}
use Rattle.mount_laws.proofs.Records.{parts, more, own_attrs}
use Rattle.mount_laws.proofs.Rings.{alike_ring}

unrefused : {A F : Type 0} (kind : F → Refusal) (read : Result A F) (x : A) → refused_as kind read ≡ Ok x → read ≡ Ok x
unrefused kind (Ok y) x e = cc
unrefused kind (Err f) x e = absurd cc

needed : {F : Type 0} (t : Bool) (r : F) (x : Unit {0}) → needs t r ≡ Ok x → t ≡ true
needed true r x e = refl
needed false r x e = absurd cc

-- ---- the sectors of the log

before_found : (test : ℕ → Bool) (end n : ℕ) (found : Option ℕ) → FindsLeast test 0 end found → n < or_all end found → test n ≡ true
before_found test end n None all below = all n (omega arith) below
before_found test end n (Some x) least below = least.before n (omega arith) below

pub there_before : (place : LogPlace) (n : ℕ) → n < front_sectors place → is_there place n ≡ true
unfolding front_sectors first_failing
there_before place n below = before_found (is_there place) (begun_sectors place) n (find (λ x. not (is_there place x)) (range_with_len 0 (begun_sectors place))) (finds_least (is_there place) 0 (begun_sectors place) (begun_sectors place) (omega arith)) below

-- so many bytes of it are initialised as its pages have, at most
within_pages : (per clusters device : ℕ) (s : Option Stream) → (place_of_log per clusters device s).initialised ≤ 4096 * (place_of_log per clusters device s).pages
unfolding stream_place
within_pages per clusters device None = omega arith
within_pages per clusters device (Some (Held value)) = omega arith
within_pages per clusters device (Some (Placed e)) = omega arith

-- ---- what is tried

file_there : (o : Option Record) (pages front : ℕ) → 4 < pages → pages ≤ (cond (is_some o) (front / 8) 0) → (f : Record) × (o ≡ Some f) × (pages ≤ front / 8)
file_there None pages front some le = absurd (omega (arith, some, le))
file_there (Some f) pages front some le = (f, refl, le)

same_unless : (o : Option ℕ) (r v : Volume) → unless_said o r ≡ Ok v → r ≡ v
same_unless None r v is = cc
same_unless (Some lsn) r v is = absurd cc

module _ (c : Content) (sectors : ℕ) (o : OpenedToWrite) (v : Volume) (small : o.place.pages < 2 ^ 52) (p : OpenedParts c sectors o) where
  abbrev after : Content
  after = content_behind c o

  abbrev said : Said
  said = shadow_lsn o.state.log

  as_pages : has_pages o.place ≡ Ok tt → (pages_needed o.place ≤ whole_pages o.place)
  unfolding has_pages
  as_pages is = leb-true (pages_needed o.place) (whole_pages o.place) (needed _ _ tt is)

  as_lying : (w : Volume) → may_be_changed o.place after w ≡ Ok tt → o.place.pages ≤ lying_pages o.place w
  unfolding changeable pages_lie
  as_lying w is =
      let lying = steps_from_ok (pages_lie o.place w) (λ _. has_single_lists w >>= λ _. keeps_boot (cluster_bits after w) w) tt is in
      leb-true o.place.pages (lying_pages o.place w) (needed _ _ lying.0 lying.1)

  whole : (w : Volume) → pages_needed o.place ≤ whole_pages o.place → o.place.pages ≤ lying_pages o.place w → (IsWhole o.place) × ((f : Record) × (file_in w log_file ≡ Some f))
  whole w enough lying =
      let most : o.place.initialised ≤ 4096 * o.place.pages = subst (λ (x : LogPlace). x.initialised ≤ 4096 * x.pages) (sym p.place) (within_pages o.geometry.per_cluster o.total sectors (data_of p.file)) in
      let ring : 4 < o.place.pages = omega (arith, enough, most) in
      let file = file_there (file_in w log_file) o.place.pages (front_sectors o.place) ring lying in (
        record {
          there = λ n below. there_before o.place n (let all = file.2 in omega (arith, below, all));
          initialised = omega (arith, enough);
          ring = ring;
          small = small;
        },
        (file.0, file.1),
      )

  stands : (w : Volume) → volume_of after o.geometry o.total ≡ Ok w → first_broken after w ≡ None → Stands after o.geometry o.total w
  stands w loaded kept =
      let parts = volume_parts after o.geometry o.total w loaded in
      record { loaded = loaded; kept = kept; some = omega (arith, parts.per, p.eight); room = let s = p.some in omega (arith, parts.count, s) }

  unbroken : (w r : Volume) → ruled after w ≡ Ok r → (first_broken after w ≡ None) × (w ≡ r)
  unfolding ruled tree_on
  unbroken w r is =
      let t = steps_from_ok (tree_on after w) (λ _. Ok w) r is in
      let u = reports after w t.0 (unrefused broken_refusal (checked after w) t.0 t.1) in
      (u.1.kept, cc)

  unit_is : {F : Type 0} (r : Result (Unit {0}) F) (x : Unit {0}) → r ≡ Ok x → r ≡ Ok tt
  unit_is r tt is = is

  -- a volume that passes the tests stands, its log has all its sectors, and file 2 is there
  record IsTried (w : Volume) : Type 0 where
    same : w ≡ v
    state : Stands after o.geometry o.total w
    its : (IsWhole o.place) × ((f : Record) × (file_in w log_file ≡ Some f))

  tried_parts : (w : Volume) → volume_on after o.geometry o.total ≡ Ok w → tried said o.place after w ≡ Ok v → IsTried w
  unfolding volume_on tried unjournaled paged settled placed unshadowed
  tried_parts w loaded is =
      let version = steps_from_ok (has_version w) (λ _. unjournaled said (upper_of after w) o.place after w) v is in
      let journal = steps_from_ok (has_no_journal (upper_of after w) w) (λ _. paged said o.place after w) v version.2 in
      let pages = steps_from_ok (has_pages o.place) (λ _. settled said o.place after w) v journal.2 in
      let rules = steps_from_ok (ruled after w) (λ x. placed said o.place (cluster_bits after x) x) v pages.2 in
      let lying = steps_from_ok (may_be_changed o.place after rules.0) (λ _. unshadowed said rules.0) v rules.2 in
      let kept = unbroken w rules.0 rules.1 in
      record {
        same = kept.1 ∙ same_unless (least_live said rules.0) rules.0 v lying.2;
        state = stands w (unrefused map_refusal (volume_of after o.geometry o.total) w loaded) kept.0;
        its = whole w (as_pages (unit_is (has_pages o.place) pages.0 pages.1)) (subst (λ (x : Volume). o.place.pages ≤ lying_pages o.place x) (sym kept.1) (as_lying rules.0 (unit_is (may_be_changed o.place after rules.0) lying.0 lying.1)));
      }

  -- its boot sector is kept
  as_kept : (w : Volume) → may_be_changed o.place after w ≡ Ok tt → keeps_boot (cluster_bits after w) w ≡ Ok tt
  unfolding changeable
  as_kept w is =
      let lying = steps_from_ok (pages_lie o.place w) (λ _. has_single_lists w >>= λ _. keeps_boot (cluster_bits after w) w) tt is in
      (steps_from_ok (has_single_lists w) (λ _. keeps_boot (cluster_bits after w) w) tt lying.2).2

  -- and each of the tests says yes of it
  tried_passes : (w : Volume) → tried said o.place after w ≡ Ok v → PassesMount (mounted_as c o v)
  unfolding tried unjournaled paged settled placed unshadowed ruled
  tried_passes w is =
      let version = steps_from_ok (has_version w) (λ _. unjournaled said (upper_of after w) o.place after w) v is in
      let journal = steps_from_ok (has_no_journal (upper_of after w) w) (λ _. paged said o.place after w) v version.2 in
      let pages = steps_from_ok (has_pages o.place) (λ _. settled said o.place after w) v journal.2 in
      let rules = steps_from_ok (ruled after w) (λ x. placed said o.place (cluster_bits after x) x) v pages.2 in
      let own = steps_from_ok (may_be_changed o.place after rules.0) (λ _. unshadowed said rules.0) v rules.2 in
      let tree = steps_from_ok (tree_on after w) (λ _. Ok w) rules.0 rules.1 in
      let same : rules.0 ≡ v = same_unless (least_live said rules.0) rules.0 v own.2 in
      let kept : w ≡ rules.0 = cc in
      let change : may_be_changed o.place after v ≡ Ok tt = subst (λ (x : Volume). may_be_changed o.place after x ≡ Ok tt) same (unit_is (may_be_changed o.place after rules.0) own.0 own.1) in
      record {
        version = subst (λ (x : Volume). has_version x ≡ Ok tt) (kept ∙ same) (unit_is (has_version w) version.0 version.1);
        journal = subst (λ (x : Volume). has_no_journal (upper_of after x) x ≡ Ok tt) (kept ∙ same) (unit_is (has_no_journal (upper_of after w) w) journal.0 journal.1);
        pages = unit_is (has_pages o.place) pages.0 pages.1;
        change = change;
        boot = passed after v (as_kept v change);
      }

  pub tried_ring : (w : Volume) → volume_on after o.geometry o.total ≡ Ok w → tried said o.place after w ≡ Ok v → IsRingPlace o.place
  tried_ring w loaded is = (let t = tried_parts w loaded is in lies_in_ring c sectors o p w t.state t.its.1.0 t.its.1.1 t.its.0)

  pub tried_record : (w : Volume) → volume_on after o.geometry o.total ≡ Ok w → tried said o.place after w ≡ Ok v → LiesByRecord sectors after o.geometry o.total o.place v
  tried_record w loaded is =
      let t = tried_parts w loaded is in
      subst (LiesByRecord sectors after o.geometry o.total o.place) t.same
      (record {
        eight = p.eight;
        stands = t.state;
        file = t.its.1.0;
        is_file = t.its.1.1;
        base = (parts after o.geometry o.total w t.state t.its.1.0 t.its.1.1).base;
        more = more after o.geometry o.total w t.state t.its.1.0 t.its.1.1;
        attrs = own_attrs after o.geometry o.total w t.state t.its.1.0 t.its.1.1;
        lies = its_place c sectors o p w t.state t.its.1.0 t.its.1.1 t.its.0;
        there = t.its.0.there;
      })

opened_of_mounted : (c : Content) (o : OpenedToWrite) (v : Volume) → (mounted_as c o v).opened ≡ o
opened_of_mounted c o v = refl

pub on_ring : MountedOnRing
unfolding mounted_in mounted_by loaded_on
on_ring c sectors m place is alike small =
    let first = steps_from_ok (opened_to_write_in c sectors) (mounted_by c) m is in
    let o = first.0 in
    let second = steps_from_ok (loaded_on (shadow_lsn o.state.log) o.place (content_behind c o) o.geometry o.total) (λ v. Ok (mounted_as c o v)) m first.2 in
    let third = steps_from_ok (volume_on (content_behind c o) o.geometry o.total) (tried (shadow_lsn o.state.log) o.place (content_behind c o)) second.0 second.1 in
    let made : mounted_as c o second.0 ≡ m = cc in
    let opened : o ≡ m.opened = ap (λ (x : MountedVolume). x.opened) made in
    let lies : LieAlike place o.place = subst (λ (x : OpenedToWrite). LieAlike place x.place) (sym opened) alike in
    let pages : o.place.pages < 2 ^ 52 = subst (λ (n : ℕ). n < 2 ^ 52) lies.pages small in
    alike_ring place o.place lies (tried_ring c sectors o second.0 pages (opened_parts c sectors o first.1) third.0 third.1 third.2)

pub by_record : MountedByRecord
unfolding mounted_in mounted_by loaded_on
by_record c sectors m is small =
    let first = steps_from_ok (opened_to_write_in c sectors) (mounted_by c) m is in
    let o = first.0 in
    let second = steps_from_ok (loaded_on (shadow_lsn o.state.log) o.place (content_behind c o) o.geometry o.total) (λ v. Ok (mounted_as c o v)) m first.2 in
    let third = steps_from_ok (volume_on (content_behind c o) o.geometry o.total) (tried (shadow_lsn o.state.log) o.place (content_behind c o)) second.0 second.1 in
    let made : mounted_as c o second.0 ≡ m = cc in
    let opened : o ≡ m.opened = ap (λ (x : MountedVolume). x.opened) made in
    let pages : o.place.pages < 2 ^ 52 = subst (λ (x : OpenedToWrite). x.place.pages < 2 ^ 52) (sym opened) small in
    subst (λ (x : MountedVolume). LiesByRecord sectors x.content x.opened.geometry x.opened.total x.opened.place x.volume) made (tried_record c sectors o second.0 pages (opened_parts c sectors o first.1) third.0 third.1 third.2)

pub passes : MountedPasses
unfolding mounted_in mounted_by loaded_on
passes c sectors m is small =
    let first = steps_from_ok (opened_to_write_in c sectors) (mounted_by c) m is in
    let o = first.0 in
    let second = steps_from_ok (loaded_on (shadow_lsn o.state.log) o.place (content_behind c o) o.geometry o.total) (λ v. Ok (mounted_as c o v)) m first.2 in
    let third = steps_from_ok (volume_on (content_behind c o) o.geometry o.total) (tried (shadow_lsn o.state.log) o.place (content_behind c o)) second.0 second.1 in
    let made : mounted_as c o second.0 ≡ m = cc in
    let opened : o ≡ m.opened = ap (λ (x : MountedVolume). x.opened) made in
    let pages : o.place.pages < 2 ^ 52 = subst (λ (x : OpenedToWrite). x.place.pages < 2 ^ 52) (sym opened) small in
    subst PassesMount made (tried_passes c sectors o second.0 pages (opened_parts c sectors o first.1) third.0 third.2)
