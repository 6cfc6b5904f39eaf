-- A step of a store adds no state, and whatever a crash leaves of a volume at rest recovers to one.
use Rattle.std.proofs.Common.{◌≡◌, subst, ℕ, ◌≤◌, Bool, true, List, [], ◌∷◌, length, Option, Some, Result, Ok, Err, sym, ap, ◌∙◌, inl, inr, arith}
use Rattle.std.specs.Prelude.{◌⊎◌, IfSome}
use Rattle.host_base.specs.declared.outside.Failed.{Failed}
use Rattle.disk_model.specs.declared.block.Block.{Block}
use Rattle.disk_model.specs.declared.block.Body.{Body}
use Rattle.disk_model.specs.Sectors.{sector_of}
use Rattle.disk_model.specs.Content.{content_of}
use Rattle.sector_device.specs.Disks.{Disk, Past, MayLeave, WasLeft}
use Rattle.sector_device.specs.Moments.{Changes, MayLeaveNow, LeftSince}
use Rattle.log_page.specs.declared.places.LogPlace.{LogPlace}
use Rattle.volume_model.specs.Indexes.{void_block}
use Rattle.volume_model.specs.Volumes.{Volume}
use Rattle.member_states.specs.map_change.Parts.{MapParts}
use Rattle.member_states.specs.state_blocks.Needing.{IsNeeded, AgreeOnNeeded, NeededIsAll}
use Rattle.store_model.specs.Geometry.{SectorBytes}
use Rattle.store_claims.specs.Windows.{StoreWindow}
use Rattle.flush_policy.specs.declared.facts.StoreStep.{StoreStep}
use Rattle.flush_policy.specs.declared.facts.StoreStep.TheVariants.{SealPage, WritePage, SyncDevice, WriteOut, BeginCheckpoint, WriteRestart}
use Rattle.member_states.specs.txn_model.Values.{StoreFacts}
use Rattle.member_states.specs.txn_laws.Windows.{HasWindow, AfterWrite, MovesTo, During, Simulates}
use Rattle.found_stays.specs.txn_core.Steps.{AfterTurn}
use Rattle.member_states.specs.state_store.Volumes.{geometry_of}
use Rattle.member_states.specs.Members.{VolumeBase, MemberIs, MembersAre}
use Rattle.member_states.specs.Crashes.{RecoversToState, CrashesLeaveStates}
use Rattle.member_states.specs.Steps.{StepsKeepStates}
use Rattle.member_states.proofs.Putting.{one_volume}
use Rattle.member_states.proofs.Staying.{kept}
use Rattle.found_stays.specs.Found.{HasFirst, BearsFirst, StaysOver}
use Rattle.resting_states.specs.Resting.{base_from, Rests}
use Rattle.resting_states.specs.Turns.{TurnsAddNone}
use Rattle.resting_states.specs.Crashes.{RestsRecover}
use Rattle.resting_states.proofs.Finding.{image_bears}

-- ---- windows that lose commits and dead bodies alone

module _ (law : NeededIsAll) (base : VolumeBase) (w u : StoreWindow) (are : MembersAre base w) where
  -- the member of before is one behind, of the same volume
  module _ (k : ℕ) (v : Volume) (low : k ≤ w.waiting) (same : (b : Block) → w.claimed.claims k b ≡ true → u.before k b ≡ w.before k b) (more : (b : Block) → w.claimed.claims k b ≡ true → u.claimed.claims k b ≡ true) (is : MemberIs base u k v) where
    old : (x : Volume) × MemberIs base w k x
    old = are.members k low

    still : MemberIs base u k old.0
    still = kept base (w.claimed.claims k) (u.claimed.claims k) (w.before k) (u.before k) old.0 old.1 same more

    was : MemberIs base w k v
    was = subst (MemberIs base w k) (one_volume (u.before k) base.geometry base.clusters old.0 v still.stands is.stands) old.1

    agree : AgreeOnNeeded (w.before k) (u.before k) v
    agree = record { bodies = λ b needed. (let e = same b (was.claimed b needed) in (ap (λ (y : Body). y.bytes) e, λ torn. ap (λ (y : Body). y.torn) (sym e) ∙ torn)); void = same void_block was.past }

    to_old : (b : Block) → IsNeeded (u.before k) v b → IsNeeded (w.before k) v b
    to_old b needed = law.needed (w.before k) (u.before k) base.geometry base.clusters v b was.stands agree needed

    agree_back : AgreeOnNeeded (u.before k) (w.before k) v
    agree_back = record { bodies = λ b needed. (let e = same b (was.claimed b (to_old b needed)) in (ap (λ (y : Body). y.bytes) (sym e), λ torn. ap (λ (y : Body). y.torn) e ∙ torn)); void = sym (same void_block was.past) }

    to_new : (b : Block) → IsNeeded (w.before k) v b → IsNeeded (u.before k) v b
    to_new b needed = law.needed (u.before k) (w.before k) base.geometry base.clusters v b is.stands agree_back needed

  moved_member : (lost : Block → Bool) → MovesTo lost w u → (k : ℕ) (v : Volume) → k ≤ u.waiting → MemberIs base u k v → (k ≤ w.waiting) × MemberIs base w k v
  moved_member lost moves k v low is =
      let fewer = moves.waiting in
      let lies : k ≤ w.waiting = omega (arith, low, fewer) in
      (lies, was k v lies (moves.kept k low) (moves.claimed.claims k) is)

  moved_back : (lost : Block → Bool) → MovesTo lost w u → (place : LogPlace) (image : SectorBytes) → RecoversToState place base u image → RecoversToState place base w image
  moved_back lost moves place image r =
      let fewer = moves.waiting in
      let within = r.within in
      let lies : r.back ≤ w.waiting = omega (arith, within, fewer) in
      let same = moves.kept r.back r.within in
      let more = moves.claimed.claims r.back in
      let member = was r.back r.volume lies same more r.member in
      record {
        restart = r.restart;
        chosen = r.chosen;
        list = r.list;
        reads = r.reads;
        back = r.back;
        within = lies;
        volume = r.volume;
        member = member;
        agrees = record {
          bodies = λ b needed.
              (let there = r.agrees.bodies b (to_new r.back r.volume lies same more r.member b needed) in
              let e = same b (member.claimed b needed) in
              (there.0 ∙ ap (λ (y : Body). y.bytes) e, λ torn. ap (λ (y : Body). y.torn) (sym e) ∙ there.1 torn));
          void = r.agrees.void ∙ same void_block member.past;
        };
        stands = r.stands;
        tree = r.tree ∙ law.tree (w.before r.back) (u.before r.back) base.geometry base.clusters r.volume member.stands (agree r.back r.volume lies same more r.member);
      }

  -- ---- and those that stay

  kept_member : AfterWrite w u → (k : ℕ) (v : Volume) → k ≤ u.waiting → MemberIs base u k v → (k ≤ w.waiting) × MemberIs base w k v
  kept_member after k v low is = (subst (λ (x : StoreWindow). k ≤ x.waiting) after.same low, subst (λ (x : StoreWindow). MemberIs base x k v) after.same is)

  kept_back : AfterWrite w u → (place : LogPlace) (image : SectorBytes) → RecoversToState place base u image → RecoversToState place base w image
  kept_back after place image r = subst (λ (x : StoreWindow). RecoversToState place base x image) after.same r

-- ---- steps

pub turned_members : NeededIsAll → TurnsAddNone
turned_members law base SealPage result f w u after are k v low is = kept_member law base w u are after k v low is
turned_members law base WritePage result f w u after are k v low is = kept_member law base w u are after k v low is
turned_members law base SyncDevice (Ok x) f w u after are k v low is = moved_member law base w u are _ after k v low is
turned_members law base SyncDevice (Err e) f w u after are k v low is = kept_member law base w u are after k v low is
turned_members law base (WriteOut b) result f w u after are k v low is = moved_member law base w u are _ after k v low is
turned_members law base BeginCheckpoint result f w u after are k v low is = kept_member law base w u are after k v low is
turned_members law base WriteRestart result f w u after are k v low is = kept_member law base w u are after k v low is

turned_back : (law : NeededIsAll) (base : VolumeBase) (step : StoreStep) (result : Result (Unit {0}) Failed) (f : StoreFacts) (w u : StoreWindow) → AfterTurn step result f w u → MembersAre base w → (place : LogPlace) (image : SectorBytes) → RecoversToState place base u image → RecoversToState place base w image
turned_back law base SealPage result f w u after are place image r = kept_back law base w u are after place image r
turned_back law base WritePage result f w u after are place image r = kept_back law base w u are after place image r
turned_back law base SyncDevice (Ok x) f w u after are place image r = moved_back law base w u are _ after place image r
turned_back law base SyncDevice (Err e) f w u after are place image r = kept_back law base w u are after place image r
turned_back law base (WriteOut b) result f w u after are place image r = moved_back law base w u are _ after place image r
turned_back law base BeginCheckpoint result f w u after are place image r = kept_back law base w u are after place image r
turned_back law base WriteRestart result f w u after are place image r = kept_back law base w u are after place image r

-- ---- images

was_counted : (count : ℕ) (past : List Past) (t : ℕ) (image : List (List ℕ)) → WasLeft count past t image → length image ≡ count
was_counted count [] t image left = absurd left
was_counted count (p ∷ ps) t image (inl left) = left.1.counted
was_counted count (p ∷ ps) t image (inr left) = was_counted count ps t image left

-- an image of a known disk has as many sectors
pub since_counted : (count : ℕ) (changes : Changes) (disk : Disk) (t : ℕ) (image : List (List ℕ)) → changes.disk ≡ Some disk → LeftSince count changes t image → length image ≡ count
since_counted count changes disk t image is left = by (subst (λ (o : Option Disk). IfSome o (λ (d : Disk). MayLeave count d image ⊎ WasLeft count changes.past t image)) is left)
  where
    by : MayLeave count disk image ⊎ WasLeft count changes.past t image → length image ≡ count
    by (inl may) = may.counted
    by (inr past) = was_counted count changes.past t image past

module _ (law : NeededIsAll) (crash : CrashesLeaveStates) (keep : StepsKeepStates) where
  now_recovers : (count : ℕ) (changes : Changes) (f : StoreFacts) (first : SectorBytes) (m : MapParts) (table : List ℕ) (disk : List (List ℕ)) (w : StoreWindow) (image : List (List ℕ)) → Rests count changes f first m table disk w → MayLeaveNow count changes image
      → RecoversToState f.place (base_from f first m) w (sector_of image)
  now_recovers count changes f first m table disk w image rests left = by rests.rest.has
    where
      by : HasWindow changes f w → RecoversToState f.place (base_from f first m) w (sector_of image)
      by has =
          let firsts : HasFirst f.found first has.0 = subst (λ (o : Option Disk). IfSome o (HasFirst f.found first)) has.1 rests.stays in
          let may : MayLeave count has.0 image = subst (λ (o : Option Disk). IfSome o (λ (d : Disk). MayLeave count d image)) has.1 left in
          crash.at_return count changes f (content_of first) (geometry_of m) m.volume.clusters w image rests.near rests.few (image_bears count f.found first has.0 image firsts may) rests.rest.members has left

  turn_recovers : (count moment : ℕ) (old now : Changes) (f g : StoreFacts) (first : SectorBytes) (m : MapParts) (table : List ℕ) (disk : List (List ℕ)) (w : StoreWindow) (step : StoreStep) (result : Result (Unit {0}) Failed) (t : ℕ) (image : List (List ℕ)) → Rests count old f first m table disk w
      → Simulates count moment old now f g (AfterTurn step result f) → StaysOver count f.found first old now → t ≤ moment → LeftSince count now t image → LeftSince count old t image ⊎ RecoversToState f.place (base_from f first m) w (sector_of image)
  turn_recovers count moment old now f g first m table disk w step result t image rests takes over before left = by (over.left rests.stays t image left) (takes.steps w rests.rest.has)
    where
      which : (u : StoreWindow) → AfterTurn step result f w u → LeftSince count old t image ⊎ (RecoversToState f.place (base_from f first m) w (sector_of image) ⊎ RecoversToState f.place (base_from f first m) u (sector_of image))
          → LeftSince count old t image ⊎ RecoversToState f.place (base_from f first m) w (sector_of image)
      which u after (inl was) = inl was
      which u after (inr (inl r)) = inr r
      which u after (inr (inr r)) = inr (turned_back law (base_from f first m) step result f w u after rests.rest.members f.place (sector_of image) r)

      by : LeftSince count old t image ⊎ BearsFirst f.found first (sector_of image) → (u : StoreWindow) × HasWindow now g u × AfterTurn step result f w u × During count moment old now f w u
          → LeftSince count old t image ⊎ RecoversToState f.place (base_from f first m) w (sector_of image)
      by (inl was) u = inl was
      by (inr bears) u =
          let size = since_counted count now u.1.0 t image u.1.1 left in
          let few = rests.few in
          which u.0 u.2
          (crash.during count moment old now f (content_of first) (geometry_of m) m.volume.clusters w u.0 t image rests.near (omega (arith, size, few)) bears rests.rest.members (keep.turn (base_from f first m) step result f w u.0 u.2 rests.rest.members) u.3 before left)

  pub all_recover : RestsRecover
  all_recover = record {
    at_return = now_recovers;
    turns = turn_recovers;
    puts = λ result count gives gave before now old new m next xs t image put left. subst (λ (c : Changes). LeftSince count c t image) put.unchanged left;
  }
