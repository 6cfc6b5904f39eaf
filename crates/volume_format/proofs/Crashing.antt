-- What a crash leaves above the regions of a new volume, by the calls of the device.
use Rattle.std.proofs.Common.{◌≡◌, ℕ, ◌+◌, ◌*◌, ◌/◌, ◌≤◌, List, length, Option, Some, None, Result, Ok, Err, refl, sym, subst, inl, inr, arith}
use Rattle.std.specs.Prelude.{IfSome, OnOk}
use Rattle.std.specs.Option.{option_map}
use Rattle.disk_model.specs.Sectors.{sector_of}
use Rattle.sector_device.specs.Disks.{Disk, MayHold, MayLeave, AreOver, IsSettled, seen, settled}
use Rattle.sector_device.specs.Moments.{Changes, Remembers, Writes, Syncs}
use Rattle.sector_device.specs.Sectors.{sectors_of}
use Rattle.sector_device.specs.WholeSectors.{length-sectors_of}
use Rattle.sector_device.proofs.Images.{present_is_now, one_call_more, holds_seen, known_after_write, known_after_sync, between_holds, settled_holds}
use Rattle.volume_format.specs.declared.layout.Layout.{Layout}
use Rattle.volume_format.specs.Layouts.{used_clusters}
use Rattle.volume_format.specs.Crashing.{IsSettledNow, MayHoldNow, StaysFrom, KeepsLeft}

-- ---- a sync that is done

all_settled : (disk : Option Disk) → IfSome (option_map settled disk) IsSettled
all_settled None = tt
all_settled (Some d) = λ s. refl

pub synced_now : {T E : Type 0} (moment : ℕ) (result : Result T E) (old now : Changes) → Syncs moment result old now → OnOk result (IsSettledNow now)
synced_now moment (Err e) old now syncs = tt
synced_now moment (Ok x) old now syncs = subst (λ (disk : Option Disk). IfSome disk IsSettled) (sym syncs.ok) (all_settled old.disk)

-- ---- one call

-- an image has in each sector what may be left there
each_held : (count s : ℕ) (image : List (List ℕ)) (disk : Option Disk) → IfSome disk (λ d. MayLeave count d image) → IfSome disk (λ d. MayHold d s (sector_of image s))
each_held count s image None left = tt
each_held count s image (Some d) left = left.each s

call_stays : (first moment : ℕ) (old now : Changes) → Remembers moment old now → ((s : ℕ) (value : List ℕ) → first ≤ s → MayHoldNow now s value → MayHoldNow old s value) → StaysFrom first moment old now
call_stays first moment old now remembers holds = record {
  holds = holds;
  left = λ count t image le left. elim (one_call_more count moment t old now image remembers le left) [
    | inl before ↦ inl before
    | inr present ↦ inr (λ s le'. holds s (sector_of image s) le' (each_held count s image now.disk present))
  ];
}

written_holds : {T E : Type 0} (moment at first s : ℕ) (new : List (List ℕ)) (value : List ℕ) (result : Result T E) (old now : Changes) (disk : Option Disk) → old.disk ≡ disk → at + length new ≤ first → first ≤ s → Writes moment at new result old now
    → MayHoldNow now s value → IfSome disk (λ d. MayHold d s value)
written_holds moment at first s new value result old now None is end le writes holds = tt
written_holds moment at first s new value result old now (Some d) is end le writes holds =
    let after = known_after_write moment at new result old now d writes is in
    elim (between_holds at s new d after.0 value after.2 (subst (λ (o : Option Disk). IfSome o (λ e. MayHold e s value)) after.1 holds)) [
      | inl before ↦ before
      | inr new ↦ absurd (omega (arith, new.1, end, le))
    ]

-- a write that ends at or before this sector
pub write_stays : {T E : Type 0} (moment at first : ℕ) (bytes : List ℕ) (result : Result T E) (old now : Changes) → at + length bytes / 512 ≤ first → Writes moment at (sectors_of bytes) result old now → StaysFrom first moment old now
write_stays moment at first bytes result old now end writes =
    let count : length (sectors_of bytes) ≡ length bytes / 512 = length-sectors_of bytes in
    call_stays first moment old now writes.past (λ s value le holds. written_holds moment at first s (sectors_of bytes) value result old now old.disk refl (omega (arith, count, end)) le writes holds)

synced_holds : {T E : Type 0} (moment s : ℕ) (value : List ℕ) (result : Result T E) (old now : Changes) (disk : Option Disk) → old.disk ≡ disk → Syncs moment result old now → MayHoldNow now s value → IfSome disk (λ d. MayHold d s value)
synced_holds moment s value result old now None is syncs holds = tt
synced_holds moment s value result old now (Some d) is syncs holds =
    elim (known_after_sync moment result old now d syncs is) [
      | inl same ↦ subst (λ (o : Option Disk). IfSome o (λ e. MayHold e s value)) same holds
      | inr done ↦
          let is_seen : value ≡ seen d s = settled_holds d s value (subst (λ (o : Option Disk). IfSome o (λ e. MayHold e s value)) done holds) in
          subst (λ (v : List ℕ). MayHold d s v) (sym is_seen) (holds_seen d s)
    ]

-- a sync
pub sync_stays : {T E : Type 0} (moment first : ℕ) (result : Result T E) (old now : Changes) → Syncs moment result old now → StaysFrom first moment old now
sync_stays moment first result old now syncs =
    call_stays first moment old now syncs.past (λ s value le holds. synced_holds moment s value result old now old.disk refl syncs holds)

-- ---- calls after calls

pub none_stays : (first moment : ℕ) (c : Changes) → StaysFrom first moment c c
none_stays first moment c = record { holds = λ s value le holds. holds; left = λ count t image le left. inl left }

pub stays_above : (first end moment : ℕ) (old now : Changes) → first ≤ end → StaysFrom first moment old now → StaysFrom end moment old now
stays_above first end moment old now le stays = record {
  holds = λ s value le' holds. stays.holds s value (omega (arith, le, le')) holds;
  left = λ count t image le' left. elim (stays.left count t image le' left) [
    | inl before ↦ inl before
    | inr held ↦ inr (λ s le''. held s (omega (arith, le, le'')))
  ];
}

then_stays : (first moment later : ℕ) (old mid now : Changes) → moment ≤ later → StaysFrom first moment old mid → StaysFrom first later mid now → StaysFrom first moment old now
then_stays first moment later old mid now after one more = record {
  holds = λ s value le holds. one.holds s value le (more.holds s value le holds);
  left = λ count t image le left. elim (more.left count t image (omega (arith, le, after)) left) [
    | inl before ↦ one.left count t image le before
    | inr held ↦ inr (λ s le'. one.holds s (sector_of image s) le' (held s le'))
  ];
}

-- calls that end at or before this sector, and more of them
pub stays_then : (a b end moment later : ℕ) (old mid now : Changes) → a ≤ end → b ≤ end → moment ≤ later → StaysFrom a moment old mid → StaysFrom b later mid now → StaysFrom end moment old now
stays_then a b end moment later old mid now le le' after one more =
    then_stays end moment later old mid now after (stays_above a end moment old mid le one) (stays_above b end later mid now le' more)

-- ---- the format

-- what was before is over, so what was left since the present moment is what a crash may leave
pub stays_left : (v : Layout) (count moment : ℕ) (old now : Changes) → AreOver moment old.past → StaysFrom (8 * used_clusters v) moment old now → KeepsLeft v count moment old now
stays_left v count moment old now over stays = λ image left. elim (stays.left count moment image (omega arith) left) [
  | inl before ↦ (λ s le. each_held count s image old.disk (present_is_now count moment old image over before))
  | inr held ↦ held
]

-- the layout is that of the device
pub stays_on : (v w : Layout) (moment : ℕ) (old now : Changes) → v ≡ w → StaysFrom (8 * used_clusters v) moment old now → StaysFrom (8 * used_clusters w) moment old now
stays_on v w moment old now e stays = subst (λ (u : Layout). StaysFrom (8 * used_clusters u) moment old now) e stays
