-- Sectors that are as they were at first bear what was there, and calls one behind the other leave them.
use Rattle.std.proofs.Common.{◌≡◌, ◌⊎◌, subst, ℕ, ◌+◌, ◌≤◌, Bool, true, false, List, [], ◌∷◌, Option, Some, None, refl, sym, ap, ◌∙◌, inl, inr}
use Rattle.std.specs.Prelude.{◌||◌, IfSome, Contains}
use Rattle.std.specs.List.{list_any}
use Rattle.std.proofs.lemmas.Bool.{true≢false}
use Rattle.disk_model.specs.declared.block.Block.{Block}
use Rattle.disk_model.specs.Sectors.{sectors, sector_of, same_block}
use Rattle.disk_model.proofs.Frames.{same_block-is}
use Rattle.sector_device.specs.Disks.{Disk, Past, MayHold, MayLeave, WasLeft, AreOver, SeesDisk, is_within, seen}
use Rattle.sector_device.specs.KeptLaws.{none_in}
use Rattle.sector_device.specs.Moments.{Changes, LeftSince, Remembers, past_after}
use Rattle.sector_device.proofs.Images.{holds_seen, present_is_now}
use Rattle.txn_core.specs.store_model.Geometry.{SectorBytes, CanLeave}
use Rattle.txn_core.proofs.store_model.Known.{own_content}
use Rattle.found_stays.specs.Found.{is_in, HasFirst, StaysFirst, BearsFirst, StaysOver}

-- ---- the sectors of a block

pub or_true : (t : Bool) → (t || true) ≡ true
or_true true = refl
or_true false = refl

pub in_found : (b : Block) (found : List Block) (s : ℕ) → list_any (same_block b) found ≡ true → is_within b.first (sectors b.kind) s ≡ true → is_in found s ≡ true
in_found b [] s listed within = absurd (true≢false (sym listed))
in_found b (x ∷ found) s listed within = by (same_block b x) refl (λ rest. in_found b found s rest within)
  where
    by : (t : Bool) → same_block b x ≡ t → (list_any (same_block b) found ≡ true → is_in found s ≡ true) → is_in (x ∷ found) s ≡ true
    by true same rest = ap (λ (t : Bool). t || is_in found s) (subst (λ (y : Block). is_within y.first (sectors y.kind) s ≡ true) (same_block-is b x same) within)
    by false other rest =
        let listed_there : list_any (same_block b) found ≡ true = ap (λ (t : Bool). t || list_any (same_block b) found) (sym other) ∙ listed in
        ap (λ (t : Bool). is_within x.first (sectors x.kind) s || t) (rest listed_there) ∙ or_true (is_within x.first (sectors x.kind) s)

-- ---- a disk

held : (disk : Disk) (first : SectorBytes) (s : ℕ) (value : List ℕ) → (disk.written s ≡ []) × (disk.durable s ≡ first s) → MayHold disk s value → value ≡ first s
held disk first s value has (inl is) = is ∙ has.1
held disk first s value has (inr among) = absurd (none_in value (subst (λ (values : List (List ℕ)). Contains values value) has.0 among))

pub bears : (found : List Block) (first : SectorBytes) (disk : Disk) (at : SectorBytes) → HasFirst found first disk → CanLeave disk at → BearsFirst found first at
bears found first disk at has may b listed = own_content b at first (λ s within. held disk first s (at s) (has s (in_found b found s listed within)) (may s))

pub image_bears : (count : ℕ) (found : List Block) (first : SectorBytes) (disk : Disk) (image : List (List ℕ)) → HasFirst found first disk → MayLeave count disk image → BearsFirst found first (sector_of image)
image_bears count found first disk image has may = bears found first disk (sector_of image) has may.each

pub seen_bears : (found : List Block) (first : SectorBytes) (disk : Disk) → HasFirst found first disk → BearsFirst found first (seen disk)
seen_bears found first disk has = bears found first disk (seen disk) has (holds_seen disk)

pub given_bears : (found : List Block) (first : SectorBytes) (gives : Option (List (List ℕ))) (changes : Changes) → SeesDisk gives changes.disk → StaysFirst found first changes → IfSome gives (λ disk. BearsFirst found first (sector_of disk))
given_bears found first gives changes sees stays = by gives changes.disk sees stays
  where
    by : (o : Option (List (List ℕ))) (p : Option Disk) → SeesDisk o p → IfSome p (HasFirst found first) → IfSome o (λ disk. BearsFirst found first (sector_of disk))
    by None p seen_so has = tt
    by (Some now) None seen_so has = absurd seen_so
    by (Some now) (Some disk) seen_so has = bears found first disk (sector_of now) has (λ s. subst (λ (value : List ℕ). MayHold disk s value) (sym (seen_so s)) (holds_seen disk s))

-- ---- calls

first_at : (found : List Block) (first : SectorBytes) (changes : Changes) (disk : Disk) → changes.disk ≡ Some disk → StaysFirst found first changes → HasFirst found first disk
first_at found first changes disk is stays = subst (λ (o : Option Disk). IfSome o (HasFirst found first)) is stays

module _ (count moment : ℕ) (found : List Block) (first : SectorBytes) (old now : Changes) (d e : Disk) (was : old.disk ≡ Some d) (is : now.disk ≡ Some e) (had : HasFirst found first d) (has : HasFirst found first e) (remembers : Remembers moment old now) (t : ℕ) (image : List (List ℕ)) where
  left_so : WasLeft count old.past t image → LeftSince count old t image
  left_so left = subst (λ (o : Option Disk). IfSome o (λ disk. MayLeave count disk image ⊎ WasLeft count old.past t image)) (sym was) (inr left)

  added : ((t ≤ moment + 1) × MayLeave count d image) ⊎ WasLeft count old.past t image → LeftSince count old t image ⊎ BearsFirst found first (sector_of image)
  added (inl before) = inr (image_bears count found first d image had before.1)
  added (inr left) = inl (left_so left)

  past : WasLeft count now.past t image → LeftSince count old t image ⊎ BearsFirst found first (sector_of image)
  past left = elim remembers [
    | inl more ↦ added (subst (λ (l : List Past). WasLeft count l t image) (more ∙ ap (λ (o : Option Disk). past_after (moment + 1) o old.past) was) left)
    | inr same ↦ inl (left_so (subst (λ (l : List Past). WasLeft count l t image) same.0 left))
  ]

  left_known : LeftSince count now t image → LeftSince count old t image ⊎ BearsFirst found first (sector_of image)
  left_known left = elim (subst (λ (o : Option Disk). IfSome o (λ disk. MayLeave count disk image ⊎ WasLeft count now.past t image)) is left) [
    | inl may ↦ inr (image_bears count found first e image has may)
    | inr before ↦ past before
  ]

-- one call, where it leaves a known disk known, and these sectors as they were
module _ (count moment : ℕ) (found : List Block) (first : SectorBytes) (old now : Changes) (after : (d : Disk) → old.disk ≡ Some d → HasFirst found first d → (e : Disk) × (now.disk ≡ Some e) × HasFirst found first e)
    (before : (e : Disk) → now.disk ≡ Some e → (d : Disk) × (old.disk ≡ Some d)) (remembers : Remembers moment old now) where
  stays_now : StaysFirst found first old → StaysFirst found first now
  stays_now stays = by now.disk refl
    where
      by : (o : Option Disk) → now.disk ≡ o → IfSome o (HasFirst found first)
      by None is = tt
      by (Some e) is =
          let d = before e is in
          let next = after d.0 d.1 (first_at found first old d.0 d.1 stays) in
          first_at found first now e is (subst (λ (o : Option Disk). IfSome o (HasFirst found first)) (sym next.1) next.2)

  left_now : StaysFirst found first old → (t : ℕ) (image : List (List ℕ)) → LeftSince count now t image → LeftSince count old t image ⊎ BearsFirst found first (sector_of image)
  left_now stays t image left = by old.disk refl
    where
      by : (o : Option Disk) → old.disk ≡ o → LeftSince count old t image ⊎ BearsFirst found first (sector_of image)
      by None was = inl (subst (λ (o : Option Disk). IfSome o (λ disk. MayLeave count disk image ⊎ WasLeft count old.past t image)) (sym was) tt)
      by (Some d) was =
          let had = first_at found first old d was stays in
          let next = after d was had in
          left_known count moment found first old now d next.0 was next.1 had next.2 remembers t image left

  pub call_stays : StaysOver count found first old now
  call_stays = record { stays = stays_now; left = left_now }

pub none_stays : (count : ℕ) (found : List Block) (first : SectorBytes) (old now : Changes) → now ≡ old → StaysOver count found first old now
none_stays count found first old now same = record {
  stays = λ stays. subst (StaysFirst found first) (sym same) stays;
  left = λ stays t image left. inl (subst (λ (c : Changes). LeftSince count c t image) same left);
}

pub unknown_stays : (count : ℕ) (found : List Block) (first : SectorBytes) (old now : Changes) → old.disk ≡ None → now.disk ≡ None → StaysOver count found first old now
unknown_stays count found first old now was is = record {
  stays = λ stays. subst (λ (o : Option Disk). IfSome o (HasFirst found first)) (sym is) tt;
  left = λ stays t image left. inl (subst (λ (o : Option Disk). IfSome o (λ disk. MayLeave count disk image ⊎ WasLeft count old.past t image)) (sym was) tt);
}

pub both_stay : (count : ℕ) (found : List Block) (first : SectorBytes) (old mid now : Changes) → StaysOver count found first old mid → StaysOver count found first mid now → StaysOver count found first old now
both_stay count found first old mid now one two = record {
  stays = λ stays. two.stays (one.stays stays);
  left = λ stays t image left. elim (two.left (one.stays stays) t image left) [
    | inl before ↦ one.left stays t image before
    | inr bearing ↦ inr bearing
  ];
}

pub since_bears : (count t : ℕ) (found : List Block) (first : SectorBytes) (old now : Changes) (disk : Disk) (image : List (List ℕ)) → old.disk ≡ Some disk → AreOver t old.past → HasFirst found first disk → StaysOver count found first old now → LeftSince count now t image → BearsFirst found first (sector_of image)
since_bears count t found first old now disk image was over had stays left = elim (stays.left (subst (λ (o : Option Disk). IfSome o (HasFirst found first)) (sym was) had) t image left) [
  | inl before ↦ image_bears count found first disk image had (subst (λ (o : Option Disk). IfSome o (λ d. MayLeave count d image)) was (present_is_now count t old image over before))
  | inr bearing ↦ bearing
]
