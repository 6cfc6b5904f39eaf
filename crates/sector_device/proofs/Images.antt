-- What a crash may leave: the laws, and lemmas for the layers above.
use Rattle.std.proofs.Common.{◌≡◌, ◌⊎◌, subst, ℕ, ◌+◌, ◌-◌, ◌≤◌, ◌<◌, List, [], ◌∷◌, length, Option, Some, None, Result, Ok, Err, refl, sym, ap, ◌∙◌, inl, inr, arith}
use Rattle.std.specs.Prelude.{IfSome, Contains}
use Rattle.std.specs.Option.{option_map}
use Rattle.std.proofs.lemmas.List.{ext_get_or}
use Rattle.disk_model.specs.Sectors.{sector_of, zero_sector}
use Rattle.sector_device.specs.Sectors.{IsDiskOf}
use Rattle.sector_device.specs.Disks.{Disk, Past, newest, seen, MayHold, MayLeave, WasLeft, AreOver, IsSettled, IsSized, SeesDisk, IsBetween, IsTornDisk, put, settled}
use Rattle.sector_device.specs.Moments.{Changes, past_after, Remembers, Writes, Syncs, MayLeaveNow, LeftSince}
use Rattle.sector_device.specs.KeptLaws.{cons_cases, none_in}
use Rattle.sector_device.proofs.KeptCalls.{cases_within}

some_inj : {A : Type 0} (a b : A) → Some a ≡ Some b → a ≡ b
some_inj a b e = cc

-- ---- moments

none_now : (count moment : ℕ) (past : List Past) (image : List (List ℕ)) → AreOver moment past → WasLeft count past moment image → ⊥
none_now count moment [] image over left = left
none_now count moment (p ∷ ps) image over (inl h) = omega (arith, h.0, over.0)
none_now count moment (p ∷ ps) image over (inr h) = none_now count moment ps image over.1 h

present : (count moment : ℕ) (o : Option Disk) (past : List Past) (image : List (List ℕ)) → AreOver moment past → IfSome o (λ disk. MayLeave count disk image ⊎ WasLeft count past moment image) → IfSome o (λ disk. MayLeave count disk image)
present count moment None past image over left = tt
present count moment (Some d) past image over (inl h) = h
present count moment (Some d) past image over (inr h) = absurd (none_now count moment past image over h)

pub present_is_now : (count moment : ℕ) (c : Changes) (image : List (List ℕ)) → AreOver moment c.past → LeftSince count c moment image → MayLeaveNow count c image
present_is_now count moment c image over left = present count moment c.disk c.past image over left

-- by the disks: o and past of before, p and later of now
more_remembered : (count moment t : ℕ) (o p : Option Disk) (past later : List Past) (image : List (List ℕ)) → later ≡ past_after (moment + 1) o past → t ≤ moment → IfSome p (λ e. MayLeave count e image ⊎ WasLeft count later t image) → IfSome o (λ d. MayLeave count d image ⊎ WasLeft count past t image) ⊎ IfSome p (λ e. MayLeave count e image)
more_remembered count moment t None p past later image is le left = inl tt
more_remembered count moment t (Some d) None past later image is le left = inr tt
more_remembered count moment t (Some d) (Some e) past later image is le (inl h) = inr h
more_remembered count moment t (Some d) (Some e) past later image is le (inr h) = go (subst (λ (l : List Past). WasLeft count l t image) is h)
  where
    go : ((t ≤ moment + 1) × MayLeave count d image) ⊎ WasLeft count past t image → (MayLeave count d image ⊎ WasLeft count past t image) ⊎ MayLeave count e image
    go (inl k) = inl (inl k.1)
    go (inr k) = inl (inr k)

more_same : (count t : ℕ) (o p : Option Disk) (past later : List Past) (image : List (List ℕ)) → later ≡ past → p ≡ o → IfSome p (λ e. MayLeave count e image ⊎ WasLeft count later t image) → IfSome o (λ d. MayLeave count d image ⊎ WasLeft count past t image)
more_same count t o p past later image is same left = subst (λ (q : Option Disk). IfSome q (λ d. MayLeave count d image ⊎ WasLeft count past t image)) same (subst (λ (l : List Past). IfSome p (λ e. MayLeave count e image ⊎ WasLeft count l t image)) is left)

pub one_call_more : (count moment t : ℕ) (old now : Changes) (image : List (List ℕ)) → Remembers moment old now → t ≤ moment → LeftSince count now t image → LeftSince count old t image ⊎ MayLeaveNow count now image
one_call_more count moment t old now image (inl is) le left = more_remembered count moment t old.disk now.disk old.past now.past image is le left
one_call_more count moment t old now image (inr h) le left = inl (more_same count t old.disk now.disk old.past now.past image h.0 h.1 left)

kept_left : (count moment t : ℕ) (d e : Disk) (past later : List Past) (image : List (List ℕ)) → later ≡ past_after (moment + 1) (Some d) past → t ≤ moment → MayLeave count d image ⊎ WasLeft count past t image → MayLeave count e image ⊎ WasLeft count later t image
kept_left count moment t d e past later image is le (inl h) = inr (subst (λ (l : List Past). WasLeft count l t image) (sym is) (inl (omega arith, h)))
kept_left count moment t d e past later image is le (inr h) = inr (subst (λ (l : List Past). WasLeft count l t image) (sym is) (inr h))

pub none_is_forgotten : (count moment t : ℕ) (old now : Changes) (d e : Disk) (image : List (List ℕ)) → old.disk ≡ Some d → now.disk ≡ Some e → Remembers moment old now → t ≤ moment → LeftSince count old t image → LeftSince count now t image
none_is_forgotten count moment t old now d e image is is' (inl h) le left =
    subst (λ (o : Option Disk). IfSome o (λ disk. MayLeave count disk image ⊎ WasLeft count now.past t image)) (sym is')
    (kept_left count moment t d e old.past now.past image (h ∙ ap (λ (o : Option Disk). past_after (moment + 1) o old.past) is) le
    (subst (λ (o : Option Disk). IfSome o (λ disk. MayLeave count disk image ⊎ WasLeft count old.past t image)) is left))
none_is_forgotten count moment t old now d e image is is' (inr h) le left = more_same count t now.disk old.disk now.past old.past image (sym h.0) (sym h.1) left

-- ---- images

may_be : (ws : List (List ℕ)) (durable value : List ℕ) → ws ≡ [] → (value ≡ durable) ⊎ Contains ws value → value ≡ durable
may_be ws durable value none (inl e) = e
may_be ws durable value none (inr h) = absurd (none_in value (subst (λ (l : List (List ℕ)). Contains l value) none h))

pub settled_is_one : (count : ℕ) (disk : Disk) (a b : List (List ℕ)) → IsSettled disk → MayLeave count disk a → MayLeave count disk b → a ≡ b
settled_is_one count disk a b none left left' =
    ext_get_or zero_sector a b (left.counted ∙ sym left'.counted) (λ s lt. may_be (disk.written s) (disk.durable s) (sector_of a s) (none s) (left.each s) ∙ sym (may_be (disk.written s) (disk.durable s) (sector_of b s) (none s) (left'.each s)))

pub holds_seen : (disk : Disk) (s : ℕ) → MayHold disk s (seen disk s)
holds_seen disk s = go (disk.written s)
  where
    go : (ws : List (List ℕ)) → (newest ws (disk.durable s) ≡ disk.durable s) ⊎ Contains ws (newest ws (disk.durable s))
    go [] = inl refl
    go (w ∷ ws) = inr (0, omega arith, refl)

pub seen_is_left : (count : ℕ) (disk : Disk) (gives : List (List ℕ)) → IsDiskOf count gives → SeesDisk (Some gives) (Some disk) → MayLeave count disk gives
seen_is_left count disk gives whole sees = record { counted = whole.counted; each = λ s. subst (λ (v : List ℕ). MayHold disk s v) (sym (sees s)) (holds_seen disk s) }

value_size : (disk : Disk) (s : ℕ) (value : List ℕ) → IsSized disk → MayHold disk s value → length value ≡ 512
value_size disk s value sized (inl e) = ap (λ (v : List ℕ). length v) e ∙ sized.durable s
value_size disk s value sized (inr h) = sized.written s value h

pub image_is_disk : (count : ℕ) (disk : Disk) (image : List (List ℕ)) → IsSized disk → MayLeave count disk image → IsDiskOf count image
image_is_disk count disk image sized left = record { counted = left.counted; whole = λ s. value_size disk s (sector_of image s) sized (left.each s) }

-- ---- a write and a sync, of a disk that is known

torn_known : (first : ℕ) (new : List (List ℕ)) (d : Disk) (now : Option Disk) → IsTornDisk first new (Some d) now → (e : Disk) × (now ≡ Some e) × IsBetween d (put first new d) e
torn_known first new d None torn = absurd torn
torn_known first new d (Some e) torn = (e, refl, torn)

-- whatever the write answered, the disk is known, and lies between that of before and that after
-- the whole write
pub known_after_write : {T E : Type 0} (moment first : ℕ) (new : List (List ℕ)) (result : Result T E) (old now : Changes) (d : Disk) → Writes moment first new result old now → old.disk ≡ Some d → (e : Disk) × (now.disk ≡ Some e) × IsBetween d (put first new d) e
known_after_write moment first new (Ok x) old now d writes is = (put first new d, writes.ok ∙ ap (λ (o : Option Disk). option_map (put first new) o) is, record { durable = λ s. refl; written = λ s. inr refl })
known_after_write moment first new (Err x) old now d writes is = torn_known first new d now.disk (subst (λ (o : Option Disk). IsTornDisk first new o now.disk) is writes.err)

pub known_after_sync : {T E : Type 0} (moment : ℕ) (result : Result T E) (old now : Changes) (d : Disk) → Syncs moment result old now → old.disk ≡ Some d → (now.disk ≡ Some d) ⊎ (now.disk ≡ Some (settled d))
known_after_sync moment (Ok x) old now d syncs is = inr (syncs.ok ∙ ap (λ (o : Option Disk). option_map settled o) is)
known_after_sync moment (Err x) old now d syncs is = inl (syncs.err ∙ is)

-- a value that the new list holds
among : (first s : ℕ) (new : List (List ℕ)) (d : Disk) (value : List ℕ) → Contains ((put first new d).written s) value → Contains (d.written s) value ⊎ ((first ≤ s) × (s < first + length new) × (value ≡ sector_of new (s - first)))
among first s new d value h =
    elim (cases_within first (length new) s) [
      | inl w ↦
          let k = rw w.0 at h in
          elim (cons_cases (sector_of new (s - first)) value (d.written s) k) [
            | inl is ↦ inr (w.1.0, w.1.1, sym is)
            | inr rest ↦ inl rest
          ]
      | inr w ↦ (let k = rw w.0 at h in inl k)
    ]

pub between_holds : (first s : ℕ) (new : List (List ℕ)) (d e : Disk) (value : List ℕ) → IsBetween d (put first new d) e → MayHold e s value → MayHold d s value ⊎ ((first ≤ s) × (s < first + length new) × (value ≡ sector_of new (s - first)))
between_holds first s new d e value between (inl is) = inl (inl (is ∙ between.durable s))
between_holds first s new d e value between (inr h) =
    elim (between.written s) [
      | inl same ↦ inl (inr (subst (λ (l : List (List ℕ)). Contains l value) same h))
      | inr after ↦
          elim (among first s new d value (subst (λ (l : List (List ℕ)). Contains l value) after h)) [
            | inl old ↦ inl (inr old)
            | inr new ↦ inr new
          ]
    ]

pub written_or_before : (moment first s : ℕ) (new : List (List ℕ)) {T E : Type 0} (result : Result T E) (old now : Changes) (d e : Disk) (value : List ℕ) → Writes moment first new result old now → old.disk ≡ Some d → now.disk ≡ Some e → MayHold e s value
    → MayHold d s value ⊎ ((first ≤ s) × (s < first + length new) × (value ≡ sector_of new (s - first)))
written_or_before moment first s new result old now d e value writes is is' holds =
    let k = known_after_write moment first new result old now d writes is in
    between_holds first s new d k.0 value k.2 (subst (λ (f : Disk). MayHold f s value) (some_inj e k.0 (sym is' ∙ k.1)) holds)

pub settled_holds : (d : Disk) (s : ℕ) (value : List ℕ) → MayHold (settled d) s value → value ≡ seen d s
settled_holds d s value (inl is) = is
settled_holds d s value (inr h) = absurd (none_in value h)

pub synced_is_before : (moment s : ℕ) {T E : Type 0} (result : Result T E) (old now : Changes) (d e : Disk) (value : List ℕ) → Syncs moment result old now → old.disk ≡ Some d → now.disk ≡ Some e → MayHold e s value → MayHold d s value
synced_is_before moment s result old now d e value syncs is is' holds =
    elim (known_after_sync moment result old now d syncs is) [
      | inl same ↦ subst (λ (f : Disk). MayHold f s value) (some_inj e d (sym is' ∙ same)) holds
      | inr done ↦ subst (λ (v : List ℕ). MayHold d s v) (sym (settled_holds d s value (subst (λ (f : Disk). MayHold f s value) (some_inj e (settled d) (sym is' ∙ done)) holds))) (holds_seen d s)
    ]
