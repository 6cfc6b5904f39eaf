-- Kept calls are taken back, and of the writes since a sync some are: what the loops keep.
use Rattle.std.proofs.Common.{◌≡◌, ◌⊎◌, subst, ℕ, ◌+◌, ◌-◌, ◌*◌, ◌/◌, ◌≤◌, ◌<◌, Bool, true, false, List, [], ◌∷◌, ◌++◌, length, take, drop, reverse, get_or, refl, sym, ap, ap₂, ◌∙◌, inl, inr, arith}
use Rattle.std.specs.Prelude.{set}
use Rattle.std.proofs.lemmas.Bool.{cases_lt, le-ltb}
use Rattle.std.proofs.lemmas.List.{reverse-append, take-append-drop, length-take-le, take_all, drop_all, take_more, drop_more, get_or-set_same, get_or-set_other}
use Rattle.disk_model.specs.Bytes.{written}
use Rattle.disk_model.specs.Sectors.{sector_of, zero_sector}
use Rattle.sector_device.specs.Sectors.{sector_in, sectors_of}
use Rattle.sector_device.specs.WholeSectors.{length-sectors_of, get_or-sectors_of}
use Rattle.sector_device.specs.Disks.{Disk, MayHold, MayLeave}
use Rattle.sector_device.specs.Kept.{durable_by, disk_by, AreKept}
use Rattle.sector_device.specs.Left.{before_call, before_calls, is_sync, IsInside, AreInside, LeftBy, MayHoldBy, IsFair, Decides}
use Rattle.sector_device.specs.declared.memory.KeptCall.{KeptCall}
use Rattle.sector_device.specs.declared.memory.KeptCall.TheVariants.{Read, Write, Sync, Failed}
use Rattle.sector_device.proofs.SectorParts.{written_in_sectors, sectors_of_front, lent_whole}
use Rattle.sector_device.proofs.KeptCalls.{inside, outside, kept_part}
use Rattle.sector_device.proofs.Left.{left_before, fair_begins, fair_goes_on, fair_ends, fair_is_image}

clash : false ≡ true → ⊥
clash e = cc

-- ---- calls from the newest back

calls_push : (xs : List KeptCall) (c : KeptCall) (g : List (List ℕ)) → before_calls (xs ++ c ∷ []) g ≡ before_call c (before_calls xs g)
calls_push [] c g = refl
calls_push (x ∷ xs) c g = calls_push xs c (before_call x g)

pub back_one : (left : ℕ) (done : List KeptCall) (call : KeptCall) → 0 < left → left ≤ length done → call ≡ get_or done (left - 1) call → reverse (take left done) ≡ call ∷ reverse (take (left - 1) done)
back_one left done call some le is =
    let one : left ≡ left - 1 + 1 = omega arith in
    ap (λ (k : ℕ). reverse (take k done)) one ∙ ap (λ (l : List KeptCall). reverse l) (take_more done (left - 1) call (omega arith)) ∙ reverse-append (take (left - 1) done) (get_or done (left - 1) call ∷ [])
    ∙ ap (λ (c : KeptCall). c ∷ reverse (take (left - 1) done)) (sym is)

drop_one : (left : ℕ) (done : List KeptCall) (call : KeptCall) → 0 < left → left ≤ length done → call ≡ get_or done (left - 1) call → reverse (drop (left - 1) done) ≡ reverse (drop left done) ++ call ∷ []
drop_one left done call some le is =
    let one : left - 1 + 1 ≡ left = omega arith in
    ap (λ (l : List KeptCall). reverse l) (drop_more done (left - 1) call (omega arith)) ∙ reverse-append (get_or done (left - 1) call ∷ []) (drop (left - 1 + 1) done)
    ∙ ap₂ (λ (k : ℕ) (c : KeptCall). reverse (drop k done) ++ c ∷ []) one (sym is)

pub one_inside : (n left : ℕ) (done : List KeptCall) (call : KeptCall) → 0 < left → left ≤ length done → call ≡ get_or done (left - 1) call → AreInside n (reverse (take left done)) → IsInside n call × AreInside n (reverse (take (left - 1) done))
one_inside n left done call some le is h = subst (λ (l : List KeptCall). AreInside n l) (back_one left done call some le is) h

pub one_back : (left : ℕ) (done : List KeptCall) (call : KeptCall) (g now new : List (List ℕ)) → 0 < left → left ≤ length done → call ≡ get_or done (left - 1) call → now ≡ before_calls (reverse (drop left done)) g → new ≡ before_call call now → new ≡ before_calls (reverse (drop (left - 1) done)) g
one_back left done call g now new some le is was step =
    step ∙ ap (λ (l : List (List ℕ)). before_call call l) was ∙ sym (calls_push (reverse (drop left done)) call g) ∙ ap (λ (l : List KeptCall). before_calls l g) (sym (drop_one left done call some le is))

pub all_inside : (n left : ℕ) (done : List KeptCall) → length done ≤ left → AreInside n (reverse done) → AreInside n (reverse (take left done))
all_inside n left done le h = subst (λ (l : List KeptCall). AreInside n (reverse l)) (sym (take_all left done le)) h

pub none_back : (left : ℕ) (done : List KeptCall) (g : List (List ℕ)) → length done ≤ left → g ≡ before_calls (reverse (drop left done)) g
none_back left done g le = ap (λ (l : List KeptCall). before_calls (reverse l) g) (sym (drop_all left done le))

pub kept_inside : (moment n : ℕ) (calls : List KeptCall) → AreKept moment n calls → AreInside n calls
kept_inside moment n [] kept = tt
kept_inside moment n (Read ∷ calls) kept = (tt, kept_inside moment n calls kept)
kept_inside moment n (Failed ∷ calls) kept = (tt, kept_inside moment n calls kept)
kept_inside moment n (Sync at ∷ calls) kept = (tt, kept_inside moment n calls kept.1)
kept_inside moment n (Write at first old ∷ calls) kept = (kept.1.0, kept_inside moment n calls kept.1.1)

-- the old sectors of a write are put back
pub put_back_is : (first whole : ℕ) (old before after : List ℕ) → whole ≡ 512 * (length old / 512) → first + length (sectors_of old) ≤ length before / 512 → after ≡ written (512 * first) (take whole old) before → sectors_of after ≡ written first (sectors_of old) (sectors_of before)
put_back_is first whole old before after size le is =
    let count : length (sectors_of old) ≡ length old / 512 = length-sectors_of old in
    let long : length (take whole old) ≡ whole = length-take-le whole old (omega arith) in
    let front : sectors_of (take whole old) ≡ sectors_of old = sectors_of_front whole old (omega arith) (omega arith) ∙ take_all (whole / 512) (sectors_of old) (omega arith) in
    ap (λ (l : List ℕ). sectors_of l) is ∙ sym (written_in_sectors before (take whole old) first (omega arith) (omega arith)) ∙ ap (λ (l : List (List ℕ)). written first l (sectors_of before)) front

-- ---- one sector

pub decides_none : (s : ℕ) (old : List ℕ) (image : List (List ℕ)) (decided : List Bool) → get_or decided s false ≡ true → Decides s old image image decided decided
decides_none s old image decided e = record { others = λ k other. (refl, refl); here = inl (e, refl) }

pub decides_taken : (s : ℕ) (old : List ℕ) (image : List (List ℕ)) (decided now : List Bool) → s < length decided → now ≡ set decided s true → Decides s old image image decided now
decides_taken s old image decided now lt is = record {
  others = λ k other. (ap (λ (l : List Bool). get_or l k false) is ∙ get_or-set_other decided s k true false other, refl);
  here = inl (ap (λ (l : List Bool). get_or l s false) is ∙ get_or-set_same decided s true false lt, refl);
}

only_sector : (old : List ℕ) → length old ≡ 512 → sector_of (sectors_of old) 0 ≡ old
unfolding sector_in
only_sector old whole = get_or-sectors_of old 0 zero_sector (omega arith) ∙ take_all 512 old (omega arith)

beside : (k s n : ℕ) → n ≡ 1 → (k ≡ s → ⊥) → (k < s) ⊎ (s + n ≤ k)
beside k s n one other = elim (cases_lt k s) [
  | inl less ↦ inl less
  | inr from ↦ elim (cases_lt s k) [
    | inl more ↦ inr (omega arith)
    | inr back ↦ absurd (other (omega arith))
  ]
]

pub decides_old : (s : ℕ) (old before after : List ℕ) (decided : List Bool) → length old ≡ 512 → s < length before / 512 → get_or decided s false ≡ false → after ≡ written (512 * s) old before → Decides s old (sectors_of before) (sectors_of after) decided decided
decides_old s old before after decided whole lt undecided is =
    let count : length (sectors_of old) ≡ length old / 512 = length-sectors_of old in
    let all : length (sectors_of before) ≡ length before / 512 = length-sectors_of before in
    let one : length (sectors_of old) ≡ 1 = omega arith in
    let new : sectors_of after ≡ written s (sectors_of old) (sectors_of before) = ap (λ (l : List ℕ). sectors_of l) is ∙ sym (written_in_sectors before old s (omega arith) (omega arith)) in
    let first : s - s ≡ 0 = omega arith in
    record {
      others = λ k other. (refl, ap (λ (l : List (List ℕ)). sector_of l k) new ∙ outside s k (sectors_of old) (sectors_of before) (beside k s (length (sectors_of old)) one other));
      here = inr (undecided, (undecided, ap (λ (l : List (List ℕ)). sector_of l s) new ∙ inside s s (sectors_of old) (sectors_of before) (omega arith) (omega arith) (omega arith) ∙ ap (λ (n : ℕ). sector_of (sectors_of old) n) first ∙ only_sector old whole));
    }

-- ---- one write

pub write_begins : (disk : Disk) (image : List (List ℕ)) (decided : List Bool) (at first : ℕ) (old : List ℕ) (calls : List KeptCall) → IsFair disk image decided 0 [] (Write at first old ∷ calls) → IsFair disk image decided (first + 0) calls (Write at first old ∷ calls)
write_begins disk image decided at first old calls fair =
    let none : first ≡ first + 0 = omega arith in
    subst (λ (k : ℕ). IsFair disk image decided k calls (Write at first old ∷ calls)) none (fair_begins disk image decided at first old calls fair)

pub write_goes_on : (disk : Disk) (image later : List (List ℕ)) (decided now : List Bool) (at first j : ℕ) (old value : List ℕ) (calls : List KeptCall) → j < length old / 512 → value ≡ take (512 * j + 512 - 512 * j) (drop (512 * j) old) → Decides (first + j) value image later decided now
    → IsFair disk image decided (first + j) calls (Write at first old ∷ calls) → IsFair disk later now (first + (j + 1)) calls (Write at first old ∷ calls)
unfolding sector_in
write_goes_on disk image later decided now at first j old value calls lt is step fair =
    let count : length (sectors_of old) ≡ length old / 512 = length-sectors_of old in
    let more : first + j + 1 ≡ first + (j + 1) = omega arith in
    let same : value ≡ sector_of (sectors_of old) j = kept_part j 512 value old old is refl ∙ sym (get_or-sectors_of old j zero_sector lt) in
    subst (λ (k : ℕ). IsFair disk later now k calls (Write at first old ∷ calls)) more
    (fair_goes_on disk image later decided now at first j old calls (omega arith) (subst (λ (v : List ℕ). Decides (first + j) v image later decided now) same step) fair)

pub write_ends : (disk : Disk) (image : List (List ℕ)) (decided : List Bool) (at first n : ℕ) (old : List ℕ) (calls : List KeptCall) → n ≡ length old / 512 → IsFair disk image decided (first + n) calls (Write at first old ∷ calls) → IsFair disk image decided 0 [] calls
write_ends disk image decided at first n old calls e fair =
    let count : n ≡ length (sectors_of old) = e ∙ sym (length-sectors_of old) in
    fair_ends disk image decided at first old calls (subst (λ (k : ℕ). IsFair disk image decided (first + k) calls (Write at first old ∷ calls)) count fair)

-- ---- all calls

pub read_passes : (disk : Disk) (image : List (List ℕ)) (decided : List Bool) (calls : List KeptCall) → IsFair disk image decided 0 [] (Read ∷ calls) → IsFair disk image decided 0 [] calls
read_passes disk image decided calls fair = record {
  done = fair.done;
  left = λ s value undecided h. (let k = rw (le-ltb s 0 (omega arith)) at h in fair.left s value undecided (rw (le-ltb s 0 (omega arith)) k));
}

pub failure_passes : (disk : Disk) (image : List (List ℕ)) (decided : List Bool) (calls : List KeptCall) → IsFair disk image decided 0 [] (Failed ∷ calls) → IsFair disk image decided 0 [] calls
failure_passes disk image decided calls fair = record {
  done = fair.done;
  left = λ s value undecided h. (let k = rw (le-ltb s 0 (omega arith)) at h in fair.left s value undecided (rw (le-ltb s 0 (omega arith)) k));
}

sync_last : (call : KeptCall) (calls : List KeptCall) → is_sync call ≡ true → (s : ℕ) (v : List ℕ) → durable_by s v (call ∷ calls) ≡ v
sync_last Read calls e s v = absurd (clash e)
sync_last Failed calls e s v = absurd (clash e)
sync_last (Sync at) calls e s v = refl
sync_last (Write at first old) calls e s v = absurd (clash e)

pub starts_fair : (left : ℕ) (disk : Disk) (image : List (List ℕ)) (decided : List Bool) (done : List KeptCall) → length done ≤ left → IsFair disk image decided 0 [] (reverse done) → IsFair disk image decided 0 [] (reverse (take left done))
starts_fair left disk image decided done le fair = subst (λ (l : List KeptCall). IsFair disk image decided 0 [] (reverse l)) (sym (take_all left done le)) fair

pub fair_step : (disk : Disk) (image later : List (List ℕ)) (decided now : List Bool) (left : ℕ) (done : List KeptCall) (call : KeptCall) → 0 < left → left ≤ length done → call ≡ get_or done (left - 1) call
    → (IsFair disk image decided 0 [] (call ∷ reverse (take (left - 1) done)) → IsFair disk later now 0 [] (reverse (take (left - 1) done))) → IsFair disk image decided 0 [] (reverse (take left done)) → IsFair disk later now 0 [] (reverse (take (left - 1) done))
fair_step disk image later decided now left done call some le is step fair = step (subst (λ (l : List KeptCall). IsFair disk image decided 0 [] l) (back_one left done call some le is) fair)

pub sync_ends : (disk : Disk) (image : List (List ℕ)) (decided : List Bool) (left : ℕ) (done : List KeptCall) (call : KeptCall) → 0 < left → left ≤ length done → call ≡ get_or done (left - 1) call → is_sync call ≡ true → IsFair disk image decided 0 [] (reverse (take left done)) → (s : ℕ) → MayHold disk s (sector_of image s)
sync_ends disk image decided left done call some le is sync fair s =
    fair_is_image disk image decided (call ∷ reverse (take (left - 1) done)) (sync_last call (reverse (take (left - 1) done)) sync) (subst (λ (l : List KeptCall). IsFair disk image decided 0 [] l) (back_one left done call some le is) fair) s

pub first_ends : (disk : Disk) (image : List (List ℕ)) (decided : List Bool) (left : ℕ) (done : List KeptCall) → left ≤ 0 → IsFair disk image decided 0 [] (reverse (take left done)) → (s : ℕ) → MayHold disk s (sector_of image s)
first_ends disk image decided left done le fair s =
    let none : left ≡ 0 = omega arith in
    fair_is_image disk image decided [] (λ k v. refl) (subst (λ (k : ℕ). IsFair disk image decided 0 [] (reverse (take k done))) none fair) s

pub undecided_is_fair : (g image : List (List ℕ)) (decided : List Bool) (calls : List KeptCall) → image ≡ g → ((s : ℕ) → get_or decided s false ≡ false) → IsFair (disk_by g calls) image decided 0 [] calls
undecided_is_fair g image decided calls same none = record {
  done = λ s e. absurd (clash (sym (none s) ∙ e));
  left = λ s value undecided h. (let k = rw (le-ltb s 0 (omega arith)) at h in subst (λ (l : List (List ℕ)). MayHoldBy s (sector_of l s) calls value) same k);
}

-- ---- the image

left_behind : (n : ℕ) (back calls : List KeptCall) (g image : List (List ℕ)) → LeftBy n (before_calls back g) calls image → LeftBy n g (back ++ calls) image
left_behind n [] calls g image h = h
left_behind n (c ∷ back) calls g image h = left_before n g image c (back ++ calls) (left_behind n back calls (before_call c g) image h)

pub left_since : (n count : ℕ) (done : List KeptCall) (g image : List (List ℕ)) → length image ≡ n → ((s : ℕ) → MayHold (disk_by (before_calls (reverse (drop count done)) g) (reverse (take count done))) s (sector_of image s)) → LeftBy n g (reverse done) image
left_since n count done g image size each =
    let whole : reverse (drop count done) ++ reverse (take count done) ≡ reverse done = sym (reverse-append (take count done) (drop count done)) ∙ ap (λ (l : List KeptCall). reverse l) (take-append-drop count done) in
    subst (λ (l : List KeptCall). LeftBy n g l image) whole (left_behind n (reverse (drop count done)) (reverse (take count done)) g image (inl (record { counted = size; each = each })))

pub left_now : (n count : ℕ) (done : List KeptCall) (g image : List (List ℕ)) → length image ≡ n → length done ≤ count → ((s : ℕ) → MayHold (disk_by (before_calls (reverse (drop count done)) g) (reverse (take count done))) s (sector_of image s)) → MayLeave n (disk_by g (reverse done)) image
left_now n count done g image size le each =
    let none : drop count done ≡ [] = drop_all count done le in
    let all : take count done ≡ done = take_all count done le in
    record {
      counted = size;
      each = λ s. subst (λ (l : List KeptCall). MayHold (disk_by g (reverse l)) s (sector_of image s)) all (subst (λ (l : List KeptCall). MayHold (disk_by (before_calls (reverse l) g) (reverse (take count done))) s (sector_of image s)) none (each s));
    }

-- the same of bytes that were lent: done is lent, items are a copy of bytes, and now are these,
-- lent, of which xs are made
module _ (count len : ℕ) (done lent : List KeptCall) (bytes items now xs : List ℕ) (calls : lent ≡ done) (copied : items ≡ bytes) (lends : now ≡ items) (long : len ≡ length items) (size : length xs ≡ length now)
    (each : (s : ℕ) → MayHold (disk_by (before_calls (reverse (drop count lent)) (sectors_of now)) (reverse (take count lent))) s (sector_of (sectors_of xs) s)) where
  image_whole : take len (xs ++ drop (length xs) items) ≡ xs
  image_whole = lent_whole len xs items (size ∙ ap (λ (l : List ℕ). length l) lends) long

  image_count : length (sectors_of xs) ≡ length bytes / 512
  image_count = length-sectors_of xs ∙ ap (λ (k : ℕ). k / 512) (size ∙ ap (λ (l : List ℕ). length l) (lends ∙ copied))

  image_each : (s : ℕ) → MayHold (disk_by (before_calls (reverse (drop count done)) (sectors_of bytes)) (reverse (take count done))) s (sector_of (sectors_of xs) s)
  image_each s =
      subst (λ (d : List KeptCall). MayHold (disk_by (before_calls (reverse (drop count d)) (sectors_of bytes)) (reverse (take count d))) s (sector_of (sectors_of xs) s)) calls
      (subst (λ (b : List ℕ). MayHold (disk_by (before_calls (reverse (drop count lent)) (sectors_of b)) (reverse (take count lent))) s (sector_of (sectors_of xs) s)) (lends ∙ copied) (each s))

  pub image_since : LeftBy (length bytes / 512) (sectors_of bytes) (reverse done) (sectors_of (take len (xs ++ drop (length xs) items)))
  image_since = subst (λ (l : List ℕ). LeftBy (length bytes / 512) (sectors_of bytes) (reverse done) (sectors_of l)) (sym image_whole) (left_since (length bytes / 512) count done (sectors_of bytes) (sectors_of xs) image_count image_each)

  pub image_now : length done ≤ count → MayLeave (length bytes / 512) (disk_by (sectors_of bytes) (reverse done)) (sectors_of (take len (xs ++ drop (length xs) items)))
  image_now le = subst (λ (l : List ℕ). MayLeave (length bytes / 512) (disk_by (sectors_of bytes) (reverse done)) (sectors_of l)) (sym image_whole) (left_now (length bytes / 512) count done (sectors_of bytes) (sectors_of xs) image_count le image_each)

pub lent_inside : (moment : ℕ) (done lent : List KeptCall) (bytes now : List ℕ) → lent ≡ done → now ≡ bytes → AreKept moment (length bytes / 512) (reverse done) → AreInside (length now / 512) (reverse lent)
lent_inside moment done lent bytes now calls same kept =
    subst (λ (l : List KeptCall). AreInside (length now / 512) (reverse l)) (sym calls) (subst (λ (b : List ℕ). AreInside (length b / 512) (reverse done)) (sym same) (kept_inside moment (length bytes / 512) (reverse done) kept))
