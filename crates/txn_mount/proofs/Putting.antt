-- Blocks are put out one behind the other: the mount goes on, and what is left recovers alike.
use Rattle.std.proofs.Common.{◌≡◌, ◌⊎◌, subst, ℕ, ◌+◌, ◌-◌, ◌^◌, ◌%◌, ◌<◌, ◌≤◌, Bool, true, false, cond, List, [], ◌∷◌, length, Option, Some, None, Result, Ok, Err, refl, sym, ap, ◌∙◌, inl, inr, arith}
use Rattle.std.specs.Prelude.{◌&&◌, ◌||◌, not, nat_lt, ◌==◌, IfSome, if◌then◌else◌}
use Rattle.std.specs.Option.{option_map}
use Rattle.std.proofs.lemmas.Bool.{cases_Bool}
use Rattle.host_base.specs.declared.outside.Failed.{Failed}
use Rattle.host_base.specs.Causes.{last_moment}
use Rattle.disk_model.specs.declared.block.Block.{Block}
use Rattle.disk_model.specs.declared.block.BlockKind.{BlockKind}
use Rattle.disk_model.specs.declared.block.BlockKind.TheVariants.{Plain, FileRec, Index}
use Rattle.disk_model.specs.Sectors.{sectors, sector_of, same_block, are_rivals, raw_from}
use Rattle.disk_model.specs.Content.{Content, content_of}
use Rattle.disk_model.proofs.Frames.{same_block-is}
use Rattle.fixup_record.specs.Protecting.{next_check_word}
use Rattle.fixup_record.specs.Spellings.{spelled}
use Rattle.sector_device.specs.Disks.{Disk, IsBetween, IsSettled, IsSized, IsTornDisk, MayHold, MayLeave, SeesDisk, is_within, newest, put, seen, settled}
use Rattle.sector_device.specs.Sectors.{sectors_of}
use Rattle.sector_device.specs.WholeSectors.{length-sectors_of}
use Rattle.sector_device.specs.Moments.{Changes, LeftSince, MayLeaveNow, Remembers, moment_after}
use Rattle.sector_device.proofs.Images.{one_call_more}
use Rattle.log_model.specs.declared.entry.Entry.{Entry}
use Rattle.log_model.specs.Logs.{is_ended, is_shadowed}
use Rattle.txn_core.specs.log_page.declared.places.LogPlace.{LogPlace}
use Rattle.log_recovery.specs.log_reading.Rings.{IsRingPlace}
use Rattle.log_recovery.specs.LogStates.{LogState}
use Rattle.log_recovery.specs.Writing.{is_put_out}
use Rattle.log_recovery.specs.declared.found.RecoveredBlock.{RecoveredBlock}
use Rattle.store_model.specs.Logs.{has_update}
use Rattle.store_model.specs.Volumes.{is_known, AreWhole}
use Rattle.store_model.proofs.Told.{true≢false, same_self, rivals_both}
use Rattle.store_model.proofs.Volumes.{volume_geometry, is_volume, claimed_is, size_known}
use Rattle.store_model.proofs.Recovery.{one_claimed}
use Rattle.txn_core.specs.ring_laws.PageBytes.{AreAlike}
use Rattle.txn_core.proofs.area_laws.Calling.{torn_known}
use Rattle.txn_core.specs.txn_laws.Laws.{SyncsNow}
use Rattle.txn_core.specs.txn_laws.Mounting.{MayPutBack}
use Rattle.txn_core.proofs.txn_laws.Mounting.{mounts_go_on_law}
use Rattle.txn_core.proofs.txn_laws.WriteOuts.{spelled_length}
use Rattle.txn_core.specs.txn_model.Values.{is_own}
use Rattle.txn_core.specs.device_blocks.declared.word.CheckWord.{CheckWord}
use Rattle.txn_core.specs.device_blocks.declared.word.CheckWord.TheVariants.{Unread, Missing, Stands, Sent}
use Rattle.txn_core.specs.device_blocks.Words.{stood_check, next_word}
use Rattle.txn_core.specs.device_blocks.Calls.{IsNextOf, PutOrAsked}
use Rattle.txn_mount.specs.Contents.{mounted_content, ReadsLog, ReadsWell}
use Rattle.txn_mount.specs.Images.{RecoversAlike, Spares, MountsOn, LeavesAlike, IsItem, AreItems, left_of}
use Rattle.txn_mount.specs.Calls.{PutsBack, PutsAll}
use Rattle.txn_mount.proofs.Blocks.{out_updated, out_claimed, out_covered, out_spelled, out_known}
use Rattle.txn_mount.proofs.Alike.{alike_now, page_still}

-- ---- small facts

pub alike_on : (place : LogPlace) (from : ℕ) (a b d : Disk) → AreAlike place from place.pages a b → AreAlike place from place.pages b d → AreAlike place from place.pages a d
alike_on place from a b d x y = record {
  durable = λ k i low lt few. y.durable k i low lt few ∙ x.durable k i low lt few;
  written = λ k i low lt few. y.written k i low lt few ∙ x.written k i low lt few;
}

check_small : (n : ℕ) → next_check_word n < 2 ^ 16
check_small n = go ((n + 1) % 2 ^ 16) (omega arith)
  where
    choose : (v : Bool) (m : ℕ) → m < 2 ^ 16 → cond v 1 m < 2 ^ 16
    choose true m lt = omega arith
    choose false m lt = lt

    go : (m : ℕ) → m < 2 ^ 16 → cond ((m == 0) || (m == 0xFFFF)) 1 m < 2 ^ 16
    go m lt = choose ((m == 0) || (m == 0xFFFF)) m lt

next_small : (o : Option ℕ) → next_word o < 2 ^ 16
next_small None = omega arith
next_small (Some check) = check_small check

picked_small : (gives : Option (List (List ℕ))) (disk : Option Disk) (d : Disk) (b : Block) (check : ℕ) → SeesDisk gives disk → disk ≡ Some d → IsNextOf Unread gives b check → check < 2 ^ 16
picked_small None disk d b check sees is next = absurd (subst (λ (o : Option Disk). SeesDisk None o) is sees)
picked_small (Some g) disk d b check sees is next = subst (λ (n : ℕ). n < 2 ^ 16) (sym (next.read refl)) (next_small (stood_check b.kind (raw_from (sector_of g) b.first (sectors b.kind))))

pub after_later : (moment : ℕ) → moment ≤ moment_after moment
after_later moment = go (nat_lt moment last_moment)
  where
    go : (v : Bool) → moment ≤ cond v (moment + 2) moment
    go true = omega arith
    go false = omega arith

some_sectors : (kind : BlockKind) → 0 < sectors kind
some_sectors Plain = omega arith
some_sectors FileRec = omega arith
some_sectors Index = omega arith

module _ (place : LogPlace) (ring : IsRingPlace place) (kept : List Block) (first : Disk) (still : IsSettled first) (state : LogState) (r : ReadsLog (content_of (seen first)) place kept state) (well : ReadsWell state.log) where
  abbrev own : ℕ → Bool
  own = is_own place kept

  abbrev c : Content
  c = content_of (seen first)

  abbrev list : List Entry
  list = state.log

  abbrev t : Content
  t = mounted_content (content_of (seen first)) state.log

  -- ---- one block

  module _ (left : Block → Bool) (disk : Disk) (h : MountsOn place kept list first 0 left disk) (b : Block) (out : is_put_out c list b ≡ true) (waits : left b ≡ true) (check : ℕ) (small : check < 2 ^ 16) where
    may : MayPutBack own list t left b
    may = record {
      waits = waits;
      known = out_known place ring kept c state r well b out;
      updated = out_updated place ring kept c state r well b out;
      claimed = out_claimed place ring kept c state r well b out;
      covered = out_covered place ring kept c state r well b out;
      spelled = out_spelled place ring kept c state r well b out;
    }

    abbrev new : List (List ℕ)
    new = sectors_of (spelled b.kind check (t b).bytes)

    length-new : length new ≡ sectors b.kind
    length-new = length-sectors_of (spelled b.kind check (t b).bytes) ∙ (let size = spelled_length b.kind check (t b).bytes in let own_size = h.mounting.sized b may.known in omega arith)

    -- no sector of a block that isn't put out is one of this one
    apart : (x : Block) → is_known own x ≡ true → has_update list x ≡ true → is_shadowed list x ≡ false → is_put_out c list x ≡ false → (s : ℕ) → is_within x.first (sectors x.kind) s ≡ true → is_within b.first (sectors b.kind) s ≡ false
    apart x known has claimed none s within = elim (cases_Bool (is_within b.first (sectors b.kind) s)) [
      | inl is ↦ absurd (true≢false (sym ((is_volume own).has x s ∙ within) ∙ (volume_geometry own).off b x (positive b may.known) (positive x known) no_rivals other s ((is_volume own).has b s ∙ is)))
      | inr not_it ↦ not_it
    ]
      where
        positive : (y : Block) → is_known own y ≡ true → 0 < (volume_geometry own).size y
        positive y k = omega (arith, size_known own (volume_geometry own) (is_volume own) y k, some_sectors y.kind)

        no_rivals : are_rivals b x ≡ false
        no_rivals = elim (cases_Bool (are_rivals b x)) [
          | inl is ↦ absurd (claimed_is list x claimed (one_claimed (is_ended list) list b x may.updated (claimed_is list b may.claimed) (rivals_both x b ∙ is) is))
          | inr not_it ↦ not_it
        ]

        other : same_block x b ≡ false
        other = elim (cases_Bool (same_block x b)) [
          | inl is ↦ absurd (true≢false (sym out ∙ ap (is_put_out c list) (sym (same_block-is x b is)) ∙ none))
          | inr not_it ↦ not_it
        ]

    spares_on : (now : Disk) → IsBetween disk (put b.first new disk) now → Spares own list first now
    spares_on now between = record {
      spared = λ x known has claimed none s within.
          (let was = h.spares.spared x known has claimed none s within in (written s (apart x known has claimed none s within) (between.written s) ∙ was.0, between.durable s ∙ was.1));
    }
      where
        written : (s : ℕ) → is_within b.first (sectors b.kind) s ≡ false → (now.written s ≡ disk.written s) ⊎ (now.written s ≡ (put b.first new disk).written s) → now.written s ≡ disk.written s
        written s out_of (inl same) = same
        written s out_of (inr same) = same ∙ ap (λ (v : Bool). if v then sector_of new (s - b.first) ∷ disk.written s else disk.written s) (ap (λ (n : ℕ). is_within b.first n s) length-new ∙ out_of)

    pages_on : (now : Disk) → IsBetween disk (put b.first new disk) now → AreAlike place 0 place.pages first now
    pages_on now between = alike_on place 0 first disk now h.pages (mounts_go_on_law.log_stays place kept b new disk now may.known length-new between)

    pub put_fails : (now : Disk) → IsBetween disk (put b.first new disk) now → MountsOn place kept list first 0 left now
    put_fails now between = record { mounting = mounts_go_on_law.failed own list t left disk now b check h.mounting may small between; pages = pages_on now between; spares = spares_on now between }

    whole_between : IsBetween disk (put b.first new disk) (put b.first new disk)
    whole_between = record { durable = λ s. refl; written = λ s. inr refl }

    pub put_well : IsSized (put b.first new disk) → MountsOn place kept list first 0 (λ x. left x && not (same_block x b)) (put b.first new disk)
    put_well sized = record {
      mounting = mounts_go_on_law.written own list t left disk b check h.mounting may small sized;
      pages = pages_on (put b.first new disk) whole_between;
      spares = spares_on (put b.first new disk) whole_between;
    }

  -- fewer blocks are left
  pub fewer_left : (from : ℕ) (left left' : Block → Bool) (disk : Disk) → ((b : Block) → left' b ≡ false → left b ≡ false) → MountsOn place kept list first from left disk → MountsOn place kept list first from left' disk
  fewer_left from left left' disk few h = record {
    mounting = record {
      geometry = h.mounting.geometry;
      volume = h.mounting.volume;
      level = h.mounting.level;
      sized = h.mounting.sized;
      begins = h.mounting.begins;
      stands = λ b known claimed none. h.mounting.stands b known claimed (few b none);
    };
    pages = h.pages;
    spares = h.spares;
  }

  pub synced_on : (left : Block → Bool) (disk : Disk) → MountsOn place kept list first 0 left disk → MountsOn place kept list first 0 left (settled disk)
  synced_on left disk h = record {
    mounting = mounts_go_on_law.synced own list t left disk h.mounting;
    pages = alike_on place 0 first disk (settled disk) h.pages (mounts_go_on_law.log_synced place disk (λ k lt. page_still place ring kept first still state r well 0 disk h.pages k (omega arith) lt));
    spares = record { spared = λ b known has claimed none s within. (let was = h.spares.spared b known has claimed none s within in (refl, ap (λ (vs : List (List ℕ)). newest vs (disk.durable s)) was.0 ∙ was.1)) };
  }

  -- ---- on a device

  module _ {D : Type 0} (gives : D → Option (List (List ℕ))) (changes : D → Changes) (moment : D → ℕ) (count : ℕ) (sees : (d : D) → SeesDisk (gives d) (changes d).disk) (values : (d : D) → IfSome (changes d).disk IsSized) where
    pub record Stage (left : Block → Bool) (device : D) : Type 0 where
      pub disk : Disk
      pub known : (changes device).disk ≡ Some disk
      pub on : MountsOn place kept list first 0 left disk

    abbrev pub Leaves : (moment : ℕ) → Changes → Changes → Type 0
    Leaves m old now = LeavesAlike count m place kept list t state.next_lap old now

    pub sized_disk : (device : D) (disk : Disk) → (changes device).disk ≡ Some disk → IsSized disk
    sized_disk device disk known = subst (λ (o : Option Disk). IfSome o IsSized) known (values device)

    pub whole_image : (disk : Disk) (image : List (List ℕ)) → IsSized disk → MayLeave count disk image → AreWhole (sector_of image)
    whole_image disk image sized may s = go (may.each s)
      where
        go : MayHold disk s (sector_of image s) → length (sector_of image s) ≡ 512
        go (inl is) = ap (λ (v : List ℕ). length v) is ∙ sized.durable s
        go (inr has) = sized.written s (sector_of image s) has

    stage_alike : (left : Block → Bool) (device : D) → Stage left device → (image : List (List ℕ)) → MayLeaveNow count (changes device) image → RecoversAlike place kept list t state.next_lap (sector_of image)
    stage_alike left device stage image may =
        let there : MayLeave count stage.disk image = subst (λ (o : Option Disk). IfSome o (λ disk. MayLeave count disk image)) stage.known may in
        alike_now place ring kept first still state r well left stage.disk stage.on (sector_of image) there.each (whole_image stage.disk image (sized_disk device stage.disk stage.known) there)

    pub leaves_call : (old new : D) (begun : ℕ) → moment old ≤ begun → Remembers begun (changes old) (changes new) → ((image : List (List ℕ)) → MayLeaveNow count (changes new) image → RecoversAlike place kept list t state.next_lap (sector_of image)) → Leaves (moment old) (changes old) (changes new)
    leaves_call old new begun later remembers alike = λ t image le left. elim (one_call_more count begun t (changes old) (changes new) image remembers (omega (arith, le, later)) left) [
      | inl before ↦ inl before
      | inr may ↦ inr (alike image may)
    ]

    pub leaves_same : (m : ℕ) (old new : Changes) → new ≡ old → Leaves m old new
    leaves_same m old new same = λ t image le left. inl (subst (λ (x : Changes). LeftSince count x t image) same left)

    pub leaves_on : (m n : ℕ) (a b d : Changes) → m ≤ n → Leaves m a b → Leaves n b d → Leaves m a d
    leaves_on m n a b d later x y = λ t image le left. elim (y t image (omega (arith, le, later)) left) [
      | inl before ↦ x t image le before
      | inr alike ↦ inr alike
    ]

    torn_disk : (begun : ℕ) (b : Block) (new : List (List ℕ)) (disk : Disk) (old now : Option Disk) → old ≡ Some disk → IsTornDisk b.first new old now → (e : Disk) × (now ≡ Some e) × IsBetween disk (put b.first new disk) e
    torn_disk begun b new disk old now is torn = torn_known b.first new disk now (subst (λ (o : Option Disk). IsTornDisk b.first new o now) is torn)

    module _ (x : RecoveredBlock) (xs : List RecoveredBlock) (item : IsItem c list x) (old : D) (stage : Stage (left_of (x ∷ xs)) old) where
      waiting : left_of (x ∷ xs) x.block ≡ true
      waiting = ap (λ (v : Bool). v || left_of xs x.block) (same_self x.block)

      rest_left : (b : Block) → left_of xs b ≡ false → (left_of (x ∷ xs) b && not (same_block b x.block)) ≡ false
      rest_left b none = go (same_block b x.block) (left_of xs b) none
        where
          go : (v w : Bool) → w ≡ false → ((v || w) && not v) ≡ false
          go true w e = refl
          go false false e = refl
          go false true e = absurd cc

      abbrev sent : ℕ → List (List ℕ)
      sent check = sectors_of (spelled x.block.kind check x.body.bytes)

      sent_is : (check : ℕ) → sent check ≡ sectors_of (spelled x.block.kind check (t x.block).bytes)
      sent_is check = ap (λ (bytes : List ℕ). sectors_of (spelled x.block.kind check bytes)) item.bytes

      pub one_put : (new : D) → PutsBack gives changes moment x (Ok tt) old new → Stage (left_of xs) new × Leaves (moment old) (changes old) (changes new) × (moment old ≤ moment new)
      one_put new puts =
          let check = puts.put.ok.0 in
          let sends = puts.put.ok.1.put.sends in
          let small : check < 2 ^ 16 = picked_small (gives old) (changes old).disk stage.disk x.block check (sees old) stage.known puts.put.ok.1.put.chosen in
          let known : (changes new).disk ≡ Some (put x.block.first (sectors_of (spelled x.block.kind check (t x.block).bytes)) stage.disk)
          = sends.writes.ok ∙ ap (option_map (put x.block.first (sent check))) stage.known ∙ ap (λ (s : List (List ℕ)). Some (put x.block.first s stage.disk)) (sent_is check) in
          let on = put_well (left_of (x ∷ xs)) stage.disk stage.on x.block item.out waiting check small (sized_disk new (put x.block.first (sectors_of (spelled x.block.kind check (t x.block).bytes)) stage.disk) known) in
          let next : Stage (left_of xs) new = record {
            disk = put x.block.first (sectors_of (spelled x.block.kind check (t x.block).bytes)) stage.disk;
            known = known;
            on = fewer_left 0 (λ b. left_of (x ∷ xs) b && not (same_block b x.block)) (left_of xs) (put x.block.first (sectors_of (spelled x.block.kind check (t x.block).bytes)) stage.disk) rest_left on;
          } in
          let first_later = after_later (moment old) in
          let second_later = after_later (moment_after (moment old)) in
          (next, leaves_call old new (moment_after (moment old)) first_later sends.writes.past (λ image may. stage_alike (left_of xs) new next image may), (let e = sends.later in omega (arith, first_later, second_later, e)))

      abbrev failing : Failed → Result (Unit {0}) Failed
      failing fault = Err fault

      fails_by : (fault : Failed) (new : D) (now : CheckWord) → PutOrAsked gives changes moment Unread x.block x.body.bytes (failing fault) old new now → Leaves (moment old) (changes old) (changes new)
      fails_by fault new Unread puts = leaves_same (moment old) (changes old) (changes new) puts.1.unchanged
      fails_by fault new Missing puts = absurd puts
      fails_by fault new (Stands check) puts = absurd puts
      fails_by fault new (Sent check) puts =
          let small : check < 2 ^ 16 = picked_small (gives old) (changes old).disk stage.disk x.block check (sees old) stage.known puts.chosen in
          let torn = torn_disk 0 x.block (sent check) stage.disk (changes old).disk (changes new).disk stage.known puts.sends.writes.err in
          let between : IsBetween stage.disk (put x.block.first (sectors_of (spelled x.block.kind check (t x.block).bytes)) stage.disk) torn.0 = subst (λ (s : List (List ℕ)). IsBetween stage.disk (put x.block.first s stage.disk) torn.0) (sent_is check) torn.2 in
          let next : Stage (left_of (x ∷ xs)) new = record { disk = torn.0; known = torn.1; on = put_fails (left_of (x ∷ xs)) stage.disk stage.on x.block item.out waiting check small torn.0 between } in
          leaves_call old new (moment_after (moment old)) (after_later (moment old)) puts.sends.writes.past (λ image may. stage_alike (left_of (x ∷ xs)) new next image may)

      pub one_fails : (fault : Failed) (new : D) → PutsBack gives changes moment x (Err fault) old new → Leaves (moment old) (changes old) (changes new)
      one_fails fault new puts = fails_by fault new puts.now puts.put.failed

    pub all_put : (xs : List RecoveredBlock) → AreItems c list xs → (u : Unit {0}) (old new : D) → Stage (left_of xs) old → PutsAll gives changes moment xs (Ok u) old new → Stage (left_of []) new × Leaves (moment old) (changes old) (changes new) × (moment old ≤ moment new)
    all_put [] items u old new stage same =
        (subst (λ (d : D). Stage (left_of []) d) (sym same) stage, leaves_same (moment old) (changes old) (changes new) (ap changes same), (let e : moment new ≡ moment old = ap moment same in omega (arith, e)))
    all_put (x ∷ xs) items u old new stage puts =
        let one = one_put x xs items.0 old stage puts.0 puts.1 in
        let rest = all_put xs items.1 u puts.0 new one.0 puts.2 in
        let later = one.2 in
        let later' = rest.2 in
        (rest.0, leaves_on (moment old) (moment puts.0) (changes old) (changes puts.0) (changes new) later one.1 rest.1, omega (arith, later, later'))

    pub all_fail : (xs : List RecoveredBlock) → AreItems c list xs → (fault : Failed) (old new : D) → Stage (left_of xs) old → PutsAll gives changes moment xs (Err fault) old new → Leaves (moment old) (changes old) (changes new)
    all_fail [] items fault old new stage puts = absurd puts
    all_fail (x ∷ xs) items fault old new stage (inl here) = one_fails x xs items.0 old stage fault new here
    all_fail (x ∷ xs) items fault old new stage (inr puts) =
        let one = one_put x xs items.0 old stage puts.0 puts.1 in
        leaves_on (moment old) (moment puts.0) (changes old) (changes puts.0) (changes new) one.2 one.1 (all_fail xs items.1 fault puts.0 new one.0 puts.2)

    pub sync_well : (left : Block → Bool) (u : Unit {0}) (old new : D) → Stage left old → SyncsNow changes moment (Ok u) old new → Stage left new × Leaves (moment old) (changes old) (changes new) × ((d : Disk) × ((changes new).disk ≡ Some (settled d)))
    sync_well left u old new stage syncs =
        let known : (changes new).disk ≡ Some (settled stage.disk) = syncs.ok ∙ ap (option_map settled) stage.known in
        let next : Stage left new = record { disk = settled stage.disk; known = known; on = synced_on left stage.disk stage.on } in
        (next, leaves_call old new (moment old) (omega arith) syncs.past (λ image may. stage_alike left new next image may), (stage.disk, known))

    pub sync_fails : (left : Block → Bool) (fault : Failed) (old new : D) → Stage left old → SyncsNow changes moment (Err fault) old new → Leaves (moment old) (changes old) (changes new)
    sync_fails left fault old new stage syncs =
        let next : Stage left new = record { disk = stage.disk; known = syncs.err ∙ stage.known; on = stage.on } in
        leaves_call old new (moment old) (omega arith) syncs.past (λ image may. stage_alike left new next image may)
