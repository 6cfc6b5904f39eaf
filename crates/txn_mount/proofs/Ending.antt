-- A mount's calls, one behind the other.
use Rattle.std.proofs.Common.{◌≡◌, ◌≢◌, subst, ℕ, suc, ◌^◌, ◌<◌, ◌≤◌, Bool, true, false, List, [], ◌∷◌, length, Option, Some, None, Result, Ok, Err, refl, sym, ap, ◌∙◌, inl, inr, arith}
use Rattle.std.specs.Prelude.{IfSome}
use Rattle.std.specs.Option.{option_map}
use Rattle.std.proofs.lemmas.Bool.{cases_Bool}
use Rattle.host_base.specs.declared.outside.Failed.{Failed}
use Rattle.disk_model.specs.declared.block.Block.{Block}
use Rattle.disk_model.specs.Sectors.{sectors, sector_of}
use Rattle.disk_model.specs.Content.{Content, content_of}
use Rattle.fixup_record.specs.Protecting.{protected_bytes}
use Rattle.fixup_record.specs.Spellings.{spelled}
use Rattle.sector_device.specs.Disks.{Disk, IsBetween, IsSettled, IsSized, IsTornDisk, MayHold, MayLeave, SeesDisk, put, seen, settled}
use Rattle.sector_device.specs.Sectors.{sectors_of}
use Rattle.sector_device.specs.WholeSectors.{length-sectors_of}
use Rattle.sector_device.specs.Moments.{Changes, MayLeaveNow, Remembers, moment_after}
use Rattle.sector_device.proofs.Images.{holds_seen}
use Rattle.txn_core.specs.log_page.declared.places.LogPlace.{LogPlace}
use Rattle.txn_core.specs.log_page.Restarts.{restart_spelling}
use Rattle.log_recovery.specs.LogStates.{LogState}
use Rattle.log_recovery.specs.Writing.{is_put_out}
use Rattle.log_recovery.specs.declared.found.RecoveredBlock.{RecoveredBlock}
use Rattle.txn_core.specs.log_area.Areas.{LogAreaOf, new_area, restart_sector, page_to_send, named_area}
use Rattle.txn_core.specs.log_area.Calls.{SentOrAsked}
use Rattle.store_model.specs.Geometry.{SectorBytes, CanLeave}
use Rattle.store_model.specs.Rings.{Restarts}
use Rattle.store_model.specs.Volumes.{AreWhole}
use Rattle.txn_core.specs.ring_laws.Numbers.{LogSession}
use Rattle.txn_core.specs.ring_laws.PageBytes.{page_sector, raw_page, AreAlike}
use Rattle.txn_core.specs.ring_laws.RestartPages.{RestartFields, said_restart, found_restarts, restart_written, restart_sent}
use Rattle.txn_core.specs.ring_laws.RingPages.{first_ring}
use Rattle.txn_core.specs.area_laws.Standing.{Stands}
use Rattle.txn_core.specs.area_laws.Laws.{IsKnown, SendsRestart, MayName, RestartsStandAfter}
use Rattle.txn_core.proofs.area_laws.Naming.{restart_names, restart_fails}
use Rattle.txn_core.proofs.area_laws.Calling.{torn_known}
use Rattle.txn_core.specs.txn_laws.Laws.{first_lsn, opened_area, SyncsNow}
use Rattle.txn_core.specs.txn_laws.Mounting.{HasMounted}
use Rattle.txn_core.proofs.txn_laws.Mounting.{mounts_go_on_law}
use Rattle.txn_core.proofs.txn_laws.WriteOuts.{spelled_length}
use Rattle.txn_core.specs.txn_model.Values.{is_own}
use Rattle.txn_core.specs.txn_model.Calls.{first_facts}
use Rattle.txn_core.proofs.FirstPages.{first_oldest, first_lap}
use Rattle.txn_mount.specs.Contents.{mounted_content, ReadsLog, ReadsWell}
use Rattle.txn_mount.specs.Images.{RecoversAlike, LeavesAlike, OneIsNewer, IsItem, AreItems, left_of}
use Rattle.txn_mount.specs.Calls.{PutsBack, PutsAll, SyncsDevice, NamesNow}
use Rattle.txn_mount.specs.Laws.{MayMount, MountsAs, MountsRecover}
use Rattle.txn_mount.proofs.Reading.{read_log, reads_well}
use Rattle.txn_mount.proofs.Finding.{lap_small, opens_small}
use Rattle.txn_mount.proofs.Starting.{mount_begins}
use Rattle.txn_mount.proofs.Blocks.{out_known}
use Rattle.txn_mount.proofs.Putting.{alike_on, after_later, fewer_left, all_put, all_fail, sync_well, sync_fails, leaves_on, leaves_call, leaves_same, Stage, sized_disk, whole_image}
use Rattle.txn_mount.proofs.Naming.{first_placed, stands, named_on, alike_named}
use Rattle.txn_mount.proofs.Beginning.{begins_on, restart_inside}
use Rattle.txn_core.specs.txn_laws.Windows.{HasStart}

some_disk : (a b : Disk) → Some a ≡ Some b → a ≡ b
some_disk a b e = cc

-- what is left of a disk that was synced was left before
settled_leaves : (disk : Disk) (at : SectorBytes) → CanLeave (settled disk) at → CanLeave disk at
settled_leaves disk at can s = go (can s)
  where
    go : MayHold (settled disk) s (at s) → MayHold disk s (at s)
    go (inl is) = subst (λ (v : List ℕ). MayHold disk s v) (sym is) (holds_seen disk s)
    go (inr has) = absurd (omega (arith, has.1))

module _ {D : Type 0} (gives : D → Option (List (List ℕ))) (changes : D → Changes) (moment : D → ℕ) (sees : (d : D) → SeesDisk (gives d) (changes d).disk) (values : (d : D) → IfSome (changes d).disk IsSized) where
  -- ---- the log's pages while blocks are put out

  module _ (place : LogPlace) (kept : List Block) (state : LogState) (items : List RecoveredBlock) (first : Disk) (may : MayMount place kept state items first) where
    abbrev c : Content
    c = content_of (seen first)

    pub r : ReadsLog (content_of (seen first)) place kept state
    r = read_log (content_of (seen first)) place kept state may.read

    pub well : ReadsWell state.log
    well = reads_well (content_of (seen first)) place kept state may.read

    abbrev lsn : ℕ
    lsn = first_lsn place state.next_lap state.restart state.opens

    abbrev a : LogAreaOf
    a = new_area place state.next_lap state.restart state.opens

    pages_one : (x : RecoveredBlock) → IsItem c state.log x → (old new : D) (disk : Disk) → (changes old).disk ≡ Some disk → AreAlike place 0 place.pages first disk → PutsBack gives changes moment x (Ok tt) old new → (e : Disk) × ((changes new).disk ≡ Some e) × AreAlike place 0 place.pages first e
    pages_one x item old new disk known alike puts =
        let check = puts.put.ok.0 in
        let sent = sectors_of (spelled x.block.kind check x.body.bytes) in
        let size : length sent ≡ sectors x.block.kind = length-sectors_of (spelled x.block.kind check x.body.bytes) ∙ (let long = spelled_length x.block.kind check x.body.bytes in let own = item.sized in omega (arith, long, own)) in
        let between : IsBetween disk (put x.block.first sent disk) (put x.block.first sent disk) = record { durable = λ n. refl; written = λ n. inr refl } in (
          put x.block.first sent disk,
          puts.put.ok.1.put.sends.writes.ok ∙ ap (option_map (put x.block.first sent)) known,
          alike_on place 0 first disk (put x.block.first sent disk) alike (mounts_go_on_law.log_stays place kept x.block sent disk (put x.block.first sent disk) (out_known place may.ring kept c state r well x.block item.out) size between),
        )

    pages_all : (xs : List RecoveredBlock) → AreItems c state.log xs → (u : Unit {0}) (old new : D) (disk : Disk) → (changes old).disk ≡ Some disk → AreAlike place 0 place.pages first disk → PutsAll gives changes moment xs (Ok u) old new → (e : Disk) × ((changes new).disk ≡ Some e) × AreAlike place 0 place.pages first e
    pages_all [] all u old new disk known alike same = (disk, ap (λ (d : D). (changes d).disk) same ∙ known, alike)
    pages_all (x ∷ xs) all u old new disk known alike puts =
        let one = pages_one x all.0 old puts.0 disk known alike puts.1 in
        pages_all xs all.1 u puts.0 new one.0 one.1 one.2 puts.2

    -- ---- a store begins

    pub record Begins (by : List Block) (new : D) : Type 0 where
      pub disk : Disk
      pub known : (changes new).disk ≡ Some disk
      pub start : HasStart (changes new) (first_facts place (opened_area place state.next_lap state.restart state.opens) by) (content_of (seen disk))

    sector_is : restart_sector a ≡ page_sector place state.restart
    sector_is = first_placed place state.restart (restart_inside place may.ring kept first state r well)

    begins_store : (by : List Block) (old new : D) → (changes old).disk ≡ Some first → MountsAs gives changes moment place state items (Ok tt) old new → Begins by new
    begins_store by old new known mounts =
        let pages = pages_all items may.own tt old mounts.0 first known (record { durable = λ k i low lt few. refl; written = λ k i low lt few. refl }) mounts.1 in
        let synced = mounts.2.0 in
        let named = mounts.2.2 in
        let word = named.1.0 in
        let sends = named.1.1 in
        let bytes = protected_bytes (restart_spelling (page_to_send a lsn false)) word in
        let at_sync : (changes synced).disk ≡ Some (settled pages.0) = mounts.2.1.syncs.ok ∙ ap (option_map settled) pages.1 in
        let at_page : (changes named.0).disk ≡ Some (put (page_sector place state.restart) (sectors_of bytes) (settled pages.0))
        = sends.sends.writes.ok ∙ ap (option_map (put (restart_sector a) (sectors_of bytes))) at_sync ∙ ap (λ (n : ℕ). Some (put n (sectors_of bytes) (settled pages.0))) sector_is in
        let at_end : (changes new).disk ≡ Some (settled (put (page_sector place state.restart) (sectors_of bytes) (settled pages.0))) = named.2.syncs.ok ∙ ap (option_map settled) at_page in
        let sized : IsSized (settled (put (page_sector place state.restart) (sectors_of bytes) (settled pages.0))) = subst (λ (o : Option Disk). IfSome o IsSized) at_end (values new) in
        let below : word < 2 ^ 16 = (let e = sends.chosen.below in omega (arith, e)) in
        record {
          disk = settled (put (page_sector place state.restart) (sectors_of bytes) (settled pages.0));
          known = at_end;
          start = begins_on place may.ring kept first state r well may.lsn word below pages.0 pages.2 sized by (changes new) at_end;
        }

    -- ---- what a crash leaves

    module _ (still : IsSettled first) (alone : OneIsNewer (said_restart (raw_page place (seen first) 0)) (said_restart (raw_page place (seen first) 1))) (count : ℕ) where
      abbrev t : Content
      t = mounted_content (content_of (seen first)) state.log

      abbrev Leaves : ℕ → Changes → Changes → Type 0
      Leaves m old now = LeavesAlike count m place kept state.log t state.next_lap old now

      abbrev At : (Block → Bool) → D → Type 0
      At left device = Stage place may.ring kept first still state r well gives changes moment count sees values left device

      begun_on : (old : D) → (changes old).disk ≡ Some first → At (left_of items) old
      begun_on old known = record {
        disk = first;
        known = known;
        on = fewer_left place may.ring kept first still state r well 0 (is_put_out c state.log) (left_of items) first few (mount_begins place kept state.log first well.level still (sized_disk place may.ring kept first still state r well gives changes moment count sees values old first known));
      }
        where
          few : (b : Block) → left_of items b ≡ false → is_put_out c state.log b ≡ false
          few b none = elim (cases_Bool (is_put_out c state.log b)) [
            | inl out ↦ absurd (clash (may.all b out) none)
            | inr not_out ↦ not_out
          ]
            where
              clash : left_of items b ≡ true → left_of items b ≡ false → ⊥
              clash x y = cc

      -- ---- the restart page

      module _ (old : D) (stage : At (left_of []) old) (done : IsSettled stage.disk) where
        sized : IsSized stage.disk
        sized = sized_disk place may.ring kept first still state r well gives changes moment count sees values old stage.disk stage.known

        rings : Stands (record { place = place; lap = state.next_lap }) a (first_ring (record { place = place; lap = state.next_lap })) (found_restarts state.restart) [] (λ n. r.front.chosen) stage.disk
        rings = stands place may.ring kept first still state r well stage.disk stage.on done sized alone

        device : IsKnown gives changes old stage.disk
        device = record { known = stage.known; sees = sees old }

        may_name : MayName a (found_restarts state.restart) (λ n. r.front.chosen) lsn false
        may_name = record {
          synced = refl;
          place = first_oldest place may.ring state.next_lap state.restart state.opens;
          lap = first_lap place may.ring state.next_lap state.restart state.opens (lap_small place may.ring kept first state r);
          again = tt;
          small = may.lsn;
          few = (let e = opens_small place may.ring kept first state r in omega (arith, e));
          newer = λ x said. inl (let e = opens_small place may.ring kept first state r in omega (arith, e));
        }

        abbrev sent : ℕ → List (List ℕ)
        sent word = sectors_of (protected_bytes (restart_spelling (page_to_send a lsn false)) word)

        -- an image of the disk on which the page was sent, or of that disk synced
        sent_alike : (word : ℕ) (now : Disk) → IsBetween stage.disk (put (restart_sector a) (sent word) stage.disk) now → IsSized now → (later : LogAreaOf) (restarts : Restarts) → restarts.sure ≡ (found_restarts state.restart).sure → (told : RestartFields)
            → told (suc (found_restarts state.restart).sure) ≡ Some (page_to_send a lsn false) → ((m : ℕ) → m ≢ suc (found_restarts state.restart).sure → told m ≡ r.front.chosen)
            → Stands (record { place = place; lap = state.next_lap }) later (first_ring (record { place = place; lap = state.next_lap })) restarts [] told now → (image : List (List ℕ)) → CanLeave now (sector_of image) → AreWhole (sector_of image) → RecoversAlike place kept state.log t state.next_lap (sector_of image)
        sent_alike word now between small later restarts sure told said others after image can whole =
            alike_named place may.ring kept first still state r well stage.disk stage.on done sized word now between alone later restarts sure told said others after (sector_of image) can whole

        abbrev session : LogSession
        session = record { place = place; lap = state.next_lap }

        image_alike : (device : D) (disk : Disk) → (changes device).disk ≡ Some disk → ((image : List (List ℕ)) → CanLeave disk (sector_of image) → AreWhole (sector_of image) → RecoversAlike place kept state.log t state.next_lap (sector_of image)) → (image : List (List ℕ)) → MayLeaveNow count (changes device) image → RecoversAlike place kept state.log t state.next_lap (sector_of image)
        image_alike device disk known alike image may_leave =
            let there : MayLeave count disk image = subst (λ (o : Option Disk). IfSome o (λ d. MayLeave count d image)) known may_leave in
            alike image there.each (whole_image place may.ring kept first still state r well gives changes moment count sees values disk image (sized_disk place may.ring kept first still state r well gives changes moment count sees values device disk known) there)

        calls : (before now : D) (begun : ℕ) → moment before ≤ begun → Remembers begun (changes before) (changes now) → ((image : List (List ℕ)) → MayLeaveNow count (changes now) image → RecoversAlike place kept state.log t state.next_lap (sector_of image)) → Leaves (moment before) (changes before) (changes now)
        calls before now begun later past alike = leaves_call place may.ring kept first still state r well gives changes moment count sees values before now begun later past alike

        -- the page was written
        module _ (named : D) (word : ℕ) (sends : SendsRestart gives changes moment a lsn false word (Ok tt) old named) where
          pub after : RestartsStandAfter changes session (named_area lsn a) (first_ring session) (restart_written (found_restarts state.restart)) [] (λ n. r.front.chosen) (suc (found_restarts state.restart).sure) (page_to_send a lsn false) named
          after = restart_names gives changes moment session a (first_ring session) (found_restarts state.restart) [] (λ n. r.front.chosen) stage.disk lsn false word old named device rings may_name sends

          named_known : (changes named).disk ≡ Some (put (restart_sector a) (sent word) stage.disk)
          named_known = sends.sends.writes.ok ∙ ap (option_map (put (restart_sector a) (sent word))) stage.known

          between : IsBetween stage.disk (put (restart_sector a) (sent word) stage.disk) after.disk
          between = subst (λ (d : Disk). IsBetween stage.disk (put (restart_sector a) (sent word) stage.disk) d) (some_disk (put (restart_sector a) (sent word) stage.disk) after.disk (sym named_known ∙ after.known)) (record { durable = λ n. refl; written = λ n. inr refl })

          pub named_alike : (image : List (List ℕ)) → CanLeave after.disk (sector_of image) → AreWhole (sector_of image) → RecoversAlike place kept state.log t state.next_lap (sector_of image)
          named_alike image can whole = sent_alike word after.disk between (sized_disk place may.ring kept first still state r well gives changes moment count sees values named after.disk after.known) (named_area lsn a) (restart_written (found_restarts state.restart) after.places) refl after.told after.said after.others after.stands image can whole

          pub leaves_named : Leaves (moment old) (changes old) (changes named)
          leaves_named = calls old named (moment_after (moment old)) (after_later (moment old)) sends.sends.writes.past (image_alike named after.disk after.known named_alike)

          later_named : moment old ≤ moment named
          later_named = let x = after_later (moment old) in let y = after_later (moment_after (moment old)) in let e = sends.sends.later in omega (arith, x, y, e)

          pub then_synced : (u : Unit {0}) (new : D) → SyncsNow changes moment (Ok u) named new → Leaves (moment old) (changes old) (changes new)
          then_synced u new syncs =
              leaves_on place may.ring kept first still state r well gives changes moment count sees values (moment old) (moment named) (changes old) (changes named) (changes new) later_named leaves_named
              (calls named new (moment named) (omega arith) syncs.past (image_alike new (settled after.disk) (syncs.ok ∙ ap (option_map settled) after.known) (λ image can whole. named_alike image (settled_leaves after.disk (sector_of image) can) whole)))

          pub then_not_synced : (fault : Failed) (new : D) → SyncsNow changes moment (Err fault) named new → Leaves (moment old) (changes old) (changes new)
          then_not_synced fault new syncs =
              leaves_on place may.ring kept first still state r well gives changes moment count sees values (moment old) (moment named) (changes old) (changes named) (changes new) later_named leaves_named
              (calls named new (moment named) (omega arith) syncs.past (image_alike new after.disk (syncs.err ∙ after.known) named_alike))

        -- it was sent in a write that failed, or its place was read alone
        abbrev failing : Failed → Result (Unit {0}) Failed
        failing fault = Err fault

        page_fails : (fault : Failed) (new : D) (now : Option ℕ) → SentOrAsked gives changes moment None (restart_sector a) (protected_bytes (restart_spelling (page_to_send a lsn false))) (failing fault) old new now → Leaves (moment old) (changes old) (changes new)
        page_fails fault new None asked = leaves_same place may.ring kept first still state r well gives changes moment count sees values (moment old) (changes old) (changes new) asked.1.unchanged
        page_fails fault new (Some word) sends =
            let after = restart_fails gives changes moment fault session a (first_ring session) (found_restarts state.restart) [] (λ n. r.front.chosen) stage.disk lsn false word old new device rings may_name sends in
            let torn = torn_known (restart_sector a) (sent word) stage.disk (changes new).disk (subst (λ (o : Option Disk). IsTornDisk (restart_sector a) (sent word) o (changes new).disk) stage.known sends.sends.writes.err) in
            let between : IsBetween stage.disk (put (restart_sector a) (sent word) stage.disk) after.disk = subst (λ (d : Disk). IsBetween stage.disk (put (restart_sector a) (sent word) stage.disk) d) (some_disk torn.0 after.disk (sym torn.1 ∙ after.known)) torn.2 in
            calls old new (moment_after (moment old)) (after_later (moment old)) sends.sends.writes.past (image_alike new after.disk after.known
            (λ image can whole. sent_alike word after.disk between (sized_disk place may.ring kept first still state r well gives changes moment count sees values new after.disk after.known)
            (record a { sent = Some (record { page = page_to_send a lsn false; check = word }) }) (restart_sent (found_restarts state.restart) after.places) refl after.told after.said after.others after.stands image can whole))

        pub names_leave : (result : Result (Unit {0}) Failed) (new : D) → NamesNow gives changes moment a lsn result old new → Leaves (moment old) (changes old) (changes new)
        names_leave (Ok u) new names = then_synced names.0 names.1.0 names.1.1 u new names.2.syncs
        names_leave (Err fault) new (inl page) = page_fails fault new page.0 page.1
        names_leave (Err fault) new (inr names) = then_not_synced names.0 names.1.0 names.1.1 fault new names.2.syncs

      -- ---- all calls

      -- a sync that went well, where all is put out
      record IsReady (device : D) : Type 0 where
        stage : At (left_of []) device
        done : IsSettled stage.disk

      ready : (put synced : D) → At (left_of []) put → SyncsDevice changes moment (Ok tt) put synced → IsReady synced × Leaves (moment put) (changes put) (changes synced) × (moment put ≤ moment synced)
      ready put synced stage syncs =
          let s = sync_well place may.ring kept first still state r well gives changes moment count sees values (left_of []) tt put synced stage syncs.syncs in
          let same : s.0.disk ≡ settled s.2.0 = some_disk s.0.disk (settled s.2.0) (sym s.0.known ∙ s.2.1) in
          (record { stage = s.0; done = subst (λ (d : Disk). IsSettled d) (sym same) (λ n. refl) }, s.1, (let x = after_later (moment put) in let e = syncs.later in omega (arith, x, e)))

      pub images_ok : (u : Unit {0}) (old new : D) → (changes old).disk ≡ Some first → MountsAs gives changes moment place state items (Ok u) old new → Leaves (moment old) (changes old) (changes new)
      images_ok u old new known mounts =
          let p = all_put place may.ring kept first still state r well gives changes moment count sees values items may.own tt old mounts.0 (begun_on old known) mounts.1 in
          let s = ready mounts.0 mounts.2.0 p.0 mounts.2.1 in
          let n = names_leave mounts.2.0 s.0.stage s.0.done (Ok u) new mounts.2.2 in
          leaves_on place may.ring kept first still state r well gives changes moment count sees values (moment old) (moment mounts.0) (changes old) (changes mounts.0) (changes new) p.2 p.1
          (leaves_on place may.ring kept first still state r well gives changes moment count sees values (moment mounts.0) (moment mounts.2.0) (changes mounts.0) (changes mounts.2.0) (changes new) s.2 s.1 n)

      pub images_err : (fault : Failed) (old new : D) → (changes old).disk ≡ Some first → MountsAs gives changes moment place state items (Err fault) old new → Leaves (moment old) (changes old) (changes new)
      images_err fault old new known (inl puts) = all_fail place may.ring kept first still state r well gives changes moment count sees values items may.own fault old new (begun_on old known) puts
      images_err fault old new known (inr (put, puts, inl syncs)) =
          let p = all_put place may.ring kept first still state r well gives changes moment count sees values items may.own tt old put (begun_on old known) puts in
          leaves_on place may.ring kept first still state r well gives changes moment count sees values (moment old) (moment put) (changes old) (changes put) (changes new) p.2 p.1
          (sync_fails place may.ring kept first still state r well gives changes moment count sees values (left_of []) fault put new p.0 syncs.syncs)
      images_err fault old new known (inr (put, puts, inr (synced, syncs, names))) =
          let p = all_put place may.ring kept first still state r well gives changes moment count sees values items may.own tt old put (begun_on old known) puts in
          let s = ready put synced p.0 syncs in
          let n = names_leave synced s.0.stage s.0.done (Err fault) new names in
          leaves_on place may.ring kept first still state r well gives changes moment count sees values (moment old) (moment put) (changes old) (changes put) (changes new) p.2 p.1
          (leaves_on place may.ring kept first still state r well gives changes moment count sees values (moment put) (moment synced) (changes put) (changes synced) (changes new) s.2 s.1 n)

    -- ---- the window

    module _ (still : IsSettled first) where
      abbrev t' : Content
      t' = mounted_content (content_of (seen first)) state.log

      abbrev At' : (Block → Bool) → D → Type 0
      At' left device = Stage place may.ring kept first still state r well gives changes moment 0 sees values left device

      begun_on' : (old : D) → (changes old).disk ≡ Some first → At' (left_of items) old
      begun_on' old known = record {
        disk = first;
        known = known;
        on = fewer_left place may.ring kept first still state r well 0 (is_put_out c state.log) (left_of items) first few (mount_begins place kept state.log first well.level still (sized_disk place may.ring kept first still state r well gives changes moment 0 sees values old first known));
      }
        where
          few : (b : Block) → left_of items b ≡ false → is_put_out c state.log b ≡ false
          few b none = elim (cases_Bool (is_put_out c state.log b)) [
            | inl out ↦ absurd (clash (may.all b out) none)
            | inr not_out ↦ not_out
          ]
            where
              clash : left_of items b ≡ true → left_of items b ≡ false → ⊥
              clash x y = cc

      pub mounted_well : (old new : D) → (changes old).disk ≡ Some first → MountsAs gives changes moment place state items (Ok tt) old new → HasMounted (changes new) (first_facts place (opened_area place state.next_lap state.restart state.opens) kept) state.log t'
      mounted_well old new known mounts =
          let p = all_put place may.ring kept first still state r well gives changes moment 0 sees values items may.own tt old mounts.0 (begun_on' old known) mounts.1 in
          let s = sync_well place may.ring kept first still state r well gives changes moment 0 sees values (left_of []) tt mounts.0 mounts.2.0 p.0 mounts.2.1.syncs in
          let same : s.0.disk ≡ settled s.2.0 = some_disk s.0.disk (settled s.2.0) (sym s.0.known ∙ s.2.1) in
          let done : IsSettled s.0.disk = subst (λ (d : Disk). IsSettled d) (sym same) (λ n. refl) in
          let small = sized_disk place may.ring kept first still state r well gives changes moment 0 sees values mounts.2.0 s.0.disk s.0.known in
          let word = mounts.2.2.1.0 in
          let page = sectors_of (protected_bytes (restart_spelling (page_to_send a lsn false)) word) in
          let now = put (restart_sector a) page s.0.disk in
          let on = named_on place may.ring kept first still state r well s.0.disk s.0.on done small word now (record { durable = λ n. refl; written = λ n. inr refl }) in
          let last : (changes new).disk ≡ Some (settled now) = mounts.2.2.2.syncs.ok ∙ ap (option_map settled) (mounts.2.2.1.1.sends.writes.ok ∙ ap (option_map (put (restart_sector a) page)) s.0.known) in
          let b = begins_store kept old new known mounts in
          let there : b.disk ≡ settled now = some_disk b.disk (settled now) (sym b.known ∙ last) in
          mounts_go_on_law.mounted (changes new) (first_facts place (opened_area place state.next_lap state.restart state.opens) kept) state.log t' (left_of []) (settled now)
          (subst (λ (d : Disk). HasStart (changes new) (first_facts place (opened_area place state.next_lap state.restart state.opens) kept) (content_of (seen d))) there b.start)
          (mounts_go_on_law.synced (is_own place kept) state.log t' (left_of []) now on.mounting) (λ x k. refl)

  pub mounts_recover_law : MountsRecover gives changes moment
  mounts_recover_law = record {
    starts = λ place kept state items first by old new known may mounts. (let b = begins_store place kept state items first may by old new known mounts in record { disk = b.disk; known = b.known; start = b.start });
    images = λ count place kept state items first result old new known may still alone mounts. by_result count place kept state items first result old new known may still alone mounts;
    mounted = λ place kept state items first old new known may still mounts. mounted_well place kept state items first may still old new known mounts;
  }
    where
      by_result : (count : ℕ) (place : LogPlace) (kept : List Block) (state : LogState) (items : List RecoveredBlock) (first : Disk) (result : Result (Unit {0}) Failed) (old new : D) → (changes old).disk ≡ Some first → MayMount place kept state items first → IsSettled first
          → OneIsNewer (said_restart (raw_page place (seen first) 0)) (said_restart (raw_page place (seen first) 1)) → MountsAs gives changes moment place state items result old new
          → LeavesAlike count (moment old) place kept state.log (mounted_content (content_of (seen first)) state.log) state.next_lap (changes old) (changes new)
      by_result count place kept state items first (Ok u) old new known may still alone mounts = images_ok place kept state items first may still alone count u old new known mounts
      by_result count place kept state items first (Err fault) old new known may still alone mounts = images_err place kept state items first may still alone count fault old new known mounts
