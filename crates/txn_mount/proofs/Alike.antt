-- Whatever a crash leaves while a mount goes on recovers alike.
use Rattle.std.proofs.Common.{◌≡◌, ◌⊎◌, subst, ℕ, ◌+◌, ◌<◌, ◌≤◌, Bool, true, false, List, [], None, refl, sym, ap, ap₂, ◌∙◌, inl, inr, arith}
use Rattle.std.specs.Prelude.{Contains, ◌&&◌, ◌||◌, not}
use Rattle.disk_model.specs.declared.block.Block.{Block}
use Rattle.disk_model.specs.declared.block.BlockKind.TheVariants.{Plain}
use Rattle.disk_model.specs.Sectors.{same_kind}
use Rattle.disk_model.specs.Content.{Content, content_of}
use Rattle.fixup_record.specs.Spellings.{has_spelling}
use Rattle.sector_device.specs.Disks.{Disk, IsSettled, MayHold, newest, seen}
use Rattle.log_model.specs.declared.entry.Entry.{Entry}
use Rattle.log_model.specs.Logs.{is_shadowed, is_covered_whole, is_other, is_written_out, is_partial, first_partial, recovered}
use Rattle.txn_core.specs.log_page.declared.places.LogPlace.{LogPlace}
use Rattle.txn_core.specs.log_page.Places.{first_page, lap_of}
use Rattle.txn_core.specs.log_page.LiveLogs.{said_lsn}
use Rattle.txn_core.specs.log_laws.NextLaps.{IsSaid}
use Rattle.log_recovery.specs.log_reading.Fronts.{front_in}
use Rattle.log_recovery.specs.log_reading.LogPages.{page_in}
use Rattle.log_recovery.specs.log_reading.Rings.{IsRingPlace}
use Rattle.log_recovery.specs.LogStates.{LogState}
use Rattle.log_recovery.specs.Writing.{is_spelled, is_put_out}
use Rattle.store_model.specs.Logs.{has_update}
use Rattle.store_model.specs.Geometry.{SectorBytes, CanLeave}
use Rattle.store_model.specs.Volumes.{is_known, AreWhole, IsRecovered}
use Rattle.store_model.proofs.Known.{own_content}
use Rattle.store_model.proofs.Told.{true≢false}
use Rattle.txn_core.specs.ring_laws.PageBytes.{page_sector, raw_page, IsStill, AreAlike}
use Rattle.txn_core.proofs.ring_laws.LogSectors.{read_is_raw, raw_same}
use Rattle.txn_core.proofs.ring_laws.SeenDisks.{other_same, partial_same, written_same, written_updated}
use Rattle.txn_core.specs.txn_laws.Mounting.{IsMounting}
use Rattle.txn_core.proofs.txn_laws.Mounting.{mounts_go_on_law}
use Rattle.txn_core.proofs.txn_laws.Syncs.{and_left, and_right}
use Rattle.txn_core.specs.txn_model.Values.{is_own}
use Rattle.txn_mount.specs.Contents.{mounted_content, stays_torn, UpdatesKnown, ReadsLog, ReadsWell}
use Rattle.txn_mount.specs.Images.{RecoversAlike, Spares, MountsOn, IsMountedAs}
use Rattle.txn_mount.proofs.Frames.{entries_alike, none_partial, updated_whole}
use Rattle.txn_mount.proofs.Blocks.{out_covered, out_spelled}
use Rattle.txn_mount.proofs.Starting.{out_written, out_parts}
use Rattle.txn_mount.proofs.Finding.{laps_below}

held_is : (disk : Disk) (s : ℕ) (value : List ℕ) → disk.written s ≡ [] → MayHold disk s value → value ≡ disk.durable s
held_is disk s value none (inl is) = is
held_is disk s value none (inr has) = let m = subst (λ (vs : List (List ℕ)). Contains vs value) none has in absurd (omega (arith, m.1))

seen_is : (disk : Disk) (s : ℕ) → disk.written s ≡ [] → seen disk s ≡ disk.durable s
seen_is disk s none = ap (λ (vs : List (List ℕ)). newest vs (disk.durable s)) none

module _ (place : LogPlace) (ring : IsRingPlace place) (kept : List Block) (first : Disk) (still : IsSettled first) (state : LogState) (r : ReadsLog (content_of (seen first)) place kept state) (well : ReadsWell state.log) where
  abbrev own : ℕ → Bool
  own = is_own place kept

  abbrev c : Content
  c = content_of (seen first)

  abbrev list : List Entry
  list = state.log

  abbrev t : Content
  t = mounted_content (content_of (seen first)) state.log

  -- ---- the log's pages

  module _ (from : ℕ) (now : Disk) (alike : AreAlike place from place.pages first now) where
    pub page_still : (k : ℕ) → from ≤ k → k < place.pages → IsStill place now k
    page_still k low lt i few = alike.written k i low lt few ∙ still (page_sector place k + i)

    pub seen_alike : (k : ℕ) → from ≤ k → k < place.pages → raw_page place (seen now) k ≡ raw_page place (seen first) k
    seen_alike k low lt = raw_same place (seen now) (seen first) k
        (λ i few. seen_is now (page_sector place k + i) (page_still k low lt i few) ∙ alike.durable k i low lt few ∙ sym (seen_is first (page_sector place k + i) (still (page_sector place k + i))))

    module _ (at : SectorBytes) (can : CanLeave now at) where
      pub raw_alike : (k : ℕ) → from ≤ k → k < place.pages → raw_page place at k ≡ raw_page place (seen first) k
      raw_alike k low lt = mounts_go_on_law.log_reads place now at k (page_still k low lt) can ∙ seen_alike k low lt

      pub page_alike : (k : ℕ) → from ≤ k → k < place.pages → page_in (content_of at) place k ≡ page_in c place k
      page_alike k low lt = read_is_raw place at k ring lt ∙ raw_alike k low lt ∙ sym (read_is_raw place (seen first) k ring lt)

      pub laps_alike : (lsn : ℕ) → from ≤ first_page → IsSaid place.pages (raw_page place at) r.front.chosen lsn → lap_of place.pages lsn ≤ state.next_lap
      laps_alike lsn low (inl restart) = let lt = laps_below place ring kept first state r lsn (inl restart) in omega (arith, lt)
      laps_alike lsn low (inr page) =
          let same : page_in c place page.page ≡ raw_page place at page.page = read_is_raw place (seen first) page.page ring page.inside ∙ sym (raw_alike page.page (omega (arith, low, page.begun)) page.inside) in
          let lt = laps_below place ring kept first state r lsn (inr (record { page = page.page; begun = page.begun; inside = page.inside; says = ap said_lsn same ∙ page.says })) in
          omega (arith, lt)

  -- ---- the blocks

  module _ (left : Block → Bool) (now : Disk) (mounting : IsMounting own list t left now) (spares : Spares own list first now) (at : SectorBytes) (can : CanLeave now at) (whole : AreWhole at) where
    pub recovers_now : (b : Block) → is_known own b ≡ true → is_shadowed list b ≡ false → IsRecovered list at t b
    recovers_now b known claimed = mounts_go_on_law.recovers own list t left now at mounting can whole b known claimed

    spared_at : (b : Block) → is_known own b ≡ true → has_update list b ≡ true → is_shadowed list b ≡ false → is_put_out c list b ≡ false → content_of at b ≡ c b
    spared_at b known has claimed none =
        own_content b at (seen first) (λ s within. (let x = spares.spared b known has claimed none s within in held_is now s (at s) x.0 (can s) ∙ x.1))

    part_shadowed : (b : Block) → is_shadowed list b ≡ true → is_partial (content_of at) list b ≡ false
    unfolding is_partial
    part_shadowed b is = go (not (same_kind b.kind Plain)) (is_shadowed list b) (not (is_covered_whole list b)) (is_other (content_of at) list b) is
      where
        go : (p sh cov oth : Bool) → sh ≡ true → (p && not sh && cov && oth) ≡ false
        go true true cov oth e = refl
        go false sh cov oth e = refl
        go true false cov oth e = absurd cc

    part_covered : (b : Block) → (is_covered_whole list b ≡ true) ⊎ (b.kind ≡ Plain) → is_partial (content_of at) list b ≡ false
    unfolding is_partial
    part_covered b (inl cov) = go (not (same_kind b.kind Plain)) (not (is_shadowed list b)) (is_covered_whole list b) (is_other (content_of at) list b) cov
      where
        go : (p sh cov oth : Bool) → cov ≡ true → (p && sh && not cov && oth) ≡ false
        go true true true oth e = refl
        go true false cov oth e = refl
        go false sh cov oth e = refl
        go true true false oth e = absurd cc
    part_covered b (inr plain) = ap (λ (v : Bool). v && not (is_shadowed list b) && not (is_covered_whole list b) && is_other (content_of at) list b) (ap (λ k. not (same_kind k Plain)) plain)

    none_in_part : (b : Block) → is_known own b ≡ true → has_update list b ≡ true → is_partial (content_of at) list b ≡ false
    none_in_part b known has = go (is_shadowed list b) refl (is_put_out c list b) refl
      where
        go : (v : Bool) → is_shadowed list b ≡ v → (w : Bool) → is_put_out c list b ≡ w → is_partial (content_of at) list b ≡ false
        go true is w out = part_shadowed b is
        go false claimed true out = part_covered b (out_covered place ring kept c state r well b out)
        go false claimed false none = partial_same list b (content_of at) c (spared_at b known has claimed none) ∙ updated_whole c list b r.whole has

    -- a block that stays torn was torn at first, and stays so
    torn_now : (b : Block) → is_known own b ≡ true → is_shadowed list b ≡ false → stays_torn (content_of at) list b ≡ true → (t b).torn ≡ true
    torn_now b known claimed torn = go (is_put_out c list b) refl
      where
        written : is_written_out (content_of at) list b ≡ true
        written = and_left (is_written_out (content_of at) list b) (not (is_put_out (content_of at) list b)) torn

        not_true : (x : Bool) → not x ≡ true → x ≡ false
        not_true true is = absurd cc
        not_true false is = refl

        none_at : is_put_out (content_of at) list b ≡ false
        none_at = not_true (is_put_out (content_of at) list b) (and_right (is_written_out (content_of at) list b) (not (is_put_out (content_of at) list b)) torn)

        has : has_update list b ≡ true
        has = written_updated list b (content_of at) written

        or_right : (x y : Bool) → y ≡ true → (x || y) ≡ true
        or_right true y is = refl
        or_right false y is = is

        go : (v : Bool) → is_put_out c list b ≡ v → (t b).torn ≡ true
        go true put =
            let parts = out_parts (content_of at) list b none_at written in
            absurd (true≢false (sym (ap (has_spelling b.kind) (recovers_now b known claimed).bytes ∙ out_spelled place ring kept c state r well b put) ∙ parts.0))
        go false none =
            let same = spared_at b known has claimed none in
            or_right (recovered c list b).torn (stays_torn c list b) (ap₂ (λ (x : Bool) (y : Bool). x && not y) (sym (written_same list b (content_of at) c same) ∙ written) none)

    or_cases : (x y : Bool) → (x || y) ≡ true → (x ≡ true) ⊎ (y ≡ true)
    or_cases true y is = inl refl
    or_cases false y is = inr is

    pub mounts_now : (b : Block) → is_known own b ≡ true → is_shadowed list b ≡ false → IsMountedAs list at t b
    mounts_now b known claimed = record {
      bytes = (recovers_now b known claimed).bytes;
      torn = λ torn. elim (or_cases (recovered (content_of at) list b).torn (stays_torn (content_of at) list b) torn) [
        | inl is ↦ (recovers_now b known claimed).torn is
        | inr is ↦ torn_now b known claimed is
      ];
    }

    pub whole_now : UpdatesKnown own list → first_partial (content_of at) list ≡ None
    whole_now known = none_partial (content_of at) list (λ b has. none_in_part b (known b has) has)

    shadow_none : (b : Block) → is_written_out (content_of at) list b ≡ true → is_shadowed list b ≡ false
    unfolding is_written_out
    shadow_none b out = not_true (is_shadowed list b) (and_right _ (not (is_shadowed list b)) (and_left _ _ out))
      where
        not_true : (x : Bool) → not x ≡ true → x ≡ false
        not_true true is = absurd cc
        not_true false is = refl

    spelled_now : (b : Block) → is_known own b ≡ true → is_put_out (content_of at) list b ≡ true → has_spelling b.kind (t b).bytes ≡ true
    unfolding is_put_out
    spelled_now b known out = go (is_put_out c list b) refl
      where
        written : is_written_out (content_of at) list b ≡ true
        written = out_written (content_of at) list b out

        has : has_update list b ≡ true
        has = written_updated list b (content_of at) written

        claimed : is_shadowed list b ≡ false
        claimed = shadow_none b written

        either : (x y : Bool) → (x || y) ≡ true → y ≡ false → x ≡ true
        either true y h e = refl
        either false y h e = absurd cc

        go : (v : Bool) → is_put_out c list b ≡ v → has_spelling b.kind (t b).bytes ≡ true
        go true put = out_spelled place ring kept c state r well b put
        go false none =
            let same = spared_at b known has claimed none in
            let parts = out_parts c list b none (sym (written_same list b (content_of at) c same) ∙ written) in
            let other : is_other (content_of at) list b ≡ false = other_same list b (content_of at) c same ∙ parts.1 in
            let spelled : is_spelled (content_of at) list b ≡ true = either (is_spelled (content_of at) list b) (is_other (content_of at) list b) (and_right (is_written_out (content_of at) list b) (is_spelled (content_of at) list b || is_other (content_of at) list b) out) other in
            ap (has_spelling b.kind) (sym (recovers_now b known claimed).bytes) ∙ spelled

    pub may_write_now : UpdatesKnown own list → (b : Block) → is_put_out (content_of at) list b ≡ true → (is_known own b ≡ true) × (has_spelling b.kind (t b).bytes ≡ true)
    may_write_now knowns b out =
        let known = knowns b (written_updated list b (content_of at) (out_written (content_of at) list b out)) in
        (known, spelled_now b known out)

  pub alike_now : (left : Block → Bool) (now : Disk) → MountsOn place kept list first 0 left now → (at : SectorBytes) → CanLeave now at → AreWhole at → RecoversAlike place kept list t state.next_lap at
  alike_now left now h at can whole =
      let some = ring.ring in
      record {
        front = r.front;
        fronted = ap₂ (λ (a : List ℕ) (b : List ℕ). front_in a b) (page_alike 0 now h.pages at can 0 (omega arith) (omega (arith, some))) (page_alike 0 now h.pages at can 1 (omega arith) (omega (arith, some))) ∙ r.fronted;
        entries = list;
        reads = entries_alike place (content_of at) c r.front.chosen (λ k low lt. page_alike 0 now h.pages at can k (omega arith) lt) ∙ r.entries;
        same = inl refl;
        recovers = mounts_now left now h.mounting h.spares at can whole;
        whole = whole_now left now h.mounting h.spares at can whole;
        may_write = may_write_now left now h.mounting h.spares at can whole;
        laps = λ lsn said. laps_alike 0 now h.pages at can lsn (omega arith) said;
      }
