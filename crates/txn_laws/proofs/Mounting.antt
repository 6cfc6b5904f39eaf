-- A recovery of a device by the entries of its log goes on.
use Rattle.std.proofs.Common.{◌≡◌, ℕ, ◌*◌, ◌^◌, ◌<◌, Bool, true, false, List, [], ◌∷◌, length, Option, None, refl, sym, ap, ap₂, ◌∙◌, subst, inl, inr, arith, ◌⊎◌, ◌+◌, ◌-◌, ◌≤◌}
use Rattle.std.specs.Prelude.{Contains, ◌&&◌, ◌||◌, not, All, nat_eq, slice_index, unwrap_or}
use Rattle.std.specs.Cmp.Lexicographic.{pointwise}
use Rattle.std.proofs.lemmas.Bool.{cases_Bool, eqb-true}
use Rattle.std.proofs.lemmas.List.{ext_get_or}
use Rattle.area_laws.specs.disk_model.declared.block.Block.{Block}
use Rattle.area_laws.specs.disk_model.declared.block.BlockKind.{BlockKind}
use Rattle.area_laws.specs.disk_model.declared.block.BlockKind.TheVariants.{Plain, FileRec, Index}
use Rattle.area_laws.specs.disk_model.Sectors.{sectors, same_block, are_rivals}
use Rattle.area_laws.specs.disk_model.Content.{Content, content_of}
use Rattle.area_laws.specs.disk_model.declared.block.Body.{Body}
use Rattle.area_laws.proofs.disk_model.Frames.{same_block-is, raw_frame}
use Rattle.area_laws.specs.fixup_record.Spellings.{has_spelling, spelled}
use Rattle.area_laws.specs.sector_device.Disks.{Disk, IsBetween, IsSettled, IsSized, is_within, newest, seen, settled, put}
use Rattle.area_laws.specs.sector_device.Sectors.{sectors_of}
use Rattle.area_laws.specs.sector_device.WholeSectors.{length-sectors_of}
use Rattle.area_laws.specs.log_model.declared.entry.Entry.{Entry}
use Rattle.area_laws.specs.log_model.Logs.{IsLevel, is_ended, is_shadowed, is_covered_whole, is_other, is_written_out, recovered, told}
use Rattle.area_laws.proofs.log_model.Recovering.{recovered_at, length-recovered, torn_after}
use Rattle.area_laws.proofs.log_model.Telling.{silent, silent_rest}
use Rattle.store_claims.specs.store_model.Logs.{IsClaimed, has_update}
use Rattle.store_claims.specs.store_model.Geometry.{SectorBytes, Geometry, CanLeave}
use Rattle.store_claims.specs.store_model.Stores.{Restores, Window}
use Rattle.store_claims.specs.store_model.Recovery.{Recovering, IsWhole, MayRestore, recovering}
use Rattle.store_claims.specs.store_model.Recovery.Recovers.{restore, settle}
use Rattle.store_claims.specs.store_model.Volumes.{is_known, first_bytes, sectors_from, bytes_in, AreWhole, RecoversToContent, BearsContent}
use Rattle.store_claims.proofs.store_model.Told.{true≢false, rivals_both}
use Rattle.store_claims.proofs.store_model.Lost.{none_covered}
use Rattle.store_claims.proofs.store_model.Known.{within_is, is_in, own_content}
use Rattle.store_claims.proofs.store_model.Volumes.{volume_geometry, is_volume, length-first_bytes, first_at, content_size, size_known, known_sized, claimed_is, recovered_bytes}
use Rattle.store_claims.proofs.store_model.Recovery.{Keeps, keeps-step, one_claimed}
use Rattle.store_claims.proofs.store_model.Writes.{words_agree_law}
use Rattle.store_claims.proofs.store_model.Devices.{torn_is, put_is, spells_body, settled_bears}
use Rattle.area_laws.specs.ring_laws.StoreDisks.{disk_without, sectors_without}
use Rattle.area_laws.specs.ring_laws.PageBytes.{page_sector, raw_page, IsStill, AreAlike}
use Rattle.area_laws.proofs.ring_laws.LogSectors.{kept_elsewhere}
use Rattle.area_laws.proofs.ring_laws.SeenDisks.{not_own, without_left, without_content, without_seen, without_recovered, without_whole, without_bears, without_synced, without_failed}
use Rattle.txn_laws.specs.Mounting.{StandsAt, IsMounting, HasMounted, MayPutBack, MountsGoOn, put_back}
use Rattle.txn_model.specs.Values.{StoreFacts, is_own, own_of}
use Rattle.txn_laws.specs.Windows.{HasStart}
use Rattle.area_laws.specs.sector_device.Moments.{Changes}
use Rattle.area_laws.specs.log_page.declared.places.LogPlace.{LogPlace}
use Rattle.txn_laws.proofs.Changes.{seen_whole}
use Rattle.txn_laws.proofs.PageWrites.{page_is_own}
use Rattle.txn_laws.proofs.Syncs.{and_left, and_right}
use Rattle.txn_laws.proofs.WriteOuts.{spelled_length}

some_sectors : (kind : BlockKind) → 0 < sectors kind
some_sectors Plain = omega arith
some_sectors FileRec = omega arith
some_sectors Index = omega arith

-- the bytes of a body are those by number
numbered : (content : Content) (b : Block) → length (content b).bytes ≡ 512 * sectors b.kind → first_bytes (512 * sectors b.kind) (bytes_in content b) ≡ (content b).bytes
numbered content b sized = ext_get_or 0 (first_bytes (512 * sectors b.kind) (bytes_in content b)) (content b).bytes (length-first_bytes (512 * sectors b.kind) (bytes_in content b) ∙ sym sized)
    (λ i lt. first_at (512 * sectors b.kind) (bytes_in content b) i (omega (arith, lt, length-first_bytes (512 * sectors b.kind) (bytes_in content b))))

same_list : (xs ys : List ℕ) → pointwise nat_eq xs ys ≡ true → xs ≡ ys
same_list [] [] h = refl
same_list [] (y ∷ ys) h = absurd (true≢false (sym h))
same_list (x ∷ xs) [] h = absurd (true≢false (sym h))
same_list (x ∷ xs) (y ∷ ys) h = ap₂ (λ (n : ℕ) (l : List ℕ). n ∷ l) (eqb-true x y (and_left (nat_eq x y) (pointwise nat_eq xs ys) h)) (same_list xs ys (and_right (nat_eq x y) (pointwise nat_eq xs ys) h))

-- ---- it begins

module _ (own : ℕ → Bool) (list : List Entry) (disk : Disk) (level : All IsLevel list) (still : IsSettled disk) (sized : IsSized disk) where
  abbrev c : Content
  c = content_of (seen disk)

  abbrev t : Content
  t = recovered (content_of (seen disk)) list

  abbrev g : Geometry
  g = volume_geometry own

  whole : AreWhole (seen disk)
  whole = seen_whole disk sized

  bears : BearsContent own (disk_without own disk) (content_of (seen disk))
  bears = without_bears own disk (content_of (seen disk)) (settled_bears own disk still)

  length-disk : (b : Block) → length (c b).bytes ≡ 512 * sectors b.kind
  length-disk b = content_size (seen disk) b whole

  at_byte : (b : Block) (i : ℕ) → is_shadowed list b ≡ false → i < 512 * sectors b.kind → slice_index (t b).bytes i ≡ unwrap_or (told list b i) (slice_index (c b).bytes i)
  at_byte b i claimed lt = recovered_at (content_of (seen disk)) list b i level claimed (omega (arith, lt, length-disk b))

  torn_is_left : (b : Block) → is_shadowed list b ≡ false → is_covered_whole list b ≡ false → (c b).torn ≡ true → (t b).torn ≡ true
  torn_is_left b claimed hole torn = torn_after (content_of (seen disk)) list b (λ x. length-disk x) level claimed ∙ ap₂ (λ (u : Bool) (v : Bool). u && not v) torn hole

  not_covered : (b : Block) (i : ℕ) → is_known own b ≡ true → i < g.size b → told list b i ≡ None → is_covered_whole list b ≡ false
  not_covered b i known lt none = elim (cases_Bool (is_covered_whole list b)) [
    | inl is ↦ absurd ((words_agree_law.whole own g (is_volume own) list b known).0 is i lt (silent_rest (is_ended list) list b i none))
    | inr hole ↦ hole
  ]

  restores : (sectors : SectorBytes) → CanLeave (disk_without own disk) sectors → (b : Block) → IsClaimed list b → Restores g list sectors b (bytes_in t) (λ x. (t x).torn)
  restores at left b claimed = record {
    same = λ i lt k.
        (let known = known_sized own g (is_volume own) b i lt in
        ap (unwrap_or (told list b i)) ((is_volume own).decode b at i ∙ ap (λ (bytes : List ℕ). slice_index bytes i) (bears at b left known).0)
        ∙ sym (at_byte b i unshadowed (omega (arith, lt, size_known own g (is_volume own) b known))));
    torn_most = λ i lt k none torn. (let known = known_sized own g (is_volume own) b i lt in torn_is_left b unshadowed (not_covered b i known lt none) ((bears at b left known).1 (sym ((is_volume own).torn b at) ∙ torn)));
  }
    where
      unshadowed : is_shadowed list b ≡ false
      unshadowed = (words_agree_law.claimed list b).1 claimed

  stands_first : (b : Block) → is_known own b ≡ true → is_shadowed list b ≡ false → is_written_out (content_of (seen disk)) list b ≡ false → StandsAt t (seen disk) b
  unfolding is_written_out is_other
  stands_first b known claimed out = by_update (has_update list b) refl out
    where
      -- nothing is told of a block without an update
      untouched : has_update list b ≡ false → StandsAt t (seen disk) b
      untouched none = record {
        bytes = sym (ext_get_or 0 (t b).bytes (c b).bytes (length-recovered (content_of (seen disk)) list b)
            (λ i lt. at_byte b i claimed (omega (arith, lt, length-recovered (content_of (seen disk)) list b, length-disk b)) ∙ ap (λ (o : Option ℕ). unwrap_or o (slice_index (c b).bytes i)) (untold i)));
        torn = λ torn. torn_is_left b claimed (not_covered b 0 known (omega (arith, size_known own g (is_volume own) b known, some_sectors b.kind)) (untold 0)) torn;
      }
        where
          untold : (i : ℕ) → told list b i ≡ None
          untold i = silent (is_ended list) list b i (none_covered list b i none)

      same : (v : Bool) → pointwise nat_eq (t b).bytes (c b).bytes ≡ v → (u w : Bool) → (c b).torn ≡ u → is_covered_whole list b ≡ w → (not v || (u && w)) ≡ false → StandsAt t (seen disk) b
      same false e u w torn covered none = absurd (true≢false none)
      same true e true true torn covered none = absurd (true≢false none)
      same true e true false torn covered none = record { bytes = sym (same_list (t b).bytes (c b).bytes e); torn = λ is. torn_is_left b claimed covered is }
      same true e false w torn covered none = record { bytes = sym (same_list (t b).bytes (c b).bytes e); torn = λ is. absurd (true≢false (sym is ∙ torn)) }

      by_update : (v : Bool) → has_update list b ≡ v → (has_update list b && not (is_shadowed list b) && (not (pointwise nat_eq (t b).bytes (c b).bytes) || ((c b).torn && is_covered_whole list b))) ≡ false → StandsAt t (seen disk) b
      by_update false none is = untouched none
      by_update true some is = same (pointwise nat_eq (t b).bytes (c b).bytes) refl (c b).torn (is_covered_whole list b) refl refl
          (sym (ap₂ (λ (x : Bool) (y : Bool). x && not y && (not (pointwise nat_eq (t b).bytes (c b).bytes) || ((c b).torn && is_covered_whole list b))) some claimed) ∙ is)

  begins_mounting : IsMounting own list t (is_written_out (content_of (seen disk)) list) disk
  begins_mounting = record {
    geometry = g;
    volume = is_volume own;
    level = level;
    sized = λ b known. length-recovered (content_of (seen disk)) list b ∙ length-disk b;
    begins = restores;
    stands = stands_first;
  }

-- known blocks are the same without the own sectors
seen_without : (own : ℕ → Bool) (disk : Disk) (b : Block) → is_known own b ≡ true → content_of (seen (disk_without own disk)) b ≡ content_of (seen disk) b
seen_without own disk b known = ap (λ (at : SectorBytes). content_of at b) (without_seen own disk) ∙ without_content own (seen disk) b known

-- ---- and goes on

module _ (own : ℕ → Bool) (list : List Entry) (content : Content) (left : Block → Bool) (disk : Disk) (h : IsMounting own list content left disk) where
  abbrev torn_in : Block → Bool
  torn_in b = (content b).torn

  abbrev r : Recovering
  r = recovering list (disk_without own disk)

  keeps : Keeps h.geometry (bytes_in content) torn_in r
  keeps = record { same = h.begins; restored = λ renamed. absurd (true≢false (sym renamed)) }

  pub recovers_now : (at : SectorBytes) → CanLeave disk at → AreWhole at → RecoversToContent own list at content
  recovers_now at can whole b known claimed =
      let x = without_recovered own at list (λ d. record { bytes = first_bytes (512 * sectors d.kind) (bytes_in content d); torn = (content d).torn }) b known
      (recovered_bytes own h.geometry h.volume list (sectors_without own at) b (bytes_in content) torn_in h.level (without_whole own at whole) (h.begins (sectors_without own at) (without_left own disk at can) b (claimed_is list b claimed)) known claimed) in
      record { bytes = x.bytes ∙ numbered content b (h.sized b known); torn = x.torn }

  pub stands_ended : ((b : Block) → is_known own b ≡ true → left b ≡ false) → IsSettled (disk_without own disk) → (at : SectorBytes) → CanLeave disk at → (b : Block) → is_known own b ≡ true → is_shadowed list b ≡ false → StandsAt content at b
  stands_ended none still at can b known claimed =
      let x = settled_bears own (disk_without own disk) still (sectors_without own at) b (without_left own disk at can) known in
      let here : content_of (sectors_without own at) b ≡ content_of at b = without_content own at b known in
      let there : content_of (seen (disk_without own disk)) b ≡ content_of (seen disk) b = seen_without own disk b known in
      let y = h.stands b known claimed (none b known) in
      record {
        bytes = ap (λ (body : Body). body.bytes) (sym here) ∙ x.0 ∙ ap (λ (body : Body). body.bytes) there ∙ y.bytes;
        torn = λ torn. y.torn (ap (λ (body : Body). body.torn) (sym there) ∙ x.1 (ap (λ (body : Body). body.torn) here ∙ torn));
      }

  pub mounting_elsewhere : (now : Disk) → disk_without own now ≡ disk_without own disk → IsMounting own list content left now
  mounting_elsewhere now same = record {
    geometry = h.geometry;
    volume = h.volume;
    level = h.level;
    sized = h.sized;
    begins = subst (λ (d : Disk). (at : SectorBytes) → CanLeave d at → (b : Block) → IsClaimed list b → Restores h.geometry list at b (bytes_in content) torn_in) (sym same) h.begins;
    stands = λ b known claimed none.
        (let y = h.stands b known claimed none in
        let is : content_of (seen now) b ≡ content_of (seen disk) b = sym (seen_without own now b known) ∙ ap (λ (d : Disk). content_of (seen d) b) same ∙ seen_without own disk b known in
        record { bytes = ap (λ (body : Body). body.bytes) is ∙ y.bytes; torn = λ torn. y.torn (sym (ap (λ (body : Body). body.torn) is) ∙ torn) });
  }

  pub mounting_synced : IsMounting own list content left (settled disk)
  mounting_synced = record {
    geometry = h.geometry;
    volume = h.volume;
    level = h.level;
    sized = h.sized;
    begins = subst (λ (d : Disk). (at : SectorBytes) → CanLeave d at → (b : Block) → IsClaimed list b → Restores h.geometry list at b (bytes_in content) torn_in) (sym (without_synced own disk))
        (keeps-step h.geometry (bytes_in content) torn_in r (record r { disk = settled (disk_without own disk) }) settle keeps).same;
    stands = h.stands;
  }

  module _ (b : Block) (may : MayPutBack own list content left b) (check : ℕ) (small : check < 2 ^ 16) where
    abbrev new : List (List ℕ)
    new = sectors_of (spelled b.kind check (content b).bytes)

    length-new : length new ≡ sectors b.kind
    length-new = length-sectors_of (spelled b.kind check (content b).bytes) ∙ (let size = spelled_length b.kind check (content b).bytes in let own_size = h.sized b may.known in omega arith)

    positive : 0 < h.geometry.size b
    positive = omega (arith, size_known own h.geometry h.volume b may.known, some_sectors b.kind)

    abbrev w : Window
    w = record { body = bytes_in content; is_torn = λ x. (content x).torn; was_torn = λ k x. false; waiting = []; is_open = false; tx = 0; draft = [] }

    spells : (f : SectorBytes) (i : ℕ) → i < h.geometry.size b → ((s : ℕ) → h.geometry.has b s ≡ true → f s ≡ sectors_from b.first new s)
        → (h.geometry.decode b f i ≡ bytes_in content b i) × (h.geometry.torn b f ≡ true → torn_in b ≡ true)
    spells f i lt agree =
        spells_body own h.geometry h.volume w b check (h.volume.has_spelling b (bytes_in content b) ∙ ap (has_spelling b.kind) (numbered content b (h.sized b may.known)) ∙ may.spelled) small f i lt
        (λ s has. agree s has ∙ ap (λ (bytes : List ℕ). sectors_from b.first (sectors_of (spelled b.kind check bytes)) s) (sym (numbered content b (h.sized b may.known))))

    alone : b.kind ≡ Plain → IsWhole h.geometry b
    alone plain = (
      b.first,
      h.volume.has b b.first ∙ is_in b.first (sectors b.kind) b.first (omega arith) (omega (arith, some_sectors b.kind)),
      λ s has. (let at = within_is b.first (sectors b.kind) s (sym (h.volume.has b s) ∙ has) in omega (arith, at.0, at.1, ap sectors plain)),
    )

    restorable : MayRestore h.geometry r b
    restorable = record {
      early = refl;
      known = positive;
      updated = may.updated;
      claimed = claimed_is list b may.claimed;
      covered = elim may.covered [
        | inl whole ↦ inl (λ i lt none. (words_agree_law.whole own h.geometry h.volume list b may.known).0 whole i lt (silent_rest (is_ended list) list b i none))
        | inr plain ↦ inr (alone plain)
      ];
    }

    begins_on : (now : Disk) → IsBetween disk (put_back content b check disk) now → (at : SectorBytes) → CanLeave (disk_without own now) at → (x : Block) → IsClaimed list x → Restores h.geometry list at x (bytes_in content) torn_in
    begins_on now between =
        (keeps-step h.geometry (bytes_in content) torn_in r (record r { disk = disk_without own now })
        (restore b (sectors_from b.first new) (disk_without own now) restorable spells (without_failed own h.geometry h.volume b new may.known length-new disk now between)) keeps).same

    -- other blocks stay
    stays_there : (now : Disk) → IsBetween disk (put_back content b check disk) now → (x : Block) → is_known own x ≡ true → is_shadowed list x ≡ false → left x ≡ false → same_block x b ≡ false → StandsAt content (seen now) x
    stays_there now between x known claimed none other =
        let puts = torn_is own h.geometry h.volume b new disk now length-new between in
        let same : content_of (seen now) x ≡ content_of (seen disk) x = own_content x (seen now) (seen disk) (λ s within. ap₂ (λ (vs : List (List ℕ)) (d : List ℕ). newest vs d) (puts.other s (outside s within)) (puts.durable s)) in
        let was = h.stands x known claimed none in
        record { bytes = ap (λ (body : Body). body.bytes) same ∙ was.bytes; torn = λ torn. was.torn (sym (ap (λ (body : Body). body.torn) same) ∙ torn) }
      where
        no_rivals : are_rivals b x ≡ false
        no_rivals = elim (cases_Bool (are_rivals b x)) [
          | inl is ↦ absurd (claimed_is list x claimed (one_claimed (is_ended list) list b x may.updated (claimed_is list b may.claimed) (rivals_both x b ∙ is) is))
          | inr none ↦ none
        ]

        outside : (s : ℕ) → is_within x.first (sectors x.kind) s ≡ true → h.geometry.has b s ≡ false
        outside s within = elim (cases_Bool (h.geometry.has b s)) [
          | inl is ↦ absurd (true≢false (sym (h.volume.has x s ∙ within) ∙ h.geometry.off b x positive (omega (arith, size_known own h.geometry h.volume x known, some_sectors x.kind)) no_rivals other s is))
          | inr none ↦ none
        ]

    not_it : (x : Block) → left x ≡ false → same_block x b ≡ false
    not_it x none = elim (cases_Bool (same_block x b)) [
      | inl is ↦ absurd (true≢false (sym may.waits ∙ ap left (sym (same_block-is x b is)) ∙ none))
      | inr other ↦ other
    ]

    pub mounting_failed : (now : Disk) → IsBetween disk (put_back content b check disk) now → IsMounting own list content left now
    mounting_failed now between = record {
      geometry = h.geometry;
      volume = h.volume;
      level = h.level;
      sized = h.sized;
      begins = begins_on now between;
      stands = λ x known claimed none. stays_there now between x known claimed none (not_it x none);
    }

    abbrev after : Disk
    after = put_back content b check disk

    between_after : IsBetween disk (put_back content b check disk) after
    between_after = record { durable = λ s. refl; written = λ s. inr refl }

    -- a read gives the block that was written
    stands_written : IsSized after → StandsAt content (seen after) b
    stands_written sized = record {
      bytes = ext_get_or 0 (content_of (seen after) b).bytes (content b).bytes (size ∙ sym (h.sized b may.known))
          (λ i lt. sym (h.volume.decode b (seen after) i) ∙ (spells (seen after) i (omega (arith, lt, size, size_known own h.geometry h.volume b may.known)) here).0);
      torn = λ torn. (spells (seen after) 0 positive here).1 (h.volume.torn b (seen after) ∙ torn);
    }
      where
        size : length (content_of (seen after) b).bytes ≡ 512 * sectors b.kind
        size = content_size (seen after) b (seen_whole after sized)

        here : (s : ℕ) → h.geometry.has b s ≡ true → seen after s ≡ sectors_from b.first new s
        here s has = ap (λ (vs : List (List ℕ)). newest vs (disk.durable s)) ((put_is own h.geometry h.volume b new disk length-new).own s has)

    pub mounting_written : IsSized after → IsMounting own list content (λ x. left x && not (same_block x b)) after
    mounting_written sized = record {
      geometry = h.geometry;
      volume = h.volume;
      level = h.level;
      sized = h.sized;
      begins = begins_on after between_after;
      stands = λ x known claimed none. by_block x known claimed none (same_block x b) refl;
    }
      where
        and_not : (v : Bool) → (v && not false) ≡ false → v ≡ false
        and_not true e = absurd (true≢false e)
        and_not false e = refl

        by_block : (x : Block) → is_known own x ≡ true → is_shadowed list x ≡ false → (left x && not (same_block x b)) ≡ false → (v : Bool) → same_block x b ≡ v → StandsAt content (seen after) x
        by_block x known claimed none true is = subst (λ (y : Block). StandsAt content (seen after) y) (sym (same_block-is x b is)) (stands_written sized)
        by_block x known claimed none false other = stays_there after between_after x known claimed (and_not (left x) (sym (ap (λ (v : Bool). left x && not v) other) ∙ none)) other

-- ---- the log's pages

log_kept : (place : LogPlace) (found : List Block) (b : Block) (new : List (List ℕ)) (disk now : Disk) → is_known (is_own place found) b ≡ true → length new ≡ sectors b.kind → IsBetween disk (put b.first new disk) now → AreAlike place 0 place.pages disk now
log_kept place found b new disk now known sized between =
    kept_elsewhere place 0 place.pages b.first new disk now (λ k i low lt few. apart k i lt few (is_within b.first (length new) (page_sector place k + i)) refl) between
  where
    apart : (k i : ℕ) → k < place.pages → i < 8 → (v : Bool) → is_within b.first (length new) (page_sector place k + i) ≡ v → is_within b.first (length new) (page_sector place k + i) ≡ false
    apart k i lt few false is = is
    apart k i lt few true is =
        let inside : is_within b.first (sectors b.kind) (page_sector place k + i) ≡ true = ap (λ (c : ℕ). is_within b.first c (page_sector place k + i)) (sym sized) ∙ is in
        let own = page_is_own place found k (page_sector place k + i) lt (is_in (page_sector place k) 8 (page_sector place k + i) (omega arith) (omega (arith, few))) in
        absurd (true≢false (sym own ∙ not_own (is_own place found) b (page_sector place k + i) known inside))

log_settled : (place : LogPlace) (disk : Disk) → ((k : ℕ) → k < place.pages → IsStill place disk k) → AreAlike place 0 place.pages disk (settled disk)
log_settled place disk still = record {
  durable = λ k i low lt few. ap (λ (vs : List (List ℕ)). newest vs (disk.durable (page_sector place k + i))) (still k lt i few);
  written = λ k i low lt few. sym (still k lt i few);
}

log_read : (place : LogPlace) (disk : Disk) (at : SectorBytes) (k : ℕ) → IsStill place disk k → CanLeave disk at → raw_page place at k ≡ raw_page place (seen disk) k
unfolding raw_page
log_read place disk at k still can = raw_frame (seen disk) at (page_sector place k) 8 same
  where
    one : (s : ℕ) → disk.written s ≡ [] → (at s ≡ disk.durable s) ⊎ Contains (disk.written s) (at s) → at s ≡ seen disk s
    one s none (inl is) = is ∙ sym (ap (λ (vs : List (List ℕ)). newest vs (disk.durable s)) none)
    one s none (inr has) = let m = subst (λ (vs : List (List ℕ)). Contains vs (at s)) none has in absurd (omega (arith, m.1))

    same : (s : ℕ) → page_sector place k ≤ s → s < page_sector place k + 8 → at s ≡ seen disk s
    same s low high =
        let i = s - page_sector place k in
        let is : page_sector place k + i ≡ s = omega (arith, low) in
        one s (ap (λ (n : ℕ). disk.written n) (sym is) ∙ still i (omega (arith, low, high))) (can s)

-- ---- a store begins

mounted_shows : (changes : Changes) (f : StoreFacts) (list : List Entry) (content : Content) (left : Block → Bool) (disk : Disk) → HasStart changes f (content_of (seen disk)) → IsMounting (own_of f) list content left disk
    → ((b : Block) → is_known (own_of f) b ≡ true → left b ≡ false) → HasMounted changes f list content
mounted_shows changes f list content left disk start h none = record {
  window = start.window;
  has = start.has;
  closed = start.closed;
  none = start.none;
  claimed = start.claimed;
  present = λ b known claimed.
      (let y = h.stands b known claimed (none b known) in
      (ap (λ (body : Body). body.bytes) (start.present b) ∙ y.bytes, λ torn. y.torn (sym (ap (λ (body : Body). body.torn) (start.present b)) ∙ torn)));
}

pub mounts_go_on_law : MountsGoOn
mounts_go_on_law = record {
  start = begins_mounting;
  written = λ own list content left disk b check h may small sized. mounting_written own list content left disk h b may check small sized;
  failed = λ own list content left disk now b check h may small between. mounting_failed own list content left disk h b may check small now between;
  synced = mounting_synced;
  mounted = mounted_shows;
  log_stays = log_kept;
  log_synced = log_settled;
  log_reads = log_read;
  elsewhere = λ own list content left disk now h same. mounting_elsewhere own list content left disk h now same;
  recovers = λ own list content left disk at h can whole. recovers_now own list content left disk h at can whole;
  ended = λ own list content left disk at h none still can. stands_ended own list content left disk h none still at can;
}
