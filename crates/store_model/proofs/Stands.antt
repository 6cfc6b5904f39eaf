-- What one list tells is kept by each event.
use Rattle.std.proofs.Common.{◌≡◌, ◌≢◌, ◌⊎◌, inl, inr, ⊎_elim, ℕ, zero, suc, ◌+◌, ◌-◌, ◌<◌, ◌≤◌, Bool, true, false, List, [], ◌∷◌, ◌++◌, length, take, drop, Option, Some, None, refl, sym, ◌∙◌, ap, arith, length-append, take-append-drop}
use Rattle.std.specs.Prelude.{◌||◌, unwrap_or}
use Rattle.std.proofs.lemmas.List.{take_all, drop-drop}
use Rattle.log_model.specs.disk_model.declared.block.Block.{Block}
use Rattle.sector_device.specs.Disks.{Disk, seen, settled}
use Rattle.log_model.specs.declared.entry.Entry.{Entry}
use Rattle.log_model.specs.Logs.{is_ended, first_undo, told, last_said}
use Rattle.log_model.proofs.Telling.{first_undo-append, or_none, none_left, none_both, silent, silent_rest}
use Rattle.store_model.specs.Logs.{AllBytes, commit_by, commits, undone, back, IsClaimed, has_update, ended_with}
use Rattle.store_model.specs.Geometry.{SectorBytes, Geometry, Shows, CanLeave, Puts, AreApart}
use Rattle.store_model.specs.Stores.{Window, member, Tells, Backs, Fits, IsReadyAt, Stands, CoversWhole}
use Rattle.store_model.specs.Events.{after_commit, after_begin, after_give_up, after_sync, reread, Loses}
use Rattle.store_model.proofs.Told.{true≢false, or_left, or_right, or-false, told_unnamed, said_unnamed}
use Rattle.store_model.proofs.Window.{back-zero, back_at}
use Rattle.store_model.proofs.Lost.{has_update-append, has_drop, none_covered, own_update, untouched, loses_at, moved_fit}
use Rattle.store_model.proofs.Change.{commits-drop_all, right_now}
use Rattle.store_model.proofs.Ends.{tells-commit, backs-commit, fits-commit, tells-begin, tells-give_up, tells-sync, backs-sync, fits-sync, CoversEnded}
use Rattle.store_model.proofs.Disks.{leaves_synced, leaves_earlier, decode_earlier, decode_seen, torn_earlier, torn_seen, earlier}

pub stands-begin : (geometry : Geometry) (w : Window) (disk : Disk) (dirty : Block → Bool) (l : List Entry) (d : ℕ) (owed damp : Block → Bool) → Stands geometry w disk dirty l d owed damp
    → w.is_open ≡ false → w.draft ≡ [] → Stands geometry (after_begin w) disk dirty l d owed damp
stands-begin geometry w disk dirty l d owed damp st closed empty = record {
  within = st.within;
  tells = tells-begin geometry w l d st.within st.tells closed empty;
  whole = st.whole;
  holds = st.holds;
  drafts = st.drafts;
  reads = st.reads;
  backs = st.backs;
  fit_reads = st.fit_reads;
  fits = st.fits;
  ready = λ o b i within claimed v e. sym (ap (λ (us : List Entry). undone us w.body b i) empty)
      ∙ right_now geometry w l d st.tells st.within b i v within (unended_claim b claimed) (sym (told_unnamed w.tx l b i (st.tells.unused closed)) ∙ e);
}
  where
    -- a transaction with no entry makes no difference
    unended_claim : (b : Block) → last_said (ended_with w.tx l) l b ≢ Some true → IsClaimed l b
    unended_claim b claimed is = claimed (said_unnamed w.tx l b (st.tells.unused closed) ∙ is)

pub stands-commit : (geometry : Geometry) (w : Window) (disk : Disk) (dirty : Block → Bool) (l : List Entry) (lsn previous d : ℕ) (owed damp : Block → Bool) → Stands geometry w disk dirty l d owed damp
    → ((b : Block) → has_update w.draft b ≡ true → geometry.has_spelling b (w.body b) ≡ true) → w.is_open ≡ true → Stands geometry (after_commit w) disk dirty (l ++ commit_by lsn previous w.tx ∷ []) d owed damp
stands-commit geometry w disk dirty l lsn previous d owed damp st spells opened = record {
  within = omega (arith, st.within, length-append l (commit_by lsn previous w.tx ∷ []));
  tells = tells-commit geometry w l lsn previous d st.within st.tells (st.ready opened) covered;
  whole = λ b i within has e. st.whole b i within (sym (same_has b) ∙ has) (sym (same b i) ∙ e);
  ready = λ o. absurd (true≢false (sym o));
  holds = λ b h paid. same_has b ∙ st.holds b h paid;
  drafts = λ b h. absurd (true≢false (sym h));
  reads = λ b paid. backs-commit geometry w l lsn previous d st.within st.tells (st.ready opened) covered st.whole (seen disk) b (st.reads b paid);
  backs = λ sectors b paid dry left. backs-commit geometry w l lsn previous d st.within st.tells (st.ready opened) covered st.whole sectors b (st.backs sectors b paid dry left);
  fit_reads = λ b paid. fits-commit geometry w l lsn previous d st.within st.tells (st.ready opened) covered spells (seen disk) b (st.fit_reads b paid);
  fits = λ sectors b paid dry left. fits-commit geometry w l lsn previous d st.within st.tells (st.ready opened) covered spells sectors b (st.fits sectors b paid dry left);
}
  where
    covered : CoversEnded geometry l w.tx
    covered b i within is = st.whole b i within (own_update (ended_with w.tx l) l b is)

    same : (b : Block) (i : ℕ) → first_undo (l ++ commit_by lsn previous w.tx ∷ []) b i ≡ first_undo l b i
    same b i = first_undo-append l (commit_by lsn previous w.tx ∷ []) b i ∙ or_none (first_undo l b i)

    same_has : (b : Block) → has_update (l ++ commit_by lsn previous w.tx ∷ []) b ≡ has_update l b
    same_has b = has_update-append l (commit_by lsn previous w.tx ∷ []) b ∙ or-false (has_update l b)

pub stands-give_up : (geometry : Geometry) (w : Window) (disk : Disk) (dirty dirty' : Block → Bool) (l : List Entry) (d : ℕ) (owed damp : Block → Bool) → ((b : Block) → dirty' b ≡ true → (dirty b || has_update w.draft b) ≡ true)
    → Stands geometry w disk dirty l d owed damp → Stands geometry (after_give_up w) disk dirty' l d owed damp
stands-give_up geometry w disk dirty dirty' l d owed damp only st = record {
  within = st.within;
  tells = tells-give_up geometry w l d st.within st.tells;
  whole = st.whole;
  ready = λ o. absurd (true≢false (sym o));
  holds = λ b h paid. holds b (dirty b) refl (only b h) paid;
  drafts = λ b h. absurd (true≢false (sym h));
  reads = st.reads;
  backs = st.backs;
  fit_reads = st.fit_reads;
  fits = st.fits;
}
  where
    holds : (b : Block) (v : Bool) → dirty b ≡ v → (dirty b || has_update w.draft b) ≡ true → owed b ≡ false → has_update l b ≡ true
    holds b true k h paid = st.holds b k paid
    holds b false k h paid = st.drafts b (rw k at h)

-- on sectors that give the block the same bytes
pub fits_like : (geometry : Geometry) (w : Window) (l : List Entry) (d : ℕ) (f g : SectorBytes) (b : Block) → ((i : ℕ) → geometry.decode b g i ≡ geometry.decode b f i) → Fits geometry w l d f b → Fits geometry w l d g b
fits_like geometry w l d f g b same fits p i low high within claimed = ⊎_elim (λ k. inl k) (λ k. inr (same i ∙ k)) (fits p i low high within claimed)

pub stands-sync : (geometry : Geometry) (w : Window) (m : ℕ) (disk : Disk) (dirty : Block → Bool) (l : List Entry) (d d' : ℕ) (owed damp none : Block → Bool) → Stands geometry w disk dirty l d owed damp
    → d ≤ d' → d' ≤ length l → ((p : ℕ) → d' ≤ p → commits (drop p l) ≤ m) → Stands geometry (after_sync w m) (settled disk) dirty l d' owed none
stands-sync geometry w m disk dirty l d d' owed damp none st le high few = record {
  within = high;
  tells = tells-sync geometry w m l d d' le few st.tells;
  whole = st.whole;
  ready = st.ready;
  holds = st.holds;
  drafts = st.drafts;
  reads = λ b paid. backs-sync geometry w m l d d' (seen disk) b le few (st.reads b paid);
  backs = λ sectors b paid dry left p i j low high within inside claimed e.
      let x = backs-sync geometry w m l d d' (seen disk) b le few (st.reads b paid) p i j low high within inside claimed e in (
        geometry.own b sectors (seen disk) i (λ s h. leaves_synced disk sectors left s) ∙ x.0,
        λ torn. x.1 (sym (geometry.own_torn b sectors (seen disk) (λ s h. leaves_synced disk sectors left s)) ∙ torn),
      );
  fit_reads = λ b paid. fits-sync geometry w m l d d' (seen disk) b le few (st.fit_reads b paid);
  fits = λ sectors b paid dry left p i low high within claimed. fits_like geometry (after_sync w m) l d' (seen disk) sectors b (λ i. geometry.own b sectors (seen disk) i (λ s h. leaves_synced disk sectors left s)) (fits-sync geometry w m l d d' (seen disk) b le few (st.fit_reads b paid)) p i low high within claimed;
}

-- where a beginning tells nothing and the rest has no update, the list has none
pub all_silent : (l : List Entry) (d p : ℕ) (b : Block) (i : ℕ) → d ≤ p → told (take p l) b i ≡ None → has_update (drop d l) b ≡ false → first_undo l b i ≡ None
all_silent l d p b i le e rest =
    ap (λ (xs : List Entry). first_undo xs b i) (sym (take-append-drop p l)) ∙ first_undo-append (take p l) (drop p l) b i
    ∙ none_both (first_undo (take p l) b i) (first_undo (drop p l) b i) (silent_rest (is_ended (take p l)) (take p l) b i e)
    (none_covered (drop p l) b i (ap (λ (xs : List Entry). has_update xs b) (sym (drop-drop (p - d) d l ∙ ap (λ (n : ℕ). drop n l) (let k : d + (p - d) ≡ p = omega (arith, le) in k))) ∙ has_drop (p - d) (drop d l) b rest))

-- a block that the durable entries cover whole needs nothing of the disk
pub backs_whole : (geometry : Geometry) (w : Window) (l : List Entry) (d : ℕ) (sectors : SectorBytes) (b : Block) → CoversWhole geometry l → has_update l b ≡ true → has_update (drop d l) b ≡ false
    → Backs geometry w l d sectors b
backs_whole geometry w l d sectors b whole some logged p i j low high within inside claimed e = absurd (whole b j inside some (all_silent l d p b j low e logged))

-- a block whose body stands on the disk, with all its updates durable
pub backs_body : (geometry : Geometry) (w : Window) (l : List Entry) (d : ℕ) (sectors : SectorBytes) (b : Block) → Tells geometry w l d → CoversWhole geometry l → has_update (drop d l) b ≡ false
    → ((i : ℕ) → i < geometry.size b → Shows geometry sectors b i w.body w.is_torn) → Backs geometry w l d sectors b
backs_body geometry w l d sectors b tells whole logged stands p i j low high within inside claimed e =
    let free : has_update l b ≡ false = untouched geometry l b j whole inside (all_silent l d p b j low e logged) in
    ((stands i within).0 ∙ sym (tells.still p b i w.body low high (silent (is_ended l) l b i (none_covered l b i free))), λ torn. tells.even p b low high free ∙ (stands i within).1 torn)

known : (n i : ℕ) → i < n → 0 < n
known n i lt = omega arith

-- a write-out that may have failed, seen from another block
pub backs_apart : (geometry : Geometry) (w : Window) (l : List Entry) (d : ℕ) (b : Block) (new : SectorBytes) (before after : Disk) (c : Block) → Puts geometry b new before after → (0 < geometry.size c → AreApart geometry b c)
    → ((sectors : SectorBytes) → CanLeave before sectors → Backs geometry w l d sectors c) → (sectors : SectorBytes) → CanLeave after sectors → Backs geometry w l d sectors c
backs_apart geometry w l d b new before after c puts far backs sectors left p i j low high within inside claimed e =
    let apart = far (known (geometry.size c) i within) in
    let x = backs (earlier geometry b new before after puts c apart sectors) (leaves_earlier geometry b new before after puts c apart sectors left) p i j low high within inside claimed e in
    (decode_earlier geometry b new before after puts c apart sectors i ∙ x.0, λ torn. x.1 (sym (torn_earlier geometry b new before after puts c apart sectors) ∙ torn))

pub reads_apart : (geometry : Geometry) (w : Window) (l : List Entry) (d : ℕ) (b : Block) (new : SectorBytes) (before after : Disk) (c : Block) → Puts geometry b new before after → (0 < geometry.size c → AreApart geometry b c)
    → Backs geometry w l d (seen before) c → Backs geometry w l d (seen after) c
reads_apart geometry w l d b new before after c puts far backs p i j low high within inside claimed e =
    let apart = far (known (geometry.size c) i within) in
    let x = backs p i j low high within inside claimed e in
    (decode_seen geometry b new before after puts c apart i ∙ x.0, λ torn. x.1 (sym (torn_seen geometry b new before after puts c apart) ∙ torn))

pub fits_apart : (geometry : Geometry) (w : Window) (l : List Entry) (d : ℕ) (b : Block) (new : SectorBytes) (before after : Disk) (c : Block) → Puts geometry b new before after → (0 < geometry.size c → AreApart geometry b c)
    → ((sectors : SectorBytes) → CanLeave before sectors → Fits geometry w l d sectors c) → (sectors : SectorBytes) → CanLeave after sectors → Fits geometry w l d sectors c
fits_apart geometry w l d b new before after c puts far fits sectors left p i low high within claimed =
    let apart = far (known (geometry.size c) i within) in
    fits_like geometry w l d (earlier geometry b new before after puts c apart sectors) sectors c (λ j. decode_earlier geometry b new before after puts c apart sectors j)
    (fits (earlier geometry b new before after puts c apart sectors) (leaves_earlier geometry b new before after puts c apart sectors left)) p i low high within claimed

pub fit_reads_apart : (geometry : Geometry) (w : Window) (l : List Entry) (d : ℕ) (b : Block) (new : SectorBytes) (before after : Disk) (c : Block) → Puts geometry b new before after → (0 < geometry.size c → AreApart geometry b c)
    → Fits geometry w l d (seen before) c → Fits geometry w l d (seen after) c
fit_reads_apart geometry w l d b new before after c puts far fits p i low high within claimed =
    let apart = far (known (geometry.size c) i within) in
    fits_like geometry w l d (seen before) (seen after) c (λ j. decode_seen geometry b new before after puts c apart j) fits p i low high within claimed

-- Some blocks, of which nothing is claimed or nothing is logged, are what a read gives.
module _ (geometry : Geometry) (w : Window) (disk : Disk) (lost : Block → Bool) (l : List Entry) (d : ℕ) (within_ : d ≤ length l) (t : Tells geometry w l d)
    (loses : (x : Block) → lost x ≡ true → Loses l d x ⊎ (has_update l x ≡ false)) where
  abbrev w' : Window
  w' = reread geometry disk lost w

  member_other : (k : ℕ) (x : Block) (i : ℕ) → lost x ≡ false → member w' k x i ≡ member w k x i
  member_other k x i h = back_at w.waiting k (undone w.draft w'.body) (undone w.draft w.body) x i (ap (unwrap_or (first_undo w.draft x i)) (rw h refl))

  none_some : (v : ℕ) → ◌≡◌ {A = Option ℕ} None (Some v) → ⊥
  none_some v e = cc

  pub tells-reread : Tells geometry (reread geometry disk lost w) l d
  tells-reread = record {
    right = λ p b i v low high within claimed e. right (lost b) refl p i v low high within claimed e;
    even = λ p b low high free. even (lost b) refl p low high free;
    quiet = t.quiet;
    still = t.still;
    ended = t.ended;
    unended = t.unended;
    mine = t.mine;
    unused = t.unused;
    fresh = t.fresh;
  }
    where
      even : {b : Block} (x : Bool) → lost b ≡ x → (p : ℕ) → d ≤ p → p ≤ length l → has_update l b ≡ false → w'.was_torn (commits (drop p l)) b ≡ w'.is_torn b
      even {b} true h p low high free = rw h refl
      even {b} false h p low high free = rw h (t.even p b low high free)

      right : {b : Block} (x : Bool) → lost b ≡ x → (p i v : ℕ) → d ≤ p → p ≤ length l → i < geometry.size b → IsClaimed (take p l) b → told (take p l) b i ≡ Some v → member w' (commits (drop p l)) b i ≡ v
      right {b} false h p i v low high within claimed e = member_other (commits (drop p l)) b i h ∙ t.right p b i v low high within claimed e
      right {b} true h p i v low high within claimed e = go (loses b h)
        where
          go : Loses l d b ⊎ (has_update l b ≡ false) → member w' (commits (drop p l)) b i ≡ v
          go (inl lose) = absurd (claimed (loses_at l d b lose p (is_ended (take p l)) low))
          go (inr free) = absurd (none_some v (sym (silent (is_ended (take p l)) (take p l) b i (front_silent p b i (none_covered l b i free))) ∙ e))
            where
              front_silent : (p : ℕ) (b : Block) (i : ℕ) → first_undo l b i ≡ None → first_undo (take p l) b i ≡ None
              front_silent p b i e = none_left (first_undo (take p l) b i) (first_undo (drop p l) b i) (sym (first_undo-append (take p l) (drop p l) b i) ∙ ap (λ (xs : List Entry). first_undo xs b i) (take-append-drop p l) ∙ e)

  pub ready-reread : (b : Block) (i : ℕ) → last_said (ended_with w.tx l) l b ≢ Some true → IsReadyAt w l b i → IsReadyAt (reread geometry disk lost w) l b i
  ready-reread b i claimed ready v e = go (lost b) refl
    where
      gone : Loses l d b ⊎ (has_update l b ≡ false) → w'.body b i ≡ v
      gone (inl lose) = absurd (claimed (ap (λ (xs : List Entry). last_said (ended_with w.tx l) xs b) (sym (take_all (length l) l (omega arith))) ∙ loses_at l d b lose (length l) (ended_with w.tx l) within_))
      gone (inr free) = absurd (none_some v (sym (silent (ended_with w.tx l) l b i (none_covered l b i free)) ∙ e))

      go : (x : Bool) → lost b ≡ x → w'.body b i ≡ v
      go false h = rw h (ready v e)
      go true h = gone (loses b h)

  pub backs-kept : (sectors : SectorBytes) (b : Block) → lost b ≡ false → Backs geometry w l d sectors b → Backs geometry (reread geometry disk lost w) l d sectors b
  backs-kept sectors b h backs p i j low high within inside claimed e = let x = backs p i j low high within inside claimed e in
      (x.0 ∙ sym (member_other (commits (drop p l)) b i h), λ torn. rw h (x.1 torn))

  -- on sectors that are, for this block, what a read gives
  pub backs-reread : (sectors : SectorBytes) (b : Block) → lost b ≡ true → ((s : ℕ) → geometry.has b s ≡ true → sectors s ≡ seen disk s) → Backs geometry (reread geometry disk lost w) l d sectors b
  backs-reread sectors b h as_seen p i j low high within inside claimed e = go (loses b h)
    where
      go : Loses l d b ⊎ (has_update l b ≡ false) → Shows geometry sectors b i (member w' (commits (drop p l))) (w'.was_torn (commits (drop p l)))
      go (inl lose) = absurd (claimed (loses_at l d b lose p (is_ended (take p l)) low))
      go (inr free) = (geometry.own b sectors (seen disk) i as_seen ∙ body ∙ sym (t.still p b i w'.body low high (silent (is_ended l) l b i (none_covered l b i free))), λ torn. rw h (sym (geometry.own_torn b sectors (seen disk) as_seen) ∙ torn))
        where
          body : geometry.decode b (seen disk) i ≡ w'.body b i
          body = rw h refl

  pub fits-kept : (sectors : SectorBytes) (b : Block) → lost b ≡ false → Fits geometry w l d sectors b → Fits geometry (reread geometry disk lost w) l d sectors b
  fits-kept sectors b h fits p i low high within claimed =
      moved_fit geometry b i (geometry.decode b sectors i) (member w (commits (drop p l)) b) (member w' (commits (drop p l)) b) (λ j. member_other (commits (drop p l)) b j h) (fits p i low high within claimed)

  pub fits-reread : (sectors : SectorBytes) (b : Block) → lost b ≡ true → ((s : ℕ) → geometry.has b s ≡ true → sectors s ≡ seen disk s) → Fits geometry (reread geometry disk lost w) l d sectors b
  fits-reread sectors b h as_seen p i low high within claimed = go (loses b h)
    where
      go : Loses l d b ⊎ (has_update l b ≡ false) → (geometry.has_spelling b (member w' (commits (drop p l)) b) ≡ true) ⊎ (geometry.decode b sectors i ≡ member w' (commits (drop p l)) b i)
      go (inl lose) = absurd (claimed (loses_at l d b lose p (is_ended (take p l)) low))
      go (inr free) = inr (geometry.own b sectors (seen disk) i as_seen ∙ body ∙ sym (t.still p b i w'.body low high (silent (is_ended l) l b i (none_covered l b i free))))
        where
          body : geometry.decode b (seen disk) i ≡ w'.body b i
          body = rw h refl

  pub fits-unclaimed : (sectors : SectorBytes) (b : Block) → Loses l d b → Fits geometry (reread geometry disk lost w) l d sectors b
  fits-unclaimed sectors b lose p i low high within claimed = absurd (claimed (loses_at l d b lose p (is_ended (take p l)) low))

  pub backs-unclaimed : (sectors : SectorBytes) (b : Block) → Loses l d b → Backs geometry (reread geometry disk lost w) l d sectors b
  backs-unclaimed sectors b lose p i j low high within inside claimed e = absurd (claimed (loses_at l d b lose p (is_ended (take p l)) low))

-- where nothing is logged, all that is neither dirty nor dead stands on the disk
pub stands-nothing : (geometry : Geometry) (w : Window) (disk : Disk) (dirty dead wet : Block → Bool) (d : ℕ) → d ≤ 0 → w.is_open ≡ false → w.draft ≡ [] → ((b : Block) → w.was_torn 0 b ≡ w.is_torn b)
    → ((b : Block) (i : ℕ) → dirty b ≡ false → dead b ≡ false → i < geometry.size b → Shows geometry (seen disk) b i w.body w.is_torn)
    → ((sectors : SectorBytes) (b : Block) (i : ℕ) → dirty b ≡ false → dead b ≡ false → wet b ≡ false → CanLeave disk sectors → i < geometry.size b → Shows geometry sectors b i w.body w.is_torn)
    → Stands geometry w disk dirty [] d (λ b. dirty b || dead b) wet
stands-nothing geometry w disk dirty dead wet d le closed empty even clean dry = record {
  within = le;
  tells = record {
    right = λ p b i v low high within claimed e. absurd (nothing p b i v e);
    quiet = λ b i e. ap (λ (us : List Entry). first_undo us b i) empty;
    still = λ p b i c low high e. now c p b i;
    even = λ p b low high free. torn_now p b;
    ended = λ p b i low high within e. absurd (verdictless p b e);
    unended = refl;
    mine = λ b h. refl;
    unused = λ c. refl;
    fresh = λ u lt. refl;
  };
  ready = λ opened. absurd (true≢false (sym opened ∙ closed));
  whole = λ b i within has. absurd (true≢false (sym has));
  holds = λ b h paid. absurd (true≢false (sym h ∙ or_left (dirty b) (dead b) paid));
  drafts = λ b h. absurd (true≢false (sym h ∙ ap (λ (us : List Entry). has_update us b) empty));
  reads = λ b paid p i j low high within inside claimed e. shown p b i (seen disk) (clean b i (or_left (dirty b) (dead b) paid) (or_right (dirty b) (dead b) paid) within);
  fit_reads = λ b paid p i low high within claimed. inr (shown p b i (seen disk) (clean b i (or_left (dirty b) (dead b) paid) (or_right (dirty b) (dead b) paid) within)).0;
  fits = λ sectors b paid dried left p i low high within claimed. inr (shown p b i sectors (dry sectors b i (or_left (dirty b) (dead b) paid) (or_right (dirty b) (dead b) paid) dried left within)).0;
  backs = λ sectors b paid dried left p i j low high within inside claimed e. shown p b i sectors (dry sectors b i (or_left (dirty b) (dead b) paid) (or_right (dirty b) (dead b) paid) dried left within);
}
  where
    nothing : (p : ℕ) (b : Block) (i v : ℕ) → told (take p []) b i ≡ Some v → ⊥
    nothing zero b i v e = cc
    nothing (suc p) b i v e = cc

    now : (c : AllBytes) (p : ℕ) (b : Block) (i : ℕ) → back w.waiting (commits (drop p [])) (undone w.draft c) b i ≡ c b i
    now c p b i = ap (λ (n : ℕ). back w.waiting n (undone w.draft c) b i) (commits-drop_all [] p (omega arith)) ∙ ap (λ (x : AllBytes). x b i) (back-zero w.waiting (undone w.draft c)) ∙ ap (λ (us : List Entry). undone us c b i) empty

    torn_now : (p : ℕ) (b : Block) → w.was_torn (commits (drop p [])) b ≡ w.is_torn b
    torn_now p b = ap (λ (n : ℕ). w.was_torn n b) (commits-drop_all [] p (omega arith)) ∙ even b

    shown : (p : ℕ) (b : Block) (i : ℕ) (sectors : SectorBytes) → Shows geometry sectors b i w.body w.is_torn → Shows geometry sectors b i (member w (commits (drop p []))) (w.was_torn (commits (drop p [])))
    shown p b i sectors x = (x.0 ∙ sym (now w.body p b i), λ torn. torn_now p b ∙ x.1 torn)

    verdictless : (p : ℕ) (b : Block) → last_said (is_ended (take p [])) (take p []) b ≡ Some false → ⊥
    verdictless zero b e = cc
    verdictless (suc p) b e = cc
