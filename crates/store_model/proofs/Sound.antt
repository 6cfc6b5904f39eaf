-- Each event keeps the facts of a store.
use Rattle.std.proofs.Common.{◌≡◌, ◌≢◌, ◌⊎◌, inl, inr, ⊎_elim, ℕ, zero, suc, ◌+◌, ◌-◌, ◌<◌, ◌≤◌, max, Bool, true, false, List, [], ◌∷◌, ◌++◌, length, drop, Option, refl, sym, ◌∙◌, ap, subst, arith, length-append, length-drop, length-take}
use Rattle.std.specs.Prelude.{if◌then◌else◌, ◌&&◌, ◌||◌, not, Contains, unwrap_or}
use Rattle.std.proofs.lemmas.List.{drop_all, drop-append-le, drop-drop}
use mathlib.Core.Path.{fun_ext}
use Rattle.log_model.specs.disk_model.declared.block.Block.{Block}
use Rattle.log_model.specs.disk_model.Sectors.{same_block, are_rivals}
use Rattle.fixup_record.proofs.disk_model.Frames.{same_block-is}
use Rattle.sector_device.specs.Disks.{Disk, seen, settled}
use Rattle.log_model.specs.declared.entry.Entry.{Entry}
use Rattle.log_model.specs.Logs.{first_undo}
use Rattle.store_model.specs.Logs.{AreUpdates, AllBytes, commit_by, commits, undone, back, has_update}
use Rattle.store_model.specs.Geometry.{SectorBytes, Geometry, Shows, CanLeave, Puts, PutsAll, AreApart}
use Rattle.store_model.specs.Stores.{Window, member, Backs, Fits, Stands, Shades, Store, IsStored, IsSound, none, is_held}
use Rattle.store_model.specs.Events.{after_change, after_changes, after_commit, after_begin, after_sync, given_up, reread, Spells, Loses, MayChange, MayWriteOut, put_in_part, written_out, MayBury, buried, changed_store, synced_store, freed, checkpoint_begun, MayRename, StandsAs, Step}
use Rattle.store_model.specs.Events.Step.{begin, change, commit, give_up, write_page, write_page_fails, sync, sync_frees, write_out, write_out_fails, write_again, begin_checkpoint, write_restart, write_restart_fails}
use Rattle.store_model.proofs.Told.{true≢false, commits-append, or_left, or_right, or-false, same_self, rivals_both, rivals_other, rival_apart, no_commit, all_append, all_drop}
use Rattle.store_model.proofs.Lost.{has_update-append, has_front, has_back, has_drop, none_covered, has_none, or_second, updates_some, updates_only, loses_behind, loses_rest, loses_all}
use Rattle.store_model.proofs.Shaded.{shades-fewer, shades-give_up, shades-commit, shades-nothing, shades-change, lone-change, known-change, still-change, owing-change}
use Rattle.store_model.proofs.Stands.{stands-begin, stands-commit, stands-give_up, stands-sync, stands-nothing, backs_whole, backs_body, backs_apart, reads_apart, fits_apart, fit_reads_apart, fits-kept, fits-reread, fits-unclaimed, tells-reread, ready-reread, backs-kept, backs-reread, backs-unclaimed}
use Rattle.store_model.proofs.Ends.{commits-drop_le, commits-drop_commit}
use Rattle.store_model.proofs.Pieces.{are_updates, stored_updates, stands-changes, body_elsewhere, draft_changes, changes_same}
use Rattle.store_model.proofs.Disks.{leaves_seen, leaves_synced, puts_all, leaves_earlier, decode_earlier, decode_seen, torn_earlier, torn_seen, earlier}

not_false : (x y : Bool) → x ≡ false → (not x && y) ≡ y
not_false x y h = rw h refl

and_false : (x y : Bool) → y ≡ false → (x && y) ≡ false
and_false true y h = h
and_false false y h = refl

or_none : (x y : Bool) → x ≡ false → y ≡ false → (x || y) ≡ false
or_none x y h k = rw h k

-- of two parts, the first of which isn't
kept_true : (x y : Bool) → (not x && y) ≡ true → (x ≡ false) × (y ≡ true)
kept_true true y h = absurd (true≢false (sym h))
kept_true false y h = (refl, h)

-- What may be written out is the same in each member: no crash asks for an older body of it.
members_same : (ws : List (List Entry)) (k : ℕ) (c : AllBytes) (b : Block) (i : ℕ) → ((us : List Entry) → Contains ws us → has_update us b ≡ false) → back ws k c b i ≡ c b i
members_same [] k c b i free = refl
members_same (w ∷ ws) zero c b i free = refl
members_same (w ∷ ws) (suc k) c b i free =
    members_same ws k (undone w c) b i (λ us m. free us (suc m.0, omega (arith, m.1), m.2))
    ∙ ap (λ (o : Option ℕ). unwrap_or o (c b i)) (none_covered w b i (free w (0, omega arith, refl)))

pub written_member : (s : Store) (b : Block) → MayWriteOut s b → (k i : ℕ) → member s.window k b i ≡ s.window.body b i
written_member s b may k i = members_same s.window.waiting k (undone s.window.draft s.window.body) b i may.settled
    ∙ ap (λ (o : Option ℕ). unwrap_or o (s.window.body b i)) (none_covered s.window.draft b i may.free)

-- how a block lies to one that is written
data Lies (geometry : Geometry) (b x : Block) : Type 0 where
  itself : same_block x b ≡ true → are_rivals b x ≡ false → Lies geometry b x
  spoiled : same_block x b ≡ false → are_rivals b x ≡ true → Lies geometry b x
  away : same_block x b ≡ false → are_rivals b x ≡ false → (0 < geometry.size x → AreApart geometry b x) → Lies geometry b x

lies : (geometry : Geometry) (b x : Block) → 0 < geometry.size b → Lies geometry b x
lies geometry b x known = go (same_block x b) refl (are_rivals b x) refl
  where
    go : (v : Bool) → same_block x b ≡ v → (r : Bool) → are_rivals b x ≡ r → Lies geometry b x
    go true h r k = let e : x ≡ b = same_block-is x b h in itself h (subst (λ (n : Block). are_rivals b n ≡ false) (sym e) (rivals_other b))
    go false h true k = spoiled h k
    go false h false k = away h k (λ some. geometry.off b x known some k h)

module _ (geometry : Geometry) (s : Store) (b : Block) (new : SectorBytes) (disk : Disk) (may : MayWriteOut s b) (sound : IsSound geometry s) (puts : Puts geometry b new s.disk disk) where
  abbrev w' : Window
  w' = reread geometry disk (are_rivals b) s.window

  held_b : is_held s b ≡ true
  held_b = rw may.dirty refl

  known_b : 0 < geometry.size b
  known_b = sound.known b held_b

  lone : (x : Block) → are_rivals b x ≡ true → s.dirty x ≡ false
  lone x rival = or_left (s.dirty x) (has_update s.window.draft x) (sound.lone b x rival held_b)

  own_true : same_block b b ≡ true
  own_true = same_self b

  -- the list of a checkpoint has no later updates of it either
  logged_from : has_update (drop (s.synced - s.place) (drop s.place s.log)) b ≡ false
  logged_from = ap (λ (xs : List Entry). has_update xs b) (drop-drop (s.synced - s.place) s.place s.log ∙ ap (λ (n : ℕ). drop n s.log) (let e : s.place + (s.synced - s.place) ≡ s.synced + (s.place - s.synced) = omega arith in e)
      ∙ sym (drop-drop (s.place - s.synced) s.synced s.log)) ∙ has_drop (s.place - s.synced) (drop s.synced s.log) b may.logged

  -- of its rivals nothing is claimed
  lost : (x : Block) → are_rivals b x ≡ true → Loses s.log s.synced x
  lost x rival = ⊎_elim (λ k. loses_behind s.log s.synced b x k may.logged (rivals_both x b ∙ rival)) (λ k. absurd (true≢false (sym k.0))) (sound.shades.of_dirty b x rival may.dirty)

  lost_next : s.begun ≡ true → (x : Block) → are_rivals b x ≡ true → Loses (drop s.place s.log) (s.synced - s.place) x ⊎ ((s.owed b ≡ true) × (has_update (drop s.place s.log) x ≡ false))
  lost_next begun x rival = ⊎_elim (λ k. inl (loses_behind (drop s.place s.log) (s.synced - s.place) b x k logged_from (rivals_both x b ∙ rival))) (λ k. inr k) ((sound.shades_next begun).of_dirty b x rival may.dirty)

  -- a write-out of a block keeps the facts of one list, whether it succeeds or fails
  stands-put : (l : List Entry) (d : ℕ) (owed damp dirty' : Block → Bool) → has_update (drop d l) b ≡ false
      → ((c : Block) → same_block c b ≡ false → dirty' c ≡ true → s.dirty c ≡ true)
      → (owed' damp' : Block → Bool) → ((c : Block) → same_block c b ≡ false → are_rivals b c ≡ false → (owed' c ≡ false → owed c ≡ false) × (damp' c ≡ false → damp c ≡ false))
      → ((x : Block) → are_rivals b x ≡ true → Loses l d x ⊎ ((damp' x ≡ true) × (has_update l x ≡ false)))
      -- of the block itself
      → (dirty' b ≡ true → owed' b ≡ false → owed b ≡ false)
      → (owed' b ≡ false → Backs geometry s.window l d (seen disk) b)
      → (owed' b ≡ false → damp' b ≡ false → owed b ≡ false)
      → Stands geometry s.window s.disk s.dirty l d owed damp → Stands geometry (reread geometry disk (are_rivals b) s.window) disk dirty' l d owed' damp'
  stands-put l d owed damp dirty' logged dirties owed' damp' exempt loses own_holds own_reads own_backs st = record {
    within = st.within;
    whole = st.whole;
    drafts = st.drafts;
    tells = tells-reread geometry s.window disk (are_rivals b) l d st.within st.tells gone;
    ready = λ o c i within claimed. ready-reread geometry s.window disk (are_rivals b) l d st.within st.tells gone c i claimed (st.ready o c i within claimed);
    holds = λ c. holds (lies geometry b c known_b);
    reads = λ c. reads (lies geometry b c known_b);
    backs = λ sectors c. backs (lies geometry b c known_b) sectors;
    fit_reads = λ c. fit_reads (lies geometry b c known_b);
    fits = λ sectors c. fits (lies geometry b c known_b) sectors;
  }
    where
      gone : (x : Block) → are_rivals b x ≡ true → Loses l d x ⊎ (has_update l x ≡ false)
      gone x h = ⊎_elim (λ lose. inl lose) (λ still. inr still.1) (loses x h)

      kept : (sectors : SectorBytes) (c : Block) → are_rivals b c ≡ false → Backs geometry s.window l d sectors c → Backs geometry w' l d sectors c
      kept = backs-kept geometry s.window disk (are_rivals b) l d st.within st.tells gone

      kept_fits : (sectors : SectorBytes) (c : Block) → are_rivals b c ≡ false → Fits geometry s.window l d sectors c → Fits geometry w' l d sectors c
      kept_fits = fits-kept geometry s.window disk (are_rivals b) l d st.within st.tells gone

      -- the block itself is the same in each member, and can be spelled
      fit_b : (sectors : SectorBytes) → Fits geometry s.window l d sectors b
      fit_b sectors p i low high within claimed = inl (ap (geometry.has_spelling b) (fun_ext (λ j. written_member s b may (commits (drop p l)) j)) ∙ sound.spelled b (rw may.dirty refl))

      fit_reads : {c : Block} → Lies geometry b c → owed' c ≡ false → Fits geometry w' l d (seen disk) c
      fit_reads {c} (itself is sp) paid = let e : c ≡ b = same_block-is c b is in kept_fits (seen disk) c sp (subst (λ (n : Block). Fits geometry s.window l d (seen disk) n) (sym e) (fit_b (seen disk)))
      fit_reads {c} (spoiled is sp) paid = fits-reread geometry s.window disk (are_rivals b) l d st.within st.tells gone (seen disk) c sp (λ n h. refl)
      fit_reads {c} (away is sp apart) paid = kept_fits (seen disk) c sp (fit_reads_apart geometry s.window l d b new s.disk disk c puts apart (st.fit_reads c ((exempt c is sp).0 paid)))

      fits : {c : Block} → Lies geometry b c → (sectors : SectorBytes) → owed' c ≡ false → damp' c ≡ false → CanLeave disk sectors → Fits geometry w' l d sectors c
      fits {c} (itself is sp) sectors paid dry left = let e : c ≡ b = same_block-is c b is in kept_fits sectors c sp (subst (λ (n : Block). Fits geometry s.window l d sectors n) (sym e) (fit_b sectors))
      fits {c} (spoiled is sp) sectors paid dry left = go (loses c sp)
        where
          go : Loses l d c ⊎ ((damp' c ≡ true) × (has_update l c ≡ false)) → Fits geometry w' l d sectors c
          go (inl lose) = fits-unclaimed geometry s.window disk (are_rivals b) l d st.within st.tells gone sectors c lose
          go (inr still) = absurd (true≢false (sym still.0 ∙ dry))
      fits {c} (away is sp apart) sectors paid dry left = kept_fits sectors c sp (fits_apart geometry s.window l d b new s.disk disk c puts apart
          (λ older. st.fits older c ((exempt c is sp).0 paid) ((exempt c is sp).1 dry)) sectors left)

      holds : {c : Block} → Lies geometry b c → dirty' c ≡ true → owed' c ≡ false → has_update l c ≡ true
      holds {c} (itself is sp) h paid = let e : c ≡ b = same_block-is c b is in subst (λ (n : Block). has_update l n ≡ true) (sym e) (st.holds b may.dirty (own_holds (sym (ap dirty' e) ∙ h) (sym (ap owed' e) ∙ paid)))
      holds {c} (spoiled is sp) h paid = absurd (true≢false (sym (dirties c is h) ∙ lone c sp))
      holds {c} (away is sp apart) h paid = st.holds c (dirties c is h) ((exempt c is sp).0 paid)

      reads : {c : Block} → Lies geometry b c → owed' c ≡ false → Backs geometry w' l d (seen disk) c
      reads {c} (itself is sp) paid = let e : c ≡ b = same_block-is c b is in kept (seen disk) c sp (subst (λ (n : Block). Backs geometry s.window l d (seen disk) n) (sym e) (own_reads (sym (ap owed' e) ∙ paid)))
      reads {c} (spoiled is sp) paid = backs-reread geometry s.window disk (are_rivals b) l d st.within st.tells gone (seen disk) c sp (λ n h. refl)
      reads {c} (away is sp apart) paid = kept (seen disk) c sp (reads_apart geometry s.window l d b new s.disk disk c puts apart (st.reads c ((exempt c is sp).0 paid)))

      backs : {c : Block} → Lies geometry b c → (sectors : SectorBytes) → owed' c ≡ false → damp' c ≡ false → CanLeave disk sectors → Backs geometry w' l d sectors c
      backs {c} (itself is sp) sectors paid dry left = let e : c ≡ b = same_block-is c b is in kept sectors c sp (subst (λ (n : Block). Backs geometry s.window l d sectors n) (sym e)
          (backs_whole geometry s.window l d sectors b st.whole (st.holds b may.dirty (own_backs (sym (ap owed' e) ∙ paid) (sym (ap damp' e) ∙ dry))) logged))
      backs {c} (spoiled is sp) sectors paid dry left = go (loses c sp)
        where
          go : Loses l d c ⊎ ((damp' c ≡ true) × (has_update l c ≡ false)) → Backs geometry w' l d sectors c
          go (inl lose) = backs-unclaimed geometry s.window disk (are_rivals b) l d st.within st.tells gone sectors c lose
          go (inr still) = absurd (true≢false (sym still.0 ∙ dry))
      backs {c} (away is sp apart) sectors paid dry left = kept sectors c sp (backs_apart geometry s.window l d b new s.disk disk c puts apart
          (λ older. st.backs older c ((exempt c is sp).0 paid) ((exempt c is sp).1 dry)) sectors left)

  -- what stands on the disk after it
  shown : (sectors : SectorBytes) (c : Block) (i : ℕ) → are_rivals b c ≡ false → Shows geometry sectors c i s.window.body s.window.is_torn → Shows geometry sectors c i w'.body w'.is_torn
  shown sectors c i h x = (x.0 ∙ (rw h refl), λ torn. rw h (x.1 torn))

  clean_after : (c : Block) (i : ℕ) → same_block c b ≡ false → s.dirty c ≡ false → (are_rivals b c ≡ false → s.dead c ≡ false) → i < geometry.size c → Shows geometry (seen disk) c i w'.body w'.is_torn
  clean_after c i is clean dead within = go (lies geometry b c known_b)
    where
      go : Lies geometry b c → Shows geometry (seen disk) c i w'.body w'.is_torn
      go (itself h sp) = absurd (true≢false (sym h ∙ is))
      go (spoiled h sp) = (rw sp refl, λ torn. rw sp torn)
      go (away h sp far) = let apart = far (omega (arith, within)) in let x = sound.clean c i clean (dead sp) within in
          shown (seen disk) c i sp (decode_seen geometry b new s.disk disk puts c apart i ∙ x.0, λ torn. x.1 (sym (torn_seen geometry b new s.disk disk puts c apart) ∙ torn))

  dry_after : (sectors : SectorBytes) (c : Block) (i : ℕ) → same_block c b ≡ false → are_rivals b c ≡ false → s.dirty c ≡ false → s.dead c ≡ false → s.wet c ≡ false → CanLeave disk sectors → i < geometry.size c → Shows geometry sectors c i w'.body w'.is_torn
  dry_after sectors c i is sp clean dead dry left within = go (lies geometry b c known_b)
    where
      go : Lies geometry b c → Shows geometry sectors c i w'.body w'.is_torn
      go (itself h k) = absurd (true≢false (sym h ∙ is))
      go (spoiled h k) = absurd (true≢false (sym k ∙ sp))
      go (away h k far) = let apart = far (omega (arith, within)) in
          let x = sound.dry (earlier geometry b new s.disk disk puts c apart sectors) c i clean dead dry (leaves_earlier geometry b new s.disk disk puts c apart sectors left) within in
          shown sectors c i sp (decode_earlier geometry b new s.disk disk puts c apart sectors i ∙ x.0, λ torn. x.1 (sym (torn_earlier geometry b new s.disk disk puts c apart sectors) ∙ torn))

  -- what the open transaction changed is another block, and no rival
  drafted_far : (c : Block) (i : ℕ) → has_update s.window.draft c ≡ true → i < geometry.size c → (are_rivals b c ≡ false) × AreApart geometry b c
  drafted_far c i h within = go (lies geometry b c known_b)
    where
      go : Lies geometry b c → (are_rivals b c ≡ false) × AreApart geometry b c
      go (itself is sp) = let e : c ≡ b = same_block-is c b is in absurd (true≢false (sym h ∙ ap (λ (n : Block). has_update s.window.draft n) e ∙ may.free))
      go (spoiled is sp) = absurd (true≢false (sym (or_second (s.dirty c) (has_update s.window.draft c) h) ∙ sound.lone b c sp held_b))
      go (away is sp far) = (sp, far (omega (arith, within)))

  undone_shown : (sectors : SectorBytes) (c : Block) (i : ℕ) → are_rivals b c ≡ false → Shows geometry sectors c i (undone s.window.draft s.window.body) (s.window.was_torn 0) → Shows geometry sectors c i (undone s.window.draft w'.body) (w'.was_torn 0)
  undone_shown sectors c i h x = (x.0 ∙ ap (unwrap_or (first_undo s.window.draft c i)) (let k : s.window.body c i ≡ w'.body c i = rw h refl in k), λ torn. rw h (x.1 torn))

  before_after : (c : Block) (i : ℕ) → has_update s.window.draft c ≡ true → s.stale c ≡ false → i < geometry.size c → Shows geometry (seen disk) c i (undone s.window.draft w'.body) (w'.was_torn 0)
  before_after c i h old within = let far = drafted_far c i h within in let x = sound.before c i h old within in
      undone_shown (seen disk) c i far.0 (decode_seen geometry b new s.disk disk puts c far.1 i ∙ x.0, λ torn. x.1 (sym (torn_seen geometry b new s.disk disk puts c far.1) ∙ torn))

  before_dry_after : (sectors : SectorBytes) (c : Block) (i : ℕ) → has_update s.window.draft c ≡ true → s.stale c ≡ false → s.wet c ≡ false → CanLeave disk sectors → i < geometry.size c → Shows geometry sectors c i (undone s.window.draft w'.body) (w'.was_torn 0)
  before_dry_after sectors c i h old dry left within = let far = drafted_far c i h within in
      let x = sound.before_dry (earlier geometry b new s.disk disk puts c far.1 sectors) c i h old dry (leaves_earlier geometry b new s.disk disk puts c far.1 sectors left) within in
      undone_shown sectors c i far.0 (decode_earlier geometry b new s.disk disk puts c far.1 sectors i ∙ x.0, λ torn. x.1 (sym (torn_earlier geometry b new s.disk disk puts c far.1 sectors) ∙ torn))

  held_far : (c : Block) → is_held s c ≡ true → are_rivals b c ≡ false
  held_far c h = go (are_rivals b c) refl
    where
      go : (v : Bool) → are_rivals b c ≡ v → are_rivals b c ≡ false
      go true k = absurd (true≢false (sym h ∙ sound.lone b c k held_b))
      go false k = k

  new_other : (c : Block) (i : ℕ) → are_rivals b c ≡ false → w'.body c i ≡ s.window.body c i
  new_other c i h = rw h refl

  spelled_after : (c : Block) → (is_held s c || (not (are_rivals b c) && s.dead c)) ≡ true → geometry.has_spelling c (w'.body c) ≡ true
  spelled_after c h = go (is_held s c) refl
    where
      same : are_rivals b c ≡ false → (is_held s c || s.dead c) ≡ true → geometry.has_spelling c (w'.body c) ≡ true
      same far k = ap (geometry.has_spelling c) (fun_ext (λ i. new_other c i far)) ∙ sound.spelled c k

      go : (v : Bool) → is_held s c ≡ v → geometry.has_spelling c (w'.body c) ≡ true
      go true k = same (held_far c k) (rw k refl)
      go false k = let p = kept_true (are_rivals b c) (s.dead c) (rw k at h) in same p.0 (or_second (is_held s c) (s.dead c) p.1)

  spelled_before_after : (c : Block) → has_update s.window.draft c ≡ true → s.stale c ≡ true → geometry.has_spelling c (undone s.window.draft w'.body c) ≡ true
  spelled_before_after c h old = let far : are_rivals b c ≡ false = held_far c (or_second (s.dirty c) (has_update s.window.draft c) h) in
      ap (geometry.has_spelling c) (fun_ext (λ i. ap (unwrap_or (first_undo s.window.draft c i)) (new_other c i far))) ∙ sound.spelled_before c h old

  even_after : (c : Block) → has_update s.window.draft c ≡ false → w'.was_torn 0 c ≡ w'.is_torn c
  even_after c h = go (are_rivals b c) refl
    where
      go : (v : Bool) → are_rivals b c ≡ v → w'.was_torn 0 c ≡ w'.is_torn c
      go true k = rw k refl
      go false k = rw k (sound.even c h)

  -- a dead block isn't the written one
  dead_other : (x : Block) → s.dead x ≡ true → same_block x b ≡ false
  dead_other x h = go (same_block x b) refl
    where
      go : (v : Bool) → same_block x b ≡ v → same_block x b ≡ false
      go true k = let e : x ≡ b = same_block-is x b k in absurd (true≢false (sym held_b ∙ sym (ap (is_held s) e) ∙ sound.still x h))
      go false k = k

  -- a dirty one is no rival
  dirty_other : (x : Block) → s.dirty x ≡ true → are_rivals b x ≡ false
  dirty_other x h = go (are_rivals b x) refl
    where
      go : (v : Bool) → are_rivals b x ≡ v → are_rivals b x ≡ false
      go true k = absurd (true≢false (sym h ∙ lone x k))
      go false k = k

  pub sound-put : IsSound geometry (put_in_part geometry s b disk)
  sound-put = record {
    oldest = stands-put s.log s.synced none none s.dirty may.logged (λ c is h. h) none none (λ c is sp. (λ e. e, λ e. e)) (λ x sp. inl (lost x sp)) (λ h e. e)
        (λ e. backs_whole geometry s.window s.log s.synced (seen disk) b sound.oldest.whole (sound.oldest.holds b may.dirty e) may.logged) (λ e f. e) sound.oldest;
    next = λ begun. let st = sound.next begun in
        stands-put (drop s.place s.log) (s.synced - s.place) s.owed s.due s.dirty logged_from (λ c is h. h) (put_in_part geometry s b disk).owed (put_in_part geometry s b disk).due
        (λ c is sp. (λ e. sym (not_false (are_rivals b c) (s.owed c) sp) ∙ e, λ e. (rw sp at e)))
        (λ x sp. ⊎_elim (λ lose. inl lose) (λ still. inr (damp_true x sp still.0, still.1)) (lost_next begun x sp))
        (λ h e. own_owed e)
        (λ e. backs_whole geometry s.window (drop s.place s.log) (s.synced - s.place) (seen disk) b st.whole (st.holds b may.dirty (own_owed e)) logged_from)
        (λ e f. own_owed e) st;
    shades = shades-fewer geometry s.window.draft s.dirty s.dead none s.dirty (put_in_part geometry s b disk).dead none s.log sound.shades (λ c h. (h, λ o. o)) (λ x h. ((kept_true (are_rivals b x) (s.dead x) h).1, λ o. o));
    shades_next = λ begun. shades-fewer geometry s.window.draft s.dirty s.dead s.owed s.dirty (put_in_part geometry s b disk).dead (put_in_part geometry s b disk).owed (drop s.place s.log) (sound.shades_next begun)
        (λ c h. (h, λ o. not_false (are_rivals b c) (s.owed c) (dirty_other c h) ∙ o)) (λ x h. let k = kept_true (are_rivals b x) (s.dead x) h in (k.1, λ o. not_false (are_rivals b x) (s.owed x) k.0 ∙ o));
    lone = sound.lone;
    known = sound.known;
    still = λ x h. sound.still x (kept_true (are_rivals b x) (s.dead x) h).1;
    owing = λ begun c h. let k = kept_true (are_rivals b c) (s.owed c) h in (rw k.0 (sound.owing begun c k.1));
    gone = λ all x. and_false (not (are_rivals b x)) (s.dead x) (sound.gone all x);
    clean = λ c i h dead within. clean_after c i (other c h) h (λ sp. sym (not_false (are_rivals b c) (s.dead c) sp) ∙ dead) within;
    dry = λ sectors c i h dead dry left within. let sp : are_rivals b c ≡ false = or_left (are_rivals b c) (s.wet c) dry in
        dry_after sectors c i (other c h) sp h (sym (not_false (are_rivals b c) (s.dead c) sp) ∙ dead) (or_right (are_rivals b c) (s.wet c) dry) left within;
    spelled = spelled_after;
    spelled_before = spelled_before_after;
    before = before_after;
    before_dry = λ sectors c i h old dry left within. before_dry_after sectors c i h old (or_right (are_rivals b c) (s.wet c) dry) left within;
    owed_stale = λ begun c o h. sound.owed_stale begun c (kept_true (are_rivals b c) (s.owed c) o).1 h;
    closed = sound.closed;
    even = even_after;
    counts = sound.counts;
    synced = sound.synced;
    done = sound.done;
    sent = sound.sent;
    place = sound.place;
    entries = sound.entries;
    renamed = sound.renamed;
    paid = λ r c. (and_false (not (are_rivals b c)) (s.owed c) (sound.paid r c).0, rw (and_false (are_rivals b c) (s.owed b || s.owed c) (or_none (s.owed b) (s.owed c) (sound.paid r b).0 (sound.paid r c).0), (sound.paid r c).1) refl);
    replaced = sound.replaced;
  }
    where
      own_owed : (put_in_part geometry s b disk).owed b ≡ false → s.owed b ≡ false
      own_owed e = sym (not_false (are_rivals b b) (s.owed b) (rivals_other b)) ∙ e

      damp_true : (x : Block) → are_rivals b x ≡ true → s.owed b ≡ true → (put_in_part geometry s b disk).due x ≡ true
      damp_true x sp o = rw (sp, o) refl

      other : (c : Block) → s.dirty c ≡ false → same_block c b ≡ false
      other c h = go (same_block c b) refl
        where
          go : (v : Bool) → same_block c b ≡ v → same_block c b ≡ false
          go true k = absurd (true≢false (sym may.dirty ∙ sym (ap s.dirty (same_block-is c b k)) ∙ h))
          go false k = k

  less_held : (c : Block) → is_held (written_out geometry s b disk) c ≡ true → is_held s c ≡ true
  less_held c h = go (same_block c b) (s.dirty c) (has_update s.window.draft c) h
    where
      go : (v d e : Bool) → ((not v && d) || e) ≡ true → (d || e) ≡ true
      go true true e h = refl
      go true false e h = h
      go false d e h = h

  more_held : (c : Block) → (is_held (written_out geometry s b disk) c || (not (are_rivals b c) && s.dead c)) ≡ true → (is_held s c || (not (are_rivals b c) && s.dead c)) ≡ true
  more_held c h = go (is_held (written_out geometry s b disk) c) refl
    where
      go : (v : Bool) → is_held (written_out geometry s b disk) c ≡ v → (is_held s c || (not (are_rivals b c) && s.dead c)) ≡ true
      go true k = rw (less_held c k) refl
      go false k = or_second (is_held s c) (not (are_rivals b c) && s.dead c) (rw k at h)

  not_held : (c : Block) → is_held s c ≡ false → is_held (written_out geometry s b disk) c ≡ false
  not_held c h = or_none (not (same_block c b) && s.dirty c) (has_update s.window.draft c) (and_false (not (same_block c b)) (s.dirty c) (or_left (s.dirty c) (has_update s.window.draft c) h)) (or_right (s.dirty c) (has_update s.window.draft c) h)

  pub sound-write_out : PutsAll geometry b new s.disk disk → Spells geometry s.window b new → IsSound geometry (written_out geometry s b disk)
  sound-write_out all spells = record {
    oldest = stands-put s.log s.synced none none (written_out geometry s b disk).dirty may.logged (λ c is h. sym (not_false (same_block c b) (s.dirty c) is) ∙ h) none none (λ c is sp. (λ e. e, λ e. e))
        (λ x sp. inl (lost x sp)) (λ h e. refl) (λ e. backs_body geometry s.window s.log s.synced (seen disk) b sound.oldest.tells sound.oldest.whole may.logged stands_b) (λ e f. refl) sound.oldest;
    next = λ begun. let st = sound.next begun in
        stands-put (drop s.place s.log) (s.synced - s.place) s.owed s.due (written_out geometry s b disk).dirty logged_from (λ c is h. sym (not_false (same_block c b) (s.dirty c) is) ∙ h)
        (written_out geometry s b disk).owed (written_out geometry s b disk).due
        (λ c is sp. (λ e. sym (not_false ((same_block c b) || are_rivals b c) (s.owed c) (or_none (same_block c b) (are_rivals b c) is sp)) ∙ e, λ e. or_right (((same_block c b) || are_rivals b c) && (s.owed b || s.owed c)) (s.due c) e))
        (λ x sp. ⊎_elim (λ lose. inl lose) (λ still. inr (damp_true x sp still.0, still.1)) (lost_next begun x sp))
        (λ h e. absurd (true≢false (sym h ∙ (rw own_true refl))))
        (λ e. backs_body geometry s.window (drop s.place s.log) (s.synced - s.place) (seen disk) b st.tells st.whole logged_from stands_b)
        (λ e f. was_paid f) st;
    shades = shades-fewer geometry s.window.draft s.dirty s.dead none (written_out geometry s b disk).dirty (written_out geometry s b disk).dead none s.log sound.shades (λ c h. ((kept_true (same_block c b) (s.dirty c) h).1, λ o. o)) (λ x h. ((kept_true (are_rivals b x) (s.dead x) h).1, λ o. o));
    shades_next = λ begun. shades-fewer geometry s.window.draft s.dirty s.dead s.owed (written_out geometry s b disk).dirty (written_out geometry s b disk).dead (written_out geometry s b disk).owed (drop s.place s.log) (sound.shades_next begun)
        (λ c h. let k = kept_true (same_block c b) (s.dirty c) h in (k.1, λ o. not_false ((same_block c b) || are_rivals b c) (s.owed c) (or_none (same_block c b) (are_rivals b c) k.0 (dirty_other c k.1)) ∙ o))
        (λ x h. let k = kept_true (are_rivals b x) (s.dead x) h in (k.1, λ o. not_false ((same_block x b) || are_rivals b x) (s.owed x) (or_none (same_block x b) (are_rivals b x) (dead_other x k.1) k.0) ∙ o));
    lone = λ c x rival h. not_held x (sound.lone c x rival (less_held c h));
    known = λ c h. sound.known c (less_held c h);
    still = λ x h. not_held x (sound.still x (kept_true (are_rivals b x) (s.dead x) h).1);
    owing = λ begun c h. let k = kept_true ((same_block c b) || are_rivals b c) (s.owed c) h in rw (or_left (same_block c b) (are_rivals b c) k.0, or_right (same_block c b) (are_rivals b c) k.0) (sound.owing begun c k.1);
    gone = λ all x. and_false (not (are_rivals b x)) (s.dead x) (sound.gone all x);
    clean = λ c i h dead within. clean (same_block c b) c i refl h dead within;
    dry = λ sectors c i h dead dry left within. dried sectors c i h dead dry left within;
    spelled = λ c h. spelled_after c (more_held c h);
    spelled_before = spelled_before_after;
    before = before_after;
    before_dry = λ sectors c i h old dry left within. before_dry_after sectors c i h old (or_right ((same_block c b) || are_rivals b c) (s.wet c) dry) left within;
    owed_stale = λ begun c o h. sound.owed_stale begun c (kept_true ((same_block c b) || are_rivals b c) (s.owed c) o).1 h;
    closed = sound.closed;
    even = even_after;
    counts = sound.counts;
    synced = sound.synced;
    done = sound.done;
    sent = sound.sent;
    place = sound.place;
    entries = sound.entries;
    renamed = sound.renamed;
    paid = λ r c. (and_false (not ((same_block c b) || are_rivals b c)) (s.owed c) (sound.paid r c).0, rw (and_false ((same_block c b) || are_rivals b c) (s.owed b || s.owed c) (or_none (s.owed b) (s.owed c) (sound.paid r b).0 (sound.paid r c).0), (sound.paid r c).1) refl);
    replaced = sound.replaced;
  }
    where
      stands_b : (i : ℕ) → i < geometry.size b → Shows geometry (seen disk) b i s.window.body s.window.is_torn
      stands_b i within = spells (seen disk) i within (λ n h. rw (all.own n h) refl)

      damp_true : (x : Block) → are_rivals b x ≡ true → s.owed b ≡ true → (written_out geometry s b disk).due x ≡ true
      damp_true x sp o = rw (rival_apart' x sp, sp, o) refl
        where
          rival_apart' : (x : Block) → are_rivals b x ≡ true → same_block x b ≡ false
          rival_apart' x sp = rival_apart x b (rivals_both x b ∙ sp)

      was_paid : (((same_block b b || are_rivals b b) && (s.owed b || s.owed b)) || s.due b) ≡ false → s.owed b ≡ false
      was_paid e = let e' : ((s.owed b || s.owed b) || s.due b) ≡ false = (rw own_true at e) in or_left (s.owed b) (s.owed b) (or_left (s.owed b || s.owed b) (s.due b) e')

      clean : (v : Bool) (c : Block) (i : ℕ) → same_block c b ≡ v → (written_out geometry s b disk).dirty c ≡ false → (written_out geometry s b disk).dead c ≡ false → i < geometry.size c → Shows geometry (seen disk) c i w'.body w'.is_torn
      clean true c i is h dead within = let e : c ≡ b = same_block-is c b is in subst (λ (n : Block). Shows geometry (seen disk) n i w'.body w'.is_torn) (sym e)
          (shown (seen disk) b i (rivals_other b) (stands_b i (subst (λ (n : Block). i < geometry.size n) e within)))
      clean false c i is h dead within = clean_after c i is (sym (not_false (same_block c b) (s.dirty c) is) ∙ h) (λ sp. sym (not_false (are_rivals b c) (s.dead c) sp) ∙ dead) within

      dried : (sectors : SectorBytes) (c : Block) (i : ℕ) → (written_out geometry s b disk).dirty c ≡ false → (written_out geometry s b disk).dead c ≡ false → (written_out geometry s b disk).wet c ≡ false
          → CanLeave disk sectors → i < geometry.size c → Shows geometry sectors c i w'.body w'.is_torn
      dried sectors c i h dead dry left within =
          let both : ((same_block c b) || are_rivals b c) ≡ false = or_left ((same_block c b) || are_rivals b c) (s.wet c) dry in
          let apart : same_block c b ≡ false = or_left (same_block c b) (are_rivals b c) both in let sp : are_rivals b c ≡ false = or_right (same_block c b) (are_rivals b c) both in
          dry_after sectors c i apart sp (sym (not_false (same_block c b) (s.dirty c) apart) ∙ h) (sym (not_false (are_rivals b c) (s.dead c) sp) ∙ dead) (or_right ((same_block c b) || are_rivals b c) (s.wet c) dry) left within

-- the other events
module _ (geometry : Geometry) (s : Store) (sound : IsSound geometry s) where
  pub sound-begin : s.window.is_open ≡ false → IsSound geometry (record s { window = after_begin s.window })
  sound-begin closed = record {
    oldest = stands-begin geometry s.window s.disk s.dirty s.log s.synced none none sound.oldest closed (sound.closed closed);
    next = λ begun. stands-begin geometry s.window s.disk s.dirty (drop s.place s.log) (s.synced - s.place) s.owed s.due (sound.next begun) closed (sound.closed closed);
    clean = sound.clean;
    dry = sound.dry;
    closed = λ e. absurd (true≢false e);
    shades = sound.shades;
    shades_next = sound.shades_next;
    lone = sound.lone;
    known = sound.known;
    still = sound.still;
    owing = sound.owing;
    gone = sound.gone;
    even = sound.even;
    before = λ b i h. absurd (true≢false (sym h ∙ ap (λ (us : List Entry). has_update us b) (sound.closed closed)));
    before_dry = λ sectors b i h. absurd (true≢false (sym h ∙ ap (λ (us : List Entry). has_update us b) (sound.closed closed)));
    owed_stale = sound.owed_stale;
    spelled = sound.spelled;
    spelled_before = sound.spelled_before;
    counts = sound.counts;
    synced = sound.synced;
    done = sound.done;
    sent = sound.sent;
    place = sound.place;
    entries = sound.entries;
    renamed = sound.renamed;
    paid = sound.paid;
    replaced = sound.replaced;
  }

  pub sound-write_page : (m : ℕ) → s.done ≤ m → m ≤ length s.log → IsSound geometry (record s { done = m; sent = max s.sent m })
  sound-write_page m low high = record {
    oldest = sound.oldest;
    next = sound.next;
    clean = sound.clean;
    dry = sound.dry;
    closed = sound.closed;
    counts = sound.counts;
    shades = sound.shades;
    shades_next = sound.shades_next;
    lone = sound.lone;
    known = sound.known;
    still = sound.still;
    owing = sound.owing;
    gone = sound.gone;
    even = sound.even;
    before = sound.before;
    before_dry = sound.before_dry;
    owed_stale = sound.owed_stale;
    spelled = sound.spelled;
    spelled_before = sound.spelled_before;
    synced = omega (arith, low, sound.synced);
    done = omega arith;
    sent = omega (arith, high, sound.sent);
    place = sound.place;
    entries = sound.entries;
    renamed = sound.renamed;
    paid = sound.paid;
    replaced = sound.replaced;
  }

  pub sound-write_page_fails : (m : ℕ) → m ≤ length s.log → IsSound geometry (record s { sent = max s.sent m })
  sound-write_page_fails m high = record {
    oldest = sound.oldest;
    next = sound.next;
    clean = sound.clean;
    dry = sound.dry;
    closed = sound.closed;
    counts = sound.counts;
    shades = sound.shades;
    shades_next = sound.shades_next;
    lone = sound.lone;
    known = sound.known;
    still = sound.still;
    owing = sound.owing;
    gone = sound.gone;
    even = sound.even;
    before = sound.before;
    before_dry = sound.before_dry;
    owed_stale = sound.owed_stale;
    spelled = sound.spelled;
    spelled_before = sound.spelled_before;
    synced = sound.synced;
    done = omega (arith, sound.done);
    sent = omega (arith, high, sound.sent);
    place = sound.place;
    entries = sound.entries;
    renamed = sound.renamed;
    paid = sound.paid;
    replaced = sound.replaced;
  }

  pub sound-write_restart : MayRename s → (replaced : Bool) → IsSound geometry (record s { renamed = true; replaced = replaced })
  sound-write_restart may replaced = record {
    oldest = sound.oldest;
    next = sound.next;
    clean = sound.clean;
    dry = sound.dry;
    closed = sound.closed;
    counts = sound.counts;
    shades = sound.shades;
    shades_next = sound.shades_next;
    lone = sound.lone;
    known = sound.known;
    still = sound.still;
    owing = sound.owing;
    gone = sound.gone;
    even = sound.even;
    before = sound.before;
    before_dry = sound.before_dry;
    owed_stale = sound.owed_stale;
    spelled = sound.spelled;
    spelled_before = sound.spelled_before;
    synced = sound.synced;
    done = sound.done;
    sent = sound.sent;
    place = sound.place;
    entries = sound.entries;
    renamed = λ r. (may.begun, may.durable);
    paid = λ r. may.paid;
    replaced = λ r. refl;
  }

  pub sound-change : (c : Block) (ups : List Entry) → MayChange geometry s c ups → IsSound geometry (changed_store s c ups)
  sound-change c ups may = record {
    oldest = stands-changes geometry s.window s.disk s.dirty (changed_store s c ups).dirty s.log s.synced none none sound.oldest may.opened c ups may.some may.old may.fills may.refills was;
    next = λ begun. subst (λ (l : List Entry). Stands geometry (after_changes s.window c ups) s.disk (changed_store s c ups).dirty l (s.synced - s.place) s.owed s.due) (sym (drop-append-le s.place s.log ups (sound.place begun)))
        (stands-changes geometry s.window s.disk s.dirty (changed_store s c ups).dirty (drop s.place s.log) (s.synced - s.place) s.owed s.due (sound.next begun) may.opened c ups may.some may.old (may.next begun).0 (may.next begun).1 was);
    shades = subst (λ (us : List Entry). Shades us (changed_store s c ups).dirty (changed_store s c ups).dead none (s.log ++ ups)) (sym draft) (shades-change geometry s c ups may s.log none (λ b h paid. sound.oldest.holds b h paid) sound.shades);
    shades_next = λ begun. subst (λ (us : List Entry). Shades us (changed_store s c ups).dirty (changed_store s c ups).dead s.owed (drop s.place (s.log ++ ups))) (sym draft)
        (subst (λ (l : List Entry). Shades (s.window.draft ++ ups) (changed_store s c ups).dirty (changed_store s c ups).dead s.owed l) (sym (drop-append-le s.place s.log ups (sound.place begun)))
        (shades-change geometry s c ups may (drop s.place s.log) s.owed (λ b h paid. (sound.next begun).holds b h paid) (sound.shades_next begun)));
    lone = λ b x rival h. same x ∙ lone-change geometry s c ups may sound.lone b x rival (sym (same b) ∙ h);
    known = λ b h. known-change geometry s c ups may sound.known b (sym (same b) ∙ h);
    still = λ x h. same x ∙ still-change geometry s c ups may sound.still x h;
    owing = λ begun b h. owing-change geometry s c ups may b (sound.owing begun b h);
    gone = λ all. absurd (some_more all);
    before = λ b i h old within. moved b i (seen s.disk) (began b (sym (ap (λ (us : List Entry). has_update us b) draft) ∙ h) old
        (λ h' old'. sound.before b i h' old' within) (λ clean dead h'. undrafted b i (seen s.disk) h' (sound.clean b i clean dead within)));
    before_dry = λ sectors b i h old dry left within. moved b i sectors (began b (sym (ap (λ (us : List Entry). has_update us b) draft) ∙ h) old
        (λ h' old'. sound.before_dry sectors b i h' old' dry left within) (λ clean dead h'. undrafted b i sectors h' (sound.dry sectors b i clean dead dry left within)));
    spelled = λ b h. spelled b (sym (ap (λ (v : Bool). v || (changed_store s c ups).dead b) (same b)) ∙ h) (same_block b c) refl;
    spelled_before = λ b h old. spelled_before b (sym (ap (λ (us : List Entry). has_update us b) draft) ∙ h) old (same_block b c) refl (has_update s.window.draft b) refl;
    owed_stale = λ begun b o h. owed_stale begun b o (sym (ap (λ (us : List Entry). has_update us b) draft) ∙ h) (same_block b c) refl (has_update s.window.draft c) refl;
    even = λ b h. even b (sym (ap (λ (us : List Entry). has_update us b) draft) ∙ h);
    clean = λ b i h dead within. let o = unchanged b h dead in let x = sound.clean b i o.1 o.2 within in (x.0 ∙ sym (body_elsewhere s.window c ups b i may.old o.0), λ torn. torn_elsewhere s.window ups b o.0 ∙ x.1 torn);
    dry = λ sectors b i h dead dry left within. let o = unchanged b h dead in let x = sound.dry sectors b i o.1 o.2 dry left within in (x.0 ∙ sym (body_elsewhere s.window c ups b i may.old o.0), λ torn. torn_elsewhere s.window ups b o.0 ∙ x.1 torn);
    closed = λ e. absurd (true≢false (sym may.opened ∙ sym (open_same s.window c ups) ∙ e));
    counts = ap commits (drop-append-le s.synced s.log ups sound.oldest.within) ∙ commits-append (drop s.synced s.log) ups
        ∙ let none_added : commits ups ≡ 0 = no_commits s.window.tx c ups are in omega (arith, none_added, sound.counts, ap length (waiting_same s.window c ups));
    synced = sound.synced;
    done = sound.done;
    sent = omega (arith, sound.sent, length-append s.log ups);
    place = λ begun. omega (arith, sound.place begun, length-append s.log ups);
    entries = all_append (IsStored geometry) s.log ups sound.entries (stored_updates geometry s.window.tx c ups may.known are);
    renamed = sound.renamed;
    paid = sound.paid;
    replaced = sound.replaced;
  }
    where
      draft : (after_changes s.window c ups).draft ≡ s.window.draft ++ ups
      draft = draft_changes s.window c ups

      same : (b : Block) → is_held (changed_store s c ups) b ≡ ((changed_store s c ups).dirty b || has_update (s.window.draft ++ ups) b)
      same b = ap (λ (us : List Entry). (changed_store s c ups).dirty b || has_update us b) draft

      are : AreUpdates s.window.tx c ups
      are = are_updates s.window c ups may.old

      some_more : s.synced ≡ length (s.log ++ ups) → ⊥
      some_more all = absurd (omega (arith, all, sound.oldest.within, may.some, length-append s.log ups))

      torn_elsewhere : (w : Window) (ups : List Entry) (b : Block) → same_block b c ≡ false → (after_changes w c ups).is_torn b ≡ w.is_torn b
      torn_elsewhere w [] b is = refl
      torn_elsewhere w (up ∷ ups) b is = torn_elsewhere (after_change w c up) ups b is ∙ rw is refl

      was_torn_same : (w : Window) (ups : List Entry) → (after_changes w c ups).was_torn ≡ w.was_torn
      was_torn_same w [] = refl
      was_torn_same w (up ∷ ups) = was_torn_same (after_change w c up) ups

      even : (b : Block) → has_update (s.window.draft ++ ups) b ≡ false → (after_changes s.window c ups).was_torn 0 b ≡ (after_changes s.window c ups).is_torn b
      even b h = ap (λ (f : ℕ → Block → Bool). f 0 b) (was_torn_same s.window ups) ∙ sound.even b (has_front s.window.draft ups b h) ∙ sym (torn_elsewhere s.window ups b is)
        where
          is : same_block b c ≡ false
          is = go (same_block b c) refl
            where
              go : (v : Bool) → same_block b c ≡ v → same_block b c ≡ false
              go true k = let e : b ≡ c = same_block-is b c k in absurd (true≢false (sym (updates_some s.window.tx c ups are may.some) ∙ ap (λ (n : Block). has_update ups n) (sym e) ∙ has_back s.window.draft ups b h))
              go false k = k

      moved : (b : Block) (i : ℕ) (sectors : SectorBytes) → Shows geometry sectors b i (undone s.window.draft s.window.body) (s.window.was_torn 0)
          → Shows geometry sectors b i (undone (after_changes s.window c ups).draft (after_changes s.window c ups).body) ((after_changes s.window c ups).was_torn 0)
      moved b i sectors x = (x.0 ∙ sym (ap (λ (f : AllBytes). f b i) (changes_same s.window c ups may.old).0), λ torn. ap (λ (f : ℕ → Block → Bool). f 0 b) (was_torn_same s.window ups) ∙ x.1 torn)

      undrafted : (b : Block) (i : ℕ) (sectors : SectorBytes) → has_update s.window.draft b ≡ false → Shows geometry sectors b i s.window.body s.window.is_torn → Shows geometry sectors b i (undone s.window.draft s.window.body) (s.window.was_torn 0)
      undrafted b i sectors h x = (x.0 ∙ sym (ap (λ (o : Option ℕ). unwrap_or o (s.window.body b i)) (none_covered s.window.draft b i h)), λ torn. sound.even b h ∙ x.1 torn)

      -- the transaction's first change of a block, or a later one
      began : {P : Type 0} (b : Block) → has_update (s.window.draft ++ ups) b ≡ true → (changed_store s c ups).stale b ≡ false
          → (has_update s.window.draft b ≡ true → s.stale b ≡ false → P) → (s.dirty b ≡ false → s.dead b ≡ false → has_update s.window.draft b ≡ false → P) → P
      began {P} b h old later first = go (same_block b c) refl (has_update s.window.draft b) refl
        where
          go : (v : Bool) → same_block b c ≡ v → (u : Bool) → has_update s.window.draft b ≡ u → P
          go true is true k = let e : c ≡ b = sym (same_block-is b c is) in let k' : has_update s.window.draft c ≡ true = ap (λ (n : Block). has_update s.window.draft n) e ∙ k in later k (rw (is, k') at old)
          go true is false k = let e : c ≡ b = sym (same_block-is b c is) in let k' : has_update s.window.draft c ≡ false = ap (λ (n : Block). has_update s.window.draft n) e ∙ k in
              let old' : (s.dirty c || s.dead c) ≡ false = (rw (is, k') at old) in let old'' : (s.dirty b || s.dead b) ≡ false = subst (λ (n : Block). (s.dirty n || s.dead n) ≡ false) e old' in
              first (or_left (s.dirty b) (s.dead b) old'') (or_right (s.dirty b) (s.dead b) old'') k
          go false is true k = later k (rw is at old)
          go false is false k = absurd (true≢false (sym h ∙ has_none s.window.draft ups b k (updates_only s.window.tx c ups b are is)))

      spelled : (b : Block) → (((changed_store s c ups).dirty b || has_update (s.window.draft ++ ups) b) || (changed_store s c ups).dead b) ≡ true → (v : Bool) → same_block b c ≡ v → geometry.has_spelling b ((after_changes s.window c ups).body b) ≡ true
      spelled b h true is = let e : c ≡ b = sym (same_block-is b c is) in subst (λ (n : Block). geometry.has_spelling n ((after_changes s.window c ups).body n) ≡ true) e may.spelled
      spelled b h false is = ap (geometry.has_spelling b) (fun_ext (λ i. body_elsewhere s.window c ups b i may.old is)) ∙ sound.spelled b (old_held (has_update s.window.draft b) refl)
        where
          part : (d r u e : Bool) → (((d && not r) || u) || (e || (r && d))) ≡ true → ((d || u) || e) ≡ true
          part true r u e h = refl
          part false r true e h = refl
          part false true false true h = refl
          part false false false true h = refl
          part false true false false h = h
          part false false false false h = h

          same_has : has_update (s.window.draft ++ ups) b ≡ has_update s.window.draft b
          same_has = has_update-append s.window.draft ups b ∙ rw (updates_only s.window.tx c ups b are is) (or-false (has_update s.window.draft b))

          old_held : (u : Bool) → has_update s.window.draft b ≡ u → (is_held s b || s.dead b) ≡ true
          old_held u k = part (s.dirty b) (are_rivals c b) (has_update s.window.draft b) (s.dead b) (sym (ap (λ (v : Bool). ((s.dirty b && not (are_rivals c b)) || v) || (s.dead b || (are_rivals c b && s.dirty b))) same_has) ∙ (rw is at h))

      undone_same : (b : Block) → undone (after_changes s.window c ups).draft (after_changes s.window c ups).body b ≡ undone s.window.draft s.window.body b
      undone_same b = ap (λ (f : AllBytes). f b) (changes_same s.window c ups may.old).0

      spelled_before : (b : Block) → has_update (s.window.draft ++ ups) b ≡ true → (changed_store s c ups).stale b ≡ true → (v : Bool) → same_block b c ≡ v → (u : Bool) → has_update s.window.draft b ≡ u
          → geometry.has_spelling b (undone (after_changes s.window c ups).draft (after_changes s.window c ups).body b) ≡ true
      spelled_before b h old true is true k = let e : c ≡ b = sym (same_block-is b c is) in let k' : has_update s.window.draft c ≡ true = ap (λ (n : Block). has_update s.window.draft n) e ∙ k in
          ap (geometry.has_spelling b) (undone_same b) ∙ sound.spelled_before b k (rw (is, k') at old)
      spelled_before b h old true is false k = let e : c ≡ b = sym (same_block-is b c is) in let k' : has_update s.window.draft c ≡ false = ap (λ (n : Block). has_update s.window.draft n) e ∙ k in
          let old' : (s.dirty c || s.dead c) ≡ true = (rw (is, k') at old) in
          ap (geometry.has_spelling b) (undone_same b ∙ fun_ext (λ i. ap (λ (o : Option ℕ). unwrap_or o (s.window.body b i)) (none_covered s.window.draft b i k)))
          ∙ sound.spelled b (part (s.dirty b) (has_update s.window.draft b) (s.dead b) (subst (λ (n : Block). (s.dirty n || s.dead n) ≡ true) e old'))
        where
          part : (d u e : Bool) → (d || e) ≡ true → ((d || u) || e) ≡ true
          part true u e h = refl
          part false u e h = or_second u e h
      spelled_before b h old false is true k = ap (geometry.has_spelling b) (undone_same b) ∙ sound.spelled_before b k (rw is at old)
      spelled_before b h old false is false k = absurd (true≢false (sym h ∙ has_none s.window.draft ups b k (updates_only s.window.tx c ups b are is)))

      owed_stale : s.begun ≡ true → (b : Block) → s.owed b ≡ true → has_update (s.window.draft ++ ups) b ≡ true → (v : Bool) → same_block b c ≡ v → (u : Bool) → has_update s.window.draft c ≡ u → (changed_store s c ups).stale b ≡ true
      owed_stale begun b o h true is true k = let e : c ≡ b = sym (same_block-is b c is) in rw (is, k) (sound.owed_stale begun b o (ap (λ (n : Block). has_update s.window.draft n) (sym e) ∙ k))
      owed_stale begun b o h true is false k = let e : b ≡ c = same_block-is b c is in rw (is, k) (subst (λ (n : Block). (s.dirty n || s.dead n) ≡ true) e (sound.owing begun b o))
      owed_stale begun b o h false is u k = rw is (sound.owed_stale begun b o (still_there b is h))
        where
          still_there : (b : Block) → same_block b c ≡ false → has_update (s.window.draft ++ ups) b ≡ true → has_update s.window.draft b ≡ true
          still_there b is h = go (has_update s.window.draft b) refl
            where
              go : (u : Bool) → has_update s.window.draft b ≡ u → has_update s.window.draft b ≡ true
              go true k = k
              go false k = absurd (true≢false (sym h ∙ has_none s.window.draft ups b k (updates_only s.window.tx c ups b are is)))

      was : (b : Block) → same_block b c ≡ false → ((same_block b c) || (s.dirty b && not (are_rivals c b))) ≡ true → s.dirty b ≡ true
      was b is h = first (s.dirty b) (not (are_rivals c b)) (rw is at h)
        where
          first : (x y : Bool) → (x && y) ≡ true → x ≡ true
          first true y e = refl
          first false y e = e

      unchanged : (b : Block) → ((same_block b c) || (s.dirty b && not (are_rivals c b))) ≡ false → (not (same_block b c) && (s.dead b || (are_rivals c b && s.dirty b))) ≡ false
          → (same_block b c ≡ false) × (s.dirty b ≡ false) × (s.dead b ≡ false)
      unchanged b h dead =
          let is : same_block b c ≡ false = or_left (same_block b c) (s.dirty b && not (are_rivals c b)) h in
          let h' : (s.dirty b && not (are_rivals c b)) ≡ false = or_right (same_block b c) (s.dirty b && not (are_rivals c b)) h in
          let dead' : (s.dead b || (are_rivals c b && s.dirty b)) ≡ false = (rw is at dead) in
          (is, both_ways (s.dirty b) (are_rivals c b) h' (or_right (s.dead b) (are_rivals c b && s.dirty b) dead'), or_left (s.dead b) (are_rivals c b && s.dirty b) dead')
        where
          both_ways : (x r : Bool) → (x && not r) ≡ false → (r && x) ≡ false → x ≡ false
          both_ways false r e f = refl
          both_ways true true e f = f
          both_ways true false e f = e

      open_same : (w : Window) (c : Block) (ups : List Entry) → (after_changes w c ups).is_open ≡ w.is_open
      open_same w c [] = refl
      open_same w c (up ∷ ups) = open_same (after_change w c up) c ups

      waiting_same : (w : Window) (c : Block) (ups : List Entry) → (after_changes w c ups).waiting ≡ w.waiting
      waiting_same w c [] = refl
      waiting_same w c (up ∷ ups) = waiting_same (after_change w c up) c ups

      no_commits : (t : ℕ) (c : Block) (ups : List Entry) → AreUpdates t c ups → commits ups ≡ 0
      no_commits t c [] all = refl
      no_commits t c (up ∷ ups) all = rw (no_commit up.act c all.0.block) (omega (arith, no_commits t c ups all.1))

  -- fewer are held without a draft
  fewer_held : (b : Block) → (s.dirty b || false) ≡ true → is_held s b ≡ true
  fewer_held b h = go (s.dirty b) (has_update s.window.draft b) h
    where
      go : (d e : Bool) → (d || false) ≡ true → (d || e) ≡ true
      go true e h = refl
      go false e h = absurd (true≢false (sym h))

  none_held : (b : Block) → is_held s b ≡ false → (s.dirty b || false) ≡ false
  none_held b h = or_none (s.dirty b) false (or_left (s.dirty b) (has_update s.window.draft b) h) refl

  pub sound-commit : (lsn previous : ℕ) → s.window.is_open ≡ true → IsSound geometry (record s { window = after_commit s.window; log = s.log ++ commit_by lsn previous s.window.tx ∷ [] })
  sound-commit lsn previous opened = record {
    oldest = stands-commit geometry s.window s.disk s.dirty s.log lsn previous s.synced none none sound.oldest spells opened;
    next = λ begun. subst (λ (l : List Entry). Stands geometry (after_commit s.window) s.disk s.dirty l (s.synced - s.place) s.owed s.due) (sym (drop-append-le s.place s.log (commit_by lsn previous s.window.tx ∷ []) (sound.place begun)))
        (stands-commit geometry s.window s.disk s.dirty (drop s.place s.log) lsn previous (s.synced - s.place) s.owed s.due (sound.next begun) spells opened);
    shades = shades-commit geometry s.window.draft s.dirty s.dead none s.log lsn previous s.window.tx sound.shades;
    shades_next = λ begun. subst (λ (l : List Entry). Shades [] s.dirty s.dead s.owed l) (sym (drop-append-le s.place s.log (commit_by lsn previous s.window.tx ∷ []) (sound.place begun)))
        (shades-commit geometry s.window.draft s.dirty s.dead s.owed (drop s.place s.log) lsn previous s.window.tx (sound.shades_next begun));
    lone = λ b x rival h. none_held x (sound.lone b x rival (fewer_held b h));
    known = λ b h. sound.known b (fewer_held b h);
    still = λ x h. none_held x (sound.still x h);
    owing = sound.owing;
    gone = λ all. absurd (omega (arith, all, sound.oldest.within, length-append s.log (commit_by lsn previous s.window.tx ∷ [])));
    even = λ b h. refl;
    before = λ b i h. absurd (true≢false (sym h));
    before_dry = λ sectors b i h. absurd (true≢false (sym h));
    owed_stale = λ begun b o h. absurd (true≢false (sym h));
    spelled = λ b h. sound.spelled b (fewer b h);
    spelled_before = λ b h. absurd (true≢false (sym h));
    clean = sound.clean;
    dry = sound.dry;
    closed = λ e. refl;
    counts = commits-drop_commit s.log lsn previous s.window.tx s.synced sound.oldest.within ∙ ap suc sound.counts;
    synced = sound.synced;
    done = sound.done;
    sent = omega (arith, sound.sent, length-append s.log (commit_by lsn previous s.window.tx ∷ []));
    place = λ begun. omega (arith, sound.place begun, length-append s.log (commit_by lsn previous s.window.tx ∷ []));
    entries = all_append (IsStored geometry) s.log (commit_by lsn previous s.window.tx ∷ []) sound.entries (record { level = tt; known = λ b h. absurd (true≢false (sym h)) }, tt);
    renamed = sound.renamed;
    paid = sound.paid;
    replaced = sound.replaced;
  }
    where
      spells : (b : Block) → has_update s.window.draft b ≡ true → geometry.has_spelling b (s.window.body b) ≡ true
      spells b h = sound.spelled b (go (s.dirty b) (has_update s.window.draft b) (s.dead b) h)
        where
          go : (d u e : Bool) → u ≡ true → ((d || u) || e) ≡ true
          go true u e h = refl
          go false u e h = rw h refl

      fewer : (b : Block) → ((s.dirty b || false) || s.dead b) ≡ true → (is_held s b || s.dead b) ≡ true
      fewer b h = go (s.dirty b) (has_update s.window.draft b) (s.dead b) h
        where
          go : (d u e : Bool) → ((d || false) || e) ≡ true → ((d || u) || e) ≡ true
          go true u e h = refl
          go false u e h = or_second u e h

  pub sound-give_up : IsSound geometry (given_up geometry s)
  sound-give_up = record {
    oldest = stands-give_up geometry s.window s.disk s.dirty (given_up geometry s).dirty s.log s.synced none none only sound.oldest;
    next = λ begun. stands-give_up geometry s.window s.disk s.dirty (given_up geometry s).dirty (drop s.place s.log) (s.synced - s.place) s.owed s.due only (sound.next begun);
    shades = shades-give_up geometry s.window.draft s.dirty (given_up geometry s).dirty s.dead none s.log only sound.shades;
    shades_next = λ begun. shades-give_up geometry s.window.draft s.dirty (given_up geometry s).dirty s.dead s.owed (drop s.place s.log) only (sound.shades_next begun);
    lone = λ b x rival h. again x (sound.lone b x rival (was b h));
    known = λ b h. sound.known b (was b h);
    still = λ x h. again x (sound.still x h);
    owing = λ begun b h. owing begun b h (has_update s.window.draft b) refl;
    gone = sound.gone;
    even = λ b h. refl;
    before = λ b i h. absurd (true≢false (sym h));
    before_dry = λ sectors b i h. absurd (true≢false (sym h));
    owed_stale = λ begun b o h. absurd (true≢false (sym h));
    spelled = λ b h. spelled b h (has_update s.window.draft b) refl;
    spelled_before = λ b h. absurd (true≢false (sym h));
    clean = λ b i h dead within. back b i (seen s.disk) (has_update s.window.draft b) refl h (λ old k. sound.before b i k old within) (λ h'. sound.clean b i h' dead within);
    dry = λ sectors b i h dead dry left within. back b i sectors (has_update s.window.draft b) refl h (λ old k. sound.before_dry sectors b i k old dry left within) (λ h'. sound.dry sectors b i h' dead dry left within);
    closed = λ e. refl;
    counts = sound.counts;
    synced = sound.synced;
    done = sound.done;
    sent = sound.sent;
    place = sound.place;
    entries = sound.entries;
    renamed = sound.renamed;
    paid = sound.paid;
    replaced = sound.replaced;
  }
    where
      fits : Block → Bool
      fits b = geometry.has_spelling b (undone s.window.draft s.window.body b)

      only : (b : Block) → (given_up geometry s).dirty b ≡ true → (s.dirty b || has_update s.window.draft b) ≡ true
      only b h = go (has_update s.window.draft b) (s.dirty b) (s.stale b || fits b) h
        where
          go : (u d e : Bool) → (if u then e else d) ≡ true → (d || u) ≡ true
          go true d e h = or_second d true refl
          go false true e h = refl
          go false false e h = h

      was : (b : Block) → ((given_up geometry s).dirty b || false) ≡ true → is_held s b ≡ true
      was b h = only b (go ((given_up geometry s).dirty b) h)
        where
          go : (v : Bool) → (v || false) ≡ true → v ≡ true
          go true h = refl
          go false h = h

      again : (x : Block) → is_held s x ≡ false → ((given_up geometry s).dirty x || false) ≡ false
      again x h = go ((given_up geometry s).dirty x) refl
        where
          go : (v : Bool) → (given_up geometry s).dirty x ≡ v → ((given_up geometry s).dirty x || false) ≡ false
          go true k = absurd (true≢false (sym (only x k) ∙ h))
          go false k = rw k refl

      spelled : (b : Block) → (((given_up geometry s).dirty b || false) || s.dead b) ≡ true → (u : Bool) → has_update s.window.draft b ≡ u → geometry.has_spelling b (undone s.window.draft s.window.body b) ≡ true
      spelled b h true k = go (s.stale b) refl (geometry.has_spelling b (undone s.window.draft s.window.body b)) refl (s.dead b) (sound.still b) (rw k at h)
        where
          go : (t : Bool) → s.stale b ≡ t → (f : Bool) → geometry.has_spelling b (undone s.window.draft s.window.body b) ≡ f → (e : Bool) → (e ≡ true → is_held s b ≡ false) → (((t || f) || false) || e) ≡ true
              → geometry.has_spelling b (undone s.window.draft s.window.body b) ≡ true
          go true p f q e gone h = sound.spelled_before b k p
          go false p true q e gone h = q
          go false p false q true gone h = absurd (true≢false (sym (or_second (s.dirty b) (has_update s.window.draft b) k) ∙ gone refl))
          go false p false q false gone h = absurd (true≢false (sym h))
      spelled b h false k = ap (geometry.has_spelling b) (fun_ext (λ i. ap (λ (o : Option ℕ). unwrap_or o (s.window.body b i)) (none_covered s.window.draft b i k))) ∙ sound.spelled b (go (s.dirty b) (s.dead b) (rw k at h))
        where
          go : (d e : Bool) → ((d || false) || e) ≡ true → ((d || has_update s.window.draft b) || e) ≡ true
          go true e h = refl
          go false e h = or_second (has_update s.window.draft b) e h

      owing : s.begun ≡ true → (b : Block) → s.owed b ≡ true → (u : Bool) → has_update s.window.draft b ≡ u → ((given_up geometry s).dirty b || s.dead b) ≡ true
      owing begun b h true k = rw (k, sound.owed_stale begun b h k) refl
      owing begun b h false k = rw k (sound.owing begun b h)

      back : (b : Block) (i : ℕ) (sectors : SectorBytes) (u : Bool) → has_update s.window.draft b ≡ u → (given_up geometry s).dirty b ≡ false
          → (s.stale b ≡ false → has_update s.window.draft b ≡ true → Shows geometry sectors b i (undone s.window.draft s.window.body) (s.window.was_torn 0))
          → (s.dirty b ≡ false → Shows geometry sectors b i s.window.body s.window.is_torn) → Shows geometry sectors b i (undone s.window.draft s.window.body) (s.window.was_torn 0)
      back b i sectors true k h old new = old (or_left (s.stale b) (geometry.has_spelling b (undone s.window.draft s.window.body b)) (rw k at h)) k
      back b i sectors false k h old new = let x = new (rw k at h) in
          (x.0 ∙ sym (ap (λ (o : Option ℕ). unwrap_or o (s.window.body b i)) (none_covered s.window.draft b i k)), λ torn. sound.even b k ∙ x.1 torn)

  pub sound-freed : s.renamed ≡ true → IsSound geometry (freed s)
  sound-freed renamed = record {
    oldest = let st = sound.next begun in record {
      within = st.within;
      tells = st.tells;
      whole = st.whole;
      ready = st.ready;
      drafts = st.drafts;
      holds = λ b h e. st.holds b h (sound.paid renamed b).0;
      reads = λ b e. st.reads b (sound.paid renamed b).0;
      backs = λ sectors b e f left. st.backs sectors b (sound.paid renamed b).0 (sound.paid renamed b).1 left;
      fit_reads = λ b e. st.fit_reads b (sound.paid renamed b).0;
      fits = λ sectors b e f left. st.fits sectors b (sound.paid renamed b).0 (sound.paid renamed b).1 left;
    };
    next = λ b. absurd (true≢false (sym b));
    shades = shades-fewer geometry s.window.draft s.dirty s.dead s.owed s.dirty s.dead none (drop s.place s.log) (sound.shades_next begun)
        (λ b h. (h, λ o. absurd (true≢false (sym o ∙ (sound.paid renamed b).0)))) (λ b h. (h, λ o. absurd (true≢false (sym o ∙ (sound.paid renamed b).0))));
    shades_next = λ b. absurd (true≢false (sym b));
    lone = sound.lone;
    known = sound.known;
    still = sound.still;
    owing = λ b. absurd (true≢false (sym b));
    even = sound.even;
    before = sound.before;
    before_dry = sound.before_dry;
    owed_stale = λ b. absurd (true≢false (sym b));
    spelled = sound.spelled;
    spelled_before = sound.spelled_before;
    gone = λ all. sound.gone (omega (arith, all, length-drop s.place s.log, (sound.renamed renamed).1, sound.oldest.within));
    clean = sound.clean;
    dry = sound.dry;
    closed = sound.closed;
    counts = ap commits (drop-drop (s.synced - s.place) s.place s.log) ∙ ap (λ (n : ℕ). commits (drop n s.log)) same ∙ sound.counts;
    synced = omega (arith, sound.synced);
    done = omega (arith, sound.done);
    sent = omega (arith, sound.sent, length-drop s.place s.log);
    place = λ b. absurd (true≢false (sym b));
    entries = all_drop (IsStored geometry) s.place s.log sound.entries;
    renamed = λ r. absurd (true≢false (sym r));
    paid = λ r. absurd (true≢false (sym r));
    replaced = λ r. absurd (true≢false (sym r));
  }
    where
      begun : s.begun ≡ true
      begun = (sound.renamed renamed).0

      same : s.place + (s.synced - s.place) ≡ s.synced
      same = omega (arith, (sound.renamed renamed).1)

  pub sound-begin_checkpoint : s.begun ≡ false → s.window.is_open ≡ false → IsSound geometry (checkpoint_begun s)
  sound-begin_checkpoint fresh closed = record {
    oldest = sound.oldest;
    next = λ b. subst (λ (l : List Entry). Stands geometry s.window s.disk s.dirty l (s.synced - length s.log) (λ b. s.dirty b || s.dead b) s.wet) (sym (drop_all (length s.log) s.log (omega arith)))
        (stands-nothing geometry s.window s.disk s.dirty s.dead s.wet (s.synced - length s.log) (omega (arith, sound.oldest.within)) closed empty (λ b. sound.even b (ap (λ (us : List Entry). has_update us b) empty)) sound.clean sound.dry);
    shades = sound.shades;
    shades_next = λ b. subst (λ (l : List Entry). Shades s.window.draft s.dirty s.dead (λ b. s.dirty b || s.dead b) l) (sym (drop_all (length s.log) s.log (omega arith)))
        (subst (λ (us : List Entry). Shades us s.dirty s.dead (λ b. s.dirty b || s.dead b) []) (sym empty) (shades-nothing geometry s.dirty s.dead));
    lone = sound.lone;
    known = sound.known;
    still = sound.still;
    owing = λ b c h. h;
    gone = sound.gone;
    even = sound.even;
    before = sound.before;
    before_dry = sound.before_dry;
    owed_stale = λ begun c o h. absurd (true≢false (sym h ∙ ap (λ (us : List Entry). has_update us c) empty));
    spelled = sound.spelled;
    spelled_before = sound.spelled_before;
    clean = sound.clean;
    dry = sound.dry;
    closed = sound.closed;
    counts = sound.counts;
    synced = sound.synced;
    done = sound.done;
    sent = sound.sent;
    place = λ b. omega arith;
    entries = sound.entries;
    renamed = λ r. absurd (true≢false (sym (sound.renamed r).0 ∙ fresh));
    paid = λ r. absurd (true≢false (sym (sound.renamed r).0 ∙ fresh));
    replaced = sound.replaced;
  }
    where
      empty : s.window.draft ≡ []
      empty = sound.closed closed

-- dead bodies leave at the end of a sync
stands-buried : (geometry : Geometry) (w : Window) (disk : Disk) (dirty gone : Block → Bool) (l : List Entry) (d : ℕ) (owed owed' damp : Block → Bool) → ((sectors : SectorBytes) → CanLeave disk sectors → (s : ℕ) → sectors s ≡ seen disk s)
    → ((x : Block) → dirty x ≡ true → gone x ≡ false) → ((x : Block) → gone x ≡ false → owed' x ≡ false → owed x ≡ false) → ((x : Block) → gone x ≡ true → Loses l d x ⊎ (has_update l x ≡ false))
    → Stands geometry w disk dirty l d owed damp → Stands geometry (reread geometry disk gone w) disk dirty l d owed' damp
stands-buried geometry w disk dirty gone l d owed owed' damp only_seen kept paid loses st = record {
  within = st.within;
  whole = st.whole;
  drafts = st.drafts;
  tells = tells-reread geometry w disk gone l d st.within st.tells loses;
  ready = λ o c i within claimed. ready-reread geometry w disk gone l d st.within st.tells loses c i claimed (st.ready o c i within claimed);
  holds = λ c h e. st.holds c h (paid c (kept c h) e);
  reads = λ c e. reads (gone c) c refl e;
  backs = λ sectors c e dry left. backs (gone c) sectors c refl e dry left;
  fit_reads = λ c e. fit_reads (gone c) c refl e;
  fits = λ sectors c e dry left. fits (gone c) sectors c refl e dry left;
}
  where
    fit_reads : (v : Bool) (c : Block) → gone c ≡ v → owed' c ≡ false → Fits geometry (reread geometry disk gone w) l d (seen disk) c
    fit_reads true c is e = fits-reread geometry w disk gone l d st.within st.tells loses (seen disk) c is (λ s h. refl)
    fit_reads false c is e = fits-kept geometry w disk gone l d st.within st.tells loses (seen disk) c is (st.fit_reads c (paid c is e))

    fits : (v : Bool) (sectors : SectorBytes) (c : Block) → gone c ≡ v → owed' c ≡ false → damp c ≡ false → CanLeave disk sectors → Fits geometry (reread geometry disk gone w) l d sectors c
    fits true sectors c is e dry left = fits-reread geometry w disk gone l d st.within st.tells loses sectors c is (λ s h. only_seen sectors left s)
    fits false sectors c is e dry left = fits-kept geometry w disk gone l d st.within st.tells loses sectors c is (st.fits sectors c (paid c is e) dry left)

    reads : (v : Bool) (c : Block) → gone c ≡ v → owed' c ≡ false → Backs geometry (reread geometry disk gone w) l d (seen disk) c
    reads true c is e = backs-reread geometry w disk gone l d st.within st.tells loses (seen disk) c is (λ s h. refl)
    reads false c is e = backs-kept geometry w disk gone l d st.within st.tells loses (seen disk) c is (st.reads c (paid c is e))

    backs : (v : Bool) (sectors : SectorBytes) (c : Block) → gone c ≡ v → owed' c ≡ false → damp c ≡ false → CanLeave disk sectors → Backs geometry (reread geometry disk gone w) l d sectors c
    backs true sectors c is e dry left = backs-reread geometry w disk gone l d st.within st.tells loses sectors c is (λ s h. only_seen sectors left s)
    backs false sectors c is e dry left = backs-kept geometry w disk gone l d st.within st.tells loses sectors c is (st.backs sectors c (paid c is e) dry left)

pub sound-sync : (geometry : Geometry) (s : Store) → IsSound geometry s → (gone : Block → Bool) → MayBury (synced_store s) gone → IsSound geometry (buried geometry (synced_store s) gone)
sound-sync geometry s sound gone may = record {
  oldest = stands-buried geometry w disk s.dirty gone s.log s.done none none none only_seen kept (λ x h e. e) (λ x h. inl (may.lost x h))
      (stands-sync geometry s.window (commits (drop s.done s.log)) s.disk s.dirty s.log s.synced s.done none none none sound.oldest sound.synced (omega (arith, sound.done, sound.sent)) (λ p le. commits-drop_le s.log s.done p le));
  next = λ begun. stands-buried geometry w disk s.dirty gone (drop s.place s.log) (s.done - s.place) s.owed (λ x. not (gone x) && s.owed x) none only_seen kept (λ x h e. sym (not_false (gone x) (s.owed x) h) ∙ e) (lost_next begun)
      (stands-sync geometry s.window (commits (drop s.done s.log)) s.disk s.dirty (drop s.place s.log) (s.synced - s.place) (s.done - s.place) s.owed s.due none (sound.next begun)
      (omega (arith, sound.synced)) (omega (arith, length-drop s.place s.log, sound.done, sound.sent)) (λ p le. few p le));
  shades = shades-fewer geometry s.window.draft s.dirty s.dead none s.dirty (λ x. not (gone x) && s.dead x) none s.log sound.shades (λ b h. (h, λ o. o)) (λ x h. ((kept_true (gone x) (s.dead x) h).1, λ o. o));
  shades_next = λ begun. shades-fewer geometry s.window.draft s.dirty s.dead s.owed s.dirty (λ x. not (gone x) && s.dead x) (λ x. not (gone x) && s.owed x) (drop s.place s.log) (sound.shades_next begun)
      (λ b h. (h, λ o. not_false (gone b) (s.owed b) (kept b h) ∙ o)) (λ x h. let k = kept_true (gone x) (s.dead x) h in (k.1, λ o. not_false (gone x) (s.owed x) k.0 ∙ o));
  lone = sound.lone;
  known = sound.known;
  still = λ x h. sound.still x (kept_true (gone x) (s.dead x) h).1;
  owing = λ begun b h. let k = kept_true (gone b) (s.owed b) h in rw k.0 (sound.owing begun b k.1);
  gone = λ all x. none_left all x (gone x) refl (s.dead x) refl;
  clean = λ b i h dead within. shown (gone b) (seen disk) b i refl (leaves_seen disk) h dead within;
  dry = λ sectors b i h dead dry left within. shown (gone b) sectors b i refl left h dead within;
  before = λ b i h old within. undone_shown (seen s.disk) b i h (sound.before b i h old within);
  before_dry = λ sectors b i h old dry left within. let x = sound.before b i h old within in undone_shown sectors b i h
      (geometry.own b sectors (seen s.disk) i (λ n k. only_seen sectors left n) ∙ x.0, λ torn. x.1 (sym (geometry.own_torn b sectors (seen s.disk) (λ n k. only_seen sectors left n)) ∙ torn));
  owed_stale = λ begun b o h. sound.owed_stale begun b (kept_true (gone b) (s.owed b) o).1 h;
  spelled = λ b h. spelled b h (is_held s b) refl;
  spelled_before = λ b h old. ap (geometry.has_spelling b) (fun_ext (λ i. ap (unwrap_or (first_undo s.window.draft b i)) (kept_body b i (draft_kept b h)))) ∙ sound.spelled_before b h old;
  closed = sound.closed;
  even = λ b h. even b h (gone b) refl;
  counts = sym (length-take (commits (drop s.done s.log)) s.window.waiting ∙ omega (arith, commits-drop_le s.log s.synced s.done sound.synced, sound.counts));
  synced = omega arith;
  done = sound.done;
  sent = sound.sent;
  place = sound.place;
  entries = sound.entries;
  renamed = λ r. ((sound.renamed r).0, omega (arith, (sound.renamed r).1, sound.synced));
  paid = λ r b. (and_false (not (gone b)) (s.owed b) (sound.paid r b).0, refl);
  replaced = sound.replaced;
}
  where
    disk : Disk
    disk = settled s.disk

    w : Window
    w = after_sync s.window (commits (drop s.done s.log))

    only_seen : (sectors : SectorBytes) → CanLeave (settled s.disk) sectors → (n : ℕ) → sectors n ≡ seen (settled s.disk) n
    only_seen sectors left n = leaves_synced s.disk sectors left n

    few : (p : ℕ) → s.done - s.place ≤ p → commits (drop p (drop s.place s.log)) ≤ commits (drop s.done s.log)
    few p le = omega (arith, ap commits (drop-drop p s.place s.log), commits-drop_le s.log s.done (s.place + p) (omega arith))

    -- a dirty block isn't dead
    kept : (x : Block) → s.dirty x ≡ true → gone x ≡ false
    kept x h = go (gone x) refl
      where
        go : (v : Bool) → gone x ≡ v → gone x ≡ false
        go true k = absurd (true≢false (sym h ∙ or_left (s.dirty x) (has_update s.window.draft x) (sound.still x (may.dead x k))))
        go false k = k

    lost_next : s.begun ≡ true → (x : Block) → gone x ≡ true → Loses (drop s.place s.log) (s.done - s.place) x ⊎ (has_update (drop s.place s.log) x ≡ false)
    lost_next begun x h = ⊎_elim (λ k. inl (loses_rest s.log s.place s.done x k.0 (may.lost x h))) (λ k. inr k.1) ((sound.shades_next begun).of_dead x (may.dead x h))

    held_kept : (x : Block) → is_held s x ≡ true → gone x ≡ false
    held_kept x h = go (gone x) refl
      where
        go : (v : Bool) → gone x ≡ v → gone x ≡ false
        go true k = absurd (true≢false (sym h ∙ sound.still x (may.dead x k)))
        go false k = k

    kept_body : (b : Block) (i : ℕ) → gone b ≡ false → (reread geometry (settled s.disk) gone s.window).body b i ≡ s.window.body b i
    kept_body b i h = rw h refl

    spelled : (b : Block) → (is_held s b || (not (gone b) && s.dead b)) ≡ true → (v : Bool) → is_held s b ≡ v → geometry.has_spelling b ((reread geometry (settled s.disk) gone s.window).body b) ≡ true
    spelled b h true k = ap (geometry.has_spelling b) (fun_ext (λ i. kept_body b i (held_kept b k))) ∙ sound.spelled b (rw k refl)
    spelled b h false k = let p = kept_true (gone b) (s.dead b) (rw k at h) in ap (geometry.has_spelling b) (fun_ext (λ i. kept_body b i p.0)) ∙ sound.spelled b (or_second (is_held s b) (s.dead b) p.1)

    -- nor is one that the open transaction changed
    draft_kept : (x : Block) → has_update s.window.draft x ≡ true → gone x ≡ false
    draft_kept x h = go (gone x) refl
      where
        go : (v : Bool) → gone x ≡ v → gone x ≡ false
        go true k = absurd (true≢false (sym (or_second (s.dirty x) (has_update s.window.draft x) h) ∙ sound.still x (may.dead x k)))
        go false k = k

    undone_shown : (sectors : SectorBytes) (b : Block) (i : ℕ) → has_update s.window.draft b ≡ true → Shows geometry sectors b i (undone s.window.draft s.window.body) (s.window.was_torn 0)
        → Shows geometry sectors b i (undone s.window.draft (reread geometry (settled s.disk) gone s.window).body) ((reread geometry (settled s.disk) gone s.window).was_torn 0)
    undone_shown sectors b i h x = let k = draft_kept b h in
        (x.0 ∙ ap (unwrap_or (first_undo s.window.draft b i)) (let e : s.window.body b i ≡ (reread geometry (settled s.disk) gone s.window).body b i = rw k refl in e), λ torn. rw k (x.1 torn))

    none_left : s.done ≡ length s.log → (x : Block) (v : Bool) → gone x ≡ v → (d : Bool) → s.dead x ≡ d → (not (gone x) && s.dead x) ≡ false
    none_left all x true h d k = rw h refl
    none_left all x false h true k = absurd (true≢false (sym (may.all all x k) ∙ h))
    none_left all x false h false k = rw (h, k) refl

    even : (b : Block) → has_update s.window.draft b ≡ false → (v : Bool) → gone b ≡ v → (if gone b then geometry.torn b (seen (settled s.disk)) else s.window.was_torn 0 b) ≡ (if gone b then geometry.torn b (seen (settled s.disk)) else s.window.is_torn b)
    even b h true k = rw k refl
    even b h false k = rw k (sound.even b h)

    shown : (v : Bool) (sectors : SectorBytes) (b : Block) (i : ℕ) → gone b ≡ v → CanLeave (settled s.disk) sectors → s.dirty b ≡ false → (not (gone b) && s.dead b) ≡ false → i < geometry.size b
        → Shows geometry sectors b i (reread geometry (settled s.disk) gone s.window).body (reread geometry (settled s.disk) gone s.window).is_torn
    shown v sectors b i is left h dead within = go v is
      where
        same : geometry.decode b sectors i ≡ geometry.decode b (seen (settled s.disk)) i
        same = geometry.own b sectors (seen (settled s.disk)) i (λ n k. only_seen sectors left n)

        same_torn : geometry.torn b sectors ≡ geometry.torn b (seen (settled s.disk))
        same_torn = geometry.own_torn b sectors (seen (settled s.disk)) (λ n k. only_seen sectors left n)

        go : (v : Bool) → gone b ≡ v → Shows geometry sectors b i (reread geometry (settled s.disk) gone s.window).body (reread geometry (settled s.disk) gone s.window).is_torn
        go true k = rw k (same, λ torn. sym same_torn ∙ torn)
        go false k = let x = sound.clean b i h (sym (not_false (gone b) (s.dead b) k) ∙ dead) within in rw k (same ∙ x.0, λ torn. x.1 (sym same_torn ∙ torn))

-- a list's facts on a disk of which reads give the same, and of which a crash leaves no more
stands-again : (geometry : Geometry) (w : Window) (disk disk' : Disk) (dirty : Block → Bool) (l : List Entry) (d : ℕ) (owed damp : Block → Bool) → ◌≡◌ {A = SectorBytes} (seen disk') (seen disk) → ((at : SectorBytes) → CanLeave disk' at → CanLeave disk at)
    → Stands geometry w disk dirty l d owed damp → Stands geometry w disk' dirty l d owed damp
stands-again geometry w disk disk' dirty l d owed damp same leaves st = record {
  within = st.within;
  tells = st.tells;
  whole = st.whole;
  ready = st.ready;
  holds = st.holds;
  drafts = st.drafts;
  reads = λ b paid. subst (λ (f : SectorBytes). Backs geometry w l d f b) (sym same) (st.reads b paid);
  backs = λ at b paid dry left. st.backs at b paid dry (leaves at left);
  fit_reads = λ b paid. subst (λ (f : SectorBytes). Fits geometry w l d f b) (sym same) (st.fit_reads b paid);
  fits = λ at b paid dry left. st.fits at b paid dry (leaves at left);
}

pub sound-write_again : (geometry : Geometry) (s : Store) → IsSound geometry s → (disk : Disk) → StandsAs s.disk disk → IsSound geometry (record s { disk = disk })
sound-write_again geometry s sound disk stands = record {
  oldest = stands-again geometry s.window s.disk disk s.dirty s.log s.synced none none same stands.leaves sound.oldest;
  next = λ begun. stands-again geometry s.window s.disk disk s.dirty (drop s.place s.log) (s.synced - s.place) s.owed s.due same stands.leaves (sound.next begun);
  entries = sound.entries;
  shades = sound.shades;
  shades_next = sound.shades_next;
  lone = sound.lone;
  known = sound.known;
  still = sound.still;
  owing = sound.owing;
  gone = sound.gone;
  clean = λ b i h dead within. subst (λ (f : SectorBytes). Shows geometry f b i s.window.body s.window.is_torn) (sym same) (sound.clean b i h dead within);
  dry = λ at b i h dead dry left within. sound.dry at b i h dead dry (stands.leaves at left) within;
  before = λ b i h old within. subst (λ (f : SectorBytes). Shows geometry f b i (undone s.window.draft s.window.body) (s.window.was_torn 0)) (sym same) (sound.before b i h old within);
  before_dry = λ at b i h old dry left within. sound.before_dry at b i h old dry (stands.leaves at left) within;
  spelled = sound.spelled;
  spelled_before = sound.spelled_before;
  owed_stale = sound.owed_stale;
  closed = sound.closed;
  even = sound.even;
  counts = sound.counts;
  synced = sound.synced;
  done = sound.done;
  sent = sound.sent;
  place = sound.place;
  renamed = sound.renamed;
  paid = sound.paid;
  replaced = sound.replaced;
}
  where
    same : ◌≡◌ {A = SectorBytes} (seen disk) (seen s.disk)
    same = fun_ext (λ n. stands.seen n)

-- each event keeps the facts
pub sound-step : (geometry : Geometry) (s s' : Store) → Step geometry s s' → IsSound geometry s → IsSound geometry s'
sound-step geometry s s' (begin closed) sound = sound-begin geometry s sound closed
sound-step geometry s s' (change c ups may) sound = sound-change geometry s sound c ups may
sound-step geometry s s' (commit lsn previous opened) sound = sound-commit geometry s sound lsn previous opened
sound-step geometry s s' (give_up opened) sound = sound-give_up geometry s sound
sound-step geometry s s' (write_page m low high) sound = sound-write_page geometry s sound m low high
sound-step geometry s s' (write_page_fails m high) sound = sound-write_page_fails geometry s sound m high
sound-step geometry s s' (sync gone plain may) sound = sound-sync geometry s sound gone may
sound-step geometry s s' (sync_frees gone replaced may) sound = sound-freed geometry (buried geometry (synced_store s) gone) (sound-sync geometry s sound gone may) (sound.replaced replaced)
sound-step geometry s s' (write_out b new disk may spells puts) sound = sound-write_out geometry s b new disk may sound (puts_all geometry b new s.disk disk puts) puts spells
sound-step geometry s s' (write_out_fails b new disk may puts) sound = sound-put geometry s b new disk may sound puts
sound-step geometry s s' (write_again disk stands) sound = sound-write_again geometry s sound disk stands
sound-step geometry s s' (begin_checkpoint fresh closed) sound = sound-begin_checkpoint geometry s sound fresh closed
sound-step geometry s s' (write_restart may) sound = sound-write_restart geometry s sound may true
sound-step geometry s s' (write_restart_fails may) sound = sound-write_restart geometry s sound may s.replaced

-- What may be written out has a body that sectors can hold.
pub may_spell : (geometry : Geometry) (s : Store) → IsSound geometry s → (b : Block) → MayWriteOut s b → geometry.has_spelling b (s.window.body b) ≡ true
may_spell geometry s sound b may = sound.spelled b (rw may.dirty refl)

-- Where all entries are durable and no transaction is open, each block that a checkpoint still owes may be written out.
pub never_waits : (geometry : Geometry) (s : Store) → IsSound geometry s → s.begun ≡ true → s.synced ≡ length s.log → s.window.is_open ≡ false → (b : Block) → s.owed b ≡ true → MayWriteOut s b
never_waits geometry s sound begun all closed b owed = record {
  free = ap (λ (us : List Entry). has_update us b) (sound.closed closed);
  settled = λ us m. absurd (omega (arith, m.1, sound.counts, ap commits (drop_all s.synced s.log (omega (arith, all)))));
  dirty = is_dirty (s.dirty b) (s.dead b) (sound.owing begun b owed) (sound.gone all b);
  logged = ap (λ (xs : List Entry). has_update xs b) (drop_all s.synced s.log (omega (arith, all)));
}
  where
    is_dirty : (d e : Bool) → (d || e) ≡ true → e ≡ false → d ≡ true
    is_dirty true e h k = refl
    is_dirty false e h k = absurd (true≢false (sym h ∙ k))

-- at the end of a sync a store can always do what it must: all dead bodies may leave where all entries are durable
pub may_bury : (geometry : Geometry) (s : Store) → IsSound geometry s → s.done ≡ length s.log → MayBury (synced_store s) s.dead
may_bury geometry s sound all = record {
  dead = λ x h. h;
  lost = λ x h. ⊎_elim (λ k. loses_all s.log s.done x all k.1) (λ k. absurd (true≢false (sym k.0))) (sound.shades.of_dead x h);
  all = λ e x h. h;
}

pub may_keep : (s : Store) → (s.done ≢ length s.log) → MayBury (synced_store s) none
may_keep s more = record { dead = λ x h. absurd (true≢false (sym h)); lost = λ x h. absurd (true≢false (sym h)); all = λ e. absurd (more e) }
