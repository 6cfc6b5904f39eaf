-- Whole runs.
use Rattle.std.proofs.Common.{◌≡◌, ◌⊎◌, inl, inr, ℕ, suc, ◌+◌, ◌-◌, ◌<◌, ◌≤◌, Bool, false, List, length, drop, refl, sym, ◌∙◌, ap, arith, length-take}
use Rattle.std.specs.Prelude.{unwrap_or}
use Rattle.log_model.specs.disk_model.declared.block.Block.{Block}
use Rattle.log_model.specs.disk_model.Sectors.{are_rivals}
use Rattle.sector_device.specs.Disks.{Disk, seen}
use Rattle.log_model.specs.declared.entry.Entry.{Entry}
use Rattle.log_model.specs.Logs.{first_undo}
use Rattle.store_model.specs.Logs.{AllBytes, commits, undone, back}
use Rattle.store_model.specs.Geometry.{Geometry}
use Rattle.store_model.specs.Stores.{Window, member, Store, IsSound, none, Restores, RecoversTo, list_of}
use Rattle.store_model.specs.Events.{after_sync, reread, synced_store, Step}
use Rattle.store_model.specs.Events.Step.{begin, change, commit, give_up, write_page, write_page_fails, sync, sync_frees, write_out, write_out_fails, write_again, begin_checkpoint, write_restart, write_restart_fails}
use Rattle.store_model.specs.Runs.{commits_of, Run, harms, Spares, mounted, Bears, Moves, SinceThen}
use Rattle.store_model.specs.Runs.Run.{start, on}
use Rattle.store_model.proofs.Told.{true≢false}
use Rattle.store_model.proofs.Pieces.{changes_same}
use Rattle.store_model.proofs.Window.{window-sync, back_at}
use Rattle.store_model.proofs.Sound.{sound-step}
use Rattle.store_model.proofs.Stands.{stands-nothing}
use Rattle.store_model.proofs.Shaded.{shades-nothing}
use Rattle.store_model.proofs.Main.{refines}
use Rattle.store_model.proofs.Disks.{leaves_seen}

-- a window that has the same members
stays : (before after : Window) (b : Block) → after.waiting ≡ before.waiting → ((i : ℕ) → undone after.draft after.body b i ≡ undone before.draft before.body b i) → ((k : ℕ) → after.was_torn k b ≡ before.was_torn k b) → Moves 0 before after b
stays before after b waits same torn = record {
  each = λ k i le. (
    omega (arith, le, ap length waits),
    ap (λ (ws : List (List Entry)). back ws (0 + k) (undone after.draft after.body) b i) waits
        ∙ back_at before.waiting (0 + k) (undone after.draft after.body) (undone before.draft before.body) b i (same i) ∙ ap (λ (n : ℕ). member before n b i) (let e : 0 + k ≡ k = omega arith in e),
    torn (0 + k) ∙ ap (λ (n : ℕ). before.was_torn n b) (let e : 0 + k ≡ k = omega arith in e),
  );
}

moves-sync : (w : Window) (m : ℕ) (b : Block) → Moves 0 w (after_sync w m) b
moves-sync w m b = record {
  each = λ k i le. (
    omega (arith, le, length-take m w.waiting),
    ap (λ (n : ℕ). member (after_sync w m) n b i) (let e : 0 + k ≡ k = omega arith in e)
        ∙ ap (λ (c : AllBytes). c b i) (window-sync m w.waiting k (undone w.draft w.body) (omega (arith, le, length-take m w.waiting))),
    ap (λ (n : ℕ). w.was_torn n b) (let e : 0 + k ≡ k = omega arith in e),
  );
}

-- bodies that are spared
spared : (geometry : Geometry) (disk : Disk) (lost : Block → Bool) (w : Window) (b : Block) → lost b ≡ false → Moves 0 w (reread geometry disk lost w) b
spared geometry disk lost w b h = stays w (reread geometry disk lost w) b refl (λ i. ap (unwrap_or (first_undo w.draft b i)) (rw h refl)) (λ k. rw h refl)

pub moves-trans : (m n : ℕ) (a b c : Window) (x : Block) → Moves n a b x → Moves m b c x → Moves (m + n) a c x
moves-trans m n a b c x first next = record {
  each = λ k i le. let to = next.each (n + k) i (omega (arith, le)) in let back_to = first.each k i to.0 in (
    back_to.0,
    ap (λ (j : ℕ). member c j x i) (let e : m + n + k ≡ m + (n + k) = omega arith in e) ∙ to.1 ∙ back_to.1,
    ap (λ (j : ℕ). c.was_torn j x) (let e : m + n + k ≡ m + (n + k) = omega arith in e) ∙ to.2 ∙ back_to.2,
  );
}

-- after a sync some dead bodies leave
moves-bury : (geometry : Geometry) (s : Store) (gone : Block → Bool) (b : Block) → gone b ≡ false → Moves 0 s.window (reread geometry (synced_store s).disk gone (synced_store s).window) b
moves-bury geometry s gone b h = moves-trans 0 0 s.window (synced_store s).window (reread geometry (synced_store s).disk gone (synced_store s).window) b (moves-sync s.window (commits (drop s.done s.log)) b) (spared geometry (synced_store s).disk gone (synced_store s).window b h)

pub moves-step : (geometry : Geometry) (s s' : Store) (step : Step geometry s s') (b : Block) → harms geometry s s' step b ≡ false → Moves (commits_of geometry s s' step) s.window s'.window b
moves-step geometry s s' (begin a) b h = stays s.window s'.window b refl (λ i. refl) (λ k. refl)
moves-step geometry s s' (change c us may) b h = let same = changes_same s.window c us may.old in stays s.window s'.window b same.1 (λ i. ap (λ (x : AllBytes). x b i) same.0) (λ k. ap (λ (f : ℕ → Block → Bool). f k b) same.2)
moves-step geometry s s' (commit lsn previous a) b h = record { each = λ k i le. (omega (arith, le), ap (λ (n : ℕ). member s'.window n b i) (let e : 1 + k ≡ suc k = omega arith in e), ap (λ (n : ℕ). s'.window.was_torn n b) (let e : 1 + k ≡ suc k = omega arith in e)) }
moves-step geometry s s' (give_up a) b h = stays s.window s'.window b refl (λ i. refl) (λ k. refl)
moves-step geometry s s' (write_page a d c) b h = stays s.window s'.window b refl (λ i. refl) (λ k. refl)
moves-step geometry s s' (write_page_fails a d) b h = stays s.window s'.window b refl (λ i. refl) (λ k. refl)
moves-step geometry s s' (sync gone a may) b h = moves-bury geometry s gone b h
moves-step geometry s s' (sync_frees gone a may) b h = moves-bury geometry s gone b h
moves-step geometry s s' (write_out c new disk may spells puts) b h = spared geometry disk (are_rivals c) s.window b h
moves-step geometry s s' (write_out_fails c new disk may puts) b h = spared geometry disk (are_rivals c) s.window b h
moves-step geometry s s' (write_again disk a) b h = stays s.window s'.window b refl (λ i. refl) (λ k. refl)
moves-step geometry s s' (begin_checkpoint a d) b h = stays s.window s'.window b refl (λ i. refl) (λ k. refl)
moves-step geometry s s' (write_restart a) b h = stays s.window s'.window b refl (λ i. refl) (λ k. refl)
moves-step geometry s s' (write_restart_fails a) b h = stays s.window s'.window b refl (λ i. refl) (λ k. refl)

pub moves-run : (geometry : Geometry) (s : Store) (n : ℕ) (t : Store) (run : Run geometry s n t) (b : Block) → Spares geometry s n t run b → Moves n s.window t.window b
moves-run geometry s n t start b spares = stays s.window s.window b refl (λ i. refl) (λ k. refl)
moves-run geometry s n t (on m u v run step) b spares = moves-trans (commits_of geometry u t step) m s.window u.window t.window b (moves-run geometry s m u run b spares.0) (moves-step geometry u t step b spares.1)

-- how many commits of before are left doesn't hang on the block
pub fewer-step : (geometry : Geometry) (s s' : Store) (step : Step geometry s s') → length s'.window.waiting ≤ commits_of geometry s s' step + length s.window.waiting
fewer-step geometry s s' (begin a) = omega arith
fewer-step geometry s s' (change c us may) = omega (arith, ap length (changes_same s.window c us may.old).1)
fewer-step geometry s s' (commit lsn previous a) = omega arith
fewer-step geometry s s' (give_up a) = omega arith
fewer-step geometry s s' (write_page a d c) = omega arith
fewer-step geometry s s' (write_page_fails a d) = omega arith
fewer-step geometry s s' (sync gone a may) = omega (arith, length-take (commits (drop s.done s.log)) s.window.waiting)
fewer-step geometry s s' (sync_frees gone a may) = omega (arith, length-take (commits (drop s.done s.log)) s.window.waiting)
fewer-step geometry s s' (write_out c new disk may spells puts) = omega arith
fewer-step geometry s s' (write_out_fails c new disk may puts) = omega arith
fewer-step geometry s s' (write_again disk a) = omega arith
fewer-step geometry s s' (begin_checkpoint a d) = omega arith
fewer-step geometry s s' (write_restart a) = omega arith
fewer-step geometry s s' (write_restart_fails a) = omega arith

pub sound-run : (geometry : Geometry) (s : Store) (n : ℕ) (t : Store) → Run geometry s n t → IsSound geometry s → IsSound geometry t
sound-run geometry s n t start sound = sound
sound-run geometry s n t (on m u v run step) sound = sound-step geometry u t step (sound-run geometry s m u run sound)

fewer-run : (geometry : Geometry) (s : Store) (n : ℕ) (t : Store) → Run geometry s n t → length t.window.waiting ≤ n + length s.window.waiting
fewer-run geometry s n t start = omega arith
fewer-run geometry s n t (on m u v run step) = omega (arith, fewer-run geometry s m u run, fewer-step geometry u t step)

-- every image that a crash may leave, seen from every earlier moment
pub since-run : (geometry : Geometry) (s : Store) (n : ℕ) (t : Store) → IsSound geometry s → (run : Run geometry s n t) → SinceThen geometry s n t run
since-run geometry s n t sound run image left = place (cases r.0)
  where
    r : (k : ℕ) × (k ≤ length t.window.waiting) × RecoversTo geometry t image (member t.window k) (t.window.was_torn k)
    r = refines geometry t (sound-run geometry s n t run sound) image left

    cases : (k : ℕ) → (k < n) ⊎ (n + (k - n) ≡ k)
    cases k = grind arith

    place : (r.0 < n) ⊎ (n + (r.0 - n) ≡ r.0) → ((k : ℕ) × (k < n) × (k ≤ length t.window.waiting) × RecoversTo geometry t image (member t.window k) (t.window.was_torn k))
        ⊎ ((k : ℕ) × (k ≤ length s.window.waiting) × ((b : Block) → Spares geometry s n t run b → Restores geometry (list_of t image) image.sectors b (member s.window k) (s.window.was_torn k)))
    place (inl new) = inl (r.0, new, r.1, r.2)
    place (inr old) = inr (
      r.0 - n,
      omega (arith, old, r.1, fewer-run geometry s n t run),
      λ b spares.
          let moved = (moves-run geometry s n t run b spares).each (r.0 - n) in
          record {
            same = λ i within claimed. (r.2 b).same i within claimed ∙ ap (λ (m : ℕ). member t.window m b i) (sym old) ∙ (moved i (omega (arith, old, r.1))).1;
            torn_most = λ i within claimed none torn. sym (ap (λ (m : ℕ). t.window.was_torn m b) (sym old) ∙ (moved i (omega (arith, old, r.1))).2) ∙ (r.2 b).torn_most i within claimed none torn;
          },
    )

pub sound-mounted : (geometry : Geometry) (tx : ℕ) (body : AllBytes) (torn : Block → Bool) (disk : Disk) → Bears geometry disk body torn → IsSound geometry (mounted tx body torn disk)
sound-mounted geometry tx body torn disk bears = record {
  oldest = stands-nothing geometry (mounted tx body torn disk).window disk none none none 0 (omega arith) refl refl (λ b. refl)
      (λ b i h dead within. bears (seen disk) b i (leaves_seen disk) within) (λ sectors b i h dead dry left within. bears sectors b i left within);
  next = λ b. absurd (true≢false (sym b));
  shades = shades-nothing geometry none none;
  shades_next = λ b. absurd (true≢false (sym b));
  lone = λ b x rival h. refl;
  known = λ b h. absurd (true≢false (sym h));
  still = λ x h. refl;
  owing = λ b. absurd (true≢false (sym b));
  gone = λ all x. refl;
  even = λ b h. refl;
  before = λ b i h. absurd (true≢false (sym h));
  before_dry = λ sectors b i h. absurd (true≢false (sym h));
  owed_stale = λ b. absurd (true≢false (sym b));
  spelled = λ b h. absurd (true≢false (sym h));
  spelled_before = λ b h. absurd (true≢false (sym h));
  clean = λ b i h dead within. bears (seen disk) b i (leaves_seen disk) within;
  dry = λ sectors b i h dead dry left within. bears sectors b i left within;
  closed = λ e. refl;
  counts = refl;
  synced = omega arith;
  done = omega arith;
  sent = omega arith;
  place = λ b. absurd (true≢false (sym b));
  entries = tt;
  renamed = λ r. absurd (true≢false (sym r));
  paid = λ r. absurd (true≢false (sym r));
  replaced = λ r. absurd (true≢false (sym r));
}

-- whatever happens after a mount, and whenever a crash comes
pub crash_refinement_lem : (geometry : Geometry) (tx : ℕ) (body : AllBytes) (torn : Block → Bool) (disk : Disk) → Bears geometry disk body torn
    → (m n : ℕ) (t u : Store) → Run geometry (mounted tx body torn disk) m t → (run : Run geometry t n u) → SinceThen geometry t n u run
crash_refinement_lem geometry tx body torn disk bears m n t u before after =
    since-run geometry t n u (sound-run geometry (mounted tx body torn disk) m t before (sound-mounted geometry tx body torn disk bears)) after
