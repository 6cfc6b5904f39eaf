-- What each event does to the window of a store.
use Rattle.std.proofs.Common.{◌≡◌, ℕ, ◌+◌, ◌*◌, ◌<◌, ◌≤◌, Bool, true, false, ◌&&◌, List, [], ◌∷◌, length, slice_index, Option, Some, None, refl, sym, ◌∙◌, ap, arith}
use Rattle.std.specs.Prelude.{unwrap_or, if◌then◌else◌}
use Rattle.std.proofs.lemmas.List.{ext_get_or}
use mathlib.Core.Path.{fun_ext}
use Rattle.log_model.specs.disk_model.declared.block.Block.{Block}
use Rattle.log_model.specs.disk_model.declared.block.Body.{Body}
use Rattle.log_model.specs.disk_model.Sectors.{sectors, same_block, are_rivals}
use Rattle.log_model.specs.disk_model.Content.{content_of}
use Rattle.log_model.specs.disk_model.Writes.{overlay, bytes_after}
use Rattle.fixup_record.proofs.disk_model.Frames.{byte_after, length-bytes_after}
use Rattle.sector_device.specs.Disks.{Disk, seen}
use Rattle.log_model.specs.declared.entry.Entry.{Entry}
use Rattle.log_model.specs.Logs.{covers, redo_byte, last_redo, redos}
use Rattle.log_model.proofs.Recovering.{last_put-redos}
use Rattle.store_model.specs.Logs.{AllBytes, BodyBytes, undone}
use Rattle.store_model.specs.Geometry.{Geometry}
use Rattle.store_model.specs.Stores.{Window, Store, member, IsSound}
use Rattle.store_model.specs.Events.{after_change, after_changes, after_give_up, reread, Step}
use Rattle.store_model.specs.Events.Step.{begin, change, commit, give_up, write_page, write_page_fails, sync, sync_frees, write_out, write_out_fails, write_again, begin_checkpoint, write_restart, write_restart_fails}
use Rattle.store_model.specs.Runs.{commits_of, harms, alters}
use Rattle.store_model.specs.Volumes.{first_bytes, content_with, window_of, IsVolume, AreWhole}
use Rattle.store_model.specs.Laws.{WindowsMove}
use Rattle.store_model.proofs.Told.{true≢false, same_self}
use Rattle.store_model.proofs.Lost.{none_covered}
use Rattle.store_model.proofs.Window.{back-zero, unwrap_or-option_or}
use Rattle.store_model.proofs.Pieces.{body_elsewhere}
use Rattle.store_model.proofs.Runs.{moves-step, fewer-step}
use Rattle.store_model.proofs.Volumes.{length-first_bytes, first_at, content_size}

abbrev make : List ℕ → Bool → Body
make bytes torn = record { bytes = bytes; torn = torn }

-- equal bytes, and equally torn
same_content : (bytes bytes' : AllBytes) (torn torn' : Block → Bool) (b : Block) → ((i : ℕ) → bytes' b i ≡ bytes b i) → torn' b ≡ torn b → content_with bytes' torn' b ≡ content_with bytes torn b
same_content bytes bytes' torn torn' b same e =
    ap (λ (f : BodyBytes). make (first_bytes (512 * sectors b.kind) f) (torn' b)) (fun_ext same) ∙ ap (λ (t : Bool). make (first_bytes (512 * sectors b.kind) (bytes b)) t) e

members : (geometry : Geometry) (s s' : Store) (step : Step geometry s s') (b : Block) → harms geometry s s' step b ≡ false → (k : ℕ) → commits_of geometry s s' step + k ≤ (window_of s'.window).waiting
    → (k ≤ (window_of s.window).waiting) × ((window_of s'.window).before (commits_of geometry s s' step + k) b ≡ (window_of s.window).before k b)
members geometry s s' step b h k le =
    let n = commits_of geometry s s' step in
    let moved = (moves-step geometry s s' step b h).each k in
    ((moved 0 le).0, same_content (member s.window k) (member s'.window (n + k)) (s.window.was_torn k) (s'.window.was_torn (n + k)) b (λ i. (moved i le).1) (moved 0 le).2)

-- ---- present bodies

torn_elsewhere : (w : Window) (c : Block) (us : List Entry) (b : Block) → same_block b c ≡ false → (after_changes w c us).is_torn b ≡ w.is_torn b
torn_elsewhere w c [] b apart = refl
torn_elsewhere w c (up ∷ us) b apart = torn_elsewhere (after_change w c up) c us b apart ∙ rw apart refl

-- bodies that aren't lost
kept : (geometry : Geometry) (disk : Disk) (lost : Block → Bool) (w w' : Window) (b : Block) → w'.body b ≡ w.body b → w'.is_torn b ≡ w.is_torn b → lost b ≡ false → (window_of (reread geometry disk lost w')).present b ≡ (window_of w).present b
kept geometry disk lost w w' b bytes torn h =
    same_content w.body (reread geometry disk lost w').body w.is_torn (reread geometry disk lost w').is_torn b (λ i. (let e : (reread geometry disk lost w').body b i ≡ w'.body b i = rw h refl in e) ∙ ap (λ (f : BodyBytes). f i) bytes)
    ((let e : (reread geometry disk lost w').is_torn b ≡ w'.is_torn b = rw h refl in e) ∙ torn)

present : (geometry : Geometry) (s s' : Store) (step : Step geometry s s') → IsSound geometry s → (b : Block) → alters geometry s s' step b ≡ false → (window_of s'.window).present b ≡ (window_of s.window).present b
present geometry s s' (begin a) sound b h = refl
present geometry s s' (change c us may) sound b h = same_content s.window.body (after_changes s.window c us).body s.window.is_torn (after_changes s.window c us).is_torn b (λ i. body_elsewhere s.window c us b i may.old h) (torn_elsewhere s.window c us b h)
present geometry s s' (commit lsn previous a) sound b h = refl
present geometry s s' (give_up a) sound b h = same_content s.window.body (after_give_up s.window).body s.window.is_torn (after_give_up s.window).is_torn b
    (λ i. ap (λ (o : Option ℕ). unwrap_or o (s.window.body b i)) (none_covered s.window.draft b i h)) (sound.even b h)
present geometry s s' (write_page m a d) sound b h = refl
present geometry s s' (write_page_fails m a) sound b h = refl
present geometry s s' (sync gone a may) sound b h = kept geometry s'.disk gone s.window s.window b refl refl h
present geometry s s' (sync_frees gone a may) sound b h = kept geometry s'.disk gone s.window s.window b refl refl h
present geometry s s' (write_out c new disk may spells puts) sound b h = kept geometry disk (are_rivals c) s.window s.window b refl refl h
present geometry s s' (write_out_fails c new disk may puts) sound b h = kept geometry disk (are_rivals c) s.window s.window b refl refl h
present geometry s s' (write_again disk a) sound b h = refl
present geometry s s' (begin_checkpoint a d) sound b h = refl
present geometry s s' (write_restart a) sound b h = refl
present geometry s s' (write_restart_fails a) sound b h = refl

-- bodies that are what a read gives
read_again : (own : ℕ → Bool) (geometry : Geometry) → IsVolume own geometry → (disk : Disk) (lost : Block → Bool) (w : Window) (b : Block) → lost b ≡ true → AreWhole (seen disk)
    → (window_of (reread geometry disk lost w)).present b ≡ content_of (seen disk) b
read_again own geometry volume disk lost w b h whole = ap (λ (x : List ℕ). make x ((reread geometry disk lost w).is_torn b)) bytes ∙ ap (λ (t : Bool). make (content_of (seen disk) b).bytes t) torn
  where
    n : ℕ
    n = 512 * sectors b.kind

    size : length (content_of (seen disk) b).bytes ≡ 512 * sectors b.kind
    size = content_size (seen disk) b whole

    torn : (reread geometry disk lost w).is_torn b ≡ (content_of (seen disk) b).torn
    torn = (let e : (reread geometry disk lost w).is_torn b ≡ geometry.torn b (seen disk) = rw h refl in e) ∙ volume.torn b (seen disk)

    byte : (i : ℕ) → (reread geometry disk lost w).body b i ≡ slice_index (content_of (seen disk) b).bytes i
    byte i = (let e : (reread geometry disk lost w).body b i ≡ geometry.decode b (seen disk) i = rw h refl in e) ∙ volume.decode b (seen disk) i

    bytes : first_bytes (512 * sectors b.kind) ((reread geometry disk lost w).body b) ≡ (content_of (seen disk) b).bytes
    bytes = ext_get_or 0 (first_bytes (512 * sectors b.kind) ((reread geometry disk lost w).body b)) (content_of (seen disk) b).bytes (length-first_bytes (512 * sectors b.kind) ((reread geometry disk lost w).body b) ∙ sym size)
        (λ i lt. first_at (512 * sectors b.kind) ((reread geometry disk lost w).body b) i (omega (arith, lt, length-first_bytes (512 * sectors b.kind) ((reread geometry disk lost w).body b))) ∙ byte i)

harmed : (own : ℕ → Bool) (geometry : Geometry) → IsVolume own geometry → (s s' : Store) (step : Step geometry s s') (b : Block) → harms geometry s s' step b ≡ true → AreWhole (seen s'.disk)
    → (window_of s'.window).present b ≡ content_of (seen s'.disk) b
harmed own geometry volume s s' (begin a) b h whole = absurd (true≢false (sym h))
harmed own geometry volume s s' (change c us may) b h whole = absurd (true≢false (sym h))
harmed own geometry volume s s' (commit lsn previous a) b h whole = absurd (true≢false (sym h))
harmed own geometry volume s s' (give_up a) b h whole = absurd (true≢false (sym h))
harmed own geometry volume s s' (write_page m a d) b h whole = absurd (true≢false (sym h))
harmed own geometry volume s s' (write_page_fails m a) b h whole = absurd (true≢false (sym h))
harmed own geometry volume s s' (sync gone a may) b h whole = read_again own geometry volume s'.disk gone s.window b h whole
harmed own geometry volume s s' (sync_frees gone a may) b h whole = read_again own geometry volume s'.disk gone s.window b h whole
harmed own geometry volume s s' (write_out c new disk may spells puts) b h whole = read_again own geometry volume disk (are_rivals c) s.window b h whole
harmed own geometry volume s s' (write_out_fails c new disk may puts) b h whole = read_again own geometry volume disk (are_rivals c) s.window b h whole
harmed own geometry volume s s' (write_again disk a) b h whole = absurd (true≢false (sym h))
harmed own geometry volume s s' (begin_checkpoint a d) b h whole = absurd (true≢false (sym h))
harmed own geometry volume s s' (write_restart a) b h whole = absurd (true≢false (sym h))
harmed own geometry volume s s' (write_restart_fails a) b h whole = absurd (true≢false (sym h))

-- ---- a change

changed_bytes : (w : Window) (c : Block) (us : List Entry) (b : Block) (i : ℕ) → (after_changes w c us).body b i ≡ unwrap_or (last_redo (λ tx. true) us b i) (w.body b i)
changed_bytes w c [] b i = refl
changed_bytes w c (up ∷ us) b i =
    changed_bytes (after_change w c up) c us b i
    ∙ ap (unwrap_or (last_redo (λ tx. true) us b i)) (one (covers b i up.act) (redo_byte up.act i) (w.body b i))
    ∙ sym (unwrap_or-option_or (last_redo (λ tx. true) us b i) (if covers b i up.act && true then Some (redo_byte up.act i) else None) (w.body b i))
  where
    one : (v : Bool) (x y : ℕ) → (if v then x else y) ≡ unwrap_or (if v && true then Some x else None) y
    one true x y = refl
    one false x y = refl

change_is_overlay : (w : Window) (c : Block) (us : List Entry) (b : Block) → ((window_of (after_changes w c us)).present b).bytes ≡ (overlay (window_of w).present (redos (λ tx. true) us) b).bytes
change_is_overlay w c us b =
    ext_get_or 0 (first_bytes (512 * sectors b.kind) ((after_changes w c us).body b)) (bytes_after (redos (λ tx. true) us) b (first_bytes (512 * sectors b.kind) (w.body b)))
    (size ((after_changes w c us).body b) ∙ sym (length-bytes_after (redos (λ tx. true) us) b (first_bytes (512 * sectors b.kind) (w.body b)) ∙ size (w.body b)))
    (λ i lt. byte i (omega (arith, lt, size ((after_changes w c us).body b))))
  where
    size : (f : BodyBytes) → length (first_bytes (512 * sectors b.kind) f) ≡ 512 * sectors b.kind
    size f = length-first_bytes (512 * sectors b.kind) f

    byte : (i : ℕ) → i < 512 * sectors b.kind → slice_index (first_bytes (512 * sectors b.kind) ((after_changes w c us).body b)) i ≡ slice_index (bytes_after (redos (λ tx. true) us) b (first_bytes (512 * sectors b.kind) (w.body b))) i
    byte i lt =
        first_at (512 * sectors b.kind) ((after_changes w c us).body b) i lt
        ∙ changed_bytes w c us b i
        ∙ ap (unwrap_or (last_redo (λ tx. true) us b i)) (sym (first_at (512 * sectors b.kind) (w.body b) i lt))
        ∙ ap (λ (o : Option ℕ). unwrap_or o (slice_index (first_bytes (512 * sectors b.kind) (w.body b)) i)) (sym (last_put-redos (λ tx. true) us b i))
        ∙ sym (byte_after (redos (λ tx. true) us) b (first_bytes (512 * sectors b.kind) (w.body b)) i (omega (arith, lt, size (w.body b))))

torn_no_more : (w : Window) (c : Block) (us : List Entry) → w.is_torn c ≡ false → (after_changes w c us).is_torn c ≡ false
torn_no_more w c [] h = h
torn_no_more w c (up ∷ us) h = torn_no_more (after_change w c up) c us (rw (same_self c) refl)

changed_whole : (w : Window) (c : Block) (us : List Entry) → 0 < length us → (after_changes w c us).is_torn c ≡ false
changed_whole w c [] some = absurd (omega (arith, some))
changed_whole w c (up ∷ us) some = torn_no_more (after_change w c up) c us (rw (same_self c) refl)

pub windows_move_law : WindowsMove
windows_move_law = record {
  members = members;
  waiting = fewer-step;
  present = present;
  harmed = harmed;
  change = λ geometry s c us may b. change_is_overlay s.window c us b;
  whole = λ geometry s c us may. changed_whole s.window c us may.some;
  commit = λ w b. refl;
  give_up = λ w b. same_content (member w 0) (after_give_up w).body (w.was_torn 0) (after_give_up w).is_torn b (λ i. ap (λ (bytes : AllBytes). bytes b i) (sym (back-zero w.waiting (undone w.draft w.body)))) refl;
}
