-- What each event does to the claims of a store.
use Rattle.std.proofs.Common.{◌≡◌, ℕ, suc, ◌-◌, ◌≤◌, Bool, true, false, List, [], ◌∷◌, ◌++◌, length, drop, refl, sym, ◌∙◌, ap, ap₂, subst, arith}
use Rattle.std.specs.Prelude.{◌&&◌, ◌||◌, not}
use Rattle.std.proofs.lemmas.List.{drop_all, drop-append-le}
use mathlib.Core.Path.{fun_ext}
use Rattle.store_model.specs.disk_model.declared.block.Block.{Block}
use Rattle.store_model.specs.disk_model.Sectors.{same_block, are_rivals}
use Rattle.store_model.proofs.disk_model.Frames.{same_block-is}
use Rattle.store_model.specs.sector_device.Disks.{Disk}
use Rattle.store_model.specs.log_model.declared.entry.Entry.{Entry}
use Rattle.store_model.specs.Logs.{AllBytes, AreUpdates, commit_by}
use Rattle.store_model.specs.Geometry.{Geometry}
use Rattle.store_model.specs.Stores.{Window, Store, IsSound}
use Rattle.store_model.specs.Events.{after_change, after_changes, changed_store, checkpoint_begun, MayChange, Step}
use Rattle.store_model.specs.Events.Step.{begin, change, commit, give_up, write_page, write_page_fails, sync, sync_frees, write_out, write_out_fails, write_again, begin_checkpoint, write_restart, write_restart_fails}
use Rattle.store_model.specs.Runs.{mounted}
use Rattle.store_model.proofs.Told.{true≢false, rivals_both}
use Rattle.store_model.proofs.Pieces.{are_updates}
use Rattle.store_model.proofs.Sound.{sound-step}
use Rattle.store_claims.specs.Claims.{claims_in, claims_with, IsClaimedIn, IsClaimedWith, claims, IsClaimedBack, will, WillBeClaimed, claims_of}
use Rattle.store_claims.specs.Moves.{Keeps, ClaimsStay, ClaimsAfterChange, ClaimsAfterCommit, ClaimsAfter}
use Rattle.store_claims.specs.Laws.{ClaimsMove}
use Rattle.store_claims.proofs.Lists.{claimed_later, claimed_empty, claimed_whole, with_unnamed, with_empty, commit_older, commit_newest, change_claimed, change_own, change_other}
use Rattle.store_claims.proofs.Agreeing.{in_from, with_from, back_gives, back_from, will_gives, will_from}

-- ---- where no transaction is open

closed_back : (geometry : Geometry) (s : Store) → IsSound geometry s → s.window.is_open ≡ false → (b : Block) → IsClaimedBack s 0 b → WillBeClaimed s b
closed_back geometry s sound closed b claimed = (
  with_unnamed s.window.tx s.log b (sound.oldest.tells.unused closed) (claimed_whole s.log s.synced b sound.oldest.within claimed.0),
  λ begun. let next = sound.next begun in
      with_unnamed s.window.tx (drop s.place s.log) b (next.tells.unused closed) (claimed_whole (drop s.place s.log) (s.synced - s.place) b next.within (claimed.1 begun)),
)

pub closed : (geometry : Geometry) (s : Store) → IsSound geometry s → s.window.is_open ≡ false → Keeps (claims s 0) (will s)
closed geometry s sound is b h = will_from s b (closed_back geometry s sound is b (back_gives s 0 b h))

-- ---- a change

tx_same : (w : Window) (c : Block) (us : List Entry) → (after_changes w c us).tx ≡ w.tx
tx_same w c [] = refl
tx_same w c (up ∷ us) = tx_same (after_change w c up) c us

module _ (geometry : Geometry) (s : Store) (sound : IsSound geometry s) (c : Block) (us : List Entry) (may : MayChange geometry s c us) where
  abbrev t : Store
  t = changed_store s c us

  are : AreUpdates s.window.tx c us
  are = are_updates s.window c us may.old

  -- the noted list grows as the whole one
  next_list : s.begun ≡ true → drop s.place s.log ++ us ≡ drop s.place (s.log ++ us)
  next_list begun = sym (drop-append-le s.place s.log us (sound.place begun))

  swapped : (b : Block) → are_rivals c b ≡ false → are_rivals b c ≡ false
  swapped b h = rivals_both b c ∙ h

  claimed : (k : ℕ) (b : Block) → (k ≡ 0 → are_rivals b c ≡ false) → IsClaimedBack s k b → IsClaimedBack t k b
  claimed k b apart x = (
    change_claimed s.log s.window.tx c us are s.synced k b sound.oldest.within sound.oldest.tells.unended apart x.0,
    λ begun. let next = sound.next begun in
        subst (λ (l : List Entry). IsClaimedIn l (s.synced - s.place) k b) (next_list begun)
        (change_claimed (drop s.place s.log) s.window.tx c us are (s.synced - s.place) k b next.within next.tells.unended apart (x.1 begun)),
  )

  with_tx : (l : List Entry) (b : Block) → IsClaimedWith s.window.tx l b → IsClaimedWith t.window.tx l b
  with_tx l b = subst (λ (n : ℕ). IsClaimedWith n l b) (sym (tx_same s.window c us))

  own : WillBeClaimed t c
  own = (
    with_tx (s.log ++ us) c (change_own s.log s.window.tx c us are may.some),
    λ begun. with_tx (drop s.place (s.log ++ us)) c (subst (λ (l : List Entry). IsClaimedWith s.window.tx l c) (next_list begun) (change_own (drop s.place s.log) s.window.tx c us are may.some)),
  )

  others : (b : Block) → are_rivals c b ≡ false → WillBeClaimed s b → WillBeClaimed t b
  others b apart x = go (same_block b c) refl
    where
      go : (v : Bool) → same_block b c ≡ v → WillBeClaimed t b
      go true h = subst (λ (n : Block). WillBeClaimed t n) (sym (same_block-is b c h)) own
      go false h = (
        with_tx (s.log ++ us) b (change_other s.log s.window.tx c us are b (swapped b apart) h x.0),
        λ begun. with_tx (drop s.place (s.log ++ us)) b
            (subst (λ (l : List Entry). IsClaimedWith s.window.tx l b) (next_list begun) (change_other (drop s.place s.log) s.window.tx c us are b (swapped b apart) h (x.1 begun))),
      )

  after_a_change : ClaimsAfterChange c (claims_of s) (claims_of t)
  after_a_change = record {
    older = λ k b h. back_from t (suc k) b (claimed (suc k) b (λ e. absurd (omega (arith, e))) (back_gives s (suc k) b h));
    newest = λ b apart h. back_from t 0 b (claimed 0 b (λ e. swapped b apart) (back_gives s 0 b h));
    own = will_from t c own;
    others = λ b apart h. will_from t b (others b apart (will_gives s b h));
  }

-- ---- the end of a transaction

module _ (geometry : Geometry) (s t : Store) (lsn previous : ℕ) (sound : IsSound geometry s) (sound_t : IsSound geometry t) (closed_t : t.window.is_open ≡ false)
    (log : t.log ≡ s.log ++ commit_by lsn previous s.window.tx ∷ []) (synced : t.synced ≡ s.synced) (begun : t.begun ≡ s.begun) (place : t.place ≡ s.place) where
  next_end : s.begun ≡ true → drop t.place t.log ≡ drop s.place s.log ++ commit_by lsn previous s.window.tx ∷ []
  next_end begun = ap (λ (n : ℕ). drop n t.log) place ∙ ap (λ (l : List Entry). drop s.place l) log ∙ drop-append-le s.place s.log (commit_by lsn previous s.window.tx ∷ []) (sound.place begun)

  first_list : (k : ℕ) (b : Block) → IsClaimedIn (s.log ++ commit_by lsn previous s.window.tx ∷ []) s.synced k b → IsClaimedIn t.log t.synced k b
  first_list k b x = subst (λ (l : List Entry). IsClaimedIn l t.synced k b) (sym log) (subst (λ (d : ℕ). IsClaimedIn (s.log ++ commit_by lsn previous s.window.tx ∷ []) d k b) (sym synced) x)

  second_list : s.begun ≡ true → (k : ℕ) (b : Block) → IsClaimedIn (drop s.place s.log ++ commit_by lsn previous s.window.tx ∷ []) (s.synced - s.place) k b → IsClaimedIn (drop t.place t.log) (t.synced - t.place) k b
  second_list begun k b x = subst (λ (l : List Entry). IsClaimedIn l (t.synced - t.place) k b) (sym (next_end begun))
      (subst (λ (d : ℕ). IsClaimedIn (drop s.place s.log ++ commit_by lsn previous s.window.tx ∷ []) d k b) (let e : s.synced - s.place ≡ t.synced - t.place = omega (arith, synced, place) in e) x)

  newest : (b : Block) → WillBeClaimed s b → IsClaimedBack t 0 b
  newest b x = (
    first_list 0 b (commit_newest s.log lsn previous s.window.tx s.synced b x.0),
    λ on. let was : s.begun ≡ true = sym begun ∙ on in second_list was 0 b (commit_newest (drop s.place s.log) lsn previous s.window.tx (s.synced - s.place) b (x.1 was)),
  )

  older : (k : ℕ) (b : Block) → IsClaimedBack s k b → IsClaimedBack t (suc k) b
  older k b x = (
    first_list (suc k) b (commit_older s.log lsn previous s.window.tx s.synced b k x.0),
    λ on. let was : s.begun ≡ true = sym begun ∙ on in second_list was (suc k) b (commit_older (drop s.place s.log) lsn previous s.window.tx (s.synced - s.place) b k (x.1 was)),
  )

  after_an_end : ClaimsAfterCommit (claims_of s) (claims_of t)
  after_an_end = record {
    newest = λ b h. back_from t 0 b (newest b (will_gives s b h));
    older = λ k b h. back_from t (suc k) b (older k b (back_gives s k b h));
    will = λ b h. will_from t b (closed_back geometry t sound_t closed_t b (newest b (will_gives s b h)));
  }

-- ---- other events

stay : (s t : Store) → ((k : ℕ) (b : Block) → IsClaimedBack s k b → IsClaimedBack t k b) → ((b : Block) → WillBeClaimed s b → WillBeClaimed t b) → ClaimsStay (claims_of s) (claims_of t)
stay s t back now = record { claims = λ k b h. back_from t k b (back k b (back_gives s k b h)); will = λ b h. will_from t b (now b (will_gives s b h)) }

-- more is durable
more_durable : (s : Store) (d k : ℕ) (b : Block) → s.synced ≤ d → IsClaimedBack s k b → IsClaimedIn s.log d k b × (s.begun ≡ true → IsClaimedIn (drop s.place s.log) (d - s.place) k b)
more_durable s d k b le x = (claimed_later s.log s.synced k b d le x.0, λ begun. claimed_later (drop s.place s.log) (s.synced - s.place) k b (d - s.place) (omega (arith, le)) (x.1 begun))

-- where a checkpoint begins its list is empty
module _ (s : Store) (fresh : s.begun ≡ false) where
  nothing : drop (length s.log) s.log ≡ []
  nothing = drop_all (length s.log) s.log (omega arith)

  one_list : (x begun y z : Bool) → begun ≡ false → y ≡ true → (x && (not true || y)) ≡ (x && (not begun || z))
  one_list x begun y z off is = rw (off, is) refl

  noted_claims : (k : ℕ) (b : Block) → claims (checkpoint_begun s) k b ≡ claims s k b
  unfolding claims
  noted_claims k b = one_list (claims_in s.log s.synced k b) s.begun (claims_in (drop (length s.log) s.log) (s.synced - length s.log) k b) (claims_in (drop s.place s.log) (s.synced - s.place) k b) fresh
      (in_from (drop (length s.log) s.log) (s.synced - length s.log) k b (claimed_empty (drop (length s.log) s.log) (s.synced - length s.log) k b nothing))

  noted_will : (b : Block) → will (checkpoint_begun s) b ≡ will s b
  unfolding will
  noted_will b = one_list (claims_with s.window.tx s.log b) s.begun (claims_with s.window.tx (drop (length s.log) s.log) b) (claims_with s.window.tx (drop s.place s.log) b) fresh
      (with_from s.window.tx (drop (length s.log) s.log) b (with_empty s.window.tx (drop (length s.log) s.log) b nothing))

  after_noting : claims_of (checkpoint_begun s) ≡ claims_of s
  after_noting = ap₂ (λ (c : ℕ → Block → Bool) (w : Block → Bool). record { claims = c; will = w }) (fun_ext (λ k. fun_ext (λ b. noted_claims k b))) (fun_ext noted_will)

pub claims-step : (geometry : Geometry) (s t : Store) (step : Step geometry s t) → IsSound geometry s → ClaimsAfter geometry s t step
unfolding claims will
claims-step geometry s t (begin a) sound = record { same = refl; will = λ b h. will_from t b (closed_back geometry s sound a b (back_gives s 0 b h)) }
claims-step geometry s t (change c us may) sound = after_a_change geometry s sound c us may
claims-step geometry s t (commit lsn previous a) sound = after_an_end geometry s t lsn previous sound (sound-step geometry s t (commit lsn previous a) sound) refl refl refl refl refl
claims-step geometry s t (give_up a) sound = record { claims = refl; will = λ b h. will_from t b (closed_back geometry t (sound-step geometry s t (give_up a) sound) refl b (back_gives s 0 b h)) }
claims-step geometry s t (write_page m a d) sound = refl
claims-step geometry s t (write_page_fails m a) sound = refl
claims-step geometry s t (sync gone a may) sound = stay s t (λ k b x. more_durable s s.done k b sound.synced x) (λ b x. x)
claims-step geometry s t (sync_frees gone a may) sound = let begun : s.begun ≡ true = (sound.renamed (sound.replaced a)).0 in
    stay s t (λ k b x. ((more_durable s s.done k b sound.synced x).1 begun, λ off. absurd (true≢false (sym off)))) (λ b x. (x.1 begun, λ off. absurd (true≢false (sym off))))
claims-step geometry s t (write_out c new disk may spells puts) sound = refl
claims-step geometry s t (write_out_fails c new disk may puts) sound = refl
claims-step geometry s t (write_again disk a) sound = refl
claims-step geometry s t (begin_checkpoint a d) sound = after_noting s a
claims-step geometry s t (write_restart a) sound = refl
claims-step geometry s t (write_restart_fails a) sound = refl

-- ---- a mounted store

start : (tx : ℕ) (bytes : AllBytes) (torn : Block → Bool) (disk : Disk) (k : ℕ) (b : Block) → (claims (mounted tx bytes torn disk) k b ≡ true) × (will (mounted tx bytes torn disk) b ≡ true)
start tx bytes torn disk k b =
    let s = mounted tx bytes torn disk in (
      back_from s k b (claimed_empty [] 0 k b refl, λ begun. absurd (true≢false (sym begun))),
      will_from s b (with_empty tx [] b refl, λ begun. absurd (true≢false (sym begun))),
    )

pub claims_move : ClaimsMove
claims_move = record { step = claims-step; closed = closed; start = start }
