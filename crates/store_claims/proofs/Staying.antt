-- Nothing that is claimed is harmed.
use Rattle.std.proofs.Common.{◌≡◌, ⊎_elim, ℕ, ◌+◌, ◌≤◌, Bool, true, false, List, length, take, drop, refl, sym, ◌∙◌, ap, arith, length-take}
use Rattle.std.proofs.lemmas.List.{take_all}
use Rattle.store_model.specs.disk_model.declared.block.Block.{Block}
use Rattle.store_model.specs.disk_model.Sectors.{are_rivals}
use Rattle.store_model.specs.log_model.declared.entry.Entry.{Entry}
use Rattle.store_model.specs.log_model.Logs.{is_ended, last_said}
use Rattle.store_model.specs.Logs.{commits, ended_with}
use Rattle.store_model.specs.Geometry.{Geometry}
use Rattle.store_model.specs.Stores.{Store, IsSound}
use Rattle.store_model.specs.Events.{MayWriteOut, MayBury, Loses, synced_store, Step}
use Rattle.store_model.specs.Events.Step.{begin, change, commit, give_up, write_page, write_page_fails, sync, sync_frees, write_out, write_out_fails, write_again, begin_checkpoint, write_restart, write_restart_fails}
use Rattle.store_model.specs.Runs.{commits_of, harms, alters}
use Rattle.store_model.proofs.Told.{true≢false, rivals_both}
use Rattle.store_model.proofs.Lost.{loses_at, loses_behind}
use Rattle.store_model.proofs.Runs.{moves-step}
use Rattle.store_model.proofs.Moving.{windows_move_law}
use Rattle.store_claims.specs.Claims.{IsClaimedIn, claims, IsClaimedBack, will, WillBeClaimed}
use Rattle.store_claims.specs.Moves.{is_change_of}
use Rattle.store_claims.specs.Laws.{ClaimedStays}
use Rattle.store_claims.proofs.Lists.{place_of}
use Rattle.store_claims.proofs.Agreeing.{back_gives, will_gives}

-- what isn't true is false
not_true : (v : Bool) → (v ≡ true → ⊥) → v ≡ false
not_true true none = absurd (none refl)
not_true false none = refl

-- what a list loses isn't claimed in it, of any content that is left of it
lost_claim : (l : List Entry) (d d' k : ℕ) (b : Block) → Loses l d' b → d ≤ d' → d' ≤ length l → k ≤ commits (drop d' l) → IsClaimedIn l d k b → ⊥
lost_claim l d d' k b lose le within few claimed =
    let at = place_of l d' k within few in
    claimed at.0 (omega (arith, le, at.1)) at.2 at.3 (loses_at l d' b lose at.0 (is_ended (take at.0 l)) at.1)

lost_will : (s : Store) (d : ℕ) (b : Block) → Loses s.log d b → d ≤ length s.log → WillBeClaimed s b → ⊥
lost_will s d b lose within claimed =
    let f = ended_with s.window.tx s.log in
    claimed.0 (ap (λ (l : List Entry). last_said f l b) (sym (take_all (length s.log) s.log (omega arith))) ∙ loses_at s.log d b lose (length s.log) f within)

-- of a rival of what is written out nothing is claimed
rival_lost : (geometry : Geometry) (s : Store) → IsSound geometry s → (c : Block) → MayWriteOut s c → (b : Block) → are_rivals c b ≡ true → Loses s.log s.synced b
rival_lost geometry s sound c may b rival =
    ⊎_elim (λ k. loses_behind s.log s.synced c b k may.logged (rivals_both b c ∙ rival)) (λ k. absurd (true≢false (sym k.0))) (sound.shades.of_dirty c b rival may.dirty)

module _ (geometry : Geometry) (s : Store) (sound : IsSound geometry s) (k : ℕ) (b : Block) (claimed : IsClaimedBack s k b) where
  by_write : (c : Block) → MayWriteOut s c → k ≤ length s.window.waiting → are_rivals c b ≡ false
  by_write c may few = not_true (are_rivals c b) (λ rival. lost_claim s.log s.synced s.synced k b (rival_lost geometry s sound c may b rival) (omega arith) sound.oldest.within (omega (arith, few, sound.counts)) claimed.0)

  by_sync : (gone : Block → Bool) → MayBury (synced_store s) gone → k ≤ length (take (commits (drop s.done s.log)) s.window.waiting) → gone b ≡ false
  by_sync gone may few = not_true (gone b)
      (λ h. lost_claim s.log s.synced s.done k b (may.lost b h) sound.synced (omega (arith, sound.done, sound.sent)) (omega (arith, few, length-take (commits (drop s.done s.log)) s.window.waiting)) claimed.0)

spared : (geometry : Geometry) (s t : Store) (step : Step geometry s t) → IsSound geometry s → (k : ℕ) (b : Block) → claims s k b ≡ true → commits_of geometry s t step + k ≤ length t.window.waiting
    → harms geometry s t step b ≡ false
spared geometry s t (begin a) sound k b h le = refl
spared geometry s t (change c us may) sound k b h le = refl
spared geometry s t (commit lsn previous a) sound k b h le = refl
spared geometry s t (give_up a) sound k b h le = refl
spared geometry s t (write_page m a d) sound k b h le = refl
spared geometry s t (write_page_fails m a) sound k b h le = refl
spared geometry s t (sync gone a may) sound k b h le = by_sync geometry s sound k b (back_gives s k b h) gone may (omega (arith, le))
spared geometry s t (sync_frees gone a may) sound k b h le = by_sync geometry s sound k b (back_gives s k b h) gone may (omega (arith, le))
spared geometry s t (write_out c new disk may spells puts) sound k b h le = by_write geometry s sound k b (back_gives s k b h) c may (omega (arith, le))
spared geometry s t (write_out_fails c new disk may puts) sound k b h le = by_write geometry s sound k b (back_gives s k b h) c may (omega (arith, le))
spared geometry s t (write_again disk a) sound k b h le = refl
spared geometry s t (begin_checkpoint a d) sound k b h le = refl
spared geometry s t (write_restart a) sound k b h le = refl
spared geometry s t (write_restart_fails a) sound k b h le = refl

module _ (geometry : Geometry) (s : Store) (sound : IsSound geometry s) (b : Block) (claimed : WillBeClaimed s b) where
  will_by_write : (c : Block) → MayWriteOut s c → are_rivals c b ≡ false
  will_by_write c may = not_true (are_rivals c b) (λ rival. lost_will s s.synced b (rival_lost geometry s sound c may b rival) sound.oldest.within claimed)

  will_by_sync : (gone : Block → Bool) → MayBury (synced_store s) gone → gone b ≡ false
  will_by_sync gone may = not_true (gone b) (λ h. lost_will s s.done b (may.lost b h) (omega (arith, sound.done, sound.sent)) claimed)

present_spared : (geometry : Geometry) (s t : Store) (step : Step geometry s t) → IsSound geometry s → (b : Block) → will s b ≡ true → harms geometry s t step b ≡ false
present_spared geometry s t (begin a) sound b h = refl
present_spared geometry s t (change c us may) sound b h = refl
present_spared geometry s t (commit lsn previous a) sound b h = refl
present_spared geometry s t (give_up a) sound b h = refl
present_spared geometry s t (write_page m a d) sound b h = refl
present_spared geometry s t (write_page_fails m a) sound b h = refl
present_spared geometry s t (sync gone a may) sound b h = will_by_sync geometry s sound b (will_gives s b h) gone may
present_spared geometry s t (sync_frees gone a may) sound b h = will_by_sync geometry s sound b (will_gives s b h) gone may
present_spared geometry s t (write_out c new disk may spells puts) sound b h = will_by_write geometry s sound b (will_gives s b h) c may
present_spared geometry s t (write_out_fails c new disk may puts) sound b h = will_by_write geometry s sound b (will_gives s b h) c may
present_spared geometry s t (write_again disk a) sound b h = refl
present_spared geometry s t (begin_checkpoint a d) sound b h = refl
present_spared geometry s t (write_restart a) sound b h = refl
present_spared geometry s t (write_restart_fails a) sound b h = refl

-- an event alters what it changes and what it harms
alters_none : (geometry : Geometry) (s t : Store) (step : Step geometry s t) (b : Block) → is_change_of geometry s t step b ≡ false → harms geometry s t step b ≡ false → alters geometry s t step b ≡ false
alters_none geometry s t (begin a) b h k = refl
alters_none geometry s t (change c us may) b h k = h
alters_none geometry s t (commit lsn previous a) b h k = refl
alters_none geometry s t (give_up a) b h k = h
alters_none geometry s t (write_page m a d) b h k = refl
alters_none geometry s t (write_page_fails m a) b h k = refl
alters_none geometry s t (sync gone a may) b h k = k
alters_none geometry s t (sync_frees gone a may) b h k = k
alters_none geometry s t (write_out c new disk may spells puts) b h k = k
alters_none geometry s t (write_out_fails c new disk may puts) b h k = k
alters_none geometry s t (write_again disk a) b h k = refl
alters_none geometry s t (begin_checkpoint a d) b h k = refl
alters_none geometry s t (write_restart a) b h k = refl
alters_none geometry s t (write_restart_fails a) b h k = refl

pub claimed_stays : ClaimedStays
claimed_stays = record {
  spared = spared;
  present_spared = present_spared;
  moves = λ geometry s t step sound k b h le. moves-step geometry s t step b (spared geometry s t step sound k b h le);
  members = λ geometry s t step sound k b h le. windows_move_law.members geometry s t step b (spared geometry s t step sound k b h le) k le;
  present = λ geometry s t step sound b h other. windows_move_law.present geometry s t step sound b (alters_none geometry s t step b other (present_spared geometry s t step sound b h));
}
