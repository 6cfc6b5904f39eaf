-- What a store's steps make of its claims, and what its images recover to where they claim.
use Rattle.std.proofs.Common.{◌≡◌, ℕ, Bool, true, false, List, length, refl, sym, ◌∙◌, ap, ap₂, subst}
use mathlib.Core.Path.{fun_ext}
use Rattle.area_laws.specs.disk_model.declared.block.Block.{Block}
use Rattle.area_laws.specs.disk_model.Content.{content_of}
use Rattle.area_laws.specs.fixup_record.Spellings.{has_spelling}
use Rattle.area_laws.specs.log_model.declared.entry.Entry.{Entry}
use Rattle.area_laws.specs.log_model.Logs.{is_shadowed, is_other, is_written_out}
use Rattle.store_claims.specs.store_model.Geometry.{SectorBytes, Geometry}
use Rattle.store_claims.specs.store_model.Stores.{Window, Store, member, list_of, IsSound}
use Rattle.store_claims.specs.store_model.Volumes.{is_known, content_with, IsVolume, AreWhole, RecoversToContent}
use Rattle.store_claims.specs.store_model.Events.{after_begin, checkpoint_begun}
use Rattle.store_claims.specs.store_model.Events.Step.{begin, begin_checkpoint}
use Rattle.store_claims.specs.Claims.{claims, will, ClaimWindow, claims_of, commits_behind}
use Rattle.store_claims.specs.Moves.{ClaimsStay}
use Rattle.store_claims.specs.Laws.{RecoversClaimed}
use Rattle.store_claims.specs.Windows.{StoreWindow, store_window}
use Rattle.store_claims.proofs.Moving.{claims_move}
use Rattle.store_claims.proofs.Recovering.{claimed_recovers}
use Rattle.area_laws.specs.ring_laws.Numbers.{LogSession}
use Rattle.area_laws.specs.ring_laws.StoreDisks.{sectors_without}
use Rattle.area_laws.specs.ring_laws.StoreLogs.{LogNumbers, LogIsLeft}
use Rattle.area_laws.proofs.ring_laws.SeenDisks.{other_same, written_same, without_content, without_whole, without_recovered}
use Rattle.txn_laws.specs.Windows.{AfterBegin, AfterWrite}

-- ---- steps

-- a window with other claims
abbrev with_claims : StoreWindow → ClaimWindow → StoreWindow
with_claims w c = record w { claimed = c }

-- what hangs on the lists alone
claims_kept : (m n : Store) → n.log ≡ m.log → n.synced ≡ m.synced → n.begun ≡ m.begun → n.place ≡ m.place → (k : ℕ) (b : Block) → claims n k b ≡ claims m k b
unfolding claims
claims_kept m n log synced begun place k b = rw (log, synced, begun, place) refl

will_kept : (m n : Store) → n.window ≡ m.window → n.log ≡ m.log → n.begun ≡ m.begun → n.place ≡ m.place → (b : Block) → will n b ≡ will m b
unfolding will
will_kept m n window log begun place b = rw (window, log, begun, place) refl

-- a step that keeps the window, the list, how much of it is durable and its checkpoint keeps what is seen
pub after_step : (m n : Store) → n.window ≡ m.window → n.log ≡ m.log → n.synced ≡ m.synced → n.begun ≡ m.begun → n.place ≡ m.place → AfterWrite (store_window m) (store_window n)
after_step m n window log synced begun place = record {
  same = ap₂ (λ (w : Window) (c : ClaimWindow). record {
    present = content_with w.body w.is_torn;
    is_open = w.is_open;
    waiting = length w.waiting;
    before = λ k. content_with (member w k) (w.was_torn k);
    claimed = c;
  }) window same;
}
  where
    same : claims_of n ≡ claims_of m
    same = ap₂ (λ (c : ℕ → Block → Bool) (w : Block → Bool). record { claims = c; will = w }) (fun_ext (λ k. fun_ext (λ b. claims_kept m n log synced begun place k b))) (fun_ext (λ b. will_kept m n window log begun place b))

pub after_beginning : (geometry : Geometry) (m : Store) → IsSound geometry m → m.window.is_open ≡ false → AfterBegin (store_window m) (store_window (record m { window = after_begin m.window }))
after_beginning geometry m sound closed =
    let x = claims_move.step geometry m (record m { window = after_begin m.window }) (begin closed) sound in
    record { same = ap (with_claims (record (store_window m) { is_open = true })) x.same; will = x.will }

pub after_noting : (geometry : Geometry) (m : Store) → IsSound geometry m → m.begun ≡ false → m.window.is_open ≡ false → AfterWrite (store_window m) (store_window (checkpoint_begun m))
after_noting geometry m sound fresh closed = record { same = ap (with_claims (store_window m)) (claims_move.step geometry m (checkpoint_begun m) (begin_checkpoint fresh closed) sound) }

pub stay_same : (old new : ClaimWindow) → new ≡ old → ClaimsStay old new
stay_same old new e = record { claims = λ k b h. ap (λ (c : ClaimWindow). c.claims k b) e ∙ h; will = λ b h. ap (λ (c : ClaimWindow). c.will b) e ∙ h }

-- ---- images

-- by so many commits back what an image recovers to, and where it is claimed
pub record ClaimedImage (own : ℕ → Bool) (m : Store) (list : List Entry) (image : SectorBytes) (k : ℕ) : Type 0 where
  pub recovers : RecoversToContent own list image ((store_window m).before k)
  pub spelled : (b : Block) → is_known own b ≡ true → is_written_out (content_of image) list b ≡ true → is_other (content_of image) list b ≡ true → has_spelling b.kind ((store_window m).before k b).bytes ≡ true
  pub clear : (b : Block) → claims m k b ≡ true → is_shadowed list b ≡ false

module _ (own : ℕ → Bool) (geometry : Geometry) (volume : IsVolume own geometry) (s : LogSession) (l : LogNumbers) (m : Store) (sound : IsSound geometry m) (image : SectorBytes) (whole : AreWhole image)
    (it : LogIsLeft s l m image (sectors_without own image)) where
  whole_left : AreWhole it.left.sectors
  whole_left = subst (λ (at : SectorBytes). AreWhole at) (sym it.sectors_are) (without_whole own image whole)

  pub claimed : RecoversClaimed own geometry m it.left (commits_behind m it.left)
  claimed = claimed_recovers.contents own geometry volume m sound it.left it.may whole_left

  same : (b : Block) → is_known own b ≡ true → content_of image b ≡ content_of it.left.sectors b
  same b known = sym (without_content own image b known) ∙ ap (λ (at : SectorBytes). content_of at b) (sym it.sectors_are)

  there : RecoversToContent own (list_of m it.left) (sectors_without own image) ((store_window m).before (commits_behind m it.left))
  there = subst (λ (at : SectorBytes). RecoversToContent own (list_of m it.left) at ((store_window m).before (commits_behind m it.left))) it.sectors_are claimed.recoverable.recovers

  pub claimed_image : ClaimedImage own m (list_of m it.left) image (commits_behind m it.left)
  claimed_image = record {
    recovers = λ b known clear. without_recovered own image (list_of m it.left) ((store_window m).before (commits_behind m it.left)) b known (there b known clear);
    spelled = λ b known out other.
        let e = same b known in
        (claimed.recoverable.writes b (sym (written_same (list_of m it.left) b (content_of image) (content_of it.left.sectors) e) ∙ out)).spelled
        (sym (other_same (list_of m it.left) b (content_of image) (content_of it.left.sectors) e) ∙ other);
    clear = claimed.clear;
  }
