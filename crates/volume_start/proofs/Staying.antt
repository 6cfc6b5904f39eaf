-- What a crash inside a start leaves, since before the calls that only read or sync.
use Rattle.std.proofs.Common.{◌≡◌, ℕ, List, Option, Some, None, refl, sym, ap, subst, ◌∙◌, inl, inr, arith}
use mathlib.Core.Path.{fun_ext}
use Rattle.std.specs.Prelude.{IfSome}
use Rattle.disk_model.specs.declared.block.Block.{Block}
use Rattle.disk_model.specs.Content.{content_of}
use Rattle.sector_device.specs.Disks.{Disk, IsSettled, SeesDisk, seen}
use Rattle.sector_device.specs.Moments.{Changes}
use Rattle.device_view.specs.Devices.{KeepsDevice}
use Rattle.log_page.specs.declared.places.LogPlace.{LogPlace}
use Rattle.log_recovery.specs.Writing.{to_write_in}
use Rattle.store_model.specs.Geometry.{SectorBytes}
use Rattle.ring_laws.specs.PageBytes.{raw_page}
use Rattle.ring_laws.specs.RestartPages.{said_restart}
use Rattle.txn_mount.specs.Contents.{mounted_content}
use Rattle.txn_mount.specs.Images.{LeavesAlike, OneIsNewer}
use Rattle.txn_mount.specs.Mounts.{ReadsOn, StaysRecovered}
use Rattle.volume_start.specs.Starts.{IsUnwritten, StaysMounted, StaysStarted}
use Rattle.volume_start.proofs.Failing.{keeps_unwritten}

module _ {D : Type 0} (gives : D → Option (List (List ℕ))) (count : D → ℕ) (changes : D → Changes) (faults moment : D → ℕ) where
  -- a device to which nothing was written
  pub unwritten_stays : (old new : D) → IsUnwritten gives count changes faults moment old new → IfSome (gives old) (λ first. StaysStarted (count old) (moment old) first (changes old) (changes new))
  unwritten_stays old new unwritten = by (gives old)
    where
      by : (known : Option (List (List ℕ))) → IfSome known (λ first. StaysStarted (count old) (moment old) first (changes old) (changes new))
      by None = tt
      by (Some first) = λ m is.
          record {
            mounts = λ sound t image before left. inl (unwritten.left (count old) t image before left);
            place = m.opened.place;
            alike = record { sectors = λ n. refl; initialised = refl; pages = refl; clusters = refl };
            recovers = λ number disk state reads still newer t image before left. inl (unwritten.left number t image before left);
          }

  -- ---- what comes behind it

  module _ (sees : (d : D) → SeesDisk (gives d) (changes d).disk) (old mid new : D) (unwritten : IsUnwritten gives count changes faults moment old mid) (still : (d : Disk) → (changes old).disk ≡ Some d → IsSettled d → IfSome (changes mid).disk IsSettled) where
    -- the disk between, which is seen as that before
    abbrev Between : Disk → Type 0
    Between raw = (e : Disk) × ((changes mid).disk ≡ Some e) × IsSettled e × (seen e ≡ seen raw)

    between : (raw : Disk) → (changes old).disk ≡ Some raw → IsSettled raw → Between raw
    between raw was settled = by (gives old) refl (subst (λ (o : Option Disk). SeesDisk (gives old) o) was (sees old)) (changes mid).disk refl (still raw was settled)
      where
        by : (known : Option (List (List ℕ))) → gives old ≡ known → SeesDisk (gives old) (Some raw) → (o : Option Disk) → (changes mid).disk ≡ o → IfSome o IsSettled → Between raw
        by None is saw o then dry = absurd (subst (λ (g : Option (List (List ℕ))). SeesDisk g (Some raw)) is saw)
        by (Some first) is saw None then dry = absurd (subst (λ (o : Option Disk). SeesDisk (Some first) o) then (subst (λ (g : Option (List (List ℕ))). SeesDisk g (changes mid).disk) (unwritten.same ∙ is) (sees mid)))
        by (Some first) is saw (Some e) then dry =
            let one = subst (λ (g : Option (List (List ℕ))). SeesDisk g (Some raw)) is saw in
            let two = subst (λ (o : Option Disk). SeesDisk (Some first) o) then (subst (λ (g : Option (List (List ℕ))). SeesDisk g (changes mid).disk) (unwritten.same ∙ is) (sees mid)) in
            (e, then, dry, fun_ext (λ s. sym (two s) ∙ one s))

    recovers_since : (place : LogPlace) (kept : List Block) → StaysRecovered (moment mid) place kept (changes mid) (changes new) → StaysRecovered (moment old) place kept (changes old) (changes new)
    recovers_since place kept stays number raw state reads settled newer t image before left = elim (late t image (omega (arith, before, unwritten.onwards)) left) [
      | inl was ↦ inl (unwritten.left number t image before was)
      | inr recovers ↦ inr recovers
    ]
      where
        between_is : Between raw
        between_is = between raw reads.known settled

        late : LeavesAlike number (moment mid) place kept state.log (mounted_content (content_of (seen raw)) state.log) state.next_lap (changes mid) (changes new)
        late =
            let e = between_is.0 in
            let same = between_is.3 in
            let on : ReadsOn place kept state (changes mid) e = record { known = between_is.1; read = ap (λ (at : SectorBytes). to_write_in (content_of at) place kept) same ∙ reads.read } in
            let one : OneIsNewer (said_restart (raw_page place (seen e) 0)) (said_restart (raw_page place (seen e) 1)) = subst (λ (at : SectorBytes). OneIsNewer (said_restart (raw_page place at 0)) (said_restart (raw_page place at 1))) (sym same) newer in
            subst (λ (at : SectorBytes). LeavesAlike number (moment mid) place kept state.log (mounted_content (content_of at) state.log) state.next_lap (changes mid) (changes new)) same (stays number e state on between_is.2 one)

    started_since : (first : List (List ℕ)) → StaysStarted (count mid) (moment mid) first (changes mid) (changes new) → StaysStarted (count old) (moment old) first (changes old) (changes new)
    started_since first stays m is =
        let s = subst (λ (n : ℕ). StaysMounted n (moment mid) first (changes mid) (changes new) m) unwritten.sectors (stays m is) in
        record {
          mounts = λ sound t image before left. elim (s.mounts sound t image (omega (arith, before, unwritten.onwards)) left) [
            | inl was ↦ inl (unwritten.left (count old) t image before was)
            | inr mounts ↦ inr mounts
          ];
          place = s.place;
          alike = s.alike;
          recovers = recovers_since s.place _ s.recovers;
        }

    pub stays_since : IfSome (gives mid) (λ first. StaysStarted (count mid) (moment mid) first (changes mid) (changes new)) → IfSome (gives old) (λ first. StaysStarted (count old) (moment old) first (changes old) (changes new))
    stays_since stays = by (gives old) (subst (λ (o : Option (List (List ℕ))). IfSome o (λ first. StaysStarted (count mid) (moment mid) first (changes mid) (changes new))) unwritten.same stays)
      where
        by : (known : Option (List (List ℕ))) → IfSome known (λ first. StaysStarted (count mid) (moment mid) first (changes mid) (changes new)) → IfSome known (λ first. StaysStarted (count old) (moment old) first (changes old) (changes new))
        by None s = tt
        by (Some first) s = started_since first s

  -- behind one that was only read
  pub read_since : (sees : (d : D) → SeesDisk (gives d) (changes d).disk) (old mid new : D) → KeepsDevice gives count changes faults moment old mid → IfSome (gives mid) (λ first. StaysStarted (count mid) (moment mid) first (changes mid) (changes new))
      → IfSome (gives old) (λ first. StaysStarted (count old) (moment old) first (changes old) (changes new))
  read_since sees old mid new kept = stays_since sees old mid new (keeps_unwritten gives count changes faults moment old mid kept) (λ d was settled. subst (λ (o : Option Disk). IfSome o IsSettled) (sym was ∙ sym (ap (λ (c : Changes). c.disk) kept.unchanged)) settled)
