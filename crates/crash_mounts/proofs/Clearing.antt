-- No live block is shadowed.
use Rattle.std.proofs.Common.{◌≡◌, ℕ, Bool, true, false, ◌&&◌, cond, List, Option, Some, None, refl, sym, ◌∙◌, inl}
use Rattle.std.proofs.lemmas.Bool.{false_from_ne_true}
use Rattle.disk_model.specs.declared.block.Block.{Block}
use Rattle.volume_model.specs.Volumes.{Volume}
use Rattle.stream_laws.specs.Owners.{IsLive}
use Rattle.log_model.specs.declared.entry.Entry.{Entry}
use Rattle.log_model.specs.Logs.{is_in_grid, is_shadowed, first_rival}
use Rattle.log_page.specs.declared.places.LogPlace.{LogPlace}
use Rattle.txn_mount.specs.log_recovery.Recovering.{shadow_lsn}
use Rattle.store_model.specs.Geometry.{SectorBytes}
use Rattle.store_model.proofs.Told.{true≢false}
use Rattle.store_claims.specs.Windows.{StoreWindow}
use Rattle.member_states.specs.txn_laws.Windows.{RecoversWithin}
use Rattle.mount_laws.specs.volume_shadows.Live.{least_live}
use Rattle.mount_laws.proofs.volume_shadows.Listing.{least_is_of}
use Rattle.member_states.specs.Members.{VolumeBase, MemberIs}
use Rattle.crash_mounts.specs.Clearing.{IsLogClear, NoneShadowed}

-- a block of which the list says an LSN is shadowed
said_shadowed : (list : List Entry) (b : Block) (lsn : ℕ) → shadow_lsn list b ≡ Some lsn → is_shadowed list b ≡ true
said_shadowed list b lsn is = go (is_in_grid b) (is_shadowed list b) is
  where
    go : (g s : Bool) → cond (g && s) (first_rival list b) None ≡ Some lsn → s ≡ true
    go true true e = refl
    go true false e = absurd cc
    go false s e = absurd cc

module _ (place : LogPlace) (base : VolumeBase) (w : StoreWindow) (image : SectorBytes) (x : RecoversWithin place base.own w image) (v : Volume) (member : MemberIs base w x.back v) (log : IsLogClear x.list v) where
  -- a live block is the log's, or is claimed
  live_clear : (b : Block) → IsLive v b → is_shadowed x.list b ≡ false
  live_clear b live = false_from_ne_true (is_shadowed x.list b) (λ shadowed.
      true≢false (sym shadowed ∙ x.clear b (member.claimed b (inl (record { live = live; other = λ same. true≢false (sym shadowed ∙ log b live same) })))))

  none_said : (o : Option ℕ) → least_live (shadow_lsn x.list) v ≡ o → o ≡ None
  none_said None is = refl
  none_said (Some lsn) is =
      let found = least_is_of (shadow_lsn x.list) v lsn is in
      absurd (true≢false (sym (said_shadowed x.list found.0 lsn found.2) ∙ live_clear found.0 found.1))

  clear : least_live (shadow_lsn x.list) v ≡ None
  clear = none_said (least_live (shadow_lsn x.list) v) refl

pub none_shadowed : NoneShadowed
none_shadowed = clear
