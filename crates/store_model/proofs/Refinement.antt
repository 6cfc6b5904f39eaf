-- The laws of a store, in the words of contents.
use Rattle.std.proofs.Common.{◌≡◌, ◌≢◌, ◌⊎◌, inl, inr, ℕ, ◌<◌, ◌≤◌, Bool, true, false, List, [], ◌∷◌, ◌++◌, length, drop, Some, None, sym, ◌∙◌, arith}
use Rattle.std.specs.Prelude.{All}
use Rattle.log_model.specs.disk_model.declared.block.Block.{Block}
use Rattle.log_model.specs.disk_model.Sectors.{are_rivals}
use Rattle.log_model.specs.disk_model.Content.{Content}
use Rattle.sector_device.specs.Disks.{Disk}
use Rattle.log_model.specs.declared.entry.Entry.{Entry}
use Rattle.log_model.specs.Logs.{covers, undo_byte, IsLevel, first_undo}
use Rattle.log_model.proofs.Telling.{first_undo-append, none_right}
use Rattle.store_model.specs.Logs.{has_update}
use Rattle.store_model.specs.Geometry.{Geometry}
use Rattle.store_model.specs.Stores.{Store, member, IsSound, Image, MayLeave, Restores, RecoversTo, list_of}
use Rattle.store_model.specs.Events.{IsChange, MayChange, after_change}
use Rattle.store_model.specs.Runs.{Run, Spares}
use Rattle.store_model.specs.Volumes.{IsVolume, bytes_in, mounted_on, BearsContent, AreWhole}
use Rattle.store_model.specs.Laws.{RecoversSince, CrashRefinement, SoundEvents, NeverWaits}
use Rattle.store_model.proofs.Sound.{sound-step, never_waits, may_spell, written_member, may_bury, may_keep}
use Rattle.store_model.proofs.Runs.{sound-run, since-run, sound-mounted}
use Rattle.store_model.proofs.Volumes.{volume_geometry, is_volume, recovered_bytes, bears_bytes}
use Rattle.store_model.proofs.Images.{image_level}

since : (own : ℕ → Bool) (geometry : Geometry) → IsVolume own geometry → (s : Store) (n : ℕ) (t : Store) → IsSound geometry s → (run : Run geometry s n t) → (image : Image) → MayLeave t image → AreWhole image.sectors
    → RecoversSince own geometry s n t run image
since own geometry volume s n t sound run image left whole = go (since-run geometry s n t sound run image left)
  where
    level : All IsLevel (list_of t image)
    level = image_level geometry t (sound-run geometry s n t run sound) image

    go : ((k : ℕ) × (k < n) × (k ≤ length t.window.waiting) × RecoversTo geometry t image (member t.window k) (t.window.was_torn k))
        ⊎ ((k : ℕ) × (k ≤ length s.window.waiting) × ((b : Block) → Spares geometry s n t run b → Restores geometry (list_of t image) image.sectors b (member s.window k) (s.window.was_torn k)))
        → RecoversSince own geometry s n t run image
    go (inl x) = inl (x.0, x.1, x.2, λ b known claimed. recovered_bytes own geometry volume (list_of t image) image.sectors b (member t.window x.0) (t.window.was_torn x.0) level whole (x.3 b) known claimed)
    go (inr x) = inr (x.0, x.1, λ b spared known claimed. recovered_bytes own geometry volume (list_of t image) image.sectors b (member s.window x.0) (s.window.was_torn x.0) level whole (x.2 b spared) known claimed)

mounted_sound : (own : ℕ → Bool) (geometry : Geometry) → IsVolume own geometry → (tx : ℕ) (content : Content) (disk : Disk) → BearsContent own disk content → IsSound geometry (mounted_on tx content disk)
mounted_sound own geometry volume tx content disk bears = sound-mounted geometry tx (bytes_in content) (λ b. (content b).torn) disk (bears_bytes own geometry volume disk content bears)

pub crash_refinement_law : CrashRefinement
crash_refinement_law own geometry volume tx content disk bears m n t u before after image left whole =
    since own geometry volume t n u (sound-run geometry (mounted_on tx content disk) m t before (mounted_sound own geometry volume tx content disk bears)) after image left whole

pub sound_events_law : SoundEvents
sound_events_law = record { mounted = mounted_sound; step = sound-step; volume = λ own. (volume_geometry own, is_volume own) }

-- ---- what a store can always do

whole_change : (geometry : Geometry) (s : Store) (c : Block) (e : Entry) → s.window.is_open ≡ true → 0 < geometry.size c → ((x : Block) → are_rivals c x ≡ true → has_update s.window.draft x ≡ false) → IsChange s.window c e
    → geometry.has_spelling c ((after_change s.window c e).body c) ≡ true → ((i : ℕ) → i < geometry.size c → covers c i e.act ≡ true) → MayChange geometry s c (e ∷ [])
whole_change geometry s c e opened known alone change spelled whole = record {
  opened = opened;
  known = known;
  some = omega arith;
  alone = alone;
  old = (change, tt);
  spelled = spelled;
  fills = fills s.log;
  refills = λ is. one;
  next = λ begun. (fills (drop s.place s.log), λ is. one);
}
  where
    one : (i : ℕ) → i < geometry.size c → first_undo (e ∷ []) c i ≢ None
    one i lt none = let n : Some (undo_byte e.act i) ≡ None = (rw (whole i lt) at none) in absurd cc

    fills : (l : List Entry) (i : ℕ) → i < geometry.size c → first_undo (l ++ e ∷ []) c i ≢ None
    fills l i lt none = one i lt (none_right (first_undo l c i) (first_undo (e ∷ []) c i) (sym (first_undo-append l (e ∷ []) c i) ∙ none))

pub never_waits_law : NeverWaits
never_waits_law = record {
  owed = never_waits;
  spelled = may_spell;
  settled = written_member;
  whole = whole_change;
  bury = may_bury;
  keep = may_keep;
}
