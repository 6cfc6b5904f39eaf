-- Whatever a crash leaves of a device that holds a store and its log recovers.
use Rattle.std.proofs.Common.{◌≡◌, ℕ, Bool, true, List, Option, None, inl, inr, sym, ap, ◌∙◌, subst}
use Rattle.std.specs.Prelude.{option_map}
use Rattle.std.specs.List.{AllByRecursion}
use Rattle.log_reading.specs.disk_model.Content.{Content, content_of}
use Rattle.store_model.specs.fixup_record.Spellings.{has_spelling}
use Rattle.store_model.specs.log_model.declared.entry.Entry.{Entry}
use Rattle.store_model.specs.log_model.Logs.{is_other, is_written_out, first_partial}
use Rattle.log_reading.specs.disk_model.declared.block.Block.{Block}
use Rattle.store_model.specs.sector_device.Disks.{Disk}
use Rattle.store_model.specs.Logs.{has_update}
use Rattle.store_model.specs.Geometry.{SectorBytes, CanLeave, Geometry}
use Rattle.store_model.specs.Stores.{Store, list_of, IsSound, IsStored}
use Rattle.store_model.specs.Volumes.{is_known, IsVolume, AreWhole, RecoversToContent, IsRecovered, BearsContent, window_of, mounted_on}
use Rattle.store_model.specs.Laws.{IsRecoverable, RecoversSince}
use Rattle.store_model.specs.Runs.{Run}
use Rattle.store_model.proofs.Refinement.{crash_refinement_law}
use Rattle.store_model.proofs.Images.{image_entries, not_partial, none_partial}
use Rattle.store_model.proofs.Volumes.{known_sized}
use Rattle.store_model.proofs.Writes.{some_known, stopped_recovery_law}
use Rattle.ring_laws.specs.Numbers.{LogSession}
use Rattle.ring_laws.specs.StoreDisks.{sectors_without, disk_without}
use Rattle.ring_laws.specs.StoreLogs.{LogNumbers, HoldsLog, LogIsLeft}
use Rattle.ring_laws.specs.DeviceImages.{ImageRecovers, ImageRecoversSince}
use Rattle.ring_laws.proofs.SeenDisks.{other_same, partial_same, written_same, written_updated, without_left, without_content, without_whole, without_recovered}
use Rattle.ring_laws.proofs.StoreImages.{log_is_left}

module _ (own : ℕ → Bool) (geometry : Geometry) (volume : IsVolume own geometry) (s : LogSession) (l : LogNumbers) (store : Store) (disk : Disk) (sound : IsSound geometry store) (h : HoldsLog s l store disk) (sees : store.disk ≡ disk_without own disk)
    (image : SectorBytes) (left : CanLeave disk image) (whole : AreWhole image) where
  abbrev sectors : SectorBytes
  sectors = sectors_without own image

  it : LogIsLeft s l store image sectors
  it = log_is_left s l store disk h image left sectors (subst (λ (d : Disk). CanLeave d sectors) (sym sees) (without_left own disk image left))

  found : (k : ℕ) × IsRecoverable own geometry store it.left k
  found = stopped_recovery_law.found own geometry volume store sound it.left it.may (subst (λ (at : SectorBytes). AreWhole at) (sym it.sectors_are) (without_whole own image whole))

  there : RecoversToContent own (list_of store it.left) sectors ((window_of store.window).before found.0)
  there = subst (λ (at : SectorBytes). RecoversToContent own (list_of store it.left) at ((window_of store.window).before found.0)) it.sectors_are found.1.recovers

  abbrev list : List Entry
  list = list_of store it.left

  stored : AllByRecursion (IsStored geometry) list
  stored = image_entries geometry store sound it.left

  same : (b : Block) → is_known own b ≡ true → content_of image b ≡ content_of it.left.sectors b
  same b known = sym (without_content own image b known) ∙ ap (λ (at : SectorBytes). content_of at b) (sym it.sectors_are)

  whole_left : AreWhole it.left.sectors
  whole_left = subst (λ (at : SectorBytes). AreWhole at) (sym it.sectors_are) (without_whole own image whole)

  none_partly : first_partial (content_of image) list ≡ None
  none_partly = ap (λ (o : Option Entry). option_map (λ (e : Entry). e.lsn) o)
      (none_partial own geometry volume (content_of image) list list (λ b known. partial_same list b (content_of image) (content_of it.left.sectors) (same b known) ∙ not_partial own geometry volume store sound it.left it.may whole_left b known) stored)

  known_updates : (b : Block) → has_update list b ≡ true → is_known own b ≡ true
  known_updates b has = known_sized own geometry volume b 0 (some_known geometry list b stored has)

  out_known : (b : Block) → is_written_out (content_of image) list b ≡ true → is_known own b ≡ true
  out_known b out = known_updates b (written_updated list b (content_of image) out)

  out_spelled : (b : Block) → is_written_out (content_of image) list b ≡ true → is_other (content_of image) list b ≡ true → has_spelling b.kind ((window_of store.window).before found.0 b).bytes ≡ true
  out_spelled b out other =
      let e = same b (out_known b out) in
      (found.1.writes b (sym (written_same list b (content_of image) (content_of it.left.sectors) e) ∙ out)).spelled (sym (other_same list b (content_of image) (content_of it.left.sectors) e) ∙ other)

  pub image_recovers : ImageRecovers own s l store image
  image_recovers = record {
    restart = it.restart;
    chosen = it.chosen;
    list = list_of store it.left;
    of_log = it.of_log;
    reads = it.reads;
    back = found.0;
    within = found.1.within;
    recovers = λ b known clear. without_recovered own image (list_of store it.left) ((window_of store.window).before found.0) b known (there b known clear);
    updates = known_updates;
    no_partial = none_partly;
    known = out_known;
    spelled = out_spelled;
  }

-- ---- since an earlier moment

module _ (own : ℕ → Bool) (geometry : Geometry) (volume : IsVolume own geometry) (tx : ℕ) (content : Content) (mounted : Disk) (bears : BearsContent own mounted content) (m n : ℕ) (t u : Store)
    (first : Run geometry (mounted_on tx content mounted) m t) (run : Run geometry t n u) (s : LogSession) (l : LogNumbers) (disk : Disk) (h : HoldsLog s l u disk) (sees : u.disk ≡ disk_without own disk) (image : SectorBytes) (left : CanLeave disk image)
    (whole : AreWhole image) where
  log : LogIsLeft s l u image (sectors_without own image)
  log = log_is_left s l u disk h image left (sectors_without own image) (subst (λ (d : Disk). CanLeave d (sectors_without own image)) (sym sees) (without_left own disk image left))

  since : RecoversSince own geometry t n u run log.left
  since = crash_refinement_law own geometry volume tx content mounted bears m n t u first run log.left log.may (subst (λ (at : SectorBytes). AreWhole at) (sym log.sectors_are) (without_whole own image whole))

  one : (c : Content) (b : Block) → is_known own b ≡ true → IsRecovered (list_of u log.left) log.left.sectors c b → IsRecovered (list_of u log.left) image c b
  one c b known there = without_recovered own image (list_of u log.left) c b known (subst (λ (at : SectorBytes). IsRecovered (list_of u log.left) at c b) log.sectors_are there)

  pub recovers_since : ImageRecoversSince own geometry s l t n u run image
  recovers_since = record {
    restart = log.restart;
    chosen = log.chosen;
    list = list_of u log.left;
    of_log = log.of_log;
    reads = log.reads;
    recovers = elim since [
      | inl new ↦ inl (new.0, new.1, new.2, λ b known clear. one ((window_of u.window).before new.0) b known (new.3 b known clear))
      | inr old ↦ inr (old.0, old.1, λ b spared known clear. one ((window_of t.window).before old.0) b known (old.2 b spared known clear))
    ];
  }
