-- A content from which operations are planned stays one where it is read from the same blocks.
use Rattle.std.proofs.Common.{◌≡◌, subst, ℕ, ◌*◌, ◌≤◌, Bool, List, sym, ap, ◌∙◌}
use Rattle.disk_model.specs.Content.{Content}
use Rattle.file_tree.specs.declared.tree.Tree.{Tree}
use Rattle.bit_set.specs.Bits.{bit}
use Rattle.log_page.specs.declared.places.LogPlace.{LogPlace}
use Rattle.log_reading.specs.Rings.{IsRingPlace}
use Rattle.working_volume.specs.map_change.Parts.{MapParts}
use Rattle.working_volume.specs.spares_at_mount.Mounts.{LiesInLog}
use Rattle.working_volume.specs.state_blocks.Needing.{AgreeOnNeeded, NeededIsAll}
use Rattle.working_volume.specs.file_puts.declared.streams.VolumeStreams.{VolumeStreams}
use Rattle.txn_model.specs.Values.{StoreFacts}
use Rattle.working_volume.specs.state_store.Volumes.{geometry_of}
use Rattle.working_volume.specs.volume_mount.Mounts.{has_no_journal}
use Rattle.working_volume.specs.Ready.{RunsLieInLog, IsReady}
use Rattle.volume_core.proofs.Records.{base_same}

module _ (law : NeededIsAll) (f g : StoreFacts) (m : MapParts) (table : List ℕ) (s : VolumeStreams) (c d : Content) (place : g.place ≡ f.place) (found : g.found ≡ f.found) (agree : AgreeOnNeeded c d m.volume) (r : IsReady f m table s c) where
  pub ready_still : IsReady g m table s d
  ready_still = record {
    plannable = record {
      stands = law.stands c d (geometry_of m) m.volume.clusters m.volume r.plannable.stands agree;
      eight = r.plannable.eight;
      table = r.plannable.table ∙ sym (law.upper c d m.volume agree);
      journal = ap (λ (t : Tree). t.journal) (law.tree c d (geometry_of m) m.volume.clusters m.volume r.plannable.stands agree) ∙ r.plannable.journal;
      streams = r.plannable.streams;
    };
    few = r.few;
    lists = λ n file is. r.lists n file (sym (base_same c d (geometry_of m) m.volume.clusters m.volume r.plannable.stands agree n) ∙ is);
    log = record {
      ring = subst IsRingPlace (sym place) r.log.ring;
      lies = subst (λ (p : LogPlace). LiesInLog p m.volume) (sym place) r.log.lies;
      clusters = ap (λ (p : LogPlace). p.clusters) place ∙ r.log.clusters;
      device = subst (λ (p : LogPlace). 8 * m.volume.clusters ≤ p.device) (sym place) r.log.device;
      found = found ∙ r.log.found;
    };
    runs = subst (λ (p : LogPlace). RunsLieInLog p m.volume) (sym place) r.runs;
    welcome = record {
      version = r.welcome.version;
      no_journal = ap (λ (units : List ℕ). has_no_journal units m.volume) (law.upper c d m.volume agree) ∙ r.welcome.no_journal;
      lists = r.welcome.lists;
      log = r.welcome.log;
      boot = record { others = r.welcome.boot.others; marked = ap (λ (bits : List Bool). bit bits 0) (law.clusters c d m.volume agree) ∙ r.welcome.boot.marked };
    };
  }
