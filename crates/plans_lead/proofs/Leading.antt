-- The changes of a file's plan as a volume takes them.
use Rattle.std.proofs.Common.{◌≡◌, ◌≢◌, subst, ℕ, ◌+◌, ◌*◌, ◌/◌, ◌%◌, ◌<◌, ◌≤◌, Bool, true, false, ◌&&◌, ltb, List, [], ◌∷◌, length, Option, Some, None, refl, sym, ap, ◌∙◌, inl, arith}
use Rattle.std.specs.Prelude.{All, is_some, unwrap_or}
use Rattle.std.specs.List.{AllByRecursion}
use Rattle.std.proofs.lemmas.Bool.{eqb-true, le-ltb}
use Rattle.std.proofs.lemmas.List.Elements.{All-head, All-tail, All-cons, All-nil}
use Rattle.disk_model.specs.declared.block.Block.{Block}
use Rattle.disk_model.specs.declared.block.Body.{Body}
use Rattle.disk_model.specs.declared.block.BlockKind.{BlockKind}
use Rattle.disk_model.specs.declared.block.BlockKind.TheVariants.{Plain, FileRec, Index}
use Rattle.disk_model.specs.declared.block.Change.{Change}
use Rattle.disk_model.specs.Content.{Content, body_of, content_of}
use Rattle.disk_model.specs.Sectors.{sectors, sector_of, raw_from, overlap}
use Rattle.record_model.specs.Records.{Record}
use Rattle.file_tree.specs.declared.node.Node.{Node}
use Rattle.sector_device.specs.Moments.{Changes}
use Rattle.log_model.specs.Logs.{may_begin}
use Rattle.block_view.specs.Changes.{Fits, content_after}
use Rattle.state_model.specs.Loads.{boot_block}
use Rattle.volume_model.specs.Volumes.{Volume, upper_of}
use Rattle.spares_at_mount.specs.volume_state.Trees.{tree_of}
use Rattle.spares_at_mount.specs.map_change.Parts.{MapParts}
use Rattle.tree_model.specs.declared.script.Op.{Op}
use Rattle.spares_at_mount.specs.plan_owners.States.{Stands}
use Rattle.spares_at_mount.specs.plan_owners.Kinds.{cluster_of}
use Rattle.spares_at_mount.specs.state_blocks.Drafts.{DraftIn}
use Rattle.plan_bodies.specs.Bodies.{content_with}
use Rattle.plan_draft.specs.declared.touched.Touched.{Touched}
use Rattle.spares_at_mount.specs.plan_spares.Plans.{HasOwnLists}
use Rattle.writes_keep.specs.plans_keep.Keeping.{AreAside, AreAllAside, IsSpelled}
use Rattle.writes_keep.specs.data_plan.declared.change.DataChange.{DataChange}
use Rattle.writes_keep.specs.file_puts.declared.streams.VolumeStreams.{VolumeStreams}
use Rattle.writes_keep.specs.Writes.{HasWholeSectors, IsOffLog, WriteKeeps, WritesKeep}
use Rattle.writes_keep.specs.names_stay.Lists.{WritesKeepLists}
use Rattle.writes_keep.specs.names_stay.Writes.{WritesKeepNames}
use Rattle.spares_at_mount.specs.txn_model.Values.{StoreFacts}
use Rattle.spares_at_mount.specs.txn_core.Views.{present_on}
use Rattle.spares_at_mount.specs.Mounts.{BlocksOffLog}
use Rattle.spares_at_mount.specs.image_open.Volumes.{boot_place}
use Rattle.spares_at_mount.specs.state_store.Volumes.{geometry_of, SparesState}
use Rattle.spares_at_mount.specs.state_store.Changes.{MayLog, AreBeside, AreApart, IsWritable, AreWritable, LeadsOn}
use Rattle.spares_at_mount.specs.volume_mount.Boot.{KeepsBoot}
use Rattle.spares_at_mount.specs.volume_mount.Welcome.{IsWelcome}
use Rattle.plans_lead.specs.Leading.{IsFilePlan, LeadsAsAsked, HasLogOf, PlansLeadOn}
use Rattle.plans_lead.proofs.Welcoming.{boot_aside, welcome_after}

each_as : {X : Type 0} (P Q : X → Type 0) → ((x : X) → P x → Q x) → (xs : List X) → AllByRecursion P xs → AllByRecursion Q xs
each_as P Q f [] all = tt
each_as P Q f (x ∷ xs) all = (f x all.0, each_as P Q f xs all.1)

all_apart : (changes : List Change) → AreAllAside changes → AreApart changes
all_apart [] aside = tt
all_apart (x ∷ xs) aside = (each_as (AreAside x) (λ (y : Change). AreBeside x.block y.block) (λ y is. record { other = is.other; no_rival = is.no_rival }) xs aside.0, all_apart xs aside.1)

-- a block of the grid ends in its cluster
ends_within : (kind : BlockKind) (first : ℕ) → may_begin kind first ≡ true → first + sectors kind ≤ 8 * (first / 8) + 8
ends_within Plain first grid = omega arith
ends_within FileRec first grid = (let even : first % 2 ≡ 0 = eqb-true (first % 2) 0 grid in omega (arith, even))
ends_within Index first grid = (let even : first % 8 ≡ 0 = eqb-true (first % 8) 0 grid in omega (arith, even))

-- a block in another cluster than the first shares no sector with the boot sector
past_boot : (b : Block) → cluster_of b ≢ 0 → overlap b boot_place ≡ false
past_boot b other = ap (λ (t : Bool). t && ltb 0 (b.first + sectors b.kind)) (le-ltb b.first 1 (omega (arith, other)))

-- ---- it leads on

module _ (keeps : WritesKeep) (m : MapParts) (table : List ℕ) (c : Content) (s : VolumeStreams) (op : Op) (n stamp : ℕ) (a : Node) (r : Record) (x : DataChange) (new : List Touched) (changes : List Change) (k : IsFilePlan m table c s op n stamp a r x new changes) where
  abbrev w : Volume
  w = k.written.after

  pub is_kept : WriteKeeps c (geometry_of m) m.volume s k.written.bodies changes w
  is_kept = keeps c (geometry_of m) m.volume.clusters m.volume s op n stamp a r x new changes k.writes k.written k.finished k.lists k.whole

  content : content_after changes c ≡ content_with c k.written.bodies
  content = is_kept.keeps.content

  writable : AreWritable changes (content_after changes c)
  writable =
      subst (AreWritable changes) (sym content)
      (each_as (λ (y : Change). IsSpelled (content_with c k.written.bodies) y.block) (λ (y : Change). IsWritable (content_with c k.written.bodies) y.block) (λ y is. record { spelled = is.spelled; untorn = is.untorn }) changes is_kept.keeps.written)

  welcomed : WritesKeepNames → WritesKeepLists → IsWelcome c m.volume → IsWelcome (content_after changes c) w
  welcomed stay counted is =
      subst (λ (d : Content). IsWelcome d w) (sym content)
      (welcome_after c (geometry_of m) m.volume s k.written.bodies changes w is_kept (stay c (geometry_of m) m.volume.clusters m.volume s op n stamp a r x new k.writes k.written) (counted c (geometry_of m) m.volume.clusters m.volume s op n stamp a r x new k.writes k.written) k.writes.stands.room is)

  leads_on : LeadsOn m table changes c
  leads_on = record {
    volume = w;
    stands = subst (λ (d : Content). Stands d (geometry_of m) m.volume.clusters w) (sym content) k.written.draft.stands;
    upper = k.state.upper ∙ sym is_kept.upper ∙ ap (λ (d : Content). upper_of d w) (sym content);
    draft = subst (λ (d : Content). DraftIn c m.volume changes d w) (sym content) is_kept.keeps.draft;
    writable = writable;
  }

  pub leads_as_asked : WritesKeepNames → WritesKeepLists → LeadsAsAsked m table c s changes
  unfolding leads_on
  leads_as_asked stay counted = record {
    leads = leads_on;
    names = stay c (geometry_of m) m.volume.clusters m.volume s op n stamp a r x new k.writes k.written;
    apart = all_apart changes is_kept.keeps.apart;
    lists = subst (λ (d : Content). HasOwnLists d w) (sym content) is_kept.lists;
    streams = is_kept.streams;
    journal = ap (λ (d : Content). (tree_of d w).journal) content ∙ is_kept.journal;
    boot = is_kept.boot;
    log = is_kept.log;
    off = is_kept.off;
    second = is_kept.second;
    welcome = welcomed stay counted;
  }

  pub off_boot : KeepsBoot c m.volume → AllByRecursion (λ (y : Change). overlap y.block boot_place ≡ false) changes
  off_boot boot =
      each_as (λ (y : Change). cluster_of y.block ≢ 0) (λ (y : Change). overlap y.block boot_place ≡ false) (λ y. past_boot y.block) changes
      (is_kept.spares 0 k.writes.stands.room (boot_aside c m.volume boot))

-- ---- each change may be logged

module _ (off_log : BlocksOffLog) (f : StoreFacts) (m : MapParts) (has : HasLogOf f m) where
  may_log : (y : Change) → IsOffLog m.volume y.block → overlap y.block boot_place ≡ false → overlap y.block (boot_block (geometry_of m) 2) ≡ false → 0 < length y.new → Fits y → MayLog f y
  may_log y off boot second some fits =
      let ends = ends_within y.block.kind y.block.first off.grid in
      let inside = off.inside in
      let count = has.clusters in
      let device = has.device in
      record {
        known = off_log.known f.place f.found m.volume y.block has.ring has.lies (record { grid = off.grid; apart = off.apart }) (subst (AllByRecursion (λ (b : Block). overlap y.block b ≡ false)) (sym has.found) (boot, (second, tt)));
        volume = omega (arith, inside, count);
        inside = omega (arith, ends, inside, device);
        some = some;
        fits = fits;
      }

  pub all_logged : (changes : List Change) → AllByRecursion (λ (y : Change). IsOffLog m.volume y.block) changes → AllByRecursion (λ (y : Change). overlap y.block boot_place ≡ false) changes → AllByRecursion (λ (y : Change). overlap y.block (boot_block (geometry_of m) 2) ≡ false) changes
      → AllByRecursion (λ (y : Change). 0 < length y.new) changes → All Fits changes → All (MayLog f) changes
  all_logged [] off boot second some fits = All-nil (MayLog f)
  all_logged (y ∷ changes) off boot second some fits = All-cons (MayLog f) y changes (may_log y off.0 boot.0 second.0 some.0 (All-head Fits y changes fits)) (all_logged changes off.1 boot.1 second.1 some.1 (All-tail Fits y changes fits))

-- ---- no sector is torn

plain_untorn : (kind : BlockKind) (raw : List ℕ) → kind ≡ Plain → (body_of kind raw).torn ≡ false
unfolding body_of
plain_untorn kind raw is = subst (λ (y : BlockKind). (body_of y raw).torn ≡ false) (sym is) refl

whole_sectors : (moments : Changes) (f : StoreFacts) (v : Volume) (disk : List (List ℕ)) → SparesState moments f v disk → HasWholeSectors (present_on disk f) v
whole_sectors moments f v disk spares b judged plain = by (f.body b) refl
  where
    by : (o : Option Body) → f.body b ≡ o → (present_on disk f b).torn ≡ false
    by (Some y) is = (spares.spared b (inl judged)).whole (ap (λ (o : Option Body). is_some o) is)
    by None is = ap (λ (o : Option Body). (unwrap_or o (content_of (sector_of disk) b)).torn) is ∙ plain_untorn b.kind (raw_from (sector_of disk) b.first (sectors b.kind)) plain

pub all_lead : BlocksOffLog → WritesKeep → WritesKeepNames → WritesKeepLists → PlansLeadOn
all_lead off_log keeps stay counted = record {
  leads = λ m table c s op n stamp a r x new changes k. leads_as_asked keeps m table c s op n stamp a r x new changes k stay counted;
  logged = λ m table c s op n stamp a r x new changes f k has boot.
      (let is = is_kept keeps m table c s op n stamp a r x new changes k in
      all_logged off_log f m has changes is.off (off_boot keeps m table c s op n stamp a r x new changes k boot) is.second is.keeps.some is.keeps.fits);
  whole = whole_sectors;
}
