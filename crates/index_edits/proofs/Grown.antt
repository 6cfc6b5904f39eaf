-- What a growing index puts is the edit by which it has more blocks.
use Rattle.std.proofs.Common.{◌≡◌, ◌-◌, ℕ, Bool, List, Ok, sym, subst}
use Rattle.disk_model.specs.Bytes.{zeros}
use Rattle.disk_model.specs.Content.{Content}
use Rattle.plan_draft.proofs.Parts.{zeros_long}
use Rattle.record_model.specs.declared.runs.Run.{Run}
use Rattle.record_model.specs.Records.{Record}
use Rattle.state_model.specs.declared.geometry.Geometry.{Geometry}
use Rattle.state_model.specs.declared.stream.Extents.{Extents}
use Rattle.volume_model.specs.Volumes.{Volume}
use Rattle.plan_bodies.specs.Bodies.{NewBody}
use Rattle.plan_owners.specs.States.{Stands}
use Rattle.plan_draft.specs.declared.touched.Touched.{Touched}
use Rattle.plan_draft.specs.Drafts.{drafted}
use Rattle.draft_bits.specs.Effects.{IsKept}
use Rattle.draft_records.specs.Records.{fits_room, written_record}
use Rattle.resized_streams.specs.declared.resized.Resized.{Resized}
use Rattle.draft_indexes.specs.declared.blocks.IndexBlocks.{IndexBlocks}
use Rattle.draft_indexes.specs.Growing.{size_with, taken_for, grown_file, blocks_in}
use Rattle.plan_blocks.specs.plan_edits.Moves.{EditsDraft}
use Rattle.plan_blocks.specs.plan_edits.Written.{IsInUse}
use Rattle.plan_blocks.specs.plan_model.Attributes.{RewritesValues}
use Rattle.plan_blocks.proofs.plan_model.Rewriting.{itself}
use Rattle.plan_blocks.proofs.plan_edits.Putting.{Goes}
use Rattle.plan_blocks.specs.Blocks.{GrowsIndex}
use Rattle.plan_blocks.specs.Levels.{is_index_root, PutsRooted}
use Rattle.plan_blocks.proofs.Handing.{as_index}
use Rattle.index_edits.specs.Grown.{GrowsOfVolume, GrownIsEdit}
use Rattle.index_edits.specs.Raised.{MayGrowDrafted}
use Rattle.index_edits.proofs.Fresh.{IsBlockFrom, blocks_go}
use Rattle.index_edits.proofs.Laid.{IsLaid, new_kept, laid_edit}

module _ (c : Content) (g : Geometry) (clusters : ℕ) (v : Volume) (bits : List Bool) (bitmap mirror : Extents) (r : Record) (i : IndexBlocks) (more : ℕ) (old new : List Touched) (z : Resized) (eight : g.per_cluster ≡ 8) (state : Stands (drafted old c) g clusters v)
    (k : GrowsOfVolume c v bits bitmap mirror r i more old new z) where
  abbrev runs : List Run
  runs = taken_for v.per bits more i.extents

  abbrev size : ℕ
  size = size_with more i.extents

  abbrev first : ℕ
  first = blocks_in i.extents.initialised

  abbrev many : ℕ
  many = blocks_in size - first

  may : MayGrowDrafted c v bits bitmap mirror r i more old
  may = record {
    sized = k.sized;
    kept = k.kept;
    count = k.count;
    free = k.free;
    space = k.space;
    file = k.file;
    apart = k.apart;
    no_list = k.no_list;
    directory = k.directory;
    streams = k.streams;
    begun = k.begun;
    stands = k.stands;
    marks = k.marks;
    mirror_is = k.mirror_is;
  }

  file_is : z.file ≡ grown_file v.per runs more i
  file_is = k.grows.longer.file

  laid : IsLaid c v bits bitmap mirror r i more old new z
  laid = record {
    may = may;
    extents = k.grows.longer.extents;
    came = k.grows.longer.taken;
    none = k.grows.longer.freed;
    fits = k.grows.fits;
    room = subst (λ (x : Record). fits_room x ≡ Ok tt) (sym file_is) k.room;
    mid = k.grows.put.0;
    put = k.grows.put.1.0;
    went = λ kept. subst (Goes (IsBlockFrom v.per z.extents first many) (IsBlockFrom v.per z.extents first many) k.grows.put.0) (sym k.grows.put.1.1) (blocks_go c v.per z.extents (zeros 4096) first many k.grows.put.0 k.sized (zeros_long 4096) kept);
    values = λ made. subst (λ (x : Record). RewritesValues is_index_root (written_record (grown_file v.per runs more i)) (written_record x)) (sym file_is) (itself is_index_root (written_record (grown_file v.per runs more i)));
    used = λ made used. subst IsInUse (sym file_is) used;
  }

  kept_now : IsKept new
  kept_now = new_kept c g clusters v bits bitmap mirror r i more old new z eight state laid

  grown_edit : (bodies : List NewBody) × (EditsDraft c old new bodies × GrowsIndex (drafted old c) v i.number r runs size size (written_record z.file) bodies)
  grown_edit =
      let is = laid_edit c g clusters v bits bitmap mirror r i more old new z eight state laid in
      let own : PutsRooted (drafted old c) v i.number r runs size size (written_record z.file) (written_record z.file) is.0 = subst (λ (x : Record). PutsRooted (drafted old c) v i.number r runs size size (written_record x) (written_record z.file) is.0) (sym file_is) is.1.1 in
      (is.0, (is.1.0, as_index (drafted old c) v i.number r runs size size (written_record z.file) is.0 own))

pub grown_is : GrownIsEdit
grown_is c g clusters v bits bitmap mirror r i more old new z eight state k = (kept_now c g clusters v bits bitmap mirror r i more old new z eight state k, grown_edit c g clusters v bits bitmap mirror r i more old new z eight state k)
