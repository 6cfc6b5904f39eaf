-- A stream that gives clusters back, put into a draft with their bits, wherever these stand.
use Rattle.std.proofs.Common.{◌≡◌, ◌≢◌, ◌⊎◌, ℕ, ◌+◌, ◌<◌, Bool, true, false, cond, leb, List, [], take, Option, Some, sym, ap, ap₂, subst, ◌∙◌, inl, inr, arith}
use Rattle.std.specs.List.{list_all, AllByRecursion}
use Rattle.disk_model.specs.declared.block.Block.{Block}
use Rattle.disk_model.specs.declared.block.BlockKind.{BlockKind}
use Rattle.disk_model.specs.Content.{Content, HasSizes}
use Rattle.record_model.specs.declared.runs.Run.{Run}
use Rattle.record_model.specs.Constants.{data_type}
use Rattle.record_model.specs.Records.{Record}
use Rattle.bit_set.specs.Bits.{bit}
use Rattle.state_model.specs.declared.geometry.Geometry.{Geometry}
use Rattle.state_model.specs.declared.stream.Extents.{Extents}
use Rattle.state_model.specs.declared.stream.Stream.TheVariants.{Placed}
use Rattle.state_model.specs.Loads.{extents_or}
use Rattle.state_model.specs.Streams.{block_at}
use Rattle.volume_model.specs.Volumes.{Volume, bytes_or, cluster_bits, file_in, file_stream, mirror_file}
use Rattle.volume_model.specs.Owners.{uses, volume_runs}
use Rattle.volume_model.specs.Sizes.{lies_inside}
use Rattle.stream_laws.specs.Owners.{IsLive, Owns, stream_kind}
use Rattle.stream_laws.specs.Sharing.{stream_at, StreamKey}
use Rattle.stream_laws.specs.Tables.{table_key}
use Rattle.stream_runs.specs.Runs.{back}
use Rattle.stream_runs.proofs.Merging.{follow-merged}
use Rattle.stream_runs.proofs.Parts.{follow-front}
use Rattle.tree_laws.proofs.Ascending.{all_by}
use Rattle.resized_streams.specs.declared.resized.Resized.{Resized}
use Rattle.resized_streams.specs.Resizing.{clusters_for, shortened}
use Rattle.plan_owners.specs.States.{Stands}
use Rattle.plan_owners.specs.Kinds.{OwnsAs}
use Rattle.plan_owners.proofs.Outside.{once}
use Rattle.plan_bodies.specs.Bodies.{content_with, NewBody, put_bodies}
use Rattle.plan_bodies.proofs.Putting.{all_in_both, are_bodies as both_are, sized_with}
use Rattle.plan_draft.specs.declared.touched.Touched.{Touched}
use Rattle.plan_draft.specs.Touching.{bodies_of}
use Rattle.plan_draft.specs.Drafts.{drafted}
use Rattle.table_edits.specs.plan_model.Drafts.{FollowsOwners, GoesOn, IsPut}
use Rattle.table_edits.specs.plan_model.Informed.{with_record}
use Rattle.table_edits.proofs.plan_model.OneRecord.{own_record}
use Rattle.draft_records.specs.Records.{written_record}
use Rattle.table_edits.specs.draft_bitmaps.declared.bitmap.Bitmap.{Bitmap}
use Rattle.table_edits.specs.plan_growth.Streams.{key_of, marks_streams}
use Rattle.table_edits.specs.plan_growth.Trees.{TreeFollows}
use Rattle.table_edits.proofs.plan_growth.Resizing.{clusters_are}
use Rattle.table_edits.specs.plan_edits.Edits.{mirror_key}
use Rattle.table_edits.specs.plan_edits.Moves.{EditsDraft}
use Rattle.table_edits.specs.plan_edits.Records.{IsRecordEdit, PutsRecordOf}
use Rattle.table_edits.specs.plan_edits.Written.{IsInUse}
use Rattle.table_edits.proofs.plan_edits.Reading.{written_read}
use Rattle.table_edits.proofs.plan_edits.Recording.{record_edit}
use Rattle.bitmap_edits.specs.Bitmaps.{PutsFreeRuns, PutsOwnersKept}
use Rattle.bitmap_edits.specs.Streams.{CutsWithBits, HasCut, ResizedWithBits}
use Rattle.bitmap_edits.proofs.FreeRuns.{both_edit, put_first, put_second, runs_put}
use Rattle.bitmap_edits.proofs.OwnRuns.{all_owned, bits_stay, file_now, files_stay, leads, live_before, MovesRuns, owned_or_new, owners, stream_now, tree}
use Rattle.bitmap_edits.proofs.Shorter.{back_inside, cut_reads, gives_runs_back, GivesSet, old_inside, uses_split}
use Rattle.bitmap_edits.proofs.Between.{bitmap_beside, clear_in, mirror_between, out_of, owned_as_before}
use Rattle.bitmap_edits.proofs.Moving.{has_moved}
use Rattle.bitmap_edits.proofs.Taking.{has_grown}

-- ---- shorter runs

module _ (c : Content) (g : Geometry) (clusters : ℕ) (v : Volume) (mirror : Extents) (b : Bitmap) (n kind : ℕ) (name : List ℕ) (e : Extents) (r : Record) (size : ℕ) (z : Resized) (old mid new : List Touched) (after : Bitmap) (eight : g.per_cluster ≡ 8) (state : Stands (drafted old c) g clusters v) (k : CutsWithBits c v mirror b n kind name e r size z old mid new after) where
  abbrev s : Record
  s = written_record z.file

  abbrev key : StreamKey
  key = key_of n kind name

  abbrev d : Content
  d = drafted old c

  abbrev w : Volume
  w = with_record v n s

  abbrev f : Extents
  f = shortened v.per size e

  put_file : PutsRecordOf c v mirror n z.file old mid
  put_file = record {
    sized = k.draft.sized;
    kept = k.draft.kept;
    mirror_is = k.draft.mirror_is;
    fits = k.file.fits;
    room = k.file.room;
    put = k.file.put;
  }

  used : IsInUse z.file
  used =
      subst IsInUse (sym k.cut.file)
      (written_read.placed v.per kind name f r (follow-merged 0 0 _ (follow-front 0 0 (clusters_for v.per size) e.runs k.spelled))
      (written_read.used (drafted old c) v.per v.table n r (own_record (drafted old c) g clusters v n r state k.own.file k.own.no_list).slot))

  edit : IsRecordEdit c v n z.file old mid
  edit = record_edit.edit c g clusters v mirror n r z.file old mid state k.own.file k.own.no_list used put_file

  sized_d : HasSizes d
  sized_d = sized_with c (bodies_of old) k.draft.sized

  gives : GivesSet d v n kind name e r size z s edit.bodies
  gives = record {
    own = k.own;
    no_index = k.no_index;
    spelled = k.spelled;
    cut = k.cut;
    less = k.less;
    written = written_read.written z.file;
    puts = edit.puts;
    marked = λ x low. ap (λ (l : List Bool). bit l x) edit.marked;
  }

  moves : MovesRuns d v n kind name (Placed e) f r z.file s edit.bodies
  moves = gives_runs_back d g clusters v n kind name e r size z s edit.bodies sized_d eight state gives

  state_w : Stands (drafted mid c) g clusters w
  state_w = subst (λ (y : Content). Stands y g clusters (with_record v n s)) edit.edits.content (leads d g clusters v n kind name (Placed e) f r z.file s edit.bodies sized_d eight state moves).stands

  abbrev freed : List Run
  freed = z.freed.items

  freed_is : freed ≡ back (clusters_for v.per size) e.runs
  freed_is = k.cut.freed

  owners_between : (x : ℕ) → uses (volume_runs w.files) x + uses freed x ≡ uses (volume_runs v.files) x
  owners_between x =
      let sums = owners d g clusters v n kind name (Placed e) f r z.file s edit.bodies sized_d eight state moves x in
      let split = uses_split d g clusters v n kind name e r size z s edit.bodies sized_d eight state gives x in
      let same : uses z.freed.items x ≡ uses (back (clusters_for v.per size) e.runs) x = ap (λ (l : List Run). uses l x) k.cut.freed in
      omega (arith, sums, split, same)

  same_others : (m : ℕ) → m ≢ n → file_in w m ≡ file_in v m
  same_others = files_stay d g clusters v n kind name (Placed e) f r z.file s edit.bodies sized_d eight state moves

  mirror_w : extents_or (stream_at w mirror_key) ≡ mirror
  mirror_w = ap (λ (o : Option Record). extents_or (file_stream data_type [] o)) (same_others mirror_file (λ e. k.no_mirror (sym e))) ∙ k.draft.mirror_is

  first : PutsFreeRuns c w mirror b freed false mid new after
  first = record {
    sized = k.draft.sized;
    kept = record_edit.kept c v mirror n z.file old mid put_file;
    bitmap = bitmap_beside v (with_record v n s) n b k.own.apart.bitmap same_others k.draft.bitmap;
    mirror_is = mirror_w;
    inside = subst (λ (l : List Run). list_all (lies_inside v.clusters) l ≡ true) (sym freed_is) (back_inside v.clusters (clusters_for v.per size) e.runs (old_inside d g clusters v n kind name e r size z s edit.bodies sized_d eight state gives));
    free = λ x some. (let sum = owners_between x in let most = once d g clusters v state x in omega (arith, sum, most, some));
    put = k.bits;
  }

  bits : PutsOwnersKept c g clusters w freed false mid new after
  bits = runs_put c g clusters (with_record v n s) mirror b freed false mid new after eight state_w first

  abbrev u : Volume
  u = bits.volume

  -- ---- as one edit

  abbrev bodies : List NewBody
  bodies = put_bodies bits.bodies edit.bodies

  edits : EditsDraft c old new bodies
  edits = both_edit c edit.bodies bits.bodies old mid new k.draft.sized edit.puts.whole bits.keeps.whole edit.edits bits.edits

  stands_new : Stands (drafted new c) g clusters u
  stands_new = subst (λ (y : Content). Stands y g clusters bits.volume) bits.edits.content bits.keeps.stands

  owners_now : (x : ℕ) → uses (volume_runs u.files) x + uses freed x ≡ uses (volume_runs v.files) x
  owners_now x = (let sum = owners_between x in let same = bits.keeps.owners x in omega (arith, sum, same))

  bit_now : (x : ℕ) → x < v.clusters → bit (cluster_bits (content_with d bodies) u) x ≡ cond (leb 1 (uses freed x)) false (bit (cluster_bits d v) x)
  bit_now x low =
      ap (λ (y : Content). bit (cluster_bits y bits.volume) x) (edits.content ∙ sym bits.edits.content)
      ∙ bits.bits x low
      ∙ ap (λ (y : Content). cond (leb 1 (uses freed x)) false (bit (cluster_bits y (with_record v n s)) x)) (sym edit.edits.content)
      ∙ ap (λ (t : Bool). cond (leb 1 (uses freed x)) false t) (bits_stay d g clusters v n kind name (Placed e) f r z.file s edit.bodies sized_d eight state moves x low)

  as_clusters : (x : ℕ) → x < clusters → x < v.clusters
  as_clusters x low = subst (λ (y : ℕ). x < y) (clusters_are d g clusters v state) low

  marks : FollowsOwners clusters (cluster_bits d v) (cluster_bits (content_with d bodies) u) v.files u.files
  marks = record {
    cleared = λ x low less. (let sum = owners_now x in bit_now x (as_clusters x low) ∙ clear_in (uses freed x) (bit (cluster_bits d v) x) (omega (arith, sum, less)));
    set = λ x low rise. absurd (let sum = owners_now x in omega (arith, sum, rise));
    others = λ x low equal. (let sum = owners_now x in bit_now x (as_clusters x low) ∙ out_of (uses freed x) false (bit (cluster_bits d v) x) (omega (arith, sum, equal)));
  }

  takes_kind : (gave : ℕ → Option BlockKind) (other : BlockKind) (x : ℕ) → OwnsAs u other x → OwnsAs v other x ⊎ (gave x ≡ Some other)
  takes_kind gave other x owns = elim (owned_or_new d g clusters v n kind name (Placed e) f r z.file s edit.bodies sized_d eight state moves other x (owned_as_before (drafted mid c) g clusters (with_record v n s) bits.bodies bits.volume other x bits.keeps owns)) [
    | inl was ↦ inl was
    | inr is ↦
        (let split = uses_split d g clusters v n kind name e r size z s edit.bodies sized_d eight state gives x in
        let has_now = is.0 in
        let none = is.1.0 in
        absurd (omega (arith, split, has_now, none)))
  ]

  covered : (x : Block) → IsLive u x → IsLive v x ⊎ IsPut bodies x
  covered x live = elim (bits.keeps.covers x live) [
    | inl between ↦ elim (live_before d g clusters v n kind name (Placed e) f r z.file s edit.bodies sized_d eight state moves x between) [
      | inl was ↦ inl was
      | inr put ↦ inr (put_first edit.bodies bits.bodies x bits.keeps.whole put)
    ]
    | inr put ↦ inr (put_second edit.bodies bits.bodies x bits.keeps.whole put)
  ]

  -- what the second volume owns, the last one does
  owns_last : (x : Block) → Owns w x → Owns u x
  owns_last x owns = record {
    stream = owns.stream;
    number = owns.number;
    lies = ap₂ (λ (p : ℕ) (l : List Run). block_at p l (stream_kind owns.stream) owns.number) bits.keeps.per (bits.keeps.runs owns.stream) ∙ owns.lies;
  }

  owned : AllByRecursion (λ q. Owns v q.block ⊎ Owns u q.block) bodies
  owned =
      all_in_both (λ q. Owns v q.block ⊎ Owns u q.block) edit.bodies bits.bodies
      (all_by (λ q. Owns v q.block) (λ q. Owns v q.block ⊎ Owns u q.block) (λ q owns. inl owns) edit.bodies (all_owned d g clusters v n kind name (Placed e) f r z.file s edit.bodies sized_d eight state moves edit.puts.each))
      (all_by (λ q. Owns w q.block) (λ q. Owns v q.block ⊎ Owns u q.block) (λ q owns. inr (owns_last q.block owns)) bits.bodies bits.keeps.owned)

  goes_on : (begin : Content) (start : Volume) (gave : ℕ → Option BlockKind) → ((other : BlockKind) (x : ℕ) → gave x ≡ Some other → bit (cluster_bits begin start) x ≡ false) → GoesOn begin start d g clusters v bodies u gave gave
  goes_on begin start gave clear = record {
    whole = both_are edit.bodies bits.bodies edit.puts.whole bits.keeps.whole;
    stands = subst (λ (y : Content). Stands y g clusters bits.volume) (sym edits.content) stands_new;
    marks = marks;
    kept = λ other x given. given;
    takes = takes_kind gave;
    clear = clear;
    touched = owned;
    covers = covered;
  }

  table_apart : table_key ≢ key
  table_apart same = k.own.apart.table (sym (ap (λ (t : StreamKey). t.file) same))

  stream_between : stream_at w key ≡ Some (Placed f)
  stream_between = stream_now d g clusters v n kind name (Placed e) f r z.file s edit.bodies sized_d eight state moves

  bytes : marks_streams key ≡ false → bytes_or (drafted new c) v.per (stream_at u key) ≡ take size (bytes_or (drafted old c) v.per (stream_at v key))
  bytes apart =
      ap (λ (y : Content). bytes_or y v.per (stream_at bits.volume key)) (sym bits.edits.content)
      ∙ bits.keeps.reads key apart table_apart
      ∙ ap (λ (y : Content). bytes_or y v.per (stream_at (with_record v n s) key)) (sym edit.edits.content)
      ∙ ap (bytes_or (content_with d edit.bodies) v.per) stream_between
      ∙ cut_reads d g clusters v n kind name e r size z s edit.bodies sized_d eight state gives apart

  own_file : file_in w n ≡ Some s
  own_file = file_now d g clusters v n kind name (Placed e) f r z.file s edit.bodies sized_d eight state moves

  pub has_cut : HasCut c g clusters v mirror n kind name e r size z old mid new after
  has_cut = record {
    bits = bits;
    bodies = bodies;
    edits = edits;
    stands = stands_new;
    stream = stream_between ∙ ap (λ (x : Extents). Some (Placed x)) (sym k.cut.extents);
    files = λ m other apart. bits.keeps.files m apart ∙ same_others m other;
    own_file = bits.keeps.files n k.own.apart.bitmap ∙ own_file;
    next = record {
      sized = k.draft.sized;
      kept = bits.kept;
      bitmap = bits.bitmap;
      mirror_is = mirror_between (drafted mid c) g clusters (with_record v n s) bits.bodies bits.volume mirror bits.keeps mirror_w;
    };
    tree = λ whole. subst (λ (y : Content). TreeFollows d y v n r s) edit.edits.content (tree d g clusters v n kind name (Placed e) f r z.file s edit.bodies sized_d eight state moves whole);
    bytes = bytes;
    goes_on = goes_on;
  }

pub resized_edit : ResizedWithBits
resized_edit = record { grown = has_grown; cut = has_cut; moved = has_moved }
