-- A stream that takes clusters, put into a draft with their bits, wherever these stand.
use Rattle.std.proofs.Common.{◌≡◌, ◌≢◌, ◌⊎◌, ℕ, ◌+◌, ◌<◌, Bool, true, false, cond, leb, List, [], Option, Some, sym, ap, ap₂, subst, ◌∙◌, inl, inr, arith}
use Rattle.std.specs.List.{list_all, AllByRecursion}
use Rattle.disk_model.specs.declared.block.Block.{Block}
use Rattle.disk_model.specs.declared.block.BlockKind.{BlockKind}
use Rattle.disk_model.specs.Content.{Content, HasSizes}
use Rattle.record_model.specs.declared.runs.Run.{Run}
use Rattle.record_model.specs.Constants.{data_type}
use Rattle.record_model.specs.Records.{Record, record_spelling}
use Rattle.bit_set.specs.Bits.{bit}
use Rattle.state_model.specs.declared.geometry.Geometry.{Geometry}
use Rattle.state_model.specs.declared.stream.Extents.{Extents}
use Rattle.state_model.specs.declared.stream.Stream.{Stream}
use Rattle.state_model.specs.declared.stream.Stream.TheVariants.{Placed}
use Rattle.state_model.specs.Loads.{extents_or}
use Rattle.volume_model.specs.Volumes.{Volume, bytes_or, cluster_bits, file_in, file_stream, mirror_file}
use Rattle.volume_model.specs.Owners.{uses, volume_runs}
use Rattle.volume_model.specs.Sizes.{lies_inside}
use Rattle.stream_laws.specs.Owners.{IsLive, Owns, stream_kind}
use Rattle.stream_laws.specs.Sharing.{stream_at, StreamKey}
use Rattle.stream_laws.specs.Tables.{table_key}
use Rattle.stream_runs.proofs.Merging.{follow-grown}
use Rattle.tree_laws.proofs.Ascending.{all_by}
use Rattle.resized_streams.specs.declared.resized.Resized.{Resized}
use Rattle.resized_streams.specs.Resizing.{IsGrown, lengthened}
use Rattle.plan_owners.specs.States.{Stands}
use Rattle.plan_owners.specs.Kinds.{OwnsAs}
use Rattle.plan_bodies.specs.Bodies.{content_with, NewBody, put_bodies}
use Rattle.plan_bodies.proofs.Putting.{all_in_both, are_bodies as both_are, sized_with}
use Rattle.plan_draft.specs.declared.touched.Touched.{Touched}
use Rattle.plan_draft.specs.Touching.{bodies_of}
use Rattle.plan_draft.specs.Drafts.{drafted}
use Rattle.table_edits.specs.plan_model.Drafts.{FollowsOwners, GoesOn, gives_runs, IsPut}
use Rattle.table_edits.specs.plan_model.Informed.{with_record}
use Rattle.table_edits.proofs.plan_model.OneRecord.{own_record}
use Rattle.table_edits.proofs.plan_model.Quiet.{given_before, given_clear, given_here}
use Rattle.draft_records.specs.Records.{touch_record, written_record}
use Rattle.table_edits.specs.draft_bitmaps.declared.bitmap.Bitmap.{Bitmap}
use Rattle.table_edits.specs.plan_growth.Growing.{MayGive}
use Rattle.table_edits.specs.plan_growth.Streams.{IsOwnStream, key_of, marks_streams}
use Rattle.table_edits.specs.plan_growth.Trees.{TreeFollows}
use Rattle.table_edits.proofs.plan_growth.Growing.{uses-grown}
use Rattle.table_edits.proofs.plan_growth.Resizing.{clusters_are}
use Rattle.table_edits.specs.plan_edits.Moves.{EditsDraft}
use Rattle.table_edits.specs.plan_edits.Records.{IsRecordEdit, PutsRecordOf}
use Rattle.table_edits.specs.plan_edits.Written.{IsInUse}
use Rattle.table_edits.proofs.plan_edits.Reading.{written_read}
use Rattle.table_edits.proofs.plan_edits.Recording.{record_edit}
use Rattle.bitmap_edits.specs.Bitmaps.{PutsFreeRuns, PutsOwnersKept}
use Rattle.bitmap_edits.specs.Streams.{GrowsWithBits, HasGrown, IsDraftOf}
use Rattle.bitmap_edits.proofs.FreeRuns.{both_edit, owns_back, put_first, put_second, runs_put}
use Rattle.bitmap_edits.proofs.Longer.{grown_reads, takes_runs, TakesSet}
use Rattle.bitmap_edits.proofs.OwnRuns.{all_owned, bits_stay, file_now, files_stay, leads, live_before, MovesRuns, owned_or_new, owners, stream_now, tree}
use Rattle.bitmap_edits.proofs.Between.{bitmap_beside, clear_free, mirror_between, out_of, own_between, owned_as_before, set_in}

-- ---- longer runs

module _ (c : Content) (g : Geometry) (clusters : ℕ) (v : Volume) (mirror : Extents) (b : Bitmap) (n kind : ℕ) (name : List ℕ) (e : Extents) (r : Record) (more : List Run) (z : Resized) (old mid new : List Touched) (after : Bitmap) (eight : g.per_cluster ≡ 8) (state : Stands (drafted old c) g clusters v) (k : GrowsWithBits c v mirror b n kind name e r more z old mid new after) where
  abbrev s : Record
  s = written_record z.file

  abbrev key : StreamKey
  key = key_of n kind name

  abbrev block_kind : BlockKind
  block_kind = stream_kind (key_of n kind name)

  free : (x : ℕ) → 0 < uses more x → uses (volume_runs v.files) x ≡ 0
  free x some = clear_free (drafted old c) g clusters v x state (k.taken.clear x some)

  first : PutsFreeRuns c v mirror b more true old mid after
  first = record {
    sized = k.draft.sized;
    kept = k.draft.kept;
    bitmap = k.draft.bitmap;
    mirror_is = k.draft.mirror_is;
    inside = k.taken.inside;
    free = free;
    put = k.bits;
  }

  bits : PutsOwnersKept c g clusters v more true old mid after
  bits = runs_put c g clusters v mirror b more true old mid after eight state first

  abbrev w : Volume
  w = bits.volume

  abbrev u : Volume
  u = with_record bits.volume n s

  state_w : Stands (drafted mid c) g clusters w
  state_w = subst (λ (y : Content). Stands y g clusters bits.volume) bits.edits.content bits.keeps.stands

  own : IsOwnStream w n kind name r (Placed e)
  own = own_between (drafted old c) g clusters v bits.bodies bits.volume n kind name r (Placed e) bits.keeps k.own

  put_file : PutsRecordOf c w mirror n z.file mid new
  put_file = record {
    sized = k.draft.sized;
    kept = bits.kept;
    mirror_is = mirror_between (drafted old c) g clusters v bits.bodies bits.volume mirror bits.keeps k.draft.mirror_is;
    fits = k.file.fits;
    room = k.file.room;
    put = subst (λ (p : ℕ). new ≡ touch_record c p bits.volume.table mirror n (record_spelling s) mid) (sym bits.keeps.per) (subst (λ (x : Extents). new ≡ touch_record c v.per x mirror n (record_spelling s) mid) (sym bits.keeps.table) k.file.put);
  }

  grown_w : IsGrown w.per kind name e r more z
  grown_w = subst (λ (p : ℕ). IsGrown p kind name e r more z) (sym bits.keeps.per) k.grown

  used : IsInUse z.file
  used =
      subst IsInUse (sym k.grown.file)
      (written_read.placed v.per kind name (lengthened v.per more e) r (follow-grown e.runs more k.spelled k.taken.spelled k.room)
      (written_read.used (drafted old c) v.per v.table n r (own_record (drafted old c) g clusters v n r state k.own.file k.own.no_list).slot))

  edit : IsRecordEdit c w n z.file mid new
  edit = record_edit.edit c g clusters bits.volume mirror n r z.file mid new state_w own.file own.no_list used put_file

  sized_mid : HasSizes (drafted mid c)
  sized_mid = sized_with c (bodies_of mid) k.draft.sized

  low_w : (x : ℕ) → x < w.clusters → x < v.clusters
  low_w x low = subst (λ (y : ℕ). x < y) bits.keeps.clusters_stay low

  -- the bits of the volume between
  bit_between : (x : ℕ) → x < v.clusters → bit (cluster_bits (drafted mid c) w) x ≡ cond (leb 1 (uses more x)) true (bit (cluster_bits (drafted old c) v) x)
  bit_between x low = ap (λ (y : Content). bit (cluster_bits y bits.volume) x) (sym bits.edits.content) ∙ bits.bits x low

  takes : TakesSet (drafted mid c) w n kind name e r more z s edit.bodies
  takes = record {
    own = own;
    spelled = k.spelled;
    grown = grown_w;
    more_spelled = k.taken.spelled;
    whole = k.taken.whole;
    inside = subst (λ (y : ℕ). list_all (lies_inside y) more ≡ true) (sym bits.keeps.clusters_stay) k.taken.inside;
    once = k.taken.once;
    free = λ x some. bits.keeps.owners x ∙ free x some;
    set = λ x low some. bit_between x (low_w x low) ∙ set_in (uses more x) (bit (cluster_bits (drafted old c) v) x) some;
    room = k.room;
    written = written_read.written z.file;
    puts = edit.puts;
    marked = λ x low. ap (λ (l : List Bool). bit l x) edit.marked;
  }

  abbrev f : Extents
  f = lengthened w.per more e

  moves : MovesRuns (drafted mid c) w n kind name (Placed e) f r z.file s edit.bodies
  moves = takes_runs (drafted mid c) g clusters bits.volume n kind name e r more z s edit.bodies sized_mid eight state_w takes

  f_is : z.extents ≡ f
  f_is = grown_w.extents

  -- ---- as one edit

  abbrev bodies : List NewBody
  bodies = put_bodies edit.bodies bits.bodies

  edits : EditsDraft c old new bodies
  edits = both_edit c bits.bodies edit.bodies old mid new k.draft.sized bits.keeps.whole edit.puts.whole bits.edits edit.edits

  stands_there : Stands (content_with (drafted mid c) edit.bodies) g clusters u
  stands_there = (leads (drafted mid c) g clusters bits.volume n kind name (Placed e) f r z.file s edit.bodies sized_mid eight state_w moves).stands

  stands_new : Stands (drafted new c) g clusters u
  stands_new = subst (λ (y : Content). Stands y g clusters (with_record bits.volume n s)) edit.edits.content stands_there

  owners_now : (x : ℕ) → uses (volume_runs u.files) x ≡ uses (volume_runs v.files) x + uses more x
  owners_now x =
      let sums = owners (drafted mid c) g clusters bits.volume n kind name (Placed e) f r z.file s edit.bodies sized_mid eight state_w moves x in
      let same = bits.keeps.owners x in
      let more_now = uses-grown e.runs more x in
      omega (arith, sums, same, more_now)

  bit_now : (x : ℕ) → x < v.clusters → bit (cluster_bits (content_with (drafted old c) bodies) u) x ≡ cond (leb 1 (uses more x)) true (bit (cluster_bits (drafted old c) v) x)
  bit_now x low =
      ap (λ (y : Content). bit (cluster_bits y (with_record bits.volume n s)) x) (edits.content ∙ sym edit.edits.content)
      ∙ bits_stay (drafted mid c) g clusters bits.volume n kind name (Placed e) f r z.file s edit.bodies sized_mid eight state_w moves x (subst (λ (y : ℕ). x < y) (sym bits.keeps.clusters_stay) low)
      ∙ bit_between x low

  as_clusters : (x : ℕ) → x < clusters → x < v.clusters
  as_clusters x low = subst (λ (y : ℕ). x < y) (clusters_are (drafted old c) g clusters v state) low

  marks : FollowsOwners clusters (cluster_bits (drafted old c) v) (cluster_bits (content_with (drafted old c) bodies) u) v.files u.files
  marks = record {
    cleared = λ x low less. absurd (let sum = owners_now x in omega (arith, sum, less));
    set = λ x low rise. (let sum = owners_now x in let some : 0 < uses more x = omega (arith, sum, rise) in (k.taken.clear x some, bit_now x (as_clusters x low) ∙ set_in (uses more x) (bit (cluster_bits (drafted old c) v) x) some));
    others = λ x low equal. (let sum = owners_now x in bit_now x (as_clusters x low) ∙ out_of (uses more x) true (bit (cluster_bits (drafted old c) v) x) (omega (arith, sum, equal)));
  }

  takes_kind : (start : Volume) (gave : ℕ → Option BlockKind) (other : BlockKind) (x : ℕ) → OwnsAs u other x → OwnsAs v other x ⊎ (gives_runs block_kind more gave x ≡ Some other)
  takes_kind start gave other x owns = elim (owned_or_new (drafted mid c) g clusters bits.volume n kind name (Placed e) f r z.file s edit.bodies sized_mid eight state_w moves other x owns) [
    | inl was ↦ inl (owned_as_before (drafted old c) g clusters v bits.bodies bits.volume other x bits.keeps was)
    | inr is ↦
        (let sum = uses-grown e.runs more x in
        let has_now = is.0 in
        let none = is.1.0 in
        inr (given_here block_kind more gave x (omega (arith, sum, has_now, none)) ∙ ap (λ (y : BlockKind). Some y) is.1.1))
  ]

  covered : (x : Block) → IsLive u x → IsLive v x ⊎ IsPut bodies x
  covered x live = elim (live_before (drafted mid c) g clusters bits.volume n kind name (Placed e) f r z.file s edit.bodies sized_mid eight state_w moves x live) [
    | inl between ↦ elim (bits.keeps.covers x between) [
      | inl was ↦ inl was
      | inr put ↦ inr (put_first bits.bodies edit.bodies x edit.puts.whole put)
    ]
    | inr put ↦ inr (put_second bits.bodies edit.bodies x edit.puts.whole put)
  ]

  owned : AllByRecursion (λ q. Owns v q.block ⊎ Owns u q.block) bodies
  owned =
      all_by (λ q. Owns v q.block) (λ q. Owns v q.block ⊎ Owns u q.block) (λ q owns. inl owns) bodies
      (all_in_both (λ q. Owns v q.block) bits.bodies edit.bodies bits.keeps.owned
      (all_by (λ q. Owns w q.block) (λ q. Owns v q.block) (λ q owns. owns_back (drafted old c) g clusters v bits.bodies bits.volume q.block bits.keeps owns) edit.bodies (all_owned (drafted mid c) g clusters bits.volume n kind name (Placed e) f r z.file s edit.bodies sized_mid eight state_w moves edit.puts.each)))

  goes_on : (begin : Content) (start : Volume) (gave : ℕ → Option BlockKind) → MayGive begin start block_kind more gave → GoesOn begin start (drafted old c) g clusters v bodies u gave (gives_runs block_kind more gave)
  goes_on begin start gave may = record {
    whole = both_are bits.bodies edit.bodies bits.keeps.whole edit.puts.whole;
    stands = subst (λ (y : Content). Stands y g clusters (with_record bits.volume n s)) (sym edits.content) stands_new;
    marks = marks;
    kept = given_before block_kind more gave may.same;
    takes = takes_kind start gave;
    clear = given_clear block_kind more gave (cluster_bits begin start) may.taken may.before;
    touched = owned;
    covers = covered;
  }

  table_apart : table_key ≢ key
  table_apart same = k.own.apart.table (sym (ap (λ (t : StreamKey). t.file) same))

  bytes : marks_streams key ≡ false → bytes_or (drafted new c) v.per (stream_at u key) ≡ bytes_or (drafted old c) v.per (stream_at v key)
  bytes apart =
      let now = stream_now (drafted mid c) g clusters bits.volume n kind name (Placed e) f r z.file s edit.bodies sized_mid eight state_w moves in
      ap₂ (λ (y : Content) (o : Option Stream). bytes_or y v.per o) (sym edit.edits.content) now
      ∙ subst (λ (p : ℕ). bytes_or (content_with (drafted mid c) edit.bodies) p (Some (Placed f)) ≡ bytes_or (drafted mid c) p (stream_at bits.volume key)) bits.keeps.per (grown_reads (drafted mid c) g clusters bits.volume n kind name e r more z s edit.bodies sized_mid eight state_w takes apart)
      ∙ ap (λ (y : Content). bytes_or y v.per (stream_at bits.volume key)) (sym bits.edits.content)
      ∙ bits.keeps.reads key apart table_apart

  same_others : (m : ℕ) → m ≢ n → file_in u m ≡ file_in w m
  same_others = files_stay (drafted mid c) g clusters bits.volume n kind name (Placed e) f r z.file s edit.bodies sized_mid eight state_w moves

  next : n ≢ mirror_file → IsDraftOf c u mirror after new
  next other = record {
    sized = k.draft.sized;
    kept = record_edit.kept c bits.volume mirror n z.file mid new put_file;
    bitmap = bitmap_beside bits.volume (with_record bits.volume n s) n after k.own.apart.bitmap same_others bits.bitmap;
    mirror_is = ap (λ (o : Option Record). extents_or (file_stream data_type [] o)) (same_others mirror_file (λ is. other (sym is))) ∙ put_file.mirror_is;
  }

  pub has_grown : HasGrown c g clusters v mirror n kind name e r more z old mid new after
  has_grown = record {
    bits = bits;
    bodies = bodies;
    edits = edits;
    stands = stands_new;
    stream = stream_now (drafted mid c) g clusters bits.volume n kind name (Placed e) f r z.file s edit.bodies sized_mid eight state_w moves ∙ ap (λ (x : Extents). Some (Placed x)) (sym f_is);
    files = λ m other apart. files_stay (drafted mid c) g clusters bits.volume n kind name (Placed e) f r z.file s edit.bodies sized_mid eight state_w moves m other ∙ bits.keeps.files m apart;
    own_file = file_now (drafted mid c) g clusters bits.volume n kind name (Placed e) f r z.file s edit.bodies sized_mid eight state_w moves;
    next = next;
    tree = λ whole. subst (λ (y : Content). TreeFollows (drafted mid c) y bits.volume n r s) edit.edits.content (tree (drafted mid c) g clusters bits.volume n kind name (Placed e) f r z.file s edit.bodies sized_mid eight state_w moves whole);
    bytes = bytes;
    goes_on = goes_on;
  }
