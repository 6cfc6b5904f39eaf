-- The sizes, the bytes and the times of a file whose data stands in clusters, behind the edits that gave it these.
use Rattle.std.proofs.Common.{◌≡◌, ◌⊎◌, ℕ, ◌+◌, ◌*◌, ◌<◌, ◌≤◌, ◌^◌, max, Bool, true, false, ◌&&◌, ◌||◌, eqb, nat_eq, leb, List, [], length, Option, Some, refl, sym, ap, ap₂, subst, ◌∙◌, inl, inr, arith}
use Rattle.std.specs.List.{list_all}
use Rattle.std.specs.Cmp.Lexicographic.{pointwise}
use Rattle.std.proofs.lemmas.Bool.{cases_Bool, and_parts, eqb-true, leb-true}
use Rattle.disk_model.specs.declared.block.Block.{Block}
use Rattle.disk_model.specs.declared.block.BlockKind.{BlockKind}
use Rattle.disk_model.specs.declared.block.BlockKind.TheVariants.{Plain, FileRec}
use Rattle.disk_model.specs.Content.{Content, HasSizes as HasBlockSizes}
use Rattle.record_model.specs.Constants.{data_type, standard_information}
use Rattle.record_model.specs.Pairs.{HasSpelling}
use Rattle.record_model.specs.Records.{Record, record_spelling}
use Rattle.file_tree.specs.declared.node.Node.{Node}
use Rattle.file_tree.specs.Walks.{first_user_record}
use Rattle.state_model.specs.declared.geometry.Geometry.{Geometry}
use Rattle.state_model.specs.declared.stream.Extents.{Extents}
use Rattle.state_model.specs.declared.stream.Stream.{Stream}
use Rattle.state_model.specs.declared.stream.Stream.TheVariants.{Placed}
use Rattle.state_model.specs.Files.{has_type, info_of}
use Rattle.state_model.specs.Loads.{total_clusters, extents_or}
use Rattle.state_model.specs.Streams.{block_at}
use Rattle.written_values.specs.volume_model.Volumes.{Volume, bytes_or, file_stream}
use Rattle.written_values.specs.volume_model.Sizes.{has_hole, lies_inside, has_sizes, fits_volume}
use Rattle.written_values.specs.volume_state.Trees.{tree_of}
use Rattle.tree_model.specs.declared.script.Op.{Op}
use Rattle.tree_model.specs.Needs.{size_after, clusters_for}
use Rattle.tree_model.specs.Effects.{valid_after, HasChanged}
use Rattle.written_values.specs.stream_laws.Owners.{stream_kind}
use Rattle.written_values.specs.stream_laws.Sharing.{StreamKey, stream_at, runs_in}
use Rattle.written_values.proofs.stream_laws.Changing.{length-extent_bytes}
use Rattle.written_values.proofs.stream_laws.Sharing.{same_from_test, same_key}
use Rattle.written_values.specs.plan_owners.States.{Stands}
use Rattle.plan_bodies.specs.Bodies.{NewBody, put_bodies}
use Rattle.plan_bodies.proofs.Putting.{sized_with}
use Rattle.plan_draft.specs.declared.touched.Touched.{Touched}
use Rattle.plan_draft.specs.Touching.{bodies_of}
use Rattle.plan_draft.specs.Drafts.{drafted}
use Rattle.written_values.specs.plan_model.Attributes.{RewritesValues}
use Rattle.written_values.specs.plan_model.Edits.{IsOwnedIn}
use Rattle.written_values.specs.plan_model.Informed.{is_info, with_record}
use Rattle.written_values.specs.draft_bits.Effects.{IsKept}
use Rattle.written_values.specs.draft_streams.Parts.{touch_bytes}
use Rattle.written_values.specs.draft_records.Records.{written_record, touch_record}
use Rattle.written_values.specs.record_streams.Placing.{placed_record}
use Rattle.written_values.specs.record_times.Laws.{TimesAreSet}
use Rattle.written_values.specs.record_times.Times.{timed_record}
use Rattle.written_values.specs.resized_streams.declared.resized.Resized.{Resized}
use Rattle.written_values.specs.resized_streams.Resizing.{with_sizes, IsSized}
use Rattle.state_streams.specs.plan_growth.Streams.{IsOwnStream, IsWritten, key_of, marks_streams}
use Rattle.state_streams.specs.plan_growth.Sizing.{marks_and, SizesStream}
use Rattle.state_streams.proofs.plan_growth.Ruled.{stream_fits}
use Rattle.state_streams.proofs.plan_growth.Sizing.{sized_leads, sized_goes_on}
use Rattle.written_values.specs.plan_values.Values.{IsOwnFile}
use Rattle.written_values.specs.plan_edits.Edits.{mirror_key}
use Rattle.written_values.specs.plan_edits.Moves.{EditsDraft}
use Rattle.written_values.specs.plan_edits.Records.{PutsRecordOf}
use Rattle.written_values.specs.plan_edits.Sizes.{SizesWith, SizesOfVolume}
use Rattle.written_values.proofs.plan_edits.Putting.{bytes_go, each_turned}
use Rattle.written_values.proofs.plan_edits.Recording.{record_edit}
use Rattle.written_values.proofs.plan_edits.Sizing.{sized_edit}
use Rattle.written_values.specs.plan_changes.Bytes.{GrowsFile, place_of, put_of, HasSizes}
use Rattle.written_values.specs.plan_changes.Files.{IsChangeable, own_data, with_own}
use Rattle.written_values.specs.plan_changes.Going.{GoesOnIn}
use Rattle.written_values.specs.plan_changes.Nodes.{NodeBecomes}
use Rattle.written_values.specs.plan_changes.Writes.{sized_volume, WritesInClusters}
use Rattle.written_values.proofs.plan_changes.Bringing.{bytes_come}
use Rattle.written_values.proofs.plan_changes.Going.{files_going}
use Rattle.written_values.proofs.plan_changes.Writing.{written_so}
use Rattle.written_values.specs.file_puts.declared.streams.VolumeStreams.{VolumeStreams}
use Rattle.written_values.specs.file_puts.Puts.{PutsFileRecord, PutsSizes, first_fresh}
use Rattle.written_clusters.proofs.Staying.{types_stay, which_stays}
use Rattle.written_clusters.proofs.Chaining.{PutsTo, KeepsMarks, keeps_with, mark_put, record_put, own_put, Chain, chain_goes_on}
use Rattle.written_clusters.proofs.Timing.{written_spelled, stamped, timed_chain, timed_runs, timed_data}

-- The data of the file stands in clusters that are enough, in a volume that the draft before stands for. Its sizes and its bytes are those
-- of the node with which the operation began.
pub record BeginsSizes (c : Content) (g : Geometry) (clusters : ℕ) (v : Volume) (st : VolumeStreams) (op : Op) (n stamp most : ℕ) (a : Node) (w : Volume) (e : Extents) (r : Record) (old : List Touched) (gave : ℕ → Option BlockKind) (bodies : List NewBody) : Type 0 where
  pub sized : HasBlockSizes c
  pub eight : g.per_cluster ≡ 8
  pub per : w.per ≡ 8
  pub start : Stands c g clusters v
  pub state : Stands (drafted old c) g clusters w
  pub keeps : KeepsMarks v w
  pub table : st.table ≡ w.table
  pub mirror : extents_or (stream_at w mirror_key) ≡ st.mirror
  pub user : first_user_record ≤ n
  pub kept : IsKept old
  pub grows : GrowsFile op a
  pub file : IsChangeable (drafted old c) w n r (with_own (drafted old c) w r a)
  pub before : NodeBecomes n a (with_own (drafted old c) w r a) (tree_of c v) (tree_of (drafted old c) w)
  pub own : IsOwnStream w n data_type [] r (Placed e)
  pub plain : stream_kind (key_of n data_type []) ≡ Plain
  pub spelled : HasSpelling 0 e.runs
  pub real : e.real ≡ a.size
  pub valid : e.initialised ≡ a.valid
  pub bytes : bytes_or (drafted old c) w.per (own_data r) ≡ a.bytes
  pub whole : has_hole (Some (Placed e)) ≡ false
  pub total : total_clusters e.runs ≡ max a.clusters (clusters_for (size_after op a))
  pub soon : stamp < 2 ^ 64
  pub informed : has_type standard_information r ≡ true
  pub flags : a.flags ≡ (info_of r).flags
  pub created : a.created ≡ (info_of r).created
  pub read_at : a.read_at ≡ (info_of r).read_at
  pub room : (tree_of c v).room ≤ (tree_of (drafted old c) w).room + most
  pub chain : Chain c g clusters v n e.runs old w gave bodies

-- The draft then stands for a state with the file's data in the same clusters, and the operation has changed the tree.
pub record EndsSizes (c : Content) (g : Geometry) (clusters : ℕ) (v w : Volume) (op : Op) (n stamp most : ℕ) (a : Node) (e : Extents) (new : List Touched) (gave : ℕ → Option BlockKind) : Type 0 where
  pub after : Volume
  pub per : after.per ≡ w.per
  pub table : after.table ≡ w.table
  pub f : Extents
  pub runs : f.runs ≡ e.runs
  pub data_is : stream_at after (key_of n data_type []) ≡ Some (Placed f)
  pub others : (t : StreamKey) → (t ≡ key_of n data_type []) ⊎ (runs_in (stream_at after t) ≡ runs_in (stream_at w t))
  pub bodies : List NewBody
  pub chain : Chain c g clusters v n e.runs new after gave bodies
  pub tree : HasChanged (tree_of c v) most op a stamp (tree_of (drafted new c) after)

-- the bitmap and the mirror, or the stream itself
which_streams : (n kind : ℕ) (name : List ℕ) (t : StreamKey) → marks_and n kind name t ≡ true → (marks_streams t ≡ true) ⊎ (t ≡ key_of n kind name)
which_streams n kind name t chosen = elim (cases_Bool (marks_streams t)) [
  | inl mark ↦ inl mark
  | inr other ↦
      (let own : (eqb t.file n && eqb t.kind kind && pointwise nat_eq t.name name) ≡ true = sym (ap (λ (x : Bool). x || (eqb t.file n && eqb t.kind kind && pointwise nat_eq t.name name)) other) ∙ chosen in
      let parts = and_parts (eqb t.file n && eqb t.kind kind) (pointwise nat_eq t.name name) own in
      let two = and_parts (eqb t.file n) (eqb t.kind kind) parts.0 in
      inr (same_key t (key_of n kind name) (eqb-true t.file n two.0) (eqb-true t.kind kind two.1) (same_from_test t.name name parts.1)))
]

-- its sizes, as a state has them
pub allocated_is : (per clusters : ℕ) (e : Extents) → fits_volume per clusters (Some (Placed e)) ≡ true → e.allocated ≡ total_clusters e.runs * (512 * per)
allocated_is per clusters e fits =
    let sizes = (and_parts (list_all (lies_inside clusters) e.runs) (has_sizes per e) fits).1 in
    eqb-true _ _ (and_parts (leb e.initialised e.real && leb e.real e.allocated) (eqb e.allocated (total_clusters e.runs * (512 * per))) sizes).1

pub initialised_within : (per clusters : ℕ) (e : Extents) → fits_volume per clusters (Some (Placed e)) ≡ true → e.initialised ≤ e.real
initialised_within per clusters e fits =
    let sizes = (and_parts (list_all (lies_inside clusters) e.runs) (has_sizes per e) fits).1 in
    let two = and_parts (leb e.initialised e.real) (leb e.real e.allocated) (and_parts (leb e.initialised e.real && leb e.real e.allocated) (eqb e.allocated (total_clusters e.runs * (512 * per))) sizes).0 in
    leb-true e.initialised e.real two.0

module _ (times_set : TimesAreSet) (c : Content) (g : Geometry) (clusters : ℕ) (v : Volume) (st : VolumeStreams) (op : Op) (n stamp most : ℕ) (a : Node) (w : Volume) (e : Extents) (r : Record) (old new : List Touched) (gave : ℕ → Option BlockKind) (bodies : List NewBody)
    (k : BeginsSizes c g clusters v st op n stamp most a w e r old gave bodies) (q : PutsSizes c st n op a stamp e r old new) where
  abbrev z : Resized
  z = q.z

  abbrev s : Record
  s = written_record z.file

  abbrev p : Record
  p = timed_record stamp s

  abbrev mid : Volume
  mid = sized_volume w n z

  abbrev size : ℕ
  size = size_after op a

  abbrev valid : ℕ
  valid = valid_after op a

  sized_of : (touched : List Touched) → HasBlockSizes (drafted touched c)
  sized_of touched = sized_with c (bodies_of touched) k.sized

  -- ---- the sizes

  fits : fits_volume w.per w.clusters (Some (Placed e)) ≡ true
  fits = stream_fits (drafted old c) g clusters w n data_type [] r (Placed e) k.state k.own

  was : own_data r ≡ Some (Placed e)
  was = k.own.stream

  sizes : HasSizes a
  sizes = record {
    all = ap length (sym k.bytes) ∙ ap (λ (o : Option Stream). length (bytes_or (drafted old c) w.per o)) was ∙ length-extent_bytes (drafted old c) w.per e ∙ k.real;
    valid = (let low = initialised_within w.per w.clusters e fits in let real_is = k.real in let valid_is = k.valid in omega (arith, low, real_is, valid_is));
  }

  sized_8 : IsSized w.per data_type [] e r size valid z
  sized_8 = subst (λ (x : ℕ). IsSized x data_type [] e r size valid z) (sym k.per) q.sized

  allocated_8 : e.allocated ≡ total_clusters e.runs * 4096
  allocated_8 = subst (λ (x : ℕ). e.allocated ≡ total_clusters e.runs * (512 * x)) k.per (allocated_is w.per w.clusters e fits) ∙ omega arith

  with_sizes_of : SizesWith w n data_type [] e r size valid z (place_of op a) (length (put_of op a))
  with_sizes_of =
      let size_is = bytes_come.size op a sizes k.grows in
      let valid_is = bytes_come.valid op a sizes k.grows in
      let begins_at = bytes_come.begins op a in
      let within = sizes.valid in
      let was_valid = k.valid in
      let total = k.total in
      let room = allocated_8 in
      record {
        own = k.own;
        plain = k.plain;
        spelled = k.spelled;
        sized = sized_8;
        lawful = omega (arith, size_is, valid_is, within);
        room = omega (arith, total, room);
        begins = omega (arith, begins_at, was_valid);
        reaches = omega (arith, valid_is, was_valid);
      }

  record_of : (u : Volume) (x : Record) (before after : List Touched) → u.per ≡ 8 → st.table ≡ u.table → extents_or (stream_at u mirror_key) ≡ st.mirror → IsKept before → PutsFileRecord c st n x before after → PutsRecordOf c u st.mirror n x before after
  record_of u x before after per table mirror kept is = record {
    sized = k.sized;
    kept = kept;
    mirror_is = mirror;
    fits = is.fits;
    room = is.room;
    put = is.put ∙ ap₂ (λ (y : ℕ) (t : Extents). touch_record c y t st.mirror n (record_spelling (written_record x)) before) (sym per) table;
  }

  file_put : PutsRecordOf c w st.mirror n z.file old q.mid
  file_put = record_of w z.file old q.mid k.per k.table k.mirror k.kept q.file

  bytes_put : q.far ≡ touch_bytes c w.per z.extents.runs (first_fresh e) (place_of op a) (put_of op a) q.mid
  bytes_put = q.bytes ∙ ap (λ (y : ℕ). touch_bytes c y z.extents.runs (first_fresh e) (place_of op a) (put_of op a) q.mid) (sym k.per)

  sizes_put : SizesOfVolume c w st.mirror n z (first_fresh e) (place_of op a) (put_of op a) old q.far
  sizes_put = record { mid = q.mid; file = file_put; put = bytes_put }

  far_kept : IsKept q.far
  far_kept = subst IsKept (sym bytes_put) (bytes_go c w.per z.extents.runs (first_fresh e) (place_of op a) (put_of op a) q.mid k.sized (record_edit.kept c w st.mirror n z.file old q.mid file_put)).kept

  edit : (bodies : List NewBody) × (EditsDraft c old q.far bodies × SizesStream (drafted old c) w n data_type [] e r size valid z s bodies)
  edit = sized_edit.edit c g clusters w st.mirror n data_type [] e r size valid z (first_fresh e) (place_of op a) (put_of op a) old q.far k.state with_sizes_of sizes_put

  state_mid : Stands (drafted q.far c) g clusters mid
  state_mid = subst (λ (x : Content). Stands x g clusters mid) edit.1.0.content (sized_leads (drafted old c) g clusters w n data_type [] e r size valid z s edit.0 (sized_of old) k.eight k.state edit.1.1).stands

  goes : GoesOnIn w n data_type [] r s (Placed z.extents)
  goes = files_going.sized (drafted old c) g clusters w n data_type [] e r size valid z s edit.0 k.state edit.1.1

  turn : (b : Block) → IsOwnedIn (marks_and n data_type []) w b ⊎ (block_at w.per w.table.runs FileRec n ≡ Some b) → PutsTo v n e.runs b
  turn b (inr its) = record_put v w n e.runs b k.keeps its
  turn b (inl owned) = elim (which_streams n data_type [] owned.stream owned.chosen) [
    | inl mark ↦ mark_put v w n e.runs b k.keeps (record { stream = owned.stream; chosen = mark; number = owned.number; lies = owned.lies })
    | inr same ↦
        own_put v w n owned.number e.runs b k.keeps (ap (λ (o : Option Record). runs_in (file_stream data_type [] o)) k.own.file ∙ ap runs_in was)
        (subst (λ (t : StreamKey). block_at w.per (runs_in (stream_at w t)) (stream_kind t) owned.number ≡ Some b) same owned.lies)
  ]

  chain_mid : Chain c g clusters v n e.runs q.far mid gave (put_bodies edit.0 bodies)
  chain_mid =
      chain_goes_on c g clusters v w mid n e.runs old q.far bodies edit.0 gave gave k.sized k.eight k.start k.chain edit.1.0
      (sized_goes_on (drafted old c) g clusters w n data_type [] e r size valid z s edit.0 (sized_of old) k.eight k.state edit.1.1 c v gave k.chain.draft.clear)
      (each_turned (λ b. IsOwnedIn (marks_and n data_type []) w b ⊎ (block_at w.per w.table.runs FileRec n ≡ Some b)) (PutsTo v n e.runs) edit.0 turn edit.1.1.puts.each)

  own_mid : IsOwnFile mid n s
  own_mid = record { file = goes.own.file; apart = goes.own.apart; no_list = goes.own.no_list }

  keeps_mid : KeepsMarks v mid
  keeps_mid = keeps_with v w n s k.user k.keeps

  -- ---- the times

  same_runs : z.extents.runs ≡ e.runs
  same_runs = ap (λ (x : Extents). x.runs) q.sized.extents

  spelled_mid : HasSpelling 0 (with_sizes size valid e).runs
  spelled_mid = k.spelled

  written_mid : IsWritten (placed_record w.per data_type [] (with_sizes size valid e) r) s
  written_mid = subst (λ (x : Record). IsWritten x s) sized_8.file edit.1.1.written

  informed_mid : has_type standard_information s ≡ true
  informed_mid = types_stay (drafted old c) g clusters w n data_type [] r s (Placed e) (with_sizes size valid e) k.state k.own spelled_mid written_mid goes.own.file standard_information ∙ k.informed

  values : RewritesValues is_info s p
  values = times_set.rewritten stamp s informed_mid

  mirror_mid : extents_or (stream_at mid mirror_key) ≡ st.mirror
  mirror_mid = ap extents_or (keeps_mid.marks mirror_key refl ∙ sym (k.keeps.marks mirror_key refl)) ∙ k.mirror

  times_put : PutsRecordOf c mid st.mirror n p q.far new
  times_put = record_of mid p q.far new k.per k.table mirror_mid far_kept q.times

  written : WritesInClusters c w st.mirror op n stamp most a (tree_of c v) e r z (first_fresh e) p old q.far new
  written = record {
    grows = k.grows;
    file = k.file;
    before = k.before;
    size = k.real;
    valid = k.valid;
    bytes = k.bytes;
    sizes = with_sizes_of;
    put = sizes_put;
    whole = k.whole;
    no_fresh = omega arith;
    clusters = k.total;
    times = values;
    stamps = stamped times_set stamp a r s k.soon (written_spelled z.file q.file.fits q.file.room) goes.info k.flags k.created k.read_at;
    informed = times_put;
    room = k.room;
  }

  abbrev after : Volume
  after = with_record mid n (written_record p)

  pub sizes_end : EndsSizes c g clusters v w op n stamp most a e new gave
  sizes_end =
      let timed = timed_chain c g clusters v mid st.mirror n s p e.runs q.far new gave (put_bodies edit.0 bodies) k.sized k.eight k.start state_mid keeps_mid chain_mid own_mid values times_put in
      record {
        after = after;
        per = refl;
        table = refl;
        f = z.extents;
        runs = same_runs;
        data_is = timed_data c g clusters v mid st.mirror n s p e.runs q.far new gave (put_bodies edit.0 bodies) k.sized k.eight k.start state_mid keeps_mid chain_mid own_mid values times_put (Some (Placed z.extents)) goes.own.stream;
        others = others_are;
        bodies = timed.0;
        chain = timed.1;
        tree = (written_so c g clusters w st.mirror op n stamp most a (tree_of c v) e r z (first_fresh e) p old q.far new k.eight k.state written).1;
      }
    where
      others_are : (t : StreamKey) → (t ≡ key_of n data_type []) ⊎ (runs_in (stream_at after t) ≡ runs_in (stream_at w t))
      others_are t = elim (which_stays (drafted old c) g clusters w n data_type [] r s (Placed e) (with_sizes size valid e) k.state k.own spelled_mid written_mid goes.own.file t) [
        | inl same ↦ inl same
        | inr stays ↦
            inr
            (timed_runs c g clusters v mid st.mirror n s p e.runs q.far new gave (put_bodies edit.0 bodies) k.sized k.eight k.start state_mid keeps_mid chain_mid own_mid values times_put t
            ∙ ap runs_in stays)
      ]
