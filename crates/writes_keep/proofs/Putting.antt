-- What comes of a file's data is put well, whatever it is.
use Rattle.std.proofs.Common.{◌≡◌, ◌≢◌, subst, ℕ, ◌+◌, ◌*◌, ◌<◌, ◌≤◌, Bool, true, false, ◌&&◌, ◌||◌, cond, eqb, nat_eq, List, [], Option, Some, sym, ap, ap₂, ◌∙◌, arith}
use Rattle.std.specs.Prelude.{◌⊎◌}
use Rattle.std.specs.List.{AllByRecursion}
use Rattle.std.specs.Cmp.Lexicographic.{pointwise}
use Rattle.std.proofs.lemmas.Bool.{ne_eqb}
use Rattle.disk_model.specs.declared.block.Block.{Block}
use Rattle.disk_model.specs.declared.block.BlockKind.{BlockKind}
use Rattle.disk_model.specs.declared.block.BlockKind.TheVariants.{Plain, FileRec, Index}
use Rattle.disk_model.specs.Content.{Content}
use Rattle.disk_model.specs.Sectors.{sectors}
use Rattle.record_model.specs.declared.runs.Run.{Run}
use Rattle.record_model.specs.Constants.{data_type, index_allocation}
use Rattle.record_model.specs.Pairs.{cluster_limit, HasSpelling}
use Rattle.record_model.specs.Records.{Record, record_spelling}
use Rattle.record_model.specs.RecordLaws.{RecordIsBody}
use Rattle.file_tree.specs.declared.node.Node.{Node}
use Rattle.state_model.specs.declared.stream.Extents.{Extents}
use Rattle.state_model.specs.declared.stream.Stream.{Stream}
use Rattle.state_model.specs.declared.stream.Stream.TheVariants.{Placed}
use Rattle.state_model.specs.Loads.{total_clusters}
use Rattle.state_model.specs.Streams.{block_at}
use Rattle.volume_model.specs.Volumes.{Volume, table_file, mirror_file}
use Rattle.stream_laws.specs.Owners.{stream_kind, initialised_in}
use Rattle.stream_laws.specs.Sharing.{StreamKey, stream_at, runs_in}
use Rattle.stream_runs.specs.Runs.{grown}
use Rattle.stream_runs.proofs.Places.{places-grown}
use Rattle.tree_model.specs.declared.script.Op.{Op}
use Rattle.tree_model.specs.Needs.{shrinks}
use Rattle.names_stay.specs.plan_owners.Agreeing.{IsJudged, log_key}
use Rattle.plan_draft.specs.declared.touched.Touched.{Touched}
use Rattle.names_stay.specs.draft_bits.Filling.{first_past}
use Rattle.names_stay.specs.draft_records.Records.{written_record, record_block}
use Rattle.names_stay.specs.resized_streams.declared.resized.Resized.{Resized}
use Rattle.state_streams.proofs.plan_growth.Alike.{one_cluster}
use Rattle.names_stay.specs.step_model.Placing.{Growth, runs_after}
use Rattle.names_stay.specs.step_model.Streams.{data_of}
use Rattle.names_stay.specs.data_plan.declared.change.DataChange.{DataChange}
use Rattle.names_stay.specs.data_plan.declared.change.DataChange.TheVariants as change
use Rattle.names_stay.specs.data_plan.Changes.{data_in, Grows, IsChange}
use Rattle.names_stay.specs.file_puts.declared.streams.VolumeStreams.{VolumeStreams}
use Rattle.names_stay.specs.file_puts.Puts.{PutsFileRecord, PutsFileRuns, PutsFileValue, PutsSizes, PutsSized, PutsChange, first_fresh}
use Rattle.writes_keep.proofs.Spelled.{record_spelled}
use Rattle.writes_keep.proofs.Touching.{IsWell, AreSectors, IsRecord, bytes_well, record_well, resized_well}

-- ---- sectors of before

-- a sector of a stream of sectors, below its initialised size
pub judged_sector : (v : Volume) (t : StreamKey) (e : Extents) (s : ℕ) (b : Block) → v.per ≡ 8 → stream_at v t ≡ Some (Placed e) → stream_kind t ≡ Plain → t ≢ log_key → block_at 8 e.runs Plain s ≡ Some b → 512 * s < e.initialised → IsJudged v b
judged_sector v t e s b eight is plain other place below = record {
  live = record {
    owned = record { stream = t; number = s; lies = ap (λ (p : ℕ). block_at p (runs_in (stream_at v t)) (stream_kind t) s) eight ∙ ap₂ (λ (o : Option Stream) (k : BlockKind). block_at 8 (runs_in o) k s) is plain ∙ place };
    begins = subst (λ (k : BlockKind). 512 * (sectors k * s) < initialised_in (stream_at v t)) (sym plain) (subst (λ (x : ℕ). 512 * (1 * s) < x) (sym (ap initialised_in is)) (omega (arith, below)));
  };
  other = other;
}

pub data_plain : (n : ℕ) → n ≢ table_file → n ≢ mirror_file → stream_kind (data_of n) ≡ Plain
unfolding stream_kind
data_plain n one two = ap₂ (λ (x y : Bool). cond ((x || y) && eqb data_type data_type && pointwise nat_eq [] []) FileRec (cond (eqb data_type index_allocation) Index Plain)) (ne_eqb n table_file one) (ne_eqb n mirror_file two)

-- those of a stream that takes more clusters lie where they lay
pub grown_sector : (e : Extents) (more : List Run) (s : ℕ) → HasSpelling 0 e.runs → HasSpelling 0 more → total_clusters e.runs + total_clusters more ≤ cluster_limit → e.initialised ≤ total_clusters e.runs * 4096 → 512 * s < e.initialised
    → block_at 8 (grown e.runs more) Plain s ≡ block_at 8 e.runs Plain s
grown_sector e more s spelled others room high below = places-grown 8 e.runs more Plain s spelled others room (one_cluster Plain s) (omega (arith, high, below))

-- ---- what is put

-- a block of the file's record, of the bitmap, or of the file's data in these runs
abbrev pub GoesTo : VolumeStreams → ℕ → List Run → Block → Type 0
GoesTo s n runs_now b = (record_block 8 s.table n ≡ Some b) ⊎ (((k : ℕ) × (block_at 8 s.bitmap.runs Plain k ≡ Some b)) ⊎ ((k : ℕ) × (block_at 8 runs_now Plain k ≡ Some b)))

abbrev pub AllWell : Volume → VolumeStreams → ℕ → List Run → List Touched → Type 0
AllWell v s n runs_now touched = AllByRecursion (IsWell (GoesTo s n runs_now) (IsJudged v)) touched

module _ (body : RecordIsBody) (v : Volume) (s : VolumeStreams) (n : ℕ) (runs_now : List Run) (record_is : IsRecord (GoesTo s n runs_now) (IsJudged v) s.table s.mirror n) (bits : AreSectors (GoesTo s n runs_now) (IsJudged v) s.bitmap.runs (first_past s.bitmap)) where
  file_well : (c : Content) (p : Record) (old new : List Touched) → PutsFileRecord c s n p old new → AllWell v s n runs_now old → AllWell v s n runs_now new
  file_well c p old new put all =
      subst (AllWell v s n runs_now) (sym put.put) (record_well (GoesTo s n runs_now) (IsJudged v) c s.table s.mirror n (record_spelling (written_record p)) old record_is (record_spelled body p put.fits put.room) all)

  runs_well : (c : Content) (z : Resized) (old new : List Touched) → PutsFileRuns c s n z old new → AllWell v s n runs_now old → AllWell v s n runs_now new
  runs_well c z old new put all = resized_well (GoesTo s n runs_now) (IsJudged v) c s.bitmap s.table s.mirror n z old new bits record_is (record_spelled body z.file put.fits put.room) put.put all

  value_well : (c : Content) (z : Resized) (value : List ℕ) (old new : List Touched) → AreSectors (GoesTo s n runs_now) (IsJudged v) z.extents.runs 0 → PutsFileValue c s n z value old new → AllWell v s n runs_now old → AllWell v s n runs_now new
  value_well c z value old new are put all =
      let moved = put.put in
      subst (AllWell v s n runs_now) (sym moved.1.1)
      (bytes_well (GoesTo s n runs_now) (IsJudged v) c z.extents.runs 0 0 value moved.0 are
      (resized_well (GoesTo s n runs_now) (IsJudged v) c s.bitmap s.table s.mirror n z old moved.0 bits record_is (record_spelled body z.file put.fits put.room) moved.1.0 all))

  sizes_well : (c : Content) (op : Op) (a : Node) (stamp : ℕ) (e : Extents) (r : Record) (old new : List Touched) → AreSectors (GoesTo s n runs_now) (IsJudged v) e.runs (first_fresh e) → PutsSizes c s n op a stamp e r old new → AllWell v s n runs_now old → AllWell v s n runs_now new
  sizes_well c op a stamp e r old new are put all =
      let runs : put.z.extents.runs ≡ e.runs = ap (λ (x : Extents). x.runs) put.sized.extents in
      file_well c _ put.far new put.times
      (subst (AllWell v s n runs_now) (sym put.bytes)
      (bytes_well (GoesTo s n runs_now) (IsJudged v) c put.z.extents.runs (first_fresh e) _ _ put.mid (subst (λ (l : List Run). AreSectors (GoesTo s n runs_now) (IsJudged v) l (first_fresh e)) (sym runs) are) (file_well c put.z.file old put.mid put.file all)))

  module _ (c : Content) (op : Op) (a : Node) (stamp : ℕ) (r : Record) (g : Growth) (after : runs_now ≡ runs_after g) (fresh : AreSectors (GoesTo s n runs_now) (IsJudged v) runs_now 0) (grows : (z : Resized) → Grows g r z → AreSectors (GoesTo s n runs_now) (IsJudged v) runs_now (first_fresh z.extents))
      (stays : (e : Extents) → data_in r ≡ Some (Placed e) → e.runs ≡ runs_now → AreSectors (GoesTo s n runs_now) (IsJudged v) runs_now (first_fresh e)) where
    at_runs : (runs : List Run) (first : ℕ) → runs ≡ runs_after g → AreSectors (GoesTo s n runs_now) (IsJudged v) runs_now first → AreSectors (GoesTo s n runs_now) (IsJudged v) runs first
    at_runs runs first is are = subst (λ (l : List Run). AreSectors (GoesTo s n runs_now) (IsJudged v) l first) (after ∙ sym is) are

    sized_well : (t : Bool) (z : Resized) → IsChange g r op a (change.Sized z) → (old new : List Touched) → PutsSized t c s n op a stamp r z old new → AllWell v s n runs_now old → AllWell v s n runs_now new
    sized_well true z is old new put all = file_well c _ put.mid new put.times (file_well c z.file old put.mid put.file all)
    sized_well false z is old new put all =
        let same : is.e ≡ put.e = one is.e put.e (sym is.placed ∙ put.placed) in
        let runs : put.e.runs ≡ runs_now = sym (ap (λ (x : Extents). x.runs) same) ∙ sym (ap (λ (x : Extents). x.runs) is.sized.extents) ∙ is.takes.runs ∙ sym after in
        sizes_well c op a stamp put.e r old new (subst (λ (l : List Run). AreSectors (GoesTo s n runs_now) (IsJudged v) l (first_fresh put.e)) (sym runs) (stays put.e put.placed runs)) put.sizes all
      where
        one : (x y : Extents) → Some (Placed x) ≡ Some (Placed y) → x ≡ y
        one x y e = cc

    pub change_well : (x : DataChange) → IsChange g r op a x → (old new : List Touched) → PutsChange c s n op a stamp r x old new → AllWell v s n runs_now old → AllWell v s n runs_now new
    change_well (change.Stays size) is old new put all = file_well c _ old new put.put all
    change_well (change.Leaves z) is old new put all = file_well c _ put.mid new put.times (value_well c z _ old put.mid (at_runs z.extents.runs 0 is.takes.runs fresh) put.moved all)
    change_well (change.Grows z) is old new put all = sizes_well c op a stamp z.extents _ put.mid new (at_runs z.extents.runs (first_fresh z.extents) is.takes.runs (grows z is)) put.sizes (runs_well c z old put.mid put.grown all)
    change_well (change.Cut z) is old new put all = file_well c _ put.mid new put.times (runs_well c z old put.mid put.cut all)
    change_well (change.Sized z) is old new put all = sized_well (shrinks op a) z is old new put all
