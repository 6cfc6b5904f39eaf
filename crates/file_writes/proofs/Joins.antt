-- What is put one behind the other, where the content is known.
use Rattle.std.proofs.Common.{◌≡◌, ℕ, ◌+◌, ◌/◌, ◌≤◌, Bool, true, false, List, [], Option, Some, None, Ok, sym, ap, ◌∙◌, subst}
use Rattle.std.specs.Prelude.{IfSome, Result, Err, OnOk}
use Rattle.std.proofs.lemmas.Bool.{le-leb}
use Rattle.host_base.specs.Answers.{needs}
use Rattle.disk_model.specs.Content.{Content}
use Rattle.record_model.specs.Constants.{data_type}
use Rattle.record_model.specs.Records.{Record, record_spelling}
use Rattle.file_puts.specs.record_writer.NormalLaws.{FitsByRoom}
use Rattle.file_tree.specs.declared.node.Node.{Node}
use Rattle.state_model.specs.declared.stream.Extents.{Extents}
use Rattle.state_model.specs.declared.stream.Stream.TheVariants.{Held, Placed}
use Rattle.tree_model.specs.declared.script.Op.{Op}
use Rattle.tree_model.specs.Needs.{size_after, shrinks}
use Rattle.tree_model.specs.Effects.{valid_after, bytes_after}
use Rattle.plan_draft.specs.declared.touched.Touched.{Touched}
use Rattle.file_puts.specs.draft_streams.Parts.{touch_bytes}
use Rattle.file_puts.specs.draft_records.Records.{written_record, written_bytes, fits_room, touch_record}
use Rattle.file_puts.specs.resized_streams.declared.resized.Resized.{Resized}
use Rattle.file_puts.specs.resized_streams.Resizing.{IsSized}
use Rattle.file_puts.specs.draft_resized.Resized.{PutsResized}
use Rattle.file_puts.specs.draft_resized.Moved.{PutsMoved}
use Rattle.file_puts.specs.record_values.Values.{valued_record}
use Rattle.file_puts.specs.data_plan.declared.change.DataChange.{DataChange}
use Rattle.file_puts.specs.data_plan.declared.change.DataChange.TheVariants as change
use Rattle.file_puts.specs.data_plan.Changes.{data_in, growth_of, IsChange}
use Rattle.file_puts.specs.plan_changes.Bytes.{place_of, put_of}
use Rattle.file_puts.specs.declared.streams.VolumeStreams.{VolumeStreams}
use Rattle.file_puts.specs.Puts.{PutsFileRecord, PutsFileRuns, PutsFileValue, PutsTimes, with_bytes, PutsValue, first_fresh, PutsLeaving, PutsGrowing, PutsCut, PutsShorter, PutsSized, PutsChange}
use Rattle.file_writes.specs.Writing.{SizesPut, SizedPut, PutsWrite}

-- ---- one record

pub in_room : (p : Record) → written_bytes p ≤ 1024 → fits_room p ≡ Ok tt
in_room p room = ap (λ (b : Bool). needs b (written_bytes p)) (le-leb (written_bytes p) 1024 room)

pub record_put : (content : Option Content) (per : ℕ) (s : VolumeStreams) (n : ℕ) (p : Record) (old new : List Touched) → per ≡ 8 → FitsByRoom p → written_bytes p ≤ 1024
    → IfSome content (λ c. new ≡ touch_record c per s.table s.mirror n (record_spelling (written_record p)) old) → IfSome content (λ c. PutsFileRecord c s n p old new)
record_put None per s n p old new eight fits room put = tt
record_put (Some c) per s n p old new eight fits room put = record {
  fits = fits;
  room = in_room p room;
  put = subst (λ (k : ℕ). new ≡ touch_record c k s.table s.mirror n (record_spelling (written_record p)) old) eight put;
}

pub runs_put : (content : Option Content) (per : ℕ) (s : VolumeStreams) (n : ℕ) (z : Resized) (old new : List Touched) → per ≡ 8 → FitsByRoom z.file → written_bytes z.file ≤ 1024
    → IfSome content (λ c. PutsResized c per s.bitmap s.table s.mirror n z old new) → IfSome content (λ c. PutsFileRuns c s n z old new)
runs_put None per s n z old new eight fits room put = tt
runs_put (Some c) per s n z old new eight fits room put = record {
  fits = fits;
  room = in_room z.file room;
  put = subst (λ (k : ℕ). PutsResized c k s.bitmap s.table s.mirror n z old new) eight put;
}

pub value_put : (content : Option Content) (per : ℕ) (s : VolumeStreams) (n : ℕ) (z : Resized) (value : List ℕ) (old new : List Touched) → per ≡ 8 → FitsByRoom z.file → written_bytes z.file ≤ 1024
    → IfSome content (λ c. PutsMoved c per s.bitmap s.table s.mirror n z value old new) → IfSome content (λ c. PutsFileValue c s n z value old new)
value_put None per s n z value old new eight fits room put = tt
value_put (Some c) per s n z value old new eight fits room put = record {
  fits = fits;
  room = in_room z.file room;
  put = subst (λ (k : ℕ). PutsMoved c k s.bitmap s.table s.mirror n z value old new) eight put;
}

-- ---- several

pub leaving_put : (content : Option Content) (s : VolumeStreams) (n : ℕ) (o : Op) (a : Node) (stamp : ℕ) (r : Record) (z : Resized) (value bytes : List ℕ) (old mid new : List Touched) → data_in r ≡ Some (Held value) → bytes ≡ bytes_after o (with_bytes value a)
    → IfSome content (λ c. PutsFileValue c s n z bytes old mid) → IfSome content (λ c. PutsTimes c s n stamp (written_record z.file) mid new) → IfSome content (λ c. PutsLeaving c s n o a stamp r z old new)
leaving_put None s n o a stamp r z value bytes old mid new held is moved times = tt
leaving_put (Some c) s n o a stamp r z value bytes old mid new held is moved times = record {
  value = value;
  held = held;
  mid = mid;
  moved = subst (λ (l : List ℕ). PutsFileValue c s n z l old mid) is moved;
  times = times;
}

pub sizes_put : (content : Option Content) (per : ℕ) (s : VolumeStreams) (n : ℕ) (o : Op) (a : Node) (stamp : ℕ) (z : Resized) (fresh at : ℕ) (bytes : List ℕ) (old mid far new : List Touched) → per ≡ 8 → fresh ≡ (a.valid + 511) / 512 → at ≡ place_of o a → bytes ≡ put_of o a
    → IfSome content (λ c. PutsFileRecord c s n z.file old mid) → IfSome content (λ c. far ≡ touch_bytes c per z.extents.runs fresh at bytes mid) → IfSome content (λ c. PutsTimes c s n stamp (written_record z.file) far new) → IfSome content (λ c. SizesPut c s n o a stamp z old new)
sizes_put None per s n o a stamp z fresh at bytes old mid far new eight first begins brings file put times = tt
sizes_put (Some c) per s n o a stamp z fresh at bytes old mid far new eight first begins brings file put times = λ e r initialised sized. record {
  z = z;
  sized = sized;
  mid = mid;
  far = far;
  file = file;
  bytes = put
      ∙ ap (λ (k : ℕ). touch_bytes c k z.extents.runs fresh at bytes mid) eight
      ∙ ap (λ (k : ℕ). touch_bytes c 8 z.extents.runs k at bytes mid) (first ∙ sym (ap (λ (k : ℕ). (k + 511) / 512) initialised))
      ∙ ap (λ (k : ℕ). touch_bytes c 8 z.extents.runs (first_fresh e) k bytes mid) begins
      ∙ ap (λ (l : List ℕ). touch_bytes c 8 z.extents.runs (first_fresh e) (place_of o a) l mid) brings;
  times = times;
}

pub growing_put : (content : Option Content) (s : VolumeStreams) (n : ℕ) (o : Op) (a : Node) (stamp : ℕ) (z larger : Resized) (old mid new : List Touched) → z.extents.initialised ≡ a.valid → IsSized 8 data_type [] z.extents (written_record z.file) (size_after o a) (valid_after o a) larger
    → IfSome content (λ c. PutsFileRuns c s n z old mid) → IfSome content (λ c. SizesPut c s n o a stamp larger mid new) → IfSome content (λ c. PutsGrowing c s n o a stamp z old new)
growing_put None s n o a stamp z larger old mid new initialised sized grown sizes = tt
growing_put (Some c) s n o a stamp z larger old mid new initialised sized grown sizes = record { mid = mid; grown = grown; sizes = sizes z.extents (written_record z.file) initialised sized }

pub cut_put : (content : Option Content) (s : VolumeStreams) (n stamp : ℕ) (z : Resized) (old mid new : List Touched) → IfSome content (λ c. PutsFileRuns c s n z old mid) → IfSome content (λ c. PutsTimes c s n stamp (written_record z.file) mid new)
    → IfSome content (λ c. PutsCut c s n stamp z old new)
cut_put None s n stamp z old mid new cut times = tt
cut_put (Some c) s n stamp z old mid new cut times = record { mid = mid; cut = cut; times = times }

pub shorter_put : (content : Option Content) (s : VolumeStreams) (n stamp : ℕ) (z : Resized) (old mid new : List Touched) → IfSome content (λ c. PutsFileRecord c s n z.file old mid) → IfSome content (λ c. PutsTimes c s n stamp (written_record z.file) mid new)
    → IfSome content (λ c. PutsShorter c s n stamp z old new)
shorter_put None s n stamp z old mid new file times = tt
shorter_put (Some c) s n stamp z old mid new file times = record { mid = mid; file = file; times = times }

pub valued_put : (content : Option Content) (s : VolumeStreams) (n : ℕ) (o : Op) (a : Node) (stamp : ℕ) (r v : Record) (value bytes : List ℕ) (old new : List Touched) → data_in r ≡ Some (Held value) → bytes ≡ bytes_after o (with_bytes value a) → v ≡ valued_record data_type [] bytes r
    → IfSome content (λ c. PutsTimes c s n stamp v old new) → IfSome content (λ c. PutsValue c s n o a stamp r old new)
valued_put None s n o a stamp r v value bytes old new held is valued put = tt
valued_put (Some c) s n o a stamp r v value bytes old new held is valued put = record {
  value = value;
  held = held;
  put = subst (λ (x : Record). PutsTimes c s n stamp x old new) (valued ∙ ap (λ (l : List ℕ). valued_record data_type [] l r) is) put;
}

-- ---- the data's sizes alone

pub shorter_sized : (content : Option Content) (s : VolumeStreams) (n : ℕ) (o : Op) (a : Node) (stamp : ℕ) (z : Resized) (old new : List Touched) → shrinks o a ≡ true → IfSome content (λ c. PutsShorter c s n stamp z old new) → IfSome content (λ c. SizedPut c s n o a stamp z old new)
shorter_sized None s n o a stamp z old new shorter put = tt
shorter_sized (Some c) s n o a stamp z old new shorter put = λ e r placed initialised sized. subst (λ (t : Bool). PutsSized t c s n o a stamp r z old new) (sym shorter) put

pub longer_sized : (content : Option Content) (s : VolumeStreams) (n : ℕ) (o : Op) (a : Node) (stamp : ℕ) (z : Resized) (old new : List Touched) → shrinks o a ≡ false → IfSome content (λ c. SizesPut c s n o a stamp z old new) → IfSome content (λ c. SizedPut c s n o a stamp z old new)
longer_sized None s n o a stamp z old new longer put = tt
longer_sized (Some c) s n o a stamp z old new longer put = λ e r placed initialised sized.
    subst (λ (t : Bool). PutsSized t c s n o a stamp r z old new) (sym longer) (record { e = e; placed = placed; sizes = put e r initialised sized })

-- ---- what comes of the data

pub change_put : {T E : Type 0} (result : Result T E) (content : Option Content) (s : VolumeStreams) (n : ℕ) (o : Op) (a : Node) (stamp : ℕ) (r : Record) (x ch : DataChange) (old new : List Touched) → ch ≡ x → OnOk result (IfSome content (λ c. PutsChange c s n o a stamp r x old new))
    → OnOk result (IfSome content (λ c. PutsChange c s n o a stamp r ch old new))
change_put result content s n o a stamp r x ch old new is put = subst (λ (y : DataChange). OnOk result (IfSome content (λ c. PutsChange c s n o a stamp r y old new))) (sym is) put

sized_known : (content : Option Content) (s : VolumeStreams) (n : ℕ) (o : Op) (a : Node) (stamp : ℕ) (r : Record) (e : Extents) (z : Resized) (old new : List Touched) → data_in r ≡ Some (Placed e) → e.initialised ≡ a.valid → IsSized 8 data_type [] e r (size_after o a) (valid_after o a) z
    → IfSome content (λ c. SizedPut c s n o a stamp z old new) → IfSome content (λ c. PutsChange c s n o a stamp r (change.Sized z) old new)
sized_known None s n o a stamp r e z old new placed initialised sized put = tt
sized_known (Some c) s n o a stamp r e z old new placed initialised sized put = put e r placed initialised sized

pub sized_put : {T E : Type 0} (result : Result T E) (content : Option Content) (s : VolumeStreams) (n : ℕ) (o : Op) (a : Node) (stamp : ℕ) (r : Record) (e : Extents) (z : Resized) (old new : List Touched) → data_in r ≡ Some (Placed e) → e.initialised ≡ a.valid → IsSized 8 data_type [] e r (size_after o a) (valid_after o a) z
    → OnOk result (IfSome content (λ c. SizedPut c s n o a stamp z old new)) → OnOk result (IfSome content (λ c. PutsChange c s n o a stamp r (change.Sized z) old new))
sized_put (Ok x) content s n o a stamp r e z old new placed initialised sized put = sized_known content s n o a stamp r e z old new placed initialised sized put
sized_put (Err f) content s n o a stamp r e z old new placed initialised sized put = tt

pub file_put : (content : Option Content) (bits : List Bool) (s : VolumeStreams) (n : ℕ) (o : Op) (a : Node) (stamp : ℕ) (r : Record) (ch : DataChange) (old new : List Touched) → IsChange (growth_of bits r o a) r o a ch → IfSome content (λ c. PutsChange c s n o a stamp r ch old new)
    → IfSome content (λ c. PutsWrite c bits s n o a stamp r old new)
file_put None bits s n o a stamp r ch old new is put = tt
file_put (Some c) bits s n o a stamp r ch old new is put = record { change = ch; is = is; put = put }
