-- A write of a file without unnamed data is done, in its record or in clusters.
use Rattle.std.proofs.Common.{◌≡◌, ℕ, ◌≤◌, Bool, false, List, [], length, replicate, Option, Some, refl, sym, ap, subst, ◌∙◌, arith}
use Rattle.std.specs.Prelude.{not, count_by}
use Rattle.std.proofs.lemmas.Bool.{le-leb}
use Rattle.std.proofs.lemmas.List.{length-replicate}
use Rattle.host_base.specs.Answers.{needs}
use Rattle.disk_model.specs.Content.{Content}
use Rattle.record_model.specs.declared.attribute.Attr.{Attr}
use Rattle.record_model.specs.Constants.{data_type}
use Rattle.record_model.specs.Records.{Record, record_spelling}
use Rattle.file_tree.specs.declared.node.Node.{Node}
use Rattle.state_model.specs.declared.geometry.Geometry.{Geometry}
use Rattle.state_model.specs.declared.stream.Extents.{Extents}
use Rattle.state_model.specs.declared.stream.Stream.{Stream}
use Rattle.state_model.specs.declared.stream.Stream.TheVariants.{Held, Placed}
use Rattle.volume_model.specs.Volumes.{Volume, cluster_bits}
use Rattle.tree_model.specs.declared.script.Op.{Op}
use Rattle.tree_model.specs.Needs.{size_after}
use Rattle.tree_model.specs.Effects.{bytes_after}
use Rattle.plan_bodies.proofs.Putting.{sized_with}
use Rattle.plan_draft.specs.declared.touched.Touched.{Touched}
use Rattle.plan_draft.specs.Touching.{bodies_of}
use Rattle.plan_draft.proofs.Touching.{are_bodies}
use Rattle.plan_bodies.specs.Bodies.{NewBody, AreBodies}
use Rattle.file_changes.proofs.record_streams.Kept.{but_room_fits}
use Rattle.file_changes.specs.record_values.Values.{valued_record}
use Rattle.file_changes.specs.record_times.Times.{timed_record}
use Rattle.file_changes.specs.resized_streams.declared.resized.Resized.{Resized}
use Rattle.file_changes.specs.resized_streams.Resizing.{unplaced, lengthened}
use Rattle.file_changes.specs.draft_bits.Effects.{IsKept}
use Rattle.file_changes.specs.draft_records.Records.{written_record, written_bytes, has_mirror, touch_record}
use Rattle.file_changes.specs.draft_resized.Resized.{resized_bytes}
use Rattle.file_changes.specs.draft_resized.Moved.{PutsMoved}
use Rattle.file_changes.proofs.draft_resized.FileEffects.{long_of, kept_both}
use Rattle.file_changes.specs.step_model.Placing.{Growth, more_of}
use Rattle.file_changes.specs.step_model.Streams.{data_of}
use Rattle.file_changes.specs.step_model.Used.{own_attr, value_attr, placed_attr}
use Rattle.file_changes.proofs.used_laws.Beside.{used}
use Rattle.made_data.specs.data_plan.declared.change.DataChange.{DataChange}
use Rattle.made_data.specs.data_plan.declared.change.DataChange.TheVariants as change
use Rattle.made_data.specs.data_plan.Changes.{data_in, growth_of, Stays, Leaves, IsChange}
use Rattle.made_data.specs.Ids.{new_id}
use Rattle.made_data.specs.Laws.{MadeIsCounted}
use Rattle.made_data.specs.Made.{empty_data, with_empty_data, made_record, has_data}
use Rattle.file_changes.specs.file_puts.declared.streams.VolumeStreams.{VolumeStreams}
use Rattle.file_changes.specs.file_puts.Puts.{PutsFileRecord, with_bytes, PutsChange}
use Rattle.file_changes.specs.file_puts.Written.{WritesFile, HasWritten}
use Rattle.file_changes.specs.written_values.Laws.{ValuesAreDone}
use Rattle.file_changes.proofs.written_values.Growths.{growth_is}
use Rattle.file_changes.proofs.written_values.Joining.{nothing_kept}
use Rattle.file_changes.proofs.written_values.Owning.{is_owned}
use Rattle.file_changes.proofs.plan_changes.Showing.{files_are}
use Rattle.file_changes.specs.written_clusters.Done.{HasClusters, LeavingIsDone}
use Rattle.written_made.specs.Made.{WritesMade, MadeIsDone}
use Rattle.written_made.proofs.Alike.{AreAlike, first_alike, file_alike, moved_alike}
use Rattle.written_made.proofs.Making.{touch_made, with_made, made_volume, GetsData, gets_data}
use Rattle.written_made.proofs.Rebasing.{written_before}

-- ---- room

-- the record has room with data that is empty where it has room with other data
module _ (counted : MadeIsCounted) (growth : Growth) (op : Op) (a : Node) (r : Record) (none : has_data r ≡ false) where
  own_kind : (own_attr data_type [] (made_record r)).head.kind ≡ data_type
  own_kind = ap (λ (b : Attr). b.head.kind) (counted.own r none)

  own_name : (own_attr data_type [] (made_record r)).name ≡ []
  own_name = ap (λ (b : Attr). b.name) (counted.own r none)

  stays_room : (size : ℕ) → Stays growth (made_record r) op a size → written_bytes (with_empty_data r) ≤ 1024
  stays_room size is =
      let value : List ℕ = replicate size 0 in
      let long : length value ≡ size = length-replicate {A = ℕ} size 0 in
      let least = counted.room r (value_attr (length value) (own_attr data_type [] (made_record r))) none own_kind own_name in
      let counts = used.valued data_type [] value (made_record r) (empty_data (new_id r)) [] (counted.pieces r none) in
      let most = is.room value long in
      omega (arith, least, counts, most)

  leaves_room : (z : Resized) → Leaves growth (made_record r) op a z → written_bytes (with_empty_data r) ≤ 1024
  leaves_room z is =
      let e : Extents = lengthened 8 growth.runs (unplaced (size_after op a)) in
      let least = counted.room r (placed_attr e.real e.initialised e.runs (own_attr data_type [] (made_record r))) none own_kind own_name in
      let counts = used.placed 8 data_type [] e (made_record r) (empty_data (new_id r)) [] (counted.pieces r none) in
      let file = ap written_bytes is.grown.file in
      let most = is.takes.room in
      omega (arith, least, counts, file, most)

-- ---- over the content with empty data

module _ (counted : MadeIsCounted) (c : Content) (g : Geometry) (clusters : ℕ) (v : Volume) (s : VolumeStreams) (op : Op) (n stamp : ℕ) (a : Node) (r : Record) (what : DataChange) (new : List Touched) (enough : HasClusters c v op a r) (k : WritesMade c g clusters v s op n stamp a r what new)
    (room : written_bytes (with_empty_data r) ≤ 1024) where
  abbrev q : Record
  q = made_record r

  abbrev d : Content
  d = with_made c s n r

  abbrev x : Volume
  x = made_volume v n r

  abbrev base : List NewBody
  base = bodies_of (touch_made c s n r)

  gets : GetsData c g clusters v s n a r
  gets = gets_data counted c g clusters v s n a r (record { sized = k.puts.sized; eight = k.puts.eight; stands = k.puts.stands; streams = k.puts.streams; file = k.puts.file; none = k.none; fits = k.fits; short = k.short; room = room })

  long : length (record_spelling q) ≡ 1024
  long = long_of (with_empty_data r) (but_room_fits (with_empty_data r) (counted.fits r k.fits k.short)) (ap (λ (b : Bool). needs b (written_bytes (with_empty_data r))) (le-leb (written_bytes (with_empty_data r)) 1024 room))

  pub kept_first : IsKept (touch_made c s n r)
  kept_first = kept_both c 8 s.table s.mirror n (record_spelling q) [] (has_mirror s.mirror n) k.puts.sized long nothing_kept

  pub are_first : AreBodies (bodies_of (touch_made c s n r))
  are_first = are_bodies (touch_made c s n r) kept_first.rises kept_first.whole

  now : growth_of (cluster_bits c v) q op a ≡ growth_of (cluster_bits c v) r op a
  now = counted.growth (cluster_bits c v) r op a k.none

  growth_then : growth_of (cluster_bits d x) q op a ≡ growth_of (cluster_bits c v) r op a
  growth_then = ap (λ (l : List Bool). growth_of l q op a) gets.bits ∙ now

  -- as many clusters are clear
  pub enough_then : HasClusters (with_made c s n r) (made_volume v n r) op a (made_record r)
  enough_then =
      subst (λ (l : List Bool). more_of (growth_of l q op a) ≤ count_by not l) (sym gets.bits) (subst (λ (y : Growth). more_of y ≤ count_by not (cluster_bits c v)) (sym now) enough)

  -- the same is written
  pub writes_then : (more : List Touched) → PutsChange (with_made c s n r) s n op a stamp (made_record r) what [] more → WritesFile (with_made c s n r) g clusters (made_volume v n r) s op n stamp a (made_record r) what more
  writes_then more put = record {
    sized = sized_with c base k.puts.sized;
    eight = k.puts.eight;
    few = k.puts.few;
    stands = gets.stands;
    journal = gets.node.journal ∙ k.puts.journal;
    streams = gets.streams;
    file = gets.file;
    changes = k.puts.changes;
    soon = k.puts.soon;
    has = k.puts.has;
    is = subst (λ (l : List Bool). IsChange (growth_of l q op a) q op a what) (sym gets.bits) k.puts.is;
    put = put;
  }

  stream : (growth_of (cluster_bits c v) r op a).stream ≡ data_of n
  stream = (growth_is (cluster_bits c v) r op a).stream ∙ ap data_of (files_are.shows c v n r a k.puts.file).number

  pub done_before : (more : List Touched) → AreAlike (bodies_of (touch_made c s n r)) new more → HasWritten (with_made c s n r) g clusters (made_volume v n r) op n stamp a (growth_of (cluster_bits (with_made c s n r) (made_volume v n r)) (made_record r) op a) more
      → HasWritten c g clusters v op n stamp a (growth_of (cluster_bits c v) r op a) new
  done_before more alike is =
      written_before c g clusters v s op n stamp a r (growth_of (cluster_bits c v) r op a) new more k.puts.sized k.puts.eight k.puts.stands k.puts.streams.table k.puts.journal k.puts.changes (is_owned c g clusters v n r a k.puts.stands k.puts.file).user stream kept_first gets alike
      (subst (λ (y : Growth). HasWritten d g clusters x op n stamp a y more) growth_then is)

-- ---- the two cases that come

module _ (counted : MadeIsCounted) (c : Content) (g : Geometry) (clusters : ℕ) (v : Volume) (s : VolumeStreams) (op : Op) (n stamp : ℕ) (a : Node) (r : Record) (size : ℕ) (new : List Touched) (enough : HasClusters c v op a r) (k : WritesMade c g clusters v s op n stamp a r (change.Stays size) new) where
  abbrev p : Record
  p = timed_record stamp (valued_record data_type [] (bytes_after op (with_bytes k.puts.put.value a)) (made_record r))

  abbrev bytes : List ℕ
  bytes = record_spelling (written_record p)

  room_kept : written_bytes (with_empty_data r) ≤ 1024
  room_kept = stays_room counted (growth_of (cluster_bits c v) (made_record r) op a) op a r k.none size k.puts.is

  abbrev more : List Touched
  more = touch_record (with_made c s n r) 8 s.table s.mirror n bytes []

  alike : AreAlike (bodies_of (touch_made c s n r)) new more
  alike =
      subst (λ (t : List Touched). AreAlike (bodies_of (touch_made c s n r)) t more) (sym k.puts.put.put.put)
      (first_alike c (with_made c s n r) 8 s.table s.mirror n (record_spelling (made_record r)) bytes k.puts.sized (long_of p k.puts.put.put.fits k.puts.put.put.room))

  stays_done : ValuesAreDone → HasWritten c g clusters v op n stamp a (growth_of (cluster_bits c v) r op a) new
  stays_done values =
      done_before counted c g clusters v s op n stamp a r (change.Stays size) new enough k room_kept more alike
      (values (with_made c s n r) g clusters (made_volume v n r) s op n stamp a (made_record r) size more
      (writes_then counted c g clusters v s op n stamp a r (change.Stays size) new enough k room_kept more (record { value = k.puts.put.value; held = k.puts.put.held; put = record { fits = k.puts.put.put.fits; room = k.puts.put.put.room; put = refl } })))

module _ (counted : MadeIsCounted) (c : Content) (g : Geometry) (clusters : ℕ) (v : Volume) (s : VolumeStreams) (op : Op) (n stamp : ℕ) (a : Node) (r : Record) (z : Resized) (new : List Touched) (enough : HasClusters c v op a r) (k : WritesMade c g clusters v s op n stamp a r (change.Leaves z) new) where
  abbrev new_value : List ℕ
  new_value = bytes_after op (with_bytes k.puts.put.value a)

  room_left : written_bytes (with_empty_data r) ≤ 1024
  room_left = leaves_room counted (growth_of (cluster_bits c v) (made_record r) op a) op a r k.none z k.puts.is

  abbrev put_base : List NewBody
  put_base = bodies_of (touch_made c s n r)

  base_are : AreBodies put_base
  base_are = are_first counted c g clusters v s op n stamp a r (change.Leaves z) new enough k room_left

  begun : AreAlike put_base (touch_record c 8 s.table s.mirror n (resized_bytes z) []) (touch_record (with_made c s n r) 8 s.table s.mirror n (resized_bytes z) [])
  begun = first_alike c (with_made c s n r) 8 s.table s.mirror n (record_spelling (made_record r)) (resized_bytes z) k.puts.sized (long_of z.file k.puts.put.moved.fits k.puts.put.moved.room)

  moved : (more : List Touched) × (PutsMoved (with_made c s n r) 8 s.bitmap s.table s.mirror n z new_value [] more × AreAlike put_base k.puts.put.mid more)
  moved = moved_alike c put_base k.puts.sized base_are 8 s.bitmap s.table s.mirror n z new_value [] k.puts.put.mid [] k.puts.put.moved.put begun

  timed : (more : List Touched) × (PutsFileRecord (with_made c s n r) s n (timed_record stamp (written_record z.file)) moved.0 more × AreAlike put_base new more)
  timed = file_alike c put_base k.puts.sized base_are s n (timed_record stamp (written_record z.file)) k.puts.put.mid new moved.0 k.puts.put.times moved.1.1

  leaves_done : LeavingIsDone → HasWritten c g clusters v op n stamp a (growth_of (cluster_bits c v) r op a) new
  leaves_done leaving =
      done_before counted c g clusters v s op n stamp a r (change.Leaves z) new enough k room_left timed.0 timed.1.1
      (leaving (with_made c s n r) g clusters (made_volume v n r) s op n stamp a (made_record r) z timed.0 (enough_then counted c g clusters v s op n stamp a r (change.Leaves z) new enough k room_left)
      (writes_then counted c g clusters v s op n stamp a r (change.Leaves z) new enough k room_left timed.0 (record {
        value = k.puts.put.value;
        held = k.puts.put.held;
        mid = moved.0;
        moved = record { fits = k.puts.put.moved.fits; room = k.puts.put.moved.room; put = moved.1.0 };
        times = timed.1.0;
      })))

-- ---- the others don't come

never_placed : (o : Option Stream) (e : Extents) → o ≡ Some (Held []) → o ≡ Some (Placed e) → ⊥
never_placed o e held placed = (let clash : Some (Held []) ≡ Some (Placed e) = sym held ∙ placed in absurd cc)

pub made_done : MadeIsCounted → ValuesAreDone → LeavingIsDone → MadeIsDone
made_done counted values leaving c g clusters v s op n stamp a r (change.Stays size) new enough k = stays_done counted c g clusters v s op n stamp a r size new enough k values
made_done counted values leaving c g clusters v s op n stamp a r (change.Leaves z) new enough k = leaves_done counted c g clusters v s op n stamp a r z new enough k leaving
made_done counted values leaving c g clusters v s op n stamp a r (change.Grows z) new enough k = absurd (never_placed (data_in (made_record r)) k.puts.is.e (counted.holds r k.none) k.puts.is.placed)
made_done counted values leaving c g clusters v s op n stamp a r (change.Cut z) new enough k = absurd (never_placed (data_in (made_record r)) k.puts.is.e (counted.holds r k.none) k.puts.is.placed)
made_done counted values leaving c g clusters v s op n stamp a r (change.Sized z) new enough k = absurd (never_placed (data_in (made_record r)) k.puts.is.e (counted.holds r k.none) k.puts.is.placed)
