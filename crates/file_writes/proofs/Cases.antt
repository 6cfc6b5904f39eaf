-- What comes of a file's data can be put.
use Rattle.std.proofs.Common.{◌≡◌, ℕ, ◌+◌, ◌<◌, ◌≤◌, ◌^◌, max, Bool, true, false, List, [], length, Option, Some, None, refl, sym, ap, ◌∙◌, subst, arith}
use Rattle.record_model.specs.Constants.{data_type, standard_information}
use Rattle.record_model.specs.Pairs.{cluster_limit}
use Rattle.record_model.specs.Records.{Record}
use Rattle.file_tree.specs.declared.node.Node.{Node}
use Rattle.state_model.specs.declared.stream.Extents.{Extents}
use Rattle.state_model.specs.declared.stream.Stream.{Stream}
use Rattle.state_model.specs.declared.stream.Stream.TheVariants.{Held, Placed}
use Rattle.state_model.specs.Files.{has_type}
use Rattle.state_model.specs.Loads.{total_clusters}
use Rattle.state_model.specs.Streams.{attributes_of}
use Rattle.file_puts.specs.volume_model.Volumes.{size_or}
use Rattle.file_puts.specs.volume_model.Nodes.{valid_or, clusters_or}
use Rattle.tree_model.specs.declared.script.Op.{Op}
use Rattle.tree_model.specs.Needs.{size_after, clusters_for}
use Rattle.tree_model.specs.Effects.{valid_after, bytes_after, clusters_after}
use Rattle.file_puts.specs.record_streams.Fitting.{FitsButRoom}
use Rattle.file_puts.specs.record_streams.Placing.{placed_record}
use Rattle.file_puts.proofs.record_streams.Spelled.{total_few}
use Rattle.file_puts.specs.record_values.Values.{valued_record}
use Rattle.file_puts.specs.resized_streams.declared.resized.Resized.{Resized}
use Rattle.file_puts.specs.resized_streams.Resizing.{IsSized}
use Rattle.file_puts.specs.draft_records.Records.{written_record, written_bytes}
use Rattle.file_puts.specs.record_times.Times.{timed_record}
use Rattle.file_puts.specs.step_model.Placing.{Growth}
use Rattle.file_puts.specs.step_model.Streams.{Comes}
use Rattle.file_puts.proofs.used_laws.Beside.{used}
use Rattle.file_puts.specs.data_plan.declared.change.DataChange.{DataChange}
use Rattle.file_puts.specs.data_plan.declared.change.DataChange.TheVariants as change
use Rattle.file_puts.specs.data_plan.Changes.{IsChange, IsReadyChange, data_in, ShowsData, HasData, BeginsAtZero, LiesBelow, StandsBelow, IsHeld, growth_of, IsTaken, Stays, Leaves, Grows, IsCutOff, ChangesSizes, IsReady}
use Rattle.file_puts.proofs.data_plan.Cases.{placed_comes}
use Rattle.file_puts.proofs.data_plan.Taking.{there_is, some_data, as_value_bytes}
use Rattle.file_puts.specs.declared.streams.VolumeStreams.{VolumeStreams}
use Rattle.file_puts.specs.Puts.{with_bytes}
use Rattle.tree_model.specs.declared.reply.Reply.{Reply}
use Rattle.block_view.specs.declared.fault.ViewFault.{ViewFault}
use Rattle.block_view.specs.declared.fault.ViewFault.TheVariants as view
use Rattle.plan_draft.specs.declared.touched.Touched.{Touched}
use Rattle.file_puts.specs.data_plan.declared.fault.DataFault.{DataFault}
use Rattle.file_puts.specs.data_plan.declared.fault.DataFault.TheVariants as of
use Rattle.file_puts.specs.data_plan.Faults.{IsShortFault as IsShortData, IsRowFault as IsRowData}
use Rattle.file_writes.specs.Faults.{of_data, of_view, IsShortFault, IsRowFault, StaysWhereRefused}
use Rattle.file_writes.specs.Writing.{HasRoom, HasPlacedData, MayWrite}
use Rattle.file_writes.proofs.Rooms.{written_again, written_info, timed_bytes, placed_info, valued_info, sized_bytes}
use Rattle.file_writes.proofs.Lengths.{long_after, size_below}

-- ---- a value

-- what takes no clusters stands in its record
pub held_by : (bits : List Bool) (r : Record) (o : Op) (a : Node) (s : Option Stream) → data_in r ≡ s → BeginsAtZero (attributes_of data_type [] r.attrs) → (growth_of bits r o a).stands ≡ true → IsHeld s
held_by bits r o a None is begins stands = some_data r begins is
held_by bits r o a (Some (Held value)) is begins stands = tt
held_by bits r o a (Some (Placed e)) is begins stands = (let out : (growth_of bits r o a).stands ≡ false = ap (λ (c : Comes). c.growth.stands) (placed_comes bits r o a e is) in let clash : false ≡ true = sym out ∙ stands in absurd cc)

pub stays_held : (bits : List Bool) (r : Record) (o : Op) (a : Node) (clusters size : ℕ) → HasData clusters r → Stays (growth_of bits r o a) r o a size → IsHeld (data_in r)
stays_held bits r o a clusters size has stays = held_by bits r o a (data_in r) refl has.begins stays.stands

pub leaves_held : (r : Record) (value : List ℕ) → data_in r ≡ Some (Held value) → IsHeld (data_in r)
leaves_held r value is = subst IsHeld (sym is) tt

-- so a value is as long as the node says, and initialised whole
pub held_sizes : (r : Record) (a : Node) (value : List ℕ) → ShowsData a r → data_in r ≡ Some (Held value) → (a.size ≡ length value) × (a.valid ≡ length value)
held_sizes r a value shows is = (shows.size ∙ ap size_or is, shows.valid ∙ ap valid_or is)

-- a value with which its record has room is short
pub short_value : (r : Record) (value : List ℕ) → BeginsAtZero (attributes_of data_type [] r.attrs) → written_bytes (valued_record data_type [] value r) ≤ 1024 → length value ≤ 1024
short_value r value begins room =
    let t = there_is (attributes_of data_type [] r.attrs) begins in
    omega (arith, room, used.valued data_type [] value r t.first t.others t.is, as_value_bytes r (length value) begins)

-- a value that leaves grows little
pub short_leaving : (o : Op) (a : Node) (r : Record) (value : List ℕ) → ShowsData a r → data_in r ≡ Some (Held value) → clusters_after false o a ≤ a.clusters + 2 ^ 15 → size_after o a ≤ 2 ^ 27
short_leaving o a r value shows is little =
    let none : a.clusters ≡ 0 = shows.clusters ∙ ap clusters_or is in
    let few : clusters_after false o a ≤ 2 ^ 15 = omega (arith, little, none) in
    omega (arith, size_below o a (2 ^ 15) few)

-- ---- data in clusters

pub lies_below : (clusters : ℕ) (r : Record) (e : Extents) → HasData clusters r → data_in r ≡ Some (Placed e) → LiesBelow clusters e
lies_below clusters r e has is = subst (StandsBelow clusters) is has.stands

pub ends_below : (clusters n : ℕ) (s : VolumeStreams) (r : Record) (o : Op) (a : Node) (e : Extents) → MayWrite clusters n s r o a → data_in r ≡ Some (Placed e) → max a.valid (size_after o a) < 2 ^ 62
ends_below clusters n s r o a e may is =
    let lies = lies_below clusters r e may.has is in
    let size : a.size ≡ e.real = may.shows.size ∙ ap size_or is in
    let enough : clusters_for e.real ≤ total_clusters e.runs = lies.enough in
    let total : 0 + total_clusters e.runs ≤ cluster_limit = total_few 0 0 e.runs lies.spelled (omega arith) in
    let after = size_below o a cluster_limit may.little.few in
    let valid = may.valid in
    omega (arith, size, enough, total, after, valid)

pub initialised_is : (clusters n : ℕ) (s : VolumeStreams) (r : Record) (o : Op) (a : Node) (e : Extents) → MayWrite clusters n s r o a → data_in r ≡ Some (Placed e) → e.initialised ≡ a.valid
initialised_is clusters n s r o a e may is = sym (may.shows.valid ∙ ap valid_or is)

-- ---- the records

has_room : (r : Record) (e : Extents) (g : Growth) (z : Resized) → has_type standard_information r ≡ true → IsReady z → IsTaken g z → z.file ≡ placed_record 8 data_type [] e r → HasRoom z.file
has_room r e g z info ready takes is = record {
  fits = ready.fits;
  room = takes.room;
  info = ap (has_type standard_information) is ∙ placed_info e r ∙ info;
}

pub leaves_room : (g : Growth) (r : Record) (o : Op) (a : Node) (z : Resized) → has_type standard_information r ≡ true → IsReady z → Leaves g r o a z → HasRoom z.file
leaves_room g r o a z info ready is = has_room r _ g z info ready is.takes is.grown.file

pub grows_room : (g : Growth) (r : Record) (z : Resized) → has_type standard_information r ≡ true → IsReady z → Grows g r z → HasRoom z.file
grows_room g r z info ready is = has_room r _ g z info ready is.takes is.grown.file

pub cut_room : (g : Growth) (r : Record) (o : Op) (a : Node) (z : Resized) → has_type standard_information r ≡ true → IsReady z → IsCutOff g r o a z → HasRoom z.file
cut_room g r o a z info ready is = has_room r _ g z info ready is.takes is.cut.file

pub sized_room : (g : Growth) (r : Record) (o : Op) (a : Node) (z : Resized) → has_type standard_information r ≡ true → IsReady z → ChangesSizes g r o a z → HasRoom z.file
sized_room g r o a z info ready is = has_room r _ g z info ready is.takes is.sized.file

pub grows_data : (g : Growth) (r : Record) (z : Resized) → BeginsAtZero (attributes_of data_type [] r.attrs) → Grows g r z → HasPlacedData z
grows_data g r z begins is =
    let t = there_is (attributes_of data_type [] r.attrs) begins in
    record {
      before = r;
      first = t.first;
      others = t.others;
      some = t.is;
      file = is.grown.file ∙ ap (λ (e : Extents). placed_record 8 data_type [] e r) (sym is.grown.extents);
    }

-- ---- records behind those that were put

pub timed_room : (stamp : ℕ) (r s : Record) → HasRoom r → s ≡ timed_record stamp r → written_bytes s ≤ 1024
timed_room stamp r s has is = (let room = has.room in omega (arith, ap written_bytes is, timed_bytes stamp r has.info, room))

pub written_room : (r s : Record) → HasRoom r → s ≡ written_record r → FitsButRoom s → HasRoom s
written_room r s has is fits =
    let room = has.room in
    record {
      fits = fits;
      room = omega (arith, ap written_bytes is, written_again r, room);
      info = ap (has_type standard_information) is ∙ written_info r ∙ has.info;
    }

-- the value after the operation is short, and its record has room
pub record HasValueAfter (r : Record) (bytes : List ℕ) : Type 0 where
  pub short : length bytes ≤ 2 ^ 16
  pub room : written_bytes (valued_record data_type [] bytes r) ≤ 1024

pub value_after : (clusters n : ℕ) (s : VolumeStreams) (r : Record) (o : Op) (a : Node) (value bytes : List ℕ) → MayWrite clusters n s r o a → ((l : List ℕ) → length l ≡ size_after o a → written_bytes (valued_record data_type [] l r) ≤ 1024)
    → data_in r ≡ Some (Held value) → bytes ≡ bytes_after o (with_bytes value a) → HasValueAfter r bytes
value_after clusters n s r o a value bytes may room held is =
    let sizes = held_sizes r a value may.shows held in
    let long : length bytes ≡ size_after o a = ap length is ∙ long_after o a value sizes.0 sizes.1 in
    let fits = room bytes long in
    let few = short_value r bytes may.has.begins fits in
    record { short = omega (arith, few); room = fits }

pub valued_room : (r s : Record) (bytes : List ℕ) → has_type standard_information r ≡ true → HasValueAfter r bytes → s ≡ valued_record data_type [] bytes r → FitsButRoom s → HasRoom s
valued_room r s bytes info has is fits =
    let room = has.room in
    record {
      fits = fits;
      room = omega (arith, ap written_bytes is, room);
      info = ap (has_type standard_information) is ∙ valued_info bytes r ∙ info;
    }

pub leaving_short : (clusters n : ℕ) (s : VolumeStreams) (r : Record) (o : Op) (a : Node) (value bytes : List ℕ) → MayWrite clusters n s r o a → data_in r ≡ Some (Held value) → bytes ≡ bytes_after o (with_bytes value a) → length bytes < 2 ^ 32
leaving_short clusters n s r o a value bytes may held is =
    let sizes = held_sizes r a value may.shows held in
    let long : length bytes ≡ size_after o a = ap length is ∙ long_after o a value sizes.0 sizes.1 in
    let few = short_leaving o a r value may.shows held may.little.more in
    omega (arith, long, few)

-- the record of data in clusters, as it is written, with other sizes
pub sized_to : (per real initialised : ℕ) (e : Extents) (w r : Record) (o : Op) (a : Node) (z : Resized) → per ≡ 8 → w ≡ r → real ≡ size_after o a → initialised ≡ valid_after o a → IsSized per data_type [] e w real initialised z
    → IsSized 8 data_type [] e r (size_after o a) (valid_after o a) z
sized_to per real initialised e w r o a z eight same is_real is_initialised sized =
    subst (λ (k : ℕ). IsSized k data_type [] e r (size_after o a) (valid_after o a) z) eight
    (subst (λ (q : Record). IsSized per data_type [] e q (size_after o a) (valid_after o a) z) same
    (subst (λ (k : ℕ). IsSized per data_type [] e w k (valid_after o a) z) is_real
    (subst (λ (k : ℕ). IsSized per data_type [] e w real k z) is_initialised sized)))

placed_again : (z x : Resized) (f : Extents) → HasPlacedData z → x.file ≡ placed_record 8 data_type [] f (written_record z.file) → f.runs ≡ z.extents.runs → written_bytes x.file ≡ written_bytes z.file
placed_again z x f lies is same =
    ap written_bytes (is ∙ ap (λ (q : Record). placed_record 8 data_type [] f (written_record q)) lies.file)
    ∙ sized_bytes z.extents f lies.before lies.first lies.others lies.some same
    ∙ sym (ap written_bytes lies.file)

pub sized_again : (z x : Resized) (real initialised : ℕ) → HasRoom z.file → HasPlacedData z → IsSized 8 data_type [] z.extents (written_record z.file) real initialised x → FitsButRoom x.file → HasRoom x.file
sized_again z x real initialised has lies sized fits =
    let room = has.room in
    let same : written_bytes x.file ≡ written_bytes z.file = placed_again z x _ lies sized.file refl in
    record {
      fits = fits;
      room = omega (arith, same, room);
      info = ap (has_type standard_information) sized.file ∙ placed_info _ (written_record z.file) ∙ written_info z.file ∙ has.info;
    }

-- ---- each case

-- what a change that is one of these comes with
module _ (clusters n : ℕ) (s : VolumeStreams) (bits : List Bool) (r : Record) (o : Op) (a : Node) (ch : DataChange) (may : MayWrite clusters n s r o a) (comes : IsChange (growth_of bits r o a) r o a ch) (ready : IsReadyChange ch) where
  abbrev g : Growth
  g = growth_of bits r o a

  comes_as : (x : DataChange) → ch ≡ x → IsChange g r o a x
  comes_as x is = subst (IsChange g r o a) is comes

  ready_as : (x : DataChange) → ch ≡ x → IsReadyChange x
  ready_as x is = subst IsReadyChange is ready

  pub in_stays_held : (size : ℕ) → ch ≡ change.Stays size → IsHeld (data_in r)
  in_stays_held size is = stays_held bits r o a clusters size may.has (comes_as (change.Stays size) is)

  pub in_stays_room : (size : ℕ) → ch ≡ change.Stays size → (value : List ℕ) → length value ≡ size_after o a → written_bytes (valued_record data_type [] value r) ≤ 1024
  in_stays_room size is = (let stays : Stays g r o a size = comes_as (change.Stays size) is in λ value long. stays.room value (long ∙ sym stays.size_is))

  pub in_leaves_held : (z : Resized) → ch ≡ change.Leaves z → IsHeld (data_in r)
  in_leaves_held z is = (let leaves : Leaves g r o a z = comes_as (change.Leaves z) is in leaves_held r leaves.value leaves.held)

  pub in_leaves_ready : (z : Resized) → ch ≡ change.Leaves z → IsReady z
  in_leaves_ready z is = ready_as (change.Leaves z) is

  pub in_leaves_room : (z : Resized) → ch ≡ change.Leaves z → HasRoom z.file
  in_leaves_room z is = leaves_room g r o a z may.info (in_leaves_ready z is) (comes_as (change.Leaves z) is)

  pub in_grows_ready : (z : Resized) → ch ≡ change.Grows z → IsReady z
  in_grows_ready z is = ready_as (change.Grows z) is

  pub in_grows_room : (z : Resized) → ch ≡ change.Grows z → HasRoom z.file
  in_grows_room z is = grows_room g r z may.info (in_grows_ready z is) (comes_as (change.Grows z) is)

  pub in_grows_lies : (z : Resized) → ch ≡ change.Grows z → HasPlacedData z
  in_grows_lies z is = grows_data g r z may.has.begins (comes_as (change.Grows z) is)

  pub in_grows_ends : (z : Resized) → ch ≡ change.Grows z → max a.valid (size_after o a) < 2 ^ 62
  in_grows_ends z is = (let grows : Grows g r z = comes_as (change.Grows z) is in ends_below clusters n s r o a grows.e may grows.placed)

  pub in_grows_initialised : (z : Resized) → ch ≡ change.Grows z → z.extents.initialised ≡ a.valid
  in_grows_initialised z is =
      let grows : Grows g r z = comes_as (change.Grows z) is in
      ap (λ (x : Extents). x.initialised) grows.grown.extents ∙ initialised_is clusters n s r o a grows.e may grows.placed

  pub in_cut_ready : (z : Resized) → ch ≡ change.Cut z → IsReady z
  in_cut_ready z is = ready_as (change.Cut z) is

  pub in_cut_room : (z : Resized) → ch ≡ change.Cut z → HasRoom z.file
  in_cut_room z is = cut_room g r o a z may.info (in_cut_ready z is) (comes_as (change.Cut z) is)

  pub in_sized : (z : Resized) → ch ≡ change.Sized z → ChangesSizes g r o a z
  in_sized z is = comes_as (change.Sized z) is

  pub in_sized_room : (z : Resized) → ch ≡ change.Sized z → HasRoom z.file
  in_sized_room z is = sized_room g r o a z may.info (ready_as (change.Sized z) is) (in_sized z is)

  pub in_sized_ends : (z : Resized) → ch ≡ change.Sized z → max a.valid (size_after o a) < 2 ^ 62
  in_sized_ends z is = (let sized = in_sized z is in ends_below clusters n s r o a sized.e may sized.placed)

  pub in_sized_initialised : (z : Resized) (is : ch ≡ change.Sized z) → (in_sized z is).e.initialised ≡ a.valid
  in_sized_initialised z is = (let sized = in_sized z is in initialised_is clusters n s r o a sized.e may sized.placed)

-- ---- why nothing is put

pub short_data : (room : ℕ) (f : DataFault) → IsShortData room f → IsShortFault room (of_data f)
short_data room (of.Full bytes) short = short
short_data room (of.Short clear) short = short
short_data room of.Memory short = short

pub row_data : (row : Option Reply) (f : DataFault) → IsRowData row f → IsRowFault row (of_data f)
row_data row (of.Full bytes) is = is
row_data row (of.Short clear) is = is
row_data row of.Memory is = is

pub refused_data : (touched : List Touched) (f : DataFault) → StaysWhereRefused touched touched (of_data f)
refused_data touched (of.Full bytes) = refl
refused_data touched (of.Short clear) = refl
refused_data touched of.Memory = tt

pub row_view : (row : Option Reply) (f : ViewFault) → row ≡ None → IsRowFault row (of_view f)
row_view row view.Fault none = none
row_view row view.Memory none = tt

pub refused_view : (old new : List Touched) (f : ViewFault) → StaysWhereRefused old new (of_view f)
refused_view old new view.Fault = tt
refused_view old new view.Memory = tt
