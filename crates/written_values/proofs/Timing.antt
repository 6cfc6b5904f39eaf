-- Data in clusters got other sizes or other clusters, and the times are put behind that.
use Rattle.std.proofs.Common.{◌≡◌, ◌≢◌, ◌⊎◌, ℕ, ◌+◌, ◌<◌, ◌≤◌, ◌^◌, false, List, [], ◌∷◌, Option, Some, Ok, Err, refl, sym, ap, subst, ◌∙◌, inl, inr, arith}
use Rattle.std.proofs.lemmas.Bool.{cases_lt}
use Rattle.disk_model.specs.declared.block.Block.{Block}
use Rattle.disk_model.specs.Sectors.{overlap}
use Rattle.disk_model.specs.Content.{Content, HasSizes as HasBlockSizes}
use Rattle.record_model.specs.Constants.{data_type, standard_information}
use Rattle.record_model.specs.Records.{Record}
use Rattle.change_steps.specs.record_writer.NormalLaws.{FitsByRoom}
use Rattle.file_tree.specs.declared.node.Node.{Node}
use Rattle.change_steps.specs.state_model.declared.geometry.Geometry.{Geometry}
use Rattle.change_steps.specs.state_model.declared.stream.Stream.{Stream}
use Rattle.change_steps.specs.state_model.declared.stream.Stream.TheVariants.{Placed}
use Rattle.change_steps.specs.state_model.Files.{has_type, info_of}
use Rattle.change_steps.specs.state_model.Loads.{extents_or}
use Rattle.change_steps.specs.state_model.Streams.{stream_of}
use Rattle.change_steps.specs.volume_model.Volumes.{Volume, file_stream, bytes_or, mirror_file, cluster_bits}
use Rattle.change_steps.specs.volume_model.Owners.{uses}
use Rattle.change_steps.specs.volume_state.Trees.{tree_of}
use Rattle.change_steps.specs.stream_laws.Sharing.{stream_at, runs_in}
use Rattle.tree_model.specs.declared.script.Op.{Op}
use Rattle.tree_model.specs.Needs.{needed}
use Rattle.tree_model.specs.Effects.{HasChanged}
use Rattle.change_steps.specs.plan_owners.States.{Stands}
use Rattle.plan_bodies.specs.Bodies.{NewBody}
use Rattle.plan_bodies.proofs.Putting.{sized_with}
use Rattle.change_steps.specs.plan_draft.declared.touched.Touched.{Touched}
use Rattle.change_steps.specs.plan_draft.Touching.{bodies_of}
use Rattle.change_steps.specs.plan_draft.Drafts.{drafted}
use Rattle.change_steps.specs.plan_model.Attributes.{RewritesValues}
use Rattle.change_steps.specs.plan_model.Drafts.{FollowsOwners}
use Rattle.change_steps.specs.plan_model.Informed.{is_info, with_info, with_record, InfoDiffers}
use Rattle.change_steps.proofs.plan_model.Drafting.{per_is}
use Rattle.change_steps.proofs.plan_model.Rewriting.{same_runs, same_stream}
use Rattle.change_steps.specs.record_streams.Fitting.{FitsButRoom}
use Rattle.change_steps.specs.record_times.Times.{timed_info, timed_record}
use Rattle.change_steps.specs.record_times.Laws.{TimesAreSet}
use Rattle.change_steps.specs.draft_bits.Effects.{IsKept}
use Rattle.change_steps.specs.draft_records.Records.{written_record, written_bytes, fits_room}
use Rattle.change_steps.proofs.draft_records.Spelled.{spelled_but_room}
use Rattle.change_steps.proofs.draft_records.Written.{fits_written, room_full}
use Rattle.change_steps.specs.resized_streams.declared.resized.Resized.{Resized}
use Rattle.change_steps.specs.plan_growth.Trees.{with_data}
use Rattle.change_steps.specs.plan_values.Values.{IsOwnFile, WritesValues}
use Rattle.change_steps.proofs.plan_values.Valued.{data_spared, values_written}
use Rattle.change_steps.specs.plan_edits.Edits.{mirror_key}
use Rattle.change_steps.specs.plan_edits.Moves.{EditsDraft}
use Rattle.change_steps.specs.plan_edits.Records.{PutsRecordOf}
use Rattle.change_steps.proofs.plan_informed.Informed.{values_edit}
use Rattle.change_steps.specs.plan_changes.Changes.{IsDataAfter, Stamps}
use Rattle.change_steps.specs.plan_changes.Files.{IsChangeable, own_data, Shows, with_own, Follows}
use Rattle.change_steps.specs.plan_changes.Going.{GoesOnIn, StandsAs}
use Rattle.change_steps.specs.plan_changes.Nodes.{NodeBecomes}
use Rattle.change_steps.proofs.plan_changes.Becoming.{nodes_are}
use Rattle.change_steps.proofs.plan_changes.Changing.{changes_done}
use Rattle.change_steps.proofs.plan_changes.Going.{files_going}
use Rattle.change_steps.proofs.plan_changes.Showing.{files_are}
use Rattle.change_steps.specs.step_model.Contents.{MayDiffer, IsLeft}
use Rattle.change_steps.specs.step_model.Used.{is_in_record}
use Rattle.change_steps.specs.data_plan.Changes.{data_in, growth_of, IsTaken}
use Rattle.change_steps.specs.file_puts.declared.streams.VolumeStreams.{VolumeStreams}
use Rattle.change_steps.specs.file_puts.Puts.{PutsTimes}
use Rattle.change_steps.specs.file_puts.Written.{AreStreamsOf, HasWritten}
use Rattle.written_values.proofs.Owning.{IsOwned, is_owned}
use Rattle.written_values.proofs.Becoming.{stamped}
use Rattle.written_values.proofs.Joining.{nothing_put, Reaches, goes_behind, puts_record}
use Rattle.written_values.proofs.Sparing.{elsewhere, beside_itself, beside_record, others_stay, IsBeside, Ends, is_left}

-- ---- a record as it is written

has_room : (r : Record) → fits_room r ≡ Ok tt → written_bytes r ≤ 1024
has_room r room = elim (cases_lt 1024 (written_bytes r)) [
  | inl over ↦ (let clash : Err (written_bytes r) ≡ Ok tt = sym (room_full r (written_bytes r) refl over) ∙ room in absurd cc)
  | inr short ↦ short
]

pub written_fits : (r : Record) → FitsByRoom r → fits_room r ≡ Ok tt → FitsButRoom (written_record r)
written_fits r fits room = spelled_but_room (written_record r) (fits_written r fits (has_room r room))

-- ---- what is asked

-- the volume behind the first edit
abbrev pub resized_volume : Volume → ℕ → Resized → Volume
resized_volume v n z = with_record v n (written_record z.file)

-- A file that an operation changes, in a state to which the draft that touched nothing leads.
pub record BeginsAt (c : Content) (g : Geometry) (clusters : ℕ) (v : Volume) (s : VolumeStreams) (n : ℕ) (a : Node) (r : Record) : Type 0 where
  pub sized : HasBlockSizes c
  pub eight : g.per_cluster ≡ 8
  pub stands : Stands c g clusters v
  pub streams : AreStreamsOf v s
  pub file : IsChangeable c v n r a

-- The edit has led to a state in which the data stands in these clusters, with the size and the bytes after the operation. Its clusters are those
-- of the step, and none that it hadn't; the other streams stay, as all bodies do that no edit of the file changes. The room hasn't fallen.
pub record HasResized (c : Content) (g : Geometry) (clusters : ℕ) (v : Volume) (op : Op) (n : ℕ) (a : Node) (r : Record) (z : Resized) (mid : List Touched) : Type 0 where
  pub kept : IsKept mid
  pub fits : FitsButRoom (written_record z.file)
  pub reaches : Reaches c g clusters v mid (resized_volume v n z)
  pub stands : Stands (drafted mid c) g clusters (resized_volume v n z)
  pub goes : GoesOnIn v n data_type [] r (written_record z.file) (Placed z.extents)
  pub follows : Follows (drafted [] c) v n a (drafted mid c) (written_record z.file) (with_own (drafted mid c) v (written_record z.file) a)
  pub after : IsDataAfter false op a (Some (Placed z.extents)) (bytes_or (drafted mid c) v.per (Some (Placed z.extents)))
  pub room : (tree_of (drafted [] c) v).room ≤ (tree_of (drafted mid c) (resized_volume v n z)).room
  pub types : (kind : ℕ) → has_type kind (written_record z.file) ≡ has_type kind r
  pub others : (kind : ℕ) (name : List ℕ) → (kind ≢ data_type) ⊎ (name ≢ []) → stream_of kind name (written_record z.file).attrs ≡ stream_of kind name r.attrs
  pub taken : IsTaken (growth_of (cluster_bits c v) r op a) z
  pub fewer : (x : ℕ) → uses z.extents.runs x ≤ uses (runs_in (data_in r)) x
  pub stays : (w : Volume) → IsBeside n v w → (b : Block) → ((y : Block) → MayDiffer (n ∷ []) v w y → overlap b y ≡ false) → drafted mid c b ≡ drafted [] c b

-- ---- the times behind it

module _ (times_set : TimesAreSet) (c : Content) (g : Geometry) (clusters : ℕ) (v : Volume) (s : VolumeStreams) (op : Op) (n stamp : ℕ) (a : Node) (r : Record) (z : Resized) (mid new : List Touched) (k : BeginsAt c g clusters v s n a r) (small : stamp < 2 ^ 64) (before : HasResized c g clusters v op n a r z mid) (put : PutsTimes c s n stamp (written_record z.file) mid new) where
  abbrev first : Content
  first = drafted [] c

  abbrev behind : Content
  behind = drafted mid c

  abbrev last : Content
  last = drafted new c

  abbrev q : Record
  q = written_record z.file

  abbrev x : Volume
  x = with_record v n (written_record z.file)

  abbrev p : Record
  p = timed_record stamp (written_record z.file)

  abbrev t : Record
  t = written_record (timed_record stamp (written_record z.file))

  abbrev w : Volume
  w = with_record (with_record v n (written_record z.file)) n (written_record (timed_record stamp (written_record z.file)))

  start : first ≡ c
  start = nothing_put c k.sized

  behind_sized : HasBlockSizes behind
  behind_sized = sized_with c (bodies_of mid) k.sized

  file : IsChangeable first v n r a
  file = subst (λ (y : Content). IsChangeable y v n r a) (sym start) k.file

  owned : IsOwned v n r
  owned = is_owned c g clusters v n r a k.stands k.file

  shows : Shows first v n r a
  shows = files_are.shows first v n r a file

  eight : v.per ≡ 8
  eight = per_is c g clusters v k.eight k.stands

  -- ---- the edit

  own : IsOwnFile x n q
  own = record { file = before.goes.own.file; apart = before.goes.own.apart; no_list = before.goes.own.no_list }

  anew : RewritesValues is_info q p
  anew = times_set.rewritten stamp q (before.types standard_information ∙ owned.info)

  mirror_now : extents_or (stream_at x mirror_key) ≡ s.mirror
  mirror_now = (let low = owned.user in ap (λ (o : Option Record). extents_or (file_stream data_type [] o)) (elsewhere v n mirror_file q (λ same. omega (arith, same, low))) ∙ k.streams.mirror)

  puts : PutsRecordOf c x s.mirror n p mid new
  puts = puts_record c x s n p mid new k.sized before.kept eight k.streams.table mirror_now put

  edit : (bodies : List NewBody) × (EditsDraft c mid new bodies × WritesValues behind x n q p t bodies)
  edit = values_edit.times c g clusters x s.mirror n q p mid new before.stands own anew puts

  reaches : Reaches c g clusters v new w
  reaches = goes_behind c g clusters v x w mid new edit.0 k.sized k.eight k.stands before.reaches edit.1.0 (λ gave clear. values_written.goes_on c v behind g clusters x n q p t edit.0 gave behind_sized before.stands edit.1.1 clear)

  stands_as : StandsAs x n p t
  stands_as = files_going.written behind g clusters x n q p t edit.0 behind_sized before.stands edit.1.1

  -- ---- the tree

  informed : InfoDiffers n (info_of p) (tree_of behind x) (tree_of last w)
  informed = subst (λ (y : Content). InfoDiffers n (info_of p) (tree_of behind x) (tree_of y w)) edit.1.0.content (values_written.times_alone behind g clusters x n q p t edit.0 behind_sized before.stands edit.1.1 anew)

  abbrev b : Node
  b = with_own behind v q a

  becomes : NodeBecomes n a (with_info (info_of p) (with_data (own_data q) (bytes_or behind v.per (own_data q)) a)) (tree_of first v) (tree_of last w)
  becomes = nodes_are.behind n a b (with_info (info_of p) b) (tree_of first v) (tree_of behind x) (tree_of last w) before.follows.tree (nodes_are.informed n (info_of p) b (tree_of behind x) (tree_of last w) before.follows.tree.is informed)

  after : IsDataAfter false op a (own_data q) (bytes_or behind v.per (own_data q))
  after = subst (λ (o : Option Stream). IsDataAfter false op a o (bytes_or behind v.per o)) (sym before.goes.own.stream) before.after

  stamps : Stamps stamp a (info_of p)
  stamps = stamped first v n stamp r a (info_of p) shows (times_set.info stamp q small before.fits ∙ ap (timed_info stamp) before.goes.info)

  abbrev most : ℕ
  most = needed (tree_of c v) 0 op a

  room : (tree_of first v).room ≤ (tree_of last w).room + most
  room = (let was = before.room in let same = informed.room in omega (arith, was, same))

  changed_first : HasChanged (tree_of first v) most op a stamp (tree_of last w)
  changed_first = changes_done.done false op n stamp most (info_of p) (own_data q) (bytes_or behind v.per (own_data q)) a (tree_of first v) (tree_of last w) shows.number becomes after stamps tt room

  changed : HasChanged (tree_of c v) most op a stamp (tree_of last w)
  changed = subst (λ (y : Content). HasChanged (tree_of y v) most op a stamp (tree_of last w)) start changed_first

  -- ---- what is left

  t_data : data_in t ≡ Some (Placed z.extents)
  t_data = stands_as.streams data_type [] ∙ same_stream is_info q p data_type [] anew data_spared ∙ before.goes.own.stream

  ends : Ends v w n r t (growth_of (cluster_bits c v) r op a)
  ends = record {
    was = owned.own.file;
    now = stands_as.own.file;
    beside = beside_record n v x t (beside_record n v v q (beside_itself n v));
    others = λ kind name differ. ap runs_in (stands_as.streams kind name) ∙ same_runs is_info q p kind name anew ∙ ap runs_in (before.others kind name differ);
    stands = ap is_in_record t_data ∙ sym before.taken.clusters;
    runs = ap runs_in t_data ∙ before.taken.runs;
    fewer = λ y. (let same = ap (λ (o : Option Stream). uses (runs_in o) y) t_data in let fewer = before.fewer y in omega (arith, same, fewer));
  }

  body_stays : (b' : Block) → ((y : Block) → MayDiffer (n ∷ []) v w y → overlap b' y ≡ false) → last b' ≡ c b'
  body_stays b' apart =
      ap (λ (y : Content). y b') (sym edit.1.0.content)
      ∙ others_stay n v x w owned.user (beside_record n v v q (beside_itself n v)) ends.beside behind edit.0 behind_sized edit.1.1.put.puts.whole edit.1.1.put.puts.each b' apart
      ∙ before.stays w ends.beside b' apart
      ∙ ap (λ (y : Content). y b') start

  left : IsLeft c v clusters (n ∷ []) (growth_of (cluster_bits c v) r op a ∷ []) last w
  left = is_left c last v w clusters n r t op a shows.number ends (subst (λ (y : Content). FollowsOwners clusters (cluster_bits c v) (cluster_bits y w) v.files w.files) reaches.content reaches.draft.marks) body_stays

  pub timed_done : HasWritten c g clusters v op n stamp a (growth_of (cluster_bits c v) r op a) new
  timed_done = record { after = w; gave = reaches.gave; bodies = reaches.bodies; same = reaches.same; content = reaches.content; draft = reaches.draft; tree = changed; left = left }
