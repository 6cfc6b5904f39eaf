-- Data that stays in its record is written there.
use Rattle.std.proofs.Common.{◌≡◌, ℕ, ◌+◌, ◌≤◌, true, false, ◌&&◌, ◌||◌, eqb, nat_eq, List, [], ◌∷◌, length, Option, Some, refl, sym, ap, ap₂, subst, ◌∙◌, arith}
use Rattle.std.specs.Cmp.Lexicographic.{pointwise}
use Rattle.std.proofs.lemmas.Bool.{or_right, false_from_ne_true, eqb-true}
use Rattle.disk_model.specs.declared.block.Block.{Block}
use Rattle.disk_model.specs.Sectors.{overlap}
use Rattle.disk_model.specs.Content.{Content, HasSizes as HasBlockSizes}
use Rattle.record_model.specs.declared.attribute.Attr.{Attr}
use Rattle.record_model.specs.declared.runs.Run.{Run}
use Rattle.record_model.specs.Constants.{data_type, standard_information}
use Rattle.record_model.specs.Records.{Record}
use Rattle.file_tree.specs.declared.node.Node.{Node}
use Rattle.change_steps.specs.state_model.declared.geometry.Geometry.{Geometry}
use Rattle.change_steps.specs.state_model.declared.stream.Stream.{Stream}
use Rattle.change_steps.specs.state_model.declared.stream.Stream.TheVariants.{Held}
use Rattle.change_steps.specs.state_model.Files.{info_of}
use Rattle.change_steps.specs.state_model.Streams.{is_attribute_of, attributes_of, stream_of}
use Rattle.change_steps.specs.volume_model.Volumes.{Volume, bytes_or, size_or, cluster_bits}
use Rattle.change_steps.specs.volume_model.Nodes.{valid_or, clusters_or, data_flags, first_flags}
use Rattle.change_steps.specs.volume_model.Owners.{uses}
use Rattle.change_steps.specs.volume_state.Trees.{tree_of}
use Rattle.change_steps.specs.stream_laws.Sharing.{runs_in}
use Rattle.change_steps.proofs.stream_laws.Sharing.{attribute_kind}
use Rattle.tree_model.specs.declared.script.Op.{Op}
use Rattle.tree_model.specs.Needs.{needed}
use Rattle.tree_model.specs.Effects.{bytes_after, HasChanged}
use Rattle.change_steps.specs.plan_owners.States.{Stands}
use Rattle.plan_bodies.specs.Bodies.{NewBody}
use Rattle.plan_bodies.proofs.Putting.{sized_with}
use Rattle.change_steps.specs.plan_draft.declared.touched.Touched.{Touched}
use Rattle.change_steps.specs.plan_draft.Touching.{bodies_of}
use Rattle.change_steps.specs.plan_draft.Drafts.{drafted}
use Rattle.change_steps.specs.plan_model.Attributes.{RewritesValues, SparesAll}
use Rattle.change_steps.specs.plan_model.Drafts.{FollowsOwners}
use Rattle.change_steps.specs.plan_model.Informed.{is_info, with_info, with_record}
use Rattle.change_steps.proofs.plan_model.Drafting.{per_is}
use Rattle.change_steps.proofs.plan_model.Rewriting.{same_attributes, same_info, same_runs, same_stream, same_types}
use Rattle.change_steps.specs.record_streams.Fitting.{FitsButRoom}
use Rattle.change_steps.proofs.record_values.Valued.{fits_valued}
use Rattle.change_steps.specs.record_times.Times.{timed_info, timed_record}
use Rattle.change_steps.specs.record_times.Laws.{TimesAreSet}
use Rattle.change_steps.specs.draft_records.Records.{written_record, written_bytes}
use Rattle.change_steps.specs.plan_values.Values.{is_data, is_info_or_data, WritesValues}
use Rattle.change_steps.specs.plan_values.Trees.{FileFollows}
use Rattle.change_steps.proofs.plan_values.Valued.{data_spared, values_written}
use Rattle.change_steps.specs.plan_edits.Moves.{EditsDraft}
use Rattle.change_steps.specs.plan_edits.Records.{PutsRecordOf}
use Rattle.change_steps.specs.plan_informed.Valued.{with_value}
use Rattle.change_steps.proofs.plan_informed.Informed.{values_edit, info_wider}
use Rattle.change_steps.proofs.plan_informed.Valuing.{value_rewrites}
use Rattle.change_steps.specs.plan_changes.Bytes.{HasSizes}
use Rattle.change_steps.specs.plan_changes.Changes.{IsDataAfter, Stamps}
use Rattle.change_steps.specs.plan_changes.Files.{IsChangeable, own_data, Shows, with_own, Follows}
use Rattle.change_steps.specs.plan_changes.Going.{StandsAs}
use Rattle.change_steps.proofs.plan_changes.Changing.{changes_done}
use Rattle.change_steps.proofs.plan_changes.Going.{files_going}
use Rattle.change_steps.proofs.plan_changes.Showing.{files_are}
use Rattle.change_steps.specs.step_model.Used.{is_in_record}
use Rattle.change_steps.specs.step_model.Contents.{MayDiffer, IsLeft}
use Rattle.change_steps.proofs.used_laws.Beside.{used}
use Rattle.change_steps.specs.data_plan.declared.change.DataChange.TheVariants as change
use Rattle.change_steps.specs.data_plan.Changes.{data_in, growth_of, BeginsAtZero}
use Rattle.change_steps.proofs.data_plan.Taking.{there_is, as_value_bytes}
use Rattle.change_steps.specs.file_puts.declared.streams.VolumeStreams.{VolumeStreams}
use Rattle.change_steps.specs.file_puts.Puts.{PutsFileRecord}
use Rattle.change_steps.specs.file_puts.Written.{WritesFile, HasWritten}
use Rattle.written_values.specs.Laws.{ValuesAreDone}
use Rattle.written_values.proofs.Owning.{IsOwned, is_owned}
use Rattle.written_values.proofs.Growths.{stays_none}
use Rattle.written_values.proofs.Becoming.{held_after, same_after, stamped}
use Rattle.written_values.proofs.Joining.{nothing_put, nothing_kept, Reaches, begins, goes_behind, puts_record}
use Rattle.written_values.proofs.Sparing.{beside_itself, beside_record, others_stay, Ends, is_left}

-- ---- which values

-- the test asks for the type and the name
pub reads_alike : (a b : Attr) → b.head.kind ≡ a.head.kind → b.name ≡ a.name → is_info_or_data b ≡ is_info_or_data a
unfolding is_attribute_of
reads_alike a b kind name = ap₂ (λ (k : ℕ) (l : List ℕ). eqb k standard_information || (eqb k data_type && pointwise nat_eq l [])) kind name

data_wider : (a : Attr) → is_data a ≡ true → is_info_or_data a ≡ true
data_wider a is = or_right (is_info a) (is_data a) is

info_spared : SparesAll is_data is_info
info_spared a is =
    let at = eqb-true a.head.kind standard_information is in
    false_from_ne_true (is_data a) (λ data_is. (let kind = (attribute_kind data_type [] a data_is).0 in absurd (omega (arith, at, kind))))

-- ---- a value that a record has room for is short

value_fits : (r : Record) (value : List ℕ) → BeginsAtZero (attributes_of data_type [] r.attrs) → FitsButRoom r → written_bytes (with_value value r) ≤ 1024 → FitsButRoom (with_value value r)
value_fits r value begins fits room =
    let there = there_is (attributes_of data_type [] r.attrs) begins in
    let counted = used.valued data_type [] value r there.first there.others there.is in
    let bytes = as_value_bytes r (length value) begins in
    fits_valued data_type [] value r (omega (arith, counted, bytes, room)) (record { not_info = refl; not_name = refl }) fits

-- ---- the operation

module _ (times_set : TimesAreSet) (c : Content) (g : Geometry) (clusters : ℕ) (v : Volume) (s : VolumeStreams) (op : Op) (n stamp : ℕ) (a : Node) (r : Record) (size : ℕ) (new : List Touched) (k : WritesFile c g clusters v s op n stamp a r (change.Stays size) new) where
  abbrev first : Content
  first = drafted [] c

  abbrev last : Content
  last = drafted new c

  start : first ≡ c
  start = nothing_put c k.sized

  first_sized : HasBlockSizes first
  first_sized = sized_with c (bodies_of []) k.sized

  state : Stands first g clusters v
  state = subst (λ (x : Content). Stands x g clusters v) (sym start) k.stands

  file : IsChangeable first v n r a
  file = subst (λ (x : Content). IsChangeable x v n r a) (sym start) k.file

  owned : IsOwned v n r
  owned = is_owned first g clusters v n r a state file

  shows : Shows first v n r a
  shows = files_are.shows first v n r a file

  eight : v.per ≡ 8
  eight = per_is c g clusters v k.eight k.stands

  -- ---- the bytes

  abbrev was : List ℕ
  was = k.put.value

  abbrev value : List ℕ
  value = bytes_after op a

  held : data_in r ≡ Some (Held was)
  held = k.put.held

  was_is : a.bytes ≡ was
  was_is = shows.bytes ∙ ap (bytes_or first v.per) held

  sizes : HasSizes a
  sizes = (let all = ap length was_is in let size_is = shows.size ∙ ap size_or held in let valid_is = shows.valid ∙ ap valid_or held in record { all = omega (arith, all, size_is); valid = omega (arith, size_is, valid_is) })

  all_valid : a.valid ≡ a.size
  all_valid = shows.valid ∙ ap valid_or held ∙ sym (shows.size ∙ ap size_or held)

  after : IsDataAfter true op a (Some (Held (bytes_after op a))) (bytes_after op a)
  after = held_after op a sizes all_valid k.changes

  -- ---- the record

  abbrev q : Record
  q = with_value (bytes_after op a) r

  abbrev p : Record
  p = timed_record stamp (with_value (bytes_after op a) r)

  q_fits : FitsButRoom q
  q_fits = value_fits r value k.has.begins k.has.fits (k.is.room value (after.size ∙ sym k.is.size_is))

  q_anew : RewritesValues is_data r q
  q_anew = value_rewrites.values first g clusters v n r was value state owned.own held

  p_anew : RewritesValues is_info q p
  p_anew = times_set.rewritten stamp q (same_types is_data r q standard_information q_anew ∙ owned.info)

  anew : RewritesValues is_info_or_data r p
  anew = value_rewrites.twice is_info_or_data r q p reads_alike (value_rewrites.wider is_data is_info_or_data r q data_wider q_anew) (value_rewrites.wider is_info is_info_or_data q p info_wider p_anew)

  flags : data_flags p ≡ data_flags r
  unfolding data_flags
  flags = ap first_flags (same_attributes is_info q p data_type [] p_anew data_spared) ∙ value_rewrites.flags first g clusters v n r was value state owned.own held

  p_data : data_in p ≡ Some (Held (bytes_after op a))
  p_data = same_stream is_info q p data_type [] p_anew data_spared ∙ value_rewrites.stream r was value held

  p_info : info_of p ≡ timed_info stamp (info_of r)
  p_info = times_set.info stamp q k.soon q_fits ∙ ap (timed_info stamp) (same_info is_data r q q_anew info_spared)

  -- ---- the edit

  abbrev t : Record
  t = written_record (timed_record stamp (with_value (bytes_after op a) r))

  abbrev w : Volume
  w = with_record v n (written_record (timed_record stamp (with_value (bytes_after op a) r)))

  put_file : PutsFileRecord c s n p [] new
  put_file = subst (λ (l : List ℕ). PutsFileRecord c s n (timed_record stamp (with_value l r)) [] new) (same_after op a was (sym was_is)) k.put.put

  puts : PutsRecordOf c v s.mirror n p [] new
  puts = puts_record c v s n p [] new k.sized nothing_kept eight k.streams.table k.streams.mirror put_file

  edit : (bodies : List NewBody) × (EditsDraft c [] new bodies × WritesValues first v n r p t bodies)
  edit = values_edit.values c g clusters v s.mirror n r p [] new state owned.own anew flags puts

  reaches : Reaches c g clusters v new w
  reaches = goes_behind c g clusters v v w [] new edit.0 k.sized k.eight k.stands (begins c g clusters v k.sized k.stands) edit.1.0 (λ gave clear. values_written.goes_on c v first g clusters v n r p t edit.0 gave first_sized state edit.1.1 clear)

  stands_as : StandsAs v n p t
  stands_as = files_going.written first g clusters v n r p t edit.0 first_sized state edit.1.1

  -- ---- the tree

  tree_then : FileFollows first last v n r t
  tree_then = subst (λ (x : Content). FileFollows first x v n r t) edit.1.0.content (values_written.tree first g clusters v n r p t edit.0 first_sized state edit.1.1)

  follows : Follows first v n a last t (with_info (info_of t) (with_own last v t a))
  follows = files_are.both_follow first last v n r t a file tree_then

  t_data : own_data t ≡ Some (Held (bytes_after op a))
  t_data = stands_as.streams data_type [] ∙ p_data

  t_after : IsDataAfter true op a (own_data t) (bytes_or last v.per (own_data t))
  t_after = subst (λ (o : Option Stream). IsDataAfter true op a o (bytes_or last v.per o)) (sym t_data) after

  stamps : Stamps stamp a (info_of t)
  stamps = stamped first v n stamp r a (info_of t) shows (stands_as.info ∙ p_info)

  abbrev most : ℕ
  most = needed (tree_of c v) 0 op a

  room : (tree_of first v).room ≤ (tree_of last w).room + most
  room = (let same = tree_then.room in omega (arith, same))

  changed_first : HasChanged (tree_of first v) most op a stamp (tree_of last w)
  changed_first = changes_done.done true op n stamp most (info_of t) (own_data t) (bytes_or last v.per (own_data t)) a (tree_of first v) (tree_of last w) shows.number follows.tree t_after stamps (shows.clusters ∙ ap clusters_or held) room

  changed : HasChanged (tree_of c v) most op a stamp (tree_of last w)
  changed = subst (λ (x : Content). HasChanged (tree_of x v) most op a stamp (tree_of last w)) start changed_first

  -- ---- what is left

  runs_now : (kind : ℕ) (name : List ℕ) → runs_in (stream_of kind name t.attrs) ≡ runs_in (stream_of kind name r.attrs)
  runs_now kind name = ap runs_in (stands_as.streams kind name) ∙ same_runs is_info_or_data r p kind name anew

  ends : Ends v w n r t (growth_of (cluster_bits c v) r op a)
  ends = record {
    was = owned.own.file;
    now = stands_as.own.file;
    beside = beside_record n v v t (beside_itself n v);
    others = λ kind name differ. runs_now kind name;
    stands = ap is_in_record t_data ∙ sym k.is.stands;
    runs = ap runs_in t_data ∙ sym (stays_none (cluster_bits c v) r op a k.is.stands);
    fewer = λ x. (let same = ap (λ (l : List Run). uses l x) (runs_now data_type []) in omega (arith, same));
  }

  body_stays : (b : Block) → ((y : Block) → MayDiffer (n ∷ []) v w y → overlap b y ≡ false) → last b ≡ c b
  body_stays b apart =
      ap (λ (x : Content). x b) (sym edit.1.0.content)
      ∙ others_stay n v v w owned.user (beside_itself n v) (beside_record n v v t (beside_itself n v)) first edit.0 first_sized edit.1.1.put.puts.whole edit.1.1.put.puts.each b apart
      ∙ ap (λ (x : Content). x b) start

  left : IsLeft c v clusters (n ∷ []) (growth_of (cluster_bits c v) r op a ∷ []) last w
  left = is_left c last v w clusters n r t op a shows.number ends (subst (λ (x : Content). FollowsOwners clusters (cluster_bits c v) (cluster_bits x w) v.files w.files) reaches.content reaches.draft.marks) body_stays

  value_done : HasWritten c g clusters v op n stamp a (growth_of (cluster_bits c v) r op a) new
  value_done = record { after = w; gave = reaches.gave; bodies = reaches.bodies; same = reaches.same; content = reaches.content; draft = reaches.draft; tree = changed; left = left }

pub values_done : TimesAreSet → ValuesAreDone
values_done times_set c g clusters v s op n stamp a r size new k = value_done times_set c g clusters v s op n stamp a r size new k
