-- A value that leaves its record for clusters, with its new bytes.
use Rattle.std.proofs.Common.{◌≡◌, ◌≢◌, ◌⊎◌, ℕ, ◌+◌, ◌-◌, ◌*◌, ◌/◌, ◌<◌, ◌≤◌, Bool, true, false, cond, List, [], length, get_or, Option, Some, refl, sym, ap, subst, ◌∙◌, inl, inr, arith}
use Rattle.std.specs.Prelude.{not, count_by, map}
use Rattle.std.specs.List.{list_any, range_with_len}
use Rattle.std.proofs.lemmas.Bool.{cases_Bool, both_ways}
use Rattle.std.proofs.lemmas.List.{ext_get_or}
use Rattle.std.proofs.lemmas.List.FromFn.{length-map-range_with_len, get_or-map-range_with_len}
use Rattle.std.proofs.lemmas.List.Sums.{count_by-le-length}
use Rattle.disk_model.specs.declared.block.Block.{Block}
use Rattle.disk_model.specs.declared.block.BlockKind.{BlockKind}
use Rattle.disk_model.specs.declared.block.BlockKind.TheVariants.{Plain, FileRec}
use Rattle.disk_model.specs.Content.{Content, HasSizes as HasBlockSizes}
use Rattle.record_model.specs.declared.runs.Run.{Run}
use Rattle.record_model.specs.Constants.{data_type, index_allocation, standard_information}
use Rattle.record_model.specs.Pairs.{cluster_limit, HasSpelling}
use Rattle.record_model.specs.Records.{Record, record_spelling}
use Rattle.bit_set.specs.Bits.{bit}
use Rattle.file_tree.specs.declared.node.Node.{Node}
use Rattle.file_tree.specs.Walks.{first_user_record}
use Rattle.state_model.specs.declared.geometry.Geometry.{Geometry}
use Rattle.state_model.specs.declared.stream.Extents.{Extents}
use Rattle.state_model.specs.declared.stream.Stream.{Stream}
use Rattle.state_model.specs.declared.stream.Stream.TheVariants.{Held, Placed}
use Rattle.state_model.specs.Files.{has_type, info_of}
use Rattle.state_model.specs.Loads.{total_clusters, extents_or}
use Rattle.state_model.specs.Streams.{block_at, byte_at, extent_bytes}
use Rattle.written_values.specs.volume_model.Volumes.{Volume, file_stream, cluster_bits, size_or, bytes_or}
use Rattle.written_values.specs.volume_model.Nodes.{valid_or, clusters_or}
use Rattle.written_values.specs.volume_model.Owners.{uses}
use Rattle.written_values.specs.volume_model.Sizes.{is_hole}
use Rattle.written_values.specs.volume_state.Trees.{tree_of}
use Rattle.tree_model.specs.declared.script.Op.{Op}
use Rattle.tree_model.specs.Needs.{shrinks, needed, size_after, clusters_for, bytes_part}
use Rattle.tree_model.specs.Effects.{bytes_after, valid_after, clusters_after, HasChanged}
use Rattle.tree_model.proofs.FileNeeds.{needs_of_change}
use Rattle.written_values.specs.stream_laws.Owners.{stream_kind}
use Rattle.written_values.specs.stream_laws.Places.{AreOnce}
use Rattle.written_values.specs.stream_laws.Sharing.{StreamKey, stream_at, runs_in}
use Rattle.written_values.proofs.stream_laws.Sharing.{uses-none}
use Rattle.written_values.specs.stream_runs.Runs.{last_cluster, grown}
use Rattle.written_values.proofs.stream_runs.Merging.{follow-grown}
use Rattle.written_values.specs.plan_owners.States.{Stands}
use Rattle.plan_bodies.specs.Bodies.{NewBody, put_bodies}
use Rattle.plan_bodies.proofs.Putting.{sized_with}
use Rattle.plan_draft.specs.declared.touched.Touched.{Touched}
use Rattle.plan_draft.specs.Drafts.{drafted}
use Rattle.written_values.specs.plan_model.Attributes.{RewritesValues}
use Rattle.written_values.specs.plan_model.Drafts.{gives_none, gives_runs}
use Rattle.written_values.specs.plan_model.Edits.{IsOwnedIn}
use Rattle.written_values.specs.plan_model.Informed.{is_info, with_info, with_record, InfoDiffers}
use Rattle.written_values.proofs.plan_model.Drafting.{per_is}
use Rattle.written_values.specs.draft_records.Records.{written_record, touch_record}
use Rattle.written_values.specs.draft_resized.Effects.{MovesWhole}
use Rattle.written_values.specs.draft_resized.Moved.{PutsMoved}
use Rattle.written_values.proofs.draft_resized.MovedEffects.{moved_put}
use Rattle.written_values.specs.record_streams.Placing.{placed_record}
use Rattle.written_values.specs.record_times.Laws.{TimesAreSet}
use Rattle.written_values.specs.record_times.Times.{timed_record}
use Rattle.written_values.specs.resized_streams.declared.resized.Resized.{Resized}
use Rattle.written_values.specs.resized_streams.Resizing.{clusters_for as wanted_for, unplaced, lengthened, IsGrown}
use Rattle.state_streams.specs.plan_growth.Growing.{MayGive}
use Rattle.state_streams.specs.plan_growth.Leaving.{MovesValue}
use Rattle.state_streams.specs.plan_growth.Streams.{IsOwnStream, IsWritten, IsFreshIn, MayTake, key_of, marks_streams}
use Rattle.state_streams.specs.plan_growth.Trees.{with_data, TreeFollows}
use Rattle.state_streams.proofs.plan_growth.Choosing.{may_be_taken}
use Rattle.state_streams.proofs.plan_growth.Growing.{total-grown, uses-grown}
use Rattle.state_streams.proofs.plan_growth.Leaving.{moved_leads, moved_goes_on, moved_tree}
use Rattle.state_streams.proofs.plan_growth.Resizing.{clusters_are as as_many}
use Rattle.state_streams.proofs.plan_growth.Runs.{grown_whole}
use Rattle.written_values.specs.plan_values.Values.{IsOwnFile}
use Rattle.written_values.proofs.plan_values.Valued.{limits_named}
use Rattle.written_values.specs.plan_edits.Edits.{mirror_key}
use Rattle.written_values.specs.plan_edits.Moves.{EditsDraft, MovesOfVolume}
use Rattle.written_values.specs.plan_edits.Records.{PutsRecordOf}
use Rattle.written_values.proofs.plan_edits.Bitmap.{state_bitmap, own_by, lies_by}
use Rattle.written_values.proofs.plan_edits.Editing.{some_of}
use Rattle.written_values.proofs.plan_edits.Moving.{moved_edit}
use Rattle.written_values.proofs.plan_edits.Putting.{each_turned}
use Rattle.written_values.specs.plan_changes.Bytes.{GrowsFile, HasSizes}
use Rattle.written_values.specs.plan_changes.Changes.{IsDataAfter}
use Rattle.written_values.specs.plan_changes.Files.{own_data, Shows, with_own, Follows}
use Rattle.written_values.specs.plan_changes.Going.{GoesOnIn}
use Rattle.written_values.specs.plan_changes.Nodes.{NodeBecomes}
use Rattle.written_values.proofs.plan_changes.Becoming.{nodes_are}
use Rattle.written_values.proofs.plan_changes.Changing.{changes_done}
use Rattle.written_values.proofs.plan_changes.Falling.{rooms_are}
use Rattle.written_values.proofs.plan_changes.Going.{files_going}
use Rattle.written_values.proofs.plan_changes.Showing.{files_are}
use Rattle.written_values.specs.step_model.Placing.{Growth, more_of, runs_after}
use Rattle.written_values.specs.step_model.Used.{is_in_record}
use Rattle.written_values.specs.step_model.Streams.{Comes, wanted_data, placed_among}
use Rattle.written_values.specs.data_plan.declared.change.DataChange.TheVariants as change
use Rattle.written_values.specs.data_plan.Changes.{growth_of}
use Rattle.written_values.proofs.data_plan.Cases.{StaysIn, comes_by, cut_stays, clusters_by}
use Rattle.written_values.specs.file_puts.declared.streams.VolumeStreams.{VolumeStreams}
use Rattle.written_values.specs.file_puts.Puts.{with_bytes, PutsLeaving}
use Rattle.written_values.specs.file_puts.Written.{WritesFile, HasWritten}
use Rattle.written_clusters.specs.Done.{HasClusters, LeavingIsDone}
use Rattle.written_clusters.proofs.Known.{shown, user, informed, own_stream, plain}
use Rattle.written_clusters.proofs.Staying.{types_stay, which_stays}
use Rattle.written_clusters.proofs.Chaining.{none_drafted, PutsTo, KeepsMarks, keeps_itself, keeps_with, mark_put, record_put, own_put, Chain, chain_begins, chain_goes_on}
use Rattle.written_clusters.proofs.Timing.{written_spelled, stamped, timed_chain, timed_tree, timed_runs, timed_data}
use Rattle.written_clusters.proofs.Left.{GrowsData}
use Rattle.written_clusters.proofs.Taking.{total_chosen, grows_file, clusters_are, never_given, length-cluster_bits}
use Rattle.written_clusters.proofs.Sizes.{EndsSizes}
use Rattle.written_clusters.proofs.Beginning.{none_kept, first_state, first_file, has_written}

module _ (times_set : TimesAreSet) (c : Content) (g : Geometry) (clusters : ℕ) (v : Volume) (st : VolumeStreams) (op : Op) (n stamp : ℕ) (a : Node) (r : Record) (z : Resized) (new : List Touched) (enough : HasClusters c v op a r) (k : WritesFile c g clusters v st op n stamp a r (change.Leaves z) new) where
  abbrev first : Content
  first = drafted [] c

  abbrev puts : PutsLeaving c st n op a stamp r z [] new
  puts = k.put

  abbrev was : List ℕ
  was = puts.value

  abbrev value : List ℕ
  value = bytes_after op (with_bytes was a)

  abbrev mid : List Touched
  mid = puts.mid

  abbrev s : Record
  s = written_record z.file

  abbrev p : Record
  p = timed_record stamp s

  abbrev w : Volume
  w = with_record v n s

  abbrev own : StreamKey
  own = key_of n data_type []

  none : first ≡ c
  none = none_drafted c k.sized

  shows : Shows c v n r a
  shows = shown c g clusters v n r a k.stands k.file

  state : Stands first g clusters v
  state = first_state c g clusters v n r a k.sized k.stands k.file

  user_is : first_user_record ≤ n
  user_is = user c g clusters v n r a k.stands k.file

  sized_first : HasBlockSizes first
  sized_first = sized_with c [] k.sized

  per_8 : v.per ≡ 8
  per_8 = per_is c g clusters v k.eight k.stands

  own_is : IsOwnStream v n data_type [] r (Held was)
  own_is = own_stream c g clusters v n r a k.stands k.file (Held was) puts.held

  -- ---- its bytes

  bytes_was : a.bytes ≡ was
  bytes_was = shows.bytes ∙ ap (bytes_or c v.per) puts.held

  size_was : a.size ≡ length was
  size_was = shows.size ∙ ap size_or puts.held

  valid_was : a.valid ≡ length was
  valid_was = shows.valid ∙ ap valid_or puts.held

  sizes : HasSizes a
  sizes = record { all = ap length bytes_was ∙ sym size_was; valid = omega (arith, size_was, valid_was) }

  value_is : value ≡ bytes_after op a
  value_is = ap (λ (l : List ℕ). bytes_after op (with_bytes l a)) (sym bytes_was)

  -- a value that is cut doesn't leave
  longer : shrinks op a ≡ false
  longer = elim (cases_Bool (shrinks op a)) [
    | inl cut ↦
        absurd
        (both_ways (growth_of (cluster_bits c v) r op a).stands k.is.takes.clusters
        (ap (λ (x : Comes). x.growth.stands) (comes_by (cluster_bits c v) r op a true (cut_stays r op a (ap is_in_record puts.held) cut))))
    | inr grows ↦ grows
  ]

  grows_is : GrowsFile op a
  grows_is = grows_file op a k.changes longer

  held_after : IsDataAfter true op a (Some (Held (bytes_after op a))) (bytes_after op a)
  held_after = changes_done.held op a sizes (valid_was ∙ sym size_was) grows_is

  long : length value ≡ size_after op a
  long = ap length value_is ∙ held_after.size

  valid_now : length value ≡ valid_after op a
  valid_now = ap length value_is ∙ held_after.valid

  -- ---- its growth

  abbrev bits : List Bool
  bits = cluster_bits c v

  abbrev growth : Growth
  growth = placed_among bits [] (wanted_data op a)

  abbrev more : List Run
  more = growth.runs

  leaves_is : StaysIn r op a ≡ false
  leaves_is = elim (cases_Bool (StaysIn r op a)) [
    | inl stays ↦ absurd (both_ways (growth_of bits r op a).stands k.is.takes.clusters (ap (λ (x : Comes). x.growth.stands) (comes_by bits r op a true stays)))
    | inr leaves ↦ leaves
  ]

  growth_is : growth_of bits r op a ≡ growth
  growth_is = ap (λ (x : Comes). x.growth) (clusters_by bits r op a (Some (Held was)) leaves_is puts.held)

  room_is : more_of growth ≤ count_by not bits
  room_is = subst (λ (x : Growth). more_of x ≤ count_by not bits) growth_is enough

  total_more : total_clusters more ≡ more_of growth
  total_more = total_chosen bits (last_cluster []) (more_of growth) room_is

  had : a.clusters ≡ 0
  had = shows.clusters ∙ ap clusters_or puts.held

  wants : clusters_after false op a ≡ clusters_for (size_after op a)
  wants = (let is = clusters_are op a longer in let no = had in omega (arith, is, no))

  total_is : total_clusters more ≡ clusters_for (size_after op a)
  total_is = (let all = total_more in let is = wants in omega (arith, all, is))

  few_bits : length bits ≤ cluster_limit
  few_bits = (let size = length-cluster_bits c v in let same = as_many c g clusters v k.stands in let few = k.few in omega (arith, size, same, few))

  few_more : total_clusters more ≤ cluster_limit
  few_more = (let all = total_more in let room = room_is in let most = count_by-le-length not bits in let few = few_bits in omega (arith, all, room, most, few))

  taken : MayTake v.clusters (cluster_bits first v) more
  taken =
      subst (λ (x : ℕ). MayTake x (cluster_bits first v) more) (length-cluster_bits c v)
      (may_be_taken bits (cluster_bits first v) (last_cluster []) (more_of growth) (λ x clear. ap (λ (y : Content). bit (cluster_bits y v) x) none ∙ clear) few_bits few_more)

  clear_before : (x : ℕ) → 0 < uses more x → bit (cluster_bits c v) x ≡ false
  clear_before x some = sym (ap (λ (y : Content). bit (cluster_bits y v) x) none) ∙ taken.clear x some

  grown_is : IsGrown v.per data_type [] (unplaced (length value)) r more z
  grown_is =
      subst (λ (x : ℕ). IsGrown v.per data_type [] (unplaced x) r more z) (sym long)
      (subst (λ (x : ℕ). IsGrown x data_type [] (unplaced (size_after op a)) r more z) (sym per_8) (subst (λ (x : Growth). IsGrown 8 data_type [] (unplaced (size_after op a)) r x.runs z) growth_is k.is.grown))

  room_enough : wanted_for v.per (length value) ≤ total_clusters more
  room_enough = subst (λ (x : ℕ). wanted_for x (length value) ≤ total_clusters more) (sym per_8) (let all = total_is in let size = long in omega (arith, all, size))

  -- ---- the edit

  runs_are : z.extents.runs ≡ grown [] more
  runs_are = ap (λ (x : Extents). x.runs) grown_is.extents

  once_now : AreOnce z.extents.runs
  once_now x =
      let same = ap (λ (l : List Run). uses l x) runs_are in
      let sum = uses-grown [] more x in
      let nothing = uses-none x in
      let one = taken.once x in
      omega (arith, same, sum, nothing, one)

  puts_8 : PutsMoved c v.per st.bitmap v.table st.mirror n z value [] mid
  puts_8 = subst (λ (x : ℕ). PutsMoved c x st.bitmap v.table st.mirror n z value [] mid) (sym per_8) (subst (λ (t : Extents). PutsMoved c 8 st.bitmap t st.mirror n z value [] mid) k.streams.table puts.moved.put)

  moves : MovesWhole c v.per st.bitmap v.table st.mirror n z value [] mid
  moves = record {
    mid = puts_8.0;
    file = record {
      sized = k.sized;
      kept = none_kept;
      fits = puts.moved.fits;
      room = puts.moved.room;
      own = state_bitmap.own c g clusters v st.bitmap k.stands k.streams.bitmap.stream;
      put = puts_8.1.0;
    };
    own = own_by v.per z.extents.runs k.stands.some once_now;
    put = puts_8.1.1;
  }

  of_volume : MovesOfVolume c v st.bitmap st.mirror n z value [] mid
  of_volume = record { bits = k.streams.bitmap; mirror_is = k.streams.mirror; put = moves }

  edit : (bodies : List NewBody) × (EditsDraft c [] mid bodies × MovesValue first v n data_type [] value r more z s bodies)
  edit =
      moved_edit c g clusters v st.bitmap st.mirror n data_type [] was value r more z [] mid state own_is (λ same. omega (arith, same)) limits_named (plain c g clusters v n r a k.stands k.file) grown_is taken room_enough few_more of_volume

  abbrev bodies : List NewBody
  bodies = edit.0

  state_then : Stands (drafted mid c) g clusters w
  state_then = subst (λ (x : Content). Stands x g clusters w) edit.1.0.content (moved_leads first g clusters v n data_type [] value r more z s bodies sized_first k.eight state edit.1.1).stands

  goes : GoesOnIn v n data_type [] r s (Placed z.extents)
  goes = files_going.moved first g clusters v n data_type [] value r more z s bodies state edit.1.1

  abbrev gives : ℕ → Option BlockKind
  gives = gives_runs (stream_kind own) more gives_none

  may_give : MayGive c v (stream_kind own) more gives_none
  may_give = record { taken = clear_before; same = λ x other some given. absurd (never_given other given); before = λ other x given. absurd (never_given other given) }

  data_now : stream_at w own ≡ Some (Placed z.extents)
  data_now = ap (file_stream data_type []) goes.own.file ∙ goes.own.stream

  keeps : KeepsMarks v w
  keeps = keeps_with v v n s user_is (keeps_itself v)

  turn : (b : Block) → IsOwnedIn marks_streams v b ⊎ (block_at v.per v.table.runs FileRec n ≡ Some b) ⊎ (IsFreshIn v w own b × (index_allocation ≢ data_type)) → PutsTo v n z.extents.runs b
  turn b (inl mark) = mark_put v v n z.extents.runs b (keeps_itself v) mark
  turn b (inr (inl its)) = record_put v v n z.extents.runs b (keeps_itself v) its
  turn b (inr (inr fresh)) = own_put v w n fresh.0.number z.extents.runs b keeps (ap runs_in data_now) fresh.0.lies

  chain : Chain c g clusters v n z.extents.runs mid w gives (put_bodies bodies [])
  chain =
      chain_goes_on c g clusters v v w n z.extents.runs [] mid [] bodies gives_none gives k.sized k.eight k.stands (chain_begins c g clusters v n z.extents.runs k.sized k.stands) edit.1.0
      (moved_goes_on first g clusters v n data_type [] value r more z s bodies sized_first k.eight state edit.1.1 c v gives_none may_give)
      (each_turned (λ b. IsOwnedIn marks_streams v b ⊎ (block_at v.per v.table.runs FileRec n ≡ Some b) ⊎ (IsFreshIn v w own b × (index_allocation ≢ data_type))) (PutsTo v n z.extents.runs) bodies turn edit.1.1.puts.each)

  -- ---- the bytes in its clusters

  follow : HasSpelling 0 (lengthened v.per more (unplaced (length value))).runs
  follow = (let few = few_more in follow-grown [] more tt taken.spelled (omega (arith, few)))

  total : total_clusters z.extents.runs ≡ clusters_for (size_after op a)
  total = (let runs = ap total_clusters runs_are in let sum = total-grown [] more in let all = total_is in omega (arith, runs, sum, all))

  initialised_is : z.extents.initialised ≡ length value
  initialised_is = ap (λ (x : Extents). x.initialised) grown_is.extents

  real_is : z.extents.real ≡ length value
  real_is = ap (λ (x : Extents). x.real) grown_is.extents

  whole_now : list_any is_hole z.extents.runs ≡ false
  whole_now = ap (list_any is_hole) runs_are ∙ grown_whole [] more refl taken.whole

  in_total : (per i : ℕ) → per ≡ 8 → i < length value → 1 * (i / 512) / per < total_clusters z.extents.runs
  in_total per i eight low =
      let all = total in
      let size = long in
      subst (λ (x : ℕ). 1 * (i / 512) / x < total_clusters z.extents.runs) (sym eight) (omega (arith, all, size, low))

  byte_now : (i : ℕ) → i < length value → byte_at (drafted mid c) v.per z.extents i ≡ get_or value i 0
  byte_now i low =
      let there = some_of (block_at v.per z.extents.runs Plain (i / 512)) (lies_by v.per (i / 512) z.extents.runs (subst (λ (l : List Run). HasSpelling 0 l) (sym runs_are) follow) whole_now (in_total v.per i per_8 low)) in
      let within = initialised_is in
      moved_put.bytes c v.per st.bitmap v.table st.mirror n i z value [] mid there.0 moves low (omega (arith, within, low)) there.1

  bytes_now : bytes_or (drafted mid c) v.per (Some (Placed z.extents)) ≡ value
  unfolding extent_bytes
  bytes_now =
      let size = length-map-range_with_len (byte_at (drafted mid c) v.per z.extents) 0 z.extents.real in
      let all = real_is in
      ext_get_or 0 (map (byte_at (drafted mid c) v.per z.extents) (range_with_len 0 z.extents.real)) value (size ∙ all)
      (λ i lt. get_or-map-range_with_len (byte_at (drafted mid c) v.per z.extents) 0 z.extents.real i i 0 (omega (arith, lt, size)) (omega arith) ∙ byte_now i (omega (arith, lt, size, all)))

  -- ---- the tree

  tree_then : TreeFollows first (drafted mid c) v n r s
  tree_then = subst (λ (x : Content). TreeFollows first x v n r s) edit.1.0.content (moved_tree first g clusters v n data_type [] value r more z s bodies sized_first k.eight state edit.1.1)

  follows : Follows first v n a (drafted mid c) s (with_own (drafted mid c) v s a)
  follows = files_are.data_follows first (drafted mid c) v n r s a (first_file c g clusters v n r a k.sized k.stands k.file) tree_then

  data_after : IsDataAfter false op a (own_data s) (bytes_or (drafted mid c) v.per (own_data s))
  data_after =
      subst (λ (o : Option Stream). IsDataAfter false op a o (bytes_or (drafted mid c) v.per o)) (sym goes.own.stream)
      (changes_done.placed op z.extents (bytes_or (drafted mid c) v.per (Some (Placed z.extents))) a grows_is (real_is ∙ long) (initialised_is ∙ valid_now) (let all = total in let no = had in omega (arith, all, no)) (bytes_now ∙ value_is))

  needs : needed (tree_of c v) 0 op a ≡ clusters_for (size_after op a) - a.clusters
  needs = needs_of_change (tree_of c v) op a k.journal k.changes ∙ ap (λ (t : Bool). cond t 0 (bytes_part a (size_after op a))) longer

  room_then : (tree_of c v).room ≤ (tree_of (drafted mid c) w).room + needed (tree_of c v) 0 op a
  room_then =
      let fell = rooms_are.taken first (drafted mid c) v n s more goes.own.apart.bitmap (λ x low. sym (ap (λ (y : Content). bit (cluster_bits y v) x) edit.1.0.content) ∙ edit.1.1.marked x low) in
      let same = ap (λ (x : Content). (tree_of x v).room) none in
      let all = total_is in
      let no = had in
      let want = needs in
      omega (arith, fell, same, all, no, want)

  -- ---- the times

  written : IsWritten (placed_record v.per data_type [] (lengthened v.per more (unplaced (length value))) r) s
  written = subst (λ (x : Record). IsWritten x s) grown_is.file edit.1.1.written

  informed_then : has_type standard_information s ≡ true
  informed_then = types_stay first g clusters v n data_type [] r s (Held was) (lengthened v.per more (unplaced (length value))) state own_is follow written goes.own.file standard_information ∙ informed c g clusters v n r a k.stands k.file

  values : RewritesValues is_info s p
  values = times_set.rewritten stamp s informed_then

  own_then : IsOwnFile w n s
  own_then = record { file = goes.own.file; apart = goes.own.apart; no_list = goes.own.no_list }

  times_put : PutsRecordOf c w st.mirror n p mid new
  times_put = record {
    sized = k.sized;
    kept = moved_put.whole c v.per st.bitmap v.table st.mirror n z value [] mid moves;
    mirror_is = ap extents_or (keeps.marks mirror_key refl) ∙ k.streams.mirror;
    fits = puts.times.fits;
    room = puts.times.room;
    put = puts.times.put ∙ ap (λ (y : ℕ). touch_record c y st.table st.mirror n (record_spelling (written_record p)) mid) (sym per_8) ∙ ap (λ (t : Extents). touch_record c v.per t st.mirror n (record_spelling (written_record p)) mid) k.streams.table;
  }

  abbrev after : Volume
  after = with_record w n (written_record p)

  informed_tree : InfoDiffers n (info_of p) (tree_of (drafted mid c) w) (tree_of (drafted new c) after)
  informed_tree = timed_tree c g clusters v w st.mirror n s p z.extents.runs mid new gives (put_bodies bodies []) k.sized k.eight k.stands state_then keeps chain own_then values times_put

  becomes : NodeBecomes n a (with_info (info_of p) (with_data (own_data s) (bytes_or (drafted mid c) v.per (own_data s)) a)) (tree_of c v) (tree_of (drafted new c) after)
  becomes =
      subst (λ (x : Content). NodeBecomes n a (with_info (info_of p) (with_own (drafted mid c) v s a)) (tree_of x v) (tree_of (drafted new c) after)) none
      (nodes_are.behind n a (with_own (drafted mid c) v s a) (with_info (info_of p) (with_own (drafted mid c) v s a)) (tree_of first v) (tree_of (drafted mid c) w) (tree_of (drafted new c) after) follows.tree
      (nodes_are.informed n (info_of p) (with_own (drafted mid c) v s a) (tree_of (drafted mid c) w) (tree_of (drafted new c) after) follows.tree.is informed_tree))

  changed : HasChanged (tree_of c v) (needed (tree_of c v) 0 op a) op a stamp (tree_of (drafted new c) after)
  changed =
      let fell = room_then in
      let same = informed_tree.room in
      changes_done.done false op n stamp (needed (tree_of c v) 0 op a) (info_of p) (own_data s) (bytes_or (drafted mid c) v.per (own_data s)) a (tree_of c v) (tree_of (drafted new c) after) shows.number becomes data_after
      (stamped times_set stamp a r s k.soon (written_spelled z.file puts.moved.fits puts.moved.room) goes.info shows.flags shows.created shows.read_at) tt (omega (arith, fell, same))

  -- ---- the end

  others_are : (t : StreamKey) → (t ≡ own) ⊎ (runs_in (stream_at after t) ≡ runs_in (stream_at w t))
  others_are t = inr (timed_runs c g clusters v w st.mirror n s p z.extents.runs mid new gives (put_bodies bodies []) k.sized k.eight k.stands state_then keeps chain own_then values times_put t)

  ends : EndsSizes c g clusters v w op n stamp (needed (tree_of c v) 0 op a) a z.extents new gives
  ends =
      let timed = timed_chain c g clusters v w st.mirror n s p z.extents.runs mid new gives (put_bodies bodies []) k.sized k.eight k.stands state_then keeps chain own_then values times_put in
      record {
        after = after;
        per = refl;
        table = refl;
        f = z.extents;
        runs = refl;
        data_is = timed_data c g clusters v w st.mirror n s p z.extents.runs mid new gives (put_bodies bodies []) k.sized k.eight k.stands state_then keeps chain own_then values times_put (Some (Placed z.extents)) goes.own.stream;
        others = others_are;
        bodies = timed.0;
        chain = timed.1;
        tree = changed;
      }

  data_was : stream_at v own ≡ Some (Held was)
  data_was = ap (file_stream data_type []) k.file.file ∙ puts.held

  others_all : (t : StreamKey) → (t ≡ own) ⊎ (runs_in (stream_at after t) ≡ runs_in (stream_at v t))
  others_all t = elim (others_are t) [
    | inl same ↦ inl same
    | inr late ↦ elim (which_stays first g clusters v n data_type [] r s (Held was) (lengthened v.per more (unplaced (length value))) state own_is follow written goes.own.file t) [
      | inl same ↦ inl same
      | inr stays ↦ inr (late ∙ ap runs_in stays)
    ]
  ]

  runs_then : z.extents.runs ≡ runs_after growth
  runs_then = subst (λ (x : Growth). z.extents.runs ≡ runs_after x) growth_is k.is.takes.runs

  grows : GrowsData c v after n growth z.extents
  unfolding ends
  grows = record {
    user = user_is;
    per = refl;
    table = refl;
    stream = ap (λ (x : ℕ). key_of x data_type []) shows.number;
    placed = refl;
    stands = refl;
    old = sym (ap runs_in data_was);
    now = ends.data_is;
    after = runs_then;
    balance = λ x. ap (λ (l : List Run). uses l x) runs_are ∙ uses-grown [] more x;
    clear = clear_before;
    others = others_all;
  }

  is_done : HasWritten c g clusters v op n stamp a (growth_of (cluster_bits c v) r op a) new
  unfolding ends
  is_done = subst (λ (x : Growth). HasWritten c g clusters v op n stamp a x new) (sym growth_is) (has_written c g clusters v w op n stamp a z.extents new gives growth k.sized ends grows)

pub leaving_done : TimesAreSet → LeavingIsDone
leaving_done times_set c g clusters v st op n stamp a r z new enough k = is_done times_set c g clusters v st op n stamp a r z new enough k
