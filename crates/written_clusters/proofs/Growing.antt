-- Data that takes clusters behind its own, and is longer in them.
use Rattle.std.proofs.Common.{◌≡◌, ◌⊎◌, ℕ, ◌+◌, ◌-◌, ◌*◌, ◌<◌, ◌≤◌, max, Bool, true, false, cond, List, [], length, Option, Some, refl, sym, ap, subst, ◌∙◌, inl, inr, arith}
use Rattle.std.specs.Prelude.{not, count_by}
use Rattle.std.specs.List.{list_all, list_any}
use Rattle.std.proofs.lemmas.Bool.{cases_Bool, cases_lt, both_ways, and_parts}
use Rattle.std.proofs.lemmas.List.Sums.{count_by-le-length}
use Rattle.disk_model.specs.declared.block.Block.{Block}
use Rattle.disk_model.specs.declared.block.BlockKind.{BlockKind}
use Rattle.disk_model.specs.declared.block.BlockKind.TheVariants.{FileRec}
use Rattle.disk_model.specs.Content.{Content, HasSizes as HasBlockSizes}
use Rattle.record_model.specs.declared.runs.Run.{Run}
use Rattle.record_model.specs.declared.values.StdInfo.{StdInfo}
use Rattle.record_model.specs.Constants.{data_type, standard_information}
use Rattle.record_model.specs.Pairs.{cluster_limit, HasSpelling}
use Rattle.record_model.specs.Records.{Record}
use Rattle.bit_set.specs.Bits.{bit}
use Rattle.file_tree.specs.declared.node.Node.{Node}
use Rattle.file_tree.specs.Walks.{first_user_record}
use Rattle.state_model.specs.declared.geometry.Geometry.{Geometry}
use Rattle.state_model.specs.declared.stream.Extents.{Extents}
use Rattle.state_model.specs.declared.stream.Stream.{Stream}
use Rattle.state_model.specs.declared.stream.Stream.TheVariants.{Placed}
use Rattle.state_model.specs.Files.{has_type}
use Rattle.state_model.specs.Loads.{total_clusters, extents_or}
use Rattle.state_model.specs.Streams.{block_at}
use Rattle.state_streams.proofs.Counting.{few_clusters}
use Rattle.written_values.specs.volume_model.Volumes.{Volume, file_stream, cluster_bits, size_or, bytes_or}
use Rattle.written_values.specs.volume_model.Nodes.{valid_or, clusters_or}
use Rattle.written_values.specs.volume_model.Owners.{uses}
use Rattle.written_values.specs.volume_model.Sizes.{has_hole, is_hole, has_sizes, lies_inside}
use Rattle.written_values.specs.volume_state.Trees.{tree_of}
use Rattle.tree_model.specs.declared.script.Op.{Op}
use Rattle.tree_model.specs.Needs.{shrinks, needed, size_after, clusters_for, bytes_part}
use Rattle.tree_model.proofs.FileNeeds.{needs_of_change}
use Rattle.written_values.specs.stream_laws.Owners.{stream_kind}
use Rattle.written_values.specs.stream_laws.Places.{AreOnce}
use Rattle.written_values.specs.stream_laws.Sharing.{StreamKey, stream_at, runs_in}
use Rattle.written_values.proofs.stream_laws.Sharing.{stream_once}
use Rattle.written_values.specs.stream_runs.Runs.{last_cluster, grown}
use Rattle.written_values.proofs.stream_runs.Merging.{follow-grown}
use Rattle.written_values.specs.plan_owners.States.{Stands}
use Rattle.written_values.proofs.plan_owners.ByKind.{marked}
use Rattle.written_values.proofs.plan_owners.Outside.{once}
use Rattle.plan_bodies.specs.Bodies.{NewBody, put_bodies}
use Rattle.plan_bodies.proofs.Putting.{sized_with}
use Rattle.plan_draft.specs.declared.touched.Touched.{Touched}
use Rattle.plan_draft.specs.Drafts.{drafted}
use Rattle.written_values.specs.plan_model.Drafts.{gives_none, gives_runs}
use Rattle.written_values.specs.plan_model.Edits.{IsOwnedIn}
use Rattle.written_values.specs.plan_model.Informed.{with_record}
use Rattle.written_values.proofs.plan_model.Drafting.{per_is}
use Rattle.written_values.specs.draft_records.Records.{written_record}
use Rattle.written_values.specs.draft_resized.Resized.{PutsResized}
use Rattle.written_values.proofs.draft_resized.FileEffects.{resized_put}
use Rattle.written_values.specs.record_streams.Placing.{placed_record}
use Rattle.written_values.specs.record_times.Laws.{TimesAreSet}
use Rattle.written_values.specs.resized_streams.declared.resized.Resized.{Resized}
use Rattle.written_values.specs.resized_streams.Resizing.{lengthened, IsGrown}
use Rattle.state_streams.specs.plan_growth.Streams.{IsOwnStream, IsWritten, MayTake, key_of, marks_streams}
use Rattle.state_streams.specs.plan_growth.Growing.{GrowsStream, MayGive}
use Rattle.state_streams.specs.plan_growth.Trees.{TreeFollows}
use Rattle.state_streams.proofs.plan_growth.Choosing.{may_be_taken}
use Rattle.state_streams.proofs.plan_growth.Growing.{total-grown, uses-grown, grown_leads, grown_goes_on, grown_tree, grown_bytes}
use Rattle.state_streams.proofs.plan_growth.Resizing.{clusters_are as as_many, not_marked}
use Rattle.state_streams.proofs.plan_growth.Ruled.{stream_fits, sizes_lawful}
use Rattle.state_streams.proofs.plan_growth.Runs.{grown_inside, grown_whole}
use Rattle.written_values.specs.plan_edits.Edits.{mirror_key, PutsOfVolume, IsEdit}
use Rattle.written_values.proofs.plan_edits.Bitmap.{state_bitmap}
use Rattle.written_values.proofs.plan_edits.Editing.{resized_edit}
use Rattle.written_values.proofs.plan_edits.Putting.{each_turned}
use Rattle.written_values.specs.plan_changes.Files.{own_data, Shows, with_own, Follows}
use Rattle.written_values.specs.plan_changes.Going.{GoesOnIn}
use Rattle.written_values.specs.plan_changes.Nodes.{NodeBecomes}
use Rattle.written_values.proofs.plan_changes.Falling.{rooms_are}
use Rattle.written_values.proofs.plan_changes.Going.{files_going}
use Rattle.written_values.proofs.plan_changes.Showing.{files_are}
use Rattle.written_values.specs.step_model.Placing.{Growth, more_of}
use Rattle.written_values.specs.step_model.Streams.{Comes, wanted_data, placed_among}
use Rattle.written_values.specs.data_plan.declared.change.DataChange.TheVariants as change
use Rattle.written_values.specs.data_plan.Changes.{StandsBelow, growth_of}
use Rattle.written_values.proofs.data_plan.Cases.{placed_comes, runs_grown}
use Rattle.written_values.specs.file_puts.declared.streams.VolumeStreams.{VolumeStreams}
use Rattle.written_values.specs.file_puts.Puts.{PutsGrowing}
use Rattle.written_values.specs.file_puts.Written.{WritesFile, HasWritten}
use Rattle.written_clusters.specs.Done.{HasClusters, GrowthIsDone}
use Rattle.written_clusters.proofs.Known.{shown, user, apart, no_mirror, whole, informed, own_stream, plain}
use Rattle.written_clusters.proofs.Staying.{types_stay, which_stays}
use Rattle.written_clusters.proofs.Chaining.{none_drafted, PutsTo, KeepsMarks, keeps_itself, keeps_with, mark_put, record_put, Chain, chain_begins, chain_goes_on}
use Rattle.written_clusters.proofs.Left.{GrowsData}
use Rattle.written_clusters.proofs.Taking.{total_chosen, grows_file, clusters_are, never_given, length-cluster_bits, cut_takes}
use Rattle.written_clusters.proofs.Sizes.{BeginsSizes, EndsSizes, sizes_end}
use Rattle.written_clusters.proofs.Beginning.{none_kept, first_state, first_file, has_written}

module _ (times_set : TimesAreSet) (c : Content) (g : Geometry) (clusters : ℕ) (v : Volume) (st : VolumeStreams) (op : Op) (n stamp : ℕ) (a : Node) (r : Record) (z : Resized) (new : List Touched) (enough : HasClusters c v op a r) (k : WritesFile c g clusters v st op n stamp a r (change.Grows z) new) where
  abbrev first : Content
  first = drafted [] c

  abbrev puts : PutsGrowing c st n op a stamp z [] new
  puts = k.put

  abbrev e : Extents
  e = k.is.e

  abbrev mid : List Touched
  mid = puts.mid

  abbrev s : Record
  s = written_record z.file

  abbrev w : Volume
  w = with_record v n s

  abbrev own : StreamKey
  own = key_of n data_type []

  none : first ≡ c
  none = none_drafted c k.sized

  shows : Shows c v n r a
  shows = shown c g clusters v n r a k.stands k.file

  state : Stands first g clusters v
  state = first_state c g clusters v n r a k.sized k.stands k.file

  user_is : first_user_record ≤ n
  user_is = user c g clusters v n r a k.stands k.file

  sized_first : HasBlockSizes first
  sized_first = sized_with c [] k.sized

  per_8 : v.per ≡ 8
  per_8 = per_is c g clusters v k.eight k.stands

  own_is : IsOwnStream v n data_type [] r (Placed e)
  own_is = own_stream c g clusters v n r a k.stands k.file (Placed e) k.is.placed

  -- ---- its growth

  abbrev bits : List Bool
  bits = cluster_bits c v

  abbrev growth : Growth
  growth = placed_among bits e.runs (wanted_data op a)

  abbrev more : List Run
  more = growth.runs

  growth_is : growth_of bits r op a ≡ growth
  growth_is = ap (λ (x : Comes). x.growth) (placed_comes bits r op a e k.is.placed)

  room_is : more_of growth ≤ count_by not bits
  room_is = subst (λ (x : Growth). more_of x ≤ count_by not bits) growth_is enough

  total_more : total_clusters more ≡ more_of growth
  total_more = total_chosen bits (last_cluster e.runs) (more_of growth) room_is

  less : total_clusters e.runs < growth.clusters
  less = subst (λ (x : Growth). total_clusters e.runs < x.clusters) growth_is k.is.more

  had : a.clusters ≡ total_clusters e.runs
  had = shows.clusters ∙ ap clusters_or k.is.placed

  within : a.size ≤ total_clusters e.runs * 4096
  within =
      let high = (sizes_lawful v.per v.clusters e (stream_fits first g clusters v n data_type [] r (Placed e) state own_is)).1 in
      let size_is = shows.size ∙ ap size_or k.is.placed in
      subst (λ (x : ℕ). e.real ≤ total_clusters e.runs * (512 * x) → a.size ≤ total_clusters e.runs * 4096) (sym per_8) (λ least. omega (arith, least, size_is)) high

  -- data that is cut takes no clusters
  longer : shrinks op a ≡ false
  longer = elim (cases_Bool (shrinks op a)) [
    | inl cut ↦ (let more_than = less in let few = cut_takes op a (total_clusters e.runs) cut within in absurd (omega (arith, more_than, few)))
    | inr is ↦ is
  ]

  grown_is : IsGrown v.per data_type [] e r more z
  grown_is = subst (λ (x : ℕ). IsGrown x data_type [] e r more z) (sym per_8) (subst (λ (x : Growth). IsGrown 8 data_type [] e r x.runs z) growth_is k.is.grown)

  few_bits : length bits ≤ cluster_limit
  few_bits = (let long = length-cluster_bits c v in let same = as_many c g clusters v k.stands in let few = k.few in omega (arith, long, same, few))

  few_more : total_clusters more ≤ cluster_limit
  few_more = (let all = total_more in let room = room_is in let most = count_by-le-length not bits in let few = few_bits in omega (arith, all, room, most, few))

  taken : MayTake v.clusters (cluster_bits first v) more
  taken =
      subst (λ (x : ℕ). MayTake x (cluster_bits first v) more) (length-cluster_bits c v)
      (may_be_taken bits (cluster_bits first v) (last_cluster e.runs) (more_of growth) (λ x clear. ap (λ (y : Content). bit (cluster_bits y v) x) none ∙ clear) few_bits few_more)

  clear_before : (x : ℕ) → 0 < uses more x → bit (cluster_bits c v) x ≡ false
  clear_before x some = sym (ap (λ (y : Content). bit (cluster_bits y v) x) none) ∙ taken.clear x some

  spelled : HasSpelling 0 e.runs
  spelled = (subst (StandsBelow clusters) k.is.placed k.has.stands).spelled

  data_was : stream_at v own ≡ Some (Placed e)
  data_was = ap (file_stream data_type []) k.file.file ∙ k.is.placed

  old_once : AreOnce e.runs
  old_once = subst (λ (o : Option Stream). AreOnce (runs_in o)) data_was (stream_once v own (once c g clusters v k.stands))

  old_whole : list_any is_hole e.runs ≡ false
  old_whole = sym (ap has_hole k.is.placed) ∙ whole c g clusters v n r a k.stands k.file

  old_inside : list_all (lies_inside v.clusters) e.runs ≡ true
  old_inside = (and_parts (list_all (lies_inside v.clusters) e.runs) (has_sizes v.per e) (stream_fits first g clusters v n data_type [] r (Placed e) state own_is)).0

  all_once : AreOnce (grown e.runs more)
  all_once x =
      let sum = uses-grown e.runs more x in
      let old = old_once x in
      let new_once = taken.once x in
      elim (cases_lt 0 (uses more x)) [
        | inl some ↦ elim (cases_lt 0 (uses e.runs x)) [
          | inl used ↦
              absurd
              (both_ways (bit (cluster_bits c v) x) (clear_before x some)
              (marked c g clusters v (stream_kind own) x k.stands (record { stream = own; is_kind = refl; has = subst (λ (o : Option Stream). 0 < uses (runs_in o) x) (sym data_was) used })))
          | inr nothing ↦ omega (arith, sum, new_once, nothing)
        ]
        | inr nothing ↦ omega (arith, sum, old, nothing)
      ]

  few_all : total_clusters e.runs + total_clusters more ≤ cluster_limit
  few_all =
      let all = few_clusters v.clusters (grown e.runs more) (grown_whole e.runs more old_whole taken.whole) (grown_inside v.clusters e.runs more old_inside taken.inside) all_once in
      let sum = total-grown e.runs more in
      let same = as_many c g clusters v k.stands in
      let few = k.few in
      omega (arith, all, sum, same, few)

  -- ---- the edit

  of_volume : PutsOfVolume c v st.bitmap st.mirror n z [] mid
  of_volume = record {
    bits = k.streams.bitmap;
    mirror_is = k.streams.mirror;
    put = record {
      sized = k.sized;
      kept = none_kept;
      fits = puts.grown.fits;
      room = puts.grown.room;
      own = state_bitmap.own c g clusters v st.bitmap k.stands k.streams.bitmap.stream;
      put = subst (λ (x : ℕ). PutsResized c x st.bitmap v.table st.mirror n z [] mid) (sym per_8) (subst (λ (t : Extents). PutsResized c 8 st.bitmap t st.mirror n z [] mid) k.streams.table puts.grown.put);
    };
  }

  edit : (is : IsEdit c v n z [] mid) × GrowsStream first v n data_type [] e r more z s is.bodies
  edit = resized_edit.grown c g clusters v st.bitmap st.mirror n data_type [] e r more z [] mid state own_is spelled grown_is taken few_all of_volume

  abbrev bodies : List NewBody
  bodies = edit.0.bodies

  state_then : Stands (drafted mid c) g clusters w
  state_then = subst (λ (x : Content). Stands x g clusters w) edit.0.content (grown_leads first g clusters v n data_type [] e r more z s bodies sized_first k.eight state edit.1).stands

  goes : GoesOnIn v n data_type [] r s (Placed z.extents)
  goes = files_going.grown first g clusters v n data_type [] e r more z s bodies state edit.1

  abbrev gives : ℕ → Option BlockKind
  gives = gives_runs (stream_kind own) more gives_none

  may_give : MayGive c v (stream_kind own) more gives_none
  may_give = record { taken = clear_before; same = λ x other some given. absurd (never_given other given); before = λ other x given. absurd (never_given other given) }

  turn : (b : Block) → IsOwnedIn marks_streams v b ⊎ (block_at v.per v.table.runs FileRec n ≡ Some b) → PutsTo v n z.extents.runs b
  turn b (inl mark) = mark_put v v n z.extents.runs b (keeps_itself v) mark
  turn b (inr its) = record_put v v n z.extents.runs b (keeps_itself v) its

  chain : Chain c g clusters v n z.extents.runs mid w gives (put_bodies bodies [])
  chain =
      chain_goes_on c g clusters v v w n z.extents.runs [] mid [] bodies gives_none gives k.sized k.eight k.stands (chain_begins c g clusters v n z.extents.runs k.sized k.stands) (record { same = edit.0.same; content = edit.0.content })
      (grown_goes_on first g clusters v n data_type [] e r more z s bodies sized_first k.eight state edit.1 c v gives_none may_give)
      (each_turned (λ b. IsOwnedIn marks_streams v b ⊎ (block_at v.per v.table.runs FileRec n ≡ Some b)) (PutsTo v n z.extents.runs) bodies turn edit.1.puts.each)

  -- ---- the file behind it

  runs_are : z.extents.runs ≡ grown e.runs more
  runs_are = ap (λ (x : Extents). x.runs) grown_is.extents

  follow : HasSpelling 0 (lengthened v.per more e).runs
  follow = follow-grown e.runs more spelled taken.spelled few_all

  written : IsWritten (placed_record v.per data_type [] (lengthened v.per more e) r) s
  written = subst (λ (x : Record). IsWritten x s) grown_is.file edit.1.written

  whole_was : has_hole (Some (Placed e)) ≡ false
  whole_was = old_whole

  tree_then : TreeFollows first (drafted mid c) v n r s
  tree_then = subst (λ (x : Content). TreeFollows first x v n r s) edit.0.content (grown_tree first g clusters v n data_type [] e r more z s bodies sized_first k.eight state edit.1 whole_was)

  follows : Follows first v n a (drafted mid c) s (with_own (drafted mid c) v s a)
  follows = files_are.data_follows first (drafted mid c) v n r s a (first_file c g clusters v n r a k.sized k.stands k.file) tree_then

  bytes_are : bytes_or (drafted mid c) v.per (own_data s) ≡ a.bytes
  bytes_are =
      sym (ap (λ (o : Option Record). bytes_or (drafted mid c) v.per (file_stream data_type [] o)) goes.own.file)
      ∙ sym (ap (λ (x : Content). bytes_or x v.per (stream_at w own)) edit.0.content)
      ∙ grown_bytes first g clusters v n data_type [] e r more z s bodies sized_first k.eight state edit.1 (not_marked n [] (apart c g clusters v n r a k.stands k.file).bitmap (no_mirror c g clusters v n r a k.stands k.file))
      ∙ ap (λ (o : Option Record). bytes_or first v.per (file_stream data_type [] o)) k.file.file
      ∙ ap (λ (x : Content). bytes_or x v.per (own_data r)) none
      ∙ sym shows.bytes

  total : total_clusters z.extents.runs ≡ max a.clusters (clusters_for (size_after op a))
  total =
      let runs = ap total_clusters runs_are in
      let sum = total-grown e.runs more in
      let all = total_more in
      let is = clusters_are op a longer in
      let was = had in
      let fewer = less in
      omega (arith, runs, sum, all, is, was, fewer)

  needs : needed (tree_of c v) 0 op a ≡ clusters_for (size_after op a) - a.clusters
  needs = needs_of_change (tree_of c v) op a k.journal k.changes ∙ ap (λ (t : Bool). cond t 0 (bytes_part a (size_after op a))) longer

  room_then : (tree_of c v).room ≤ (tree_of (drafted mid c) w).room + needed (tree_of c v) 0 op a
  room_then =
      let fell = rooms_are.taken first (drafted mid c) v n s more goes.own.apart.bitmap (λ x low. sym (ap (λ (y : Content). bit (cluster_bits y v) x) edit.0.content) ∙ edit.1.marked x low) in
      let same = ap (λ (x : Content). (tree_of x v).room) none in
      let all = total_more in
      let is = clusters_are op a longer in
      let was = had in
      let wants = needs in
      let fewer = less in
      omega (arith, fell, same, all, is, was, wants, fewer)

  informed_then : has_type standard_information s ≡ true
  informed_then = types_stay first g clusters v n data_type [] r s (Placed e) (lengthened v.per more e) state own_is follow written goes.own.file standard_information ∙ informed c g clusters v n r a k.stands k.file

  keeps : KeepsMarks v w
  keeps = keeps_with v v n s user_is (keeps_itself v)

  begins : BeginsSizes c g clusters v st op n stamp (needed (tree_of c v) 0 op a) a w z.extents s mid gives (put_bodies bodies [])
  begins = record {
    sized = k.sized;
    eight = k.eight;
    per = per_8;
    start = k.stands;
    state = state_then;
    keeps = keeps;
    table = k.streams.table;
    mirror = ap extents_or (keeps.marks mirror_key refl) ∙ k.streams.mirror;
    user = user_is;
    kept = resized_put.whole c v.per st.bitmap v.table st.mirror n z [] mid of_volume.put;
    grows = grows_file op a k.changes longer;
    file = follows.file;
    before = subst (λ (x : Content). NodeBecomes n a (with_own (drafted mid c) v s a) (tree_of x v) (tree_of (drafted mid c) w)) none follows.tree;
    own = goes.own;
    plain = plain c g clusters v n r a k.stands k.file;
    spelled = subst (λ (l : List Run). HasSpelling 0 l) (sym runs_are) follow;
    real = ap (λ (x : Extents). x.real) grown_is.extents ∙ sym (shows.size ∙ ap size_or k.is.placed);
    valid = ap (λ (x : Extents). x.initialised) grown_is.extents ∙ sym (shows.valid ∙ ap valid_or k.is.placed);
    bytes = bytes_are;
    whole = ap (list_any is_hole) runs_are ∙ grown_whole e.runs more old_whole taken.whole;
    total = total;
    soon = k.soon;
    informed = informed_then;
    flags = shows.flags ∙ sym (ap (λ (i : StdInfo). i.flags) goes.info);
    created = shows.created ∙ sym (ap (λ (i : StdInfo). i.created) goes.info);
    read_at = shows.read_at ∙ sym (ap (λ (i : StdInfo). i.read_at) goes.info);
    room = room_then;
    chain = chain;
  }

  ends : EndsSizes c g clusters v w op n stamp (needed (tree_of c v) 0 op a) a z.extents new gives
  ends = sizes_end times_set c g clusters v st op n stamp (needed (tree_of c v) 0 op a) a w z.extents s mid new gives (put_bodies bodies []) begins puts.sizes

  -- ---- the end

  others_are : (t : StreamKey) → (t ≡ own) ⊎ (runs_in (stream_at ends.after t) ≡ runs_in (stream_at v t))
  others_are t = elim (ends.others t) [
    | inl same ↦ inl same
    | inr late ↦ elim (which_stays first g clusters v n data_type [] r s (Placed e) (lengthened v.per more e) state own_is follow written goes.own.file t) [
      | inl same ↦ inl same
      | inr stays ↦ inr (late ∙ ap runs_in stays)
    ]
  ]

  grows : GrowsData c v ends.after n growth ends.f
  grows = record {
    user = user_is;
    per = ends.per;
    table = ends.table;
    stream = ap (λ (x : ℕ). key_of x data_type []) shows.number;
    placed = refl;
    stands = refl;
    old = sym (ap runs_in data_was);
    now = ends.data_is;
    after = ends.runs ∙ runs_are ∙ sym (runs_grown growth less);
    balance = λ x. ap (λ (l : List Run). uses l x) (ends.runs ∙ runs_are) ∙ uses-grown e.runs more x;
    clear = clear_before;
    others = others_are;
  }

  is_done : HasWritten c g clusters v op n stamp a (growth_of (cluster_bits c v) r op a) new
  is_done = subst (λ (x : Growth). HasWritten c g clusters v op n stamp a x new) (sym growth_is) (has_written c g clusters v w op n stamp a z.extents new gives growth k.sized ends grows)

pub growth_done : TimesAreSet → GrowthIsDone
growth_done times_set c g clusters v st op n stamp a r z new enough k = is_done times_set c g clusters v st op n stamp a r z new enough k
