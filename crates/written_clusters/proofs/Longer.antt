-- Data that is longer in the clusters that it had.
use Rattle.std.proofs.Common.{◌≡◌, ℕ, ◌≤◌, max, Bool, false, List, [], Some, refl, sym, ap, subst, ◌∙◌, arith}
use Rattle.std.specs.Prelude.{not, count_by}
use Rattle.disk_model.specs.Content.{Content}
use Rattle.record_model.specs.declared.runs.Run.{Run}
use Rattle.record_model.specs.Constants.{data_type}
use Rattle.record_model.specs.Pairs.{HasSpelling}
use Rattle.record_model.specs.Records.{Record}
use Rattle.file_tree.specs.declared.node.Node.{Node}
use Rattle.state_model.specs.declared.geometry.Geometry.{Geometry}
use Rattle.state_model.specs.declared.stream.Extents.{Extents}
use Rattle.state_model.specs.declared.stream.Stream.TheVariants.{Placed}
use Rattle.state_model.specs.Loads.{total_clusters}
use Rattle.written_values.specs.volume_model.Volumes.{Volume, file_stream, cluster_bits, size_or, bytes_or}
use Rattle.written_values.specs.volume_model.Nodes.{valid_or, clusters_or}
use Rattle.written_values.specs.volume_model.Owners.{uses}
use Rattle.written_values.specs.volume_model.Sizes.{has_hole}
use Rattle.written_values.specs.volume_state.Trees.{tree_of}
use Rattle.tree_model.specs.declared.script.Op.{Op}
use Rattle.tree_model.specs.Needs.{shrinks, needed, size_after, clusters_for}
use Rattle.written_values.specs.stream_laws.Sharing.{stream_at, runs_in}
use Rattle.written_values.proofs.stream_laws.Sharing.{uses-none}
use Rattle.written_values.specs.stream_runs.Runs.{last_cluster}
use Rattle.plan_draft.specs.declared.touched.Touched.{Touched}
use Rattle.plan_draft.specs.Drafts.{drafted}
use Rattle.written_values.specs.plan_model.Drafts.{gives_none}
use Rattle.written_values.proofs.plan_model.Drafting.{per_is}
use Rattle.written_values.specs.record_times.Laws.{TimesAreSet}
use Rattle.written_values.specs.resized_streams.declared.resized.Resized.{Resized}
use Rattle.state_streams.specs.plan_growth.Streams.{key_of}
use Rattle.written_values.specs.plan_changes.Files.{own_data, Shows}
use Rattle.written_values.specs.step_model.Placing.{Growth, more_of}
use Rattle.written_values.specs.step_model.Streams.{Comes, wanted_data, placed_among}
use Rattle.written_values.specs.data_plan.declared.change.DataChange.TheVariants as change
use Rattle.written_values.specs.data_plan.Changes.{StandsBelow, growth_of}
use Rattle.written_values.proofs.data_plan.Cases.{placed_comes, runs_same}
use Rattle.written_values.specs.file_puts.declared.streams.VolumeStreams.{VolumeStreams}
use Rattle.written_values.specs.file_puts.Puts.{PutsLonger, PutsSized}
use Rattle.written_values.specs.file_puts.Written.{WritesFile, HasWritten}
use Rattle.written_clusters.specs.Done.{HasClusters, LongerIsDone}
use Rattle.written_clusters.proofs.Known.{shown, user, whole, informed, own_stream, plain}
use Rattle.written_clusters.proofs.Chaining.{none_drafted, keeps_itself, chain_begins}
use Rattle.written_clusters.proofs.Left.{GrowsData}
use Rattle.written_clusters.proofs.Taking.{total_chosen, grows_file, clusters_are}
use Rattle.written_clusters.proofs.Sizes.{BeginsSizes, EndsSizes, sizes_end}
use Rattle.written_clusters.proofs.Beginning.{none_kept, first_state, first_own, first_becomes, has_written}

module _ (times_set : TimesAreSet) (c : Content) (g : Geometry) (clusters : ℕ) (v : Volume) (st : VolumeStreams) (op : Op) (n stamp : ℕ) (a : Node) (r : Record) (z : Resized) (new : List Touched) (longer : shrinks op a ≡ false) (enough : HasClusters c v op a r) (k : WritesFile c g clusters v st op n stamp a r (change.Sized z) new) where
  abbrev first : Content
  first = drafted [] c

  puts : PutsLonger c st n op a stamp r [] new
  puts = subst (λ (t : Bool). PutsSized t c st n op a stamp r z [] new) longer k.put

  abbrev e : Extents
  e = puts.e

  none : first ≡ c
  none = none_drafted c k.sized

  shows : Shows c v n r a
  shows = shown c g clusters v n r a k.stands k.file

  -- ---- its growth

  abbrev bits : List Bool
  bits = cluster_bits c v

  abbrev growth : Growth
  growth = placed_among bits e.runs (wanted_data op a)

  growth_is : growth_of bits r op a ≡ growth
  growth_is = ap (λ (x : Comes). x.growth) (placed_comes bits r op a e puts.placed)

  took_none : growth.runs ≡ []
  took_none = sym (ap (λ (x : Growth). x.runs) growth_is) ∙ sym k.is.takes.taken ∙ k.is.sized.taken

  none_wanted : more_of growth ≡ 0
  none_wanted =
      let all = total_chosen bits (last_cluster e.runs) (more_of growth) (subst (λ (x : Growth). more_of x ≤ count_by not bits) growth_is enough) in
      let empty : total_clusters growth.runs ≡ 0 = ap total_clusters took_none in
      omega (arith, all, empty)

  had : a.clusters ≡ total_clusters e.runs
  had = shows.clusters ∙ ap clusters_or puts.placed

  total : total_clusters e.runs ≡ max a.clusters (clusters_for (size_after op a))
  total = (let is = clusters_are op a longer in let no_more = none_wanted in let was = had in omega (arith, is, no_more, was))

  same_clusters : growth.clusters ≡ total_clusters growth.old
  same_clusters = (let is = clusters_are op a longer in let all = total in omega (arith, is, all))

  spelled : HasSpelling 0 e.runs
  spelled = (subst (StandsBelow clusters) puts.placed k.has.stands).spelled

  -- ---- the sizes

  begins : BeginsSizes c g clusters v st op n stamp (needed (tree_of c v) 0 op a) a v e r [] gives_none []
  begins = record {
    sized = k.sized;
    eight = k.eight;
    per = per_is c g clusters v k.eight k.stands;
    start = k.stands;
    state = first_state c g clusters v n r a k.sized k.stands k.file;
    keeps = keeps_itself v;
    table = k.streams.table;
    mirror = k.streams.mirror;
    user = user c g clusters v n r a k.stands k.file;
    kept = none_kept;
    grows = grows_file op a k.changes longer;
    file = first_own c g clusters v n r a k.sized k.stands k.file;
    before = first_becomes c g clusters v n r a k.sized k.stands k.file;
    own = own_stream c g clusters v n r a k.stands k.file (Placed e) puts.placed;
    plain = plain c g clusters v n r a k.stands k.file;
    spelled = spelled;
    real = sym (shows.size ∙ ap size_or puts.placed);
    valid = sym (shows.valid ∙ ap valid_or puts.placed);
    bytes = ap (λ (x : Content). bytes_or x v.per (own_data r)) none ∙ sym shows.bytes;
    whole = sym (ap has_hole puts.placed) ∙ whole c g clusters v n r a k.stands k.file;
    total = total;
    soon = k.soon;
    informed = informed c g clusters v n r a k.stands k.file;
    flags = shows.flags;
    created = shows.created;
    read_at = shows.read_at;
    room = (let same = ap (λ (x : Content). (tree_of x v).room) none in omega (arith, same));
    chain = chain_begins c g clusters v n e.runs k.sized k.stands;
  }

  ends : EndsSizes c g clusters v v op n stamp (needed (tree_of c v) 0 op a) a e new gives_none
  ends = sizes_end times_set c g clusters v st op n stamp (needed (tree_of c v) 0 op a) a v e r [] new gives_none [] begins puts.sizes

  -- ---- the end

  data_was : stream_at v (key_of n data_type []) ≡ Some (Placed e)
  data_was = ap (file_stream data_type []) k.file.file ∙ puts.placed

  grows : GrowsData c v ends.after n growth ends.f
  grows = record {
    user = user c g clusters v n r a k.stands k.file;
    per = ends.per;
    table = ends.table;
    stream = ap (λ (x : ℕ). key_of x data_type []) shows.number;
    placed = refl;
    stands = refl;
    old = sym (ap runs_in data_was);
    now = ends.data_is;
    after = ends.runs ∙ sym (runs_same growth same_clusters);
    balance = λ x. (let now = ap (λ (l : List Run). uses l x) ends.runs in let nothing = ap (λ (l : List Run). uses l x) took_none ∙ uses-none x in omega (arith, now, nothing));
    clear = λ x some. (let nothing = ap (λ (l : List Run). uses l x) took_none ∙ uses-none x in absurd (omega (arith, some, nothing)));
    others = ends.others;
  }

  is_done : HasWritten c g clusters v op n stamp a (growth_of (cluster_bits c v) r op a) new
  is_done = subst (λ (x : Growth). HasWritten c g clusters v op n stamp a x new) (sym growth_is) (has_written c g clusters v v op n stamp a e new gives_none growth k.sized ends grows)

pub longer_done : TimesAreSet → LongerIsDone
longer_done times_set c g clusters v st op n stamp a r z new longer enough k = is_done times_set c g clusters v st op n stamp a r z new longer enough k
