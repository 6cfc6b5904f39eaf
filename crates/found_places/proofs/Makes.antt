-- All that is asked of a state is there where a file is put in its place.
use Rattle.std.proofs.Common.{◌≡◌, ◌≢◌, ℕ, ◌<◌, ◌≤◌, List, Option, Some, None, Ok, sym, ap, ap₂, subst, ◌∙◌, arith}
use Rattle.host_base.specs.declared.file_ref.FileRef.{FileRef}
use Rattle.disk_model.specs.declared.block.Block.{Block}
use Rattle.disk_model.specs.Content.{Content}
use Rattle.record_model.specs.Pairs.{cluster_limit}
use Rattle.record_model.specs.Records.{Record}
use Rattle.file_tree.specs.Trees.{node_at as node_by_number}
use Rattle.file_tree.specs.declared.node.Node.{Node}
use Rattle.index_model.specs.Trees.{Tree, walk, times}
use Rattle.index_model.specs.Indexes.{Place, node_block, node_of_block, links_of}
use Rattle.index_model.specs.Laws.{HoldsIndex}
use Rattle.index_change.specs.declared.nodes_plan.NodesPlan.{NodesPlan}
use Rattle.index_change.specs.Changing.{IsLaidOut, uses}
use Rattle.index_change.specs.NodePlans.{PlansNodes}
use Rattle.state_model.specs.declared.geometry.Geometry.{Geometry}
use Rattle.state_model.specs.declared.stream.Extents.{Extents}
use Rattle.state_model.specs.Files.{reference}
use Rattle.volume_state.specs.Trees.{tree_of}
use Rattle.volume_model.specs.Indexes.{void_block, index_place, root_value}
use Rattle.volume_model.specs.Volumes.{Volume, file_in, upper_of}
use Rattle.stream_laws.proofs.Rewriting.{volume_parts}
use Rattle.plan_draft.specs.declared.touched.Touched.{Touched}
use Rattle.plan_draft.specs.Drafts.{drafted}
use Rattle.draft_records.specs.Records.{ReadsTheTable}
use Rattle.state_streams.specs.Streams.{StreamsOfStates}
use Rattle.index_places.specs.Places.{IndexesAreLaidOut}
use Rattle.made_trees.specs.plan_model.PlannedIndexes.{AreBeside}
use Rattle.made_trees.specs.change_steps.Found.{FoundIsThere}
use Rattle.made_trees.specs.record_times.Laws.{TimesAreSet}
use Rattle.made_trees.specs.file_puts.declared.streams.VolumeStreams.{VolumeStreams}
use Rattle.made_trees.specs.file_makes.declared.newfile.NewFile.{NewFile}
use Rattle.made_trees.specs.made_files.Made.{made_link, made_key, FitsFields}
use Rattle.made_trees.specs.Created.{timed_directory, timed_volume, MakesFileBy}
use Rattle.found_places.specs.Places.{HasPlace, HasNames, PutsDirectory, HasTimes, PutsPlace}
use Rattle.found_places.specs.Laws.{PlacesAreThere}
use Rattle.found_places.proofs.Found.{least, has_place, has_names}
use Rattle.found_places.proofs.Timed.{moved, has_times, numbers_there, spare_there, parent_there}
use Rattle.found_places.proofs.Vcns.{once_behind, own_block, real_there}

same_value : (o : Option (List ℕ)) (one two : List ℕ) → o ≡ Some one → o ≡ Some two → one ≡ two
same_value o one two first second = cc

same_record : (o : Option Record) (one two : Record) → o ≡ Some one → o ≡ Some two → one ≡ two
same_record o one two first second = cc

module _ (reads : ReadsTheTable) (streams : StreamsOfStates) (there_is : FoundIsThere) (times_set : TimesAreSet) (laid : IndexesAreLaidOut) (c : Content) (g : Geometry) (clusters : ℕ) (v : Volume) (s : VolumeStreams) (numbers : Extents) (path : List (List ℕ)) (directory : Node) (m : NewFile) (r : Record) (value : List ℕ) (used : ℕ) (fresh : List ℕ) (nodes : NodesPlan) (timed new : List Touched)
    (k : PutsPlace c g clusters v s numbers path directory m r value used fresh nodes timed new) where
  abbrev dir : ℕ
  dir = m.parent.number

  abbrev middle : Content
  middle = drafted timed c

  abbrev q : Record
  q = timed_directory m.stamp r

  abbrev x : Volume
  x = timed_volume v m r

  abbrev pub found : (a : Node) × (o : Record) × HasPlace c v directory m a o
  found = has_place reads streams there_is c g clusters v path directory m k.found

  abbrev pub a : Node
  a = (has_place reads streams there_is c g clusters v path directory m k.found).0

  pub place : HasPlace c v directory m a r
  place = subst (λ (o : Record). HasPlace c v directory m a o) (same_record (file_in v dir) found.1 r found.2.own.file k.file) found.2

  abbrev pub own_names : (y : List ℕ) × (t : Tree) × HasNames c v m r y t
  own_names = has_names reads streams there_is c g clusters v path directory m k.found r k.file place.is_directory

  abbrev pub t : Tree
  t = (has_names reads streams there_is c g clusters v path directory m k.found r k.file place.is_directory).1

  pub names : HasNames c v m r value t
  names = subst (λ (y : List ℕ). HasNames c v m r y t) (same_value (root_value r) own_names.0 value own_names.2.root k.root) own_names.2

  pub puts : PutsDirectory c g clusters v s m r timed
  puts = record { sized = k.sized; eight = k.found.has.eight; stands = k.found.has.stands; streams = k.streams; own = place.own; high = place.high; info = k.info; times = k.times }

  pub has : HasTimes c g clusters v s m r timed
  has = has_times times_set c g clusters v s m r timed puts

  nodes_there : node_of_block c (index_place v.per q) ≡ node_of_block middle (index_place v.per q)
  nodes_there = subst (λ (y : Place). node_of_block c y ≡ node_of_block middle y) (sym has.place) (sym has.nodes)

  holds : HoldsIndex middle (index_place v.per q) (upper_of middle x) value t
  holds = moved c middle (index_place v.per r) (index_place v.per q) (upper_of c v) (upper_of middle x) value t (sym has.place) (sym has.upper) nodes_there names.holds

  behind : (w : ℕ) → 0 < times w fresh → node_block (index_place v.per r) w ≡ None
  behind w new_one = subst (λ (y : Place). node_block y w ≡ None) has.place (k.lie.behind w new_one)

  is_laid : IsLaidOut (index_place v.per q) (uses t fresh)
  is_laid =
      subst (λ (y : Place). IsLaidOut y (uses t fresh)) (sym has.place)
      (laid.laid c g clusters v dir r (uses t fresh) k.found.has.stands k.file (own_block c (index_place v.per r) (upper_of c v) value t names.holds fresh behind))

  few : v.clusters ≤ cluster_limit
  few = (let count = (volume_parts c g clusters v k.found.has.stands.loaded).count in let low = k.found.few in omega (arith, count, low))

  real : (w : ℕ) (b : Block) → node_block (index_place v.per q) w ≡ Some b → b ≢ void_block
  real w b at = real_there laid c g clusters v dir r k.found.has.stands k.found.has.eight few k.file place.is_directory k.begun w b (subst (λ (y : Place). node_block y w ≡ Some b) has.place at)

  fields : FitsFields m
  fields = record {
    number = place.low;
    seq = k.seq;
    directory = place.small;
    directory_seq = (let is : m.parent.seq ≡ r.head.seq = ap (λ (f : FileRef). f.seq) place.referred ∙ place.seq in let low = k.fits.head.seq in omega (arith, is, low));
    is_name = k.is_name;
    stamp_small = k.soon;
  }

  by_reference : m.parent ≡ reference dir r
  by_reference = place.referred ∙ ap₂ (λ (i j : ℕ). record { number = i; seq = j }) (sym (ap (λ (f : FileRef). f.number) place.referred)) place.seq

  pub makes : MakesFileBy c g clusters v s numbers m a r value used t fresh nodes timed new
  makes = record {
    sized = k.sized;
    eight = k.found.has.eight;
    stands = k.found.has.stands;
    streams = k.streams;
    own = place.own;
    info = k.info;
    fits = k.fits;
    node = ap (node_by_number (tree_of c v).nodes) (ap (λ (f : FileRef). f.number) k.found.parent) ∙ place.node;
    referred = place.referred;
    times = k.times;
    made = record {
      sized = k.sized;
      kept = has.kept;
      streams = has.streams;
      bits = numbers_there times_set c g clusters v s m r timed puts numbers k.bits;
      fields = fields;
      number = spare_there times_set c g clusters v s m r timed puts (least reads streams there_is c g clusters v path directory m k.found) place.spare;
      directory = parent_there times_set c g clusters v s m r timed puts place.is_directory place.not_extend by_reference;
      entry = record {
        root = has.root ∙ k.root;
        holds = holds;
        planned = subst (λ (u : List ℕ). PlansNodes middle (index_place v.per q) u value used (made_key m) fresh (Ok nodes)) (sym has.upper) k.planned;
        front = k.front;
        enough = k.lie.enough;
        once = once_behind middle (index_place v.per q) (upper_of middle x) value t holds fresh k.lie.single k.lie.behind;
        laid = is_laid;
        beside = subst (λ (u : List ℕ). AreBeside u (made_link m) (links_of (walk t))) (sym has.upper) names.beside;
        real = λ w b some at. real w b at;
      };
      put = k.put;
    };
    outside = place.outside;
  }

  pub all_there : (b : Node) × (u : Tree) × HasPlace c v directory m b r × HasNames c v m r value u × MakesFileBy c g clusters v s numbers m b r value used u fresh nodes timed new
  all_there = (a, t, place, names, makes)

pub places_there : ReadsTheTable → StreamsOfStates → FoundIsThere → TimesAreSet → IndexesAreLaidOut → PlacesAreThere
places_there reads streams there_is times_set laid = record {
  place = λ c g clusters v path directory m k. has_place reads streams there_is c g clusters v path directory m k;
  names = λ c g clusters v path directory m r k file kind. has_names reads streams there_is c g clusters v path directory m k r file kind;
  timed = λ c g clusters v s m r timed k. has_times times_set c g clusters v s m r timed k;
  makes = λ c g clusters v s numbers path directory m r value used fresh nodes timed new k. all_there reads streams there_is times_set laid c g clusters v s numbers path directory m r value used fresh nodes timed new k;
}
