-- A file that is put without a block more.
use Rattle.std.proofs.Common.{◌≡◌, ℕ, ◌+◌, ◌≤◌, List, [], length, None, Result, Ok, sym, ap, subst, ◌∙◌}
use Rattle.disk_model.specs.Content.{Content}
use Rattle.record_model.specs.Records.{Record, used_of}
use Rattle.record_model.specs.declared.entry.Entry.{Entry as Raw}
use Rattle.record_model.specs.Nodes.{entries_length}
use Rattle.file_tree.specs.declared.node.Node.{Node}
use Rattle.index_model.specs.Indexes.{Place, node_block, node_of_block, nodes_of}
use Rattle.index_change.specs.NodePlans.{PlansNodes}
use Rattle.state_model.specs.declared.geometry.Geometry.{Geometry}
use Rattle.state_model.specs.declared.stream.Extents.{Extents}
use Rattle.volume_model.specs.Indexes.{index_place, index_stream, root_value}
use Rattle.volume_model.specs.Volumes.{Volume, cluster_bits, upper_of, size_or}
use Rattle.stream_laws.specs.Owners.{initialised_in}
use Rattle.tree_model.specs.declared.script.Op.TheVariants.{Create}
use Rattle.tree_model.specs.declared.reply.Reply.TheVariants.{Created}
use Rattle.plan_draft.specs.declared.touched.Touched.{Touched}
use Rattle.plan_draft.specs.Drafts.{drafted}
use Rattle.place_makes.specs.made_trees.step_model.Steps.{Step}
use Rattle.place_makes.specs.made_trees.file_puts.declared.streams.VolumeStreams.{VolumeStreams}
use Rattle.place_makes.specs.made_trees.file_makes.declared.newfile.NewFile.{NewFile}
use Rattle.place_makes.specs.made_trees.file_makes.Making.{PutsMade}
use Rattle.place_makes.specs.made_trees.made_files.Made.{made_key}
use Rattle.place_makes.specs.made_trees.Created.{timed_directory, timed_volume}
use Rattle.place_makes.specs.made_trees.Grown.{KeepsIndex}
use Rattle.made_steps.specs.Timed.{IndexesMove}
use Rattle.place_makes.specs.found_places.Places.{PutsDirectory, HasTimes, PutsFlat, LieBehind}
use Rattle.place_makes.specs.found_places.Laws.{PlacesAreThere, PlacesTakeSteps}
use Rattle.place_makes.specs.Placing.{PutsTimed}
use Rattle.place_steps.specs.Steps.{MakesInPlace}
use Rattle.place_steps.proofs.Finding.{same_value, none_come, eight, place, planned, lie}

lie_there : (per : ℕ) (r q : Record) (fresh : List ℕ) → index_place per q ≡ index_place per r → LieBehind per r fresh → LieBehind per q fresh
lie_there per r q fresh same k = record { enough = k.enough; single = k.single; behind = λ w new. subst (λ (y : Place). node_block y w ≡ None) (sym same) (k.behind w new) }

module _ (there : PlacesAreThere) (steps : PlacesTakeSteps) (moves : IndexesMove) (c : Content) (g : Geometry) (clusters : ℕ) (v : Volume) (s : VolumeStreams) (numbers : Extents) (path : List (List ℕ)) (directory : Node) (m : NewFile) (r : Record) (new : List Touched) (k : MakesInPlace c g clusters v s numbers path directory m r new)
    (none : length k.put.nodes.taken.items ≡ 0) where
  abbrev value : List ℕ
  value = k.put.plans.value

  abbrev fresh : List ℕ
  fresh = k.put.plans.fresh

  came : (k.put.put.q ≡ r) × (k.put.put.grown ≡ [])
  came = none_come (length k.put.nodes.taken.items) c (cluster_bits c v) s m.parent.number r (0x20 + entries_length k.put.nodes.root) [] k.put.put.grown k.put.put.q none k.put.put.blocks

  behind : PutsTimed c s numbers m r k.put.nodes [] new
  behind = subst (λ (o : List Touched). PutsTimed c s numbers m r k.put.nodes o new) came.1 (subst (λ (q : Record). PutsTimed c s numbers m q k.put.nodes k.put.put.grown new) came.0 k.put.put.behind)

  abbrev timed : List Touched
  timed = behind.timed

  abbrev middle : Content
  middle = drafted behind.timed c

  abbrev q : Record
  q = timed_directory m.stamp r

  abbrev x : Volume
  x = timed_volume v m r

  puts : PutsDirectory c g clusters v s m r timed
  puts =
      let at = place there c g clusters v s numbers path directory m r new k in
      record { sized = k.sized; eight = k.found.has.eight; stands = k.found.has.stands; streams = k.streams; own = at.own; high = at.high; info = k.put.info; times = behind.times }

  has : HasTimes c g clusters v s m r timed
  has = there.timed c g clusters v s m r timed puts

  keeps : KeepsIndex c v r middle x q
  keeps = record { upper = has.upper; root = has.root; nodes = λ i. ap (λ (y : Place). nodes_of (node_of_block middle y) i) has.place ∙ ap (λ (f : ℕ → Result (List Raw) ℕ). nodes_of f i) has.nodes }

  plan : PlansNodes middle (index_place v.per q) (upper_of c v) value (used_of r.attrs) (made_key m) fresh (Ok k.put.nodes)
  plan = subst (λ (u : List ℕ). PlansNodes middle (index_place v.per q) u value (used_of r.attrs) (made_key m) fresh (Ok k.put.nodes)) has.upper (moves.plans c middle v x r q value (used_of r.attrs) (made_key m) fresh k.put.nodes keeps (planned there c g clusters v s numbers path directory m r new k))

  made : PutsMade c s numbers m q (index_place v.per q) value k.put.nodes timed new
  made =
      let is : behind.made.value ≡ value = same_value (root_value q) behind.made.value value behind.made.root (has.root ∙ k.put.plans.root) in
      subst (λ (per : ℕ). PutsMade c s numbers m q (index_place per q) value k.put.nodes timed new) (sym (eight there c g clusters v s numbers path directory m r new k))
      (subst (λ (y : List ℕ). PutsMade c s numbers m q (index_place 8 q) y k.put.nodes timed new) is behind.made.put)

  begun : size_or (index_stream r) ≤ initialised_in (index_stream r)
  unfolding index_stream
  begun = k.put.quiet.begun

  flat : PutsFlat c g clusters v s numbers path directory m r value fresh k.put.nodes timed new
  flat = record {
    puts = record {
      sized = k.sized;
      found = k.found;
      is_name = k.is_name;
      seq = k.seq;
      soon = k.soon;
      streams = k.streams;
      bits = k.numbers_are;
      file = k.file;
      info = k.put.info;
      fits = k.fits;
      root = k.put.plans.root;
      begun = begun;
      times = behind.times;
      lie = lie_there v.per r q fresh has.place (lie there c g clusters v s numbers path directory m r new k);
      planned = plan;
      front = k.put.plans.front;
      put = made;
    };
    steady = k.put.quiet.steady;
  }

  pub quiet_step : Step g clusters (Create path) m.stamp (Created m.file.number m.file.seq) c (drafted new c)
  quiet_step = steps c g clusters v s numbers path directory m r value fresh k.put.nodes timed new flat
