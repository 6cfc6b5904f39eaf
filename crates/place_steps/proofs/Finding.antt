-- The place of the file, and what was put there.
use Rattle.std.proofs.Common.{◌≡◌, ℕ, zero, suc, ◌<◌, Bool, List, [], Option, Some, Ok, sym, subst, arith}
use Rattle.disk_model.specs.Content.{Content}
use Rattle.record_model.specs.Records.{Record, used_of}
use Rattle.file_tree.specs.declared.node.Node.{Node}
use Rattle.index_model.specs.Trees.{Tree}
use Rattle.index_change.specs.NodePlans.{PlansNodes}
use Rattle.state_model.specs.declared.geometry.Geometry.{Geometry}
use Rattle.state_model.specs.declared.stream.Extents.{Extents}
use Rattle.volume_model.specs.Indexes.{index_place, root_value}
use Rattle.volume_model.specs.Volumes.{Volume, file_in, upper_of}
use Rattle.plan_draft.specs.declared.touched.Touched.{Touched}
use Rattle.plan_draft.specs.Drafts.{drafted}
use Rattle.place_makes.proofs.made_trees.plan_model.Drafting.{per_is}
use Rattle.place_makes.proofs.made_trees.written_values.Joining.{nothing_put}
use Rattle.place_makes.specs.made_trees.file_puts.declared.streams.VolumeStreams.{VolumeStreams}
use Rattle.place_makes.specs.made_trees.file_makes.declared.newfile.NewFile.{NewFile}
use Rattle.place_makes.specs.made_trees.made_files.Made.{made_key}
use Rattle.place_makes.specs.found_places.Places.{HasPlace, HasNames, LieBehind}
use Rattle.place_makes.specs.found_places.Laws.{PlacesAreThere}
use Rattle.place_makes.specs.index_grows.Growing.{GrowsCounted}
use Rattle.place_makes.specs.Placing.{HasBlocksFor}
use Rattle.place_steps.specs.Steps.{MakesInPlace}

pub same_value : (o : Option (List ℕ)) (one two : List ℕ) → o ≡ Some one → o ≡ Some two → one ≡ two
same_value o one two first second = cc

same_record : (o : Option Record) (one two : Record) → o ≡ Some one → o ≡ Some two → one ≡ two
same_record o one two first second = cc

pub none_come : (n : ℕ) (c : Content) (bits : List Bool) (s : VolumeStreams) (d : ℕ) (r : Record) (root : ℕ) (old new : List Touched) (q : Record) → n ≡ 0 → HasBlocksFor n c bits s d r root old new q → (q ≡ r) × (new ≡ old)
none_come zero c bits s d r root old new q is blocks = blocks
none_come (suc n) c bits s d r root old new q is blocks = absurd (omega (arith, is))

pub some_come : (n : ℕ) (c : Content) (bits : List Bool) (s : VolumeStreams) (d : ℕ) (r : Record) (root : ℕ) (old new : List Touched) (q : Record) → 0 < n → HasBlocksFor n c bits s d r root old new q → GrowsCounted c bits s d r root n old new q
some_come zero c bits s d r root old new q some blocks = absurd (omega (arith, some))
some_come (suc n) c bits s d r root old new q some blocks = blocks

module _ (there : PlacesAreThere) (c : Content) (g : Geometry) (clusters : ℕ) (v : Volume) (s : VolumeStreams) (numbers : Extents) (path : List (List ℕ)) (directory : Node) (m : NewFile) (r : Record) (new : List Touched) (k : MakesInPlace c g clusters v s numbers path directory m r new) where
  pub start : drafted [] c ≡ c
  start = nothing_put c k.sized

  pub eight : v.per ≡ 8
  eight = per_is c g clusters v k.found.has.eight k.found.has.stands

  abbrev pub found : (a : Node) × (o : Record) × HasPlace c v directory m a o
  found = there.place c g clusters v path directory m k.found

  abbrev pub a : Node
  a = (there.place c g clusters v path directory m k.found).0

  pub place : HasPlace c v directory m a r
  place = subst (λ (o : Record). HasPlace c v directory m a o) (same_record (file_in v m.parent.number) found.1 r found.2.own.file k.file) found.2

  abbrev pub value : List ℕ
  value = k.put.plans.value

  abbrev pub fresh : List ℕ
  fresh = k.put.plans.fresh

  abbrev own_names : (y : List ℕ) × (t : Tree) × HasNames c v m r y t
  own_names = there.names c g clusters v path directory m r k.found k.file place.is_directory

  abbrev pub t : Tree
  t = (there.names c g clusters v path directory m r k.found k.file place.is_directory).1

  pub names : HasNames c v m r value t
  names = subst (λ (y : List ℕ). HasNames c v m r y t) (same_value (root_value r) own_names.0 value own_names.2.root k.put.plans.root) own_names.2

  -- the plan, and the VCNs that it may take, by the sectors of a cluster
  pub planned : PlansNodes c (index_place v.per r) (upper_of c v) value (used_of r.attrs) (made_key m) fresh (Ok k.put.nodes)
  planned =
      subst (λ (per : ℕ). PlansNodes c (index_place per r) (upper_of c v) value (used_of r.attrs) (made_key m) fresh (Ok k.put.nodes)) (sym eight)
      (subst (λ (d : Content). PlansNodes d (index_place 8 r) (upper_of c v) value (used_of r.attrs) (made_key m) fresh (Ok k.put.nodes)) start k.put.plans.planned)

  pub lie : LieBehind v.per r fresh
  lie = subst (λ (per : ℕ). LieBehind per r fresh) (sym eight) k.put.plans.lie
