-- The nodes of a directory's index in a state lie apart, and so do the blocks that it has initialised.
use Rattle.std.proofs.Common.{◌≡◌, ◌≢◌, ◌⊎◌, ℕ, ◌+◌, ◌*◌, ◌/◌, ◌%◌, ◌<◌, ◌≤◌, Bool, true, false, not, List, Option, Some, None, refl, sym, ap, subst, ◌∙◌, inl, inr, arith}
use Rattle.std.specs.Prelude.{slice_get, if◌then◌else◌}
use Rattle.std.proofs.lemmas.Bool.{cases_lt, and_parts, eq-eqb}
use Rattle.disk_model.specs.declared.block.Block.{Block}
use Rattle.disk_model.specs.declared.block.BlockKind.TheVariants.{Index}
use Rattle.disk_model.specs.Content.{Content}
use Rattle.record_model.specs.declared.runs.Run.{Run}
use Rattle.record_model.specs.Constants.{index_allocation, names_index}
use Rattle.record_model.specs.Pairs.{cluster_limit}
use Rattle.record_model.specs.Records.{Record}
use Rattle.index_model.specs.Trees.{Tree, held, times}
use Rattle.index_model.specs.Indexes.{Place, number_of, node_block, node_of_block, nodes_of}
use Rattle.index_model.specs.Laws.{HoldsIndex}
use Rattle.index_model.proofs.Marks.{one_number}
use Rattle.state_streams.specs.index_change.Changing.{IsLaidOut, uses}
use Rattle.state_streams.proofs.index_change.Lawful.{some_read}
use Rattle.state_model.specs.declared.geometry.Geometry.{Geometry}
use Rattle.state_model.specs.declared.stream.Extents.{Extents}
use Rattle.state_model.specs.declared.stream.Stream.{Stream}
use Rattle.state_model.specs.declared.stream.Stream.TheVariants.{Held, Placed}
use Rattle.state_model.specs.Files.{is_directory_record}
use Rattle.state_model.specs.Loads.{total_clusters}
use Rattle.state_model.specs.Rules.{implies}
use Rattle.state_model.specs.Streams.{stream_of, block_at}
use Rattle.volume_model.specs.Indexes.{void_block, index_stream, index_place, stream_blocks}
use Rattle.volume_model.specs.Sizes.{has_hole, keeps_streams, keeps_whole}
use Rattle.volume_model.specs.Volumes.{Volume, file_in, file_stream, size_or}
use Rattle.stream_laws.specs.Owners.{initialised_in}
use Rattle.stream_laws.specs.Places.{AreOnce}
use Rattle.stream_laws.specs.Sharing.{StreamKey, stream_at, runs_in}
use Rattle.stream_laws.proofs.Changing.{itself}
use Rattle.stream_laws.proofs.Placing.{one_place}
use Rattle.stream_laws.proofs.Sharing.{stream_once}
use Rattle.state_streams.specs.plan_owners.States.{Stands}
use Rattle.state_streams.proofs.plan_owners.Outside.{once}
use Rattle.state_streams.proofs.plan_owners.Standing.{streams_at}
use Rattle.state_streams.proofs.plan_model.Drafting.{per_is}
use Rattle.state_streams.specs.Streams.{IsPlacedIn}
use Rattle.state_streams.proofs.Lying.{all_inside, sizes_are, spelled_is, few_there}
use Rattle.index_places.specs.Places.{HasOwnBlock, IsInitialised, IsIndexBlock}
use Rattle.index_places.proofs.Numbered.{in_stream, numbered, is_held, is_index, node_number, node_of_tree}
use Rattle.index_places.proofs.Lying.{lies_there, listed}

-- ---- blocks apart

module _ (c : Content) (g : Geometry) (clusters : ℕ) (v : Volume) (n : ℕ) (r : Record) (state : Stands c g clusters v) (file : file_in v n ≡ Some r) where
  abbrev place : Place
  place = index_place v.per r

  abbrev runs : List Run
  runs = runs_in (index_stream r)

  abbrev key : StreamKey
  key = record { file = n; kind = index_allocation; name = names_index }

  runs_there : runs_in (stream_at v key) ≡ runs
  unfolding index_stream
  runs_there = ap (λ (o : Option Record). runs_in (file_stream index_allocation names_index o)) file

  once_there : AreOnce runs
  once_there = subst AreOnce runs_there (stream_once v key (once c g clusters v state))

  -- where the block of a VCN lies
  which : (w : ℕ) (b : Block) → node_block place w ≡ Some b → (b ≡ void_block) ⊎ (block_at v.per runs Index (number_of place w) ≡ Some b)
  unfolding index_place
  which w b at = in_stream v.per (index_stream r) (number_of place w) b (numbered place w b at)

  index_there : (w : ℕ) (b : Block) → node_block place w ≡ Some b → b.kind ≡ Index
  index_there w b at = is_index v.per (index_stream r) (number_of place w) b (which w b at)

  -- two VCNs of one block that isn't the one past the end of every disk
  apart_there : (x y : ℕ) (b : Block) → b ≢ void_block → node_block place x ≡ Some b → node_block place y ≡ Some b → x ≡ y
  apart_there x y b real at_x at_y = elim (which x b at_x) [
    | inl void ↦ absurd (real void)
    | inr first ↦ elim (which y b at_y) [
      | inl void ↦ absurd (real void)
      | inr second ↦ (
          let number : number_of place x ≡ number_of place y = one_place v.per runs Index (number_of place x) (number_of place y) b b state.some once_there first second (itself b) in
          one_number place x y (is_held (node_block place x) b at_x) (is_held (node_block place y) b at_y) number)
    ]
  ]

  real_by : (w : ℕ) (b : Block) → node_block place w ≡ Some b → node_block place w ≢ Some void_block → b ≢ void_block
  real_by w b at other same = other (at ∙ ap Some same)

  apart_by : (x y : ℕ) (b : Block) → HasOwnBlock c place x → HasOwnBlock c place y → node_block place x ≡ Some b → node_block place y ≡ Some b → x ≡ y
  apart_by x y b own other at_x at_y = elim own [
    | inl real ↦ apart_there x y b (real_by x b at_x real) at_x at_y
    | inr first ↦ elim other [
      | inl real ↦ apart_there x y b (real_by y b at_y real) at_x at_y
      | inr second ↦ sym (node_number c place x b first.0 at_x first.1) ∙ node_number c place y b second.0 at_y second.1
    ]
  ]

  pub laid_out : (count : ℕ → ℕ) → ((w : ℕ) → 0 < count w → HasOwnBlock c place w) → IsLaidOut place count
  laid_out count own = record {
    index = λ w b some at. index_there w b at;
    apart = λ x y b some others at_x at_y. apart_by x y b (own x some) (own y others) at_x at_y;
  }

-- ---- initialised blocks

asked : (a b : Bool) → a ≡ true → implies a b ≡ true → b ≡ true
asked true b one two = two
asked false b one two = absurd cc

denied : (t : Bool) → not t ≡ true → t ≡ false
denied true is = absurd cc
denied false is = refl

-- the VCNs count blocks, at eight sectors a cluster
at_one : (blocks : List Block) (w : ℕ) (b : Block) → slice_get blocks w ≡ Some b → node_block (record { blocks = blocks; step = 1 }) w ≡ Some b
unfolding node_block
at_one blocks w b at = ap (λ (t : Bool). if t then slice_get blocks (w / 1) else None) (eq-eqb (w % 1) 0 (omega arith)) ∙ ap (slice_get blocks) (omega arith) ∙ at

by_number : (p : ℕ) (blocks : List Block) (w : ℕ) (b : Block) → p ≡ 8 → slice_get blocks w ≡ Some b → node_block (record { blocks = blocks; step = 8 / p }) w ≡ Some b
by_number p blocks w b is at = subst (λ (q : ℕ). node_block (record { blocks = blocks; step = 8 / q }) w ≡ Some b) (sym is) (at_one blocks w b at)

module _ (c : Content) (g : Geometry) (clusters : ℕ) (v : Volume) (n : ℕ) (r : Record) (w : ℕ) (state : Stands c g clusters v) (eight : g.per_cluster ≡ 8) (few : v.clusters ≤ cluster_limit) (file : file_in v n ≡ Some r) (directory : is_directory_record r ≡ true) where
  whole_there : has_hole (index_stream r) ≡ false
  unfolding keeps_streams keeps_whole index_stream
  whole_there =
      let rules = (and_parts _ _ (and_parts _ _ (and_parts _ _ (streams_at c g clusters v n r state file)).0).0).1 in
      let parts = and_parts _ _ (asked (is_directory_record r) _ directory (and_parts _ _ rules).1) in
      denied (has_hole (stream_of index_allocation names_index r.attrs)) parts.0

  placed_in : (e : Extents) → index_stream r ≡ Some (Placed e) → IsPlacedIn v n index_allocation names_index e
  unfolding index_stream
  placed_in e is = record { file = r; is_file = file; no_name = (λ same. absurd (omega (arith, same))); stream = is }

  by_stream : (o : Option Stream) → index_stream r ≡ o → 4096 * w < initialised_in o → 4096 * (w + 1) ≤ size_or o → (b : Block) × ((slice_get (stream_blocks v.per o) w ≡ Some b) × ((block_at v.per (runs_in o) Index w ≡ Some b) × (b ≢ void_block)))
  by_stream None is begins within = absurd (omega (arith, begins))
  by_stream (Some (Held value)) is begins within = absurd (omega (arith, begins))
  by_stream (Some (Placed e)) is begins within =
      let per = per_is c g clusters v eight state in
      let there = placed_in e is in
      let whole : has_hole (Some (Placed e)) ≡ false = sym (ap has_hole is) ∙ whole_there in
      let total = few_there c g clusters v n index_allocation names_index e state there whole in
      let spelled = spelled_is c g clusters v n index_allocation names_index e state there (omega (arith, total, few)) in
      let sizes = sizes_are c g clusters v n index_allocation names_index e state there in
      let real = sizes.real in
      let allocated = sizes.allocated in
      let high : e.real ≤ total_clusters e.runs * (512 * v.per) = omega (arith, real, allocated) in
      let at_eight : e.real ≤ total_clusters e.runs * (512 * 8) = subst (λ (p : ℕ). e.real ≤ total_clusters e.runs * (512 * p)) per high in
      let low : w < total_clusters e.runs = omega (arith, within, at_eight) in
      let lies = lies_there v.per v.clusters e.runs w per few spelled whole (all_inside c g clusters v n index_allocation names_index e state there) low in
      (lies.block, (listed v.per e w lies.block per spelled high begins within lies.lies, (lies.lies, lies.real)))

  pub index_block_there : IsInitialised r w → IsIndexBlock v.per r w
  unfolding index_place
  index_block_there is =
      let there = by_stream (index_stream r) refl is.begins is.whole in
      record { block = there.0; node = by_number v.per (stream_blocks v.per (index_stream r)) w there.0 (per_is c g clusters v eight state) there.1.0; lies = there.1.1.0; real = there.1.1.1 }

-- ---- the nodes of an index, and fresh blocks

pub plan_laid : (c : Content) (g : Geometry) (clusters : ℕ) (v : Volume) (n : ℕ) (r : Record) (upper value : List ℕ) (t : Tree) (fresh : List ℕ) → Stands c g clusters v → g.per_cluster ≡ 8 → v.clusters ≤ cluster_limit → file_in v n ≡ Some r → is_directory_record r ≡ true
    → HoldsIndex c (index_place v.per r) upper value t → ((w : ℕ) → 0 < times w fresh → IsInitialised r w) → IsLaidOut (index_place v.per r) (uses t fresh)
plan_laid c g clusters v n r upper value t fresh state eight few file directory holds initialised = laid_out c g clusters v n r state file (uses t fresh) own
  where
    as_node : (w : ℕ) → 0 < held w t → HasOwnBlock c (index_place v.per r) w
    as_node w has =
        let read = node_of_tree (nodes_of (node_of_block c (index_place v.per r))) w t holds.is_index.stands has in
        inr (read.0, some_read (node_of_block c (index_place v.per r) w) read.0 read.1)

    as_block : (w : ℕ) → 0 < times w fresh → HasOwnBlock c (index_place v.per r) w
    as_block w has =
        let there = index_block_there c g clusters v n r w state eight few file directory (initialised w has) in
        inl (λ void. there.real (same_block_in (node_block (index_place v.per r) w) there.block there.node void))
      where
        same_block_in : (o : Option Block) (b : Block) → o ≡ Some b → o ≡ Some void_block → b ≡ void_block
        same_block_in o b one two = cc

    own : (w : ℕ) → 0 < uses t fresh w → HasOwnBlock c (index_place v.per r) w
    own w some = elim (cases_lt 0 (held w t)) [
      | inl has ↦ as_node w has
      | inr none ↦ as_block w (omega (arith, some, none))
    ]
