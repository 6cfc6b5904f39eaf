-- VCNs behind the blocks of an index, and the blocks of its nodes.
use Rattle.std.proofs.Common.{◌≡◌, ◌≢◌, ℕ, zero, suc, ◌+◌, ◌*◌, ◌/◌, ◌<◌, ◌≤◌, true, List, Option, Some, None, Result, Ok, Err, sym, ap, subst, ◌∙◌, inl, inr, arith}
use Rattle.std.specs.Prelude.{map, slice_get}
use Rattle.std.specs.List.{range_with_len}
use Rattle.std.proofs.lemmas.Bool.{cases_lt}
use Rattle.disk_model.specs.declared.block.Block.{Block}
use Rattle.disk_model.specs.Content.{Content}
use Rattle.record_model.specs.declared.entry.Entry.{Entry as Raw}
use Rattle.record_model.specs.Pairs.{cluster_limit}
use Rattle.record_model.specs.Records.{Record}
use Rattle.index_model.specs.Trees.{Tree, held, times}
use Rattle.index_model.specs.Indexes.{Place, number_of, node_block, node_of_part, node_of_block, nodes_of, some_entries}
use Rattle.index_model.specs.Laws.{HoldsIndex}
use Rattle.index_plan.specs.Laws.{Once}
use Rattle.index_change.specs.Changing.{uses}
use Rattle.state_model.specs.declared.geometry.Geometry.{Geometry}
use Rattle.state_model.specs.declared.stream.Stream.{Stream}
use Rattle.state_model.specs.declared.stream.Stream.TheVariants.{Held, Placed}
use Rattle.state_model.specs.Files.{is_directory_record}
use Rattle.volume_model.specs.Indexes.{void_block, index_block, index_stream, index_place, stream_blocks, block_count, blocks_of}
use Rattle.volume_model.specs.Volumes.{Volume, file_in, size_or}
use Rattle.stream_laws.specs.Owners.{initialised_in}
use Rattle.plan_owners.specs.States.{Stands}
use Rattle.made_trees.proofs.plan_model.Drafting.{per_is}
use Rattle.index_places.specs.Places.{HasOwnBlock, IsInitialised, IndexesAreLaidOut}
use Rattle.index_places.proofs.Numbered.{numbered, node_of_tree}

read_is : (r : Result (List Raw) ℕ) (entries : List Raw) → some_entries r ≡ Some entries → r ≡ Ok entries
read_is (Ok l) entries is = (let same : l ≡ entries = cc in ap (λ (x : List Raw). Ok x) same)
read_is (Err rule) entries is = absurd cc

not_read : (r : Result (List Raw) ℕ) (entries : List Raw) → r ≡ Err 7 → r ≡ Ok entries → ⊥
not_read r entries one two = cc

no_block : (o : Option Block) (b : Block) → o ≡ None → o ≡ Some b → ⊥
no_block o b one two = cc

-- ---- behind its blocks

module _ (c : Content) (place : Place) (upper value : List ℕ) (t : Tree) (holds : HoldsIndex c place upper value t) where
  node_there : (w : ℕ) → 0 < held w t → (entries : List Raw) × (node_of_block c place w ≡ Ok entries)
  node_there w has =
      let read = node_of_tree (nodes_of (node_of_block c place)) w t holds.is_index.stands has in
      (read.0, read_is (node_of_block c place w) read.0 read.1)

  block_there : (w : ℕ) → 0 < held w t → node_block place w ≡ None → ⊥
  unfolding node_of_block
  block_there w has none = (let read = node_there w has in not_read (node_of_block c place w) read.0 (ap (node_of_part c w) none) read.1)

  pub once_behind : (fresh : List ℕ) → ((w : ℕ) → times w fresh ≤ 1) → ((w : ℕ) → 0 < times w fresh → node_block place w ≡ None) → Once t fresh
  once_behind fresh single behind w = elim (cases_lt 0 (held w t)) [
    | inl has ↦ elim (cases_lt 0 (times w fresh)) [
      | inl new ↦ absurd (block_there w has (behind w new))
      | inr none ↦ (let one = holds.is_index.once w in omega (arith, one, none))
    ]
    | inr none ↦ (let one = single w in omega (arith, one, none))
  ]

  pub own_block : (fresh : List ℕ) → ((w : ℕ) → 0 < times w fresh → node_block place w ≡ None) → (w : ℕ) → 0 < uses t fresh w → HasOwnBlock c place w
  own_block fresh behind w some = elim (cases_lt 0 (held w t)) [
    | inl has ↦ inr (node_there w has)
    | inr none ↦ inl (λ void. no_block (node_block place w) void_block (behind w (omega (arith, some, none))) void)
  ]

-- ---- its own blocks

within_range : (f : ℕ → Block) (a n i : ℕ) (b : Block) → slice_get (map f (range_with_len a n)) i ≡ Some b → i < n
within_range f a zero i b is = absurd cc
within_range f a (suc n) zero b is = omega arith
within_range f a (suc n) (suc i) b is = (let rest = within_range f (a + 1) n i b is in omega (arith, rest))

in_size : (per : ℕ) (o : Option Stream) (i : ℕ) (b : Block) → slice_get (stream_blocks per o) i ≡ Some b → 4096 * (i + 1) ≤ size_or o
unfolding blocks_of block_count
in_size per None i b is = absurd cc
in_size per (Some (Held value)) i b is = absurd cc
in_size per (Some (Placed e)) i b is = (let low = within_range (index_block per e) 0 (block_count per e) i b is in omega (arith, low))

number_one : (per : ℕ) (blocks : List Block) (w : ℕ) → per ≡ 8 → number_of (record { blocks = blocks; step = 8 / per }) w ≡ w
number_one per blocks w eight = subst (λ (p : ℕ). number_of (record { blocks = blocks; step = 8 / p }) w ≡ w) (sym eight) (omega arith)

module _ (laid : IndexesAreLaidOut) (c : Content) (g : Geometry) (clusters : ℕ) (v : Volume) (n : ℕ) (r : Record) (state : Stands c g clusters v) (eight : g.per_cluster ≡ 8) (few : v.clusters ≤ cluster_limit) (file : file_in v n ≡ Some r) (directory : is_directory_record r ≡ true) (begun : size_or (index_stream r) ≤ initialised_in (index_stream r)) where
  initialised_there : (w : ℕ) (b : Block) → node_block (index_place v.per r) w ≡ Some b → IsInitialised r w
  unfolding index_place
  initialised_there w b at =
      let number : number_of (index_place v.per r) w ≡ w = number_one v.per (stream_blocks v.per (index_stream r)) w (per_is c g clusters v eight state) in
      let there : slice_get (stream_blocks v.per (index_stream r)) w ≡ Some b = ap (slice_get (stream_blocks v.per (index_stream r))) (sym number) ∙ numbered (index_place v.per r) w b at in
      let whole = in_size v.per (index_stream r) w b there in
      record { begins = omega (arith, whole, begun); whole = whole }

  same_of : (o : Option Block) (a b : Block) → o ≡ Some a → o ≡ Some b → a ≡ b
  same_of o a b one two = cc

  -- none of its blocks is the one past the end of every disk
  pub real_there : (w : ℕ) (b : Block) → node_block (index_place v.per r) w ≡ Some b → b ≢ void_block
  real_there w b at void =
      let is = laid.placed c g clusters v n r w state eight few file directory (initialised_there w b at) in
      is.real (same_of (node_block (index_place v.per r) w) is.block b is.node at ∙ void)
