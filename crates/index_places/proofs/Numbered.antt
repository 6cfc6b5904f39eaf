-- The block of a VCN of an index is one of its stream by its number, or the one past the end of every disk.
use Rattle.std.proofs.Common.{◌≡◌, ◌⊎◌, ℕ, zero, suc, ◌+◌, ◌*◌, ◌%◌, ◌<◌, Bool, true, false, cond, leb, List, Option, Some, None, Ok, refl, sym, ap, ◌∙◌, inl, inr, arith}
use Rattle.std.specs.Prelude.{◌&&◌, ◌==◌, nat_lt, map, slice_get, is_some, if◌then◌else◌}
use Rattle.std.specs.List.{range_with_len}
use Rattle.std.proofs.lemmas.Bool.{cases_eq, cases_lt, eqb-true}
use Rattle.host_base.specs.Answers.{◌>>=◌, needs}
use Rattle.disk_model.specs.declared.block.Block.{Block}
use Rattle.disk_model.specs.declared.block.BlockKind.TheVariants.{Index}
use Rattle.disk_model.specs.Bodies.{BodyOf}
use Rattle.disk_model.specs.Content.{Content}
use Rattle.disk_model.specs.Numbers.{field}
use Rattle.record_model.specs.declared.entry.Entry.{Entry as Raw}
use Rattle.record_model.specs.Nodes.{node_at}
use Rattle.index_model.specs.Trees.{Tree, Leaf, Down, Entry, DownEntry, Stands, held, raws_of}
use Rattle.index_model.specs.Indexes.{Place, number_of, node_block, is_index_body, entries_of_node, node_of_body, node_of_part, node_of_block}
use Rattle.index_model.proofs.Marks.{same_not}
use Rattle.state_model.specs.declared.stream.Extents.{Extents}
use Rattle.state_model.specs.declared.stream.Stream.{Stream}
use Rattle.state_model.specs.declared.stream.Stream.TheVariants.{Held, Placed}
use Rattle.state_model.specs.Streams.{block_at}
use Rattle.volume_model.specs.Indexes.{void_block, or_void, index_block, block_count, blocks_of, stream_blocks}
use Rattle.stream_laws.specs.Sharing.{runs_in}
use Rattle.stream_laws.proofs.Placing.{lies}

-- ---- by number

element : (f : ℕ → Block) (a n i : ℕ) (b : Block) → slice_get (map f (range_with_len a n)) i ≡ Some b → f (a + i) ≡ b
element f a zero i b is = absurd cc
element f a (suc n) zero b is = (let first : f a ≡ b = cc in ap f (omega arith) ∙ first)
element f a (suc n) (suc i) b is = ap f (omega arith) ∙ element f (a + 1) n i b is

-- it is the one past the end of every disk, or lies in the runs
void_or_there : (per : ℕ) (e : Extents) (i : ℕ) (b : Block) → index_block per e i ≡ b → (b ≡ void_block) ⊎ (block_at per e.runs Index i ≡ Some b)
unfolding index_block
void_or_there per e i b is = by_test (leb e.initialised (4096 * i)) (block_at per e.runs Index i) is
  where
    by_test : (t : Bool) (o : Option Block) → cond t void_block (or_void o) ≡ b → (b ≡ void_block) ⊎ (o ≡ Some b)
    by_test true o is = inl (sym is)
    by_test false None is = inl (sym is)
    by_test false (Some x) is = inr (ap Some is)

pub in_stream : (per : ℕ) (o : Option Stream) (i : ℕ) (b : Block) → slice_get (stream_blocks per o) i ≡ Some b → (b ≡ void_block) ⊎ (block_at per (runs_in o) Index i ≡ Some b)
unfolding blocks_of
in_stream per None i b is = absurd cc
in_stream per (Some (Held value)) i b is = absurd cc
in_stream per (Some (Placed e)) i b is = (let same : i ≡ 0 + i = omega arith in void_or_there per e i b (ap (index_block per e) same ∙ element (index_block per e) 0 (block_count per e) i b is))

-- ---- by VCN

passed : (test : Bool) (o : Option Block) (b : Block) → (if test then o else None) ≡ Some b → o ≡ Some b
passed true o b is = is
passed false o b is = absurd cc

pub numbered : (p : Place) (v : ℕ) (b : Block) → node_block p v ≡ Some b → slice_get p.blocks (number_of p v) ≡ Some b
unfolding node_block
numbered p v b is = passed (nat_lt 0 p.step && v % p.step == 0) (slice_get p.blocks (number_of p v)) b is

pub is_held : (o : Option Block) (b : Block) → o ≡ Some b → is_some o ≡ true
is_held o b is = ap is_some is

pub is_index : (per : ℕ) (o : Option Stream) (i : ℕ) (b : Block) → (b ≡ void_block) ⊎ (block_at per (runs_in o) Index i ≡ Some b) → b.kind ≡ Index
is_index per o i b which = elim which [
  | inl void ↦ ap (λ (x : Block). x.kind) void
  | inr there ↦ sym (lies per (runs_in o) Index i b there).kind_is
]

-- ---- a node has its own VCN

pub says_number : (v : ℕ) (b : BodyOf) (entries : List Raw) → node_of_body v b ≡ Ok entries → field 0x10 8 b.bytes ≡ v
unfolding node_of_body
says_number v b entries is = eqb-true (field 0x10 8 b.bytes) v (by_tests (is_index_body b) (field 0x10 8 b.bytes == v) is)
  where
    by_tests : (s t : Bool) → (needs s 1 >>= λ _. needs t 2 >>= λ _. entries_of_node (node_at b.bytes)) ≡ Ok entries → t ≡ true
    by_tests true true is = refl
    by_tests true false is = absurd cc
    by_tests false t is = absurd cc

pub node_number : (c : Content) (p : Place) (v : ℕ) (b : Block) (entries : List Raw) → node_block p v ≡ Some b → node_of_block c p v ≡ Ok entries → field 0x10 8 (c b).bytes ≡ v
unfolding node_of_block
node_number c p v b entries at is = says_number v (c b) entries (sym (ap (node_of_part c v) at) ∙ is)

-- ---- the nodes of a tree are read

module _ (nodes : ℕ → Option (List Raw)) (v : ℕ) where
  pub node_of_tree : (t : Tree) → Stands nodes t → 0 < held v t → (entries : List Raw) × (nodes v ≡ Some entries)
  node_of_tree Leaf stands has = absurd (omega (arith, has))
  node_of_tree (Down w t) stands has = elim (cases_eq v w) [
    | inl is ↦ (raws_of t, ap nodes is ∙ stands.0)
    | inr other ↦ (let none = same_not v w other in node_of_tree t stands.1 (omega (arith, has, none)))
  ]
  node_of_tree (Entry key rest) stands has = node_of_tree rest stands has
  node_of_tree (DownEntry w t key rest) stands has = elim (cases_eq v w) [
    | inl is ↦ (raws_of t, ap nodes is ∙ stands.0)
    | inr other ↦ (
        let none = same_not v w other in
        elim (cases_lt 0 (held v t)) [
          | inl first ↦ node_of_tree t stands.1 first
          | inr second ↦ node_of_tree rest stands.2 (omega (arith, has, none, second))
        ])
  ]
