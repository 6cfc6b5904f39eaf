-- An index that has grown behind the file table, or first, below the root from before.
use Rattle.std.proofs.Common.{◌≡◌, ℕ, ◌+◌, ◌*◌, ◌<◌, ◌≤◌, Bool, false, cond, leb, List, [], Option, Some, Result, Ok, Err, refl, sym, ap, subst, ◌∙◌, arith}
use Rattle.disk_model.specs.declared.block.Block.{Block}
use Rattle.disk_model.specs.declared.block.BlockKind.TheVariants.{Index}
use Rattle.disk_model.specs.Content.{Content, HasSizes}
use Rattle.std.proofs.lemmas.Bool.{lt-leb}
use Rattle.record_model.specs.declared.entry.Entry.{Entry as Raw}
use Rattle.record_model.specs.declared.runs.Run.{Run}
use Rattle.record_model.specs.Constants.{data_type}
use Rattle.record_model.specs.Pairs.{cluster_limit}
use Rattle.record_model.specs.Records.{Record}
use Rattle.index_model.specs.Indexes.{node_of_block, nodes_of, some_entries, is_index_body}
use Rattle.state_model.specs.declared.geometry.Geometry.{Geometry}
use Rattle.state_model.specs.declared.stream.Extents.{Extents}
use Rattle.state_model.specs.declared.stream.Stream.{Stream}
use Rattle.state_model.specs.declared.stream.Stream.TheVariants.{Placed}
use Rattle.state_model.specs.Streams.{block_at}
use Rattle.volume_model.specs.Indexes.{void_block, or_void, index_block, index_stream, index_place}
use Rattle.volume_model.specs.Volumes.{Volume, file_in, file_stream, bytes_or, table_or_standard, upcase_file, upper_of, size_or}
use Rattle.upcase_order.specs.Tables.{upcase_of}
use Rattle.stream_laws.specs.Owners.{initialised_in}
use Rattle.stream_laws.specs.Sharing.{runs_in}
use Rattle.tree_laws.specs.Contents.{SameUpper}
use Rattle.tree_laws.proofs.Agreeing.{same_upper}
use Rattle.plan_owners.specs.States.{Stands}
use Rattle.plan_bodies.specs.Bodies.{NewBody, content_with}
use Rattle.plan_draft.specs.declared.touched.Touched.{Touched}
use Rattle.plan_draft.specs.Touching.{bodies_of}
use Rattle.plan_draft.specs.Drafts.{drafted}
use Rattle.plan_bodies.proofs.Putting.{sized_with}
use Rattle.plan_blocks.specs.Blocks.{blocks_before, blocks_behind}
use Rattle.plan_blocks.proofs.Beside.{same_root}
use Rattle.plan_blocks.proofs.Enlarging.{puts, index_listed, index_leads, index_nodes, index_no_more}
use Rattle.index_places.specs.Places.{IsIndexBlock, IsInitialised}
use Rattle.index_places.proofs.Laying.{index_block_there}
use Rattle.made_trees.specs.plan_model.Informed.{with_record}
use Rattle.made_trees.proofs.written_values.Sparing.{elsewhere}
use Rattle.made_trees.specs.step_model.Placing.{Growth}
use Rattle.made_trees.specs.Grown.{KeepsIndex}
use Rattle.grown_indexes.specs.Next.{GrowsNext, IndexGrowsNext}
use Rattle.grown_indexes.specs.Raised.{RaisesNext}
use Rattle.grown_indexes.proofs.Behind as behind

-- ---- nodes that are read in both

same_some : (x y : Result (List Raw) ℕ) → ((e : List Raw) → x ≡ Ok e → y ≡ Ok e) → ((e : List Raw) → y ≡ Ok e → x ≡ Ok e) → some_entries x ≡ some_entries y
same_some (Ok e) y to from = sym (ap some_entries (to e refl))
same_some (Err a) (Ok e) to from = absurd (let same = from e refl in cc)
same_some (Err a) (Err b) to from = refl

upper_by : (c d : Content) (v w : Volume) → w.per ≡ v.per → file_in w upcase_file ≡ file_in v upcase_file → SameUpper c d v → upper_of d w ≡ upper_of c v
unfolding upper_of
upper_by c d v w per same bytes =
    ap (λ (o : Option Record). table_or_standard (upcase_of (bytes_or d w.per (file_stream data_type [] o)))) same
    ∙ ap (λ (e : ℕ). table_or_standard (upcase_of (bytes_or d e (file_stream data_type [] (file_in v upcase_file))))) per
    ∙ same_upper c d v bytes

module _ (c : Content) (g : Geometry) (clusters : ℕ) (v : Volume) (n : ℕ) (r : Record) (growths : List Growth) (u : Volume) (grown : List Touched) (runs : List Run) (size : ℕ) (q : Record) (bodies : List NewBody) (new : List Touched) (sized : HasSizes c) (eight : g.per_cluster ≡ 8) (few : u.clusters ≤ cluster_limit) (state : Stands c g clusters v)
    (k : GrowsNext c g clusters v n r growths u grown runs size q bodies new) where
  abbrev first : Content
  first = drafted grown c

  abbrev last : Content
  last = drafted new c

  abbrev w : Volume
  w = with_record u n q

  abbrev e : Extents
  e = blocks_before r

  abbrev f : Extents
  f = blocks_behind u.per r runs size size

  sized_first : HasSizes first
  sized_first = sized_with c (bodies_of grown) sized

  state_first : Stands first g clusters u
  state_first = subst (λ (y : Content). Stands y g clusters u) k.before.content k.before.draft.stands

  -- it is an edit by which the root may be another one, and isn't
  pub raises : RaisesNext c g clusters v n r growths u grown runs size q q bodies new
  raises = record {
    before = k.before;
    table = k.table;
    kept = k.kept;
    edits = k.edits;
    raises = record { puts = puts first g clusters u n r runs size size q bodies sized_first eight state_first k.grows; lists = index_listed first g clusters u n r runs size size q bodies sized_first eight state_first k.grows };
    some = k.some;
    are_chosen = k.are_chosen;
    no_place = k.no_place;
  }

  now_stream : index_stream q ≡ Some (Placed f)
  now_stream = k.grows.written.blocks

  upper : upper_of last w ≡ upper_of first u
  upper =
      let bytes : SameUpper first last u = subst (λ (y : Content). SameUpper first y u) k.edits.content (index_leads first g clusters u n r runs size size q bodies sized_first eight state_first k.grows).agrees.upper in
      upper_by first last u w refl (elsewhere u n upcase_file q (λ is. k.grows.apart.upcase (sym is))) bytes

  fresh : (i : ℕ) → e.initialised ≤ 4096 * i → 4096 * (i + 1) ≤ size → is_index_body (last (index_block u.per f i)) ≡ false
  unfolding index_block
  fresh i past inside =
      let initialised : IsInitialised q i = record {
        begins = subst (λ (o : Option Stream). 4096 * i < initialised_in o) (sym now_stream) (omega (arith, inside));
        whole = subst (λ (o : Option Stream). 4096 * (i + 1) ≤ size_or o) (sym now_stream) inside;
      }
      in
      let there : IsIndexBlock w.per q i = index_block_there last g clusters w n q i (behind.state_last c g clusters v n r growths u grown runs size q q bodies new sized eight few state raises) eight few (behind.file_w c g clusters v n r growths u grown runs size q q bodies new sized eight few state raises) (behind.directory c g clusters v n r growths u grown runs size q q bodies new sized eight few state raises) initialised in
      let lies : block_at u.per f.runs Index i ≡ Some there.block = sym (ap (λ (o : Option Stream). block_at u.per (runs_in o) Index i) now_stream) ∙ there.lies in
      let begins : leb size (4096 * i) ≡ false = lt-leb size (4096 * i) (omega (arith, inside)) in
      ap (λ (t : Bool). is_index_body (last (cond t void_block (or_void (block_at u.per f.runs Index i))))) begins
      ∙ ap (λ (o : Option Block). is_index_body (last (or_void o))) lies
      ∙ k.empty there.block (i, (lies, past, omega (arith, inside)))

  nodes : (i : ℕ) → nodes_of (node_of_block last (index_place w.per q)) i ≡ nodes_of (node_of_block first (index_place u.per r)) i
  nodes i =
      let to = index_nodes first g clusters u n r runs size size q bodies sized_first eight state_first k.grows (λ x. 1) i in
      let none : (j : ℕ) → e.initialised ≤ 4096 * j → 4096 * (j + 1) ≤ size → is_index_body (content_with first bodies (index_block u.per f j)) ≡ false = subst (λ (y : Content). (j : ℕ) → e.initialised ≤ 4096 * j → 4096 * (j + 1) ≤ size → is_index_body (y (index_block u.per f j)) ≡ false) (sym k.edits.content) fresh in
      let from = index_no_more first g clusters u n r runs size size q bodies sized_first eight state_first k.grows (omega arith) k.whole none (λ x. 1) i in
      let both : some_entries (node_of_block (content_with first bodies) (index_place u.per q) i) ≡ some_entries (node_of_block first (index_place u.per r) i) = same_some _ _ (λ x. from x (omega arith)) (λ x. to x (omega arith)) in
      sym (ap (λ (y : Content). some_entries (node_of_block y (index_place u.per q) i)) k.edits.content) ∙ both

  pub index : KeepsIndex c v r last w q
  index = record {
    upper = upper ∙ k.index.upper;
    root = same_root r q f k.grows.written (behind.reads c g clusters v n r growths u grown runs size q q bodies new sized eight few state raises) ∙ k.index.root;
    nodes = λ i. nodes i ∙ k.index.nodes i;
  }

pub grows_next : IndexGrowsNext
grows_next c g clusters v n r growths u grown runs size q bodies new sized eight few state k = (
  behind.next c g clusters v n r growths u grown runs size q q bodies new sized eight few state (raises c g clusters v n r growths u grown runs size q bodies new sized eight few state k),
  index c g clusters v n r growths u grown runs size q bodies new sized eight few state k,
)
