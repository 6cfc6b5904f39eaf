-- The blocks of an index whose clusters and sizes grow: those that it had stay at their places.
use Rattle.std.proofs.Common.{◌≡◌, ◌⊎◌, ℕ, zero, suc, ◌+◌, ◌*◌, ◌/◌, ◌%◌, ◌<◌, ◌≤◌, Bool, true, false, ◌&&◌, cond, eqb, leb, ltb, min, List, ◌∷◌, ◌++◌, Option, Some, None, Result, Ok, Err, refl, sym, ap, ap₂, subst, ◌∙◌, inl, inr, arith}
use Rattle.std.specs.Prelude.{map}
use Rattle.std.specs.List.{list_all, list_any, range_with_len, slice_get}
use Rattle.std.proofs.lemmas.Bool.{cases_lt, or_parts, and_parts, and_from, le-leb, lt-leb, eq-eqb}
use Rattle.disk_model.specs.declared.block.Block.{Block}
use Rattle.disk_model.specs.declared.block.BlockKind.TheVariants.{Index}
use Rattle.disk_model.specs.Sectors.{sectors}
use Rattle.disk_model.specs.Bodies.{BodyOf}
use Rattle.disk_model.specs.Content.{Content}
use Rattle.record_model.specs.declared.entry.Entry.{Entry}
use Rattle.record_model.specs.declared.runs.Run.{Run}
use Rattle.record_model.specs.Pairs.{cluster_limit, HasSpelling}
use Rattle.index_model.specs.Indexes.{Place, node_block, node_of_body, node_of_part, node_of_block, is_index_body, some_entries, nodes_of}
use Rattle.index_model.specs.Laws.{HoldsIndex}
use Rattle.index_model.specs.Walks.{Broken, walk_of}
use Rattle.index_model.proofs.WalkLaw.{passed_walk, walk_passes}
use Rattle.file_tree.specs.declared.link.Link.{Link}
use Rattle.index_model.specs.Trees.{Tree, Leaf, Down, Entry as TreeEntry, DownEntry, Stands, raws_of}
use Rattle.plan_edits.specs.index_change.NodePlans.{KeepsNodes}
use Rattle.state_model.specs.declared.stream.Extents.{Extents}
use Rattle.state_model.specs.declared.stream.Stream.{Stream}
use Rattle.state_model.specs.declared.stream.Stream.TheVariants.{Held, Placed}
use Rattle.state_model.specs.Loads.{extents_or, no_extents, total_clusters}
use Rattle.state_model.specs.Streams.{block_at}
use Rattle.volume_model.specs.Indexes.{links_read, links_below, void_block, or_void, index_block, block_count, blocks_of, stream_blocks}
use Rattle.volume_model.specs.Sizes.{lies_inside, has_sizes, fits_volume}
use Rattle.stream_runs.specs.Laws.{InOneCluster}
use Rattle.stream_runs.specs.Runs.{grown}
use Rattle.stream_runs.proofs.Merging.{follow-grown}
use Rattle.stream_runs.proofs.Places.{places-grown}
use Rattle.plan_edits.specs.resized_streams.Resizing.{lengthened, with_sizes}
use Rattle.plan_edits.proofs.plan_growth.Runs.{grown_inside, end_is_total}
use Rattle.plan_edits.proofs.plan_growth.Ruled.{sizes_lawful}
use Rattle.plan_edits.proofs.plan_growth.Alike.{one_cluster}
use Rattle.plan_blocks.specs.Blocks.{SizesRise}

-- the extents of a stream that fits fit, also where it has none
pub extents_fit : (per clusters : ℕ) (o : Option Stream) → fits_volume per clusters o ≡ true → fits_volume per clusters (Some (Placed (extents_or o))) ≡ true
extents_fit per clusters None fits = eq-eqb 0 (0 * (512 * per)) (omega arith)
extents_fit per clusters (Some (Held value)) fits = eq-eqb 0 (0 * (512 * per)) (omega arith)
extents_fit per clusters (Some (Placed e)) fits = fits

-- at eight sectors a cluster an index block begins in the cluster with its number
in_cluster : (per total m : ℕ) → per ≡ 8 → m < total → sectors Index * m / per < total
in_cluster per total m eight = subst (λ (p : ℕ). m < total → 8 * m / p < total) (sym eight) (λ low. omega (arith, low))

-- how many blocks there are by the real size
counted : (per total real : ℕ) → per ≡ 8 → real ≤ total * (512 * per) → min (real / 4096) (total * per / 8) ≡ real / 4096
counted per total real eight = subst (λ (p : ℕ). real ≤ total * (512 * p) → min (real / 4096) (total * p / 8) ≡ real / 4096) (sym eight) (λ least. omega (arith, least))

in_total : (per total initialised m : ℕ) → per ≡ 8 → initialised ≤ total * (512 * per) → 4096 * m < initialised → m < total
in_total per total initialised m eight = subst (λ (p : ℕ). initialised ≤ total * (512 * p) → 4096 * m < initialised → m < total) (sym eight) (λ least low. omega (arith, least, low))

pub count_is : (per : ℕ) (e : Extents) → per ≡ 8 → HasSpelling 0 e.runs → e.real ≤ total_clusters e.runs * (512 * per) → block_count per e ≡ e.real / 4096
unfolding block_count
count_is per e eight spelled high = ap (λ (x : ℕ). min (e.real / 4096) (x * per / 8)) (end_is_total e.runs spelled) ∙ counted per (total_clusters e.runs) e.real eight high

-- a block in the clusters that a stream had lies where it lay
pub place_in : (per : ℕ) (runs more : List Run) (m : ℕ) → per ≡ 8 → HasSpelling 0 runs → HasSpelling 0 more → total_clusters runs + total_clusters more ≤ cluster_limit → m < total_clusters runs → block_at per (grown runs more) Index m ≡ block_at per runs Index m
place_in per runs more m eight spelled others room had =
    places-grown per runs more Index m spelled others room (subst (λ (p : ℕ). InOneCluster p Index m) (sym eight) (one_cluster Index m)) (in_cluster per (total_clusters runs) m eight had)

module _ (per clusters : ℕ) (e : Extents) (more : List Run) (real initialised : ℕ) (eight : per ≡ 8) (fits : fits_volume per clusters (Some (Placed e)) ≡ true) (spelled : HasSpelling 0 e.runs) (more_spelled : HasSpelling 0 more) (room : total_clusters e.runs + total_clusters more ≤ cluster_limit)
    (rise : SizesRise e (with_sizes real initialised (lengthened per more e))) where
  abbrev f : Extents
  f = with_sizes real initialised (lengthened per more e)

  old_sizes : (e.initialised ≤ e.real) × (e.real ≤ total_clusters e.runs * (512 * per))
  old_sizes = sizes_lawful per clusters e fits

  new_sizes : f.real ≤ total_clusters f.runs * (512 * per)
  new_sizes = rise.room

  pub spelled_now : HasSpelling 0 f.runs
  spelled_now = follow-grown e.runs more spelled more_spelled room

  pub fits_now : list_all (lies_inside clusters) more ≡ true → fits_volume per clusters (Some (Placed f)) ≡ true
  fits_now inside =
      let parts = and_parts (list_all (lies_inside clusters) e.runs) (has_sizes per e) fits in
      and_from _ _ (grown_inside clusters e.runs more parts.0 inside) (and_from _ _ (and_from _ _ (le-leb initialised real rise.lawful) (le-leb real f.allocated rise.room)) (eq-eqb f.allocated f.allocated refl))

  -- blocks that begin below the old initialised size lie where they lay
  pub place_kept : (m : ℕ) → 4096 * m < e.initialised → block_at per f.runs Index m ≡ block_at per e.runs Index m
  place_kept m low =
      let first = old_sizes.0 in
      let second = old_sizes.1 in
      let within : m < total_clusters e.runs = in_total per (total_clusters e.runs) e.real m eight second (omega (arith, low, first)) in
      place_in per e.runs more m eight spelled more_spelled room within

  pub count_before : block_count per e ≡ e.real / 4096
  count_before = count_is per e eight spelled old_sizes.1

  pub count_now : block_count per f ≡ real / 4096
  count_now = count_is per f eight spelled_now new_sizes

  pub count_rises : block_count per e ≤ block_count per f
  count_rises = let was = count_before in let is = count_now in let more_real = rise.real in omega (arith, was, is, more_real)

  pub block_kept : (i : ℕ) → 4096 * i < e.initialised → index_block per f i ≡ index_block per e i
  unfolding index_block
  block_kept i low =
      let up = rise.initialised in
      let before : leb e.initialised (4096 * i) ≡ false = lt-leb e.initialised (4096 * i) low in
      let after : leb initialised (4096 * i) ≡ false = lt-leb initialised (4096 * i) (omega (arith, low, up)) in
      ap (λ (t : Bool). cond t void_block (or_void (block_at per f.runs Index i))) after ∙ ap or_void (place_kept i low) ∙ sym (ap (λ (t : Bool). cond t void_block (or_void (block_at per e.runs Index i))) before)

  pub block_void : (i : ℕ) → e.initialised ≤ 4096 * i → index_block per e i ≡ void_block
  unfolding index_block
  block_void i past = ap (λ (t : Bool). cond t void_block (or_void (block_at per e.runs Index i))) (le-leb e.initialised (4096 * i) past)

-- ---- lists of blocks by number

pub get_of : (g : ℕ → Block) (a n i : ℕ) → i < n → slice_get (map g (range_with_len a n)) i ≡ Some (g (a + i))
get_of g a zero i low = absurd (omega (arith, low))
get_of g a (suc n) zero low = ap (λ (x : ℕ). Some (g x)) (omega arith)
get_of g a (suc n) (suc i) low = get_of g (a + 1) n i (omega (arith, low)) ∙ ap (λ (x : ℕ). Some (g x)) (omega arith)

pub get_past : (g : ℕ → Block) (a n i : ℕ) → n ≤ i → slice_get (map g (range_with_len a n)) i ≡ None
get_past g a zero i past = refl
get_past g a (suc n) zero past = absurd (omega (arith, past))
get_past g a (suc n) (suc i) past = get_past g (a + 1) n i (omega (arith, past))

get_here : (g : ℕ → Block) (n i : ℕ) → i < n → slice_get (map g (range_with_len 0 n)) i ≡ Some (g i)
get_here g n i low = get_of g 0 n i low ∙ ap (λ (x : ℕ). Some (g x)) (omega arith)

-- a longer list of blocks, of which the first are the same, goes on behind the shorter one
pub goes_behind : (f g : ℕ → Block) (a n more : ℕ) → ((i : ℕ) → a ≤ i → i < a + n → f i ≡ g i) → map f (range_with_len a (n + more)) ≡ map g (range_with_len a n) ++ map f (range_with_len (a + n) more)
goes_behind f g a zero more same = ap₂ (λ (x y : ℕ). map f (range_with_len x y)) (omega arith) (omega arith)
goes_behind f g a (suc n) more same =
    let next : suc n + more ≡ suc (n + more) = omega arith in
    let begin : a + 1 + n ≡ a + suc n = omega arith in
    ap (λ (x : ℕ). map f (range_with_len a x)) next
    ∙ ap₂ (λ (b : Block) (l : List Block). b ∷ l) (same a (omega arith) (omega arith)) (goes_behind f g (a + 1) n more (λ i low high. same i (omega (arith, low)) (omega (arith, high))))
    ∙ ap (λ (x : ℕ). map g (range_with_len a (suc n)) ++ map f (range_with_len x more)) begin

-- ---- tests of places by number

-- no place passes where none of the list does
pub none_at : (p : ℕ → Bool) (a n i : ℕ) → list_any p (range_with_len a n) ≡ false → a ≤ i → i < a + n → p i ≡ false
none_at p a zero i none low high = absurd (omega (arith, low, high))
none_at p a (suc n) i none low high =
    let parts = or_parts (p a) (list_any p (range_with_len (a + 1) n)) none in
    elim (cases_lt a i) [
      | inl behind ↦ none_at p (a + 1) n i parts.1 (omega (arith, behind)) (omega (arith, high))
      | inr here ↦ (let same : i ≡ a = omega (arith, low, here) in ap p same ∙ parts.0)
    ]

-- ---- nodes

some_read : (r : Result (List Entry) ℕ) (raws : List Entry) → some_entries r ≡ Some raws → r ≡ Ok raws
some_read (Ok entries) raws is = cc
some_read (Err rule) raws is = absurd cc

nodes_stand : (nodes others : ℕ → Option (List Entry)) (t : Tree) → ((v : ℕ) (raws : List Entry) → nodes v ≡ Some raws → others v ≡ Some raws) → Stands nodes t → Stands others t
nodes_stand nodes others Leaf keep is = is
nodes_stand nodes others (Down v t) keep is = (keep v (raws_of t) is.0, nodes_stand nodes others t keep is.1)
nodes_stand nodes others (TreeEntry key rest) keep is = nodes_stand nodes others rest keep is
nodes_stand nodes others (DownEntry v t key rest) keep is = (keep v (raws_of t) is.0, nodes_stand nodes others t keep is.1, nodes_stand nodes others rest keep is.2)

-- an index whose place keeps all nodes still stands
pub index_stands : (c d : Content) (p q : Place) (upper value : List ℕ) (t : Tree) → KeepsNodes c p d q (λ v. 1) → HoldsIndex c p upper value t → HoldsIndex d q upper value t
index_stands c d p q upper value t keep h = record {
  entries = h.entries;
  root_read = h.root_read;
  is_index = record {
    root_is = h.is_index.root_is;
    stands = nodes_stand (nodes_of (node_of_block c p)) (nodes_of (node_of_block d q)) t (λ v raws is. ap some_entries (keep v raws (omega arith) (some_read (node_of_block c p v) raws is))) h.is_index.stands;
    once = h.is_index.once;
    height = h.is_index.height;
    ordered = h.is_index.ordered;
  };
}

-- what is no index block is no node
no_node : (v : ℕ) (c : Content) → is_index_body (c void_block) ≡ false → (entries : List Entry) → node_of_body v (c void_block) ≡ Ok entries → ⊥
unfolding node_of_body
no_node v c none entries is = (let never = rw none at is in absurd cc)

-- Nodes of two lists of blocks by number, where the body of each block of the first is the same in both contents, and the second has it at
-- its number unless it is past the end of every disk, where nothing is a node.
module _ (c d : Content) (g f : ℕ → Block) (n m step : ℕ) (less : n ≤ m) (same : (i : ℕ) → i < n → (f i ≡ g i) ⊎ ((g i ≡ void_block) × (is_index_body (c void_block) ≡ false))) (bodies : (i : ℕ) → i < n → d (g i) ≡ c (g i)) where
  abbrev p : Place
  p = record { blocks = map g (range_with_len 0 n); step = step }

  abbrev q : Place
  q = record { blocks = map f (range_with_len 0 m); step = step }

  by_number : (v i : ℕ) (entries : List Entry) → node_of_part c v (slice_get (map g (range_with_len 0 n)) i) ≡ Ok entries → node_of_part d v (slice_get (map f (range_with_len 0 m)) i) ≡ Ok entries
  by_number v i entries is = elim (cases_lt i n) [
    | inl low ↦
        (let was : node_of_body v (c (g i)) ≡ Ok entries = sym (ap (node_of_part c v) (get_here g n i low)) ∙ is in
        let high : i < m = omega (arith, low, less) in
        elim (same i low) [
          | inl stays ↦ ap (node_of_part d v) (get_here f m i high) ∙ ap (λ (b : Block). node_of_body v (d b)) stays ∙ ap (node_of_body v) (bodies i low) ∙ was
          | inr void ↦ absurd (no_node v c void.1 entries (sym (ap (λ (b : Block). node_of_body v (c b)) void.0) ∙ was))
        ])
    | inr past ↦ (let none : node_of_part c v None ≡ Ok entries = sym (ap (node_of_part c v) (get_past g 0 n i past)) ∙ is in absurd cc)
  ]

  by_test : (t : Bool) (v i : ℕ) (entries : List Entry) → node_of_part c v (cond t (slice_get (map g (range_with_len 0 n)) i) None) ≡ Ok entries → node_of_part d v (cond t (slice_get (map f (range_with_len 0 m)) i) None) ≡ Ok entries
  by_test true v i entries is = by_number v i entries is
  by_test false v i entries is = absurd cc

  pub keeps_nodes : (count : ℕ → ℕ) → KeepsNodes c p d q count
  unfolding node_of_block node_block
  keeps_nodes count v entries here is = by_test (ltb 0 step && eqb (v % step) 0) v (cond (eqb step 0) 0 (v / step)) entries is

pub no_body : (v : ℕ) (b : BodyOf) → is_index_body b ≡ false → (entries : List Entry) → node_of_body v b ≡ Ok entries → ⊥
unfolding node_of_body
no_body v b none entries is = (let never = rw none at is in absurd cc)

-- Nodes of two lists of blocks by number, where each block of the second that isn't the one of the first at its number, with the same body, is no
-- index block.
module _ (c d : Content) (g f : ℕ → Block) (n m step : ℕ) (each : (i : ℕ) → i < m → ((i < n) × (f i ≡ g i) × (d (g i) ≡ c (g i))) ⊎ (is_index_body (d (f i)) ≡ false)) where
  abbrev fewer : Place
  fewer = record { blocks = map g (range_with_len 0 n); step = step }

  abbrev all : Place
  all = record { blocks = map f (range_with_len 0 m); step = step }

  back_number : (v i : ℕ) (entries : List Entry) → node_of_part d v (slice_get (map f (range_with_len 0 m)) i) ≡ Ok entries → node_of_part c v (slice_get (map g (range_with_len 0 n)) i) ≡ Ok entries
  back_number v i entries is = elim (cases_lt i m) [
    | inl low ↦
        (let now : node_of_body v (d (f i)) ≡ Ok entries = sym (ap (node_of_part d v) (get_here f m i low)) ∙ is in
        elim (each i low) [
          | inl stays ↦ ap (node_of_part c v) (get_here g n i stays.0) ∙ ap (node_of_body v) (sym stays.2) ∙ ap (λ (b : Block). node_of_body v (d b)) (sym stays.1) ∙ now
          | inr none ↦ absurd (no_body v (d (f i)) none entries now)
        ])
    | inr past ↦ (let none : node_of_part d v None ≡ Ok entries = sym (ap (node_of_part d v) (get_past f 0 m i past)) ∙ is in absurd cc)
  ]

  back_test : (t : Bool) (v i : ℕ) (entries : List Entry) → node_of_part d v (cond t (slice_get (map f (range_with_len 0 m)) i) None) ≡ Ok entries → node_of_part c v (cond t (slice_get (map g (range_with_len 0 n)) i) None) ≡ Ok entries
  back_test true v i entries is = back_number v i entries is
  back_test false v i entries is = absurd cc

  pub nodes_back : (count : ℕ → ℕ) → KeepsNodes d all c fewer count
  unfolding node_of_block node_block
  nodes_back count v entries here is = back_test (ltb 0 step && eqb (v % step) 0) v (cond (eqb step 0) 0 (v / step)) entries is

-- ---- the names

walk_read : (r : Result (List Link) Broken) (links : List Link) → links_read r ≡ Some links → r ≡ Ok links
walk_read (Ok found) links is = cc
walk_read (Err broken) links is = absurd cc

-- an index whose place keeps all nodes lists what it listed
pub links_kept : (c d : Content) (p q : Place) (upper : List ℕ) (value : Option (List ℕ)) (links : List Link) → KeepsNodes c p d q (λ v. 1) → links_below c p upper value ≡ Some links → links_below d q upper value ≡ Some links
links_kept c d p q upper None links keep is = absurd cc
links_kept c d p q upper (Some value) links keep is =
    let passed = passed_walk c p upper value links (walk_read (walk_of c p upper value) links is) in
    ap links_read (walk_passes d q upper value passed.0 (index_stands c d p q upper value passed.0 keep passed.1) ∙ ap (λ (l : List Link). Ok l) (sym passed.2))

-- a directory's blocks by number, also where it has none
pub blocks_are : (per : ℕ) (o : Option Stream) → stream_blocks per o ≡ map (index_block per (extents_or o)) (range_with_len 0 (block_count per (extents_or o)))
unfolding block_count blocks_of
blocks_are per None = sym (ap (λ (n : ℕ). map (index_block per no_extents) (range_with_len 0 n)) (none_by (0 * per / 8)))
  where
    none_by : (x : ℕ) → min (0 / 4096) x ≡ 0
    none_by x = omega arith
blocks_are per (Some (Held value)) = sym (ap (λ (n : ℕ). map (index_block per no_extents) (range_with_len 0 n)) (none_by (0 * per / 8)))
  where
    none_by : (x : ℕ) → min (0 / 4096) x ≡ 0
    none_by x = omega arith
blocks_are per (Some (Placed e)) = refl
