-- A stream takes clusters that nobody has and whose bits are set.
use Rattle.std.proofs.Common.{◌≡◌, ◌⊎◌, ℕ, ◌+◌, ◌*◌, ◌/◌, ◌<◌, ◌≤◌, Bool, true, false, cond, leb, min, List, Option, Some, refl, sym, ap, subst, ◌∙◌, inl, inr, arith, length, take}
use Rattle.std.specs.Prelude.{map}
use Rattle.std.specs.List.{list_all, list_any, range_with_len}
use Rattle.std.proofs.lemmas.Bool.{cases_lt, and_parts, and_from, le-leb, eq-eqb}
use Rattle.std.proofs.lemmas.List.{take_all}
use Rattle.disk_model.specs.declared.block.Block.{Block}
use Rattle.disk_model.specs.declared.block.BlockKind.{BlockKind}
use Rattle.disk_model.specs.declared.block.BlockKind.TheVariants.{Plain, FileRec, Index}
use Rattle.disk_model.specs.Sectors.{sectors}
use Rattle.disk_model.specs.Content.{Content, HasSizes}
use Rattle.record_model.specs.declared.runs.Run.{Run}
use Rattle.record_model.specs.Records.{Record}
use Rattle.record_model.specs.Pairs.{cluster_limit, HasSpelling}
use Rattle.bit_set.specs.Bits.{bit}
use Rattle.state_model.specs.declared.geometry.Geometry.{Geometry}
use Rattle.state_model.specs.declared.stream.Extents.{Extents}
use Rattle.state_model.specs.declared.stream.Stream.{Stream}
use Rattle.state_model.specs.declared.stream.Stream.TheVariants.{Placed}
use Rattle.state_model.specs.Loads.{total_clusters}
use Rattle.state_model.specs.Streams.{block_at, extent_bytes}
use Rattle.volume_model.specs.Volumes.{Volume, bytes_or, cluster_bits, file_stream}
use Rattle.volume_model.specs.Indexes.{void_block, or_void, index_block, runs_end, block_count, blocks_of, stream_blocks}
use Rattle.volume_model.specs.Owners.{uses, volume_runs}
use Rattle.volume_model.specs.Sizes.{fits_volume, has_sizes, is_hole, lies_inside}
use Rattle.stream_laws.specs.Places.{AreOnce}
use Rattle.stream_laws.specs.Owners.{initialised_in, IsLive, stream_kind}
use Rattle.stream_laws.specs.Sharing.{runs_in, stream_at}
use Rattle.stream_laws.proofs.Changing.{length-extent_bytes}
use Rattle.stream_laws.proofs.Framing.{same_map}
use Rattle.stream_laws.proofs.Growing.{stream_cut as front_bytes}
use Rattle.stream_runs.specs.Laws.{InOneCluster}
use Rattle.stream_runs.proofs.Merging.{follow-grown}
use Rattle.stream_runs.proofs.Places.{places-grown}
use Rattle.resized_streams.specs.declared.resized.Resized.{Resized}
use Rattle.resized_streams.specs.Resizing.{IsGrown, lengthened}
use Rattle.plan_owners.specs.States.{Stands}
use Rattle.plan_bodies.specs.Bodies.{content_with, NewBody}
use Rattle.table_edits.specs.plan_model.Drafts.{IsPut}
use Rattle.table_edits.proofs.plan_model.Drafting.{per_is}
use Rattle.table_edits.specs.plan_growth.Streams.{IsOwnStream, IsWritten, key_of, marks_streams, PutsFile}
use Rattle.table_edits.proofs.plan_growth.Alike.{one_cluster, SamePlaces, untorn_alike}
use Rattle.table_edits.proofs.plan_growth.Growing.{counted, still_allocated, total-grown, uses-grown}
use Rattle.table_edits.proofs.plan_growth.Ruled.{sizes_lawful, stream_fits}
use Rattle.table_edits.proofs.plan_growth.Runs.{end_is_total, grown_inside, grown_whole}
use Rattle.table_edits.proofs.plan_table.Remade.{HasOther, placed_other}
use Rattle.bitmap_edits.proofs.OwnRuns.{MovesRuns, own_other, reads_stay}
use Rattle.bitmap_edits.proofs.Restreaming.{as_far, Follows, owned_once}

-- a block that begins below so many bytes of clusters lies in one of them
begins_in : (kind : BlockKind) (m total initialised : ℕ) → 512 * (sectors kind * m) < initialised → initialised ≤ total * (512 * 8) → sectors kind * m / 8 < total
begins_in kind m total initialised below within = omega (arith, below, within)

in_total : (per total initialised : ℕ) (kind : BlockKind) (m : ℕ) → per ≡ 8 → initialised ≤ total * (512 * per) → 512 * (sectors kind * m) < initialised → sectors kind * m / per < total
in_total per total initialised kind m eight =
    subst (λ (p : ℕ). initialised ≤ total * (512 * p) → 512 * (sectors kind * m) < initialised → sectors kind * m / p < total) (sym eight) (λ least begins. begins_in kind m total initialised begins least)

-- A stream takes these runs, of which nobody has a cluster and each bit is set; its file is put with them, and all bits stay.
pub record TakesSet (c : Content) (v : Volume) (n kind : ℕ) (name : List ℕ) (e : Extents) (r : Record) (more : List Run) (z : Resized) (s : Record) (bodies : List NewBody) : Type 0 where
  pub own : IsOwnStream v n kind name r (Placed e)
  pub spelled : HasSpelling 0 e.runs
  pub grown : IsGrown v.per kind name e r more z
  pub more_spelled : HasSpelling 0 more
  pub whole : list_any is_hole more ≡ false
  pub inside : list_all (lies_inside v.clusters) more ≡ true
  pub once : AreOnce more
  pub free : (x : ℕ) → 0 < uses more x → uses (volume_runs v.files) x ≡ 0
  pub set : (x : ℕ) → x < v.clusters → 0 < uses more x → bit (cluster_bits c v) x ≡ true
  pub room : total_clusters e.runs + total_clusters more ≤ cluster_limit
  pub written : IsWritten z.file s
  pub puts : PutsFile marks_streams v n s bodies
  pub marked : (x : ℕ) → x < v.clusters → bit (cluster_bits (content_with c bodies) v) x ≡ bit (cluster_bits c v) x

module _ (c : Content) (g : Geometry) (clusters : ℕ) (v : Volume) (n kind : ℕ) (name : List ℕ) (e : Extents) (r : Record) (more : List Run) (z : Resized) (s : Record) (bodies : List NewBody) (sized : HasSizes c) (eight : g.per_cluster ≡ 8) (state : Stands c g clusters v) (k : TakesSet c v n kind name e r more z s bodies) where
  abbrev f : Extents
  f = lengthened v.per more e

  abbrev d : Content
  d = content_with c bodies

  per_8 : v.per ≡ 8
  per_8 = per_is c g clusters v eight state

  old_fits : fits_volume v.per v.clusters (Some (Placed e)) ≡ true
  old_fits = stream_fits c g clusters v n kind name r (Placed e) state k.own

  old_inside : list_all (lies_inside v.clusters) e.runs ≡ true
  old_inside = (and_parts (list_all (lies_inside v.clusters) e.runs) (has_sizes v.per e) old_fits).0

  old_sizes : (e.initialised ≤ e.real) × (e.real ≤ total_clusters e.runs * (512 * v.per))
  old_sizes = sizes_lawful v.per v.clusters e old_fits

  total_now : total_clusters f.runs ≡ total_clusters e.runs + total_clusters more
  total_now = total-grown e.runs more

  below_end : e.initialised ≤ total_clusters e.runs * (512 * v.per)
  below_end = let low = old_sizes.0 in let high = old_sizes.1 in omega (arith, low, high)

  places : SamePlaces v.per e f
  places block_kind m begins =
      places-grown v.per e.runs more block_kind m k.spelled k.more_spelled k.room (subst (λ (p : ℕ). InOneCluster p block_kind m) (sym per_8) (one_cluster block_kind m)) (in_total v.per (total_clusters e.runs) e.initialised block_kind m per_8 below_end begins)

  new_fits : fits_volume v.per v.clusters (Some (Placed f)) ≡ true
  new_fits =
      let high : e.real ≤ f.allocated = subst (λ (x : ℕ). e.real ≤ x * (512 * v.per)) (sym total_now) (still_allocated v.per (total_clusters e.runs) (total_clusters more) e.real per_8 old_sizes.1) in
      and_from _ _ (grown_inside v.clusters e.runs more old_inside k.inside) (and_from _ _ (and_from _ _ (le-leb e.initialised e.real old_sizes.0) (le-leb e.real f.allocated high)) (eq-eqb f.allocated f.allocated refl))

  spelled_now : HasSpelling 0 f.runs
  spelled_now = follow-grown e.runs more k.spelled k.more_spelled k.room

  count_at : (runs : List Run) → HasSpelling 0 runs → e.real ≤ total_clusters runs * (512 * v.per) → min (e.real / 4096) (runs_end runs * v.per / 8) ≡ e.real / 4096
  count_at runs spelled high = ap (λ (x : ℕ). min (e.real / 4096) (x * v.per / 8)) (end_is_total runs spelled) ∙ counted v.per (total_clusters runs) e.real per_8 high

  same_count : block_count v.per f ≡ block_count v.per e
  unfolding block_count
  same_count =
      count_at f.runs spelled_now (subst (λ (x : ℕ). e.real ≤ x * (512 * v.per)) (sym total_now) (still_allocated v.per (total_clusters e.runs) (total_clusters more) e.real per_8 old_sizes.1))
      ∙ sym (count_at e.runs k.spelled old_sizes.1)

  same_index_block : (i : ℕ) → index_block v.per f i ≡ index_block v.per e i
  unfolding index_block
  same_index_block i = elim (cases_lt (4096 * i) e.initialised) [
    | inl begins ↦ ap (λ (o : Option Block). cond (leb e.initialised (4096 * i)) void_block (or_void o)) (places Index i (omega (arith, begins)))
    | inr past ↦
        (let yes = le-leb e.initialised (4096 * i) past in
        ap (λ (t : Bool). cond t void_block (or_void (block_at v.per f.runs Index i))) yes ∙ sym (ap (λ (t : Bool). cond t void_block (or_void (block_at v.per e.runs Index i))) yes))
  ]

  same_blocks : stream_blocks v.per (Some (Placed f)) ≡ stream_blocks v.per (Some (Placed e))
  unfolding blocks_of
  same_blocks = ap (λ (x : ℕ). map (index_block v.per f) (range_with_len 0 x)) same_count ∙ same_map (index_block v.per f) (index_block v.per e) 0 (block_count v.per e) (λ i low high. same_index_block i)

  follows : Follows d v n kind name (Placed e) (Placed f)
  follows = record {
    holes = λ none. grown_whole e.runs more none k.whole;
    records = λ mirror type alike. untorn_alike d v.per FileRec 1024 e f refl (omega arith) places;
    nodes = λ type alike. untorn_alike d v.per Index 4096 e f refl (omega arith) places;
    blocks = λ same alike. same_blocks;
    no_entries = k.own.no_entries;
    limits = λ same. (e, f, (refl, refl));
  }

  once_now : (x : ℕ) → x < v.clusters → uses (volume_runs v.files) x + uses f.runs x ≤ 1 + uses e.runs x
  once_now x low =
      let sum = uses-grown e.runs more x in
      let most = owned_once c g clusters v x state low in
      let one = k.once x in
      elim (cases_lt 0 (uses more x)) [
        | inl some ↦ (let none = k.free x some in omega (arith, sum, one, none))
        | inr none ↦ omega (arith, sum, most, none)
      ]

  stream_before : stream_at v (key_of n kind name) ≡ Some (Placed e)
  stream_before = ap (file_stream kind name) k.own.file ∙ k.own.stream

  -- a block of it that is live was so
  live_so : (m : ℕ) (b : Block) → block_at v.per f.runs (stream_kind (key_of n kind name)) m ≡ Some b → 512 * (sectors (stream_kind (key_of n kind name)) * m) < f.initialised → IsLive v b ⊎ IsPut bodies b
  live_so m b lies begins =
      inl
      (record {
        owned = record { stream = key_of n kind name; number = m; lies = ap (λ (o : Option Stream). block_at v.per (runs_in o) (stream_kind (key_of n kind name)) m) stream_before ∙ sym (places (stream_kind (key_of n kind name)) m begins) ∙ lies };
        begins = subst (λ (o : Option Stream). 512 * (sectors (stream_kind (key_of n kind name)) * m) < initialised_in o) (sym stream_before) (omega (arith, begins));
      })

  pub takes_runs : MovesRuns c v n kind name (Placed e) (lengthened v.per more e) r z.file s bodies
  takes_runs = record {
    own = k.own;
    one = subst (HasOther v.per v.clusters kind name (Placed e) (Placed f) r) (sym k.grown.file) (placed_other v.per v.clusters kind name e f r (own_other v n kind name r (Placed e) k.own) spelled_now k.own.stream);
    written = k.written;
    whole = k.puts.whole;
    anew = k.puts.anew;
    each = as_far v n bodies k.puts.each;
    marked = k.marked;
    fits = new_fits;
    follows = follows;
    once = once_now;
    set = λ x low some none. k.set x low (let sum = uses-grown e.runs more x in omega (arith, sum, some, none));
    live = live_so;
  }

  all_front : (bytes : List ℕ) (size : ℕ) → length bytes ≡ size → take size bytes ≡ bytes
  all_front bytes size is = take_all size bytes (omega (arith, is))

  pub grown_reads : marks_streams (key_of n kind name) ≡ false → bytes_or (content_with c bodies) v.per (Some (Placed (lengthened v.per more e))) ≡ bytes_or c v.per (stream_at v (key_of n kind name))
  grown_reads apart =
      front_bytes d v.per e f (record { real = omega arith; initialised = (let low = old_sizes.0 in omega (arith, low)); places = λ m held. places Plain m (omega (arith, held)) })
      ∙ all_front (extent_bytes d v.per e) e.real (length-extent_bytes d v.per e)
      ∙ reads_stay c g clusters v n kind name (Placed e) f r z.file s bodies sized eight state takes_runs apart
