-- A stream takes clusters behind its own.
use Rattle.std.proofs.Common.{◌≡◌, ◌⊎◌, ℕ, ◌+◌, ◌*◌, ◌/◌, ◌<◌, ◌≤◌, Bool, true, false, ◌||◌, cond, leb, min, List, [], ◌∷◌, ◌++◌, Option, Some, refl, sym, ap, subst, ◌∙◌, inl, inr, arith, length, take}
use Rattle.std.specs.Prelude.{map}
use Rattle.std.specs.List.{list_all, range_with_len}
use Rattle.std.proofs.lemmas.Bool.{cases_lt, and_parts, and_from, both_ways, or_left, or_right, le-leb, lt-leb, eq-eqb}
use Rattle.plan_model.specs.disk_model.declared.block.Block.{Block}
use Rattle.plan_model.specs.disk_model.declared.block.BlockKind.{BlockKind}
use Rattle.plan_model.specs.disk_model.declared.block.BlockKind.TheVariants.{Plain, FileRec, Index}
use Rattle.plan_model.specs.disk_model.Sectors.{sectors}
use Rattle.plan_model.specs.disk_model.Content.{Content, HasSizes}
use Rattle.plan_model.specs.record_model.declared.runs.Run.{Run}
use Rattle.plan_model.specs.record_model.Records.{Record}
use Rattle.plan_model.specs.record_model.Pairs.{HasSpelling}
use Rattle.plan_model.specs.bit_set.Bits.{bit}
use Rattle.plan_model.specs.state_model.declared.geometry.Geometry.{Geometry}
use Rattle.plan_model.specs.state_model.declared.stream.Extents.{Extents}
use Rattle.plan_model.specs.state_model.declared.stream.Stream.{Stream}
use Rattle.plan_model.specs.state_model.declared.stream.Stream.TheVariants.{Placed}
use Rattle.plan_model.specs.state_model.Loads.{total_clusters}
use Rattle.plan_model.specs.state_model.Streams.{block_at, extent_bytes}
use Rattle.plan_model.specs.volume_model.Volumes.{Volume, cluster_bits, bytes_or}
use Rattle.plan_model.specs.volume_model.Indexes.{void_block, or_void, index_block, runs_end, block_count, blocks_of, stream_blocks}
use Rattle.plan_model.specs.volume_model.Owners.{uses}
use Rattle.plan_model.specs.volume_model.Sizes.{lies_inside, has_sizes, fits_volume, has_hole}
use Rattle.plan_model.specs.stream_laws.Owners.{stream_kind, initialised_in, IsLive}
use Rattle.plan_model.specs.stream_laws.Sharing.{stream_at, runs_in}
use Rattle.plan_model.specs.stream_laws.Rewrites.{is_edited}
use Rattle.plan_model.proofs.stream_laws.Growing.{stream_cut as front_bytes}
use Rattle.plan_model.proofs.stream_laws.Changing.{length-extent_bytes}
use Rattle.std.proofs.lemmas.List.{take_all}
use Rattle.plan_model.proofs.stream_laws.Framing.{same_map}
use Rattle.resized_streams.specs.stream_runs.Runs.{moved, grown}
use Rattle.resized_streams.specs.stream_runs.Laws.{InOneCluster}
use Rattle.resized_streams.proofs.stream_runs.Merging.{total-merged, total-append, total-moved, uses-merged, uses-append, uses-moved, follow-grown}
use Rattle.resized_streams.proofs.stream_runs.Places.{places-grown}
use Rattle.resized_streams.specs.record_streams.Placing.{placed_record}
use Rattle.resized_streams.specs.declared.resized.Resized.{Resized}
use Rattle.resized_streams.specs.Resizing.{lengthened}
use Rattle.plan_model.specs.plan_owners.States.{Stands}
use Rattle.plan_model.specs.plan_bodies.Bodies.{NewBody, content_with}
use Rattle.plan_model.specs.Drafts.{GoesOn, IsPut, gives_runs}
use Rattle.plan_model.specs.Edits.{LeadsTo}
use Rattle.plan_model.specs.Informed.{with_record}
use Rattle.plan_model.proofs.Drafting.{per_is}
use Rattle.plan_model.proofs.Quiet.{given_here, given_before, given_clear}
use Rattle.plan_growth.specs.Trees.{TreeFollows}
use Rattle.plan_growth.specs.Streams.{IsWritten, key_of, marks_streams}
use Rattle.plan_growth.specs.Growing.{GrowsStream, MayGive}
use Rattle.plan_growth.proofs.Runs.{grown_inside, grown_whole, end_is_total}
use Rattle.plan_growth.proofs.Ruled.{runs_before, stream_fits, sizes_lawful}
use Rattle.plan_growth.proofs.Alike.{one_cluster, SamePlaces, untorn_alike}
use Rattle.plan_growth.proofs.Resizing.{Follows, BitsFollow, resized_leads, own_was, resized_goes_on, resized_tree, as_fresh, own_now, reads_on}

-- ---- a stream that takes more clusters

pub total-grown : (runs more : List Run) → total_clusters (grown runs more) ≡ total_clusters runs + total_clusters more
unfolding grown
total-grown runs more =
    let t : ℕ = total_clusters runs in
    total-merged (runs ++ map (moved t) more) ∙ total-append runs (map (moved t) more) ∙ ap (λ (n : ℕ). t + n) (total-moved t more)

pub uses-grown : (runs more : List Run) (x : ℕ) → uses (grown runs more) x ≡ uses runs x + uses more x
unfolding grown
uses-grown runs more x =
    let t : ℕ = total_clusters runs in
    uses-merged (runs ++ map (moved t) more) x ∙ uses-append runs (map (moved t) more) x ∙ ap (λ (n : ℕ). uses runs x + n) (uses-moved t more x)

-- a block that begins below so many bytes of clusters lies in one of them
begins_in : (kind : BlockKind) (m total initialised : ℕ) → 512 * (sectors kind * m) < initialised → initialised ≤ total * (512 * 8) → sectors kind * m / 8 < total
begins_in kind m total initialised below within = omega (arith, below, within)

-- its real size is at most the allocated one
pub still_allocated : (per total more real : ℕ) → per ≡ 8 → real ≤ total * (512 * per) → real ≤ (total + more) * (512 * per)
still_allocated per total more real eight = subst (λ (p : ℕ). real ≤ total * (512 * p) → real ≤ (total + more) * (512 * p)) (sym eight) (λ least. omega (arith, least))

-- how many blocks an index has by its real size
pub counted : (per total real : ℕ) → per ≡ 8 → real ≤ total * (512 * per) → min (real / 4096) (total * per / 8) ≡ real / 4096
counted per total real eight = subst (λ (p : ℕ). real ≤ total * (512 * p) → min (real / 4096) (total * p / 8) ≡ real / 4096) (sym eight) (λ least. omega (arith, least))

in_total : (per total initialised : ℕ) (kind : BlockKind) (m : ℕ) → per ≡ 8 → initialised ≤ total * (512 * per) → 512 * (sectors kind * m) < initialised → sectors kind * m / per < total
in_total per total initialised kind m eight =
    subst (λ (p : ℕ). initialised ≤ total * (512 * p) → 512 * (sectors kind * m) < initialised → sectors kind * m / p < total) (sym eight) (λ least begins. begins_in kind m total initialised begins least)

-- a bit that is set, or was
pub set_or : (u : ℕ) (b : Bool) → (leb 1 u || b) ≡ false → u ≡ 0
set_or u b is = elim (cases_lt 0 u) [
  | inl some ↦ absurd (both_ways (leb 1 u || b) is (or_left (leb 1 u) b (le-leb 1 u some)))
  | inr none ↦ omega (arith, none)
]

module _ (c : Content) (g : Geometry) (clusters : ℕ) (v : Volume) (n kind : ℕ) (name : List ℕ) (e : Extents) (r : Record) (more : List Run) (z : Resized) (s : Record) (bodies : List NewBody) (sized : HasSizes c) (eight : g.per_cluster ≡ 8) (state : Stands c g clusters v) (k : GrowsStream c v n kind name e r more z s bodies) where
  abbrev f : Extents
  f = lengthened v.per more e

  abbrev d : Content
  d = content_with c bodies

  abbrev w : Volume
  w = with_record v n s

  abbrev taken : ℕ → ℕ
  taken x = uses more x

  abbrev given : ℕ → ℕ
  given x = 0

  per_8 : v.per ≡ 8
  per_8 = per_is c g clusters v eight state

  old_fits : fits_volume v.per v.clusters (Some (Placed e)) ≡ true
  old_fits = stream_fits c g clusters v n kind name r (Placed e) state k.own

  old_inside : list_all (lies_inside v.clusters) e.runs ≡ true
  old_inside = (and_parts (list_all (lies_inside v.clusters) e.runs) (has_sizes v.per e) old_fits).0

  old_sizes : (e.initialised ≤ e.real) × (e.real ≤ total_clusters e.runs * (512 * v.per))
  old_sizes = sizes_lawful v.per v.clusters e old_fits

  total_now : total_clusters f.runs ≡ total_clusters e.runs + total_clusters more
  total_now = total-grown e.runs more

  below_end : e.initialised ≤ total_clusters e.runs * (512 * v.per)
  below_end = let low = old_sizes.0 in let high = old_sizes.1 in omega (arith, low, high)

  places : SamePlaces v.per e f
  places block_kind m begins =
      places-grown v.per e.runs more block_kind m k.spelled k.taken.spelled k.room (subst (λ (p : ℕ). InOneCluster p block_kind m) (sym per_8) (one_cluster block_kind m)) (in_total v.per (total_clusters e.runs) e.initialised block_kind m per_8 below_end begins)

  new_fits : fits_volume v.per v.clusters (Some (Placed f)) ≡ true
  new_fits =
      let high : e.real ≤ f.allocated = subst (λ (x : ℕ). e.real ≤ x * (512 * v.per)) (sym total_now) (still_allocated v.per (total_clusters e.runs) (total_clusters more) e.real per_8 old_sizes.1) in
      and_from _ _ (grown_inside v.clusters e.runs more old_inside k.taken.inside) (and_from _ _ (and_from _ _ (le-leb e.initialised e.real old_sizes.0) (le-leb e.real f.allocated high)) (eq-eqb f.allocated f.allocated refl))

  spelled_now : HasSpelling 0 f.runs
  spelled_now = follow-grown e.runs more k.spelled k.taken.spelled k.room

  count_at : (runs : List Run) → HasSpelling 0 runs → e.real ≤ total_clusters runs * (512 * v.per) → min (e.real / 4096) (runs_end runs * v.per / 8) ≡ e.real / 4096
  count_at runs spelled high = ap (λ (x : ℕ). min (e.real / 4096) (x * v.per / 8)) (end_is_total runs spelled) ∙ counted v.per (total_clusters runs) e.real per_8 high

  same_count : block_count v.per f ≡ block_count v.per e
  unfolding block_count
  same_count =
      count_at f.runs spelled_now (subst (λ (x : ℕ). e.real ≤ x * (512 * v.per)) (sym total_now) (still_allocated v.per (total_clusters e.runs) (total_clusters more) e.real per_8 old_sizes.1))
      ∙ sym (count_at e.runs k.spelled old_sizes.1)

  same_index_block : (i : ℕ) → index_block v.per f i ≡ index_block v.per e i
  unfolding index_block
  same_index_block i = elim (cases_lt (4096 * i) e.initialised) [
    | inl begins ↦ ap (λ (o : Option Block). cond (leb e.initialised (4096 * i)) void_block (or_void o)) (places Index i (omega (arith, begins)))
    | inr past ↦
        (let yes = le-leb e.initialised (4096 * i) past in
        ap (λ (t : Bool). cond t void_block (or_void (block_at v.per f.runs Index i))) yes ∙ sym (ap (λ (t : Bool). cond t void_block (or_void (block_at v.per e.runs Index i))) yes))
  ]

  same_blocks : stream_blocks v.per (Some (Placed f)) ≡ stream_blocks v.per (Some (Placed e))
  unfolding blocks_of
  same_blocks = ap (λ (x : ℕ). map (index_block v.per f) (range_with_len 0 x)) same_count ∙ same_map (index_block v.per f) (index_block v.per e) 0 (block_count v.per e) (λ i low high. same_index_block i)

  none_marked : (x : ℕ) → bit (cluster_bits c v) x ≡ true → uses more x ≤ 0
  none_marked x set = elim (cases_lt 0 (uses more x)) [
    | inl some ↦ absurd (both_ways (bit (cluster_bits c v) x) (k.taken.clear x some) set)
    | inr none ↦ none
  ]

  follows : Follows c d v n kind name r (Placed e) f taken given
  follows = record {
    spelled = spelled_now;
    before = runs_before kind name r e k.own.stream;
    fits = new_fits;
    holes = λ none. grown_whole e.runs more none k.taken.whole;
    records = λ mirror type alike. untorn_alike d v.per FileRec 1024 e f refl (omega arith) places;
    nodes = λ type alike. untorn_alike d v.per Index 4096 e f refl (omega arith) places;
    blocks = λ same alike. same_blocks;
    limits = λ same. (e, refl);
    balance = λ x. omega (arith, uses-grown e.runs more x);
    clear = λ x low clear. k.taken.once x;
    marked = λ x low set. none_marked x set;
    not_taken = λ x low clear. set_or (uses more x) (bit (cluster_bits c v) x) (sym (k.marked x low) ∙ clear);
    freed = λ x low was is. absurd (both_ways (bit (cluster_bits d v) x) is (k.marked x low ∙ or_right (leb 1 (uses more x)) (bit (cluster_bits c v) x) was));
  }

  written_now : IsWritten (placed_record v.per kind name (lengthened v.per more e) r) s
  written_now = subst (λ (x : Record). IsWritten x s) k.grown.file k.written

  pub grown_leads : LeadsTo (is_edited (record { number = n; file = Some s } ∷ [])) c v (content_with c bodies) g clusters (with_record v n s)
  grown_leads = resized_leads c g clusters v n kind name r (Placed e) f taken given bodies sized eight state k.own marks_streams (λ t is. inl is) s written_now (as_fresh marks_streams v n kind name s bodies k.puts) follows

  -- ---- as an edit of a plan

  bits : BitsFollow v.clusters (cluster_bits c v) (cluster_bits d v) taken given
  bits = record {
    cleared = λ x low less. absurd (omega (arith, less));
    set = λ x low some. (k.taken.clear x some, k.marked x low ∙ or_left (leb 1 (uses more x)) (bit (cluster_bits c v) x) (le-leb 1 (uses more x) some));
    others = λ x low none. k.marked x low ∙ ap (λ (t : Bool). t || bit (cluster_bits c v) x) (lt-leb 1 (uses more x) (omega (arith, none)));
  }

  own_v : stream_at v (key_of n kind name) ≡ Some (Placed e)
  own_v = own_was c g clusters v n kind name r (Placed e) f taken given bodies sized eight state k.own marks_streams (λ t is. inl is) s written_now (as_fresh marks_streams v n kind name s bodies k.puts) follows

  live_before : (m : ℕ) (b : Block) → block_at v.per f.runs (stream_kind (key_of n kind name)) m ≡ Some b → 512 * (sectors (stream_kind (key_of n kind name)) * m) < f.initialised → IsLive v b ⊎ IsPut bodies b
  live_before m b lies begins =
      inl
      (record {
        owned = record { stream = key_of n kind name; number = m; lies = ap (λ (o : Option Stream). block_at v.per (runs_in o) (stream_kind (key_of n kind name)) m) own_v ∙ sym (places (stream_kind (key_of n kind name)) m begins) ∙ lies };
        begins = subst (λ (o : Option Stream). 512 * (sectors (stream_kind (key_of n kind name)) * m) < initialised_in o) (sym own_v) begins;
      })

  is_new : (x : ℕ) → 0 < uses f.runs x → uses e.runs x ≡ 0 → 0 < uses more x
  is_new x some none = omega (arith, some, none, uses-grown e.runs more x)

  pub grown_goes_on : (first : Content) (start : Volume) (gave : ℕ → Option BlockKind) → MayGive first start (stream_kind (key_of n kind name)) more gave
      → GoesOn first start c g clusters v bodies (with_record v n s) gave (gives_runs (stream_kind (key_of n kind name)) more gave)
  grown_goes_on first start gave may =
      let own_kind : BlockKind = stream_kind (key_of n kind name) in
      resized_goes_on c g clusters v n kind name r (Placed e) f taken given bodies sized eight state k.own marks_streams (λ t is. inl is) s written_now (as_fresh marks_streams v n kind name s bodies k.puts) follows first start gave (gives_runs own_kind more gave) bits live_before
      (λ x some none. given_here own_kind more gave x (is_new x some none)) (given_before own_kind more gave may.same) (given_clear own_kind more gave (cluster_bits first start) may.taken may.before)

  pub grown_tree : has_hole (Some (Placed e)) ≡ false → TreeFollows c (content_with c bodies) v n r s
  grown_tree = resized_tree c g clusters v n kind name r (Placed e) f taken given bodies sized eight state k.own marks_streams (λ t is. inl is) s written_now (as_fresh marks_streams v n kind name s bodies k.puts) follows

  all_front : (bytes : List ℕ) (size : ℕ) → length bytes ≡ size → take size bytes ≡ bytes
  all_front bytes size is = take_all size bytes (omega (arith, is))

  pub grown_bytes : marks_streams (key_of n kind name) ≡ false → bytes_or (content_with c bodies) v.per (stream_at (with_record v n s) (key_of n kind name)) ≡ bytes_or c v.per (stream_at v (key_of n kind name))
  grown_bytes apart =
      ap (bytes_or d v.per) (own_now c g clusters v n kind name r (Placed e) f taken given bodies sized eight state k.own marks_streams (λ t is. inl is) s written_now (as_fresh marks_streams v n kind name s bodies k.puts) follows)
      ∙ front_bytes d v.per e f (record { real = omega arith; initialised = (let low = old_sizes.0 in omega (arith, low)); places = λ m held. places Plain m (omega (arith, held)) })
      ∙ all_front (extent_bytes d v.per e) e.real (length-extent_bytes d v.per e)
      ∙ ap (bytes_or d v.per) (sym own_v)
      ∙ reads_on c g clusters v n kind name r (Placed e) f taken given bodies sized eight state k.own marks_streams (λ t is. inl is) s written_now (as_fresh marks_streams v n kind name s bodies k.puts) follows (key_of n kind name) apart
      (λ same. k.own.apart.table (sym (ap (λ t. t.file) same)))
