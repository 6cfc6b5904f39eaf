-- A stream gives clusters back, and their bits stay set.
use Rattle.std.proofs.Common.{◌≡◌, ◌≢◌, ◌⊎◌, ℕ, ◌+◌, ◌-◌, ◌*◌, ◌/◌, ◌<◌, ◌≤◌, true, false, min, List, [], ◌∷◌, take, Option, Some, None, refl, sym, ap, subst, ◌∙◌, inl, inr, arith}
use Rattle.std.specs.List.{list_all}
use Rattle.std.specs.Option.{option_map}
use Rattle.std.proofs.lemmas.Bool.{cases_lt, and_parts, and_from, le-leb, leb-true, eq-eqb}
use Rattle.disk_model.specs.declared.block.Block.{Block}
use Rattle.disk_model.specs.declared.block.BlockKind.{BlockKind}
use Rattle.disk_model.specs.declared.block.BlockKind.TheVariants.{Plain, FileRec, Index}
use Rattle.disk_model.specs.Sectors.{sectors}
use Rattle.disk_model.specs.Content.{Content, HasSizes}
use Rattle.record_model.specs.declared.runs.Run.{Run}
use Rattle.record_model.specs.Constants.{index_allocation}
use Rattle.record_model.specs.Records.{Record}
use Rattle.record_model.specs.Pairs.{HasSpelling}
use Rattle.bit_set.specs.Bits.{bit}
use Rattle.state_model.specs.declared.geometry.Geometry.{Geometry}
use Rattle.state_model.specs.declared.stream.Extents.{Extents}
use Rattle.state_model.specs.declared.stream.Stream.{Stream}
use Rattle.state_model.specs.declared.stream.Stream.TheVariants.{Placed}
use Rattle.state_model.specs.Loads.{total_clusters}
use Rattle.state_model.specs.Streams.{block_at}
use Rattle.volume_model.specs.Volumes.{Volume, bytes_or, cluster_bits, file_stream}
use Rattle.volume_model.specs.Owners.{uses}
use Rattle.volume_model.specs.Sizes.{fits_volume, has_sizes, lies_below, lies_inside}
use Rattle.stream_laws.specs.Owners.{initialised_in, IsLive, stream_kind}
use Rattle.stream_laws.specs.Sharing.{runs_in, stream_at}
use Rattle.stream_laws.proofs.Growing.{stream_cut as front_bytes}
use Rattle.stream_runs.specs.Runs.{back, front}
use Rattle.stream_runs.specs.Laws.{InOneCluster}
use Rattle.stream_runs.proofs.Merging.{follow-merged, total-merged, uses-merged}
use Rattle.stream_runs.proofs.Parts.{back_cut, back_whole, follow-front, total-front, uses_parts}
use Rattle.stream_runs.proofs.Places.{places-front, places-merged}
use Rattle.resized_streams.specs.declared.resized.Resized.{Resized}
use Rattle.resized_streams.specs.Resizing.{clusters_for, IsCut, shortened}
use Rattle.plan_owners.specs.States.{Stands}
use Rattle.plan_bodies.specs.Bodies.{content_with, NewBody}
use Rattle.table_edits.specs.plan_model.Drafts.{IsPut}
use Rattle.table_edits.proofs.plan_model.Drafting.{per_is}
use Rattle.table_edits.specs.plan_growth.Streams.{IsOwnStream, IsWritten, key_of, marks_streams, PutsFile}
use Rattle.table_edits.proofs.plan_growth.Alike.{one_cluster, SamePlaces, untorn_alike}
use Rattle.table_edits.proofs.plan_growth.Ruled.{sizes_lawful, stream_fits}
use Rattle.table_edits.proofs.plan_growth.Runs.{cut_inside, cut_whole}
use Rattle.table_edits.proofs.plan_table.Remade.{HasOther, placed_other}
use Rattle.bitmap_edits.proofs.OwnRuns.{MovesRuns, own_other, reads_stay}
use Rattle.bitmap_edits.proofs.Restreaming.{as_far, Follows, owned_once}

-- a size lies in the clusters that it needs
cut_allocated : (per total size real : ℕ) → per ≡ 8 → size ≤ real → real ≤ total * (512 * per) → size ≤ min (clusters_for per size) total * (512 * per)
cut_allocated per total size real eight =
    subst (λ (p : ℕ). size ≤ real → real ≤ total * (512 * p) → size ≤ min (clusters_for p size) total * (512 * p)) (sym eight) (λ less least. omega (arith, less, least))

in_kept : (per size : ℕ) (kind : BlockKind) (m : ℕ) → per ≡ 8 → 512 * (sectors kind * m) < size → sectors kind * m / per < clusters_for per size
in_kept per size kind m eight = subst (λ (p : ℕ). 512 * (sectors kind * m) < size → sectors kind * m / p < clusters_for p size) (sym eight) (λ begins. omega (arith, begins))

-- what is behind the first clusters lies inside, where all does
behind_below : (clusters keep len : ℕ) (o : Option ℕ) → keep ≤ len → lies_below clusters len o ≡ true → lies_below clusters (len - keep) (option_map (λ lcn. lcn + keep) o) ≡ true
behind_below clusters keep len None less is = refl
behind_below clusters keep len (Some lcn) less is = (let most = leb-true (lcn + len) clusters is in le-leb (lcn + keep + (len - keep)) clusters (omega (arith, most, less)))

pub back_inside : (clusters keep : ℕ) (runs : List Run) → list_all (lies_inside clusters) runs ≡ true → list_all (lies_inside clusters) (back keep runs) ≡ true
unfolding back
back_inside clusters keep [] all = refl
back_inside clusters keep (r ∷ runs) all =
    let parts = and_parts (lies_inside clusters r) (list_all (lies_inside clusters) runs) all in
    elim (cases_lt keep r.len) [
      | inl less ↦ ap (list_all (lies_inside clusters)) (back_cut keep r runs less) ∙ and_from _ _ (behind_below clusters keep r.len r.lcn (omega (arith, less)) parts.0) parts.1
      | inr ge ↦ ap (list_all (lies_inside clusters)) (back_whole keep r runs ge) ∙ back_inside clusters (keep - r.len) runs parts.1
    ]

-- A stream that is no index is cut to a size, and its file is put so. All bits stay.
pub record GivesSet (c : Content) (v : Volume) (n kind : ℕ) (name : List ℕ) (e : Extents) (r : Record) (size : ℕ) (z : Resized) (s : Record) (bodies : List NewBody) : Type 0 where
  pub own : IsOwnStream v n kind name r (Placed e)
  pub no_index : index_allocation ≢ kind
  pub spelled : HasSpelling 0 e.runs
  pub cut : IsCut v.per kind name e r size z
  pub less : size ≤ e.real
  pub written : IsWritten z.file s
  pub puts : PutsFile marks_streams v n s bodies
  pub marked : (x : ℕ) → x < v.clusters → bit (cluster_bits (content_with c bodies) v) x ≡ bit (cluster_bits c v) x

module _ (c : Content) (g : Geometry) (clusters : ℕ) (v : Volume) (n kind : ℕ) (name : List ℕ) (e : Extents) (r : Record) (size : ℕ) (z : Resized) (s : Record) (bodies : List NewBody) (sized : HasSizes c) (eight : g.per_cluster ≡ 8) (state : Stands c g clusters v) (k : GivesSet c v n kind name e r size z s bodies) where
  abbrev f : Extents
  f = shortened v.per size e

  abbrev d : Content
  d = content_with c bodies

  abbrev keep : ℕ
  keep = clusters_for v.per size

  per_8 : v.per ≡ 8
  per_8 = per_is c g clusters v eight state

  old_fits : fits_volume v.per v.clusters (Some (Placed e)) ≡ true
  old_fits = stream_fits c g clusters v n kind name r (Placed e) state k.own

  pub old_inside : list_all (lies_inside v.clusters) e.runs ≡ true
  old_inside = (and_parts (list_all (lies_inside v.clusters) e.runs) (has_sizes v.per e) old_fits).0

  old_sizes : (e.initialised ≤ e.real) × (e.real ≤ total_clusters e.runs * (512 * v.per))
  old_sizes = sizes_lawful v.per v.clusters e old_fits

  total_now : total_clusters f.runs ≡ min keep (total_clusters e.runs)
  total_now = total-merged (front keep e.runs) ∙ total-front keep e.runs

  one : (block_kind : BlockKind) (m : ℕ) → InOneCluster v.per block_kind m
  one block_kind m = subst (λ (p : ℕ). InOneCluster p block_kind m) (sym per_8) (one_cluster block_kind m)

  places : SamePlaces v.per e f
  places block_kind m begins =
      places-merged v.per (front keep e.runs) block_kind m (follow-front 0 0 keep e.runs k.spelled) (one block_kind m)
      ∙ places-front v.per keep e.runs block_kind m k.spelled (one block_kind m) (in_kept v.per size block_kind m per_8 (omega (arith, begins)))

  new_fits : fits_volume v.per v.clusters (Some (Placed f)) ≡ true
  new_fits =
      let high : size ≤ f.allocated = subst (λ (x : ℕ). size ≤ x * (512 * v.per)) (sym total_now) (cut_allocated v.per (total_clusters e.runs) size e.real per_8 k.less old_sizes.1) in
      and_from _ _ (cut_inside v.clusters keep e.runs old_inside)
      (and_from _ _ (and_from _ _ (le-leb f.initialised size (omega arith)) (le-leb size f.allocated high)) (eq-eqb f.allocated f.allocated refl))

  follows : Follows d v n kind name (Placed e) (Placed f)
  follows = record {
    holes = cut_whole keep e.runs;
    records = λ mirror type alike. untorn_alike d v.per FileRec 1024 e f refl (omega arith) places;
    nodes = λ type alike. untorn_alike d v.per Index 4096 e f refl (omega arith) places;
    blocks = λ same alike. absurd (k.no_index same);
    no_entries = k.own.no_entries;
    limits = λ same. (e, f, (refl, refl));
  }

  -- of what the stream had of a cluster, some it keeps, and some is given back
  pub uses_split : (x : ℕ) → uses (shortened v.per size e).runs x + uses (back (clusters_for v.per size) e.runs) x ≡ uses e.runs x
  uses_split x = (let kept = uses-merged (front keep e.runs) x in let parts = uses_parts keep e.runs x in omega (arith, kept, parts))

  stream_before : stream_at v (key_of n kind name) ≡ Some (Placed e)
  stream_before = ap (file_stream kind name) k.own.file ∙ k.own.stream

  -- a block of it that is live was so
  live_so : (m : ℕ) (b : Block) → block_at v.per f.runs (stream_kind (key_of n kind name)) m ≡ Some b → 512 * (sectors (stream_kind (key_of n kind name)) * m) < f.initialised → IsLive v b ⊎ IsPut bodies b
  live_so m b lies begins =
      inl
      (record {
        owned = record { stream = key_of n kind name; number = m; lies = ap (λ (o : Option Stream). block_at v.per (runs_in o) (stream_kind (key_of n kind name)) m) stream_before ∙ sym (places (stream_kind (key_of n kind name)) m begins) ∙ lies };
        begins = subst (λ (o : Option Stream). 512 * (sectors (stream_kind (key_of n kind name)) * m) < initialised_in o) (sym stream_before) (omega (arith, begins));
      })

  pub gives_runs_back : MovesRuns c v n kind name (Placed e) (shortened v.per size e) r z.file s bodies
  gives_runs_back = record {
    own = k.own;
    one = subst (HasOther v.per v.clusters kind name (Placed e) (Placed f) r) (sym k.cut.file) (placed_other v.per v.clusters kind name e f r (own_other v n kind name r (Placed e) k.own) (follow-merged 0 0 (front keep e.runs) (follow-front 0 0 keep e.runs k.spelled)) k.own.stream);
    written = k.written;
    whole = k.puts.whole;
    anew = k.puts.anew;
    each = as_far v n bodies k.puts.each;
    marked = k.marked;
    fits = new_fits;
    follows = follows;
    once = λ x low. (let most = owned_once c g clusters v x state low in let sum = uses_split x in omega (arith, most, sum));
    set = λ x low some none. absurd (let sum = uses_split x in omega (arith, sum, some, none));
    live = live_so;
  }

  pub cut_reads : marks_streams (key_of n kind name) ≡ false → bytes_or (content_with c bodies) v.per (Some (Placed (shortened v.per size e))) ≡ take size (bytes_or c v.per (stream_at v (key_of n kind name)))
  cut_reads apart =
      front_bytes d v.per e f (record { real = k.less; initialised = refl; places = λ m held. places Plain m (omega (arith, held)) })
      ∙ ap (take size) (reads_stay c g clusters v n kind name (Placed e) f r z.file s bodies sized eight state gives_runs_back apart)
