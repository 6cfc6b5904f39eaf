-- A stream is cut to a size.
use Rattle.std.proofs.Common.{◌≡◌, ◌⊎◌, ℕ, ◌*◌, ◌/◌, ◌<◌, ◌≤◌, Bool, true, false, not, ◌&&◌, leb, min, List, [], ◌∷◌, take, Option, Some, refl, sym, ap, subst, ◌∙◌, inl, inr, arith}
use Rattle.std.specs.List.{list_all}
use Rattle.std.proofs.lemmas.Bool.{cases_lt, and_parts, and_from, both_ways, le-leb, lt-leb, eq-eqb}
use Rattle.plan_model.specs.disk_model.declared.block.Block.{Block}
use Rattle.plan_model.specs.disk_model.declared.block.BlockKind.{BlockKind}
use Rattle.plan_model.specs.disk_model.declared.block.BlockKind.TheVariants.{Plain, FileRec, Index}
use Rattle.plan_model.specs.disk_model.Sectors.{sectors}
use Rattle.plan_model.specs.disk_model.Content.{Content, HasSizes}
use Rattle.plan_model.specs.record_model.declared.runs.Run.{Run}
use Rattle.plan_model.specs.record_model.Records.{Record}
use Rattle.plan_model.specs.bit_set.Bits.{bit}
use Rattle.plan_model.specs.state_model.declared.geometry.Geometry.{Geometry}
use Rattle.plan_model.specs.state_model.declared.stream.Extents.{Extents}
use Rattle.plan_model.specs.state_model.declared.stream.Stream.{Stream}
use Rattle.plan_model.specs.state_model.declared.stream.Stream.TheVariants.{Placed}
use Rattle.plan_model.specs.state_model.Loads.{total_clusters}
use Rattle.plan_model.specs.state_model.Streams.{block_at}
use Rattle.plan_model.specs.volume_model.Volumes.{Volume, bytes_or, cluster_bits}
use Rattle.plan_model.specs.volume_model.Owners.{uses}
use Rattle.plan_model.specs.volume_model.Sizes.{has_hole, lies_inside, has_sizes, fits_volume}
use Rattle.plan_model.specs.stream_laws.Owners.{stream_kind, initialised_in, IsLive}
use Rattle.plan_model.specs.stream_laws.Sharing.{stream_at, runs_in}
use Rattle.plan_model.specs.stream_laws.Rewrites.{is_edited}
use Rattle.plan_model.proofs.stream_laws.Growing.{stream_cut as front_bytes}
use Rattle.resized_streams.specs.stream_runs.Runs.{front, back}
use Rattle.resized_streams.specs.stream_runs.Laws.{InOneCluster}
use Rattle.resized_streams.proofs.stream_runs.Merging.{total-merged, uses-merged, follow-merged}
use Rattle.resized_streams.proofs.stream_runs.Parts.{total-front, uses_parts, follow-front}
use Rattle.resized_streams.proofs.stream_runs.Places.{places-merged, places-front}
use Rattle.resized_streams.specs.record_streams.Placing.{placed_record}
use Rattle.resized_streams.specs.declared.resized.Resized.{Resized}
use Rattle.resized_streams.specs.Resizing.{clusters_for, shortened}
use Rattle.plan_model.specs.plan_owners.States.{Stands}
use Rattle.plan_model.specs.plan_bodies.Bodies.{NewBody, content_with}
use Rattle.plan_model.specs.Drafts.{GoesOn, IsPut}
use Rattle.plan_model.specs.Edits.{LeadsTo}
use Rattle.plan_model.specs.Informed.{with_record}
use Rattle.plan_model.proofs.Drafting.{per_is}
use Rattle.plan_growth.specs.Trees.{TreeFollows}
use Rattle.plan_growth.specs.Streams.{IsWritten, key_of, marks_streams}
use Rattle.plan_growth.specs.Cutting.{CutsStream}
use Rattle.plan_growth.proofs.Runs.{cut_inside, cut_whole}
use Rattle.plan_growth.proofs.Alike.{one_cluster, SamePlaces, untorn_alike}
use Rattle.plan_growth.proofs.Ruled.{runs_before, stream_fits, sizes_lawful}
use Rattle.plan_growth.proofs.Resizing.{Follows, BitsFollow, resized_leads, own_now, own_was, reads_on, resized_goes_on, resized_tree, as_fresh}

-- a size lies in the clusters that it needs
cut_allocated : (per total size real : ℕ) → per ≡ 8 → size ≤ real → real ≤ total * (512 * per) → size ≤ min (clusters_for per size) total * (512 * per)
cut_allocated per total size real eight =
    subst (λ (p : ℕ). size ≤ real → real ≤ total * (512 * p) → size ≤ min (clusters_for p size) total * (512 * p)) (sym eight) (λ less least. omega (arith, less, least))

in_kept : (per size : ℕ) (kind : BlockKind) (m : ℕ) → per ≡ 8 → 512 * (sectors kind * m) < size → sectors kind * m / per < clusters_for per size
in_kept per size kind m eight = subst (λ (p : ℕ). 512 * (sectors kind * m) < size → sectors kind * m / p < clusters_for p size) (sym eight) (λ begins. omega (arith, begins))

module _ (c : Content) (g : Geometry) (clusters : ℕ) (v : Volume) (n kind : ℕ) (name : List ℕ) (e : Extents) (r : Record) (size : ℕ) (z : Resized) (s : Record) (bodies : List NewBody) (sized : HasSizes c) (eight : g.per_cluster ≡ 8) (state : Stands c g clusters v) (k : CutsStream c v n kind name e r size z s bodies) where
  abbrev f : Extents
  f = shortened v.per size e

  abbrev d : Content
  d = content_with c bodies

  abbrev w : Volume
  w = with_record v n s

  abbrev keep : ℕ
  keep = clusters_for v.per size

  abbrev taken : ℕ → ℕ
  taken x = 0

  abbrev given : ℕ → ℕ
  given x = uses (back (clusters_for v.per size) e.runs) x

  per_8 : v.per ≡ 8
  per_8 = per_is c g clusters v eight state

  old_fits : fits_volume v.per v.clusters (Some (Placed e)) ≡ true
  old_fits = stream_fits c g clusters v n kind name r (Placed e) state k.own

  old_sizes : (e.initialised ≤ e.real) × (e.real ≤ total_clusters e.runs * (512 * v.per))
  old_sizes = sizes_lawful v.per v.clusters e old_fits

  total_now : total_clusters f.runs ≡ min keep (total_clusters e.runs)
  total_now = total-merged (front keep e.runs) ∙ total-front keep e.runs

  one : (block_kind : BlockKind) (m : ℕ) → InOneCluster v.per block_kind m
  one block_kind m = subst (λ (p : ℕ). InOneCluster p block_kind m) (sym per_8) (one_cluster block_kind m)

  places : SamePlaces v.per e f
  places block_kind m begins =
      places-merged v.per (front keep e.runs) block_kind m (follow-front 0 0 keep e.runs k.spelled) (one block_kind m)
      ∙ places-front v.per keep e.runs block_kind m k.spelled (one block_kind m) (in_kept v.per size block_kind m per_8 (omega (arith, begins)))

  new_fits : fits_volume v.per v.clusters (Some (Placed f)) ≡ true
  new_fits =
      let high : size ≤ f.allocated = subst (λ (x : ℕ). size ≤ x * (512 * v.per)) (sym total_now) (cut_allocated v.per (total_clusters e.runs) size e.real per_8 k.less old_sizes.1) in
      and_from _ _ (cut_inside v.clusters keep e.runs (and_parts (list_all (lies_inside v.clusters) e.runs) (has_sizes v.per e) old_fits).0)
      (and_from _ _ (and_from _ _ (le-leb f.initialised size (omega arith)) (le-leb size f.allocated high)) (eq-eqb f.allocated f.allocated refl))

  bit_as : (x : ℕ) → x < v.clusters → bit (cluster_bits d v) x ≡ (not (leb 1 (given x)) && bit (cluster_bits c v) x)
  bit_as x low = k.marked x low ∙ ap (λ (l : List Run). not (leb 1 (uses l x)) && bit (cluster_bits c v) x) k.cut.freed

  bit_free : (x : ℕ) → x < v.clusters → 0 < given x → bit (cluster_bits d v) x ≡ false
  bit_free x low some = bit_as x low ∙ ap (λ (t : Bool). not t && bit (cluster_bits c v) x) (le-leb 1 (given x) some)

  bit_stays : (x : ℕ) → x < v.clusters → given x ≤ 0 → bit (cluster_bits d v) x ≡ bit (cluster_bits c v) x
  bit_stays x low none = bit_as x low ∙ ap (λ (t : Bool). not t && bit (cluster_bits c v) x) (lt-leb 1 (given x) (omega (arith, none)))

  follows : Follows c d v n kind name r (Placed e) f taken given
  follows = record {
    spelled = follow-merged 0 0 (front keep e.runs) (follow-front 0 0 keep e.runs k.spelled);
    before = runs_before kind name r e k.own.stream;
    fits = new_fits;
    holes = cut_whole keep e.runs;
    records = λ mirror type alike. untorn_alike d v.per FileRec 1024 e f refl (omega arith) places;
    nodes = λ type alike. untorn_alike d v.per Index 4096 e f refl (omega arith) places;
    blocks = λ same alike. absurd (k.no_index same);
    limits = λ same. (e, refl);
    balance = λ x. omega (arith, uses-merged (front keep e.runs) x, uses_parts keep e.runs x);
    clear = λ x low clear. omega arith;
    marked = λ x low set. omega arith;
    not_taken = λ x low clear. refl;
    freed = λ x low was is. elim (cases_lt 0 (given x)) [
      | inl some ↦ some
      | inr none ↦ absurd (both_ways (bit (cluster_bits d v) x) is (bit_stays x low none ∙ was))
    ];
  }

  written_now : IsWritten (placed_record v.per kind name (shortened v.per size e) r) s
  written_now = subst (λ (x : Record). IsWritten x s) k.cut.file k.written

  pub cut_leads : LeadsTo (is_edited (record { number = n; file = Some s } ∷ [])) c v (content_with c bodies) g clusters (with_record v n s)
  cut_leads = resized_leads c g clusters v n kind name r (Placed e) f taken given bodies sized eight state k.own marks_streams (λ t is. inl is) s written_now (as_fresh marks_streams v n kind name s bodies k.puts) follows

  -- ---- as an edit of a plan

  bits : BitsFollow v.clusters (cluster_bits c v) (cluster_bits d v) taken given
  bits = record {
    cleared = λ x low some. bit_free x low some;
    set = λ x low less. absurd (omega (arith, less));
    others = λ x low none. bit_stays x low (omega (arith, none));
  }

  own_v : stream_at v (key_of n kind name) ≡ Some (Placed e)
  own_v = own_was c g clusters v n kind name r (Placed e) f taken given bodies sized eight state k.own marks_streams (λ t is. inl is) s written_now (as_fresh marks_streams v n kind name s bodies k.puts) follows

  live_before : (m : ℕ) (b : Block) → block_at v.per f.runs (stream_kind (key_of n kind name)) m ≡ Some b → 512 * (sectors (stream_kind (key_of n kind name)) * m) < f.initialised → IsLive v b ⊎ IsPut bodies b
  live_before m b lies begins =
      inl
      (record {
        owned = record { stream = key_of n kind name; number = m; lies = ap (λ (o : Option Stream). block_at v.per (runs_in o) (stream_kind (key_of n kind name)) m) own_v ∙ sym (places (stream_kind (key_of n kind name)) m begins) ∙ lies };
        begins = subst (λ (o : Option Stream). 512 * (sectors (stream_kind (key_of n kind name)) * m) < initialised_in o) (sym own_v) (omega (arith, begins));
      })

  none_new : (x : ℕ) → 0 < uses f.runs x → uses e.runs x ≡ 0 → ⊥
  none_new x some none = omega (arith, some, none, uses-merged (front keep e.runs) x, uses_parts keep e.runs x)

  pub cut_goes_on : (first : Content) (start : Volume) (gave : ℕ → Option BlockKind) → ((other : BlockKind) (x : ℕ) → gave x ≡ Some other → bit (cluster_bits first start) x ≡ false)
      → GoesOn first start c g clusters v bodies (with_record v n s) gave gave
  cut_goes_on first start gave clear =
      resized_goes_on c g clusters v n kind name r (Placed e) f taken given bodies sized eight state k.own marks_streams (λ t is. inl is) s written_now (as_fresh marks_streams v n kind name s bodies k.puts) follows first start gave gave bits live_before
      (λ x some none. absurd (none_new x some none)) (λ other x is. is) clear

  -- ---- what is read

  pub cut_bytes : marks_streams (key_of n kind name) ≡ false → bytes_or (content_with c bodies) v.per (stream_at (with_record v n s) (key_of n kind name)) ≡ take size (bytes_or c v.per (stream_at v (key_of n kind name)))
  cut_bytes apart =
      ap (bytes_or d v.per) (own_now c g clusters v n kind name r (Placed e) f taken given bodies sized eight state k.own marks_streams (λ t is. inl is) s written_now (as_fresh marks_streams v n kind name s bodies k.puts) follows)
      ∙ front_bytes d v.per e f (record { real = k.less; initialised = refl; places = λ m held. places Plain m (omega (arith, held)) })
      ∙ ap (λ (o : Option Stream). take size (bytes_or d v.per o)) (sym own_v)
      ∙ ap (take size) (reads_on c g clusters v n kind name r (Placed e) f taken given bodies sized eight state k.own marks_streams (λ t is. inl is) s written_now (as_fresh marks_streams v n kind name s bodies k.puts) follows (key_of n kind name) apart (λ same. k.own.apart.table (sym (ap (λ t. t.file) same))))

  pub cut_tree : has_hole (Some (Placed e)) ≡ false → TreeFollows c (content_with c bodies) v n r s
  cut_tree = resized_tree c g clusters v n kind name r (Placed e) f taken given bodies sized eight state k.own marks_streams (λ t is. inl is) s written_now (as_fresh marks_streams v n kind name s bodies k.puts) follows
