-- Blocks that an index has initialised lie in its clusters.
use Rattle.std.proofs.Common.{◌≡◌, ◌≢◌, ℕ, zero, suc, ◌+◌, ◌-◌, ◌*◌, ◌/◌, ◌%◌, ◌^◌, ◌<◌, ◌≤◌, Bool, true, false, not, cond, leb, ltb, min, List, [], ◌∷◌, Option, Some, None, refl, sym, ap, subst, ◌∙◌, inl, inr, arith}
use Rattle.std.specs.Prelude.{find, map, slice_get, is_some, option_map}
use Rattle.std.specs.List.{list_all, list_any, range_with_len}
use Rattle.std.proofs.lemmas.Bool.{cases_lt, and_parts, and_from, and_right, or_parts, le-leb, le-ltb, lt-leb, lt-ltb, leb-true}
use Rattle.disk_model.specs.declared.block.Block.{Block}
use Rattle.disk_model.specs.declared.block.BlockKind.TheVariants.{Index}
use Rattle.record_model.specs.declared.runs.Run.{Run}
use Rattle.record_model.specs.Pairs.{cluster_limit, Follow, HasSpelling}
use Rattle.state_model.specs.declared.stream.Extents.{Extents}
use Rattle.state_model.specs.Loads.{total_clusters}
use Rattle.state_model.specs.Streams.{holds, lcn_in, block_at}
use Rattle.volume_model.specs.Indexes.{void_block, or_void, index_block, block_count, blocks_of, runs_end}
use Rattle.volume_model.specs.Sizes.{is_hole, lies_below, lies_inside}
use Rattle.state_streams.proofs.plan_growth.Runs.{end_is_total}

-- ---- the cluster of a VCN in runs that follow one another, none of them sparse

-- the VCN has a cluster of the volume
abbrev pub HasCluster : ℕ → ℕ → Option Run → Type 0
HasCluster clusters v o = (x : ℕ) × ((lcn_in v o ≡ Some x) × (x < clusters))

lcn_there : (clusters v vcn len : ℕ) (lcn : Option ℕ) → is_some lcn ≡ true → lies_below clusters len lcn ≡ true → vcn ≤ v → v < vcn + len → (x : ℕ) × ((option_map (λ (l : ℕ). l + (v - vcn)) lcn ≡ Some x) × (x < clusters))
lcn_there clusters v vcn len None some inside low high = absurd cc
lcn_there clusters v vcn len (Some l) some inside low high =
    let ends : l + len ≤ clusters = leb-true (l + len) clusters inside in
    (l + (v - vcn), (refl, omega (arith, ends, low, high)))

not_hole : (lcn : Option ℕ) → not (is_some lcn) ≡ false → is_some lcn ≡ true
not_hole None is = absurd cc
not_hole (Some l) is = refl

here : (clusters v : ℕ) (r : Run) → is_hole r ≡ false → lies_inside clusters r ≡ true → r.vcn ≤ v → v < r.vcn + r.len → HasCluster clusters v (Some r)
here clusters v r whole inside low high = lcn_there clusters v r.vcn r.len r.lcn (not_hole r.lcn whole) inside low high

chosen : (clusters v : ℕ) (t : Bool) (r : Run) (rest : Option Run) → t ≡ true → HasCluster clusters v (Some r) → HasCluster clusters v (cond t (Some r) rest)
chosen clusters v true r rest is has = has
chosen clusters v false r rest is has = absurd cc

passed_by : (clusters v : ℕ) (t : Bool) (r : Run) (rest : Option Run) → t ≡ false → HasCluster clusters v rest → HasCluster clusters v (cond t (Some r) rest)
passed_by clusters v true r rest is has = absurd cc
passed_by clusters v false r rest is has = has

found_in : (clusters : ℕ) (runs : List Run) (n v : ℕ) → Follow 0 n runs → list_any is_hole runs ≡ false → list_all (lies_inside clusters) runs ≡ true → n ≤ v → v < n + total_clusters runs → HasCluster clusters v (find (holds v v) runs)
found_in clusters [] n v follow whole inside low high = absurd (omega (arith, low, high))
found_in clusters (r ∷ runs) n v follow whole inside low high =
    let parts = or_parts (is_hole r) (list_any is_hole runs) whole in
    let lie = and_parts (lies_inside clusters r) (list_all (lies_inside clusters) runs) inside in
    let within = follow.0.within in
    let begins : r.vcn ≡ n = follow.0.vcn ∙ omega (arith, within) in
    elim (cases_lt v (n + r.len)) [
      | inl less ↦ (
          let first : r.vcn ≤ v = omega (arith, begins, low) in
          let last : v < r.vcn + r.len = omega (arith, begins, less) in
          chosen clusters v (holds v v r) r (find (holds v v) runs) (and_from (leb r.vcn v) (ltb v (r.vcn + r.len)) (le-leb r.vcn v first) (lt-ltb v (r.vcn + r.len) last)) (here clusters v r parts.0 lie.0 first last))
      | inr ge ↦ (
          let past : ltb v (r.vcn + r.len) ≡ false = le-ltb v (r.vcn + r.len) (omega (arith, begins, ge)) in
          passed_by clusters v (holds v v r) r (find (holds v v) runs) (and_right (leb r.vcn v) (ltb v (r.vcn + r.len)) past) (found_in clusters runs (n + r.len) v follow.1 parts.1 lie.1 ge (omega (arith, high))))
    ]

-- ---- the block of an index

-- a block of these runs that is none past the end of every disk
pub record LiesThere (per : ℕ) (runs : List Run) (m : ℕ) : Type 0 where
  pub block : Block
  pub lies : block_at per runs Index m ≡ Some block
  pub real : block ≢ void_block

at_cluster : (m x clusters : ℕ) (o : Option ℕ) → o ≡ Some x → x < clusters → clusters ≤ cluster_limit → (b : Block) × ((option_map (λ (lcn : ℕ). record { first = lcn * 8 + 8 * m % 8; kind = Index }) o ≡ Some b) × (b ≢ void_block))
at_cluster m x clusters o is low few = (
  record { first = x * 8 + 8 * m % 8; kind = Index },
  (
    ap (option_map (λ (lcn : ℕ). record { first = lcn * 8 + 8 * m % 8; kind = Index })) is,
    (λ same. let first : x * 8 + 8 * m % 8 ≡ 2 ^ 62 = ap (λ (b : Block). b.first) same in absurd (omega (arith, first, low, few))),
  ),
)

by_eight : (clusters : ℕ) (runs : List Run) (m : ℕ) → clusters ≤ cluster_limit → HasSpelling 0 runs → list_any is_hole runs ≡ false → list_all (lies_inside clusters) runs ≡ true → m < total_clusters runs → LiesThere 8 runs m
unfolding block_at
by_eight clusters runs m few spelled whole inside low =
    let begins : 8 * m / 8 ≡ m = omega arith in
    let ends : (8 * m + 8 - 1) / 8 ≡ m = omega arith in
    let has = found_in clusters runs 0 m spelled whole inside (omega arith) (omega (arith, low)) in
    let at : lcn_in (8 * m / 8) (find (holds (8 * m / 8) ((8 * m + 8 - 1) / 8)) runs) ≡ Some has.0 =
    ap (λ (k : ℕ). lcn_in k (find (holds k ((8 * m + 8 - 1) / 8)) runs)) begins ∙ ap (λ (k : ℕ). lcn_in m (find (holds m k) runs)) ends ∙ has.1.0 in
    let there = at_cluster m has.0 clusters (lcn_in (8 * m / 8) (find (holds (8 * m / 8) ((8 * m + 8 - 1) / 8)) runs)) at has.1.1 few in
    record { block = there.0; lies = there.1.0; real = there.1.1 }

pub lies_there : (per clusters : ℕ) (runs : List Run) (m : ℕ) → per ≡ 8 → clusters ≤ cluster_limit → HasSpelling 0 runs → list_any is_hole runs ≡ false → list_all (lies_inside clusters) runs ≡ true → m < total_clusters runs → LiesThere per runs m
lies_there per clusters runs m eight few spelled whole inside low = subst (λ (p : ℕ). LiesThere p runs m) (sym eight) (by_eight clusters runs m few spelled whole inside low)

-- ---- its number is below their count

get_of : (g : ℕ → Block) (a n i : ℕ) → i < n → slice_get (map g (range_with_len a n)) i ≡ Some (g (a + i))
get_of g a zero i low = absurd (omega (arith, low))
get_of g a (suc n) zero low = ap (λ (x : ℕ). Some (g x)) (omega arith)
get_of g a (suc n) (suc i) low = get_of g (a + 1) n i (omega (arith, low)) ∙ ap (λ (x : ℕ). Some (g x)) (omega arith)

counted : (per total real : ℕ) → per ≡ 8 → real ≤ total * (512 * per) → min (real / 4096) (total * per / 8) ≡ real / 4096
counted per total real eight = subst (λ (p : ℕ). real ≤ total * (512 * p) → min (real / 4096) (total * p / 8) ≡ real / 4096) (sym eight) (λ least. omega (arith, least))

-- it is the block with its number of the index's own
pub listed : (per : ℕ) (e : Extents) (m : ℕ) (b : Block) → per ≡ 8 → HasSpelling 0 e.runs → e.real ≤ total_clusters e.runs * (512 * per) → 4096 * m < e.initialised → 4096 * (m + 1) ≤ e.real → block_at per e.runs Index m ≡ Some b → slice_get (blocks_of per e) m ≡ Some b
unfolding blocks_of index_block block_count
listed per e m b eight spelled high begins within there =
    let count : min (e.real / 4096) (runs_end e.runs * per / 8) ≡ e.real / 4096 = ap (λ (x : ℕ). min (e.real / 4096) (x * per / 8)) (end_is_total e.runs spelled) ∙ counted per (total_clusters e.runs) e.real eight high in
    let low : m < min (e.real / 4096) (runs_end e.runs * per / 8) = omega (arith, count, within) in
    get_of (index_block per e) 0 (min (e.real / 4096) (runs_end e.runs * per / 8)) m low
    ∙ ap (λ (t : Bool). Some (cond t void_block (or_void (block_at per e.runs Index (0 + m))))) (lt-leb e.initialised (4096 * (0 + m)) (omega (arith, begins)))
    ∙ ap (λ (k : ℕ). Some (or_void (block_at per e.runs Index k))) (omega arith)
    ∙ ap (λ (o : Option Block). Some (or_void o)) there
