-- What is known of a bitmap that becomes another one.
use Rattle.std.proofs.Common.{◌≡◌, ◌⊎◌, ℕ, ◌+◌, ◌*◌, ◌/◌, ◌<◌, ◌≤◌, true, false, List, [], Some, refl, sym, ap, subst, ◌∙◌, arith}
use Rattle.std.specs.List.{list_all, list_any}
use Rattle.std.proofs.lemmas.Bool.{and_parts, and_from, le-leb, eq-eqb}
use Rattle.disk_model.specs.declared.block.Block.{Block}
use Rattle.disk_model.specs.declared.block.BlockKind.TheVariants.{Plain}
use Rattle.disk_model.specs.Content.{Content}
use Rattle.record_model.specs.declared.runs.Run.{Run}
use Rattle.state_model.specs.declared.geometry.Geometry.{Geometry}
use Rattle.state_model.specs.declared.stream.Extents.{Extents}
use Rattle.state_model.specs.declared.stream.Stream.{Stream}
use Rattle.state_model.specs.declared.stream.Stream.TheVariants.{Held, Placed}
use Rattle.state_model.specs.Loads.{total_clusters}
use Rattle.state_model.specs.Streams.{block_at}
use Rattle.volume_model.specs.Volumes.{Volume, cluster_bits}
use Rattle.volume_model.specs.Owners.{uses}
use Rattle.volume_model.specs.Sizes.{is_hole, lies_inside, fits_volume, has_hole}
use Rattle.stream_laws.specs.Leaving.{LiesFree}
use Rattle.stream_laws.specs.Owners.{initialised_in}
use Rattle.stream_laws.specs.Sharing.{runs_in}
use Rattle.stream_laws.proofs.Sharing.{uses-none}
use Rattle.stream_runs.proofs.Places.{places-grown}
use Rattle.plan_growth.specs.resized_streams.Resizing.{unplaced}
use Rattle.plan_growth.specs.plan_owners.States.{Stands}
use Rattle.plan_growth.proofs.plan_model.Drafting.{per_is}
use Rattle.plan_growth.specs.Streams.{MayTake}
use Rattle.plan_growth.proofs.Growing.{uses-grown}
use Rattle.plan_growth.proofs.Ruled.{sizes_lawful}
use Rattle.plan_growth.proofs.Runs.{grown_inside, grown_whole}
use Rattle.plan_table.specs.Growing.{TakesBits, BitmapBecomes}
use Rattle.plan_table.proofs.Behind.{in_one, old_or_free}

-- The new bitmap is lawful, and sparse only where the old one was. It has the old one's clusters and those that came. Its sectors are the
-- old one's, or free; and one that begins below the old initialised size is where it was.
pub record IsWider (v : Volume) (more : List Run) (old new : Stream) : Type 0 where
  pub fits : fits_volume v.per v.clusters (Some new) ≡ true
  pub holes : has_hole (Some old) ≡ false → has_hole (Some new) ≡ false
  pub balance : (x : ℕ) → uses (runs_in (Some new)) x ≡ uses (runs_in (Some old)) x + uses more x
  pub sectors : (m : ℕ) (b : Block) → block_at v.per (runs_in (Some new)) Plain m ≡ Some b → (block_at v.per (runs_in (Some old)) Plain m ≡ Some b) ⊎ LiesFree v b
  pub stays : (m : ℕ) → 512 * m < initialised_in (Some old) → block_at v.per (runs_in (Some new)) Plain m ≡ block_at v.per (runs_in (Some old)) Plain m

no_sector : (per m : ℕ) (b : Block) → block_at per [] Plain m ≡ Some b → ⊥
unfolding block_at
no_sector per m b is = absurd cc

below_total : (per total initialised m : ℕ) → per ≡ 8 → initialised ≤ total * (512 * per) → 512 * m < initialised → 1 * m / per < total
below_total per total initialised m eight = subst (λ (p : ℕ). initialised ≤ total * (512 * p) → 512 * m < initialised → 1 * m / p < total) (sym eight) (λ least begins. omega (arith, least, begins))

-- a stream without clusters and sizes is lawful
none_fits : (per clusters : ℕ) → fits_volume per clusters (Some (Placed (unplaced 0))) ≡ true
none_fits per clusters = eq-eqb 0 (0 * (512 * per)) (omega arith)

module _ (c : Content) (g : Geometry) (clusters : ℕ) (v : Volume) (more : List Run) (eight : g.per_cluster ≡ 8) (state : Stands c g clusters v) (taken : MayTake v.clusters (cluster_bits c v) more) where
  module _ (e f : Extents) (k : TakesBits v.per more e f) (fits_old : fits_volume v.per v.clusters (Some (Placed e)) ≡ true) where
    placed_fits : fits_volume v.per v.clusters (Some (Placed f)) ≡ true
    placed_fits =
        let inside = (and_parts (list_all (lies_inside v.clusters) e.runs) _ fits_old).0 in
        and_from _ _ (subst (λ (l : List Run). list_all (lies_inside v.clusters) l ≡ true) (sym k.runs) (grown_inside v.clusters e.runs more inside taken.inside))
        (and_from _ _ (and_from _ _ (le-leb f.initialised f.real k.lawful) (le-leb f.real f.allocated k.room)) (eq-eqb f.allocated (total_clusters f.runs * (512 * v.per)) k.allocated))

    placed_sectors : (m : ℕ) (b : Block) → block_at v.per f.runs Plain m ≡ Some b → (block_at v.per e.runs Plain m ≡ Some b) ⊎ LiesFree v b
    placed_sectors m b lies = old_or_free c g clusters v more eight state taken e.runs Plain m b k.spelled k.few (sym (ap (λ (l : List Run). block_at v.per l Plain m) k.runs) ∙ lies)

    placed_stays : (m : ℕ) → 512 * m < e.initialised → block_at v.per f.runs Plain m ≡ block_at v.per e.runs Plain m
    placed_stays m begins =
        let sizes = sizes_lawful v.per v.clusters e fits_old in
        let low = sizes.0 in
        let high = sizes.1 in
        ap (λ (l : List Run). block_at v.per l Plain m) k.runs
        ∙ places-grown v.per e.runs more Plain m k.spelled taken.spelled k.few (in_one c g clusters v more eight state taken Plain m) (below_total v.per (total_clusters e.runs) e.initialised m (per_is c g clusters v eight state) (omega (arith, low, high)) begins)

    placed_wider : IsWider v more (Placed e) (Placed f)
    placed_wider = record {
      fits = placed_fits;
      holes = λ none. ap (list_any is_hole) k.runs ∙ grown_whole e.runs more none taken.whole;
      balance = λ x. ap (λ (l : List Run). uses l x) k.runs ∙ uses-grown e.runs more x;
      sectors = placed_sectors;
      stays = placed_stays;
    }

  pub becomes_wider : (old new : Stream) → BitmapBecomes v.per more old new → fits_volume v.per v.clusters (Some old) ≡ true → IsWider v more old new
  becomes_wider (Held value) (Held bytes) none fits_old = record {
    fits = refl;
    holes = λ is. refl;
    balance = λ x. (let empty : uses more x ≡ uses [] x = ap (λ (l : List Run). uses l x) none in omega (arith, empty, uses-none x));
    sectors = λ m b lies. absurd (no_sector v.per m b lies);
    stays = λ m begins. refl;
  }
  becomes_wider (Held value) (Placed f) k fits_old =
      let from_none = placed_wider (unplaced 0) f k (none_fits v.per v.clusters) in
      record {
        fits = from_none.fits;
        holes = λ is. from_none.holes refl;
        balance = from_none.balance;
        sectors = from_none.sectors;
        stays = λ m begins. absurd (omega (arith, begins));
      }
  becomes_wider (Placed e) (Held bytes) none fits_old = absurd none
  becomes_wider (Placed e) (Placed f) k fits_old = placed_wider e f k fits_old
