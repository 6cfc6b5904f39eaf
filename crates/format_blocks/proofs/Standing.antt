-- The regions stand on a device that was formatted.
use Rattle.std.proofs.Common.{◌≡◌, ℕ, ◌+◌, ◌*◌, ◌^◌, ◌<◌, ◌≤◌, List, [], ◌∷◌, length, inl, inr, subst, arith}
use Rattle.disk_model.specs.Sectors.{IsDisk}
use Rattle.volume_format.specs.declared.layout.Layout.{Layout}
use Rattle.volume_format.specs.Layouts.{IsLayout, layout_of, clusters_of}
use Rattle.volume_format.specs.Files.{table_bytes}
use Rattle.volume_format.specs.Images.{Region, put_region, put_regions, regions, cluster_bits, log_bytes, formatted}
use Rattle.format_blocks.specs.Regions.{StandsAt, HasRegions, RegionsStand}
use Rattle.format_blocks.proofs.Placing.{whole_put, AreApart, length-put, put_here, still, length-put_regions}
use Rattle.format_blocks.proofs.Sizing.{length-table, length-block, length-boot, length-record_bits, length-upper_case, length-log, length-cluster_bits}

-- a device that isn't refused has a layout
pub layout_fits : (device : ℕ) → clusters_of device ≤ 16777216 → 4537 ≤ device → IsLayout (layout_of device)
unfolding layout_of
layout_fits device small large = record {
  inside = omega arith;
  clusters = omega arith;
  small = small;
  log_some = omega arith;
  log_small = omega arith;
  bitmap_some = omega arith;
  bitmap_small = omega arith;
  bitmap_whole = omega arith;
}

-- regions one after the other, the first of them at this cluster, with so many sectors
abbrev AreAll : List Region → List ℕ → ℕ → Type 0
AreAll [] counts disk = Unit {0}
AreAll (r ∷ rs) [] disk = ⊥
AreAll (r ∷ rs) (n ∷ counts) disk = ((length r.bytes ≡ 512 * n) × (8 * r.cluster + n ≤ disk) × AreApart r.cluster n rs counts) × AreAll rs counts disk

abbrev StandAll : List (List ℕ) → List Region → Type 0
StandAll disk [] = Unit {0}
StandAll disk (r ∷ rs) = StandsAt disk r.cluster r.bytes × StandAll disk rs

all_stand : (rs : List Region) (counts : List ℕ) (disk : List (List ℕ)) → AreAll rs counts (length disk) → StandAll (put_regions rs disk) rs
all_stand [] counts disk all = tt
all_stand (r ∷ rs) [] disk all = absurd all
all_stand (r ∷ rs) (n ∷ counts) disk all = (
  still r.cluster n r.bytes rs counts (put_region r disk) all.0.0 all.0.2 (put_here r n disk all.0.0 all.0.1),
  all_stand rs counts (put_region r disk) (moved rs counts (length disk) (length (put_region r disk)) (omega (arith, length-put r disk)) all.1),
)
  where
    moved : (rs : List Region) (counts : List ℕ) (a b : ℕ) → a ≡ b → AreAll rs counts a → AreAll rs counts b
    moved rs counts a b same all = subst (AreAll rs counts) same all

whole_all : (rs : List Region) (counts : List ℕ) (size : ℕ) (disk : List (List ℕ)) → AreAll rs counts size → IsDisk disk → IsDisk (put_regions rs disk)
whole_all [] counts size disk all whole = whole
whole_all (r ∷ rs) [] size disk all whole = absurd all
whole_all (r ∷ rs) (n ∷ counts) size disk all whole = whole_all rs counts size (put_region r disk) all.1 (whole_put r n disk all.0.0 whole)

module _ (v : Layout) (layout : IsLayout v) (seed time : ℕ) (small : time < 2 ^ 64) (device : ℕ) (room : 8 * v.clusters ≤ device) where
  abbrev counts : List ℕ
  counts = 128 ∷ 8 ∷ 8 ∷ 256 ∷ 8 * v.log_pages ∷ 8 * v.bitmap_clusters ∷ 8 ∷ 16 ∷ []

  table_counts : length (table_bytes v time 64) ≡ 512 * 128
  table_counts = length-table v layout time small 64 (omega arith)

  mirror_counts : length (table_bytes v time 4) ≡ 512 * 8
  mirror_counts = length-table v layout time small 4 (omega arith)

  log_counts : length (log_bytes v) ≡ 512 * (8 * v.log_pages)
  log_counts = omega (arith, length-log v)

  bits_counts : length (cluster_bits v) ≡ 512 * (8 * v.bitmap_clusters)
  bits_counts = omega (arith, length-cluster_bits v)

  all_apart : AreAll (regions v seed time) counts device
  all_apart =
      let inside = layout.inside in
      let table = table_counts in
      let mirror = mirror_counts in
      let bits = length-record_bits in
      let upper = length-upper_case in
      let log = log_counts in
      let clusters = bits_counts in
      let block = length-block v layout time small in
      let boot = length-boot v seed in (
        (table, omega arith, ((mirror, inr (omega arith)), ((bits, inr (omega arith)), ((upper, inl (omega arith)), ((log, inl (omega arith)), ((clusters, inl (omega arith)), ((block, inl (omega arith)), ((boot, inr (omega arith)), tt)))))))),
        (
          (mirror, omega arith, ((bits, inl (omega arith)), ((upper, inl (omega arith)), ((log, inl (omega arith)), ((clusters, inl (omega arith)), ((block, inl (omega arith)), ((boot, inr (omega arith)), tt))))))),
          (
            (bits, omega arith, ((upper, inl (omega arith)), ((log, inl (omega arith)), ((clusters, inl (omega arith)), ((block, inl (omega arith)), ((boot, inr (omega arith)), tt)))))),
            (
              (upper, omega arith, ((log, inl (omega arith)), ((clusters, inl (omega arith)), ((block, inl (omega arith)), ((boot, inr (omega arith)), tt))))),
              (
                (log, omega arith, ((clusters, inl (omega arith)), ((block, inl (omega arith)), ((boot, inr (omega arith)), tt)))),
                (
                  (clusters, omega arith, ((block, inl (omega arith)), ((boot, inr (omega arith)), tt))),
                  (
                    (block, omega arith, ((boot, inr (omega arith)), tt)),
                    ((boot, omega arith, tt), tt),
                  ),
                ),
              ),
            ),
          ),
        ),
      )

put_all : (v : Layout) → IsLayout v → (seed time : ℕ) → time < 2 ^ 64 → (old : List (List ℕ)) → 8 * v.clusters ≤ length old → HasRegions v seed time (put_regions (regions v seed time) old)
put_all v layout seed time small old room =
    let all = all_stand (regions v seed time) (counts v layout seed time small (length old) room) old (all_apart v layout seed time small (length old) room) in
    record {
      table = all.0;
      mirror = all.1.0;
      record_bits_stand = all.1.1.0;
      upper_case = all.1.1.1.0;
      log = all.1.1.1.1.0;
      cluster_bits_stand = all.1.1.1.1.1.0;
      block = all.1.1.1.1.1.1.0;
      boot = all.1.1.1.1.1.1.1.0;
    }

whole_regions : (v : Layout) → IsLayout v → (seed time : ℕ) → time < 2 ^ 64 → (old : List (List ℕ)) → 8 * v.clusters ≤ length old → IsDisk old → IsDisk (put_regions (regions v seed time) old)
whole_regions v layout seed time small old room whole = whole_all (regions v seed time) (counts v layout seed time small (length old) room) (length old) old (all_apart v layout seed time small (length old) room) whole

device_room : (device : ℕ) → 8 * (layout_of device).clusters ≤ device
unfolding layout_of
device_room device = omega arith

pub regions_stand : RegionsStand
unfolding formatted
regions_stand = λ old seed time can.
    let v = layout_of (length old) in
    record {
      counted = length-put_regions (regions v seed time) old;
      whole = whole_regions v (layout_fits (length old) can.small can.least) seed time can.time_fits old (device_room (length old)) can.whole;
      regions = put_all v (layout_fits (length old) can.small can.least) seed time can.time_fits old (device_room (length old));
    }
