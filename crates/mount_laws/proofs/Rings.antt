-- A log whose clusters lie once in a volume of eight sectors a cluster, and of which no page lies nowhere, may be written as it lies.
use Rattle.std.proofs.Common.{◌≡◌, ℕ, ◌+◌, ◌-◌, ◌*◌, ◌/◌, ◌%◌, ◌^◌, ◌<◌, ◌≤◌, true, List, find, Option, Some, None, refl, sym, ap, ◌∙◌, subst, arith}
use Rattle.std.specs.Prelude.{is_some, option_map}
use Rattle.std.proofs.lemmas.Bool.{and_from, lt-ltb}
use Rattle.disk_model.specs.declared.block.Block.{Block}
use Rattle.disk_model.specs.declared.block.BlockKind.TheVariants.{Plain}
use Rattle.disk_model.specs.Sectors.{overlap}
use Rattle.record_model.specs.declared.runs.Run.{Run}
use Rattle.volume_mount.specs.state_model.declared.stream.Extents.{Extents}
use Rattle.volume_mount.specs.state_model.declared.stream.Stream.TheVariants.{Placed}
use Rattle.volume_mount.specs.state_model.Streams.{block_at, holds, lcn_in}
use Rattle.volume_mount.specs.volume_model.Owners.{uses}
use Rattle.volume_mount.specs.stream_laws.Places.{AreOnce}
use Rattle.volume_mount.proofs.stream_laws.Placing.{lies, lies_in_cluster, one_place, is_used}
use Rattle.log_laws.specs.log_page.declared.places.LogPlace.{LogPlace}
use Rattle.volume_mount.specs.log_reading.LogPages.{log_sector}
use Rattle.volume_mount.specs.log_reading.Rings.{IsPageAt, IsRingPlace}
use Rattle.volume_mount.specs.image_open.LogPlaces.{stream_place, LieAlike}
use Rattle.volume_mount.proofs.image_open.Lying.{log_lies_in_stream}

abbrev sector : ℕ → Block
sector s = record { first = s; kind = Plain }

some_of : (o : Option ℕ) → is_some o ≡ true → (x : ℕ) × (o ≡ Some x)
some_of None is = absurd cc
some_of (Some x) is = (x, refl)

mapped : {A B : Type 0} (f : A → B) (o : Option A) (y : B) → option_map f o ≡ Some y → (x : A) × (o ≡ Some x) × (f x ≡ y)
mapped f None y is = absurd cc
mapped f (Some x) y is = (x, refl, cc)

-- ---- the eight sectors of a page

-- the cluster with this number
abbrev cluster : List Run → ℕ → Option ℕ
cluster runs n = lcn_in n (find (holds n n) runs)

abbrev row : ℕ → ℕ → Block
row i l = sector (l * 8 + i)

block_row : (runs : List Run) (n i : ℕ) → i < 8 → block_at 8 runs Plain (8 * n + i) ≡ option_map (row i) (cluster runs n)
unfolding block_at
block_row runs n i below =
    let v : 1 * (8 * n + i) / 8 ≡ n = omega (arith, below) in
    let w : (1 * (8 * n + i) + 1 - 1) / 8 ≡ n = omega (arith, below) in
    let r : 1 * (8 * n + i) % 8 ≡ i = omega (arith, below) in
    ap (λ (x : ℕ). option_map (λ (l : ℕ). sector (l * 8 + x)) (lcn_in (1 * (8 * n + i) / 8) (find (holds (1 * (8 * n + i) / 8) ((1 * (8 * n + i) + 1 - 1) / 8)) runs))) r
    ∙ ap (λ (x : ℕ). option_map (row i) (lcn_in x (find (holds x ((1 * (8 * n + i) + 1 - 1) / 8)) runs))) v
    ∙ ap (λ (x : ℕ). option_map (row i) (lcn_in n (find (holds n x) runs))) w

-- ---- the whole log

-- where it lies
abbrev pub placed_at : ℕ → ℕ → Extents → LogPlace
placed_at clusters device e = stream_place 8 clusters device (Placed e)

-- The clusters of the log lie once, and inside the volume; each of its pages lies on the device and is initialised.
pub record LiesWhole (clusters device : ℕ) (e : Extents) : Type 0 where
  pub once : AreOnce e.runs
  pub inside : (x : ℕ) → 1 ≤ uses e.runs x → x < clusters
  pub there : (n : ℕ) → n < 8 * (placed_at clusters device e).pages → is_some (log_sector (placed_at clusters device e) n) ≡ true
  pub initialised : 4096 * (placed_at clusters device e).pages ≤ (placed_at clusters device e).initialised
  pub ring : 4 < (placed_at clusters device e).pages
  pub small : (placed_at clusters device e).pages < 2 ^ 52

module _ (clusters device : ℕ) (e : Extents) (w : LiesWhole clusters device e) where
  its_clusters : (placed_at clusters device e).clusters ≡ clusters
  unfolding stream_place
  its_clusters = refl

  page_at : (n : ℕ) → n < (placed_at clusters device e).pages → (first : ℕ) × IsPageAt (placed_at clusters device e) n first
  page_at n below =
      let zero_there = some_of (log_sector (placed_at clusters device e) (8 * n + 0)) (w.there (8 * n + 0) (omega (arith, below))) in
      let begin = log_lies_in_stream.only 8 clusters device e (8 * n + 0) zero_there.0 zero_there.1 in
      let found = mapped (row 0) (cluster e.runs n) (sector zero_there.0) (sym (block_row e.runs n 0 (omega arith)) ∙ begin) in
      let first : ℕ = found.0 * 8 in
      let block : block_at 8 e.runs Plain (8 * n + 0) ≡ Some (sector first) = block_row e.runs n 0 (omega arith) ∙ ap (option_map (row 0)) found.1 ∙ ap (λ (x : ℕ). Some (sector x)) (omega arith) in
      let l = lies 8 e.runs Plain (8 * n + 0) (sector first) block in
      let used = is_used _ e.runs l.run (first / 8) l.found (lies_in_cluster 8 e.runs Plain (8 * n + 0) (sector first) l first (omega arith) (omega arith) (omega arith)) in
      let within = w.inside (first / 8) used in (
        first,
        record {
          begun = omega arith;
          volume = omega (arith, within, its_clusters);
          row = λ i small.
              let is = some_of (log_sector (placed_at clusters device e) (8 * n + i)) (w.there (8 * n + i) (omega (arith, below, small))) in
              let at = log_lies_in_stream.only 8 clusters device e (8 * n + i) is.0 is.1 in
              let same : ◌≡◌ {A = Option Block} (Some (sector is.0)) (Some (row i found.0)) = sym at ∙ block_row e.runs n i small ∙ ap (option_map (row i)) found.1 in
              is.1 ∙ ap (λ (o : Option Block). first_or o) same;
          initialised = let all = w.initialised in omega (arith, all, below);
        },
      )
    where
      first_or : Option Block → Option ℕ
      first_or None = None
      first_or (Some b) = Some b.first

  apart : (i j s : ℕ) → i < j → log_sector (placed_at clusters device e) i ≡ Some s → log_sector (placed_at clusters device e) j ≡ Some s → ⊥
  apart i j s less one two =
      let a = log_lies_in_stream.only 8 clusters device e i s one in
      let b = log_lies_in_stream.only 8 clusters device e j s two in
      let both : overlap (sector s) (sector s) ≡ true = and_from _ _ (lt-ltb s (s + 1) (omega arith)) (lt-ltb s (s + 1) (omega arith)) in
      let same = one_place 8 e.runs Plain i j (sector s) (sector s) (omega arith) w.once a b both in
      absurd (omega (arith, less, same))

  pub is_ring : IsRingPlace (placed_at clusters device e)
  is_ring = record { ring = w.ring; small = w.small; pages = page_at; apart = λ i j s less below one two. apart i j s less one two }

-- ---- a place that lies alike

pub alike_ring : (p q : LogPlace) → LieAlike p q → IsRingPlace q → IsRingPlace p
alike_ring p q alike r = record {
  ring = omega (arith, r.ring, alike.pages);
  small = subst (λ (n : ℕ). n < 2 ^ 52) (sym alike.pages) r.small;
  pages = λ n below.
      let at = r.pages n (omega (arith, below, alike.pages)) in (
        at.0,
        record {
          begun = at.1.begun;
          volume = let inside = at.1.volume in omega (arith, inside, alike.clusters);
          row = λ i small. alike.sectors (8 * n + i) ∙ at.1.row i small;
          initialised = let all = at.1.initialised in omega (arith, all, alike.initialised);
        },
      );
  apart = λ i j s less below one two. r.apart i j s less (omega (arith, below, alike.pages)) (sym (alike.sectors i) ∙ one) (sym (alike.sectors j) ∙ two);
}
