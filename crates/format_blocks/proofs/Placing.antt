-- Regions that are written one after the other, none of which shares a sector with another.
use Rattle.std.proofs.Common.{◌≡◌, ◌⊎◌, ℕ, ◌+◌, ◌-◌, ◌*◌, ◌/◌, ◌<◌, ◌≤◌, List, [], ◌∷◌, length, refl, sym, ap, ◌∙◌, inl, inr, arith}
use Rattle.std.proofs.lemmas.Bool.{cases_lt}
use Rattle.std.proofs.lemmas.List.{get_or_past}
use Rattle.disk_model.specs.Sectors.{sector_of, zero_sector, IsDisk}
use Rattle.disk_model.proofs.Frames.{written_within, written_before, written_behind, length-written}
use Rattle.sector_device.specs.Sectors.{sectors_of}
use Rattle.sector_device.specs.WholeSectors.{length-sectors_of, get_or-sectors_of, length-sector_in}
use Rattle.volume_format.specs.Images.{Region, put_region, put_regions}
use Rattle.format_blocks.specs.Regions.{StandsAt}

-- so many sectors of a region
abbrev pub Counts : Region → ℕ → Type 0
Counts r n = length r.bytes ≡ 512 * n

pub length-put : (r : Region) (disk : List (List ℕ)) → length (put_region r disk) ≡ length disk
length-put r disk = length-written (8 * r.cluster) (sectors_of r.bytes) disk

-- a region stands where it was put
pub put_here : (r : Region) (n : ℕ) (disk : List (List ℕ)) → Counts r n → 8 * r.cluster + n ≤ length disk → StandsAt (put_region r disk) r.cluster r.bytes
put_here r n disk counts inside k whole =
    let short : k < length r.bytes / 512 = omega arith in
    let below : k < length (sectors_of r.bytes) = omega (arith, length-sectors_of r.bytes) in
    let room : 8 * r.cluster + k < length disk = omega arith in
    written_within (8 * r.cluster) (sectors_of r.bytes) disk (8 * r.cluster + k) k zero_sector refl below room ∙ get_or-sectors_of r.bytes k zero_sector short

-- sectors of which a region has none stay
pub put_apart : (r : Region) (n s : ℕ) (disk : List (List ℕ)) → Counts r n → (s < 8 * r.cluster) ⊎ (8 * r.cluster + n ≤ s) → sector_of (put_region r disk) s ≡ sector_of disk s
put_apart r n s disk counts (inl before) = written_before (8 * r.cluster) (sectors_of r.bytes) disk s zero_sector before
put_apart r n s disk counts (inr behind) = written_behind (8 * r.cluster) (sectors_of r.bytes) disk s zero_sector (omega (arith, length-sectors_of r.bytes))

-- and each sector still has 512 bytes
pub whole_put : (r : Region) (n : ℕ) (disk : List (List ℕ)) → Counts r n → IsDisk disk → IsDisk (put_region r disk)
whole_put r n disk counts whole s = elim (cases_lt s (8 * r.cluster)) [
  | inl before ↦ ap length (written_before (8 * r.cluster) (sectors_of r.bytes) disk s zero_sector before) ∙ whole s
  | inr from ↦ elim (cases_lt s (8 * r.cluster + n)) [
    | inr behind ↦ ap length (written_behind (8 * r.cluster) (sectors_of r.bytes) disk s zero_sector (omega (arith, length-sectors_of r.bytes))) ∙ whole s
    | inl within ↦ elim (cases_lt s (length disk)) [
      | inr past ↦
          ap length (get_or_past (put_region r disk) s zero_sector (omega (arith, length-put r disk)) ∙ sym (get_or_past disk s zero_sector past)) ∙ whole s
      | inl inside ↦
          (let k : ℕ = s - 8 * r.cluster in
          let place : s ≡ 8 * r.cluster + (s - 8 * r.cluster) = omega arith in
          let short : s - 8 * r.cluster < length r.bytes / 512 = omega arith in
          let below : s - 8 * r.cluster < length (sectors_of r.bytes) = omega (arith, length-sectors_of r.bytes) in
          ap length (written_within (8 * r.cluster) (sectors_of r.bytes) disk s (s - 8 * r.cluster) zero_sector place below inside ∙ get_or-sectors_of r.bytes (s - 8 * r.cluster) zero_sector short)
          ∙ length-sector_in r.bytes (s - 8 * r.cluster) short)
    ]
  ]
]

-- regions lie before or behind so many sectors from a cluster on
abbrev pub AreApart : ℕ → ℕ → List Region → List ℕ → Type 0
AreApart cluster n [] counts = Unit {0}
AreApart cluster n (r ∷ rs) [] = ⊥
AreApart cluster n (r ∷ rs) (m ∷ counts) = (Counts r m × ((8 * cluster + n ≤ 8 * r.cluster) ⊎ (8 * r.cluster + m ≤ 8 * cluster))) × AreApart cluster n rs counts

side : (cluster n k s m : ℕ) → k < n → (8 * cluster + n ≤ 8 * s) ⊎ (8 * s + m ≤ 8 * cluster) → (8 * cluster + k < 8 * s) ⊎ (8 * s + m ≤ 8 * cluster + k)
side cluster n k s m lt (inl before) = inl (omega arith)
side cluster n k s m lt (inr behind) = inr (omega arith)

-- a region that stands still stands when regions apart from it are put
pub still : (cluster n : ℕ) (bytes : List ℕ) (rs : List Region) (counts : List ℕ) (disk : List (List ℕ)) → length bytes ≡ 512 * n → AreApart cluster n rs counts → StandsAt disk cluster bytes → StandsAt (put_regions rs disk) cluster bytes
still cluster n bytes [] counts disk size apart stands = stands
still cluster n bytes (r ∷ rs) [] disk size apart stands = absurd apart
still cluster n bytes (r ∷ rs) (m ∷ counts) disk size apart stands =
    still cluster n bytes rs counts (put_region r disk) size apart.1 (λ k whole.
    put_apart r m (8 * cluster + k) disk apart.0.0 (side cluster n k r.cluster m (omega arith) apart.0.1) ∙ stands k whole)

pub length-put_regions : (rs : List Region) (disk : List (List ℕ)) → length (put_regions rs disk) ≡ length disk
length-put_regions [] disk = refl
length-put_regions (r ∷ rs) disk = length-put_regions rs (put_region r disk) ∙ length-put r disk
