-- The written spelling of a boot sector is in the table.
use Rattle.std.proofs.Common.{◌≡◌, ℕ, ◌+◌, ◌-◌, ◌*◌, ◌/◌, ◌^◌, ◌<◌, ◌≤◌, Bool, cond, List, [], ◌∷◌, ◌++◌, length, drop, eqb, refl, sym, ap, ◌∙◌, subst, inl, inr, arith}
use Rattle.std.proofs.lemmas.Bool.{eq-eqb, ne_eqb, cases_lt, le-ltb}
use Rattle.std.proofs.lemmas.Nat.{pow_below}
use Rattle.disk_model.specs.Numbers.{field, spell}
use Rattle.disk_model.specs.Bytes.{zeros}
use Rattle.disk_model.proofs.Fields.{field-drop, field-spell}
use Rattle.boot_sector.specs.declared.boot.Boot.{Boot}
use Rattle.boot_sector.specs.BootSectors.{IsClusterSize, bytes_said, most_clusters, block_clusters, boot_spelling, IsBootSector, FitsBoot}

-- ---- what a raw byte says

-- two powers of 2 are equal where their exponents are
pub power_test : (i j : ℕ) → eqb i j ≡ eqb (2 ^ i) (2 ^ j)
power_test i j = elim (cases_lt i j) [
  | inl lt ↦ ne_eqb i j (λ e. absurd (omega (arith, e, lt))) ∙ sym (ne_eqb (2 ^ i) (2 ^ j) (λ e. absurd (omega (arith, e, pow_below i j lt))))
  | inr le ↦ elim (cases_lt j i) [
    | inl lt ↦ ne_eqb i j (λ e. absurd (omega (arith, e, lt))) ∙ sym (ne_eqb (2 ^ i) (2 ^ j) (λ e. absurd (omega (arith, e, pow_below j i lt))))
    | inr ge ↦ let same : i ≡ j = omega arith in eq-eqb i j same ∙ sym (eq-eqb (2 ^ i) (2 ^ j) (ap (λ (x : ℕ). 2 ^ x) same))
  ]
]

record_said : (n : ℕ) → bytes_said n 0xF6 ≡ 1024
unfolding bytes_said
record_said n = refl

block_said : (n : ℕ) → IsClusterSize n → bytes_said n (8 / n) ≡ 4096
unfolding bytes_said
block_said n (inl e) = ap (λ (x : ℕ). bytes_said x (8 / x)) e
block_said n (inr (inl e)) = ap (λ (x : ℕ). bytes_said x (8 / x)) e
block_said n (inr (inr (inl e))) = ap (λ (x : ℕ). bytes_said x (8 / x)) e
block_said n (inr (inr (inr e))) = ap (λ (x : ℕ). bytes_said x (8 / x)) e

-- a negative byte says a power of 2
pub negative_said : (n raw : ℕ) → 0x80 ≤ raw → bytes_said n raw ≡ 2 ^ (0x100 - raw)
unfolding bytes_said
negative_said n raw high = ap (λ (x : Bool). cond x (raw * n * 512) (2 ^ (0x100 - raw))) (le-ltb raw 0x80 high)

sectors_below : (n x : ℕ) → IsClusterSize n → x / n ≤ most_clusters → x < 2 ^ 64
sectors_below n x (inl e) le = let few : x / 1 ≤ most_clusters = subst (λ (m : ℕ). x / m ≤ most_clusters) e le in omega arith
sectors_below n x (inr (inl e)) le = let few : x / 2 ≤ most_clusters = subst (λ (m : ℕ). x / m ≤ most_clusters) e le in omega arith
sectors_below n x (inr (inr (inl e))) le = let few : x / 4 ≤ most_clusters = subst (λ (m : ℕ). x / m ≤ most_clusters) e le in omega arith
sectors_below n x (inr (inr (inr e))) le = let few : x / 8 ≤ most_clusters = subst (λ (m : ℕ). x / m ≤ most_clusters) e le in omega arith

-- ---- numbers at a place

field_here : (at n value : ℕ) (s rest : List ℕ) → drop at s ≡ spell n value ++ rest → value < 256 ^ n → field at n s ≡ value
field_here at n value s rest e small =
    let place : at ≡ at + 0 = omega arith in
    ap (λ (x : ℕ). field x n s) place ∙ sym (field-drop 0 n at s) ∙ ap (field 0 n) e ∙ field-spell 0 n value [] rest refl small

byte_here : (at value : ℕ) (s rest : List ℕ) → drop at s ≡ value ∷ rest → field at 1 s ≡ value
unfolding field
byte_here at value s rest e =
    let place : at ≡ at + 0 = omega arith in
    let same : field 0 1 (value ∷ rest) ≡ value = omega arith in
    ap (λ (x : ℕ). field x 1 s) place ∙ sym (field-drop 0 1 at s) ∙ ap (field 0 1) e ∙ same

-- ---- the spelling

pub length-boot_spelling : (b : Boot) → length (boot_spelling b) ≡ 512
unfolding boot_spelling zeros spell
length-boot_spelling b = refl

module _ (b : Boot) (fits : FitsBoot b) where
  abbrev s : List ℕ
  s = boot_spelling b

  sectors_small : b.sectors < 2 ^ 64
  sectors_small = sectors_below b.per_cluster b.sectors fits.profile.per_cluster fits.profile.small

  sector_is : field 0x0B 2 s ≡ 512
  unfolding boot_spelling zeros spell
  sector_is = field_here 0x0B 2 512 s (drop 0x0D s) refl (omega arith)

  per_cluster_is : field 0x0D 1 s ≡ b.per_cluster
  unfolding boot_spelling zeros spell
  per_cluster_is = byte_here 0x0D b.per_cluster s (drop 0x0E s) refl

  sectors_is : field 0x28 8 s ≡ b.sectors
  unfolding boot_spelling zeros spell
  sectors_is = field_here 0x28 8 b.sectors s (drop 0x30 s) refl sectors_small

  mft_is : field 0x30 8 s ≡ b.mft
  unfolding boot_spelling zeros spell
  mft_is = field_here 0x30 8 b.mft s (drop 0x38 s) refl (omega (arith, fits.profile.mft, fits.profile.small))

  mirror_is : field 0x38 8 s ≡ b.mirror
  unfolding boot_spelling zeros spell
  mirror_is = field_here 0x38 8 b.mirror s (drop 0x40 s) refl (omega (arith, fits.profile.mirror, fits.profile.small))

  record_is : field 0x40 1 s ≡ 0xF6
  unfolding boot_spelling zeros spell
  record_is = byte_here 0x40 0xF6 s (drop 0x41 s) refl

  block_is : field 0x44 1 s ≡ block_clusters b
  unfolding boot_spelling zeros spell
  block_is = byte_here 0x44 (block_clusters b) s (drop 0x45 s) refl

  serial_is : field 0x48 8 s ≡ b.serial
  unfolding boot_spelling zeros spell
  serial_is = field_here 0x48 8 b.serial s (drop 0x50 s) refl fits.serial

  pub boot_spells : IsBootSector s b
  unfolding boot_spelling zeros spell
  boot_spells = record {
    name = refl;
    sector_bytes = sector_is;
    per_cluster = per_cluster_is;
    sectors = sectors_is;
    mft = mft_is;
    mirror = mirror_is;
    record_bytes = ap (bytes_said b.per_cluster) record_is ∙ record_said b.per_cluster;
    block_bytes = ap (bytes_said b.per_cluster) block_is ∙ block_said b.per_cluster fits.profile.per_cluster;
    serial = serial_is;
    mark = refl;
    profile = fits.profile;
  }

-- the same of any bytes that are the spelling
pub spelled_table : (b : Boot) (bytes : List ℕ) → FitsBoot b → bytes ≡ boot_spelling b → IsBootSector bytes b
spelled_table b bytes fits e = subst (λ (x : List ℕ). IsBootSector x b) (sym e) (boot_spells b fits)
