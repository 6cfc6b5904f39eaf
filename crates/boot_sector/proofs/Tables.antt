-- What the table of a boot sector says is what is read, and what is read is in the table.
use Rattle.std.proofs.Common.{◌≡◌, ◌⊎◌, ℕ, ◌<◌, ◌≤◌, ◌/◌, Bool, true, ◌||◌, eqb, leb, ltb, nat_eq, List, [], ◌∷◌, Result, Ok, Err, refl, sym, ap, ◌∙◌, subst, inl, inr, arith}
use Rattle.std.specs.Prelude.{IfOk}
use Rattle.std.specs.Cmp.Lexicographic.{pointwise}
use Rattle.std.proofs.lemmas.Bool.{eq-eqb, eqb-true, le-leb, leb-true, lt-ltb, ltb-true, and_parts, or_cases, cases_lt}
use Rattle.std.proofs.Math.Nat.{div-eq_of_lt}
use Rattle.host_base.specs.Answers.{◌>>=◌, needs}
use Rattle.disk_model.specs.Numbers.{field}
use Rattle.disk_model.specs.Bytes.{part}
use Rattle.boot_sector.specs.declared.boot.Boot.{Boot}
use Rattle.boot_sector.specs.declared.boot.BootFault.{BootFault}
use Rattle.boot_sector.specs.declared.boot.BootFault.TheVariants.{NotNtfs, Geometry, VolumeLarge}
use Rattle.boot_sector.specs.BootSectors.{oem_name, end_mark, IsClusterSize, is_cluster_size, bytes_said, most_clusters, clusters, is_named, is_marked, fields_of, signs_of, sizes_fit, places_fit, boot_of, IsBootSector}
use Rattle.boot_sector.proofs.Passing.{two_pass, three_pass, four_pass, first_passed, last_passed, step_passed, all_pass}

-- ---- texts

same_from_test : (xs ys : List ℕ) → pointwise nat_eq xs ys ≡ true → xs ≡ ys
same_from_test [] [] e = refl
same_from_test [] (y ∷ ys) e = absurd cc
same_from_test (x ∷ xs) [] e = absurd cc
same_from_test (x ∷ xs) (y ∷ ys) e =
    let parts = and_parts (nat_eq x y) (pointwise nat_eq xs ys) e in
    ap (λ (z : ℕ). z ∷ xs) (eqb-true x y parts.0) ∙ ap (λ (zs : List ℕ). y ∷ zs) (same_from_test xs ys parts.1)

-- ---- sizes of clusters

test_from_size : (n : ℕ) → IsClusterSize n → is_cluster_size n ≡ true
test_from_size n (inl e) = ap is_cluster_size e
test_from_size n (inr (inl e)) = ap is_cluster_size e
test_from_size n (inr (inr (inl e))) = ap is_cluster_size e
test_from_size n (inr (inr (inr e))) = ap is_cluster_size e

three_cases : (n : ℕ) → ((n ≡ 1) ⊎ (n ≡ 2)) ⊎ (n ≡ 4) → (n ≡ 8 → IsClusterSize n) → IsClusterSize n
three_cases n (inl (inl e)) last = inl e
three_cases n (inl (inr e)) last = inr (inl e)
three_cases n (inr e) last = inr (inr (inl e))

one_of : (n : ℕ) (p : Bool) → (k : ℕ) {P : Type 0} → (p ≡ true → P) → (p || eqb n k) ≡ true → P ⊎ (n ≡ k)
one_of n p k left e = elim (or_cases p (eqb n k) e) [ inl h ↦ inl (left h) | inr h ↦ inr (eqb-true n k h) ]

pub size_from_test : (n : ℕ) → is_cluster_size n ≡ true → IsClusterSize n
size_from_test n e =
    let one : eqb n 1 ≡ true → n ≡ 1 = eqb-true n 1 in
    let two : (eqb n 1 || eqb n 2) ≡ true → (n ≡ 1) ⊎ (n ≡ 2) = one_of n (eqb n 1) 2 one in
    let four : (eqb n 1 || eqb n 2 || eqb n 4) ≡ true → ((n ≡ 1) ⊎ (n ≡ 2)) ⊎ (n ≡ 4) = one_of n (eqb n 1 || eqb n 2) 4 two in
    elim (one_of n (eqb n 1 || eqb n 2 || eqb n 4) 8 four e) [ inl h ↦ three_cases n h (λ is. inr (inr (inr is))) | inr h ↦ inr (inr (inr h)) ]

-- a cluster has some sector
pub size_above : (n : ℕ) → IsClusterSize n → 0 < n
size_above n (inl e) = omega arith
size_above n (inr (inl e)) = omega arith
size_above n (inr (inr (inl e))) = omega arith
size_above n (inr (inr (inr e))) = omega arith

abbrev good : Boot → Result Boot BootFault
good b = Ok b

-- a volume with a cluster has a cluster's sectors
covered : (n x : ℕ) → 0 < x / n → n ≤ x
covered n x some = elim (cases_lt x n) [ inl lt ↦ absurd (omega (arith, div-eq_of_lt lt)) | inr le ↦ le ]

-- ---- from the table

read_fields : (bytes : List ℕ) (b : Boot) → IsBootSector bytes b → fields_of bytes ≡ b
unfolding fields_of
read_fields bytes b t =
    ap (λ (x : ℕ). make x (field 0x28 8 bytes) (field 0x30 8 bytes) (field 0x38 8 bytes) (field 0x48 8 bytes)) t.per_cluster
    ∙ ap (λ (x : ℕ). make b.per_cluster x (field 0x30 8 bytes) (field 0x38 8 bytes) (field 0x48 8 bytes)) t.sectors
    ∙ ap (λ (x : ℕ). make b.per_cluster b.sectors x (field 0x38 8 bytes) (field 0x48 8 bytes)) t.mft
    ∙ ap (λ (x : ℕ). make b.per_cluster b.sectors b.mft x (field 0x48 8 bytes)) t.mirror
    ∙ ap (make b.per_cluster b.sectors b.mft b.mirror) t.serial
  where
    make : ℕ → ℕ → ℕ → ℕ → ℕ → Boot
    make per_cluster sectors mft mirror serial = record { per_cluster = per_cluster; sectors = sectors; mft = mft; mirror = mirror; serial = serial }

-- each test of these fields is passed
tested_fields : (bytes : List ℕ) (b : Boot) → IsBootSector bytes b → (signs_of bytes ≡ Ok tt) × (sizes_fit bytes ≡ Ok tt) × (places_fit b bytes ≡ Ok tt)
unfolding signs_of is_named is_marked sizes_fit places_fit
tested_fields bytes b t =
    let some : 0 < b.sectors / b.per_cluster = omega (arith, t.profile.mft) in
    let whole = covered b.per_cluster b.sectors some in
    let size = test_from_size (field 0x0D 1 bytes) (subst IsClusterSize (sym t.per_cluster) t.profile.per_cluster) in
    let sectors : field 0x0D 1 bytes ≤ field 0x28 8 bytes = omega (arith, t.per_cluster, t.sectors, whole) in (
      two_pass (is_named bytes) (is_marked bytes) (NotNtfs 1) (NotNtfs 2) (ap (pointwise nat_eq oem_name) t.name) (ap (pointwise nat_eq end_mark) t.mark),
      three_pass (eqb (field 0x0B 2 bytes) 512) (is_cluster_size (field 0x0D 1 bytes)) (leb (field 0x0D 1 bytes) (field 0x28 8 bytes)) (Geometry 0x0B (field 0x0B 2 bytes)) (Geometry 0x0D (field 0x0D 1 bytes)) (Geometry 0x28 (field 0x28 8 bytes))
          (eq-eqb _ _ t.sector_bytes) size (le-leb _ _ sectors),
      four_pass (ltb b.mft (clusters b)) (ltb b.mirror (clusters b)) (eqb (bytes_said b.per_cluster (field 0x40 1 bytes)) 1024) (eqb (bytes_said b.per_cluster (field 0x44 1 bytes)) 4096) (Geometry 0x30 b.mft) (Geometry 0x38 b.mirror) (Geometry 0x40 (field 0x40 1 bytes)) (Geometry 0x44 (field 0x44 1 bytes))
          (lt-ltb _ _ t.profile.mft) (lt-ltb _ _ t.profile.mirror) (eq-eqb _ _ t.record_bytes) (eq-eqb _ _ t.block_bytes),
    )

pub table_is_read : (bytes : List ℕ) (b : Boot) → IsBootSector bytes b → boot_of bytes ≡ Ok b
table_is_read bytes b t =
    let same = read_fields bytes b t in
    let tested = tested_fields bytes b t in
    let small : leb (clusters (fields_of bytes)) most_clusters ≡ true = ap (λ (x : Boot). leb (clusters x) most_clusters) same ∙ le-leb _ _ t.profile.small in
    all_pass (signs_of bytes) (sizes_fit bytes) (places_fit (fields_of bytes) bytes) (leb (clusters (fields_of bytes)) most_clusters) (VolumeLarge (clusters (fields_of bytes))) (fields_of bytes)
    tested.0 tested.1 (ap (λ (x : Boot). places_fit x bytes) same ∙ tested.2) small
    ∙ ap good same

-- ---- from the reader

named_from_ok : (bytes : List ℕ) → signs_of bytes ≡ Ok tt → (part 0x03 8 bytes ≡ oem_name) × (part 0x1FE 2 bytes ≡ end_mark)
unfolding signs_of is_named is_marked
named_from_ok bytes e =
    let name = first_passed (is_named bytes) (NotNtfs 1) (λ _. needs (is_marked bytes) (NotNtfs 2)) tt e in
    (sym (same_from_test oem_name (part 0x03 8 bytes) name.0), sym (same_from_test end_mark (part 0x1FE 2 bytes) (last_passed (is_marked bytes) (NotNtfs 2) name.1)))

sizes_from_ok : (bytes : List ℕ) → sizes_fit bytes ≡ Ok tt → (field 0x0B 2 bytes ≡ 512) × IsClusterSize (field 0x0D 1 bytes)
unfolding sizes_fit
sizes_from_ok bytes e =
    let sectors = needs (leb (field 0x0D 1 bytes) (field 0x28 8 bytes)) (Geometry 0x28 (field 0x28 8 bytes)) in
    let first = first_passed (eqb (field 0x0B 2 bytes) 512) (Geometry 0x0B (field 0x0B 2 bytes)) (λ _. needs (is_cluster_size (field 0x0D 1 bytes)) (Geometry 0x0D (field 0x0D 1 bytes)) >>= λ _. sectors) tt e in
    let second = first_passed (is_cluster_size (field 0x0D 1 bytes)) (Geometry 0x0D (field 0x0D 1 bytes)) (λ _. sectors) tt first.1 in
    (eqb-true _ _ first.0, size_from_test (field 0x0D 1 bytes) second.0)

places_from_ok : (b : Boot) (bytes : List ℕ) → places_fit b bytes ≡ Ok tt → (b.mft < clusters b) × (b.mirror < clusters b) × (bytes_said b.per_cluster (field 0x40 1 bytes) ≡ 1024) × (bytes_said b.per_cluster (field 0x44 1 bytes) ≡ 4096)
unfolding places_fit
places_from_ok b bytes e =
    let block = needs (eqb (bytes_said b.per_cluster (field 0x44 1 bytes)) 4096) (Geometry 0x44 (field 0x44 1 bytes)) in
    let file = needs (eqb (bytes_said b.per_cluster (field 0x40 1 bytes)) 1024) (Geometry 0x40 (field 0x40 1 bytes)) in
    let mirror = needs (ltb b.mirror (clusters b)) (Geometry 0x38 b.mirror) in
    let first = first_passed (ltb b.mft (clusters b)) (Geometry 0x30 b.mft) (λ _. mirror >>= λ _. file >>= λ _. block) tt e in
    let second = first_passed (ltb b.mirror (clusters b)) (Geometry 0x38 b.mirror) (λ _. file >>= λ _. block) tt first.1 in
    let third = first_passed (eqb (bytes_said b.per_cluster (field 0x40 1 bytes)) 1024) (Geometry 0x40 (field 0x40 1 bytes)) (λ _. block) tt second.1 in
    (ltb-true _ _ first.0, ltb-true _ _ second.0, eqb-true _ _ third.0, eqb-true _ _ (last_passed (eqb (bytes_said b.per_cluster (field 0x44 1 bytes)) 4096) (Geometry 0x44 (field 0x44 1 bytes)) third.1))

same_value : (b c : Boot) → good b ≡ good c → b ≡ c
same_value b c e = cc

pub read_is_table : (bytes : List ℕ) (b : Boot) → boot_of bytes ≡ Ok b → IsBootSector bytes b
unfolding fields_of
read_is_table bytes b e =
    let read = fields_of bytes in
    let small = needs (leb (clusters read) most_clusters) (VolumeLarge (clusters read)) in
    let signs = step_passed (signs_of bytes) (λ _. sizes_fit bytes >>= λ _. places_fit read bytes >>= λ _. small >>= λ _. Ok read) b e in
    let sizes = step_passed (sizes_fit bytes) (λ _. places_fit read bytes >>= λ _. small >>= λ _. Ok read) b signs.1 in
    let places = step_passed (places_fit read bytes) (λ _. small >>= λ _. Ok read) b sizes.1 in
    let last = first_passed (leb (clusters read) most_clusters) (VolumeLarge (clusters read)) (λ _. Ok read) b places.1 in
    let named = named_from_ok bytes signs.0 in
    let sized = sizes_from_ok bytes sizes.0 in
    let placed = places_from_ok read bytes places.0 in
    let table : IsBootSector bytes read = record {
      name = named.0;
      sector_bytes = sized.0;
      per_cluster = refl;
      sectors = refl;
      mft = refl;
      mirror = refl;
      record_bytes = placed.2;
      block_bytes = placed.3;
      serial = refl;
      mark = named.1;
      profile = record { per_cluster = sized.1; mft = placed.0; mirror = placed.1; small = leb-true _ _ last.0 };
    } in
    subst (IsBootSector bytes) (same_value read b last.1) table

-- the same of what was answered
pub answered_table : (bytes : List ℕ) (result : Result Boot BootFault) → result ≡ boot_of bytes → IfOk result (IsBootSector bytes)
answered_table bytes (Ok b) e = read_is_table bytes b (sym e)
answered_table bytes (Err f) e = tt
