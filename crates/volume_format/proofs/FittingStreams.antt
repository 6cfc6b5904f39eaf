-- The streams of the system files have spellings, and stand in order.
use Rattle.std.proofs.Common.{◌≡◌, ℕ, zero, suc, ◌*◌, ◌^◌, ◌<◌, ◌≤◌, List, [], ◌∷◌, ◌++◌, length, Option, Some, None, refl, subst, inl, inr, arith}
use Rattle.std.proofs.lemmas.Bool.{cases_lt}
use Rattle.std.proofs.lemmas.List.Elements.{All-from_recursion}
use Rattle.disk_model.specs.Numbers.{spell}
use Rattle.disk_model.specs.Bytes.{zeros}
use Rattle.disk_model.proofs.Fields.{length-spell}
use Rattle.record_model.specs.declared.attribute.Attr.{Attr}
use Rattle.record_model.specs.declared.entry.Entry.{Entry}
use Rattle.record_model.specs.Nodes.{down_flag, entry_length, node_used, FitsDown, last_entry}
use Rattle.record_model.specs.StdValues.{volume_info_over}
use Rattle.record_model.specs.Values.{has_lawful_value}
use Rattle.record_model.proofs.FixedValues.{length-volume_info_over}
use Rattle.record_model.proofs.UnitBytes.{length-zeros}
use Rattle.record_model.specs.Constants.{names_index}
use Rattle.index_node.specs.Roots.{HaveSpelling, root_spelling}
use Rattle.index_node.proofs.RootSpelled.{root_law}
use Rattle.volume_format.specs.declared.layout.Layout.{Layout}
use Rattle.volume_format.specs.declared.naming.Data.{Data}
use Rattle.volume_format.specs.declared.naming.Data.TheVariants.{Absent, Empty, Clusters}
use Rattle.volume_format.specs.Layouts.{IsLayout, block_first, cluster_bits_first, cluster_bits_bytes}
use Rattle.volume_format.specs.Files.{system_data, data_attrs, FitsData, other_streams, volume_streams, root_streams, extend_streams, resident, mapped, bad_name}
use Rattle.volume_format.proofs.FittingAttributes.{FitsIn, no_units, index_units, bad_units, resident_fits, mapped_fits}

-- ---- numbers below a number

abbrev pub Each : (ℕ → Type 0) → ℕ → Type 0
Each P zero = Unit {0}
Each P (suc k) = P k × Each P k

pub below : (P : ℕ → Type 0) (k : ℕ) → Each P k → (n : ℕ) → n < k → P n
below P zero each n lt = absurd (omega arith)
below P (suc k) each n lt =
    elim (cases_lt n k) [
      | inl less ↦ below P k each.1 n less
      | inr le ↦ let e : k ≡ n = omega arith in subst P e each.0
    ]

-- ---- index roots without a name

pub empty_fits : (down : Option ℕ) → FitsDown down → HaveSpelling (last_entry down ∷ [])
unfolding node_used entry_length
empty_fits None fits = record { vcn = omega arith; lsn = omega arith; entries = record { no_reference = refl; no_key = refl; down = tt }; flags = All-from_recursion (λ (e : Entry). down_flag e.down ≡ 0) (last_entry None ∷ []) (refl, tt); used = omega arith }
empty_fits (Some vcn) fits = record { vcn = omega arith; lsn = omega arith; entries = record { no_reference = refl; no_key = refl; down = fits }; flags = All-from_recursion (λ (e : Entry). down_flag e.down ≡ 1) (last_entry (Some vcn) ∷ []) (refl, tt); used = omega arith }

empty_short : (down : Option ℕ) → FitsDown down → length (root_spelling 1 (last_entry down ∷ [])) ≤ 90
unfolding entry_length
empty_short None fits = let e = root_law.size 1 (last_entry None ∷ []) (empty_fits None fits) in omega arith
empty_short (Some vcn) fits = let e = root_law.size 1 (last_entry (Some vcn) ∷ []) (empty_fits (Some vcn) fits) in omega arith

-- ---- streams

-- attributes have spellings and stand by rising type, the first not below this one
abbrev pub Stand : ℕ → List Attr → Type 0
Stand least [] = Unit {0}
Stand least (a ∷ attrs) = FitsIn a × (least ≤ a.head.kind) × Stand a.head.kind attrs

pub data_fits : (v : Layout) → IsLayout v → (n : ℕ) → n < 12 → FitsData (system_data v n)
unfolding system_data
data_fits v fits n lt =
    below (λ n. FitsData (system_data v n)) 12
    (tt, ((omega arith, omega arith, omega arith, omega arith), (tt, (tt, ((omega arith, omega arith, omega arith, omega arith), ((omega arith, omega arith, omega arith, omega arith), (tt, (tt, (tt, ((omega arith, omega arith, omega arith, omega arith), ((omega arith, omega arith, omega arith, omega arith), ((omega arith, omega arith, omega arith, omega arith), tt))))))))))))
    n lt

unfoldable pub streams : Layout → ℕ → List Attr
streams v n = data_attrs (system_data v n) ++ other_streams v n

clusters_fit : (first clusters bytes : ℕ) → FitsData (Clusters first clusters bytes) → FitsIn (mapped 2 0x80 [] (Some first) clusters bytes bytes)
unfolding has_lawful_value
clusters_fit first clusters bytes fits =
    let few : clusters < 2 ^ 32 = fits.1 in
    let room : bytes ≤ 4096 * clusters = fits.3 in
    mapped_fits 2 0x80 [] (Some first) clusters bytes bytes (omega arith) (omega arith) (omega arith) no_units fits.0 few (omega arith) (omega arith) refl

empty_data_fits : FitsIn (resident 2 0x80 [] [])
unfolding has_lawful_value
empty_data_fits = resident_fits 2 0x80 [] [] (omega arith) (omega arith) (omega arith) no_units (omega arith) refl

module _ (v : Layout) (fits : IsLayout v) where
  abbrev Good : ℕ → Type 0
  Good n = Stand 0x30 (streams v n)

  stands_0 : Good 0
  unfolding streams system_data other_streams has_lawful_value
  stands_0 = (clusters_fit 4 16 65536 (data_fits v fits 0 (omega arith)), omega arith, (mapped_fits 3 0xB0 [] (Some 3) 1 8 8 (omega arith) (omega arith) (omega arith) no_units (omega arith) (omega arith) (omega arith) (omega arith) refl, omega arith, tt))

  stands_1 : Good 1
  unfolding streams system_data other_streams
  stands_1 = (clusters_fit 2 1 4096 (data_fits v fits 1 (omega arith)), omega arith, tt)

  stands_2 : Good 2
  unfolding streams system_data other_streams
  stands_2 = (clusters_fit 52 v.log_pages (4096 * v.log_pages) (data_fits v fits 2 (omega arith)), omega arith, tt)

  stands_3 : Good 3
  unfolding streams system_data other_streams volume_streams has_lawful_value
  stands_3 =
      let e = length-volume_info_over (record { major = 3; minor = 1; flags = 0 }) (zeros 0x0C) in
      let z = length-zeros 0x0C in (
        resident_fits 2 0x60 [] [] (omega arith) (omega arith) (omega arith) no_units (omega arith) refl,
        omega arith,
        (resident_fits 3 0x70 [] (volume_info_over (record { major = 3; minor = 1; flags = 0 }) (zeros 0x0C)) (omega arith) (omega arith) (omega arith) no_units (omega arith) refl, omega arith, tt),
      )

  stands_4 : Good 4
  unfolding streams system_data other_streams
  stands_4 = (empty_data_fits, omega arith, tt)

  stands_5 : Good 5
  unfolding streams system_data other_streams root_streams has_lawful_value
  stands_5 =
      let size = length-spell 8 1 in (
        resident_fits 2 0x90 names_index (root_spelling 1 (last_entry (Some 0) ∷ [])) (omega arith) (omega arith) (omega arith) index_units (empty_short (Some 0) (omega arith)) refl,
        omega arith,
        (
          mapped_fits 3 0xA0 names_index (Some (block_first v)) 1 4096 4096 (omega arith) (omega arith) (omega arith) index_units (omega arith) (omega arith) (omega arith) (omega arith) refl,
          omega arith,
          (resident_fits 4 0xB0 names_index (spell 8 1) (omega arith) (omega arith) (omega arith) index_units (omega arith) refl, omega arith, tt),
        ),
      )

  stands_6 : Good 6
  unfolding streams system_data other_streams
  stands_6 = (clusters_fit (cluster_bits_first v) v.bitmap_clusters (cluster_bits_bytes v) (data_fits v fits 6 (omega arith)), omega arith, tt)

  stands_7 : Good 7
  unfolding streams system_data other_streams
  stands_7 = (clusters_fit 0 2 8192 (data_fits v fits 7 (omega arith)), omega arith, tt)

  stands_8 : Good 8
  unfolding streams system_data other_streams has_lawful_value
  stands_8 = (mapped_fits 2 0x80 bad_name None v.clusters (4096 * v.clusters) 0 (omega arith) (omega arith) (omega arith) bad_units (omega arith) (omega arith) (omega arith) (omega arith) refl, omega arith, tt)

  stands_9 : Good 9
  unfolding streams system_data other_streams
  stands_9 = (empty_data_fits, omega arith, tt)

  stands_10 : Good 10
  unfolding streams system_data other_streams
  stands_10 = (clusters_fit 20 32 131072 (data_fits v fits 10 (omega arith)), omega arith, tt)

  stands_11 : Good 11
  unfolding streams system_data other_streams extend_streams has_lawful_value
  stands_11 = (resident_fits 2 0x90 names_index (root_spelling 1 (last_entry None ∷ [])) (omega arith) (omega arith) (omega arith) index_units (empty_short None tt) refl, omega arith, tt)

  pub streams_stand : (n : ℕ) → n < 12 → Stand 0x30 (streams v n)
  streams_stand n lt = below Good 12 (stands_11, (stands_10, (stands_9, (stands_8, (stands_7, (stands_6, (stands_5, (stands_4, (stands_3, (stands_2, (stands_1, (stands_0, tt)))))))))))) n lt

-- there are few
data_few : (place : Data) → length (data_attrs place) ≤ 1
data_few Absent = omega arith
data_few Empty = omega arith
data_few (Clusters first clusters bytes) = omega arith

pub streams_few : (v : Layout) (n : ℕ) → n < 12 → length (streams v n) ≤ 4
unfolding streams system_data other_streams volume_streams root_streams extend_streams
streams_few v n lt = below (λ n. length (streams v n) ≤ 4) 12 (omega arith, (omega arith, (omega arith, (omega arith, (omega arith, (omega arith, (omega arith, (omega arith, (omega arith, (omega arith, (omega arith, (omega arith, tt)))))))))))) n lt
