-- The attributes of a new volume have spellings.
use Rattle.std.proofs.Common.{◌≡◌, ℕ, ℤ, pos, ◌-ℤ◌, ◌+◌, ◌-◌, ◌^◌, ◌<◌, ◌≤◌, true, List, [], ◌∷◌, ◌++◌, length, Option, Some, None, Ok, refl, ◌∙◌, arith, length-append}
use Rattle.std.specs.Prelude.{IfSome}
use Rattle.std.specs.List.{AllByRecursion}
use Rattle.std.proofs.lemmas.Bool.{le-leb}
use Rattle.std.proofs.lemmas.List.Elements.{All-from_recursion}
use Rattle.disk_model.specs.Bytes.{zeros, up8}
use Rattle.record_model.specs.declared.attribute.Attr.{Attr}
use Rattle.record_model.specs.Attributes.{filled, spelling, FitsAttr}
use Rattle.record_model.specs.Values.{has_lawful_value, is_standard_information}
use Rattle.record_model.specs.Pairs.{runs_of, pairs_of, pairs_from, pair_of, delta_bytes, signed_bytes, HasSpelling}
use Rattle.record_model.proofs.FixedValues.{length-std_info_over}
use Rattle.record_model.proofs.PairsRead.{spelled_read}
use Rattle.record_model.proofs.PairsSpelled.{written_spelled}
use Rattle.record_model.proofs.PairsSigned.{length-signed_bytes, signed_width-le}
use Rattle.record_model.proofs.UnitBytes.{length-zeros, length-filled}
use Rattle.volume_format.proofs.record_writer.Measures.{length-spelling}
use Rattle.volume_format.specs.declared.layout.Layout.{Layout}
use Rattle.volume_format.specs.Layouts.{IsLayout}
use Rattle.volume_format.specs.Files.{name_value, resident, mapped, one_run, standard, standard_value, name_attribute}
use Rattle.format_blocks.proofs.Naming.{length-name_value, name_lawful, name_short}

-- an attribute that has a spelling of at most so many bytes, and a lawful value
pub record Fits (most : ℕ) (a : Attr) : Type 0 where
  pub attr : FitsAttr a
  pub lawful : has_lawful_value a ≡ true
  pub size : length (spelling a) ≤ most

-- ---- values in records

abbrev pub AreUnits : List ℕ → Type 0
AreUnits name = AllByRecursion (λ unit. unit < 2 ^ 16) name

pub fits_resident : (id kind most : ℕ) (name value : List ℕ) → id < 2 ^ 16 → kind < 2 ^ 32 → length name ≤ 4 → AreUnits name → length value ≤ most → most < 2 ^ 16 → has_lawful_value (resident id kind name value) ≡ true → Fits (most + 39) (resident id kind name value)
fits_resident id kind most name value id_small kind_small short units size few lawful = record {
  attr = record {
    kind = kind_small;
    flags = omega arith;
    id = id_small;
    name_short = omega arith;
    units = All-from_recursion (λ (unit : ℕ). unit < 2 ^ 16) name units;
    form = record { value_short = omega arith; indexed_byte = omega arith };
  };
  lawful = lawful;
  size = omega (arith, length-spelling (resident id kind name value));
}

length-standard : (time : ℕ) → length (standard_value time) ≡ 72
length-standard time = length-std_info_over (record { created = time; modified = time; changed = time; read_at = time; flags = 6 }) (zeros 0x48) ∙ length-zeros 0x48

lawful_standard : (value : List ℕ) → length value ≡ 72 → is_standard_information value ≡ true
unfolding is_standard_information
lawful_standard value size = le-leb 0x30 (length value) (omega arith)

pub fits_standard : (time : ℕ) → Fits 111 (standard time)
unfolding standard has_lawful_value
fits_standard time = fits_resident 0 0x10 72 [] (standard_value time) (omega arith) (omega arith) (omega arith) tt (omega (arith, length-standard time)) (omega arith) (lawful_standard (standard_value time) (length-standard time))

pub fits_named : (v : Layout) → IsLayout v → (time n : ℕ) → time < 2 ^ 64 → n < 12 → Fits 127 (name_attribute v time n)
unfolding name_attribute has_lawful_value
fits_named v layout time n small lt =
    let size : length (name_value v time n) ≤ 84 = omega (arith, length-name_value v time n, name_short n lt) in
    record {
      attr = record {
        kind = omega arith;
        flags = omega arith;
        id = omega arith;
        name_short = omega arith;
        units = All-from_recursion (λ (unit : ℕ). unit < 2 ^ 16) [] tt;
        form = record { value_short = omega arith; indexed_byte = omega arith };
      };
      lawful = name_lawful v layout time n small lt;
      size = omega (arith, length-spelling (name_attribute v time n));
    }

-- ---- streams in clusters

signed_short : (z : ℤ) → length (signed_bytes z) ≤ 8
signed_short z = omega (arith, length-signed_bytes z, signed_width-le z)

delta_short : (before : ℕ) (lcn : Option ℕ) → length (delta_bytes before lcn) ≤ 8
delta_short before None = omega arith
delta_short before (Some lcn) = signed_short (pos lcn -ℤ pos before)

pairs_short : (lcn : Option ℕ) (clusters : ℕ) → length (pairs_of (one_run lcn clusters)) ≤ 18
unfolding pairs_of pairs_from pair_of
pairs_short lcn clusters =
    let len = signed_bytes (pos clusters) in
    let delta = delta_bytes 0 lcn in
    omega (arith, signed_short (pos clusters), delta_short 0 lcn, length-append (len ++ delta) (0 ∷ []), length-append len delta)

-- a run that has a spelling: some clusters, below 2^32, and so is its place
pub record IsSmallRun (lcn : Option ℕ) (clusters : ℕ) : Type 0 where
  pub some : 0 < clusters
  pub few : clusters < 2 ^ 32
  pub place : IfSome lcn (λ first. first < 2 ^ 32)

pub has_spelling : (lcn : Option ℕ) (clusters : ℕ) → IsSmallRun lcn clusters → HasSpelling 0 (one_run lcn clusters)
has_spelling lcn clusters small = (record { vcn = refl; some = small.some; within = omega (arith, small.few); lcn = small.place }, tt)

-- the mapping pairs of a run are read as it
pub runs_read : (lcn : Option ℕ) (clusters : ℕ) → IsSmallRun lcn clusters → runs_of 0 (filled 0 (pairs_of (one_run lcn clusters))) ≡ Ok (one_run lcn clusters)
unfolding filled
runs_read lcn clusters small =
    let runs = one_run lcn clusters in
    let rest = zeros (up8 (0 + length (pairs_of runs)) - (0 + length (pairs_of runs))) in
    let fits = has_spelling lcn clusters small in
    spelled_read 0 runs (pairs_of runs ++ rest) fits (written_spelled 0 runs rest fits)

pub fits_mapped : (id kind : ℕ) (name : List ℕ) (lcn : Option ℕ) (clusters real initialised : ℕ) → id < 2 ^ 16 → kind < 2 ^ 32 → length name ≤ 4 → AreUnits name → clusters < 2 ^ 32 → real < 2 ^ 64 → initialised < 2 ^ 64
    → has_lawful_value (mapped id kind name lcn clusters real initialised) ≡ true → Fits 104 (mapped id kind name lcn clusters real initialised)
fits_mapped id kind name lcn clusters real initialised id_small kind_small short units few real_small initialised_small lawful =
    let size = length-filled 0 (pairs_of (one_run lcn clusters)) in
    let pairs = pairs_short lcn clusters in
    record {
      attr = record {
        kind = kind_small;
        flags = omega arith;
        id = id_small;
        name_short = omega arith;
        units = All-from_recursion (λ (unit : ℕ). unit < 2 ^ 16) name units;
        form = record {
          first = omega arith;
          last = omega arith;
          unit = omega arith;
          allocated = omega arith;
          real = real_small;
          initialised = initialised_small;
          held = refl;
          pairs_eights = omega arith;
          pairs_short = omega arith;
        };
      };
      lawful = lawful;
      size = omega (arith, length-spelling (mapped id kind name lcn clusters real initialised));
    }
