-- Attributes of a new volume have spellings.
use Rattle.std.proofs.Common.{◌≡◌, ℕ, pos, ◌-ℤ◌, ◌^◌, ◌<◌, ◌≤◌, true, List, [], ◌∷◌, ◌++◌, length, Option, Some, None, refl, arith, length-append}
use Rattle.std.specs.Prelude.{All, IsTrue}
use Rattle.std.proofs.lemmas.List.Elements.{All-from_recursion}
use Rattle.record_model.specs.declared.attribute.Attr.{Attr}
use Rattle.record_model.specs.Attributes.{spelling, FitsAttr}
use Rattle.record_model.specs.Pairs.{signed_bytes, delta_bytes, pair_of, pairs_from, pairs_of}
use Rattle.record_model.specs.Values.{has_lawful_value}
use Rattle.record_model.proofs.PairsSigned.{length-signed_bytes, signed_width-le}
use Rattle.record_model.proofs.UnitBytes.{length-filled}
use Rattle.record_model.specs.Constants.{names_index}
use Rattle.record_writer.proofs.Measures.{length-spelling}
use Rattle.volume_format.specs.Files.{bad_name, resident, one_run, mapped}

-- ---- mapping pairs

delta_short : (before : ℕ) (lcn : Option ℕ) → length (delta_bytes before lcn) ≤ 8
delta_short before None = omega arith
delta_short before (Some lcn) = let e = length-signed_bytes (pos lcn -ℤ pos before) in let w = signed_width-le (pos lcn -ℤ pos before) in omega arith

pub pairs_short : (lcn : Option ℕ) (clusters : ℕ) → length (pairs_of (one_run lcn clusters)) ≤ 18
unfolding pairs_of pairs_from pair_of
pairs_short lcn clusters =
    let a = length-signed_bytes (pos clusters) in
    let b = signed_width-le (pos clusters) in
    let d = delta_short 0 lcn in
    let e = length-append (signed_bytes (pos clusters)) (delta_bytes 0 lcn) in
    let f = length-append (signed_bytes (pos clusters) ++ delta_bytes 0 lcn) (0 ∷ []) in
    omega arith

-- ---- attributes

-- an attribute that has a spelling of at most 160 bytes and may stand in a record
pub record FitsIn (a : Attr) : Type 0 where
  pub attr : FitsAttr a
  pub kind : a.head.kind < 0xFFFFFFFF
  pub lawful : IsTrue (has_lawful_value a)
  pub short : length (spelling a) ≤ 160

pub no_units : All (λ unit. unit < 2 ^ 16) []
no_units = All-from_recursion (λ unit. unit < 2 ^ 16) [] tt

pub index_units : All (λ unit. unit < 2 ^ 16) names_index
index_units = All-from_recursion (λ unit. unit < 2 ^ 16) names_index (omega arith, (omega arith, (omega arith, (omega arith, tt))))

pub bad_units : All (λ unit. unit < 2 ^ 16) bad_name
bad_units = All-from_recursion (λ unit. unit < 2 ^ 16) bad_name (omega arith, (omega arith, (omega arith, (omega arith, tt))))

pub resident_fits : (id kind : ℕ) (name value : List ℕ) → id < 2 ^ 16 → kind < 0xFFFFFFFF → length name ≤ 8 → All (λ unit. unit < 2 ^ 16) name → length value ≤ 90 → has_lawful_value (resident id kind name value) ≡ true → FitsIn (resident id kind name value)
resident_fits id kind name value small_id small_kind small units short lawful = record {
  attr = record { kind = omega arith; flags = omega arith; id = small_id; name_short = omega arith; units = units; form = record { value_short = omega arith; indexed_byte = omega arith } };
  kind = small_kind;
  lawful = lawful;
  short = let e = length-spelling (resident id kind name value) in omega arith;
}

pub mapped_fits : (id kind : ℕ) (name : List ℕ) (lcn : Option ℕ) (clusters real initialised : ℕ) → id < 2 ^ 16 → kind < 0xFFFFFFFF → length name ≤ 8 → All (λ unit. unit < 2 ^ 16) name
    → 0 < clusters → clusters < 2 ^ 32 → real < 2 ^ 64 → initialised < 2 ^ 64 → has_lawful_value (mapped id kind name lcn clusters real initialised) ≡ true → FitsIn (mapped id kind name lcn clusters real initialised)
mapped_fits id kind name lcn clusters real initialised small_id small_kind small units some few small_real small_initialised lawful =
    let p = pairs_short lcn clusters in
    let f = length-filled 0 (pairs_of (one_run lcn clusters)) in
    record {
      attr = record {
        kind = omega arith;
        flags = omega arith;
        id = small_id;
        name_short = omega arith;
        units = units;
        form = record { first = omega arith; last = omega arith; unit = omega arith; allocated = omega arith; real = small_real; initialised = small_initialised; held = refl; pairs_eights = omega arith; pairs_short = omega arith };
      };
      kind = small_kind;
      lawful = lawful;
      short = let e = length-spelling (mapped id kind name lcn clusters real initialised) in omega arith;
    }
