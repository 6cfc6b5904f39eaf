-- The attribute of a stream in clusters has a spelling.
use Rattle.std.proofs.Common.{◌≡◌, ℕ, ℤ, pos, ◌-ℤ◌, zero, suc, ◌+◌, ◌-◌, ◌*◌, ◌/◌, ◌%◌, ◌^◌, ◌<◌, ◌≤◌, Bool, true, false, cond, ◌&&◌, ◌||◌, eqb, List, [], ◌∷◌, ◌++◌, length, Option, Some, None, refl, sym, ap, ◌∙◌, subst, inl, inr, arith}
use Rattle.std.specs.Prelude.{IsTrue, is_some, unwrap_or, ◌==◌}
use Rattle.std.proofs.Math.Nat.{mul-le-mul_left}
use Rattle.std.proofs.lemmas.Bool.{cases_Bool, cases_eq, eq-eqb, ne_eqb, or_cases}
use Rattle.std.proofs.lemmas.List.{length-append}
use Rattle.record_writer.specs.disk_model.Bytes.{up8}
use Rattle.record_writer.specs.record_model.declared.attribute.Attr.{Attr}
use Rattle.record_writer.specs.record_model.declared.attribute.OwnForm.{OwnForm}
use Rattle.record_writer.specs.record_model.declared.attribute.OwnForm.TheVariants.{Resident, Mapped}
use Rattle.record_writer.specs.record_model.declared.runs.Run.{Run}
use Rattle.record_writer.specs.record_model.Attributes.{is_compressed_or_sparse, filled, held_bytes, spelling, FitsHeld, FitsForm}
use Rattle.record_writer.specs.record_model.Constants.{standard_information, file_name}
use Rattle.record_writer.specs.record_model.Pairs.{cluster_limit, signed_width, signed_bytes, delta_bytes, pair_of, pairs_from, pairs_of, Follow, HasSpelling}
use Rattle.record_writer.specs.record_model.Values.{has_lawful_value}
use Rattle.record_writer.proofs.record_model.PairsSigned.{length-signed_bytes, signed_width-le}
use Rattle.record_writer.proofs.record_model.UnitBytes.{length-filled}
use Rattle.record_writer.specs.Edits.{form_length}
use Rattle.record_writer.specs.Normal.{normal, normal_form}
use Rattle.record_writer.proofs.Measures.{length-spelling, held_short}
use Rattle.stream_map.specs.state_model.declared.stream.Extents.{Extents}
use Rattle.stream_map.specs.state_model.Loads.{total_clusters}
use Rattle.record_streams.specs.Placing.{last_vcn, held_in, held_clusters, held_size, unit_of, placed_sizes, placed_attr}
use Rattle.record_streams.specs.Fitting.{IsShort, IsPlaceable, HasFields}

-- ---- the bytes of mapping pairs

delta_short : (before : ℕ) (lcn : Option ℕ) → length (delta_bytes before lcn) ≤ 8
delta_short before None = omega arith
delta_short before (Some lcn) = (let z : ℤ = pos lcn -ℤ pos before in omega (arith, length-signed_bytes z, signed_width-le z))

pair_short : (before : ℕ) (r : Run) → length (pair_of before r) ≤ 17
unfolding pair_of
pair_short before r =
    let len = length-signed_bytes (pos r.len) in
    omega (arith, len, signed_width-le (pos r.len), delta_short before r.lcn, length-append (signed_bytes (pos r.len)) (delta_bytes before r.lcn))

from_short : (before : ℕ) (runs : List Run) → length (pairs_from before runs) ≤ 17 * length runs + 1
unfolding pairs_from
from_short before [] = omega arith
from_short before (r ∷ runs) =
    let rest : List ℕ = pairs_from (unwrap_or r.lcn before) runs in
    omega (arith, length-append (pair_of before r) rest, pair_short before r, from_short (unwrap_or r.lcn before) runs)

pairs_short : (runs : List Run) → length (pairs_of runs) ≤ 17 * length runs + 1
unfolding pairs_of
pairs_short runs = from_short 0 runs

-- ---- the numbers of an attribute

last_small : (clusters : ℕ) (t : Bool) → eqb clusters 0 ≡ t → clusters ≤ cluster_limit → cond t (2 ^ 64 - 1) (clusters - 1) < 2 ^ 64
last_small clusters true is few = omega arith
last_small clusters false is few = omega (arith, few)

held_by : (r : Run) (t : Bool) → cond t r.len 0 ≤ r.len
held_by r true = omega arith
held_by r false = omega arith

held_few : (runs : List Run) → held_clusters runs ≤ total_clusters runs
held_few [] = omega arith
held_few (r ∷ runs) = omega (arith, held_few runs, held_by r (is_some r.lcn))

held_fits : (flags bytes : ℕ) (t : Bool) → is_compressed_or_sparse flags ≡ t → bytes < 2 ^ 64 → FitsHeld flags 0 (cond t (Some bytes) None)
held_fits flags bytes true is small = (small, ap (λ (b : Bool). b && true) is)
held_fits flags bytes false is small = ap (λ (b : Bool). b && true) is

unit_small : (flags : ℕ) (form : OwnForm) → FitsForm flags (normal_form form) → unit_of form < 2 ^ 16
unit_small flags (Resident value indexed) fits = omega arith
unit_small flags (Mapped sizes pairs) fits = fits.unit

pub total_few : (first n : ℕ) (runs : List Run) → Follow first n runs → n ≤ cluster_limit → n + total_clusters runs ≤ cluster_limit
total_few first n [] follow few = omega (arith, few)
total_few first n (r ∷ runs) follow few = omega (arith, total_few first (n + r.len) runs follow.1 follow.0.within)

bytes_small : (held per : ℕ) → held ≤ cluster_limit → per ≤ 8 → held * (512 * per) < 2 ^ 64
bytes_small held per few size =
    let a : held * (512 * per) ≤ held * 4096 = mul-le-mul_left held (omega (arith, size)) in
    omega (arith, a, few)

-- ---- the attribute

pub lawful_by : (a : Attr) → IsPlaceable a.head.kind → IsTrue (has_lawful_value a)
unfolding has_lawful_value
lawful_by a may = rw (may.not_info, may.not_name) refl

pub short_placed : (per : ℕ) (e : Extents) (a : Attr) → per ≤ 8 → HasSpelling 0 e.runs → length e.runs ≤ 2 ^ 16 → HasFields e → IsPlaceable a.head.kind → IsShort a → IsShort (placed_attr per e a)
short_placed per e a size spelled few fields may old =
    let total : total_clusters e.runs ≤ cluster_limit = omega (arith, total_few 0 0 e.runs spelled (omega arith)) in
    let held : held_clusters e.runs * (512 * per) < 2 ^ 64 = bytes_small (held_clusters e.runs) per (omega (arith, held_few e.runs, total)) size in
    let filled_length = length-filled 0 (pairs_of e.runs) in
    let pairs = pairs_short e.runs in
    let size_of = length-spelling (normal (placed_attr per e a)) in
    let header = held_short (held_size a.head.flags (held_clusters e.runs * (512 * per))) in
    record {
      fits = record {
        kind = old.fits.kind;
        flags = old.fits.flags;
        id = old.fits.id;
        name_short = old.fits.name_short;
        units = old.fits.units;
        form = record {
          first = omega arith;
          last = last_small (total_clusters e.runs) (eqb (total_clusters e.runs) 0) refl total;
          unit = unit_small a.head.flags a.form old.fits.form;
          allocated = fields.allocated;
          real = fields.real;
          initialised = fields.initialised;
          held = held_fits a.head.flags (held_clusters e.runs * (512 * per)) (is_compressed_or_sparse a.head.flags) refl held;
          pairs_eights = omega (arith, filled_length);
          pairs_short = omega (arith, filled_length, pairs, few);
        };
      };
      kind = old.kind;
      lawful = lawful_by (normal (placed_attr per e a)) may;
      short = omega (arith, size_of, header, filled_length, pairs, few, old.fits.name_short);
    }
