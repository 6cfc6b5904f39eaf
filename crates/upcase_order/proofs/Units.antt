-- Tables as lists made from a function of the unit.
use Rattle.std.proofs.Common.{◌≡◌, ℕ, ◌+◌, ◌*◌, ◌<◌, List, length, slice_index, ap, ◌∙◌, refl, arith, Ok, Err, eq-eqb}
use Rattle.std.proofs.lemmas.List.FromFn.{fill_by_all, length-map-range_with_len, get_or-map-range_with_len}
use Rattle.byteorder.specs.Endian.{IsRead, little_number}
use Rattle.index_model.specs.disk_model.Numbers.{field}
use Rattle.index_model.specs.record_model.Attributes.{units_at}
use Rattle.std.proofs.lemmas.Bool.{ne_eqb}
use Rattle.upcase_order.specs.declared.upcase.UpcaseFault.TheVariants.{Length}
use Rattle.upcase_order.specs.Tables.{upcase_of, standard_upper, standard_units, standard_table}

-- numbers that were read one after the other are the units from the start on
pub read_units : (count : ℕ) (bytes values : List ℕ) → length values ≡ count → IsRead little_number 2 bytes values → values ≡ units_at 0 count bytes
unfolding units_at field
read_units count bytes values size read = fill_by_all (λ i. field (0 + 2 * i) 2 bytes) values count 0 size (λ k lt.
    let place : 2 * k ≡ 0 + 2 * k = omega arith in
    read k (omega arith) ∙ ap (λ at. field at 2 bytes) place)

pub length-standard_units : (count : ℕ) → length (standard_units count) ≡ count
unfolding standard_units
length-standard_units count = length-map-range_with_len standard_upper 0 count

pub get-standard_units : (count unit : ℕ) → unit < count → slice_index (standard_units count) unit ≡ standard_upper unit
unfolding standard_units
get-standard_units count unit lt = get_or-map-range_with_len standard_upper 0 count unit unit 0 lt (omega arith)

pub standard_table-is : standard_table ≡ standard_units 65536
unfolding standard_table
standard_table-is = refl

pub upcase-read : (bytes : List ℕ) → length bytes ≡ 131072 → upcase_of bytes ≡ Ok (units_at 0 65536 bytes)
unfolding upcase_of
upcase-read bytes size = rw (eq-eqb (length bytes) 131072 size) refl

pub upcase-refused : (bytes : List ℕ) → (length bytes ≡ 131072 → ⊥) → upcase_of bytes ≡ Err (Length (length bytes))
unfolding upcase_of
upcase-refused bytes other = rw (ne_eqb (length bytes) 131072 other) refl
