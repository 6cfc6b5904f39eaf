-- The names of the twelve system files.
use Rattle.std.proofs.Common.{◌≡◌, ℕ, zero, suc, ◌+◌, ◌*◌, ◌^◌, ◌<◌, ◌≤◌, Bool, true, false, leb, ltb, List, [], ◌∷◌, length, get_or, Ok, refl, sym, ap, ◌∙◌, arith}
use Rattle.std.specs.Prelude.{◌&&◌, is_ok, nat_lt, if◌then◌else◌}
use Rattle.std.specs.List.{list_all}
use Rattle.std.proofs.lemmas.Bool.{and_parts, ltb-true, leb-true}
use Rattle.disk_model.specs.Bytes.{zeros}
use Rattle.utf16_name.specs.Names.{name_of}
use Rattle.utf16_name.specs.Lawful.{IsName}
use Rattle.record_model.specs.StdValues.{FitsFileName, file_name_of}
use Rattle.record_model.specs.Values.{is_file_name}
use Rattle.record_model.proofs.FileNames.{name-of_ok, length-file_name_over, file_name_spelled, file_name_read, file_name_lawful}
use Rattle.record_model.proofs.UnitBytes.{length-zeros}
use Rattle.volume_format.specs.declared.layout.Layout.{Layout}
use Rattle.volume_format.specs.Layouts.{IsLayout}
use Rattle.volume_format.specs.Files.{system_name, system_data, is_directory, sequence, allocated_of, bytes_of, name_fields, name_value}

-- what holds of each of the first twelve numbers
pub of_twelve : (P : ℕ → Type 0) → P 0 → P 1 → P 2 → P 3 → P 4 → P 5 → P 6 → P 7 → P 8 → P 9 → P 10 → P 11 → (n : ℕ) → n < 12 → P n
of_twelve P a b c d e f g h i j k l zero lt = a
of_twelve P a b c d e f g h i j k l (suc zero) lt = b
of_twelve P a b c d e f g h i j k l (suc (suc zero)) lt = c
of_twelve P a b c d e f g h i j k l (suc (suc (suc zero))) lt = d
of_twelve P a b c d e f g h i j k l (suc (suc (suc (suc zero)))) lt = e
of_twelve P a b c d e f g h i j k l (suc (suc (suc (suc (suc zero))))) lt = f
of_twelve P a b c d e f g h i j k l (suc (suc (suc (suc (suc (suc zero)))))) lt = g
of_twelve P a b c d e f g h i j k l (suc (suc (suc (suc (suc (suc (suc zero))))))) lt = h
of_twelve P a b c d e f g h i j k l (suc (suc (suc (suc (suc (suc (suc (suc zero)))))))) lt = i
of_twelve P a b c d e f g h i j k l (suc (suc (suc (suc (suc (suc (suc (suc (suc zero))))))))) lt = j
of_twelve P a b c d e f g h i j k l (suc (suc (suc (suc (suc (suc (suc (suc (suc (suc zero)))))))))) lt = k
of_twelve P a b c d e f g h i j k l (suc (suc (suc (suc (suc (suc (suc (suc (suc (suc (suc zero))))))))))) lt = l
of_twelve P a b c d e f g h i j k l (suc (suc (suc (suc (suc (suc (suc (suc (suc (suc (suc (suc n)))))))))))) lt = absurd (omega arith)

all_small : (units : List ℕ) → list_all (λ unit. nat_lt unit 65536) units ≡ true → (k : ℕ) → get_or units k 0 < 2 ^ 16
all_small [] passes k = omega arith
all_small (u ∷ units) passes zero = let parts = and_parts (ltb u 65536) (list_all (λ unit. nat_lt unit 65536) units) passes in let low = ltb-true u 65536 parts.0 in omega arith
all_small (u ∷ units) passes (suc k) = let parts = and_parts (ltb u 65536) (list_all (λ unit. nat_lt unit 65536) units) passes in all_small units parts.1 k

-- a short name, as a test computes it
abbrev is_short : List ℕ → Bool
is_short units = (leb 1 (length units) && leb (length units) 9) && (list_all (λ unit. nat_lt unit 65536) units && is_ok (name_of units))

short_name : (n : ℕ) → n < 12 → is_short (system_name n) ≡ true
unfolding system_name
short_name n lt = of_twelve (λ k. is_short (system_name k) ≡ true) refl refl refl refl refl refl refl refl refl refl refl refl n lt

sizes_of : (units : List ℕ) → is_short units ≡ true → (1 ≤ length units) × (length units ≤ 9) × IsName units
sizes_of units passes =
    let halves = and_parts (leb 1 (length units) && leb (length units) 9) (list_all (λ unit. nat_lt unit 65536) units && is_ok (name_of units)) passes in
    let sizes = and_parts (leb 1 (length units)) (leb (length units) 9) halves.0 in
    let tests = and_parts (list_all (λ unit. nat_lt unit 65536) units) (is_ok (name_of units)) halves.1 in
    (leb-true 1 (length units) sizes.0, leb-true (length units) 9 sizes.1, name-of_ok units (all_small units tests.0) tests.1)

pub is_name : (n : ℕ) → n < 12 → IsName (system_name n)
is_name n lt = (sizes_of (system_name n) (short_name n lt)).2

pub name_short : (n : ℕ) → n < 12 → length (system_name n) ≤ 9
name_short n lt = (sizes_of (system_name n) (short_name n lt)).1

-- ---- the fields of a name

record HasSmallData (v : Layout) (n : ℕ) : Type 0 where
  allocated : allocated_of (system_data v n) < 2 ^ 64
  real : bytes_of (system_data v n) < 2 ^ 64

small_data : (v : Layout) → IsLayout v → (n : ℕ) → n < 12 → HasSmallData v n
unfolding system_data
small_data v layout n lt =
    let pages = layout.log_small in
    let bits = layout.bitmap_small in
    let clusters = layout.small in
    of_twelve (λ k. HasSmallData v k)
    (record { allocated = omega arith; real = omega arith })
    (record { allocated = omega arith; real = omega arith })
    (record { allocated = omega arith; real = omega arith })
    (record { allocated = omega arith; real = omega arith })
    (record { allocated = omega arith; real = omega arith })
    (record { allocated = omega arith; real = omega arith })
    (record { allocated = omega arith; real = omega arith })
    (record { allocated = omega arith; real = omega arith })
    (record { allocated = omega arith; real = omega arith })
    (record { allocated = omega arith; real = omega arith })
    (record { allocated = omega arith; real = omega arith })
    (record { allocated = omega arith; real = omega arith })
    n lt

flags_small : (b : Bool) → (if b then 0x10000006 else 6) < 2 ^ 32
flags_small true = omega arith
flags_small false = omega arith

root_small : sequence 5 < 2 ^ 16
unfolding sequence
root_small = omega arith

pub fits_name : (v : Layout) → IsLayout v → (time n : ℕ) → time < 2 ^ 64 → n < 12 → FitsFileName (name_fields v time n)
fits_name v layout time n small lt =
    let sizes = small_data v layout n lt in
    record {
      number = omega arith;
      seq = root_small;
      created = small;
      modified = small;
      changed = small;
      read_at = small;
      allocated = sizes.allocated;
      real = sizes.real;
      flags = flags_small (is_directory n);
      space = omega arith;
      name = is_name n lt;
    }

-- ---- the value

pub length-name_value : (v : Layout) (time n : ℕ) → length (name_value v time n) ≡ 0x42 + 2 * length (system_name n)
unfolding name_value
length-name_value v time n = length-file_name_over (name_fields v time n) (zeros (0x42 + 2 * length (system_name n))) ∙ length-zeros (0x42 + 2 * length (system_name n))

-- the value of a system file's name is read as its fields
pub name_read : (v : Layout) → IsLayout v → (time n : ℕ) → time < 2 ^ 64 → n < 12 → file_name_of (name_value v time n) ≡ Ok (name_fields v time n)
unfolding name_value
name_read v layout time n small lt =
    let room = zeros (0x42 + 2 * length (system_name n)) in
    file_name_read (name_value v time n) (name_fields v time n) (file_name_spelled (name_fields v time n) room (fits_name v layout time n small lt) (length-zeros (0x42 + 2 * length (system_name n))))

pub name_lawful : (v : Layout) → IsLayout v → (time n : ℕ) → time < 2 ^ 64 → n < 12 → is_file_name (name_value v time n) ≡ true
name_lawful v layout time n small lt = sym (file_name_lawful (name_value v time n)) ∙ ap is_ok (name_read v layout time n small lt)
