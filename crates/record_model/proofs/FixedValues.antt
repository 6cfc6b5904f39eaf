-- Standard information, volume information and a journal's limits: the table against the reader, and what is written.
use Rattle.std.proofs.Common.{◌≡◌, ◌⊎◌, ℕ, ◌<◌, ◌≤◌, leb, true, false, List, [], ◌∷◌, length, slice_index, Ok, Err, refl, ap, inl, inr, arith}
use Rattle.std.specs.Prelude.{is_ok, if◌then◌else◌}
use Rattle.record_model.specs.declared.values.StdInfo.{StdInfo}
use Rattle.record_model.specs.declared.values.VolumeInfo.{VolumeInfo}
use Rattle.record_model.specs.declared.values.JournalMax.{JournalMax}
use Rattle.record_model.specs.declared.values.ValueFault.TheVariants.{Length}
use Rattle.record_model.specs.Values.{is_standard_information}
use Rattle.record_model.specs.StdValues.{std_info_fields, std_info_of, IsStdInfo, std_info_over, FitsStdInfo, volume_info_fields, volume_info_of, IsVolumeInfo, volume_info_over, FitsVolumeInfo, journal_max_fields, journal_max_of, IsJournalMax, journal_max_over, FitsJournalMax}
use Rattle.record_model.proofs.ValueFields.{Put, put, Fit, length-puts, put_read, byte_behind, byte_before, from_ok, to_ok, le_true, le_false, le_of}

same3 : {X : Type 0} (f : ℕ → ℕ → ℕ → X) (a b c a' b' c' : ℕ) → a ≡ a' → b ≡ b' → c ≡ c' → f a b c ≡ f a' b' c'
same3 f a b c a' b' c' p q r = cc

same4 : {X : Type 0} (f : ℕ → ℕ → ℕ → ℕ → X) (a b c d a' b' c' d' : ℕ) → a ≡ a' → b ≡ b' → c ≡ c' → d ≡ d' → f a b c d ≡ f a' b' c' d'
same4 f a b c d a' b' c' d' p q r s = cc

same5 : {X : Type 0} (f : ℕ → ℕ → ℕ → ℕ → ℕ → X) (a b c d e a' b' c' d' e' : ℕ) → a ≡ a' → b ≡ b' → c ≡ c' → d ≡ d' → e ≡ e' → f a b c d e ≡ f a' b' c' d' e'
same5 f a b c d e a' b' c' d' e' p q r s t = cc

-- ---- standard information

make_info : ℕ → ℕ → ℕ → ℕ → ℕ → StdInfo
make_info a b c d e = record { created = a; modified = b; changed = c; read_at = d; flags = e }

pub std_info_table : (value : List ℕ) (info : StdInfo) → std_info_of value ≡ Ok info → IsStdInfo value info
unfolding std_info_of std_info_fields is_standard_information
std_info_table value info e =
    let p = from_ok (is_standard_information value) (std_info_fields value) info (Length (length value)) e in
    record {
      size = le_of 0x30 (length value) p.0;
      created = ap (λ (i : StdInfo). i.created) p.1;
      modified = ap (λ (i : StdInfo). i.modified) p.1;
      changed = ap (λ (i : StdInfo). i.changed) p.1;
      read_at = ap (λ (i : StdInfo). i.read_at) p.1;
      flags = ap (λ (i : StdInfo). i.flags) p.1;
    }

pub std_info_read : (value : List ℕ) (info : StdInfo) → IsStdInfo value info → std_info_of value ≡ Ok info
unfolding std_info_of std_info_fields is_standard_information make_info
std_info_read value info t =
    to_ok (is_standard_information value) (std_info_fields value) info (Length (length value)) (le_true 0x30 (length value) t.size) (same5 make_info _ _ _ _ _ _ _ _ _ _ t.created t.modified t.changed t.read_at t.flags)

pub std_info_short : (value : List ℕ) → length value < 0x30 → std_info_of value ≡ Err (Length (length value))
unfolding std_info_of is_standard_information
std_info_short value short = rw (le_false 0x30 (length value) short) refl

pub std_info_lawful : (value : List ℕ) → is_ok (std_info_of value) ≡ is_standard_information value
unfolding std_info_of
std_info_lawful value = elim (is_standard_information value) as (λ b. is_ok (if b then Ok (std_info_fields value) else Err (Length (length value))) ≡ b) [ true ↦ refl | false ↦ refl ]

abbrev info_puts : StdInfo → List Put
info_puts i = put 0x00 8 i.created ∷ put 0x08 8 i.modified ∷ put 0x10 8 i.changed ∷ put 0x18 8 i.read_at ∷ put 0x20 4 i.flags ∷ []

pub std_info_spelled : (info : StdInfo) (value : List ℕ) → FitsStdInfo info → 0x30 ≤ length value → IsStdInfo (std_info_over info value) info
unfolding std_info_over
std_info_spelled info value fits long =
    let ps = info_puts info in
    let fit : Fit ps = (fits.created, (fits.modified, (fits.changed, (fits.read_at, (fits.flags, tt))))) in
    let n : 0x24 ≤ length value = omega arith in
    record {
      size = omega (arith, length-puts ps value);
      created = put_read ps 0x24 0 value refl refl n fit (omega arith);
      modified = put_read ps 0x24 1 value refl refl n fit (omega arith);
      changed = put_read ps 0x24 2 value refl refl n fit (omega arith);
      read_at = put_read ps 0x24 3 value refl refl n fit (omega arith);
      flags = put_read ps 0x24 4 value refl refl n fit (omega arith);
    }

pub length-std_info_over : (info : StdInfo) (value : List ℕ) → length (std_info_over info value) ≡ length value
unfolding std_info_over
length-std_info_over info value = length-puts (info_puts info) value

pub std_info_others : (info : StdInfo) (value : List ℕ) (i : ℕ) → 0x24 ≤ i → slice_index (std_info_over info value) i ≡ slice_index value i
unfolding std_info_over
std_info_others info value i le = byte_behind (info_puts info) 0x24 i value refl le

-- ---- volume information

make_volume : ℕ → ℕ → ℕ → VolumeInfo
make_volume a b c = record { major = a; minor = b; flags = c }

pub volume_info_table : (value : List ℕ) (info : VolumeInfo) → volume_info_of value ≡ Ok info → IsVolumeInfo value info
unfolding volume_info_of volume_info_fields
volume_info_table value info e =
    let p = from_ok (leb 0x0C (length value)) (volume_info_fields value) info (Length (length value)) e in
    record {
      size = le_of 0x0C (length value) p.0;
      major = ap (λ (i : VolumeInfo). i.major) p.1;
      minor = ap (λ (i : VolumeInfo). i.minor) p.1;
      flags = ap (λ (i : VolumeInfo). i.flags) p.1;
    }

pub volume_info_read : (value : List ℕ) (info : VolumeInfo) → IsVolumeInfo value info → volume_info_of value ≡ Ok info
unfolding volume_info_of volume_info_fields make_volume
volume_info_read value info t =
    to_ok (leb 0x0C (length value)) (volume_info_fields value) info (Length (length value)) (le_true 0x0C (length value) t.size) (same3 make_volume _ _ _ _ _ _ t.major t.minor t.flags)

pub volume_info_short : (value : List ℕ) → length value < 0x0C → volume_info_of value ≡ Err (Length (length value))
unfolding volume_info_of
volume_info_short value short = rw (le_false 0x0C (length value) short) refl

abbrev volume_puts : VolumeInfo → List Put
volume_puts i = put 0x08 1 i.major ∷ put 0x09 1 i.minor ∷ put 0x0A 2 i.flags ∷ []

pub volume_info_spelled : (info : VolumeInfo) (value : List ℕ) → FitsVolumeInfo info → 0x0C ≤ length value → IsVolumeInfo (volume_info_over info value) info
unfolding volume_info_over
volume_info_spelled info value fits long =
    let ps = volume_puts info in
    let fit : Fit ps = (fits.major, (fits.minor, (fits.flags, tt))) in
    record {
      size = omega (arith, length-puts ps value);
      major = put_read ps 0x0C 0 value refl refl long fit (omega arith);
      minor = put_read ps 0x0C 1 value refl refl long fit (omega arith);
      flags = put_read ps 0x0C 2 value refl refl long fit (omega arith);
    }

pub length-volume_info_over : (info : VolumeInfo) (value : List ℕ) → length (volume_info_over info value) ≡ length value
unfolding volume_info_over
length-volume_info_over info value = length-puts (volume_puts info) value

pub volume_info_others : (info : VolumeInfo) (value : List ℕ) (i : ℕ) → (i < 0x08) ⊎ (0x0C ≤ i) → slice_index (volume_info_over info value) i ≡ slice_index value i
unfolding volume_info_over
volume_info_others info value i (inl lt) = byte_before (volume_puts info) 0x08 i value refl lt
volume_info_others info value i (inr le) = byte_behind (volume_puts info) 0x0C i value refl le

-- ---- a journal's limits

make_max : ℕ → ℕ → ℕ → ℕ → JournalMax
make_max a b c d = record { max = a; delta = b; id = c; lowest = d }

pub journal_max_table : (value : List ℕ) (limits : JournalMax) → journal_max_of value ≡ Ok limits → IsJournalMax value limits
unfolding journal_max_of journal_max_fields
journal_max_table value limits e =
    let p = from_ok (leb 0x20 (length value)) (journal_max_fields value) limits (Length (length value)) e in
    record {
      size = le_of 0x20 (length value) p.0;
      maximum = ap (λ (i : JournalMax). i.max) p.1;
      delta = ap (λ (i : JournalMax). i.delta) p.1;
      id = ap (λ (i : JournalMax). i.id) p.1;
      lowest = ap (λ (i : JournalMax). i.lowest) p.1;
    }

pub journal_max_read : (value : List ℕ) (limits : JournalMax) → IsJournalMax value limits → journal_max_of value ≡ Ok limits
unfolding journal_max_of journal_max_fields make_max
journal_max_read value limits t =
    to_ok (leb 0x20 (length value)) (journal_max_fields value) limits (Length (length value)) (le_true 0x20 (length value) t.size) (same4 make_max _ _ _ _ _ _ _ _ t.maximum t.delta t.id t.lowest)

pub journal_max_short : (value : List ℕ) → length value < 0x20 → journal_max_of value ≡ Err (Length (length value))
unfolding journal_max_of
journal_max_short value short = rw (le_false 0x20 (length value) short) refl

abbrev max_puts : JournalMax → List Put
max_puts i = put 0x00 8 i.max ∷ put 0x08 8 i.delta ∷ put 0x10 8 i.id ∷ put 0x18 8 i.lowest ∷ []

pub journal_max_spelled : (limits : JournalMax) (value : List ℕ) → FitsJournalMax limits → 0x20 ≤ length value → IsJournalMax (journal_max_over limits value) limits
unfolding journal_max_over
journal_max_spelled limits value fits long =
    let ps = max_puts limits in
    let fit : Fit ps = (fits.maximum, (fits.delta, (fits.id, (fits.lowest, tt)))) in
    record {
      size = omega (arith, length-puts ps value);
      maximum = put_read ps 0x20 0 value refl refl long fit (omega arith);
      delta = put_read ps 0x20 1 value refl refl long fit (omega arith);
      id = put_read ps 0x20 2 value refl refl long fit (omega arith);
      lowest = put_read ps 0x20 3 value refl refl long fit (omega arith);
    }

pub length-journal_max_over : (limits : JournalMax) (value : List ℕ) → length (journal_max_over limits value) ≡ length value
unfolding journal_max_over
length-journal_max_over limits value = length-puts (max_puts limits) value

pub journal_max_others : (limits : JournalMax) (value : List ℕ) (i : ℕ) → 0x20 ≤ i → slice_index (journal_max_over limits value) i ≡ slice_index value i
unfolding journal_max_over
journal_max_others limits value i le = byte_behind (max_puts limits) 0x20 i value refl le
