-- The bytes of a disk by which a body is written, and that they are read back as it.
use Rattle.std.specs.Prelude.{◌≡◌, ◌⊎◌, ◌↔◌, ℕ, ◌+◌, ◌*◌, ◌^◌, ◌<◌, ◌==◌, ◌&&◌, ◌||◌, nat_le, not, if◌then◌else◌, Bool, true, false, List, length, slice_index}
use Rattle.std.specs.List.{list_all}
use Rattle.disk_model.specs.declared.block.BlockKind.{BlockKind}
use Rattle.disk_model.specs.declared.block.BlockKind.TheVariants.{Plain, FileRec, Index}
use Rattle.disk_model.specs.Bytes.{part}
use Rattle.disk_model.specs.Sectors.{sectors}
use Rattle.disk_model.specs.Content.{is_signed, plain_body, body_of}
use Rattle.disk_model.specs.Fixups.{array_at, sector_count, is_in_shape, is_in_array}
use Rattle.fixup_record.specs.Protecting.{protected_bytes}
use Rattle.fixup_record.specs.ProtectLaws.{IsArrayApart}

-- a block of this kind with this body has an update sequence: its kind has a signature, and the body begins with it
abbrev pub is_sequenced : BlockKind → List ℕ → Bool
is_sequenced Plain bytes = false
is_sequenced FileRec bytes = is_signed FileRec bytes
is_sequenced Index bytes = is_signed Index bytes

-- the array is in shape, lies behind the words at 4 and 6, and is zeros
pub record IsReady (bytes : List ℕ) : Type 0 where
  pub shape : is_in_shape bytes ≡ true
  pub apart : IsArrayApart bytes
  pub zeros : (i : ℕ) → is_in_array bytes i ≡ true → slice_index bytes i ≡ 0

-- the body has a spelling: it isn't signed, or its array is ready
abbrev pub HasSpelling : BlockKind → List ℕ → Type 0
HasSpelling kind bytes = (is_sequenced kind bytes ≡ false) ⊎ IsReady bytes

-- the same as a test
unfoldable pub has_zeros : List ℕ → Bool
has_zeros bytes = list_all (λ b. b == 0) (part (array_at bytes) (2 * (sector_count bytes + 1)) bytes)

abbrev pub is_ready : List ℕ → Bool
is_ready bytes = is_in_shape bytes && nat_le 8 (array_at bytes) && has_zeros bytes

unfoldable pub has_spelling : BlockKind → List ℕ → Bool
has_spelling kind bytes = not (is_sequenced kind bytes) || is_ready bytes

-- the spelling: protected by this check word, or the bytes themselves
unfoldable pub spelled : BlockKind → ℕ → List ℕ → List ℕ
spelled kind check bytes = if is_sequenced kind bytes then protected_bytes bytes check else bytes

pub record SpelledIsRead : Type 0 where
  -- the spelling is read as the body, untorn
  pub read : (kind : BlockKind) (check : ℕ) (bytes : List ℕ) → length bytes ≡ 512 * sectors kind → HasSpelling kind bytes → check < 2 ^ 16 → body_of kind (spelled kind check bytes) ≡ plain_body bytes
  -- and the test tells which bodies have one
  pub tested : (kind : BlockKind) (bytes : List ℕ) → length bytes ≡ 512 * sectors kind → (has_spelling kind bytes ≡ true) ↔ HasSpelling kind bytes
