-- The laws of a boot sector's grammar: the table against the reader, and the written spelling against both.
use Rattle.std.specs.Prelude.{◌≡◌, ℕ, List, length, Ok}
use Rattle.boot_sector.specs.declared.boot.Boot.{Boot}
use Rattle.boot_sector.specs.BootSectors.{boot_of, boot_spelling, IsBootSector, FitsBoot}

-- bytes that spell these fields are read as them
abbrev pub BootTableIsRead : Type 0
BootTableIsRead = (bytes : List ℕ) (b : Boot) → IsBootSector bytes b → boot_of bytes ≡ Ok b

-- what is read is spelled
abbrev pub BootReadIsTable : Type 0
BootReadIsTable = (bytes : List ℕ) (b : Boot) → boot_of bytes ≡ Ok b → IsBootSector bytes b

-- bytes spell the fields of at most one boot sector
abbrev pub SpellsOneBoot : Type 0
SpellsOneBoot = (bytes : List ℕ) (b c : Boot) → IsBootSector bytes b → IsBootSector bytes c → b ≡ c

-- the written spelling has 512 bytes, spells the fields, and is read again
pub record BootReadAgain : Type 0 where
  pub size : (b : Boot) → length (boot_spelling b) ≡ 512
  pub spelled : (b : Boot) → FitsBoot b → IsBootSector (boot_spelling b) b
  pub read : (b : Boot) → FitsBoot b → boot_of (boot_spelling b) ≡ Ok b
