-- The law of restart pages: a written one is read as the same fields.
use Rattle.std.specs.Prelude.{◌≡◌, ℕ, ◌<◌, ◌^◌, true, length, Ok}
use Rattle.disk_model.specs.Fixups.{is_in_shape}
use Rattle.fixup_record.specs.Protecting.{protected_bytes}
use Rattle.log_page.specs.declared.restart.Restart.{Restart}
use Rattle.log_page.specs.Restarts.{restart_of, restart_spelling, FitsRestart}

-- the numbers are those of their types
pub record HasRanges (r : Restart) : Type 0 where
  pub current : r.current < 2 ^ 64
  pub oldest : r.oldest < 2 ^ 64
  pub opens : r.opens < 2 ^ 32
  pub bytes : r.bytes < 2 ^ 64

-- The spelling is a page whose update sequence can be made, and by whatever check word it is made, the page is whole and
-- has the same fields.
pub record RestartReadAgain : Type 0 where
  pub size : (r : Restart) → length (restart_spelling r) ≡ 4096
  pub shape : (r : Restart) → is_in_shape (restart_spelling r) ≡ true
  pub read : (r : Restart) (check : ℕ) → FitsRestart r → HasRanges r → check < 2 ^ 16 → restart_of (protected_bytes (restart_spelling r) check) ≡ Ok r
