-- The statuses of a command.
use Rattle.std.specs.Prelude.{◌≡◌, ◌⊎◌, ℕ, Result, Ok, Err}
use Rattle.host_base.specs.Answers.{Cause, no_memory, failed}
use Rattle.ntfs_host.specs.declared.write_error.WriteError.{WriteError}
use Rattle.ntfs_host.specs.declared.write_error.WriteError.TheVariants.{Memory, Sink}

-- why a text was not written to its end
abbrev pub write_cause : WriteError → Cause (Unit {0})
write_cause Memory = no_memory
write_cause Sink = failed

-- the status where the text is whole, or why it is not
abbrev pub written_status : {A : Type 0} → Result A WriteError → ℕ → ℕ
written_status (Ok x) whole = whole
written_status (Err Memory) whole = 6
written_status (Err Sink) whole = 7

-- those of a command that reads: done, refused, no memory, the sink failed, the device failed
abbrev pub IsQuietStatus : ℕ → Type 0
IsQuietStatus status = (status ≡ 0) ⊎ (status ≡ 3) ⊎ (status ≡ 6) ⊎ (status ≡ 7) ⊎ (status ≡ 8)
