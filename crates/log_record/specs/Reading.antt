-- What an update's bytes say.
use Rattle.std.specs.Prelude.{ℕ, List, Result, Ok}
use Rattle.disk_model.specs.host_base.Answers.{◌>>=◌}
use Rattle.log_model.specs.declared.entry.Act.{Act}
use Rattle.log_model.specs.declared.fault.EntryFault.{EntryFault}
use Rattle.log_model.specs.Entries.{update_fits, update_of}

-- what it does, or its first field at fault
abbrev pub update_at : List ℕ → Result Act EntryFault
update_at s = update_fits s >>= λ _. Ok (update_of s)
