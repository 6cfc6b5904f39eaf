-- What `format` answers of a device with so many sectors.
use Rattle.std.specs.Prelude.{◌≡◌, ℕ, nat_le, nat_lt, Option, Result, Ok}
use Rattle.host_base.specs.Answers.{◌>>=◌, needs, Cause, refused, no_memory, failed}
use Rattle.boot_sector.specs.BootSectors.{most_clusters}
use Rattle.sector_device.specs.Moments.{Changes}
use Rattle.volume_format.specs.declared.fault.Formatted.{Formatted}
use Rattle.volume_format.specs.declared.fault.FormatFault.{FormatFault}
use Rattle.volume_format.specs.declared.fault.FormatFault.TheVariants.{Refused, Fault, Memory}
use Rattle.volume_format.specs.declared.fault.FormatRefusal.{FormatRefusal}
use Rattle.volume_format.specs.declared.fault.FormatRefusal.TheVariants.{VolumeLarge, Short}
use Rattle.volume_format.specs.Layouts.{clusters_of, least_sectors, layout_of, room}

-- No sector can't hold a boot sector; then the volume may be too large; then the device too short for what is written.
unfoldable pub format_answer : ℕ → Result Formatted FormatRefusal
format_answer device =
    needs (nat_lt 0 device) (Short 1 0)
    >>= λ _. needs (nat_le (clusters_of device) most_clusters) (VolumeLarge (clusters_of device))
    >>= λ _. needs (nat_le least_sectors device) (Short least_sectors device)
    >>= λ _. Ok (record { clusters = clusters_of device; room = room (layout_of device) })

-- where an error of a call comes from
abbrev pub format_cause : FormatFault → Cause FormatRefusal
format_cause (Refused refusal) = refused refusal
format_cause Fault = failed
format_cause Memory = no_memory

-- what reads give, the moment, the writes, the syncs and the count of faults stay: the device wasn't called
pub record IsUntouched {A : Type 0} (gives gives_now : Option A) (moment moment_now : ℕ) (changes changes_now : Changes) (faults faults_now : ℕ) : Type 0 where
  pub same_gives : gives_now ≡ gives
  pub same_moment : moment_now ≡ moment
  pub same_changes : changes_now ≡ changes
  pub same_faults : faults_now ≡ faults
