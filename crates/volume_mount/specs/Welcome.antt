-- What a mount asks of a state.
use Rattle.std.specs.Prelude.{◌≡◌, true, is_some, Ok}
use Rattle.disk_model.specs.Content.{Content}
use Rattle.volume_state.specs.volume_model.Volumes.{Volume, file_in, log_file, upper_of}
use Rattle.image_read.specs.Checks.{has_version}
use Rattle.volume_mount.specs.Boot.{KeepsBoot}
use Rattle.volume_mount.specs.Mounts.{has_no_journal, has_single_lists}

-- what a mount asks of a state, beside the rules: its version, no change journal, that no attribute list has a second piece, that record 2 is a file's, and that the boot sector is kept
pub record IsWelcome (c : Content) (v : Volume) : Type 0 where
  pub version : has_version v ≡ Ok tt
  pub no_journal : has_no_journal (upper_of c v) v ≡ Ok tt
  pub lists : has_single_lists v ≡ Ok tt
  pub log : is_some (file_in v log_file) ≡ true
  pub boot : KeepsBoot c v
