-- A mount on the sectors of a device.
use Rattle.std.proofs.Common.{◌≡◌, ℕ, ◌<◌, Bool, List, Option, Result, ap, ◌∙◌}
use Rattle.std.specs.Prelude.{IfSome, nat_lt}
use Rattle.std.proofs.lemmas.Bool.{lt-ltb}
use Rattle.host_base.specs.Answers.{◌>>=◌, needs}
use Rattle.host_base.proofs.Known.{both}
use Rattle.disk_model.specs.Sectors.{sector_of}
use Rattle.disk_model.specs.Content.{content_of}
use Rattle.sector_device.specs.Sectors.{IsDiskOf}
use Rattle.image_read.specs.image_open.declared.refusal.Refusal.TheVariants.{Short}
use Rattle.image_read.specs.image_open.declared.refusal.MountFault.{MountFault}
use Rattle.volume_mount.specs.declared.mounted.Mounted.{Mounted}
use Rattle.volume_mount.specs.Mounts.{mounted_in, mounted_of}
use Rattle.volume_mount.specs.Answers.{MountsAs}

on_some : (disk : List (List ℕ)) (count : ℕ) → 0 < count → IsDiskOf count disk → mounted_of disk ≡ mounted_in (content_of (sector_of disk)) count
unfolding mounted_of
on_some disk count some whole =
    ap (λ (n : ℕ). needs (nat_lt 0 n) (Short 1 0) >>= λ _. mounted_in (content_of (sector_of disk)) n) whole.counted
    ∙ ap (λ (b : Bool). needs b (Short 1 0) >>= λ _. mounted_in (content_of (sector_of disk)) count) (lt-ltb 0 count some)

-- on a device that has sectors it is that of its content
pub some_mounts : (known : Option (List (List ℕ))) (count : ℕ) (result : Result Mounted MountFault) → 0 < count → IfSome known (IsDiskOf count)
    → IfSome known (λ disk. MountsAs (content_of (sector_of disk)) (mounted_in (content_of (sector_of disk)) count) result) → IfSome known (λ disk. MountsAs (content_of (sector_of disk)) (mounted_of disk) result)
some_mounts known count result some whole h = both known _ _ _ (λ disk w p. rw (on_some disk count some w) p) whole h
