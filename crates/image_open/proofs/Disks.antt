-- The sectors of a device, none or some.
use Rattle.std.proofs.Common.{◌≡◌, ℕ, ◌<◌, Bool, List, length, Option, Result, Err, ap, ◌∙◌}
use Rattle.std.specs.Prelude.{IfSome, nat_lt}
use Rattle.std.proofs.lemmas.Bool.{lt-ltb}
use Rattle.host_base.specs.Answers.{◌>>=◌, needs, GivesOrFails}
use Rattle.host_base.proofs.Known.{both, one}
use Rattle.disk_model.specs.Sectors.{sector_of}
use Rattle.disk_model.specs.Content.{Content, content_of}
use Rattle.sector_device.specs.Sectors.{IsDiskOf}
use Rattle.image_open.specs.declared.refusal.Refusal.{Refusal}
use Rattle.image_open.specs.declared.refusal.Refusal.TheVariants.{Short}
use Rattle.image_open.specs.declared.refusal.MountFault.{MountFault}
use Rattle.image_open.specs.Errors.{scan_cause}
use Rattle.image_open.specs.Volumes.{on_disk}

module _ {A : Type 0} (meant : Content → ℕ → Result A Refusal) where
  no_sector : (disk : List (List ℕ)) → length disk ≡ 0 → on_disk meant disk ≡ Err (Short 1 0)
  no_sector disk none = ap (λ (n : ℕ). needs (nat_lt 0 n) (Short 1 0) >>= λ _. meant (content_of (sector_of disk)) n) none

  pub no_sectors : (known : Option (List (List ℕ))) (count : ℕ) → count ≡ 0 → IfSome known (IsDiskOf count) → IfSome known (λ disk. on_disk meant disk ≡ Err (Short 1 0))
  no_sectors known count none whole = one known _ _ (λ disk w. no_sector disk (w.counted ∙ none)) whole

  on_some : (disk : List (List ℕ)) (count : ℕ) → 0 < count → IsDiskOf count disk → on_disk meant disk ≡ meant (content_of (sector_of disk)) count
  on_some disk count some whole =
      ap (λ (n : ℕ). needs (nat_lt 0 n) (Short 1 0) >>= λ _. meant (content_of (sector_of disk)) n) whole.counted
      ∙ ap (λ (b : Bool). needs b (Short 1 0) >>= λ _. meant (content_of (sector_of disk)) count) (lt-ltb 0 count some)

  pub some_sectors : {X : Type 0} (known : Option (List (List ℕ))) (view : X → A) (count : ℕ) (result : Result X MountFault) → 0 < count → IfSome known (IsDiskOf count)
      → IfSome known (λ disk. GivesOrFails view scan_cause result (meant (content_of (sector_of disk)) count)) → IfSome known (λ disk. GivesOrFails view scan_cause result (on_disk meant disk))
  some_sectors known view count result some whole h = both known _ _ _ (λ disk w p. rw (on_some disk count some w) p) whole h
