-- A state as a mount loads it.
use Rattle.std.specs.Prelude.{◌≡◌, ℕ, None, Ok}
use Rattle.disk_model.specs.Content.{Content}
use Rattle.state_model.specs.declared.geometry.Geometry.{Geometry}
use Rattle.volume_model.specs.Volumes.{Volume}
use Rattle.mount_laws.specs.plan_owners.States.{Stands}
use Rattle.log_page.specs.declared.places.LogPlace.{LogPlace}
use Rattle.mount_laws.specs.volume_shadows.Live.{least_live}
use Rattle.mount_laws.specs.volume_mount.Mounts.{Said, has_pages, may_be_changed, loaded_on}
use Rattle.mount_laws.specs.volume_mount.Welcome.{IsWelcome}

-- Such a state is loaded, where its log at this place has its pages, which lie on the device, and shadows no live block.
abbrev pub StatesLoad : Type 0
StatesLoad = (said : Said) (place : LogPlace) (c : Content) (g : Geometry) (total : ℕ) (v : Volume) → Stands c g total v → IsWelcome c v → has_pages place ≡ Ok tt → may_be_changed place c v ≡ Ok tt → least_live said v ≡ None → loaded_on said place c g total ≡ Ok v
