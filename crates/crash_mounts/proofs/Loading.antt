-- A state is loaded.
use Rattle.std.proofs.Common.{◌≡◌, ℕ, Bool, List, Option, None, Result, Ok, ap, ◌∙◌}
use Rattle.host_base.specs.Answers.{◌>>=◌}
use Rattle.disk_model.specs.Content.{Content}
use Rattle.state_model.specs.declared.broken.Broken.{Broken}
use Rattle.state_model.specs.declared.geometry.MapRefusal.{MapRefusal}
use Rattle.volume_model.specs.Volumes.{Volume, cluster_bits, upper_of}
use Rattle.mount_laws.specs.volume_state.Rules.{first_broken}
use Rattle.mount_laws.specs.volume_state.Trees.{reported, checked}
use Rattle.log_page.specs.declared.places.LogPlace.{LogPlace}
use Rattle.mount_laws.specs.image_open.declared.refusal.Refusal.{Refusal}
use Rattle.mount_laws.specs.image_open.Errors.{map_refusal, refused_as}
use Rattle.mount_laws.specs.image_read.Errors.{broken_refusal}
use Rattle.mount_laws.specs.image_read.Checks.{volume_on, tree_on}
use Rattle.mount_laws.specs.volume_shadows.Live.{least_live}
use Rattle.mount_laws.specs.volume_mount.Mounts.{Said, unless_said, has_pages, changeable, may_be_changed, unshadowed, placed, ruled, settled, paged, unjournaled, tried, loaded_on}
use Rattle.mount_laws.specs.volume_mount.Welcome.{IsWelcome}
use Rattle.crash_mounts.specs.Loading.{StatesLoad}

ruled_ok : (c : Content) (v : Volume) → first_broken c v ≡ None → ruled c v ≡ Ok v
unfolding ruled tree_on checked
ruled_ok c v kept = ap (λ (o : Option Broken). refused_as broken_refusal (reported c v o) >>= λ _. ok_volume v) kept
  where
    ok_volume : Volume → Result Volume Refusal
    ok_volume w = Ok w

placed_ok : (said : Said) (place : LogPlace) (bits : List Bool) (v : Volume) → changeable place bits v ≡ Ok tt → least_live said v ≡ None → placed said place bits v ≡ Ok v
unfolding placed unshadowed
placed_ok said place bits v lies none = ap (λ (r : Result (Unit {0}) Refusal). r >>= λ _. unshadowed said v) lies ∙ ap (λ (o : Option ℕ). unless_said o v) none

tried_ok : (said : Said) (place : LogPlace) (c : Content) (v : Volume) → first_broken c v ≡ None → IsWelcome c v → has_pages place ≡ Ok tt → may_be_changed place c v ≡ Ok tt → least_live said v ≡ None → tried said place c v ≡ Ok v
unfolding tried unjournaled paged settled
tried_ok said place c v kept welcome pages lies none =
    ap (λ (r : Result (Unit {0}) Refusal). r >>= λ _. unjournaled said (upper_of c v) place c v) welcome.version
    ∙ ap (λ (r : Result (Unit {0}) Refusal). r >>= λ _. paged said place c v) welcome.no_journal
    ∙ ap (λ (r : Result (Unit {0}) Refusal). r >>= λ _. settled said place c v) pages
    ∙ ap (λ (r : Result Volume Refusal). r >>= λ w. placed said place (cluster_bits c w) w) (ruled_ok c v kept)
    ∙ placed_ok said place (cluster_bits c v) v lies none

pub states_load : StatesLoad
unfolding loaded_on volume_on
states_load said place c g total v s welcome pages lies none =
    ap (λ (r : Result Volume MapRefusal). refused_as map_refusal r >>= tried said place c) s.loaded ∙ tried_ok said place c v s.kept welcome pages lies none
