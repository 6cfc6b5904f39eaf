-- The links that the file table gives are the image's.
use Rattle.std.proofs.Common.{◌≡◌, List, Option, Result, Ok, Err, refl}
use Rattle.std.specs.Prelude.{IfSome}
use Rattle.host_base.specs.Answers.{◌>>=◌, GivesOrFails}
use Rattle.host_base.proofs.Known.{one}
use Rattle.disk_model.specs.Content.{Content}
use Rattle.volume_links.specs.record_model.Records.{Record}
use Rattle.file_tree.specs.declared.link.Link.{Link}
use Rattle.image_open.specs.state_model.declared.geometry.Geometry.{Geometry}
use Rattle.image_open.specs.state_model.declared.geometry.MapRefusal.{MapRefusal}
use Rattle.image_open.specs.state_model.Loads.{loaded}
use Rattle.volume_links.specs.Names.{long_links, loaded_links}
use Rattle.image_open.specs.declared.refusal.MountFault.{MountFault}
use Rattle.image_open.specs.Errors.{scan_cause, map_refusal, refused_as}
use Rattle.image_read.specs.Scans.{files_of, links_in}

links_by : (files : Result (List (Option Record)) MapRefusal) → refused_as map_refusal (files >>= λ fs. Ok (long_links fs)) ≡ (refused_as map_refusal files >>= λ fs. Ok (long_links fs))
links_by (Ok fs) = refl
links_by (Err r) = refl

links_same : (c : Content) (g : Geometry) → refused_as map_refusal (loaded_links c g) ≡ links_in c g
unfolding loaded_links links_in files_of
links_same c g = links_by (loaded c g)

-- the links that the file table gives, as the image's
pub as_links : {X : Type 0} (known : Option Content) (view : X → List Link) (g : Geometry) (result : Result X MountFault) → IfSome known (λ c. GivesOrFails view scan_cause result (refused_as map_refusal (loaded_links c g)))
    → IfSome known (λ c. GivesOrFails view scan_cause result (links_in c g))
as_links known view g result h = one known _ _ (λ c p. rw (← links_same c g) p) h
