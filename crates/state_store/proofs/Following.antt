-- The state and its map after changes.
use Rattle.std.proofs.Common.{◌≡◌, subst, ℕ, List, Option, Result, Ok, refl, sym, ap, ◌∙◌}
use Rattle.host_base.specs.Answers.{◌>>=◌}
use Rattle.disk_model.specs.Content.{Content}
use Rattle.disk_model.specs.declared.block.Change.{Change}
use Rattle.block_view.specs.Changes.{content_after}
use Rattle.same_names.specs.map_change.record_model.Records.{Record}
use Rattle.same_names.specs.state_model.declared.geometry.Geometry.{Geometry}
use Rattle.same_names.specs.state_model.declared.geometry.MapRefusal.{MapRefusal}
use Rattle.same_names.specs.volume_model.Volumes.{Volume, volume_of}
use Rattle.same_names.proofs.stream_laws.Rewriting.{volume_parts}
use Rattle.same_names.specs.map_change.Parts.{MapParts, parts_of, map_of}
use Rattle.state_blocks.specs.plan_owners.States.{Stands}
use Rattle.state_store.specs.Volumes.{geometry_of, IsStateOf}
use Rattle.state_store.specs.Changes.{LeadsOn, KeepsNamesBy}
use Rattle.state_store.specs.Preparing.{HaveMaps}

-- the map of a content whose volume is loaded
map_loaded : (c : Content) (g : Geometry) (clusters : ℕ) (v : Volume) → volume_of c g clusters ≡ Ok v → map_of c g clusters ≡ Ok (parts_of c v)
map_loaded c g clusters v is = ap (λ (r : Result Volume MapRefusal). r >>= λ w. Ok (parts_of c w)) is

pub has_map : (m : MapParts) (table : List ℕ) (c : Content) → IsStateOf m table c → map_of c (geometry_of m) m.volume.clusters ≡ Ok m
has_map m table c state = map_loaded c (geometry_of m) m.volume.clusters m.volume state.stands.loaded ∙ ap Ok (sym state.map)

pub have_maps : (may : List (Option Record) → List (Option Record) → Type 0) (m : MapParts) (table : List ℕ) (changes : List Change) (c : Content) → IsStateOf m table c → LeadsOn m table changes c → KeepsNamesBy may m changes c → HaveMaps may m c (content_after changes c)
have_maps may m table changes c state leads allowed = record {
  now = has_map m table c state;
  next = parts_of (content_after changes c) leads.volume;
  then = map_loaded (content_after changes c) (geometry_of m) m.volume.clusters leads.volume leads.stands.loaded;
  names = allowed.names leads.volume leads.stands;
}

one_volume : (v w : Volume) (r : Result Volume MapRefusal) → r ≡ Ok v → r ≡ Ok w → w ≡ v
one_volume v w r one two = cc

-- a rule by which the files of the volume to which changes lead may follow allows those of each volume that stands there
pub allowed_by : (may : List (Option Record) → List (Option Record) → Type 0) (m : MapParts) (table : List ℕ) (changes : List Change) (c : Content) (leads : LeadsOn m table changes c) → may m.volume.files leads.volume.files → KeepsNamesBy may m changes c
allowed_by may m table changes c leads is = record {
  names = λ v stands. subst (λ (w : Volume). may m.volume.files w.files) (sym (one_volume leads.volume v (volume_of (content_after changes c) (geometry_of m) m.volume.clusters) leads.stands.loaded stands.loaded)) is;
}

geometry_with : ℕ → ℕ → Geometry
geometry_with per mft = record { per_cluster = per; mft = mft }

-- a state stands by the geometry of its own map
own_geometry : (m : MapParts) (d : Content) (w : Volume) → Stands d (geometry_of m) m.volume.clusters w → Stands d (geometry_of (parts_of d w)) w.clusters w
unfolding geometry_with
own_geometry m d w s =
    let parts = volume_parts d (geometry_of m) m.volume.clusters w s.loaded in
    subst (λ (mft : ℕ). Stands d (geometry_with w.per mft) w.clusters w) parts.place
    (subst (λ (per : ℕ). Stands d (geometry_with per m.volume.mft) w.clusters w) parts.per
    (subst (λ (n : ℕ). Stands d (geometry_of m) n w) parts.count s))

one_map : (a b : MapParts) (r : Result MapParts MapRefusal) → r ≡ Ok a → r ≡ Ok b → b ≡ a
one_map a b r one two = cc

-- the map that follows is that of the state to which they lead
pub next_map : (m next : MapParts) (table : List ℕ) (changes : List Change) (c : Content) (leads : LeadsOn m table changes c) → map_of (content_after changes c) (geometry_of m) m.volume.clusters ≡ Ok next → next ≡ parts_of (content_after changes c) leads.volume
next_map m next table changes c leads is =
    let d = content_after changes c in
    one_map (parts_of d leads.volume) next (map_of d (geometry_of m) m.volume.clusters) (map_loaded d (geometry_of m) m.volume.clusters leads.volume leads.stands.loaded) is

pub state_after : (m next : MapParts) (table : List ℕ) (changes : List Change) (c : Content) → LeadsOn m table changes c → map_of (content_after changes c) (geometry_of m) m.volume.clusters ≡ Ok next → IsStateOf next table (content_after changes c)
state_after m next table changes c leads is =
    let d = content_after changes c in
    subst (λ (x : MapParts). IsStateOf x table d) (sym (next_map m next table changes c leads is)) (record { stands = own_geometry m d leads.volume leads.stands; map = refl; upper = leads.upper })
