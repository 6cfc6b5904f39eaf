-- What is prepared.
use Rattle.std.specs.Prelude.{◌≡◌, false, List, Result, Ok}
use Rattle.host_base.specs.Answers.{GivesOrFails}
use Rattle.disk_model.specs.declared.block.Change.{Change}
use Rattle.disk_model.specs.declared.block.BlockKind.TheVariants.{FileRec}
use Rattle.disk_model.specs.Content.{Content, HasSizes}
use Rattle.volume_map.specs.block_view.Changes.{content_after}
use Rattle.volume_map.specs.state_model.declared.geometry.Geometry.{Geometry}
use Rattle.volume_map.specs.state_model.declared.stream.Extents.{Extents}
use Rattle.volume_map.specs.state_model.Streams.{has_cut_block}
use Rattle.volume_map.specs.state_model.Loads.{table_of, record_count}
use Rattle.volume_map.specs.declared.fault.MapFault.{MapFault}
use Rattle.volume_map.specs.Errors.{map_cause}
use Rattle.map_change.specs.Parts.{map_of, live_parts, geometry_in}
use Rattle.map_change.specs.Applying.{applied}
use Rattle.map_change.specs.declared.live.LiveMap.{LiveMap}
use Rattle.map_change.specs.declared.change.MapChange.{MapChange}

-- the extents of a content's file table, where no record lies in two runs
pub record IsTable (d : Content) (g : Geometry) (e : Extents) : Type 0 where
  pub table : table_of d g ≡ Ok e
  pub uncut : has_cut_block g.per_cluster FileRec (record_count e) e.runs ≡ false

-- Of a content after changes to one of which the map is: what makes the map that of this content, or what refuses it.
abbrev pub IsPrepared : Content → LiveMap → List Change → Result MapChange MapFault → Type 0
IsPrepared d live changes result = (c : Content) → HasSizes c → d ≡ content_after changes c → map_of c (geometry_in live.map) live.map.clusters ≡ Ok (live_parts live)
    → GivesOrFails (λ change. applied change (live_parts live)) map_cause result (map_of d (geometry_in live.map) live.map.clusters)
