-- The index of a directory after a plan of it.
use Rattle.std.proofs.Common.{◌≡◌, ℕ, ◌/◌, Bool, List, Option, Some, Ok, ap, ap₂, ◌∙◌}
use Rattle.plan_bodies.specs.disk_model.Content.{Content}
use Rattle.index_change.specs.record_model.declared.attribute.Attr.{Attr}
use Rattle.index_change.specs.record_model.Records.{Record}
use Rattle.index_change.specs.record_model.Constants.{index_allocation, names_index}
use Rattle.index_change.specs.file_tree.declared.link.Link.{Link}
use Rattle.index_change.specs.index_model.Indexes.{Place}
use Rattle.index_change.specs.index_model.Walks.{walk_of}
use Rattle.index_change.specs.state_model.declared.stream.Stream.{Stream}
use Rattle.index_change.specs.state_model.Streams.{is_attribute_of, stream_of}
use Rattle.index_change.specs.volume_model.Indexes.{stream_blocks, index_stream, index_place, root_value, links_read, links_below, index_links}
use Rattle.plan_owners.specs.stream_laws.Frames.{SameNodesIn}
use Rattle.plan_owners.proofs.stream_laws.Framing.{same_walk}
use Rattle.plan_model.specs.Attributes.{RewritesValues, SparesAll}
use Rattle.plan_model.proofs.Rewriting.{same_stream}

pub listed_after : (may : Attr → Bool) (planned d : Content) (per : ℕ) (upper value : List ℕ) (meant : List Link) (r s : Record) → walk_of planned (index_place per r) upper value ≡ Ok meant → RewritesValues may r s → SparesAll may (is_attribute_of index_allocation names_index) → root_value s ≡ Some value
    → SameNodesIn planned d (index_place per r) → index_links d per upper s ≡ Some meant
unfolding index_links index_place index_stream
listed_after may planned d per upper value meant r s walked k spares root same =
    let place : Option Stream → Place = λ o. record { blocks = stream_blocks per o; step = 8 / per } in
    ap₂ (λ (o : Option Stream) (x : Option (List ℕ)). links_below d (place o) upper x) (same_stream may r s index_allocation names_index k spares) root
    ∙ ap links_read (same_walk planned d (place (stream_of index_allocation names_index r.attrs)) upper value same ∙ walked)
