-- What a plan of a directory's index gives to an edit of the directory.
use Rattle.std.specs.Prelude.{◌≡◌, ℕ, Bool, List, Some, Ok}
use Rattle.plan_bodies.specs.disk_model.Content.{Content}
use Rattle.index_change.specs.record_model.declared.attribute.Attr.{Attr}
use Rattle.index_change.specs.record_model.Records.{Record}
use Rattle.index_change.specs.record_model.Constants.{index_allocation, names_index}
use Rattle.index_change.specs.file_tree.declared.link.Link.{Link}
use Rattle.index_change.specs.index_model.Walks.{walk_of}
use Rattle.index_change.specs.state_model.Streams.{is_attribute_of}
use Rattle.index_change.specs.volume_model.Indexes.{index_place, root_value, index_links}
use Rattle.plan_owners.specs.stream_laws.Frames.{SameNodesIn}
use Rattle.plan_model.specs.Attributes.{RewritesValues, SparesAll}

-- A directory lists what a walk over its old places gives below its new root, in a content with the same nodes there, such as the
-- one after a plan's changes.
abbrev pub IndexWalked : Type 0
IndexWalked = (may : Attr → Bool) (planned d : Content) (per : ℕ) (upper value : List ℕ) (meant : List Link) (r s : Record) → walk_of planned (index_place per r) upper value ≡ Ok meant → RewritesValues may r s
    → SparesAll may (is_attribute_of index_allocation names_index) → root_value s ≡ Some value → SameNodesIn planned d (index_place per r) → index_links d per upper s ≡ Some meant
