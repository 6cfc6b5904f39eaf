-- What keeps what a volume asks for leads from a state that a mount takes to one that it takes too.
use Rattle.std.specs.Prelude.{◌≡◌, ℕ, ◌<◌, ◌≤◌, List, None}
use Rattle.disk_model.specs.declared.block.Change.{Change}
use Rattle.disk_model.specs.Content.{Content}
use Rattle.file_tree.specs.Walks.{child_in}
use Rattle.state_model.specs.declared.geometry.Geometry.{Geometry}
use Rattle.state_model.specs.Trees.{all_links}
use Rattle.volume_model.specs.Volumes.{Volume, count_of, file_in, files_by_number}
use Rattle.spares_at_mount.specs.volume_state.Journals.{extend_file, journal_name}
use Rattle.spares_at_mount.specs.volume_mount.Welcome.{IsWelcome}
use Rattle.plan_bodies.specs.Bodies.{NewBody, content_with}
use Rattle.writes_keep.specs.file_puts.declared.streams.VolumeStreams.{VolumeStreams}
use Rattle.writes_keep.specs.names_stay.Lists.{lists_in}
use Rattle.writes_keep.specs.Writes.{WriteKeeps}

-- So it does where no file has more attribute lists behind it, and no name leads to a change journal where none did.
abbrev pub KeptIsWelcome : Type 0
KeptIsWelcome = (c : Content) (g : Geometry) (v : Volume) (s : VolumeStreams) (bodies : List NewBody) (changes : List Change) (w : Volume) → WriteKeeps c g v s bodies changes w → 0 < v.clusters → ((m : ℕ) → lists_in (file_in w m) ≤ lists_in (file_in v m))
    → ((upper : List ℕ) → child_in upper (all_links (files_by_number v) (count_of v)) extend_file journal_name ≡ None → child_in upper (all_links (files_by_number w) (count_of w)) extend_file journal_name ≡ None) → IsWelcome c v → IsWelcome (content_with c bodies) w
