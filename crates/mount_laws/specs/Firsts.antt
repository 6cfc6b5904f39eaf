-- The first update by which a log shadows a live block.
use Rattle.std.specs.Prelude.{◌≡◌, ℕ, suc, ◌*◌, ◌^◌, ◌<◌, ◌≤◌, ◌⊎◌, true, List, [], ◌∷◌, Some, Ok, ⊤}
use Rattle.disk_model.specs.declared.block.Block.{Block}
use Rattle.disk_model.specs.Content.{Content, HasSizes}
use Rattle.volume_mount.specs.volume_model.Volumes.{Volume}
use Rattle.volume_mount.specs.stream_laws.Owners.{IsLive}
use Rattle.log_model.specs.declared.entry.Entry.{Entry}
use Rattle.log_model.specs.Logs.{updates_rival, is_in_grid, is_shadowed}
use Rattle.log_laws.specs.log_page.declared.places.LogPlace.{LogPlace}
use Rattle.log_laws.specs.log_page.Places.{page_bytes}
use Rattle.volume_mount.specs.log_recovery.LogStates.{LogState}
use Rattle.volume_mount.specs.log_recovery.Recovering.{shadow_lsn}
use Rattle.volume_mount.specs.log_recovery.Writing.{to_write_in}
use Rattle.volume_mount.specs.volume_shadows.Live.{least_live}

-- the LSNs of the entries rise from this one on
abbrev pub Rise : ℕ → List Entry → Type 0
Rise low [] = ⊤
Rise low (e ∷ entries) = (low ≤ e.lsn) × Rise (suc e.lsn) entries

-- the entries of a log that isn't refused do
abbrev pub EntriesRise : Type 0
EntriesRise = (c : Content) (place : LogPlace) (kept : List Block) (state : LogState) → HasSizes c → page_bytes * place.pages < 2 ^ 64 → to_write_in c place kept ≡ Ok state → Rise 0 state.log

-- the entry updates a rival of a live block that the list shadows
abbrev pub ShadowsLive : Volume → List Entry → Entry → Type 0
ShadowsLive v list e = (b : Block) × IsLive v b × (is_in_grid b ≡ true) × (is_shadowed list b ≡ true) × (updates_rival b e.act ≡ true)

-- the first of the list that does has this LSN
abbrev pub IsFirst : Volume → List Entry → List Entry → ℕ → Type 0
IsFirst v list [] lsn = ⊥
IsFirst v list (e ∷ entries) lsn = ((e.lsn ≡ lsn) × ShadowsLive v list e) ⊎ ((ShadowsLive v list e → ⊥) × IsFirst v list entries lsn)

-- So where such a log shadows a live block, the least LSN that is said of one is that of the first entry that does.
abbrev pub LeastIsFirst : Type 0
LeastIsFirst = (v : Volume) (list : List Entry) (lsn : ℕ) → Rise 0 list → least_live (shadow_lsn list) v ≡ Some lsn → IsFirst v list list lsn
