-- The records of an image's change journal, or the first refusal that applies.
use Rattle.std.specs.Prelude.{ℕ, List, Result, Ok}
use Rattle.host_base.specs.Answers.{◌>>=◌}
use Rattle.disk_model.specs.Content.{Content}
use Rattle.image_open.specs.state_model.declared.stream.Extents.{Extents}
use Rattle.volume_check.specs.volume_model.Volumes.{Volume, upper_of}
use Rattle.volume_check.specs.volume_state.Journals.{journal_first, journal_entries}
use Rattle.volume_check.specs.usn_journal.Places.{journal_place}
use Rattle.volume_check.specs.usn_journal.Pulls.{read_entries}
use Rattle.image_open.specs.declared.refusal.Refusal.{Refusal}
use Rattle.image_open.specs.declared.refusal.Refusal.TheVariants.{NoJournal}
use Rattle.image_open.specs.Errors.{refused_as}
use Rattle.image_open.specs.Volumes.{in_volume, on_disk}
use Rattle.image_read.specs.Checks.{has_version, tree_on, loaded_in}
use Rattle.image_read.specs.declared.reading.ReadJournal.{ReadJournal}

-- ---- the volume

-- where the records of its journal lie, or why there is none
unfoldable pub place_on : Content → Volume → Result Extents Refusal
place_on c v = refused_as NoJournal (journal_place (upper_of c v) v)

-- the records that lie in these clusters, and the bytes of the journal at which it begins and ends
unfoldable pub records_in : Content → ℕ → Extents → ReadJournal
records_in c per e = record { entries = read_entries (journal_entries c per e); first = journal_first per e; next = e.real }

-- the same of a volume that breaks none of the nine rules
unfoldable pub records_by : Content → Volume → Extents → Result ReadJournal Refusal
records_by c v e = tree_on c v >>= λ _. Ok (records_in c v.per e)

-- that there is no journal comes before the rules
unfoldable pub placed_records : Content → Volume → Result ReadJournal Refusal
placed_records c v = place_on c v >>= records_by c v

-- and the version before both
unfoldable pub volume_records : Content → Volume → Result ReadJournal Refusal
volume_records c v = has_version v >>= λ _. placed_records c v

-- ---- the image

-- the records of a content on a device of so many sectors
unfoldable pub journal_in : Content → ℕ → Result ReadJournal Refusal
journal_in c sectors = in_volume (loaded_in volume_records) c sectors

-- The records of the change journal of the volume on these sectors once it is recovered, and where it begins and ends; or the first refusal that
-- applies: by the boot sector, by record 2 and the log, by the records of the file table, by the version, by the journal
-- that there isn't, and by the nine rules of a volume.
unfoldable pub journal_of : List (List ℕ) → Result ReadJournal Refusal
journal_of disk = on_disk journal_in disk
