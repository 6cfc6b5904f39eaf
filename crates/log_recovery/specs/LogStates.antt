-- What recovery makes of a log, or its first refusal: the version and the restart pages, then another host's client, then the
-- entries, then the blocks, then the lap.
use Rattle.std.specs.Prelude.{ℕ, ◌≡◌, ◌+◌, ◌^◌, nat_lt, Bool, if◌then◌else◌, List, [], Option, Some, None, unwrap_or, Result, Ok, Err}
use Rattle.std.specs.Option.{option_or}
use Rattle.host_base.specs.Answers.{◌>>=◌, needs, ExplainsOrFails}
use Rattle.log_reading.specs.disk_model.Content.{Content}
use Rattle.log_model.specs.declared.entry.Entry.{Entry}
use Rattle.log_model.specs.Logs.{first_misplaced, first_partial}
use Rattle.log_reading.specs.log_page.declared.restart.Restart.{Restart}
use Rattle.log_reading.specs.log_page.declared.places.LogPlace.{LogPlace}
use Rattle.log_reading.specs.log_page.Places.{sequence_bits}
use Rattle.log_reading.specs.log_page.Restarts.{is_clean}
use Rattle.log_reading.specs.log_page.RecordPages.{Reading}
use Rattle.log_reading.specs.log_page.LiveLogs.{live_log, greatest_lsn, lap_above}
use Rattle.log_reading.specs.declared.fault.LogRefusal.{LogRefusal}
use Rattle.log_reading.specs.declared.fault.RecoveryFault.{RecoveryFault}
use Rattle.log_reading.specs.declared.fault.LogRefusal.TheVariants.{ForeignLog}
use Rattle.log_reading.specs.declared.front.RestartFront.{RestartFront}
use Rattle.log_reading.specs.Views.{recovery_cause}
use Rattle.log_reading.specs.LogPages.{page_in}
use Rattle.log_reading.specs.Fronts.{front_in}
use Rattle.log_recovery.specs.declared.whole.Recovered.{Recovered}
use Rattle.log_recovery.specs.Recovering.{AreRecovered}

-- the entries, or the LSN of one that is refused
abbrev pub all_or_refused : Option ℕ → List Entry → Result (List Entry) LogRefusal
all_or_refused (Some lsn) entries = Err (ForeignLog lsn)
all_or_refused None entries = Ok entries

-- the entries that were read, on a volume of so many clusters; the first that is misplaced is refused, and else the one of another shape after them
abbrev pub own_entries : Reading → ℕ → Result (List Entry) LogRefusal
own_entries reading clusters = all_or_refused (option_or (first_misplaced reading.entries clusters) reading.foreign) reading.entries

-- the entries of a log with this restart page, from its oldest place on; none where the log is clean
unfoldable pub entries_by : Content → LogPlace → Restart → Result (List Entry) LogRefusal
entries_by c place r =
    if is_clean r then Ok []
    else (needs r.own (ForeignLog r.current) >>= λ _. own_entries (live_log place.pages (page_in c place) r.oldest) place.clusters)

-- the same where none was chosen, as in an emptied log
abbrev pub live_entries_in : Content → LogPlace → Option Restart → Result (List Entry) LogRefusal
live_entries_in c place (Some r) = entries_by c place r
live_entries_in c place None = Ok []

-- they are refused where a block is recovered in part
abbrev pub whole_entries : Content → List Entry → Result (List Entry) LogRefusal
whole_entries c log = all_or_refused (first_partial c log) log

-- 2^16 laps are left from this one on
abbrev pub has_lap : ℕ → ℕ → Bool
has_lap pages lap = nat_lt (lap + 2 ^ 16) (2 ^ sequence_bits pages)

-- a new session's first lap above the greatest LSN, or this LSN where too few laps are left
unfoldable pub lap_by : ℕ → Option ℕ → Result ℕ LogRefusal
lap_by pages greatest = needs (has_lap pages (lap_above pages greatest)) (ForeignLog (unwrap_or greatest 0)) >>= λ _. Ok (lap_above pages greatest)

unfoldable pub lap_in : Content → LogPlace → Option Restart → Result ℕ LogRefusal
lap_in c place chosen = lap_by place.pages (greatest_lsn place.pages (page_in c place) chosen)

-- a log that isn't refused for its restart pages, its client, its entries or a block: the entries, and what the restart pages say
pub record FoundLog : Type 0 where
  pub log : List Entry
  pub front : RestartFront

unfoldable pub log_in : Content → LogPlace → Result FoundLog LogRefusal
log_in c place =
    front_in (page_in c place 0) (page_in c place 1)
    >>= λ front. live_entries_in c place front.chosen
    >>= λ entries. whole_entries c entries
    >>= λ log. Ok (record { log = log; front = front })

-- one that isn't refused for its laps either: its entries, a new session's first lap, and where its next restart page goes, with its open count
pub record LogState : Type 0 where
  pub log : List Entry
  pub next_lap : ℕ
  pub restart : ℕ
  pub opens : ℕ

unfoldable pub recovery_in : Content → LogPlace → Result LogState LogRefusal
recovery_in c place =
    log_in c place
    >>= λ found. lap_in c place found.front.chosen
    >>= λ lap. Ok (record { log = found.log; next_lap = lap; restart = found.front.restart; opens = found.front.opens })

-- ---- what is answered

-- what was found is what the log says
pub record IsRecovered (c : Content) (state : LogState) (found : Recovered) : Type 0 where
  pub blocks : AreRecovered c state.log found.blocks
  pub next_lap : found.next_lap ≡ state.next_lap
  pub restart : found.restart ≡ state.restart
  pub opens : found.opens ≡ state.opens

abbrev pub IsRecoveredBy : Content → Result LogState LogRefusal → Recovered → Type 0
IsRecoveredBy c (Ok state) found = IsRecovered c state found
IsRecoveredBy c (Err e) found = ⊥

-- a recovered log, or the refusal that is meant
abbrev pub RecoversLog : Content → Result LogState LogRefusal → Result Recovered RecoveryFault → Type 0
RecoversLog c meant (Ok found) = IsRecoveredBy c meant found
RecoversLog c meant (Err e) = ExplainsOrFails (recovery_cause e) meant
