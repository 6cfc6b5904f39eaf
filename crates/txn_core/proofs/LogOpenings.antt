-- A session is opened on a log of a disk on which nothing is unsynced.
use Rattle.std.proofs.Common.{◌+◌, refl, arith}
use Rattle.txn_laws.specs.sector_device.Disks.{seen}
use Rattle.txn_laws.specs.ring_laws.PageBytes.{page_sector, raw_page}
use Rattle.txn_laws.specs.ring_laws.RestartPages.{RestartFields, said_restart}
use Rattle.txn_laws.proofs.area_laws.Joined.{starts}
use Rattle.txn_core.specs.Openings.{LogsOpen}

pub logs_open : LogsOpen
logs_open place lap restart opens disk lies begun small two sized still before = record {
  ring = _;
  restarts = _;
  fields = fields;
  stands = starts (record { place = place; lap = lap }) restart opens fields disk lies begun small (omega (arith, two)) sized (λ k inside i few. still (page_sector place k + i)) before.laps refl before.newer before.blank before.early;
}
  where
    fields : RestartFields
    fields n = said_restart (raw_page place (seen disk) n)
