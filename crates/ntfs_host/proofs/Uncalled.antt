-- What is promised where memory is wanting before anything was called.
use Rattle.std.proofs.Common.{ℕ, ◌*◌, List, Option, refl, inl}
use Rattle.sector_device.specs.Disks.{AreOver}
use Rattle.sector_device.specs.Moments.{Changes}
use Rattle.volume_format.specs.Layouts.{layout_of, used_clusters}
use Rattle.volume_format.proofs.Crashing.{none_stays, stays_left}
use Rattle.volume_format.proofs.Stopping.{keeps_all}
use Rattle.ntfs_host.specs.declared.command.Quiet.TheVariants.{Scan, Dump, Check, Journal, Format}
use Rattle.ntfs_host.specs.declared.command.Asked.{Asked}
use Rattle.ntfs_host.specs.declared.command.Asked.TheVariants.{Quietly, Run, NoLine}
use Rattle.ntfs_host.specs.Runs.{IsOnlyRead}
use Rattle.ntfs_host.specs.Outcomes.{Formats, LeavesBy, LeavesDevice}

same : {D : Type 0} (gives : D → Option (List (List ℕ))) (changes_of : D → Changes) (d : D) → IsOnlyRead gives changes_of d d
same gives changes_of d = record { same = refl; unchanged = refl }

unformatted : {D : Type 0} (seed time : ℕ) (sector_count : D → ℕ) (gives : D → Option (List (List ℕ))) (moment_of : D → ℕ) (changes_of : D → Changes) (d : D)
    → AreOver (moment_of d) (changes_of d).past → Formats seed time 6 sector_count gives moment_of changes_of d d
unformatted seed time sector_count gives moment_of changes_of d over = record {
  done = λ e. absurd cc;
  refused = λ e. absurd cc;
  untold = λ e. inl (same gives changes_of d);
  part = λ e. absurd cc;
  unfit = λ e. same gives changes_of d;
  stopped = λ e. absurd cc;
  rest = keeps_all (layout_of (sector_count d)) (gives d);
  rest_left = stays_left (layout_of (sector_count d)) (sector_count d) (moment_of d) (changes_of d) (changes_of d) over (none_stays (8 * used_clusters (layout_of (sector_count d))) (moment_of d) (changes_of d));
}

by_asked : {D : Type 0} (asked : Asked) (sector_count : D → ℕ) (gives : D → Option (List (List ℕ))) (moment_of : D → ℕ) (changes_of : D → Changes) (d : D)
    → AreOver (moment_of d) (changes_of d).past → LeavesBy asked 6 sector_count gives moment_of changes_of d d
by_asked (Quietly Scan) sector_count gives moment_of changes_of d over = same gives changes_of d
by_asked (Quietly Dump) sector_count gives moment_of changes_of d over = same gives changes_of d
by_asked (Quietly Check) sector_count gives moment_of changes_of d over = same gives changes_of d
by_asked (Quietly Journal) sector_count gives moment_of changes_of d over = same gives changes_of d
by_asked (Quietly (Format seed time)) sector_count gives moment_of changes_of d over = unformatted seed time sector_count gives moment_of changes_of d over
by_asked (Run time) sector_count gives moment_of changes_of d over = record { unread = λ e. same gives changes_of d; refused = λ e. absurd cc }
by_asked NoLine sector_count gives moment_of changes_of d over = same gives changes_of d

pub uncalled : {D : Type 0} (asked : Asked) (sector_count : D → ℕ) (gives : D → Option (List (List ℕ))) (moment_of : D → ℕ) (changes_of : D → Changes) (d : D)
    → AreOver (moment_of d) (changes_of d).past → LeavesDevice asked 6 sector_count gives moment_of changes_of d d
uncalled asked sector_count gives moment_of changes_of d over = record { device = by_asked asked sector_count gives moment_of changes_of d over; sectors = refl }
