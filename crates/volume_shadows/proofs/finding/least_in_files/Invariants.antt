use Rattle.std.proofs.Common.{◌≡◌, ◌-◌}
use Rattle.std.specs.List.{range_with_len}
use Rattle.state_model.specs.Files.{file_at}
use Rattle.state_model.specs.Loads.{table_in}
use Rattle.volume_shadows.specs.Least.{lesser, least_of}
use Rattle.volume_shadows.specs.Live.{file_blocks, least_lsn}
use Rattle.volume_shadows.proofs.finding.least_in_files.Given as goal

-- the least so far and those of the files that are left are all
abbrev pub invariant-loop-number : goal.invariant-loop-number
invariant-loop-number l =
    lesser l.least (least_of (λ n. least_of (least_lsn l.sorted) (file_blocks l.per n (file_at (table_in l.files) n))) (range_with_len l.number (l.count - l.number)))
    ≡ least_of (λ n. least_of (least_lsn l.sorted) (file_blocks l.per n (file_at (table_in l.files) n))) (range_with_len 0 l.count)
