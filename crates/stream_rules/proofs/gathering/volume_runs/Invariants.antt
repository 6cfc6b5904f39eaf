use Rattle.std.proofs.Common.{◌≡◌, ◌++◌, drop}
use Rattle.std.specs.List.{flat_map}
use Rattle.volume_model.specs.Owners.{file_runs}
use Rattle.stream_rules.proofs.gathering.volume_runs.Given as goal

-- the runs so far and those of the files that are left are all
abbrev pub invariant-loop-file : goal.invariant-loop-file
invariant-loop-file l = l.runs ++ flat_map file_runs (drop l.file-index l.files) ≡ flat_map file_runs l.files
