use Rattle.std.proofs.Common.{◌≡◌, ◌-◌}
use Rattle.std.specs.List.{list_any, range_with_len}
use Rattle.volume_state.specs.volume_model.Volumes.{file_in, count_of}
use Rattle.image_read.specs.volume_map.Maps.{volume_in}
use Rattle.volume_mount.specs.Boot.{file_takes_first, is_taken}
use Rattle.volume_mount.proofs.boot.is_taken.Given as goal

-- some file does so where one of those that are left does
abbrev pub invariant-loop-number : goal.invariant-loop-number
invariant-loop-number l =
    list_any (λ n. file_takes_first n (file_in (volume_in l.map) n)) (range_with_len l.number (count_of (volume_in l.map) - l.number)) ≡ is_taken (volume_in l.map)
