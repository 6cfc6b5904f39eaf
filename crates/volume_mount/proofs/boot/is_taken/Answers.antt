use Rattle.std.proofs.Common.{ℕ, arith}
use Rattle.volume_state.specs.volume_model.Volumes.{file_in, count_of}
use Rattle.image_read.specs.volume_map.Maps.{volume_in}
use Rattle.volume_mount.specs.Boot.{file_takes_first, is_taken}
use Rattle.volume_mount.proofs.Booting.{any_passed}
use Rattle.volume_mount.proofs.boot.is_taken.Goals as goal

pub loop-number-preserved : goal.loop-number-preserved
loop-number-preserved c =
    any_passed (λ (n : ℕ). file_takes_first n (file_in (volume_in c.args.map.now) n)) c.loop-number.number (count_of (volume_in c.args.map.now)) c.in_ok-file_takes_first.field-0 (is_taken (volume_in c.args.map.now))
    (omega (arith, c.loop-number-test.true, c.len-number-end.ensures)) c.in_ok-file_takes_first.ensures c.if-branch.false c.loop-number.invariant
