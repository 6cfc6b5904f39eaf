use Rattle.safe_blocks.proofs.Starting.{suits, geometry, stands, holds, holds_mounted, holds_disk}
use Rattle.safe_blocks.proofs.laws.mounts_hold_states.Goals as goal

pub returns : goal.returns
returns c =
    let by_record = c.mounted_by_record.ensures in
    let on_ring = c.mounted_on_ring.ensures in
    let passes = c.mounted_passes.ensures in
    record {
      suits = suits by_record on_ring passes;
      geometry = geometry by_record on_ring passes;
      stands = stands by_record on_ring passes;
      content = holds by_record on_ring passes;
      mounted = holds_mounted by_record on_ring passes;
      sectors = holds_disk by_record on_ring passes;
    }
