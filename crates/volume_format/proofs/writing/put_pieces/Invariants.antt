use Rattle.std.proofs.Common.{◌≡◌, ◌+◌, ◌*◌, [], ◌∷◌}
use Rattle.sector_device.specs.Moments.{Begins}
use Rattle.volume_format.specs.Images.{Puts}
use Rattle.volume_format.specs.Fillings.{filling_bytes}
use Rattle.volume_format.specs.Crashing.{StaysFrom}
use Rattle.volume_format.proofs.writing.put_pieces.Given as goal

abbrev pub invariant-loop-piece : goal.invariant-loop-piece
invariant-loop-piece g l = record {
  image : Puts (record { cluster = l.cluster; bytes = filling_bytes l.filling 0 (65536 * l.piece) } ∷ []) (g.D.Device.gives l.initial.device) (g.D.Device.gives l.device);
  sectors : g.D.Device.sector_count l.device ≡ g.D.Device.sector_count l.initial.device;
  moment : g.D.Device.moment_of l.device ≡ g.D.Device.moment_of l.initial.device + 2 * l.piece;
  changes : Begins l.piece 0 (g.D.Device.changes_of l.initial.device) (g.D.Device.changes_of l.device);
  above : StaysFrom (8 * l.cluster + 128 * l.count) (g.D.Device.moment_of l.initial.device) (g.D.Device.changes_of l.initial.device) (g.D.Device.changes_of l.device);
  counted : g.D.Device.fault_count l.device ≡ g.D.Device.fault_count l.initial.device;
}
