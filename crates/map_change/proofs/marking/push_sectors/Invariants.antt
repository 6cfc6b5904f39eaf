use Rattle.std.proofs.Common.{◌≡◌, take, length}
use Rattle.std.specs.Prelude.{IfSome}
use Rattle.bit_set.specs.Words.{byte_bit}
use Rattle.volume_map.specs.state_model.Streams.{stream_bytes}
use Rattle.volume_map.specs.block_view.Views.{KeepsView}
use Rattle.map_change.specs.Reading.{TellBits}
use Rattle.map_change.proofs.marking.push_sectors.Given as goal

abbrev pub invariant-loop-sector : goal.invariant-loop-sector
invariant-loop-sector g l = record {
  tell : IfSome (g.V.View.content l.initial.view) (λ d. TellBits (byte_bit (stream_bytes d l.per l.stream)) l.count (take l.sector-index l.sectors) l.runs.items);
  kept : KeepsView g.V.View.content g.V.View.kept g.V.View.faults l.initial.view l.view;
  counted : g.V.View.faults l.view ≡ g.V.View.faults l.initial.view;
  room : length l.room ≡ 512;
}
