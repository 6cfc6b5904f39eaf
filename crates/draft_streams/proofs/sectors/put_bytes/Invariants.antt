use Rattle.std.proofs.Common.{◌≡◌, ◌-◌}
use Rattle.std.specs.Prelude.{IfSome}
use Rattle.stream_map.specs.block_view.Views.{KeepsView}
use Rattle.draft_streams.specs.Parts.{touch_sectors, first_sector}
use Rattle.draft_streams.proofs.sectors.put_bytes.Given as goal

-- the sectors so far are put
abbrev pub invariant-loop-sector : goal.invariant-loop-sector
invariant-loop-sector g l = record {
  put : IfSome (g.V.View.content l.initial.draft.view.now) (λ c. l.draft.touched.items ≡ touch_sectors c l.per l.runs l.fresh l.at l.bytes (first_sector l.at) (l.sector - first_sector l.at) l.initial.draft.touched.items);
  kept : KeepsView g.V.View.content g.V.View.kept g.V.View.faults l.initial.draft.view.now l.draft.view.now;
  counted : g.V.View.faults l.draft.view.now ≡ g.V.View.faults l.initial.draft.view.now;
  reference : l.draft.view.ghost_name ≡ l.initial.draft.view.ghost_name;
}
