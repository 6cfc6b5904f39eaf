use Rattle.std.proofs.Common.{◌≡◌, ◌+◌, ◌^◌, ◌<◌, ◌≤◌}
use Rattle.std.specs.Prelude.{All, IfSome}
use Rattle.log_page.specs.log_model.Entries.{FitsEntry}
use Rattle.block_view.specs.Views.{KeepsView}
use Rattle.log_reading.proofs.Walks.{IsRead}
use Rattle.log_reading.proofs.live.append_live.Given as goal

-- the entries so far, and those of the pages that are left, are the live log
abbrev pub invariant-loop-passed : goal.invariant-loop-passed
invariant-loop-passed g l = record {
  read : IfSome (g.V.View.content l.initial.view) (λ c. IsRead c l.place l.oldest l._passed l.at.lap l.at.page l.at.from l.entries.items);
  fits : All FitsEntry l.entries.items;
  kept : KeepsView g.V.View.content g.V.View.kept g.V.View.faults l.initial.view l.view;
  counted : g.V.View.faults l.view ≡ g.V.View.faults l.initial.view;
  begun : 4 ≤ l.at.page;
  inside : l.at.page < l.place.pages;
  place : 0x40 ≤ l.at.from;
  near : l.at.from ≤ 4096;
  low : l.at.lap < 2 ^ 63 + l._passed;
}
