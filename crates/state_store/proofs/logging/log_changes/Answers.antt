use Rattle.std.proofs.Common.{◌∙◌, ap, sym, subst}
use Rattle.std.proofs.lemmas.List.Elements.{recursion_from_All}
use Rattle.turn_laws.specs.txn_model.Values.{StoreFacts}
use Rattle.turn_laws.specs.txn_state.States.{facts_of}
use Rattle.state_store.specs.Changes.{MayLog}
use Rattle.state_store.specs.Logging.{MayLogAll}
use Rattle.state_store.proofs.Contents.{still_open}
use Rattle.state_store.proofs.Logged.{may_log_begun}
use Rattle.state_store.proofs.Windowed.{put_by, stays_by}
use Rattle.state_store.proofs.logging.log_changes.Goals as goal

pub change_all-requires : goal.change_all-requires
change_all-requires g c = record {
  may = subst (λ (d : g.row.D.Denot). MayLogAll (g.D.Device.gives d) (facts_of c.begin.new.self.state) c.args.changes.now) (sym c.begin.ensures.device)
      (subst (λ (h : StoreFacts). MayLogAll (g.D.Device.gives c.args.store.now.device) h c.args.changes.now) (sym c.begin.ensures.facts)
      (may_log_begun (g.D.Device.gives c.args.store.now.device) (facts_of c.args.store.now.state) c.args.changes.now (c.known.ensures.shut c.requires.closed)
      (recursion_from_All (MayLog (facts_of c.args.store.now.state)) c.args.changes.now c.requires.each) c.requires.apart c.requires.spelled c.requires.room));
}

pub returns-in-Err-clause-windows : goal.returns-in-Err-clause-windows
returns-in-Err-clause-windows g c =
    stays_by g.D.Device.sector_count g.D.Device.moment_of g.D.Device.changes_of c.args.changes.now c.args.store.now c.begin.new.self c.change_all.new.store c.requires.closed c.begin.ensures.device c.begin.ensures.step c.in-Err.ensures.windows

pub commit-requires-clause-opened : goal.commit-requires-clause-opened
commit-requires-clause-opened g c =
    still_open _ c.args.changes.now (facts_of c.begin.new.self.state) (facts_of c.change_all.new.store.state) c.in-Ok.ensures.done ∙ ap (λ (h : StoreFacts). h.is_open) c.begin.ensures.facts

pub commit-requires-clause-room : goal.commit-requires-clause-room
commit-requires-clause-room g c =
    let f = facts_of c.change_all.new.store.state in
    (c.pages_are_enough.ensures.commit f.log (λ b. (f.mark b).imaged) f.tx f.last c.in-Ok.ensures.room).0

pub returns-clause-windows : goal.returns-clause-windows
returns-clause-windows g c =
    put_by g.D.Device.sector_count g.D.Device.moment_of g.D.Device.changes_of c.args.changes.now c.args.store.now c.begin.new.self c.change_all.new.store c.commit.new.self c.begin.ensures.device c.in-Ok.ensures.changes c.commit.ensures.device
    c.begin.ensures.step c.in-Ok.ensures.windows c.commit.ensures.step
