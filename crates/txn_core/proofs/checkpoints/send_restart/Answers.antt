use Rattle.std.proofs.Common.{Some, ◌≡◌, ℕ, sym, ap, subst, ◌∙◌}
use Rattle.std.specs.Prelude.{IfSome, OnErr, unwrap_or}
use Rattle.device_blocks.specs.fixup_record.Protecting.{protected_bytes}
use Rattle.txn_laws.specs.log_page.declared.restart.Restart.{Restart}
use Rattle.txn_laws.specs.log_page.Restarts.{restart_spelling}
use Rattle.device_blocks.specs.log_area.Areas.{number_of, IsOldest, restart_sector, sent_word}
use Rattle.device_blocks.specs.log_area.Calls.{IsSentOrNot}
use Rattle.txn_laws.specs.txn_model.Values.{StoreFacts}
use Rattle.txn_laws.specs.txn_model.Calls.{front_lsn}
use Rattle.txn_state.specs.States.{facts_of}
use Rattle.txn_laws.specs.Windows.{SimulatesAs, AfterWrite}
use Rattle.txn_core.specs.Tells.{TellsFront}
use Rattle.txn_core.specs.Turns.{restart_facts}
use Rattle.txn_core.proofs.Keeping.{stands_after}
use Rattle.txn_core.proofs.AfterCalls.{restart_kept, restart_worded}
use Rattle.txn_core.proofs.Restarting.{page_is, noted_number, front_oldest, front_is, may_close, may_end, may_send, front_named, page_sent, restart_result, restart_step, restart_front}
use Rattle.txn_core.proofs.checkpoints.send_restart.Goals as goal

pub write_restart-requires-clause-synced : goal.write_restart-requires-clause-synced
write_restart-requires-clause-synced g c = c.requires.may.0.1.unnamed

pub write_restart-requires-clause-place : goal.write_restart-requires-clause-place
write_restart-requires-clause-place g c = front_named (facts_of c.args.state.now) c.requires.kept c.known.ensures c.requires.may c.args.front c.requires.front

pub write_restart-requires-clause-lap : goal.write_restart-requires-clause-lap
write_restart-requires-clause-lap g c = c.requires.may.1.lap

pub write_restart-requires-clause-again : goal.write_restart-requires-clause-again
write_restart-requires-clause-again g c = may_send (facts_of c.args.state.now) c.requires.kept c.known.ensures c.requires.may c.args.front c.requires.front c.flag_of-flag.result c.flag_of-flag.ensures.sent

pub returns-clause-facts : goal.returns-clause-facts
returns-clause-facts g c =
    let f = facts_of c.args.state.now in
    let page = page_is f c.requires.kept c.known.ensures c.requires.may in
    let front = front_is f c.requires.kept c.known.ensures c.requires.may c.args.front c.requires.front in
    let names : c.args.front ≡ front_lsn f.log (unwrap_or f.noted 0) = front ∙ ap (λ (n : ℕ). front_lsn f.log n) (sym page) in
    restart_result c.write_restart.result c.args.state.now c.write_restart.new.self c.args.front names c.write_restart.ensures.ok c.write_restart.ensures.err

pub returns-clause-page : goal.returns-clause-page
returns-clause-page g c =
    let f = facts_of c.args.state.now in
    let page = page_is f c.requires.kept c.known.ensures c.requires.may in
    let front = front_is f c.requires.kept c.known.ensures c.requires.may c.args.front c.requires.front in
    let names : c.args.front ≡ front_lsn f.log (unwrap_or f.noted 0) = front ∙ ap (λ (n : ℕ). front_lsn f.log n) (sym page) in
    let goes = page_sent f c.args.front c.args.clean c.flag_of-flag.result names c.flag_of-flag.ensures.sent c.flag_of-flag.ensures.none in
    subst (λ (r : Restart). OnErr c.write_restart.result (IfSome c.write_restart.new.self.log.sent (λ x. x.page ≡ r))) goes c.write_restart.ensures.page

pub returns-clause-sent : goal.returns-clause-sent
returns-clause-sent g c =
    let f = facts_of c.args.state.now in
    let page = page_is f c.requires.kept c.known.ensures c.requires.may in
    let front = front_is f c.requires.kept c.known.ensures c.requires.may c.args.front c.requires.front in
    let names : c.args.front ≡ front_lsn f.log (unwrap_or f.noted 0) = front ∙ ap (λ (n : ℕ). front_lsn f.log n) (sym page) in
    let goes = page_sent f c.args.front c.args.clean c.flag_of-flag.result names c.flag_of-flag.ensures.sent c.flag_of-flag.ensures.none in
    subst (λ (r : Restart). IsSentOrNot g.D.Device.gives g.D.Device.changes_of g.D.Device.moment_of (sent_word f.log.sent) (sent_word c.write_restart.new.self.log.sent) (restart_sector f.log) (protected_bytes (restart_spelling r)) c.write_restart.result c.args.device.now c.write_restart.new.device) goes c.write_restart.ensures.sent

pub returns-clause-step : goal.returns-clause-step
returns-clause-step g c =
    let f = facts_of c.args.state.now in
    let may = c.requires.may in
    let page = page_is f c.requires.kept c.known.ensures may in
    let front = front_is f c.requires.kept c.known.ensures may c.args.front c.requires.front in
    let names : c.args.front ≡ front_lsn f.log (unwrap_or f.noted 0) = front ∙ ap (λ (n : ℕ). front_lsn f.log n) (sym page) in
    let facts = restart_result c.write_restart.result c.args.state.now c.write_restart.new.self c.args.front names c.write_restart.ensures.ok c.write_restart.ensures.err in
    let goes = page_sent f c.args.front c.args.clean c.flag_of-flag.result names c.flag_of-flag.ensures.sent c.flag_of-flag.ensures.none in
    let made = subst (λ (r : Restart). OnErr c.write_restart.result (IfSome c.write_restart.new.self.log.sent (λ x. x.page ≡ r))) goes c.write_restart.ensures.page in
    let sent = subst (λ (r : Restart). IsSentOrNot g.D.Device.gives g.D.Device.changes_of g.D.Device.moment_of (sent_word f.log.sent) (sent_word c.write_restart.new.self.log.sent) (restart_sector f.log) (protected_bytes (restart_spelling r)) c.write_restart.result c.args.device.now c.write_restart.new.device) goes c.write_restart.ensures.sent in
    let end = may_end f c.requires.kept c.known.ensures may c.args.front c.requires.front in
    let close = may_close f c.requires.kept c.known.ensures may c.args.clean c.requires.last in
    let step = restart_step g.D.Device.gives g.D.Device.changes_of g.D.Device.moment_of (g.D.Device.sector_count c.args.device.now) may.0.0 c.args.clean c.args.clean f c.write_restart.result c.write_restart.new.self.log.sent c.args.device.now c.write_restart.new.device (g.met.D.Device.seen c.args.device.now) (g.met.D.Device.values c.write_restart.new.device) end close page made sent in
    subst (λ (h : StoreFacts). SimulatesAs c.args.clean (g.D.Device.sector_count c.args.device.now) (g.D.Device.moment_of c.args.device.now) (g.D.Device.changes_of c.args.device.now) (g.D.Device.changes_of c.write_restart.new.device) f h AfterWrite) (sym facts) step

pub returns-clause-stands : goal.returns-clause-stands
returns-clause-stands g c words stands =
    let f = facts_of c.args.state.now in
    let may = c.requires.may in
    let page = page_is f c.requires.kept c.known.ensures may in
    let front = front_is f c.requires.kept c.known.ensures may c.args.front c.requires.front in
    let names : c.args.front ≡ front_lsn f.log (unwrap_or f.noted 0) = front ∙ ap (λ (n : ℕ). front_lsn f.log n) (sym page) in
    let facts = restart_result c.write_restart.result c.args.state.now c.write_restart.new.self c.args.front names c.write_restart.ensures.ok c.write_restart.ensures.err in
    let goes = page_sent f c.args.front c.args.clean c.flag_of-flag.result names c.flag_of-flag.ensures.sent c.flag_of-flag.ensures.none in
    let made = subst (λ (r : Restart). OnErr c.write_restart.result (IfSome c.write_restart.new.self.log.sent (λ x. x.page ≡ r))) goes c.write_restart.ensures.page in
    let sent = subst (λ (r : Restart). IsSentOrNot g.D.Device.gives g.D.Device.changes_of g.D.Device.moment_of (sent_word f.log.sent) (sent_word c.write_restart.new.self.log.sent) (restart_sector f.log) (protected_bytes (restart_spelling r)) c.write_restart.result c.args.device.now c.write_restart.new.device) goes c.write_restart.ensures.sent in
    let end = may_end f c.requires.kept c.known.ensures may c.args.front c.requires.front in
    let close = may_close f c.requires.kept c.known.ensures may c.args.clean c.requires.last in
    let step = restart_step g.D.Device.gives g.D.Device.changes_of g.D.Device.moment_of (g.D.Device.sector_count c.args.device.now) may.0.0 c.args.clean c.args.clean f c.write_restart.result c.write_restart.new.self.log.sent c.args.device.now c.write_restart.new.device (g.met.D.Device.seen c.args.device.now) (g.met.D.Device.values c.write_restart.new.device) end close page made sent in
    stands_after (g.D.Device.sector_count c.args.device.now) (g.D.Device.sector_count c.write_restart.new.device) (g.D.Device.moment_of c.args.device.now) (g.D.Device.changes_of c.args.device.now) (g.D.Device.changes_of c.write_restart.new.device)
    c.args.state.now c.write_restart.new.self words words (restart_facts c.write_restart.result c.write_restart.new.self.log.sent f) AfterWrite c.write_restart.ensures.sectors stands facts step
    (restart_kept c.write_restart.result c.write_restart.new.self.log.sent f c.requires.kept (subst (λ (n : ℕ). IsOldest f.log (front_lsn f.log n)) (sym page) (front_oldest f c.requires.kept c.known.ensures may))
    (subst (λ (n : ℕ). f.noted ≡ Some (number_of f.log (front_lsn f.log n))) (sym page) (noted_number f c.requires.kept c.known.ensures may)))
    (λ b is. stands.worded b (restart_worded c.write_restart.result c.write_restart.new.self.log.sent f b is)) stands.fit

pub returns-clause-names : goal.returns-clause-names
returns-clause-names g c =
    let f = facts_of c.args.state.now in
    let may = c.requires.may in
    let page = page_is f c.requires.kept c.known.ensures may in
    let front = front_is f c.requires.kept c.known.ensures may c.args.front c.requires.front in
    let names : c.args.front ≡ front_lsn f.log (unwrap_or f.noted 0) = front ∙ ap (λ (n : ℕ). front_lsn f.log n) (sym page) in
    let facts = restart_result c.write_restart.result c.args.state.now c.write_restart.new.self c.args.front names c.write_restart.ensures.ok c.write_restart.ensures.err in
    let goes = page_sent f c.args.front c.args.clean c.flag_of-flag.result names c.flag_of-flag.ensures.sent c.flag_of-flag.ensures.none in
    let made = subst (λ (r : Restart). OnErr c.write_restart.result (IfSome c.write_restart.new.self.log.sent (λ x. x.page ≡ r))) goes c.write_restart.ensures.page in
    let end = may_end f c.requires.kept c.known.ensures may c.args.front c.requires.front in
    subst (λ (h : StoreFacts). TellsFront h.log h.noted c.args.front) (sym facts)
    (restart_front f may.0.0 c.args.clean c.write_restart.result c.write_restart.new.self.log.sent c.args.front end page front made c.requires.front)
