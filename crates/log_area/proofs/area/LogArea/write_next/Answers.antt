use Rattle.std.proofs.Common.{ℕ, Option, Ok, ◌∙◌, ap, subst}
use Rattle.log_reading.specs.fixup_record.Protecting.{protected_bytes}
use Rattle.log_area.specs.Areas.{LogAreaOf, page_sector, held_page, made_page}
use Rattle.log_area.specs.Calls.{IsCheckOf, Sends, sending_moment}
use Rattle.log_area.proofs.Behind.{sends_behind}
use Rattle.log_area.proofs.area.LogArea.write_next.Goals as goal

pub returns-clause-sent : goal.returns-clause-sent
returns-clause-sent g c =
    let v = c.self.view_is in
    let old = c.args.device.now in
    let word = c.in_ok-check.check in
    let kept = ap (λ (a : LogAreaOf). a.check) v in
    record {
      sent = (
        word,
        record {
          chosen = subst (λ (f : ℕ). IsCheckOf c.args.self.now.check (g.D.Device.gives old) f word) (c.page_sector-first.ensures.value ∙ ap (λ (a : LogAreaOf). page_sector c.args.self.now a.done) v)
              (subst (λ (k : Option ℕ). IsCheckOf k (g.D.Device.gives old) c.page_sector-first.result word) kept c.in_ok-check.ensures.chosen);
          sends = subst (λ (a : LogAreaOf). Sends g.D.Device.gives g.D.Device.changes_of g.D.Device.moment_of (sending_moment a.check (g.D.Device.moment_of old)) (page_sector a a.done)
              (protected_bytes (made_page (held_page a a.done)) word) (Ok tt) old c.send_next.new.device) v
              (sends_behind _ _ _ _ _ _ _ _ _ _ c.in_ok-check.ensures.same c.in_ok-check.ensures.unchanged c.in_ok-check.ensures.moment c.in_ok-send_next.ensures.sends);
        },
      );
      failed = tt;
    }
