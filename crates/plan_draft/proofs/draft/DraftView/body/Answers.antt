use Rattle.std.proofs.Common.{◌≡◌, rules, false, List, ℕ, ap, sym, ◌∙◌}
use Rattle.plan_bodies.specs.disk_model.Bodies.{BodyOf}
use Rattle.plan_draft.proofs.Touching.{body_found, body_kept, on_ok}
use Rattle.plan_draft.proofs.draft.DraftView.body.Goals as goal

pub returns-in-Some-clause-body : goal.returns-in-Some-clause-body
returns-in-Some-clause-body g c =
    let d = c.args.self.now in
    body_found (g.V.View.content d.view.now) d.touched.items c.args.block c.in-Some.touched.now c.set.new.self (g.met.V.View.sized d.view.now) d.rises d.whole
    (search rules)
    (search rules)

pub returns-in-None-clause-body : goal.returns-in-None-clause-body
returns-in-None-clause-body g c =
    let d = c.args.self.now in
    on_ok c.body.result _ _ (body_kept (g.V.View.content d.view.now) d.touched.items c.args.block c.body.new.out (g.met.V.View.sized d.view.now) d.rises d.whole (search rules)) c.body.ensures.body
