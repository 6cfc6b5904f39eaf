use Rattle.std.proofs.Common.{rules, ◌≡◌, ℕ, ◌*◌, Bool, true, false, length, sym, ap, ◌∙◌}
use Rattle.std.specs.Prelude.{is_some}
use Rattle.plan_bodies.specs.disk_model.Bodies.{BodyOf}
use Rattle.plan_bodies.specs.disk_model.Bytes.{zeros}
use Rattle.plan_bodies.specs.disk_model.Sectors.{sectors}
use Rattle.plan_draft.specs.Touching.{touched_at}
use Rattle.plan_draft.proofs.Touching.{on_ok}
use Rattle.plan_draft.proofs.Parts.{present_fresh, present_read, zeros_long}
use Rattle.plan_draft.proofs.draft.Draft.present.Goals as goal
use Rattle.plan_draft.proofs.draft.Draft.present.Goals.{else-fresh-via-then-fresh+else-not-is_touched, else-fresh-via-else-fresh}

pub returns-then-not-is_touched-clause-bytes : goal.returns-then-not-is_touched-clause-bytes
returns-then-not-is_touched-clause-bytes g c =
    let d = c.args.self.now in
    let none : is_some (touched_at d.touched.items c.args.block) ≡ false = search rules in
    let is : c.set_zeros.new.self.bytes ≡ zeros (512 * sectors c.args.block.kind) = ap (λ (x : BodyOf). x.bytes) c.set_zeros.ensures ∙ ap (λ (n : ℕ). zeros (512 * n)) c.sectors.ensures in
    present_fresh (g.V.View.content d.view.now) d.touched.items c.args.block c.args.fresh c.set_zeros.new.self.bytes c.if-fresh.true none is

pub returns-then-not-is_touched-clause-size : goal.returns-then-not-is_touched-clause-size
returns-then-not-is_touched-clause-size g c =
    let is : c.set_zeros.new.self.bytes ≡ zeros (512 * sectors c.args.block.kind) = ap (λ (x : BodyOf). x.bytes) c.set_zeros.ensures ∙ ap (λ (n : ℕ). zeros (512 * n)) c.sectors.ensures in
    ap length is ∙ zeros_long (512 * sectors c.args.block.kind)

pub returns-clause-bytes : goal.returns-clause-bytes
returns-clause-bytes g c =
    let d = c.args.self.now in
    let some : c.args.fresh ≡ true → is_some (touched_at d.touched.items c.args.block) ≡ true = elim c.else-fresh.branch [
      | else-fresh-via-then-fresh+else-not-is_touched w ↦ λ f. search rules
      | else-fresh-via-else-fresh w ↦ λ f. (let clash : true ≡ false = sym f ∙ w.if-fresh.false in absurd cc)
    ] in
    on_ok c.body.result _ _ (present_read (g.V.View.content d.view.now) d.touched.items c.args.block c.args.fresh c.body.new.out (g.met.V.View.sized d.view.now) d.rises d.whole some) c.body.ensures.body
