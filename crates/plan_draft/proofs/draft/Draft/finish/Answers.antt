use Rattle.std.proofs.Common.{◌≡◌, ℕ, true, List, sym, ap, subst, ◌∙◌}
use Rattle.std.specs.Prelude.{All, IfSome}
use Rattle.plan_bodies.specs.disk_model.declared.block.Change.{Change}
use Rattle.plan_bodies.specs.disk_model.Content.{Content}
use Rattle.block_view.specs.Changes.{Fits, content_after}
use Rattle.plan_draft.specs.Touching.{rises}
use Rattle.plan_draft.specs.Drafts.{drafted}
use Rattle.plan_draft.specs.Finishing.{changes_of, change_keys, WasOld}
use Rattle.plan_draft.proofs.Finished.{if_ok, fits, in_order, old_known, finished_known}
use Rattle.plan_draft.proofs.draft.Draft.finish.Goals as goal

pub returns-clause-fits : goal.returns-clause-fits
returns-clause-fits g c =
    let d = c.args.self.now in
    if_ok c.changes_of.result (λ changes. changes.items ≡ changes_of c.deref.result.now) (λ changes. All Fits changes.items)
    (λ changes is. subst (λ (l : List Change). All Fits l) (sym (is ∙ ap changes_of c.deref.ensures.value)) (fits d.touched.items d.whole)) c.changes_of.ensures

pub returns-clause-in_order : goal.returns-clause-in_order
returns-clause-in_order g c =
    let d = c.args.self.now in
    if_ok c.changes_of.result (λ changes. changes.items ≡ changes_of c.deref.result.now) (λ changes. rises 0 (change_keys changes.items) ≡ true)
    (λ changes is. subst (λ (l : List Change). rises 0 (change_keys l) ≡ true) (sym (is ∙ ap changes_of c.deref.ensures.value)) (in_order 0 d.touched.items d.rises)) c.changes_of.ensures

pub returns-clause-olds : goal.returns-clause-olds
returns-clause-olds g c =
    let d = c.args.self.now in
    if_ok c.changes_of.result (λ changes. changes.items ≡ changes_of c.deref.result.now) (λ changes. IfSome (g.V.View.content d.view.now) (λ x. All (WasOld x) changes.items))
    (λ changes is. old_known (g.V.View.content d.view.now) d.touched.items changes.items d.whole d.olds (is ∙ ap changes_of c.deref.ensures.value)) c.changes_of.ensures

pub returns-clause-content : goal.returns-clause-content
returns-clause-content g c =
    let d = c.args.self.now in
    if_ok c.changes_of.result (λ changes. changes.items ≡ changes_of c.deref.result.now) (λ changes. IfSome (g.V.View.content d.view.now) (λ x. content_after changes.items x ≡ drafted d.touched.items x))
    (λ changes is. finished_known (g.V.View.content d.view.now) d.touched.items changes.items (g.met.V.View.sized d.view.now) d.rises d.whole d.olds (is ∙ ap changes_of c.deref.ensures.value)) c.changes_of.ensures
