use Rattle.std.proofs.Common.{◌≡◌, ℕ, List, [], Err, true, false, sym, ap, ◌∙◌}
use Rattle.std.proofs.lemmas.Result.{err_from_is_err_and}
use Rattle.index_plan.specs.Lists.{own_key}
use Rattle.index_tree.specs.Places.{place_of}
use Rattle.index_change.specs.Orders.{link_of, has_link}
use Rattle.record_model.specs.disk_model.Content.{Content}
use Rattle.index_tree.specs.file_tree.declared.link.Link.{Link}
use Rattle.index_tree.specs.index_model.Walks.{find_of}
use Rattle.index_change.proofs.Insertions.{link_known}
use Rattle.index_tree.specs.declared.fault.TreeFault.TheVariants.{Absent}
use Rattle.index_change.specs.declared.plan.DirPlan.{DirPlan}
use Rattle.index_change.proofs.Searches.{search_stopped, search_passed}
use Rattle.index_change.proofs.Removings.{not_found, has_known, remove_known}
use Rattle.index_change.proofs.removing.plan_remove.Goals as goal

pub returns-in_err-links-clause-value : goal.returns-in_err-links-clause-value
returns-in_err-links-clause-value g c =
    let d = c.args.dir.now in
    let l = link_known c.args.key.now _ c.in-Some.link c.requires.name c.in_ok-link.ensures c.in-Some.is in
    let p = err_from_is_err_and c.from_residual-in_err-links.result c.from_residual-in_err-links.ensures.1 in
    rw (p.1, p.2) (not_found (place_of d) c.args.up.now d.root d.used (link_of (own_key c.args.key.now)) c.args.fresh.now [] _ c.in-Some.link _ l c.in_err-links.ensures.found)

pub returns-then-not-has_link-clause-value : goal.returns-then-not-has_link-clause-value
returns-then-not-has_link-clause-value g c =
    let d = c.args.dir.now in
    let l = link_known c.args.key.now _ c.in-Some.link c.requires.name c.in_ok-link.ensures c.in-Some.is in
    let none : c.has_link.result ≡ false = c.if-not-has_link.true in
    has_known (place_of d) c.args.up.now d.root d.used (link_of (own_key c.args.key.now)) c.args.fresh.now [] _ c.in-Some.link c.in_ok-links.links false l (ap (has_link c.in-Some.link) (sym c.as_slice.ensures) ∙ sym c.has_link.ensures ∙ none) c.in_ok-links.ensures.found

pub returns-clause-value : goal.returns-clause-value
returns-clause-value g c =
    let d = c.args.dir.now in
    let l = link_known c.args.key.now _ c.in-Some.link c.requires.name c.in_ok-link.ensures c.in-Some.is in
    let some : c.has_link.result ≡ true = c.if-not-has_link.false in
    remove_known (place_of d) c.args.up.now d.root d.used (link_of (own_key c.args.key.now)) c.args.fresh.now c.in_ok-root.root _ _ c.in-Some.link c.take_away.result c.in_ok-links.ensures.same l
    (has_known (place_of d) c.args.up.now d.root d.used (link_of (own_key c.args.key.now)) c.args.fresh.now c.in_ok-root.root _ c.in-Some.link c.in_ok-links.links true l (ap (has_link c.in-Some.link) (sym c.as_slice.ensures) ∙ sym c.has_link.ensures ∙ some) c.in_ok-links.ensures.found) c.take_away.ensures.value

pub returns-in_err-links-clause-search : goal.returns-in_err-links-clause-search
returns-in_err-links-clause-search g c =
    let l = ap (λ (k : Link). k.name) (link_known c.args.key.now _ c.in-Some.link c.requires.name c.in_ok-link.ensures c.in-Some.is) in
    let p = err_from_is_err_and c.from_residual-in_err-links.result c.from_residual-in_err-links.ensures.1 in
    rw (p.1, p.2) (search_stopped DirPlan (g.V.View.content c.args.v.now) (λ (x : Content) (n : List ℕ). find_of x (place_of c.args.dir.now) c.args.up.now n c.args.dir.now.root) c.in-Some.link.name (link_of (own_key c.args.key.now)).name c.in_err-links.field-0.0 l c.in_err-links.ensures.value)

pub returns-then-not-has_link-clause-search : goal.returns-then-not-has_link-clause-search
returns-then-not-has_link-clause-search g c =
    let l = ap (λ (k : Link). k.name) (link_known c.args.key.now _ c.in-Some.link c.requires.name c.in_ok-link.ensures c.in-Some.is) in
    search_passed {T = DirPlan} (g.V.View.content c.args.v.now) (Err Absent) (λ (x : Content) (n : List ℕ). find_of x (place_of c.args.dir.now) c.args.up.now n c.args.dir.now.root) c.in-Some.link.name (link_of (own_key c.args.key.now)).name c.in_ok-links.links l c.in_ok-links.ensures.value

pub returns-clause-search : goal.returns-clause-search
returns-clause-search g c =
    let l = ap (λ (k : Link). k.name) (link_known c.args.key.now _ c.in-Some.link c.requires.name c.in_ok-link.ensures c.in-Some.is) in
    search_passed (g.V.View.content c.args.v.now) c.take_away.result (λ (x : Content) (n : List ℕ). find_of x (place_of c.args.dir.now) c.args.up.now n c.args.dir.now.root) c.in-Some.link.name (link_of (own_key c.args.key.now)).name c.in_ok-links.links l c.in_ok-links.ensures.value
