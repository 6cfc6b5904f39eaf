use Rattle.std.proofs.Common.{ℕ, List, Err, true, false, sym, ap, ◌∙◌}
use Rattle.std.specs.List.{list_any}
use Rattle.std.proofs.lemmas.Result.{err_from_is_err_and}
use Rattle.index_tree.specs.file_tree.declared.link.Link.{Link}
use Rattle.index_plan.specs.Lists.{own_key}
use Rattle.record_model.specs.disk_model.Content.{Content}
use Rattle.index_tree.specs.index_model.Walks.{find_of}
use Rattle.index_change.specs.Orders.{names_file, link_of}
use Rattle.index_tree.specs.Places.{place_of}
use Rattle.index_change.proofs.Insertions.{link_known, not_found, has_known, insert_known}
use Rattle.index_tree.specs.declared.fault.TreeFault.TheVariants.{Present}
use Rattle.index_change.specs.declared.nodes_plan.NodesPlan.{NodesPlan}
use Rattle.index_change.proofs.Searches.{search_stopped, search_passed}
use Rattle.index_change.proofs.inserting.plan_nodes.Goals as goal

pub returns-in_err-links-clause-value : goal.returns-in_err-links-clause-value
returns-in_err-links-clause-value g c =
    let l = link_known c.args.key.now _ c.in-Some.link c.requires.name c.in_ok-link.ensures c.in-Some.is in
    let p = err_from_is_err_and c.from_residual-in_err-links.result c.from_residual-in_err-links.ensures.1 in
    rw (p.1, p.2) (not_found (place_of c.args.dir.now) c.args.up.now c.args.dir.now.root c.in-Some.link.name c.args.dir.now.used (own_key c.args.key.now) c.args.fresh.now (ap (λ (k : Link). k.name) l) _ _ c.in_err-links.ensures.found)

pub returns-then-names_file-clause-value : goal.returns-then-names_file-clause-value
returns-then-names_file-clause-value g c =
    let l = link_known c.args.key.now _ c.in-Some.link c.requires.name c.in_ok-link.ensures c.in-Some.is in
    has_known (place_of c.args.dir.now) c.args.up.now c.args.dir.now.root c.in-Some.link.name c.args.dir.now.used (own_key c.args.key.now) c.args.fresh.now (ap (λ (k : Link). k.name) l) _ c.in_ok-links.links true (ap (list_any (names_file c.args.key.now.child)) (sym c.as_slice.ensures) ∙ sym c.names_file.ensures ∙ c.if-names_file.true) c.in_ok-links.ensures.found

pub put_in-requires-clause-name : goal.put_in-requires-clause-name
put_in-requires-clause-name g c =
    let l = link_known c.args.key.now _ c.in-Some.link c.requires.name c.in_ok-link.ensures c.in-Some.is in
    c.units.ensures.value ∙ ap (λ (k : Link). k.name) l

pub returns-clause-value : goal.returns-clause-value
returns-clause-value g c =
    let l = link_known c.args.key.now _ c.in-Some.link c.requires.name c.in_ok-link.ensures c.in-Some.is in
    insert_known (place_of c.args.dir.now) c.args.up.now c.args.dir.now.root c.in-Some.link.name c.args.dir.now.used (own_key c.args.key.now) c.args.fresh.now (ap (λ (k : Link). k.name) l) _ _ c.put_in.result c.in_ok-links.ensures.same
    (has_known (place_of c.args.dir.now) c.args.up.now c.args.dir.now.root c.in-Some.link.name c.args.dir.now.used (own_key c.args.key.now) c.args.fresh.now (ap (λ (k : Link). k.name) l) _ c.in_ok-links.links false (ap (list_any (names_file c.args.key.now.child)) (sym c.as_slice.ensures) ∙ sym c.names_file.ensures ∙ c.if-names_file.false) c.in_ok-links.ensures.found) c.put_in.ensures.value

pub returns-in_err-links-clause-search : goal.returns-in_err-links-clause-search
returns-in_err-links-clause-search g c =
    let l = ap (λ (k : Link). k.name) (link_known c.args.key.now _ c.in-Some.link c.requires.name c.in_ok-link.ensures c.in-Some.is) in
    let p = err_from_is_err_and c.from_residual-in_err-links.result c.from_residual-in_err-links.ensures.1 in
    rw (p.1, p.2) (search_stopped NodesPlan (g.V.View.content c.args.v.now) (λ (x : Content) (n : List ℕ). find_of x (place_of c.args.dir.now) c.args.up.now n c.args.dir.now.root) c.in-Some.link.name (link_of (own_key c.args.key.now)).name c.in_err-links.field-0.0 l c.in_err-links.ensures.value)

pub returns-then-names_file-clause-search : goal.returns-then-names_file-clause-search
returns-then-names_file-clause-search g c =
    let l = ap (λ (k : Link). k.name) (link_known c.args.key.now _ c.in-Some.link c.requires.name c.in_ok-link.ensures c.in-Some.is) in
    search_passed {T = NodesPlan} (g.V.View.content c.args.v.now) (Err Present) (λ (x : Content) (n : List ℕ). find_of x (place_of c.args.dir.now) c.args.up.now n c.args.dir.now.root) c.in-Some.link.name (link_of (own_key c.args.key.now)).name c.in_ok-links.links l c.in_ok-links.ensures.value

pub returns-clause-search : goal.returns-clause-search
returns-clause-search g c =
    let l = ap (λ (k : Link). k.name) (link_known c.args.key.now _ c.in-Some.link c.requires.name c.in_ok-link.ensures c.in-Some.is) in
    search_passed (g.V.View.content c.args.v.now) c.put_in.result (λ (x : Content) (n : List ℕ). find_of x (place_of c.args.dir.now) c.args.up.now n c.args.dir.now.root) c.in-Some.link.name (link_of (own_key c.args.key.now)).name c.in_ok-links.links l c.in_ok-links.ensures.value
