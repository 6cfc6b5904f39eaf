use Rattle.std.proofs.Common.{refl, ◌≡◌, ◌≤◌, ℕ, List, length, arith}
use Rattle.std.proofs.lemmas.Result.{err_from_is_err_and}
use Rattle.index_plan.specs.declared.plan.Rooted.{Rooted}
use Rattle.index_plan.proofs.Fitting.{few_of, removal_fits, removal_left}
use Rattle.index_plan.proofs.Steps.{deeper, weaker, search_failed, search_none, search_some}
use Rattle.index_plan.specs.Seeking.{seek_of}
use Rattle.index_plan.proofs.Taking.{answer, answer_deep, answer_none, answer_few, removed_at}
use Rattle.index_plan.proofs.removal.plan_remove.Goals as goal

pub returns-in-None-clause-absent : goal.returns-in-None-clause-absent
returns-in-None-clause-absent g c = answer_none (g.N.Nodes.reads c.args.nodes.now) (g.N.Nodes.reads c.args.nodes.now) (g.T.Target.side c.args.target.now) c.args.root c.in_ok-seek_in.field-0 refl c.in-None.is c.in_ok-seek_in.ensures.place

pub returns-in-Some-clause-plan : goal.returns-in-Some-clause-plan
returns-in-Some-clause-plan g c =
    answer c.plan_out.result (g.N.Nodes.reads c.args.nodes.now) (g.N.Nodes.reads c.args.nodes.now) (g.T.Target.side c.args.target.now) c.args.root c.args.room c.args.height c.args.draft c.in_ok-seek_in.field-0 c.in-Some.place c.into_parts-path.result.0.items c.into_parts-path.result.1.items
    refl c.requires.unwritten c.in-Some.is c.into_parts-path.ensures.path c.into_parts-path.ensures.chain c.plan_out.ensures.plan c.plan_out.ensures.freed c.plan_out.ensures.level c.in_ok-seek_in.ensures.place

pub returns-in-Some-clause-deep : goal.returns-in-Some-clause-deep
returns-in-Some-clause-deep g c =
    deeper c.plan_out.result c.args.height _ _
    (λ full. answer_deep (g.N.Nodes.reads c.args.nodes.now) (g.N.Nodes.reads c.args.nodes.now) (g.T.Target.side c.args.target.now) c.args.root c.args.room c.args.draft c.in_ok-seek_in.field-0 c.in-Some.place c.into_parts-path.result.0.items c.into_parts-path.result.1.items
    refl c.requires.unwritten c.in-Some.is c.into_parts-path.ensures.path c.into_parts-path.ensures.chain c.in_ok-seek_in.ensures.place full)
    c.plan_out.ensures.deep

pub returns-in-Some-clause-fits : goal.returns-in-Some-clause-fits
returns-in-Some-clause-fits g c =
    let path = c.into_parts-path.result.0.items in
    let few : length path ≤ 15 = few_of c.in_ok-seek_in.field-0 c.in-Some.place path 15 c.in-Some.is c.into_parts-path.ensures.path c.in_ok-seek_in.ensures.few in
    weaker c.plan_out.result (λ (p : Rooted × List ℕ). p.0 ≡ removed_at c.args.room c.args.root c.in-Some.place.at path c.into_parts-path.result.1.items c.args.draft) _
    (λ x is sized. removal_fits c.args.room c.args.root c.in-Some.place.at path c.into_parts-path.result.1.items c.args.draft x.0 c.requires.unwritten c.into_parts-path.ensures.path_sized c.into_parts-path.ensures.chain_sized (let enough = c.requires.enough in omega arith) sized is)
    c.plan_out.ensures.plan

pub returns-in-Some-clause-taken : goal.returns-in-Some-clause-taken
returns-in-Some-clause-taken g c =
    let path = c.into_parts-path.result.0.items in
    let few : length path ≤ 15 = few_of c.in_ok-seek_in.field-0 c.in-Some.place path 15 c.in-Some.is c.into_parts-path.ensures.path c.in_ok-seek_in.ensures.few in
    weaker c.plan_out.result (λ (p : Rooted × List ℕ). p.0 ≡ removed_at c.args.room c.args.root c.in-Some.place.at path c.into_parts-path.result.1.items c.args.draft) _
    (λ x is. answer_few (g.N.Nodes.reads c.args.nodes.now) (g.T.Target.side c.args.target.now) c.args.root c.args.room c.args.draft c.in_ok-seek_in.field-0 c.in-Some.place path c.into_parts-path.result.1.items x.0 c.in-Some.is c.into_parts-path.ensures.path c.into_parts-path.ensures.chain
    (removal_left c.args.room c.args.root c.in-Some.place.at path c.into_parts-path.result.1.items c.args.draft x.0 c.requires.unwritten c.into_parts-path.ensures.path_sized c.into_parts-path.ensures.chain_sized (let enough = c.requires.enough in omega arith) is)
    c.in_ok-seek_in.ensures.place)
    c.plan_out.ensures.plan

pub returns-in_err-seek_in-clause-sought : goal.returns-in_err-seek_in-clause-sought
returns-in_err-seek_in-clause-sought g c =
    let p = err_from_is_err_and c.from_residual.result c.from_residual.ensures.1 in
    rw (p.1, p.2) (search_failed (Rooted × List ℕ) (g.N.Nodes.reads c.args.nodes.now) c.in_err-seek_in.field-0.0 (λ reads. seek_of reads (g.T.Target.side c.args.target.now) c.args.root) c.in_err-seek_in.ensures.only c.in_err-seek_in.ensures.place)

pub returns-in-None-clause-sought : goal.returns-in-None-clause-sought
returns-in-None-clause-sought g c = search_none (g.N.Nodes.reads c.args.nodes.now) (λ reads. seek_of reads (g.T.Target.side c.args.target.now) c.args.root) c.in_ok-seek_in.field-0 c.in-None.is c.in_ok-seek_in.ensures.place

pub returns-in-Some-clause-sought : goal.returns-in-Some-clause-sought
returns-in-Some-clause-sought g c = search_some (g.N.Nodes.reads c.args.nodes.now) c.plan_out.result _ (λ reads. seek_of reads (g.T.Target.side c.args.target.now) c.args.root) c.in_ok-seek_in.field-0 c.in-Some.place c.in-Some.is c.plan_out.ensures.deep c.in_ok-seek_in.ensures.place
