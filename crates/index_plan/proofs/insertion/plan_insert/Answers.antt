use Rattle.std.proofs.Common.{arith, ◌≡◌, ◌<◌, Ok, Some, None, IsTrue}
use Rattle.std.proofs.lemmas.Result.{err_from_is_err_and}
use Rattle.index_model.proofs.host_base.Known.{one}
use Rattle.index_plan.specs.declared.plan.Rooted.{Rooted}
use Rattle.index_model.specs.Trees.{raw}
use Rattle.index_plan.specs.Lists.{rise, rooted}
use Rattle.index_plan.specs.Laws.{InsertsInto, LevelFits, NeedsLevel, PlansAlong}
use Rattle.index_plan.specs.Reading.{nodes_of, way_of}
use Rattle.index_plan.proofs.Steps.{weaker, on_ok, deeper, way_failed, way_ended}
use Rattle.index_plan.proofs.Fitting.{insertion_fits, insertion_left}
use Rattle.index_plan.proofs.Inserting.{inserts, as_level, plans_along}
use Rattle.index_plan.proofs.insertion.plan_insert.Goals as goal

pub returns-clause-plan : goal.returns-clause-plan
returns-clause-plan g c =
    let known = g.N.Nodes.reads c.args.nodes.now in
    let goes = g.T.Test.goes c.args.test.now in
    weaker c.plan_at.result (λ (p : Rooted). p ≡ rooted c.args.room c.args.root c.stop-at.result (rise c.in_ok-path.path.items (record { pending = Some (raw c.args.key None); plan = c.args.draft }))) _
    (λ x is. one known (λ reads. way_of reads goes c.args.root ≡ Ok c.in_ok-path.path.items) (λ reads. InsertsInto (nodes_of reads) goes c.args.key c.args.draft.fresh c.args.root c.args.room x)
    (λ reads w. inserts reads goes c.args.key c.args.root c.args.room c.stop-at.result c.in_ok-path.path.items c.args.draft x c.requires.unwritten c.stop-at.ensures.value w is) c.in_ok-path.ensures.way)
    c.plan_at.ensures.plan

pub returns-clause-level : goal.returns-clause-level
returns-clause-level g c =
    let known = g.N.Nodes.reads c.args.nodes.now in
    let goes = g.T.Test.goes c.args.test.now in
    on_ok c.plan_at.result _ _
    (λ fits. one known (λ reads. way_of reads goes c.args.root ≡ Ok c.in_ok-path.path.items) (λ reads. LevelFits (nodes_of reads) goes c.args.key c.args.draft.fresh c.args.root c.args.room c.args.height)
    (λ reads w. as_level reads goes c.args.key c.args.root c.args.room c.stop-at.result c.in_ok-path.path.items c.args.draft (λ more. IsTrue more → c.args.height < 16) c.requires.unwritten c.stop-at.ensures.value w fits) c.in_ok-path.ensures.way)
    c.plan_at.ensures.level

pub returns-clause-deep : goal.returns-clause-deep
returns-clause-deep g c =
    let known = g.N.Nodes.reads c.args.nodes.now in
    let goes = g.T.Test.goes c.args.test.now in
    deeper c.plan_at.result c.args.height _ _
    (λ full. one known (λ reads. way_of reads goes c.args.root ≡ Ok c.in_ok-path.path.items) (λ reads. NeedsLevel (nodes_of reads) goes c.args.key c.args.draft.fresh c.args.root c.args.room)
    (λ reads w. as_level reads goes c.args.key c.args.root c.args.room c.stop-at.result c.in_ok-path.path.items c.args.draft IsTrue c.requires.unwritten c.stop-at.ensures.value w full) c.in_ok-path.ensures.way)
    c.plan_at.ensures.deep

pub returns-clause-fits : goal.returns-clause-fits
returns-clause-fits g c =
    weaker c.plan_at.result (λ (p : Rooted). p ≡ rooted c.args.room c.args.root c.stop-at.result (rise c.in_ok-path.path.items (record { pending = Some (raw c.args.key None); plan = c.args.draft }))) _
    (λ x is sized short. insertion_fits c.args.room c.args.root c.stop-at.result c.in_ok-path.path.items c.args.key c.args.draft x c.requires.unwritten c.in_ok-path.ensures.sized (let few = c.in_ok-path.ensures.few in let enough = c.requires.enough in omega arith) sized short is)
    c.plan_at.ensures.plan

pub returns-clause-taken : goal.returns-clause-taken
returns-clause-taken g c =
    let known = g.N.Nodes.reads c.args.nodes.now in
    let goes = g.T.Test.goes c.args.test.now in
    weaker c.plan_at.result (λ (p : Rooted). p ≡ rooted c.args.room c.args.root c.stop-at.result (rise c.in_ok-path.path.items (record { pending = Some (raw c.args.key None); plan = c.args.draft }))) _
    (λ x is short. one known (λ reads. way_of reads goes c.args.root ≡ Ok c.in_ok-path.path.items) (λ reads. PlansAlong reads goes c.args.key c.args.draft c.args.root c.args.room x)
    (λ reads w. plans_along reads goes c.args.root c.args.room c.stop-at.result c.in_ok-path.path.items c.args.key c.args.draft x c.stop-at.ensures.value w is
    (insertion_left c.args.room c.args.root c.stop-at.result c.in_ok-path.path.items c.args.key c.args.draft x c.requires.unwritten c.in_ok-path.ensures.sized (let few = c.in_ok-path.ensures.few in let enough = c.requires.enough in omega arith) short is)) c.in_ok-path.ensures.way)
    c.plan_at.ensures.plan

pub returns-in_err-path-clause-way : goal.returns-in_err-path-clause-way
returns-in_err-path-clause-way g c =
    let p = err_from_is_err_and c.from_residual.result c.from_residual.ensures.1 in
    rw (p.1, p.2) (way_failed Rooted (g.N.Nodes.reads c.args.nodes.now) c.in_err-path.field-0.0 (λ reads. way_of reads (g.T.Test.goes c.args.test.now) c.args.root) c.in_err-path.ensures.only c.in_err-path.ensures.way)

pub returns-clause-way : goal.returns-clause-way
returns-clause-way g c = way_ended (g.N.Nodes.reads c.args.nodes.now) c.plan_at.result _ (λ reads. way_of reads (g.T.Test.goes c.args.test.now) c.args.root) c.in_ok-path.path.items c.plan_at.ensures.deep c.in_ok-path.ensures.way
