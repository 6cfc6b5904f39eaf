use Rattle.std.proofs.Common.{ap, subst}
use Rattle.std.specs.Prelude.{List}
use Rattle.std.proofs.lemmas.Result.{err_from_is_err_and}
use Rattle.record_model.specs.declared.runs.Run.{Run}
use Rattle.space_model.specs.Choosing.{chosen}
use Rattle.state_model.specs.declared.stream.Extents.{Extents}
use Rattle.stream_runs.specs.Runs.{last_cluster}
use Rattle.data_plan.proofs.Cases.{takes_none}
use Rattle.directory_growth.specs.Clusters.{IsLonger}
use Rattle.directory_growth.proofs.Placing.{grown_longer}
use Rattle.directory_growth.proofs.clusters.with_more.Goals as goal

pub returns-in_err-raised-clause-first : goal.returns-in_err-raised-clause-first
returns-in_err-raised-clause-first g c =
    let bits = g.B.FreeBits.bits c.args.bits.now in
    let p = err_from_is_err_and c.from_residual.result c.from_residual.ensures.1 in
    rw (p.1) (takes_none (chosen bits (last_cluster c.args.extents.now.runs) c.args.wanted) bits)

pub returns-clause-value : goal.returns-clause-value
returns-clause-value g c =
    let bits = g.B.FreeBits.bits c.args.bits.now in
    let raised = c.in_ok-raised.raised in
    subst (λ (l : List Run). IsLonger c.args.per c.args.kind c.args.extents.now c.args.file.now c.args.size c.args.wanted l c.in_ok-z.z) (ap (λ (x : Extents). chosen bits (last_cluster x.runs) c.args.wanted) c.in_ok-raised.ensures)
    (grown_longer c.args.per c.args.kind c.args.size c.args.wanted (chosen bits (last_cluster raised.runs) c.args.wanted) c.args.extents.now raised c.args.file.now c.in_ok-z.z c.requires.some c.in_ok-raised.ensures c.in_ok-z.ensures.value)
