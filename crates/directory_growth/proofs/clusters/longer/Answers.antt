use Rattle.std.proofs.Common.{◌≡◌, sym, arith}
use Rattle.std.proofs.lemmas.Result.{err_from_is_err_and}
use Rattle.space_model.specs.Choosing.{chosen}
use Rattle.plan_space.proofs.Stepping.{with_none}
use Rattle.stream_runs.specs.Runs.{last_cluster}
use Rattle.data_plan.proofs.Cases.{takes_none, chosen_none}
use Rattle.directory_growth.proofs.Placing.{sized_longer}
use Rattle.directory_growth.proofs.clusters.longer.Goals as goal

pub returns-in_err-z-clause-first : goal.returns-in_err-z-clause-first
returns-in_err-z-clause-first g c =
    let bits = g.B.FreeBits.bits c.args.bits.now in
    let p = err_from_is_err_and c.from_residual.result c.from_residual.ensures.1 in
    rw (p.1) (takes_none (chosen bits (last_cluster c.args.extents.now.runs) c.args.wanted) bits)

pub returns-clause-value : goal.returns-clause-value
returns-clause-value g c =
    let bits = g.B.FreeBits.bits c.args.bits.now in
    let last = last_cluster c.args.extents.now.runs in
    let zero : c.args.wanted ≡ 0 = omega arith in
    sized_longer c.args.per c.args.kind c.args.size c.args.wanted (chosen bits last c.args.wanted) c.args.extents.now c.args.file.now c.in_ok-z.z zero (chosen_none bits last c.args.wanted zero) c.in_ok-z.ensures.value

pub returns-clause-bits : goal.returns-clause-bits
returns-clause-bits g c =
    let bits = g.B.FreeBits.bits c.args.bits.now in
    let last = last_cluster c.args.extents.now.runs in
    let zero : c.args.wanted ≡ 0 = omega arith in
    sym (with_none (chosen bits last c.args.wanted) bits (chosen_none bits last c.args.wanted zero))
