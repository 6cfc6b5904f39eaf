use Rattle.std.proofs.Common.{◌≡◌, ℕ, ◌+◌, ◌≤◌, length, sym, ap, ◌∙◌, subst, arith}
use Rattle.std.specs.Prelude.{not, count_by, All}
use Rattle.plan_space.specs.declared.fault.SpaceFault.TheVariants.{Short}
use Rattle.record_streams.specs.record_model.Pairs.{cluster_limit, HasSpelling}
use Rattle.plan_space.specs.space_model.Choosing.{chosen}
use Rattle.record_streams.specs.state_model.declared.stream.Extents.{Extents}
use Rattle.record_streams.specs.state_model.Loads.{total_clusters}
use Rattle.record_streams.specs.stream_runs.Runs.{IsNear}
use Rattle.record_streams.proofs.stream_runs.Looping.{small_follow, all_near}
use Rattle.record_streams.proofs.stream_runs.Merging.{follow-grown}
use Rattle.resized_streams.proofs.Chosen.{total_chosen, total_grown, chosen_follow, chosen_count, grown_count, enough_of}
use Rattle.resized_streams.proofs.resizing.grow.Goals as goal

pub lengthened-requires-clause-more : goal.lengthened-requires-clause-more
lengthened-requires-clause-more g c =
    let bits = g.B.FreeBits.bits c.args.bits.now in
    let enough = enough_of c.choose.result c.in_ok-taken.taken (Short (count_by not bits)) (count_by not bits) c.args.wanted c.in_ok-taken.was c.choose.ensures.short in
    let is = c.deref.ensures.value ∙ c.in_ok-taken.ensures.runs in
    subst (HasSpelling 0) (sym is) (chosen_follow bits c.last_cluster.result c.args.wanted enough c.requires.clusters (omega (arith, c.requires.total)))

pub lengthened-requires-clause-few : goal.lengthened-requires-clause-few
lengthened-requires-clause-few g c =
    let bits = g.B.FreeBits.bits c.args.bits.now in
    let enough = enough_of c.choose.result c.in_ok-taken.taken (Short (count_by not bits)) (count_by not bits) c.args.wanted c.in_ok-taken.was c.choose.ensures.short in
    let is = c.deref.ensures.value ∙ c.in_ok-taken.ensures.runs in
    omega (arith, ap total_clusters is, total_chosen bits c.last_cluster.result c.args.wanted enough, c.requires.total)

pub placed_record-requires-clause-spelled : goal.placed_record-requires-clause-spelled
placed_record-requires-clause-spelled g c =
    let bits = g.B.FreeBits.bits c.args.bits.now in
    let runs = c.args.extents.now.runs in
    let enough = enough_of c.choose.result c.in_ok-taken.taken (Short (count_by not bits)) (count_by not bits) c.args.wanted c.in_ok-taken.was c.choose.ensures.short in
    let is = c.deref.ensures.value ∙ c.in_ok-taken.ensures.runs in
    let more = subst (HasSpelling 0) (sym is) (chosen_follow bits c.last_cluster.result c.args.wanted enough c.requires.clusters (omega (arith, c.requires.total))) in
    let few : total_clusters runs + total_clusters c.deref.result.now ≤ cluster_limit = omega (arith, ap total_clusters is, total_chosen bits c.last_cluster.result c.args.wanted enough, c.requires.total) in
    subst (λ (e : Extents). HasSpelling 0 e.runs) (sym c.in_ok-longer.ensures) (follow-grown runs c.deref.result.now c.requires.spelled more few)

pub placed_record-requires-clause-few : goal.placed_record-requires-clause-few
placed_record-requires-clause-few g c =
    let bits = g.B.FreeBits.bits c.args.bits.now in
    let enough = enough_of c.choose.result c.in_ok-taken.taken (Short (count_by not bits)) (count_by not bits) c.args.wanted c.in_ok-taken.was c.choose.ensures.short in
    let is = c.deref.ensures.value ∙ c.in_ok-taken.ensures.runs in
    let count = chosen_count bits c.last_cluster.result c.args.wanted enough c.requires.clusters (omega (arith, c.requires.total)) in
    omega (arith, ap (λ (e : Extents). length e.runs) c.in_ok-longer.ensures, grown_count c.args.extents.now.runs c.deref.result.now, ap length is, count, c.requires.few)

pub returns-clause-near : goal.returns-clause-near
returns-clause-near g c =
    let bits = g.B.FreeBits.bits c.args.bits.now in
    let enough = enough_of c.choose.result c.in_ok-taken.taken (Short (count_by not bits)) (count_by not bits) c.args.wanted c.in_ok-taken.was c.choose.ensures.short in
    let more = chosen_follow bits c.last_cluster.result c.args.wanted enough c.requires.clusters (omega (arith, c.requires.total)) in
    let runs = chosen bits c.last_cluster.result c.args.wanted in
    subst (All IsNear) (sym c.in_ok-taken.ensures.runs) (all_near runs (small_follow 0 0 runs more))

pub returns-clause-spelled : goal.returns-clause-spelled
returns-clause-spelled g c =
    let bits = g.B.FreeBits.bits c.args.bits.now in
    let runs = c.args.extents.now.runs in
    let enough = enough_of c.choose.result c.in_ok-taken.taken (Short (count_by not bits)) (count_by not bits) c.args.wanted c.in_ok-taken.was c.choose.ensures.short in
    let is = c.deref.ensures.value ∙ c.in_ok-taken.ensures.runs in
    let more = subst (HasSpelling 0) (sym is) (chosen_follow bits c.last_cluster.result c.args.wanted enough c.requires.clusters (omega (arith, c.requires.total))) in
    let few : total_clusters runs + total_clusters c.deref.result.now ≤ cluster_limit = omega (arith, ap total_clusters is, total_chosen bits c.last_cluster.result c.args.wanted enough, c.requires.total) in
    subst (λ (e : Extents). HasSpelling 0 e.runs) (sym c.in_ok-longer.ensures) (follow-grown runs c.deref.result.now c.requires.spelled more few)

pub returns-clause-count : goal.returns-clause-count
returns-clause-count g c =
    let bits = g.B.FreeBits.bits c.args.bits.now in
    let enough = enough_of c.choose.result c.in_ok-taken.taken (Short (count_by not bits)) (count_by not bits) c.args.wanted c.in_ok-taken.was c.choose.ensures.short in
    let is = c.deref.ensures.value ∙ c.in_ok-taken.ensures.runs in
    let count = chosen_count bits c.last_cluster.result c.args.wanted enough c.requires.clusters (omega (arith, c.requires.total)) in
    omega (arith, ap (λ (e : Extents). length e.runs) c.in_ok-longer.ensures, grown_count c.args.extents.now.runs c.deref.result.now, ap length is, count)

pub returns-clause-total : goal.returns-clause-total
returns-clause-total g c =
    let bits = g.B.FreeBits.bits c.args.bits.now in
    let enough = enough_of c.choose.result c.in_ok-taken.taken (Short (count_by not bits)) (count_by not bits) c.args.wanted c.in_ok-taken.was c.choose.ensures.short in
    let is = c.deref.ensures.value ∙ c.in_ok-taken.ensures.runs in
    ap (λ (e : Extents). total_clusters e.runs) c.in_ok-longer.ensures
    ∙ total_grown c.args.extents.now.runs c.deref.result.now
    ∙ ap (λ (n : ℕ). total_clusters c.args.extents.now.runs + n) (ap total_clusters is ∙ total_chosen bits c.last_cluster.result c.args.wanted enough)
