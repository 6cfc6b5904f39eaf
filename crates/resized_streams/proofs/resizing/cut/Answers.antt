use Rattle.std.proofs.Common.{length, sym, ap, subst, arith}
use Rattle.record_streams.specs.record_model.Pairs.{HasSpelling}
use Rattle.record_streams.specs.state_model.declared.stream.Extents.{Extents}
use Rattle.resized_streams.specs.Resizing.{clusters_for}
use Rattle.resized_streams.proofs.Chosen.{follow_shortened, shortened_count}
use Rattle.resized_streams.proofs.resizing.cut.Goals as goal

pub placed_record-requires-clause-spelled : goal.placed_record-requires-clause-spelled
placed_record-requires-clause-spelled c =
    let runs = c.args.extents.now.runs in
    subst (λ (e : Extents). HasSpelling 0 e.runs) (sym c.in_ok-shorter.ensures) (follow_shortened (clusters_for c.args.per c.args.size) runs c.requires.spelled)

pub placed_record-requires-clause-few : goal.placed_record-requires-clause-few
placed_record-requires-clause-few c =
    omega (arith, ap (λ (e : Extents). length e.runs) c.in_ok-shorter.ensures, shortened_count (clusters_for c.args.per c.args.size) c.args.extents.now.runs, c.requires.few)

pub returns-clause-spelled : goal.returns-clause-spelled
returns-clause-spelled c =
    let runs = c.args.extents.now.runs in
    subst (λ (e : Extents). HasSpelling 0 e.runs) (sym c.in_ok-shorter.ensures) (follow_shortened (clusters_for c.args.per c.args.size) runs c.requires.spelled)

pub returns-clause-count : goal.returns-clause-count
returns-clause-count c = omega (arith, ap (λ (e : Extents). length e.runs) c.in_ok-shorter.ensures, shortened_count (clusters_for c.args.per c.args.size) c.args.extents.now.runs)
