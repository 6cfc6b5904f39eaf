use Rattle.std.proofs.Common.{◌∙◌}
use Rattle.std.proofs.lemmas.Result.{err_from_is_err_and}
use Rattle.draft_numbers.specs.draft_records.Records.{fits_room}
use Rattle.draft_growth.proofs.Fulls.{never}
use Rattle.draft_growth.proofs.Joining.{grown_put}
use Rattle.draft_growth.proofs.growing.put_grown.Goals as goal

pub returns-clause-put : goal.returns-clause-put
returns-clause-put g c =
    let first = c.in_ok-put_table.ensures.asks.same in
    let second = c.in_ok-put_owners.ensures.asks.same ∙ first in
    grown_put (g.V.View.content c.args.draft.now.view.now) c.args.per c.args.table.now c.args.mirror.now c.args.taken.now c.args.longer.now c.args.clusters.now c.args.first c.args.draft.now.touched.items _ _ _ _ _
    c.in_ok-put_table.ensures.put (rw (c.deref.ensures.value, first) at c.in_ok-put_owners.ensures.put) (rw second at c.in_ok-put_empty_records.ensures.touched)

pub returns-in_err-put_table-clause-full : goal.returns-in_err-put_table-clause-full
returns-in_err-put_table-clause-full g c =
    let p = err_from_is_err_and c.from_residual.result c.from_residual.ensures.1 in
    rw (p.1, p.2) c.in_err-put_table.ensures.full

pub returns-in_err-put_owners-clause-full : goal.returns-in_err-put_owners-clause-full
returns-in_err-put_owners-clause-full g c = never (fits_room c.args.longer.now.bitmap.file) _ c.in_ok-put_table.ensures.full

pub returns-in_err-put_empty_records-clause-full : goal.returns-in_err-put_empty_records-clause-full
returns-in_err-put_empty_records-clause-full g c = never (fits_room c.args.longer.now.bitmap.file) _ c.in_ok-put_table.ensures.full

pub returns-clause-full : goal.returns-clause-full
returns-clause-full g c = c.in_ok-put_table.ensures.full
