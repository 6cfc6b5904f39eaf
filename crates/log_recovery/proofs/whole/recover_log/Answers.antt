use Rattle.std.proofs.Common.{Ok, Err}
use Rattle.std.proofs.lemmas.Result.{err_from_is_err_and}
use Rattle.log_recovery.proofs.Wholes.{WasRead, same_entries, front_failed, entries_failed, blocks_failed, lap_failed, recovered_whole}
use Rattle.log_recovery.proofs.whole.recover_log.Goals as goal

pub returns-in_err-front-clause-answer : goal.returns-in_err-front-clause-answer
returns-in_err-front-clause-answer g c =
    let p = err_from_is_err_and c.from_residual.result c.from_residual.ensures.1 in
    rw (p.1, p.2) (front_failed _ c.args.place.now _ c.in_err-front.ensures.answer)

pub returns-in_err-entries-clause-answer : goal.returns-in_err-entries-clause-answer
returns-in_err-entries-clause-answer g c =
    let p = err_from_is_err_and c.from_residual-in_err-entries.result c.from_residual-in_err-entries.ensures.1 in
    rw (p.1, p.2) (entries_failed _ c.args.place.now c.in_ok-front.front _ c.in_ok-front.ensures.answer (rw c.in_ok-front.ensures.kept.same at c.in_err-entries.ensures.answer))

pub returns-in_err-blocks-clause-answer : goal.returns-in_err-blocks-clause-answer
returns-in_err-blocks-clause-answer g c =
    let p = err_from_is_err_and c.from_residual-in_err-blocks.result c.from_residual-in_err-blocks.ensures.1 in
    let read : WasRead _ c.args.place.now c.in_ok-front.front c.in_ok-entries.entries.items = record {
      front_is = c.in_ok-front.ensures.answer;
      entries_are = rw c.in_ok-front.ensures.kept.same at c.in_ok-entries.ensures.answer;
      placed = c.in_ok-entries.ensures.placed;
    } in
    rw (p.1, p.2) (blocks_failed _ c.args.place.now c.in_ok-front.front c.in_ok-entries.entries.items _ read
    (same_entries _ c.deref.result.now c.in_ok-entries.entries.items c.args.place.now.clusters (Err c.in_err-blocks.field-0.0) c.deref.ensures.value
    (rw (c.in_ok-entries.ensures.kept.same, c.in_ok-front.ensures.kept.same) at c.in_err-blocks.ensures.answer)))

pub returns-in_err-next_lap-clause-answer : goal.returns-in_err-next_lap-clause-answer
returns-in_err-next_lap-clause-answer g c =
    let p = err_from_is_err_and c.from_residual-in_err-next_lap.result c.from_residual-in_err-next_lap.ensures.1 in
    let read : WasRead _ c.args.place.now c.in_ok-front.front c.in_ok-entries.entries.items = record {
      front_is = c.in_ok-front.ensures.answer;
      entries_are = rw c.in_ok-front.ensures.kept.same at c.in_ok-entries.ensures.answer;
      placed = c.in_ok-entries.ensures.placed;
    } in
    rw (p.1, p.2) (lap_failed _ c.args.place.now c.in_ok-front.front c.in_ok-entries.entries.items c.in_ok-blocks.blocks _ read
    (same_entries _ c.deref.result.now c.in_ok-entries.entries.items c.args.place.now.clusters (Ok c.in_ok-blocks.blocks) c.deref.ensures.value
    (rw (c.in_ok-entries.ensures.kept.same, c.in_ok-front.ensures.kept.same) at c.in_ok-blocks.ensures.answer))
    (rw (c.in_ok-blocks.ensures.kept.same, c.in_ok-entries.ensures.kept.same, c.in_ok-front.ensures.kept.same) at c.in_err-next_lap.ensures.answer))

pub returns-clause-answer : goal.returns-clause-answer
returns-clause-answer g c =
    let read : WasRead _ c.args.place.now c.in_ok-front.front c.in_ok-entries.entries.items = record {
      front_is = c.in_ok-front.ensures.answer;
      entries_are = rw c.in_ok-front.ensures.kept.same at c.in_ok-entries.ensures.answer;
      placed = c.in_ok-entries.ensures.placed;
    } in
    recovered_whole _ c.args.place.now c.in_ok-front.front c.in_ok-entries.entries c.in_ok-blocks.blocks c.in_ok-next_lap.next_lap read
    (same_entries _ c.deref.result.now c.in_ok-entries.entries.items c.args.place.now.clusters (Ok c.in_ok-blocks.blocks) c.deref.ensures.value
    (rw (c.in_ok-entries.ensures.kept.same, c.in_ok-front.ensures.kept.same) at c.in_ok-blocks.ensures.answer))
    (rw (c.in_ok-blocks.ensures.kept.same, c.in_ok-entries.ensures.kept.same, c.in_ok-front.ensures.kept.same) at c.in_ok-next_lap.ensures.answer)
