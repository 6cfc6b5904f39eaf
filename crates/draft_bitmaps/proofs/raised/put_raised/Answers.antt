use Rattle.record_model.specs.Records.{record_spelling}
use Rattle.draft_resized.specs.draft_records.Records.{written_record, touch_record}
use Rattle.draft_resized.proofs.Fronts.{put_behind}
use Rattle.draft_bitmaps.specs.Bitmaps.{PutsPast}
use Rattle.draft_bitmaps.proofs.raised.put_raised.Goals as goal

pub returns-clause-put : goal.returns-clause-put
returns-clause-put g c =
    put_behind (g.V.View.content c.args.draft.now.view.now)
    (λ k. touch_record k c.args.per c.args.table.now c.args.mirror.now c.args.bitmap.now.number (record_spelling (written_record c.in_ok-resized.resized.file)) c.args.draft.now.touched.items)
    (λ k mid new. PutsPast k c.args.per c.args.extents.now c.args.first c.args.len c.args.bit mid new) _ _ c.in_ok-put_file.ensures.touched (rw c.in_ok-put_file.ensures.asks.same at c.in_ok-put_past.ensures.put)
