use Rattle.log_record.proofs.OverBytes.{update_put, commit_put}
use Rattle.log_record.proofs.putting.put_act.Goals as goal

pub returns-in-Update : goal.returns-in-Update
returns-in-Update c = update_put c.args.at c.in-Update.first c.in-Update.kind c.in-Update.place c.len.result c.len-in-Update.result c.up8.result c.in-Update.redo c.in-Update.undo c.as_slice.result.now c.as_slice-in-Update.result.now c.update_fields.result c.args.out.now c.put_bytes.new.bytes c.put_filled.new.out _ c.args.act.now c.in-Update.is c.as_slice.ensures c.as_slice-in-Update.ensures c.len.ensures c.len-in-Update.ensures c.up8.ensures c.update_fields.ensures c.put_bytes.ensures c.put_filled.ensures c.put_filled-in-Update.ensures

pub returns-in-Commit : goal.returns-in-Commit
returns-in-Commit c = commit_put c.args.at c.commit_fields.result c.args.out.now _ c.args.act.now c.in-Commit.is c.commit_fields.ensures c.put_bytes-in-Commit.ensures
