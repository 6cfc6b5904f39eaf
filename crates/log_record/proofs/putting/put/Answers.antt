use Rattle.log_record.proofs.OverBytes.{entry_put}
use Rattle.log_record.proofs.putting.put.Goals as goal

pub returns : goal.returns
returns c = record { spelled = entry_put c.args.entry.now c.args.at c.front.result c.args.out.now c.put_bytes.new.bytes _ c.front.ensures c.put_bytes.ensures c.put_act.ensures }
