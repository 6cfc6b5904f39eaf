use Rattle.log_record.proofs.Appended.{commit_pushed}
use Rattle.log_record.proofs.writing.push_act.Goals as goal

pub returns-in_ok-extend_from_slice-in-Commit : goal.returns-in_ok-extend_from_slice-in-Commit
returns-in_ok-extend_from_slice-in-Commit c = commit_pushed c.args.out.now.items _ c.commit_fields.result c.args.act.now c.in-Commit.is c.commit_fields.ensures c.in_ok-extend_from_slice-in-Commit.ensures.items
