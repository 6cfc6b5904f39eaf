use Rattle.std.proofs.Common.{arith}
use Rattle.log_page.proofs.Spelled.{spelled_page}
use Rattle.log_page.proofs.restart.Restart.write.Goals as goal

pub returns : goal.returns
returns c = record { spelled = spelled_page c.args.self.now c.put_front.new.out c.clear.new.out _ c.put_front.ensures.value c.clear.ensures (omega (arith, c.split_at_mut-front.ensures.back_len, c.requires.whole)) }
