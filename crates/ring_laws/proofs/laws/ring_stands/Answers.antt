use Rattle.ring_laws.proofs.RingCalls.{begins, grows, syncs, frees, kept_by_others, picks}
use Rattle.ring_laws.proofs.RingWrites.{page_is_written, page_fails}
use Rattle.ring_laws.proofs.laws.ring_stands.Goals as goal

pub returns : goal.returns
returns c = record {
  start = begins;
  appended = λ s r check pages more disk h same. grows s r check pages disk h more same;
  begun = λ s r pages disk word h room made picked. picks s r pages disk word h room made picked;
  written = page_is_written;
  failed = λ s r pages disk now word h between. page_fails s r pages disk now word h between;
  synced = syncs;
  freed = λ s r check pages disk oldest h low high. frees s r check pages disk h oldest low high;
  elsewhere = λ s r check pages disk now h alike. kept_by_others s r check pages disk h now alike;
}
