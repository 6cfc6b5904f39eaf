use Rattle.ring_laws.proofs.StoreEvents.{log_starts, log_kept, log_grows, log_begins, log_within, log_written, log_fails, log_synced, log_freed, log_noted, restart_begins, restart_put_well, restart_put_badly}
use Rattle.ring_laws.proofs.laws.logs_follow.Goals as goal

pub returns : goal.returns
returns c = record {
  start = log_starts;
  elsewhere = λ s l store after disk now h same alike. log_kept s l store disk h after now same alike;
  appended = λ s l store after disk more h b same. log_grows s l store disk h more same after b;
  page_begun = λ s l store disk word h none room made picked. log_begins s l store disk h word none room made picked;
  page_is_written = λ s l store after disk word h is b. log_written s l store disk h word is after b;
  page_fails = λ s l store after disk now word h is between b. log_fails s l store disk h word is after now between b;
  page_within = log_within;
  synced = λ s l store after disk h early b. log_synced s l store disk h after early b;
  freed = λ s l store after disk h late b. log_freed s l store disk h late after b;
  checkpoint = λ s l store after disk h early b. log_noted s l store disk h after early b;
  restart_begun = λ s l store disk next word h none early fits ranges rises names picked. restart_begins s l store disk h next word none early fits ranges rises names picked;
  restart_is_written = λ s l store after disk next word h is told names begun high b. restart_put_well s l store disk h next word is told names begun high after b;
  restart_fails = λ s l store after disk now next word h is told names begun high between b. restart_put_badly s l store disk h next word is told names begun high after now between b;
}
