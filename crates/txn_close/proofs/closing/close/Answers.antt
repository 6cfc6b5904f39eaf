use Rattle.found_stays.specs.txn_state.States.{facts_of}
use Rattle.txn_close.specs.Rests.{stopped_facts}
use Rattle.txn_close.proofs.Passing.{goes_joined, goes_to_end}
use Rattle.txn_close.proofs.Clean.{leaves_then}
use Rattle.txn_close.proofs.Whole.{leaves_whole}
use Rattle.txn_close.proofs.closing.close.Goals as goal

pub returns-in-Err-clause-closes : goal.returns-in-Err-clause-closes
returns-in-Err-clause-closes g c = record {
  last = c.end_session.new.store;
  gave = search;
  rests = tt;
  clean = tt;
  leaves = tt;
  unmarked = c.in-Err.ensures.unmarked;
  goes = goes_to_end g.D.Device.sector_count g.D.Device.moment_of g.D.Device.changes_of (stopped_facts (facts_of c.args.store.state)) c.args.store c.end_session.new.store c.end_session.ensures.goes;
}

pub returns-in-Ok-clause-closes : goal.returns-in-Ok-clause-closes
returns-in-Ok-clause-closes g c =
    let base = stopped_facts (facts_of c.args.store.state) in
    let marks = c.mark_clean.ensures.marks in
    let goes = goes_joined g.D.Device.sector_count g.D.Device.moment_of g.D.Device.changes_of base c.args.store c.end_session.new.store marks.last c.end_session.ensures.goes marks.goes in
    record {
      last = marks.last;
      gave = marks.gave;
      rests = marks.rests;
      clean = marks.clean;
      leaves = leaves_whole g.D.Device.sector_count g.D.Device.moment_of g.D.Device.changes_of base c.args.store marks.last c.mark_clean.result.0 goes marks.rests
          (leaves_then g.D.Device.sector_count g.D.Device.moment_of g.D.Device.changes_of base c.args.store c.end_session.new.store marks.last.device c.mark_clean.result.0 c.end_session.ensures.goes marks.leaves);
      unmarked = marks.unmarked;
      goes = goes;
    }
