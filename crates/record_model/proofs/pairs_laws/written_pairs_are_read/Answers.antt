use Rattle.std.proofs.Common.{◌++◌}
use Rattle.record_model.specs.Pairs.{pairs_of}
use Rattle.record_model.proofs.PairsRead.{spelled_read}
use Rattle.record_model.proofs.PairsSpelled.{written_spelled}
use Rattle.record_model.proofs.pairs_laws.written_pairs_are_read.Goals as goal

pub returns : goal.returns
returns c = λ first runs rest follow. spelled_read first runs (pairs_of runs ++ rest) follow (written_spelled first runs rest follow)
