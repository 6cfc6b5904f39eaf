use Rattle.std.proofs.Common.{◌≡◌, drop}
use Rattle.std.specs.List.{list_any}
use Rattle.state_model.specs.Streams.{cuts_block}
use Rattle.stream_map.proofs.places.has_cut_block.Given as goal

-- a run cuts a block where one of those that are left does
abbrev pub invariant-loop-run : goal.invariant-loop-run
invariant-loop-run l = list_any (cuts_block l.per l.kind l.count) (drop l.run-index l.runs) ≡ list_any (cuts_block l.per l.kind l.count) l.runs
