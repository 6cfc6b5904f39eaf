use Rattle.std.proofs.Common.{◌≡◌, ◌++◌, cond, drop}
use Rattle.record_streams.specs.Placing.{without_stream, with_stream}
use Rattle.record_streams.proofs.records.with_stream.Given as goal

-- the attributes so far, and those that come of the ones left, are all that come
abbrev pub invariant-loop-attr : goal.invariant-loop-attr
invariant-loop-attr l = record {
  head : l.out.head ≡ l.file.head;
  attrs : l.out.attrs ++ cond l.is_put (without_stream l.kind l.name (drop l.attr-index l.attrs)) (with_stream l.kind l.name l.new (drop l.attr-index l.attrs)) ≡ with_stream l.kind l.name l.new l.attrs;
}
