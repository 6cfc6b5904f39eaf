use Rattle.std.proofs.Common.{◌≡◌, ◌++◌, cond, drop}
use Rattle.record_times.specs.Times.{timed_attrs}
use Rattle.record_times.proofs.timing.with_times.Given as goal

-- the attributes so far, and those that come of the ones left, are all that come
abbrev pub invariant-loop-attr : goal.invariant-loop-attr
invariant-loop-attr l = record {
  head : l.out.head ≡ l.file.head;
  attrs : l.out.attrs ++ cond l.is_put (drop l.attr-index l.attrs) (timed_attrs l.stamp (drop l.attr-index l.attrs)) ≡ timed_attrs l.stamp l.attrs;
}
