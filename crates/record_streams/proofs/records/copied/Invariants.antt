use Rattle.std.proofs.Common.{◌≡◌, take}
use Rattle.record_streams.proofs.records.copied.Given as goal

-- the attributes so far are copied
abbrev pub invariant-loop-attr : goal.invariant-loop-attr
invariant-loop-attr l = record {
  head : l.out.head ≡ l.file.head;
  attrs : l.out.attrs ≡ take l.attr-index l.attrs;
}
