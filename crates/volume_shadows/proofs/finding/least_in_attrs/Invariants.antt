use Rattle.std.proofs.Common.{◌≡◌, drop}
use Rattle.std.specs.Prelude.{IfSome}
use Rattle.volume_shadows.specs.Least.{lesser, least_of}
use Rattle.volume_shadows.specs.Live.{attr_blocks, least_lsn}
use Rattle.volume_shadows.proofs.finding.least_in_attrs.Given as goal

-- the least so far and those of the attributes that are left are all, and that of the one before them is in it
abbrev pub invariant-loop-attr : goal.invariant-loop-attr
invariant-loop-attr l = record {
  left : lesser l.least (least_of (λ a. least_of (least_lsn l.sorted) (attr_blocks l.per l.number l.attrs a)) (drop l.attr-index l.attrs)) ≡ least_of (λ a. least_of (least_lsn l.sorted) (attr_blocks l.per l.number l.attrs a)) l.attrs;
  before : IfSome l.before (λ b. lesser l.least (least_of (least_lsn l.sorted) (attr_blocks l.per l.number l.attrs b.now)) ≡ l.least);
}
