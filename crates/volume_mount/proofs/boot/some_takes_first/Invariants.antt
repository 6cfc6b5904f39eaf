use Rattle.std.proofs.Common.{◌≡◌, false, drop}
use Rattle.std.specs.Prelude.{IfSome}
use Rattle.std.specs.List.{list_any}
use Rattle.volume_mount.specs.Boot.{takes_first}
use Rattle.volume_mount.proofs.boot.some_takes_first.Given as goal

-- some does so where one of those that are left does, and the one before them doesn't
abbrev pub invariant-loop-attr : goal.invariant-loop-attr
invariant-loop-attr l = record {
  left : list_any (takes_first l.number l.attrs) (drop l.attr-index l.attrs) ≡ list_any (takes_first l.number l.attrs) l.attrs;
  before : IfSome l.before (λ b. takes_first l.number l.attrs b.now ≡ false);
}
