use Rattle.std.proofs.Common.{◌≡◌, true, drop}
use Rattle.std.specs.Prelude.{IfSome}
use Rattle.std.specs.List.{list_all}
use Rattle.volume_model.specs.Sizes.{keeps_stream}
use Rattle.stream_rules.proofs.kept.keep_all.Given as goal

-- all keep it where those that are left do, and the one before them does
abbrev pub invariant-loop-attr : goal.invariant-loop-attr
invariant-loop-attr l = record {
  left : list_all (keeps_stream l.per l.clusters l.attrs) (drop l.attr-index l.attrs) ≡ list_all (keeps_stream l.per l.clusters l.attrs) l.attrs;
  before : IfSome l.before (λ b. keeps_stream l.per l.clusters l.attrs b.now ≡ true);
}
