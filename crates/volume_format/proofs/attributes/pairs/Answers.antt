use Rattle.std.proofs.Common.{◌≡◌, List, ℕ, length, ap, rules, arith}
use Rattle.record_model.specs.Pairs.{pairs_of}
use Rattle.volume_format.specs.Files.{one_run}
use Rattle.volume_format.proofs.FittingAttributes.{pairs_short}
use Rattle.volume_format.proofs.attributes.pairs.Goals as goal

pub fill_up-requires : goal.fill_up-requires
fill_up-requires c =
    let e : c.in_ok-pairs.pairs.items ≡ pairs_of (one_run c.args.lcn c.args.clusters) = search (rules, c.in_ok-pairs.ensures.value, c.in_ok-push.ensures.pushed, c.new-runs.ensures) in
    omega (arith, pairs_short c.args.lcn c.args.clusters, ap (λ (l : List ℕ). length l) e)
