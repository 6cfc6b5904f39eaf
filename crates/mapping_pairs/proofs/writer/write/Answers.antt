use Rattle.std.proofs.Common.{◌+◌, ◌<◌, ◌∷◌, List, unwrap_or, refl, sym, ap, ◌∙◌, subst, arith}
use Rattle.record_model.specs.declared.runs.Run.{Run}
use Rattle.record_model.specs.Pairs.{pairs_of, cluster_limit, Follow, first_vcn}
use Rattle.record_model.proofs.PairsSpelled.{lcn_low}
use Rattle.mapping_pairs.proofs.Pushing.{none_pushed, one_pushed, all_pushed}
use Rattle.mapping_pairs.proofs.writer.write.Goals as goal

pub loop-run-init : goal.loop-run-init
loop-run-init c = record {
  written = none_pushed c.new-pairs.result.items 0 c.as_slice-rest.result.now c.new-pairs.ensures.items refl ∙ ap pairs_of c.as_slice-rest.ensures.value;
  before = omega arith;
  follow = (0, subst (λ (l : List Run). Follow (first_vcn c.args.runs.now) 0 l) (sym c.as_slice-rest.ensures.value) c.requires.spelling);
}

pub loop-run-preserved : goal.loop-run-preserved
loop-run-preserved c =
    let clusters = c.loop-run.invariant.follow.0 in
    let run = c.in-Some.run'.now in
    let follow : Follow (first_vcn c.args.runs.now) clusters (run ∷ c.in-Some.after.now) = subst (λ (l : List Run). Follow (first_vcn c.args.runs.now) clusters l) c.in-Some.ensures.cases.0 c.loop-run.invariant.follow.1 in
    let low : unwrap_or run.lcn c.loop-run.before < cluster_limit = lcn_low c.loop-run.before run.lcn c.loop-run.invariant.before follow.0.lcn in
    record {
      written = one_pushed c.loop-run.pairs.items c.push_pair.new.out.items c.loop-run.before c.unwrap_or-before.result run c.loop-run.rest.now c.in-Some.after.now _ c.in-Some.ensures.cases.0 c.in_ok-push_pair.ensures c.unwrap_or-before.ensures c.loop-run.invariant.written;
      before = omega (arith, c.unwrap_or-before.ensures, low);
      follow = (clusters + run.len, follow.1);
    }

pub returns : goal.returns
returns c = record { value = all_pushed c.loop-run.pairs.items c.push_end.new.out.items c.loop-run.before c.loop-run.rest.now _ c.in_default.ensures.cases c.in_ok-push_end.ensures c.loop-run.invariant.written }
