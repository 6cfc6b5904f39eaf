use Rattle.std.proofs.Common.{◌≡◌, ◌+◌, ◌<◌, [], ◌∷◌, length, unwrap_or, arith, sym, ap, ◌∙◌}
use Rattle.std.proofs.lemmas.List.{length-append}
use Rattle.std.proofs.lemmas.Result.{err_from_is_err_and}
use Rattle.record_model.specs.Pairs.{Place, cluster_limit, length_width, delta_width}
use Rattle.mapping_pairs.specs.Reading.{place_of}
use Rattle.record_model.proofs.PairsSpelled.{lcn_low}
use Rattle.mapping_pairs.proofs.Steps.{begun, ended, went_on, went_wrong, cut_off}
use Rattle.mapping_pairs.proofs.reader.read.Goals as goal

pub loop-first-init : goal.loop-first-init
loop-first-init c = record {
  passed = omega arith;
  few = omega (arith, ap length c.new-runs.ensures);
  clusters = omega arith;
  lcn = omega arith;
  read = begun c.new-runs.result c.args.first_vcn c.args.pairs.now c.new-runs.ensures;
}

pub returns-then-header-eq0 : goal.returns-then-header-eq0
returns-then-header-eq0 c = record { value = ended c.loop-first.runs _ c.args.first_vcn (place_of c.loop-first.place) c.loop-first.rest.now c.in-Some.first.now c.in-Some.bytes.now _ c.in-Some.ensures.cases.0 c.if-header-eq0.true c.loop-first.invariant.read }

pub returns-in_err-run : goal.returns-in_err-run
returns-in_err-run c =
    let p = err_from_is_err_and c.from_residual.result c.from_residual.ensures.1 in
    rw (p.1, p.2) (record { value = went_wrong _ c.args.first_vcn c.loop-first.runs (place_of c.loop-first.place) c.loop-first.rest.now c.in-Some.bytes.now c.in-Some.first.now c.in_err-run.field-0.0 _ c.in-Some.ensures.cases.0 c.if-header-eq0.false (sym c.in_err-run.ensures.value) c.loop-first.invariant.read })

pub loop-first-preserved : goal.loop-first-preserved
loop-first-preserved c =
    let behind_is = c.behind-place.ensures in
    let at_is : c.behind-place.result.at ≡ c.loop-first.place.at + 1 + length_width c.in-Some.first.now + delta_width c.in-Some.first.now = ap (λ (p : Place). p.at) behind_is in
    let clusters_is : c.behind-place.result.clusters ≡ c.loop-first.place.clusters + c.in_ok-run.run'.len = ap (λ (p : Place). p.clusters) behind_is in
    let lcn_is : c.behind-place.result.lcn ≡ unwrap_or c.in_ok-run.run'.lcn c.loop-first.place.lcn = ap (λ (p : Place). p.lcn) behind_is in
    let lcn_low : unwrap_or c.in_ok-run.run'.lcn c.loop-first.place.lcn < cluster_limit = lcn_low c.loop-first.place.lcn c.in_ok-run.run'.lcn c.loop-first.invariant.lcn c.in_ok-run.ensures.lcn in
    let longer : length c.push.new.self ≡ length c.loop-first.runs + 1 = ap length c.in_ok-push.ensures.pushed ∙ length-append c.loop-first.runs (c.in_ok-run.run' ∷ []) in
    record {
      passed = omega (arith, c.in-Some.ensures.cases.1);
      few = omega arith;
      clusters = omega (arith, c.in_ok-run.ensures.clusters);
      lcn = omega (arith, lcn_is, lcn_low);
      read = went_on c.args.pairs.now c.args.first_vcn c.loop-first.runs c.push.new.self (place_of c.loop-first.place) (place_of c.behind-place.result) c.loop-first.rest.now c.in-Some.bytes.now c.split_at.result.1.now c.in-Some.first.now c.width.result c.in_ok-run.run' _ c.in-Some.ensures.cases.0 c.if-header-eq0.false (sym c.in_ok-run.ensures.value) c.in_ok-push.ensures.pushed behind_is c.width.ensures c.split_at.ensures.back (omega (arith, c.in-Some.ensures.cases.1)) c.loop-first.invariant.read;
    }

pub returns : goal.returns
returns c = record { value = cut_off c.loop-first.runs _ c.args.first_vcn (place_of c.loop-first.place) c.loop-first.rest.now _ c.in_default.ensures.cases c.loop-first.invariant.read }
