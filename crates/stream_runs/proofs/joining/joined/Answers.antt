use Rattle.std.proofs.Common.{◌≡◌, ℕ, ◌+◌, ◌≤◌, List, [], ◌∷◌, ◌++◌, get_or, drop, true, false, None, refl, sym, ap, ap₂, ◌∙◌, subst, arith}
use Rattle.std.proofs.lemmas.List.{nil_from_length}
use Rattle.std.proofs.lemmas.List.Elements.{All-head, All-tail, All-get_or}
use Rattle.volume_model.specs.record_model.declared.runs.Run.{Run}
use Rattle.volume_model.specs.record_model.Pairs.{cluster_limit}
use Rattle.volume_model.specs.record_model.Runs.{IsSmall, AreSmall}
use Rattle.volume_model.specs.state_model.Loads.{total_clusters}
use Rattle.stream_runs.specs.Runs.{touches, in_front, merged}
use Rattle.stream_runs.proofs.Merging.{both, merged-cons, merged-nil}
use Rattle.stream_runs.proofs.Looping.{total_next, joins, parts, all_joined}
use Rattle.stream_runs.proofs.joining.joined.Goals as goal
use Rattle.stream_runs.proofs.joining.joined.Goals.{then-touches, else-touches+in_ok-push}

abbrev none : Run
none = record { vcn = 0; lcn = None; len = 0 }

pub returns-in_default : goal.returns-in_default
returns-in_default c = c.new-new.ensures ∙ sym (ap merged (nil_from_length c.args.runs.now c.in_default.ensures.cases) ∙ merged-nil)

pub loop-run-init : goal.loop-run-init
loop-run-init c =
    let first = c.in-Some.first.now in
    let rest = c.in-Some.rest.now in
    let is : c.args.runs.now ≡ first ∷ rest = c.in-Some.ensures.cases.0 in
    record {
      runs = ap (λ (l : List Run). l ++ in_front first (merged rest)) c.new-new.ensures ∙ sym (ap merged is ∙ merged-cons first rest);
      small = All-head IsSmall first rest (subst AreSmall is c.requires.small);
      few = omega (arith, c.requires.few, ap total_clusters is);
    }

pub loop-run-preserved : goal.loop-run-preserved
loop-run-preserved c =
    let rest = c.in-Some.rest.now in
    let i = c.loop-run.run-index in
    let last = c.loop-run.last in
    let next = get_or rest i none in
    let is : c.args.runs.now ≡ c.in-Some.first.now ∷ rest = c.in-Some.ensures.cases.0 in
    let all_small : AreSmall rest = All-tail IsSmall c.in-Some.first.now rest (subst AreSmall is c.requires.small) in
    let next_small : IsSmall next = All-get_or IsSmall rest i none c.loop-run-test.true all_small in
    let sum = total_next rest i none c.loop-run-test.true in
    let before = c.loop-run.invariant in
    elim c.if-touches.branch [
      | then-touches w ↦
          (let touch : touches last.lcn last.len next.lcn ≡ true = sym c.touches.ensures ∙ w.if-touches.true in
          let short : last.len + next.len ≤ cluster_limit = omega (arith, before.few, sum) in
          record {
            runs = ap₂ (λ (n : List Run) (l : Run). n ++ in_front l (merged (drop (i + 1) rest))) w.new-is w.last-is ∙ joins (merged c.args.runs.now) c.loop-run.new last rest i none c.loop-run-test.true touch before.runs;
            small = subst IsSmall (sym w.last-is) (record { vcn = before.small.vcn; lcn = before.small.lcn; len = short });
            few = omega (arith, before.few, sum, ap (λ (l : Run). l.len) w.last-is);
          })
      | else-touches+in_ok-push w ↦
          (let apart : touches last.lcn last.len next.lcn ≡ false = sym c.touches.ensures ∙ w.if-touches.false in
          record {
            runs = ap₂ (λ (n : List Run) (l : Run). n ++ in_front l (merged (drop (i + 1) rest))) (w.new-is ∙ w.in_ok-push.ensures.pushed) w.last-is ∙ parts (merged c.args.runs.now) c.loop-run.new last rest i none c.loop-run-test.true apart before.runs;
            small = subst IsSmall (sym w.last-is) next_small;
            few = omega (arith, before.few, sum, ap (λ (l : Run). l.len) w.last-is);
          })
    ]

pub returns : goal.returns
returns c = c.in_ok-push-2.ensures.pushed ∙ all_joined (merged c.args.runs.now) c.loop-run.new c.loop-run.last c.in-Some.rest.now c.loop-run.run-index c.loop-run-test.false c.loop-run.invariant.runs
