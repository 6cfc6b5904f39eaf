use Rattle.std.proofs.Common.{◌≡◌, [], ◌∷◌, ◌++◌, ap, arith}
use Rattle.std.proofs.lemmas.Grind.{common_steps}
use Rattle.stream_rules.proofs.RunPlaces.{places_none, places_with, places_without}
use Rattle.stream_rules.proofs.places.places_of.Goals as goal
use Rattle.stream_rules.proofs.places.places_of.Goals.{in-Some+in_ok-map_err, in_default}

pub loop-run-init : goal.loop-run-init
loop-run-init c = places_none c.args.clusters c.args.runs.now _ c.new-places.ensures.items

pub loop-run-preserved : goal.loop-run-preserved
loop-run-preserved c =
    elim c.match-place_of.branch [
      | in-Some+in_ok-map_err w ↦ (
          let pushed : c.match-place_of.places.items ≡ c.loop-run.places.items ++ w.in-Some.place ∷ [] = grind (arith, common_steps) in
          places_with c.args.clusters c.args.runs.now c.loop-run.run-index _ c.loop-run.places.items _ w.in-Some.place c.loop-run-test.true w.in-Some.ensures.below w.in-Some.ensures.same pushed c.loop-run.invariant)
      | in_default w ↦ places_without c.args.clusters c.args.runs.now c.loop-run.run-index _ c.loop-run.places.items _ c.loop-run-test.true w.in_default.ensures.same (ap (λ v. v.items) w.places-is) c.loop-run.invariant
    ]
