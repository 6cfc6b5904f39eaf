use Rattle.volume_tree.specs.volume_map.Maps.{volume_in}
use Rattle.volume_state.specs.Rules.{broken_6}
use Rattle.volume_check.specs.Steps.{from_6, from_7}
use Rattle.volume_check.proofs.Steps.{stops, goes_on, six_is}
use Rattle.volume_check.proofs.rules.from_6.Goals as goal

pub returns-in-Some : goal.returns-in-Some
unfolding from_6
returns-in-Some c = λ content are.
    let v = volume_in c.args.volume.now.map.now in
    stops 6 c.in-Some.number c.in_ok-number.field-0 (broken_6 content v) (from_7 content v) c.in-Some.is (six_is content c.args.volume.now.map.now c.args.runs.now _ are c.requires.runs c.in_ok-number.ensures)

pub returns-in-None : goal.returns-in-None
unfolding from_6
returns-in-None c = λ content are.
    let v = volume_in c.args.volume.now.map.now in
    goes_on 6 c.in_ok-number.field-0 (broken_6 content v) (from_7 content v) c.from_7.result c.in-None.is (six_is content c.args.volume.now.map.now c.args.runs.now _ are c.requires.runs c.in_ok-number.ensures) (c.from_7.ensures content are)
