use Rattle.std.proofs.Common.{◌≡◌, subst, ℕ, ◌+◌, ◌<◌, ◌≤◌, List, length, take, get_or, refl, sym, ◌∙◌, arith}
use Rattle.std.proofs.lemmas.List.{take_all, take_more_set, length-take-le, length-set, get_or-set_other}
use Rattle.run_model.specs.declared.turn.Turn.{Turn}
use Rattle.change_run.specs.Turns.{IsBlank}
use Rattle.change_run.specs.Runs.{RunsSoFar}
use Rattle.change_run.proofs.Blanks.{no_command, asks}
use Rattle.change_run.proofs.Steps.{none_yet, one_more}
use Rattle.change_run.proofs.running.run_turns.Goals as goal

pub loop-i-init : goal.loop-i-init
loop-i-init g c = (none_yet g.D.Device.gives g.D.Device.sector_count g.D.Device.moment_of g.D.Device.fault_count g.D.Device.changes_of g.met.D.Device.over c.args.script.now c.args.time c.args.volume.now, refl, λ j t le. refl)

pub take_turn-requires : goal.take_turn-requires
take_turn-requires g c =
    let inv = c.loop-i.invariant in
    let item = c.index-turns-i-in-loop-i-2.result in
    let here = inv.2 c.loop-i.i item (omega arith) in
    let lt = c.loop-i-test.true in
    let many = c.requires.blank.many in
    let few : c.loop-i.i < length c.args.script.now = omega (arith, lt, many) in
    let blank = subst (λ (t : Turn). IsBlank (get_or c.args.script.now c.loop-i.i no_command) (c.loop-i.i + 1) t) (sym here) (c.requires.blank.each c.loop-i.i no_command item few) in
    let asked = asks c.args.script.now c.loop-i.i no_command (c.loop-i.i + 1) (get_or c.loop-i.turns c.loop-i.i item) c.requires.asked few blank in
    let place = blank.place in
    let early = c.requires.early in
    record { asked = asked.0; bounds = asked.1; some = omega (arith, place); early = omega (arith, place, early, few) }

pub loop-i-preserved : goal.loop-i-preserved
loop-i-preserved g c =
    let inv = c.loop-i.invariant in
    let item = c.index-turns-i-in-loop-i-2.result in
    let here = inv.2 c.loop-i.i item (omega arith) in
    let lt = c.loop-i-test.true in
    let many = c.requires.blank.many in
    let few : c.loop-i.i < length c.args.script.now = omega (arith, lt, many) in
    let long = inv.1 in
    let inside : c.loop-i.i < length c.loop-i.turns = omega (arith, lt, long) in
    let blank = subst (λ (t : Turn). IsBlank (get_or c.args.script.now c.loop-i.i no_command) (c.loop-i.i + 1) t) (sym here) (c.requires.blank.each c.loop-i.i no_command item few) in
    let asked = asks c.args.script.now c.loop-i.i no_command (c.loop-i.i + 1) (get_or c.loop-i.turns c.loop-i.i item) c.requires.asked few blank in
    let more = one_more g.D.Device.gives g.D.Device.sector_count g.D.Device.moment_of g.D.Device.fault_count g.D.Device.changes_of g.met.D.Device.over c.args.script.now c.args.time c.loop-i.i (take c.loop-i.i c.loop-i.turns) c.args.volume.now c.loop-i.volume c.take_turn.new.volume (get_or c.loop-i.turns c.loop-i.i item) c.take_turn.new.turn no_command few
    (length-take-le c.loop-i.i c.loop-i.turns (omega (arith, inside))) blank asked.0 inv.0 c.take_turn.ensures in (
      subst (λ (ts : List Turn). RunsSoFar g.D.Device.gives g.D.Device.sector_count g.D.Device.moment_of g.D.Device.fault_count g.D.Device.changes_of c.args.script.now c.args.time (c.loop-i.i + 1) ts c.args.volume.now c.take_turn.new.volume)
          (sym (take_more_set c.loop-i.turns c.loop-i.i c.take_turn.new.turn inside)) more,
      length-set c.loop-i.turns c.loop-i.i c.take_turn.new.turn ∙ inv.1,
      λ j t le. get_or-set_other c.loop-i.turns c.loop-i.i j c.take_turn.new.turn t (λ same. omega (arith, le, same)) ∙ inv.2 j t (omega (arith, le)),
    )

pub returns : goal.returns
returns g c =
    let inv = c.loop-i.invariant in
    let stops = c.loop-i-test.false in
    let most = c.loop-i.auto.i-end in
    let many = c.requires.blank.many in
    let long = inv.1 in
    let ends : c.loop-i.i ≡ length c.args.script.now = omega (arith, stops, most, many) in
    let whole : length c.loop-i.turns ≤ c.loop-i.i = omega (arith, stops, long) in
    subst (λ (n : ℕ). RunsSoFar g.D.Device.gives g.D.Device.sector_count g.D.Device.moment_of g.D.Device.fault_count g.D.Device.changes_of c.args.script.now c.args.time n c.loop-i.turns c.args.volume.now c.loop-i.volume) ends
    (subst (λ (ts : List Turn). RunsSoFar g.D.Device.gives g.D.Device.sector_count g.D.Device.moment_of g.D.Device.fault_count g.D.Device.changes_of c.args.script.now c.args.time c.loop-i.i ts c.args.volume.now c.loop-i.volume) (take_all c.loop-i.i c.loop-i.turns whole) inv.0)
