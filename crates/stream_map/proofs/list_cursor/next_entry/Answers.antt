use Rattle.std.proofs.Common.{◌≡◌, ℕ, ◌-◌, ◌<◌, ap, arith}
use Rattle.state_model.specs.Streams.{real_size}
use Rattle.stream_map.specs.ListFronts.{front_of}
use Rattle.stream_map.proofs.ListReading.{told, step_ended, step_faulty, step_next}
use Rattle.stream_map.proofs.list_cursor.next_entry.Goals as goal

pub returns-then-left-eq0-clause-step : goal.returns-then-left-eq0-clause-step
returns-then-left-eq0-clause-step g c =
    let e : real_size c.args.stream.now - c.args.at.now ≡ 0 = omega (arith, c.real_size.ensures, c.if-left-eq0.true) in
    step_ended (g.V.View.content c.args.v.now) c.args.per c.args.stream.now c.args.at.now e

pub returns-in-Some-clause-step : goal.returns-in-Some-clause-step
unfolding front_of
returns-in-Some-clause-step g c =
    step_next (g.V.View.content c.args.v.now) c.args.per c.args.stream.now c.args.at.now c.in_ok-entry.field-0 c.in-Some.field-0 c.from.result c.in-Some.is c.from.ensures
    (told (g.V.View.content c.args.v.now) c.args.per c.args.stream.now c.args.at.now (c.real_size.result - c.args.at.now) c.front.new.out c.in_ok-entry.field-0
    (ap (λ (n : ℕ). n - c.args.at.now) c.real_size.ensures) c.in_ok-front.ensures.bytes c.in_ok-entry.ensures.value)

pub returns-in-None-clause-step : goal.returns-in-None-clause-step
unfolding front_of
returns-in-None-clause-step g c =
    let some : 0 < real_size c.args.stream.now - c.args.at.now = omega (arith, c.real_size.ensures, c.if-left-eq0.false) in
    step_faulty (g.V.View.content c.args.v.now) c.args.per c.args.stream.now c.args.at.now c.in_ok-entry.field-0 some c.in-None.is
    (told (g.V.View.content c.args.v.now) c.args.per c.args.stream.now c.args.at.now (c.real_size.result - c.args.at.now) c.front.new.out c.in_ok-entry.field-0
    (ap (λ (n : ℕ). n - c.args.at.now) c.real_size.ensures) c.in_ok-front.ensures.bytes c.in_ok-entry.ensures.value)
