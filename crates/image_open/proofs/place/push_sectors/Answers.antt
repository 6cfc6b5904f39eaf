use Rattle.std.proofs.Common.{ℕ, ◌-◌, ◌*◌, ap, ◌∙◌, arith}
use Rattle.image_open.specs.LogPlaces.{stream_sector}
use Rattle.image_open.proofs.Stretches.{more_sectors}
use Rattle.image_open.proofs.place.push_sectors.Goals as goal

pub returns-clause-value : goal.returns-clause-value
returns-clause-value c =
    more_sectors c.args.per c.args.runs.now c.args.v c.args.next c.stream_sector-first.result _ c.args.sectors.now.items c.push.new.self.items (omega (arith, c.sectors-size.ensures.some, c.sectors-size.ensures.value)) c.requires.above c.requires.alike (c.stream_sector-first.ensures.value ∙ ap (λ (s : ℕ). stream_sector c.args.per c.args.runs.now (c.args.v * s)) c.sectors-size.ensures.value) (ap (λ (s : ℕ). (c.args.next - c.args.v) * s) c.sectors-size.ensures.value) c.in_ok-push.ensures.items
