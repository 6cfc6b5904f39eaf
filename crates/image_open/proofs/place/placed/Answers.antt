use Rattle.std.proofs.Common.{ℕ, ◌*◌, ◌/◌, ◌<◌, ◌≤◌, ap, arith}
use Rattle.std.proofs.lemmas.Grind.{div_ceil_times}
use Rattle.image_open.specs.LogPlaces.{stream_place}
use Rattle.image_open.proofs.Alike.{streams_alike}
use Rattle.image_open.proofs.place.placed.Goals as goal

pub returns-clause-value : goal.returns-clause-value
unfolding stream_place
returns-clause-value c =
    let pages = c.args.extents.now.real / 4096 in
    let count = c.div_ceil-end.result * c.args.per in
    let end = rw c.sectors-size.ensures.value at c.div_ceil-end.ensures in
    let some : 0 < c.args.per = omega (arith, c.sectors-size.ensures.some, c.sectors-size.ensures.value) in
    let enough : 8 * pages ≤ count = omega (arith, end, (div_ceil_times (8 * pages) c.args.per some).0, ap (λ (n : ℕ). n * c.args.per) end) in
    let are = c.in_ok-sectors.ensures.value in
    rw c.log_of.ensures.value (streams_alike c.args.per c.args.clusters c.args.device pages c.args.extents.now.initialised count c.args.extents.now.runs c.in_ok-sectors.sectors.items enough are)
