use Rattle.std.proofs.Common.{◌≡◌, map}
use Rattle.std.specs.List.{range_with_len}
use Rattle.log_area.specs.Areas.{page_first}
use Rattle.log_area.proofs.places.page_firsts.Given as goal

abbrev pub invariant-loop-page : goal.invariant-loop-page
invariant-loop-page l = l.firsts.items ≡ map (page_first l.place) (range_with_len 0 l.page)
