use Rattle.std.proofs.Common.{◌≡◌, ℕ, ◌*◌, ◌<◌, List, Some, subst}
use Rattle.log_reading.specs.log_page.declared.places.Extent.{Extent}
use Rattle.log_reading.specs.LogPages.{sector_in}
use Rattle.log_area.proofs.Firsts.{first_found}
use Rattle.log_area.proofs.places.page_first.Goals as goal

pub returns : goal.returns
returns c = first_found c.args.place.now c.args.page c.sector_in.result c.requires.ring c.requires.inside (subst (λ (runs : List Extent). (s : ℕ) → s < c.args.place.now.device → sector_in runs (8 * c.args.page) ≡ Some s → c.sector_in.result ≡ s) c.as_slice.ensures c.sector_in.ensures)
