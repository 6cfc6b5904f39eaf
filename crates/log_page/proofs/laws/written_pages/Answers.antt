use Rattle.log_page.proofs.Mixed.{new_or_old, old_sector_shows, other_lap_shows}
use Rattle.log_page.proofs.laws.written_pages.Goals as goal

pub returns : goal.returns
returns c = record { new_or_old = new_or_old; old_sector_shows = old_sector_shows; other_lap_shows = other_lap_shows }
