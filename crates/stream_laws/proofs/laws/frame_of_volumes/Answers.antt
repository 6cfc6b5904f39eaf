use Rattle.stream_laws.proofs.Loading.{same_files, same_volume, volume_stays}
use Rattle.stream_laws.proofs.laws.frame_of_volumes.Goals as goal

pub returns : goal.returns
returns c = record { files = same_files; volume = same_volume; stays = volume_stays }
