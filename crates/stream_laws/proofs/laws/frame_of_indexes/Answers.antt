use Rattle.stream_laws.proofs.Framing.{same_node, same_walk, same_search, same_place, same_links}
use Rattle.stream_laws.proofs.laws.frame_of_indexes.Goals as goal

pub returns : goal.returns
returns c = record { node = same_node; walk = same_walk; search = same_search; of_directory = same_place; links = same_links }
