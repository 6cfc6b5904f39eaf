-- What is found and listed in the index of a directory of a loaded volume.
use Rattle.std.specs.Prelude.{ℕ, List, Option, Some, None, Result, Ok, Err}
use Rattle.std.specs.Option.{option_map}
use Rattle.host_base.specs.Answers.{◌>>=◌}
use Rattle.disk_model.specs.Content.{Content}
use Rattle.volume_tree.specs.record_model.Records.{Record}
use Rattle.file_tree.specs.declared.link.Link.{Link}
use Rattle.volume_tree.specs.index_model.Indexes.{Place}
use Rattle.volume_tree.specs.index_model.Walks.{find_of}
use Rattle.volume_tree.specs.volume_model.Volumes.{Volume, file_in}
use Rattle.volume_tree.specs.volume_model.Indexes.{index_place, root_value, index_links}
use Rattle.lookup_laws.specs.Names.{chosen_of, long_units}

-- where an index lies, and its root's value
pub record Rooted : Type 0 where
  pub place : Place
  pub root : List ℕ

abbrev pub some_or_none : {A : Type 0} → Option A → Result A (Unit {0})
some_or_none None = Err tt
some_or_none (Some x) = Ok x

-- a value, or that there is none
abbrev pub or_none : {A F : Type 0} → Result A F → Result A (Unit {0})
or_none (Ok x) = Ok x
or_none (Err e) = Err tt

-- the index of a file's names
abbrev pub rooted_in : ℕ → Option Record → Option Rooted
rooted_in per None = None
rooted_in per (Some r) = option_map (λ (value : List ℕ). record { place = index_place per r; root = value }) (root_value r)

unfoldable pub index_at : Volume → ℕ → Result Rooted (Unit {0})
index_at v n = some_or_none (rooted_in v.per (file_in v n))

-- the link that a part leads to, among those that a search of the directory's index gives
unfoldable pub link_found : Content → Volume → List ℕ → ℕ → List ℕ → Result (Option Link) (Unit {0})
link_found c v upper n part = index_at v n >>= λ i. or_none (find_of c i.place upper part i.root) >>= λ links. Ok (chosen_of part links)

-- the links of a directory's index
abbrev pub links_in : Content → ℕ → List ℕ → Option Record → Option (List Link)
links_in c per upper None = None
links_in c per upper (Some r) = index_links c per upper r

unfoldable pub links_held : Content → Volume → List ℕ → ℕ → Result (List Link) (Unit {0})
links_held c v upper n = some_or_none (links_in c v.per upper (file_in v n))

-- its names but the short ones
unfoldable pub names_held : Content → Volume → List ℕ → ℕ → Result (List (List ℕ)) (Unit {0})
names_held c v upper n = links_held c v upper n >>= λ links. Ok (long_units links)
