-- The names that stand in a directory, among all names of a volume and in its own index.
use Rattle.std.specs.Prelude.{◌≡◌, ℕ, true, List, Option, Some, None}
use Rattle.std.specs.List.{filter}
use Rattle.std.specs.List.Sorted.{IsPermutation}
use Rattle.disk_model.specs.Content.{Content}
use Rattle.tree_laws.specs.record_model.Records.{Record}
use Rattle.file_tree.specs.declared.link.Link.{Link}
use Rattle.file_tree.specs.Trees.{is_in, look_up, IsListing}
use Rattle.tree_laws.specs.state_model.Files.{is_directory_record}
use Rattle.tree_laws.specs.state_model.Rules.{is_rising}
use Rattle.tree_laws.specs.state_model.Trees.{all_links}
use Rattle.tree_laws.specs.volume_model.Volumes.{Volume, files_by_number, count_of, file_in, upper_of}
use Rattle.tree_laws.specs.volume_model.Indexes.{index_links}
use Rattle.tree_laws.specs.volume_state.Rules.{broken_2, broken_3}
use Rattle.lookup_laws.specs.Names.{named_so, chosen_of, long_units}

-- These are the names that stand in this directory, among those of all files, and they rise. So no two of them have equal units.
pub record AreNamesThere (upper : List ℕ) (all : List Link) (n : ℕ) (links : List Link) : Type 0 where
  pub same : IsPermutation (filter (is_in n) all) links
  pub rising : is_rising upper links ≡ true

-- Where rules 2 and 3 are kept, a directory's index holds the names that stand in the directory, among all names of the volume. Then a
-- look-up among all names finds what is chosen among the names that a search of the index gives, and the long names of the index are
-- the listing.
pub record DirectoryByIndex : Type 0 where
  pub held : (c : Content) (v : Volume) (n : ℕ) (r : Record) → broken_2 v ≡ None → broken_3 c v ≡ None → file_in v n ≡ Some r → is_directory_record r ≡ true
      → (links : List Link) × (index_links c v.per (upper_of c v) r ≡ Some links) × AreNamesThere (upper_of c v) (all_links (files_by_number v) (count_of v)) n links
  pub found : (upper : List ℕ) (all : List Link) (n : ℕ) (links : List Link) (part : List ℕ) → AreNamesThere upper all n links → look_up upper all n part ≡ chosen_of part (named_so upper part links)
  pub listed : (upper : List ℕ) (all : List Link) (n : ℕ) (links : List Link) → AreNamesThere upper all n links → IsListing upper all n (long_units links)
