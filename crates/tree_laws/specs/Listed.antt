-- Rule 3 at a directory in which a file gets other names.
use Rattle.std.specs.Prelude.{◌≡◌, ◌≢◌, ℕ, ◌+◌, ◌<◌, true, false, List, [], ◌∷◌, length, Some}
use Rattle.std.specs.List.{list_all, AllByRecursion}
use Rattle.volume_state.specs.host_base.declared.file_ref.FileRef.{FileRef}
use Rattle.volume_state.specs.disk_model.Content.{Content}
use Rattle.volume_state.specs.record_model.Records.{Record}
use Rattle.volume_state.specs.file_tree.declared.link.Link.{Link}
use Rattle.volume_state.specs.state_model.Files.{Table, links_at, reference, is_directory_record}
use Rattle.volume_state.specs.state_model.Rules.{same_link, count_in, is_rising, is_name_in, is_index}
use Rattle.volume_state.specs.volume_model.Volumes.{Volume, files_by_number, count_of, file_in}
use Rattle.volume_state.specs.volume_model.Indexes.{index_links, keeps_index}
use Rattle.stream_laws.specs.Replacing.{SameBut}
use Rattle.tree_laws.specs.Keeping.{PartReplaced}
use Rattle.tree_laws.specs.Leaves.{names_there}

-- each file but this one has the same names in the directory
abbrev pub KeepsThereBut : ℕ → FileRef → Table → Table → Type 0
KeepsThereBut n directory p q = (m : ℕ) → m ≢ n → names_there directory (links_at q m) ≡ names_there directory (links_at p m)

-- A directory keeps the rule where its index holds the names that it has to. It goes on holding them where all files but one keep
-- their names there, however many change and whether the directory is among them, and the index has as many names more or less as
-- that file has there, all of them names of files. So it does where the file has one name more there and the index too, or one name
-- less, or another one.
pub record IndexListed : Type 0 where
  pub listed : (c : Content) (v : Volume) (upper : List ℕ) (n : ℕ) (r : Record) → file_in v n ≡ Some r → is_directory_record r ≡ true → keeps_index c v upper n ≡ true
      → (links : List Link) × (index_links c v.per upper r ≡ Some links) × (is_index upper (files_by_number v) (count_of v) (reference n r) links ≡ true)
  pub kept : (c : Content) (v : Volume) (upper : List ℕ) (n : ℕ) (r : Record) (links : List Link) → file_in v n ≡ Some r → index_links c v.per upper r ≡ Some links → is_index upper (files_by_number v) (count_of v) (reference n r) links ≡ true → keeps_index c v upper n ≡ true
  pub elsewhere : (p q : Table) (n : ℕ) (directory : FileRef) → SameBut n p q → KeepsThereBut n directory p q
  pub stays : (upper : List ℕ) (p q : Table) (n count : ℕ) (directory : FileRef) (links : List Link) → KeepsThereBut n directory p q → names_there directory (links_at q n) ≡ names_there directory (links_at p n) → is_index upper p count directory links ≡ true → is_index upper q count directory links ≡ true
  pub changed : (upper : List ℕ) (p q : Table) (n count : ℕ) (directory : FileRef) (old new : List Link) → n < count → KeepsThereBut n directory p q → length new + count_in directory (links_at p n) ≡ length old + count_in directory (links_at q n)
      → is_rising upper new ≡ true → list_all (is_name_in q directory) new ≡ true → is_index upper p count directory old ≡ true → is_index upper q count directory new ≡ true
  pub more : (upper : List ℕ) (p q : Table) (n count : ℕ) (directory : FileRef) (l k : Link) (old new : List Link) → n < count → KeepsThereBut n directory p q → PartReplaced [] (l ∷ []) (names_there directory (links_at p n)) (names_there directory (links_at q n)) → PartReplaced [] (k ∷ []) old new
      → is_rising upper new ≡ true → is_name_in q directory k ≡ true → is_index upper p count directory old ≡ true → is_index upper q count directory new ≡ true
  pub less : (upper : List ℕ) (p q : Table) (n count : ℕ) (directory : FileRef) (l k : Link) (old new : List Link) → n < count → KeepsThereBut n directory p q → PartReplaced (l ∷ []) [] (names_there directory (links_at p n)) (names_there directory (links_at q n)) → PartReplaced (k ∷ []) [] old new
      → is_rising upper new ≡ true → AllByRecursion (λ j. same_link j l ≡ false) new → is_index upper p count directory old ≡ true → is_index upper q count directory new ≡ true
  pub other : (upper : List ℕ) (p q : Table) (n count : ℕ) (directory : FileRef) (l m k j : Link) (old middle new : List Link) → n < count → KeepsThereBut n directory p q → PartReplaced (l ∷ []) (m ∷ []) (names_there directory (links_at p n)) (names_there directory (links_at q n)) → PartReplaced (k ∷ []) [] old middle → PartReplaced [] (j ∷ []) middle new
      → is_rising upper new ≡ true → AllByRecursion (λ i. same_link i l ≡ false) middle → is_name_in q directory j ≡ true → is_index upper p count directory old ≡ true → is_index upper q count directory new ≡ true
