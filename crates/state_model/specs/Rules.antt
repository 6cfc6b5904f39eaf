-- The rules under which a file table stands for a tree, each a test at the number of a record.
use Rattle.std.specs.Prelude.{ℕ, zero, suc, ◌+◌, Bool, true, false, not, ◌&&◌, ◌||◌, ◌==◌, nat_le, nat_eq, List, [], ◌∷◌, length, count_by, find, Option, Some, None}
use Rattle.std.specs.List.{list_all, list_any, range_with_len}
use Rattle.std.specs.Cmp.Lexicographic.{pointwise}
use Rattle.record_model.specs.host_base.declared.file_ref.FileRef.{FileRef}
use Rattle.record_model.specs.host_base.FileRefs.{same_reference}
use Rattle.record_model.specs.Records.{Record}
use Rattle.record_model.specs.Constants.{standard_information}
use Rattle.file_tree.specs.declared.link.Link.{Link}
use Rattle.file_tree.specs.Names.{comes_before}
use Rattle.file_tree.specs.Trees.{win32_space, is_short, is_long}
use Rattle.state_model.specs.declared.broken.Broken.{Broken}
use Rattle.state_model.specs.Files.{Table, file_at, links_at, record_links, is_directory_record, has_type}
use Rattle.file_tree.specs.Walks.{first_user_record}
use Rattle.state_model.specs.Trees.{leads}

abbrev pub implies : Bool → Bool → Bool
implies a b = not a || b

-- the names agree in file, directory, namespace and units
abbrev pub same_link : Link → Link → Bool
same_link a b = same_reference a.child b.child && same_reference a.parent b.parent && a.space == b.space && pointwise nat_eq a.name b.name

-- ---- rule 1: the names of a record

abbrev pub is_partner : Link → Link → Bool
is_partner short l = l.space == win32_space && same_reference l.parent short.parent

-- a short name has a Win32 name of the same directory beside it
unfoldable pub has_partner : List Link → Link → Bool
has_partner links l = implies (is_short l) (list_any (is_partner l) links)

abbrev pub is_short_in : FileRef → Link → Bool
is_short_in parent l = is_short l && same_reference l.parent parent

-- no second short name of its directory
unfoldable pub is_only_short : List Link → Link → Bool
is_only_short links l = implies (is_short l) (count_by (is_short_in l.parent) links == 1)

abbrev pub long_count : List Link → ℕ
long_count links = count_by is_long links

-- A file of a user has a long name, a directory exactly one, and a file of a user that is no directory standard
-- information; each short name has its partner, and is the only one of its directory.
unfoldable pub keeps_names : ℕ → Record → List Link → Bool
keeps_names n r links =
    implies (nat_le first_user_record n) (nat_le 1 (long_count links))
    && implies (is_directory_record r) (long_count links == 1)
    && implies (nat_le first_user_record n && not (is_directory_record r)) (has_type standard_information r)
    && list_all (has_partner links) links
    && list_all (is_only_short links) links

-- what is asked of files holds where there is none
abbrev pub at_file : (Record → Bool) → Option Record → Bool
at_file test None = true
at_file test (Some r) = test r

unfoldable pub keeps_1 : Table → ℕ → Bool
keeps_1 p n = at_file (λ r. keeps_names n r (record_links n r)) (file_at p n)

-- ---- rule 2: each name's directory

abbrev pub is_directory_with : ℕ → Option Record → Bool
is_directory_with seq None = false
is_directory_with seq (Some r) = is_directory_record r && r.head.seq == seq

-- the reference is that of a directory
unfoldable pub is_directory_at : Table → FileRef → Bool
is_directory_at p file = is_directory_with file.seq (file_at p file.number)

unfoldable pub keeps_2 : Table → ℕ → Bool
keeps_2 p n = list_all (λ (l : Link). is_directory_at p l.parent) (links_at p n)

-- ---- rule 3: each directory's index

-- how many of these names stand in this directory
unfoldable pub count_in : FileRef → List Link → ℕ
count_in directory links = count_by (λ (l : Link). same_reference l.parent directory) links

-- how many names of the first n records stand in this directory
unfoldable pub names_in : Table → FileRef → ℕ → ℕ
names_in p directory zero = 0
names_in p directory (suc n) = names_in p directory n + count_in directory (links_at p n)

-- each name comes before the next
unfoldable pub is_rising : List ℕ → List Link → Bool
is_rising upper [] = true
is_rising upper (a ∷ []) = true
is_rising upper (a ∷ b ∷ links) = comes_before upper a.name b.name && is_rising upper (b ∷ links)

-- the link is a name in this directory of the file that it names
unfoldable pub is_name_in : Table → FileRef → Link → Bool
is_name_in p directory l = same_reference l.parent directory && list_any (same_link l) (links_at p l.child.number)

-- The index's names rise, each is a name of its file in this directory, and they are as many as there are such names: so
-- they are these names in order, and no two have equal units.
unfoldable pub is_index : List ℕ → Table → ℕ → FileRef → List Link → Bool
is_index upper p count directory links = is_rising upper links && list_all (is_name_in p directory) links && length links == names_in p directory count

-- ---- rule 8: each directory's way up

unfoldable pub keeps_8 : Table → ℕ → ℕ → Bool
keeps_8 p count n = at_file (λ r. implies (is_directory_record r) (leads p count n)) (file_at p n)

-- ---- what is broken first

abbrev pub broken_or : ℕ → Option ℕ → Option Broken → Option Broken
broken_or rule (Some n) next = Some (record { rule = rule; number = n })
broken_or rule None next = next

-- the least number below the count at which the test fails
unfoldable pub first_failing : (ℕ → Bool) → ℕ → Option ℕ
first_failing test count = find (λ n. not (test n)) (range_with_len 0 count)
