-- What stays of a volume where a file is replaced in which no other file has a name.
use Rattle.std.proofs.Common.{◌≡◌, ◌≢◌, ℕ, zero, suc, ◌<◌, Bool, true, false, not, cond, ◌&&◌, ◌||◌, eqb, List, [], ◌∷◌, ◌++◌, length, find, is_gt, Option, Some, None, refl, sym, ap, subst, ◌∙◌, inl, inr, arith}
use Rattle.std.specs.Prelude.{count_by}
use Rattle.std.specs.List.{filter, list_all, list_any, flat_map, range_with_len, cons_option, AllByRecursion}
use Rattle.std.specs.Option.{option_or, option_map}
use Rattle.std.proofs.lemmas.Bool.{cases_Bool, cases_lt, and_parts, and_from, and_left, and_right, both_ways, not-true, eqb-true, eqb-false, eq-eqb, ne_eqb}
use Rattle.std.proofs.lemmas.List.Elements.{filter-append}
use Rattle.std.proofs.lemmas.List.Sums.{sum_by-cons, length-filter}
use Rattle.volume_state.specs.host_base.declared.file_ref.FileRef.{FileRef}
use Rattle.volume_state.specs.host_base.FileRefs.{same_reference}
use Rattle.volume_state.specs.disk_model.Content.{Content}
use Rattle.volume_state.specs.record_model.Records.{Record}
use Rattle.volume_state.specs.file_tree.declared.link.Link.{Link}
use Rattle.volume_state.specs.file_tree.Names.{name_order, same_units, same_name}
use Rattle.volume_state.specs.file_tree.declared.node.Node.{Node}
use Rattle.volume_state.specs.file_tree.Trees.{is_in, first_of_two, first_in_order, same_links, look_up}
use Rattle.volume_state.specs.file_tree.Walks.{child_in}
use Rattle.volume_state.specs.state_model.declared.stream.Stream.{Stream}
use Rattle.volume_state.specs.state_model.Files.{Table, reference, record_links, file_links, file_at, links_at, is_directory_record}
use Rattle.volume_state.specs.state_model.Loads.{table_in}
use Rattle.volume_state.specs.state_model.Rules.{implies, at_file, same_link, is_directory_with, is_directory_at, keeps_2, count_in, names_in, is_name_in, keeps_8}
use Rattle.volume_state.specs.state_model.Trees.{first_parent, parent_at, is_system, all_links}
use Rattle.volume_state.specs.volume_model.Volumes.{Volume, files_by_number, count_of, file_in}
use Rattle.volume_state.specs.volume_model.Indexes.{index_links, lists_names, keeps_index}
use Rattle.volume_state.specs.volume_model.Nodes.{kind_in, some_node, node_at, nodes_by}
use Rattle.volume_state.specs.Journals.{extend_file, journal_name, journal_of}
use Rattle.volume_state.specs.Rules.{broken_2}
use Rattle.stream_laws.specs.Replacing.{SameBut, OneFileDiffers}
use Rattle.stream_laws.specs.Rewrites.{with_files}
use Rattle.tree_laws.specs.Keeping.{PartReplaced, is_directory_file}
use Rattle.tree_laws.specs.Parts.{journal_number}
use Rattle.tree_laws.specs.Ways.{IsOutside, KeepsWays}
use Rattle.tree_laws.specs.Leaves.{IsLeaf, names_there}
use Rattle.tree_laws.proofs.Naming.{names_elsewhere, file_elsewhere, this_or_other, no_names, links_of_all}
use Rattle.tree_laws.proofs.Ascending.{all_by, of_system_kept, rule_8_kept, own_children}
use Rattle.tree_laws.proofs.Climbing.{kind_from, node_from, nodes_by_others}
use Rattle.tree_laws.proofs.Parting.{holder_by_number}
use Rattle.tree_laws.proofs.Ruling.{no_directory, same_listed}
use Rattle.tree_laws.proofs.Agreeing.{same_asked, asked_if}
use Rattle.tree_laws.proofs.Keeping.{passes_below}

-- ---- the way up from the others

abbrev beside : ℕ → ℕ → Bool
beside n m = not (eqb m n)

is_beside : (n m : ℕ) → m ≢ n → beside n m ≡ true
is_beside n m other = ap not (ne_eqb m n other)

is_other : (n m : ℕ) → beside n m ≡ true → m ≢ n
is_other n m is = eqb-false m n (not-true (eqb m n) is)

parent_beside : (n k : ℕ) (links : List Link) → IsOutside n links → first_parent links ≡ Some k → k ≢ n
parent_beside n k [] outside is = absurd cc
parent_beside n k (l ∷ links) outside is = let same : l.parent.number ≡ k = cc in λ equal. outside.0 (same ∙ equal)

leaf_ways : (p q : Table) (n : ℕ) → SameBut n p q → IsLeaf n p → KeepsWays (beside n) p q
unfolding parent_at
leaf_ways p q n others leaf = record {
  names = λ m is. names_elsewhere p q n m others (is_other n m is);
  up = λ m k is parent. is_beside n k (parent_beside n k (links_at p m) (leaf m (is_other n m is)) parent);
}

pub leaf_8 : (p q : Table) (n count m : ℕ) → SameBut n p q → IsLeaf n p → m ≢ n → keeps_8 q count m ≡ keeps_8 p count m
leaf_8 p q n count m others leaf other = rule_8_kept (beside n) p q count m (leaf_ways p q n others leaf) (is_beside n m other) (file_elsewhere p q n m others other)

-- ---- rule 2

pub same_every : (f g : Link → Bool) (links : List Link) → AllByRecursion (λ l. g l ≡ f l) links → list_all g links ≡ list_all f links
same_every f g [] each = refl
same_every f g (l ∷ links) each = ap (λ (t : Bool). t && list_all g links) each.0 ∙ ap (λ (t : Bool). f l && t) (same_every f g links each.1)

directory_elsewhere : (p q : Table) (n : ℕ) (file : FileRef) → SameBut n p q → file.number ≢ n → is_directory_at q file ≡ is_directory_at p file
unfolding is_directory_at
directory_elsewhere p q n file others other = ap (is_directory_with file.seq) (file_elsewhere p q n file.number others other)

pub leaf_2 : (p q : Table) (n m : ℕ) → SameBut n p q → IsLeaf n p → m ≢ n → keeps_2 q m ≡ keeps_2 p m
unfolding keeps_2
leaf_2 p q n m others leaf other =
    ap (list_all (λ (l : Link). is_directory_at q l.parent)) (names_elsewhere p q n m others other)
    ∙ same_every (λ l. is_directory_at p l.parent) (λ l. is_directory_at q l.parent) (links_at p m)
    (all_by (λ l. l.parent.number ≢ n) (λ l. is_directory_at q l.parent ≡ is_directory_at p l.parent) (λ l apart. directory_elsewhere p q n l.parent others apart) (links_at p m) (leaf m other))

-- ---- rule 3

references : (a b : FileRef) → same_reference a b ≡ true → (a.number ≡ b.number) × (a.seq ≡ b.seq)
references a b is = let parts = and_parts _ _ is in (eqb-true a.number b.number parts.0, eqb-true a.seq b.seq parts.1)

from_references : (a b : FileRef) → a.number ≡ b.number → a.seq ≡ b.seq → same_reference a b ≡ true
from_references a b number seq = and_from _ _ (eq-eqb a.number b.number number) (eq-eqb a.seq b.seq seq)

not_same_link : (directory : FileRef) (l k : Link) → same_reference l.parent directory ≡ true → same_reference k.parent directory ≡ false → same_link l k ≡ false
not_same_link directory l k there elsewhere =
    let apart : same_reference l.parent k.parent ≡ false = elim (cases_Bool (same_reference l.parent k.parent)) [
      | inl same ↦
          (let here = references l.parent directory there in
          let both = references l.parent k.parent same in
          absurd (both_ways (same_reference k.parent directory) elsewhere (from_references k.parent directory (sym both.0 ∙ here.0) (sym both.1 ∙ here.1))))
      | inr other ↦ other
    ] in
    and_left _ _ (and_left _ _ (and_right _ _ apart))

-- a name of the directory is found among a file's names where it is found among those in the directory
pub found_there : (directory : FileRef) (l : Link) → same_reference l.parent directory ≡ true → (links : List Link) → list_any (same_link l) (names_there directory links) ≡ list_any (same_link l) links
found_there directory l there [] = refl
found_there directory l there (k ∷ links) = elim (cases_Bool (same_reference k.parent directory)) [
  | inl is ↦ rw is (ap (λ (t : Bool). same_link l k || t) (found_there directory l there links))
  | inr elsewhere ↦ rw elsewhere (found_there directory l there links ∙ sym (ap (λ (t : Bool). t || list_any (same_link l) links) (not_same_link directory l k there elsewhere)))
]

-- directories in which each file keeps its names
abbrev pub KeepsThere : FileRef → Table → Table → Type 0
KeepsThere directory p q = (j : ℕ) → names_there directory (links_at q j) ≡ names_there directory (links_at p j)

pub same_names_there : (p q : Table) (directory : FileRef) → KeepsThere directory p q → (l : Link) → is_name_in q directory l ≡ is_name_in p directory l
unfolding is_name_in
same_names_there p q directory same l = elim (cases_Bool (same_reference l.parent directory)) [
  | inl there ↦
      ap (λ (t : Bool). same_reference l.parent directory && t)
      (sym (found_there directory l there (links_at q l.child.number)) ∙ ap (list_any (same_link l)) (same l.child.number) ∙ found_there directory l there (links_at p l.child.number))
  | inr elsewhere ↦ rw elsewhere refl
]

pub count_there : (directory : FileRef) (links : List Link) → count_in directory links ≡ length (names_there directory links)
unfolding count_in
count_there directory links = sym (length-filter (λ (l : Link). same_reference l.parent directory) links)

pub same_counts : (p q : Table) (directory : FileRef) (count : ℕ) → KeepsThere directory p q → names_in q directory count ≡ names_in p directory count
unfolding names_in
same_counts p q directory zero same = refl
same_counts p q directory (suc count) same =
    let here : count_in directory (links_at q count) ≡ count_in directory (links_at p count) = count_there directory (links_at q count) ∙ ap length (same count) ∙ sym (count_there directory (links_at p count)) in
    let below = same_counts p q directory count same in
    omega (arith, here, below)

-- rule 3 at a file that stays, by what it asks of a directory
pub index_kept : (c : Content) (v : Volume) (files : List (Option Record)) (upper : List ℕ) (m : ℕ) → length files ≡ count_of v → file_in (with_files v files) m ≡ file_in v m
    → ((r : Record) → file_in v m ≡ Some r → is_directory_record r ≡ true → KeepsThere (reference m r) (table_in v.files) (table_in files)) → keeps_index c (with_files v files) upper m ≡ keeps_index c v upper m
unfolding keeps_index
index_kept c v files upper m count same keeps =
    let p = table_in v.files in
    let q = table_in files in
    let test : Table → ℕ → Record → Bool = λ t size k. implies (is_directory_record k) (lists_names upper t size (reference m k) (index_links c v.per upper k)) in
    ap (at_file (test q (length files))) same
    ∙ ap (λ (size : ℕ). at_file (test q size) (file_in v m)) count
    ∙ same_asked (test p (count_of v)) (test q (count_of v)) (file_in v m)
    (λ r is. asked_if (is_directory_record r) _ _ (λ directory.
    same_listed upper p q (count_of v) (reference m r) (index_links c v.per upper r)
    (same_names_there p q (reference m r) (keeps r is directory))
    (same_counts p q (reference m r) (count_of v) (keeps r is directory))))

pub leaf_3 : (c : Content) (v : Volume) (files : List (Option Record)) (upper : List ℕ) (n m : ℕ) (r : Record) → OneFileDiffers n v.files files → m ≢ n → file_in v m ≡ Some r
    → names_there (reference m r) (links_at (table_in files) n) ≡ names_there (reference m r) (links_at (table_in v.files) n) → keeps_index c (with_files v files) upper m ≡ keeps_index c v upper m
leaf_3 c v files upper n m r differs other is same =
    let p = table_in v.files in
    let q = table_in files in
    let keeps : (j : ℕ) → names_there (reference m r) (links_at q j) ≡ names_there (reference m r) (links_at p j) =
    λ j. this_or_other (λ (x : ℕ). names_there (reference m r) (links_at q x) ≡ names_there (reference m r) (links_at p x)) n j same (λ apart. ap (names_there (reference m r)) (names_elsewhere p q n j differs.others apart))
    in
    index_kept c v files upper m differs.count (file_elsewhere p q n m differs.others other)
    (λ k found directory. let same_file : k ≡ r = cc in subst (λ (x : Record). KeepsThere (reference m x) p q) (sym same_file) keeps)

-- ---- nodes

names_of_file : (p : Table) (n m : ℕ) (r : Record) → IsOutside n (links_at p m) → file_at p m ≡ Some r → IsOutside n (record_links m r)
unfolding links_at
names_of_file p n m r outside is = subst (λ (o : Option Record). IsOutside n (file_links m o)) is outside

pub leaf_kind : (v : Volume) (files : List (Option Record)) (n m : ℕ) (r : Record) → OneFileDiffers n v.files files → IsLeaf n (table_in v.files) → m ≢ n → file_in v m ≡ Some r → kind_in (with_files v files) m r ≡ kind_in v m r
leaf_kind v files n m r differs leaf other is =
    let p = table_in v.files in
    let q = table_in files in
    kind_from v (with_files v files) m r
    (of_system_kept (beside n) p q (length files) m (record_links m r) (leaf_ways p q n differs.others leaf)
    (all_by (λ l. l.parent.number ≢ n) (λ l. beside n l.parent.number ≡ true) (λ l apart. is_beside n l.parent.number apart) (record_links m r) (names_of_file p n m r (leaf m other) is))
    ∙ ap (λ (k : ℕ). is_system p k m (record_links m r)) differs.count)

leaf_some : (bytes : Option Stream → List ℕ) (v : Volume) (files : List (Option Record)) (n m : ℕ) (o : Option Record) → OneFileDiffers n v.files files → IsLeaf n (table_in v.files) → m ≢ n → file_in v m ≡ o → some_node bytes (with_files v files) m o ≡ some_node bytes v m o
leaf_some bytes v files n m None differs leaf other is = refl
leaf_some bytes v files n m (Some r) differs leaf other is = node_from bytes v (with_files v files) m r (leaf_kind v files n m r differs leaf other is)

pub leaf_node : (bytes : Option Stream → List ℕ) (v : Volume) (files : List (Option Record)) (n m : ℕ) → OneFileDiffers n v.files files → IsLeaf n (table_in v.files) → m ≢ n → node_at bytes (with_files v files) m ≡ node_at bytes v m
unfolding node_at
leaf_node bytes v files n m differs leaf other =
    ap (some_node bytes (with_files v files) m) (file_elsewhere (table_in v.files) (table_in files) n m differs.others other)
    ∙ leaf_some bytes v files n m (file_in v m) differs leaf other refl

pub leaf_nodes : (bytes : Option Stream → List ℕ) (v : Volume) (files : List (Option Record)) (n : ℕ) → OneFileDiffers n v.files files → IsLeaf n (table_in v.files)
    → PartReplaced (cons_option (node_at bytes v n) []) (cons_option (node_at bytes (with_files v files) n) []) (nodes_by bytes v) (nodes_by bytes (with_files v files))
leaf_nodes bytes v files n differs leaf = nodes_by_others bytes bytes v (with_files v files) n differs.count (λ m below other. leaf_node bytes v files n m differs leaf other)

-- ---- what a directory leads to

none_there : (directory : ℕ) (test : Link → Bool) (links : List Link) → IsOutside directory links → filter (λ l. is_in directory l && test l) links ≡ []
none_there directory test [] outside = refl
none_there directory test (l ∷ links) outside = rw (ne_eqb l.parent.number directory outside.0) (none_there directory test links outside.1)

-- what a list has where it is front, a part of which there is nothing, and behind
filter_around : (test : Link → Bool) (front part behind whole : List Link) → whole ≡ front ++ (part ++ behind) → filter test part ≡ [] → filter test whole ≡ filter test front ++ filter test behind
filter_around test front part behind whole is none =
    ap (filter test) is
    ∙ filter-append test front (part ++ behind)
    ∙ ap (λ (links : List Link). filter test front ++ links) (filter-append test part behind ∙ ap (λ (links : List Link). links ++ filter test behind) none)

same_filtered : (test : Link → Bool) (part new_part old new : List Link) → PartReplaced part new_part old new → filter test part ≡ [] → filter test new_part ≡ [] → filter test new ≡ filter test old
same_filtered test part new_part old new replaced none none_new =
    filter_around test replaced.front new_part replaced.behind new replaced.is none_new
    ∙ sym (filter_around test replaced.front part replaced.behind old replaced.was none)

same_found : (upper : List ℕ) (directory : ℕ) (name : List ℕ) (part new_part old new : List Link) → PartReplaced part new_part old new → IsOutside directory part → IsOutside directory new_part → same_links upper new directory name ≡ same_links upper old directory name
unfolding same_links
same_found upper directory name part new_part old new replaced outside outside_new =
    let test : Link → Bool = λ l. same_name upper l.name name in
    same_filtered (λ l. is_in directory l && test l) part new_part old new replaced (none_there directory test part outside) (none_there directory test new_part outside_new)

pub same_entry : (old new : List (Option Record)) (n : ℕ) (upper : List ℕ) (directory : ℕ) (name : List ℕ) → OneFileDiffers n old new → IsOutside directory (links_at (table_in old) n) → IsOutside directory (links_at (table_in new) n)
    → look_up upper (all_links (table_in new) (length new)) directory name ≡ look_up upper (all_links (table_in old) (length old)) directory name
unfolding look_up
same_entry old new n upper directory name differs outside outside_new =
    ap (λ (links : List Link). option_or (find (λ l. same_units l.name name) links) (first_in_order upper links))
    (same_found upper directory name (links_at (table_in old) n) (links_at (table_in new) n) _ _ (links_of_all old new n differs) outside outside_new)

-- ---- the journal's file

-- what is found is one of those that are there
found_one : (P : Link → Type 0) (test : Link → Bool) (links : List Link) → AllByRecursion P links → (l : Link) → find test links ≡ Some l → P l
found_one P test [] all l is = absurd cc
found_one P test (k ∷ links) all l is = elim (cases_Bool (test k)) [
  | inl passes ↦ (let here : Some k ≡ Some l = rw passes at is in let same : k ≡ l = cc in subst P same all.0)
  | inr fails ↦ found_one P test links all.1 l (rw fails at is)
]

either_one : (P : Link → Type 0) (t : Bool) (a b : Link) → P a → P b → P (cond t b a)
either_one P true a b one other = other
either_one P false a b one other = one

first_one : (P : Link → Type 0) (upper : List ℕ) (a : Link) (o : Option Link) → P a → ((l : Link) → o ≡ Some l → P l) → P (first_of_two upper a o)
first_one P upper a None one rest = one
first_one P upper a (Some b) one rest = either_one P (is_gt (name_order upper a.name b.name)) a b one (rest b refl)

least_one : (P : Link → Type 0) (upper : List ℕ) (links : List Link) → AllByRecursion P links → (l : Link) → first_in_order upper links ≡ Some l → P l
least_one P upper [] all l is = absurd cc
least_one P upper (a ∷ links) all l is =
    let same : first_of_two upper a (first_in_order upper links) ≡ l = cc in
    subst P same (first_one P upper a (first_in_order upper links) all.0 (λ k found. least_one P upper links all.1 k found))

one_of_two : (P : Link → Type 0) (o other : Option Link) → ((l : Link) → o ≡ Some l → P l) → ((l : Link) → other ≡ Some l → P l) → (l : Link) → option_or o other ≡ Some l → P l
one_of_two P None other first second l is = second l is
one_of_two P (Some k) other first second l is = first l is

looked_up : (P : Link → Type 0) (upper : List ℕ) (links : List Link) (directory : ℕ) (name : List ℕ) → AllByRecursion P (same_links upper links directory name) → (l : Link) → look_up upper links directory name ≡ Some l → P l
unfolding look_up
looked_up P upper links directory name all l is =
    let among = same_links upper links directory name in
    let test : Link → Bool = λ k. same_units k.name name in
    one_of_two P (find test among) (first_in_order upper among) (found_one P test among all) (least_one P upper among all) l is

-- the names of a directory, none of which is a name of this file
OtherThere : ℕ → ℕ → Link → Type 0
OtherThere directory n l = l.parent.number ≡ directory → l.child.number ≢ n

pub all_joined : (P : Link → Type 0) (xs ys : List Link) → AllByRecursion P xs → AllByRecursion P ys → AllByRecursion P (xs ++ ys)
all_joined P [] ys all rest = rest
all_joined P (x ∷ xs) ys all rest = (all.0, all_joined P xs ys all.1 rest)

all_in_lists : (P : Link → Type 0) (f : ℕ → List Link) → ((m : ℕ) → AllByRecursion P (f m)) → (numbers : List ℕ) → AllByRecursion P (flat_map f numbers)
all_in_lists P f each [] = tt
all_in_lists P f each (m ∷ numbers) = all_joined P (f m) (flat_map f numbers) (each m) (all_in_lists P f each numbers)

others_there : (p : Table) (count directory n : ℕ) → IsOutside directory (links_at p n) → AllByRecursion (OtherThere directory n) (all_links p count)
unfolding OtherThere all_links
others_there p count directory n outside =
    all_in_lists (OtherThere directory n) (links_at p)
    (λ m. this_or_other (λ (k : ℕ). AllByRecursion (OtherThere directory n) (links_at p k)) n m
    (all_by (λ l. l.parent.number ≢ directory) (OtherThere directory n) (λ l apart is. absurd (apart is)) (links_at p n) outside)
    (λ other. all_by (λ l. l.child.number ≡ m) (OtherThere directory n) (λ l is there same. other (sym is ∙ same)) (links_at p m) (own_children p m)))
    (range_with_len 0 count)

others_found : (directory n : ℕ) (test : Link → Bool) (links : List Link) → AllByRecursion (OtherThere directory n) links → AllByRecursion (λ l. l.child.number ≢ n) (filter (λ l. is_in directory l && test l) links)
unfolding OtherThere
others_found directory n test [] all = tt
others_found directory n test (l ∷ links) all = elim (cases_Bool (is_in directory l && test l)) [
  | inl is ↦ rw is ((all.0 (eqb-true l.parent.number directory (and_parts _ _ is).0), others_found directory n test links all.1))
  | inr fails ↦ rw fails (others_found directory n test links all.1)
]

child_of : (o : Option Link) (n : ℕ) → ((l : Link) → o ≡ Some l → l.child.number ≢ n) → option_map (λ (l : Link). l.child.number) o ≢ Some n
child_of None n other is = absurd cc
child_of (Some l) n other is = let same : l.child.number ≡ n = cc in other l refl same

pub no_journal : (v : Volume) (upper : List ℕ) (n : ℕ) → IsOutside extend_file (links_at (files_by_number v) n) → journal_number upper v ≢ Some n
unfolding child_in same_links
no_journal v upper n outside =
    let links = all_links (files_by_number v) (count_of v) in
    child_of (look_up upper links extend_file journal_name) n
    (looked_up (λ l. l.child.number ≢ n) upper links extend_file journal_name
    (others_found extend_file n (λ l. same_name upper l.name journal_name) links (others_there (files_by_number v) (count_of v) extend_file n outside)))

pub leaf_journal : (c : Content) (v : Volume) (files : List (Option Record)) (upper : List ℕ) (n : ℕ) → OneFileDiffers n v.files files → IsOutside extend_file (links_at (table_in v.files) n) → IsOutside extend_file (links_at (table_in files) n)
    → journal_of c upper (with_files v files) ≡ journal_of c upper v
unfolding child_in
leaf_journal c v files upper n differs outside outside_new =
    holder_by_number c v files upper n differs
    (ap (option_map (λ (l : Link). l.child.number)) (same_entry v.files files n upper extend_file journal_name differs outside outside_new))
    (no_journal v upper n outside)

-- ---- leaves of a volume that keeps rule 2

pub every_one : (test : Link → Bool) (links : List Link) → list_all test links ≡ true → AllByRecursion (λ l. test l ≡ true) links
every_one test [] is = tt
every_one test (l ∷ links) is = let parts = and_parts _ _ is in (parts.0, every_one test links parts.1)

pub kept_parents : (v : Volume) → broken_2 v ≡ None → (m : ℕ) → AllByRecursion (λ l. is_directory_at (files_by_number v) l.parent ≡ true) (links_at (files_by_number v) m)
unfolding broken_2 keeps_2
kept_parents v none m =
    let p = files_by_number v in
    elim (cases_lt m (count_of v)) [
      | inl within ↦ every_one (λ l. is_directory_at p l.parent) (links_at p m) (passes_below (keeps_2 p) (count_of v) none m within)
      | inr past ↦ subst (λ (links : List Link). AllByRecursion (λ l. is_directory_at p l.parent ≡ true) links) (sym (no_names v.files m past)) tt
    ]

not_there : (p : Table) (n : ℕ) (file : FileRef) → is_directory_file (file_at p n) ≡ false → is_directory_at p file ≡ true → file.number ≢ n
unfolding is_directory_at
not_there p n file none is same =
    both_ways (is_directory_with file.seq (file_at p file.number)) (ap (λ (k : ℕ). is_directory_with file.seq (file_at p k)) same ∙ no_directory (file_at p n) file.seq none) is

pub no_directory_leaf : (v : Volume) (n : ℕ) → broken_2 v ≡ None → is_directory_file (file_in v n) ≡ false → IsLeaf n (files_by_number v)
no_directory_leaf v n none is m other =
    let p = files_by_number v in
    all_by (λ l. is_directory_at p l.parent ≡ true) (λ l. l.parent.number ≢ n) (λ l parent. not_there p n l.parent is parent) (links_at p m) (kept_parents v none m)

abbrev tally : Bool → ℕ
tally t = cond t 1 0

none_counted : (test : Link → Bool) (links : List Link) → count_by test links ≡ 0 → AllByRecursion (λ l. test l ≡ false) links
none_counted test [] is = tt
none_counted test (l ∷ links) is =
    let sum = sum_by-cons (λ (k : Link). cond (test k) 1 0) l links in
    elim (cases_Bool (test l)) [
      | inl passes ↦ (let one = ap tally passes in absurd (omega (arith, sum, one, is)))
      | inr fails ↦ (let nothing = ap tally fails in (fails, none_counted test links (omega (arith, sum, nothing, is))))
    ]

none_in : (p : Table) (directory : FileRef) (count m : ℕ) → m < count → names_in p directory count ≡ 0 → count_in directory (links_at p m) ≡ 0
unfolding names_in
none_in p directory zero m below none = absurd (omega arith)
none_in p directory (suc count) m below none = elim (cases_lt m count) [
  | inl less ↦ none_in p directory count m less (omega arith)
  | inr last ↦ (let same : m ≡ count = omega arith in ap (λ (k : ℕ). count_in directory (links_at p k)) same ∙ (let part : count_in directory (links_at p count) ≡ 0 = omega arith in part))
]

not_in_empty : (p : Table) (n : ℕ) (r : Record) (file : FileRef) → file_at p n ≡ Some r → is_directory_at p file ≡ true → same_reference file (reference n r) ≡ false → file.number ≢ n
unfolding is_directory_at
not_in_empty p n r file is directory apart same =
    let there : is_directory_with file.seq (Some r) ≡ true = sym (ap (is_directory_with file.seq) (ap (file_at p) same ∙ is)) ∙ directory in
    let seq : r.head.seq ≡ file.seq = eqb-true r.head.seq file.seq (and_parts _ _ there).1 in
    both_ways (same_reference file (reference n r)) apart (from_references file (reference n r) same (sym seq))

pub both_all : (P Q R : Link → Type 0) → ((l : Link) → P l → Q l → R l) → (links : List Link) → AllByRecursion P links → AllByRecursion Q links → AllByRecursion R links
both_all P Q R each [] all more = tt
both_all P Q R each (l ∷ links) all more = (each l all.0 more.0, both_all P Q R each links all.1 more.1)

none_named : (p : Table) (directory : FileRef) (count m : ℕ) → m < count → names_in p directory count ≡ 0 → AllByRecursion (λ l. same_reference l.parent directory ≡ false) (links_at p m)
unfolding count_in
none_named p directory count m below none = none_counted (λ (l : Link). same_reference l.parent directory) (links_at p m) (none_in p directory count m below none)

pub empty_leaf : (v : Volume) (n : ℕ) (r : Record) → broken_2 v ≡ None → file_in v n ≡ Some r → names_in (files_by_number v) (reference n r) (count_of v) ≡ 0 → IsLeaf n (files_by_number v)
empty_leaf v n r none is empty m other =
    let p = files_by_number v in
    elim (cases_lt m (count_of v)) [
      | inl within ↦
          both_all (λ l. is_directory_at p l.parent ≡ true) (λ l. same_reference l.parent (reference n r) ≡ false) (λ l. l.parent.number ≢ n) (λ l directory apart. not_in_empty p n r l.parent is directory apart) (links_at p m)
          (kept_parents v none m) (none_named p (reference n r) (count_of v) m within empty)
      | inr past ↦ subst (λ (links : List Link). IsOutside n links) (sym (no_names v.files m past)) tt
    ]

-- ---- files that are made and that go

pub made_links : (old new : List (Option Record)) (n : ℕ) → OneFileDiffers n old new → links_at (table_in old) n ≡ [] → PartReplaced [] (links_at (table_in new) n) (all_links (table_in old) (length old)) (all_links (table_in new) (length new))
made_links old new n differs none =
    subst (λ (part : List Link). PartReplaced part (links_at (table_in new) n) (all_links (table_in old) (length old)) (all_links (table_in new) (length new))) none (links_of_all old new n differs)

pub gone_links : (old new : List (Option Record)) (n : ℕ) → OneFileDiffers n old new → links_at (table_in new) n ≡ [] → PartReplaced (links_at (table_in old) n) [] (all_links (table_in old) (length old)) (all_links (table_in new) (length new))
gone_links old new n differs none =
    subst (λ (part : List Link). PartReplaced (links_at (table_in old) n) part (all_links (table_in old) (length old)) (all_links (table_in new) (length new))) none (links_of_all old new n differs)

no_node_there : (bytes : Option Stream → List ℕ) (v : Volume) (n : ℕ) → file_in v n ≡ None → node_at bytes v n ≡ None
unfolding node_at
no_node_there bytes v n none = ap (some_node bytes v n) none

pub made_nodes : (bytes : Option Stream → List ℕ) (v : Volume) (files : List (Option Record)) (n : ℕ) → broken_2 v ≡ None → OneFileDiffers n v.files files → file_in v n ≡ None
    → PartReplaced [] (cons_option (node_at bytes (with_files v files) n) []) (nodes_by bytes v) (nodes_by bytes (with_files v files))
made_nodes bytes v files n kept differs none =
    subst (λ (o : Option Node). PartReplaced (cons_option o []) (cons_option (node_at bytes (with_files v files) n) []) (nodes_by bytes v) (nodes_by bytes (with_files v files))) (no_node_there bytes v n none)
    (leaf_nodes bytes v files n differs (no_directory_leaf v n kept (ap is_directory_file none)))

pub gone_nodes : (bytes : Option Stream → List ℕ) (v : Volume) (files : List (Option Record)) (n : ℕ) → OneFileDiffers n v.files files → IsLeaf n (table_in v.files) → file_in (with_files v files) n ≡ None
    → PartReplaced (cons_option (node_at bytes v n) []) [] (nodes_by bytes v) (nodes_by bytes (with_files v files))
gone_nodes bytes v files n differs leaf none =
    subst (λ (o : Option Node). PartReplaced (cons_option (node_at bytes v n) []) (cons_option o []) (nodes_by bytes v) (nodes_by bytes (with_files v files))) (no_node_there bytes (with_files v files) n none)
    (leaf_nodes bytes v files n differs leaf)
