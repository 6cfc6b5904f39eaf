-- Rule 3 at a directory in which a file gets other names.
use Rattle.std.proofs.Common.{◌≡◌, ℕ, zero, suc, ◌+◌, ◌<◌, ◌≤◌, Bool, true, false, ◌||◌, List, [], ◌∷◌, ◌++◌, length, length-append, Option, Some, None, refl, sym, ap, subst, ◌∙◌, inl, inr, arith}
use Rattle.std.specs.List.{list_all, list_any, AllByRecursion}
use Rattle.std.proofs.lemmas.Bool.{cases_lt, and_parts, and_from, or_right, eqb-true, eq-eqb}
use Rattle.volume_state.specs.host_base.declared.file_ref.FileRef.{FileRef}
use Rattle.volume_state.specs.disk_model.Content.{Content}
use Rattle.volume_state.specs.record_model.Records.{Record}
use Rattle.volume_state.specs.file_tree.declared.link.Link.{Link}
use Rattle.volume_state.specs.state_model.Files.{Table, links_at, reference, is_directory_record}
use Rattle.volume_state.specs.state_model.Rules.{implies, at_file, same_link, count_in, names_in, is_rising, is_name_in, is_index}
use Rattle.volume_state.specs.volume_model.Volumes.{Volume, files_by_number, count_of, file_in}
use Rattle.volume_state.specs.volume_model.Indexes.{index_links, lists_names, keeps_index}
use Rattle.stream_laws.specs.Replacing.{SameBut}
use Rattle.tree_laws.specs.Keeping.{PartReplaced}
use Rattle.tree_laws.specs.Leaves.{names_there}
use Rattle.tree_laws.specs.Listed.{KeepsThereBut}
use Rattle.tree_laws.proofs.Naming.{names_elsewhere, this_or_other}
use Rattle.tree_laws.proofs.Ascending.{all_by}
use Rattle.tree_laws.proofs.Standing.{KeepsThere, same_names_there, same_counts, found_there, count_there, every_one, all_joined, both_all}

-- ---- what an index holds

listed_in : (upper : List ℕ) (p : Table) (count : ℕ) (directory : FileRef) (read : Option (List Link)) → lists_names upper p count directory read ≡ true → (links : List Link) × (read ≡ Some links) × (is_index upper p count directory links ≡ true)
listed_in upper p count directory None is = absurd cc
listed_in upper p count directory (Some links) is = (links, refl, is)

asked_of_directory : (t asked : Bool) → t ≡ true → implies t asked ≡ true → asked ≡ true
asked_of_directory true asked is kept = kept
asked_of_directory false asked is kept = absurd cc

pub index_listed : (c : Content) (v : Volume) (upper : List ℕ) (n : ℕ) (r : Record) → file_in v n ≡ Some r → is_directory_record r ≡ true → keeps_index c v upper n ≡ true
    → (links : List Link) × (index_links c v.per upper r ≡ Some links) × (is_index upper (files_by_number v) (count_of v) (reference n r) links ≡ true)
unfolding keeps_index
index_listed c v upper n r is directory kept =
    let test : Record → Bool = λ k. implies (is_directory_record k) (lists_names upper (files_by_number v) (count_of v) (reference n k) (index_links c v.per upper k)) in
    listed_in upper (files_by_number v) (count_of v) (reference n r) (index_links c v.per upper r) (asked_of_directory (is_directory_record r) _ directory (sym (ap (at_file test) is) ∙ kept))

given_anyway : (t asked : Bool) → asked ≡ true → implies t asked ≡ true
given_anyway true asked is = is
given_anyway false asked is = refl

pub index_kept_by : (c : Content) (v : Volume) (upper : List ℕ) (n : ℕ) (r : Record) (links : List Link) → file_in v n ≡ Some r → index_links c v.per upper r ≡ Some links → is_index upper (files_by_number v) (count_of v) (reference n r) links ≡ true → keeps_index c v upper n ≡ true
unfolding keeps_index
index_kept_by c v upper n r links is read holds =
    let test : Record → Bool = λ k. implies (is_directory_record k) (lists_names upper (files_by_number v) (count_of v) (reference n k) (index_links c v.per upper k)) in
    ap (at_file test) is
    ∙ given_anyway (is_directory_record r) _ (ap (lists_names upper (files_by_number v) (count_of v) (reference n r)) read ∙ holds)

-- ---- an index that changes with a file's names

pub record IndexParts (upper : List ℕ) (p : Table) (count : ℕ) (directory : FileRef) (links : List Link) : Type 0 where
  pub rising : is_rising upper links ≡ true
  pub names : list_all (is_name_in p directory) links ≡ true
  pub size : length links ≡ names_in p directory count

index_parts : (upper : List ℕ) (p : Table) (count : ℕ) (directory : FileRef) (links : List Link) → is_index upper p count directory links ≡ true → IndexParts upper p count directory links
unfolding is_index
index_parts upper p count directory links is =
    let parts = and_parts _ _ is in
    let front = and_parts _ _ parts.0 in
    record { rising = front.0; names = front.1; size = eqb-true _ _ parts.1 }

from_parts : (upper : List ℕ) (p : Table) (count : ℕ) (directory : FileRef) (links : List Link) → is_rising upper links ≡ true → list_all (is_name_in p directory) links ≡ true → length links ≡ names_in p directory count → is_index upper p count directory links ≡ true
unfolding is_index
from_parts upper p count directory links rising names size = and_from _ _ (and_from _ _ rising names) (eq-eqb _ _ size)

-- ---- files that keep their names there

pub there_elsewhere : (p q : Table) (n : ℕ) (directory : FileRef) → SameBut n p q → KeepsThereBut n directory p q
there_elsewhere p q n directory others m other = ap (names_there directory) (names_elsewhere p q n m others other)

there_below : (p q : Table) (directory : FileRef) (count n : ℕ) → count ≤ n → KeepsThereBut n directory p q → names_in q directory count ≡ names_in p directory count
unfolding names_in
there_below p q directory zero n le others = refl
there_below p q directory (suc count) n le others =
    let here : count_in directory (links_at q count) ≡ count_in directory (links_at p count) = count_there directory (links_at q count) ∙ ap length (others count (λ is. omega (arith, is))) ∙ sym (count_there directory (links_at p count)) in
    let below = there_below p q directory count n (omega arith) others in
    omega (arith, here, below)

-- how many names there are changes by those of the one file
there_changed : (p q : Table) (directory : FileRef) (count n : ℕ) → n < count → KeepsThereBut n directory p q → names_in q directory count + count_in directory (links_at p n) ≡ names_in p directory count + count_in directory (links_at q n)
unfolding names_in
there_changed p q directory zero n lt others = absurd (omega arith)
there_changed p q directory (suc count) n lt others = elim (cases_lt n count) [
  | inl below ↦
      (let here : count_in directory (links_at q count) ≡ count_in directory (links_at p count) = count_there directory (links_at q count) ∙ ap length (others count (λ is. omega (arith, is))) ∙ sym (count_there directory (links_at p count)) in
      let rest = there_changed p q directory count n below others in
      omega (arith, here, rest))
  | inr last ↦
      (let is : n ≡ count = omega arith in
      let below = there_below p q directory count n last others in
      let old : count_in directory (links_at p n) ≡ count_in directory (links_at p count) = ap (λ (k : ℕ). count_in directory (links_at p k)) is in
      let new : count_in directory (links_at q n) ≡ count_in directory (links_at q count) = ap (λ (k : ℕ). count_in directory (links_at q k)) is in
      omega (arith, below, old, new))
]

pub index_changed : (upper : List ℕ) (p q : Table) (n count : ℕ) (directory : FileRef) (old new : List Link) → n < count → KeepsThereBut n directory p q → length new + count_in directory (links_at p n) ≡ length old + count_in directory (links_at q n)
    → is_rising upper new ≡ true → list_all (is_name_in q directory) new ≡ true → is_index upper p count directory old ≡ true → is_index upper q count directory new ≡ true
index_changed upper p q n count directory old new within others balance rising names is =
    let parts = index_parts upper p count directory old is in
    let sums = there_changed p q directory count n within others in
    let size = parts.size in
    from_parts upper q count directory new rising names (omega (arith, balance, sums, size))

-- ---- one name more or less

any_joined : (f : Link → Bool) (xs ys : List Link) → list_any f (xs ++ ys) ≡ (list_any f xs || list_any f ys)
any_joined f [] ys = refl
any_joined f (x ∷ xs) ys = ap (λ (t : Bool). f x || t) (any_joined f xs ys) ∙ or_grouped (f x) (list_any f xs) (list_any f ys)
  where
    or_grouped : (a b c : Bool) → (a || (b || c)) ≡ ((a || b) || c)
    or_grouped true b c = refl
    or_grouped false b c = refl

-- found in front or behind, it is found with one more between them
any_more : (a b x : Bool) → (a || b) ≡ true → (a || (x || b)) ≡ true
any_more true b x is = refl
any_more false b x is = or_right x b is

found_with_more : (f : Link → Bool) (l : Link) (old new : List Link) → PartReplaced [] (l ∷ []) old new → list_any f old ≡ true → list_any f new ≡ true
found_with_more f l old new replaced is =
    ap (list_any f) replaced.is
    ∙ any_joined f replaced.front (l ∷ replaced.behind)
    ∙ any_more (list_any f replaced.front) (list_any f replaced.behind) (f l) (sym (ap (list_any f) replaced.was ∙ any_joined f replaced.front replaced.behind) ∙ is)

-- found, and not by the one that goes, it is found still
found_with_less : (f : Link → Bool) (l : Link) (old new : List Link) → PartReplaced (l ∷ []) [] old new → f l ≡ false → list_any f new ≡ list_any f old
found_with_less f l old new replaced apart =
    ap (list_any f) replaced.is
    ∙ any_joined f replaced.front replaced.behind
    ∙ sym (ap (list_any f) replaced.was ∙ any_joined f replaced.front (l ∷ replaced.behind) ∙ ap (λ (t : Bool). list_any f replaced.front || (t || list_any f replaced.behind)) apart)

-- a name of the directory stays one, where it is still found among the new names of the file
still_name : (p q : Table) (n : ℕ) (directory : FileRef) (j : Link) → KeepsThereBut n directory p q → (list_any (same_link j) (names_there directory (links_at p n)) ≡ true → list_any (same_link j) (names_there directory (links_at q n)) ≡ true) → is_name_in p directory j ≡ true → is_name_in q directory j ≡ true
unfolding is_name_in
still_name p q n directory j others found is =
    let parts = and_parts _ _ is in
    let there = parts.0 in
    and_from _ _ there
    (this_or_other (λ (m : ℕ). list_any (same_link j) (links_at p m) ≡ true → list_any (same_link j) (links_at q m) ≡ true) n j.child.number
    (λ was. sym (found_there directory j there (links_at q n)) ∙ found (found_there directory j there (links_at p n) ∙ was))
    (λ other was.
    sym (found_there directory j there (links_at q j.child.number))
    ∙ ap (list_any (same_link j)) (others j.child.number other)
    ∙ found_there directory j there (links_at p j.child.number)
    ∙ was)
    parts.1)

from_every : (test : Link → Bool) (links : List Link) → AllByRecursion (λ l. test l ≡ true) links → list_all test links ≡ true
from_every test [] all = refl
from_every test (l ∷ links) all = and_from _ _ all.0 (from_every test links all.1)

front_of : (P : Link → Type 0) (xs ys : List Link) → AllByRecursion P (xs ++ ys) → AllByRecursion P xs × AllByRecursion P ys
front_of P [] ys all = (tt, all)
front_of P (x ∷ xs) ys all = let rest = front_of P xs ys all.1 in ((all.0, rest.0), rest.1)

-- what holds of all holds with one more, and of all but one
all_with_more : (P : Link → Type 0) (k : Link) (old new : List Link) → PartReplaced [] (k ∷ []) old new → P k → AllByRecursion P old → AllByRecursion P new
all_with_more P k old new replaced one all =
    let parts = front_of P replaced.front replaced.behind (subst (AllByRecursion P) replaced.was all) in
    subst (AllByRecursion P) (sym replaced.is) (all_joined P replaced.front (k ∷ replaced.behind) parts.0 (one, parts.1))

all_with_less : (P : Link → Type 0) (k : Link) (old new : List Link) → PartReplaced (k ∷ []) [] old new → AllByRecursion P old → AllByRecursion P new
all_with_less P k old new replaced all =
    let parts = front_of P replaced.front (k ∷ replaced.behind) (subst (AllByRecursion P) replaced.was all) in
    subst (AllByRecursion P) (sym replaced.is) (all_joined P replaced.front replaced.behind parts.0 parts.1.1)

more_by_one : (k : Link) (old new : List Link) → PartReplaced [] (k ∷ []) old new → length new ≡ length old + 1
more_by_one k old new replaced =
    let now = ap length replaced.is in
    let before = ap length replaced.was in
    omega (arith, now, before, length-append replaced.front (k ∷ replaced.behind), length-append replaced.front replaced.behind)

less_by_one : (k : Link) (old new : List Link) → PartReplaced (k ∷ []) [] old new → length new + 1 ≡ length old
less_by_one k old new replaced =
    let now = ap length replaced.is in
    let before = ap length replaced.was in
    omega (arith, now, before, length-append replaced.front (k ∷ replaced.behind), length-append replaced.front replaced.behind)

pub index_more : (upper : List ℕ) (p q : Table) (n count : ℕ) (directory : FileRef) (l k : Link) (old new : List Link) → n < count → KeepsThereBut n directory p q → PartReplaced [] (l ∷ []) (names_there directory (links_at p n)) (names_there directory (links_at q n)) → PartReplaced [] (k ∷ []) old new
    → is_rising upper new ≡ true → is_name_in q directory k ≡ true → is_index upper p count directory old ≡ true → is_index upper q count directory new ≡ true
index_more upper p q n count directory l k old new within others names entries rising named is =
    let P : Link → Type 0 = λ j. is_name_in p directory j ≡ true in
    let Q : Link → Type 0 = λ j. is_name_in q directory j ≡ true in
    let parts = index_parts upper p count directory old is in
    let still = all_by P Q (λ j was. still_name p q n directory j others (found_with_more (same_link j) l _ _ names) was) old (every_one (is_name_in p directory) old parts.names) in
    let size = more_by_one k old new entries in
    let count_now = more_by_one l _ _ names in
    index_changed upper p q n count directory old new within others
    (omega (arith, size, count_now, count_there directory (links_at p n), count_there directory (links_at q n)))
    rising (from_every (is_name_in q directory) new (all_with_more Q k old new entries named still)) is

pub index_less : (upper : List ℕ) (p q : Table) (n count : ℕ) (directory : FileRef) (l k : Link) (old new : List Link) → n < count → KeepsThereBut n directory p q → PartReplaced (l ∷ []) [] (names_there directory (links_at p n)) (names_there directory (links_at q n)) → PartReplaced (k ∷ []) [] old new
    → is_rising upper new ≡ true → AllByRecursion (λ j. same_link j l ≡ false) new → is_index upper p count directory old ≡ true → is_index upper q count directory new ≡ true
index_less upper p q n count directory l k old new within others names entries rising apart is =
    let P : Link → Type 0 = λ j. is_name_in p directory j ≡ true in
    let Q : Link → Type 0 = λ j. is_name_in q directory j ≡ true in
    let parts = index_parts upper p count directory old is in
    let were = all_with_less P k old new entries (every_one (is_name_in p directory) old parts.names) in
    let still = both_all P (λ j. same_link j l ≡ false) Q (λ j was other. still_name p q n directory j others (λ found. found_with_less (same_link j) l _ _ names other ∙ found) was) new were apart in
    let size = less_by_one k old new entries in
    let count_now = less_by_one l _ _ names in
    index_changed upper p q n count directory old new within others
    (omega (arith, size, count_now, count_there directory (links_at p n), count_there directory (links_at q n)))
    rising (from_every (is_name_in q directory) new still) is

-- one name in the place of another
pub index_other : (upper : List ℕ) (p q : Table) (n count : ℕ) (directory : FileRef) (l m k j : Link) (old middle new : List Link) → n < count → KeepsThereBut n directory p q → PartReplaced (l ∷ []) (m ∷ []) (names_there directory (links_at p n)) (names_there directory (links_at q n)) → PartReplaced (k ∷ []) [] old middle
    → PartReplaced [] (j ∷ []) middle new → is_rising upper new ≡ true → AllByRecursion (λ i. same_link i l ≡ false) middle → is_name_in q directory j ≡ true → is_index upper p count directory old ≡ true → is_index upper q count directory new ≡ true
index_other upper p q n count directory l m k j old middle new within others names went came rising apart named is =
    let Q : Link → Type 0 = λ i. is_name_in q directory i ≡ true in
    let parts = index_parts upper p count directory old is in
    let between = names.front ++ names.behind in
    let first : PartReplaced (l ∷ []) [] (names_there directory (links_at p n)) between = record { front = names.front; behind = names.behind; was = names.was; is = refl } in
    let second : PartReplaced [] (m ∷ []) between (names_there directory (links_at q n)) = record { front = names.front; behind = names.behind; was = refl; is = names.is } in
    let were = all_with_less (λ i. is_name_in p directory i ≡ true) k old middle went (every_one (is_name_in p directory) old parts.names) in
    let still = both_all (λ i. is_name_in p directory i ≡ true) (λ i. same_link i l ≡ false) Q (λ i was other. still_name p q n directory i others (λ found. found_with_more (same_link i) m _ _ second (found_with_less (same_link i) l _ _ first other ∙ found)) was) middle were apart in
    let size = less_by_one k old middle went in
    let more = more_by_one j middle new came in
    let gone = less_by_one l _ _ first in
    let added = more_by_one m _ _ second in
    index_changed upper p q n count directory old new within others
    (omega (arith, size, more, gone, added, count_there directory (links_at p n), count_there directory (links_at q n)))
    rising (from_every (is_name_in q directory) new (all_with_more Q j middle new came named still)) is

-- the same names, whatever else changes
pub index_stays : (upper : List ℕ) (p q : Table) (n count : ℕ) (directory : FileRef) (links : List Link) → KeepsThereBut n directory p q → names_there directory (links_at q n) ≡ names_there directory (links_at p n) → is_index upper p count directory links ≡ true → is_index upper q count directory links ≡ true
index_stays upper p q n count directory links others own is =
    let all : KeepsThere directory p q = λ m. this_or_other (λ (k : ℕ). names_there directory (links_at q k) ≡ names_there directory (links_at p k)) n m own (λ other. others m other) in
    let parts = index_parts upper p count directory links is in
    let size = parts.size in
    let same = same_counts p q directory count all in
    from_parts upper q count directory links parts.rising
    (from_every (is_name_in q directory) links (all_by (λ l. is_name_in p directory l ≡ true) (λ l. is_name_in q directory l ≡ true) (λ l was. same_names_there p q directory all l ∙ was) links (every_one (is_name_in p directory) links parts.names)))
    (omega (arith, size, same))
