-- The directories of a volume, gone through by rising number.
use Rattle.std.proofs.Common.{◌≡◌, ℕ, suc, ◌+◌, ◌-◌, ◌<◌, ◌∷◌, Bool, true, false, not, cond, List, length, find, Option, Some, None, Result, Ok, sym, ap, subst, ◌∙◌, refl, arith}
use Rattle.std.specs.Prelude.{IfSome}
use Rattle.std.specs.List.{range_with_len}
use Rattle.host_base.specs.Answers.{GivesOrFails}
use Rattle.host_base.proofs.Known.{one, both, always}
use Rattle.index_tree.specs.disk_model.Content.{Content}
use Rattle.state_model.specs.record_model.Records.{Record}
use Rattle.index_tree.specs.index_model.Walks.{Broken}
use Rattle.state_model.specs.Files.{file_at, reference, is_directory_record}
use Rattle.state_model.specs.Loads.{table_in}
use Rattle.state_model.specs.Rules.{at_file, implies, first_failing}
use Rattle.volume_model.specs.Volumes.{Volume}
use Rattle.volume_model.specs.Indexes.{lists_names, index_links, keeps_index}
use Rattle.directory_index.specs.declared.fault.IndexFault.{IndexFault}
use Rattle.directory_index.specs.Errors.{index_cause}
use Rattle.directory_index.specs.Loaded.{volume_with, only_directory, directory_at}

-- ---- one directory

implied_at : (kept : Record → Bool) (r : Record) (holds : Bool) → implies holds (kept r) ≡ at_file kept (cond holds (Some r) None)
implied_at kept r true = refl
implied_at kept r false = refl

directory_kept : (kept : Record → Bool) (file : Option Record) → at_file (λ r. implies (is_directory_record r) (kept r)) file ≡ at_file kept (only_directory file)
directory_kept kept None = refl
directory_kept kept (Some r) = implied_at kept r (is_directory_record r)

-- the names that a directory's index holds are those that stand in it
abbrev pub lists_at : Content → ℕ → List ℕ → List (Option Record) → ℕ → Record → Bool
lists_at c per upper files n r = lists_names upper (table_in files) (length files) (reference n r) (index_links c per upper r)

pub kept_at : (c : Content) (per : ℕ) (upper : List ℕ) (files : List (Option Record)) (n : ℕ) → keeps_index c (volume_with per files) upper n ≡ at_file (lists_at c per upper files n) (directory_at (table_in files) n)
unfolding keeps_index directory_at
kept_at c per upper files n = directory_kept (lists_at c per upper files n) (file_at (table_in files) n)

-- what holds where there is no directory
pub kept_nowhere : (known : Option Content) (per : ℕ) (upper : List ℕ) (files : List (Option Record)) (n : ℕ) → None ≡ directory_at (table_in files) n → IfSome known (λ c. GivesOrFails {E = IndexFault} (λ (kept : Bool). kept) index_cause (Ok true) (Ok (keeps_index c (volume_with per files) upper n)))
kept_nowhere known per upper files n none = always known _ (λ c. ap (λ (kept : Bool). Ok kept) (kept_at c per upper files n ∙ ap (at_file (lists_at c per upper files n)) (sym none)))

pub kept_here : (known : Option Content) (per : ℕ) (upper : List ℕ) (files : List (Option Record)) (n : ℕ) (r : Record) (result : Result Bool IndexFault) → Some r ≡ directory_at (table_in files) n → IfSome known (λ c. GivesOrFails (λ (kept : Bool). kept) index_cause result (Ok (lists_at c per upper files n r))) → IfSome known (λ c. GivesOrFails (λ (kept : Bool). kept) index_cause result (Ok (keeps_index c (volume_with per files) upper n)))
kept_here known per upper files n r result some h =
    one known _ _ (λ c g. subst (λ (kept : Bool). GivesOrFails (λ (kept : Bool). kept) index_cause result (Ok kept)) (sym (kept_at c per upper files n ∙ ap (at_file (lists_at c per upper files n)) (sym some))) g) h

-- a directory is a file
only_file_by : (q r : Record) (holds : Bool) → Some r ≡ cond holds (Some q) None → Some q ≡ Some r
only_file_by q r true e = sym e
only_file_by q r false e = cc

only_file : (file : Option Record) (r : Record) → Some r ≡ only_directory file → file ≡ Some r
only_file None r e = cc
only_file (Some q) r e = only_file_by q r (is_directory_record q) e

pub directory_file : (files : List (Option Record)) (n : ℕ) (r : Record) → Some r ≡ directory_at (table_in files) n → file_at (table_in files) n ≡ Some r
unfolding directory_at
directory_file files n r e = only_file (file_at (table_in files) n) r e

-- ---- the first number that fails

-- the first number from one on that fails the test
abbrev pub failing_from : (ℕ → Bool) → ℕ → ℕ → Option ℕ
failing_from test n count = find (λ k. not (test k)) (range_with_len n (count - n))

first_number : (n count : ℕ) → n < count → range_with_len n (count - n) ≡ n ∷ range_with_len (n + 1) (count - (n + 1))
first_number n count lt = let e : count - n ≡ suc (count - (n + 1)) = omega arith in ap (range_with_len n) e

from_first : (test : ℕ → Bool) (count : ℕ) → failing_from test 0 count ≡ first_failing test count
unfolding first_failing
from_first test count = let e : count - 0 ≡ count = omega arith in ap (λ k. find (λ m. not (test m)) (range_with_len 0 k)) e

from_here : (test : ℕ → Bool) (n count : ℕ) (kept : Bool) → n < count → test n ≡ kept → failing_from test n count ≡ cond (not kept) (Some n) (failing_from test (n + 1) count)
from_here test n count kept lt is = ap (find (λ k. not (test k))) (first_number n count lt) ∙ ap (λ b. cond (not b) (Some n) (failing_from test (n + 1) count)) is

-- the first of all that fails is the first of those that are left
abbrev pub FailsFrom : (Content → ℕ → Bool) → ℕ → ℕ → Content → Type 0
FailsFrom test n count c = failing_from (test c) n count ≡ first_failing (test c) count

pub fails_first : (known : Option Content) (test : Content → ℕ → Bool) (count : ℕ) → IfSome known (FailsFrom test 0 count)
fails_first known test count = always known _ (λ c. from_first (test c) count)

-- the value that a call has given
given : {A : Type 0} (x y : A) → ◌≡◌ {A = Result A Broken} (Ok x) (Ok y) → x ≡ y
given x y e = cc

pub fails_behind : (known : Option Content) (test : Content → ℕ → Bool) (n count : ℕ) (kept : Bool) → n < count → kept ≡ true → IfSome known (FailsFrom test n count) → IfSome known (λ c. GivesOrFails {E = IndexFault} (λ (b : Bool). b) index_cause (Ok kept) (Ok (test c n))) → IfSome known (FailsFrom test (n + 1) count)
fails_behind known test n count kept lt is = both known _ _ _ (λ c left e. sym (from_here (test c) n count true lt (given (test c n) kept e ∙ is)) ∙ left)

pub fails_here : (known : Option Content) (test : Content → ℕ → Bool) (n count : ℕ) (kept : Bool) → n < count → kept ≡ false → IfSome known (FailsFrom test n count) → IfSome known (λ c. GivesOrFails {E = IndexFault} (λ (b : Bool). b) index_cause (Ok kept) (Ok (test c n))) → IfSome known (λ c. GivesOrFails {E = IndexFault} (λ (found : Option ℕ). found) index_cause (Ok (Some n)) (Ok (first_failing (test c) count)))
fails_here known test n count kept lt is = both known _ _ _ (λ c left e. ap (λ (found : Option ℕ). Ok found) (sym left ∙ from_here (test c) n count false lt (given (test c n) kept e ∙ is)))

-- ---- any volume with these files

-- no clusters and no table are asked for
same_kept : (c : Content) (v : Volume) (upper : List ℕ) (count : ℕ) → first_failing (keeps_index c (volume_with v.per v.files) upper) count ≡ first_failing (keeps_index c v upper) count
unfolding keeps_index
same_kept c v upper count = refl

pub of_each_volume : (known : Option Content) (per : ℕ) (upper : List ℕ) (files : List (Option Record)) (result : Result (Option ℕ) IndexFault) → IfSome known (λ c. GivesOrFails (λ (found : Option ℕ). found) index_cause result (Ok (first_failing (keeps_index c (volume_with per files) upper) (length files)))) → IfSome known (λ c. (v : Volume) → v.per ≡ per → v.files ≡ files → GivesOrFails (λ (found : Option ℕ). found) index_cause result (Ok (first_failing (keeps_index c v upper) (length files))))
of_each_volume known per upper files result =
    one known _ _ (λ c g v per_is files_is. subst (λ (found : Option ℕ). GivesOrFails (λ (found : Option ℕ). found) index_cause result (Ok found))
    (ap (λ p. first_failing (keeps_index c (volume_with p files) upper) (length files)) (sym per_is) ∙ ap (λ (fs : List (Option Record)). first_failing (keeps_index c (volume_with v.per fs) upper) (length files)) (sym files_is) ∙ same_kept c v upper (length files)) g)
