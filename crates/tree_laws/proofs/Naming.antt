-- The names of a volume where one file is replaced.
use Rattle.std.proofs.Common.{◌≡◌, ◌≢◌, ℕ, ◌≤◌, eqb, List, [], length, Option, None, sym, ap, subst, ◌∙◌, inl, inr, arith}
use mathlib.Core.Path.{fun_ext}
use Rattle.std.specs.List.{flat_map, range_with_len}
use Rattle.std.proofs.lemmas.Bool.{cases_Bool, eqb-true, eqb-false}
use Rattle.std.proofs.lemmas.List.{get_or_past}
use Rattle.volume_state.specs.record_model.Records.{Record}
use Rattle.volume_state.specs.file_tree.declared.link.Link.{Link}
use Rattle.volume_state.specs.state_model.Files.{Table, only_base, file_at, file_links, links_at}
use Rattle.volume_state.specs.state_model.Loads.{table_in}
use Rattle.volume_state.specs.state_model.Trees.{all_links}
use Rattle.stream_laws.specs.Replacing.{SameBut, OneFileDiffers}
use Rattle.stream_laws.proofs.Replacing.{same_names}
use Rattle.tree_laws.specs.Keeping.{PartReplaced, KeepsNames}
use Rattle.tree_laws.proofs.Splitting.{flat_replaced}

pub names_elsewhere : (p q : Table) (n m : ℕ) → SameBut n p q → m ≢ n → links_at q m ≡ links_at p m
names_elsewhere p q n m others other = same_names p q m (others m other)

pub file_elsewhere : (p q : Table) (n m : ℕ) → SameBut n p q → m ≢ n → file_at q m ≡ file_at p m
unfolding file_at
file_elsewhere p q n m others other = ap only_base (others m other)

-- one of two numbers, or not
pub this_or_other : (P : ℕ → Type 0) (n m : ℕ) → P n → (m ≢ n → P m) → P m
this_or_other P n m here there = elim (cases_Bool (eqb m n)) [
  | inl is ↦ subst P (sym (eqb-true m n is)) here
  | inr other ↦ there (eqb-false m n other)
]

-- a file that keeps its names leaves the names of each
pub names_everywhere : (p q : Table) (n : ℕ) → SameBut n p q → KeepsNames n p q → (m : ℕ) → links_at q m ≡ links_at p m
names_everywhere p q n others keeps m = this_or_other (λ (k : ℕ). links_at q k ≡ links_at p k) n m keeps (names_elsewhere p q n m others)

pub all_names : (p q : Table) (n : ℕ) → SameBut n p q → KeepsNames n p q → links_at q ≡ links_at p
all_names p q n others keeps = fun_ext (names_everywhere p q n others keeps)

-- there is no file past the last
pub no_file : (files : List (Option Record)) (n : ℕ) → length files ≤ n → file_at (table_in files) n ≡ None
unfolding file_at
no_file files n past = ap only_base (get_or_past files n None past)

pub no_names : (files : List (Option Record)) (n : ℕ) → length files ≤ n → links_at (table_in files) n ≡ []
unfolding links_at
no_names files n past = ap (file_links n) (no_file files n past)

pub links_of_all : (old new : List (Option Record)) (n : ℕ) → OneFileDiffers n old new → PartReplaced (links_at (table_in old) n) (links_at (table_in new) n) (all_links (table_in old) (length old)) (all_links (table_in new) (length new))
unfolding all_links
links_of_all old new n differs =
    let p = table_in old in
    let q = table_in new in
    let count = differs.count in
    let replaced = flat_replaced (links_at p) (links_at q) n (length old) (λ m below other. names_elsewhere p q n m differs.others other) (no_names old n) (λ past. no_names new n (omega arith)) in
    record {
      front = replaced.front;
      behind = replaced.behind;
      was = replaced.was;
      is = ap (λ (k : ℕ). flat_map (links_at q) (range_with_len 0 k)) count ∙ replaced.is;
    }

pub links_kept : (old new : List (Option Record)) (n : ℕ) → OneFileDiffers n old new → KeepsNames n (table_in old) (table_in new) → all_links (table_in new) (length new) ≡ all_links (table_in old) (length old)
unfolding all_links
links_kept old new n differs keeps =
    ap (λ (f : ℕ → List Link). flat_map f (range_with_len 0 (length new))) (all_names (table_in old) (table_in new) n differs.others keeps)
    ∙ ap (λ (k : ℕ). flat_map (links_at (table_in old)) (range_with_len 0 k)) differs.count
