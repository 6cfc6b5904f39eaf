-- What the ways up that were passed once say of a file table.
use Rattle.std.proofs.Common.{◌≡◌, ℕ, zero, suc, ◌≤◌, Bool, true, false, List, Option, Some, None, length, map, get_or, refl, sym, ap, ◌∙◌, inl, inr, arith}
use Rattle.std.specs.Prelude.{not, ◌&&◌, ◌||◌, ◌==◌, nat_lt, if◌then◌else◌}
use Rattle.std.specs.List.{range_with_len}
use mathlib.Core.Path.{fun_ext}
use Rattle.std.proofs.lemmas.Bool.{cases_lt, lt-ltb}
use Rattle.std.proofs.lemmas.List.{get_or_past}
use Rattle.std.proofs.lemmas.List.FromFn.{get_or-map-range_with_len, length-map-range_with_len}
use Rattle.state_model.specs.record_model.Records.{Record}
use Rattle.state_model.specs.file_tree.Walks.{root, at_some, first_user_record, passes_system}
use Rattle.state_model.specs.Files.{Table}
use Rattle.state_model.specs.Trees.{parent_at, leads, is_in_system}
use Rattle.state_model.specs.Loads.{table_in}
use Rattle.record_rules.specs.declared.passing.Question.{Question}
use Rattle.record_rules.specs.declared.passing.Question.TheVariants.{Rooted, InSystem}
use Rattle.record_rules.specs.Passing.{end_of, answer_or, climbed, reach}
use Rattle.record_rules.proofs.Ascents.{no_parent, parent_past}

-- the directories of a table, by number
parents_are : (records : List (Option Record)) (ps : List (Option ℕ)) → ps ≡ map (parent_at (table_in records)) (range_with_len 0 (length records)) → (n : ℕ) → get_or ps n None ≡ parent_at (table_in records) n
parents_are records ps is n =
    let size = ap length is ∙ length-map-range_with_len (parent_at (table_in records)) 0 (length records) in
    elim (cases_lt n (length records)) [
      | inl inside ↦ ap (λ xs. get_or xs n None) is ∙ get_or-map-range_with_len (parent_at (table_in records)) 0 (length records) n n None inside (omega arith)
      | inr past ↦ get_or_past ps n None (omega (arith, size, past)) ∙ parent_past records ps n is (omega (arith, size, past))
    ]

above_alike : (f g : ℕ → Bool) (a b : Option ℕ) → a ≡ b → ((k : ℕ) → f k ≡ g k) → at_some f a ≡ at_some g b
above_alike f g a b same alike = ap (at_some f) same ∙ at b
  where
    at : (o : Option ℕ) → at_some f o ≡ at_some g o
    at None = refl
    at (Some k) = alike k

-- ---- whether the way reaches the root

climbed_again : (q : Question) (ps : List (Option ℕ)) (most n : ℕ) → climbed q ps (suc most) n ≡ answer_or (end_of q n) (at_some (climbed q ps most) (get_or ps n None))
unfolding climbed
climbed_again q ps most n = refl

root_ends : (b other : Bool) → answer_or (if b then Some true else None) other ≡ (b || other)
root_ends true other = refl
root_ends false other = refl

or_none : (b : Bool) (o : Option ℕ) → (b || at_some (λ (k : ℕ). false) o) ≡ b
or_none true o = refl
or_none false None = refl
or_none false (Some k) = refl

rooted_zero : (p : Table) (ps : List (Option ℕ)) (n : ℕ) → climbed Rooted ps (suc zero) n ≡ leads p zero n
unfolding climbed leads
rooted_zero p ps n = root_ends (n == root) (at_some (λ (k : ℕ). false) (get_or ps n None)) ∙ or_none (n == root) (get_or ps n None)

rooted_suc : (p : Table) (ps : List (Option ℕ)) (most n : ℕ) → at_some (climbed Rooted ps (suc most)) (get_or ps n None) ≡ at_some (leads p most) (parent_at p n) → climbed Rooted ps (suc (suc most)) n ≡ leads p (suc most) n
unfolding leads
rooted_suc p ps most n above = climbed_again Rooted ps (suc most) n ∙ root_ends (n == root) (at_some (climbed Rooted ps (suc most)) (get_or ps n None)) ∙ ap (λ b. n == root || b) above

rooted_is : (p : Table) (ps : List (Option ℕ)) → ((n : ℕ) → get_or ps n None ≡ parent_at p n) → (most n : ℕ) → climbed Rooted ps (suc most) n ≡ leads p most n
rooted_is p ps same zero n = rooted_zero p ps n
rooted_is p ps same (suc most) n = rooted_suc p ps most n (above_alike (climbed Rooted ps (suc most)) (leads p most) (get_or ps n None) (parent_at p n) (same n) (rooted_is p ps same most))

pub are_rooted : (records : List (Option Record)) (ps : List (Option ℕ)) (marks : List Bool) → ps ≡ map (parent_at (table_in records)) (range_with_len 0 (length records)) → marks ≡ map (climbed Rooted ps (reach Rooted (length ps))) (range_with_len 0 (length ps)) → marks ≡ map (leads (table_in records) (length records)) (range_with_len 0 (length records))
are_rooted records ps marks is made =
    let size = ap length is ∙ length-map-range_with_len (parent_at (table_in records)) 0 (length records) in
    made
    ∙ ap (λ (k : ℕ). map (climbed Rooted ps (suc k)) (range_with_len 0 k)) size
    ∙ ap (λ (f : ℕ → Bool). map f (range_with_len 0 (length records))) (fun_ext (rooted_is (table_in records) ps (parents_are records ps is) (length records)))

-- ---- whether the volume's own directories stand on it

system_ends : (a b other : Bool) → answer_or (if a then Some false else if b then Some true else None) other ≡ (not a && (b || other))
system_ends true b other = refl
system_ends false true other = refl
system_ends false false other = refl

system_zero : (p : Table) (ps : List (Option ℕ)) (n : ℕ) → climbed InSystem ps zero n ≡ is_in_system p zero n
unfolding climbed passes_system
system_zero p ps n = refl

system_suc : (p : Table) (ps : List (Option ℕ)) (most n : ℕ) → at_some (climbed InSystem ps most) (get_or ps n None) ≡ at_some (is_in_system p most) (parent_at p n) → climbed InSystem ps (suc most) n ≡ is_in_system p (suc most) n
unfolding passes_system
system_suc p ps most n above = climbed_again InSystem ps most n ∙ system_ends (n == root) (nat_lt n first_user_record) (at_some (climbed InSystem ps most) (get_or ps n None)) ∙ ap (λ b. not (n == root) && (nat_lt n first_user_record || b)) above

system_is : (p : Table) (ps : List (Option ℕ)) → ((n : ℕ) → get_or ps n None ≡ parent_at p n) → (most n : ℕ) → climbed InSystem ps most n ≡ is_in_system p most n
system_is p ps same zero n = system_zero p ps n
system_is p ps same (suc most) n = system_suc p ps most n (above_alike (climbed InSystem ps most) (is_in_system p most) (get_or ps n None) (parent_at p n) (same n) (system_is p ps same most))

pub are_in_system : (records : List (Option Record)) (ps : List (Option ℕ)) (marks : List Bool) → ps ≡ map (parent_at (table_in records)) (range_with_len 0 (length records)) → marks ≡ map (climbed InSystem ps (reach InSystem (length ps))) (range_with_len 0 (length ps)) → marks ≡ map (is_in_system (table_in records) (length records)) (range_with_len 0 (length records))
are_in_system records ps marks is made =
    let size = ap length is ∙ length-map-range_with_len (parent_at (table_in records)) 0 (length records) in
    made
    ∙ ap (λ (k : ℕ). map (climbed InSystem ps k) (range_with_len 0 k)) size
    ∙ ap (λ (f : ℕ → Bool). map f (range_with_len 0 (length records))) (fun_ext (system_is (table_in records) ps (parents_are records ps is) (length records)))

-- ---- past the table

or_false : (b : Bool) → b ≡ (b || false)
or_false true = refl
or_false false = refl

leads_alone : (p : Table) (count n : ℕ) → parent_at p n ≡ None → (n == root) ≡ leads p count n
unfolding leads
leads_alone p zero n none = refl
leads_alone p (suc most) n none = or_false (n == root) ∙ ap (λ o. n == root || at_some (leads p most) o) (sym none)

pub rooted_past : (records : List (Option Record)) (marks : List Bool) (n : ℕ) → marks ≡ map (leads (table_in records) (length records)) (range_with_len 0 (length records)) → length marks ≤ n → (n == root) ≡ leads (table_in records) (length records) n
rooted_past records marks n is past =
    let size = ap length is ∙ length-map-range_with_len (leads (table_in records) (length records)) 0 (length records) in
    leads_alone (table_in records) (length records) n (no_parent records n (omega (arith, size, past)))

and_false : (a b : Bool) → (not a && b) ≡ (not a && (b || false))
and_false a b = ap (λ c. not a && c) (or_false b)

system_alone : (p : Table) (count n : ℕ) → parent_at p n ≡ None → (nat_lt 0 count && (not (n == root) && nat_lt n first_user_record)) ≡ is_in_system p count n
unfolding passes_system
system_alone p zero n none = refl
system_alone p (suc most) n none =
    ap (λ b. b && (not (n == root) && nat_lt n first_user_record)) (lt-ltb 0 (suc most) (omega arith))
    ∙ and_false (n == root) (nat_lt n first_user_record)
    ∙ ap (λ o. not (n == root) && (nat_lt n first_user_record || at_some (is_in_system p most) o)) (sym none)

pub system_past : (records : List (Option Record)) (marks : List Bool) (n : ℕ) → marks ≡ map (is_in_system (table_in records) (length records)) (range_with_len 0 (length records)) → length marks ≤ n → (nat_lt 0 (length records) && (not (n == root) && nat_lt n first_user_record)) ≡ is_in_system (table_in records) (length records) n
system_past records marks n is past =
    let size = ap length is ∙ length-map-range_with_len (is_in_system (table_in records) (length records)) 0 (length records) in
    system_alone (table_in records) (length records) n (no_parent records n (omega (arith, size, past)))
