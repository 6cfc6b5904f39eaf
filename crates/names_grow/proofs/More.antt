-- What is tried is that there is one file more.
use Rattle.std.proofs.Common.{◌≡◌, ◌≢◌, ℕ, List, length, Option, Some, None, refl, sym, ap, subst, ◌∙◌, inl, inr, arith}
use Rattle.std.proofs.Math.ListN.{length-set}
use Rattle.std.proofs.lemmas.Bool.{cases_eq}
use Rattle.std.proofs.lemmas.List.{get_or-set_same, get_or-set_other}
use Rattle.std.specs.Prelude.{true}
use Rattle.same_names.specs.map_change.record_model.Records.{Record}
use Rattle.tree_laws.specs.file_tree.declared.link.Link.{Link}
use Rattle.tree_laws.specs.state_model.Files.{Table, only_base, file_at}
use Rattle.tree_laws.specs.state_model.Loads.{table_in}
use Rattle.tree_laws.specs.state_model.Trees.{leads}
use Rattle.tree_laws.specs.Leaves.{IsLeaf}
use Rattle.tree_laws.specs.Ways.{WaysAreShort}
use Rattle.record_rules.specs.Counts.{has_reference}
use Rattle.made_names.specs.Made.{MakesName, with_file}
use Rattle.same_names.specs.Names.{IsNamedAlike, SameNames}
use Rattle.names_grow.specs.Grown.{filled_up, HasFileMore}
use Rattle.names_grow.specs.Trying.{BeginsFile, HasOneName, GoesOnWith}
use Rattle.names_grow.proofs.Lists.{same_table, filled_count, based}

module _ (short : WaysAreShort) (n : ℕ) (l : Link) (records others : List (Option Record)) where
  abbrev filled : List (Option Record)
  filled = filled_up (length others) records

  same : table_in filled ≡ table_in records
  same = same_table (length others) records

  -- ---- the records of before, and those that are filled up

  up : (d : ℕ) → leads (table_in records) (length records) d ≡ true → leads (table_in filled) (length filled) d ≡ true
  up d is = short.short filled (length records) d (subst (λ (p : Table). leads p (length records) d ≡ true) (sym same) is)

  down : (d : ℕ) → leads (table_in filled) (length filled) d ≡ true → leads (table_in records) (length records) d ≡ true
  down d is = short.short records (length filled) d (subst (λ (p : Table). leads p (length filled) d ≡ true) same is)

  makes : (f : Record) → IsLeaf n (table_in records) → BeginsFile n l records → GoesOnWith n l records others → file_at (table_in others) n ≡ Some f → MakesName filled n f l
  unfolding file_at
  makes f leaf begins goes is =
      let count = filled_count (length others) records in
      let within = goes.within in
      let longer = goes.longer in
      record {
        within = omega (arith, count, within, longer);
        user = begins.user;
        none = ap (λ (p : Table). file_at p n) same ∙ begins.none;
        leaf = subst (IsLeaf n) (sym same) leaf;
        base = based (table_in others n) f is;
        one = subst (HasOneName n l) is goes.named;
        there = subst (λ (p : Table). has_reference p l.parent ≡ true) (sym same) begins.there;
        leads = up l.parent.number begins.leads;
      }

  -- ---- the file, and the others

  alike_at : (k : ℕ) (o p a b : Option Record) → o ≡ a → p ≡ b → IsNamedAlike k a b → IsNamedAlike k o p
  alike_at k o p a b is that alike = rw (is, that) alike

  module _ (f : Record) (made : MakesName filled n f l) where
    here : file_at (table_in (with_file n f filled)) n ≡ Some f
    unfolding file_at
    here = ap only_base (get_or-set_same filled n (Some f) None made.within) ∙ base_is (Some f)
      where
        base_is : (o : Option Record) → only_base (Some f) ≡ Some f
        base_is o = rw made.base refl

    elsewhere : (k : ℕ) → k ≢ n → file_at (table_in (with_file n f filled)) k ≡ file_at (table_in records) k
    unfolding file_at
    elsewhere k other = ap only_base (get_or-set_other filled n k (Some f) None other) ∙ ap (λ (p : Table). only_base (p k)) same

  names : (f : Record) → MakesName filled n f l → GoesOnWith n l records others → file_at (table_in others) n ≡ Some f → SameNames (with_file n f filled) others
  names f made goes is = record {
    count = let count = filled_count (length others) records in let set = length-set filled n (Some f) in let longer = goes.longer in omega (arith, count, set, longer);
    each = each;
  }
    where
      each : (k : ℕ) → IsNamedAlike k (file_at (table_in (with_file n f filled)) k) (file_at (table_in others) k)
      each k = elim (cases_eq k n) [
        | inl it ↦ alike_at k _ _ (Some f) (Some f) (ap (file_at (table_in (with_file n f filled))) it ∙ here f made) (ap (file_at (table_in others)) it ∙ is) (refl, refl)
        | inr other ↦ alike_at k _ _ (file_at (table_in records) k) (file_at (table_in others) k) (elsewhere f made k other) refl (goes.elsewhere k other)
      ]

  by_file : (o : Option Record) → file_at (table_in others) n ≡ o → IsLeaf n (table_in records) → BeginsFile n l records → GoesOnWith n l records others → HasFileMore n l records others
  by_file None is leaf begins goes = absurd (subst (HasOneName n l) is goes.named)
  by_file (Some f) is leaf begins goes = let made = makes f leaf begins goes is in record { file = f; there = is; makes = made; names = names f made goes is }

  pub is_more : IsLeaf n (table_in records) → BeginsFile n l records → GoesOnWith n l records others → HasFileMore n l records others
  is_more leaf begins goes = by_file (file_at (table_in others) n) refl leaf begins goes

  -- ---- one more is what is tried

  pub more_begins : HasFileMore n l records others → BeginsFile n l records
  more_begins more = record {
    user = more.makes.user;
    none = ap (λ (p : Table). file_at p n) (sym same) ∙ more.makes.none;
    there = subst (λ (p : Table). has_reference p l.parent ≡ true) same more.makes.there;
    leads = down l.parent.number more.makes.leads;
  }

  pub more_goes : HasFileMore n l records others → GoesOnWith n l records others
  more_goes more =
      let count = filled_count (length others) records in
      let set = length-set filled n (Some more.file) in
      let all = more.names.count in
      let within = more.makes.within in
      record {
        longer = omega (arith, count, set, all);
        within = omega (arith, within, set, all);
        named = subst (HasOneName n l) (sym more.there) more.makes.one;
        elsewhere = λ k other. alike_at k _ _ _ _ (sym (elsewhere more.file more.makes k other)) refl (more.names.each k);
      }
