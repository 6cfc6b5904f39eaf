-- Records with a file more, by any file with its name.
use Rattle.std.proofs.Common.{◌≡◌, ◌≢◌, ℕ, true, List, length, Option, Some, None, refl, sym, ap, ◌∙◌, inl, inr, arith}
use Rattle.std.proofs.Math.ListN.{length-set}
use Rattle.std.proofs.lemmas.Bool.{cases_eq}
use Rattle.std.proofs.lemmas.List.{get_or-set_same, get_or-set_other}
use Rattle.same_names.specs.map_change.record_model.Records.{Record}
use Rattle.tree_laws.specs.file_tree.declared.link.Link.{Link}
use Rattle.tree_laws.specs.state_model.Files.{only_base, file_at, is_base_record}
use Rattle.tree_laws.specs.state_model.Loads.{table_in}
use Rattle.made_names.specs.Made.{MakesName, with_file}
use Rattle.same_names.specs.Names.{IsNamedAlike, SameNames}
use Rattle.names_grow.specs.Grown.{filled_up, HasFileMore, MoreIsTold}
use Rattle.names_grow.proofs.Lists.{based, itself}

module _ (records others : List (Option Record)) (n : ℕ) (l : Link) (f : Record) where
  abbrev filled : List (Option Record)
  filled = filled_up (length others) records

  module _ (made : MakesName filled n f l) (same : SameNames (with_file n f filled) others) where
    base_is : (g : Record) → is_base_record g ≡ true → only_base (Some g) ≡ Some g
    base_is g own = rw own refl

    here : (g : Record) → is_base_record g ≡ true → file_at (table_in (with_file n g filled)) n ≡ Some g
    unfolding file_at
    here g own = ap only_base (get_or-set_same filled n (Some g) None made.within) ∙ base_is g own

    elsewhere : (g : Record) (k : ℕ) → k ≢ n → file_at (table_in (with_file n g filled)) k ≡ file_at (table_in filled) k
    unfolding file_at
    elsewhere g k other = ap only_base (get_or-set_other filled n k (Some g) None other)

    alike_at : (k : ℕ) (o p a b : Option Record) → o ≡ a → p ≡ b → IsNamedAlike k a b → IsNamedAlike k o p
    alike_at k o p a b is that alike = rw (is, that) alike

    own_base : (s : Record) → file_at (table_in others) n ≡ Some s → is_base_record s ≡ true
    unfolding file_at
    own_base s is = based (table_in others n) s is

    by_file : (o : Option Record) → file_at (table_in others) n ≡ o → IsNamedAlike n (Some f) o → HasFileMore n l records others
    by_file None is alike = absurd alike
    by_file (Some s) is alike =
        let own = own_base s is in
        record {
          file = s;
          there = is;
          makes = record { within = made.within; user = made.user; none = made.none; leaf = made.leaf; base = own; one = alike.1 ∙ made.one; there = made.there; leads = made.leads };
          names = record {
            count = let a = length-set filled n (Some f) in let b = length-set filled n (Some s) in let c = same.count in omega (arith, a, b, c);
            each = λ k. elim (cases_eq k n) [
              | inl it ↦ alike_at k _ _ (Some s) (Some s) (ap (file_at (table_in (with_file n s filled))) it ∙ here s own) (ap (file_at (table_in others)) it ∙ is) (refl, refl)
              | inr other ↦ alike_at k _ _ _ _ (elsewhere s k other ∙ sym (elsewhere f k other)) refl (same.each k)
            ];
          };
        }

    pub is_told : HasFileMore n l records others
    is_told = by_file (file_at (table_in others) n) refl (alike_at n _ _ _ _ (sym (here f made.base)) refl (same.each n))

pub told : MoreIsTold
told = record { more = λ records others n f l made same. is_told records others n l f made same; itself = itself }
