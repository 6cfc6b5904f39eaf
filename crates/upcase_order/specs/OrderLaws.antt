-- The laws of the order of names, for every table, and of the table of a volume that this project formats.
use Rattle.std.specs.Prelude.{◌≡◌, ◌≢◌, ◌↔◌, ◌<◌, ℕ, List, IsTrue, length, slice_index}
use Rattle.std.specs.Cmp.{IsTotalOrder, IsEquivalence}
use Rattle.std.specs.declared.cmp.Ordering.TheVariants.{Equal, Greater}
use Rattle.index_model.specs.file_tree.Names.{upper_units, name_order, same_name}
use Rattle.upcase_order.specs.Tables.{standard_upper, standard_table}

-- any two names compare, and comparing goes along
abbrev pub OrderIsTotal : Type 0
OrderIsTotal = (table : List ℕ) → IsTotalOrder (name_order table)

-- two names compare as equal exactly where their units are equal
abbrev pub EqualsHaveEqualUnits : Type 0
EqualsHaveEqualUnits = (table a b : List ℕ) → (name_order table a b ≡ Equal) ↔ (a ≡ b)

-- two names are the same exactly where their upper-case units are equal
abbrev pub SameHaveEqualUpperUnits : Type 0
SameHaveEqualUpperUnits = (table a b : List ℕ) → IsTrue (same_name table a b) ↔ (upper_units table a ≡ upper_units table b)

-- each name is the same as itself, both ways, and along
abbrev pub SameIsEquivalence : Type 0
SameIsEquivalence = (table : List ℕ) → IsEquivalence (same_name table)

-- names that compare as equal are the same
abbrev pub EqualsAreSame : Type 0
EqualsAreSame = (table a b : List ℕ) → name_order table a b ≡ Equal → IsTrue (same_name table a b)

-- between two names that are the same stand only names that are the same
abbrev pub SameStandTogether : Type 0
SameStandTogether = (table a b c : List ℕ) → IsTrue (same_name table a c) → name_order table a b ≢ Greater → name_order table b c ≢ Greater → IsTrue (same_name table a b)

-- the table of a volume that this project formats has 65,536 values, and gives each unit its upper-case unit
pub record StandardTableGives : Type 0 where
  pub size : length standard_table ≡ 65536
  pub gives : (unit : ℕ) → unit < 65536 → slice_index standard_table unit ≡ standard_upper unit
