-- The names of a new volume: each system file has one, in the root.
use Rattle.std.proofs.Common.{◌≡◌, ℕ, zero, suc, ◌+◌, ◌-◌, ◌^◌, ◌<◌, ◌≤◌, inl, inr, Bool, true, not, cond, ltb, ◌&&◌, List, [], ◌∷◌, Option, Some, None, refl, sym, ap, ◌∙◌, subst, arith}
use Rattle.std.specs.Prelude.{find}
use Rattle.std.specs.List.{list_all, cons_option, range_with_len}
use Rattle.std.proofs.lemmas.Bool.{cases_lt, lt-ltb, le-ltb}
use Rattle.std.proofs.lemmas.List.FromFn.{length-map-range_with_len}
use Rattle.record_model.specs.Records.{Record}
use Rattle.record_model.specs.StdValues.{file_name_of}
use Rattle.file_tree.specs.declared.link.Link.{Link}
use Rattle.state_model.specs.Files.{Table, only_base, file_at, is_directory_record, named, attr_link, record_links, file_links, links_at}
use Rattle.file_tree.specs.Walks.{at_some}
use Rattle.state_model.specs.Trees.{parent_at, leads, first_parent}
use Rattle.state_model.specs.Rules.{has_partner, is_only_short, keeps_names, at_file, keeps_1, is_directory_with, is_directory_at, keeps_2, implies, keeps_8, first_failing}
use Rattle.volume_model.specs.Volumes.{Volume, files_by_number, count_of}
use Rattle.volume_state.specs.Rules.{broken_1, broken_2, broken_8}
use Rattle.format_blocks.specs.volume_format.declared.layout.Layout.{Layout}
use Rattle.format_blocks.specs.volume_format.Layouts.{IsLayout}
use Rattle.format_blocks.specs.volume_format.Files.{sequence, is_directory, name_value, standard, name_attribute, system_attrs, system_data, other_streams, volume_streams, root_streams, extend_streams, system_record, reserved_record, spare_record, record_of, reference as new_reference}
use Rattle.format_files.specs.Volumes.{new_file, new_files, new_volume}
use Rattle.format_files.specs.Rules.{NewVolumeKeepsNames}
use Rattle.format_files.specs.Volumes.{new_link}
use Rattle.format_blocks.proofs.Naming.{of_twelve, name_read}
use Rattle.format_files.proofs.Tabling.{of_table, only_file, file_used, file_none}

-- ---- numbers

-- what holds of each number in use
pub of_sixteen : (P : ℕ → Type 0) → ((n : ℕ) → n < 12 → P n) → P 12 → P 13 → P 14 → P 15 → (n : ℕ) → n < 16 → P n
of_sixteen P low a b c d n lt = elim (cases_lt n 12) [
  | inl below ↦ low n below
  | inr above ↦ subst P (place n above) (four (n - 12) (omega arith))
]
  where
    four : (k : ℕ) → k < 4 → P (12 + k)
    four zero lt = a
    four (suc zero) lt = b
    four (suc (suc zero)) lt = c
    four (suc (suc (suc zero))) lt = d
    four (suc (suc (suc (suc k)))) lt = absurd (omega arith)

    place : (n : ℕ) → 12 ≤ n → 12 + (n - 12) ≡ n
    place n above = omega arith

pub none_failing : (test : ℕ → Bool) (count : ℕ) → ((n : ℕ) → n < count → test n ≡ true) → first_failing test count ≡ None
unfolding first_failing
none_failing test count each = go 0 count (λ n low high. each n (omega arith))
  where
    go : (a n : ℕ) → ((k : ℕ) → a ≤ k → k < a + n → test k ≡ true) → find (λ n. not (test n)) (range_with_len a n) ≡ None
    go a zero each = refl
    go a (suc n) each = ap (λ (b : Bool). cond (not b) (Some a) (find (λ n. not (test n)) (range_with_len (a + 1) n))) (each a (omega arith) (omega arith)) ∙ go (a + 1) n (λ k low high. each k (omega arith) (omega arith))

module _ (v : Layout) (time : ℕ) where
  abbrev pub vol : Volume
  vol = new_volume v time

  abbrev pub files : Table
  files = files_by_number vol

  pub file_is : (n : ℕ) → file_at files n ≡ new_file v time n
  unfolding file_at
  file_is n = ap only_base (of_table v time n) ∙ only_file v time n

  pub file_here : (n : ℕ) → n < 16 → file_at files n ≡ Some (record_of v time n)
  file_here n lt = file_is n ∙ file_used v time n lt

  pub file_gone : (n : ℕ) → 16 ≤ n → file_at files n ≡ None
  file_gone n le = file_is n ∙ file_none v time n le

  pub count_is : count_of vol ≡ 64
  unfolding new_files
  count_is = length-map-range_with_len (new_file v time) 0 64

  -- the record of each of the first twelve numbers
  pub system_here : (n : ℕ) → n < 12 → file_at files n ≡ Some (system_record v time n)
  unfolding record_of
  system_here n lt = file_here n (omega arith) ∙ ap (λ (b : Bool). Some (cond b (system_record v time n) (cond (ltb n 16) (reserved_record time n) (spare_record n)))) (lt-ltb n 12 lt)

  pub reserved_here : (n : ℕ) → 12 ≤ n → n < 16 → file_at files n ≡ Some (reserved_record time n)
  unfolding record_of
  reserved_here n le lt =
      file_here n lt
      ∙ ap (λ (b : Bool). Some (cond b (system_record v time n) (cond (ltb n 16) (reserved_record time n) (spare_record n)))) (le-ltb n 12 le)
      ∙ ap (λ (b : Bool). Some (cond b (reserved_record time n) (spare_record n))) (lt-ltb n 16 lt)

  -- what holds of each number
  pub of_each : (P : ℕ → Option Record → Type 0) → ((n : ℕ) → n < 12 → P n (Some (system_record v time n))) → ((n : ℕ) → 12 ≤ n → n < 16 → P n (Some (reserved_record time n))) → ((n : ℕ) → 16 ≤ n → P n None) → (n : ℕ) → P n (file_at files n)
  of_each P system reserved none n = elim (cases_lt n 12) [
    | inl low ↦ subst (P n) (sym (system_here n low)) (system n low)
    | inr high ↦ elim (cases_lt n 16) [
      | inl lt ↦ subst (P n) (sym (reserved_here n high lt)) (reserved n high lt)
      | inr le ↦ subst (P n) (sym (file_gone n le)) (none n le)
    ]
  ]

-- ---- names

module _ (v : Layout) (layout : IsLayout v) (time : ℕ) (small : time < 2 ^ 64) where
  named_link : (n : ℕ) → n < 12 → named (new_reference n) (file_name_of (name_value v time n)) ≡ Some (new_link n)
  named_link n lt = ap (named (new_reference n)) (name_read v layout time n small lt)

  one_link : ℕ → Option Link → List Link
  one_link n o = cons_option o []

  pub links_are : (n : ℕ) → n < 12 → record_links n (system_record v time n) ≡ new_link n ∷ []
  unfolding record_links attr_link system_record system_attrs system_data other_streams standard name_attribute volume_streams root_streams extend_streams one_link
  links_are n lt = of_twelve (λ k. record_links k (system_record v time k) ≡ new_link k ∷ [])
      (ap (one_link 0) (named_link 0 (omega arith)))
      (ap (one_link 1) (named_link 1 (omega arith)))
      (ap (one_link 2) (named_link 2 (omega arith)))
      (ap (one_link 3) (named_link 3 (omega arith)))
      (ap (one_link 4) (named_link 4 (omega arith)))
      (ap (one_link 5) (named_link 5 (omega arith)))
      (ap (one_link 6) (named_link 6 (omega arith)))
      (ap (one_link 7) (named_link 7 (omega arith)))
      (ap (one_link 8) (named_link 8 (omega arith)))
      (ap (one_link 9) (named_link 9 (omega arith)))
      (ap (one_link 10) (named_link 10 (omega arith)))
      (ap (one_link 11) (named_link 11 (omega arith)))
      n lt

  pub no_links : (n : ℕ) → record_links n (reserved_record time n) ≡ []
  unfolding record_links attr_link reserved_record standard
  no_links n = refl

  -- ---- rule 1

  names_kept : (n : ℕ) → n < 12 → keeps_names n (system_record v time n) (new_link n ∷ []) ≡ true
  unfolding keeps_names has_partner is_only_short is_directory system_record
  names_kept n lt = of_twelve (λ k. keeps_names k (system_record v time k) (new_link k ∷ []) ≡ true) refl refl refl refl refl refl refl refl refl refl refl refl n lt

  unnamed_kept : (n : ℕ) → 12 ≤ n → n < 16 → keeps_names n (reserved_record time n) [] ≡ true
  unfolding keeps_names reserved_record
  unnamed_kept n low lt = of_sixteen (λ k. 12 ≤ k → keeps_names k (reserved_record time k) [] ≡ true) (λ k below above. absurd (omega arith)) (λ le. refl) (λ le. refl) (λ le. refl) (λ le. refl) n lt low

  rule_1 : (n : ℕ) → keeps_1 (files v time) n ≡ true
  unfolding keeps_1
  rule_1 n = of_each v time (λ k o. at_file (λ r. keeps_names k r (record_links k r)) o ≡ true)
      (λ k lt. ap (keeps_names k (system_record v time k)) (links_are k lt) ∙ names_kept k lt)
      (λ k le lt. ap (keeps_names k (reserved_record time k)) (no_links k) ∙ unnamed_kept k le lt)
      (λ k le. refl) n

  -- ---- rule 2

  pub is_root : is_directory_at (files v time) (new_reference 5) ≡ true
  unfolding is_directory_at sequence is_directory system_record
  is_root = ap (is_directory_with 5) (system_here v time 5 (omega arith))

  pub links_here : (n : ℕ) → n < 12 → links_at (files v time) n ≡ new_link n ∷ []
  unfolding links_at
  links_here n lt = ap (file_links n) (system_here v time n lt) ∙ links_are n lt

  pub links_reserved : (n : ℕ) → 12 ≤ n → links_at (files v time) n ≡ []
  unfolding links_at
  links_reserved n le = elim (cases_lt n 16) [
    | inl lt ↦ ap (file_links n) (reserved_here v time n le lt) ∙ no_links n
    | inr high ↦ ap (file_links n) (file_gone v time n high)
  ]

  rule_2 : (n : ℕ) → keeps_2 (files v time) n ≡ true
  unfolding keeps_2
  rule_2 n = elim (cases_lt n 12) [
    | inl lt ↦ ap (list_all (λ (l : Link). is_directory_at (files v time) l.parent)) (links_here n lt) ∙ ap (λ (b : Bool). b && true) is_root
    | inr le ↦ ap (list_all (λ (l : Link). is_directory_at (files v time) l.parent)) (links_reserved n le)
  ]

  -- ---- rule 8

  up_from_extend : leads (files v time) 64 11 ≡ true
  unfolding leads parent_at
  up_from_extend = ap (λ (links : List Link). at_some (leads (files v time) 63) (first_parent links)) (links_here 11 (omega arith))

  up_from_root : leads (files v time) 64 5 ≡ true
  unfolding leads
  up_from_root = refl

  leads_up : (n : ℕ) → n < 12 → implies (is_directory_record (system_record v time n)) (leads (files v time) 64 n) ≡ true
  unfolding is_directory system_record
  leads_up n lt = of_twelve (λ k. implies (is_directory_record (system_record v time k)) (leads (files v time) 64 k) ≡ true) refl refl refl refl refl up_from_root refl refl refl refl refl up_from_extend n lt

  reserved_up : (n : ℕ) → implies (is_directory_record (reserved_record time n)) (leads (files v time) 64 n) ≡ true
  unfolding reserved_record
  reserved_up n = refl

  rule_8 : (n : ℕ) → keeps_8 (files v time) 64 n ≡ true
  unfolding keeps_8
  rule_8 n = of_each v time (λ k o. at_file (λ r. implies (is_directory_record r) (leads (files v time) 64 k)) o ≡ true) leads_up (λ k le lt. reserved_up k) (λ k le. refl) n

pub keeps_names_law : NewVolumeKeepsNames
unfolding broken_1 broken_2 broken_8
keeps_names_law = λ v time layout small. record {
  names = none_failing (keeps_1 (files v time)) (count_of (vol v time)) (λ n lt. rule_1 v layout time small n);
  directories = none_failing (keeps_2 (files v time)) (count_of (vol v time)) (λ n lt. rule_2 v layout time small n);
  ways = ap (λ (count : ℕ). first_failing (keeps_8 (files v time) count) count) (count_is v time) ∙ none_failing (keeps_8 (files v time) 64) 64 (λ n lt. rule_8 v layout time small n);
}
