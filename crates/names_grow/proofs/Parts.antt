-- Changes of a map's parts behind which its files go on.
use Rattle.std.proofs.Common.{◌≡◌, ℕ, ◌<◌, ◌≤◌, Bool, true, List, length, get_or, Option, Some, None, Result, Ok, Err, sym, ap, subst, ◌∙◌, arith}
use Rattle.std.specs.Prelude.{find, IfOk}
use Rattle.same_names.specs.map_change.record_model.Records.{Record}
use Rattle.tree_laws.specs.file_tree.declared.link.Link.{Link}
use Rattle.tree_laws.specs.state_model.declared.stream.Extents.{Extents}
use Rattle.tree_laws.specs.state_model.Files.{only_base, file_at}
use Rattle.tree_laws.specs.state_model.Loads.{table_in, record_count}
use Rattle.tree_laws.specs.Leaves.{IsLeaf}
use Rattle.tree_laws.specs.Ways.{WaysAreShort}
use Rattle.same_names.specs.map_change.declared.change.RecordChange.{RecordChange}
use Rattle.same_names.specs.map_change.Parts.{MapParts}
use Rattle.same_names.specs.Keeping.{is_of}
use Rattle.same_names.proofs.Kept.{file_put, others as files_behind, count_is, at_others}
use Rattle.names_grow.specs.Grown.{HasFileMore}
use Rattle.names_grow.specs.Trying.{BeginsFile, HasOneName, GoesOnWith, LeaveOthers}
use Rattle.names_grow.proofs.Changes.{left_elsewhere, elsewhere_left}
use Rattle.names_grow.proofs.More.{is_more, more_goes}

module _ (n : ℕ) (l : Link) (p : MapParts) (f : Extents) (xs : List RecordChange) where
  abbrev records : List (Option Record)
  records = p.volume.files

  abbrev behind : List (Option Record)
  behind = files_behind p f xs

  pub counted : GoesOnWith n l records behind → length records ≤ record_count f
  counted goes = let longer = goes.longer in let count = count_is p f xs in omega (arith, longer, count)

  pub inside : GoesOnWith n l records behind → n < record_count f
  inside goes = let within = goes.within in let count = count_is p f xs in omega (arith, within, count)

  file_put_at : n < record_count f → file_at (table_in behind) n ≡ only_base (file_put (find (is_of n) xs) (get_or records n None))
  unfolding file_at
  file_put_at below = ap only_base (at_others p f xs n below)

  file_there : (x : RecordChange) → n < record_count f → find (is_of n) xs ≡ Some x → file_at (table_in behind) n ≡ only_base x.file
  file_there x below is = file_put_at below ∙ ap (λ (o : Option RecordChange). only_base (file_put o (get_or records n None))) is

  -- where no record is put there, there is no file
  pub needs_change : find (is_of n) xs ≡ None → file_at (table_in records) n ≡ None → GoesOnWith n l records behind → ⊥
  unfolding file_at
  needs_change is none goes = subst (HasOneName n l) (file_put_at (inside goes) ∙ ap (λ (o : Option RecordChange). only_base (file_put o (get_or records n None))) is ∙ none) goes.named

  pub named_there : (x : RecordChange) (o : Option Record) → find (is_of n) xs ≡ Some x → o ≡ only_base x.file → GoesOnWith n l records behind → HasOneName n l o
  named_there x o is that goes = subst (HasOneName n l) (file_there x (inside goes) is ∙ sym that) goes.named

  goes_by : (x : RecordChange) (o : Option Record) → n < record_count f → length records ≤ record_count f → find (is_of n) xs ≡ Some x → o ≡ only_base x.file → HasOneName n l o → LeaveOthers n (record_count f) records xs → GoesOnWith n l records behind
  goes_by x o below longer is that named leave =
      let count = count_is p f xs in
      record {
        longer = omega (arith, longer, count);
        within = omega (arith, below, count);
        named = subst (HasOneName n l) (that ∙ sym (file_there x below is)) named;
        elsewhere = left_elsewhere n p f xs longer leave;
      }

  -- the same of a call's answer
  pub goes_ok : {E : Type 0} (x : RecordChange) (o : Option Record) (files : List (Option Record)) (ys : List RecordChange) (r : Result Bool E) → n < record_count f → length records ≤ record_count f → find (is_of n) xs ≡ Some x → o ≡ only_base x.file → HasOneName n l o → files ≡ records → ys ≡ xs
      → IfOk r (λ keeps. keeps ≡ true → LeaveOthers n (record_count f) files ys) → IfOk r (λ goes. goes ≡ true → GoesOnWith n l records behind)
  goes_ok x o files ys (Ok keeps) below longer is that named these those tells =
      λ same. goes_by x o below longer is that named (subst (λ (fs : List (Option Record)). LeaveOthers n (record_count f) fs xs) these (subst (LeaveOthers n (record_count f) files) those (tells same)))
  goes_ok x o files ys (Err e) below longer is that named these those tells = tt

  pub ok_goes : {E : Type 0} (files : List (Option Record)) (ys : List RecordChange) (r : Result Bool E) → files ≡ records → ys ≡ xs
      → IfOk r (λ keeps. LeaveOthers n (record_count f) files ys → keeps ≡ true) → IfOk r (λ goes. GoesOnWith n l records behind → goes ≡ true)
  ok_goes files ys (Ok keeps) these those tells = λ goes.
      tells (subst (LeaveOthers n (record_count f) files) (sym those) (subst (λ (fs : List (Option Record)). LeaveOthers n (record_count f) fs xs) (sym these) (elsewhere_left n p f xs (counted goes) goes.elsewhere)))
  ok_goes files ys (Err e) these those tells = tt

-- ---- one file more, by a call's answer

pub more_ok : {E : Type 0} (short : WaysAreShort) (n : ℕ) (l : Link) (before after : List (Option Record)) (r : Result Bool E) → IsLeaf n (table_in before) → BeginsFile n l before → IfOk r (λ goes. goes ≡ true → GoesOnWith n l before after) → IfOk r (λ has. has ≡ true → HasFileMore n l before after)
more_ok short n l before after (Ok goes) leaf begins tells = λ same. is_more short n l before after leaf begins (tells same)
more_ok short n l before after (Err e) leaf begins tells = tt

pub ok_more : {E : Type 0} (short : WaysAreShort) (n : ℕ) (l : Link) (before after : List (Option Record)) (r : Result Bool E) → IfOk r (λ goes. GoesOnWith n l before after → goes ≡ true) → IfOk r (λ has. HasFileMore n l before after → has ≡ true)
ok_more short n l before after (Ok goes) tells = λ more. tells (more_goes short n l before after more)
ok_more short n l before after (Err e) tells = tt
