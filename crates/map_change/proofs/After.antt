-- The file with a number, and its bitmap, after records were put in place.
use Rattle.std.proofs.Common.{◌≡◌, ℕ, ◌<◌, ◌≤◌, Bool, cond, eqb, List, [], ◌∷◌, set, get_or, length, Option, Some, None, Result, refl, sym, ap, subst, ◌∙◌, inl, inr, arith}
use Rattle.std.specs.Prelude.{find, IfSome, IfOk}
use Rattle.std.proofs.lemmas.Bool.{cases_eq, eq-eqb, ne_eqb}
use Rattle.std.proofs.lemmas.List.{get_or-set_same, get_or-set_other, get_or_past}
use Rattle.std.proofs.Math.ListN.{length-set}
use Rattle.disk_model.specs.Content.{Content}
use Rattle.disk_model.specs.declared.block.Change.{Change}
use Rattle.volume_map.specs.record_model.Records.{Record}
use Rattle.volume_map.specs.state_model.declared.stream.Extents.{Extents}
use Rattle.volume_map.specs.state_model.declared.stream.Stream.{Stream}
use Rattle.volume_map.specs.state_model.Files.{file_at, only_base}
use Rattle.volume_map.specs.state_model.Loads.{record_count, table_in}
use Rattle.volume_map.specs.volume_model.Volumes.{file_in, count_of}
use Rattle.volume_map.specs.declared.fault.MapFault.{MapFault}
use Rattle.map_change.specs.declared.change.RecordChange.{RecordChange}
use Rattle.map_change.specs.declared.change.BitsChange.{BitsChange}
use Rattle.map_change.specs.Parts.{MapParts}
use Rattle.map_change.specs.Applying.{tabled, applied_all}
use Rattle.map_change.specs.Reading.{IsBits}
use Rattle.map_change.proofs.Resizing.{length_resized, get_resized}

abbrev has : ℕ → RecordChange → Bool
has n x = eqb x.number n

abbrev changed_to : Option RecordChange → Option Record → Option Record
changed_to None old = old
changed_to (Some x) old = x.file

length_applied : (xs : List RecordChange) (q : MapParts) → length (applied_all xs q).volume.files ≡ length q.volume.files
length_applied [] q = refl
length_applied (x ∷ xs) q = length-set (applied_all xs q).volume.files x.number x.file ∙ length_applied xs q

get_applied : (xs : List RecordChange) (q : MapParts) (n : ℕ) → n < length q.volume.files → get_or (applied_all xs q).volume.files n None ≡ changed_to (find (has n) xs) (get_or q.volume.files n None)
get_applied [] q n below = refl
get_applied (x ∷ xs) q n below =
    let files = (applied_all xs q).volume.files in
    elim (cases_eq x.number n) [
      | inl same ↦
          ap (λ (k : ℕ). get_or (set files k x.file) n None) same
          ∙ get_or-set_same files n x.file None (omega (arith, below, length_applied xs q))
          ∙ sym (ap (λ (t : Bool). changed_to (cond t (Some x) (find (has n) xs)) (get_or q.volume.files n None)) (eq-eqb x.number n same))
      | inr other ↦
          get_or-set_other files x.number n x.file None (λ is. other (sym is))
          ∙ get_applied xs q n below
          ∙ sym (ap (λ (t : Bool). changed_to (cond t (Some x) (find (has n) xs)) (get_or q.volume.files n None)) (ne_eqb x.number n other))
    ]

module _ (xs : List RecordChange) (f : Extents) (p : MapParts) (n : ℕ) where
  -- none behind the table's end
  pub none_after : record_count f ≤ n → None ≡ file_in (applied_all xs (tabled f p)).volume n
  unfolding file_at
  none_after past = sym (ap only_base (get_or_past (applied_all xs (tabled f p)).volume.files n None (omega (arith, past, length_applied xs (tabled f p), length_resized (record_count f) None p.volume.files))))

  found_after : n < record_count f → (o : Option RecordChange) → find (has n) xs ≡ o → only_base (changed_to o (get_or p.volume.files n None)) ≡ file_in (applied_all xs (tabled f p)).volume n
  unfolding file_at
  found_after below o is = sym (ap only_base (
      get_applied xs (tabled f p) n (omega (arith, below, length_resized (record_count f) None p.volume.files))
      ∙ ap (changed_to (find (has n) xs)) (get_resized (record_count f) None p.volume.files n below)
      ∙ ap (λ (q : Option RecordChange). changed_to q (get_or p.volume.files n None)) is))

  -- one that was put
  pub put_after : n < record_count f → (x : RecordChange) → find (has n) xs ≡ Some x → only_base x.file ≡ file_in (applied_all xs (tabled f p)).volume n
  put_after below x is = found_after below (Some x) is

  -- and one that stays
  pub stays_after : n < record_count f → find (has n) xs ≡ None → file_at (table_in p.volume.files) n ≡ file_in (applied_all xs (tabled f p)).volume n
  unfolding file_at
  stays_after below is = found_after below None is

  pub count_after : record_count f ≡ count_of (applied_all xs (tabled f p)).volume
  count_after = sym (length_applied xs (tabled f p) ∙ length_resized (record_count f) None p.volume.files)

-- the bits of a bitmap that is said in other words
abbrev result_bits : Result BitsChange MapFault → ℕ → Option Stream → ℕ → Option Stream → ℕ → List Change → Content → Type 0
result_bits result per s n now count changes d = IfOk result (IsBits d per s n now count changes)

pub bits_in_words : (known : Option Content) (result : Result BitsChange MapFault) (per : ℕ) (s t : Option Stream) (n m : ℕ) (now later : Option Stream) (count k : ℕ) (changes : List Change) → s ≡ t → n ≡ m → now ≡ later → count ≡ k → IfSome known (result_bits result per s n now count changes)
    → IfSome known (result_bits result per t m later k changes)
bits_in_words known result per s t n m now later count k changes old many new size is =
    subst (λ (o : Option Stream). IfSome known (result_bits result per o m later k changes)) old
    (subst (λ (z : ℕ). IfSome known (result_bits result per s z later k changes)) many
    (subst (λ (o : Option Stream). IfSome known (result_bits result per s n o k changes)) new
    (subst (λ (z : ℕ). IfSome known (result_bits result per s n now z changes)) size is)))
