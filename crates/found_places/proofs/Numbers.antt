-- What a state says of the number of a new file, where it is one of the file table as it is.
use Rattle.std.proofs.Common.{◌≡◌, ℕ, zero, suc, ◌+◌, ◌-◌, ◌*◌, ◌/◌, ◌%◌, ◌<◌, ◌≤◌, Bool, true, false, cond, eqb, ltb, max, List, [], ◌∷◌, length, Option, Some, None, refl, sym, ap, subst, ◌∙◌, inl, inr, arith}
use Rattle.std.specs.Prelude.{map, find, is_some}
use Rattle.std.specs.List.{filter_map, range_with_len, cons_option, list_any}
use Rattle.std.proofs.lemmas.Bool.{cases_Bool}
use Rattle.host_base.specs.declared.file_ref.FileRef.{FileRef}
use Rattle.disk_model.specs.declared.block.BlockKind.TheVariants.{FileRec}
use Rattle.disk_model.specs.Content.{Content}
use Rattle.record_model.specs.declared.runs.Run.{Run}
use Rattle.record_model.specs.Pairs.{HasSpelling}
use Rattle.file_tree.specs.Walks.{first_user_record}
use Rattle.bit_set.specs.Bits.{bit}
use Rattle.state_model.specs.declared.geometry.Geometry.{Geometry}
use Rattle.state_model.specs.declared.stream.Extents.{Extents}
use Rattle.state_model.specs.declared.stream.Stream.{Stream}
use Rattle.state_model.specs.declared.stream.Stream.TheVariants.{Held, Placed}
use Rattle.state_model.specs.Loads.{extents_or, record_count, total_clusters}
use Rattle.state_model.specs.Streams.{holds, lcn_in, block_at}
use Rattle.volume_model.specs.Nodes.{spare_at, spare_numbers, spare_sequence}
use Rattle.volume_model.specs.Sizes.{is_hole}
use Rattle.volume_model.specs.Volumes.{Volume, count_of, record_bits, record_bytes}
use Rattle.volume_state.specs.Trees.{tree_of, tree_with}
use Rattle.stream_laws.specs.Sharing.{stream_at}
use Rattle.stream_laws.specs.Tables.{table_key}
use Rattle.stream_laws.proofs.Tabling.{table_extents_is}
use Rattle.tree_model.specs.Effects.{new_numbers, numbers_to_take, lesser_ref, least_ref}
use Rattle.lookup_laws.proofs.Among.{Among}
use Rattle.plan_owners.specs.States.{Stands}
use Rattle.plan_owners.proofs.Standing.{begins}
use Rattle.made_trees.proofs.written_values.plan_edits.Bitmap.{found_in, mapped}

-- ---- the least of spare numbers is one of them

lesser_by : (ref x : FileRef) (refs : List FileRef) (o : Option FileRef) → ((y : FileRef) → o ≡ Some y → Among y refs) → lesser_ref ref o ≡ x → Among x (ref ∷ refs)
lesser_by ref x refs None later is = inl is
lesser_by ref x refs (Some other) later is = elim (cases_Bool (ltb other.number ref.number)) [
  | inl less ↦ inr (subst (λ (y : FileRef). Among y refs) (sym (ap (λ (t : Bool). cond t other ref) less) ∙ is) (later other refl))
  | inr more ↦ inl (sym (ap (λ (t : Bool). cond t other ref) more) ∙ is)
]

least_among : (refs : List FileRef) (x : FileRef) → least_ref refs ≡ Some x → Among x refs
unfolding least_ref
least_among [] x is = absurd cc
least_among (ref ∷ refs) x is = (let same : lesser_ref ref (least_ref refs) ≡ x = cc in lesser_by ref x refs (least_ref refs) (λ y least. least_among refs y least) same)

-- ---- numbers in order

-- the number that a list of what numbers give has something from
record IsFrom (f : ℕ → Option FileRef) (low high : ℕ) (x : FileRef) : Type 0 where
  n : ℕ
  above : low ≤ n
  below : n < high
  gives : f n ≡ Some x

from_by : (f : ℕ → Option FileRef) (a k : ℕ) (x : FileRef) (refs : List FileRef) (o : Option FileRef) → f a ≡ o → (Among x refs → IsFrom f (a + 1) (a + 1 + k) x) → Among x (cons_option o refs) → IsFrom f a (a + suc k) x
from_by f a k x refs None is later there = let rest = later there in record { n = rest.n; above = omega (arith, rest.above); below = omega (arith, rest.below); gives = rest.gives }
from_by f a k x refs (Some y) is later (inl same) = record { n = a; above = omega arith; below = omega arith; gives = is ∙ ap (λ (z : FileRef). Some z) same }
from_by f a k x refs (Some y) is later (inr there) = let rest = later there in record { n = rest.n; above = omega (arith, rest.above); below = omega (arith, rest.below); gives = rest.gives }

given_from : (f : ℕ → Option FileRef) (a k : ℕ) (x : FileRef) → Among x (filter_map f (range_with_len a k)) → IsFrom f a (a + k) x
given_from f a zero x there = absurd there
given_from f a (suc k) x there = from_by f a k x (filter_map f (range_with_len (a + 1) k)) (f a) refl (λ later. given_from f (a + 1) k x later) there

new_above : (a k : ℕ) (x : FileRef) → Among x (map (λ (number : ℕ). record { number = number; seq = 1 }) (range_with_len a k)) → a ≤ x.number
new_above a zero x there = absurd there
new_above a (suc k) x (inl same) = (let is : a ≡ x.number = ap (λ (y : FileRef). y.number) same in omega (arith, is))
new_above a (suc k) x (inr later) = (let rest = new_above (a + 1) k x later in omega (arith, rest))

-- ---- a spare number

spare_by : (t : Bool) (n seq : ℕ) (x : FileRef) → cond t None (Some (record { number = n; seq = seq })) ≡ Some x → (t ≡ false) × (x.number ≡ n)
spare_by true n seq x is = absurd cc
spare_by false n seq x is = (refl, (let same : record { number = n; seq = seq } ≡ x = cc in ap (λ (y : FileRef). y.number) (sym same)))

-- the number is one of a user, and marked free
pub record IsClear (c : Content) (v : Volume) (n : ℕ) : Type 0 where
  pub user : first_user_record ≤ n
  pub clear : bit (record_bits c v) n ≡ false

clear_by : (c : Content) (v : Volume) (x : FileRef) → Among x (spare_numbers c v) → IsClear c v x.number
unfolding spare_numbers spare_at
clear_by c v x there =
    let from = given_from (spare_at c v) first_user_record (count_of v - first_user_record) x there in
    let spare = spare_by (bit (record_bits c v) from.n) from.n (spare_sequence (record_bytes c v from.n)) x from.gives in
    record {
      user = (let low = from.above in let is = spare.1 in omega (arith, low, is));
      clear = ap (bit (record_bits c v)) spare.1 ∙ spare.0;
    }

taken_by : (c : Content) (v : Volume) (x : FileRef) (t : Bool) → x.number < count_of v → Among x (cond t (new_numbers (count_of v)) (spare_numbers c v)) → IsClear c v x.number
unfolding new_numbers
taken_by c v x true within there =
    let above = new_above (max first_user_record (count_of v)) _ x there in
    absurd (omega (arith, above, within))
taken_by c v x false within there = clear_by c v x there

pub number_clear : (c : Content) (v : Volume) (x : FileRef) → least_ref (numbers_to_take (tree_of c v)) ≡ Some x → x.number < count_of v → IsClear c v x.number
unfolding tree_of tree_with
number_clear c v x least within = taken_by c v x (eqb (length (spare_numbers c v)) 0) within (least_among _ x least)

-- ---- its record lies in the file table

-- the table has records, so its data stand in clusters
placed_by : (o : Option Stream) (e : Extents) (n : ℕ) → extents_or o ≡ e → n < record_count e → o ≡ Some (Placed e)
placed_by None e n is below = (let none : 0 ≡ e.real = ap (λ (x : Extents). x.real) is in absurd (omega (arith, none, below)))
placed_by (Some (Held value)) e n is below = (let none : 0 ≡ e.real = ap (λ (x : Extents). x.real) is in absurd (omega (arith, none, below)))
placed_by (Some (Placed x)) e n is below = ap (λ (y : Extents). Some (Placed y)) is

pub table_placed : (c : Content) (g : Geometry) (clusters : ℕ) (v : Volume) (n : ℕ) → Stands c g clusters v → n < record_count v.table → stream_at v table_key ≡ Some (Placed v.table)
table_placed c g clusters v n state below = placed_by (stream_at v table_key) v.table n (table_extents_is c g clusters v (begins c g clusters v state)) below

-- the block of a record in runs that follow one another, none of them sparse
lies_in : (runs : List Run) (n : ℕ) → HasSpelling 0 runs → list_any is_hole runs ≡ false → 2 * n / 8 < total_clusters runs → is_some (block_at 8 runs FileRec n) ≡ true
unfolding block_at
lies_in runs n spelled whole below =
    let last : (2 * n + 2 - 1) / 8 ≡ 2 * n / 8 = omega arith in
    mapped (λ lcn. record { first = lcn * 8 + 2 * n % 8; kind = FileRec }) (lcn_in (2 * n / 8) (find (holds (2 * n / 8) ((2 * n + 2 - 1) / 8)) runs))
    (ap (λ (x : ℕ). is_some (lcn_in (2 * n / 8) (find (holds (2 * n / 8) x) runs))) last ∙ found_in runs 0 (2 * n / 8) spelled whole (omega arith) (omega (arith, below)))

pub record_lies : (per : ℕ) (e : Extents) (n : ℕ) → per ≡ 8 → HasSpelling 0 e.runs → list_any is_hole e.runs ≡ false → e.real ≤ total_clusters e.runs * (512 * per) → n < record_count e → is_some (block_at per e.runs FileRec n) ≡ true
record_lies per e n eight spelled whole sized below =
    subst (λ (p : ℕ). e.real ≤ total_clusters e.runs * (512 * p) → is_some (block_at p e.runs FileRec n) ≡ true) (sym eight) (λ low. lies_in e.runs n spelled whole (omega (arith, low, below))) sized
