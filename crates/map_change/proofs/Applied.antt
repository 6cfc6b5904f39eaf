-- Changes of records that were read, put in place.
use Rattle.std.proofs.Common.{◌≡◌, ℕ, true, eqb, List, [], ◌∷◌, ◌++◌, set, take, get_or, length, Option, Some, None, ◌+◌, ◌<◌, refl, sym, ap, subst, ◌∙◌, inl, inr}
use Rattle.std.specs.List.{list_any}
use Rattle.std.specs.Prelude.{IfSome}
use Rattle.std.proofs.lemmas.Bool.{or_cases, eqb-true}
use Rattle.std.proofs.lemmas.List.{take_more}
use Rattle.host_base.proofs.Known.{both}
use Rattle.disk_model.specs.Content.{Content}
use Rattle.volume_map.specs.record_model.Records.{Record}
use Rattle.volume_map.specs.state_model.declared.stream.Extents.{Extents}
use Rattle.volume_map.specs.state_model.Loads.{table_slot}
use Rattle.stream_laws.specs.Rewrites.{StandsAlone, with_files}
use Rattle.volume_map.specs.declared.head.Head.{Head}
use Rattle.volume_map.specs.Heads.{table_head}
use Rattle.map_change.specs.declared.change.RecordChange.{RecordChange}
use Rattle.map_change.specs.Touching.{is_number}
use Rattle.map_change.specs.Parts.{MapParts}
use Rattle.map_change.specs.Applying.{applied_one, applied_all}
use Rattle.map_change.specs.Reading.{IsRead, AreRead}
use Rattle.map_change.proofs.Themselves.{own_file}
use Rattle.map_change.proofs.Lists.{put_numbers}

-- the file that a record is by itself in a content
abbrev pub file_by : Content → ℕ → Extents → ℕ → Option Record
file_by d per e n = own_file (table_slot d per e n)

-- the parts with these files and heads
abbrev pub parts_with : MapParts → List (Option Record) → List Head → MapParts
parts_with p files heads = record { volume = with_files p.volume files; heads = heads; records = p.records; clusters = p.clusters }

one_applied : (d : Content) (per : ℕ) (e : Extents) (n : ℕ) (x : RecordChange) (p : MapParts) (files : List (Option Record)) (heads : List Head) → IsRead d per e n x
    → applied_one x (parts_with p files heads) ≡ parts_with p (set files n (file_by d per e n)) (set heads n (table_head d per e n))
one_applied d per e n x p files heads is =
    ap (λ (k : ℕ). parts_with p (set files k x.file) (set heads k x.head)) is.number
    ∙ ap (λ (f : Option Record). parts_with p (set files n f) (set heads n x.head)) is.file
    ∙ ap (λ (h : Head). parts_with p (set files n (file_by d per e n)) (set heads n h)) is.head

pub all_applied : (d : Content) (per : ℕ) (e : Extents) (ns : List ℕ) (xs : List RecordChange) (p : MapParts) → AreRead d per e ns xs
    → applied_all xs p ≡ parts_with p (put_numbers (file_by d per e) ns p.volume.files) (put_numbers (table_head d per e) ns p.heads)
all_applied d per e [] [] p are = refl
all_applied d per e [] (x ∷ xs) p are = absurd are
all_applied d per e (n ∷ ns) [] p are = absurd are
all_applied d per e (n ∷ ns) (x ∷ xs) p are =
    ap (applied_one x) (all_applied d per e ns xs p are.1)
    ∙ one_applied d per e n x p (put_numbers (file_by d per e) ns p.volume.files) (put_numbers (table_head d per e) ns p.heads) are.0

pub all_alone : (d : Content) (per : ℕ) (e : Extents) (ns : List ℕ) (xs : List RecordChange) (m : ℕ) → AreRead d per e ns xs → list_any (is_number m) ns ≡ true → StandsAlone per (table_slot d per e m)
all_alone d per e [] [] m are touched = absurd cc
all_alone d per e [] (x ∷ xs) m are touched = absurd are
all_alone d per e (n ∷ ns) [] m are touched = absurd are
all_alone d per e (n ∷ ns) (x ∷ xs) m are touched = elim (or_cases (eqb n m) (list_any (is_number m) ns) touched) [
  | inl here ↦ subst (λ (k : ℕ). StandsAlone per (table_slot d per e k)) (eqb-true n m here) are.0.alone
  | inr later ↦ all_alone d per e ns xs m are.1 later
]

-- ---- one more

pub read_more : (d : Content) (per : ℕ) (e : Extents) (ns : List ℕ) (xs : List RecordChange) (n : ℕ) (x : RecordChange) → AreRead d per e ns xs → IsRead d per e n x → AreRead d per e (ns ++ n ∷ []) (xs ++ x ∷ [])
read_more d per e [] [] n x are is = (is, tt)
read_more d per e [] (y ∷ xs) n x are is = absurd are
read_more d per e (m ∷ ns) [] n x are is = absurd are
read_more d per e (m ∷ ns) (y ∷ xs) n x are is = (are.0, read_more d per e ns xs n x are.1 is)

-- the last one is put in place first
pub applied_last : (xs : List RecordChange) (x : RecordChange) (p : MapParts) → applied_all (xs ++ x ∷ []) p ≡ applied_all xs (applied_one x p)
applied_last [] x p = refl
applied_last (y ∷ xs) x p = ap (applied_one y) (applied_last xs x p)

-- what a loop over the numbers has read, with one more
abbrev are_read : ℕ → Extents → List ℕ → List RecordChange → Content → Type 0
are_read per e ns xs d = AreRead d per e ns xs

abbrev is_read : ℕ → Extents → ℕ → Option RecordChange → Content → Type 0
is_read per e n o d = IfSome o (IsRead d per e n)

pub read_next : (known : Option Content) (per : ℕ) (e : Extents) (ns : List ℕ) (i : ℕ) (d : ℕ) (xs new : List RecordChange) (o : Option RecordChange) (x : RecordChange) → i < length ns → o ≡ Some x → IfSome known (are_read per e (take i ns) xs) → IfSome known (is_read per e (get_or ns i d) o) → new ≡ xs ++ x ∷ []
    → IfSome known (are_read per e (take (i + 1) ns) new)
read_next known per e ns i d xs new None x below is before now added = absurd cc
read_next known per e ns i d xs new (Some y) x below is before now added =
    let same : y ≡ x = cc in
    both known (are_read per e (take i ns) xs) (is_read per e (get_or ns i d) (Some y)) (are_read per e (take (i + 1) ns) new)
    (λ c are one.
    subst (λ (ms : List ℕ). AreRead c per e ms new) (sym (take_more ns i d below))
    (subst (λ (ys : List RecordChange). AreRead c per e (take i ns ++ get_or ns i d ∷ []) ys) (sym added) (read_more c per e (take i ns) xs (get_or ns i d) x are (subst (λ (z : RecordChange). IsRead c per e (get_or ns i d) z) same one)))) before now
