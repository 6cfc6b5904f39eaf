-- A record that is short as it is written has few runs.
use Rattle.std.proofs.Common.{◌≡◌, ℕ, ◌*◌, ◌≤◌, Bool, List, [], ◌∷◌, ◌++◌, length, Some, Result, Ok, Err, refl, ap, inl, inr, arith}
use Rattle.std.specs.Prelude.{map, filter}
use Rattle.std.specs.List.{sum_by}
use Rattle.std.proofs.lemmas.Bool.{cases_Bool}
use Rattle.std.proofs.lemmas.List.{length-append}
use Rattle.std.proofs.lemmas.List.Concat.{length-flat_map}
use Rattle.std.proofs.lemmas.List.Sums.{sum_by-cons}
use Rattle.plan_growth.specs.record_model.declared.attribute.Attr.{Attr}
use Rattle.plan_growth.specs.record_model.declared.attribute.OwnForm.{OwnForm}
use Rattle.plan_growth.specs.record_model.declared.attribute.OwnForm.TheVariants.{Resident, Mapped}
use Rattle.plan_growth.specs.record_model.declared.runs.PairsFault.{PairsFault}
use Rattle.plan_growth.specs.record_model.declared.runs.Run.{Run}
use Rattle.plan_growth.specs.record_model.Attributes.{spelling}
use Rattle.plan_growth.specs.record_model.Pairs.{runs_of, SpellsRuns}
use Rattle.plan_growth.specs.record_model.Records.{Record, spelled_bytes, used_of}
use Rattle.plan_growth.proofs.record_model.PairsBack.{read_spelled}
use Rattle.plan_growth.proofs.record_model.UnitBytes.{length-filled}
use Rattle.plan_growth.specs.record_writer.Edits.{form_length}
use Rattle.plan_growth.specs.record_writer.Normal.{normal_form, normal}
use Rattle.plan_growth.proofs.record_writer.Measures.{length-spelling}
use Rattle.plan_growth.specs.state_model.declared.stream.Extents.{Extents}
use Rattle.plan_growth.specs.state_model.declared.stream.Stream.TheVariants.{Placed}
use Rattle.plan_growth.specs.state_model.Streams.{is_attribute_of, attributes_of, runs_or, form_runs, attribute_runs, stream_of}
use Rattle.plan_growth.proofs.stream_laws.Sharing.{attributes_sum}
use Rattle.plan_growth.proofs.Placed.{runs_of_attributes}

-- each run takes two bytes at least
spelled_twice : (before : ℕ) (runs : List Run) (bytes : List ℕ) → SpellsRuns before runs bytes → 2 * length runs ≤ length bytes
spelled_twice before [] bytes is = omega arith
spelled_twice before (r ∷ runs) bytes (rest, (pair, later)) =
    let size = ap length pair.whole in
    let one = length-append pair.len (pair.delta ++ rest) in
    let two = length-append pair.delta rest in
    omega (arith, size, one, two, pair.len_some, spelled_twice _ runs rest later)

read_twice : (first : ℕ) (pairs : List ℕ) (result : Result (List Run) PairsFault) → runs_of first pairs ≡ result → 2 * length (runs_or result) ≤ length pairs
read_twice first pairs (Ok runs) is = spelled_twice 0 runs pairs (read_spelled first runs pairs is).1
read_twice first pairs (Err fault) is = omega arith

form_twice : (name : ℕ) (form : OwnForm) → 2 * length (form_runs form) ≤ form_length name (normal_form form)
form_twice name (Resident value indexed) = omega arith
form_twice name (Mapped sizes pairs) = omega (arith, read_twice sizes.first pairs (runs_of sizes.first pairs) refl, length-filled 0 pairs)

attribute_twice : (a : Attr) → 2 * length (attribute_runs a) ≤ length (spelling (normal a))
unfolding attribute_runs
attribute_twice a = omega (arith, form_twice (length a.name) a.form, length-spelling (normal a))

-- how many runs an attribute has
abbrev run_count : Attr → ℕ
run_count a = length (attribute_runs a)

all_twice : (attrs : List Attr) → 2 * sum_by run_count attrs ≤ spelled_bytes (map normal attrs)
all_twice [] = omega arith
all_twice (a ∷ attrs) = omega (arith, sum_by-cons run_count a attrs, attribute_twice a, all_twice attrs)

some_of_all : (p : Attr → Bool) (attrs : List Attr) → sum_by run_count (filter p attrs) ≤ sum_by run_count attrs
some_of_all p [] = omega arith
some_of_all p (a ∷ attrs) = elim (cases_Bool (p a)) [
  | inl own ↦ rw own (omega (arith, sum_by-cons run_count a (filter p attrs), sum_by-cons run_count a attrs, some_of_all p attrs))
  | inr other ↦ rw other (omega (arith, sum_by-cons run_count a attrs, some_of_all p attrs))
]

pub few_runs : (r : Record) (kind : ℕ) (name : List ℕ) (e : Extents) → stream_of kind name r.attrs ≡ Some (Placed e) → 2 * length e.runs ≤ used_of (map normal r.attrs)
unfolding stream_of
few_runs r kind name e is =
    let runs = ap length (runs_of_attributes (attributes_of kind name r.attrs) e is) in
    let count = length-flat_map attribute_runs (attributes_of kind name r.attrs) in
    let own = attributes_sum run_count kind name r.attrs in
    let some = some_of_all (is_attribute_of kind name) r.attrs in
    omega (arith, runs, count, own, some, all_twice r.attrs)
