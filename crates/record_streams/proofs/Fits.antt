-- A record in which a stream is placed has a spelling but for its room.
use Rattle.std.proofs.Common.{◌≡◌, ℕ, ◌≤◌, ◌^◌, true, List, [], ◌∷◌, length, refl, sym, ap, ◌∙◌, subst, arith}
use Rattle.std.specs.Prelude.{All, IfOk, Result, Ok, Err}
use Rattle.std.proofs.lemmas.List.Elements.{All-head, All-filter}
use Rattle.record_writer.specs.record_model.declared.attribute.Attr.{Attr}
use Rattle.record_writer.specs.record_model.Pairs.{HasSpelling}
use Rattle.record_writer.specs.record_model.Records.{Record}
use Rattle.stream_map.specs.state_model.declared.stream.Extents.{Extents}
use Rattle.stream_map.specs.state_model.Streams.{is_attribute_of, attributes_of}
use Rattle.record_streams.specs.Placing.{with_stream, placed_attr, placed_first, placed_record}
use Rattle.record_streams.specs.Fitting.{IsShort, FitsButRoom, IsPlaceable, HasFields}
use Rattle.record_streams.proofs.Spelled.{short_placed}
use Rattle.record_streams.proofs.Kept.{types_with, all_with, few_with, all_of_stream}
use Rattle.record_streams.proofs.Streams.{attribute_kind, first_passes}

fits_by : (per kind : ℕ) (name : List ℕ) (e : Extents) (r : Record) (attributes : List Attr) → attributes_of kind name r.attrs ≡ attributes → per ≤ 8 → HasSpelling 0 e.runs → length e.runs ≤ 2 ^ 16 → HasFields e → IsPlaceable kind → FitsButRoom r → FitsButRoom (placed_first per kind name e r attributes)
fits_by per kind name e r [] is size spelled few fields may fits = fits
fits_by per kind name e r (a ∷ others) is size spelled few fields may fits =
    let own = attribute_kind kind name a (first_passes kind name r.attrs a others is) in
    let all : All IsShort (a ∷ others) = subst (All IsShort) is (all_of_stream IsShort kind name r.attrs (All-filter (is_attribute_of kind name) IsShort r.attrs fits.attrs)) in
    let new = short_placed per e a size spelled few fields (subst IsPlaceable (sym own.0) may) (All-head IsShort a others all) in
    record {
      head = fits.head;
      attrs = all_with IsShort kind name (placed_attr per e a) r.attrs new fits.attrs;
      rise = types_with kind name (placed_attr per e a) r.attrs (λ b here. (attribute_kind kind name b here).0 ∙ sym own.0) fits.rise;
      few = omega (arith, few_with kind name (placed_attr per e a) r.attrs, fits.few);
    }

pub fits_placed : (per kind : ℕ) (name : List ℕ) (e : Extents) (r : Record) → per ≤ 8 → HasSpelling 0 e.runs → length e.runs ≤ 2 ^ 16 → HasFields e → IsPlaceable kind → FitsButRoom r → FitsButRoom (placed_record per kind name e r)
fits_placed per kind name e r size spelled few fields may fits = fits_by per kind name e r (attributes_of kind name r.attrs) refl size spelled few fields may fits

pub fits_answer : {E : Type 0} (answer : Result Record E) (r : Record) → IfOk answer (λ s. s ≡ r) → FitsButRoom r → IfOk answer FitsButRoom
fits_answer (Ok s) r is fits = subst FitsButRoom (sym is) fits
fits_answer (Err e) r is fits = tt
