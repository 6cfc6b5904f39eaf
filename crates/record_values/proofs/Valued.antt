-- A record in which a stream has another value.
use Rattle.std.proofs.Common.{◌≡◌, ◌≢◌, ◌⊎◌, ℕ, ◌+◌, ◌*◌, ◌/◌, ◌<◌, ◌≤◌, ◌^◌, Bool, true, false, List, [], ◌∷◌, length, Some, refl, sym, ap, ◌∙◌, subst, arith}
use Rattle.std.specs.Prelude.{All, IsTrue, filter}
use Rattle.std.proofs.lemmas.List.Elements.{All-head, All-filter}
use Rattle.record_streams.specs.record_model.declared.attribute.Attr.{Attr}
use Rattle.record_streams.specs.record_model.declared.attribute.OwnForm.{OwnForm}
use Rattle.record_streams.specs.record_model.declared.attribute.OwnForm.TheVariants.{Resident, Mapped}
use Rattle.record_streams.specs.record_model.Attributes.{FitsForm}
use Rattle.record_streams.specs.record_model.Records.{Record}
use Rattle.record_streams.specs.record_writer.Normal.{normal, normal_form}
use Rattle.record_streams.proofs.record_writer.Measures.{length-spelling}
use Rattle.record_streams.specs.state_model.declared.stream.Stream.TheVariants.{Held}
use Rattle.record_streams.specs.state_model.Streams.{is_attribute_of, attributes_of, sorted_into, joined, stream_of}
use Rattle.record_streams.specs.Placing.{with_stream}
use Rattle.record_streams.specs.Fitting.{IsShort, FitsButRoom, IsPlaceable}
use Rattle.record_streams.proofs.Spelled.{lawful_by}
use Rattle.record_streams.proofs.Kept.{types_with, all_with, few_with, all_of_stream}
use Rattle.record_streams.proofs.Streams.{attribute_kind, first_passes, of_another, own_with, others_with, some_by}
use Rattle.record_values.specs.Values.{indexed_of, valued_attr, valued_first, valued_record}
use Rattle.record_values.specs.Laws.{ValuesArePut}

-- ---- the attribute

indexed_small : (flags : ℕ) (form : OwnForm) → FitsForm flags (normal_form form) → indexed_of form < 256
indexed_small flags (Resident value indexed) fits = fits.indexed_byte
indexed_small flags (Mapped sizes pairs) fits = omega arith

short_valued : (value : List ℕ) (a : Attr) → length value ≤ 2 ^ 16 → IsPlaceable a.head.kind → IsShort a → IsShort (valued_attr value a)
short_valued value a few may old =
    let size_of = length-spelling (normal (valued_attr value a)) in
    record {
      fits = record {
        kind = old.fits.kind;
        flags = old.fits.flags;
        id = old.fits.id;
        name_short = old.fits.name_short;
        units = old.fits.units;
        form = record {
          value_short = omega (arith, few);
          indexed_byte = indexed_small a.head.flags a.form old.fits.form;
        };
      };
      kind = old.kind;
      lawful = lawful_by (normal (valued_attr value a)) may;
      short = omega (arith, size_of, few, old.fits.name_short);
    }

fits_by : (kind : ℕ) (name value : List ℕ) (r : Record) (attributes : List Attr) → attributes_of kind name r.attrs ≡ attributes → length value ≤ 2 ^ 16 → IsPlaceable kind → FitsButRoom r → FitsButRoom (valued_first kind name value r attributes)
fits_by kind name value r [] is few may fits = fits
fits_by kind name value r (a ∷ others) is few may fits =
    let own = attribute_kind kind name a (first_passes kind name r.attrs a others is) in
    let all : All IsShort (a ∷ others) = subst (All IsShort) is (all_of_stream IsShort kind name r.attrs (All-filter (is_attribute_of kind name) IsShort r.attrs fits.attrs)) in
    let new = short_valued value a few (subst IsPlaceable (sym own.0) may) (All-head IsShort a others all) in
    record {
      head = fits.head;
      attrs = all_with IsShort kind name (valued_attr value a) r.attrs new fits.attrs;
      rise = types_with kind name (valued_attr value a) r.attrs (λ b here. (attribute_kind kind name b here).0 ∙ sym own.0) fits.rise;
      few = omega (arith, few_with kind name (valued_attr value a) r.attrs, fits.few);
    }

pub fits_valued : (kind : ℕ) (name value : List ℕ) (r : Record) → length value ≤ 2 ^ 16 → IsPlaceable kind → FitsButRoom r → FitsButRoom (valued_record kind name value r)
fits_valued kind name value r few may fits = fits_by kind name value r (attributes_of kind name r.attrs) refl few may fits

-- ---- its streams

valued_is : (kind : ℕ) (name value : List ℕ) (a : Attr) → is_attribute_of kind name a ≡ true → is_attribute_of kind name (valued_attr value a) ≡ true
unfolding is_attribute_of
valued_is kind name value a is = is

own_attribute : (kind : ℕ) (name value : List ℕ) (attrs : List Attr) (a : Attr) (others : List Attr) → attributes_of kind name attrs ≡ a ∷ others → attributes_of kind name (with_stream kind name (valued_attr value a) attrs) ≡ valued_attr value a ∷ []
unfolding attributes_of
own_attribute kind name value attrs a others is =
    let own = valued_is kind name value a (first_passes kind name attrs a others is) in
    let some = some_by (filter (is_attribute_of kind name) attrs) a others is in
    ap (sorted_into []) (own_with kind name (valued_attr value a) attrs some.0 some.1 own some.2)

one : (kind : ℕ) (name value : List ℕ) (r : Record) (a : Attr) (others : List Attr) → attributes_of kind name r.attrs ≡ a ∷ others → attributes_of kind name (valued_record kind name value r).attrs ≡ valued_attr value a ∷ []
one kind name value r a others is =
    ap (λ (l : List Attr). attributes_of kind name (valued_first kind name value r l).attrs) is ∙ own_attribute kind name value r.attrs a others is

stream : (kind : ℕ) (name value : List ℕ) (r : Record) (a : Attr) (others : List Attr) → attributes_of kind name r.attrs ≡ a ∷ others → stream_of kind name (valued_record kind name value r).attrs ≡ Some (Held value)
unfolding stream_of
stream kind name value r a others is = ap joined (one kind name value r a others is)

others_by : (kind other : ℕ) (name alias value : List ℕ) (r : Record) (attributes : List Attr) → attributes_of kind name r.attrs ≡ attributes → (other ≢ kind) ⊎ (alias ≢ name) → attributes_of other alias (valued_first kind name value r attributes).attrs ≡ attributes_of other alias r.attrs
unfolding attributes_of
others_by kind other name alias value r [] is differ = refl
others_by kind other name alias value r (a ∷ others) is differ =
    ap (sorted_into [])
    (others_with (is_attribute_of other alias) kind name (valued_attr value a) r.attrs (λ b here. of_another kind other name alias b differ here)
    (of_another kind other name alias (valued_attr value a) differ (valued_is kind name value a (first_passes kind name r.attrs a others is))))

pub values_put : ValuesArePut
values_put = record {
  one = one;
  stream = stream;
  others = λ kind other name alias value r differ. others_by kind other name alias value r (attributes_of kind name r.attrs) refl differ;
}
