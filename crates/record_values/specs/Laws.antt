-- What a record keeps in which a stream has another value.
use Rattle.std.specs.Prelude.{◌≡◌, ◌≢◌, ◌⊎◌, ℕ, List, [], ◌∷◌, Some}
use Rattle.record_streams.specs.record_model.declared.attribute.Attr.{Attr}
use Rattle.record_streams.specs.record_model.Records.{Record}
use Rattle.record_streams.specs.state_model.declared.stream.Stream.TheVariants.{Held}
use Rattle.record_streams.specs.state_model.Streams.{attributes_of, stream_of}
use Rattle.record_values.specs.Values.{valued_attr, valued_record}

-- The stream has this value, in one attribute. Other streams stay.
pub record ValuesArePut : Type 0 where
  pub one : (kind : ℕ) (name value : List ℕ) (r : Record) (a : Attr) (others : List Attr) → attributes_of kind name r.attrs ≡ a ∷ others → attributes_of kind name (valued_record kind name value r).attrs ≡ valued_attr value a ∷ []
  pub stream : (kind : ℕ) (name value : List ℕ) (r : Record) (a : Attr) (others : List Attr) → attributes_of kind name r.attrs ≡ a ∷ others → stream_of kind name (valued_record kind name value r).attrs ≡ Some (Held value)
  pub others : (kind other : ℕ) (name other_name value : List ℕ) (r : Record) → (other ≢ kind) ⊎ (other_name ≢ name) → attributes_of other other_name (valued_record kind name value r).attrs ≡ attributes_of other other_name r.attrs
