-- A record with another value of its unnamed data.
use Rattle.std.specs.Prelude.{◌≡◌, ℕ, true, Bool, List, [], Some}
use Rattle.disk_model.specs.Content.{Content}
use Rattle.plan_edits.specs.record_model.declared.attribute.Attr.{Attr}
use Rattle.plan_edits.specs.record_model.Constants.{data_type}
use Rattle.plan_edits.specs.record_model.Records.{Record}
use Rattle.plan_edits.specs.state_model.declared.geometry.Geometry.{Geometry}
use Rattle.plan_edits.specs.state_model.declared.stream.Stream.TheVariants.{Held}
use Rattle.plan_edits.specs.state_model.Streams.{stream_of}
use Rattle.plan_edits.specs.volume_model.Volumes.{Volume}
use Rattle.plan_edits.specs.volume_model.Nodes.{data_flags}
use Rattle.plan_edits.specs.plan_owners.States.{Stands}
use Rattle.plan_edits.specs.plan_model.Attributes.{RewritesValues}
use Rattle.record_values.specs.Values.{valued_record}
use Rattle.plan_edits.specs.plan_values.Values.{is_data, IsOwnFile}

-- the unnamed data of a file with another value
abbrev pub with_value : List ℕ → Record → Record
with_value value r = valued_record data_type [] value r

-- In a state the unnamed data of a file, which stands in its record, is written anew in the record with another value, which it has then;
-- and its flags stay. What is written anew is so by a wider test, and what is written anew twice is so once.
pub record ValuedRewrites : Type 0 where
  pub values : (c : Content) (g : Geometry) (clusters : ℕ) (v : Volume) (n : ℕ) (r : Record) (was value : List ℕ) → Stands c g clusters v → IsOwnFile v n r → stream_of data_type [] r.attrs ≡ Some (Held was) → RewritesValues is_data r (with_value value r)
  pub flags : (c : Content) (g : Geometry) (clusters : ℕ) (v : Volume) (n : ℕ) (r : Record) (was value : List ℕ) → Stands c g clusters v → IsOwnFile v n r → stream_of data_type [] r.attrs ≡ Some (Held was) → data_flags (with_value value r) ≡ data_flags r
  pub stream : (r : Record) (was value : List ℕ) → stream_of data_type [] r.attrs ≡ Some (Held was) → stream_of data_type [] (with_value value r).attrs ≡ Some (Held value)
  pub wider : (may more : Attr → Bool) (r p : Record) → ((a : Attr) → may a ≡ true → more a ≡ true) → RewritesValues may r p → RewritesValues more r p
  pub twice : (may : Attr → Bool) (r p q : Record) → ((a b : Attr) → b.head.kind ≡ a.head.kind → b.name ≡ a.name → may b ≡ may a) → RewritesValues may r p → RewritesValues may p q → RewritesValues may r q
