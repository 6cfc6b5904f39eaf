-- The laws of volumes.
use Rattle.std.specs.Prelude.{◌≡◌, ℕ, List, true, Ok, IsPermutation}
use Rattle.bit_set.specs.host_base.Answers.{◌>>=◌}
use Rattle.upcase_order.specs.disk_model.Content.{Content}
use Rattle.upcase_order.specs.record_model.declared.attribute.Attr.{Attr}
use Rattle.upcase_order.specs.state_model.declared.geometry.Geometry.{Geometry}
use Rattle.upcase_order.specs.state_model.Loads.{loaded}
use Rattle.upcase_order.specs.state_model.Streams.{attributes_of, stream_of}
use Rattle.volume_model.specs.Sizes.{are_joined}
use Rattle.volume_model.specs.Volumes.{volume_of}

-- the files of a volume are those that a scan loads, and both are refused alike
abbrev pub LoadedFiles : Type 0
LoadedFiles = (c : Content) (g : Geometry) (clusters : ℕ) → (volume_of c g clusters >>= λ v. Ok v.files) ≡ loaded c g

-- whether the attributes of a stream are joined is the same for the attributes in any order; and so is the stream, where they are
pub record JoinedInAnyOrder : Type 0 where
  pub answer : (kind : ℕ) (name : List ℕ) (attrs others : List Attr) → IsPermutation attrs others → are_joined (attributes_of kind name others) ≡ are_joined (attributes_of kind name attrs)
  pub stream : (kind : ℕ) (name : List ℕ) (attrs others : List Attr) → IsPermutation attrs others → are_joined (attributes_of kind name attrs) ≡ true → stream_of kind name others ≡ stream_of kind name attrs
