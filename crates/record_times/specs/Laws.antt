-- What becomes of a record whose file changed at a time.
use Rattle.std.specs.Prelude.{◌≡◌, ℕ, ◌<◌, ◌^◌, true, false, List, [], ◌∷◌, Option}
use Rattle.record_model.specs.Constants.{standard_information}
use Rattle.record_model.specs.Records.{Record}
use Rattle.state_model.specs.declared.stream.Stream.{Stream}
use Rattle.state_model.specs.Files.{has_type, info_of}
use Rattle.plan_changes.specs.volume_model.Volumes.{Volume}
use Rattle.plan_changes.specs.volume_model.Nodes.{node_by}
use Rattle.plan_changes.specs.tree_model.Effects.{renewed}
use Rattle.plan_changes.specs.plan_model.Attributes.{RewritesValues}
use Rattle.plan_changes.specs.plan_model.Parts.{ReplacesAttrs}
use Rattle.plan_changes.specs.plan_model.Informed.{is_info, with_info}
use Rattle.plan_changes.specs.record_writer.NormalLaws.{FitsByRoom}
use Rattle.plan_changes.specs.record_streams.Fitting.{FitsButRoom}
use Rattle.record_times.specs.Times.{timed_info, timed_record, new_id, new_info}

-- Where the record had standard information, nothing else is written anew; where it had none, one attribute comes and nothing goes. It has
-- these times then, and so has its node; and it has a spelling where it has room.
pub record TimesAreSet : Type 0 where
  pub rewritten : (stamp : ℕ) (r : Record) → has_type standard_information r ≡ true → RewritesValues is_info r (timed_record stamp r)
  pub comes : (stamp : ℕ) (r : Record) → has_type standard_information r ≡ false → ReplacesAttrs [] (new_info (new_id r) stamp ∷ []) r (timed_record stamp r)
  pub info : (stamp : ℕ) (r : Record) → stamp < 2 ^ 64 → FitsButRoom r → info_of (timed_record stamp r) ≡ timed_info stamp (info_of r)
  pub node : (stamp n : ℕ) (r : Record) (v : Volume) (bytes : Option Stream → List ℕ) → stamp < 2 ^ 64 → FitsButRoom r → with_info (info_of (timed_record stamp r)) (node_by bytes v n r) ≡ renewed (node_by bytes v n r) stamp
  pub fits : (stamp : ℕ) (r : Record) → FitsButRoom r → FitsByRoom (timed_record stamp r)
