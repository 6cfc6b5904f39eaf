-- The blocks of an index allocation, as they are found among its runs.
use Rattle.std.specs.Prelude.{◌≡◌, ℕ, ◌+◌, ◌^◌, ◌<◌, Bool, true, ◌&&◌, nat_le, List, [], ◌∷◌}
use Rattle.stream_map.specs.record_model.declared.runs.Run.{Run}
use Rattle.stream_map.specs.state_model.declared.stream.Extents.{Extents}
use Rattle.volume_model.specs.Indexes.{block_count}

-- runs stand in order, none before this VCN: each begins where the one before it ends, or behind
abbrev pub stand_apart : ℕ → List Run → Bool
stand_apart end [] = true
stand_apart end (r ∷ runs) = nat_le end r.vcn && stand_apart (r.vcn + r.len) runs

-- an allocation in a volume of so many sectors a cluster, with what is known of its runs and the count of its blocks
pub record IsCounted (per : ℕ) (e : Extents) (apart : Bool) (count : ℕ) : Type 0 where
  pub order : apart ≡ stand_apart 0 e.runs
  pub counted : count ≡ block_count per e
  pub most : count < 2 ^ 52
