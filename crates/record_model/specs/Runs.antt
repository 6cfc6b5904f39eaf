-- Runs whose numbers are small, as mapping pairs give them.
use Rattle.std.specs.Prelude.{◌^◌, ◌<◌, ◌≤◌, List, All, IfSome}
use Rattle.record_model.specs.declared.runs.Run.{Run}
use Rattle.record_model.specs.Pairs.{cluster_limit}

-- a run of at most 2 ^ 32 clusters, which begins below cluster 2 ^ 32 of the volume, or is sparse
pub record IsSmall (r : Run) : Type 0 where
  pub vcn : r.vcn < 2 ^ 64
  pub lcn : IfSome r.lcn (λ lcn. lcn < cluster_limit)
  pub len : r.len ≤ cluster_limit

abbrev pub AreSmall : List Run → Type 0
AreSmall runs = All IsSmall runs
