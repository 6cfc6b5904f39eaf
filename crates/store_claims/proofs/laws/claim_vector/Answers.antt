use Rattle.std.proofs.Common.{refl}
use Rattle.store_model.specs.log_model.Logs.{is_shadowed}
use Rattle.store_claims.specs.Claims.{claims_in, claims_with}
use Rattle.store_claims.proofs.laws.claim_vector.Goals as goal

pub returns : goal.returns
unfolding claims_in claims_with is_shadowed
returns c = record {
  empty = refl;
  newest_record = refl;
  newest_plain = refl;
  older_plain = refl;
  older_record = refl;
  oldest_plain = refl;
  oldest_record = refl;
  durable_record = refl;
  ends_own = refl;
  ends_other = refl;
}
