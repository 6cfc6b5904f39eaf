-- Small lists: of a plain block, and of the file record around it.
use Rattle.std.specs.Prelude.{◌≡◌, [], ◌∷◌, List, true, false}
use Rattle.store_model.specs.log_model.declared.entry.Entry.{Entry}
use Rattle.store_model.specs.StoreVector.{plain, record_around, puts, puts_record, ends}
use Rattle.store_claims.specs.Claims.{claims_in, claims_with}

-- transaction 1 changes the plain block and ends, and transaction 2 changes the record around it and ends
abbrev pub two : List Entry
two = puts 1 1 0 ∷ ends 1 ∷ puts_record 2 7 0 ∷ ends 2 ∷ []

-- what these lists claim
pub record ClaimVector : Type 0 where
  -- nothing is shadowed by nothing
  pub empty : claims_in [] 0 0 plain ≡ true
  -- the record is claimed of the newest content, and the plain block isn't
  pub newest_record : claims_in two 0 0 record_around ≡ true
  pub newest_plain : claims_in two 0 0 plain ≡ false
  -- one commit back the record's update may stand there without its commit, so neither is
  pub older_plain : claims_in two 0 1 plain ≡ false
  pub older_record : claims_in two 0 1 record_around ≡ false
  -- two commits back the plain block is, and the record isn't, since the plain block's update may stand there
  pub oldest_plain : claims_in two 0 2 plain ≡ true
  pub oldest_record : claims_in two 0 2 record_around ≡ false
  -- where more is durable, fewer lists may be read
  pub durable_record : claims_in two 4 1 record_around ≡ true
  -- the record will be claimed if its transaction ends, and won't if another one does
  pub ends_own : claims_with 2 (puts 1 1 0 ∷ ends 1 ∷ puts_record 2 7 0 ∷ []) record_around ≡ true
  pub ends_other : claims_with 3 (puts 1 1 0 ∷ ends 1 ∷ puts_record 2 7 0 ∷ []) record_around ≡ false
