-- The files of a volume are those that a scan loads.
use Rattle.std.proofs.Common.{◌≡◌, ℕ, List, Option, Result, Ok, Err, refl}
use Rattle.bit_set.specs.host_base.Answers.{◌>>=◌}
use Rattle.upcase_order.specs.disk_model.Content.{Content}
use Rattle.upcase_order.specs.record_model.Records.{Record}
use Rattle.upcase_order.specs.state_model.declared.geometry.Geometry.{Geometry}
use Rattle.upcase_order.specs.state_model.declared.geometry.MapRefusal.{MapRefusal}
use Rattle.upcase_order.specs.state_model.declared.stream.Extents.{Extents}
use Rattle.upcase_order.specs.state_model.Loads.{table_of, files_in, loaded}
use Rattle.volume_model.specs.Volumes.{Volume, volume_of}

-- a volume with these files
abbrev pub with_files : ℕ → ℕ → ℕ → Extents → List (Option Record) → Volume
with_files per clusters mft e files = record { per = per; clusters = clusters; mft = mft; table = e; files = files }

abbrev pub okay : Volume → Result Volume MapRefusal
okay v = Ok v

files_again : (per clusters mft : ℕ) (e : Extents) (read : Result (List (Option Record)) MapRefusal) → ((read >>= λ files. okay (with_files per clusters mft e files)) >>= λ v. Ok v.files) ≡ read
files_again per clusters mft e (Ok files) = refl
files_again per clusters mft e (Err refusal) = refl

table_again : (per clusters mft : ℕ) (f : Extents → Result (List (Option Record)) MapRefusal) (table : Result Extents MapRefusal) → ((table >>= λ e. f e >>= λ files. okay (with_files per clusters mft e files)) >>= λ v. Ok v.files) ≡ (table >>= f)
table_again per clusters mft f (Ok e) = files_again per clusters mft e (f e)
table_again per clusters mft f (Err refusal) = refl

pub loaded_again : (c : Content) (g : Geometry) (clusters : ℕ) → (volume_of c g clusters >>= λ v. Ok v.files) ≡ loaded c g
unfolding volume_of loaded
loaded_again c g clusters = table_again g.per_cluster clusters g.mft (files_in c g.per_cluster) (table_of c g)
