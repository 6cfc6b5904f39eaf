-- The front of a stream's bytes as a table of upper-case units.
use Rattle.std.proofs.Common.{◌≡◌, ℕ, List, ◌++◌, length, refl, sym, ap, ◌∙◌, arith}
use Rattle.std.specs.Prelude.{take, drop}
use Rattle.std.specs.Prelude.{IfSome, Option, Bool, false, ◌==◌}
use Rattle.std.proofs.lemmas.List.{take-append-le, take_all}
use Rattle.std.proofs.lemmas.Bool.Decides.{nat_tests}
use Rattle.host_base.proofs.Known.{one, always}
use Rattle.disk_model.specs.Content.{Content}
use Rattle.disk_model.specs.Bytes.{zeros}
use Rattle.record_rules.specs.state_model.declared.stream.Stream.{Stream}
use Rattle.record_rules.specs.state_model.Streams.{stream_bytes, real_size}
use Rattle.volume_map.proofs.stream_map.ListReading.{length-stream_bytes}
use Rattle.volume_model.specs.upcase_order.Tables.{upcase_of, standard_table}
use Rattle.volume_model.specs.Volumes.{table_or_standard}

-- a front as long as the stream is all of it
whole_front : (bytes : List ℕ) (k : ℕ) → k ≡ length bytes → take k (drop 0 bytes ++ zeros k) ≡ bytes
whole_front bytes k is = take-append-le k bytes (zeros k) (omega (arith, is)) ∙ take_all k bytes (omega (arith, is))

-- the table that was read is that of the stream
pub table_known : (known : Option Content) (per : ℕ) (stream : Stream) (k : ℕ) (room table : List ℕ) → real_size stream ≡ k → IfSome known (λ c. room ≡ take k (drop 0 (stream_bytes c per stream) ++ zeros k)) → table ≡ table_or_standard (upcase_of room)
    → IfSome known (λ c. table ≡ table_or_standard (upcase_of (stream_bytes c per stream)))
table_known known per stream k room table long read is =
    one known _ _ (λ c r. is ∙ ap (λ (xs : List ℕ). table_or_standard (upcase_of xs)) (r ∙ whole_front (stream_bytes c per stream) k (sym (length-stream_bytes c per stream ∙ long)))) read

-- a stream of another length spells no table
other_length : (n m : ℕ) → (n ≡ m → ⊥) → (n == m) ≡ false
other_length n m other = grind (arith, nat_tests)

standard_at : (bytes : List ℕ) → (length bytes == 131072) ≡ false → table_or_standard (upcase_of bytes) ≡ standard_table
unfolding upcase_of
standard_at bytes other = rw other refl

pub standard_known : (known : Option Content) (per : ℕ) (stream : Stream) (table : List ℕ) → (real_size stream ≡ 131072 → ⊥) → table ≡ standard_table → IfSome known (λ c. table ≡ table_or_standard (upcase_of (stream_bytes c per stream)))
standard_known known per stream table other is = always known _ (λ c. is ∙ sym (standard_at (stream_bytes c per stream) (ap (λ (n : ℕ). n == 131072) (length-stream_bytes c per stream) ∙ other_length (real_size stream) 131072 other)))
