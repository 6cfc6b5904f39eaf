-- The bits of a bitmap after bytes are put into it.
use Rattle.std.proofs.Common.{◌≡◌, ℕ, ◌*◌, ◌/◌, ◌%◌, ◌<◌, ◌≤◌, false, List, length, get_or, Option, Some, None, refl, sym, ap, ◌∙◌, inl, inr, arith}
use Rattle.std.specs.Prelude.{unwrap_or}
use Rattle.std.proofs.lemmas.Bool.{cases_lt}
use Rattle.std.proofs.lemmas.List.{get_or_past}
use Rattle.volume_model.specs.disk_model.Content.{Content}
use Rattle.volume_model.specs.bit_set.Bits.{bit}
use Rattle.volume_model.specs.bit_set.Words.{is_one, byte_bit, bits_of_bytes}
use Rattle.volume_model.proofs.bit_set.Views.{length-bits_of_bytes, bit-bits_of_bytes}
use Rattle.volume_model.specs.Volumes.{Volume, count_of, bytes_or, size_or, cluster_bitmap, record_bitmap, cluster_bits, record_bits}
use Rattle.stream_laws.specs.Puts.{Put, all_put}
use Rattle.stream_laws.specs.Growth.{put_byte, filled}
use Rattle.stream_laws.specs.Bitmaps.{bit_of_byte, bit_after}
use Rattle.stream_laws.proofs.Growing.{length-all_put, byte_after_puts, filled_below, filled_past, length-bytes_or}

-- ---- bits and bytes

past_bits : (bytes : List ℕ) (n x : ℕ) → n ≤ x → bit (bits_of_bytes bytes n) x ≡ false
past_bits bytes n x past = get_or_past (bits_of_bytes bytes n) x false (omega (arith, length-bits_of_bytes bytes n))

pub cluster_bit : (c : Content) (v : Volume) (x : ℕ) → x < v.clusters → bit (cluster_bits c v) x ≡ byte_bit (bytes_or c v.per (cluster_bitmap v)) x
unfolding cluster_bits
cluster_bit c v x within = bit-bits_of_bytes (bytes_or c v.per (cluster_bitmap v)) v.clusters x within

pub past_clusters : (c : Content) (v : Volume) (x : ℕ) → v.clusters ≤ x → bit (cluster_bits c v) x ≡ false
unfolding cluster_bits
past_clusters c v x past = past_bits (bytes_or c v.per (cluster_bitmap v)) v.clusters x past

pub record_bit : (c : Content) (v : Volume) (n : ℕ) → n < count_of v → bit (record_bits c v) n ≡ byte_bit (bytes_or c v.per (record_bitmap v)) n
unfolding record_bits
record_bit c v n within = bit-bits_of_bytes (bytes_or c v.per (record_bitmap v)) (count_of v) n within

pub past_records : (c : Content) (v : Volume) (n : ℕ) → count_of v ≤ n → bit (record_bits c v) n ≡ false
unfolding record_bits
past_records c v n past = past_bits (bytes_or c v.per (record_bitmap v)) (count_of v) n past

put_in_byte : (o : Option ℕ) (byte j : ℕ) → is_one (unwrap_or o byte) j ≡ bit_of_byte o j (is_one byte j)
put_in_byte None byte j = refl
put_in_byte (Some b) byte j = refl

pub bit_put : (puts : List Put) (bytes : List ℕ) (x : ℕ) → x < 8 * length bytes → byte_bit (all_put puts bytes) x ≡ bit_after puts x (byte_bit bytes x)
bit_put puts bytes x within =
    ap (λ (b : ℕ). is_one b (x % 8)) (byte_after_puts puts bytes (x / 8) (omega arith)) ∙ put_in_byte (put_byte puts (x / 8)) (get_or bytes (x / 8) 0) (x % 8)

pub bit_filled : (size : ℕ) (bytes : List ℕ) (x : ℕ) → byte_bit (filled size bytes) x ≡ byte_bit bytes x
bit_filled size bytes x = ap (λ (b : ℕ). is_one b (x % 8)) (elim (cases_lt (x / 8) (length bytes)) [
  | inl within ↦ filled_below size bytes (x / 8) within
  | inr past ↦ filled_past size bytes (x / 8) past ∙ sym (get_or_past bytes (x / 8) 0 past)
])

-- ---- bitmaps

bits_put : (new old : List ℕ) (puts : List Put) (size x : ℕ) → new ≡ all_put puts (filled size old) → x < 8 * length new → byte_bit new x ≡ bit_after puts x (byte_bit old x)
bits_put new old puts size x is within =
    let long : length new ≡ length (filled size old) = ap length is ∙ length-all_put puts (filled size old) in
    ap (λ (l : List ℕ). byte_bit l x) is ∙ bit_put puts (filled size old) x (omega (arith, long, within)) ∙ ap (bit_after puts x) (bit_filled size old x)

pub clusters_put : (c d : Content) (v w : Volume) (puts : List Put) (size x : ℕ) → bytes_or d w.per (cluster_bitmap w) ≡ all_put puts (filled size (bytes_or c v.per (cluster_bitmap v))) → w.clusters ≡ v.clusters → x < v.clusters → x < 8 * size_or (cluster_bitmap w)
    → bit (cluster_bits d w) x ≡ bit_after puts x (bit (cluster_bits c v) x)
clusters_put c d v w puts size x is same within held =
    cluster_bit d w x (omega (arith, same, within))
    ∙ bits_put (bytes_or d w.per (cluster_bitmap w)) (bytes_or c v.per (cluster_bitmap v)) puts size x is (omega (arith, held, length-bytes_or d w.per (cluster_bitmap w)))
    ∙ ap (bit_after puts x) (sym (cluster_bit c v x within))

pub more_records_put : (c d : Content) (v w : Volume) (puts : List Put) (size n : ℕ) → bytes_or d w.per (record_bitmap w) ≡ all_put puts (filled size (bytes_or c v.per (record_bitmap v))) → n < count_of w → n < 8 * size_or (record_bitmap w)
    → bit (record_bits d w) n ≡ bit_after puts n (byte_bit (bytes_or c v.per (record_bitmap v)) n)
more_records_put c d v w puts size n is within held =
    record_bit d w n within
    ∙ bits_put (bytes_or d w.per (record_bitmap w)) (bytes_or c v.per (record_bitmap v)) puts size n is (omega (arith, held, length-bytes_or d w.per (record_bitmap w)))

pub records_put : (c d : Content) (v w : Volume) (puts : List Put) (size n : ℕ) → bytes_or d w.per (record_bitmap w) ≡ all_put puts (filled size (bytes_or c v.per (record_bitmap v))) → n < count_of v → n < count_of w → n < 8 * size_or (record_bitmap w)
    → bit (record_bits d w) n ≡ bit_after puts n (bit (record_bits c v) n)
records_put c d v w puts size n is old within held = more_records_put c d v w puts size n is within held ∙ ap (bit_after puts n) (sym (record_bit c v n old))
