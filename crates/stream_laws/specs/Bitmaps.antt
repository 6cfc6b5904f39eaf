-- The bits of a bitmap after bytes are put into it.
use Rattle.std.specs.Prelude.{◌≡◌, ℕ, ◌*◌, ◌/◌, ◌%◌, ◌<◌, ◌≤◌, Bool, false, List, length, Option, Some, None}
use Rattle.volume_model.specs.disk_model.Content.{Content}
use Rattle.volume_model.specs.bit_set.Bits.{bit}
use Rattle.volume_model.specs.bit_set.Words.{is_one, byte_bit}
use Rattle.volume_model.specs.Volumes.{Volume, count_of, bytes_or, size_or, cluster_bitmap, record_bitmap, cluster_bits, record_bits}
use Rattle.stream_laws.specs.Puts.{Put, all_put}
use Rattle.stream_laws.specs.Growth.{put_byte, filled}

abbrev pub bit_of_byte : Option ℕ → ℕ → Bool → Bool
bit_of_byte None j old = old
bit_of_byte (Some byte) j old = is_one byte j

-- the bit with this number, that was this one, after puts: that of the byte which is put there last, if one is
abbrev pub bit_after : List Put → ℕ → Bool → Bool
bit_after puts x old = bit_of_byte (put_byte puts (x / 8)) (x % 8) old

-- The bits of the clusters and of the records are those of the bitmaps' bytes. Zeros behind them change none.
pub record BitsOfBitmaps : Type 0 where
  pub clusters : (c : Content) (v : Volume) (x : ℕ) → x < v.clusters → bit (cluster_bits c v) x ≡ byte_bit (bytes_or c v.per (cluster_bitmap v)) x
  pub past_clusters : (c : Content) (v : Volume) (x : ℕ) → v.clusters ≤ x → bit (cluster_bits c v) x ≡ false
  pub records : (c : Content) (v : Volume) (n : ℕ) → n < count_of v → bit (record_bits c v) n ≡ byte_bit (bytes_or c v.per (record_bitmap v)) n
  pub past_records : (c : Content) (v : Volume) (n : ℕ) → count_of v ≤ n → bit (record_bits c v) n ≡ false
  pub bytes : (puts : List Put) (bytes : List ℕ) (x : ℕ) → x < 8 * length bytes → byte_bit (all_put puts bytes) x ≡ bit_after puts x (byte_bit bytes x)
  pub filled : (size : ℕ) (bytes : List ℕ) (x : ℕ) → byte_bit (filled size bytes) x ≡ byte_bit bytes x

-- Where the bytes of a bitmap are those from before, and zeros behind them, after puts, whether they stand in clusters or in the
-- record, each of its bits is the one from before after the puts.
pub record BitsAfterPuts : Type 0 where
  pub clusters : (c d : Content) (v w : Volume) (puts : List Put) (size x : ℕ) → bytes_or d w.per (cluster_bitmap w) ≡ all_put puts (filled size (bytes_or c v.per (cluster_bitmap v))) → w.clusters ≡ v.clusters → x < v.clusters → x < 8 * size_or (cluster_bitmap w)
      → bit (cluster_bits d w) x ≡ bit_after puts x (bit (cluster_bits c v) x)
  pub records : (c d : Content) (v w : Volume) (puts : List Put) (size n : ℕ) → bytes_or d w.per (record_bitmap w) ≡ all_put puts (filled size (bytes_or c v.per (record_bitmap v))) → n < count_of v → n < count_of w → n < 8 * size_or (record_bitmap w)
      → bit (record_bits d w) n ≡ bit_after puts n (bit (record_bits c v) n)
  pub more_records : (c d : Content) (v w : Volume) (puts : List Put) (size n : ℕ) → bytes_or d w.per (record_bitmap w) ≡ all_put puts (filled size (bytes_or c v.per (record_bitmap v))) → n < count_of w → n < 8 * size_or (record_bitmap w)
      → bit (record_bits d w) n ≡ bit_after puts n (byte_bit (bytes_or c v.per (record_bitmap v)) n)
