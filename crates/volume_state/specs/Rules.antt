-- The nine rules of a volume, in their order.
use Rattle.std.specs.Prelude.{ℕ, ◌+◌, max, if◌then◌else◌, Option, Some, None}
use Rattle.volume_model.specs.disk_model.Content.{Content}
use Rattle.volume_model.specs.state_model.declared.broken.Broken.{Broken}
use Rattle.volume_model.specs.state_model.Rules.{keeps_1, keeps_2, keeps_8, broken_or, first_failing}
use Rattle.volume_model.specs.Volumes.{Volume, files_by_number, count_of, table_file, bitmap_file, cluster_bits, upper_of}
use Rattle.volume_model.specs.Indexes.{keeps_index}
use Rattle.volume_model.specs.Sizes.{keeps_place, keeps_sizes}
use Rattle.volume_model.specs.Owners.{volume_runs, keeps_owner, keeps_cluster_bit, keeps_record_bit}
use Rattle.volume_state.specs.Journals.{journal_of, fault_of}

-- the numbers of files, that of $Bitmap among them
abbrev pub file_count : Volume → ℕ
file_count v = max (count_of v) (bitmap_file + 1)

-- The least number at which each rule is broken: 1 the names of a file, 2 the directory of each name, 3 each directory's
-- index, 4 the pieces, places and sizes of streams, the place of the file table among them, 5 clusters that are owned twice (the number is a cluster), 6 clusters
-- that are owned and not marked, 7 records that are in use and not marked, 8 the way up of each directory, 9 the change
-- journal (the number is an offset in $J).
unfoldable pub broken_1 : Volume → Option ℕ
broken_1 v = first_failing (keeps_1 (files_by_number v)) (count_of v)

unfoldable pub broken_2 : Volume → Option ℕ
broken_2 v = first_failing (keeps_2 (files_by_number v)) (count_of v)

unfoldable pub broken_3 : Content → Volume → Option ℕ
broken_3 c v = first_failing (keeps_index c v (upper_of c v)) (count_of v)

unfoldable pub broken_4 : Content → Volume → Option ℕ
broken_4 c v = if keeps_place v then first_failing (keeps_sizes c v) (file_count v) else Some table_file

unfoldable pub broken_5 : Volume → Option ℕ
broken_5 v = first_failing (keeps_owner (volume_runs v.files)) v.clusters

unfoldable pub broken_6 : Content → Volume → Option ℕ
broken_6 c v = first_failing (keeps_cluster_bit (cluster_bits c v) (volume_runs v.files)) v.clusters

unfoldable pub broken_7 : Content → Volume → Option ℕ
broken_7 c v = first_failing (keeps_record_bit c v) (count_of v)

unfoldable pub broken_8 : Volume → Option ℕ
broken_8 v = first_failing (keeps_8 (files_by_number v) (count_of v)) (count_of v)

unfoldable pub broken_9 : Content → Volume → Option ℕ
broken_9 c v = fault_of (journal_of c (upper_of c v) v)

-- the first rule that is broken, with its least number
unfoldable pub first_broken : Content → Volume → Option Broken
first_broken c v =
    broken_or 1 (broken_1 v) (broken_or 2 (broken_2 v) (broken_or 3 (broken_3 c v)
    (broken_or 4 (broken_4 c v) (broken_or 5 (broken_5 v) (broken_or 6 (broken_6 c v)
    (broken_or 7 (broken_7 c v) (broken_or 8 (broken_8 v) (broken_or 9 (broken_9 c v) None))))))))
