-- The parts of a volume that don't read the file that is replaced.
use Rattle.std.proofs.Common.{◌≡◌, ◌≢◌, ℕ, ◌-◌, ◌<◌, ◌≤◌, Bool, not, cond, List, [], length, Option, Some, None, refl, sym, ap, ◌∙◌, arith}
use mathlib.Core.Path.{fun_ext}
use Rattle.std.specs.Prelude.{count_by}
use Rattle.std.specs.List.{filter_map, cons_option, range_with_len}
use Rattle.volume_state.specs.host_base.declared.file_ref.FileRef.{FileRef}
use Rattle.volume_state.specs.disk_model.Content.{Content}
use Rattle.volume_state.specs.record_model.Records.{Record}
use Rattle.volume_state.specs.record_model.Constants.{data_type, bitmap_type}
use Rattle.volume_state.specs.file_tree.declared.link.Link.{Link}
use Rattle.volume_state.specs.file_tree.Walks.{child_in, first_user_record}
use Rattle.volume_state.specs.bit_set.Bits.{bit}
use Rattle.volume_state.specs.bit_set.Words.{bits_of_bytes}
use Rattle.volume_state.specs.upcase_order.Tables.{upcase_of}
use Rattle.volume_state.specs.state_model.Loads.{table_in}
use Rattle.volume_state.specs.volume_model.Volumes.{Volume, count_of, file_in, table_file, bitmap_file, upcase_file, file_stream, bytes_or, record_bytes, record_block, record_bits, cluster_bits, table_or_standard, upper_of}
use Rattle.volume_state.specs.volume_model.Nodes.{spare_sequence, spare_at, spare_numbers, free_clusters}
use Rattle.volume_state.specs.Journals.{extend_file, journal_name, file_or_none, journal_file, journal_of_file, journal_of}
use Rattle.stream_laws.specs.Replacing.{OneFileDiffers}
use Rattle.stream_laws.specs.Rewrites.{with_files}
use Rattle.tree_laws.specs.Keeping.{PartReplaced, KeepsNames}
use Rattle.tree_laws.specs.Parts.{journal_number}
use Rattle.tree_laws.proofs.Splitting.{filter_replaced_from}
use Rattle.tree_laws.proofs.Naming.{file_elsewhere, links_kept}

abbrev Files : Type 0
Files = List (Option Record)

other_file : (v : Volume) (files : Files) (n m : ℕ) → OneFileDiffers n v.files files → n ≢ m → file_in (with_files v files) m ≡ file_in v m
other_file v files n m differs other = file_elsewhere (table_in v.files) (table_in files) n m differs.others (λ is. other (sym is))

-- ---- bitmaps

pub record_bits_stay : (c : Content) (v : Volume) (files : Files) (n : ℕ) → OneFileDiffers n v.files files → n ≢ table_file → record_bits c (with_files v files) ≡ record_bits c v
unfolding record_bits
record_bits_stay c v files n differs other =
    ap (λ (o : Option Record). bits_of_bytes (bytes_or c v.per (file_stream bitmap_type [] o)) (length files)) (other_file v files n table_file differs other)
    ∙ ap (λ (k : ℕ). bits_of_bytes (bytes_or c v.per (file_stream bitmap_type [] (file_in v table_file))) k) differs.count

pub cluster_bits_stay : (c : Content) (v : Volume) (files : Files) (n : ℕ) → OneFileDiffers n v.files files → n ≢ bitmap_file → cluster_bits c (with_files v files) ≡ cluster_bits c v
unfolding cluster_bits
cluster_bits_stay c v files n differs other =
    ap (λ (o : Option Record). bits_of_bytes (bytes_or c v.per (file_stream data_type [] o)) v.clusters) (other_file v files n bitmap_file differs other)

spare_by : Content → Volume → ℕ → List Bool → Option FileRef
spare_by c v m bits = cond (bit bits m) None (Some (record { number = m; seq = spare_sequence (record_bytes c v m) }))

same_spare : (c : Content) (v : Volume) (files : Files) (n : ℕ) → OneFileDiffers n v.files files → n ≢ table_file → (m : ℕ) → spare_at c (with_files v files) m ≡ spare_at c v m
unfolding spare_at spare_by record_bytes record_block
same_spare c v files n differs other m = ap (spare_by c v m) (record_bits_stay c v files n differs other)

pub spare_stay : (c : Content) (v : Volume) (files : Files) (n : ℕ) → OneFileDiffers n v.files files → n ≢ table_file → spare_numbers c (with_files v files) ≡ spare_numbers c v
unfolding spare_numbers
spare_stay c v files n differs other =
    ap (λ (f : ℕ → Option FileRef). filter_map f (range_with_len first_user_record (length files - first_user_record))) (fun_ext (same_spare c v files n differs other))
    ∙ ap (λ (k : ℕ). filter_map (spare_at c v) (range_with_len first_user_record (k - first_user_record))) differs.count

pub room_stays : (c : Content) (v : Volume) (files : Files) (n : ℕ) → OneFileDiffers n v.files files → n ≢ bitmap_file → free_clusters c (with_files v files) ≡ free_clusters c v
unfolding free_clusters
room_stays c v files n differs other = ap (count_by not) (cluster_bits_stay c v files n differs other)

-- where the others stay
pub spare_by_others : (c d : Content) (v w : Volume) (n : ℕ) → count_of w ≡ count_of v → first_user_record ≤ n → n < count_of v → ((m : ℕ) → m < count_of v → m ≢ n → spare_at d w m ≡ spare_at c v m)
    → PartReplaced (cons_option (spare_at c v n) []) (cons_option (spare_at d w n) []) (spare_numbers c v) (spare_numbers d w)
unfolding spare_numbers
spare_by_others c d v w n count user below others =
    let replaced = filter_replaced_from (spare_at c v) (spare_at d w) n first_user_record (count_of v - first_user_record) (λ m low high other. others m (omega arith) other) user (omega arith) in
    record {
      front = replaced.front;
      behind = replaced.behind;
      was = replaced.was;
      is = ap (λ (k : ℕ). filter_map (spare_at d w) (range_with_len first_user_record (k - first_user_record))) count ∙ replaced.is;
    }

-- ---- the table of upper-case units

pub upper_stays : (c : Content) (v : Volume) (files : Files) (n : ℕ) → OneFileDiffers n v.files files → n ≢ upcase_file → upper_of c (with_files v files) ≡ upper_of c v
unfolding upper_of
upper_stays c v files n differs other =
    ap (λ (o : Option Record). table_or_standard (upcase_of (bytes_or c v.per (file_stream data_type [] o)))) (other_file v files n upcase_file differs other)

-- ---- the journal

same_holder : (v : Volume) (files : Files) (n : ℕ) (o : Option ℕ) → OneFileDiffers n v.files files → o ≢ Some n → file_or_none (with_files v files) o ≡ file_or_none v o
same_holder v files n None differs other = refl
same_holder v files n (Some m) differs other = other_file v files n m differs (λ is. other (ap (λ (k : ℕ). Some k) (sym is)))

-- by the number that $UsnJrnl leads to
same_holder_by : (v : Volume) (files : Files) (upper : List ℕ) (n : ℕ) → OneFileDiffers n v.files files → journal_number upper (with_files v files) ≡ journal_number upper v → journal_number upper v ≢ Some n → journal_file upper (with_files v files) ≡ journal_file upper v
unfolding journal_file
same_holder_by v files upper n differs same other = ap (file_or_none (with_files v files)) same ∙ same_holder v files n (journal_number upper v) differs other

pub holder_by_number : (c : Content) (v : Volume) (files : Files) (upper : List ℕ) (n : ℕ) → OneFileDiffers n v.files files → journal_number upper (with_files v files) ≡ journal_number upper v → journal_number upper v ≢ Some n → journal_of c upper (with_files v files) ≡ journal_of c upper v
unfolding journal_of
holder_by_number c v files upper n differs same other = ap (journal_of_file c v.per) (same_holder_by v files upper n differs same other)

pub number_stays : (v : Volume) (files : Files) (upper : List ℕ) (n : ℕ) → OneFileDiffers n v.files files → KeepsNames n (table_in v.files) (table_in files) → journal_number upper (with_files v files) ≡ journal_number upper v
number_stays v files upper n differs keeps = ap (λ (links : List Link). child_in upper links extend_file journal_name) (links_kept v.files files n differs keeps)

pub holder_stays : (v : Volume) (files : Files) (upper : List ℕ) (n : ℕ) → OneFileDiffers n v.files files → KeepsNames n (table_in v.files) (table_in files) → journal_number upper v ≢ Some n → journal_file upper (with_files v files) ≡ journal_file upper v
holder_stays v files upper n differs keeps other = same_holder_by v files upper n differs (number_stays v files upper n differs keeps) other

pub journal_stays : (c : Content) (v : Volume) (files : Files) (upper : List ℕ) (n : ℕ) → OneFileDiffers n v.files files → KeepsNames n (table_in v.files) (table_in files) → journal_number upper v ≢ Some n → journal_of c upper (with_files v files) ≡ journal_of c upper v
journal_stays c v files upper n differs keeps other = holder_by_number c v files upper n differs (number_stays v files upper n differs keeps) other
