-- What is mounted for a journal is what its reading answers.
use Rattle.std.proofs.Common.{◌≡◌, ℕ, length, Result, Ok, Err, refl, subst}
use Rattle.std.specs.Prelude.{nat_lt}
use Rattle.host_base.specs.Answers.{◌>>=◌, needs}
use Rattle.disk_model.specs.Sectors.{sector_of}
use Rattle.disk_model.specs.Content.{Content, content_of}
use Rattle.file_tree.specs.declared.tree.Tree.{Tree}
use Rattle.state_model.specs.declared.stream.Extents.{Extents}
use Rattle.volume_model.specs.Volumes.{Volume}
use Rattle.volume_mount.specs.image_open.declared.refusal.Refusal.{Refusal}
use Rattle.volume_mount.specs.image_open.declared.refusal.Refusal.TheVariants.{Short}
use Rattle.volume_mount.specs.image_open.Volumes.{Opened}
use Rattle.volume_mount.specs.image_open.Writing.{OpenedToWrite}
use Rattle.volume_mount.specs.image_read.declared.reading.ReadJournal.{ReadJournal}
use Rattle.volume_mount.specs.image_read.Checks.{volume_on, has_version, tree_on, loaded_in}
use Rattle.volume_mount.specs.image_read.Records.{place_on, records_in, records_by, placed_records, volume_records, journal_in, journal_of}
use Rattle.volume_mount.specs.Mounts.{MountedVolume, content_behind, mounted_as}
use Rattle.mount_access.specs.declared.access.Access.TheVariants.{Journal}
use Rattle.mount_access.specs.Mounts.{tried_for, passed, opened_for, loaded_for, mounted_in_for, mounted_for}
use Rattle.mount_access.specs.Laws.{HasRecords, Reads, JournalIsItsReading}
use Rattle.mount_access.proofs.Opened.{seen_as, seen_for_journal}
use Rattle.mount_access.proofs.Recorded.{has_records}

-- ---- steps

reads_behind : {A : Type 0} (first : Result A Refusal) (next : A → Result MountedVolume Refusal) (read : A → Result ReadJournal Refusal) → ((x : A) → Reads (next x) (read x)) → Reads (first >>= next) (first >>= read)
reads_behind (Ok x) next read each = each x
reads_behind (Err f) next read each = refl

reads_other : {A B : Type 0} (first : Result A Refusal) (other : A → B) (next : A → Result MountedVolume Refusal) (read : B → Result ReadJournal Refusal) → ((x : A) → Reads (next x) (read (other x)))
    → Reads (first >>= next) ((first >>= λ x. Ok (other x)) >>= read)
reads_other (Ok x) other next read each = each x
reads_other (Err f) other next read each = refl

tests : (version : Result (Unit {0}) Refusal) (place : Result Extents Refusal) (tree : Result Tree Refusal) (m : MountedVolume) (read : Extents → ReadJournal)
    → ((e : Extents) → (t : Tree) → place ≡ Ok e → tree ≡ Ok t → HasRecords m (read e))
    → Reads ((version >>= λ _. (place >>= λ _. Ok (tt {0})) >>= λ _. tree >>= λ _. Ok (tt {0})) >>= λ _. Ok m) (version >>= λ _. place >>= λ e. tree >>= λ _. Ok (read e))
tests (Ok x) (Ok e) (Ok t) m read has = (read e, has e t refl refl, refl)
tests (Ok x) (Ok e) (Err f) m read has = refl
tests (Ok x) (Err f) tree m read has = refl
tests (Err f) place tree m read has = refl

-- ---- a volume, and an image

volume_read : (c : Content) (o : OpenedToWrite) (v : Volume) → Reads (passed Journal (mounted_as c o v)) (volume_records (content_behind c o) v)
unfolding volume_records placed_records records_by tried_for
volume_read c o v =
    tests (has_version v) (place_on (content_behind c o) v) (tree_on (content_behind c o) v) (mounted_as c o v) (records_in (content_behind c o) v.per) (has_records (content_behind c o) v)

opened_read : (c : Content) (o : OpenedToWrite) → Reads (loaded_for Journal c o) (loaded_in volume_records (content_behind c o) o.geometry o.total)
unfolding loaded_for
opened_read c o = reads_behind (volume_on (content_behind c o) o.geometry o.total) (λ v. passed Journal (mounted_as c o v)) (volume_records (content_behind c o)) (volume_read c o)

content_read : (c : Content) (sectors : ℕ) → Reads (mounted_in_for Journal c sectors) (journal_in c sectors)
unfolding journal_in mounted_in_for
content_read c sectors =
    subst (λ (r : Result Opened Refusal). Reads (opened_for Journal c sectors >>= loaded_for Journal c) (r >>= λ o. loaded_in volume_records o.content o.geometry o.total)) (seen_for_journal c sectors)
    (reads_other (opened_for Journal c sectors) (seen_as c) (loaded_for Journal c) (λ o. loaded_in volume_records o.content o.geometry o.total) (opened_read c))

pub journal_is_reading : JournalIsItsReading
unfolding journal_of mounted_for
journal_is_reading disk =
    reads_behind (needs (nat_lt 0 (length disk)) (Short 1 0)) (λ _. mounted_in_for Journal (content_of (sector_of disk)) (length disk)) (λ _. journal_in (content_of (sector_of disk)) (length disk))
    (λ _. content_read (content_of (sector_of disk)) (length disk))
