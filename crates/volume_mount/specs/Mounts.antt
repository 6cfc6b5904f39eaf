-- A volume that is mounted: opened by its log, loaded, and refused by nothing; or the first refusal that applies.
use Rattle.std.specs.Prelude.{ℕ, ◌+◌, ◌/◌, ◌==◌, max, nat_le, not, Bool, true, if◌then◌else◌, List, count_by, is_some, Option, Some, None, Result, Ok, Err}
use Rattle.std.specs.Int.{div_ceil}
use Rattle.host_base.specs.Answers.{◌>>=◌, needs}
use Rattle.disk_model.specs.declared.block.Block.{Block}
use Rattle.disk_model.specs.Content.{Content}
use Rattle.state_model.specs.record_model.declared.attribute.Attr.{Attr}
use Rattle.state_model.specs.record_model.Constants.{attribute_list}
use Rattle.state_model.specs.record_model.Records.{Record}
use Rattle.file_tree.specs.declared.tree.Tree.{Tree}
use Rattle.file_tree.specs.Walks.{child_in}
use Rattle.state_model.specs.declared.geometry.Geometry.{Geometry}
use Rattle.state_model.specs.Rules.{first_failing}
use Rattle.state_model.specs.Trees.{all_links}
use Rattle.volume_state.specs.volume_model.Volumes.{Volume, files_by_number, file_in, count_of, log_file, cluster_bits, upper_of}
use Rattle.volume_state.specs.Journals.{extend_file, journal_name}
use Rattle.volume_state.specs.Trees.{tree_of}
use Rattle.log_model.specs.Logs.{recovered}
use Rattle.volume_shadows.specs.log_recovery.Recovering.{shadow_lsn}
use Rattle.image_read.specs.log_page.declared.places.LogPlace.{LogPlace}
use Rattle.image_read.specs.log_page.Places.{page_bytes}
use Rattle.image_read.specs.log_reading.LogPages.{log_sector}
use Rattle.image_read.specs.image_open.declared.refusal.Refusal.{Refusal}
use Rattle.image_read.specs.image_open.declared.refusal.Refusal.TheVariants.{LogSmall, Unbuilt, ForeignLog, BadVolume}
use Rattle.image_read.specs.image_open.Volumes.{on_disk}
use Rattle.image_read.specs.image_open.Writing.{OpenedToWrite, opened_to_write_in}
use Rattle.image_read.specs.Checks.{volume_on, has_version, tree_on}
use Rattle.volume_shadows.specs.Live.{least_live}
use Rattle.volume_mount.specs.Boot.{keeps_boot}

-- ---- what a loaded volume is tried by

-- the file that $UsnJrnl leads to in $Extend
abbrev pub journal_number : List ℕ → Volume → Option ℕ
journal_number upper v = child_in upper (all_links (files_by_number v) (count_of v)) extend_file journal_name

-- a volume with a change journal isn't mounted yet
unfoldable pub has_no_journal : List ℕ → Volume → Result (Unit {0}) Refusal
has_no_journal upper v = needs (not (is_some (journal_number upper v))) (Unbuilt 6)

-- the pages that a log needs for a session that writes a volume of so many clusters: 512, and one for each three sectors of its bitmap
abbrev pub pages_for : ℕ → ℕ
pages_for clusters = 512 + div_ceil (div_ceil clusters 4096) 3

-- these, and all that the log has
abbrev pub pages_needed : LogPlace → ℕ
pages_needed place = max (pages_for place.clusters) place.pages

-- the log's pages that are initialised as a whole
abbrev pub whole_pages : LogPlace → ℕ
whole_pages place = place.initialised / page_bytes

-- a log has the pages that it needs
unfoldable pub has_pages : LogPlace → Result (Unit {0}) Refusal
has_pages place = needs (nat_le (pages_needed place) (whole_pages place)) (LogSmall (whole_pages place) (pages_needed place))

-- the sector of the log with this number lies on the device, and begins below the initialised size
abbrev pub is_there : LogPlace → ℕ → Bool
is_there place n = is_some (log_sector place n)

-- so many of them begin below it
abbrev pub begun_sectors : LogPlace → ℕ
begun_sectors place = div_ceil place.initialised 512

-- the number of the first of so many that isn't there; that many where each is
abbrev pub or_all : ℕ → Option ℕ → ℕ
or_all count None = count
or_all count (Some n) = n

unfoldable pub front_sectors : LogPlace → ℕ
front_sectors place = or_all (begun_sectors place) (first_failing (is_there place) (begun_sectors place))

-- the log's pages from its first one on that lie on the device; record 2 that is no file's has none
abbrev pub lying_pages : LogPlace → Volume → ℕ
lying_pages place v = if is_some (file_in v log_file) then front_sectors place / 8 else 0

-- each page of a log lies on the device
unfoldable pub pages_lie : LogPlace → Volume → Result (Unit {0}) Refusal
pages_lie place v = needs (nat_le place.pages (lying_pages place v)) (LogSmall (lying_pages place v) (pages_needed place))

-- how many attributes of a file are attribute lists
abbrev pub list_count : Record → ℕ
list_count r = count_by (λ (a : Attr). a.head.kind == attribute_list) r.attrs

-- there is one at most
abbrev pub has_single_list : Option Record → Bool
has_single_list None = true
has_single_list (Some r) = nat_le (list_count r) 1

abbrev pub unless_failing : Option ℕ → Result (Unit {0}) Refusal
unless_failing None = Ok tt
unless_failing (Some n) = Err (BadVolume 4 n)

-- each file has an attribute list in one piece, or none
unfoldable pub has_single_lists : Volume → Result (Unit {0}) Refusal
has_single_lists v = unless_failing (first_failing (λ n. has_single_list (file_in v n)) (count_of v))

-- What a volume has to show beside the rules before it is changed, by these bits of its clusters: the log's pages lie on the device, no attribute list has a second piece, and the boot
-- sector is kept.
unfoldable pub changeable : LogPlace → List Bool → Volume → Result (Unit {0}) Refusal
changeable place bits v = pages_lie place v >>= λ _. has_single_lists v >>= λ _. keeps_boot bits v

-- the same by the bits of a content
abbrev pub may_be_changed : LogPlace → Content → Volume → Result (Unit {0}) Refusal
may_be_changed place c v = changeable place (cluster_bits c v) v

-- what the entries of a log say of a block: the LSN of the first update of a rival, where they shadow it
abbrev pub Said : Type 0
Said = Block → Option ℕ

abbrev pub unless_said : Option ℕ → Volume → Result Volume Refusal
unless_said None v = Ok v
unless_said (Some lsn) v = Err (ForeignLog lsn)

-- No live block is shadowed; else the log is refused with the LSN of the first update of a rival of such a block, of several the least.
unfoldable pub unshadowed : Said → Volume → Result Volume Refusal
unshadowed said v = unless_said (least_live said v) v

-- ---- in their order

-- the nine rules
unfoldable pub ruled : Content → Volume → Result Volume Refusal
ruled c v = tree_on c v >>= λ _. Ok v

-- the log's own pages, at this place, and what else is asked of a volume that is to be changed, by these bits of its clusters; and then the live blocks
unfoldable pub placed : Said → LogPlace → List Bool → Volume → Result Volume Refusal
placed said place bits v = changeable place bits v >>= λ _. unshadowed said v

-- these come behind the rules
unfoldable pub settled : Said → LogPlace → Content → Volume → Result Volume Refusal
settled said place c v = ruled c v >>= λ w. placed said place (cluster_bits c w) w

-- how many pages the log has comes before them
unfoldable pub paged : Said → LogPlace → Content → Volume → Result Volume Refusal
paged said place c v = has_pages place >>= λ _. settled said place c v

-- a journal before the pages, by this table of upper-case units
unfoldable pub unjournaled : Said → List ℕ → LogPlace → Content → Volume → Result Volume Refusal
unjournaled said upper place c v = has_no_journal upper v >>= λ _. paged said place c v

-- and the version before all
unfoldable pub tried : Said → LogPlace → Content → Volume → Result Volume Refusal
tried said place c v = has_version v >>= λ _. unjournaled said (upper_of c v) place c v

-- The volume that is loaded from a recovered content, of this geometry and so many clusters, whose log lies at this place and says
-- this of its blocks.
unfoldable pub loaded_on : Said → LogPlace → Content → Geometry → ℕ → Result Volume Refusal
loaded_on said place c g total = volume_on c g total >>= tried said place c

-- ---- what is mounted

-- how it was opened, its recovered content, and the volume that was loaded from this
pub record MountedVolume : Type 0 where
  pub opened : OpenedToWrite
  pub content : Content
  pub volume : Volume

-- its table of upper-case units
abbrev pub upper_in : MountedVolume → List ℕ
upper_in m = upper_of m.content m.volume

-- the tree that it stands for
abbrev pub tree_in : MountedVolume → Tree
tree_in m = tree_of m.content m.volume

-- the content of a volume that was opened, as recovery by its log makes it
abbrev pub content_behind : Content → OpenedToWrite → Content
content_behind c o = recovered c o.state.log

abbrev pub mounted_as : Content → OpenedToWrite → Volume → MountedVolume
mounted_as c o v = record { opened = o; content = content_behind c o; volume = v }

-- a volume that was opened
unfoldable pub mounted_by : Content → OpenedToWrite → Result MountedVolume Refusal
mounted_by c o = loaded_on (shadow_lsn o.state.log) o.place (content_behind c o) o.geometry o.total >>= λ v. Ok (mounted_as c o v)

-- the mounted volume of a content on a device of so many sectors
unfoldable pub mounted_in : Content → ℕ → Result MountedVolume Refusal
mounted_in c sectors = opened_to_write_in c sectors >>= mounted_by c

-- The mounted volume on these sectors; or the first refusal that applies: a device of no sectors; the sectors of a cluster, the boot sector,
-- the device's length, record 2, and the log, as a mount that writes opens a volume; the records of the file table; the version; a change
-- journal; the pages of the log; the nine rules of a volume; a page of the log that lies nowhere; an attribute list in two pieces; a first cluster that
-- another stream than $Boot's data has, or whose bit is clear; and the log, by which a live block is shadowed.
unfoldable pub mounted_of : List (List ℕ) → Result MountedVolume Refusal
mounted_of disk = on_disk mounted_in disk
