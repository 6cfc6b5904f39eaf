-- Sums over the files of a volume that change where files are replaced: clusters by the kind of their blocks, live blocks, and names.
use Rattle.std.specs.Prelude.{◌≡◌, ℕ, ◌+◌, ◌-◌, ◌*◌, ◌/◌, ◌%◌, ◌<◌, ◌≤◌, suc, Bool, false, ◌&&◌, ◌==◌, nat_le, nat_lt, if◌then◌else◌, List, [], ◌∷◌, length, count_by, Option, Some, None}
use Rattle.std.specs.List.{sum_by}
use Rattle.volume_model.specs.disk_model.declared.block.Block.{Block}
use Rattle.volume_model.specs.disk_model.declared.block.BlockKind.{BlockKind}
use Rattle.volume_model.specs.disk_model.declared.block.BlockKind.TheVariants.{Plain, FileRec, Index}
use Rattle.volume_model.specs.disk_model.Sectors.{sectors, same_kind, HasSector}
use Rattle.volume_model.specs.record_model.declared.attribute.Attr.{Attr}
use Rattle.volume_model.specs.record_model.declared.runs.Run.{Run}
use Rattle.volume_model.specs.record_model.Records.{Record}
use Rattle.volume_model.specs.file_tree.declared.link.Link.{Link}
use Rattle.volume_model.specs.state_model.Files.{only_base, file_links}
use Rattle.volume_model.specs.state_model.Loads.{table_in}
use Rattle.volume_model.specs.state_model.Rules.{same_link}
use Rattle.volume_model.specs.state_model.Streams.{attribute_runs, stream_of}
use Rattle.volume_model.specs.Volumes.{Volume}
use Rattle.volume_model.specs.Owners.{volume_runs, uses}
use Rattle.stream_laws.specs.Owners.{stream_kind, initialised_in, Owns}
use Rattle.stream_laws.specs.Replacing.{FileEdit, with_edits, AreEdits}

-- ---- sums over files by number

-- the weights of files whose numbers begin here
abbrev pub weight_from : (ℕ → Option Record → ℕ) → ℕ → List (Option Record) → ℕ
weight_from weigh n [] = 0
weight_from weigh n (file ∷ files) = weigh n file + weight_from weigh (suc n) files

abbrev pub weight_of : (ℕ → Option Record → ℕ) → List (Option Record) → ℕ
weight_of weigh files = weight_from weigh 0 files

-- what the files that go weighed, and what those that come weigh
abbrev pub weight_lost : (ℕ → Option Record → ℕ) → List (Option Record) → List FileEdit → ℕ
weight_lost weigh files edits = sum_by (λ e. weigh e.number (table_in files e.number)) edits

abbrev pub weight_gained : (ℕ → Option Record → ℕ) → List FileEdit → ℕ
weight_gained weigh edits = sum_by (λ e. weigh e.number e.file) edits

-- ---- clusters by the kind of their blocks

-- the kind of the blocks of an attribute's stream, by the number of its file
abbrev pub attr_kind : ℕ → Attr → BlockKind
attr_kind n a = stream_kind (record { file = n; kind = a.head.kind; name = a.name })

abbrev pub attr_uses_as : BlockKind → ℕ → ℕ → Attr → ℕ
attr_uses_as kind x n a = if same_kind kind (attr_kind n a) then uses (attribute_runs a) x else 0

-- how often a file has this cluster for blocks of this kind
abbrev pub uses_as : BlockKind → ℕ → ℕ → Option Record → ℕ
uses_as kind x n None = 0
uses_as kind x n (Some r) = sum_by (attr_uses_as kind x n) r.attrs

-- ---- live blocks

-- the block lies in the clusters from this one on, at a place of its kind of which the stream begins below its initialised size
abbrev pub holds_live_from : ℕ → Block → ℕ → Run → Option ℕ → Bool
holds_live_from per b initialised r None = false
holds_live_from per b initialised r (Some lcn) =
    nat_le (lcn * per) b.first && nat_le (b.first + sectors b.kind) ((lcn + r.len) * per)
    && (r.vcn * per + (b.first - lcn * per)) % sectors b.kind == 0 && nat_lt (512 * (r.vcn * per + (b.first - lcn * per))) initialised

-- the run holds the block, which begins below the initialised size
abbrev pub holds_live : ℕ → Block → ℕ → Run → Bool
holds_live per b initialised r = holds_live_from per b initialised r r.lcn

abbrev pub attr_live : ℕ → Block → ℕ → List Attr → Attr → ℕ
attr_live per b n attrs a = if same_kind b.kind (attr_kind n a) then count_by (holds_live per b (initialised_in (stream_of a.head.kind a.name attrs))) (attribute_runs a) else 0

-- how often a file has this block, as one that begins below its stream's initialised size
abbrev pub live_in : ℕ → Block → ℕ → Option Record → ℕ
live_in per b n None = 0
live_in per b n (Some r) = sum_by (attr_live per b n r.attrs) r.attrs

-- ---- names

-- how many names of a file are this link
abbrev pub times_named : Link → ℕ → Option Record → ℕ
times_named l n file = count_by (same_link l) (file_links n (only_base file))

-- ---- the laws

-- What the files weigh and what was lost is what they weighed and what was gained: for the clusters of each kind of block, for live
-- blocks, and for the names that are a link.
pub record WeightsReplaced : Type 0 where
  pub kinds : (kind : BlockKind) (x : ℕ) (files : List (Option Record)) (edits : List FileEdit) → AreEdits (length files) edits
      → weight_of (uses_as kind x) (with_edits edits files) + weight_lost (uses_as kind x) files edits ≡ weight_of (uses_as kind x) files + weight_gained (uses_as kind x) edits
  pub live : (per : ℕ) (b : Block) (files : List (Option Record)) (edits : List FileEdit) → AreEdits (length files) edits
      → weight_of (live_in per b) (with_edits edits files) + weight_lost (live_in per b) files edits ≡ weight_of (live_in per b) files + weight_gained (live_in per b) edits
  pub names : (l : Link) (files : List (Option Record)) (edits : List FileEdit) → AreEdits (length files) edits
      → weight_of (times_named l) (with_edits edits files) + weight_lost (times_named l) files edits ≡ weight_of (times_named l) files + weight_gained (times_named l) edits

-- Each cluster is used as the cluster of blocks of one kind or another. Each sector of a block that a volume owns lies in a cluster
-- that is used for blocks of its kind.
pub record ClustersByKind : Type 0 where
  pub all : (x : ℕ) (files : List (Option Record)) → uses (volume_runs files) x ≡ weight_of (uses_as Plain x) files + weight_of (uses_as FileRec x) files + weight_of (uses_as Index x) files
  pub owned : (v : Volume) (b : Block) (s : ℕ) → 0 < v.per → Owns v b → HasSector b s → 1 ≤ weight_of (uses_as b.kind (s / v.per)) v.files
