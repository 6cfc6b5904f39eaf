-- The entries of a log in groups: for each cluster, those that may say something of a block that begins in it.
use Rattle.std.specs.Prelude.{ℕ, ◌+◌, ◌-◌, ◌/◌, ◌%◌, ◌≡◌, ◌&&◌, nat_le, Bool, false, List, [], map, Option, Some, None, Vec}
use Rattle.std.specs.List.{filter}
use Rattle.std.specs.Ordering.{nat_cmp}
use Rattle.std.specs.BTreeMap.{BTreeMap, get}
use Rattle.std.specs.Borrow.{Bor}
use Rattle.log_reading.specs.disk_model.declared.block.Block.{Block}
use Rattle.log_reading.specs.disk_model.Sectors.{sectors}
use Rattle.log_model.specs.declared.entry.Entry.{Entry}
use Rattle.log_model.specs.declared.entry.Act.{Act}
use Rattle.log_model.specs.declared.entry.Act.TheVariants.{Update, Commit}
use Rattle.log_model.specs.Logs.{block_of_kind}
use Rattle.log_recovery.specs.Blocks.{Lies}

-- the entries that are lent
abbrev pub lent : List (Bor Entry) → List Entry
lent group = map (λ (e : Bor Entry). e.now) group

abbrev pub LentLies : Bor Entry → Type 0
LentLies e = Lies e.now

-- The clusters in which a block begins that shares a sector with this one lie between the one before its first sector's cluster and that of its last sector.
abbrev pub first_cluster : Block → ℕ
first_cluster b = b.first / 8 - 1

abbrev pub last_cluster : Block → ℕ
last_cluster b = b.first / 8 + (b.first % 8 + sectors b.kind - 1) / 8

-- the cluster is one of these
abbrev pub reaches : Block → ℕ → Bool
reaches b cluster = nat_le (first_cluster b) cluster && nat_le cluster (last_cluster b)

-- an update of a block that reaches the cluster
abbrev pub touches : ℕ → Act → Bool
touches cluster (Update first kind at redo undo) = reaches (block_of_kind first kind) cluster
touches cluster Commit = false

-- the updates that touch the cluster, in order
abbrev pub group_of : List Entry → ℕ → List Entry
group_of log cluster = filter (λ (e : Entry). touches cluster e.act) log

-- what a map holds of a cluster
abbrev pub held_group : {A : Type 0} → Option (Vec (Bor Entry) A) → List Entry
held_group None = []
held_group (Some group) = lent group.items

-- the map has the group of each cluster
abbrev pub HasGroups : {A : Type 0} → BTreeMap ℕ (Vec (Bor Entry) A) → List Entry → Type 0
HasGroups groups log = (cluster : ℕ) → held_group (get nat_cmp groups cluster) ≡ group_of log cluster
