-- What an operation changes in a content: the records that come to have so many used bytes, the streams that take clusters, and the index in
-- which a name comes.
use Rattle.std.specs.Prelude.{◌≡◌, ℕ, ◌+◌, ◌*◌, Bool, true, false, ◌==◌, nat_lt, if◌then◌else◌, List, [], ◌∷◌, ◌++◌, length, Option, Some, None, Result, Ok, Err}
use Rattle.host_base.specs.declared.file_ref.FileRef.{FileRef}
use Rattle.record_writer.specs.disk_model.Content.{Content}
use Rattle.plan_model.specs.record_model.declared.attribute.Attr.{Attr}
use Rattle.plan_model.specs.record_model.Constants.{standard_information, file_name, data_type}
use Rattle.plan_model.specs.record_model.Records.{Record, used_of}
use Rattle.plan_model.specs.file_tree.declared.node.Node.{Node}
use Rattle.plan_model.specs.file_tree.declared.journal.Journal.{Journal}
use Rattle.plan_model.specs.file_tree.declared.tree.Tree.{Tree as FileTree}
use Rattle.plan_model.specs.index_model.declared.key.Key.{Key}
use Rattle.plan_model.specs.index_model.Trees.{Tree, levels}
use Rattle.plan_model.specs.index_model.Indexes.{node_of_block, nodes_of}
use Rattle.plan_model.specs.index_model.Laws.{HoldsIndex}
use Rattle.plan_model.specs.index_change.Plans.{root_room}
use Rattle.space_model.specs.Choosing.{with_runs}
use Rattle.plan_model.specs.volume_model.Volumes.{Volume, file_in, table_file, cluster_bits, upper_of}
use Rattle.plan_model.specs.volume_model.Indexes.{index_place, root_value}
use Rattle.plan_model.specs.volume_state.Trees.{tree_of}
use Rattle.plan_model.specs.tree_laws.Parts.{journal_number}
use Rattle.run_model.specs.tree_model.declared.script.Op.{Op}
use Rattle.run_model.specs.tree_model.declared.script.Op.TheVariants as op
use Rattle.run_model.specs.tree_model.declared.reply.Reply.{Reply}
use Rattle.run_model.specs.tree_model.declared.reply.Reply.TheVariants.{RecordFull, IndexDeep}
use Rattle.run_model.specs.tree_model.Walks.{reached, reached_directory}
use Rattle.run_model.specs.tree_model.Needs.{changes_file}
use Rattle.run_model.specs.tree_model.Refusals.{parent_path, new_name}
use Rattle.run_model.specs.tree_model.Effects.{numbers_to_take, least_ref, new_link}
use Rattle.step_model.specs.Placing.{Growth, taken_runs}
use Rattle.step_model.specs.Used.{most_used, used_after, new_attr, value_attr}
use Rattle.step_model.specs.Streams.{Changed, no_change, one_change, data_comes, table_comes, index_comes, entries_come}
use Rattle.step_model.specs.Spreads.{Outcome, Flat, Raised, TooDeep, MayBecome, IsKeyOf}

-- What an operation comes to: the used bytes of the records that it changes, in their order, but for that of $UsnJrnl; the levels of an
-- index that has too many; the streams that take clusters, in their order; the index in which a name comes; and the used bytes of the
-- record of $UsnJrnl.
pub record Plan : Type 0 where
  pub used : List ℕ
  pub deep : Option ℕ
  pub growths : List Growth
  pub index : Option Tree
  pub journal : List ℕ

abbrev pub no_plan : Plan
no_plan = record { used = []; deep = None; growths = []; index = None; journal = [] }

-- ---- the rows of the content

-- the first record that would have above 1,024 used bytes
abbrev pub full_row : List ℕ → Option Reply
full_row [] = None
full_row (used ∷ more) = if nat_lt most_used used then Some (RecordFull used) else full_row more

abbrev pub deep_row : Option ℕ → Option Reply
deep_row None = None
deep_row (Some height) = Some (IndexDeep height)

-- a record is too full, or an index too deep, or else the record of $UsnJrnl is too full
abbrev pub content_rows : Plan → List (Option Reply)
content_rows p = full_row p.used ∷ deep_row p.deep ∷ full_row p.journal ∷ []

-- ---- the change journal

abbrev pub number_or : Option ℕ → ℕ
number_or None = 0
number_or (Some n) = n

-- what comes of the journal's file, whose records come to end there
abbrev pub journal_comes : List Bool → ℕ → Option Record → Option Journal → ℕ → Changed
journal_comes bits n None journal end = no_change
journal_comes bits n (Some r) None end = no_change
journal_comes bits n (Some r) (Some j) end = entries_come bits n r j end

abbrev pub used_in : Option Record → Changed → List ℕ
used_in None changed = []
used_in (Some r) changed = used_after changed.attrs r ∷ []

abbrev pub used_where : Option Journal → List ℕ → List ℕ
used_where None used = []
used_where (Some j) used = used

abbrev pub with_changed : Plan → Option Journal → Option Record → Changed → Plan
with_changed p journal file changed = record { used = p.used; deep = p.deep; growths = p.growths ++ changed.growths; index = p.index; journal = used_where journal (used_in file changed) }

-- the plan with the journal's records, whose clusters come behind all others
unfoldable pub with_journal : Content → Volume → ℕ → Plan → Plan
with_journal c v end p =
    let n = number_or (journal_number (upper_of c v) v) in
    let journal = (tree_of c v).journal in
    with_changed p journal (file_in v n) (journal_comes (with_runs (taken_runs p.growths) (cluster_bits c v)) n (file_in v n) journal end)

-- ---- a file that is written or cut

abbrev pub plan_of_change : Option Record → Changed → Plan
plan_of_change file changed = record { used = used_in file changed; deep = None; growths = changed.growths; index = None; journal = [] }

abbrev pub data_in : List Bool → Option Record → Op → Node → Changed
data_in bits None op node = no_change
data_in bits (Some r) op node = one_change (data_comes bits r op node)

-- its record, and its unnamed data
unfoldable pub change_plan : Content → Volume → Op → Node → Plan
change_plan c v op node = plan_of_change (file_in v node.number) (data_in (cluster_bits c v) (file_in v node.number) op node)

-- ---- a file that is made

-- a new file: standard information, its name, and unnamed data without bytes
abbrev pub new_file_attrs : List ℕ → List Attr
new_file_attrs name = value_attr 72 (new_attr standard_information []) ∷ value_attr (0x42 + 2 * length name) (new_attr file_name []) ∷ value_attr 0 (new_attr data_type []) ∷ []

-- $MFT grows where no number is spare
abbrev pub table_in : Bool → List Bool → Volume → Option Record → Changed
table_in true bits v (Some r) = table_comes bits v r
table_in true bits v None = no_change
table_in false bits v file = no_change

abbrev pub used_if : Bool → List ℕ → List ℕ
used_if true used = used
used_if false used = []

unfoldable pub grows_table : FileTree → Bool
grows_table t = length t.spare == 0

-- the clusters that are left for an index behind $MFT
abbrev pub table_change : Content → Volume → Changed
table_change c v = table_in (grows_table (tree_of c v)) (cluster_bits c v) v (file_in v table_file)

abbrev pub bits_left : Content → Volume → List Bool
bits_left c v = with_runs (taken_runs (table_change c v).growths) (cluster_bits c v)

-- what comes of the directory with this record, if its index is spread so
abbrev pub spread_comes : Content → Volume → ℕ → Record → Tree → ℕ → Changed
spread_comes c v directory r s more = index_comes (bits_left c v) directory r s more

-- the used bytes of its record then
abbrev pub spread_used : Content → Volume → ℕ → Record → Tree → ℕ → ℕ
spread_used c v directory r s more = used_after (spread_comes c v directory r s more).attrs r

-- the new file, its directory, $MFT
abbrev pub made_used : Content → Volume → List ℕ → List ℕ → List ℕ
made_used c v name directory = used_of (new_file_attrs name) ∷ directory ++ used_if (grows_table (tree_of c v)) (used_in (file_in v table_file) (table_change c v))

-- with the index spread so; where it has too many levels, the directory's record isn't judged
abbrev pub made_spread : Content → Volume → List ℕ → ℕ → Record → Tree → ℕ → Plan
made_spread c v name directory r s more = record {
  used = made_used c v name (spread_used c v directory r s more ∷ []);
  deep = None;
  growths = (table_change c v).growths ++ (spread_comes c v directory r s more).growths;
  index = Some s;
  journal = [];
}

abbrev pub made_plan : Content → Volume → List ℕ → ℕ → Record → ℕ → Outcome → Plan
made_plan c v name directory r height (Flat s more) = made_spread c v name directory r s more
made_plan c v name directory r height (Raised s more u further) = made_spread c v name directory r u further
made_plan c v name directory r height (TooDeep s more) = record { used = made_used c v name []; deep = Some height; growths = (table_change c v).growths; index = None; journal = [] }

-- The plan of a file that is made in this directory: its index, in which the name comes, may become so.
pub record IsMadePlan (c : Content) (v : Volume) (path : List (List ℕ)) (directory : Node) (p : Plan) : Type 0 where
  pub r : Record
  pub file : file_in v directory.number ≡ Some r
  pub value : List ℕ
  pub root : root_value r ≡ Some value
  pub t : Tree
  pub holds : HoldsIndex c (index_place v.per r) (upper_of c v) value t
  pub key : Key
  pub is_key : (ref : FileRef) → least_ref (numbers_to_take (tree_of c v)) ≡ Some ref → IsKeyOf (new_link directory (new_name path) ref) key
  pub outcome : Outcome
  pub may : MayBecome (nodes_of (node_of_block c (index_place v.per r))) (upper_of c v) (root_room (used_of r.attrs) value) key r (used_of r.attrs) t (spread_used c v directory.number r) outcome
  pub is : p ≡ made_plan c v (new_name path) directory.number r (levels t) outcome

-- ---- the plan of an operation

-- of the node that a path leads to; there is none where the walk is refused
abbrev pub AtNode : Result Node Reply → (Node → Type 0) → Type 0 → Type 0
AtNode (Ok node) there none = there node
AtNode (Err reply) there none = none

-- a file that stays has no plan
abbrev pub change_or_none : Bool → Content → Volume → Op → Node → Plan
change_or_none true c v op node = change_plan c v op node
change_or_none false c v op node = no_plan

abbrev pub IsChangePlan : Content → Volume → List (List ℕ) → Op → Plan → Type 0
IsChangePlan c v path op p = AtNode (reached (upper_of c v) (tree_of c v).nodes (tree_of c v).links path) (λ node. p ≡ change_or_none (changes_file op node) c v op node) (p ≡ no_plan)

-- The plan of an operation, without that of the change journal. What only looks has none.
abbrev pub IsOwnPlan : Content → Volume → Op → Plan → Type 0
IsOwnPlan c v (op.Create path) p = AtNode (reached_directory (upper_of c v) (tree_of c v).nodes (tree_of c v).links (parent_path path)) (λ directory. IsMadePlan c v path directory p) (p ≡ no_plan)
IsOwnPlan c v (op.Write path offset bytes) p = IsChangePlan c v path (op.Write path offset bytes) p
IsOwnPlan c v (op.Fill path offset count byte) p = IsChangePlan c v path (op.Fill path offset count byte) p
IsOwnPlan c v (op.Truncate path size) p = IsChangePlan c v path (op.Truncate path size) p
IsOwnPlan c v other p = p ≡ no_plan

-- with the journal's records, which come to end there
pub record IsPlan (c : Content) (v : Volume) (op : Op) (end : ℕ) (p : Plan) : Type 0 where
  pub own : Plan
  pub is_own : IsOwnPlan c v op own
  pub is : p ≡ with_journal c v end own
