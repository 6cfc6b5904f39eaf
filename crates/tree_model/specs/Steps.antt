-- One step of the file tree: what an operation answers, and what it leaves.
use Rattle.std.specs.Prelude.{◌≡◌, ℕ, Bool, true, false, List, [], ◌∷◌, Option, Some, None, Result, Ok, Err, IsOkAnd, IsSomeAnd, MatchBool, All, length, ◌^◌, ◌<◌, ◌≤◌, ⊤}
use Rattle.file_tree.specs.host_base.Answers.{Cause, refused, no_memory, never}
use Rattle.file_tree.specs.declared.node.Node.{Node}
use Rattle.file_tree.specs.declared.link.Link.{Link}
use Rattle.file_tree.specs.declared.tree.Tree.{Tree}
use Rattle.tree_model.specs.declared.script.Op.{Op}
use Rattle.tree_model.specs.declared.script.Op.TheVariants as op
use Rattle.tree_model.specs.declared.script.What.{What}
use Rattle.tree_model.specs.declared.script.What.TheVariants.{Op as Operation, Find}
use Rattle.tree_model.specs.declared.script.Command.{Command}
use Rattle.tree_model.specs.declared.reply.Reply.{Reply}
use Rattle.tree_model.specs.declared.reply.Reply.TheVariants.{Created, Wrote, Size, Bytes, Stat, Names, Fault, Memory}
use Rattle.file_tree.specs.Trees.{long_names_of, IsListing}
use Rattle.tree_model.specs.Walks.{reached, reached_directory, bad_name}
use Rattle.tree_model.specs.Needs.{changes_file, needed}
use Rattle.tree_model.specs.Refusals.{first_of, from_there, read_rows, file_refusals, parent_path, new_name}
use Rattle.tree_model.specs.Fronts.{bytes_read}
use Rattle.tree_model.specs.Effects.{numbers_to_take, least_ref, HasCreated, HasChanged}

-- ---- operations that only look

-- an operation that changes nothing, and is answered by looking at nodes, names and bytes
abbrev pub is_look : Op → Bool
is_look (op.Stat path) = true
is_look (op.List path) = true
is_look (op.Read path offset count) = true
is_look other = false

-- what a command asks for is a find, or such an operation
abbrev pub OnlyLooks : What → Type 0
OnlyLooks (Operation op) = is_look op ≡ true
OnlyLooks (Find name) = ⊤

-- so do all commands
abbrev pub AllLook : List Command → Type 0
AllLook commands = All (λ (c : Command). OnlyLooks c.what) commands

-- ---- refused

abbrev pub refused_by : {A : Type 0} → Result A Reply → Option Reply
refused_by (Ok x) = None
refused_by (Err reply) = Some reply

-- what may refuse an operation that only looks, in the order in which it is tried
abbrev pub refusals : List ℕ → List Node → List Link → Op → List (Option Reply)
refusals upper nodes links (op.Stat path) = bad_name path ∷ refused_by (reached upper nodes links path) ∷ []
refusals upper nodes links (op.List path) = bad_name path ∷ refused_by (reached_directory upper nodes links path) ∷ []
refusals upper nodes links (op.Read path offset count) = bad_name path ∷ from_there (reached upper nodes links path) (read_rows nodes links)
refusals upper nodes links other = []

unfoldable pub refusal : List ℕ → List Node → List Link → Op → Option Reply
refusal upper nodes links op = first_of (refusals upper nodes links op)

-- ---- done

unfoldable pub stat_of : List Link → Node → Reply
stat_of links node = Stat node.number node.seq node.kind (long_names_of links node.number) node.size node.clusters node.created node.modified node.changed node.read_at

abbrev pub Lists : List ℕ → List Link → ℕ → Reply → Type 0
Lists upper links directory (Names names) = IsListing upper links directory names
Lists upper links directory other = ⊥

-- the reply of an operation that nothing refuses
abbrev pub Done : List ℕ → List Node → List Link → Op → Reply → Type 0
Done upper nodes links (op.Stat path) reply = IsOkAnd (reached upper nodes links path) (λ node. reply ≡ stat_of links node)
Done upper nodes links (op.List path) reply = IsOkAnd (reached_directory upper nodes links path) (λ node. Lists upper links node.number reply)
Done upper nodes links (op.Read path offset count) reply = IsOkAnd (reached upper nodes links path) (λ node. reply ≡ Bytes (bytes_read node offset count))
Done upper nodes links other reply = ⊥

abbrev pub RepliesBy : Option Reply → Type 0 → Reply → Type 0
RepliesBy (Some row) done reply = reply ≡ row
RepliesBy None done reply = done

-- the first refusal that applies, else what is done
abbrev pub Replies : List ℕ → List Node → List Link → Op → Reply → Type 0
Replies upper nodes links op reply = RepliesBy (refusal upper nodes links op) (Done upper nodes links op reply) reply

-- ---- the step

-- Numbers are below 2^62, a write and a fill have at most 65,536 bytes, and a read at most 4,096.
abbrev pub IsWithinBounds : Op → Type 0
IsWithinBounds (op.Write path offset bytes) = (offset < 2 ^ 62) × (length bytes ≤ 65536)
IsWithinBounds (op.Fill path offset count byte) = (offset < 2 ^ 62) × (count ≤ 65536)
IsWithinBounds (op.Truncate path size) = size < 2 ^ 62
IsWithinBounds (op.Read path offset count) = (offset < 2 ^ 62) × (count ≤ 4096)
IsWithinBounds (op.Journal from) = from < 2 ^ 62
IsWithinBounds other = ⊤

-- The operations that have a step on a tree: those that look and, where it has no journal, those that make, write and cut a file. `sync` is
-- answered of a run.
abbrev pub HasStep : Op → Tree → Type 0
HasStep (op.Stat path) t = ⊤
HasStep (op.List path) t = ⊤
HasStep (op.Read path offset count) t = ⊤
HasStep (op.Create path) t = t.journal ≡ None
HasStep (op.Write path offset bytes) t = t.journal ≡ None
HasStep (op.Fill path offset count byte) t = t.journal ≡ None
HasStep (op.Truncate path size) t = t.journal ≡ None
HasStep other t = ⊥

-- What may refuse an operation, in the order of the rows' numbers. A journal comes to end there; the last rows are those of the content.
abbrev pub step_refusals : List ℕ → Tree → ℕ → List (Option Reply) → Op → List (Option Reply)
step_refusals upper t end content (op.Stat path) = refusals upper t.nodes t.links (op.Stat path)
step_refusals upper t end content (op.List path) = refusals upper t.nodes t.links (op.List path)
step_refusals upper t end content (op.Read path offset count) = refusals upper t.nodes t.links (op.Read path offset count)
step_refusals upper t end content other = file_refusals upper t end content other

abbrev pub step_refusal : List ℕ → Tree → ℕ → List (Option Reply) → Op → Option Reply
step_refusal upper t end content op = first_of (step_refusals upper t end content op)

-- a file is written or cut, or stays as it is
abbrev pub LeavesFile : Bool → Tree → ℕ → Op → Node → ℕ → Tree → Type 0
LeavesFile true t end op node stamp t' = HasChanged t (needed t end op node) op node stamp t'
LeavesFile false t end op node stamp t' = t' ≡ t

-- a change of the file that a path names: this reply, and this tree
abbrev pub IsChanged : List ℕ → List (List ℕ) → Op → ℕ → ℕ → Reply → Reply → Tree → Tree → Type 0
IsChanged upper path op end stamp said reply t t' = IsOkAnd (reached upper t.nodes t.links path) (λ node. (reply ≡ said) × LeavesFile (changes_file op node) t end op node stamp t')

-- a new file in the directory that a path names: its number and sequence, and this tree
abbrev pub IsCreated : List ℕ → List (List ℕ) → ℕ → ℕ → Reply → Tree → Tree → Type 0
IsCreated upper path end stamp reply t t' =
    IsOkAnd (reached_directory upper t.nodes t.links (parent_path path)) (λ directory. IsSomeAnd (least_ref (numbers_to_take t)) (λ ref.
    (reply ≡ Created ref.number ref.seq) × HasCreated t (needed t end (op.Create path) directory) stamp directory (new_name path) ref t'))

-- an operation that nothing refuses, done at this time: its reply, and what it leaves
abbrev pub IsDone : List ℕ → Op → ℕ → ℕ → Reply → Tree → Tree → Type 0
IsDone upper (op.Create path) end stamp reply t t' = IsCreated upper path end stamp reply t t'
IsDone upper (op.Write path offset bytes) end stamp reply t t' = IsChanged upper path (op.Write path offset bytes) end stamp (Wrote (length bytes)) reply t t'
IsDone upper (op.Fill path offset count byte) end stamp reply t t' = IsChanged upper path (op.Fill path offset count byte) end stamp (Wrote count) reply t t'
IsDone upper (op.Truncate path size) end stamp reply t t' = IsChanged upper path (op.Truncate path size) end stamp (Size size) reply t t'
IsDone upper other end stamp reply t t' = Done upper t.nodes t.links other reply × (t' ≡ t)

-- the operation was given up, by a failed device or for want of memory
abbrev pub is_given_up : Reply → Bool
is_given_up Fault = true
is_given_up Memory = true
is_given_up other = false

-- what is refused leaves the tree
abbrev pub StepsBy : Option Reply → Type 0 → Reply → Tree → Tree → Type 0
StepsBy (Some row) done reply t t' = (reply ≡ row) × (t' ≡ t)
StepsBy None done reply t t' = done

-- A step of a tree with this table of upper-case units, this operation, time and reply, apart from what only a content tells, full
-- records and deep indexes: what is given up or refused leaves the tree. Of all other operations no reply is a step.
abbrev pub IsStep : List ℕ → Op → ℕ → Reply → Tree → Tree → Type 0
IsStep upper op stamp reply t t' = HasStep op t × MatchBool (is_given_up reply) (t' ≡ t) (StepsBy (step_refusal upper t 0 [] op) (IsDone upper op 0 stamp reply t t') reply t t')

-- ---- causes

-- want of memory is a reply too; every other reply that ends a walk is a refusal
abbrev pub reply_cause : Reply → Cause Reply
reply_cause Fault = never
reply_cause Memory = no_memory
reply_cause other = refused other
