-- Each answer of the tree's own definition is one that the table of answers has.
use Rattle.std.proofs.Common.{◌≡◌, ℕ, ◌+◌, Bool, true, false, cond, List, [], ◌∷◌, length, Option, Some, None, Result, Ok, Err, refl, ap, subst}
use Rattle.std.specs.Prelude.{IsOkAnd, IsSomeAnd, ⊤}
use Rattle.host_base.specs.Answers.{◌>>=◌, needs}
use Rattle.plan_model.specs.file_tree.declared.node.Node.{Node}
use Rattle.plan_model.specs.file_tree.declared.node.Kind.{Kind}
use Rattle.plan_model.specs.file_tree.declared.node.Kind.TheVariants as kind
use Rattle.plan_model.specs.file_tree.declared.node.Why.{Why}
use Rattle.plan_model.specs.file_tree.declared.node.Why.TheVariants as why
use Rattle.plan_model.specs.file_tree.declared.link.Link.{Link}
use Rattle.plan_model.specs.file_tree.declared.tree.Tree.{Tree}
use Rattle.plan_model.specs.file_tree.Trees.{node_at, is_directory, is_directory_kind}
use Rattle.plan_model.specs.file_tree.Walks.{root, child_in, has_bad_part}
use Rattle.run_model.specs.tree_model.declared.script.Op.{Op}
use Rattle.run_model.specs.tree_model.declared.script.Op.TheVariants as op
use Rattle.run_model.specs.tree_model.declared.reply.Reply.{Reply}
use Rattle.run_model.specs.tree_model.declared.reply.Reply.TheVariants as reply
use Rattle.run_model.specs.tree_model.Walks.{some_or, entered, walk, reached, reached_directory, bad_name}
use Rattle.run_model.specs.tree_model.Needs.{changes_file, needed, reserve}
use Rattle.run_model.specs.tree_model.Refusals.{first_of, from_there, parent_path, new_name, where_so, fixed_names, fixed_bytes, fixed_list, fixed_read, read_rows, too_long, no_space, create_rows, change_rows}
use Rattle.run_model.specs.tree_model.Effects.{numbers_to_take, least_ref}
use Rattle.run_model.specs.tree_model.Steps.{HasStep, step_refusals, step_refusal, refused_by, Lists, stat_of, IsDone}
use Rattle.step_model.specs.StepLaws.{is_content_row}
use Rattle.step_model.specs.Steps.{Done, Refused, answer_of, stat_answer, list_answer, read_answer, create_answer, write_answer, truncate_answer}

-- ---- rows

-- what a row says has this
abbrev RowHas : (Reply → Type 0) → Option Reply → Type 0
RowHas Has row = (said : Reply) → row ≡ Some said → Has said

abbrev AllHave : (Reply → Type 0) → List (Option Reply) → Type 0
AllHave Has [] = ⊤
AllHave Has (row ∷ rows) = RowHas Has row × AllHave Has rows

first_has : (Has : Reply → Type 0) (rows : List (Option Reply)) (said : Reply) → AllHave Has rows → first_of rows ≡ Some said → Has said
first_has Has [] said all is = absurd cc
first_has Has (None ∷ rows) said all is = first_has Has rows said all.1 is
first_has Has (Some row ∷ rows) said all is = all.0 said is

some_has : (Has : Reply → Type 0) (row : Reply) → Has row → RowHas Has (Some row)
some_has Has row has said is = subst Has (let e : row ≡ said = cc in e) has

none_has : (Has : Reply → Type 0) → RowHas Has None
none_has Has said is = absurd cc

so_has : (Has : Reply → Type 0) (b : Bool) (row : Reply) → Has row → RowHas Has (where_so b row)
so_has Has true row has = some_has Has row has
so_has Has false row has = none_has Has

if_has : (Has : Reply → Type 0) (b : Bool) (row : Reply) → Has row → RowHas Has (cond b (Some row) None)
if_has Has true row has = some_has Has row has
if_has Has false row has = none_has Has

cond_has : (Has : Reply → Type 0) (b : Bool) (rows : List (Option Reply)) → AllHave Has rows → AllHave Has (cond b rows [])
cond_has Has true rows all = all
cond_has Has false rows all = tt

-- ---- walks

-- what refuses a walk has this
abbrev EndHas : {A : Type 0} → (Reply → Type 0) → Result A Reply → Type 0
EndHas Has walked = (said : Reply) → walked ≡ Err said → Has said

err_has : {A : Type 0} (Has : Reply → Type 0) (row : Reply) → Has row → EndHas {A = A} Has (Err row)
err_has Has row has said is = subst Has (let e : row ≡ said = cc in e) has

ok_has : {A : Type 0} (Has : Reply → Type 0) (x : A) → EndHas Has (Ok x)
ok_has Has x said is = absurd cc

or_has : {A : Type 0} (Has : Reply → Type 0) (o : Option A) (row : Reply) → Has row → EndHas Has (some_or o row)
or_has Has None row has = err_has Has row has
or_has Has (Some x) row has = ok_has Has x

needs_has : (Has : Reply → Type 0) (b : Bool) (row : Reply) → Has row → EndHas Has (needs b row)
needs_has Has true row has = ok_has Has _
needs_has Has false row has = err_has Has row has

bind_has : {A B : Type 0} (Has : Reply → Type 0) (x : Result A Reply) (f : A → Result B Reply) → EndHas Has x → ((a : A) → EndHas Has (f a)) → EndHas Has (x >>= f)
bind_has Has (Ok a) f first then = then a
bind_has Has (Err row) f first then = err_has Has row (first row refl)

-- a walk is refused by a part that isn't found, or by one that isn't in a directory
abbrev WalkRows : (Reply → Type 0) → Type 0
WalkRows Has = ((part : ℕ) → Has (reply.NotFound part)) × ((part : ℕ) → Has (reply.NotDirectory part))

entered_has : (Has : Reply → Type 0) → WalkRows Has → (upper : List ℕ) (nodes : List Node) (links : List Link) (at number : ℕ) (part : List ℕ) → EndHas Has (entered upper nodes links at number part)
unfolding entered
entered_has Has rows upper nodes links at number part = bind_has Has (needs (is_directory nodes number) (reply.NotDirectory at)) (λ _. some_or (child_in upper links number part) (reply.NotFound (at + 1))) (needs_has Has (is_directory nodes number) (reply.NotDirectory at) (rows.1 at)) (λ _. or_has Has (child_in upper links number part) (reply.NotFound (at + 1)) (rows.0 (at + 1)))

walk_has : (Has : Reply → Type 0) → WalkRows Has → (upper : List ℕ) (nodes : List Node) (links : List Link) (at number : ℕ) (parts : List (List ℕ)) → EndHas Has (walk upper nodes links at number parts)
unfolding walk
walk_has Has rows upper nodes links at number [] = or_has Has (node_at nodes number) (reply.NotFound at) (rows.0 at)
walk_has Has rows upper nodes links at number (part ∷ parts) = bind_has Has (entered upper nodes links at number part) (λ child. walk upper nodes links (at + 1) child parts) (entered_has Has rows upper nodes links at number part) (λ child. walk_has Has rows upper nodes links (at + 1) child parts)

reached_has : (Has : Reply → Type 0) → WalkRows Has → (upper : List ℕ) (nodes : List Node) (links : List Link) (path : List (List ℕ)) → EndHas Has (reached upper nodes links path)
unfolding reached
reached_has Has rows upper nodes links path = walk_has Has rows upper nodes links 0 root path

directory_has : (Has : Reply → Type 0) → WalkRows Has → (upper : List ℕ) (nodes : List Node) (links : List Link) (path : List (List ℕ)) → EndHas Has (reached_directory upper nodes links path)
unfolding reached_directory
directory_has Has rows upper nodes links path =
    bind_has Has (reached upper nodes links path) (λ node. needs (is_directory_kind node.kind) (reply.NotDirectory (length path)) >>= λ _. Ok node) (reached_has Has rows upper nodes links path)
    (λ node. bind_has Has (needs (is_directory_kind node.kind) (reply.NotDirectory (length path))) (λ _. Ok node) (needs_has Has (is_directory_kind node.kind) (reply.NotDirectory (length path)) (rows.1 (length path))) (λ _. ok_has Has node))

refused_has : {A : Type 0} (Has : Reply → Type 0) (walked : Result A Reply) → EndHas Has walked → RowHas Has (refused_by walked)
refused_has Has (Ok x) ends = none_has Has
refused_has Has (Err row) ends = some_has Has row (ends row refl)

there_has : (Has : Reply → Type 0) (walked : Result Node Reply) (rows : Node → List (Option Reply)) → EndHas Has walked → ((node : Node) → AllHave Has (rows node)) → AllHave Has (from_there walked rows)
there_has Has (Ok node) rows ends all = all node
there_has Has (Err row) rows ends all = (some_has Has row (ends row refl), tt)

-- ---- refused

names_has : (Has : Reply → Type 0) (fixed : Option Why) → Has (reply.FixedBy why.List) → Has (reply.FixedBy why.Reparse) → RowHas Has (fixed_names fixed)
names_has Has None list reparse = none_has Has
names_has Has (Some why.List) list reparse = some_has Has (reply.FixedBy why.List) list
names_has Has (Some why.Reparse) list reparse = some_has Has (reply.FixedBy why.Reparse) reparse
names_has Has (Some other) list reparse = none_has Has

bytes_has : (Has : Reply → Type 0) (why : Option Why) → ((w : Why) → Has (reply.FixedBy w)) → RowHas Has (fixed_bytes why)
bytes_has Has None fixed = none_has Has
bytes_has Has (Some w) fixed = some_has Has (reply.FixedBy w) (fixed w)

-- what the answers of a change are
abbrev ChangeRows : (Reply → Type 0) → Type 0
ChangeRows Has = Has reply.BadName × WalkRows Has × Has reply.IsDirectory × Has reply.System × ((w : Why) → Has (reply.FixedBy w)) × ((end : ℕ) → Has (reply.TooLong end)) × ((room needed : ℕ) → Has (reply.NoSpace room needed))

change_has : (Has : Reply → Type 0) → ChangeRows Has → (t : Tree) (end : ℕ) (o : Op) (node : Node) → AllHave Has (change_rows t end [] o node)
change_has Has rows t end o node =
    (so_has Has _ reply.IsDirectory rows.2, (so_has Has _ reply.System rows.3, (bytes_has Has node.why rows.4, cond_has Has (changes_file o node) (too_long o node ∷ no_space t (needed t end o node + reserve o node) ∷ []) (so_has Has _ _ (rows.5 _), (so_has Has _ _ (rows.6 _ _), tt)))))

change_rows_have : (Has : Reply → Type 0) → ChangeRows Has → (upper : List ℕ) (t : Tree) (end : ℕ) (path : List (List ℕ)) (o : Op) → AllHave Has (bad_name path ∷ from_there (reached upper t.nodes t.links path) (change_rows t end [] o))
change_rows_have Has rows upper t end path o = (if_has Has (has_bad_part path) reply.BadName rows.0, there_has Has (reached upper t.nodes t.links path) (change_rows t end [] o) (reached_has Has rows.1 upper t.nodes t.links path) (change_has Has rows t end o))

-- what the answers of a look are, and those of a file that is made
abbrev LookRows : (Reply → Type 0) → Type 0
LookRows Has = Has reply.BadName × WalkRows Has

abbrev MadeRows : (Reply → Type 0) → Type 0
MadeRows Has = Has reply.BadName × WalkRows Has × Has reply.System × Has (reply.FixedBy why.List) × Has (reply.FixedBy why.Reparse) × Has reply.Exists × ((records : ℕ) → Has (reply.MftFull records)) × ((room needed : ℕ) → Has (reply.NoSpace room needed))

stat_has : (Has : Reply → Type 0) → LookRows Has → (upper : List ℕ) (t : Tree) (end : ℕ) (path : List (List ℕ)) → AllHave Has (step_refusals upper t end [] (op.Stat path))
stat_has Has rows upper t end path = (if_has Has (has_bad_part path) reply.BadName rows.0, (refused_has Has (reached upper t.nodes t.links path) (reached_has Has rows.1 upper t.nodes t.links path), tt))

list_has : (Has : Reply → Type 0) → LookRows Has → (upper : List ℕ) (t : Tree) (end : ℕ) (path : List (List ℕ)) → AllHave Has (step_refusals upper t end [] (op.List path))
list_has Has rows upper t end path = (if_has Has (has_bad_part path) reply.BadName rows.0, (refused_has Has (reached_directory upper t.nodes t.links path) (directory_has Has rows.1 upper t.nodes t.links path), tt))

-- what the answers of a read are
abbrev ReadRows : (Reply → Type 0) → Type 0
ReadRows Has = Has reply.BadName × WalkRows Has × Has reply.IsDirectory × Has reply.System × Has (reply.FixedBy why.List) × Has (reply.FixedBy why.Reparse) × Has (reply.FixedBy why.Encrypted) × Has (reply.FixedBy why.Compressed)

opaque_has : (Has : Reply → Type 0) → Has (reply.FixedBy why.List) → (k : Kind) → RowHas Has (fixed_list k)
opaque_has Has list kind.Opaque = some_has Has (reply.FixedBy why.List) list
opaque_has Has list other = none_has Has

fixed_has : (Has : Reply → Type 0) → ReadRows Has → (fixed : Option Why) (k : Kind) → RowHas Has (fixed_read fixed k)
fixed_has Has rows None k = none_has Has
fixed_has Has rows (Some why.List) k = opaque_has Has rows.4 k
fixed_has Has rows (Some why.Reparse) k = some_has Has (reply.FixedBy why.Reparse) rows.5
fixed_has Has rows (Some why.Encrypted) k = some_has Has (reply.FixedBy why.Encrypted) rows.6
fixed_has Has rows (Some why.Compressed) k = some_has Has (reply.FixedBy why.Compressed) rows.7
fixed_has Has rows (Some other) k = none_has Has

read_has : (Has : Reply → Type 0) → ReadRows Has → (upper : List ℕ) (t : Tree) (end : ℕ) (path : List (List ℕ)) (offset count : ℕ) → AllHave Has (step_refusals upper t end [] (op.Read path offset count))
read_has Has rows upper t end path offset count = (
  if_has Has (has_bad_part path) reply.BadName rows.0,
  there_has Has (reached upper t.nodes t.links path) (read_rows t.nodes t.links) (reached_has Has rows.1 upper t.nodes t.links path)
      (λ node. (so_has Has _ reply.IsDirectory rows.2, (so_has Has _ reply.System rows.3, (fixed_has Has rows node.why node.kind, tt)))),
)

made_has : (Has : Reply → Type 0) → MadeRows Has → (upper : List ℕ) (t : Tree) (end : ℕ) (path : List (List ℕ)) → AllHave Has (step_refusals upper t end [] (op.Create path))
made_has Has rows upper t end path = (
  so_has Has _ reply.BadName rows.0,
  there_has Has (reached_directory upper t.nodes t.links (parent_path path)) (create_rows upper t end [] (op.Create path) (new_name path)) (directory_has Has rows.1 upper t.nodes t.links (parent_path path))
      (λ directory. (so_has Has _ reply.System rows.2, (names_has Has directory.why rows.3 rows.4, (so_has Has _ reply.Exists rows.5, (so_has Has _ _ (rows.6 _), (so_has Has _ _ (rows.7 _ _), tt)))))),
)

-- what the rows of the tree have, by those that each operation may have
abbrev RowsHave : (Reply → Type 0) → Op → Type 0
RowsHave Has (op.Create path) = MadeRows Has
RowsHave Has (op.Stat path) = LookRows Has
RowsHave Has (op.List path) = LookRows Has
RowsHave Has (op.Read path offset count) = ReadRows Has
RowsHave Has other = ChangeRows Has

all_have : (Has : Reply → Type 0) (upper : List ℕ) (t : Tree) (end : ℕ) (o : Op) → HasStep o t → RowsHave Has o → AllHave Has (step_refusals upper t end [] o)
all_have Has upper t end (op.Create path) has rows = made_has Has rows upper t end path
all_have Has upper t end (op.Write path offset bytes) has rows = change_rows_have Has rows upper t end path (op.Write path offset bytes)
all_have Has upper t end (op.Fill path offset count byte) has rows = change_rows_have Has rows upper t end path (op.Fill path offset count byte)
all_have Has upper t end (op.Truncate path size) has rows = change_rows_have Has rows upper t end path (op.Truncate path size)
all_have Has upper t end (op.Stat path) has rows = stat_has Has rows upper t end path
all_have Has upper t end (op.List path) has rows = list_has Has rows upper t end path
all_have Has upper t end (op.Mkdir path) has rows = absurd has
all_have Has upper t end (op.Read path offset count) has rows = read_has Has rows upper t end path offset count
all_have Has upper t end (op.Link path new) has rows = absurd has
all_have Has upper t end (op.Rename path new) has rows = absurd has
all_have Has upper t end (op.Remove path) has rows = absurd has
all_have Has upper t end op.Sync has rows = absurd has
all_have Has upper t end op.Index has rows = absurd has
all_have Has upper t end (op.Journal from) has rows = absurd has

abbrev Refuses : Op → Reply → Type 0
Refuses o row = answer_of o row ≡ Refused

refuse : (o : Op) (t : Tree) → HasStep o t → RowsHave (Refuses o) o
refuse (op.Create path) t has = (refl, (λ part. refl, λ part. refl), refl, refl, refl, refl, λ records. refl, λ room needed. refl)
refuse (op.Write path offset bytes) t has = (refl, (λ part. refl, λ part. refl), refl, refl, λ w. refl, λ end. refl, λ room needed. refl)
refuse (op.Fill path offset count byte) t has = (refl, (λ part. refl, λ part. refl), refl, refl, λ w. refl, λ end. refl, λ room needed. refl)
refuse (op.Truncate path size) t has = (refl, (λ part. refl, λ part. refl), refl, refl, λ w. refl, λ end. refl, λ room needed. refl)
refuse (op.Stat path) t has = (refl, (λ part. refl, λ part. refl))
refuse (op.List path) t has = (refl, (λ part. refl, λ part. refl))
refuse (op.Read path offset count) t has = (refl, (λ part. refl, λ part. refl), refl, refl, refl, refl, refl, refl)
refuse other t has = absurd has

pub refused : (upper : List ℕ) (t : Tree) (end : ℕ) (o : Op) (row : Reply) → HasStep o t → step_refusal upper t end [] o ≡ Some row → answer_of o row ≡ Refused
refused upper t end o row has is = first_has (Refuses o) (step_refusals upper t end [] o) row (all_have (Refuses o) upper t end o has (refuse o t has)) is

-- no row of the tree is one that only a content shows
abbrev OfTree : Reply → Type 0
OfTree row = is_content_row row ≡ false

of_tree : (o : Op) (t : Tree) → HasStep o t → RowsHave OfTree o
of_tree (op.Create path) t has = (refl, (λ part. refl, λ part. refl), refl, refl, refl, refl, λ records. refl, λ room needed. refl)
of_tree (op.Write path offset bytes) t has = (refl, (λ part. refl, λ part. refl), refl, refl, λ w. refl, λ end. refl, λ room needed. refl)
of_tree (op.Fill path offset count byte) t has = (refl, (λ part. refl, λ part. refl), refl, refl, λ w. refl, λ end. refl, λ room needed. refl)
of_tree (op.Truncate path size) t has = (refl, (λ part. refl, λ part. refl), refl, refl, λ w. refl, λ end. refl, λ room needed. refl)
of_tree (op.Stat path) t has = (refl, (λ part. refl, λ part. refl))
of_tree (op.List path) t has = (refl, (λ part. refl, λ part. refl))
of_tree (op.Read path offset count) t has = (refl, (λ part. refl, λ part. refl), refl, refl, refl, refl, refl, refl)
of_tree other t has = absurd has

pub tree_row : (upper : List ℕ) (t : Tree) (end : ℕ) (o : Op) (row : Reply) → HasStep o t → step_refusal upper t end [] o ≡ Some row → is_content_row row ≡ false
tree_row upper t end o row has is = first_has OfTree (step_refusals upper t end [] o) row (all_have OfTree upper t end o has (of_tree o t has)) is

-- ---- done

ok_and : {A E : Type 0} {P : A → Type 0} (r : Result A E) → IsOkAnd r P → (x : A) × P x
ok_and (Ok x) has = (x, has)
ok_and (Err e) has = absurd has

some_and : {A : Type 0} {P : A → Type 0} (o : Option A) → IsSomeAnd o P → (x : A) × P x
some_and None has = absurd has
some_and (Some x) has = (x, has)

names_listed : (upper : List ℕ) (links : List Link) (n : ℕ) (said : Reply) → Lists upper links n said → list_answer said ≡ Done
names_listed upper links n (reply.Names names) lists = refl
names_listed upper links n other lists = absurd lists

pub done : (upper : List ℕ) (o : Op) (end stamp : ℕ) (said : Reply) (t u : Tree) → HasStep o t → IsDone upper o end stamp said t u → answer_of o said ≡ Done
unfolding stat_of
done upper (op.Create path) end stamp said t u has is =
    let directory = ok_and (reached_directory upper t.nodes t.links (parent_path path)) is in
    let ref = some_and (least_ref (numbers_to_take t)) directory.1 in
    ap create_answer ref.1.0
done upper (op.Write path offset bytes) end stamp said t u has is = ap write_answer (ok_and (reached upper t.nodes t.links path) is).1.0
done upper (op.Fill path offset count byte) end stamp said t u has is = ap write_answer (ok_and (reached upper t.nodes t.links path) is).1.0
done upper (op.Truncate path size) end stamp said t u has is = ap truncate_answer (ok_and (reached upper t.nodes t.links path) is).1.0
done upper (op.Stat path) end stamp said t u has is = ap stat_answer (ok_and (reached upper t.nodes t.links path) is.0).1
done upper (op.List path) end stamp said t u has is = (let directory = ok_and (reached_directory upper t.nodes t.links path) is.0 in names_listed upper t.links directory.0.number said directory.1)
done upper (op.Mkdir path) end stamp said t u has is = absurd has
done upper (op.Read path offset count) end stamp said t u has is = ap read_answer (ok_and (reached upper t.nodes t.links path) is.0).1
done upper (op.Link path new) end stamp said t u has is = absurd has
done upper (op.Rename path new) end stamp said t u has is = absurd has
done upper (op.Remove path) end stamp said t u has is = absurd has
done upper op.Sync end stamp said t u has is = absurd has
done upper op.Index end stamp said t u has is = absurd has
done upper (op.Journal from) end stamp said t u has is = absurd has
