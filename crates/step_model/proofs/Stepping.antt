-- What a step of a content keeps, what it shares with a step of the tree, and its turns.
use Rattle.std.proofs.Common.{◌≡◌, ◌≢◌, inl, inr, ℕ, ◌+◌, Bool, true, false, cond, List, [], ◌∷◌, Option, Some, None, Result, Ok, Err, refl, sym, ap, ◌∙◌, subst}
use Rattle.std.specs.Prelude.{MatchBool, nat_lt}
use Rattle.record_writer.specs.disk_model.Content.{Content}
use Rattle.plan_model.specs.file_tree.declared.node.Node.{Node}
use Rattle.plan_model.specs.file_tree.declared.node.Why.{Why}
use Rattle.plan_model.specs.file_tree.declared.node.Why.TheVariants as why
use Rattle.plan_model.specs.file_tree.declared.tree.Tree.{Tree}
use Rattle.plan_model.specs.state_model.declared.geometry.Geometry.{Geometry}
use Rattle.plan_model.specs.state_model.declared.geometry.MapRefusal.{MapRefusal}
use Rattle.plan_model.specs.volume_model.Volumes.{Volume, volume_of, upper_of}
use Rattle.plan_model.specs.volume_state.Trees.{tree_of, tree_with}
use Rattle.plan_model.specs.plan_owners.States.{Stands}
use Rattle.run_model.specs.tree_model.declared.script.Op.{Op}
use Rattle.run_model.specs.tree_model.declared.script.Op.TheVariants as op
use Rattle.run_model.specs.tree_model.declared.reply.Reply.{Reply}
use Rattle.run_model.specs.tree_model.declared.reply.Reply.TheVariants as reply
use Rattle.run_model.specs.tree_model.Walks.{reached}
use Rattle.run_model.specs.tree_model.Needs.{changes_file}
use Rattle.run_model.specs.tree_model.Refusals.{first_of}
use Rattle.run_model.specs.tree_model.Steps.{HasStep, step_refusal, IsDone, StepsBy, IsStep, is_given_up}
use Rattle.run_model.specs.Runs.{RunStart, TakesStep, IsTreeTurn, own, next_in_tree}
use Rattle.run_model.specs.declared.turn.Turn.{Turn}
use Rattle.run_model.proofs.Segments.{segment_push, segment_join}
use Rattle.step_model.specs.Used.{most_used}
use Rattle.step_model.specs.Plans.{Plan, no_plan, AtNode, change_or_none, change_plan, IsChangePlan, IsPlan, with_journal, full_row, deep_row, content_rows}
use Rattle.step_model.specs.Steps.{Answer, Done, Refused, Synced, GivenUp, Never, path_answer, stat_answer, list_answer, read_answer, create_answer, write_answer, truncate_answer, answer_of, IsRefused, IsDoneIn, StepBy, HasAnswer, Step, next_or, next_in_content, IsContentTurn}
use Rattle.step_model.specs.StepLaws.{is_content_row, AnswersListed, StepsStay, StepsOfTrees, TurnsOfContents}
use Rattle.step_model.proofs.Listing.{refused, done, tree_row}
use Rattle.step_model.proofs.Rows.{none_of_tree, row_of_content}

-- ---- contents and volumes

pub one_volume : (c : Content) (g : Geometry) (clusters : ℕ) (v w : Volume) → Stands c g clusters v → Stands c g clusters w → w ≡ v
one_volume c g clusters v w first second = same (volume_of c g clusters) second.loaded first.loaded
  where
    same : (read : Result Volume MapRefusal) → read ≡ Ok w → read ≡ Ok v → w ≡ v
    same read second first = cc

same_tree : (c d : Content) (g : Geometry) (clusters : ℕ) (v w : Volume) → d ≡ c → Stands c g clusters v → Stands d g clusters w → tree_of d w ≡ tree_of c v
same_tree c d g clusters v w stays first second =
    ap (λ e. tree_of e w) stays ∙ ap (tree_of c) (one_volume c g clusters v w first (subst (λ e. Stands e g clusters w) stays second))

-- ---- what stays

state_by : (c d : Content) (v : Volume) (g : Geometry) (clusters : ℕ) (o : Op) (stamp : ℕ) (said : Reply) (a : Answer) → Stands c g clusters v → StepBy a (IsDoneIn c v g clusters o 0 stamp said d) (IsRefused c v o 0 said) (d ≡ c) → (w : Volume) × Stands d g clusters w
state_by c d v g clusters o stamp said Done stands step = (step.new, step.stands)
state_by c d v g clusters o stamp said Refused stands step = (v, subst (λ e. Stands e g clusters v) (sym step.1) stands)
state_by c d v g clusters o stamp said Synced stands step = (v, subst (λ e. Stands e g clusters v) (sym step) stands)
state_by c d v g clusters o stamp said GivenUp stands step = (v, subst (λ e. Stands e g clusters v) (sym step) stands)
state_by c d v g clusters o stamp said Never stands step = absurd step

stays_by : (D R S : Type 0) (a : Answer) → a ≢ Done → StepBy a D R S → S
stays_by D R S Done not step = absurd (not refl)
stays_by D R S Refused not step = step.1
stays_by D R S Synced not step = step
stays_by D R S GivenUp not step = step
stays_by D R S Never not step = absurd step

never_by : (D R S : Type 0) (a : Answer) → StepBy a D R S → a ≡ Never → ⊥
never_by D R S Done step is = cc
never_by D R S Refused step is = cc
never_by D R S Synced step is = cc
never_by D R S GivenUp step is = cc
never_by D R S Never step is = step

content_stays : (g : Geometry) (clusters : ℕ) (o : Op) (stamp : ℕ) (said : Reply) (c d : Content) → Step g clusters o stamp said c d → answer_of o said ≢ Done → d ≡ c
content_stays g clusters o stamp said c d step not = stays_by _ _ (d ≡ c) (answer_of o said) not step.by

pub steps_stay : StepsStay
steps_stay = record {
  state = λ g clusters o stamp said c d step. state_by c d step.old g clusters o stamp said (answer_of o said) step.stands step.by;
  content = content_stays;
  tree = λ g clusters o stamp said c d v w step not first second. same_tree c d g clusters v w (content_stays g clusters o stamp said c d step not) first second;
  never = λ g clusters o stamp said c d step. never_by _ _ (d ≡ c) (answer_of o said) step.by;
}

-- ---- which answers are given up

-- what is given up, and what isn't
abbrev AnswersAs : (Reply → Answer) → Type 0
AnswersAs answer = (said : Reply) → ((answer said ≡ GivenUp → is_given_up said ≡ true) × (answer said ≡ Done → is_given_up said ≡ false) × (answer said ≡ Refused → is_given_up said ≡ false) × (answer said ≡ Synced → ⊥))

path_as : AnswersAs path_answer
path_as reply.Fault = (λ is. refl, λ is. absurd cc, λ is. absurd cc, λ is. cc)
path_as reply.Memory = (λ is. refl, λ is. absurd cc, λ is. absurd cc, λ is. cc)
path_as reply.BadName = (λ is. absurd cc, λ is. refl, λ is. refl, λ is. cc)
path_as other = (λ is. absurd cc, λ is. refl, λ is. refl, λ is. cc)

stat_as : AnswersAs stat_answer
stat_as reply.Fault = (λ is. refl, λ is. absurd cc, λ is. absurd cc, λ is. cc)
stat_as reply.Memory = (λ is. refl, λ is. absurd cc, λ is. absurd cc, λ is. cc)
stat_as other = (λ is. absurd cc, λ is. refl, λ is. refl, λ is. cc)

list_as : AnswersAs list_answer
list_as reply.Fault = (λ is. refl, λ is. absurd cc, λ is. absurd cc, λ is. cc)
list_as reply.Memory = (λ is. refl, λ is. absurd cc, λ is. absurd cc, λ is. cc)
list_as other = (λ is. absurd cc, λ is. refl, λ is. refl, λ is. cc)

-- a name's directory is fixed by an attribute list or a reparse point alone
create_as : AnswersAs create_answer
create_as reply.Fault = (λ is. refl, λ is. absurd cc, λ is. absurd cc, λ is. cc)
create_as reply.Memory = (λ is. refl, λ is. absurd cc, λ is. absurd cc, λ is. cc)
create_as (reply.FixedBy fixed) = by_why fixed
  where
    by_why : (fixed : Why) → (create_answer (reply.FixedBy fixed) ≡ GivenUp → false ≡ true) × (create_answer (reply.FixedBy fixed) ≡ Done → false ≡ false) × (create_answer (reply.FixedBy fixed) ≡ Refused → false ≡ false) × (create_answer (reply.FixedBy fixed) ≡ Synced → ⊥)
    by_why why.List = (λ is. absurd cc, λ is. refl, λ is. refl, λ is. cc)
    by_why other = (λ is. absurd cc, λ is. refl, λ is. refl, λ is. cc)
create_as other = (λ is. absurd cc, λ is. refl, λ is. refl, λ is. cc)

-- an attribute list, a reparse point, encryption and compression alone fix a node against reading
read_as : AnswersAs read_answer
read_as reply.Fault = (λ is. refl, λ is. absurd cc, λ is. absurd cc, λ is. cc)
read_as reply.Memory = (λ is. refl, λ is. absurd cc, λ is. absurd cc, λ is. cc)
read_as (reply.FixedBy fixed) = by_why fixed
  where
    by_why : (fixed : Why) → (read_answer (reply.FixedBy fixed) ≡ GivenUp → false ≡ true) × (read_answer (reply.FixedBy fixed) ≡ Done → false ≡ false) × (read_answer (reply.FixedBy fixed) ≡ Refused → false ≡ false) × (read_answer (reply.FixedBy fixed) ≡ Synced → ⊥)
    by_why why.List = (λ is. absurd cc, λ is. refl, λ is. refl, λ is. cc)
    by_why why.Reparse = (λ is. absurd cc, λ is. refl, λ is. refl, λ is. cc)
    by_why why.Encrypted = (λ is. absurd cc, λ is. refl, λ is. refl, λ is. cc)
    by_why why.Compressed = (λ is. absurd cc, λ is. refl, λ is. refl, λ is. cc)
    by_why other = (λ is. absurd cc, λ is. refl, λ is. refl, λ is. cc)
read_as other = (λ is. absurd cc, λ is. refl, λ is. refl, λ is. cc)

write_as : AnswersAs write_answer
write_as reply.Fault = (λ is. refl, λ is. absurd cc, λ is. absurd cc, λ is. cc)
write_as reply.Memory = (λ is. refl, λ is. absurd cc, λ is. absurd cc, λ is. cc)
write_as other = (λ is. absurd cc, λ is. refl, λ is. refl, λ is. cc)

truncate_as : AnswersAs truncate_answer
truncate_as reply.Fault = (λ is. refl, λ is. absurd cc, λ is. absurd cc, λ is. cc)
truncate_as reply.Memory = (λ is. refl, λ is. absurd cc, λ is. absurd cc, λ is. cc)
truncate_as other = (λ is. absurd cc, λ is. refl, λ is. refl, λ is. cc)

answers_as : (o : Op) (t : Tree) → HasStep o t → AnswersAs (answer_of o)
answers_as (op.Create path) t has = create_as
answers_as (op.Write path offset bytes) t has = write_as
answers_as (op.Fill path offset count byte) t has = write_as
answers_as (op.Truncate path size) t has = truncate_as
answers_as (op.Stat path) t has = stat_as
answers_as (op.List path) t has = list_as
answers_as (op.Mkdir path) t has = absurd has
answers_as (op.Read path offset count) t has = read_as
answers_as (op.Link path new) t has = absurd has
answers_as (op.Rename path new) t has = absurd has
answers_as (op.Remove path) t has = absurd has
answers_as op.Sync t has = absurd has
answers_as op.Index t has = absurd has
answers_as (op.Journal from) t has = absurd has

-- ---- the rows of a content

full_by : (b : Bool) (u : ℕ) (rest : Option Reply) (said : Reply) → (rest ≡ Some said → is_content_row said ≡ true) → cond b (Some (reply.RecordFull u)) rest ≡ Some said → is_content_row said ≡ true
full_by true u rest said later is = ap is_content_row (let e : said ≡ reply.RecordFull u = cc in e)
full_by false u rest said later is = later is

full_is : (used : List ℕ) (said : Reply) → full_row used ≡ Some said → is_content_row said ≡ true
full_is [] said is = absurd cc
full_is (u ∷ used) said is = full_by (nat_lt most_used u) u (full_row used) said (full_is used said) is

deep_is : (deep : Option ℕ) (said : Reply) → deep_row deep ≡ Some said → is_content_row said ≡ true
deep_is None said is = absurd cc
deep_is (Some height) said is = ap is_content_row (let e : said ≡ reply.IndexDeep height = cc in e)

first_is : (a b c : Option Reply) (said : Reply) → ((r : Reply) → a ≡ Some r → is_content_row r ≡ true) → ((r : Reply) → b ≡ Some r → is_content_row r ≡ true) → ((r : Reply) → c ≡ Some r → is_content_row r ≡ true) → first_of (a ∷ b ∷ c ∷ []) ≡ Some said → is_content_row said ≡ true
first_is (Some row) b c said first second third is = first said is
first_is None (Some row) c said first second third is = second said is
first_is None None (Some row) said first second third is = third said is
first_is None None None said first second third is = absurd cc

row_is : (p : Plan) (said : Reply) → first_of (content_rows p) ≡ Some said → is_content_row said ≡ true
row_is p said is = first_is (full_row p.used) (deep_row p.deep) (full_row p.journal) said (full_is p.used) (deep_is p.deep) (full_is p.journal) is

-- ---- each of them is listed

create_row : (said : Reply) → is_content_row said ≡ true → create_answer said ≡ Refused
create_row (reply.RecordFull used) row = refl
create_row (reply.IndexDeep height) row = refl
create_row other row = absurd cc

-- a full record
abbrev IsFull : Reply → Type 0
IsFull said = (used : ℕ) × (said ≡ reply.RecordFull used)

full_row_by : (b : Bool) (u : ℕ) (rest : Option Reply) (said : Reply) → (rest ≡ Some said → IsFull said) → cond b (Some (reply.RecordFull u)) rest ≡ Some said → IsFull said
full_row_by true u rest said later is = (u, (let e : said ≡ reply.RecordFull u = cc in e))
full_row_by false u rest said later is = later is

full_row_is : (used : List ℕ) (said : Reply) → full_row used ≡ Some said → IsFull said
full_row_is [] said is = absurd cc
full_row_is (u ∷ used) said is = full_row_by (nat_lt most_used u) u (full_row used) said (full_row_is used said) is

first_full : (a c : Option Reply) (deep : Option ℕ) (said : Reply) → deep ≡ None → ((r : Reply) → a ≡ Some r → IsFull r) → ((r : Reply) → c ≡ Some r → IsFull r) → first_of (a ∷ deep_row deep ∷ c ∷ []) ≡ Some said → IsFull said
first_full (Some row) c deep said none first third is = first said is
first_full None c (Some height) said none first third is = absurd cc
first_full None (Some row) None said none first third is = third said is
first_full None None None said none first third is = absurd cc

full_alone : (p : Plan) (said : Reply) → p.deep ≡ None → first_of (content_rows p) ≡ Some said → IsFull said
full_alone p said none is = first_full (full_row p.used) (full_row p.journal) p.deep said none (full_row_is p.used) (full_row_is p.journal) is

-- a file that is written or cut puts no name into an index
own_deep : (b : Bool) (c : Content) (v : Volume) (o : Op) (node : Node) → (change_or_none b c v o node).deep ≡ None
unfolding change_plan
own_deep true c v o node = refl
own_deep false c v o node = refl

change_deep_by : (walked : Result Node Reply) (c : Content) (v : Volume) (o : Op) (p : Plan) → AtNode walked (λ node. p ≡ change_or_none (changes_file o node) c v o node) (p ≡ no_plan) → p.deep ≡ None
change_deep_by (Ok node) c v o p is = ap (λ (q : Plan). q.deep) is ∙ own_deep (changes_file o node) c v o node
change_deep_by (Err row) c v o p is = ap (λ (q : Plan). q.deep) is

change_deep : (c : Content) (v : Volume) (path : List (List ℕ)) (o : Op) (p : Plan) → IsChangePlan c v path o p → p.deep ≡ None
change_deep c v path o p is = change_deep_by (reached (upper_of c v) (tree_of c v).nodes (tree_of c v).links path) c v o p is

plan_deep : (c : Content) (v : Volume) (o : Op) (end : ℕ) (p : Plan) (plan : IsPlan c v o end p) → plan.own.deep ≡ None → p.deep ≡ None
unfolding with_journal
plan_deep c v o end p plan none = ap (λ (q : Plan). q.deep) plan.is ∙ none

change_row : (answer : Reply → Answer) (said : Reply) → ((used : ℕ) → answer (reply.RecordFull used) ≡ Refused) → IsFull said → answer said ≡ Refused
change_row answer said refuses full = ap answer full.1 ∙ refuses full.0

none_some : (row : Reply) → None ≡ Some row → ⊥
none_some row is = cc

content_listed : (c : Content) (v : Volume) (o : Op) (end : ℕ) (p : Plan) (row : Reply) → HasStep o (tree_of c v) → IsPlan c v o end p → step_refusal (upper_of c v) (tree_of c v) end [] o ≡ None
    → step_refusal (upper_of c v) (tree_of c v) end (content_rows p) o ≡ Some row → answer_of o row ≡ Refused
content_listed c v (op.Create path) end p row has plan none some = create_row row (row_is p row (row_of_content (upper_of c v) (tree_of c v) end (op.Create path) (content_rows p) row none some))
content_listed c v (op.Write path offset bytes) end p row has plan none some =
    change_row write_answer row (λ used. refl) (full_alone p row (plan_deep c v (op.Write path offset bytes) end p plan (change_deep c v path (op.Write path offset bytes) plan.own plan.is_own)) (row_of_content (upper_of c v) (tree_of c v) end (op.Write path offset bytes) (content_rows p) row none some))
content_listed c v (op.Fill path offset count byte) end p row has plan none some =
    change_row write_answer row (λ used. refl) (full_alone p row (plan_deep c v (op.Fill path offset count byte) end p plan (change_deep c v path (op.Fill path offset count byte) plan.own plan.is_own)) (row_of_content (upper_of c v) (tree_of c v) end (op.Fill path offset count byte) (content_rows p) row none some))
content_listed c v (op.Truncate path size) end p row has plan none some =
    change_row truncate_answer row (λ used. refl) (full_alone p row (plan_deep c v (op.Truncate path size) end p plan (change_deep c v path (op.Truncate path size) plan.own plan.is_own)) (row_of_content (upper_of c v) (tree_of c v) end (op.Truncate path size) (content_rows p) row none some))
content_listed c v (op.Stat path) end p row has plan none some = absurd (none_some row (sym none ∙ some))
content_listed c v (op.List path) end p row has plan none some = absurd (none_some row (sym none ∙ some))
content_listed c v (op.Read path offset count) end p row has plan none some = absurd (none_some row (sym none ∙ some))
content_listed c v other end p row has plan none some = absurd has

pub answers_listed : AnswersListed
answers_listed = record { refused = refused; content = content_listed; done = done }

true_false : (b : Bool) → b ≡ true → b ≡ false → ⊥
true_false b yes_it not = cc

-- ---- the trees of a step

given_as : (A B : Type 0) (b : Bool) → b ≡ true → A → MatchBool b A B
given_as A B b is x = subst (λ b. MatchBool b A B) (sym is) x

not_given : (A B : Type 0) (b : Bool) → b ≡ false → B → MatchBool b A B
not_given A B b is x = subst (λ b. MatchBool b A B) (sym is) x

refused_tree : (c d : Content) (v w : Volume) (g : Geometry) (clusters : ℕ) (o : Op) (stamp : ℕ) (said : Reply) → IsRefused c v o 0 said → tree_of d w ≡ tree_of c v → is_content_row said ≡ false
    → StepsBy (step_refusal (upper_of c v) (tree_of c v) 0 [] o) (IsDone (upper_of c v) o 0 stamp said (tree_of c v) (tree_of d w)) said (tree_of c v) (tree_of d w)
refused_tree c d v w g clusters o stamp said (inl row) same no_row = subst (λ r. StepsBy r (IsDone (upper_of c v) o 0 stamp said (tree_of c v) (tree_of d w)) said (tree_of c v) (tree_of d w)) (sym row) (refl, same)
refused_tree c d v w g clusters o stamp said (inr found) same no_row =
    let p = found.1.0 in
    absurd (true_false (is_content_row said) (row_is p said (row_of_content (upper_of c v) (tree_of c v) 0 o (content_rows p) said found.0 found.1.2)) no_row)

step_by : (c d : Content) (v w : Volume) (g : Geometry) (clusters : ℕ) (o : Op) (stamp : ℕ) (said : Reply) (a : Answer) → answer_of o said ≡ a → Stands c g clusters v → Stands d g clusters w → HasStep o (tree_of c v) → is_content_row said ≡ false
    → StepBy a (IsDoneIn c v g clusters o 0 stamp said d) (IsRefused c v o 0 said) (d ≡ c) → IsStep (upper_of c v) o stamp said (tree_of c v) (tree_of d w)
step_by c d v w g clusters o stamp said Done is first second has no_row step =
    let t = tree_of c v in
    let none = none_of_tree (upper_of c v) t 0 o (content_rows step.plan) step.unrefused in
    let here : IsDone (upper_of c v) o 0 stamp said t (tree_of d w) = subst (λ x. IsDone (upper_of c v) o 0 stamp said t (tree_of d x)) (one_volume d g clusters w step.new second step.stands) step.tree in
    (has, not_given _ _ (is_given_up said) ((answers_as o t has said).1 is) (subst (λ r. StepsBy r (IsDone (upper_of c v) o 0 stamp said t (tree_of d w)) said t (tree_of d w)) (sym none) here))
step_by c d v w g clusters o stamp said Refused is first second has no_row step =
    (has, not_given _ _ (is_given_up said) ((answers_as o (tree_of c v) has said).2 is) (refused_tree c d v w g clusters o stamp said step.0 (same_tree c d g clusters v w step.1 first second) no_row))
step_by c d v w g clusters o stamp said Synced is first second has no_row step = absurd ((answers_as o (tree_of c v) has said).3 is)
step_by c d v w g clusters o stamp said GivenUp is first second has no_row step = (has, given_as _ _ (is_given_up said) ((answers_as o (tree_of c v) has said).0 is) (same_tree c d g clusters v w step first second))
step_by c d v w g clusters o stamp said Never is first second has no_row step = absurd step

tree_step : (g : Geometry) (clusters : ℕ) (o : Op) (stamp : ℕ) (said : Reply) (c d : Content) (v w : Volume) → Step g clusters o stamp said c d → Stands c g clusters v → Stands d g clusters w → HasStep o (tree_of c v) → is_content_row said ≡ false
    → IsStep (upper_of c v) o stamp said (tree_of c v) (tree_of d w)
tree_step g clusters o stamp said c d v w step first second =
    let e = one_volume c g clusters v step.old first step.stands in
    subst (λ x. HasStep o (tree_of c x) → is_content_row said ≡ false → IsStep (upper_of c x) o stamp said (tree_of c x) (tree_of d w)) e
    (λ has no_row. step_by c d step.old w g clusters o stamp said (answer_of o said) refl step.stands second has no_row step.by)

given_no_row : (said : Reply) → is_given_up said ≡ true → is_content_row said ≡ true → ⊥
given_no_row reply.Fault given row = cc
given_no_row reply.Memory given row = cc
given_no_row other given row = cc

-- a row of the content comes where the tree has none
rows_by : (c d : Content) (v : Volume) (g : Geometry) (clusters : ℕ) (o : Op) (stamp : ℕ) (said : Reply) (a : Answer) → answer_of o said ≡ a → is_content_row said ≡ true → HasStep o (tree_of c v)
    → StepBy a (IsDoneIn c v g clusters o 0 stamp said d) (IsRefused c v o 0 said) (d ≡ c) → step_refusal (upper_of c v) (tree_of c v) 0 [] o ≡ None
rows_by c d v g clusters o stamp said Done is row has step = none_of_tree (upper_of c v) (tree_of c v) 0 o (content_rows step.plan) step.unrefused
rows_by c d v g clusters o stamp said Refused is row has step = elim (step.0) [
  | inl of_tree ↦ absurd (true_false (is_content_row said) row (tree_row (upper_of c v) (tree_of c v) 0 o said has of_tree))
  | inr of_content ↦ of_content.0
]
rows_by c d v g clusters o stamp said Synced is row has step = absurd ((answers_as o (tree_of c v) has said).3 is)
rows_by c d v g clusters o stamp said GivenUp is row has step = absurd (given_no_row said ((answers_as o (tree_of c v) has said).0 is) row)
rows_by c d v g clusters o stamp said Never is row has step = absurd step

content_rows_last : (g : Geometry) (clusters : ℕ) (o : Op) (stamp : ℕ) (said : Reply) (c d : Content) (v : Volume) → Step g clusters o stamp said c d → Stands c g clusters v → HasStep o (tree_of c v) → is_content_row said ≡ true → step_refusal (upper_of c v) (tree_of c v) 0 [] o ≡ None
content_rows_last g clusters o stamp said c d v step first =
    subst (λ x. HasStep o (tree_of c x) → is_content_row said ≡ true → step_refusal (upper_of c x) (tree_of c x) 0 [] o ≡ None) (one_volume c g clusters v step.old first step.stands)
    (λ has row. rows_by c d step.old g clusters o stamp said (answer_of o said) refl row has step.by)

pub steps_of_trees : StepsOfTrees
steps_of_trees = record { step = tree_step; rows = content_rows_last }

-- ---- turns

takes : (g : Geometry) (clusters base : ℕ) (past : List Turn) (turn : Turn) (o : Op) (said : Reply) (c d : Content) → o ≢ op.Sync → Step g clusters o (base + turn.serial) said c d → TakesStep (Step g clusters) base past turn o said c d
takes g clusters base past turn op.Sync said c d not step = absurd (not refl)
takes g clusters base past turn other said c d not step = step

has_step : (o : Op) (c : Content) (v : Volume) → o ≢ op.Sync → HasAnswer o c v → HasStep o (tree_of c v)
has_step op.Sync c v not has = absurd (not refl)
has_step other c v not has = has

own_step : (g : Geometry) (clusters : ℕ) (o : Op) (stamp : ℕ) (said : Reply) (c d : Content) (v : Volume) → o ≢ op.Sync → Stands c g clusters v → Step g clusters o stamp said c d → HasStep o (tree_of c v)
own_step g clusters o stamp said c d v not first step = subst (λ x. HasStep o (tree_of c x)) (one_volume c g clusters v step.old first step.stands) (has_step o c step.old not step.has)

step_at : (g : Geometry) (clusters : ℕ) (upper : List ℕ) (o : Op) (stamp : ℕ) (said : Reply) (c d : Content) (v w : Volume) → o ≢ op.Sync → Stands c g clusters v → Stands d g clusters w → upper_of c v ≡ upper → is_content_row said ≡ false → Step g clusters o stamp said c d
    → IsStep upper o stamp said (tree_of c v) (tree_of d w)
step_at g clusters upper o stamp said c d v w not first second is no_row step =
    subst (λ u. IsStep u o stamp said (tree_of c v) (tree_of d w)) is (tree_step g clusters o stamp said c d v w step first second (own_step g clusters o stamp said c d v not first step) no_row)

tree_takes : (g : Geometry) (clusters base : ℕ) (upper : List ℕ) (past : List Turn) (turn : Turn) (o : Op) (said : Reply) (c d : Content) (v w : Volume) → Stands c g clusters v → Stands d g clusters w → upper_of c v ≡ upper → is_content_row said ≡ false
    → TakesStep (Step g clusters) base past turn o said c d → TakesStep (IsStep upper) base past turn o said (tree_of c v) (tree_of d w)
tree_takes g clusters base upper past turn op.Sync (reply.Synced turns) c d v w first second is no_row step = (step.0, step.1, same_tree c d g clusters v w step.2 first second)
tree_takes g clusters base upper past turn op.Sync reply.Fault c d v w first second is no_row step = same_tree c d g clusters v w step first second
tree_takes g clusters base upper past turn op.Sync other c d v w first second is no_row step = absurd step
tree_takes g clusters base upper past turn o said c d v w first second is no_row step = step_at g clusters upper o (base + turn.serial) said c d v w (λ e. cc) first second is no_row step

next_is : (g : Geometry) (clusters : ℕ) (d : Content) (w : Volume) → Stands d g clusters w → next_in_content g clusters d ≡ next_in_tree (tree_of d w)
unfolding tree_of tree_with
next_is g clusters d w stands = ap (next_or d) stands.loaded

tree_turn : (g : Geometry) (clusters : ℕ) (f : RunStart) (past : List Turn) (turn : Turn) (c d : Content) (v w : Volume) → IsContentTurn g clusters f past turn c d → Stands c g clusters v → Stands d g clusters w → upper_of c v ≡ f.upper → is_content_row turn.reply ≡ false
    → IsTreeTurn f past turn (tree_of c v) (tree_of d w)
tree_turn g clusters f past turn c d v w is first second upper no_row = record {
  serial = is.serial;
  command = is.command;
  usn = is.usn ∙ next_is g clusters d w second;
  moment = is.moment;
  since = is.since;
  later = is.later;
  fault = is.fault;
  step = tree_takes g clusters f.base f.upper past turn turn.op turn.reply c d v w first second upper no_row is.step;
}

pub turns_of_contents : TurnsOfContents
turns_of_contents = record {
  takes = takes;
  syncs = λ g clusters base past turn turns c d le lt step. (le, lt, step.by);
  trees = tree_turn;
  goes_on = λ g clusters f. segment_push (IsContentTurn g clusters f);
  join = λ g clusters f. segment_join (IsContentTurn g clusters f);
}
