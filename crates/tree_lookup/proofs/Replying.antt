-- What a walk by questions is replied.
use Rattle.std.proofs.Common.{◌≡◌, ℕ, true, false, List, [], ◌∷◌, Option, None, Result, Ok, Err, refl, sym, ap, subst, ◌∙◌}
use Rattle.std.specs.Prelude.{IsOkAnd, IfSome}
use Rattle.host_base.proofs.Known.{one, both, always}
use Rattle.file_tree.specs.declared.node.Node.{Node}
use Rattle.file_tree.specs.declared.link.Link.{Link}
use Rattle.file_tree.specs.declared.tree.Tree.{Tree}
use Rattle.file_tree.specs.Walks.{has_bad_part}
use Rattle.tree_model.specs.declared.script.Op.{Op}
use Rattle.tree_model.specs.declared.script.Op.TheVariants as op
use Rattle.tree_model.specs.declared.reply.Reply.{Reply}
use Rattle.tree_model.specs.declared.reply.Reply.TheVariants.{BadName, Bytes}
use Rattle.tree_model.specs.Refusals.{first_of, from_there, read_rows, is_system_node}
use Rattle.tree_model.specs.Fronts.{front_of, count_read, bytes_read}
use Rattle.tree_model.specs.Walks.{reached, reached_directory}
use Rattle.tree_model.specs.Steps.{is_look, is_given_up, refused_by, refusal, stat_of, Lists, Replies, RepliesBy, IsStep}
use Rattle.tree_model.proofs.Looks.{look_is_step}
use Rattle.tree_model.proofs.Joining.{no_fault}
use Rattle.tree_lookup.specs.declared.fault.LookupFault.{LookupFault}
use Rattle.file_tree.specs.Trees.{without_bytes}
use Rattle.tree_lookup.specs.Asked.{bytes_at, AnswersOrFails}
use Rattle.tree_lookup.specs.Answered.{bare_result, IsRead}
use Rattle.tree_lookup.proofs.Ways.{own_bytes}

-- ---- a part that is no name

pub bad_stat : (upper : List ℕ) (path : List (List ℕ)) → has_bad_part path ≡ true → (t : Tree) → Replies upper t.nodes t.links (op.Stat path) BadName
unfolding refusal
bad_stat upper path is t = rw is refl

pub bad_list : (upper : List ℕ) (path : List (List ℕ)) → has_bad_part path ≡ true → (t : Tree) → Replies upper t.nodes t.links (op.List path) BadName
unfolding refusal
bad_list upper path is t = rw is refl

pub bad_read : (upper : List ℕ) (path : List (List ℕ)) (offset count : ℕ) → has_bad_part path ≡ true → (t : Tree) → Replies upper t.nodes t.links (op.Read path offset count) BadName
unfolding refusal
bad_read upper path offset count is t = rw is refl

-- ---- a walk that ends early

refused_so : (found : Result Node Reply) (done : Type 0) (reply : Reply) → ◌≡◌ {A = Result (Result Node Reply) (Unit {0})} (Ok (bare_result found)) (Ok (Err reply)) → RepliesBy (first_of (None ∷ refused_by found ∷ [])) done reply
refused_so (Ok n) done reply is = absurd cc
refused_so (Err r) done reply is = let same : r ≡ reply = cc in sym same

pub refused_stat : (upper : List ℕ) (path : List (List ℕ)) (reply : Reply) → has_bad_part path ≡ false → (t : Tree)
    → ◌≡◌ {A = Result (Result Node Reply) (Unit {0})} (Ok (bare_result (reached upper t.nodes t.links path))) (Ok (Err reply)) → Replies upper t.nodes t.links (op.Stat path) reply
unfolding refusal
refused_stat upper path reply names t is = rw names (refused_so (reached upper t.nodes t.links path) _ reply is)

pub refused_list : (upper : List ℕ) (path : List (List ℕ)) (reply : Reply) → has_bad_part path ≡ false → (t : Tree)
    → ◌≡◌ {A = Result (Result Node Reply) (Unit {0})} (Ok (bare_result (reached_directory upper t.nodes t.links path))) (Ok (Err reply)) → Replies upper t.nodes t.links (op.List path) reply
unfolding refusal
refused_list upper path reply names t is = rw names (refused_so (reached_directory upper t.nodes t.links path) _ reply is)

not_read : (found : Result Node Reply) (rows : Node → List (Option Reply)) (done : Type 0) (reply : Reply) → ◌≡◌ {A = Result (Result Node Reply) (Unit {0})} (Ok (bare_result found)) (Ok (Err reply)) → RepliesBy (first_of (None ∷ from_there found rows)) done reply
not_read (Ok n) rows done reply is = absurd cc
not_read (Err r) rows done reply is = let same : r ≡ reply = cc in sym same

pub refused_read : (upper : List ℕ) (path : List (List ℕ)) (offset count : ℕ) (reply : Reply) → has_bad_part path ≡ false → (t : Tree)
    → ◌≡◌ {A = Result (Result Node Reply) (Unit {0})} (Ok (bare_result (reached upper t.nodes t.links path))) (Ok (Err reply)) → Replies upper t.nodes t.links (op.Read path offset count) reply
unfolding refusal
refused_read upper path offset count reply names t is = rw names (not_read (reached upper t.nodes t.links path) (read_rows t.nodes t.links) _ reply is)

-- ---- a walk that leads to a node

bare_stat : (links : List Link) (n : Node) → stat_of links (without_bytes n) ≡ stat_of links n
unfolding stat_of
bare_stat links n = refl

stat_by : (found : Result Node Reply) (links : List Link) (node : Node) (reply : Reply) → ◌≡◌ {A = Result (Result Node Reply) (Unit {0})} (Ok (bare_result found)) (Ok (Ok node)) → reply ≡ stat_of links node
    → RepliesBy (first_of (None ∷ refused_by found ∷ [])) (IsOkAnd found (λ n. reply ≡ stat_of links n)) reply
stat_by (Ok n) links node reply is said = let same : without_bytes n ≡ node = cc in said ∙ ap (stat_of links) (sym same) ∙ bare_stat links n
stat_by (Err r) links node reply is said = absurd cc

pub told_stat : (upper : List ℕ) (path : List (List ℕ)) (node : Node) (reply : Reply) → has_bad_part path ≡ false → (t : Tree)
    → ◌≡◌ {A = Result (Result Node Reply) (Unit {0})} (Ok (bare_result (reached upper t.nodes t.links path))) (Ok (Ok node)) → reply ≡ stat_of t.links node → Replies upper t.nodes t.links (op.Stat path) reply
unfolding refusal
told_stat upper path node reply names t is said = rw names (stat_by (reached upper t.nodes t.links path) t.links node reply is said)

list_by : (found : Result Node Reply) (upper : List ℕ) (links : List Link) (node : Node) (reply : Reply) → ◌≡◌ {A = Result (Result Node Reply) (Unit {0})} (Ok (bare_result found)) (Ok (Ok node)) → Lists upper links node.number reply
    → RepliesBy (first_of (None ∷ refused_by found ∷ [])) (IsOkAnd found (λ n. Lists upper links n.number reply)) reply
list_by (Ok n) upper links node reply is said = let same : without_bytes n ≡ node = cc in subst (λ (x : Node). Lists upper links x.number reply) (sym same) said
list_by (Err r) upper links node reply is said = absurd cc

pub told_list : (upper : List ℕ) (path : List (List ℕ)) (node : Node) (reply : Reply) → has_bad_part path ≡ false → (t : Tree)
    → ◌≡◌ {A = Result (Result Node Reply) (Unit {0})} (Ok (bare_result (reached_directory upper t.nodes t.links path))) (Ok (Ok node)) → Lists upper t.links node.number reply → Replies upper t.nodes t.links (op.List path) reply
unfolding refusal
told_list upper path node reply names t is said = rw names (list_by (reached_directory upper t.nodes t.links path) upper t.links node reply is said)

read_by : (found : Result Node Reply) (nodes : List Node) (links : List Link) (offset count : ℕ) (node : Node) (reply : Reply) → ((n : Node) → found ≡ Ok n → bytes_at nodes n.number ≡ n.bytes)
    → ◌≡◌ {A = Result (Result Node Reply) (Unit {0})} (Ok (bare_result found)) (Ok (Ok node)) → RepliesBy (first_of (read_rows nodes links node)) (IsRead nodes node offset count reply) reply
    → RepliesBy (first_of (None ∷ from_there found (read_rows nodes links))) (IsOkAnd found (λ n. reply ≡ Bytes (bytes_read n offset count))) reply
unfolding is_system_node
read_by (Ok n) nodes links offset count node reply whole is said =
    let same : without_bytes n ≡ node = cc in
    let there : RepliesBy (first_of (read_rows nodes links n)) (IsRead nodes n offset count reply) reply = subst (λ (x : Node). RepliesBy (first_of (read_rows nodes links x)) (IsRead nodes x offset count reply) reply) (sym same) said in
    subst (λ (b : List ℕ). RepliesBy (first_of (read_rows nodes links n)) (reply ≡ Bytes (front_of b offset (count_read n.size offset count))) reply) (whole n refl) there
read_by (Err r) nodes links offset count node reply whole is said = absurd cc

pub told_read : (upper : List ℕ) (path : List (List ℕ)) (offset count : ℕ) (node : Node) (reply : Reply) → has_bad_part path ≡ false → (t : Tree)
    → ◌≡◌ {A = Result (Result Node Reply) (Unit {0})} (Ok (bare_result (reached upper t.nodes t.links path))) (Ok (Ok node))
    → RepliesBy (first_of (read_rows t.nodes t.links node)) (IsRead t.nodes node offset count reply) reply → Replies upper t.nodes t.links (op.Read path offset count) reply
unfolding refusal
told_read upper path offset count node reply names t is said = rw names (read_by (reached upper t.nodes t.links path) t.nodes t.links offset count node reply (own_bytes upper path t) is said)

-- ---- where the tree is known

pub bad_stat_known : (known : Option Tree) (upper : List ℕ) (path : List (List ℕ)) → has_bad_part path ≡ true → IfSome known (λ t. Replies upper t.nodes t.links (op.Stat path) BadName)
bad_stat_known known upper path is = always known _ (λ t. bad_stat upper path is t)

pub bad_list_known : (known : Option Tree) (upper : List ℕ) (path : List (List ℕ)) → has_bad_part path ≡ true → IfSome known (λ t. Replies upper t.nodes t.links (op.List path) BadName)
bad_list_known known upper path is = always known _ (λ t. bad_list upper path is t)

pub refused_stat_known : (known : Option Tree) (upper : List ℕ) (path : List (List ℕ)) (reply : Reply) → has_bad_part path ≡ false
    → IfSome known (λ t. ◌≡◌ {A = Result (Result Node Reply) (Unit {0})} (Ok (bare_result (reached upper t.nodes t.links path))) (Ok (Err reply))) → IfSome known (λ t. Replies upper t.nodes t.links (op.Stat path) reply)
refused_stat_known known upper path reply names is = one known _ _ (λ t h. refused_stat upper path reply names t h) is

pub refused_list_known : (known : Option Tree) (upper : List ℕ) (path : List (List ℕ)) (reply : Reply) → has_bad_part path ≡ false
    → IfSome known (λ t. ◌≡◌ {A = Result (Result Node Reply) (Unit {0})} (Ok (bare_result (reached_directory upper t.nodes t.links path))) (Ok (Err reply))) → IfSome known (λ t. Replies upper t.nodes t.links (op.List path) reply)
refused_list_known known upper path reply names is = one known _ _ (λ t h. refused_list upper path reply names t h) is

weaker : (result : Result Reply LookupFault) (P Q : Reply → Type 0) → ((reply : Reply) → P reply → Q reply) → AnswersOrFails result P → AnswersOrFails result Q
weaker (Ok reply) P Q f holds = f reply holds
weaker (Err fault) P Q f holds = holds

pub told_stat_known : (known : Option Tree) (upper : List ℕ) (path : List (List ℕ)) (node : Node) (result : Result Reply LookupFault) → has_bad_part path ≡ false
    → IfSome known (λ t. ◌≡◌ {A = Result (Result Node Reply) (Unit {0})} (Ok (bare_result (reached upper t.nodes t.links path))) (Ok (Ok node)))
    → IfSome known (λ t. AnswersOrFails result (λ reply. reply ≡ stat_of t.links node)) → IfSome known (λ t. AnswersOrFails result (λ reply. Replies upper t.nodes t.links (op.Stat path) reply))
told_stat_known known upper path node result names is told =
    both known _ _ _ (λ t h k. weaker result (λ reply. reply ≡ stat_of t.links node) (λ reply. Replies upper t.nodes t.links (op.Stat path) reply) (λ reply said. told_stat upper path node reply names t h said) k) is told

pub told_list_known : (known : Option Tree) (upper : List ℕ) (path : List (List ℕ)) (node : Node) (result : Result Reply LookupFault) → has_bad_part path ≡ false
    → IfSome known (λ t. ◌≡◌ {A = Result (Result Node Reply) (Unit {0})} (Ok (bare_result (reached_directory upper t.nodes t.links path))) (Ok (Ok node)))
    → IfSome known (λ t. AnswersOrFails result (λ reply. Lists upper t.links node.number reply)) → IfSome known (λ t. AnswersOrFails result (λ reply. Replies upper t.nodes t.links (op.List path) reply))
told_list_known known upper path node result names is told =
    both known _ _ _ (λ t h k. weaker result (λ reply. Lists upper t.links node.number reply) (λ reply. Replies upper t.nodes t.links (op.List path) reply) (λ reply said. told_list upper path node reply names t h said) k) is told

pub bad_read_known : (known : Option Tree) (upper : List ℕ) (path : List (List ℕ)) (offset count : ℕ) → has_bad_part path ≡ true → IfSome known (λ t. Replies upper t.nodes t.links (op.Read path offset count) BadName)
bad_read_known known upper path offset count is = always known _ (λ t. bad_read upper path offset count is t)

pub refused_read_known : (known : Option Tree) (upper : List ℕ) (path : List (List ℕ)) (offset count : ℕ) (reply : Reply) → has_bad_part path ≡ false
    → IfSome known (λ t. ◌≡◌ {A = Result (Result Node Reply) (Unit {0})} (Ok (bare_result (reached upper t.nodes t.links path))) (Ok (Err reply))) → IfSome known (λ t. Replies upper t.nodes t.links (op.Read path offset count) reply)
refused_read_known known upper path offset count reply names is = one known _ _ (λ t h. refused_read upper path offset count reply names t h) is

pub told_read_known : (known : Option Tree) (upper : List ℕ) (path : List (List ℕ)) (offset count : ℕ) (node : Node) (result : Result Reply LookupFault) → has_bad_part path ≡ false
    → IfSome known (λ t. ◌≡◌ {A = Result (Result Node Reply) (Unit {0})} (Ok (bare_result (reached upper t.nodes t.links path))) (Ok (Ok node)))
    → IfSome known (λ t. AnswersOrFails result (λ reply. RepliesBy (first_of (read_rows t.nodes t.links node)) (IsRead t.nodes node offset count reply) reply)) → IfSome known (λ t. AnswersOrFails result (λ reply. Replies upper t.nodes t.links (op.Read path offset count) reply))
told_read_known known upper path offset count node result names is told =
    both known _ _ _ (λ t h k. weaker result (λ reply. RepliesBy (first_of (read_rows t.nodes t.links node)) (IsRead t.nodes node offset count reply) reply) (λ reply. Replies upper t.nodes t.links (op.Read path offset count) reply) (λ reply said. told_read upper path offset count node reply names t h said) k) is told

-- what is replied is a step that leaves the tree
pub step_known : (known : Option Tree) (upper : List ℕ) (o : Op) (reply : Reply) → is_look o ≡ true → is_given_up reply ≡ false → IfSome known (λ t. Replies upper t.nodes t.links o reply)
    → IfSome known (λ t. (stamp : ℕ) → IsStep upper o stamp reply t t)
step_known known upper o reply looks given replies = one known _ _ (λ t h stamp. look_is_step upper o stamp reply t looks (λ memory. h) (no_fault reply given)) replies
