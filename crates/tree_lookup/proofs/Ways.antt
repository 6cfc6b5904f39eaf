-- A walk by questions goes where the path does.
use Rattle.std.proofs.Common.{◌≡◌, ℕ, suc, ◌+◌, ◌<◌, Bool, true, false, cond, ◌||◌, List, [], ◌∷◌, length, drop, get_or, find, Option, Some, None, Result, Ok, Err, refl, sym, ap, subst, ◌∙◌, add-one, drop-cons}
use Rattle.std.specs.Prelude.{IfSome}
use Rattle.std.specs.Option.{option_map}
use Rattle.std.specs.List.{list_any}
use Rattle.std.proofs.lemmas.Bool.{eqb-true}
use Rattle.host_base.specs.Answers.{◌>>=◌, needs, GivesOrFails}
use Rattle.host_base.proofs.Known.{one, both, always}
use Rattle.file_tree.specs.declared.link.Link.{Link}
use Rattle.file_tree.specs.declared.node.Node.{Node}
use Rattle.file_tree.specs.declared.tree.Tree.{Tree}
use Rattle.file_tree.specs.Trees.{has_number, node_at, is_directory_kind, is_directory_node, is_directory, look_up, without_bytes}
use Rattle.file_tree.specs.Walks.{root, child_in, is_bad_part, has_bad_part}
use Rattle.tree_model.specs.declared.reply.Reply.{Reply}
use Rattle.tree_model.specs.declared.reply.Reply.TheVariants.{NotFound, NotDirectory}
use Rattle.tree_model.specs.Walks.{some_or, entered, walk, reached, reached_directory}
use Rattle.tree_lookup.specs.declared.fault.LookupFault.{LookupFault}
use Rattle.tree_lookup.specs.Asked.{lookup_cause, bare_at, bytes_of, bytes_at}
use Rattle.tree_lookup.specs.Answered.{bare_result}

-- ---- one part

child_by : (o found : Option Link) (at : ℕ) → o ≡ found → some_or (option_map (λ (l : Link). l.child.number) o) (NotFound at) ≡ some_or (option_map (λ (l : Link). l.child.number) found) (NotFound at)
child_by o found at is = ap (λ (l : Option Link). some_or (option_map (λ (l : Link). l.child.number) l) (NotFound at)) is

-- the link that was found says the number that the part leads to
pub child_found : (upper : List ℕ) (links : List Link) (directory : ℕ) (part : List ℕ) (at : ℕ) (found : Option Link) → ◌≡◌ {A = Result (Option Link) (Unit {0})} (Ok (look_up upper links directory part)) (Ok found)
    → ◌≡◌ {A = Result (Result ℕ Reply) (Unit {0})} (Ok (some_or (child_in upper links directory part) (NotFound at))) (Ok (some_or (option_map (λ (l : Link). l.child.number) found) (NotFound at)))
unfolding child_in
child_found upper links directory part at found is =
    let same : look_up upper links directory part ≡ found = cc in
    ap (λ (r : Result ℕ Reply). Ok r) (child_by (look_up upper links directory part) found at same)

last_by : (o found : Option Node) (parts : ℕ) → option_map without_bytes o ≡ found → bare_result (some_or o (NotFound parts)) ≡ some_or found (NotFound parts)
last_by None None parts is = refl
last_by None (Some node) parts is = absurd cc
last_by (Some n) None parts is = absurd cc
last_by (Some n) (Some node) parts is = let same : without_bytes n ≡ node = cc in ap (λ (x : Node). Ok x) same

-- the node that was given is that of the last number
pub last_found : (nodes : List Node) (number parts : ℕ) (found : Option Node) → ◌≡◌ {A = Result (Option Node) (Unit {0})} (Ok (bare_at nodes number)) (Ok found)
    → ◌≡◌ {A = Result (Result Node Reply) (Unit {0})} (Ok (bare_result (some_or (node_at nodes number) (NotFound parts)))) (Ok (some_or found (NotFound parts)))
unfolding bare_at
last_found nodes number parts found is =
    let same : option_map without_bytes (node_at nodes number) ≡ found = cc in
    ap (λ (r : Result Node Reply). Ok r) (last_by (node_at nodes number) found parts same)

-- ---- the walk

pub starts : (known : Option Tree) (upper : List ℕ) (path : List (List ℕ)) → IfSome known (λ t. walk upper t.nodes t.links 0 5 path ≡ reached upper t.nodes t.links path)
unfolding reached
starts known upper path = always known _ (λ t. refl)

pub names_start : (path : List (List ℕ)) → has_bad_part path ≡ false → list_any is_bad_part path ≡ false
unfolding has_bad_part
names_start path is = is

pub next_part : (path : List (List ℕ)) (i : ℕ) (part : List ℕ) → i < length path → part ≡ get_or path i part → drop i path ≡ part ∷ drop (i + 1) path
next_part path i part inside is = rw (add-one) (drop-cons path i part inside ∙ ap (λ (x : List ℕ). x ∷ drop (suc i) path) (sym is))

rest_by : (bad rest : Bool) → bad || rest ≡ false → rest ≡ false
rest_by true rest is = absurd cc
rest_by false rest is = is

pub names_behind : (path : List (List ℕ)) (i : ℕ) (part : List ℕ) → drop i path ≡ part ∷ drop (i + 1) path → list_any is_bad_part (drop i path) ≡ false → list_any is_bad_part (drop (i + 1) path) ≡ false
names_behind path i part next is = rest_by (is_bad_part part) (list_any is_bad_part (drop (i + 1) path)) (sym (ap (list_any is_bad_part) next) ∙ is)

walk_next : (upper : List ℕ) (t : Tree) (at number : ℕ) (part : List ℕ) (rest : List (List ℕ)) (r : Result ℕ Reply) → entered upper t.nodes t.links at number part ≡ r → walk upper t.nodes t.links at number (part ∷ rest) ≡ (r >>= λ child. walk upper t.nodes t.links (at + 1) child rest)
unfolding walk
walk_next upper t at number part rest r is = ap (λ (x : Result ℕ Reply). x >>= λ child. walk upper t.nodes t.links (at + 1) child rest) is

-- a part leads on
pub leads_on : (upper : List ℕ) (path : List (List ℕ)) (at number child : ℕ) (part : List ℕ) → drop at path ≡ part ∷ drop (at + 1) path → (t : Tree)
    → walk upper t.nodes t.links at number (drop at path) ≡ reached upper t.nodes t.links path → ◌≡◌ {A = Result (Result ℕ Reply) (Unit {0})} (Ok (entered upper t.nodes t.links at number part)) (Ok (Ok child))
    → walk upper t.nodes t.links (at + 1) child (drop (at + 1) path) ≡ reached upper t.nodes t.links path
leads_on upper path at number child part next t leads is =
    let one_more : entered upper t.nodes t.links at number part ≡ Ok child = cc in
    sym (ap (walk upper t.nodes t.links at number) next ∙ walk_next upper t at number part (drop (at + 1) path) (Ok child) one_more) ∙ leads

-- or ends the walk
pub ends_there : (upper : List ℕ) (path : List (List ℕ)) (at number : ℕ) (reply : Reply) (part : List ℕ) → drop at path ≡ part ∷ drop (at + 1) path → (t : Tree)
    → walk upper t.nodes t.links at number (drop at path) ≡ reached upper t.nodes t.links path → ◌≡◌ {A = Result (Result ℕ Reply) (Unit {0})} (Ok (entered upper t.nodes t.links at number part)) (Ok (Err reply))
    → ◌≡◌ {A = Result (Result Node Reply) (Unit {0})} (Ok (bare_result (reached upper t.nodes t.links path))) (Ok (Err reply))
ends_there upper path at number reply part next t leads is =
    let last : entered upper t.nodes t.links at number part ≡ Err reply = cc in
    ap (λ (r : Result Node Reply). Ok (bare_result r)) (sym leads ∙ ap (walk upper t.nodes t.links at number) next ∙ walk_next upper t at number part (drop (at + 1) path) (Err reply) last)

walk_last : (upper : List ℕ) (t : Tree) (at number : ℕ) → walk upper t.nodes t.links at number [] ≡ some_or (node_at t.nodes number) (NotFound at)
unfolding walk
walk_last upper t at number = refl

pub over : (path : List (List ℕ)) → drop (length path) path ≡ []
over [] = refl
over (part ∷ path) = over path

-- behind the last part stands the node
pub stands_there : (upper : List ℕ) (path : List (List ℕ)) (at number : ℕ) → drop at path ≡ [] → (t : Tree)
    → walk upper t.nodes t.links at number (drop at path) ≡ reached upper t.nodes t.links path → some_or (node_at t.nodes number) (NotFound at) ≡ reached upper t.nodes t.links path
stands_there upper path at number over t leads = sym (ap (walk upper t.nodes t.links at number) over ∙ walk_last upper t at number) ∙ leads

-- ---- a directory

first_is : (number : ℕ) (m n : Node) (rest : Option Node) (t : Bool) → has_number number m ≡ t → (rest ≡ Some n → n.number ≡ number) → cond t (Some m) rest ≡ Some n → n.number ≡ number
first_is number m n rest true is later found = let same : m ≡ n = cc in ap (λ (x : Node). x.number) (sym same) ∙ eqb-true m.number number is
first_is number m n rest false is later found = later found

find_number : (number : ℕ) (nodes : List Node) (n : Node) → find (has_number number) nodes ≡ Some n → n.number ≡ number
find_number number [] n is = absurd cc
find_number number (m ∷ nodes) n is = first_is number m n (find (has_number number) nodes) (has_number number m) refl (find_number number nodes n) is

own_number : (nodes : List Node) (number : ℕ) (n : Node) → node_at nodes number ≡ Some n → node_at nodes n.number ≡ Some n
unfolding node_at
own_number nodes number n is = ap (λ (k : ℕ). find (has_number k) nodes) (find_number number nodes n is) ∙ is

some_is : (o : Option Node) (at : ℕ) (n : Node) → some_or o (NotFound at) ≡ Ok n → o ≡ Some n
some_is None at n is = absurd cc
some_is (Some m) at n is = let same : m ≡ n = cc in ap (λ (x : Node). Some x) same

bound : (r : Result ℕ Reply) (f : ℕ → Result Node Reply) (n : Node) → (r >>= f) ≡ Ok n → (child : ℕ) × (f child ≡ Ok n)
bound (Ok child) f n is = (child, is)
bound (Err reply) f n is = absurd cc

walked_node : (upper : List ℕ) (t : Tree) (at number : ℕ) (path : List (List ℕ)) (n : Node) → walk upper t.nodes t.links at number path ≡ Ok n → node_at t.nodes n.number ≡ Some n
walked_node upper t at number [] n is = own_number t.nodes number n (some_is (node_at t.nodes number) at n (sym (walk_last upper t at number) ∙ is))
walked_node upper t at number (part ∷ rest) n is =
    let next = bound (entered upper t.nodes t.links at number part) (λ child. walk upper t.nodes t.links (at + 1) child rest) n (sym (walk_next upper t at number part rest (entered upper t.nodes t.links at number part) refl) ∙ is) in
    walked_node upper t (at + 1) next.0 rest n next.1

-- the bytes of the node that a path leads to are those at its number
pub own_bytes : (upper : List ℕ) (path : List (List ℕ)) (t : Tree) (n : Node) → reached upper t.nodes t.links path ≡ Ok n → bytes_at t.nodes n.number ≡ n.bytes
unfolding reached bytes_at
own_bytes upper path t n is = ap bytes_of (walked_node upper t 0 root path n is)

record Parted (found : Result Node Reply) (n : Node) : Type 0 where
  found_is : found ≡ Ok n
  directory : is_directory_kind n.kind ≡ true

needed_by : (m n : Node) (t : Bool) (count : ℕ) → is_directory_kind m.kind ≡ t → (needs t (NotDirectory count) >>= λ _. Ok m) ≡ Ok n → Parted (Ok m) n
needed_by m n true count is found = let same : m ≡ n = cc in record { found_is = ap (λ (x : Node). Ok x) same; directory = ap (λ (x : Node). is_directory_kind x.kind) (sym same) ∙ is }
needed_by m n false count is found = absurd cc

directory_by : (found : Result Node Reply) (count : ℕ) (n : Node) → (found >>= λ node. needs (is_directory_kind node.kind) (NotDirectory count) >>= λ _. Ok node) ≡ Ok n → Parted found n
directory_by (Ok m) count n is = needed_by m n (is_directory_kind m.kind) count refl is
directory_by (Err reply) count n is = absurd cc

-- the directory that a path leads to is one of the tree
at_directory : (upper : List ℕ) (path : List (List ℕ)) (t : Tree) (n : Node) → reached_directory upper t.nodes t.links path ≡ Ok n → is_directory t.nodes n.number ≡ true
unfolding reached_directory reached is_directory
at_directory upper path t n is =
    let parted = directory_by (walk upper t.nodes t.links 0 root path) (length path) n is in
    ap is_directory_node (walked_node upper t 0 root path n parted.found_is) ∙ parted.directory

bare_ok : (found : Result Node Reply) (t : Tree) (node : Node) → ((n : Node) → found ≡ Ok n → is_directory t.nodes n.number ≡ true) → bare_result found ≡ Ok node → is_directory t.nodes node.number ≡ true
bare_ok (Ok n) t node f is = let same : without_bytes n ≡ node = cc in ap (λ (x : Node). is_directory t.nodes x.number) (sym same) ∙ f n refl
bare_ok (Err reply) t node f is = absurd cc

pub is_directory_there : (upper : List ℕ) (path : List (List ℕ)) (node : Node) (t : Tree) → ◌≡◌ {A = Result (Result Node Reply) (Unit {0})} (Ok (bare_result (reached_directory upper t.nodes t.links path))) (Ok (Ok node)) → is_directory t.nodes node.number ≡ true
is_directory_there upper path node t is =
    let same : bare_result (reached_directory upper t.nodes t.links path) ≡ Ok node = cc in
    bare_ok (reached_directory upper t.nodes t.links path) t node (at_directory upper path t) same

-- ---- where the tree is known

pub child_known : (known : Option Tree) (upper : List ℕ) (directory : ℕ) (part : List ℕ) (at : ℕ) (found : Option Link)
    → IfSome known (λ t. ◌≡◌ {A = Result (Option Link) (Unit {0})} (Ok (look_up upper t.links directory part)) (Ok found))
    → IfSome known (λ t. ◌≡◌ {A = Result (Result ℕ Reply) (Unit {0})} (Ok (some_or (child_in upper t.links directory part) (NotFound at))) (Ok (some_or (option_map (λ (l : Link). l.child.number) found) (NotFound at))))
child_known known upper directory part at found is = one known _ _ (λ t h. child_found upper t.links directory part at found h) is

pub last_known : (known : Option Tree) (number parts : ℕ) (found : Option Node)
    → IfSome known (λ t. ◌≡◌ {A = Result (Option Node) (Unit {0})} (Ok (bare_at t.nodes number)) (Ok found))
    → IfSome known (λ t. ◌≡◌ {A = Result (Result Node Reply) (Unit {0})} (Ok (bare_result (some_or (node_at t.nodes number) (NotFound parts)))) (Ok (some_or found (NotFound parts))))
last_known known number parts found is = one known _ _ (λ t h. last_found t.nodes number parts found h) is

-- the rest of a path leads where the whole does
abbrev pub Leads : List ℕ → List (List ℕ) → ℕ → ℕ → Tree → Type 0
Leads upper path at number t = walk upper t.nodes t.links at number (drop at path) ≡ reached upper t.nodes t.links path

pub leads_known : (known : Option Tree) (upper : List ℕ) (path : List (List ℕ)) (at number child : ℕ) (part : List ℕ) → drop at path ≡ part ∷ drop (at + 1) path → IfSome known (Leads upper path at number)
    → IfSome known (λ t. ◌≡◌ {A = Result (Result ℕ Reply) (Unit {0})} (Ok (entered upper t.nodes t.links at number part)) (Ok (Ok child))) → IfSome known (Leads upper path (at + 1) child)
leads_known known upper path at number child part next leads is = both known _ _ _ (λ t l h. leads_on upper path at number child part next t l h) leads is

pub ends_known : (known : Option Tree) (upper : List ℕ) (path : List (List ℕ)) (at number : ℕ) (reply : Reply) (part : List ℕ) → drop at path ≡ part ∷ drop (at + 1) path → IfSome known (Leads upper path at number)
    → IfSome known (λ t. ◌≡◌ {A = Result (Result ℕ Reply) (Unit {0})} (Ok (entered upper t.nodes t.links at number part)) (Ok (Err reply)))
    → IfSome known (λ t. ◌≡◌ {A = Result (Result Node Reply) (Unit {0})} (Ok (bare_result (reached upper t.nodes t.links path))) (Ok (Err reply)))
ends_known known upper path at number reply part next leads is = both known _ _ _ (λ t l h. ends_there upper path at number reply part next t l h) leads is

meant_as : (result : Result (Result Node Reply) LookupFault) (a b : Result Node Reply) → a ≡ b → GivesOrFails (λ node. node) lookup_cause result (Ok (bare_result a)) → GivesOrFails (λ node. node) lookup_cause result (Ok (bare_result b))
meant_as result a b same gives = subst (λ (r : Result Node Reply). GivesOrFails (λ node. node) lookup_cause result (Ok (bare_result r))) same gives

pub stands_known : (known : Option Tree) (upper : List ℕ) (path : List (List ℕ)) (at number : ℕ) (result : Result (Result Node Reply) LookupFault) → drop at path ≡ [] → IfSome known (Leads upper path at number)
    → IfSome known (λ t. GivesOrFails (λ node. node) lookup_cause result (Ok (bare_result (some_or (node_at t.nodes number) (NotFound at))))) → IfSome known (λ t. GivesOrFails (λ node. node) lookup_cause result (Ok (bare_result (reached upper t.nodes t.links path))))
stands_known known upper path at number result over leads gives =
    both known _ _ _ (λ t l h. meant_as result (some_or (node_at t.nodes number) (NotFound at)) (reached upper t.nodes t.links path) (stands_there upper path at number over t l) h) leads gives

pub directory_known : (known : Option Tree) (upper : List ℕ) (path : List (List ℕ)) (node : Node)
    → IfSome known (λ t. ◌≡◌ {A = Result (Result Node Reply) (Unit {0})} (Ok (bare_result (reached_directory upper t.nodes t.links path))) (Ok (Ok node))) → IfSome known (λ t. is_directory t.nodes node.number ≡ true)
directory_known known upper path node is = one known _ _ (λ t h. is_directory_there upper path node t h) is
