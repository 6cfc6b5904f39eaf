-- What an operation comes to, behind the walk and with it.
use Rattle.std.proofs.Common.{◌≡◌, ℕ, zero, suc, ◌+◌, ◌-◌, Bool, true, false, ◌||◌, List, [], ◌∷◌, length, take, Option, Some, None, Result, Ok, Err, refl, sym, ap, subst, ◌∙◌}
use Rattle.std.specs.Prelude.{◌==◌, is_some, IsOkAnd, IsSomeAnd, IfSome}
use Rattle.std.specs.List.{list_any}
use Rattle.host_base.specs.Answers.{◌>>=◌, needs, GivesOrFails}
use Rattle.host_base.specs.declared.file_ref.FileRef.{FileRef}
use Rattle.host_base.proofs.Known.{one, both, always}
use Rattle.tree_lookup.specs.file_tree.declared.link.Link.{Link}
use Rattle.tree_lookup.specs.file_tree.declared.node.Node.{Node}
use Rattle.tree_lookup.specs.file_tree.declared.tree.Tree.{Tree}
use Rattle.tree_lookup.specs.file_tree.Trees.{is_directory_kind, look_up, without_bytes}
use Rattle.tree_lookup.specs.file_tree.Walks.{is_bad_part, has_bad_part}
use Rattle.tree_lookup.specs.tree_model.declared.script.Op.{Op}
use Rattle.tree_lookup.specs.tree_model.declared.script.Op.TheVariants as op
use Rattle.tree_lookup.specs.tree_model.declared.reply.Reply.{Reply}
use Rattle.tree_lookup.specs.tree_model.declared.reply.Reply.TheVariants as reply
use Rattle.tree_lookup.specs.tree_model.Needs.{changes_file}
use Rattle.tree_lookup.specs.tree_model.Refusals.{first_of, where_so, from_there, is_in_system, fixed_names, has_same_name, change_rows, create_rows, is_bad_new_path, parent_path, new_name, is_dots}
use Rattle.tree_lookup.specs.tree_model.Effects.{numbers_to_take, least_ref}
use Rattle.tree_lookup.specs.tree_model.Walks.{reached, reached_directory, bad_name}
use Rattle.tree_lookup.specs.declared.fault.LookupFault.{LookupFault}
use Rattle.tree_lookup.specs.Asked.{lookup_cause, AnswersOrFails}
use Rattle.tree_lookup.specs.Answered.{bare_result}
use Rattle.change_lookup.specs.declared.found.Found.{Found}
use Rattle.change_lookup.specs.declared.found.Found.TheVariants.{Refused, File, Place}
use Rattle.change_lookup.specs.Comes.{FindsBy, FindsFile, FindsPlace, IsPlaced}
use Rattle.change_lookup.specs.Counts.{counts_of}
use Rattle.change_lookup.proofs.Numbers.{taken_same}
use Rattle.change_lookup.proofs.Rows.{name_rows, room_rows, change_counted, bare_change, bare_create, room_counted, name_first, room_behind, is_system_row, is_fixed_row, is_name_row, name_said}

-- ---- rows

-- what a row refuses
pub refused : (row : Option Reply) (finds : Type 0) (said : Reply) → row ≡ Some said → FindsBy row finds (Refused said)
refused row finds said is = rw is refl

-- what no row refuses
pub goes_on : (row : Option Reply) (finds : Type 0) (found : Found) → row ≡ None → finds → FindsBy row finds found
goes_on row finds found is holds = rw is holds

other_row : (a b : Option Reply) (finds : Type 0) (found : Found) → a ≡ b → FindsBy a finds found → FindsBy b finds found
other_row a b finds found is holds = subst (λ (r : Option Reply). FindsBy r finds found) is holds

-- ---- a file, behind the walk

-- the row of a file is that of the counts alone
row_there : (t : Tree) (counts : Tree) (room count : ℕ) (o : Op) (n : Node) (row : Option Reply) → counts ≡ counts_of room count None → row ≡ first_of (change_rows counts 0 [] o n) → t.journal ≡ None → room ≡ t.room
    → first_of (change_rows t 0 [] o n) ≡ row
row_there t counts room count o n row is said none rooms = change_counted t room count o n none rooms ∙ ap (λ (s : Tree). first_of (change_rows s 0 [] o n)) (sym is) ∙ sym said

pub refused_there : (known : Option Tree) (counts : Tree) (room count : ℕ) (o : Op) (n : Node) (said : Reply) → counts ≡ counts_of room count None → Some said ≡ first_of (change_rows counts 0 [] o n)
    → IfSome known (λ t. t.journal ≡ None) → IfSome known (λ t. room ≡ t.room) → IfSome known (λ t. FindsBy (first_of (change_rows t 0 [] o n)) (Refused said ≡ File n (changes_file o n)) (Refused said))
refused_there known counts room count o n said is row none rooms =
    both known _ _ _ (λ t a b. refused (first_of (change_rows t 0 [] o n)) (Refused said ≡ File n (changes_file o n)) said (row_there t counts room count o n (Some said) is row a b)) none rooms

pub changed_there : (known : Option Tree) (counts : Tree) (room count : ℕ) (o : Op) (n : Node) (changes : Bool) → counts ≡ counts_of room count None → None ≡ first_of (change_rows counts 0 [] o n) → changes ≡ changes_file o n
    → IfSome known (λ t. t.journal ≡ None) → IfSome known (λ t. room ≡ t.room) → IfSome known (λ t. FindsBy (first_of (change_rows t 0 [] o n)) (File n changes ≡ File n (changes_file o n)) (File n changes))
changed_there known counts room count o n changes is row same none rooms =
    both known _ _ _ (λ t a b. goes_on (first_of (change_rows t 0 [] o n)) (File n changes ≡ File n (changes_file o n)) (File n changes) (row_there t counts room count o n None is row a b) (ap (λ (k : Bool). File n k) same)) none rooms

-- ---- a file, with the walk

found_by : (r : Result Node Reply) (t : Tree) (o : Op) (n : Node) (found : Found) → bare_result r ≡ Ok n → FindsBy (first_of (change_rows t 0 [] o n)) (found ≡ File n (changes_file o n)) found
    → FindsBy (first_of (None ∷ from_there r (change_rows t 0 [] o))) (IsOkAnd (bare_result r) (λ node. found ≡ File node (changes_file o node))) found
found_by (Ok m) t o n found is holds =
    let same : n ≡ without_bytes m = cc in
    let there : FindsBy (first_of (change_rows t 0 [] o (without_bytes m))) (found ≡ File (without_bytes m) (changes_file o (without_bytes m))) found =
    subst (λ (x : Node). FindsBy (first_of (change_rows t 0 [] o x)) (found ≡ File x (changes_file o x)) found) same holds in
    other_row _ _ (found ≡ File (without_bytes m) (changes_file o (without_bytes m))) found (ap first_of (bare_change t o m)) there
found_by (Err r) t o n found is holds = absurd cc

ends_by : (r : Result Node Reply) (rows : Node → List (Option Reply)) (finds : Type 0) (said : Reply) → bare_result r ≡ Err said → FindsBy (first_of (None ∷ from_there r rows)) finds (Refused said)
ends_by (Ok m) rows finds said is = absurd cc
ends_by (Err r) rows finds said is = let same : r ≡ said = cc in ap (λ (x : Reply). Refused x) (sym same)

bare_is : (r b : Result Node Reply) → ◌≡◌ {A = Result (Result Node Reply) (Unit {0})} (Ok (bare_result r)) (Ok b) → bare_result r ≡ b
bare_is r b is = cc

abbrev FileFound : List ℕ → List (List ℕ) → Op → Found → Tree → Type 0
FileFound upper path o found t = FindsBy (first_of (bad_name path ∷ from_there (reached upper t.nodes t.links path) (change_rows t 0 [] o))) (FindsFile upper t path o found) found

pub file_bad : (known : Option Tree) (upper : List ℕ) (path : List (List ℕ)) (o : Op) → has_bad_part path ≡ true → IfSome known (FileFound upper path o (Refused reply.BadName))
file_bad known upper path o is = always known _ (λ t. rw is refl)

pub file_ends : (known : Option Tree) (upper : List ℕ) (path : List (List ℕ)) (o : Op) (said : Reply) → has_bad_part path ≡ false
    → IfSome known (λ t. ◌≡◌ {A = Result (Result Node Reply) (Unit {0})} (Ok (bare_result (reached upper t.nodes t.links path))) (Ok (Err said))) → IfSome known (FileFound upper path o (Refused said))
file_ends known upper path o said names is =
    one known _ _ (λ t h. rw names (ends_by (reached upper t.nodes t.links path) (change_rows t 0 [] o) _ said (bare_is _ _ h))) is

weaker : (result : Result Found LookupFault) (P Q : Found → Type 0) → ((found : Found) → P found → Q found) → AnswersOrFails result P → AnswersOrFails result Q
weaker (Ok found) P Q f holds = f found holds
weaker (Err fault) P Q f holds = holds

pub file_found_known : (known : Option Tree) (upper : List ℕ) (path : List (List ℕ)) (o : Op) (n : Node) (result : Result Found LookupFault) → has_bad_part path ≡ false
    → IfSome known (λ t. ◌≡◌ {A = Result (Result Node Reply) (Unit {0})} (Ok (bare_result (reached upper t.nodes t.links path))) (Ok (Ok n)))
    → IfSome known (λ t. AnswersOrFails result (λ found. FindsBy (first_of (change_rows t 0 [] o n)) (found ≡ File n (changes_file o n)) found)) → IfSome known (λ t. AnswersOrFails result (λ found. FileFound upper path o found t))
file_found_known known upper path o n result names is holds =
    both known _ _ _ (λ t h k. weaker result (λ found. FindsBy (first_of (change_rows t 0 [] o n)) (found ≡ File n (changes_file o n)) found) (λ found. FileFound upper path o found t)
    (λ found said. rw names (found_by (reached upper t.nodes t.links path) t o n found (bare_is _ _ h) said)) k) is holds

-- ---- a new name

abbrev NameRow : List ℕ → Node → List ℕ → Option Reply → Tree → Type 0
NameRow upper n name row t = ◌≡◌ {A = Result (Option Reply) (Unit {0})} (Ok (first_of (name_rows upper t n name))) (Ok row)

abbrev SaidSystem : Node → Bool → Tree → Type 0
SaidSystem n said t = ◌≡◌ {A = Result Bool (Unit {0})} (Ok (is_in_system t.links (length t.nodes) n.number)) (Ok said)

pub system_known : (known : Option Tree) (upper : List ℕ) (n : Node) (name : List ℕ) → IfSome known (λ t. is_directory_kind n.kind ≡ true) → IfSome known (SaidSystem n true) → IfSome known (NameRow upper n name (Some reply.System))
system_known known upper n name kind is = both known _ _ _ (λ t k h. is_system_row upper t n name k h) kind is

three : (known : Option Tree) (P Q R S : Tree → Type 0) → ((t : Tree) → P t → Q t → R t → S t) → IfSome known P → IfSome known Q → IfSome known R → IfSome known S
three None P Q R S f p q r = tt
three (Some t) P Q R S f p q r = f t p q r

pub fixed_known : (known : Option Tree) (upper : List ℕ) (n : Node) (name : List ℕ) (row : Reply) → fixed_names n.why ≡ Some row → IfSome known (λ t. is_directory_kind n.kind ≡ true) → IfSome known (SaidSystem n false)
    → IfSome known (NameRow upper n name (Some row))
fixed_known known upper n name row fixed kind is = both known _ _ _ (λ t k h. is_fixed_row upper t n name row k h fixed) kind is

pub taken_known : (known : Option Tree) (upper : List ℕ) (directory : ℕ) (name : List ℕ) (link : Option Link) → IfSome known (λ t. ◌≡◌ {A = Result (Option Link) (Unit {0})} (Ok (look_up upper t.links directory name)) (Ok link))
    → IfSome known (λ t. ◌≡◌ {A = Result (Option Reply) (Unit {0})} (Ok (where_so (has_same_name upper t.links directory name) reply.Exists)) (Ok (where_so (is_some link) reply.Exists)))
taken_known known upper directory name link found = one known _ _ (λ t h. ap (λ (b : Bool). Ok (where_so b reply.Exists)) (name_said upper t directory name link h)) found

named_by : (result : Result (Option Reply) LookupFault) (a b : Option Reply) → a ≡ b → GivesOrFails (λ row. row) lookup_cause result (Ok a) → GivesOrFails (λ row. row) lookup_cause result (Ok b)
named_by result a b same gives = subst (λ (row : Option Reply). GivesOrFails (λ row. row) lookup_cause result (Ok row)) same gives

pub name_known : (known : Option Tree) (upper : List ℕ) (n : Node) (name : List ℕ) (result : Result (Option Reply) LookupFault) → fixed_names n.why ≡ None → IfSome known (λ t. is_directory_kind n.kind ≡ true) → IfSome known (SaidSystem n false)
    → IfSome known (λ t. GivesOrFails (λ row. row) lookup_cause result (Ok (where_so (has_same_name upper t.links n.number name) reply.Exists)))
    → IfSome known (λ t. GivesOrFails (λ row. row) lookup_cause result (Ok (first_of (name_rows upper t n name))))
name_known known upper n name result free kind is said = three known _ _ _ _ (λ t k h g. named_by result _ _ (sym (is_name_row upper t n name k h free)) g) kind is said

-- ---- a new file, behind the walk

abbrev PlaceThere : List ℕ → List (List ℕ) → List ℕ → Node → Found → Tree → Type 0
PlaceThere upper path name n found t = FindsBy (first_of (create_rows upper t 0 [] (op.Create path) name n)) (IsPlaced t n name found) found

row_is : (a b : Option Reply) → ◌≡◌ {A = Result (Option Reply) (Unit {0})} (Ok a) (Ok b) → a ≡ b
row_is a b is = cc

pub name_refused : (known : Option Tree) (upper : List ℕ) (path : List (List ℕ)) (name : List ℕ) (n : Node) (said : Reply) → IfSome known (NameRow upper n name (Some said)) → IfSome known (PlaceThere upper path name n (Refused said))
name_refused known upper path name n said is =
    one known _ _ (λ t h. refused (first_of (create_rows upper t 0 [] (op.Create path) name n)) (IsPlaced t n name (Refused said)) said (name_first upper t path name n said (row_is _ _ h))) is

placed_by : (a b : Option Reply) (l m : Option FileRef) (P : FileRef → Type 0) (found : Found) → b ≡ a → m ≡ l → FindsBy a (IsSomeAnd l P) found → FindsBy b (IsSomeAnd m P) found
placed_by a b l m P found rows numbers holds = rw (rows, numbers) holds

pub record Counted (room count : ℕ) (least : Option FileRef) (t : Tree) : Type 0 where
  pub none : t.journal ≡ None
  pub rooms : room ≡ t.room
  pub counted : count ≡ t.count
  pub spare : ◌≡◌ {A = Result (Option FileRef) (Unit {0})} (Ok (least_ref t.spare)) (Ok least)

spare_is : (t : Tree) (least : Option FileRef) → ◌≡◌ {A = Result (Option FileRef) (Unit {0})} (Ok (least_ref t.spare)) (Ok least) → least_ref t.spare ≡ least
spare_is t least is = cc

pub are_counts : (known : Option Tree) (room count : ℕ) (least : Option FileRef) → IfSome known (λ t. t.journal ≡ None) → IfSome known (λ t. room ≡ t.room) → IfSome known (λ t. count ≡ t.count)
    → IfSome known (λ t. ◌≡◌ {A = Result (Option FileRef) (Unit {0})} (Ok (least_ref t.spare)) (Ok least)) → IfSome known (Counted room count least)
are_counts None room count least a b c d = tt
are_counts (Some t) room count least a b c d = record { none = a; rooms = b; counted = c; spare = d }

numbered_by : (path : List (List ℕ)) (name : List ℕ) (n : Node) (room count : ℕ) (least : Option FileRef) (found : Found) (t : Tree) → Counted room count least t
    → FindsBy (first_of (room_rows (counts_of room count least) path n)) (IsPlaced (counts_of room count least) n name found) found → FindsBy (first_of (room_rows t path n)) (IsPlaced t n name found) found
numbered_by path name n room count least found t c holds =
    let spare : least_ref t.spare ≡ least = spare_is t least c.spare in
    placed_by (first_of (room_rows (counts_of room count least) path n)) (first_of (room_rows t path n)) (least_ref (numbers_to_take (counts_of room count least))) (least_ref (numbers_to_take t)) (λ number. found ≡ Place n name number) found
    (room_counted t room count least path n n c.none c.rooms c.counted spare) (taken_same t room count least spare c.counted) holds

-- where it stands by the counts alone
pub placed_refused : (counts : Tree) (room count : ℕ) (least : Option FileRef) (path : List (List ℕ)) (n directory : Node) (name : List ℕ) (said : Reply) → counts ≡ counts_of room count least → Some said ≡ first_of (room_rows counts path n)
    → FindsBy (first_of (room_rows (counts_of room count least) path n)) (IsPlaced (counts_of room count least) directory name (Refused said)) (Refused said)
placed_refused counts room count least path n directory name said is row =
    refused (first_of (room_rows (counts_of room count least) path n)) (IsPlaced (counts_of room count least) directory name (Refused said)) said (ap (λ (s : Tree). first_of (room_rows s path n)) (sym is) ∙ sym row)

at_number : (o : Option FileRef) (directory : Node) (name : List ℕ) (number : FileRef) → o ≡ Some number → IsSomeAnd o (λ m. Place directory name number ≡ Place directory name m)
at_number o directory name number is = rw is refl

pub placed_there : (counts : Tree) (room count : ℕ) (least : Option FileRef) (path : List (List ℕ)) (n directory : Node) (name : List ℕ) (number : FileRef) → counts ≡ counts_of room count least → None ≡ first_of (room_rows counts path n)
    → least_ref (numbers_to_take (counts_of room count least)) ≡ Some number
    → FindsBy (first_of (room_rows (counts_of room count least) path n)) (IsPlaced (counts_of room count least) directory name (Place directory name number)) (Place directory name number)
placed_there counts room count least path n directory name number is row taken =
    goes_on (first_of (room_rows (counts_of room count least) path n)) (IsPlaced (counts_of room count least) directory name (Place directory name number)) (Place directory name number)
    (ap (λ (s : Tree). first_of (room_rows s path n)) (sym is) ∙ sym row) (at_number (least_ref (numbers_to_take (counts_of room count least))) directory name number taken)

abbrev Numbered : List (List ℕ) → List ℕ → Node → Found → Tree → Type 0
Numbered path name n found t = FindsBy (first_of (room_rows t path n)) (IsPlaced t n name found) found

pub numbered_known : (known : Option Tree) (path : List (List ℕ)) (name : List ℕ) (n : Node) (room count : ℕ) (least : Option FileRef) (found : Found) → IfSome known (Counted room count least)
    → FindsBy (first_of (room_rows (counts_of room count least) path n)) (IsPlaced (counts_of room count least) n name found) found → IfSome known (Numbered path name n found)
numbered_known known path name n room count least found counts holds = one known _ _ (λ t c. numbered_by path name n room count least found t c holds) counts

-- behind the rows of the name come those of the room
pub place_known : (known : Option Tree) (upper : List ℕ) (path : List (List ℕ)) (name : List ℕ) (n : Node) (result : Result Found LookupFault) → IfSome known (NameRow upper n name None)
    → IfSome known (λ t. AnswersOrFails result (λ found. Numbered path name n found t)) → IfSome known (λ t. AnswersOrFails result (λ found. PlaceThere upper path name n found t))
place_known known upper path name n result free said =
    both known _ _ _ (λ t h k. weaker result (λ found. Numbered path name n found t) (λ found. PlaceThere upper path name n found t)
    (λ found holds. other_row _ _ (IsPlaced t n name found) found (sym (room_behind upper t path name n (row_is _ _ h))) holds) k) free said

-- ---- a new file, with the walk

place_by : (r : Result Node Reply) (upper : List ℕ) (t : Tree) (path : List (List ℕ)) (name : List ℕ) (n : Node) (found : Found) → bare_result r ≡ Ok n → PlaceThere upper path name n found t
    → FindsBy (first_of (None ∷ from_there r (create_rows upper t 0 [] (op.Create path) name))) (IsOkAnd (bare_result r) (λ directory. IsPlaced t directory name found)) found
place_by (Ok m) upper t path name n found is holds =
    let same : n ≡ without_bytes m = cc in
    other_row _ _ (IsPlaced t (without_bytes m) name found) found (ap first_of (bare_create upper t path name m)) (subst (λ (x : Node). PlaceThere upper path name x found t) same holds)
place_by (Err r) upper t path name n found is holds = absurd cc

abbrev PlaceFound : List ℕ → List (List ℕ) → Found → Tree → Type 0
PlaceFound upper path found t =
    FindsBy (first_of (where_so (is_bad_new_path path) reply.BadName ∷ from_there (reached_directory upper t.nodes t.links (parent_path path)) (create_rows upper t 0 [] (op.Create path) (new_name path)))) (FindsPlace upper t path found) found

pub place_bad : (known : Option Tree) (upper : List ℕ) (path : List (List ℕ)) → is_bad_new_path path ≡ true → IfSome known (PlaceFound upper path (Refused reply.BadName))
place_bad known upper path is = always known _ (λ t. rw is refl)

pub place_ends : (known : Option Tree) (upper : List ℕ) (path : List (List ℕ)) (said : Reply) → is_bad_new_path path ≡ false
    → IfSome known (λ t. ◌≡◌ {A = Result (Result Node Reply) (Unit {0})} (Ok (bare_result (reached_directory upper t.nodes t.links (parent_path path)))) (Ok (Err said))) → IfSome known (PlaceFound upper path (Refused said))
place_ends known upper path said names is =
    one known _ _ (λ t h. rw names (ends_by (reached_directory upper t.nodes t.links (parent_path path)) (create_rows upper t 0 [] (op.Create path) (new_name path)) _ said (bare_is _ _ h))) is

pub place_found_known : (known : Option Tree) (upper : List ℕ) (path : List (List ℕ)) (name : List ℕ) (n : Node) (result : Result Found LookupFault) → is_bad_new_path path ≡ false → name ≡ new_name path
    → IfSome known (λ t. ◌≡◌ {A = Result (Result Node Reply) (Unit {0})} (Ok (bare_result (reached_directory upper t.nodes t.links (parent_path path)))) (Ok (Ok n)))
    → IfSome known (λ t. AnswersOrFails result (λ found. PlaceThere upper path name n found t)) → IfSome known (λ t. AnswersOrFails result (λ found. PlaceFound upper path found t))
place_found_known known upper path name n result names named is holds =
    both known _ _ _ (λ t h k. weaker result (λ found. PlaceThere upper path name n found t) (λ found. PlaceFound upper path found t)
    (λ found said. rw names (place_by (reached_directory upper t.nodes t.links (parent_path path)) upper t path (new_name path) n found (bare_is _ _ h) (subst (λ (x : List ℕ). PlaceThere upper path x n found t) named said))) k) is holds

-- ---- what the walk of a new file's directory asks

any_or : (a b c : Bool) → a || b ≡ false → (b ≡ false → c ≡ false) → a || c ≡ false
any_or true b c is f = absurd cc
any_or false b c is f = f is

any_front : (p : List ℕ → Bool) (path : List (List ℕ)) (n : ℕ) → list_any p path ≡ false → list_any p (take n path) ≡ false
any_front p path zero is = refl
any_front p [] (suc n) is = refl
any_front p (part ∷ path) (suc n) is = any_or (p part) (list_any p path) (list_any p (take n path)) is (any_front p path n)

or_right : (a b c : Bool) → ((a || b) || c) ≡ false → b ≡ false
or_right true b c is = absurd cc
or_right false true c is = absurd cc
or_right false false c is = refl

pub front_names : (path : List (List ℕ)) → is_bad_new_path path ≡ false → has_bad_part (parent_path path) ≡ false
unfolding is_bad_new_path has_bad_part
front_names path is = any_front is_bad_part path (length path - 1) (or_right (length path == 0) (list_any is_bad_part path) (is_dots (new_name path)) is)

kind_of : (k : Bool) (m : Node) (count : ℕ) (n : Node) → is_directory_kind m.kind ≡ k → bare_result (needs k (reply.NotDirectory count) >>= λ _. Ok m) ≡ Ok n → is_directory_kind n.kind ≡ true
kind_of true m count n kind is = let same : without_bytes m ≡ n = cc in ap (λ (x : Node). is_directory_kind x.kind) (sym same) ∙ kind
kind_of false m count n kind is = absurd cc

kind_by : (found : Result Node Reply) (count : ℕ) (n : Node) → bare_result (found >>= λ node. needs (is_directory_kind node.kind) (reply.NotDirectory count) >>= λ _. Ok node) ≡ Ok n → is_directory_kind n.kind ≡ true
kind_by (Ok m) count n is = kind_of (is_directory_kind m.kind) m count n refl is
kind_by (Err r) count n is = absurd cc

kind_there : (upper : List ℕ) (path : List (List ℕ)) (n : Node) (t : Tree) → bare_result (reached_directory upper t.nodes t.links path) ≡ Ok n → is_directory_kind n.kind ≡ true
unfolding reached_directory
kind_there upper path n t is = kind_by (reached upper t.nodes t.links path) (length path) n is

-- the directory that the walk leads to is of their kind
pub kind_known : (known : Option Tree) (upper : List ℕ) (path : List (List ℕ)) (n : Node)
    → IfSome known (λ t. ◌≡◌ {A = Result (Result Node Reply) (Unit {0})} (Ok (bare_result (reached_directory upper t.nodes t.links path))) (Ok (Ok n))) → IfSome known (λ t. is_directory_kind n.kind ≡ true)
kind_known known upper path n is = one known _ _ (λ t h. kind_there upper path n t (bare_is _ _ h)) is
