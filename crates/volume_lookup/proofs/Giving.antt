-- What the calls on a loaded volume give is what the tree is asked for.
use Rattle.std.proofs.Common.{◌≡◌, ℕ, true, List, Option, Result, Ok, Err, sym, ap, subst, ◌∙◌}
use Rattle.std.specs.Prelude.{IfSome}
use Rattle.host_base.specs.Answers.{Gives, GivesOrFails}
use Rattle.disk_model.specs.Content.{Content}
use Rattle.file_tree.specs.declared.node.Node.{Node}
use Rattle.file_tree.specs.declared.link.Link.{Link}
use Rattle.file_tree.specs.Trees.{is_directory, look_up, long_names_of, IsListing}
use Rattle.record_rules.specs.state_model.Files.{links_at}
use Rattle.record_rules.specs.state_model.Rules.{long_count}
use Rattle.volume_tree.specs.volume_model.Volumes.{Volume, files_by_number}
use Rattle.volume_tree.specs.volume_model.Nodes.{no_bytes, node_at}
use Rattle.volume_tree.specs.volume_state.Trees.{tree_of}
use Rattle.lookup_laws.proofs.Owning.{own_long_names}
use Rattle.tree_lookup.specs.declared.fault.LookupFault.{LookupFault}
use Rattle.tree_lookup.specs.declared.fault.LookupFault.TheVariants.{Outside, Memory, Broken}
use Rattle.tree_lookup.specs.Asked.{lookup_cause, bare_at, AnswersOrFails}
use Rattle.volume_lookup.specs.Found.{link_found, names_held}
use Rattle.volume_lookup.specs.Known.{known_tree}
use Rattle.volume_lookup.proofs.Asking.{IsAsked, of_tree, of_each, bare_in_tree, tree_links}
use Rattle.volume_lookup.proofs.Seeking.{link_in_tree, listing_in_tree}

-- what a call gives that reaches nothing outside, it gives or fails
gives_or_fails : {X Y : Type 0} (view : X → Y) (result : Result X LookupFault) (meant : Result Y (Unit {0})) → Gives view lookup_cause result meant → GivesOrFails view lookup_cause result meant
gives_or_fails view (Ok x) meant gives = gives
gives_or_fails view (Err Outside) meant gives = tt
gives_or_fails view (Err Memory) meant gives = tt
gives_or_fails view (Err Broken) meant gives = gives

node_given : (c : Content) (v : Volume) (n : ℕ) (result : Result (Option Node) LookupFault) → Gives (λ node. node) lookup_cause result (Ok (node_at no_bytes v n)) → GivesOrFails (λ node. node) lookup_cause result (Ok (bare_at (tree_of c v).nodes n))
node_given c v n result gives = subst (λ (node : Option Node). GivesOrFails (λ node. node) lookup_cause result (Ok node)) (sym (bare_in_tree c v n)) (gives_or_fails (λ (node : Option Node). node) result (Ok (node_at no_bytes v n)) gives)

link_given : (c : Content) (v : Volume) (upper : List ℕ) (n : ℕ) (part : List ℕ) (result : Result (Option Link) LookupFault) → IsAsked upper v c → is_directory (tree_of c v).nodes n ≡ true
    → GivesOrFails (λ link. link) lookup_cause result (link_found c v upper n part) → GivesOrFails (λ link. link) lookup_cause result (Ok (look_up upper (tree_of c v).links n part))
link_given c v upper n part result asked is gives = subst (λ (meant : Result (Option Link) (Unit {0})). GivesOrFails (λ link. link) lookup_cause result meant) (link_in_tree c v upper n part asked is) gives

long_names : (c : Content) (v : Volume) (n : ℕ) → long_names_of (tree_of c v).links n ≡ long_count (links_at (files_by_number v) n)
long_names c v n = ap (λ (links : List Link). long_names_of links n) (tree_links c v) ∙ own_long_names v.files n

-- ---- where the tree is known

pub node_known : (known : Option Content) (upper : List ℕ) (v : Volume) (n : ℕ) (result : Result (Option Node) LookupFault) → Gives (λ node. node) lookup_cause result (Ok (node_at no_bytes v n))
    → IfSome (known_tree upper v known) (λ t. GivesOrFails (λ node. node) lookup_cause result (Ok (bare_at t.nodes n)))
node_known known upper v n result gives = of_each known upper v (λ t. GivesOrFails (λ node. node) lookup_cause result (Ok (bare_at t.nodes n))) (λ c. node_given c v n result gives)

pub count_known : (known : Option Content) (upper : List ℕ) (v : Volume) (n count : ℕ) → count ≡ long_count (links_at (files_by_number v) n) → IfSome (known_tree upper v known) (λ t. ◌≡◌ {A = Result ℕ (Unit {0})} (Ok (long_names_of t.links n)) (Ok count))
count_known known upper v n count is = of_each known upper v (λ t. ◌≡◌ {A = Result ℕ (Unit {0})} (Ok (long_names_of t.links n)) (Ok count)) (λ c. ap (λ (x : ℕ). Ok x) (long_names c v n ∙ sym is))

pub link_known : (known : Option Content) (upper : List ℕ) (v : Volume) (n : ℕ) (part : List ℕ) (result : Result (Option Link) LookupFault) → IfSome known (λ c. GivesOrFails (λ link. link) lookup_cause result (link_found c v upper n part))
    → IfSome (known_tree upper v known) (λ t. is_directory t.nodes n ≡ true) → IfSome (known_tree upper v known) (λ t. GivesOrFails (λ link. link) lookup_cause result (Ok (look_up upper t.links n part)))
link_known known upper v n part result gives directory =
    of_tree known upper v (λ c. GivesOrFails (λ link. link) lookup_cause result (link_found c v upper n part)) (λ t. is_directory t.nodes n ≡ true) (λ t. GivesOrFails (λ link. link) lookup_cause result (Ok (look_up upper t.links n part)))
    (λ c asked q d. link_given c v upper n part result asked d q) gives directory

pub listing_known : (known : Option Content) (upper : List ℕ) (v : Volume) (n : ℕ) (result : Result (List (List ℕ)) LookupFault) → IfSome known (λ c. GivesOrFails (λ names. names) lookup_cause result (names_held c v upper n))
    → IfSome (known_tree upper v known) (λ t. is_directory t.nodes n ≡ true) → IfSome (known_tree upper v known) (λ t. AnswersOrFails result (λ names. IsListing upper t.links n names))
listing_known known upper v n result gives directory =
    of_tree known upper v (λ c. GivesOrFails (λ names. names) lookup_cause result (names_held c v upper n)) (λ t. is_directory t.nodes n ≡ true) (λ t. AnswersOrFails result (λ names. IsListing upper t.links n names))
    (λ c asked q d. listing_in_tree c v upper n result asked d q) gives directory
