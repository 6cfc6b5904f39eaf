-- A search and a walk of a directory's own index answer for the names of the tree.
use Rattle.std.proofs.Common.{◌≡◌, ℕ, true, List, Option, Some, None, Result, Ok, Err, refl, sym, ap, subst, ◌∙◌}
use Rattle.std.specs.Option.{option_map}
use Rattle.host_base.specs.Answers.{◌>>=◌, GivesOrFails}
use Rattle.disk_model.specs.Content.{Content}
use Rattle.volume_tree.specs.record_model.Records.{Record}
use Rattle.file_tree.specs.declared.link.Link.{Link}
use Rattle.file_tree.specs.Trees.{is_directory, look_up, IsListing}
use Rattle.volume_tree.specs.index_model.Indexes.{Place}
use Rattle.volume_tree.specs.index_model.Walks.{Broken, walk_of, find_of}
use Rattle.volume_tree.proofs.index_model.WalkLaw.{passed_walk}
use Rattle.directory_index.proofs.index_tree.FindLaw.{find_passes}
use Rattle.record_rules.specs.state_model.Trees.{all_links}
use Rattle.volume_tree.specs.volume_model.Volumes.{Volume, files_by_number, count_of, upper_of}
use Rattle.volume_tree.specs.volume_model.Indexes.{index_place, root_value, links_read, links_below, index_links}
use Rattle.volume_tree.specs.volume_state.Rules.{first_broken}
use Rattle.volume_tree.specs.volume_state.Trees.{tree_of}
use Rattle.lookup_laws.proofs.tree_laws.Keeping.{rules_of}
use Rattle.lookup_laws.specs.Names.{chosen_of, named_so, long_units}
use Rattle.lookup_laws.specs.Directories.{AreNamesThere}
use Rattle.lookup_laws.proofs.Holding.{held_by_index}
use Rattle.lookup_laws.proofs.Finding.{found_by_index, listed_by_index}
use Rattle.tree_lookup.specs.declared.fault.LookupFault.{LookupFault}
use Rattle.tree_lookup.specs.declared.fault.LookupFault.TheVariants.{Outside, Memory, Broken as NoTree}
use Rattle.tree_lookup.specs.Asked.{lookup_cause, AnswersOrFails}
use Rattle.volume_lookup.specs.Found.{Rooted, some_or_none, or_none, rooted_in, index_at, link_found, links_in, links_held, names_held}
use Rattle.volume_lookup.proofs.Asking.{IsAsked, IsDirectoryFile, directory_file, tree_links}

-- ---- the index of a directory

-- its root, and the links that a walk gives
record Walked (c : Content) (v : Volume) (upper : List ℕ) (n : ℕ) (r : Record) (links : List Link) : Type 0 where
  value : List ℕ
  root : root_value r ≡ Some value
  walked : walk_of c (index_place v.per r) upper value ≡ Ok links

read_links : (walked : Result (List Link) Broken) (links : List Link) → links_read walked ≡ Some links → walked ≡ Ok links
read_links (Ok others) links is = let same : others ≡ links = cc in ap (λ (x : List Link). Ok x) same
read_links (Err broken) links is = absurd cc

below_root : (c : Content) (v : Volume) (upper : List ℕ) (n : ℕ) (r : Record) (links : List Link) (o : Option (List ℕ)) → root_value r ≡ o → links_below c (index_place v.per r) upper o ≡ Some links → Walked c v upper n r links
below_root c v upper n r links None same is = absurd cc
below_root c v upper n r links (Some value) same is = record { value = value; root = same; walked = read_links (walk_of c (index_place v.per r) upper value) links is }

walked_links : (c : Content) (v : Volume) (upper : List ℕ) (n : ℕ) (r : Record) (links : List Link) → index_links c v.per upper r ≡ Some links → Walked c v upper n r links
unfolding index_links
walked_links c v upper n r links is = below_root c v upper n r links (root_value r) refl is

search_gives : (c : Content) (p : Place) (upper name value : List ℕ) (links : List Link) → walk_of c p upper value ≡ Ok links → find_of c p upper name value ≡ Ok (named_so upper name links)
search_gives c p upper name value links is =
    let w = passed_walk c p upper value links is in
    find_passes c p upper name value w.0 w.1 ∙ ap (λ (x : List Link). Ok (named_so upper name x)) (sym w.2)

-- ---- what stands there

record Standing (c : Content) (v : Volume) (n : ℕ) : Type 0 where
  file : IsDirectoryFile v n
  links : List Link
  held : index_links c v.per (upper_of c v) file.record_of ≡ Some links
  names : AreNamesThere (upper_of c v) (all_links (files_by_number v) (count_of v)) n links

standing : (c : Content) (v : Volume) (n : ℕ) → first_broken c v ≡ None → is_directory (tree_of c v).nodes n ≡ true → Standing c v n
standing c v n kept is =
    let rules = rules_of c v kept in
    let file = directory_file c v n is in
    let held = held_by_index c v n file.record_of rules.rule_2 rules.rule_3 file.there file.directory in
    record { file = file; links = held.0; held = held.1; names = held.2 }

-- ---- a search

found_there : (c : Content) (v : Volume) (n : ℕ) (part : List ℕ) (s : Standing c v n) → link_found c v (upper_of c v) n part ≡ Ok (chosen_of part (named_so (upper_of c v) part s.links))
unfolding link_found index_at
found_there c v n part s =
    let upper = upper_of c v in
    let r = s.file.record_of in
    let w = walked_links c v upper n r s.links s.held in
    let rooted : Rooted = record { place = index_place v.per r; root = w.value } in
    let at : index_at v n ≡ Ok rooted = ap (λ (o : Option Record). some_or_none (rooted_in v.per o)) s.file.there ∙ ap (λ (o : Option (List ℕ)). some_or_none (option_map (λ (value : List ℕ). record { place = index_place v.per r; root = value }) o)) w.root in
    ap (λ (i : Result Rooted (Unit {0})). i >>= λ i. or_none (find_of c i.place upper part i.root) >>= λ links. Ok (chosen_of part links)) at
    ∙ ap (λ (found : Result (List Link) Broken). or_none found >>= λ links. Ok (chosen_of part links)) (search_gives c (index_place v.per r) upper part w.value s.links w.walked)

-- the link that a search of the index chooses is the one that a look-up among all names finds
pub link_in_tree : (c : Content) (v : Volume) (upper : List ℕ) (n : ℕ) (part : List ℕ) → IsAsked upper v c → is_directory (tree_of c v).nodes n ≡ true → link_found c v upper n part ≡ Ok (look_up upper (tree_of c v).links n part)
link_in_tree c v upper n part asked is =
    let s = standing c v n asked.unbroken is in
    let all = all_links (files_by_number v) (count_of v) in
    ap (λ (u : List ℕ). link_found c v u n part) asked.table
    ∙ found_there c v n part s
    ∙ ap (λ (l : Option Link). Ok l) (sym (found_by_index (upper_of c v) all n s.links part s.names))
    ∙ ap (λ (u : List ℕ). Ok (look_up u all n part)) (sym asked.table)
    ∙ ap (λ (links : List Link). Ok (look_up upper links n part)) (sym (tree_links c v))

-- ---- a walk

listed_there : (c : Content) (v : Volume) (n : ℕ) (s : Standing c v n) → names_held c v (upper_of c v) n ≡ Ok (long_units s.links)
unfolding names_held links_held
listed_there c v n s =
    ap (λ (o : Option Record). some_or_none (links_in c v.per (upper_of c v) o) >>= λ links. Ok (long_units links)) s.file.there
    ∙ ap (λ (o : Option (List Link)). some_or_none o >>= λ links. Ok (long_units links)) s.held

so_answered : (P : List (List ℕ) → Type 0) (names : List (List ℕ)) (result : Result (List (List ℕ)) LookupFault) (meant : Result (List (List ℕ)) (Unit {0})) → GivesOrFails (λ names. names) lookup_cause result meant → meant ≡ Ok names → P names → AnswersOrFails result P
so_answered P names (Ok others) meant gives is holds = let same : ◌≡◌ {A = Result (List (List ℕ)) (Unit {0})} (Ok names) (Ok others) = sym is ∙ gives in let equal : names ≡ others = cc in subst P equal holds
so_answered P names (Err Outside) meant gives is holds = tt
so_answered P names (Err Memory) meant gives is holds = tt
so_answered P names (Err NoTree) meant gives is holds = let none : ◌≡◌ {A = Result (List (List ℕ)) (Unit {0})} (Ok names) (Err tt) = sym is ∙ gives in absurd cc

-- the long names of the index are the listing
pub listing_in_tree : (c : Content) (v : Volume) (upper : List ℕ) (n : ℕ) (result : Result (List (List ℕ)) LookupFault) → IsAsked upper v c → is_directory (tree_of c v).nodes n ≡ true
    → GivesOrFails (λ names. names) lookup_cause result (names_held c v upper n) → AnswersOrFails result (λ names. IsListing upper (tree_of c v).links n names)
listing_in_tree c v upper n result asked is gives =
    let s = standing c v n asked.unbroken is in
    let all = all_links (files_by_number v) (count_of v) in
    so_answered (λ names. IsListing upper (tree_of c v).links n names) (long_units s.links) result (names_held c v upper n) gives
    (ap (λ (u : List ℕ). names_held c v u n) asked.table ∙ listed_there c v n s)
    (subst (λ (u : List ℕ). IsListing u (tree_of c v).links n (long_units s.links)) (sym asked.table)
    (subst (λ (links : List Link). IsListing (upper_of c v) links n (long_units s.links)) (sym (tree_links c v)) (listed_by_index (upper_of c v) all n s.links s.names)))
