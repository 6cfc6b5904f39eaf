-- What a loaded volume counts is what its tree counts.
use Rattle.std.proofs.Common.{◌≡◌, ℕ, Bool, true, false, cond, ◌&&◌, List, length, Option, Some, None, Result, Ok, refl, sym, ap, subst, ◌∙◌}
use Rattle.std.specs.Prelude.{◌==◌, not, count_by, IfSome, if◌then◌else◌}
use Rattle.std.specs.Option.{ForSome}
use Rattle.host_base.specs.declared.file_ref.FileRef.{FileRef}
use Rattle.disk_model.specs.Content.{Content}
use Rattle.record_model.specs.Records.{Record}
use Rattle.file_tree.specs.declared.link.Link.{Link}
use Rattle.file_tree.specs.declared.node.Kind.TheVariants.{Directory, File, Fixed, Opaque, System}
use Rattle.file_tree.specs.declared.node.Node.{Node}
use Rattle.file_tree.specs.declared.tree.Tree.{Tree}
use Rattle.file_tree.specs.Trees.{is_directory_kind, is_directory}
use Rattle.file_tree.specs.Walks.{root}
use Rattle.state_model.specs.Files.{is_directory_record, record_links, file_links, links_at}
use Rattle.state_model.specs.Trees.{is_system}
use Rattle.volume_model.specs.Volumes.{Volume, files_by_number, count_of, file_in, bytes_or, cluster_bits}
use Rattle.volume_model.specs.Nodes.{is_unread, is_unchanged, kind_in, node_with, node_by, spare_numbers, free_clusters}
use Rattle.volume_lookup.specs.volume_state.Trees.{tree_with, tree_of}
use Rattle.volume_lookup.specs.volume_map.declared.map.VolumeMap.{VolumeMap}
use Rattle.volume_lookup.specs.volume_map.Heads.{spares_of}
use Rattle.volume_lookup.specs.volume_map.Maps.{IsMapOf, volume_in}
use Rattle.volume_lookup.proofs.volume_map.Heads.{spares}
use Rattle.tree_model.specs.Refusals.{is_in_system, is_system_kind, is_system_node}
use Rattle.tree_model.specs.Effects.{least_ref}
use Rattle.volume_lookup.specs.lookup_laws.Files.{is_own_file}
use Rattle.volume_lookup.proofs.lookup_laws.Climbing.{system_by_nodes}
use Rattle.volume_lookup.specs.Known.{known_tree}
use Rattle.volume_lookup.proofs.Asking.{IsAsked, of_tree, anything, directory_file}

-- ---- where the tree is known

pub if_some : {A : Type 0} (known : Option A) (P : A → Type 0) → ForSome known P → IfSome known P
if_some None P holds = tt
if_some (Some x) P holds = holds x refl

pub for_some : {A : Type 0} (known : Option A) (P : A → Type 0) → IfSome known P → ForSome known P
for_some None P holds x is = absurd cc
for_some (Some y) P holds x is = let same : y ≡ x = cc in subst P same holds

-- what follows for the tree from what was loaded
of_map : (known : Option Content) (upper : List ℕ) (m : VolumeMap) (P : Tree → Type 0) → ForSome known (λ c. IsMapOf c m) → ((c : Content) → IsMapOf c m → P (tree_of c (volume_in m))) → IfSome (known_tree upper (volume_in m) known) P
of_map known upper m P mapped f =
    of_tree known upper (volume_in m) (λ c. IsMapOf c m) (λ t. ℕ) P (λ c asked is any. f c is) (if_some known (λ c. IsMapOf c m) mapped) (anything known upper (volume_in m))

-- ---- counts

tree_room : (c : Content) (v : Volume) → (tree_of c v).room ≡ count_by not (cluster_bits c v)
unfolding tree_of tree_with free_clusters
tree_room c v = refl

tree_count : (c : Content) (v : Volume) → (tree_of c v).count ≡ count_of v
unfolding tree_of tree_with
tree_count c v = refl

tree_spare : (c : Content) (v : Volume) → (tree_of c v).spare ≡ spare_numbers c v
unfolding tree_of tree_with
tree_spare c v = refl

pub room_known : (known : Option Content) (upper : List ℕ) (m : VolumeMap) (room : ℕ) → ForSome known (λ c. IsMapOf c m) → room ≡ count_by not m.cluster_bits → IfSome (known_tree upper (volume_in m) known) (λ t. room ≡ t.room)
room_known known upper m room mapped is =
    of_map known upper m (λ t. room ≡ t.room) mapped (λ c k. is ∙ ap (count_by not) k.clusters ∙ sym (tree_room c (volume_in m)))

pub count_known : (known : Option Content) (upper : List ℕ) (m : VolumeMap) (count : ℕ) → ForSome known (λ c. IsMapOf c m) → count ≡ length m.files.items → IfSome (known_tree upper (volume_in m) known) (λ t. count ≡ t.count)
count_known known upper m count mapped is = of_map known upper m (λ t. count ≡ t.count) mapped (λ c k. is ∙ sym (tree_count c (volume_in m)))

pub spare_known : (known : Option Content) (upper : List ℕ) (m : VolumeMap) (least : Option FileRef) → ForSome known (λ c. IsMapOf c m) → least ≡ least_ref (spares_of m.heads.items m.record_bits)
    → IfSome (known_tree upper (volume_in m) known) (λ t. ◌≡◌ {A = Result (Option FileRef) (Unit {0})} (Ok (least_ref t.spare)) (Ok least))
spare_known known upper m least mapped is =
    of_map known upper m (λ t. ◌≡◌ {A = Result (Option FileRef) (Unit {0})} (Ok (least_ref t.spare)) (Ok least)) mapped
    (λ c k. ap (λ (o : Option FileRef). Ok o) (ap least_ref (tree_spare c (volume_in m) ∙ sym (spares m.heads.items m.record_bits c (volume_in m) k.heads k.records)) ∙ sym is))

-- ---- directories of the volume itself

directory_by : (a b d e : Bool) → a ≡ true → is_directory_kind (if a then Directory else if b then System else if d then Opaque else if e then Fixed else File) ≡ true
directory_by true b d e is = refl
directory_by false b d e is = absurd cc

directory_kind : (v : Volume) (n : ℕ) (r : Record) → is_directory_record r ≡ true → is_directory_kind (kind_in v n r) ≡ true
unfolding kind_in
directory_kind v n r is = directory_by (is_directory_record r) (is_system (files_by_number v) (count_of v) n (record_links n r)) (is_unread r) (is_unchanged r) is

by_way_up : (c : Content) (v : Volume) (n : ℕ) (r : Record) (nodes : List Node) (links : List Link) → is_directory_record r ≡ true → is_system_node nodes links (node_by (bytes_or c v.per) v n r) ≡ is_in_system links (length nodes) n
unfolding is_system_node node_by node_with
by_way_up c v n r nodes links is = ap (λ (t : Bool). cond t (is_in_system links (length nodes) n) (is_system_kind (kind_in v n r))) (directory_kind v n r is)

own_links : (v : Volume) (n : ℕ) (r : Record) → file_in v n ≡ Some r → record_links n r ≡ links_at (files_by_number v) n
unfolding links_at
own_links v n r is = sym (ap (file_links n) is)

own_file : (v : Volume) (n : ℕ) (r : Record) → file_in v n ≡ Some r → is_directory_record r ≡ true → is_own_file v n r ≡ (not (n == root) && is_system (files_by_number v) (count_of v) n (links_at (files_by_number v) n))
unfolding is_own_file
own_file v n r file is =
    ap (λ (t : Bool). not (t && n == root) && is_system (files_by_number v) (count_of v) n (record_links n r)) is
    ∙ ap (λ (links : List Link). not (n == root) && is_system (files_by_number v) (count_of v) n links) (own_links v n r file)

system_there : (upper : List ℕ) (c : Content) (v : Volume) (n : ℕ) → IsAsked upper v c → is_directory (tree_of c v).nodes n ≡ true
    → is_in_system (tree_of c v).links (length (tree_of c v).nodes) n ≡ (not (n == root) && is_system (files_by_number v) (count_of v) n (links_at (files_by_number v) n))
system_there upper c v n asked directory =
    let f = directory_file c v n directory in
    sym (by_way_up c v n f.record_of (tree_of c v).nodes (tree_of c v).links f.directory)
    ∙ system_by_nodes (bytes_or c v.per) c v (tree_of c v) n f.record_of (record { kept = asked.unbroken; tree = refl }) f.there
    ∙ own_file v n f.record_of f.there f.directory

any_content : (known : Option Content) → IfSome known (λ c. ℕ)
any_content None = tt
any_content (Some c) = 0

pub system_known : (known : Option Content) (upper : List ℕ) (v : Volume) (n : ℕ) (system : Bool) → IfSome (known_tree upper v known) (λ t. is_directory t.nodes n ≡ true) → system ≡ (not (n == root) && is_system (files_by_number v) (count_of v) n (links_at (files_by_number v) n))
    → IfSome (known_tree upper v known) (λ t. ◌≡◌ {A = Result Bool (Unit {0})} (Ok (is_in_system t.links (length t.nodes) n)) (Ok system))
system_known known upper v n system directory is =
    of_tree known upper v (λ c. ℕ) (λ t. is_directory t.nodes n ≡ true) (λ t. ◌≡◌ {A = Result Bool (Unit {0})} (Ok (is_in_system t.links (length t.nodes) n)) (Ok system))
    (λ c asked any there. ap (λ (b : Bool). Ok b) (system_there upper c v n asked there ∙ sym is)) (any_content known) directory
