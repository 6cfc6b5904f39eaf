-- The nodes of a volume where a file that keeps its names is replaced.
use Rattle.std.proofs.Common.{◌≡◌, ◌≢◌, ℕ, ◌<◌, ◌≤◌, Bool, true, cond, List, [], ◌∷◌, length, Option, Some, None, refl, ap, ◌∙◌, arith}
use Rattle.std.specs.List.{filter_map, cons_option, range_with_len, AllByRecursion}
use Rattle.volume_state.specs.record_model.Records.{Record}
use Rattle.volume_state.specs.file_tree.declared.link.Link.{Link}
use Rattle.volume_state.specs.file_tree.declared.node.Kind.{Kind}
use Rattle.volume_state.specs.file_tree.declared.node.Kind.TheVariants.{Directory, File, Fixed, Opaque, System}
use Rattle.volume_state.specs.state_model.declared.stream.Stream.{Stream}
use Rattle.volume_state.specs.state_model.Files.{Table, record_links, is_directory_record}
use Rattle.volume_state.specs.state_model.Loads.{table_in}
use Rattle.volume_state.specs.state_model.Trees.{first_parent, parent_at, leads, is_in_system, is_system, is_nameless}
use Rattle.volume_state.specs.volume_model.Volumes.{Volume, files_by_number, count_of, file_in}
use Rattle.volume_state.specs.volume_model.Nodes.{is_unread, is_unchanged, kind_in, data_shown, node_with, node_by, some_node, node_at, nodes_by}
use Rattle.stream_laws.specs.Replacing.{SameBut, OneFileDiffers}
use Rattle.stream_laws.specs.Rewrites.{with_files}
use Rattle.tree_laws.specs.Keeping.{PartReplaced, KeepsNames}
use Rattle.tree_laws.specs.Ways.{KeepsWays}
use Rattle.tree_laws.proofs.Splitting.{filter_replaced}
use Rattle.tree_laws.proofs.Ascending.{way_kept, in_system_kept, of_system_kept}
use Rattle.tree_laws.proofs.Naming.{names_everywhere, file_elsewhere, no_file}

-- ---- the way up

-- where all files keep their names
all_ways : (p q : Table) (n : ℕ) → SameBut n p q → KeepsNames n p q → KeepsWays (λ m. true) p q
all_ways p q n others keeps = record { names = λ m is. names_everywhere p q n others keeps m; up = λ m k is parent. refl }

pub all_inside : (links : List Link) → AllByRecursion (λ l. true ≡ true) links
all_inside [] = tt
all_inside (l ∷ links) = (refl, all_inside links)

pub parent_everywhere : (p q : Table) (n m : ℕ) → SameBut n p q → KeepsNames n p q → parent_at q m ≡ parent_at p m
unfolding parent_at
parent_everywhere p q n m others keeps = ap first_parent (names_everywhere p q n others keeps m)

pub way_everywhere : (p q : Table) (n most m : ℕ) → SameBut n p q → KeepsNames n p q → leads q most m ≡ leads p most m
way_everywhere p q n most m others keeps = way_kept (λ k. true) p q most m (all_ways p q n others keeps) refl

pub inside_everywhere : (p q : Table) (n most m : ℕ) → SameBut n p q → KeepsNames n p q → is_in_system q most m ≡ is_in_system p most m
inside_everywhere p q n most m others keeps = in_system_kept (λ k. true) p q most m (all_ways p q n others keeps) refl

pub system_everywhere : (p q : Table) (n count m : ℕ) (links : List Link) → SameBut n p q → KeepsNames n p q → is_system q count m links ≡ is_system p count m links
system_everywhere p q n count m links others keeps = of_system_kept (λ k. true) p q count m links (all_ways p q n others keeps) (all_inside links)

-- ---- kinds and nodes

kind_by : Record → Bool → Kind
kind_by r system = cond (is_directory_record r) Directory (cond system System (cond (is_unread r) Opaque (cond (is_unchanged r) Fixed File)))

-- a file's kind, by whether it is one of the volume itself
pub kind_from : (v w : Volume) (m : ℕ) (r : Record) → is_system (files_by_number w) (count_of w) m (record_links m r) ≡ is_system (files_by_number v) (count_of v) m (record_links m r) → kind_in w m r ≡ kind_in v m r
unfolding kind_in kind_by
kind_from v w m r same = ap (kind_by r) same

pub node_from : (bytes : Option Stream → List ℕ) (v w : Volume) (m : ℕ) (r : Record) → kind_in w m r ≡ kind_in v m r → some_node bytes w m (Some r) ≡ some_node bytes v m (Some r)
unfolding node_by
node_from bytes v w m r same = ap (λ (k : Kind). cond (is_nameless m r) None (Some (node_with m r k (data_shown k r) (bytes (data_shown k r))))) same

pub same_kind : (v : Volume) (files : List (Option Record)) (n m : ℕ) (r : Record) → OneFileDiffers n v.files files → KeepsNames n (table_in v.files) (table_in files) → kind_in (with_files v files) m r ≡ kind_in v m r
same_kind v files n m r differs keeps =
    kind_from v (with_files v files) m r
    (system_everywhere (table_in v.files) (table_in files) n (length files) m (record_links m r) differs.others keeps
    ∙ ap (λ (k : ℕ). is_system (table_in v.files) k m (record_links m r)) differs.count)

same_some_node : (bytes : Option Stream → List ℕ) (v : Volume) (files : List (Option Record)) (n m : ℕ) (o : Option Record) → OneFileDiffers n v.files files → KeepsNames n (table_in v.files) (table_in files) → some_node bytes (with_files v files) m o ≡ some_node bytes v m o
same_some_node bytes v files n m None differs keeps = refl
same_some_node bytes v files n m (Some r) differs keeps = node_from bytes v (with_files v files) m r (same_kind v files n m r differs keeps)

pub node_replaced : (bytes : Option Stream → List ℕ) (v : Volume) (files : List (Option Record)) (n : ℕ) → OneFileDiffers n v.files files → KeepsNames n (table_in v.files) (table_in files) → node_at bytes (with_files v files) n ≡ some_node bytes v n (file_in (with_files v files) n)
unfolding node_at
node_replaced bytes v files n differs keeps = same_some_node bytes v files n n (file_in (with_files v files) n) differs keeps

pub node_elsewhere : (bytes : Option Stream → List ℕ) (v : Volume) (files : List (Option Record)) (n m : ℕ) → OneFileDiffers n v.files files → KeepsNames n (table_in v.files) (table_in files) → m ≢ n → node_at bytes (with_files v files) m ≡ node_at bytes v m
unfolding node_at
node_elsewhere bytes v files n m differs keeps other =
    same_some_node bytes v files n m (file_in (with_files v files) m) differs keeps
    ∙ ap (some_node bytes v m) (file_elsewhere (table_in v.files) (table_in files) n m differs.others other)

pub no_node : (bytes : Option Stream → List ℕ) (v : Volume) (n : ℕ) → count_of v ≤ n → node_at bytes v n ≡ None
unfolding node_at
no_node bytes v n past = ap (some_node bytes v n) (no_file v.files n past)

-- where the other nodes stay, the list of all has one replaced
pub nodes_by_others : (bytes other_bytes : Option Stream → List ℕ) (v w : Volume) (n : ℕ) → count_of w ≡ count_of v → ((m : ℕ) → m < count_of v → m ≢ n → node_at other_bytes w m ≡ node_at bytes v m)
    → PartReplaced (cons_option (node_at bytes v n) []) (cons_option (node_at other_bytes w n) []) (nodes_by bytes v) (nodes_by other_bytes w)
unfolding nodes_by
nodes_by_others bytes other_bytes v w n count others =
    let replaced = filter_replaced (node_at bytes v) (node_at other_bytes w) n (count_of v) others (no_node bytes v n) (λ past. no_node other_bytes w n (omega arith)) in
    record {
      front = replaced.front;
      behind = replaced.behind;
      was = replaced.was;
      is = ap (λ (k : ℕ). filter_map (node_at other_bytes w) (range_with_len 0 k)) count ∙ replaced.is;
    }

pub nodes_replaced : (bytes : Option Stream → List ℕ) (v : Volume) (files : List (Option Record)) (n : ℕ) → OneFileDiffers n v.files files → KeepsNames n (table_in v.files) (table_in files)
    → PartReplaced (cons_option (node_at bytes v n) []) (cons_option (node_at bytes (with_files v files) n) []) (nodes_by bytes v) (nodes_by bytes (with_files v files))
nodes_replaced bytes v files n differs keeps =
    nodes_by_others bytes bytes v (with_files v files) n differs.count (λ m below other. node_elsewhere bytes v files n m differs keeps other)
