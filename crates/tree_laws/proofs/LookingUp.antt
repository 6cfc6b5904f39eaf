-- The tree after some files change, by look-up.
use Rattle.std.proofs.Common.{◌≡◌, ℕ, ◌-◌, ◌<◌, Bool, true, false, cond, ◌&&◌, leb, ltb, List, [], ◌∷◌, ◌++◌, length, get_or, set, Option, Some, None, refl, sym, ap, subst, ◌∙◌, inl, inr, arith}
use Rattle.std.specs.List.Sorted.{IsPermutation}
use Rattle.std.proofs.lemmas.Bool.{cases_lt, and_from, or_parts, le-leb, lt-ltb, lt-leb, le-ltb, leb-false}
use Rattle.std.proofs.lemmas.List.{append_assoc, get_or-set_same, get_or-set_other}
use Rattle.std.proofs.lemmas.List.Sorted.{IsPermutation-refl, IsPermutation-sym, IsPermutation-trans, IsPermutation-append_left, IsPermutation-append_right, IsPermutation-append_comm}
use Rattle.std.proofs.Math.ListN.{length-set}
use Rattle.volume_state.specs.host_base.declared.file_ref.FileRef.{FileRef}
use Rattle.volume_state.specs.disk_model.Content.{Content}
use Rattle.volume_state.specs.record_model.Records.{Record}
use Rattle.volume_state.specs.file_tree.declared.link.Link.{Link}
use Rattle.volume_state.specs.file_tree.declared.node.Node.{Node}
use Rattle.volume_state.specs.file_tree.declared.tree.Tree.{Tree}
use Rattle.volume_state.specs.file_tree.Trees.{node_at as node_by_number}
use Rattle.volume_state.specs.bit_set.Bits.{bit}
use Rattle.volume_state.specs.state_model.declared.stream.Extents.{Extents}
use Rattle.volume_state.specs.state_model.Files.{only_base, file_at, file_links, links_at}
use Rattle.volume_state.specs.state_model.Loads.{table_in}
use Rattle.volume_state.specs.file_tree.Walks.{first_user_record}
use Rattle.volume_state.specs.state_model.Trees.{all_links}
use Rattle.volume_state.specs.volume_model.Volumes.{Volume, count_of, bytes_or, record_bits, record_bytes}
use Rattle.volume_state.specs.volume_model.Nodes.{node_at, spare_sequence, spare_at, spare_numbers, free_clusters}
use Rattle.volume_state.specs.Trees.{Holds, volume_journal, tree_with, tree_of}
use Rattle.stream_laws.specs.Replacing.{OneFileDiffers, FileEdit, with_edits, LeaveNumber, AreEdits, edit_links}
use Rattle.stream_laws.specs.Rewrites.{with_files}
use Rattle.tree_laws.specs.Changed.{TouchesFiles, AgreesElsewhere}
use Rattle.tree_laws.specs.Contents.{SameShownAt}
use Rattle.tree_laws.specs.Growth.{grown, GrowsTable}
use Rattle.tree_laws.specs.Keeping.{PartReplaced}
use Rattle.tree_laws.specs.LookUps.{spare_by_number, spare_of, links_lost, links_gained, TreeLedTo, touched_or_new}
use Rattle.tree_laws.proofs.Changing.{untouched_node, untouched_spare}
use Rattle.tree_laws.proofs.Counting.{room_balance}
use Rattle.tree_laws.proofs.Finding.{IsNumbered, among, not_among}
use Rattle.tree_laws.proofs.Growing.{grown_tree, spare_before}
use Rattle.tree_laws.proofs.Naming.{links_of_all}
use Rattle.tree_laws.proofs.Numbering.{found_by_number}

-- ---- spare numbers

spare_is : (t : Bool) (m n : ℕ) (r : FileRef) → r.number ≡ m → (s : FileRef) → cond t None (Some r) ≡ Some s → s.number ≡ m
spare_is true m n r number s is = absurd cc
spare_is false m n r number s is = let same : r ≡ s = cc in ap (λ (x : FileRef). x.number) (sym same) ∙ number

spares_numbered : (c : Content) (v : Volume) → IsNumbered (λ (s : FileRef). s.number) (spare_at c v)
unfolding spare_at
spares_numbered c v m s is = spare_is (bit (record_bits c v) m) m m (record { number = m; seq = spare_sequence (record_bytes c v m) }) refl s is

pub spare_found : (c : Content) (v : Volume) (n : ℕ) → spare_by_number (spare_numbers c v) n ≡ spare_of c v n
unfolding spare_numbers
spare_found c v n =
    let number : FileRef → ℕ = λ s. s.number in
    let most = count_of v - first_user_record in
    elim (cases_lt n first_user_record) [
      | inl system ↦
          not_among number (spare_at c v) (spares_numbered c v) n first_user_record most (λ m low high same. omega (arith, system, same))
          ∙ sym (ap (λ (t : Bool). cond (t && ltb n (count_of v)) (spare_at c v n) None) (lt-leb first_user_record n system))
      | inr user ↦ elim (cases_lt n (count_of v)) [
        | inl below ↦
            among number (spare_at c v) (spares_numbered c v) n first_user_record most user (omega (arith, user, below))
            ∙ sym (ap (λ (t : Bool). cond t (spare_at c v n) None) (and_from _ _ (le-leb first_user_record n user) (lt-ltb n (count_of v) below)))
        | inr past ↦
            not_among number (spare_at c v) (spares_numbered c v) n first_user_record most (λ m low high same. omega (arith, past, same, low, high))
            ∙ sym (ap (λ (t : Bool). cond (t && ltb n (count_of v)) (spare_at c v n) None) (le-leb first_user_record n user) ∙ ap (λ (t : Bool). cond t (spare_at c v n) None) (le-ltb n (count_of v) past))
      ]
    ]

-- the same number is spare in two volumes where it is by their bits and records
spare_same_of : (c d : Content) (v w : Volume) (n : ℕ) → count_of w ≡ count_of v → (n < count_of v → spare_at d w n ≡ spare_at c v n) → spare_of d w n ≡ spare_of c v n
spare_same_of c d v w n count same = elim (cases_lt n (count_of v)) [
  | inl below ↦ ap (λ (k : ℕ). cond (leb first_user_record n && ltb n k) (spare_at d w n) None) count ∙ ap (λ (o : Option FileRef). cond (leb first_user_record n && ltb n (count_of v)) o None) (same below)
  | inr past ↦ none_at (leb first_user_record n) (ltb n (count_of w)) (spare_at d w n) (le-ltb n (count_of w) (omega (arith, past, count))) ∙ sym (none_at (leb first_user_record n) (ltb n (count_of v)) (spare_at c v n) (le-ltb n (count_of v) past))
]
  where
    none_at : (s t : Bool) (o : Option FileRef) → t ≡ false → cond (s && t) o None ≡ None
    none_at true t o is = ap (λ (b : Bool). cond b o None) is
    none_at false t o is = refl

-- ---- links

-- the last two of three lists change places
swapped : (xs ys zs : List Link) → IsPermutation ((xs ++ ys) ++ zs) ((xs ++ zs) ++ ys)
swapped xs ys zs =
    subst (λ (l : List Link). IsPermutation l ((xs ++ zs) ++ ys)) (sym (append_assoc xs ys zs))
    (subst (IsPermutation (xs ++ (ys ++ zs))) (sym (append_assoc xs zs ys)) (IsPermutation-append_right xs (ys ++ zs) (zs ++ ys) (IsPermutation-append_comm ys zs)))

gathered : (front part behind other : List Link) → IsPermutation ((front ++ (part ++ behind)) ++ other) (front ++ ((part ++ other) ++ behind))
gathered front part behind other =
    subst (λ (l : List Link). IsPermutation l (front ++ ((part ++ other) ++ behind))) (sym (append_assoc front (part ++ behind) other))
    (IsPermutation-append_right front ((part ++ behind) ++ other) ((part ++ other) ++ behind) (swapped part behind other))

-- a list with what went is the old list with what came
pub exchanged : (part new_part old new : List Link) → PartReplaced part new_part old new → IsPermutation (new ++ part) (old ++ new_part)
exchanged part new_part old new replaced =
    let front = replaced.front in
    let behind = replaced.behind in
    let now = gathered front new_part behind part in
    let before = gathered front part behind new_part in
    let middle = IsPermutation-append_right front ((new_part ++ part) ++ behind) ((part ++ new_part) ++ behind) (IsPermutation-append_left behind (new_part ++ part) (part ++ new_part) (IsPermutation-append_comm new_part part)) in
    subst (λ (l : List Link). IsPermutation (l ++ part) (old ++ new_part)) (sym replaced.is)
    (subst (λ (l : List Link). IsPermutation ((front ++ (new_part ++ behind)) ++ part) (l ++ new_part)) (sym replaced.was)
    (IsPermutation-trans _ _ _ now (IsPermutation-trans _ _ _ middle (IsPermutation-sym _ _ before))))

edit_differs : (files : List (Option Record)) (e : FileEdit) → e.number < length files → OneFileDiffers e.number files (set files e.number e.file)
edit_differs files e within = record { count = length-set files e.number e.file; others = λ m other. get_or-set_other files e.number m e.file None other }

edit_names : (files : List (Option Record)) (e : FileEdit) → e.number < length files → links_at (table_in (set files e.number e.file)) e.number ≡ edit_links e
unfolding links_at file_at
edit_names files e within = ap (λ (o : Option Record). file_links e.number (only_base o)) (get_or-set_same files e.number e.file None within)

same_lost : (files : List (Option Record)) (n : ℕ) (file : Option Record) (edits : List FileEdit) → LeaveNumber n edits → links_lost (set files n file) edits ≡ links_lost files edits
unfolding links_at file_at
same_lost files n file [] leave = refl
same_lost files n file (e ∷ edits) leave =
    ap (λ (o : Option Record). file_links e.number (only_base o) ++ links_lost (set files n file) edits) (get_or-set_other files n e.number file None leave.0)
    ∙ ap (λ (l : List Link). file_links e.number (only_base (get_or files e.number None)) ++ l) (same_lost files n file edits leave.1)

pub links_exchanged : (files : List (Option Record)) (edits : List FileEdit) (count : ℕ) → length files ≡ count → AreEdits count edits
    → IsPermutation (all_links (table_in (with_edits edits files)) count ++ links_lost files edits) (all_links (table_in files) count ++ links_gained edits)
links_exchanged files [] count size are = IsPermutation-refl (all_links (table_in files) count ++ [])
links_exchanged files (e ∷ edits) count size are =
    let next = set files e.number e.file in
    let last = all_links (table_in (with_edits edits next)) count in
    let middle = all_links (table_in next) count in
    let first = all_links (table_in files) count in
    let part = links_at (table_in files) e.number in
    let new_part = edit_links e in
    let within : e.number < length files = omega (arith, size, are.0) in
    let long : length next ≡ count = length-set files e.number e.file ∙ size in
    let replaced = links_of_all files next e.number (edit_differs files e within) in
    let here : IsPermutation (middle ++ part) (first ++ new_part) =
    subst (λ (l : List Link). IsPermutation (middle ++ part) (first ++ l)) (edit_names files e within)
    (subst (λ (k : ℕ). IsPermutation (all_links (table_in next) count ++ part) (all_links (table_in files) k ++ links_at (table_in next) e.number)) size
    (subst (λ (k : ℕ). IsPermutation (all_links (table_in next) k ++ part) (all_links (table_in files) (length files) ++ links_at (table_in next) e.number)) long
    (exchanged part (links_at (table_in next) e.number) (all_links (table_in files) (length files)) (all_links (table_in next) (length next)) replaced)))
    in
    let rest : IsPermutation (last ++ links_lost files edits) (middle ++ links_gained edits) = subst (λ (l : List Link). IsPermutation (last ++ l) (middle ++ links_gained edits)) (same_lost files e.number e.file edits are.1) (links_exchanged next edits count long are.2) in
    let lost = links_lost files edits in
    let gained = links_gained edits in
    let one : IsPermutation (last ++ (part ++ lost)) ((last ++ lost) ++ part) = subst (λ (l : List Link). IsPermutation l ((last ++ lost) ++ part)) (append_assoc last part lost) (swapped last part lost) in
    let two : IsPermutation ((last ++ lost) ++ part) ((middle ++ gained) ++ part) = IsPermutation-append_left part (last ++ lost) (middle ++ gained) rest in
    let three : IsPermutation ((middle ++ gained) ++ part) ((middle ++ part) ++ gained) = swapped middle gained part in
    let four : IsPermutation ((middle ++ part) ++ gained) ((first ++ new_part) ++ gained) = IsPermutation-append_left gained (middle ++ part) (first ++ new_part) here in
    let all = IsPermutation-trans _ _ _ one (IsPermutation-trans _ _ _ two (IsPermutation-trans _ _ _ three four)) in
    subst (IsPermutation (last ++ (part ++ lost))) (append_assoc first new_part gained) all

pub all_exchanged : (files : List (Option Record)) (edits : List FileEdit) → AreEdits (length files) edits
    → IsPermutation (all_links (table_in (with_edits edits files)) (length files) ++ links_lost files edits) (all_links (table_in files) (length files) ++ links_gained edits)
all_exchanged files edits are = links_exchanged files edits (length files) refl are

-- ---- the tree

-- of the tree of a volume
node_of_tree : (c : Content) (v : Volume) (n : ℕ) → node_by_number (tree_of c v).nodes n ≡ node_at (bytes_or c v.per) v n
unfolding tree_of tree_with
node_of_tree c v n = found_by_number (bytes_or c v.per) v n

spare_of_tree : (c : Content) (v : Volume) (n : ℕ) → spare_by_number (tree_of c v).spare n ≡ spare_of c v n
unfolding tree_of tree_with
spare_of_tree c v n = spare_found c v n

links_of_tree : (c : Content) (v : Volume) → (tree_of c v).links ≡ all_links (table_in v.files) (count_of v)
unfolding tree_of tree_with
links_of_tree c v = refl

room_of_tree : (c : Content) (v : Volume) → (tree_of c v).room ≡ free_clusters c v
unfolding tree_of tree_with
room_of_tree c v = refl

count_of_tree : (c : Content) (v : Volume) → (tree_of c v).count ≡ count_of v
unfolding tree_of tree_with
count_of_tree c v = refl

journal_of_tree : (c : Content) (v : Volume) → (tree_of c v).journal ≡ volume_journal c v
unfolding tree_of tree_with
journal_of_tree c v = refl

led_from : (touched inside : ℕ → Bool) (c d : Content) (v : Volume) (edits : List FileEdit) → AreEdits (count_of v) edits → TouchesFiles touched inside v.files (with_edits edits v.files) → AgreesElsewhere touched c d v (with_files v (with_edits edits v.files))
    → ((m : ℕ) → touched m ≡ false → SameShownAt c d v m) → TreeLedTo touched c d v (with_files v (with_edits edits v.files)) (links_lost v.files edits) (links_gained edits) (tree_of c v) (tree_of d (with_files v (with_edits edits v.files)))
led_from touched inside c d v edits are touches agree shown =
    let files = with_edits edits v.files in
    let w = with_files v files in
    record {
      node = node_of_tree d w;
      other_node = λ n other. node_of_tree d w n ∙ untouched_node touched inside c d v files n touches other (shown n other) ∙ sym (node_of_tree c v n);
      links =
          subst (λ (l : List Link). IsPermutation (l ++ links_lost v.files edits) ((tree_of c v).links ++ links_gained edits)) (sym (links_of_tree d w))
          (subst (λ (l : List Link). IsPermutation (all_links (table_in files) (count_of w) ++ links_lost v.files edits) (l ++ links_gained edits)) (sym (links_of_tree c v))
          (subst (λ (k : ℕ). IsPermutation (all_links (table_in files) k ++ links_lost v.files edits) (all_links (table_in v.files) (count_of v) ++ links_gained edits)) (sym touches.count) (all_exchanged v.files edits are)));
      spare = spare_of_tree d w;
      other_spare = λ n other.
          spare_of_tree d w n
          ∙ spare_same_of c d v w n touches.count (λ below. untouched_spare touched inside c d v files n touches agree below other)
          ∙ sym (spare_of_tree c v n);
      count = count_of_tree d w;
      journal = journal_of_tree d w;
      room = (let sums = room_balance c d v w refl in omega (arith, sums, room_of_tree d w, room_of_tree c v));
    }

pub led_by_edits : (touched inside : ℕ → Bool) (c d : Content) (v : Volume) (edits : List FileEdit) (t : Tree) → Holds c v t → AreEdits (count_of v) edits → TouchesFiles touched inside v.files (with_edits edits v.files) → AgreesElsewhere touched c d v (with_files v (with_edits edits v.files))
    → ((m : ℕ) → touched m ≡ false → SameShownAt c d v m) → TreeLedTo touched c d v (with_files v (with_edits edits v.files)) (links_lost v.files edits) (links_gained edits) t (tree_of d (with_files v (with_edits edits v.files)))
led_by_edits touched inside c d v edits t holds are touches agree shown = rw holds.tree (led_from touched inside c d v edits are touches agree shown)

-- ---- a table that grows

pub led_by_growth : (touched : ℕ → Bool) (c d : Content) (v w : Volume) (f : Extents) (gone came : List Link) (t u : Tree) → w.clusters ≡ v.clusters → Holds c v t → Holds d w u → TreeLedTo touched c d v w gone came t u → GrowsTable d w f
    → TreeLedTo (touched_or_new touched (count_of w)) c d v (grown w f) gone came t (tree_of d (grown w f))
led_by_growth touched c d v w f gone came t u clusters holds now led grows =
    let new = grown w f in
    let same = grown_tree d w f u now grows in
    record {
      node = node_of_tree d new;
      other_node = λ n other. (let parts = or_parts (touched n) (leb (count_of w) n) other in ap (λ (l : List Node). node_by_number l n) same.nodes ∙ led.other_node n parts.0);
      links = subst (λ (l : List Link). IsPermutation (l ++ gone) (t.links ++ came)) (sym same.links) led.links;
      spare = spare_of_tree d new;
      other_spare = λ n other.
          (let parts = or_parts (touched n) (leb (count_of w) n) other in
          spare_of_tree d new n ∙ spare_before d w f grows n (leb-false (count_of w) n parts.1) ∙ sym (led.spare n) ∙ led.other_spare n parts.0);
      count = count_of_tree d new;
      journal = journal_of_tree d new;
      room = (let sums = room_balance c d v new clusters in omega (arith, sums, room_of_tree d new, ap (λ (x : Tree). x.room) holds.tree, room_of_tree c v));
    }
