-- The rules at numbers other than that of the file that is replaced.
use Rattle.std.proofs.Common.{◌≡◌, ◌≢◌, ℕ, zero, suc, ◌*◌, Bool, false, ◌&&◌, eqb, leb, List, [], length, Option, Some, None, refl, sym, ap, subst, ◌∙◌, inl, inr, arith}
use mathlib.Core.Path.{fun_ext}
use Rattle.std.specs.List.{list_all, list_any}
use Rattle.std.proofs.lemmas.Bool.{cases_Bool, eqb-true}
use Rattle.volume_state.specs.host_base.declared.file_ref.FileRef.{FileRef}
use Rattle.volume_state.specs.host_base.FileRefs.{same_reference}
use Rattle.volume_state.specs.disk_model.Content.{Content}
use Rattle.volume_state.specs.record_model.Records.{Record}
use Rattle.volume_state.specs.record_model.Constants.{data_type, bitmap_type}
use Rattle.volume_state.specs.file_tree.declared.link.Link.{Link}
use Rattle.volume_state.specs.bit_set.Bits.{bit}
use Rattle.volume_state.specs.state_model.Files.{Table, file_at, links_at, record_links, reference, is_directory_record}
use Rattle.volume_state.specs.state_model.Loads.{table_in}
use Rattle.volume_state.specs.state_model.Trees.{leads}
use Rattle.volume_state.specs.state_model.Rules.{implies, same_link, keeps_names, at_file, keeps_1, is_directory_with, is_directory_at, keeps_2, count_in, names_in, is_rising, is_name_in, is_index, keeps_8}
use Rattle.volume_state.specs.volume_model.Volumes.{Volume, count_of, file_in, table_file, bitmap_file, file_stream, size_or, record_bytes, record_block, is_in_use, record_bitmap, cluster_bitmap}
use Rattle.volume_state.specs.volume_model.Indexes.{index_links, lists_names, keeps_index}
use Rattle.volume_state.specs.volume_model.Sizes.{keeps_bitmaps, keeps_streams, keeps_sizes}
use Rattle.volume_state.specs.volume_model.Owners.{keeps_record_bit}
use Rattle.stream_laws.specs.Replacing.{SameBut, OneFileDiffers}
use Rattle.stream_laws.specs.Rewrites.{with_files}
use Rattle.tree_laws.specs.Keeping.{KeepsNames, KeepsDirectory, is_directory_file}
use Rattle.tree_laws.proofs.Naming.{names_elsewhere, file_elsewhere, this_or_other, names_everywhere}
use Rattle.tree_laws.proofs.Climbing.{way_everywhere}
use Rattle.tree_laws.proofs.Parting.{record_bits_stay}

-- ---- directories

pub no_directory : (o : Option Record) (seq : ℕ) → is_directory_file o ≡ false → is_directory_with seq o ≡ false
no_directory None seq is = refl
no_directory (Some r) seq is = ap (λ (t : Bool). t && (eqb r.head.seq seq)) is

pub keeps_none : (p q : Table) (n : ℕ) → is_directory_file (file_at p n) ≡ false → is_directory_file (file_at q n) ≡ false → KeepsDirectory n p q
keeps_none p q n before after seq = no_directory (file_at q n) seq after ∙ sym (no_directory (file_at p n) seq before)

pub keeps_both : (p q : Table) (n : ℕ) (r s : Record) → file_at p n ≡ Some r → file_at q n ≡ Some s → s.head.seq ≡ r.head.seq → is_directory_record s ≡ is_directory_record r → KeepsDirectory n p q
keeps_both p q n r s before after same_seq same seq =
    ap (is_directory_with seq) after
    ∙ ap (λ (t : Bool). t && (eqb s.head.seq seq)) same
    ∙ ap (λ (k : ℕ). is_directory_record r && (eqb k seq)) same_seq
    ∙ sym (ap (is_directory_with seq) before)

-- ---- rules 1 and 2

pub rule_1 : (p q : Table) (n m : ℕ) → SameBut n p q → m ≢ n → keeps_1 q m ≡ keeps_1 p m
unfolding keeps_1
rule_1 p q n m others other = ap (at_file (λ r. keeps_names m r (record_links m r))) (file_elsewhere p q n m others other)

same_directory : (p q : Table) (n : ℕ) → SameBut n p q → KeepsDirectory n p q → (file : FileRef) → is_directory_at q file ≡ is_directory_at p file
unfolding is_directory_at
same_directory p q n others keeps file =
    this_or_other (λ (k : ℕ). is_directory_with file.seq (file_at q k) ≡ is_directory_with file.seq (file_at p k)) n file.number (keeps file.seq) (λ other. ap (is_directory_with file.seq) (file_elsewhere p q n file.number others other))

same_parents : (p q : Table) (n m : ℕ) → SameBut n p q → KeepsDirectory n p q → links_at q m ≡ links_at p m → keeps_2 q m ≡ keeps_2 p m
unfolding keeps_2
same_parents p q n m others keeps names =
    ap (list_all (λ (l : Link). is_directory_at q l.parent)) names
    ∙ ap (λ (f : FileRef → Bool). list_all (λ (l : Link). f l.parent) (links_at p m)) (fun_ext (same_directory p q n others keeps))

pub rule_2 : (p q : Table) (n m : ℕ) → SameBut n p q → KeepsDirectory n p q → m ≢ n → keeps_2 q m ≡ keeps_2 p m
rule_2 p q n m others keeps other = same_parents p q n m others keeps (names_elsewhere p q n m others other)

pub own_2 : (p q : Table) (n : ℕ) → SameBut n p q → KeepsDirectory n p q → KeepsNames n p q → keeps_2 q n ≡ keeps_2 p n
own_2 p q n others keeps names = same_parents p q n n others keeps names

-- ---- rule 3

abbrev pub SameNames : Table → Table → Type 0
SameNames p q = (m : ℕ) → links_at q m ≡ links_at p m

pub same_count : (p q : Table) (directory : FileRef) (count : ℕ) → SameNames p q → names_in q directory count ≡ names_in p directory count
unfolding names_in
same_count p q directory zero same = refl
same_count p q directory (suc count) same =
    let here : count_in directory (links_at q count) ≡ count_in directory (links_at p count) = ap (count_in directory) (same count) in
    let below = same_count p q directory count same in
    omega (arith, here, below)

pub same_name_in : (p q : Table) (directory : FileRef) → SameNames p q → (l : Link) → is_name_in q directory l ≡ is_name_in p directory l
unfolding is_name_in
same_name_in p q directory same l = ap (λ (names : List Link). same_reference l.parent directory && list_any (same_link l) names) (same l.child.number)

-- an index by what it asks of its names, and how many names there are
pub same_index : (upper : List ℕ) (p q : Table) (count : ℕ) (directory : FileRef) (links : List Link) → ((l : Link) → is_name_in q directory l ≡ is_name_in p directory l) → names_in q directory count ≡ names_in p directory count
    → is_index upper q count directory links ≡ is_index upper p count directory links
unfolding is_index
same_index upper p q count directory links same counts =
    ap (λ (test : Link → Bool). is_rising upper links && list_all test links && (eqb (length links) (names_in q directory count))) (fun_ext same)
    ∙ ap (λ (k : ℕ). is_rising upper links && list_all (is_name_in p directory) links && (eqb (length links) k)) counts

pub same_listed : (upper : List ℕ) (p q : Table) (count : ℕ) (directory : FileRef) (read : Option (List Link)) → ((l : Link) → is_name_in q directory l ≡ is_name_in p directory l) → names_in q directory count ≡ names_in p directory count
    → lists_names upper q count directory read ≡ lists_names upper p count directory read
same_listed upper p q count directory None same counts = refl
same_listed upper p q count directory (Some links) same counts = same_index upper p q count directory links same counts

pub same_at_file : (f g : Record → Bool) → ((r : Record) → g r ≡ f r) → (o : Option Record) → at_file g o ≡ at_file f o
same_at_file f g same None = refl
same_at_file f g same (Some r) = same r

index_test : Content → ℕ → List ℕ → Table → ℕ → ℕ → Record → Bool
index_test c per upper p count m r = implies (is_directory_record r) (lists_names upper p count (reference m r) (index_links c per upper r))

same_index_test : (c : Content) (per : ℕ) (upper : List ℕ) (p q : Table) (count m : ℕ) → SameNames p q → (r : Record) → index_test c per upper q count m r ≡ index_test c per upper p count m r
unfolding index_test
same_index_test c per upper p q count m same r = ap (implies (is_directory_record r)) (same_listed upper p q count (reference m r) (index_links c per upper r) (same_name_in p q (reference m r) same) (same_count p q (reference m r) count same))

pub rule_3 : (c : Content) (v : Volume) (files : List (Option Record)) (upper : List ℕ) (n m : ℕ) → OneFileDiffers n v.files files → KeepsNames n (table_in v.files) (table_in files) → m ≢ n → keeps_index c (with_files v files) upper m ≡ keeps_index c v upper m
unfolding keeps_index index_test
rule_3 c v files upper n m differs keeps other =
    let p = table_in v.files in
    let q = table_in files in
    ap (at_file (index_test c v.per upper q (length files) m)) (file_elsewhere p q n m differs.others other)
    ∙ ap (λ (k : ℕ). at_file (index_test c v.per upper q k m) (file_in v m)) differs.count
    ∙ same_at_file (index_test c v.per upper p (count_of v) m) (index_test c v.per upper q (count_of v) m) (same_index_test c v.per upper p q (count_of v) m (names_everywhere p q n differs.others keeps)) (file_in v m)

-- ---- rule 4

-- what is asked of one number alone
asked_of : (m k : ℕ) (a b : Bool) → (m ≡ k → a ≡ b) → implies (eqb m k) a ≡ implies (eqb m k) b
asked_of m k a b same = elim (cases_Bool (eqb m k)) [
  | inl is ↦ ap (implies (eqb m k)) (same (eqb-true m k is))
  | inr other ↦ rw other refl
]

same_bitmaps : (v : Volume) (files : List (Option Record)) (m : ℕ) → length files ≡ count_of v → file_in (with_files v files) m ≡ file_in v m → keeps_bitmaps (with_files v files) m ≡ keeps_bitmaps v m
unfolding keeps_bitmaps
same_bitmaps v files m count same =
    let w = with_files v files in
    let same_at : (k : ℕ) → m ≡ k → file_in w k ≡ file_in v k = λ k is. subst (λ (x : ℕ). file_in w x ≡ file_in v x) is same in
    let records : m ≡ table_file → leb (count_of w) (8 * size_or (record_bitmap w)) ≡ leb (count_of v) (8 * size_or (record_bitmap v)) =
    λ is. ap (λ (k : ℕ). leb k (8 * size_or (record_bitmap w))) count ∙ ap (λ (o : Option Record). leb (count_of v) (8 * size_or (file_stream bitmap_type [] o))) (same_at table_file is)
    in
    let clusters : m ≡ bitmap_file → leb v.clusters (8 * size_or (cluster_bitmap w)) ≡ leb v.clusters (8 * size_or (cluster_bitmap v)) =
    λ is. ap (λ (o : Option Record). leb v.clusters (8 * size_or (file_stream data_type [] o))) (same_at bitmap_file is)
    in
    ap (λ (t : Bool). t && implies (eqb m bitmap_file) (leb v.clusters (8 * size_or (cluster_bitmap w)))) (asked_of m table_file _ _ records)
    ∙ ap (λ (t : Bool). implies (eqb m table_file) (leb (count_of v) (8 * size_or (record_bitmap v))) && t) (asked_of m bitmap_file _ _ clusters)

same_streams : (c : Content) (v : Volume) (files : List (Option Record)) (m : ℕ) (r : Record) → keeps_streams c (with_files v files) m r ≡ keeps_streams c v m r
unfolding keeps_streams
same_streams c v files m r = refl

-- rule 4 at a file that stays
pub sizes_kept : (c : Content) (v : Volume) (files : List (Option Record)) (m : ℕ) → length files ≡ count_of v → file_in (with_files v files) m ≡ file_in v m → keeps_sizes c (with_files v files) m ≡ keeps_sizes c v m
unfolding keeps_sizes
sizes_kept c v files m count same =
    let w = with_files v files in
    ap (λ (t : Bool). at_file (keeps_streams c w m) (file_in w m) && t) (same_bitmaps v files m count same)
    ∙ ap (λ (o : Option Record). at_file (keeps_streams c w m) o && keeps_bitmaps v m) same
    ∙ ap (λ (t : Bool). t && keeps_bitmaps v m) (same_at_file (keeps_streams c v m) (keeps_streams c w m) (same_streams c v files m) (file_in v m))

pub rule_4 : (c : Content) (v : Volume) (files : List (Option Record)) (n m : ℕ) → OneFileDiffers n v.files files → m ≢ n → keeps_sizes c (with_files v files) m ≡ keeps_sizes c v m
rule_4 c v files n m differs other = sizes_kept c v files m differs.count (file_elsewhere (table_in v.files) (table_in files) n m differs.others other)

-- ---- rules 7 and 8

pub rule_7 : (c : Content) (v : Volume) (files : List (Option Record)) (n m : ℕ) → OneFileDiffers n v.files files → n ≢ table_file → keeps_record_bit c (with_files v files) m ≡ keeps_record_bit c v m
unfolding keeps_record_bit is_in_use record_bytes record_block
rule_7 c v files n m differs other = ap (λ (bits : List Bool). implies (is_in_use c v m) (bit bits m)) (record_bits_stay c v files n differs other)

pub rule_8 : (p q : Table) (n count m : ℕ) → SameBut n p q → KeepsNames n p q → m ≢ n → keeps_8 q count m ≡ keeps_8 p count m
unfolding keeps_8
rule_8 p q n count m others keeps other =
    ap (λ (t : Bool). at_file (λ r. implies (is_directory_record r) t) (file_at q m)) (way_everywhere p q n count m others keeps)
    ∙ ap (at_file (λ r. implies (is_directory_record r) (leads p count m))) (file_elsewhere p q n m others other)

asked_of_directory : (o : Option Record) (t : Bool) → at_file (λ r. implies (is_directory_record r) t) o ≡ implies (is_directory_file o) t
asked_of_directory None t = refl
asked_of_directory (Some r) t = refl

pub own_8 : (p q : Table) (n count : ℕ) → SameBut n p q → KeepsNames n p q → is_directory_file (file_at q n) ≡ is_directory_file (file_at p n) → keeps_8 q count n ≡ keeps_8 p count n
unfolding keeps_8
own_8 p q n count others keeps same =
    asked_of_directory (file_at q n) (leads q count n)
    ∙ ap (implies (is_directory_file (file_at q n))) (way_everywhere p q n count n others keeps)
    ∙ ap (λ (t : Bool). implies t (leads p count n)) same
    ∙ sym (asked_of_directory (file_at p n) (leads p count n))
