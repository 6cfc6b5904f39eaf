-- What was found of all records is what a load means.
use Rattle.std.proofs.Common.{◌≡◌, ℕ, zero, suc, ◌<◌, ◌==◌, ◌&&◌, ◌||◌, Bool, true, false, List, [], ◌++◌, length, map, Option, Some, None, Result, Ok, Err, refl, sym, ap, ◌∙◌, subst, arith}
use Rattle.std.specs.Prelude.{slice_index_or, IfSome}
use Rattle.std.specs.List.{flat_map, range_with_len}
use Rattle.std.proofs.lemmas.List.FromFn.{get_or-map-range_with_len, length-map-range_with_len, fill_by_all}
use Rattle.volume_model.specs.host_base.Answers.{◌>>=◌, ExplainsOrFails, Gives, GivesOrFails}
use Rattle.volume_model.proofs.host_base.Known.{both, one, always}
use Rattle.stream_map.specs.disk_model.Content.{Content}
use Rattle.stream_map.specs.disk_model.declared.block.BlockKind.TheVariants.{FileRec}
use Rattle.record_model.specs.declared.attribute.Attr.{Attr}
use Rattle.record_model.specs.ListEntries.{ReadEntries}
use Rattle.record_model.specs.Records.{Record}
use Rattle.state_model.specs.declared.geometry.MapRefusal.{MapRefusal}
use Rattle.state_model.specs.declared.geometry.Geometry.{Geometry}
use Rattle.state_model.specs.declared.stream.Extents.{Extents}
use Rattle.state_model.specs.Files.{Table, file_at}
use Rattle.state_model.specs.Streams.{has_cut_block}
use Rattle.state_model.specs.Loads.{Slot, table_slot, table_in, records_of, used_record, broken_rule, record_count, no_entries, named_attrs, all_attrs, whole_file, joined_file, has_held_list, breaks_9, breaks_10, breaks_list, cuts_index, or_rule, rule_at, torn_refusal, rule_refusal, first_of, first_some, unless, files_of, files_in, table_of, loaded}
use Rattle.volume_map.specs.declared.fault.MapFault.{MapFault}
use Rattle.volume_map.specs.declared.fault.MapFault.TheVariants as faults
use Rattle.volume_map.specs.declared.walk.Walk.{Walk}
use Rattle.volume_map.specs.Errors.{map_cause, NeverRefused}
use Rattle.volume_map.specs.Lists.{list_at, lists_of, entries_or, read_at, breaks_by, ten_at, tens_of, named_at, extra_at, extras_of, joined_with, joined_at, joined_files, rule_by, judged_files}
use Rattle.volume_map.specs.Stages.{rules_of, WalkedBelow, WalksAll}
use Rattle.volume_map.proofs.Steps.{okay, gives_or_fails}

abbrev Files : Type 0
Files = List (Option Record)

-- ---- at one number

read_is : (c : Content) (per : ℕ) (p : Table) (count n : ℕ) → n < count → read_at (lists_of c per p count) n ≡ entries_or c per (file_at p n)
unfolding lists_of list_at
read_is c per p count n lt = get_or-map-range_with_len (list_at c per p) 0 count n n no_entries lt (omega arith)

extra_is : (lists : List ReadEntries) (p : Table) (count n : ℕ) → n < count → slice_index_or (extras_of lists p count count) n [] ≡ flat_map (named_at lists p n (file_at p n)) (range_with_len 0 count)
unfolding extras_of extra_at
extra_is lists p count n lt = get_or-map-range_with_len (extra_at lists p count) 0 count n n [] lt (omega arith)

whole_case : (c : Content) (per : ℕ) (p : Table) (count n : ℕ) (lists : List ReadEntries) (extra : List Attr) (o : Option Record) → read_at lists n ≡ entries_or c per o → extra ≡ flat_map (named_at lists p n o) (range_with_len 0 count) → joined_with extra o ≡ whole_file c per p count n o
unfolding all_attrs
whole_case c per p count n lists extra None read is = refl
whole_case c per p count n lists extra (Some r) read is =
    ap (λ (xs : List Attr). Some (record { head = r.head; attrs = r.attrs ++ xs })) is
    ∙ ap (λ (e : ReadEntries). Some (record { head = r.head; attrs = r.attrs ++ flat_map (λ m. named_attrs e.entries n r m (p m)) (range_with_len 0 count) })) read

joined_is : (c : Content) (per : ℕ) (p : Table) (count n : ℕ) → n < count → joined_at p (extras_of (lists_of c per p count) p count count) n ≡ joined_file c per p count n
unfolding joined_at joined_file
joined_is c per p count n lt =
    whole_case c per p count n (lists_of c per p count) (slice_index_or (extras_of (lists_of c per p count) p count count) n []) (file_at p n) (read_is c per p count n lt) (extra_is (lists_of c per p count) p count n lt)

ten_case : (c : Content) (per : ℕ) (p : Table) (n : ℕ) (read : ReadEntries) (o : Option Record) → read ≡ entries_or c per o → breaks_by p n read o ≡ breaks_list c per p n o
unfolding has_held_list
ten_case c per p n read None is = refl
ten_case c per p n read (Some r) is = ap (λ (e : ReadEntries). breaks_by p n e (Some r)) is

ten_is : (c : Content) (per : ℕ) (p : Table) (count n : ℕ) → n < count → slice_index_or (tens_of p (lists_of c per p count) count) n false ≡ breaks_10 c per p n
unfolding tens_of ten_at breaks_10
ten_is c per p count n lt = get_or-map-range_with_len (ten_at p (lists_of c per p count)) 0 count n n false lt (omega arith) ∙ ten_case c per p n (read_at (lists_of c per p count) n) (file_at p n) (read_is c per p count n lt)

file_is : (c : Content) (per : ℕ) (p : Table) (count n : ℕ) → n < count → slice_index_or (joined_files p (extras_of (lists_of c per p count) p count count) count) n None ≡ joined_file c per p count n
unfolding joined_files
file_is c per p count n lt = get_or-map-range_with_len (joined_at p (extras_of (lists_of c per p count) p count count)) 0 count n n None lt (omega arith) ∙ joined_is c per p count n lt

rule_there : (slot : ℕ → Slot) (count n : ℕ) → n < count → slice_index_or (rules_of slot count) n None ≡ broken_rule (slot n)
unfolding rules_of
rule_there slot count n lt = get_or-map-range_with_len (λ k. broken_rule (slot k)) 0 count n n None lt (omega arith)

or_same : (a b : Option ℕ) (n d e : Bool) (f g : Bool) → a ≡ b → d ≡ e → f ≡ g → or_rule a d f ≡ or_rule b e g
or_same a b n d e f g x y z = ap (λ (r : Option ℕ). or_rule r d f) x ∙ ap (λ (t : Bool). or_rule b t f) y ∙ ap (or_rule b e) z

rule_is : (c : Content) (per : ℕ) (e : Extents) (n : ℕ) → n < record_count e
    → let count = record_count e in
    let p = table_in (records_of (table_slot c per e) count) in
    rule_by per (has_cut_block per FileRec count e.runs) n (rules_of (table_slot c per e) count) (tens_of p (lists_of c per p count) count) (joined_files p (extras_of (lists_of c per p count) p count count) count) ≡ rule_at c per e n
unfolding rule_at breaks_9
rule_is c per e n lt =
    let count = record_count e in
    let p : Table = table_in (records_of (table_slot c per e) count) in
    or_same _ _ true _ _ _ _ (rule_there (table_slot c per e) count n lt)
    (ap (λ (o : Option Record). ((n == 0) && has_cut_block per FileRec count e.runs) || cuts_index per o) (file_is c per p count n lt)) (ten_is c per p count n lt)

-- ---- over all numbers

pub first_same : {A : Type 0} (f g : ℕ → Option A) (count : ℕ) → ((n : ℕ) → n < count → f n ≡ g n) → first_of f count ≡ first_of g count
unfolding first_of
first_same f g zero each = refl
first_same f g (suc count) each =
    ap (λ (o : Option _). first_some o (f count)) (first_same f g count (λ n lt. each n (omega arith))) ∙ ap (first_some (first_of g count)) (each count (omega arith))

files_are : (c : Content) (per : ℕ) (p : Table) (count : ℕ) → joined_files p (extras_of (lists_of c per p count) p count count) count ≡ files_of c per p count
unfolding joined_files files_of
files_are c per p count =
    fill_by_all (joined_file c per p count) (map (joined_at p (extras_of (lists_of c per p count) p count count)) (range_with_len 0 count)) count None (length-map-range_with_len (joined_at p (extras_of (lists_of c per p count) p count count)) 0 count)
    (λ k lt. get_or-map-range_with_len (joined_at p (extras_of (lists_of c per p count) p count count)) 0 count k k None lt (omega arith) ∙ joined_is c per p count k lt)

-- what is judged of the walk and the lists
abbrev meant : Content → ℕ → Extents → Result Files MapRefusal
meant c per e =
    unless (first_of (λ n. rule_refusal n (rule_at c per e n)) (record_count e)) >>= λ _. Ok (files_of c per (table_in (records_of (table_slot c per e) (record_count e))) (record_count e))

count_is : (c : Content) (per : ℕ) (e : Extents) → length (records_of (table_slot c per e) (record_count e)) ≡ record_count e
unfolding records_of
count_is c per e = length-map-range_with_len (λ n. used_record (table_slot c per e n)) 0 (record_count e)

judged_by : (c : Content) (per : ℕ) (e : Extents) (count : ℕ) → count ≡ record_count e
    → let records = records_of (table_slot c per e) (record_count e) in
    let p = table_in records in
    let lists = lists_of c per p count in
    let files = joined_files p (extras_of lists p count count) count in
    (unless (first_of (λ n. rule_refusal n (rule_by per (has_cut_block per FileRec count e.runs) n (rules_of (table_slot c per e) (record_count e)) (tens_of p lists count) files)) count) >>= λ _. Ok files) ≡ meant c per e
judged_by c per e count is =
    let records : Files = records_of (table_slot c per e) (record_count e) in
    let p : Table = table_in records in
    let files : ℕ → Files = λ k. joined_files p (extras_of (lists_of c per p k) p k k) k in
    ap (λ (k : ℕ). unless (first_of (λ n. rule_refusal n (rule_by per (has_cut_block per FileRec k e.runs) n (rules_of (table_slot c per e) (record_count e)) (tens_of p (lists_of c per p k) k) (files k))) k) >>= λ _. okay (files k)) is
    ∙ ap (λ (o : Option MapRefusal). unless o >>= λ _. okay (files (record_count e))) (first_same _ (λ n. rule_refusal n (rule_at c per e n)) (record_count e) (λ n lt. ap (rule_refusal n) (rule_is c per e n lt)))
    ∙ ap (λ (fs : Files). unless (first_of (λ n. rule_refusal n (rule_at c per e n)) (record_count e)) >>= λ _. okay fs) (files_are c per p (record_count e))

judged_is : (c : Content) (per : ℕ) (e : Extents) (walk : Walk) (lists : List ReadEntries) → WalkedBelow (table_slot c per e) (record_count e) walk → lists ≡ lists_of c per (table_in walk.records.items) (length walk.records.items)
    → judged_files per e walk.records.items walk.rules.items lists ≡ meant c per e
unfolding judged_files
judged_is c per e walk lists walked read =
    rw (read, walked.rules, walked.records) (judged_by c per e (length (records_of (table_slot c per e) (record_count e))) (count_is c per e))

files_by : (c : Content) (per : ℕ) (e : Extents) (walk : Walk) → WalkedBelow (table_slot c per e) (record_count e) walk → files_in c per e ≡ meant c per e
unfolding files_in
files_by c per e walk walked = rw walked.whole refl

-- the answer by the walk and the lists
pub answered : {X : Type 0} (known : Option Content) (view : X → Files) (per : ℕ) (e : Extents) (walk : Walk) (lists : List ReadEntries) (result : Result X MapFault)
    → IfSome known (λ c. WalkedBelow (table_slot c per e) (record_count e) walk) → IfSome known (λ c. lists ≡ lists_of c per (table_in walk.records.items) (length walk.records.items))
    → Gives view map_cause result (judged_files per e walk.records.items walk.rules.items lists) → IfSome known (λ c. GivesOrFails view map_cause result (files_in c per e))
answered known view per e walk lists result walked read h =
    both known _ _ _ (λ c w r. rw (files_by c per e walk w, ← judged_is c per e walk lists w r) (gives_or_fails view result (judged_files per e walk.records.items walk.rules.items lists) h)) walked read

-- a walk that fails
walk_fails : (c : Content) (per : ℕ) (e : Extents) (fault : MapFault) → ExplainsOrFails (map_cause fault) (unless (first_of (λ n. torn_refusal n (table_slot c per e n)) (record_count e))) → ExplainsOrFails (map_cause fault) (files_in c per e)
unfolding files_in
walk_fails c per e (faults.Refused r) h = rw h refl
walk_fails c per e faults.View h = tt
walk_fails c per e faults.Memory h = tt

pub unwalked : (known : Option Content) (per : ℕ) (e : Extents) (fault : MapFault) → IfSome known (λ c. WalksAll (table_slot c per e) (record_count e) (Err fault)) → IfSome known (λ c. ExplainsOrFails (map_cause fault) (files_in c per e))
unwalked known per e fault h = one known _ _ (λ c w. walk_fails c per e fault w) h

pub never : {Y : Type 0} (X : Type 0) (e : MapFault) (meant : Result Y MapRefusal) → NeverRefused {X = X} (Err e) → ExplainsOrFails (map_cause e) meant
never X (faults.Refused r) meant h = absurd h
never X faults.View meant h = tt
never X faults.Memory meant h = tt

-- an error that is no refusal
pub unread : (Z : Type 0) (known : Option Content) (per : ℕ) (e : Extents) (fault : MapFault) → NeverRefused {X = Z} (Err fault) → IfSome known (λ c. ExplainsOrFails (map_cause fault) (files_in c per e))
unread Z known per e fault h = always known _ (λ c. never Z fault (files_in c per e) h)

-- the table, and then the files
pub bound_fails : {A B : Type 0} (e : MapFault) (f : Result A MapRefusal) (g : A → Result B MapRefusal) → ExplainsOrFails (map_cause e) f → ExplainsOrFails (map_cause e) (f >>= g)
bound_fails (faults.Refused r) f g h = ap (λ x. x >>= g) h
bound_fails faults.View f g h = tt
bound_fails faults.Memory f g h = tt

pub load_fails : (known : Option Content) (g : Geometry) (e : MapFault) → IfSome known (λ c. ExplainsOrFails (map_cause e) (table_of c g)) → IfSome known (λ c. ExplainsOrFails (map_cause e) (loaded c g))
unfolding loaded
load_fails known g e h = one known _ _ (λ c p. bound_fails e (table_of c g) (files_in c g.per_cluster) p) h

pub load_goes_on : {X : Type 0} (known : Option Content) (view : X → Files) (g : Geometry) (e : Extents) (result : Result X MapFault) → IfSome known (λ c. table_of c g ≡ Ok e) → IfSome known (λ c. GivesOrFails view map_cause result (files_in c g.per_cluster e))
    → IfSome known (λ c. GivesOrFails view map_cause result (loaded c g))
unfolding loaded
load_goes_on known view g e result first second = both known _ _ _ (λ c p h. rw p h) first second

-- ---- what is checked in place

abbrev judged_with : ℕ → List (Option ℕ) → Bool → List Bool → Files → ℕ → Result Files MapRefusal
judged_with per rules cut tens files n = unless (first_of (λ k. rule_refusal k (rule_by per cut k rules tens files)) n) >>= λ _. okay files

goes_with : (result : Result (Unit {0}) MapFault) (judged : Result (Unit {0}) MapRefusal) (files : Files) → Gives (λ x. x) map_cause result judged → Gives (λ x. files) map_cause result (judged >>= λ _. okay files)
goes_with (Ok x) judged files h = rw h refl
goes_with (Err (faults.Refused r)) judged files h = rw h refl
goes_with (Err faults.View) judged files h = absurd h
goes_with (Err faults.Memory) judged files h = tt

pub checked : (per : ℕ) (e : Extents) (records : Files) (rules : List (Option ℕ)) (lists : List ReadEntries) (tens : List Bool) (extras : List (List Attr)) (files : Files) (cut : Bool) (count n : ℕ) (result : Result (Unit {0}) MapFault)
    → count ≡ length records → n ≡ length records → tens ≡ tens_of (table_in records) lists count → extras ≡ extras_of lists (table_in records) (length records) (length records) → files ≡ joined_files (table_in records) extras (length records)
    → cut ≡ has_cut_block per FileRec n e.runs → Gives (λ x. x) map_cause result (unless (first_of (λ k. rule_refusal k (rule_by per cut k rules tens files)) n)) → Gives (λ x. files) map_cause result (judged_files per e records rules lists)
unfolding judged_files
checked per e records rules lists tens extras files cut count n result counted sized ten extra file is h =
    let p : Table = table_in records in
    let files_is : files ≡ joined_files p (extras_of lists p (length records) (length records)) (length records) = file ∙ ap (λ (xs : List (List Attr)). joined_files p xs (length records)) extra in
    let tens_is : tens ≡ tens_of p lists (length records) = ten ∙ ap (tens_of p lists) counted in
    let cut_is : cut ≡ has_cut_block per FileRec (length records) e.runs = is ∙ ap (λ (k : ℕ). has_cut_block per FileRec k e.runs) sized in
    let same : judged_with per rules cut tens files n ≡ judged_with per rules (has_cut_block per FileRec (length records) e.runs) (tens_of p lists (length records)) (joined_files p (extras_of lists p (length records) (length records)) (length records)) (length records)
    = ap (λ (k : ℕ). judged_with per rules cut tens files k) sized
    ∙ ap (λ (b : Bool). judged_with per rules b tens files (length records)) cut_is
    ∙ ap (λ (ts : List Bool). judged_with per rules (has_cut_block per FileRec (length records) e.runs) ts files (length records)) tens_is
    ∙ ap (λ (fs : Files). judged_with per rules (has_cut_block per FileRec (length records) e.runs) (tens_of p lists (length records)) fs (length records)) files_is in
    subst (λ (m : Result Files MapRefusal). Gives (λ x. files) map_cause result m) same (goes_with result _ files h)

pub tens_length : (p : Table) (lists : List ReadEntries) (count : ℕ) → length (tens_of p lists count) ≡ count
unfolding tens_of
tens_length p lists count = length-map-range_with_len (ten_at p lists) 0 count

-- the rules are as many as the records
pub rules_counted : (slot : ℕ → Slot) (count : ℕ) (walk : Walk) → WalkedBelow slot count walk → length walk.rules.items ≡ length walk.records.items
unfolding rules_of records_of
rules_counted slot count walk walked =
    ap (λ (xs : List (Option ℕ)). length xs) walked.rules ∙ length-map-range_with_len (λ n. broken_rule (slot n)) 0 count ∙ sym (ap (λ (xs : Files). length xs) walked.records ∙ length-map-range_with_len (λ n. used_record (slot n)) 0 count)
