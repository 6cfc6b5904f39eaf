-- A volume whose records stand by themselves is loaded as the files that they are.
use Rattle.std.proofs.Common.{◌≡◌, ℕ, zero, suc, ◌<◌, Bool, true, false, not, cond, ◌&&◌, eqb, List, get_or, map, Option, Some, None, Ok, refl, sym, ap, ◌∙◌, arith}
use Rattle.std.specs.List.{list_all, range_with_len}
use Rattle.std.proofs.lemmas.Bool.{or_parts, or_from, not-true}
use Rattle.std.proofs.Math.Bool.{and-false}
use Rattle.std.proofs.lemmas.List.FromFn.{get_or-map-range_with_len}
use Rattle.std.proofs.lemmas.List.Folds.{list_any-append}
use Rattle.host_base.specs.Answers.{◌>>=◌}
use Rattle.disk_model.specs.Content.{Content}
use Rattle.disk_model.specs.declared.block.BlockKind.TheVariants.{FileRec}
use Rattle.volume_map.specs.record_model.declared.attribute.Attr.{Attr}
use Rattle.volume_map.specs.record_model.ListEntries.{ReadEntries}
use Rattle.volume_map.specs.record_model.Constants.{attribute_list}
use Rattle.volume_map.specs.record_model.Records.{Record}
use Rattle.volume_map.specs.state_model.declared.geometry.Geometry.{Geometry}
use Rattle.volume_map.specs.state_model.declared.geometry.MapRefusal.{MapRefusal}
use Rattle.volume_map.specs.state_model.declared.stream.Extents.{Extents}
use Rattle.volume_map.specs.state_model.Files.{Table, file_at, has_type, only_base, is_base_record}
use Rattle.volume_map.specs.state_model.Streams.{has_cut_block}
use Rattle.volume_map.specs.state_model.Loads.{Slot, Torn, Free, Broken, Used, record_count, table_of, table_slot, used_record, records_of, table_in, list_stream, list_entries_in, entries_of, no_entries, all_attrs, whole_file, joined_file, has_held_list, holds_all, cuts_index, breaks_9, breaks_list, breaks_10, broken_rule, or_rule, rule_at, torn_refusal, rule_refusal, first_some, first_of, unless, files_of, files_in}
use Rattle.volume_map.specs.volume_model.Volumes.{Volume, volume_of}
use Rattle.stream_laws.specs.Volumes.{base_record}
use Rattle.stream_laws.specs.Rewrites.{StandsAlone}
use Rattle.stream_laws.proofs.Framing.{same_map}
use Rattle.stream_laws.proofs.Rewriting.{attrs_alone, volume_parts, parts_of_files}
use Rattle.stream_laws.proofs.Tabling.{no_list_stream}
use Rattle.map_change.specs.Plain.{is_plain}
use Rattle.map_change.proofs.Lists.{all_at}

-- the file that a record is by itself: a base record in use
abbrev pub own_file : Slot → Option Record
own_file x = only_base (used_record x)

-- A record that isn't torn and breaks no rule by itself; and the file that it is by itself has no attribute list, and no index block in two runs.
pub record StandsByItself (per m : ℕ) (x : Slot) : Type 0 where
  pub untorn : torn_refusal m x ≡ None
  pub unbroken : broken_rule x ≡ None
  pub listless : (r : Record) → own_file x ≡ Some r → list_stream r ≡ None
  pub uncut : cuts_index per (own_file x) ≡ false

-- ---- one record

the_base : (q r : Record) (t : Bool) → cond t (Some q) None ≡ Some r → q ≡ r
the_base q r true is = cc
the_base q r false is = absurd cc

uncut_base : (per : ℕ) (r : Record) (t : Bool) → cuts_index per (Some r) ≡ false → cuts_index per (cond t (Some r) None) ≡ false
uncut_base per r true uncut = uncut
uncut_base per r false uncut = refl

pub alone_by_itself : (per m : ℕ) (x : Slot) → StandsAlone per x → StandsByItself per m x
alone_by_itself per m Torn alone = absurd alone
alone_by_itself per m Free alone = record { untorn = refl; unbroken = refl; listless = λ r is. absurd cc; uncut = refl }
alone_by_itself per m (Broken rule) alone = absurd alone
alone_by_itself per m (Used q) alone = record {
  untorn = refl;
  unbroken = refl;
  listless = λ r is. sym (ap list_stream (the_base q r (is_base_record q) is)) ∙ alone.0;
  uncut = uncut_base per q (is_base_record q) alone.1;
}

entries_alone : (d : Content) (per : ℕ) (r : Record) → list_stream r ≡ None → entries_of d per r ≡ no_entries
unfolding entries_of
entries_alone d per r alone = ap (list_entries_in d per) alone

-- the same record, its fields one by one
again : Record → List Attr → Option Record
again r attrs = Some (record { head = r.head; attrs = attrs })

whole_itself : (d : Content) (per : ℕ) (q : Table) (count m : ℕ) (o : Option Record) → ((r : Record) → o ≡ Some r → list_stream r ≡ None) → whole_file d per q count m o ≡ o
unfolding again
whole_itself d per q count m None listless = refl
whole_itself d per q count m (Some r) listless = ap (again r) (attrs_alone d per q count m r (listless r refl))

held_itself : (d : Content) (per : ℕ) (q : Table) (m : ℕ) (o : Option Record) → ((r : Record) → o ≡ Some r → list_stream r ≡ None) → breaks_list d per q m o ≡ false
unfolding has_held_list
held_itself d per q m None listless = refl
held_itself d per q m (Some r) listless = ap (λ (l : ReadEntries). not (holds_all q m r l)) (entries_alone d per r (listless r refl))

-- ---- refusals

none_at_all : {A : Type 0} (f : ℕ → Option A) (count : ℕ) → ((m : ℕ) → m < count → f m ≡ None) → first_of f count ≡ None
unfolding first_of
none_at_all f zero each = refl
none_at_all {A} f (suc count) each = ap (λ (o : Option A). first_some o (f count)) (none_at_all f count (λ m below. each m (omega arith))) ∙ each count (omega arith)

no_rule : (o : Option ℕ) (nine ten : Bool) → o ≡ None → nine ≡ false → ten ≡ false → or_rule o nine ten ≡ None
no_rule o nine ten none first second = rw (none, first, second) refl

rule_parts : (o : Option ℕ) (nine ten : Bool) → or_rule o nine ten ≡ None → (o ≡ None) × (nine ≡ false) × (ten ≡ false)
rule_parts (Some rule) nine ten is = absurd cc
rule_parts None true ten is = absurd cc
rule_parts None false true is = absurd cc
rule_parts None false false is = (refl, refl, refl)

asked_none : (torn broken : Option MapRefusal) (now files : List (Option Record)) → torn ≡ None → broken ≡ None → now ≡ files → (unless torn >>= λ _. unless broken >>= λ _. Ok now) ≡ Ok files
asked_none torn broken now files whole lawful are = rw (whole, lawful) (ap (λ (l : List (Option Record)). Ok l) are)

-- ---- a table

base_at : (x : Content) (per : ℕ) (h : Extents) (m : ℕ) → m < record_count h → base_record x per h m ≡ own_file (table_slot x per h m)
unfolding file_at records_of
base_at x per h m below = ap only_base (get_or-map-range_with_len (λ n. used_record (table_slot x per h n)) 0 (record_count h) m m None below (omega arith))

module _ (d : Content) (per : ℕ) (f : Extents) (each : (m : ℕ) → m < record_count f → StandsByItself per m (table_slot d per f m)) (uncut : has_cut_block per FileRec (record_count f) f.runs ≡ false) where
  abbrev records : Table
  records = table_in (records_of (table_slot d per f) (record_count f))

  joined_itself : (m : ℕ) → m < record_count f → joined_file d per records (record_count f) m ≡ own_file (table_slot d per f m)
  unfolding joined_file
  joined_itself m below = ap (whole_file d per records (record_count f) m) (base_at d per f m below) ∙ whole_itself d per records (record_count f) m (own_file (table_slot d per f m)) (each m below).listless

  nine : (m : ℕ) → m < record_count f → breaks_9 d per f records (record_count f) m ≡ false
  unfolding breaks_9
  nine m below = or_from _ _ (ap (λ (t : Bool). (eqb m 0) && t) uncut ∙ and-false (eqb m 0)) (ap (cuts_index per) (joined_itself m below) ∙ (each m below).uncut)

  ten : (m : ℕ) → m < record_count f → breaks_10 d per records m ≡ false
  unfolding breaks_10
  ten m below = ap (breaks_list d per records m) (base_at d per f m below) ∙ held_itself d per records m (own_file (table_slot d per f m)) (each m below).listless

  no_rule_at : (m : ℕ) → m < record_count f → rule_at d per f m ≡ None
  unfolding rule_at
  no_rule_at m below = no_rule _ _ _ (each m below).unbroken (nine m below) (ten m below)

  pub files_themselves : files_in d per f ≡ Ok (map (λ m. own_file (table_slot d per f m)) (range_with_len 0 (record_count f)))
  unfolding files_in files_of
  files_themselves =
      asked_none _ _ _ _
      (none_at_all (λ n. torn_refusal n (table_slot d per f n)) (record_count f) (λ m below. (each m below).untorn))
      (none_at_all (λ n. rule_refusal n (rule_at d per f n)) (record_count f) (λ m below. ap (rule_refusal m) (no_rule_at m below)))
      (same_map (joined_file d per records (record_count f)) (λ m. own_file (table_slot d per f m)) 0 (record_count f) (λ m low high. joined_itself m (omega (arith, high))))

abbrev pub volume_with : ℕ → ℕ → ℕ → Extents → List (Option Record) → Volume
volume_with per clusters mft e files = record { per = per; clusters = clusters; mft = mft; table = e; files = files }

pub volume_from : (d : Content) (g : Geometry) (clusters : ℕ) (e : Extents) (files : List (Option Record)) → table_of d g ≡ Ok e → files_in d g.per_cluster e ≡ Ok files → volume_of d g clusters ≡ Ok (volume_with g.per_cluster clusters g.mft e files)
unfolding volume_of
volume_from d g clusters e files table is = rw (table, is) refl

-- ---- a volume without attribute lists

plain_whole : (c : Content) (per : ℕ) (p : ℕ → Option Record) (count m : ℕ) (o : Option Record) (r : Record) → o ≡ Some r → is_plain (whole_file c per p count m o) ≡ true → has_type attribute_list r ≡ false
unfolding has_type all_attrs
plain_whole c per p count m None r is plain = absurd cc
plain_whole c per p count m (Some q) r is plain =
    let same : q ≡ r = cc in
    let none = not-true _ plain in
    let parts = or_parts _ _ (sym (list_any-append _ q.attrs _) ∙ none) in
    sym (ap (has_type attribute_list) same) ∙ parts.0

module _ (c : Content) (g : Geometry) (clusters : ℕ) (v : Volume) (loaded : volume_of c g clusters ≡ Ok v) (plain : list_all is_plain v.files ≡ true) where
  abbrev old : Table
  old = table_in (records_of (table_slot c v.per v.table) (record_count v.table))

  abbrev count : ℕ
  count = record_count v.table

  answers : ((m : ℕ) → m < count → torn_refusal m (table_slot c v.per v.table m) ≡ None) × ((m : ℕ) → m < count → rule_at c v.per v.table m ≡ None) × (v.files ≡ files_of c v.per old count)
  answers =
      let parts = volume_parts c g clusters v loaded in
      parts_of_files c v.per v.table v.files (sym (ap (λ (per : ℕ). files_in c per v.table) parts.per) ∙ parts.files)

  joined_at : (m : ℕ) → m < count → get_or v.files m None ≡ joined_file c v.per old count m
  unfolding files_of
  joined_at m below =
      ap (λ (l : List (Option Record)). get_or l m None) answers.2
      ∙ get_or-map-range_with_len (joined_file c v.per old count) 0 count m m None below (omega arith)

  own_listless : (m : ℕ) → m < count → (r : Record) → own_file (table_slot c v.per v.table m) ≡ Some r → list_stream r ≡ None
  unfolding joined_file
  own_listless m below r is =
      let base : base_record c v.per v.table m ≡ Some r = base_at c v.per v.table m below ∙ is in
      let here : is_plain (whole_file c v.per old count m (base_record c v.per v.table m)) ≡ true = sym (ap is_plain (joined_at m below)) ∙ all_at is_plain v.files None m refl plain in
      no_list_stream r (plain_whole c v.per old count m (base_record c v.per v.table m) r base here)

  joined_own : (m : ℕ) → m < count → joined_file c v.per old count m ≡ own_file (table_slot c v.per v.table m)
  unfolding joined_file
  joined_own m below = ap (whole_file c v.per old count m) (base_at c v.per v.table m below) ∙ whole_itself c v.per old count m (own_file (table_slot c v.per v.table m)) (own_listless m below)

  -- each of its files is what its record is by itself
  pub file_itself : (m : ℕ) → m < count → get_or v.files m None ≡ own_file (table_slot c v.per v.table m)
  file_itself m below = joined_at m below ∙ joined_own m below

  pub by_itself : (m : ℕ) → m < count → StandsByItself v.per m (table_slot c v.per v.table m)
  unfolding rule_at breaks_9
  by_itself m below =
      let rules = rule_parts (broken_rule (table_slot c v.per v.table m)) (breaks_9 c v.per v.table old count m) (breaks_10 c v.per old m) (answers.1 m below) in
      let nines = or_parts ((eqb m 0) && has_cut_block v.per FileRec count v.table.runs) (cuts_index v.per (joined_file c v.per old count m)) rules.1 in
      record { untorn = answers.0 m below; unbroken = rules.0; listless = own_listless m below; uncut = sym (ap (cuts_index v.per) (joined_own m below)) ∙ nines.1 }
