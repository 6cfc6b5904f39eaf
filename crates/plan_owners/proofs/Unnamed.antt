-- No other file's attribute list names a file's own record.
use Rattle.std.proofs.Common.{◌≡◌, ◌≢◌, ℕ, ◌*◌, ◌<◌, Bool, true, false, not, ◌||◌, cond, eqb, leb, List, [], ◌∷◌, Option, Some, None, refl, sym, ap, ◌∙◌, inl, inr, arith}
use Rattle.std.specs.Prelude.{◌⊎◌}
use Rattle.std.specs.List.{list_all}
use Rattle.std.proofs.lemmas.Bool.{cases_Bool, cases_lt, cases_eq, and_parts, or_from, both_ways, eqb-true}
use Rattle.tree_laws.specs.host_base.FileRefs.{same_reference}
use Rattle.log_model.specs.disk_model.declared.block.BlockKind.TheVariants.{FileRec}
use Rattle.log_model.specs.disk_model.declared.block.Block.{Block}
use Rattle.log_model.specs.disk_model.Content.{Content}
use Rattle.tree_laws.specs.record_model.declared.list_entry.ListEntry.{ListEntry}
use Rattle.tree_laws.specs.record_model.Records.{Record}
use Rattle.tree_laws.specs.record_model.Constants.{attribute_list}
use Rattle.tree_laws.specs.bit_set.Bits.{bit}
use Rattle.tree_laws.specs.state_model.declared.geometry.Geometry.{Geometry}
use Rattle.tree_laws.specs.state_model.declared.stream.Stream.{Stream}
use Rattle.tree_laws.specs.state_model.Files.{Table, file_at, is_base_record, reference, has_type}
use Rattle.tree_laws.specs.state_model.Loads.{Free, Used, slot_of, slot_at, is_used, table_slot, used_record, record_count, boot_block, table_of, list_stream, list_entries_in, entries_of, holds_named, is_held, has_held_list, breaks_list, breaks_9, breaks_10, broken_rule, or_rule, rule_at}
use Rattle.tree_laws.specs.state_model.Rules.{implies}
use Rattle.tree_laws.specs.state_model.Streams.{block_at}
use Rattle.tree_laws.specs.volume_model.Volumes.{Volume, count_of, block_bytes, record_block, record_bytes, is_in_use, record_bits}
use Rattle.tree_laws.specs.volume_model.Owners.{keeps_record_bit}
use Rattle.tree_laws.specs.volume_state.Rules.{broken_7}
use Rattle.tree_laws.specs.stream_laws.Rewrites.{names_one}
use Rattle.tree_laws.specs.stream_laws.Volumes.{base_record}
use Rattle.tree_laws.proofs.stream_laws.Rewriting.{volume_parts, parts_of_files}
use Rattle.tree_laws.proofs.stream_laws.Tabling.{only_base_some, used_some, in_boot_block, of_body, no_list_stream}
use Rattle.tree_laws.proofs.Keeping.{rules_of, passes_below}
use Rattle.plan_owners.specs.States.{Stands, IsOwnRecord}
use Rattle.plan_owners.proofs.Standing.{slots, slot_record, slot_past, loaded_files, some_file, file_parts, begins}

-- ---- a file's own record

-- none is in use there, or a base record
abbrev IsBaseThere : Option Record → Type 0
IsBaseThere o = (o ≡ None) ⊎ ((q : Record) × (o ≡ Some q) × (is_base_record q ≡ true))

of_block : (c : Content) (o : Option Block) → is_used (block_bytes c o) ≡ false → used_record (slot_at c o) ≡ None
unfolding slot_of
of_block c None free = refl
of_block c (Some b) free = elim (cases_Bool (c b).torn) [
  | inl torn ↦ rw torn refl
  | inr whole ↦ rw (whole, free) refl
]

free_block : (t : Bool) (c : Content) (o : Option Block) → is_used (block_bytes c (cond t None o)) ≡ false → used_record (cond t Free (slot_at c o)) ≡ None
free_block true c o free = refl
free_block false c o free = of_block c o free

free_slot : (c : Content) (v : Volume) (n : ℕ) → is_in_use c v n ≡ false → used_record (table_slot c v.per v.table n) ≡ None
unfolding is_in_use record_bytes record_block table_slot
free_slot c v n free = free_block (leb v.table.initialised (1024 * n)) c (block_at v.per v.table.runs FileRec n) free

not_asked : (a b : Bool) → b ≡ false → implies a b ≡ true → a ≡ false
not_asked true b clear is = absurd (both_ways b clear is)
not_asked false b clear is = refl

clear_is_free : (c : Content) (v : Volume) (n : ℕ) → broken_7 c v ≡ None → n < count_of v → bit (record_bits c v) n ≡ false → is_in_use c v n ≡ false
unfolding broken_7 keeps_record_bit
clear_is_free c v n none below clear = not_asked (is_in_use c v n) (bit (record_bits c v) n) clear (passes_below (keeps_record_bit c v) (count_of v) none n below)

pub own_there : (c : Content) (g : Geometry) (clusters : ℕ) (v : Volume) (n : ℕ) → Stands c g clusters v → IsOwnRecord c v n → IsBaseThere (slots c v n)
own_there c g clusters v n s own = elim own [
  | inl file ↦ (let parts = file_parts c g clusters v n file.0 s.loaded (some_file v n file.0 file.1) in inr (parts.base, parts.held, parts.own))
  | inr clear ↦ inl (elim (cases_lt n (record_count v.table)) [
    | inl below ↦ slot_record c v n below ∙ free_slot c v n (clear_is_free c v n (rules_of c v s.kept).rule_7 clear.0 clear.1)
    | inr past ↦ slot_past c v n past
  ])
]

-- ---- the entries of a list

no_tenth : (o : Option ℕ) (nine ten : Bool) → or_rule o nine ten ≡ None → ten ≡ false
no_tenth (Some rule) nine ten is = absurd cc
no_tenth None true ten is = absurd cc
no_tenth None false true is = absurd cc
no_tenth None false false is = refl

tenth : (c : Content) (g : Geometry) (clusters : ℕ) (v : Volume) (m : ℕ) → Stands c g clusters v → m < record_count v.table → breaks_10 c v.per (slots c v) m ≡ false
unfolding rule_at
tenth c g clusters v m s below =
    no_tenth (broken_rule (table_slot c v.per v.table m)) (breaks_9 c v.per v.table (slots c v) (record_count v.table) m) _ ((parts_of_files c v.per v.table v.files (loaded_files c g clusters v s.loaded)).1 m below)

not_false : (t : Bool) → not t ≡ false → t ≡ true
not_false true is = refl
not_false false is = absurd cc

held_list : (c : Content) (per : ℕ) (p : Table) (m : ℕ) (r : Record) → file_at p m ≡ Some r → breaks_10 c per p m ≡ false → list_all (is_held p m r) (entries_of c per r).entries ≡ true
unfolding breaks_10 has_held_list
held_list c per p m r is lawful = (and_parts _ _ (not_false _ (sym (ap (breaks_list c per p m) is) ∙ lawful))).1

-- a base record in use that an entry of another file's list names would be one of record 0
zero_of : (a b : ℕ) → eqb a b ≡ true → eqb a 0 ≡ true → b ≡ 0
zero_of a b same zero = let one = eqb-true a b same in let two = eqb-true a 0 zero in omega (arith, one, two)

of_zero : (m k : ℕ) (r q : Record) (e : ListEntry) → k ≢ m → is_base_record q ≡ true → holds_named m r e (Some q) ≡ true → e.holder.number ≡ k → m ≡ 0
of_zero m k r q e other base held is =
    let parts = and_parts _ _ (and_parts _ _ held).0 in
    elim (cases_Bool (eqb e.holder.number m)) [
      | inl same ↦ absurd (other (sym is ∙ eqb-true e.holder.number m same))
      | inr apart ↦
          (let refers : same_reference q.head.base (reference m r) ≡ true = sym (ap (λ (t : Bool). t || same_reference q.head.base (reference m r)) apart) ∙ parts.1 in
          zero_of q.head.base.number m (and_parts _ _ refers).0 (and_parts _ _ base).0)
    ]

no_holder : (m : ℕ) (r : Record) (e : ListEntry) (o : Option Record) → holds_named m r e o ≡ true → o ≡ None → ⊥
no_holder m r e o held none = let never : false ≡ true = sym (ap (holds_named m r e) none) ∙ held in absurd cc

not_named : (p : Table) (touched : ℕ → Bool) (m : ℕ) (r : Record) (entries : List ListEntry) → m ≢ 0 → touched m ≡ false → ((n : ℕ) → touched n ≡ true → IsBaseThere (p n)) → list_all (is_held p m r) entries ≡ true → names_one touched entries ≡ false
unfolding is_held
not_named p touched m r [] first other own held = refl
not_named p touched m r (e ∷ entries) first other own held =
    let parts = and_parts _ _ held in
    or_from (touched e.holder.number) (names_one touched entries)
    (elim (cases_Bool (touched e.holder.number)) [
      | inl is ↦ elim (own e.holder.number is) [
        | inl none ↦ absurd (no_holder m r e (p e.holder.number) parts.0 none)
        | inr base ↦ absurd (first (of_zero m e.holder.number r base.0 e (λ same. both_ways (touched m) other (ap touched (sym same) ∙ is)) base.2 (ap (holds_named m r e) (sym base.1) ∙ parts.0) refl))
      ]
      | inr no_one ↦ no_one
    ])
    (not_named p touched m r entries first other own parts.1)

-- ---- record 0 has no list

entries_none : (c : Content) (per : ℕ) (r : Record) → list_stream r ≡ None → (entries_of c per r).entries ≡ []
unfolding entries_of
entries_none c per r none = ap (λ (s : Option Stream). (list_entries_in c per s).entries) none

pub no_list_of_table : (c : Content) (g : Geometry) (clusters : ℕ) (v : Volume) (r : Record) → Stands c g clusters v → table_slot c v.per v.table 0 ≡ Used r → has_type attribute_list r ≡ false
unfolding table_of
no_list_of_table c g clusters v r s slot =
    let parts = volume_parts c g clusters v s.loaded in
    let start = begins c g clusters v s in
    (of_body (c (boot_block g 0)) r v.table (in_boot_block c g v r start.first slot) parts.table).0

pub slot_of_base : (c : Content) (v : Volume) (m : ℕ) (r : Record) → base_record c v.per v.table m ≡ Some r → (m < record_count v.table) × (table_slot c v.per v.table m ≡ Used r) × (slots c v m ≡ Some r)
unfolding file_at
slot_of_base c v m r is =
    let held : slots c v m ≡ Some r = only_base_some (slots c v m) r is in
    elim (cases_lt m (record_count v.table)) [
      | inl below ↦ (below, used_some (table_slot c v.per v.table m) r (sym (slot_record c v m below) ∙ held), held)
      | inr past ↦ (let none : None ≡ Some r = sym (slot_past c v m past) ∙ held in absurd cc)
    ]

pub unnamed : (c : Content) (g : Geometry) (clusters : ℕ) (v : Volume) (touched : ℕ → Bool) (m : ℕ) (r : Record) → Stands c g clusters v → ((n : ℕ) → touched n ≡ true → IsOwnRecord c v n) → touched m ≡ false
    → base_record c v.per v.table m ≡ Some r → names_one touched (entries_of c v.per r).entries ≡ false
unnamed c g clusters v touched m r s own other is =
    let slot = slot_of_base c v m r is in
    elim (cases_eq m 0) [
      | inl first ↦
          (let at : table_slot c v.per v.table 0 ≡ Used r = sym (ap (table_slot c v.per v.table) first) ∙ slot.1 in
          ap (names_one touched) (entries_none c v.per r (no_list_stream r (no_list_of_table c g clusters v r s at))))
      | inr later ↦ not_named (slots c v) touched m r (entries_of c v.per r).entries later other (λ n touches. own_there c g clusters v n s (own n touches)) (held_list c v.per (slots c v) m r is (tenth c g clusters v m s slot.0))
    ]
