-- The root of a directory's index has its entries in 1,024 bytes, since a file record has no more.
use Rattle.std.proofs.Common.{◌≡◌, ℕ, ◌+◌, ◌*◌, ◌≤◌, Bool, true, false, cond, leb, List, [], ◌∷◌, length, map, drop, Option, Some, None, Ok, refl, sym, ap, ◌∙◌, subst, inl, inr, arith}
use Rattle.std.specs.Prelude.{find}
use Rattle.std.specs.List.{AllByRecursion}
use Rattle.std.proofs.lemmas.Bool.{cases_Bool, cases_lt}
use Rattle.std.proofs.lemmas.List.{length-take, length-drop}
use Rattle.std.proofs.lemmas.List.Elements.{All-from_recursion}
use Rattle.disk_model.specs.declared.block.Block.{Block}
use Rattle.disk_model.specs.declared.block.BlockKind.TheVariants.{FileRec}
use Rattle.disk_model.specs.Content.{Content}
use Rattle.disk_model.specs.Numbers.{field}
use Rattle.record_model.specs.declared.attribute.Attr.{Attr}
use Rattle.record_model.specs.declared.attribute.OwnForm.{OwnForm}
use Rattle.record_model.specs.declared.attribute.OwnForm.TheVariants.{Resident, Mapped}
use Rattle.record_model.specs.declared.entry.Entry.{Entry as Raw}
use Rattle.record_model.specs.Attributes.{attr_of, form_of, is_mapped, sizes_of}
use Rattle.record_model.specs.Constants.{attribute_list}
use Rattle.record_model.specs.Nodes.{root_at, entries_length, SpellEntries}
use Rattle.record_model.specs.Records.{Record}
use Rattle.record_model.proofs.NodeTables.{root_from_ok}
use Rattle.index_plan.specs.Room.{IsShort, RootSized}
use Rattle.index_change.specs.Plans.{root_room}
use Rattle.index_change.proofs.Sizing.{short_key, tight_record}
use Rattle.state_model.specs.declared.geometry.Geometry.{Geometry}
use Rattle.state_model.specs.Files.{has_type}
use Rattle.state_model.specs.Indexes.{is_names_root}
use Rattle.state_model.specs.Loads.{Free, Used, is_used, slot_at, slot_of, whole_record}
use Rattle.state_model.specs.Streams.{block_at}
use Rattle.volume_model.specs.Indexes.{form_value, attr_value, root_value}
use Rattle.volume_model.specs.Volumes.{Volume, file_in}
use Rattle.stream_laws.proofs.Tabling.{read_in_use}
use Rattle.plan_owners.specs.States.{Stands}
use Rattle.place_makes.proofs.made_trees.plan_model.OneRecord.{own_record}
use Rattle.place_makes.proofs.made_trees.written_values.plan_edits.plan_growth.Resizing.{slot_open}
use Rattle.refused_places.proofs.Pieces.{bytes_in, IsMadeOf, whole_made_of}

-- ---- the value in its record

form_in : (mapped : Bool) (s value x : List ℕ) (indexed : ℕ) (other : OwnForm) → form_value other ≡ None → length x ≤ length s → form_value (cond mapped other (Resident x indexed)) ≡ Some value → length value ≤ length s
form_in true s value x indexed other none low is = absurd cc
form_in false s value x indexed other none low is = (let same : x ≡ value = cc in subst (λ (l : List ℕ). length l ≤ length s) same low)

piece_in : (s value : List ℕ) → form_value (attr_of s).form ≡ Some value → length value ≤ length s
unfolding attr_of form_of
piece_in s value is =
    let taken = length-take (field 0x10 4 s) (drop (field 0x14 2 s) s) in
    let dropped = length-drop (field 0x14 2 s) s in
    form_in (is_mapped s) s value _ (field 0x16 1 s) (Mapped (sizes_of s) (drop (field 0x20 2 s) s)) refl (omega (arith, taken, dropped)) is

-- a value of an attribute that is made of one of these pieces is no longer than all of them
in_pieces : (p : Attr → Bool) (pieces : List (List ℕ)) (value : List ℕ) → attr_value (find p (map attr_of pieces)) ≡ Some value → length value ≤ bytes_in pieces
in_pieces p [] value is = absurd cc
in_pieces p (s ∷ pieces) value is = elim (cases_Bool (p (attr_of s))) [
  | inl own ↦ (let here = piece_in s value (rw own at is) in omega (arith, here))
  | inr other ↦ (let rest = in_pieces p pieces value (rw other at is) in omega (arith, rest))
]

value_in : (body : List ℕ) (r : Record) (value : List ℕ) → IsMadeOf body r → root_value r ≡ Some value → length value ≤ 1024
unfolding root_value
value_in body r value k is = (let own = in_pieces is_names_root k.pieces value (ap (λ (l : List Attr). attr_value (find is_names_root l)) (sym k.attrs) ∙ is) in let low = k.bytes in omega (arith, own, low))

value_by : (initialised at : ℕ) (c : Content) (o : Option Block) (r : Record) (value : List ℕ) → cond (leb initialised at) Free (slot_at c o) ≡ Used r → root_value r ≡ Some value → length value ≤ 1024
unfolding slot_of
value_by initialised at c o r value is root = by_test (leb initialised at) o is
  where
    by_test : (t : Bool) (b : Option Block) → cond t Free (slot_at c b) ≡ Used r → length value ≤ 1024
    by_test true b same = absurd cc
    by_test false None same = absurd cc
    by_test false (Some b) same = value_in (c b).bytes r value (whole_made_of (c b).bytes r (read_in_use (c b).torn (is_used (c b).bytes) (whole_record (c b).bytes) r same).2) root

pub value_low : (c : Content) (g : Geometry) (clusters : ℕ) (v : Volume) (n : ℕ) (r : Record) (value : List ℕ) → Stands c g clusters v → file_in v n ≡ Some r → has_type attribute_list r ≡ false → root_value r ≡ Some value → length value ≤ 1024
value_low c g clusters v n r value state file no_list root = value_by v.table.initialised (1024 * n) c (block_at v.per v.table.runs FileRec n) r value (slot_open c v n r (own_record c g clusters v n r state file no_list).slot) root

-- ---- its entries

no_length : (xs : List ℕ) → [] ≡ xs → length xs ≡ 0
no_length xs e = sym (ap (λ (l : List ℕ). length l) e)

each_short : (spellings : List (List ℕ)) (entries : List Raw) → SpellEntries spellings entries → AllByRecursion IsShort entries
each_short [] entries h = absurd h
each_short (s ∷ spellings) [] h = absurd h
each_short (s ∷ []) (e ∷ []) h = ((let none = no_length e.key h.no_key in omega (arith, none)), tt)
each_short (s ∷ []) (e ∷ f ∷ entries) h = absurd h
each_short (s ∷ t ∷ spellings) (e ∷ []) h = absurd h
each_short (s ∷ t ∷ spellings) (e ∷ f ∷ entries) h = (short_key e.key h.0.lawful, each_short (t ∷ spellings) (f ∷ entries) h.1)

entries_low : (value : List ℕ) (root : List Raw) → root_at value ≡ Ok root → length value ≤ 1024 → entries_length root ≤ 1024
unfolding root_room
entries_low value root is low = elim (cases_lt (root_room 1024 value) (entries_length root + 0)) [
  | inl over ↦ (let more = tight_record 1024 0 value root is over in absurd (omega (arith, more)))
  | inr room ↦ omega (arith, room, low)
]

pub root_sized : (value : List ℕ) (root : List Raw) → root_at value ≡ Ok root → length value ≤ 1024 → RootSized root
root_sized value root is low =
    let h = (root_from_ok value root is).holds in
    record { keys = All-from_recursion IsShort root (each_short h.spellings root h.spelled); room = entries_low value root is low }
