-- The walk over an index that a content may hold, and the search for a name in it: what they meet in order, up to the first
-- fault.
use Rattle.std.specs.Prelude.{ℕ, zero, suc, ◌-◌, ◌^◌, Bool, true, false, not, ◌&&◌, List, [], ◌∷◌, ◌++◌, length, replicate, set, slice_index_or, is_some, Option, Some, None, Result, Ok, Err}
use Rattle.state_model.specs.host_base.Answers.{◌>>=◌, needs}
use Rattle.state_model.specs.disk_model.Content.{Content}
use Rattle.state_model.specs.record_model.declared.entry.Entry.{Entry}
use Rattle.state_model.specs.record_model.Nodes.{root_at}
use Rattle.state_model.specs.file_tree.declared.link.Link.{Link}
use Rattle.state_model.specs.file_tree.Names.{same_name, comes_before}
use Rattle.index_model.specs.declared.side.Side.{Side}
use Rattle.index_model.specs.declared.side.Side.TheVariants.{Unnamed, Before, Same, Behind}
use Rattle.index_model.specs.Indexes.{Place, number_of, node_block, node_of_block, entry_link, precedes}

-- a node and the rule that it breaks
pub record Broken : Type 0 where
  pub vcn : ℕ
  pub rule : ℕ

-- the VCN by which a fault names the root
abbrev pub root_vcn : ℕ
root_vcn = 2 ^ 64 - 1

-- ---- what a walk meets

-- a child below a node; a child on level 17 below a node; a node that breaks a rule by its own bytes; a key of a node; a key
-- that a search finds
pub data Event : Type 0 where
  Child : ℕ → ℕ → Event
  Deep : ℕ → Event
  Faulty : ℕ → ℕ → Event
  Named : ℕ → Link → Event
  Found : Link → Event

-- what is met below an entry, where each child gives these
abbrev pub below : (ℕ → List Event) → Option ℕ → List Event
below kid None = []
below kid (Some v) = kid v

-- what is met in a node that is read
abbrev pub inside : ℕ → (List Entry → List Event) → Result (List Entry) ℕ → List Event
inside v met (Ok entries) = met entries
inside v met (Err rule) = Faulty v rule ∷ []

-- what is met at a child, where so many levels may lie below its node: the child, and then its node
abbrev pub at_child : (ℕ → Result (List Entry) ℕ) → (ℕ → List Entry → List Event) → ℕ → ℕ → List Event
at_child read met v child = Child v child ∷ inside child (met child) (read child)

abbrev pub at_deep : ℕ → ℕ → List Event
at_deep v child = Deep v ∷ []

abbrev pub named_event : ℕ → Option Link → List Event
named_event v None = []
named_event v (Some l) = Named v l ∷ []

-- what is met at an entry of a node: what hangs below it, and then its key
abbrev pub entry_met : (ℕ → List Event) → ℕ → Entry → List Event
entry_met kid v e = below kid e.down ++ named_event v (entry_link e)

abbrev pub entries_met : (ℕ → List Event) → ℕ → List Entry → List Event
entries_met kid v [] = []
entries_met kid v (e ∷ entries) = entry_met kid v e ++ entries_met kid v entries

-- what a walk meets at a node's entries, in order, where so many levels may lie below the node
unfoldable pub met_in : (ℕ → Result (List Entry) ℕ) → ℕ → ℕ → List Entry → List Event
met_in read zero v entries = entries_met (at_deep v) v entries
met_in read (suc levels) v entries = entries_met (at_child read (met_in read levels) v) v entries

-- what a walk meets at a child of a node
abbrev pub kid_met : (ℕ → Result (List Entry) ℕ) → ℕ → ℕ → ℕ → List Event
kid_met read zero v child = at_deep v child
kid_met read (suc levels) v child = at_child read (met_in read levels) v child

-- ---- what a search for a name meets: it passes over the keys before the name, with what hangs below them, and ends behind it

abbrev pub side_by : Bool → Bool → Side
side_by true before = Same
side_by false true = Before
side_by false false = Behind

-- where a link stands to a name
abbrev pub side_of : List ℕ → List ℕ → Option Link → Side
side_of upper name None = Unnamed
side_of upper name (Some l) = side_by (same_name upper l.name name) (comes_before upper l.name name)

-- what is met below an entry
abbrev pub beside : Side → List Event → List Event
beside Unnamed child = child
beside Before child = []
beside Same child = child
beside Behind child = child

-- what is met at an entry's key
abbrev pub found_event : Side → Option Link → List Event
found_event side None = []
found_event Unnamed (Some l) = []
found_event Before (Some l) = []
found_event Same (Some l) = Found l ∷ []
found_event Behind (Some l) = []

abbrev pub entry_sought : Side → Option Link → List Event → List Event
entry_sought side link child = beside side child ++ found_event side link

-- what is met behind an entry
abbrev pub behind : Side → List Event → List Event
behind Unnamed later = later
behind Before later = later
behind Same later = later
behind Behind later = []

abbrev pub entries_sought : List ℕ → List ℕ → (ℕ → List Event) → List Entry → List Event
entries_sought upper name kid [] = []
entries_sought upper name kid (e ∷ entries) =
    entry_sought (side_of upper name (entry_link e)) (entry_link e) (below kid e.down) ++ behind (side_of upper name (entry_link e)) (entries_sought upper name kid entries)

unfoldable pub sought_in : List ℕ → List ℕ → (ℕ → Result (List Entry) ℕ) → ℕ → ℕ → List Entry → List Event
sought_in upper name read zero v entries = entries_sought upper name (at_deep v) entries
sought_in upper name read (suc levels) v entries = entries_sought upper name (at_child read (sought_in upper name read levels) v) entries

-- what a search meets at a child of a node
abbrev pub kid_sought : List ℕ → List ℕ → (ℕ → Result (List Entry) ℕ) → ℕ → ℕ → ℕ → List Event
kid_sought upper name read zero v child = at_deep v child
kid_sought upper name read (suc levels) v child = at_child read (sought_in upper name read levels) v child

-- ---- the first fault

-- what was met so far: the links of keys, and a mark for each block that was met
pub record Met : Type 0 where
  pub links : List Link
  pub marks : List Bool

abbrev pub with_link : Met → Link → Met
with_link m l = record { links = m.links ++ l ∷ []; marks = m.marks }

-- the VCN lies in the allocation and wasn't met before
abbrev pub is_fresh : Place → Met → ℕ → Bool
is_fresh p m v = is_some (node_block p v) && not (slice_index_or m.marks (number_of p v) true)

abbrev pub with_mark : Place → Met → ℕ → Met
with_mark p m v = record { links = m.links; marks = set m.marks (number_of p v) true }

-- the final link of a list
abbrev pub final : List Link → Option Link
final [] = None
final (l ∷ []) = Some l
final (l ∷ k ∷ links) = final (k ∷ links)

-- a link may stand behind the one before it, if there is one
abbrev pub follows : List ℕ → Option Link → Link → Bool
follows upper None l = true
follows upper (Some k) l = precedes upper k l

-- a child of a node, which lies in the allocation and wasn't met before
abbrev pub entered : Place → Met → ℕ → ℕ → Result Met Broken
entered p m v child = needs (is_fresh p m child) (record { vcn = v; rule = 7 }) >>= λ _. Ok (with_mark p m child)

-- a key of a node, which may stand behind the last one
abbrev pub keyed : List ℕ → Met → ℕ → Link → Result Met Broken
keyed upper m v l = needs (follows upper (final m.links) l) (record { vcn = v; rule = 8 }) >>= λ _. Ok (with_link m l)

-- what was met after one event more, or the node that it is a fault of
abbrev pub judged : Place → List ℕ → Met → Event → Result Met Broken
judged p upper m (Child v child) = entered p m v child
judged p upper m (Deep v) = Err (record { vcn = v; rule = 7 })
judged p upper m (Faulty v rule) = Err (record { vcn = v; rule = rule })
judged p upper m (Named v l) = keyed upper m v l
judged p upper m (Found l) = Ok (with_link m l)

-- what was met after these events, or the first fault
abbrev pub all_judged : Place → List ℕ → Met → List Event → Result Met Broken
all_judged p upper m [] = Ok m
all_judged p upper m (e ∷ events) = judged p upper m e >>= λ n. all_judged p upper n events

abbrev pub nothing_met : Place → Met
nothing_met p = record { links = []; marks = replicate (length p.blocks) false }

abbrev pub met_from : Place → List ℕ → (List Entry → List Event) → Result (List Entry) ℕ → Result (List Link) Broken
met_from p upper met (Err rule) = Err (record { vcn = root_vcn; rule = rule })
met_from p upper met (Ok entries) = all_judged p upper (nothing_met p) (met entries) >>= λ m. Ok m.links

-- the links of the keys of an index with this root's value in a content, or the first fault that a walk over it meets
unfoldable pub walk_of : Content → Place → List ℕ → List ℕ → Result (List Link) Broken
walk_of c p upper root = met_from p upper (met_in (node_of_block c p) 15 root_vcn) (root_at root)

-- the links with a same name, or the first fault that the search for it meets
unfoldable pub find_of : Content → Place → List ℕ → List ℕ → List ℕ → Result (List Link) Broken
find_of c p upper name root = met_from p upper (sought_in upper name (node_of_block c p) 15 root_vcn) (root_at root)
