-- What a node that a fault names breaks.
use Rattle.std.specs.Prelude.{◌≡◌, ◌⊎◌, ℕ, suc, false, List, [], ◌∷◌, ◌++◌, Some, None, Result, Ok, Err}
use Rattle.state_model.specs.disk_model.declared.block.Block.{Block}
use Rattle.state_model.specs.disk_model.Content.{Content}
use Rattle.state_model.specs.record_model.declared.entry.Entry.{Entry}
use Rattle.state_model.specs.record_model.Nodes.{root_at}
use Rattle.state_model.specs.file_tree.declared.link.Link.{Link}
use Rattle.index_model.specs.Indexes.{Place, node_block, node_of_body, node_of_block, entry_link, precedes, most_levels}
use Rattle.index_model.specs.Walks.{Broken, root_vcn, Event, Child, Deep, Faulty, Named, Found, final, met_in, sought_in}

-- some entry has this child
abbrev pub HasChild : ℕ → List Entry → Type 0
HasChild child [] = ⊥
HasChild child (e ∷ entries) = (e.down ≡ Some child) ⊎ HasChild child entries

-- some entry holds this link
abbrev pub HasLink : Link → List Entry → Type 0
HasLink l [] = ⊥
HasLink l (e ∷ entries) = (entry_link e ≡ Some l) ⊎ HasLink l entries

-- a node of these entries hangs on this level; the root hangs on level 1
pub data Hangs (read : ℕ → Result (List Entry) ℕ) (root : List Entry) : ℕ → ℕ → List Entry → Type 0 where
  at_root : Hangs read root 1 root_vcn root
  below_node : (level v child : ℕ) (entries lower : List Entry) → Hangs read root level v entries → HasChild child entries → read child ≡ Ok lower → Hangs read root (suc level) child lower

-- the node with this VCN is among those that were met
abbrev pub HasMet : ℕ → List Event → Type 0
HasMet x [] = ⊥
HasMet x (Child v child ∷ events) = (x ≡ child) ⊎ HasMet x events
HasMet x (Deep v ∷ events) = HasMet x events
HasMet x (Faulty v rule ∷ events) = HasMet x events
HasMet x (Named v l ∷ events) = HasMet x events
HasMet x (Found l ∷ events) = HasMet x events

-- the links of the keys that were met
abbrev pub links_met : List Event → List Link
links_met [] = []
links_met (Child v child ∷ events) = links_met events
links_met (Deep v ∷ events) = links_met events
links_met (Faulty v rule ∷ events) = links_met events
links_met (Named v l ∷ events) = l ∷ links_met events
links_met (Found l ∷ events) = l ∷ links_met events

-- A child of a node breaks a rule from 1 to 6 by its own bytes. A node breaks rule 7 by a child outside the allocation or
-- one that was met before, or by a child on level 17; and rule 8 by a key that stands before the last one that was met.
pub data Breaks (c : Content) (p : Place) (upper : List ℕ) (root : List Entry) (events : List Event) : Broken → Type 0 where
  by_bytes : (level above v rule : ℕ) (entries : List Entry) (b : Block) → Hangs (node_of_block c p) root level above entries → HasChild v entries → node_block p v ≡ Some b → node_of_body v (c b) ≡ Err rule → Breaks c p upper root events (record { vcn = v; rule = rule })
  by_child : (level v child : ℕ) (entries : List Entry) (before behind : List Event) → Hangs (node_of_block c p) root level v entries → HasChild child entries → events ≡ before ++ Child v child ∷ behind → (node_block p child ≡ None) ⊎ HasMet child before
      → Breaks c p upper root events (record { vcn = v; rule = 7 })
  by_depth : (v child : ℕ) (entries : List Entry) → Hangs (node_of_block c p) root most_levels v entries → HasChild child entries → Breaks c p upper root events (record { vcn = v; rule = 7 })
  by_order : (level v : ℕ) (l k : Link) (entries : List Entry) (before behind : List Event) → Hangs (node_of_block c p) root level v entries → HasLink l entries → events ≡ before ++ Named v l ∷ behind → final (links_met before) ≡ Some k → precedes upper k l ≡ false
      → Breaks c p upper root events (record { vcn = v; rule = 8 })

-- what is broken below a root's value, by what is met: the root by its own bytes, or some node
abbrev pub BreaksBelow : Content → Place → List ℕ → (List Entry → List Event) → Result (List Entry) ℕ → Broken → Type 0
BreaksBelow c p upper met (Err rule) b = b ≡ record { vcn = root_vcn; rule = rule }
BreaksBelow c p upper met (Ok entries) b = Breaks c p upper entries (met entries) b

-- the node that a walk names breaks that rule
abbrev pub BreaksWalk : Content → Place → List ℕ → List ℕ → Broken → Type 0
BreaksWalk c p upper value b = BreaksBelow c p upper (met_in (node_of_block c p) 15 root_vcn) (root_at value) b

-- the node that a search names breaks that rule
abbrev pub BreaksSearch : Content → Place → List ℕ → List ℕ → List ℕ → Broken → Type 0
BreaksSearch c p upper name value b = BreaksBelow c p upper (sought_in upper name (node_of_block c p) 15 root_vcn) (root_at value) b
