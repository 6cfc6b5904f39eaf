-- What the calls over an index answer.
use Rattle.std.specs.Prelude.{◌≡◌, ℕ, ⊤, Bool, List, Result, Ok, Err}
use Rattle.std.specs.List.{filter}
use Rattle.stream_map.specs.disk_model.Content.{Content}
use Rattle.volume_model.specs.file_tree.declared.link.Link.{Link}
use Rattle.volume_model.specs.file_tree.Names.{same_name}
use Rattle.index_model.specs.Trees.{Tree, walk}
use Rattle.index_model.specs.Indexes.{Place, links_of}
use Rattle.index_model.specs.Breaks.{BreaksWalk, BreaksSearch}
use Rattle.index_model.specs.Laws.{HoldsIndex}
use Rattle.index_tree.specs.declared.fault.TreeFault.{TreeFault}
use Rattle.index_tree.specs.declared.fault.TreeFault.TheVariants.{Node, Present, Absent, Deep, View}

-- the content holds no index at that place
abbrev pub HoldsNone : Content → Place → List ℕ → List ℕ → Type 0
HoldsNone c p upper value = (t : Tree) → HoldsIndex c p upper value t → ⊥

-- a walk gives the links of the keys of the index that the content holds; or it names a node that breaks a rule, and then the
-- content holds none
abbrev pub WalkGives : Content → Place → List ℕ → List ℕ → Result (List Link) TreeFault → Type 0
WalkGives c p upper value (Ok links) = (t : Tree) × HoldsIndex c p upper value t × (links ≡ links_of (walk t))
WalkGives c p upper value (Err (Node vcn rule)) = BreaksWalk c p upper value (record { vcn = vcn; rule = rule }) × HoldsNone c p upper value
WalkGives c p upper value (Err Present) = ⊥
WalkGives c p upper value (Err Absent) = ⊥
WalkGives c p upper value (Err (Deep height)) = ⊥
WalkGives c p upper value (Err (View cause)) = ⊤

-- the name of a link is the one that is sought
abbrev pub is_sought : List ℕ → List ℕ → Link → Bool
is_sought upper name l = same_name upper l.name name

-- a search gives the links of the keys with this name, in their order, where the content holds an index; or it names a node that
-- breaks a rule, and then the content holds none
abbrev pub FindGives : Content → Place → List ℕ → List ℕ → List ℕ → Result (List Link) TreeFault → Type 0
FindGives c p upper name value (Ok links) = (t : Tree) → HoldsIndex c p upper value t → links ≡ filter (is_sought upper name) (links_of (walk t))
FindGives c p upper name value (Err (Node vcn rule)) = BreaksSearch c p upper name value (record { vcn = vcn; rule = rule }) × HoldsNone c p upper value
FindGives c p upper name value (Err Present) = ⊥
FindGives c p upper name value (Err Absent) = ⊥
FindGives c p upper name value (Err (Deep height)) = ⊥
FindGives c p upper name value (Err (View cause)) = ⊤
