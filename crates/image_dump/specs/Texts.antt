-- The printed texts of a tree and of its journal.
use Rattle.std.specs.Prelude.{ℕ, List, [], ◌∷◌, ◌++◌, length, codes, Option, Some, None}
use Rattle.std.specs.List.{flat_map}
use Rattle.std.specs.Fmt.{decimal, signed_decimal}
use Rattle.utf16_name.specs.Texts.{name_text}
use Rattle.file_tree.specs.declared.node.Node.{Node}
use Rattle.file_tree.specs.declared.link.Link.{Link}
use Rattle.file_tree.specs.declared.journal.Usn.{Usn}
use Rattle.file_tree.specs.declared.journal.Journal.{Journal}
use Rattle.file_tree.specs.declared.tree.Tree.{Tree}
use Rattle.run_model.specs.Texts.{kind_text, eight_digits}
use Rattle.image_dump.specs.Order.{by_number, long_links, short_links}

-- ---- words

-- words, a blank before each, and the line's end
abbrev pub ended : List (List ℕ) → List ℕ
ended [] = 10 ∷ []
ended (word ∷ words) = 32 ∷ (word ++ ended words)

-- a line of these words, with a blank between each two
abbrev pub line : List ℕ → List (List ℕ) → List ℕ
line first words = first ++ ended words

-- ---- scan

-- N S P Q NAME: child and sequence, parent and sequence
unfoldable pub link_line : Link → List ℕ
link_line link = line (decimal link.child.number) (decimal link.child.seq ∷ decimal link.parent.number ∷ decimal link.parent.seq ∷ name_text link.name ∷ [])

-- links K
unfoldable pub total_line : ℕ → List ℕ
total_line count = line (codes "links") (decimal count ∷ [])

-- a line for each link, and how many there are
abbrev pub links_text : List Link → List ℕ
links_text links = flat_map link_line links ++ total_line (length links)

-- the long links in order, and how many there are
abbrev pub scan_text : List Link → List ℕ
scan_text links = links_text (long_links links)

-- ---- dump

-- node N S KIND SIZE VALID CLUSTERS CREATED MODIFIED CHANGED READ
unfoldable pub node_line : Node → List ℕ
node_line node = line (codes "node") (decimal node.number ∷ decimal node.seq ∷ kind_text node.kind ∷ decimal node.size ∷ decimal node.valid ∷ decimal node.clusters ∷ decimal node.created ∷ decimal node.modified ∷ decimal node.changed ∷ decimal node.read_at ∷ [])

-- link N P long NAME
unfoldable pub long_line : Link → List ℕ
long_line link = line (codes "link") (decimal link.child.number ∷ decimal link.parent.number ∷ codes "long" ∷ name_text link.name ∷ [])

-- link N P short NAME
unfoldable pub short_line : Link → List ℕ
short_line link = line (codes "link") (decimal link.child.number ∷ decimal link.parent.number ∷ codes "short" ∷ name_text link.name ∷ [])

-- journal FIRST NEXT REACH, or journal - where there is none
unfoldable pub journal_line : Option Journal → List ℕ
journal_line None = line (codes "journal") (codes "-" ∷ [])
journal_line (Some journal) = line (codes "journal") (decimal journal.first ∷ decimal journal.next ∷ decimal journal.reach ∷ [])

-- room R
unfoldable pub room_line : ℕ → List ℕ
room_line room = line (codes "room") (decimal room ∷ [])

-- the nodes by number, the long links in order, the short links in order, the journal and the room
abbrev pub dump_text : Tree → List ℕ
dump_text tree =
    flat_map node_line (by_number tree.nodes)
    ++ flat_map long_line (long_links tree.links)
    ++ flat_map short_line (short_links tree.links)
    ++ journal_line tree.journal
    ++ room_line tree.room

-- ---- check

-- FIRST NEXT, or - where there is no journal
abbrev pub ends_of : Option Journal → List (List ℕ)
ends_of None = codes "-" ∷ []
ends_of (Some journal) = decimal journal.first ∷ decimal journal.next ∷ []

-- ok nodes N links L room R journal FIRST NEXT; the links are the long and the short ones
unfoldable pub check_text : Tree → List ℕ
check_text tree = line (codes "ok") (codes "nodes" ∷ decimal (length tree.nodes) ∷ codes "links" ∷ decimal (length tree.links) ∷ codes "room" ∷ decimal tree.room ∷ codes "journal" ∷ ends_of tree.journal)

-- ---- journal

-- USN N S P Q REASON ATTRS TIME NAME: child and sequence, parent and sequence
unfoldable pub entry_line : Usn → List ℕ
entry_line entry = line (decimal entry.usn) (decimal entry.child.number ∷ decimal entry.child.seq ∷ decimal entry.parent.number ∷ decimal entry.parent.seq ∷ eight_digits entry.reason ∷ eight_digits entry.flags ∷ signed_decimal entry.time ∷ name_text entry.name ∷ [])

-- journal FIRST NEXT
unfoldable pub span_line : ℕ → ℕ → List ℕ
span_line first next = line (codes "journal") (decimal first ∷ decimal next ∷ [])

-- a line for each record as they stand, and where the journal begins and goes on
abbrev pub journal_text : List Usn → ℕ → ℕ → List ℕ
journal_text entries first next = flat_map entry_line entries ++ span_line first next
