-- The printed text of a run.
use Rattle.std.specs.Prelude.{◌≡◌, ℕ, Bool, List, [], ◌∷◌, ◌++◌, length, map, codes}
use Rattle.std.specs.List.{flat_map}
use Rattle.std.specs.List.Sorted.{IsPermutation, IsSortedBy, IsStableBy}
use Rattle.std.specs.declared.cmp.Ordering.{Ordering}
use Rattle.std.specs.Ordering.{nat_cmp, ordering_then, is_lt}
use Rattle.std.specs.Int.{w32, to_be_bytes}
use Rattle.std.specs.Fmt.{decimal}
use Rattle.hex.specs.Hex.{encode_lower}
use Rattle.tree_model.specs.utf16_name.Texts.{name_text}
use Rattle.tree_model.specs.file_tree.declared.node.Kind.{Kind}
use Rattle.tree_model.specs.file_tree.declared.node.Kind.TheVariants.{Directory, File, Fixed, Opaque, System}
use Rattle.tree_model.specs.file_tree.declared.node.Why.{Why}
use Rattle.tree_model.specs.file_tree.declared.node.Why.TheVariants as why
use Rattle.tree_model.specs.file_tree.declared.journal.Usn.{Usn}
use Rattle.tree_model.specs.declared.reply.Hit.{Hit}
use Rattle.tree_model.specs.declared.reply.Reply.{Reply}
use Rattle.tree_model.specs.declared.reply.Reply.TheVariants as reply
use Rattle.run_model.specs.declared.turn.Turn.{Turn}
use Rattle.run_model.specs.declared.turn.FindLine.{FindLine}

-- a number and a blank
abbrev pub blank_after : ℕ → List ℕ → List ℕ
blank_after n rest = decimal n ++ 32 ∷ rest

-- a word and a number, and a word and two
abbrev pub numbered : List ℕ → ℕ → List ℕ
numbered word n = word ++ 32 ∷ decimal n

abbrev pub twice_numbered : List ℕ → ℕ → ℕ → List ℕ
twice_numbered word a b = word ++ 32 ∷ blank_after a (decimal b)

-- eight lower-case hexadecimal digits
unfoldable pub eight_digits : ℕ → List ℕ
eight_digits n = encode_lower (to_be_bytes w32 n)

-- two lower-case hexadecimal digits for each byte, or `-` where there are none
unfoldable pub hex_or_dash : List ℕ → List ℕ
hex_or_dash [] = 45 ∷ []
hex_or_dash (byte ∷ bytes) = encode_lower (byte ∷ bytes)

abbrev pub kind_text : Kind → List ℕ
kind_text Directory = codes "directory"
kind_text File = codes "file"
kind_text Fixed = codes "fixed"
kind_text Opaque = codes "opaque"
kind_text System = codes "system"

-- N S KIND LINKS SIZE CLUSTERS CREATED MODIFIED CHANGED READ
abbrev pub stat_text : ℕ → ℕ → Kind → ℕ → ℕ → ℕ → ℕ → ℕ → ℕ → ℕ → List ℕ
stat_text number seq kind links size clusters created modified changed read_at =
    blank_after number (blank_after seq (kind_text kind ++ 32 ∷ blank_after links (blank_after size (blank_after clusters (blank_after created (blank_after modified (blank_after changed (decimal read_at))))))))

abbrev pub why_text : Why → List ℕ
why_text why.List = codes "list"
why_text why.Reparse = codes "reparse"
why_text why.Encrypted = codes "encrypted"
why_text why.Compressed = codes "compressed"
why_text why.Sparse = codes "sparse"
why_text why.Object = codes "object"

-- a blank before each name, a slash before each name
abbrev pub listed_names : List (List ℕ) → List ℕ
listed_names names = flat_map (λ name. 32 ∷ name_text name) names

abbrev pub path_text : List (List ℕ) → List ℕ
path_text names = flat_map (λ name. 47 ∷ name_text name) names

-- N:PATH, with a blank before it
abbrev pub hit_text : Hit → List ℕ
hit_text hit = 32 ∷ (decimal hit.child ++ 58 ∷ path_text hit.path)

-- USN:REASON:N:NAME, with a blank before it
abbrev pub usn_text : Usn → List ℕ
usn_text u = 32 ∷ (decimal u.usn ++ 58 ∷ (eight_digits u.reason ++ 58 ∷ (decimal u.child.number ++ 58 ∷ name_text u.name)))

-- a reply as it is printed
unfoldable pub reply_text : Reply → List ℕ
reply_text (reply.Created number seq) = twice_numbered (codes "created") number seq
reply_text (reply.Wrote count) = numbered (codes "wrote") count
reply_text (reply.Size size) = numbered (codes "size") size
reply_text (reply.Bytes bytes) = codes "bytes " ++ hex_or_dash bytes
reply_text (reply.Stat number seq kind links size clusters created modified changed read_at) = codes "stat " ++ stat_text number seq kind links size clusters created modified changed read_at
reply_text (reply.Names names) = codes "names " ++ (decimal (length names) ++ listed_names names)
reply_text reply.Linked = codes "linked"
reply_text reply.Renamed = codes "renamed"
reply_text reply.Removed = codes "removed"
reply_text (reply.Synced turns) = numbered (codes "synced") turns
reply_text (reply.Index usn) = numbered (codes "index") usn
reply_text (reply.Found hits) = codes "found " ++ (decimal (length hits) ++ flat_map hit_text hits)
reply_text (reply.Journal next entries) = codes "journal " ++ blank_after next (decimal (length entries) ++ flat_map usn_text entries)
reply_text reply.BadName = codes "bad-name"
reply_text (reply.NotFound part) = numbered (codes "not-found") part
reply_text (reply.NotDirectory part) = numbered (codes "not-directory") part
reply_text reply.IsDirectory = codes "is-directory"
reply_text reply.System = codes "system"
reply_text (reply.FixedBy why) = codes "fixed " ++ why_text why
reply_text reply.Exists = codes "exists"
reply_text reply.NotEmpty = codes "not-empty"
reply_text reply.IntoItself = codes "into-itself"
reply_text (reply.TooLong end) = numbered (codes "too-long") end
reply_text (reply.MftFull records) = numbered (codes "mft-full") records
reply_text (reply.NoSpace room needed) = twice_numbered (codes "no-space") room needed
reply_text (reply.RecordFull used) = numbered (codes "record-full") used
reply_text (reply.IndexDeep height) = numbered (codes "index-deep") height
reply_text (reply.Trimmed first) = numbered (codes "trimmed") first
reply_text (reply.Ahead next) = numbered (codes "ahead") next
reply_text reply.Fault = codes "fault"
reply_text reply.Memory = codes "memory"

-- a line, with the client and the number by which it is put in order
pub record Line : Type 0 where
  pub client : ℕ
  pub number : ℕ
  pub text : List ℕ

-- CLIENT NUMBER SERIAL USN REPLY
abbrev pub turn_line : Turn → Line
turn_line t = record {
  client = t.client;
  number = t.number;
  text = blank_after t.client (blank_after t.number (blank_after t.serial (blank_after t.usn (reply_text t.reply ++ 10 ∷ []))));
}

-- a find has no serial, and the index's position as USN
abbrev pub find_line : FindLine → Line
find_line f = record {
  client = f.client;
  number = f.number;
  text = blank_after f.client (blank_after f.number (45 ∷ 32 ∷ blank_after f.usn (reply_text f.reply ++ 10 ∷ [])));
}

-- by client, and then by number
abbrev pub line_order : Line → Line → Ordering
line_order a b = ordering_then (nat_cmp a.client b.client) (nat_cmp a.number b.number)

abbrev pub line_before : Line → Line → Bool
line_before a b = is_lt (line_order a b)

-- The text of a run: the lines of its turns and finds, by client and then by number; those that tie, of which a run has
-- none, stand as before.
pub record IsRunText (turns : List Turn) (finds : List FindLine) (text : List ℕ) : Type 0 where
  pub order : List Line
  pub same : IsPermutation (map turn_line turns ++ map find_line finds) order
  pub sorted : IsSortedBy line_before order
  pub ties : IsStableBy line_before (map turn_line turns ++ map find_line finds) order
  pub printed : text ≡ flat_map (λ (line : Line). line.text) order
