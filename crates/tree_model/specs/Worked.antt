-- Worked rows of what refuses operations on files, and of bytes that are written.
use Rattle.std.specs.Prelude.{◌≡◌, ℕ, false, List, [], ◌∷◌, ◌++◌, Option, Some, None}
use Rattle.std.specs.List.{range_with_len}
use Rattle.file_tree.specs.host_base.declared.file_ref.FileRef.{FileRef}
use Rattle.file_tree.specs.declared.node.Kind.{Kind}
use Rattle.file_tree.specs.declared.node.Kind.TheVariants as kind
use Rattle.file_tree.specs.declared.node.Why.{Why}
use Rattle.file_tree.specs.declared.node.Why.TheVariants as why
use Rattle.file_tree.specs.declared.node.Node.{Node}
use Rattle.file_tree.specs.declared.link.Link.{Link}
use Rattle.file_tree.specs.declared.tree.Tree.{Tree}
use Rattle.tree_model.specs.declared.script.Op.{Op}
use Rattle.tree_model.specs.declared.script.Op.TheVariants.{Create, Write, Fill, Truncate, Read}
use Rattle.tree_model.specs.declared.reply.Reply.{Reply}
use Rattle.tree_model.specs.declared.reply.Reply.TheVariants as reply
use Rattle.tree_model.specs.Effects.{put_at, zeros_up_to}
use Rattle.tree_model.specs.Fronts.{bytes_read}
use Rattle.tree_model.specs.Steps.{step_refusal}

-- ---- a small tree

abbrev pub worked_node : ℕ → Kind → Option Why → ℕ → List ℕ → Node
worked_node number kind why valid bytes = record {
  number = number;
  seq = 1;
  kind = kind;
  why = why;
  held = false;
  size = 4;
  valid = valid;
  clusters = 0;
  bytes = bytes;
  flags = 0x20;
  created = 0;
  modified = 0;
  changed = 0;
  read_at = 0;
}

abbrev pub worked_link : ℕ → List ℕ → ℕ → Link
worked_link parent name child = record { parent = record { number = parent; seq = 1 }; name = name; space = 0; child = record { number = child; seq = 1 } }

-- The root; in it `m`, a file of the volume itself, `x`, a directory of it, `d`, a directory, `f`, a file, and `e`, an encrypted one.
abbrev pub worked_tree : List FileRef → ℕ → ℕ → Tree
worked_tree spare count room = record {
  nodes = worked_node 5 kind.Directory None 0 [] ∷ worked_node 0 kind.System None 0 [] ∷ worked_node 11 kind.Directory None 0 [] ∷ worked_node 24 kind.Directory None 0 []
      ∷ worked_node 25 kind.File None 2 (1 ∷ 2 ∷ 0 ∷ 0 ∷ []) ∷ worked_node 26 kind.Opaque (Some why.Encrypted) 0 [] ∷ [];
  links = worked_link 5 (109 ∷ []) 0 ∷ worked_link 5 (120 ∷ []) 11 ∷ worked_link 5 (100 ∷ []) 24 ∷ worked_link 5 (102 ∷ []) 25 ∷ worked_link 5 (101 ∷ []) 26 ∷ [];
  spare = spare;
  count = count;
  journal = None;
  room = room;
}

-- a table in which `F` is the upper-case unit of itself and of `f`, and all other units below 128 are their own
abbrev pub worked_upper : List ℕ
worked_upper = range_with_len 0 102 ++ 70 ∷ range_with_len 103 25

abbrev pub one_spare : List FileRef
one_spare = record { number = 40; seq = 3 } ∷ []

-- with so much room and a spare number, this operation is refused so
abbrev pub Refuses : ℕ → Op → Option Reply → Type 0
Refuses room op row = step_refusal worked_upper (worked_tree one_spare 64 room) 0 [] op ≡ row

-- with none
abbrev pub RefusesFull : ℕ → ℕ → Op → Option Reply → Type 0
RefusesFull count room op row = step_refusal worked_upper (worked_tree [] count room) 0 [] op ≡ row

-- ---- rows

-- new names
pub record WorkedNames : Type 0 where
  pub slash : Refuses 0 (Create []) (Some reply.BadName)
  pub dot : Refuses 0 (Create ((46 ∷ []) ∷ [])) (Some reply.BadName)
  pub dots : Refuses 0 (Create ((46 ∷ 46 ∷ []) ∷ [])) (Some reply.BadName)
  pub slash_in_name : Refuses 0 (Create ((47 ∷ []) ∷ [])) (Some reply.BadName)
  pub missing : Refuses 0 (Create ((121 ∷ []) ∷ (97 ∷ []) ∷ [])) (Some (reply.NotFound 1))
  pub below_file : Refuses 0 (Create ((102 ∷ []) ∷ (97 ∷ []) ∷ [])) (Some (reply.NotDirectory 1))
  pub in_system : Refuses 0 (Create ((120 ∷ []) ∷ (97 ∷ []) ∷ [])) (Some reply.System)
  pub other_case : Refuses 0 (Create ((70 ∷ []) ∷ [])) (Some reply.Exists)
  pub table : RefusesFull 1048576 0 (Create ((97 ∷ []) ∷ [])) (Some (reply.MftFull 1048576))
  pub room : Refuses 81 (Create ((97 ∷ []) ∷ [])) (Some (reply.NoSpace 81 82))
  pub enough : Refuses 82 (Create ((97 ∷ []) ∷ [])) None
  pub room_for_table : RefusesFull 1048320 146 (Create ((97 ∷ []) ∷ [])) (Some (reply.NoSpace 146 147))
  pub enough_for_table : RefusesFull 1048320 147 (Create ((97 ∷ []) ∷ [])) None

-- bytes and sizes
pub record WorkedChanges : Type 0 where
  pub root : Refuses 0 (Write [] 0 (0 ∷ [])) (Some reply.IsDirectory)
  pub directory : Refuses 0 (Write ((100 ∷ []) ∷ []) 0 (0 ∷ [])) (Some reply.IsDirectory)
  pub system : Refuses 0 (Truncate ((109 ∷ []) ∷ []) 0) (Some reply.System)
  pub fixed : Refuses 0 (Fill ((101 ∷ []) ∷ []) 0 0 7) (Some (reply.FixedBy why.Encrypted))
  pub far : Refuses 0 (Write ((102 ∷ []) ∷ []) 100000 (0 ∷ [])) (Some (reply.TooLong 100001))
  pub from_valid : Refuses 0 (Truncate ((102 ∷ []) ∷ []) 65539) (Some (reply.TooLong 65539))
  pub room : Refuses 80 (Truncate ((102 ∷ []) ∷ []) 65538) (Some (reply.NoSpace 80 81))
  pub enough : Refuses 81 (Truncate ((102 ∷ []) ∷ []) 65538) None
  pub shrinking : Refuses 0 (Truncate ((102 ∷ []) ∷ []) 3) None
  pub no_bytes : Refuses 0 (Write ((102 ∷ []) ∷ []) 100000 []) None
  pub same_size : Refuses 0 (Truncate ((102 ∷ []) ∷ []) 4) None

-- reads
pub record WorkedReads : Type 0 where
  pub root : Refuses 0 (Read [] 0 1) (Some reply.IsDirectory)
  pub below_file : Refuses 0 (Read ((102 ∷ []) ∷ (97 ∷ []) ∷ []) 0 1) (Some (reply.NotDirectory 1))
  pub system : Refuses 0 (Read ((109 ∷ []) ∷ []) 0 1) (Some reply.System)
  pub fixed : Refuses 0 (Read ((101 ∷ []) ∷ []) 0 1) (Some (reply.FixedBy why.Encrypted))
  pub file : Refuses 0 (Read ((102 ∷ []) ∷ []) 0 1) None
  pub inside : bytes_read (worked_node 25 kind.File None 2 (1 ∷ 2 ∷ 0 ∷ 0 ∷ [])) 1 2 ≡ 2 ∷ 0 ∷ []
  pub up_to_size : bytes_read (worked_node 25 kind.File None 2 (1 ∷ 2 ∷ 0 ∷ 0 ∷ [])) 3 9 ≡ 0 ∷ []
  pub behind : bytes_read (worked_node 25 kind.File None 2 (1 ∷ 2 ∷ 0 ∷ 0 ∷ [])) 4 9 ≡ []

-- what a write and a truncate leave of bytes of which two are initialised
pub record WorkedBytes : Type 0 where
  pub inside : put_at (1 ∷ 2 ∷ 7 ∷ 7 ∷ []) 2 1 (9 ∷ []) ≡ 1 ∷ 9 ∷ 7 ∷ 7 ∷ []
  pub behind_gap : put_at (1 ∷ 2 ∷ 7 ∷ 7 ∷ []) 2 3 (9 ∷ []) ≡ 1 ∷ 2 ∷ 0 ∷ 9 ∷ []
  pub past_the_end : put_at (1 ∷ 2 ∷ 7 ∷ []) 2 5 (9 ∷ []) ≡ 1 ∷ 2 ∷ 0 ∷ 0 ∷ 0 ∷ 9 ∷ []
  pub longer : zeros_up_to (1 ∷ 2 ∷ 7 ∷ []) 2 5 ≡ 1 ∷ 2 ∷ 0 ∷ 0 ∷ 0 ∷ []
