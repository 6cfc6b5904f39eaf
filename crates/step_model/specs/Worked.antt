-- Worked rows: clusters that streams take one after the other, and records that a change makes too full.
use Rattle.std.specs.Prelude.{◌≡◌, ℕ, Bool, true, false, List, [], ◌∷◌, Option, Some, None}
use Rattle.record_writer.specs.disk_model.Bytes.{zeros}
use Rattle.plan_model.specs.record_model.declared.attribute.Attr.{Attr}
use Rattle.plan_model.specs.record_model.declared.runs.Run.{Run}
use Rattle.plan_model.specs.record_model.Constants.{standard_information, file_name, data_type}
use Rattle.plan_model.specs.record_model.Records.{Record}
use Rattle.plan_model.specs.file_tree.declared.node.Kind.TheVariants.{File}
use Rattle.plan_model.specs.file_tree.declared.node.Node.{Node}
use Rattle.plan_model.specs.file_tree.declared.node.Why.TheVariants as why
use Rattle.plan_model.specs.stream_laws.Sharing.{StreamKey}
use Rattle.run_model.specs.tree_model.declared.script.Op.{Op}
use Rattle.run_model.specs.tree_model.declared.script.Op.TheVariants as op
use Rattle.run_model.specs.tree_model.declared.reply.Reply.{Reply}
use Rattle.run_model.specs.tree_model.declared.reply.Reply.TheVariants as reply
use Rattle.step_model.specs.Placing.{Growth, AllPlaced, runs_after}
use Rattle.step_model.specs.Used.{used_after, new_attr, value_attr}
use Rattle.step_model.specs.Streams.{Comes, data_comes}
use Rattle.step_model.specs.Plans.{full_row}
use Rattle.step_model.specs.Steps.{Done, Refused, Synced, GivenUp, Never, answer_of}

-- ---- clusters

-- the clusters 0, 3 and 8 of ten are taken
abbrev pub worked_bits : List Bool
worked_bits = true ∷ false ∷ false ∷ true ∷ false ∷ false ∷ false ∷ false ∷ true ∷ false ∷ []

abbrev pub run : ℕ → ℕ → ℕ → Run
run vcn lcn len = record { vcn = vcn; lcn = Some lcn; len = len }

abbrev pub worked_stream : ℕ → StreamKey
worked_stream n = record { file = n; kind = data_type; name = [] }

-- a stream in cluster 0 grows to four clusters: two directly behind, and the first one that is clear
abbrev pub first_growth : Growth
first_growth = record { stream = worked_stream 25; old = run 0 0 1 ∷ []; clusters = 4; runs = run 0 1 2 ∷ run 2 4 1 ∷ []; stands = false }

-- the next one gets three in a row of those that are left
abbrev pub second_growth : Growth
second_growth = record { stream = worked_stream 26; old = []; clusters = 3; runs = run 0 5 3 ∷ []; stands = false }

-- a stream that is cut to two of its four clusters
abbrev pub a_cut : Growth
a_cut = record { stream = worked_stream 25; old = run 0 0 1 ∷ run 1 4 3 ∷ []; clusters = 2; runs = []; stands = false }

pub record WorkedClusters : Type 0 where
  pub placed : AllPlaced worked_bits (first_growth ∷ second_growth ∷ [])
  pub behind : runs_after first_growth ≡ run 0 0 3 ∷ run 3 4 1 ∷ []
  pub new : runs_after second_growth ≡ run 0 5 3 ∷ []
  pub cut : runs_after a_cut ≡ run 0 0 1 ∷ run 1 4 1 ∷ []

-- ---- records

-- a file whose name has one unit, with a value of so many bytes, and other attributes of so many bytes
abbrev pub worked_attrs : ℕ → List Attr → List Attr
worked_attrs size others = value_attr 72 (new_attr standard_information []) ∷ value_attr 68 (new_attr file_name []) ∷ value_attr size (new_attr data_type []) ∷ others

abbrev pub worked_file : ℕ → Node
worked_file size = record {
  number = 25;
  seq = 1;
  kind = File;
  why = None;
  held = false;
  size = size;
  valid = size;
  clusters = 0;
  bytes = zeros size;
  flags = 0x20;
  created = 0;
  modified = 0;
  changed = 0;
  read_at = 0;
}

abbrev pub worked_record : ℕ → List Attr → Record
worked_record size others = record {
  head = record { lsn = 0; seq = 1; links = 1; flags = 1; base = record { number = 0; seq = 0 }; next_id = 3; number = 25 };
  attrs = worked_attrs size others;
}

-- a write of so many bytes to a file without any, and whether they stand in its record then
abbrev pub fill : ℕ → Op
fill count = op.Fill [] 0 count 0x61

abbrev pub Stands : ℕ → Bool → Type 0
Stands count stands = (data_comes worked_bits (worked_record 0 []) (fill count) (worked_file 0)).growth.stands ≡ stands

-- the used bytes of its record then, beside other attributes
abbrev pub used_beside : List Attr → ℕ → ℕ
used_beside others count = used_after (data_comes worked_bits (worked_record 0 others) (fill count) (worked_file 0)).attrs (worked_record 0 others)

-- an attribute of another type, which takes 704 bytes
abbrev pub large : List Attr
large = value_attr 680 (new_attr 0x100 []) ∷ []

-- a value of 700 bytes beside it that is cut to so many
abbrev pub cut_beside : ℕ → Comes
cut_beside size = data_comes worked_bits (worked_record 700 large) (op.Truncate [] size) (worked_file 700)

abbrev pub cut_row : ℕ → Option Reply
cut_row size = full_row (used_after (cut_beside size).attrs (worked_record 700 large) ∷ [])

pub record WorkedRecords : Type 0 where
  pub room : Stands 744 true
  pub no_room : Stands 745 false
  pub filled : used_beside [] 744 ≡ 1024
  pub left : used_beside [] 745 ≡ 328
  pub full : full_row (used_beside large 100 ∷ []) ≡ Some (reply.RecordFull 1032)
  pub empty : full_row (used_beside large 0 ∷ []) ≡ None
  pub stays : (cut_beside 41).growth.stands ≡ true
  pub over : cut_row 41 ≡ Some (reply.RecordFull 1032)
  pub within : cut_row 40 ≡ None

-- ---- answers

pub record WorkedAnswers : Type 0 where
  pub made : answer_of (op.Create []) (reply.Created 25 1) ≡ Done
  pub deep : answer_of (op.Create []) (reply.IndexDeep 16) ≡ Refused
  pub no_index : answer_of (fill 1) (reply.IndexDeep 16) ≡ Never
  pub given_up : answer_of (fill 1) reply.Memory ≡ GivenUp
  pub synced : answer_of op.Sync (reply.Synced 3) ≡ Synced
  pub failed : answer_of op.Sync reply.Fault ≡ GivenUp
  pub no_memory : answer_of op.Sync reply.Memory ≡ Never
  pub other : answer_of (op.Create []) (reply.Wrote 1) ≡ Never
  pub read : answer_of (op.Read [] 0 1) (reply.Bytes []) ≡ Done
  pub opaque : answer_of (op.Read [] 0 1) (reply.FixedBy why.Encrypted) ≡ Refused
  pub sparse : answer_of (op.Read [] 0 1) (reply.FixedBy why.Sparse) ≡ Never
  pub not_yet : answer_of (op.Remove []) reply.Removed ≡ Never
