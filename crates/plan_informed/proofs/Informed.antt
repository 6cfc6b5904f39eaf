-- A record that a draft has put, with other values than the one that stands, is an edit of a plan.
use Rattle.std.proofs.Common.{◌≡◌, ℕ, ◌%◌, true, List, [], ◌∷◌, None, ap, ◌∙◌}
use Rattle.std.specs.List.{list_all}
use Rattle.std.proofs.lemmas.Bool.{or_left}
use Rattle.disk_model.specs.Content.{Content}
use Rattle.plan_edits.specs.record_model.declared.attribute.Attr.{Attr}
use Rattle.plan_edits.specs.record_model.Constants.{data_type}
use Rattle.plan_edits.specs.record_model.Records.{Record}
use Rattle.plan_edits.specs.state_model.declared.geometry.Geometry.{Geometry}
use Rattle.plan_edits.specs.state_model.declared.stream.Extents.{Extents}
use Rattle.plan_edits.specs.state_model.Loads.{has_fitting_pairs, has_all_pairs}
use Rattle.plan_edits.specs.state_model.Streams.{stream_of}
use Rattle.plan_edits.specs.volume_model.Volumes.{Volume}
use Rattle.plan_edits.specs.volume_model.Nodes.{first_flags, data_flags}
use Rattle.plan_edits.specs.plan_owners.States.{Stands}
use Rattle.plan_edits.specs.plan_bodies.Bodies.{NewBody}
use Rattle.plan_edits.specs.plan_draft.declared.touched.Touched.{Touched}
use Rattle.plan_edits.specs.plan_draft.Drafts.{drafted}
use Rattle.plan_edits.specs.plan_model.Attributes.{IsValue, RewritesValues}
use Rattle.plan_edits.specs.plan_model.Informed.{is_info}
use Rattle.plan_edits.specs.plan_model.Parts.{ReplacesAttrs}
use Rattle.plan_edits.proofs.plan_model.OneRecord.{own_record}
use Rattle.plan_edits.proofs.plan_model.Rewriting.{same_attributes}
use Rattle.plan_edits.specs.draft_records.Records.{written_record}
use Rattle.plan_edits.specs.plan_values.Values.{is_data, is_info_or_data, IsOwnFile, WritesValues}
use Rattle.plan_edits.specs.plan_values.Made.{MakesData}
use Rattle.plan_edits.proofs.plan_values.Valued.{pairs_fit, data_spared}
use Rattle.plan_edits.proofs.plan_values.Made.{made_fits}
use Rattle.plan_edits.specs.Written.{IsInUse}
use Rattle.plan_edits.specs.Moves.{EditsDraft}
use Rattle.plan_edits.specs.Records.{PutsRecordOf, IsRecordEdit}
use Rattle.plan_edits.proofs.Reading.{written_read}
use Rattle.plan_edits.proofs.Recording.{record_edit}
use Rattle.plan_informed.specs.Edits.{ValuesAreEdit}
use Rattle.plan_informed.proofs.Valuing.{wider}

pub info_wider : (a : Attr) → is_info a ≡ true → is_info_or_data a ≡ true
info_wider a is = or_left (is_info a) (is_data a) is

-- the flags of data that isn't written anew
times_flags : (r p : Record) → RewritesValues is_info r p → data_flags p ≡ data_flags r
unfolding data_flags
times_flags r p k = ap first_flags (same_attributes is_info r p data_type [] k data_spared)

module _ (c : Content) (g : Geometry) (clusters : ℕ) (v : Volume) (mirror : Extents) (n : ℕ) (r p : Record) (old new : List Touched) (state : Stands (drafted old c) g clusters v) (own : IsOwnFile v n r) (is : PutsRecordOf c v mirror n p old new) where
  was_used : IsInUse r
  was_used = written_read.used (drafted old c) v.per v.table n r (own_record (drafted old c) g clusters v n r state own.file own.no_list).slot

  was_fits : list_all has_fitting_pairs r.attrs ≡ true
  unfolding has_all_pairs
  was_fits = was_used.pairs

  edit : IsInUse p → IsRecordEdit c v n p old new
  edit used = record_edit.edit c g clusters v mirror n r p old new state own.file own.no_list used is

  used_by : p.head.flags ≡ r.head.flags → list_all has_fitting_pairs p.attrs ≡ true → IsInUse p
  unfolding has_all_pairs
  used_by flags fits = record { flag = ap (λ (x : ℕ). x % 2) flags ∙ was_used.flag; pairs = fits }

  values_are : RewritesValues is_info_or_data r p → data_flags p ≡ data_flags r → (bodies : List NewBody) × (EditsDraft c old new bodies × WritesValues (drafted old c) v n r p (written_record p) bodies)
  values_are k flags =
      let put = edit (used_by k.flags (pairs_fit is_info_or_data r.attrs p.attrs k.attrs was_fits)) in
      (put.bodies, (put.edits, record { own = own; values = k; flags = flags; put = record { written = written_read.written p; puts = put.puts; marked = put.marked } }))

  made_is : (one : Attr) → stream_of data_type [] r.attrs ≡ None → ReplacesAttrs [] (one ∷ []) r p → p.head.base ≡ r.head.base → is_data one ≡ true → IsValue one.form → one.head.flags ≡ 0
      → (bodies : List NewBody) × (EditsDraft c old new bodies × MakesData (drafted old c) v n r p (written_record p) one bodies)
  made_is one none comes base of_data value plain =
      let put = edit (used_by comes.flags (made_fits r p one comes value was_fits)) in (
        put.bodies,
        (
          put.edits,
          record {
            own = own;
            none = none;
            comes = comes;
            base = base;
            of_data = of_data;
            value = value;
            plain = plain;
            put = record { written = written_read.written p; puts = put.puts; marked = put.marked };
          },
        ),
      )

pub values_edit : ValuesAreEdit
values_edit = record {
  values = λ c g clusters v mirror n r p old new state own k flags is. values_are c g clusters v mirror n r p old new state own is k flags;
  times = λ c g clusters v mirror n r p old new state own k is. values_are c g clusters v mirror n r p old new state own is (wider is_info is_info_or_data r p info_wider k) (times_flags r p k);
  made = λ c g clusters v mirror n r p one old new state own none comes base of_data value plain is. made_is c g clusters v mirror n r p old new state own is one none comes base of_data value plain;
}
