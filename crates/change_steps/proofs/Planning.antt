-- The plan of an operation where there is no change journal, and its rows.
use Rattle.std.proofs.Common.{◌≡◌, inl, inr, ℕ, Bool, true, false, ◌||◌, ◌&&◌, List, [], ◌∷◌, Option, Some, None, Result, Ok, Err, refl, sym, ap, subst, ◌∙◌, append-nil}
use Rattle.std.specs.Prelude.{◌==◌, not, IsOkAnd}
use Rattle.std.specs.List.{list_any}
use Rattle.std.proofs.lemmas.Bool.{or_right}
use Rattle.disk_model.specs.declared.block.Block.{Block}
use Rattle.disk_model.specs.Content.{Content}
use Rattle.record_model.specs.Records.{Record}
use Rattle.file_tree.specs.declared.journal.Journal.{Journal}
use Rattle.file_tree.specs.declared.node.Node.{Node}
use Rattle.file_puts.specs.volume_model.Volumes.{Volume, file_in, table_file, mirror_file, bitmap_file, cluster_bits, upper_of}
use Rattle.file_puts.specs.volume_state.Trees.{tree_of}
use Rattle.file_puts.specs.space_model.Choosing.{with_runs}
use Rattle.file_puts.specs.stream_laws.Sharing.{StreamKey}
use Rattle.file_puts.specs.stream_laws.Tables.{table_key}
use Rattle.file_puts.specs.tree_laws.Parts.{journal_number}
use Rattle.file_puts.specs.plan_model.Edits.{IsOwnedIn}
use Rattle.tree_model.specs.declared.script.Op.{Op}
use Rattle.tree_model.specs.declared.reply.Reply.{Reply}
use Rattle.tree_model.specs.Refusals.{first_of}
use Rattle.file_puts.specs.step_model.Placing.{Growth, taken_runs}
use Rattle.file_puts.specs.step_model.Streams.{no_change, one_change, data_comes}
use Rattle.file_puts.specs.step_model.Plans.{Plan, number_or, journal_comes, with_changed, with_journal, plan_of_change, data_in, change_plan, AtNode}
use Rattle.file_puts.specs.step_model.Contents.{same_key, is_touched, touched_streams, IsTouchedRecord, MayDiffer, IsLeft}
use Rattle.file_puts.specs.step_model.Steps.{and_journal}

-- ---- without a journal

no_records : (bits : List Bool) (n : ℕ) (o : Option Record) (end : ℕ) → journal_comes bits n o None end ≡ no_change
no_records bits n None end = refl
no_records bits n (Some r) end = refl

nothing_more : (p : Plan) (o : Option Record) → p.journal ≡ [] → with_changed p None o no_change ≡ p
nothing_more p o none =
    ap (λ (growths : List Growth). let q : Plan = record { used = p.used; deep = p.deep; growths = growths; index = p.index; journal = [] } in q) (append-nil p.growths)
    ∙ ap (λ (used : List ℕ). let q : Plan = record { used = p.used; deep = p.deep; growths = p.growths; index = p.index; journal = used } in q) (sym none)

-- The plan is as it was.
pub without_journal : (c : Content) (v : Volume) (end : ℕ) (p : Plan) → (tree_of c v).journal ≡ None → p.journal ≡ [] → with_journal c v end p ≡ p
unfolding with_journal
without_journal c v end p none own =
    let n = number_or (journal_number (upper_of c v) v) in
    let bits = with_runs (taken_runs p.growths) (cluster_bits c v) in
    ap (λ (journal : Option Journal). with_changed p journal (file_in v n) (journal_comes bits n (file_in v n) journal end)) none
    ∙ ap (with_changed p None (file_in v n)) (no_records bits n (file_in v n) end)
    ∙ nothing_more p (file_in v n) own

-- ---- a file that is written or cut

abbrev pub plan_of_file : Content → Volume → Record → Op → Node → Plan
plan_of_file c v r o a = plan_of_change (Some r) (one_change (data_comes (cluster_bits c v) r o a))

pub plan_is : (c : Content) (v : Volume) (r : Record) (o : Op) (a : Node) → file_in v a.number ≡ Some r → plan_of_file c v r o a ≡ change_plan c v o a
unfolding change_plan
plan_is c v r o a file = sym (ap (λ (f : Option Record). plan_of_change f (data_in (cluster_bits c v) f o a)) file)

pub one_row : (row : Option Reply) → first_of (row ∷ None ∷ None ∷ []) ≡ row
one_row None = refl
one_row (Some said) = refl

-- ---- at a node that is reached

pub ok_and : (walked : Result Node Reply) (a : Node) (P : Node → Type 0) → walked ≡ Ok a → P a → IsOkAnd walked P
ok_and (Ok b) a P is holds = let same : a ≡ b = cc in subst P same holds
ok_and (Err said) a P is holds = absurd cc

pub at_node : (walked : Result Node Reply) (a : Node) (P : Node → Type 0) (none : Type 0) → walked ≡ Ok a → P a → AtNode walked P none
at_node (Ok b) a P none is holds = let same : a ≡ b = cc in subst P same holds
at_node (Err said) a P none is holds = absurd cc

-- ---- one file more may be touched

any_more : (t m b x : Bool) (others : Bool) → (t || m || b || others) ≡ true → (t || m || b || (x || others)) ≡ true
any_more true m b x others is = refl
any_more false true b x others is = refl
any_more false false true x others is = refl
any_more false false false x others is = or_right x others is

touched_more : (n : ℕ) (files : List ℕ) (m : ℕ) → is_touched files m ≡ true → is_touched (n ∷ files) m ≡ true
touched_more n files m is = any_more (m == table_file) (m == mirror_file) (m == bitmap_file) (m == n) (list_any (λ k. m == k) files) is

both_true : (a b other : Bool) → (a ≡ true → other ≡ true) → (a && b) ≡ true → (other && b) ≡ true
both_true true true other wider is = rw (wider refl) refl
both_true true false other wider is = absurd cc
both_true false b other wider is = absurd cc

streams_more : (n : ℕ) (files : List ℕ) (s : StreamKey) → touched_streams files s ≡ true → touched_streams (n ∷ files) s ≡ true
streams_more n files s is = both_true (is_touched files s.file) (not (same_key s table_key)) (is_touched (n ∷ files) s.file) (touched_more n files s.file) is

record_more : (n : ℕ) (files : List ℕ) (v w : Volume) (b : Block) → IsTouchedRecord files v w b → IsTouchedRecord (n ∷ files) v w b
record_more n files v w b k = record {
  number = k.number;
  touched = elim (k.touched) [
    | inl is ↦ inl (touched_more n files k.number is)
    | inr new ↦ inr new
  ];
  place = k.place;
}

owned_more : (n : ℕ) (files : List ℕ) (v : Volume) (b : Block) → IsOwnedIn (touched_streams files) v b → IsOwnedIn (touched_streams (n ∷ files)) v b
owned_more n files v b k = record { stream = k.stream; chosen = streams_more n files k.stream k.chosen; number = k.number; lies = k.lies }

differ_more : (n : ℕ) (files : List ℕ) (v w : Volume) (b : Block) → MayDiffer files v w b → MayDiffer (n ∷ files) v w b
differ_more n files v w b may = elim may [
  | inl of_record ↦ inl (record_more n files v w b of_record)
  | inr owned ↦ inr (elim owned [
    | inl before ↦ inl (owned_more n files v b before)
    | inr after ↦ inr (owned_more n files w b after)
  ])
]

left_more : (c : Content) (v : Volume) (clusters n : ℕ) (files : List ℕ) (growths : List Growth) (d : Content) (w : Volume) → IsLeft c v clusters files growths d w → IsLeft c v clusters (n ∷ files) growths d w
left_more c v clusters n files growths d w k = record {
  placed = k.placed;
  grown = k.grown;
  others = k.others;
  bits = k.bits;
  takes = k.takes;
  stays = λ b far. k.stays b (λ x may. far x (differ_more n files v w x may));
}

-- also the file of a change journal that is none
pub left_with_journal : (c : Content) (v : Volume) (clusters : ℕ) (journal : Option ℕ) (files : List ℕ) (growths : List Growth) (d : Content) (w : Volume) → IsLeft c v clusters files growths d w → IsLeft c v clusters (and_journal journal files) growths d w
left_with_journal c v clusters None files growths d w k = k
left_with_journal c v clusters (Some n) files growths d w k = left_more c v clusters n files growths d w k
