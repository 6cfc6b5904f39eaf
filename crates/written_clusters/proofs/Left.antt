-- What a file whose data stands in clusters leaves of a content.
use Rattle.std.proofs.Common.{◌≡◌, ◌≢◌, ◌⊎◌, ℕ, ◌+◌, ◌<◌, ◌≤◌, Bool, true, false, not, ◌&&◌, ◌||◌, eqb, nat_eq, List, [], ◌∷◌, Option, Some, refl, sym, ap, ap₂, ◌∙◌, inl, inr, arith}
use Rattle.std.specs.List.{AllByRecursion, list_any}
use Rattle.std.specs.Cmp.Lexicographic.{pointwise}
use Rattle.std.proofs.lemmas.Bool.{and_from, both_ways, or_left, or_right, eq-eqb, ne_eqb}
use Rattle.disk_model.specs.declared.block.Block.{Block}
use Rattle.disk_model.specs.declared.block.BlockKind.TheVariants.{FileRec}
use Rattle.disk_model.specs.Content.{Content, HasSizes}
use Rattle.record_model.specs.declared.runs.Run.{Run}
use Rattle.record_model.specs.Constants.{data_type}
use Rattle.bit_set.specs.Bits.{bit}
use Rattle.file_tree.specs.Walks.{first_user_record}
use Rattle.state_model.specs.declared.stream.Extents.{Extents}
use Rattle.state_model.specs.declared.stream.Stream.{Stream}
use Rattle.state_model.specs.declared.stream.Stream.TheVariants.{Placed}
use Rattle.state_model.specs.Streams.{block_at}
use Rattle.space_model.specs.Choosing.{chosen}
use Rattle.written_values.specs.volume_model.Volumes.{Volume, cluster_bits, table_file, mirror_file, bitmap_file}
use Rattle.written_values.specs.volume_model.Owners.{uses}
use Rattle.written_values.specs.stream_laws.Owners.{stream_kind}
use Rattle.written_values.specs.stream_laws.Sharing.{StreamKey, stream_at, runs_in}
use Rattle.written_values.specs.stream_laws.Tables.{table_key}
use Rattle.written_values.specs.stream_runs.Runs.{last_cluster}
use Rattle.plan_bodies.specs.Bodies.{NewBody, AreBodies, content_with}
use Rattle.written_values.specs.plan_model.Drafts.{FollowsOwners}
use Rattle.state_streams.specs.plan_growth.Streams.{key_of, marks_streams}
use Rattle.written_values.proofs.plan_edits.Putting.{each_turned}
use Rattle.written_values.specs.step_model.Placing.{Growth, more_of, runs_after}
use Rattle.written_values.specs.step_model.Used.{is_in_record}
use Rattle.written_values.specs.step_model.Contents.{same_key, is_among, is_touched, touched_streams, MayDiffer, IsLeft}
use Rattle.written_values.proofs.step_model.Leaving.{contents_left}
use Rattle.written_clusters.proofs.Chaining.{mark_file, PutsTo}

-- the data of the file has taken its clusters by the growth, and all other streams have those of before
pub record GrowsData (c : Content) (v w : Volume) (n : ℕ) (growth : Growth) (f : Extents) : Type 0 where
  pub user : first_user_record ≤ n
  pub per : w.per ≡ v.per
  pub table : w.table ≡ v.table
  pub stream : growth.stream ≡ key_of n data_type []
  pub placed : growth.runs ≡ chosen (cluster_bits c v) (last_cluster growth.old) (more_of growth)
  pub stands : growth.stands ≡ false
  pub old : growth.old ≡ runs_in (stream_at v (key_of n data_type []))
  pub now : stream_at w (key_of n data_type []) ≡ Some (Placed f)
  pub after : f.runs ≡ runs_after growth
  pub balance : (x : ℕ) → uses f.runs x ≡ uses growth.old x + uses growth.runs x
  pub clear : (x : ℕ) → 0 < uses growth.runs x → bit (cluster_bits c v) x ≡ false
  pub others : (t : StreamKey) → (t ≡ key_of n data_type []) ⊎ (runs_in (stream_at w t) ≡ runs_in (stream_at v t))

-- ---- streams that are touched

not_table : (t : StreamKey) → t.file ≢ table_file → not (same_key t table_key) ≡ true
not_table t other = ap (λ (x : Bool). not (x && eqb t.kind data_type && pointwise nat_eq t.name [])) (ne_eqb t.file table_file other)

mark_touched : (n : ℕ) (t : StreamKey) → marks_streams t ≡ true → touched_streams (n ∷ []) t ≡ true
mark_touched n t is = elim (mark_file t is) [
  | inl bits ↦ and_from (is_touched (n ∷ []) t.file) (not (same_key t table_key)) (ap (is_touched (n ∷ [])) bits) (not_table t (λ same. omega (arith, same, bits)))
  | inr mirror ↦ and_from (is_touched (n ∷ []) t.file) (not (same_key t table_key)) (ap (is_touched (n ∷ [])) mirror) (not_table t (λ same. omega (arith, same, mirror)))
]

own_touched : (n : ℕ) → is_touched (n ∷ []) n ≡ true
own_touched n = or_right (eqb n table_file || eqb n mirror_file || eqb n bitmap_file) (list_any (λ (m : ℕ). eqb n m) (n ∷ [])) (or_left (eqb n n) false (eq-eqb n n refl))

data_touched : (n : ℕ) → first_user_record ≤ n → touched_streams (n ∷ []) (key_of n data_type []) ≡ true
data_touched n user = and_from (is_touched (n ∷ []) n) (not (same_key (key_of n data_type []) table_key)) (own_touched n) (not_table (key_of n data_type []) (λ same. omega (arith, same, user)))

key_itself : (n : ℕ) → same_key (key_of n data_type []) (key_of n data_type []) ≡ true
key_itself n = ap (λ (x : Bool). x && eqb data_type data_type && pointwise nat_eq [] []) (eq-eqb n n refl)

-- ---- what is left

module _ (c : Content) (v w : Volume) (clusters n : ℕ) (growth : Growth) (f : Extents) (d : Content) (bodies : List NewBody) (sized : HasSizes c) (k : GrowsData c v w n growth f) (whole : AreBodies bodies) (content : content_with c bodies ≡ d)
    (marks : FollowsOwners clusters (cluster_bits c v) (cluster_bits d w) v.files w.files) (each : AllByRecursion (λ p. PutsTo v n f.runs p.block) bodies) where
  abbrev own : StreamKey
  own = key_of n data_type []

  may_differ : (b : Block) → PutsTo v n f.runs b → MayDiffer (n ∷ []) v w b
  may_differ b (inl its) = inl (record { number = n; touched = inl (own_touched n); place = ap₂ (λ (per : ℕ) (e : Extents). block_at per e.runs FileRec n) k.per k.table ∙ its })
  may_differ b (inr (inl mark)) = inr (inl (record { stream = mark.stream; chosen = mark_touched n mark.stream mark.chosen; number = mark.number; lies = mark.lies }))
  may_differ b (inr (inr there)) =
      inr
      (inr
      (record {
        stream = own;
        chosen = data_touched n k.user;
        number = there.0;
        lies = ap₂ (λ (per : ℕ) (o : Option Stream). block_at per (runs_in o) (stream_kind own) there.0) k.per k.now ∙ there.1;
      }))

  among : (s : StreamKey) → s ≡ own → is_among (growth ∷ []) s ≡ true
  among s same = or_left (same_key growth.stream s) false (ap₂ same_key k.stream same ∙ key_itself n)

  took : (s : StreamKey) (x : ℕ) → s ≡ own → uses (runs_in (stream_at v s)) x < uses (runs_in (stream_at w s)) x → bit (cluster_bits c v) x ≡ false
  took s x same more =
      let was : uses (runs_in (stream_at v s)) x ≡ uses growth.old x = ap (λ (t : StreamKey). uses (runs_in (stream_at v t)) x) same ∙ ap (λ (l : List Run). uses l x) (sym k.old) in
      let is : uses (runs_in (stream_at w s)) x ≡ uses f.runs x = ap (λ (t : StreamKey). uses (runs_in (stream_at w t)) x) same ∙ ap (λ (o : Option Stream). uses (runs_in o) x) k.now in
      let sum = k.balance x in
      k.clear x (omega (arith, more, was, is, sum))

  stayed : (s : StreamKey) (x : ℕ) → runs_in (stream_at w s) ≡ runs_in (stream_at v s) → uses (runs_in (stream_at v s)) x < uses (runs_in (stream_at w s)) x → bit (cluster_bits c v) x ≡ false
  stayed s x stays more = (let same : uses (runs_in (stream_at w s)) x ≡ uses (runs_in (stream_at v s)) x = ap (λ (l : List Run). uses l x) stays in absurd (omega (arith, more, same)))

  pub is_left : IsLeft c v clusters (n ∷ []) (growth ∷ []) d w
  is_left = record {
    placed = (k.placed, tt);
    grown = (
      record {
        stands = ap (λ (t : StreamKey). is_in_record (stream_at w t)) k.stream ∙ ap is_in_record k.now ∙ sym k.stands;
        old = k.old ∙ ap (λ (t : StreamKey). runs_in (stream_at v t)) (sym k.stream);
        runs = ap (λ (t : StreamKey). runs_in (stream_at w t)) k.stream ∙ ap runs_in k.now ∙ k.after;
      },
      tt,
    );
    others = λ s none. elim (k.others s) [
      | inl same ↦ absurd (both_ways (is_among (growth ∷ []) s) none (among s same))
      | inr stays ↦ stays
    ];
    bits = marks;
    takes = λ s x more. elim (k.others s) [
      | inl same ↦ took s x same more
      | inr stays ↦ stayed s x stays more
    ];
    stays = λ b apart. sym (ap (λ (x : Content). x b) content) ∙ contents_left.stays c v w (n ∷ []) bodies sized whole (each_turned (PutsTo v n f.runs) (MayDiffer (n ∷ []) v w) bodies may_differ each) b apart;
  }
