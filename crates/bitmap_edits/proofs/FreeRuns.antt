-- Bits of runs of clusters that nobody has are put, one run behind the other.
use Rattle.std.proofs.Common.{◌≡◌, ◌⊎◌, ℕ, ◌+◌, ◌<◌, ◌≤◌, Bool, true, false, ◌&&◌, cond, leb, ltb, List, [], ◌∷◌, Option, Some, None, refl, sym, ap, ap₂, subst, ◌∙◌, inl, inr, arith}
use Rattle.std.specs.List.{list_all}
use Rattle.std.proofs.lemmas.Bool.{cases_lt, and_parts, and_from, leb-true, le-leb, lt-leb, lt-ltb, le-ltb}
use Rattle.disk_model.specs.declared.block.Block.{Block}
use Rattle.disk_model.specs.Content.{Content, HasSizes}
use Rattle.record_model.specs.declared.runs.Run.{Run}
use Rattle.record_model.specs.Constants.{attribute_list, data_type}
use Rattle.record_model.specs.Records.{Record}
use Rattle.bit_set.specs.Bits.{bit}
use Rattle.state_model.specs.declared.geometry.Geometry.{Geometry}
use Rattle.state_model.specs.declared.stream.Extents.{Extents}
use Rattle.state_model.specs.Files.{has_type}
use Rattle.state_model.specs.Loads.{extents_or}
use Rattle.state_model.specs.Streams.{block_at, stream_of}
use Rattle.volume_model.specs.Volumes.{Volume, bitmap_file, bytes_or, cluster_bits, file_in, file_stream, mirror_file}
use Rattle.volume_model.specs.Owners.{covers, covers_from, uses, volume_runs}
use Rattle.volume_model.specs.Sizes.{lies_below, lies_inside}
use Rattle.volume_state.specs.Trees.{tree_of}
use Rattle.stream_laws.specs.Owners.{Owns, stream_kind}
use Rattle.stream_laws.specs.Sharing.{stream_at}
use Rattle.stream_laws.proofs.Placing.{uses-cons}
use Rattle.tree_laws.proofs.Ascending.{all_by}
use Rattle.plan_owners.specs.States.{Stands}
use Rattle.plan_bodies.specs.Bodies.{AreBodies, body_in, content_with, NewBody, put_bodies}
use Rattle.plan_bodies.proofs.Putting.{all_in_both, are_bodies as both_are, contents_put, sized_with}
use Rattle.plan_draft.specs.declared.touched.Touched.{Touched}
use Rattle.plan_draft.specs.Touching.{bodies_of}
use Rattle.plan_draft.specs.Drafts.{drafted}
use Rattle.table_edits.specs.plan_model.Drafts.{IsPut}
use Rattle.table_edits.proofs.plan_model.OneRecord.{own_record}
use Rattle.draft_bits.specs.Effects.{IsKept}
use Rattle.table_edits.specs.draft_bitmaps.declared.bitmap.Bitmap.{Bitmap}
use Rattle.table_edits.specs.draft_bitmaps.Bitmaps.{IsBitmap}
use Rattle.table_edits.specs.plan_edits.Edits.{mirror_key}
use Rattle.table_edits.specs.plan_edits.Moves.{EditsDraft}
use Rattle.table_edits.proofs.plan_edits.Putting.{content_goes, found_in, joined_same, left_put, right_put}
use Rattle.table_edits.proofs.plan_edits.Reading.{written_read}
use Rattle.bitmap_edits.specs.Bitmaps.{IsClusterBitmap, KeepsOwners, PutsClustersIn, PutsFreeBits, PutsFreeRuns, PutsOwnersKept, PutsRunsIn, RoomDiffers}
use Rattle.bitmap_edits.proofs.FreeBits.{bitmap_now, bitmap_rule, edits, inside_bit, keeps_owners, new_kept, other_bit, put_bodies_of, w}

-- ---- two edits that keep the owners

pub owns_back : (c : Content) (g : Geometry) (clusters : ℕ) (v : Volume) (bodies : List NewBody) (w : Volume) (x : Block) → KeepsOwners c g clusters v bodies w → Owns w x → Owns v x
owns_back c g clusters v bodies w x k owns = record {
  stream = owns.stream;
  number = owns.number;
  lies = sym (ap₂ (λ (p : ℕ) (l : List Run). block_at p l (stream_kind owns.stream) owns.number) k.per (k.runs owns.stream)) ∙ owns.lies;
}

pub rooms_differ : (c d e : Content) (v w u : Volume) → RoomDiffers (tree_of c v) (tree_of d w) → RoomDiffers (tree_of d w) (tree_of e u) → RoomDiffers (tree_of c v) (tree_of e u)
rooms_differ c d e v w u one two = record {
  nodes = λ m. two.nodes m ∙ one.nodes m;
  links = two.links ∙ one.links;
  spare = two.spare ∙ one.spare;
  count = two.count ∙ one.count;
  journal = two.journal ∙ one.journal;
}

pub put_first : (first second : List NewBody) (x : Block) → AreBodies second → IsPut first x → IsPut (put_bodies second first) x
put_first first second x are put = (let all = left_put (body_in second x) (body_in first x) put.0 put.1 in (all.0, found_in first second x are ∙ all.1))

pub put_second : (first second : List NewBody) (x : Block) → AreBodies second → IsPut second x → IsPut (put_bodies second first) x
put_second first second x are put = (put.0, found_in first second x are ∙ right_put (body_in second x) (body_in first x) put.0 put.1)

pub both_keep : (c : Content) (g : Geometry) (clusters : ℕ) (v w u : Volume) (first second : List NewBody) → HasSizes c → KeepsOwners c g clusters v first w → KeepsOwners (content_with c first) g clusters w second u → KeepsOwners c g clusters v (put_bodies second first) u
both_keep c g clusters v w u first second sized one two =
    let joined : content_with c (put_bodies second first) ≡ content_with (content_with c first) second = contents_put c first second sized one.whole two.whole in
    record {
      whole = both_are first second one.whole two.whole;
      stands = subst (λ (y : Content). Stands y g clusters u) (sym joined) two.stands;
      per = two.per ∙ one.per;
      clusters_stay = two.clusters_stay ∙ one.clusters_stay;
      table = two.table ∙ one.table;
      count_stays = two.count_stays ∙ one.count_stays;
      files = λ m other. two.files m other ∙ one.files m other;
      runs = λ t. two.runs t ∙ one.runs t;
      sizes = λ t differ. two.sizes t differ ∙ one.sizes t differ;
      owners = λ x. two.owners x ∙ one.owners x;
      owned = all_in_both (λ q. Owns v q.block) first second one.owned (all_by (λ q. Owns w q.block) (λ q. Owns v q.block) (λ q owns. owns_back c g clusters v first w q.block one owns) second two.owned);
      covers = λ x live. elim (two.covers x live) [
        | inl before ↦ elim (one.covers x before) [
          | inl was ↦ inl was
          | inr put ↦ inr (put_first first second x two.whole put)
        ]
        | inr put ↦ inr (put_second first second x two.whole put)
      ];
      reads = λ t apart other.
          ap (λ (y : Content). bytes_or y v.per (stream_at u t)) joined
          ∙ subst (λ (p : ℕ). bytes_or (content_with (content_with c first) second) p (stream_at u t) ≡ bytes_or (content_with c first) p (stream_at w t)) one.per (two.reads t apart other)
          ∙ one.reads t apart other;
      tree = subst (λ (y : Content). RoomDiffers (tree_of c v) (tree_of y u)) (sym joined) (rooms_differ c (content_with c first) (content_with (content_with c first) second) v w u one.tree two.tree);
    }

pub both_edit : (c : Content) (first second : List NewBody) (old mid new : List Touched) → HasSizes c → AreBodies first → AreBodies second → EditsDraft c old mid first → EditsDraft c mid new second → EditsDraft c old new (put_bodies second first)
both_edit c first second old mid new sized are_first are_second one two = record {
  same = joined_same first second old mid new are_first are_second one.same two.same;
  content = contents_put (drafted old c) first second (sized_with c (bodies_of old) sized) are_first are_second ∙ ap (λ (y : Content). content_with y second) one.content ∙ two.content;
}

-- ---- nothing that is put

no_bodies : AreBodies []
no_bodies = record { whole = tt; own = tt }

none_put : (c : Content) (old : List Touched) → HasSizes c → IsKept old → content_with (drafted old c) [] ≡ drafted old c
none_put c old sized kept = content_goes c [] old old sized kept kept no_bodies (λ b. refl)

none_keeps : (c : Content) (g : Geometry) (clusters : ℕ) (v : Volume) (old : List Touched) → HasSizes c → IsKept old → Stands (drafted old c) g clusters v → KeepsOwners (drafted old c) g clusters v [] v
none_keeps c g clusters v old sized kept state =
    let same = none_put c old sized kept in
    record {
      whole = no_bodies;
      stands = subst (λ (y : Content). Stands y g clusters v) (sym same) state;
      per = refl;
      clusters_stay = refl;
      table = refl;
      count_stays = refl;
      files = λ m other. refl;
      runs = λ t. refl;
      sizes = λ t differ. refl;
      owners = λ x. refl;
      owned = tt;
      covers = λ x live. inl live;
      reads = λ t apart other. ap (λ (y : Content). bytes_or y v.per (stream_at v t)) same;
      tree = subst (λ (y : Content). RoomDiffers (tree_of (drafted old c) v) (tree_of y v)) (sym same) (record { nodes = λ m. refl; links = refl; spare = refl; count = refl; journal = refl });
    }

-- ---- one run

-- a step of it
pub record Step (c : Content) (g : Geometry) (clusters : ℕ) (v : Volume) (r : Run) (value : Bool) (old new : List Touched) (after : Bitmap) : Type 0 where
  pub volume : Volume
  pub bodies : List NewBody
  pub edits : EditsDraft c old new bodies
  pub keeps : KeepsOwners (drafted old c) g clusters v bodies volume
  pub bitmap : IsClusterBitmap volume after
  pub kept : IsKept new
  pub bits : (x : ℕ) → x < v.clusters → bit (cluster_bits (content_with (drafted old c) bodies) volume) x ≡ cond (covers x r) value (bit (cluster_bits (drafted old c) v) x)

covered : (o : Option ℕ) (r : Run) (x : ℕ) → r.lcn ≡ o → covers x r ≡ covers_from x r.len o
covered o r x is = ap (covers_from x r.len) is

in_run : (first len x : ℕ) (value was : Bool) (now : Bool) → (first ≤ x → x < first + len → now ≡ value) → ((x < first) ⊎ (first + len ≤ x) → now ≡ was) → now ≡ cond (leb first x && ltb x (first + len)) value was
in_run first len x value was now inside outside = elim (cases_lt x first) [
  | inl less ↦ outside (inl less) ∙ sym (ap (λ (t : Bool). cond (t && ltb x (first + len)) value was) (lt-leb first x less))
  | inr from ↦ elim (cases_lt x (first + len)) [
    | inl to ↦ inside from to ∙ sym (ap (λ (t : Bool). cond t value was) (and_from (leb first x) (ltb x (first + len)) (le-leb first x from) (lt-ltb x (first + len) to)))
    | inr past ↦ outside (inr past) ∙ sym (ap₂ (λ (s t : Bool). cond (s && t) value was) (le-leb first x from) (le-ltb x (first + len) past))
  ]
]

some_cover : (r : Run) (runs : List Run) (x : ℕ) → covers x r ≡ true → 0 < uses (r ∷ runs) x
some_cover r runs x is = (let sum = uses-cons r runs x ∙ ap (λ (t : Bool). cond t 1 0 + uses runs x) is in omega (arith, sum))

module _ (c : Content) (g : Geometry) (clusters : ℕ) (v : Volume) (mirror : Extents) (b : Bitmap) (r : Run) (value : Bool) (old new : List Touched) (after : Bitmap) (eight : g.per_cluster ≡ 8) (state : Stands (drafted old c) g clusters v)
    (sized : HasSizes c) (kept : IsKept old) (bitmap : IsClusterBitmap v b) (mirror_is : extents_or (stream_at v mirror_key) ≡ mirror) (inside : lies_inside v.clusters r ≡ true) (free : (x : ℕ) → covers x r ≡ true → uses (volume_runs v.files) x ≡ 0) where
  abbrev Goal : List Touched → Bitmap → Type 0
  Goal t a = Step c g clusters v r value old t a

  none : r.lcn ≡ None → Goal old b
  none is = record {
    volume = v;
    bodies = [];
    edits = record { same = λ x. refl; content = none_put c old sized kept };
    keeps = none_keeps c g clusters v old sized kept state;
    bitmap = bitmap;
    kept = kept;
    bits = λ x low. ap (λ (y : Content). bit (cluster_bits y v) x) (none_put c old sized kept) ∙ sym (ap (λ (t : Bool). cond t value (bit (cluster_bits (drafted old c) v) x)) (covered None r x is));
  }

  some : (first : ℕ) → r.lcn ≡ Some first → PutsClustersIn c v.per v.table mirror value (Some first) r.len b old new after → Goal new after
  some first is put =
      let k : PutsFreeBits c v mirror b first r.len value old new after = record {
        sized = sized;
        kept = kept;
        bitmap = bitmap;
        mirror_is = mirror_is;
        inside = leb-true (first + r.len) v.clusters (sym (ap (lies_below v.clusters r.len) is) ∙ inside);
        free = λ x from to. free x (covered (Some first) r x is ∙ and_from (leb first x) (ltb x (first + r.len)) (le-leb first x from) (lt-ltb x (first + r.len) to));
        stands = put.0;
        room = put.1;
        put = put.2;
      }
      in
      record {
        volume = w c g clusters v mirror b first r.len value old new after eight state k;
        bodies = put_bodies_of c g clusters v mirror b first r.len value old new after eight state k;
        edits = edits c g clusters v mirror b first r.len value old new after eight state k;
        keeps = keeps_owners c g clusters v mirror b first r.len value old new after eight state k;
        bitmap = bitmap_now c g clusters v mirror b first r.len value old new after eight state k;
        kept = new_kept c g clusters v mirror b first r.len value old new after eight state k;
        bits = λ x low.
            in_run first r.len x value (bit (cluster_bits (drafted old c) v) x) _ (inside_bit c g clusters v mirror b first r.len value old new after eight state k x low) (other_bit c g clusters v mirror b first r.len value old new after eight state k x low)
            ∙ sym (ap (λ (t : Bool). cond t value (bit (cluster_bits (drafted old c) v) x)) (covered (Some first) r x is));
      }

  one_run : (o : Option ℕ) → r.lcn ≡ o → PutsClustersIn c v.per v.table mirror value o r.len b old new after → Goal new after
  one_run None is put = subst (λ (t : List Touched). Goal t after) (sym put.0) (subst (Goal old) (sym put.1) (none is))
  one_run (Some first) is put = some first is put

  pub run_put : PutsClustersIn c v.per v.table mirror value r.lcn r.len b old new after → Step c g clusters v r value old new after
  run_put put = one_run r.lcn refl put

-- ---- runs, one behind the other

same_either : (t value : Bool) → cond t value value ≡ value
same_either true value = refl
same_either false value = refl

join_bits : (t : Bool) (u : ℕ) (value was : Bool) → cond (leb 1 u) value (cond t value was) ≡ cond (leb 1 (cond t 1 0 + u)) value was
join_bits true u value was = same_either (leb 1 u) value ∙ sym (ap (λ (s : Bool). cond s value was) (le-leb 1 (1 + u) (omega arith)))
join_bits false u value was = (let same : u ≡ 0 + u = omega arith in ap (λ (n : ℕ). cond (leb 1 n) value was) same)

none_used : (x : ℕ) → uses [] x ≡ 0
unfolding uses
none_used x = refl

pub runs_put : (c : Content) (g : Geometry) (clusters : ℕ) (v : Volume) (mirror : Extents) (b : Bitmap) (runs : List Run) (value : Bool) (old new : List Touched) (after : Bitmap) → g.per_cluster ≡ 8 → Stands (drafted old c) g clusters v
    → PutsFreeRuns c v mirror b runs value old new after → PutsOwnersKept c g clusters v runs value old new after
unfolding PutsRunsIn
runs_put c g clusters v mirror b [] value old new after eight state k =
    subst (λ (t : List Touched). PutsOwnersKept c g clusters v [] value old t after) (sym k.put.0)
    (subst (PutsOwnersKept c g clusters v [] value old old) (sym k.put.1) (record {
      volume = v;
      bodies = [];
      edits = record { same = λ x. refl; content = none_put c old k.sized k.kept };
      keeps = none_keeps c g clusters v old k.sized k.kept state;
      bitmap = k.bitmap;
      kept = k.kept;
      bits = λ x low. ap (λ (y : Content). bit (cluster_bits y v) x) (none_put c old k.sized k.kept) ∙ sym (ap (λ (n : ℕ). cond (leb 1 n) value (bit (cluster_bits (drafted old c) v) x)) (none_used x));
    }))
runs_put c g clusters v mirror b (r ∷ runs) value old new after eight state k =
    let between = k.put.0 in
    let mid = k.put.1 in
    let d : Content = drafted old c in
    let parts = and_parts (lies_inside v.clusters r) (list_all (lies_inside v.clusters) runs) k.inside in
    let one : Step c g clusters v r value old mid between = run_put c g clusters v mirror b r value old mid between eight state k.sized k.kept k.bitmap k.mirror_is parts.0 (λ x is. k.free x (some_cover r runs x is)) k.put.2 in
    let w : Volume = one.volume in
    let state_w : Stands (drafted mid c) g clusters w = subst (λ (y : Content). Stands y g clusters w) one.edits.content one.keeps.stands in
    let rest : PutsFreeRuns c w mirror between runs value mid new after = record {
      sized = k.sized;
      kept = one.kept;
      bitmap = one.bitmap;
      mirror_is = ap (λ (o : Option Record). extents_or (file_stream data_type [] o)) (one.keeps.files mirror_file (λ e. omega (arith, e))) ∙ k.mirror_is;
      inside = subst (λ (n : ℕ). list_all (lies_inside n) runs ≡ true) (sym one.keeps.clusters_stay) parts.1;
      free = λ x some. (let sum = uses-cons r runs x in one.keeps.owners x ∙ k.free x (omega (arith, some, sum)));
      put = subst (λ (p : ℕ). PutsRunsIn c p w.table mirror value runs between mid new after) (sym one.keeps.per) (subst (λ (e : Extents). PutsRunsIn c v.per e mirror value runs between mid new after) (sym one.keeps.table) k.put.3);
    }
    in
    let two = runs_put c g clusters w mirror between runs value mid new after eight state_w rest in
    let keeps_two : KeepsOwners (content_with d one.bodies) g clusters w two.bodies two.volume = subst (λ (y : Content). KeepsOwners y g clusters w two.bodies two.volume) (sym one.edits.content) two.keeps in
    let joined = contents_put d one.bodies two.bodies (sized_with c (bodies_of old) k.sized) one.keeps.whole keeps_two.whole in
    record {
      volume = two.volume;
      bodies = put_bodies two.bodies one.bodies;
      edits = both_edit c one.bodies two.bodies old mid new k.sized one.keeps.whole keeps_two.whole one.edits two.edits;
      keeps = both_keep d g clusters v w two.volume one.bodies two.bodies (sized_with c (bodies_of old) k.sized) one.keeps keeps_two;
      bitmap = two.bitmap;
      kept = two.kept;
      bits = λ x low.
          ap (λ (y : Content). bit (cluster_bits y two.volume) x) (joined ∙ ap (λ (y : Content). content_with y two.bodies) one.edits.content)
          ∙ two.bits x (subst (λ (n : ℕ). x < n) (sym one.keeps.clusters_stay) low)
          ∙ ap (λ (y : Content). cond (leb 1 (uses runs x)) value (bit (cluster_bits y w) x)) (sym one.edits.content)
          ∙ ap (λ (t : Bool). cond (leb 1 (uses runs x)) value t) (one.bits x low)
          ∙ join_bits (covers x r) (uses runs x) value (bit (cluster_bits d v) x)
          ∙ sym (ap (λ (n : ℕ). cond (leb 1 n) value (bit (cluster_bits d v) x)) (uses-cons r runs x));
    }

-- ---- the law

pub begins_so : (c : Content) (g : Geometry) (clusters : ℕ) (v : Volume) (b : Bitmap) → Stands c g clusters v → b.number ≡ bitmap_file → b.kind ≡ data_type → IsBitmap b → file_in v bitmap_file ≡ Some b.file → has_type attribute_list b.file ≡ false → stream_of data_type [] b.file.attrs ≡ Some b.stream → IsClusterBitmap v b
begins_so c g clusters v b state number kind stands file no_list stream = record {
  number = number;
  kind = kind;
  stands = stands;
  file = b.file;
  is_file = file;
  stands_as = inl refl;
  no_list = no_list;
  used = written_read.used c v.per v.table bitmap_file b.file (own_record c g clusters v bitmap_file b.file state file no_list).slot;
  stream = stream;
  joined = (bitmap_rule c g clusters v b.file b.stream state file stream).0;
}
