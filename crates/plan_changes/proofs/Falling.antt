-- By how much the room falls where an edit takes clusters.
use Rattle.std.proofs.Common.{◌≡◌, ◌≢◌, ◌⊎◌, ℕ, zero, suc, ◌+◌, ◌<◌, ◌≤◌, Bool, true, false, not, ◌&&◌, ◌||◌, cond, leb, ltb, List, [], ◌∷◌, length, Option, Some, None, refl, sym, ap, ◌∙◌, inl, inr, arith}
use Rattle.std.specs.Prelude.{count_by}
use Rattle.std.proofs.lemmas.Bool.{cases_Bool, cases_lt, both_ways, and_from, and_parts, or_left, or_right, le-leb, lt-ltb, leb-true, ltb-true}
use Rattle.std.proofs.lemmas.List.{ext_get_or}
use Rattle.disk_model.specs.Content.{Content}
use Rattle.plan_informed.specs.record_model.declared.runs.Run.{Run}
use Rattle.plan_informed.specs.record_model.Records.{Record}
use Rattle.bit_set.specs.Bits.{bit}
use Rattle.bit_set.proofs.Views.{length-bits_of_bytes}
use Rattle.plan_informed.specs.space_model.Choosing.{with_run}
use Rattle.plan_informed.proofs.space_model.Fitting.{counted}
use Rattle.plan_informed.proofs.space_model.Searching.{length-with_run, with_run-inside, with_run-others}
use Rattle.plan_informed.specs.state_model.Loads.{total_clusters}
use Rattle.plan_informed.specs.volume_model.Volumes.{Volume, bitmap_file, bytes_or, cluster_bitmap, cluster_bits}
use Rattle.plan_informed.specs.volume_model.Nodes.{free_clusters}
use Rattle.plan_informed.specs.volume_model.Owners.{covers_from, covers, uses}
use Rattle.plan_informed.specs.volume_state.Trees.{tree_with, tree_of}
use Rattle.plan_informed.specs.stream_laws.Replacing.{FileEdit, with_edits}
use Rattle.plan_informed.proofs.stream_laws.Editing.{length-with_edits, other_file}
use Rattle.plan_informed.proofs.stream_laws.Placing.{uses-cons}
use Rattle.plan_informed.proofs.tree_laws.Parting.{cluster_bits_stay}
use Rattle.plan_informed.specs.plan_model.Informed.{with_record}
use Rattle.plan_changes.specs.Rooms.{RoomsFall}

-- ---- clear bits

one_or_none : (b : Bool) → cond {A = ℕ} b 0 1 ≤ 1
one_or_none true = omega arith
one_or_none false = omega arith

-- a run takes at most its length
run_takes : (first len : ℕ) (bits : List Bool) → count_by not bits ≤ count_by not (with_run first len bits) + len
unfolding with_run
run_takes first len [] = omega arith
run_takes zero zero (b ∷ bits) = omega arith
run_takes zero (suc len) (b ∷ bits) =
    (let now = counted true (with_run 0 len bits) in
    let was = counted b bits in
    let most = one_or_none b in
    let rest = run_takes zero len bits in
    omega (arith, now, was, most, rest))
run_takes (suc first) len (b ∷ bits) =
    (let now = counted b (with_run first len bits) in
    let was = counted b bits in
    let rest = run_takes first len bits in
    omega (arith, now, was, rest))

less_clear : (b d : Bool) → (b ≡ false → d ≡ false) → cond {A = ℕ} b 0 1 ≤ cond {A = ℕ} d 0 1
less_clear true d less = omega arith
less_clear false d less = (let same : cond {A = ℕ} d 0 1 ≡ 1 = ap (λ (t : Bool). cond {A = ℕ} t 0 1) (less refl) in omega (arith, same))

all_clear : (old new : List Bool) → length new ≡ length old → ((x : ℕ) → x < length old → bit old x ≡ false → bit new x ≡ false) → count_by not old ≤ count_by not new
all_clear [] new long each = omega arith
all_clear (b ∷ old) [] long each = absurd (omega (arith, long))
all_clear (b ∷ old) (d ∷ new) long each =
    let was = counted b old in
    let now = counted d new in
    let head = less_clear b d (each 0 (omega arith)) in
    let rest = all_clear old new (omega (arith, long)) (λ x low clear. each (suc x) (omega (arith, low)) clear) in
    omega (arith, was, now, head, rest)

-- ---- runs

uses-none : (x : ℕ) → uses [] x ≡ 0
unfolding uses
uses-none x = refl

which_lcn : (o : Option ℕ) → (o ≡ None) ⊎ ((first : ℕ) × (o ≡ Some first))
which_lcn None = inl refl
which_lcn (Some first) = inr (first, refl)

outside : (first len x : ℕ) → (leb first x && ltb x (first + len)) ≡ false → (x < first) ⊎ (first + len ≤ x)
outside first len x is = elim (cases_lt x first) [
  | inl before ↦ inl before
  | inr low ↦ elim (cases_lt x (first + len)) [
    | inl high ↦ absurd (both_ways (leb first x && ltb x (first + len)) is (and_from _ _ (le-leb first x low) (lt-ltb x (first + len) high)))
    | inr behind ↦ inr behind
  ]
]

-- a bit behind the first run, as one behind those that follow it
bit_step : (first : ℕ) (r : Run) (runs : List Run) (old : List Bool) (x : ℕ) (b : Bool) → r.lcn ≡ Some first → x < length old → b ≡ (leb 1 (uses (r ∷ runs) x) || bit old x) → b ≡ (leb 1 (uses runs x) || bit (with_run first r.len old) x)
bit_step first r runs old x b is low same =
    let parts : uses (r ∷ runs) x ≡ cond (covers x r) 1 0 + uses runs x = uses-cons r runs x in
    let test : covers x r ≡ (leb first x && ltb x (first + r.len)) = ap (covers_from x r.len) is in
    elim (cases_Bool (leb first x && ltb x (first + r.len))) [
      | inl here ↦
          (let both = and_parts (leb first x) (ltb x (first + r.len)) here in
          let one : cond {A = ℕ} (covers x r) 1 0 ≡ 1 = ap (λ (t : Bool). cond {A = ℕ} t 1 0) (test ∙ here) in
          let set : bit (with_run first r.len old) x ≡ true = with_run-inside first r.len old x (leb-true first x both.0) (ltb-true x (first + r.len) both.1) low in
          same ∙ or_left (leb 1 (uses (r ∷ runs) x)) (bit old x) (le-leb 1 (uses (r ∷ runs) x) (omega (arith, parts, one))) ∙ sym (or_right (leb 1 (uses runs x)) (bit (with_run first r.len old) x) set))
      | inr other ↦
          (let zero_of : cond {A = ℕ} (covers x r) 1 0 ≡ 0 = ap (λ (t : Bool). cond {A = ℕ} t 1 0) (test ∙ other) in
          let used : uses (r ∷ runs) x ≡ uses runs x = omega (arith, parts, zero_of) in
          same ∙ ap (λ (k : ℕ). leb 1 k || bit old x) used ∙ ap (λ (t : Bool). leb 1 (uses runs x) || t) (sym (with_run-others first r.len old x (outside first r.len x other))))
    ]

runs_take : (runs : List Run) (old new : List Bool) → length new ≡ length old → ((x : ℕ) → x < length old → bit new x ≡ (leb 1 (uses runs x) || bit old x)) → count_by not old ≤ count_by not new + total_clusters runs
runs_take [] old new long each =
    let same : new ≡ old = ext_get_or false new old long (λ i lt. each i (omega (arith, lt, long)) ∙ ap (λ (k : ℕ). leb 1 k || bit old i) (uses-none i)) in
    let count = ap (count_by not) same in omega (arith, count)
runs_take (r ∷ runs) old new long each = elim (which_lcn r.lcn) [
  | inl none ↦
      (let rest = runs_take runs old new long (λ x low.
      (let parts : uses (r ∷ runs) x ≡ cond (covers x r) 1 0 + uses runs x = uses-cons r runs x in
      let zero_of : cond {A = ℕ} (covers x r) 1 0 ≡ 0 = ap (λ (t : Bool). cond {A = ℕ} t 1 0) (ap (covers_from x r.len) none) in
      let used : uses (r ∷ runs) x ≡ uses runs x = omega (arith, parts, zero_of) in
      each x low ∙ ap (λ (k : ℕ). leb 1 k || bit old x) used)) in
      omega (arith, rest))
  | inr some ↦
      (let size = length-with_run some.0 r.len old in
      let took = run_takes some.0 r.len old in
      let rest = runs_take runs (with_run some.0 r.len old) new (long ∙ sym size) (λ x low. bit_step some.0 r runs old x (bit new x) some.1 (omega (arith, low, size)) (each x (omega (arith, low, size)))) in
      omega (arith, took, rest))
]

-- ---- the room

length-cluster_bits : (c : Content) (v : Volume) → length (cluster_bits c v) ≡ v.clusters
unfolding cluster_bits
length-cluster_bits c v = length-bits_of_bytes (bytes_or c v.per (cluster_bitmap v)) v.clusters

room_is : (c : Content) (v : Volume) → (tree_of c v).room ≡ count_by not (cluster_bits c v)
unfolding tree_of tree_with free_clusters
room_is c v = refl

bits_after : (d : Content) (v : Volume) (n : ℕ) (s : Record) → n ≢ bitmap_file → cluster_bits d (with_record v n s) ≡ cluster_bits d v
bits_after d v n s apart =
    let edits : List FileEdit = record { number = n; file = Some s } ∷ [] in
    cluster_bits_stay d v (with_edits edits v.files) n (record { count = length-with_edits v.files edits; others = λ m other. other_file v.files edits m ((λ same. other (sym same)), tt) }) apart

room_after : (d : Content) (v : Volume) (n : ℕ) (s : Record) → n ≢ bitmap_file → (tree_of d (with_record v n s)).room ≡ count_by not (cluster_bits d v)
room_after d v n s apart = room_is d (with_record v n s) ∙ ap (count_by not) (bits_after d v n s apart)

pub rooms_are : RoomsFall
rooms_are = record {
  taken = λ c d v n s more apart each.
      (let was = room_is c v in
      let now = room_after d v n s apart in
      let size = length-cluster_bits c v in
      let took = runs_take more (cluster_bits c v) (cluster_bits d v) (length-cluster_bits d v ∙ sym size) (λ x low. each x (omega (arith, low, size))) in
      omega (arith, was, now, took));
  kept = λ c d v n s apart each.
      (let was = room_is c v in
      let now = room_after d v n s apart in
      let size = length-cluster_bits c v in
      let took = all_clear (cluster_bits c v) (cluster_bits d v) (length-cluster_bits d v ∙ sym size) (λ x low. each x (omega (arith, low, size))) in
      omega (arith, was, now, took));
}
