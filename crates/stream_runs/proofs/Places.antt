-- Where the clusters of runs lie that are joined, that go on behind others, or of which the first are taken.
use Rattle.std.proofs.Common.{◌≡◌, ℕ, ◌+◌, ◌-◌, ◌*◌, ◌/◌, ◌%◌, ◌^◌, ◌<◌, ◌≤◌, Bool, true, false, cond, eqb, leb, ltb, List, [], ◌∷◌, ◌++◌, map, Option, Some, None, refl, sym, ap, ◌∙◌, subst, inl, inr, arith}
use Rattle.std.specs.Prelude.{option_map, find}
use Rattle.std.proofs.lemmas.Bool.{cases_lt, eqb-true, and_parts, and_from, and_cases, and_left, and_right, leb-true, ltb-true, le-leb, lt-ltb, le-ltb, lt-leb, leb-false, ltb-false, cases_Bool}
use Rattle.volume_model.specs.disk_model.declared.block.Block.{Block}
use Rattle.volume_model.specs.disk_model.declared.block.BlockKind.{BlockKind}
use Rattle.volume_model.specs.disk_model.Sectors.{sectors}
use Rattle.volume_model.specs.record_model.declared.runs.Run.{Run}
use Rattle.volume_model.specs.record_model.Pairs.{cluster_limit, Follow, HasSpelling}
use Rattle.volume_model.specs.state_model.Loads.{total_clusters}
use Rattle.volume_model.specs.state_model.Streams.{holds, lcn_in, block_at}
use Rattle.stream_runs.specs.Runs.{touches, in_front, merged, moved, grown, front}
use Rattle.stream_runs.specs.Laws.{InOneCluster}
use Rattle.stream_runs.proofs.Merging.{both, merged-cons, follow-merged, follow-append, follow-moved}

-- ---- runs by their VCNs

abbrev pub Rise : ℕ → List Run → Type 0
Rise n [] = Unit {0}
Rise n (r ∷ runs) = (r.vcn ≡ n) × Rise (n + r.len) runs

pub rise_of : (n : ℕ) (runs : List Run) → Follow 0 n runs → Rise n runs
rise_of n [] follow = tt
rise_of n (r ∷ runs) follow = (let e : r.vcn ≡ n = omega (arith, follow.0.vcn, follow.0.within, follow.0.some) in e, rise_of (n + r.len) runs follow.1)

-- the cluster in which a VCN lies
abbrev pub lcn_of : ℕ → List Run → Option ℕ
lcn_of v runs = lcn_in v (find (holds v v) runs)

here : (v : ℕ) (r : Run) (runs : List Run) → holds v v r ≡ true → lcn_of v (r ∷ runs) ≡ lcn_in v (Some r)
here v r runs is = ap (λ (b : Bool). lcn_in v (cond b (Some r) (find (holds v v) runs))) is

behind : (v : ℕ) (r : Run) (runs : List Run) → holds v v r ≡ false → lcn_of v (r ∷ runs) ≡ lcn_of v runs
behind v r runs is = ap (λ (b : Bool). lcn_in v (cond b (Some r) (find (holds v v) runs))) is

-- the same run in front of runs in which the VCN lies in the same place
alike_by : (v : ℕ) (r : Run) (runs others : List Run) (t : Bool) → holds v v r ≡ t → lcn_of v runs ≡ lcn_of v others → lcn_of v (r ∷ runs) ≡ lcn_of v (r ∷ others)
alike_by v r runs others true is same = here v r runs is ∙ sym (here v r others is)
alike_by v r runs others false is same = behind v r runs is ∙ same ∙ sym (behind v r others is)

alike : (v : ℕ) (r : Run) (runs others : List Run) → lcn_of v runs ≡ lcn_of v others → lcn_of v (r ∷ runs) ≡ lcn_of v (r ∷ others)
alike v r runs others same = alike_by v r runs others (holds v v r) refl same

held : (v : ℕ) (r : Run) → r.vcn ≤ v → v < r.vcn + r.len → holds v v r ≡ true
held v r from below = and_from (leb r.vcn v) (ltb v (r.vcn + r.len)) (le-leb r.vcn v from) (lt-ltb v (r.vcn + r.len) below)

unheld_before : (v : ℕ) (r : Run) → v < r.vcn → holds v v r ≡ false
unheld_before v r before = and_left (leb r.vcn v) (ltb v (r.vcn + r.len)) (lt-leb r.vcn v before)

unheld_past : (v : ℕ) (r : Run) → r.vcn + r.len ≤ v → holds v v r ≡ false
unheld_past v r past = and_right (leb r.vcn v) (ltb v (r.vcn + r.len)) (le-ltb v (r.vcn + r.len) past)

is_held : (v : ℕ) (r : Run) → holds v v r ≡ true → (r.vcn ≤ v) × (v < r.vcn + r.len)
is_held v r is = (let parts = and_parts (leb r.vcn v) (ltb v (r.vcn + r.len)) is in (leb-true r.vcn v parts.0, ltb-true v (r.vcn + r.len) parts.1))

-- ---- joined runs

lcn_by : (v vcn more len : ℕ) (a b : Option ℕ) → touches a len b ≡ true → more ≡ vcn + len → more ≤ v → option_map (λ (lcn : ℕ). lcn + (v - vcn)) a ≡ option_map (λ (lcn : ℕ). lcn + (v - more)) b
lcn_by v vcn more len None None t is from = refl
lcn_by v vcn more len None (Some b) t is from = absurd cc
lcn_by v vcn more len (Some a) None t is from = absurd cc
lcn_by v vcn more len (Some a) (Some b) t is from = (let e : a + (v - vcn) ≡ b + (v - more) = omega (arith, eqb-true (a + len) b t) in ap (λ (n : ℕ). Some n) e)

both_found : (v : ℕ) (r s : Run) (runs : List Run) → touches r.lcn r.len s.lcn ≡ true → s.vcn ≡ r.vcn + r.len → lcn_of v (both r s ∷ runs) ≡ lcn_of v (r ∷ s ∷ runs)
both_found v r s runs touch next = elim (cases_lt v r.vcn) [
  | inl before ↦
      (let third : v < s.vcn = omega arith in
      behind v (both r s) runs (unheld_before v (both r s) before) ∙ sym (behind v r (s ∷ runs) (unheld_before v r before) ∙ behind v s runs (unheld_before v s third)))
  | inr from ↦ elim (cases_lt v s.vcn) [
    | inl in_first ↦
        here v (both r s) runs (held v (both r s) from (omega arith)) ∙ sym (here v r (s ∷ runs) (held v r from (omega arith)))
    | inr in_rest ↦ elim (cases_lt v (s.vcn + s.len)) [
      | inl in_second ↦
          here v (both r s) runs (held v (both r s) from (omega arith))
          ∙ lcn_by v r.vcn s.vcn r.len r.lcn s.lcn touch next in_rest
          ∙ sym (behind v r (s ∷ runs) (unheld_past v r (omega arith)) ∙ here v s runs (held v s in_rest in_second))
      | inr past ↦
          behind v (both r s) runs (unheld_past v (both r s) (omega arith))
          ∙ sym (behind v r (s ∷ runs) (unheld_past v r (omega arith)) ∙ behind v s runs (unheld_past v s past))
    ]
  ]
]

front_found_by : (v : ℕ) (r s : Run) (runs : List Run) (t : Bool) → touches r.lcn r.len s.lcn ≡ t → s.vcn ≡ r.vcn + r.len → lcn_of v (cond t (both r s ∷ runs) (r ∷ s ∷ runs)) ≡ lcn_of v (r ∷ s ∷ runs)
front_found_by v r s runs true is next = both_found v r s runs is next
front_found_by v r s runs false is next = refl

front_found : (v n : ℕ) (r : Run) (runs : List Run) → r.vcn ≡ n → Rise (n + r.len) runs → lcn_of v (in_front r runs) ≡ lcn_of v (r ∷ runs)
front_found v n r [] is rise = refl
front_found v n r (s ∷ runs) is rise = (let next : s.vcn ≡ r.vcn + r.len = omega (arith, rise.0) in front_found_by v r s runs (touches r.lcn r.len s.lcn) refl next)

lcn-merged : (v n : ℕ) (runs : List Run) → Follow 0 n runs → lcn_of v (merged runs) ≡ lcn_of v runs
unfolding merged
lcn-merged v n [] follow = refl
lcn-merged v n (r ∷ runs) follow =
    let rise = rise_of n (r ∷ runs) follow in
    front_found v n r (merged runs) rise.0 (rise_of (n + r.len) (merged runs) (follow-merged 0 (n + r.len) runs follow.1))
    ∙ alike v r (merged runs) runs (lcn-merged v (n + r.len) runs follow.1)

-- ---- runs behind others

lcn-append : (v n : ℕ) (runs others : List Run) → Rise n runs → n ≤ v → v < n + total_clusters runs → lcn_of v (runs ++ others) ≡ lcn_of v runs
lcn-append v n [] others rise from below = absurd (omega arith)
lcn-append v n (r ∷ runs) others rise from below = elim (cases_lt v (r.vcn + r.len)) [
  | inl inside ↦
      (let at : holds v v r ≡ true = held v r (omega (arith, rise.0)) inside in
      here v r (runs ++ others) at ∙ sym (here v r runs at))
  | inr past ↦
      (let at : holds v v r ≡ false = unheld_past v r past in
      behind v r (runs ++ others) at ∙ lcn-append v (n + r.len) runs others rise.1 (omega (arith, rise.0)) (omega arith) ∙ sym (behind v r runs at))
]

-- ---- the first clusters

below_all : (v n : ℕ) (runs : List Run) → Rise n runs → v < n → lcn_of v runs ≡ None
below_all v n [] rise below = refl
below_all v n (r ∷ runs) rise below = behind v r runs (unheld_before v r (omega (arith, rise.0))) ∙ below_all v (n + r.len) runs rise.1 (omega arith)

-- a run of which so many clusters are kept
abbrev pub cut : ℕ → Run → Run
cut clusters r = record { vcn = r.vcn; lcn = r.lcn; len = clusters }

-- what is kept where the run is longer
abbrev pub kept : ℕ → Run → List Run
kept clusters r = cond (eqb clusters 0) [] (cut clusters r ∷ [])

pub front_whole : (clusters : ℕ) (r : Run) (runs : List Run) → r.len ≤ clusters → front clusters (r ∷ runs) ≡ r ∷ front (clusters - r.len) runs
unfolding front
front_whole clusters r runs le = ap (λ (b : Bool). cond b (r ∷ front (clusters - r.len) runs) (kept clusters r)) (le-leb r.len clusters le)

pub front_cut : (clusters : ℕ) (r : Run) (runs : List Run) → clusters < r.len → front clusters (r ∷ runs) ≡ kept clusters r
unfolding front
front_cut clusters r runs lt = ap (λ (b : Bool). cond b (r ∷ front (clusters - r.len) runs) (kept clusters r)) (lt-leb r.len clusters lt)

kept_found : (v n clusters : ℕ) (r : Run) (runs : List Run) (t : Bool) → eqb clusters 0 ≡ t → Rise n (r ∷ runs) → clusters < r.len → v < n + clusters → lcn_of v (cond t [] (cut clusters r ∷ [])) ≡ lcn_of v (r ∷ runs)
kept_found v n clusters r runs true is rise less below = sym (below_all v n (r ∷ runs) rise (omega (arith, eqb-true clusters 0 is)))
kept_found v n clusters r runs false is rise less below = elim (cases_lt v n) [
  | inl before ↦ behind v (cut clusters r) [] (unheld_before v (cut clusters r) (omega (arith, rise.0))) ∙ sym (below_all v n (r ∷ runs) rise before)
  | inr from ↦
      here v (cut clusters r) [] (held v (cut clusters r) (omega (arith, rise.0)) (omega (arith, rise.0))) ∙ sym (here v r runs (held v r (omega (arith, rise.0)) (omega (arith, rise.0))))
]

lcn-front : (v n clusters : ℕ) (runs : List Run) → Rise n runs → v < n + clusters → lcn_of v (front clusters runs) ≡ lcn_of v runs
unfolding front
lcn-front v n clusters [] rise below = refl
lcn-front v n clusters (r ∷ runs) rise below = elim (cases_lt clusters r.len) [
  | inl less ↦ ap (lcn_of v) (front_cut clusters r runs less) ∙ kept_found v n clusters r runs (eqb clusters 0) refl rise less below
  | inr le ↦ ap (lcn_of v) (front_whole clusters r runs le) ∙ alike v r (front (clusters - r.len) runs) runs (lcn-front v (n + r.len) (clusters - r.len) runs rise.1 (omega arith))
]

kept_past : (v n clusters : ℕ) (r : Run) (t : Bool) → r.vcn ≡ n → n + clusters ≤ v → lcn_of v (cond t [] (cut clusters r ∷ [])) ≡ None
kept_past v n clusters r true is past = refl
kept_past v n clusters r false is past = behind v (cut clusters r) [] (unheld_past v (cut clusters r) (omega arith))

lcn-past : (v n clusters : ℕ) (runs : List Run) → Rise n runs → n + clusters ≤ v → lcn_of v (front clusters runs) ≡ None
unfolding front
lcn-past v n clusters [] rise past = refl
lcn-past v n clusters (r ∷ runs) rise past = elim (cases_lt clusters r.len) [
  | inl less ↦ ap (lcn_of v) (front_cut clusters r runs less) ∙ kept_past v n clusters r (eqb clusters 0) rise.0 past
  | inr le ↦
      ap (lcn_of v) (front_whole clusters r runs le)
      ∙ behind v r (front (clusters - r.len) runs) (unheld_past v r (omega (arith, rise.0)))
      ∙ lcn-past v (n + r.len) (clusters - r.len) runs rise.1 (omega arith)
]

-- ---- blocks

abbrev block_of : ℕ → BlockKind → ℕ → ℕ → Block
block_of per kind n lcn = record { first = lcn * per + sectors kind * n % per; kind = kind }

block_is : (per : ℕ) (runs : List Run) (kind : BlockKind) (n : ℕ) → InOneCluster per kind n → block_at per runs kind n ≡ option_map (block_of per kind n) (lcn_of (sectors kind * n / per) runs)
unfolding block_at
block_is per runs kind n one = ap (λ (w : ℕ). option_map (block_of per kind n) (lcn_in (sectors kind * n / per) (find (holds (sectors kind * n / per) w) runs))) one

same_block_at : (per : ℕ) (runs others : List Run) (kind : BlockKind) (n : ℕ) → InOneCluster per kind n → lcn_of (sectors kind * n / per) runs ≡ lcn_of (sectors kind * n / per) others → block_at per runs kind n ≡ block_at per others kind n
same_block_at per runs others kind n one same = block_is per runs kind n one ∙ ap (option_map (block_of per kind n)) same ∙ sym (block_is per others kind n one)

pub places-merged : (per : ℕ) (runs : List Run) (kind : BlockKind) (n : ℕ) → HasSpelling 0 runs → InOneCluster per kind n → block_at per (merged runs) kind n ≡ block_at per runs kind n
places-merged per runs kind n spelled one = same_block_at per (merged runs) runs kind n one (lcn-merged (sectors kind * n / per) 0 runs spelled)

pub places-grown : (per : ℕ) (runs more : List Run) (kind : BlockKind) (n : ℕ) → HasSpelling 0 runs → HasSpelling 0 more → total_clusters runs + total_clusters more ≤ cluster_limit → InOneCluster per kind n → sectors kind * n / per < total_clusters runs
    → block_at per (grown runs more) kind n ≡ block_at per runs kind n
unfolding grown
places-grown per runs more kind n spelled others room one below =
    let t : ℕ = total_clusters runs in
    let v : ℕ = sectors kind * n / per in
    let e : t + 0 ≡ 0 + t = omega arith in
    let behind = subst (λ (k : ℕ). Follow 0 k (map (moved t) more)) e (follow-moved t 0 more others (omega (arith, room))) in
    let all = follow-append 0 0 runs (map (moved t) more) spelled behind in
    same_block_at per (merged (runs ++ map (moved t) more)) runs kind n one
    (lcn-merged v 0 (runs ++ map (moved t) more) all ∙ lcn-append v 0 runs (map (moved t) more) (rise_of 0 runs spelled) (omega arith) (omega arith))

pub places-front : (per clusters : ℕ) (runs : List Run) (kind : BlockKind) (n : ℕ) → HasSpelling 0 runs → InOneCluster per kind n → sectors kind * n / per < clusters → block_at per (front clusters runs) kind n ≡ block_at per runs kind n
places-front per clusters runs kind n spelled one below =
    same_block_at per (front clusters runs) runs kind n one (lcn-front (sectors kind * n / per) 0 clusters runs (rise_of 0 runs spelled) (omega arith))

pub past-front : (per clusters : ℕ) (runs : List Run) (kind : BlockKind) (n : ℕ) → HasSpelling 0 runs → InOneCluster per kind n → clusters ≤ sectors kind * n / per → block_at per (front clusters runs) kind n ≡ None
past-front per clusters runs kind n spelled one past =
    block_is per (front clusters runs) kind n one ∙ ap (option_map (block_of per kind n)) (lcn-past (sectors kind * n / per) 0 clusters runs (rise_of 0 runs spelled) (omega arith))
