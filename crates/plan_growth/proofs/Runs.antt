-- Runs that go on behind others: none more is sparse, and all lie in the volume.
use Rattle.std.proofs.Common.{◌≡◌, ◌⊎◌, ℕ, ◌+◌, ◌-◌, ◌<◌, ◌≤◌, Bool, true, false, not, cond, eqb, List, [], ◌∷◌, ◌++◌, Option, Some, None, refl, ap, ◌∙◌, inl, inr, arith}
use Rattle.std.specs.Prelude.{map}
use Rattle.std.specs.List.{list_all, list_any}
use Rattle.std.proofs.lemmas.Bool.{cases_lt, and_parts, and_from, or_parts, or_from, leb-true, le-leb, eqb-true}
use Rattle.plan_model.specs.record_model.declared.runs.Run.{Run}
use Rattle.plan_model.specs.record_model.Pairs.{Follow, HasSpelling}
use Rattle.plan_model.specs.state_model.Loads.{total_clusters}
use Rattle.plan_model.specs.volume_model.Indexes.{runs_end}
use Rattle.plan_model.specs.volume_model.Sizes.{lies_below, lies_inside, is_hole}
use Rattle.resized_streams.specs.stream_runs.Runs.{touches, in_front, merged, moved, grown, front}
use Rattle.resized_streams.proofs.stream_runs.Places.{cut, front_whole, front_cut}

-- ---- what each run has

-- the first is a run, and the other goes on from it
abbrev both : Run → Run → Run
both r s = record { vcn = r.vcn; lcn = r.lcn; len = r.len + s.len }

front_by : (p : Run → Bool) (r s : Run) (runs : List Run) (t : Bool) → touches r.lcn r.len s.lcn ≡ t → ((r s : Run) → touches r.lcn r.len s.lcn ≡ true → p r ≡ true → p s ≡ true → p (both r s) ≡ true) → p r ≡ true → p s ≡ true → list_all p runs ≡ true
    → list_all p (cond t (both r s ∷ runs) (r ∷ s ∷ runs)) ≡ true
front_by p r s runs true touch joins first second rest = and_from _ _ (joins r s touch first second) rest
front_by p r s runs false touch joins first second rest = and_from _ _ first (and_from _ _ second rest)

front_passes : (p : Run → Bool) (r : Run) (runs : List Run) → ((r s : Run) → touches r.lcn r.len s.lcn ≡ true → p r ≡ true → p s ≡ true → p (both r s) ≡ true) → p r ≡ true → list_all p runs ≡ true → list_all p (in_front r runs) ≡ true
front_passes p r [] joins first rest = and_from _ _ first refl
front_passes p r (s ∷ runs) joins first rest = (let parts = and_parts (p s) (list_all p runs) rest in front_by p r s runs (touches r.lcn r.len s.lcn) refl joins first parts.0 parts.1)

merged_passes : (p : Run → Bool) (runs : List Run) → ((r s : Run) → touches r.lcn r.len s.lcn ≡ true → p r ≡ true → p s ≡ true → p (both r s) ≡ true) → list_all p runs ≡ true → list_all p (merged runs) ≡ true
unfolding merged
merged_passes p [] joins all = refl
merged_passes p (r ∷ runs) joins all = (let parts = and_parts (p r) (list_all p runs) all in front_passes p r (merged runs) joins parts.0 (merged_passes p runs joins parts.1))

append_passes : (p : Run → Bool) (runs others : List Run) → list_all p runs ≡ true → list_all p others ≡ true → list_all p (runs ++ others) ≡ true
append_passes p [] others one two = two
append_passes p (r ∷ runs) others one two = (let parts = and_parts (p r) (list_all p runs) one in and_from _ _ parts.0 (append_passes p runs others parts.1 two))

moved_passes : (p : Run → Bool) (n : ℕ) (runs : List Run) → ((r : Run) → p (moved n r) ≡ p r) → list_all p runs ≡ true → list_all p (map (moved n) runs) ≡ true
moved_passes p n [] same all = refl
moved_passes p n (r ∷ runs) same all = (let parts = and_parts (p r) (list_all p runs) all in and_from _ _ (same r ∙ parts.0) (moved_passes p n runs same parts.1))

grown_passes : (p : Run → Bool) (runs more : List Run) → ((r s : Run) → touches r.lcn r.len s.lcn ≡ true → p r ≡ true → p s ≡ true → p (both r s) ≡ true) → ((n : ℕ) (r : Run) → p (moved n r) ≡ p r) → list_all p runs ≡ true → list_all p more ≡ true
    → list_all p (grown runs more) ≡ true
unfolding grown
grown_passes p runs more joins same one two =
    merged_passes p (runs ++ map (moved (total_clusters runs)) more) joins (append_passes p runs (map (moved (total_clusters runs)) more) one (moved_passes p (total_clusters runs) more (same (total_clusters runs)) two))

-- ---- inside the volume

joined_inside : (clusters : ℕ) (first second : Option ℕ) (len more : ℕ) → touches first len second ≡ true → lies_below clusters len first ≡ true → lies_below clusters more second ≡ true → lies_below clusters (len + more) first ≡ true
joined_inside clusters None second len more touch one two = refl
joined_inside clusters (Some a) None len more touch one two = absurd cc
joined_inside clusters (Some a) (Some b) len more touch one two =
    let at : a + len ≡ b = eqb-true (a + len) b touch in
    let end : b + more ≤ clusters = leb-true (b + more) clusters two in
    le-leb (a + (len + more)) clusters (omega (arith, at, end))

pub grown_inside : (clusters : ℕ) (runs more : List Run) → list_all (lies_inside clusters) runs ≡ true → list_all (lies_inside clusters) more ≡ true → list_all (lies_inside clusters) (grown runs more) ≡ true
grown_inside clusters runs more = grown_passes (lies_inside clusters) runs more (λ r s touch one two. joined_inside clusters r.lcn s.lcn r.len s.len touch one two) (λ n r. refl)

-- ---- no sparse run

any_as_all : (runs : List Run) → list_any is_hole runs ≡ false → list_all (λ r. not (is_hole r)) runs ≡ true
any_as_all [] none = refl
any_as_all (r ∷ runs) none = (let parts = or_parts (is_hole r) (list_any is_hole runs) none in and_from _ _ (ap not parts.0) (any_as_all runs parts.1))

all_as_any : (runs : List Run) → list_all (λ r. not (is_hole r)) runs ≡ true → list_any is_hole runs ≡ false
all_as_any [] all = refl
all_as_any (r ∷ runs) all = (let parts = and_parts (not (is_hole r)) (list_all (λ x. not (is_hole x)) runs) all in or_from _ _ (from_not (is_hole r) parts.0) (all_as_any runs parts.1))
  where
    from_not : (t : Bool) → not t ≡ true → t ≡ false
    from_not true is = absurd cc
    from_not false is = refl

pub grown_whole : (runs more : List Run) → list_any is_hole runs ≡ false → list_any is_hole more ≡ false → list_any is_hole (grown runs more) ≡ false
grown_whole runs more one two = all_as_any (grown runs more) (grown_passes (λ r. not (is_hole r)) runs more (λ r s touch first second. first) (λ n r. refl) (any_as_all runs one) (any_as_all more two))

-- ---- where runs end

end_from : (n : ℕ) (runs : List Run) → Follow 0 n runs → (runs_end runs ≡ n + total_clusters runs) ⊎ ((runs ≡ []) × (runs_end runs ≡ 0))
end_from n [] follow = inr (refl, refl)
end_from n (r ∷ runs) follow = elim (end_from (n + r.len) runs follow.1) [
  | inl ends ↦ inl (let vcn : r.vcn ≡ n = omega (arith, follow.0.vcn, follow.0.within, follow.0.some) in omega (arith, vcn, ends))
  | inr none ↦ inl (let vcn : r.vcn ≡ n = omega (arith, follow.0.vcn, follow.0.within, follow.0.some) in let rest : total_clusters runs ≡ 0 = ap total_clusters none.0 in omega (arith, vcn, none.1, rest))
]

-- runs with a spelling end where they have so many clusters
pub end_is_total : (runs : List Run) → HasSpelling 0 runs → runs_end runs ≡ total_clusters runs
end_is_total [] spelled = refl
end_is_total (r ∷ runs) spelled = elim (end_from 0 (r ∷ runs) spelled) [
  | inl ends ↦ omega (arith, ends)
  | inr none ↦ (let never = none.0 in absurd cc)
]

-- ---- the first clusters

kept_passes : (p : Run → Bool) (clusters : ℕ) (r : Run) (t : Bool) → p (cut clusters r) ≡ true → list_all p (cond t [] (cut clusters r ∷ [])) ≡ true
kept_passes p clusters r true is = refl
kept_passes p clusters r false is = and_from _ _ is refl

front_passes_all : (p : Run → Bool) (clusters : ℕ) (runs : List Run) → ((k : ℕ) (r : Run) → k < r.len → p r ≡ true → p (cut k r) ≡ true) → list_all p runs ≡ true → list_all p (front clusters runs) ≡ true
unfolding front
front_passes_all p clusters [] shorter all = refl
front_passes_all p clusters (r ∷ runs) shorter all =
    let parts = and_parts (p r) (list_all p runs) all in
    elim (cases_lt clusters r.len) [
      | inl less ↦ ap (list_all p) (front_cut clusters r runs less) ∙ kept_passes p clusters r (eqb clusters 0) (shorter clusters r less parts.0)
      | inr le ↦ ap (list_all p) (front_whole clusters r runs le) ∙ and_from _ _ parts.0 (front_passes_all p (clusters - r.len) runs shorter parts.1)
    ]

shorter_inside : (clusters k len : ℕ) (first : Option ℕ) → k < len → lies_below clusters len first ≡ true → lies_below clusters k first ≡ true
shorter_inside clusters k len None less is = refl
shorter_inside clusters k len (Some a) less is = (let end : a + len ≤ clusters = leb-true (a + len) clusters is in le-leb (a + k) clusters (omega (arith, less, end)))

pub cut_inside : (clusters keep : ℕ) (runs : List Run) → list_all (lies_inside clusters) runs ≡ true → list_all (lies_inside clusters) (merged (front keep runs)) ≡ true
cut_inside clusters keep runs all =
    merged_passes (lies_inside clusters) (front keep runs) (λ r s touch one two. joined_inside clusters r.lcn s.lcn r.len s.len touch one two)
    (front_passes_all (lies_inside clusters) keep runs (λ k r less is. shorter_inside clusters k r.len r.lcn less is) all)

pub cut_whole : (keep : ℕ) (runs : List Run) → list_any is_hole runs ≡ false → list_any is_hole (merged (front keep runs)) ≡ false
cut_whole keep runs none =
    all_as_any (merged (front keep runs)) (merged_passes (λ r. not (is_hole r)) (front keep runs) (λ r s touch first second. first) (front_passes_all (λ r. not (is_hole r)) keep runs (λ k r less is. is) (any_as_all runs none)))
