-- Touched blocks as bodies that are put.
use Rattle.std.proofs.Common.{◌≡◌, ℕ, zero, suc, ◌+◌, ◌*◌, ◌<◌, ◌≤◌, Bool, true, false, cond, List, [], ◌∷◌, length, Option, Some, None, Result, Ok, Err, refl, sym, ap, subst, ◌∙◌, inl, inr, arith}
use Rattle.std.specs.Prelude.{All, IfSome, OnOk, OnErr}
use Rattle.std.specs.List.{AllByRecursion}
use Rattle.std.specs.Option.{option_map, ForSome}
use Rattle.std.proofs.lemmas.Bool.{cases_lt, cases_Bool, lt-ltb, le-ltb}
use Rattle.std.proofs.lemmas.List.Elements.{All-head, All-tail, recursion_from_All}
use Rattle.plan_bodies.specs.disk_model.declared.block.Block.{Block}
use Rattle.plan_bodies.specs.disk_model.Bodies.{BodyOf}
use Rattle.plan_bodies.specs.disk_model.Content.{Content, HasSizes}
use Rattle.plan_bodies.specs.disk_model.Sectors.{sectors, same_block}
use Rattle.plan_bodies.specs.Bodies.{NewBody, AreWhole, AreOfOwnBlocks, AreBodies, body_in, body_or, content_with}
use Rattle.plan_bodies.proofs.Putting.{body_put}
use Rattle.plan_draft.specs.declared.touched.Touched.{Touched}
use Rattle.plan_draft.specs.Touching.{block_key, keys_of, rises, touched_at, bodies_of, IsWhole}
use Rattle.plan_draft.specs.Drafts.{drafted}
use Rattle.plan_draft.proofs.Placing.{rises_head, rises_tail, other_block}

pub body_touched : (touched : List Touched) (b : Block) → body_in (bodies_of touched) b ≡ option_map (λ (t : Touched). t.new) (touched_at touched b)
body_touched [] b = refl
body_touched (t ∷ touched) b = elim (cases_Bool (same_block b t.block)) [
  | inl same ↦ rw same refl
  | inr other ↦ rw other (body_touched touched b)
]

whole_bodies : (touched : List Touched) → All IsWhole touched → AreWhole (bodies_of touched)
whole_bodies [] whole = tt
whole_bodies (t ∷ touched) whole = ((All-head IsWhole t touched whole).new, whole_bodies touched (All-tail IsWhole t touched whole))

others_behind : (b : Block) (least : ℕ) (touched : List Touched) → rises least (keys_of touched) ≡ true → block_key b < least → AllByRecursion (λ x. same_block b x.block ≡ false) (bodies_of touched)
others_behind b least [] up lt = tt
others_behind b least (t ∷ touched) up lt =
    let head = rises_head least (block_key t.block) (keys_of touched) up in (
      other_block b t.block (λ e. absurd (omega (arith, head, lt, e))),
      others_behind b (suc (block_key t.block)) touched (rises_tail least (block_key t.block) (keys_of touched) up) (omega (arith, head, lt)),
    )

own_blocks : (least : ℕ) (touched : List Touched) → rises least (keys_of touched) ≡ true → AreOfOwnBlocks (bodies_of touched)
own_blocks least [] up = tt
own_blocks least (t ∷ touched) up =
    let tail = rises_tail least (block_key t.block) (keys_of touched) up in
    (others_behind t.block (suc (block_key t.block)) touched tail (omega arith), own_blocks (suc (block_key t.block)) touched tail)

-- what is touched are whole bodies, each of a block of its own
pub are_bodies : (touched : List Touched) → rises 0 (keys_of touched) ≡ true → All IsWhole touched → AreBodies (bodies_of touched)
are_bodies touched up whole = record {
  whole = whole_bodies touched whole;
  own = own_blocks 0 touched up;
}

-- ---- the draft's content

pub drafted_at : (touched : List Touched) (c : Content) (b : Block) (o : Option Touched) → HasSizes c → rises 0 (keys_of touched) ≡ true → All IsWhole touched → touched_at touched b ≡ o → drafted touched c b ≡ body_or (c b) (option_map (λ (t : Touched). t.new) o)
drafted_at touched c b o sized up whole is =
    body_put c (bodies_of touched) b sized (are_bodies touched up whole)
    ∙ ap (body_or (c b)) (body_touched touched b ∙ ap (option_map (λ (t : Touched). t.new)) is)

body_with : List ℕ → Bool → BodyOf
body_with bytes torn = record { bytes = bytes; torn = torn }

-- of a touched block it is the present body
pub body_found : (content : Option Content) (touched : List Touched) (b : Block) (t : Touched) (x : BodyOf) → IfSome content HasSizes → rises 0 (keys_of touched) ≡ true → All IsWhole touched → touched_at touched b ≡ Some t → x ≡ record { bytes = t.new; torn = false }
    → IfSome (option_map (drafted touched) content) (λ c. x ≡ c b)
body_found None touched b t x sized up whole is new = tt
body_found (Some c) touched b t x sized up whole is new = new ∙ sym (drafted_at touched c b (Some t) sized up whole is)

-- of another one that of the content
pub body_kept : (content : Option Content) (touched : List Touched) (b : Block) (x : BodyOf) → IfSome content HasSizes → rises 0 (keys_of touched) ≡ true → All IsWhole touched → touched_at touched b ≡ None → IfSome content (λ c. x ≡ c b)
    → IfSome (option_map (drafted touched) content) (λ c. x ≡ c b)
body_kept None touched b x sized up whole is kept = tt
body_kept (Some c) touched b x sized up whole is kept = kept ∙ sym (drafted_at touched c b None sized up whole is)

-- ---- answers

pub on_ok : {T E : Type 0} (r : Result T E) (P Q : Type 0) → (P → Q) → OnOk r P → OnOk r Q
on_ok (Ok x) P Q f p = f p
on_ok (Err e) P Q f p = tt

-- what holds before and after a call that may leave all as it was
pub either_way : {T E : Type 0} (r : Result T E) (P : List Touched → Type 0) (new old put : List Touched) → OnOk r (new ≡ put) → OnErr r (new ≡ old) → P put → P old → P new
either_way (Ok x) P new old put is kept after before = subst P (sym is) after
either_way (Err e) P new old put is kept after before = subst P (sym kept) before

pub at_known : {X : Type 0} (o : Option X) (x : X) (P : X → Type 0) → o ≡ Some x → IfSome o P → P x
at_known None x P is holds = absurd cc
at_known (Some y) x P is holds = let same : y ≡ x = cc in subst P same holds

pub for_each : {X : Type 0} (o : Option X) (P Q : X → Type 0) → ((x : X) → P x → Q x) → IfSome o P → IfSome o Q
for_each None P Q f holds = tt
for_each (Some x) P Q f holds = f x holds

pub for_all : {X : Type 0} (o : Option X) (P : X → Type 0) → ((x : X) → P x) → IfSome o P
for_all None P f = tt
for_all (Some x) P f = f x
