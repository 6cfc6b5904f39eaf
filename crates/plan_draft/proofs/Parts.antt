-- What a block has for a plan.
use Rattle.std.proofs.Common.{◌≡◌, ℕ, zero, suc, ◌+◌, ◌-◌, ◌*◌, ◌/◌, ◌<◌, ◌≤◌, Bool, true, false, List, [], ◌∷◌, length, Option, Some, None, refl, sym, ap, ◌∙◌, arith}
use Rattle.std.specs.Prelude.{All, IfSome, is_some}
use Rattle.std.specs.Option.{option_map}
use Rattle.std.proofs.lemmas.List.{length-replicate}
use Rattle.plan_bodies.specs.disk_model.declared.block.Block.{Block}
use Rattle.plan_bodies.specs.disk_model.Bodies.{BodyOf}
use Rattle.plan_bodies.specs.disk_model.Bytes.{zeros, written}
use Rattle.plan_bodies.specs.disk_model.Content.{Content, HasSizes}
use Rattle.plan_bodies.specs.disk_model.Sectors.{sectors}
use Rattle.plan_bodies.specs.Bodies.{NewBody, body_in, content_with}
use Rattle.plan_draft.specs.declared.touched.Touched.{Touched}
use Rattle.plan_draft.specs.Touching.{keys_of, rises, IsWhole, touched_at, bodies_of, put_in_order}
use Rattle.plan_draft.specs.Drafts.{drafted}
use Rattle.plan_draft.specs.Writing.{zeros_or, present, put_part}
use Rattle.plan_draft.proofs.Touching.{body_touched, drafted_at}

-- a fresh block that isn't touched has zeros
fresh_zeros : (touched : List Touched) (b : Block) (o : Option Touched) → touched_at touched b ≡ o → is_some o ≡ false → zeros_or b (body_in (bodies_of touched) b) ≡ zeros (512 * sectors b.kind)
fresh_zeros touched b None is none = ap (zeros_or b) (body_touched touched b ∙ ap (option_map (λ (t : Touched). t.new)) is)
fresh_zeros touched b (Some t) is none = absurd cc

pub present_fresh : (content : Option Content) (touched : List Touched) (b : Block) (fresh : Bool) (x : List ℕ) → fresh ≡ true → is_some (touched_at touched b) ≡ false → x ≡ zeros (512 * sectors b.kind) → IfSome content (λ c. x ≡ present c (bodies_of touched) b fresh)
present_fresh None touched b fresh x new none is = tt
present_fresh (Some c) touched b true x new none is = is ∙ sym (fresh_zeros touched b (touched_at touched b) refl none)
present_fresh (Some c) touched b false x new none is = absurd cc

-- one that is touched has its body, and another one that of the content
touched_bytes : (c : Content) (touched : List Touched) (b : Block) (o : Option Touched) → HasSizes c → rises 0 (keys_of touched) ≡ true → All IsWhole touched → touched_at touched b ≡ o → is_some o ≡ true → (drafted touched c b).bytes ≡ zeros_or b (body_in (bodies_of touched) b)
touched_bytes c touched b None sized up whole is some = absurd cc
touched_bytes c touched b (Some t) sized up whole is some =
    ap (λ (x : BodyOf). x.bytes) (drafted_at touched c b (Some t) sized up whole is)
    ∙ sym (ap (zeros_or b) (body_touched touched b ∙ ap (option_map (λ (t : Touched). t.new)) is))

pub present_read : (content : Option Content) (touched : List Touched) (b : Block) (fresh : Bool) (x : BodyOf) → IfSome content HasSizes → rises 0 (keys_of touched) ≡ true → All IsWhole touched → (fresh ≡ true → is_some (touched_at touched b) ≡ true)
    → IfSome (option_map (drafted touched) content) (λ d. x ≡ d b) → IfSome content (λ c. x.bytes ≡ present c (bodies_of touched) b fresh)
present_read None touched b fresh x sized up whole some is = tt
present_read (Some c) touched b true x sized up whole some is = ap (λ (y : BodyOf). y.bytes) is ∙ touched_bytes c touched b (touched_at touched b) sized up whole refl (some refl)
present_read (Some c) touched b false x sized up whole some is = ap (λ (y : BodyOf). y.bytes) is

-- the part is put over it
pub part_put : (content : Option Content) (bodies new : List NewBody) (b : Block) (fresh : Bool) (at : ℕ) (bytes old x : List ℕ) → IfSome content (λ c. old ≡ present c bodies b fresh) → x ≡ written at bytes old → new ≡ put_in_order (record { block = b; bytes = x }) bodies
    → IfSome content (λ c. new ≡ put_part c b fresh at bytes bodies)
part_put None bodies new b fresh at bytes old x had is put = tt
part_put (Some c) bodies new b fresh at bytes old x had is put = put ∙ ap (λ (y : List ℕ). put_in_order (record { block = b; bytes = y }) bodies) (is ∙ ap (written at bytes) had)

pub zeros_long : (n : ℕ) → length (zeros n) ≡ n
unfolding zeros
zeros_long n = length-replicate {A = ℕ} n 0
