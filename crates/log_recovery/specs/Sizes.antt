-- Bodies have their blocks' sizes.
use Rattle.std.proofs.Common.{◌≡◌, ℕ, ◌*◌, Bool, true, false, List, [], ◌∷◌, length, Option, Some, None, refl, sym, ap, ◌∙◌, subst, Bor}
use Rattle.std.specs.Prelude.{IfSome, All, if◌then◌else◌, unwrap_or}
use Rattle.std.specs.Option.{option_map, option_copied}
use Rattle.std.specs.List.{AllByRecursion}
use Rattle.std.proofs.lemmas.List.Elements.{recursion_from_All}
use Rattle.log_reading.specs.disk_model.declared.block.Block.{Block}
use Rattle.log_reading.specs.disk_model.Bodies.{BodyOf}
use Rattle.log_reading.specs.disk_model.Sectors.{same_block, sectors}
use Rattle.log_reading.specs.disk_model.Content.{Content, HasSizes}
use Rattle.disk_model.proofs.Frames.{same_block-is}
use Rattle.log_recovery.specs.declared.found.RecoveredBlock.{RecoveredBlock}
use Rattle.log_recovery.specs.Recovering.{held_body, content_with, IsSized}

size_of_one : (r : RecoveredBlock) (b : Block) (s : Bool) (o : Option BodyOf) → same_block b r.block ≡ s → IsSized r → IfSome o (λ body. length body.bytes ≡ 512 * sectors b.kind) → IfSome (if s then Some r.body else o) (λ body. length body.bytes ≡ 512 * sectors b.kind)
size_of_one r b true o e own rest = own ∙ ap (λ (d : Block). 512 * sectors d.kind) (sym (same_block-is b r.block e))
size_of_one r b false o e own rest = rest

pub held_size : (bodies : List RecoveredBlock) (b : Block) → AllByRecursion IsSized bodies → IfSome (held_body bodies b) (λ body. length body.bytes ≡ 512 * sectors b.kind)
held_size [] b all = tt
held_size (r ∷ bodies) b all = size_of_one r b (same_block b r.block) (held_body bodies b) refl all.0 (held_size bodies b all.1)

pub copied_size : (bodies : List RecoveredBlock) (b : Block) (found : Option (Bor BodyOf)) → All IsSized bodies → option_copied found ≡ held_body bodies b → IfSome found (λ body. length body.now.bytes ≡ 512 * sectors b.kind)
copied_size bodies b None all is = tt
copied_size bodies b (Some body) all is = subst (λ (o : Option BodyOf). IfSome o (λ x. length x.bytes ≡ 512 * sectors b.kind)) (sym is) (held_size bodies b (recursion_from_All IsSized bodies all))

size_or : (o : Option BodyOf) (body : BodyOf) (n : ℕ) → IfSome o (λ x. length x.bytes ≡ n) → length body.bytes ≡ n → length (unwrap_or o body).bytes ≡ n
size_or None body n held own = own
size_or (Some x) body n held own = held

pub sized_with : (bodies : List RecoveredBlock) → All IsSized bodies → (content : Option Content) → IfSome content HasSizes → IfSome (option_map (content_with bodies) content) HasSizes
sized_with bodies all None sized = tt
sized_with bodies all (Some c) sized = λ b. size_or (held_body bodies b) (c b) (512 * sectors b.kind) (held_size bodies b (recursion_from_All IsSized bodies all)) (sized b)
