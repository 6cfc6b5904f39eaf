-- What a view with other bodies shows.
use Rattle.std.proofs.Common.{◌≡◌, subst, Option, Some, None, Result, Ok, Err}
use Rattle.std.specs.Prelude.{IfSome, OnOk}
use Rattle.std.specs.Option.{option_map}
use Rattle.disk_model.specs.declared.block.Block.{Block}
use Rattle.disk_model.specs.declared.block.Body.{Body}
use Rattle.disk_model.specs.Content.{Content}

pub shown_of : {T E : Type 0} (result : Result T E) (o p : Option Content) (f : Content → Content) (x : Body) (b : Block) → p ≡ option_map f o → OnOk result (IfSome p (λ c. x ≡ c b)) → OnOk result (IfSome o (λ c. x ≡ f c b))
shown_of (Err e) o p f x b same shows = tt
shown_of (Ok u) None p f x b same shows = tt
shown_of (Ok u) (Some c) p f x b same shows = subst (λ (q : Option Content). IfSome q (λ d. x ≡ d b)) same shows
