-- A view with what a plan puts over it.
use Rattle.std.specs.Prelude.{◌≡◌, ℕ, List, Option, All}
use Rattle.std.specs.Option.{option_map}
use Rattle.plan_bodies.specs.disk_model.Content.{Content}
use Rattle.plan_bodies.specs.Bodies.{content_with}
use Rattle.plan_draft.specs.declared.touched.Touched.{Touched}
use Rattle.plan_draft.specs.Touching.{bodies_of}

-- the content with the bodies that are put
abbrev pub drafted : List Touched → Content → Content
drafted touched c = content_with c (bodies_of touched)

-- What stays of a draft that is read: the reference is the same one, of the view behind it the content stays and what that view
-- keeps, and what is touched stays.
pub record KeptDraft (Kept : Type 0) : Type 0 where
  pub reference : ℕ
  pub content : Option Content
  pub kept : Kept
  pub touched : List Touched
