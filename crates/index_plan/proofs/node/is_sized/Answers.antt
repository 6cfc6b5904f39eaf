use Rattle.std.proofs.Common.{◌≡◌, true, false, subst, sym, ap, ◌∙◌}
use Rattle.index_plan.specs.Growth.{fits_in}
use Rattle.index_plan.specs.Room.{HasKeys}
use Rattle.index_plan.proofs.Fitting.{sized_of, sized_fits}
use Rattle.index_plan.proofs.node.is_sized.Goals as goal

pub returns-then-has_keys : goal.returns-then-has_keys
returns-then-has_keys c =
    let keys : HasKeys c.args.node.now = subst HasKeys c.as_slice.ensures (c.has_keys.ensures.0 c.if-has_keys.true) in (
      λ e. sized_of c.args.node.now keys (ap (fits_in 4056) (sym c.as_slice-then-has_keys.ensures) ∙ sym c.fits_room.ensures ∙ e),
      λ sized. c.fits_room.ensures ∙ ap (fits_in 4056) c.as_slice-then-has_keys.ensures ∙ sized_fits c.args.node.now sized,
    )

pub returns-else-has_keys : goal.returns-else-has_keys
returns-else-has_keys c = (
  λ e. absurd cc,
  λ sized. let has : c.has_keys.result ≡ true = c.has_keys.ensures.1 (subst HasKeys (sym c.as_slice.ensures) sized.keys) in let not : c.has_keys.result ≡ false = c.if-has_keys.false in absurd cc,
)
