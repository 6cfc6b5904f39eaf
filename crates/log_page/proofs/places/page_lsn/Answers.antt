use Rattle.std.proofs.Common.{◌*◌, ◌^◌, ◌<◌, ℕ, ap, ◌∙◌, arith}
use Rattle.log_page.proofs.Shifts.{shifted}
use Rattle.log_page.proofs.PlacesFit.{page_room}
use Rattle.log_page.proofs.places.page_lsn.Goals as goal

pub returns-clause-room : goal.returns-clause-room
returns-clause-room c =
    let made = c.in_ok-begin.ensures in
    let range : c.in_ok-begin.begin < 2 ^ 64 = omega (arith, made.0, made.1) in
    page_room c.args.pages c.args.lap c.args.page c.place_bits.result c.in_ok-begin.begin c.checked_add.result c.requires.inside c.requires.small c.place_bits.ensures.value c.place_bits.ensures.small
    (made.1 ∙ ap (λ (m : ℕ). c.args.lap * m) (shifted c.place_bits.result c.place_bits.ensures.small)) range c.checked_add.ensures
