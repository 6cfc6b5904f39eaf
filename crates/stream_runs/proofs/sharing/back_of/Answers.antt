use Rattle.std.proofs.Common.{◌≡◌, ◌+◌, List, ◌∷◌, ◌++◌, [], drop, None, arith, sym, ap, ◌∙◌, subst}
use Rattle.std.specs.Prelude.{All}
use Rattle.std.proofs.lemmas.List.Elements.{All-get_or, All-drop, All-take, All-append, All-cons, All-nil}
use Rattle.volume_model.specs.record_model.declared.runs.Run.{Run}
use Rattle.volume_model.specs.record_model.Runs.{IsSmall}
use Rattle.stream_runs.specs.Runs.{IsNear}
use Rattle.stream_runs.proofs.Looping.{vcn_at, all_near}
use Rattle.stream_runs.proofs.sharing.back_of.Goals as goal

abbrev none : Run
none = record { vcn = 0; lcn = None; len = 0 }

pub behind-requires-clause-vcn : goal.behind-requires-clause-vcn
behind-requires-clause-vcn c =
    let small = All-get_or IsSmall c.args.runs.now c.loop-i.i none c.loop-i-test.true c.requires.small in
    omega (arith, vcn_at 0 c.args.runs.now c.loop-i.i none c.requires.spelled c.loop-i-test.true, small.len, c.if-run-left.true)

pub returns-then-run-left-clause-near : goal.returns-then-run-left-clause-near
returns-then-run-left-clause-near c =
    let rest = All-drop IsNear (c.loop-i.i + 1) c.args.runs.now (all_near c.args.runs.now c.requires.small) in
    let first : All IsNear (c.behind.result ∷ []) = All-cons IsNear c.behind.result [] c.behind.ensures.near (All-nil IsNear) in
    let pushed : c.push.new.self.items ≡ c.behind.result ∷ [] = c.in_ok-push.ensures.items ∙ ap (λ (l : List Run). l ++ c.behind.result ∷ []) c.loop-i.invariant.none in
    let front : All IsNear c.push.new.self.items = subst (All IsNear) (sym pushed) first in
    subst (All IsNear) (sym c.in_ok-extend_from_slice.ensures.items) (All-append IsNear c.push.new.self.items _ front (All-take IsNear _ (drop (c.loop-i.i + 1) c.args.runs.now) rest))
