use Rattle.std.proofs.Common.{◌≡◌, ◌++◌, ◌*◌, ◌+◌, ◌∙◌, subst, Option, arith}
use Rattle.std.specs.Prelude.{IfSome}
use Rattle.disk_model.specs.Content.{Content}
use Rattle.log_reading.specs.LogPages.{log_bytes}
use Rattle.log_reading.proofs.Paging.{page_more, page_whole}
use Rattle.log_reading.proofs.pages.read_page.Goals as goal

pub loop-i-preserved : goal.loop-i-preserved
loop-i-preserved g c =
    let kept = c.loop-i.invariant.kept in
    let step = c.append_sector.ensures.kept in
    record {
      read = page_more _ c.args.place.now c.args.n c.loop-i.i c.loop-i.page.items c.append_sector.new.page.items c.loop-i-test.true
          (subst (λ (o : Option Content). IfSome o (λ d. c.append_sector.new.page.items ≡ c.loop-i.page.items ++ log_bytes d c.args.place.now (8 * c.args.n + c.loop-i.i))) kept.same c.in_ok-append_sector.ensures.value)
          c.loop-i.invariant.read;
      size = omega (arith, c.loop-i.invariant.size, c.in_ok-append_sector.ensures.size);
      kept = record { same = step.same ∙ kept.same; stays = step.stays ∙ kept.stays; later = omega (arith, kept.later, step.later) };
      counted = c.in_ok-append_sector.ensures.kept.counted ∙ c.loop-i.invariant.counted;
    }

pub returns-clause-value : goal.returns-clause-value
returns-clause-value g c = page_whole _ c.args.place.now c.args.n c.loop-i.i c.loop-i.page.items c.loop-i-test.false c.loop-i.invariant.read
