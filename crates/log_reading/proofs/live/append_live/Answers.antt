use Rattle.std.proofs.Common.{◌∙◌, refl, ap, arith, rules}
use Rattle.log_reading.proofs.Walks.{begun, goes_on, stops, ends, round}
use Rattle.log_reading.proofs.live.append_live.Goals as goal

pub loop-passed-init : goal.loop-passed-init
loop-passed-init g c =
    let first = c.first-at.ensures in
    record {
      read = begun _ c.args.place.now c.args.oldest c.first-at.result.lap c.first-at.result.page c.first-at.result.from c.args.entries.now.items c.requires.ring
          (ap (λ p. p.lap) first.value) (ap (λ p. p.page) first.value) (ap (λ p. p.from) first.value) c.requires.empty;
      fits = search rules;
      kept = search rules;
      counted = refl;
      begun = first.begun;
      inside = first.inside;
      place = first.place;
      near = first.near;
      low = omega (arith, first.low);
    }

pub returns-in-Err-NotWhole-clause-value : goal.returns-in-Err-NotWhole-clause-value
returns-in-Err-NotWhole-clause-value g c =
    let p = c.loop-passed in
    ends c.args.place.now c.args.oldest p._passed p.at.lap p.at.page p.at.from p.entries.items c.append_page.new.entries.items c.loop-passed-test.true _ _ p.invariant.kept.same
    c.in_ok-append_page.field-0 c.in_ok-append_page.ensures.value p.invariant.read c.in-Err-NotWhole.field-0 c.in-Err-NotWhole.is c.in-Err-NotWhole.field-0-is

pub returns-in-Err-Foreign-clause-value : goal.returns-in-Err-Foreign-clause-value
returns-in-Err-Foreign-clause-value g c =
    let p = c.loop-passed in
    stops c.args.place.now c.args.oldest p._passed p.at.lap p.at.page p.at.from p.entries.items c.append_page.new.entries.items c.loop-passed-test.true _ _ p.invariant.kept.same
    c.in_ok-append_page.field-0 c.in_ok-append_page.ensures.value p.invariant.read c.in-Err-Foreign.field-0 c.in-Err-Foreign.lsn _ c.in-Err-Foreign.is c.in-Err-Foreign.field-0-is c.in-Err-Foreign.lsn-is

pub loop-passed-preserved : goal.loop-passed-preserved
loop-passed-preserved g c =
    let p = c.loop-passed in
    let next = c.after-at.ensures in
    let kept = p.invariant.kept in
    let step = c.append_page.ensures.kept in
    record {
      read = goes_on c.args.place.now c.args.oldest p._passed p.at.lap p.at.page p.at.from p.entries.items c.append_page.new.entries.items c.loop-passed-test.true _ _ kept.same
          c.in_ok-append_page.field-0 c.in_ok-append_page.ensures.value p.invariant.read
          c.after-at.result.lap c.after-at.result.page c.after-at.result.from (ap (λ q. q.lap) next.value) (ap (λ q. q.page) next.value) (ap (λ q. q.from) next.value) c.in-Ok.is;
      fits = c.append_page.ensures.fits p.invariant.fits;
      kept = record { same = step.same ∙ kept.same; stays = step.stays ∙ kept.stays; later = omega (arith, kept.later, step.later) };
      counted = c.in_ok-append_page.ensures.kept.counted ∙ p.invariant.counted;
      begun = next.begun;
      inside = next.inside;
      place = rw (ap (λ q. q.from) next.value) (omega arith);
      near = rw (ap (λ q. q.from) next.value) (omega arith);
      low = omega (arith, next.low, p.invariant.low);
    }

pub returns-clause-value : goal.returns-clause-value
returns-clause-value g c =
    let p = c.loop-passed in
    round _ c.args.place.now c.args.oldest p._passed p.at.lap p.at.page p.at.from p.entries.items c.loop-passed-test.false p.invariant.read
