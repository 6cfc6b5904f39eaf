use Rattle.std.proofs.Common.{◌+◌, ◌*◌, ◌++◌, List, refl, ap, ◌∙◌, arith}
use Rattle.std.proofs.lemmas.Result.{err_from_is_err_and}
use Rattle.file_tree.specs.declared.journal.Usn.{Usn}
use Rattle.usn_journal.specs.Pulls.{from_on}
use Rattle.usn_journal.proofs.Ends.{ends_grown, none_ends}
use Rattle.usn_journal.proofs.Left.{known_start, known_on, known_enough, known_end, known_broken}
use Rattle.usn_journal.proofs.pages.read_pages.Goals as goal

pub loop-number-init : goal.loop-number-init
loop-number-init g c = record {
  from = omega arith;
  left = known_start _ c.args.per c.args.extents.now c.args.from c.new-found.result.items (omega (arith, c.requires.first, c.requires.begun)) c.requires.left c.new-found.ensures.items c.requires.whole;
  ends = none_ends c.new-found.result.items c.new-found.ensures.items;
  kept = record { same = refl; stays = refl; later = omega arith };
  counted = refl;
}

pub returns-in_err-entries-clause-value : goal.returns-in_err-entries-clause-value
returns-in_err-entries-clause-value g c =
    let p = err_from_is_err_and c.from_residual.result c.from_residual.ensures.1 in
    rw (p.1, p.2)
    (known_broken
    _
    c.args.per
    c.args.extents.now
    c.args.from
    c.loop-number.number
    c.args.most
    c.args.first
    c.loop-number.found.items
    c.in_err-entries.field-0.0
    c.requires.first
    (omega arith)
    c.loop-number.invariant.left
    (rw c.loop-number.invariant.kept.same at c.in_err-entries.ensures.value))

pub loop-number-preserved : goal.loop-number-preserved
loop-number-preserved g c =
    let grown = c.in_ok-keep.ensures ∙ ap (λ (l : List Usn). c.loop-number.found.items ++ from_on c.args.from l) c.as_slice.ensures in
    record {
      from = omega (arith, c.loop-number.invariant.from);
      left =
          known_on
          _
          c.args.per
          c.args.extents.now
          c.args.from
          c.loop-number.number
          c.args.first
          c.loop-number.found.items
          c.keep.new.found.items
          c.in_ok-entries.entries
          c.requires.first
          (omega arith)
          grown
          c.loop-number.invariant.left
          (rw c.loop-number.invariant.kept.same at c.in_ok-entries.ensures.value);
      ends = ends_grown c.args.from (4096 * c.loop-number.number + 4096) c.loop-number.found.items c.keep.new.found.items c.in_ok-entries.entries grown c.loop-number.invariant.ends c.in_ok-entries.ensures.ends (omega arith);
      kept = record {
        same = c.in_ok-entries.ensures.kept.same ∙ c.loop-number.invariant.kept.same;
        stays = c.in_ok-entries.ensures.kept.stays ∙ c.loop-number.invariant.kept.stays;
        later = omega (arith, c.loop-number.invariant.kept.later, c.in_ok-entries.ensures.kept.later);
      };
      counted = c.in_ok-entries.ensures.kept.counted ∙ c.loop-number.invariant.counted;
    }

pub returns-clause-value : goal.returns-clause-value
returns-clause-value g c =
    known_end _ c.args.per c.args.extents.now c.args.from c.loop-number.number c.args.most c.loop-number.found.items c.front-2.result.items (omega arith) c.front-2.ensures c.loop-number.invariant.left

pub returns-then-len-most-clause-value : goal.returns-then-len-most-clause-value
returns-then-len-most-clause-value g c =
    known_enough _ c.args.per c.args.extents.now c.args.from c.loop-number.number c.args.most c.loop-number.found.items c.front.result.items (omega (arith, c.if-len-most.true, c.len.ensures, c.loop-number.found.ok.0)) c.front.ensures c.loop-number.invariant.left
