use Rattle.std.proofs.Common.{◌≡◌, w64, of_z, to_z, sym, ap, ◌∙◌, arith}
use Rattle.std.proofs.lemmas.Int.{to_z-of_z}
use Rattle.record_model.specs.Pairs.{signed_width}
use Rattle.mapping_pairs.proofs.Widths.{found, passed, last}
use Rattle.mapping_pairs.proofs.writer.signed_width.Goals as goal

pub returns-then-fits_bytes : goal.returns-then-fits_bytes
returns-then-fits_bytes c =
    let z = to_z w64 (of_z w64 c.args.value) in
    let back : z ≡ c.args.value = to_z-of_z w64 c.args.value c.ranges.value in
    record {
      value = sym (found c.loop-bytes.bytes z c.loop-bytes-test.true (sym c.fits_bytes.ensures ∙ c.if-fits_bytes.true)) ∙ c.loop-bytes.invariant ∙ ap signed_width back;
      some = omega arith;
      most = omega arith;
    }

pub loop-bytes-preserved : goal.loop-bytes-preserved
loop-bytes-preserved c =
    let z = to_z w64 (of_z w64 c.args.value) in
    sym (passed c.loop-bytes.bytes z c.loop-bytes-test.true (sym c.fits_bytes.ensures ∙ c.if-fits_bytes.false)) ∙ c.loop-bytes.invariant

pub returns : goal.returns
returns c =
    let z = to_z w64 (of_z w64 c.args.value) in
    let back : z ≡ c.args.value = to_z-of_z w64 c.args.value c.ranges.value in
    record {
      value = sym (last c.loop-bytes.bytes z (omega arith)) ∙ c.loop-bytes.invariant ∙ ap signed_width back;
      some = omega arith;
      most = omega arith;
    }
