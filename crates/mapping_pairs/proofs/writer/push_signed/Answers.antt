use Rattle.std.proofs.Common.{◌≡◌, ◌++◌, w64, of_z, to_z, take, ap, ◌∙◌}
use Rattle.std.proofs.lemmas.Int.{to_z-of_z}
use Rattle.record_model.specs.Pairs.{signed_bytes}
use Rattle.record_model.proofs.PairsSigned.{take-signed}
use Rattle.mapping_pairs.proofs.writer.push_signed.Goals as goal

pub returns : goal.returns
returns c =
    let z = to_z w64 (of_z w64 c.args.value) in
    let back : z ≡ c.args.value = to_z-of_z w64 c.args.value c.ranges.value in
    let front : take c.signed_width-width.result c.write_int.new.buf ≡ signed_bytes z = take-signed z c.signed_width-width.result c.write_int.new.buf _ c.signed_width-width.ensures.value c.write_int.ensures in
    c.in_ok-extend_from_slice.ensures.items ∙ ap (λ l. c.args.out.now.items ++ l) (c.split_at.ensures.front ∙ front ∙ ap signed_bytes back)
