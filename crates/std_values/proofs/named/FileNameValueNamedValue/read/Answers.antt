use Rattle.std.proofs.Common.{◌≡◌, true, ap, ◌∙◌, arith}
use Rattle.record_model.specs.host_base.FileRefs.{unpacked}
use Rattle.record_model.specs.Values.{parent_of, space_of, has_name_length}
use Rattle.std_values.proofs.Naming.{named_value}
use Rattle.std_values.proofs.named.FileNameValueNamedValue.read.Goals as goal

pub returns : goal.returns
unfolding parent_of space_of
returns c =
    let sized : has_name_length c.args.value.now ≡ true = cc in
    named_value c.args.value.now _ sized (omega (arith, c.u8_at-2.ensures.value, c.u8_at.ensures.value)) c.in_ok-name.ensures
    (c.unpack.ensures.value ∙ ap unpacked c.u64_at.ensures) c.u64_at-2.ensures c.u64_at-3.ensures c.u64_at-4.ensures c.u64_at-5.ensures c.u64_at-6.ensures c.u64_at-7.ensures c.u32_at.ensures c.u8_at-2.ensures.value
