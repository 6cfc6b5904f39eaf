use Rattle.volume_model.specs.disk_model.Writes.{overlay}
use Rattle.stream_laws.proofs.Recording.{others_stay, records_set, record_read}
use Rattle.stream_laws.proofs.laws.one_record_changed.Goals as goal

pub returns : goal.returns
returns c = record {
  others = others_stay;
  records = records_set;
  changed = λ content writes per e n b below is. record_read (overlay content writes) per e n b below is;
}
