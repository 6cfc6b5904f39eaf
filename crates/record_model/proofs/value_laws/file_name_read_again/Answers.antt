use Rattle.record_model.specs.StdValues.{file_name_over}
use Rattle.record_model.proofs.FileNames.{file_name_read, file_name_spelled, length-file_name_over, file_name_others}
use Rattle.record_model.proofs.value_laws.file_name_read_again.Goals as goal

pub returns : goal.returns
returns c = record {
  size = length-file_name_over;
  spelled = file_name_spelled;
  read = λ f value fits size. file_name_read (file_name_over f value) f (file_name_spelled f value fits size);
  others = file_name_others;
}
