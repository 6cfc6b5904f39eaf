use Rattle.record_model.proofs.FileNames.{file_name_table, file_name_read, wrong_length_from, wrong_length_to, wrong_shape_from, wrong_shape_to, file_name_lawful}
use Rattle.record_model.proofs.value_laws.file_name_is_table.Goals as goal

pub returns : goal.returns
returns c = record {
  read = λ value f each. (file_name_table value f each, file_name_read value f);
  wrong_length = λ value n. (wrong_length_from value n, wrong_length_to value n);
  wrong_shape = λ value. (wrong_shape_from value, wrong_shape_to value);
  lawful = file_name_lawful;
}
