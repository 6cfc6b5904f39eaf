use Rattle.stream_laws.proofs.Editing.{length-with_edits, other_file, edited_files, clusters_balance, names_balance}
use Rattle.stream_laws.proofs.laws.files_replaced.Goals as goal

pub returns : goal.returns
returns c = record { count = length-with_edits; edited = edited_files; others = other_file; clusters = clusters_balance; names = names_balance }
