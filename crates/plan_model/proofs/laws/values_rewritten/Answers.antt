use Rattle.plan_model.proofs.Rewriting.{itself, same_runs, same_uses, same_types, same_directory, same_sizes, same_attributes, same_stream, same_links, same_names, same_info, same_root}
use Rattle.plan_model.proofs.laws.values_rewritten.Goals as goal

pub returns : goal.returns
returns c = record {
  itself = itself;
  runs = same_runs;
  uses = same_uses;
  types = same_types;
  directory = same_directory;
  sizes = same_sizes;
  attributes = same_attributes;
  stream = same_stream;
  links = same_links;
  names = same_names;
  info = same_info;
  root = same_root;
}
