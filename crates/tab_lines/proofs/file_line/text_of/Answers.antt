use Rattle.std.proofs.Common.{◌∙◌, ap}
use Rattle.std.specs.Option.{option_map}
use Rattle.std.specs.String.{string_bytes, string_vec}
use Rattle.std.proofs.lemmas.Str.{IsUtf8-string_bytes}
use Rattle.tab_lines.proofs.FileLemmas.{text_read}
use Rattle.tab_lines.proofs.file_line.text_of.Goals as goal

pub returns : goal.returns
returns c = ap (option_map string_bytes) c.ok.ensures.value ∙ text_read string_vec (λ v. v.items) c.args.bytes c.from_utf8.result IsUtf8-string_bytes c.from_utf8.ensures.ok c.from_utf8.ensures.succeeds
