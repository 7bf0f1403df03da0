use Rattle.std.proofs.Common.{◌∙◌, ap, take}
use Rattle.tab_mem.proofs.records.Records.push_all.Goals as goal

pub returns-in-Err-clause-err : goal.returns-in-Err-clause-err
returns-in-Err-clause-err c = c.truncate.ensures ∙ ap (λ n. take n c.push_each.new.self) c.len-count.ensures.len ∙ c.push_each.ensures.front
