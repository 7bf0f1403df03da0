-- A seek passes the records before the key.
use Rattle.tab_key.specs.KeyOf.{key_of}
use Rattle.tab_iter.proofs.ListSourceLaws.{lands_key}
use Rattle.tab_iter.proofs.list_source.ListSourceSource.seek.Goals as goal

pub returns-clause-rest : goal.returns-clause-rest
returns-clause-rest c = lands_key (key_of c.args.key) c.count_before-self.result c.deref.result.now c.args.self.now.records.items c.count_before-self.ensures c.deref.ensures.value
