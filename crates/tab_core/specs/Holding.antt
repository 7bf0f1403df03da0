-- For proofs. What a store of this crate holds, as definitions have it.
use Rattle.tab_store.specs.Stores.{CoreContents}
use Rattle.tab_core.specs.declared.store.Store.{Store}

-- all that it holds
abbrev pub held : Store → CoreContents
held s = record { clock = s.clock; next = s.next; policy = s.policy; tables = s.tables; tablet = s.tablet; job = s.job }
