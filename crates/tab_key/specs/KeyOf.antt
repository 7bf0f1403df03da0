-- For proofs. A borrowed key as the key that it lends.
use Rattle.tab_key.specs.Records as view
use Rattle.tab_key.specs.declared.key.Key.{Key}

abbrev pub key_of : Key → view.Key
key_of k = record { row = k.row.now; family = k.family.now; qualifier = k.qualifier.now; label = k.label.now; timestamp = k.timestamp }
