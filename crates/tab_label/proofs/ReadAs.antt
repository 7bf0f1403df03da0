-- What the two clauses of a reader say together.
use Rattle.std.proofs.Common.{ℕ, ◌<◌, get_or, List, Result, Ok, Err}
use Rattle.std.specs.Prelude.{IfOk, IfErr}
use Rattle.tab_label.specs.declared.tree.Label.{Label}
use Rattle.tab_label.specs.declared.fault.LabelFault.{LabelFault}
use Rattle.tab_label.specs.declared.fault.LabelFault.TheVariants.{Malformed, NoMemory}
use Rattle.tab_label.specs.Grammar.{Reads, IsNoLabel, IsOffset}
use Rattle.tab_label.specs.Grammar as grammar
use Rattle.tab_label.specs.Views.{meaning_of, IfMalformed, IsReadAs, IsReadBy}
use Rattle.tab_label.specs.Reading.{label_of}
use Rattle.tab_label.proofs.LabelOf.{says_label_of, refuses_label_of}
use Rattle.tab_label.proofs.Complete.{one_meaning}

pub is_read : (r : Result Label LabelFault) (text : List ℕ) (m : grammar.Label) → IfOk r (λ l. Reads text (meaning_of l)) → IfErr r (λ e. IfMalformed e (λ n. IsNoLabel text × IsOffset text n)) → Reads text m → IsReadAs r m
is_read (Ok l) text m read refused h = one_meaning text (meaning_of l) m read h
is_read (Err (Malformed n)) text m read refused h = refused.0 m h
is_read (Err NoMemory) text m read refused h = tt

pub is_read_by : (r : Result Label LabelFault) (text : List ℕ) → ((k : ℕ) → get_or text k 0 < 256) → IfOk r (λ l. Reads text (meaning_of l)) → IfErr r (λ e. IfMalformed e (λ n. IsNoLabel text × IsOffset text n)) → IsReadBy r (label_of text)
is_read_by (Ok l) text byte read refused = says_label_of text (meaning_of l) byte read
is_read_by (Err (Malformed n)) text byte read refused = refuses_label_of text n byte refused.0 refused.1
is_read_by (Err NoMemory) text byte read refused = tt
