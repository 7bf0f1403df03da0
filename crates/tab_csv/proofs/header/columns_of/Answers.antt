use Rattle.std.proofs.Common.{◌≡◌, ◌+◌, ◌<◌, ℕ, List, [], drop, length, ap, sym, ◌∙◌, arith, Ok, Err}
use Rattle.std.specs.Prelude.{Result, unwrap_or}
use Rattle.csv.specs.Records.{field_at, fields_of}
use Rattle.tab_csv.specs.Columns.{and_then, columns_from, with_name}
use Rattle.tab_csv.specs.declared.header.Header.{Header}
use Rattle.tab_csv.specs.declared.header.HeaderFault.{HeaderFault}
use Rattle.tab_csv.proofs.FieldLemmas.{one_more}
use Rattle.tab_csv.proofs.header.columns_of.Goals as goal

-- what comes of the name at hand is what comes of all
step : (h : Header) (i : ℕ) (fields : List (List ℕ)) (name : List ℕ) (r : Result Header HeaderFault) → i < length fields → name ≡ unwrap_or (field_at fields i) []
    → r ≡ with_name h i name → and_then (λ longer. columns_from longer (i + 1) (drop (i + 1) fields)) r ≡ columns_from h i (drop i fields)
step h i fields name r lt is found =
    let k : Header → Result Header HeaderFault = λ longer. columns_from longer (i + 1) (drop (i + 1) fields) in
    ap (and_then k) (found ∙ ap (with_name h i) is) ∙ sym (one_more h i fields lt)

pub returns-in-Err : goal.returns-in-Err
returns-in-Err c =
    let fields : List (List ℕ) = fields_of c.args.names.now in
    let lt : c.loop-index.index < length fields = omega (arith, c.count_of-count.ensures, c.loop-index-test.true) in
    step c.loop-index.header c.loop-index.index fields c.field_at.result.now (Err c.in-Err.fault) lt c.field_at.ensures c.in-Err.ensures ∙ c.loop-index.invariant

pub loop-index-preserved : goal.loop-index-preserved
loop-index-preserved c =
    let fields : List (List ℕ) = fields_of c.args.names.now in
    let lt : c.loop-index.index < length fields = omega (arith, c.count_of-count.ensures, c.loop-index-test.true) in
    step c.loop-index.header c.loop-index.index fields c.field_at.result.now (Ok c.in-Ok.longer) lt c.field_at.ensures c.in-Ok.ensures ∙ c.loop-index.invariant
