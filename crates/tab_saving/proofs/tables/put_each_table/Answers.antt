use Rattle.std.proofs.Common.{◌≡◌, ◌∙◌, ◌∷◌, map, sym, ap, subst, rules}
use Rattle.std.specs.List.{AllByRecursion}
use Rattle.tab_image.specs.Images.{written_version}
use Rattle.tab_image.specs.Spelling.{table_bytes}
use Rattle.tab_store.specs.Stores.{TableContents}
use Rattle.tab_store.specs.Tables.{named_table}
use Rattle.tab_saving.specs.ImageOf.{table_of}
use Rattle.tab_saving.specs.Saves.{AreListed}
use Rattle.tab_saving.specs.Typed.{IsTypedTable}
use Rattle.tab_saving.proofs.Gathered.{one_less}
use Rattle.tab_saving.proofs.Texts.{PutSome, some_none, some_more, some_failed}
use Rattle.tab_saving.proofs.tables.put_each_table.Goals as goal

pub loop-name-init : goal.loop-name-init
loop-name-init g c =
    let all : map named_table c.into_iter-name-iterator.result ≡ c.args.tables.now = search rules in
    record {
      put = λ names users. subst (PutSome g.W.Output c.args.output.now c.args.output.now (λ t. table_bytes written_version (table_of c.args.policy.now names t)) c.args.tables.now) (sym all) (some_none g.W.Output (λ t. table_bytes written_version (table_of c.args.policy.now names t)) c.args.output.now c.args.tables.now);
      listed = subst (AllByRecursion (λ (t : TableContents). AreListed t.tablets)) (sym all) c.requires;
      typed = subst (λ left. AllByRecursion IsTypedTable left → AllByRecursion IsTypedTable c.args.tables.now) (sym all) (λ a. a);
    }

pub loop-name-preserved : goal.loop-name-preserved
loop-name-preserved g c =
    let left = map named_table c.loop-name.name-iterator in
    let rest = map named_table c.next.new.self in
    let one = named_table (c.to_name.result, c.in-Some.table.now) in
    let front : left ≡ one ∷ rest = ap (map named_table) c.in-Some.ensures.steps ∙ ap (λ n. named_table (n, c.in-Some.table.now) ∷ rest) (sym c.to_name.ensures) in
    record {
      put = λ names users. some_more g.W.Output (λ t. table_bytes written_version (table_of c.args.policy.now names t)) c.args.output.now c.loop-name.output c.put_table.new.output c.args.tables.now left rest one (c.loop-name.invariant.put names users) front (c.in-Ok.ensures.put names users);
      listed = (subst (AllByRecursion (λ (t : TableContents). AreListed t.tablets)) front c.loop-name.invariant.listed).1;
      typed = λ more. one_less IsTypedTable c.args.tables.now left rest one c.loop-name.invariant.typed front c.in-Ok.ensures.typed more;
    }

pub returns-in-Err-clause-put : goal.returns-in-Err-clause-put
returns-in-Err-clause-put g c = λ names users.
    let left = map named_table c.loop-name.name-iterator in
    let rest = map named_table c.next.new.self in
    let one = named_table (c.to_name.result, c.in-Some.table.now) in
    let front : left ≡ one ∷ rest = ap (map named_table) c.in-Some.ensures.steps ∙ ap (λ n. named_table (n, c.in-Some.table.now) ∷ rest) (sym c.to_name.ensures) in
    some_failed g.W.Output (λ t. table_bytes written_version (table_of c.args.policy.now names t)) c.args.output.now c.loop-name.output c.put_table.new.output c.args.tables.now left rest one c.in-Err.fault (c.loop-name.invariant.put names users) front (c.in-Err.ensures.put names users)
