use Rattle.std.proofs.Common.{rules, tests}
use Rattle.std.proofs.lemmas.List.{map-id}
use Rattle.std.proofs.lemmas.Iterator.{items_from_collect, YieldsList-from_map}
use Rattle.std.proofs.lemmas.Iterator.Consumers.{YieldsList-from_rest}
use Rattle.std.specs.Map.{keys_of}
use Rattle.tab_policy.proofs.account.names_of.Goals as goal

pub returns-clause-names : goal.returns-clause-names
returns-clause-names c =
    let all = keys_of c.args.users.now.entries in
    let road = items_from_collect _ c.collect.ensures.ran (YieldsList-from_map _ (λ n. n) (YieldsList-from_rest all (search rules)) c.map.ensures.closure (λ x r q k. search (rules, tests))) in
    search (rules, map-id all, road)
