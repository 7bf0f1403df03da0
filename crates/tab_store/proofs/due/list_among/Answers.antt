use Rattle.std.proofs.Common.{◌≡◌, ◌∙◌, ◌+◌, ◌<◌, ◌≤◌, List, ◌∷◌, [], ◌++◌, sym, ap, length, drop, append_assoc, arith, rules}
use Rattle.tab_tablets.specs.Tablets.{Tablet}
use Rattle.tab_tablets.specs.Places.{tablet_at}
use Rattle.tab_store.specs.Due.{due_among, listed_on}
use Rattle.tab_store.specs.declared.due.Due.{Due}
use Rattle.tab_store.proofs.DueList.{among_from, among_none}
use Rattle.tab_store.proofs.due.list_among.Goals as goal

pub loop-place-preserved : goal.loop-place-preserved
loop-place-preserved c =
    let at = c.loop-place in
    let ts : List Tablet = c.args.tablets.now in
    let inside : at.place < length ts = search rules in
    let behind : List Due = due_among c.args.kind (drop (at.place + 1) ts) in
    record {
      few = c.in_ok-list_at.ensures.few;
      listed = λ rest.
          c.in_ok-list_at.ensures.listed (behind ++ rest)
          ∙ ap (listed_on c.args.max at.list.items) (sym (append_assoc (due_among c.args.kind (tablet_at ts at.place ∷ [])) behind rest) ∙ ap (λ l. l ++ rest) (sym (among_from c.args.kind ts at.place inside)))
          ∙ at.invariant.listed rest;
    }

pub returns-clause-listed : goal.returns-clause-listed
returns-clause-listed c = λ rest.
    let at = c.loop-place in
    let all : c.places-place-end.result ≡ length c.args.tablets.now = c.places-place-end.ensures in
    let over = c.loop-place-test.false in
    ap (λ l. listed_on c.args.max at.list.items (l ++ rest)) (sym (among_none c.args.kind c.args.tablets.now at.place (omega (arith, all, over)))) ∙ at.invariant.listed rest
