use Rattle.std.proofs.Common.{◌≡◌, inr, ℤ, List, Some, None, refl, sym, subst, rules, to_z, of_z, w64}
use Rattle.std.specs.Prelude.{Option, Contains}
use Rattle.std.specs.Result.{result_err}
use Rattle.tab_mutation.specs.Mutations.{Mutation}
use Rattle.tab_history.specs.declared.event.Act.TheVariants as act
use Rattle.tab_history.specs.declared.reply.Refusal.{Refusal}
use Rattle.tab_history.specs.declared.reply.Refusal.TheVariants.{NoMemory}
use Rattle.tab_history.specs.declared.reply.Reply.TheVariants.{Refused}
use Rattle.tab_store.specs.ByRow.{records_of_all}
use Rattle.tab_store.specs.Stores.{TableContents}
use Rattle.tab_store.specs.Tables.{TableState, table_at, tablets_of}
use Rattle.tab_core.specs.Stepping.{ActsOnTables}
use Rattle.tab_core.proofs.Lent.{Lent, lent_so, alters, untouched}
use Rattle.tab_core.proofs.Writing.{Checks, Wrote, checked, refuses, written_at, wrote}
use Rattle.tab_core.proofs.writes.write.Goals as goal

pub returns-in-Err : goal.returns-in-Err
returns-in-Err c =
    let t = c.args.table.now in
    let m = c.args.mutation.now in
    let next = c.args.next.now in
    let auths = c.args.authorizations.now in
    let old : List TableContents = c.args.tables.now in
    let was : TableState = c.in-Some.table.now in
    let lent : Lent t old (c.get_mut.follows.lender was) was was = lent_so t old _ was c.get_mut.result _ c.get_mut.ensures.value c.in-Some.is (c.get_mut.follows.holds was) in
    let trip : to_z w64 (of_z w64 c.args.now) ≡ c.args.now = search rules in
    let is : result_err c.numbered.result ≡ Some c.in-Err.refusal = search rules in
    let fails : Checks auths c.args.now t m old next (Some c.in-Err.refusal) =
    subst (λ (o : Option Refusal). Checks auths c.args.now t m old next o) is
    (subst (λ (n : ℤ). Checks auths n t m old next (result_err c.numbered.result)) trip (checked auths (to_z w64 (of_z w64 c.args.now)) t m old next (result_err c.numbered.result) was lent.had c.numbered.ensures.answers)) in
    subst (λ (ts : List TableContents). ActsOnTables auths c.args.now (act.Write t m) old next (Refused c.in-Err.refusal) ts next) (sym (untouched lent refl)) (refuses auths c.args.now t m old next c.in-Err.refusal fails)

pub write-requires : goal.write-requires
write-requires c =
    let had : table_at c.args.tables.now c.args.table.now ≡ Some c.in-Some.table.now = search rules in
    record { unused = λ u h. c.requires.unused u (subst (λ (o : Option TableState). Contains (records_of_all (tablets_of o)) u) (sym had) h) }

pub returns-in-Ok-write : goal.returns-in-Ok-write
returns-in-Ok-write c =
    let t = c.args.table.now in
    let m = c.args.mutation.now in
    let next = c.args.next.now in
    let auths = c.args.authorizations.now in
    let old : List TableContents = c.args.tables.now in
    let was : TableState = c.in-Some.table.now in
    let now : TableState = c.write.new.self in
    let lent : Lent t old (c.get_mut.follows.lender now) was now = lent_so t old _ now c.get_mut.result _ c.get_mut.ensures.value c.in-Some.is (c.get_mut.follows.holds now) in
    let trip : to_z w64 (of_z w64 c.args.now) ≡ c.args.now = search rules in
    let none : result_err c.numbered.result ≡ None = search rules in
    let passes : Checks auths c.args.now t m old next None =
    subst (λ (o : Option Refusal). Checks auths c.args.now t m old next o) none
    (subst (λ (n : ℤ). Checks auths n t m old next (result_err c.numbered.result)) trip (checked auths (to_z w64 (of_z w64 c.args.now)) t m old next (result_err c.numbered.result) was lent.had c.numbered.ensures.answers)) in
    let laid : Wrote t c.in-Ok.shaped (to_z w64 (of_z w64 c.args.now)) next old (c.get_mut.follows.lender now) = alters (written_at c.in-Ok.shaped (to_z w64 (of_z w64 c.args.now)) next) lent c.in-Ok-write.ensures.ok in
    let after : Wrote t m c.args.now next old (c.get_mut.follows.lender now) =
    subst (λ (n : ℤ). Wrote t m n next old (c.get_mut.follows.lender now)) trip
    (subst (λ (it : Mutation). Wrote t it (to_z w64 (of_z w64 c.args.now)) next old (c.get_mut.follows.lender now)) c.in-Ok.ensures.same laid) in
    wrote auths c.args.now t m old _ next passes after

pub returns-in-Err-write : goal.returns-in-Err-write
returns-in-Err-write c =
    let t = c.args.table.now in
    let m = c.args.mutation.now in
    let next = c.args.next.now in
    let auths = c.args.authorizations.now in
    let old : List TableContents = c.args.tables.now in
    let was : TableState = c.in-Some.table.now in
    let now : TableState = c.write.new.self in
    let lent : Lent t old (c.get_mut.follows.lender now) was now = lent_so t old _ now c.get_mut.result _ c.get_mut.ensures.value c.in-Some.is (c.get_mut.follows.holds now) in
    subst (λ (ts : List TableContents). ActsOnTables auths c.args.now (act.Write t m) old next (Refused NoMemory) ts next) (sym (untouched lent c.in-Err-write.ensures.err)) (refuses auths c.args.now t m old next NoMemory (inr refl))
