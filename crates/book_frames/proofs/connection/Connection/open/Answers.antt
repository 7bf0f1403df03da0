-- There is room for one session more: the new slot holds none.
use Rattle.std.proofs.Common.{◌≡◌, ◌∙◌, ℕ, ◌+◌, ◌<◌, List, [], ◌∷◌, ◌++◌, true, false, sym, ap, arith}
use Rattle.std.specs.Prelude.{Option, None, Result, Ok, Err, OnOk, is_err, is_some, count_by}
use Rattle.std.proofs.lemmas.Bool.Decides.{nat_tests}
use mathlib.Core.Bool.{true≢false}
use Rattle.tab_cells.specs.SessionState.{SessionState}
use Rattle.tab_core.specs.Slots.{are_full}
use Rattle.tab_core.proofs.SlotLemmas.{count_appended}
use Rattle.book_frames.proofs.connection.Connection.open.Goals as goal

few : (old : List (Option SessionState)) → are_full old ≡ false → count_by is_some old < 65536
few old e = grind (arith, nat_tests, e)

few_more : (old new : List (Option SessionState)) → are_full old ≡ false → new ≡ old ++ None ∷ [] → count_by is_some new < 65536
few_more old new e is = omega (arith, few old e, ap (count_by is_some) is ∙ count_appended old None)

done : {A B P : Type 0} (r : Result A B) → is_err r ≡ false → OnOk r P → P
done (Ok x) e h = h
done (Err x) e h = absurd (true≢false e)

pub keep-requires-clause-few : goal.keep-requires-clause-few
keep-requires-clause-few g c = few_more c.args.self.now.slots c.prepare.new.self (sym c.are_full.ensures ∙ c.if-are_full.false) (done c.prepare.result (sym c.is_err.ensures.value ∙ c.if-is_err.false) c.prepare.ensures.ok)

pub keep-requires-2-clause-few : goal.keep-requires-2-clause-few
keep-requires-2-clause-few g c = few_more c.args.self.now.slots c.prepare.new.self (sym c.are_full.ensures ∙ c.if-are_full.false) (done c.prepare.result (sym c.is_err.ensures.value ∙ c.if-is_err.false) c.prepare.ensures.ok)
