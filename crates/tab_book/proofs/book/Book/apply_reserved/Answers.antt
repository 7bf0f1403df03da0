use Rattle.std.proofs.Common.{rules, ◌≡◌, ℤ, ◌∷◌, [], ◌++◌, None, refl, subst, to_z, of_z, w64}
use Rattle.tab_history.specs.Answers.{told_of}
use Rattle.tab_core.specs.Recording.{StepsOn}
use Rattle.tab_core.specs.Stepping.{asked_at}
use Rattle.tab_book.specs.Entries.{Posted, posted}
use Rattle.tab_book.proofs.Growing.{kept_more}
use Rattle.tab_book.proofs.book.Book.apply_reserved.Goals as goal

pub invariant_of-self-2 : goal.invariant_of-self-2
invariant_of-self-2 g c =
    let p : Posted = posted c.args.seat.now.number c.args.reservation (told_of c.step_told_lent-answer.result.0) in
    let trip : to_z w64 (of_z w64 c.args.moment) ≡ c.args.moment = search rules in
    let steps : StepsOn c.self.inside.core None (asked_at c.args.user.now c.args.moment c.args.act.now) c.step_told_lent-answer.result.0 c.step_told_lent-answer.new.self =
    subst (λ (m : ℤ). StepsOn c.self.inside.core None (asked_at c.args.user.now m c.args.act.now) c.step_told_lent-answer.result.0 c.step_told_lent-answer.new.self) trip c.step_told_lent-answer.ensures.steps in
    let grown : c.post.new.entries.entries ≡ c.self.inside.entries.entries ++ p ∷ [] = search rules in
    kept_more c.self.inside.base c.self.inside.first c.self.inside.entries.entries c.post.new.entries.entries p c.self.inside.core c.step_told_lent-answer.new.self _ _ _ _ _ _ None (asked_at c.args.user.now c.args.moment c.args.act.now) c.step_told_lent-answer.result.0 c.self.invariant steps grown c.requires.reserved refl (search rules) c.post.ensures.counts
