use Rattle.std.proofs.Common.{rules, ◌≡◌, ℤ, ◌∷◌, [], ◌++◌, Some, refl, subst, to_z, of_z, w64}
use Rattle.tab_history.specs.Answers.{told_of}
use Rattle.tab_core.specs.Recording.{StepsOn}
use Rattle.tab_core.specs.Stepping.{installs_at}
use Rattle.tab_book.specs.Entries.{Posted, posted}
use Rattle.tab_book.specs.Installs.{event_of}
use Rattle.tab_book.proofs.Growing.{kept_more}
use Rattle.tab_book.proofs.book.Book.install_reserved.Goals as goal

pub invariant_of-self-2 : goal.invariant_of-self-2
invariant_of-self-2 g c =
    let p : Posted = posted c.args.seat.now.number c.args.reservation (told_of c.install_told-answer.result.0) in
    let trip : to_z w64 (of_z w64 c.args.asked.moment) ≡ c.args.asked.moment = search rules in
    let steps : StepsOn c.self.inside.core (Some c.args.asked.finished) (event_of c.args.asked) c.install_told-answer.result.0 c.install_told-answer.new.self =
    subst (λ (moment : ℤ). StepsOn c.self.inside.core (Some c.args.asked.finished) (installs_at c.args.asked.user moment c.args.asked.table c.args.asked.finished) c.install_told-answer.result.0 c.install_told-answer.new.self) trip c.install_told-answer.ensures.steps in
    let grown : c.post.new.entries.entries ≡ c.self.inside.entries.entries ++ p ∷ [] = search rules in
    kept_more c.self.inside.base c.self.inside.first c.self.inside.entries.entries c.post.new.entries.entries p c.self.inside.core c.install_told-answer.new.self _ _ _ _ _ _ (Some c.args.asked.finished) (event_of c.args.asked) c.install_told-answer.result.0 c.self.invariant steps grown c.requires.reserved refl (search rules) c.post.ensures.counts
