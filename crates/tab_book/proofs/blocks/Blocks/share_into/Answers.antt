use Rattle.std.proofs.Common.{rules, ◌≡◌, ◌∷◌, [], ◌++◌, sym, ap, ◌∙◌}
use Rattle.std.proofs.lemmas.List.{append-nil}
use Rattle.tab_book.specs.Slices.{shown}
use Rattle.tab_book.proofs.Stretches.{one_there, none_there}
use Rattle.tab_book.proofs.blocks.Blocks.share_into.Goals as goal

pub returns-in_ok-push : goal.returns-in_ok-push
returns-in_ok-push c =
    let put : c.push.new.self.items ≡ c.args.shared.now.items ++ shown c.in-Some.entry.now ∷ [] = search rules in
    put ∙ ap (λ more. c.args.shared.now.items ++ more) (sym (one_there c.args.self.now.entries c.args.number c.in-Some.entry.now (search rules)))

pub returns-in_default : goal.returns-in_default
returns-in_default c =
    sym (append-nil c.args.shared.now.items) ∙ ap (λ more. c.args.shared.now.items ++ more) (sym (none_there c.args.self.now.entries c.args.number (search rules)))
