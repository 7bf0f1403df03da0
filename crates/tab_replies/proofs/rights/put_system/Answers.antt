use Rattle.std.proofs.Common.{ℕ, List, [], ◌∷◌, ◌++◌, subst}
use Rattle.std.specs.Prelude.{codes}
use Rattle.tab_io.specs.Writing.{Puts}
use Rattle.tab_policy.specs.Permissions.{system_name, all_system}
use Rattle.tab_policy.specs.Sets.{system_contains}
use Rattle.tab_replies.specs.Texts.{system_text}
use Rattle.tab_replies.proofs.Spelling.{held_each}
use Rattle.tab_replies.proofs.rights.put_system.Goals as goal

pub returns : goal.returns
unfolding system_text
returns g c =
    subst (λ (t : List ℕ). Puts g.W.Output c.args.output.now c.put_held.new.output (codes "system" ++ (t ++ 10 ∷ [])) c.put_held.result)
    (held_each (system_contains c.args.held) system_name all_system) c.put_held.ensures
