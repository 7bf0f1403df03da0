use Rattle.std.proofs.Common.{ℕ, List, [], ◌∷◌, ◌++◌, subst}
use Rattle.std.specs.Prelude.{codes}
use Rattle.tab_io.specs.Writing.{Puts}
use Rattle.tab_policy.specs.Permissions.{table_name, all_table}
use Rattle.tab_policy.specs.Sets.{table_contains}
use Rattle.tab_replies.specs.Texts.{table_text}
use Rattle.tab_replies.proofs.Spelling.{held_each}
use Rattle.tab_replies.proofs.rights.put_table.Goals as goal

pub returns : goal.returns
unfolding table_text
returns g c =
    subst (λ (t : List ℕ). Puts g.W.Output c.args.output.now c.put_held.new.output (codes "table" ++ (t ++ 10 ∷ [])) c.put_held.result)
    (held_each (table_contains c.args.held) table_name all_table) c.put_held.ensures
