use Rattle.std.proofs.Common.{rules, map}
use Rattle.std.specs.Ordering.{nat_cmp}
use Rattle.std.specs.Cmp.Lexicographic.{slice_cmp}
use Rattle.std.proofs.lemmas.Fn.{always_returns_same}
use Rattle.tab_image.proofs.Rising.{bytes_rise}
use Rattle.tab_image.proofs.UserSearch.{found}
use Rattle.tab_image.proofs.known_users.KnownUsers.has.Goals as goal

pub returns : goal.returns
returns c =
    let users = c.self.inside.users.now in
    let name = c.args.name.now in
    let facts = c.binary_search_by.ensures in
    let position = facts.position (λ u. slice_cmp nat_cmp u.name name) (always_returns_same _ _ _ (λ a r f called. (search rules, search rules))) in
    let rising = (bytes_rise (map (λ u. u.name) users)).0 c.self.invariant in
    rw (c.is_ok.ensures.value, ← c.self.view_is) (found (λ u. u.name) users name c.binary_search_by.result rising facts.bound position)
