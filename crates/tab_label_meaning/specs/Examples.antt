-- Examples: what some texts mean, derived from the grammar, and what is told of a mutation, computed.
use Rattle.std.specs.Prelude.{◌≡◌, ◌<◌, ℕ, true, List, [], ◌∷◌, codes, Some, None, refl}
use Rattle.std.proofs.Common.{arith}
use Rattle.std.specs.List.{AllByRecursion}
use Rattle.std.proofs.lemmas.List.Elements.{All-from_recursion}
use Rattle.tab_label.specs.declared.joiner.Joiner.TheVariants.{And}
use Rattle.tab_label.specs.Grammar.{Expr, TermOf, JoinOf, Start, With, Only_if, is_term_byte, Reads, expression, plain, two, joined}
use Rattle.tab_label.proofs.SetLemmas.{has_is}
use Rattle.tab_label.specs.Machine.{step, ending}
use Rattle.tab_label.specs.Reading.{reads_on, label_of}
use Rattle.tab_mutation.specs.Mutations.{Update, put_update, Mutation}
use Rattle.tab_history.specs.Checks.{malformed}
use Rattle.tab_history.specs.declared.reply.Refusal.TheVariants.{MalformedVisibility}
use Rattle.tab_label_meaning.specs.Meaning.{IsOfBytes, IsHeldBy}

-- ---- a&b
abbrev a_and_b : Expr
a_and_b = JoinOf And (With (With Start (TermOf (codes "a"))) (TermOf (codes "b")))

-- each byte of it is one
pub bytes : IsOfBytes (codes "a&b")
bytes = All-from_recursion (λ b. b < 256) (codes "a&b") (omega arith, (omega arith, (omega arith, tt)))

-- two plain terms and the joiner between them
reads : Reads (codes "a&b") (Only_if a_and_b)
unfolding is_term_byte
reads = expression (joined (two (plain (λ e. absurd (cc)) (All-from_recursion (λ b. is_term_byte b ≡ true) (codes "a") (refl, tt))) (plain (λ e. absurd (cc)) (All-from_recursion (λ b. is_term_byte b ≡ true) (codes "b") (refl, tt)))))

abbrev pub both : List (List ℕ)
both = codes "a" ∷ codes "b" ∷ []

-- it holds for who has both
pub held : IsHeldBy (codes "a&b") both
held = (Only_if a_and_b, reads, ((tt, (has_is both (codes "a")).0 refl), (has_is both (codes "b")).0 refl))

-- ---- a mutation
-- a put under this label
abbrev under : List ℕ → Update
under label = put_update (codes "f") (codes "q") label None []

-- puts under a&b, under a& and under &
abbrev pub puts : Mutation
puts = record { row = codes "r"; updates = under (codes "a&b") ∷ under (codes "a&") ∷ under (codes "&") ∷ [] }

pub labels_are_bytes : AllByRecursion (λ (u : Update). IsOfBytes u.label) puts.updates
labels_are_bytes = (bytes, (All-from_recursion (λ b. b < 256) (codes "a&") (omega arith, (omega arith, tt)), (All-from_recursion (λ b. b < 256) (codes "&") (omega arith, tt), tt)))

-- the second is the first whose label is none, and two bytes of that begin some label
pub second : malformed puts ≡ Some (MalformedVisibility 1 2)
unfolding malformed label_of reads_on step ending is_term_byte
second = refl
