-- The parts of an entry, read in either order.
use Rattle.std.proofs.Common.{◌≡◌, ℕ, ℤ, List, Option, Some, None, refl, sym, ap, ◌∙◌}
use Rattle.tab_history.specs.declared.event.Event.{Event}
use Rattle.tab_codec.specs.Reading.{◌>>=◌, only_if, is_name, i64_at, name_at, field_at}
use Rattle.tab_journal.specs.Reading.{Parts, parts_at, entry_of, entry_of_parts, entry_at}

-- a name, and what stands behind it; and the parts of an entry
abbrev named_from : List ℕ → List ℕ → Option (List ℕ × List ℕ)
named_from rest user = Some (user, rest)

abbrev parts_from : ℤ → List ℕ → List ℕ × List ℕ → Option (Parts × List ℕ)
parts_from moment user f = Some (record { moment = moment; user = user; body = f.0 }, f.1)

named : (moment : ℤ) (u : List ℕ × List ℕ) (n : Option (List ℕ)) (o : Option (List ℕ × List ℕ))
    → ((n >>= λ user. named_from u.1 user) >>= λ x. o >>= λ f. entry_of moment x.0 f.0 f.1) ≡ ((o >>= λ f. parts_from moment u.0 f) >>= λ p. n >>= λ user. entry_of p.0.moment user p.0.body p.1)
named moment u None None = refl
named moment u None (Some f) = refl
named moment u (Some user) None = refl
named moment u (Some user) (Some f) = refl

-- whether the name is judged before the body is read, or behind it
abbrev judged_first : ℤ → List ℕ × List ℕ → Option (Event × List ℕ)
judged_first moment u = (only_if is_name u.0 >>= λ user. named_from u.1 user) >>= λ x. field_at x.1 >>= λ f. entry_of moment x.0 f.0 f.1

abbrev judged_last : ℤ → List ℕ × List ℕ → Option (Event × List ℕ)
judged_last moment u = (field_at u.1 >>= λ f. parts_from moment u.0 f) >>= entry_of_parts

either_by : (moment : ℤ) (u : List ℕ × List ℕ) (n : Option (List ℕ))
    → ((n >>= λ user. named_from u.1 user) >>= λ x. field_at x.1 >>= λ f. entry_of moment x.0 f.0 f.1) ≡ ((field_at u.1 >>= λ f. parts_from moment u.0 f) >>= λ p. n >>= λ user. entry_of p.0.moment user p.0.body p.1)
either_by moment u None = named moment u None (field_at u.1)
either_by moment u (Some user) = named moment u (Some user) (field_at u.1)

own_name : (moment : ℤ) (u : List ℕ × List ℕ) (o : Option (List ℕ × List ℕ)) → ((o >>= λ f. parts_from moment u.0 f) >>= λ p. only_if is_name u.0 >>= λ user. entry_of p.0.moment user p.0.body p.1) ≡ ((o >>= λ f. parts_from moment u.0 f) >>= entry_of_parts)
own_name moment u None = refl
own_name moment u (Some f) = refl

either_order : (moment : ℤ) (u : List ℕ × List ℕ) → judged_first moment u ≡ judged_last moment u
either_order moment u = either_by moment u (only_if is_name u.0) ∙ own_name moment u (field_at u.1)

second : (moment : ℤ) (o : Option (List ℕ × List ℕ))
    → ((o >>= λ t. only_if is_name t.0 >>= λ user. named_from t.1 user) >>= λ x. field_at x.1 >>= λ f. entry_of moment x.0 f.0 f.1) ≡ ((o >>= λ u. field_at u.1 >>= λ f. parts_from moment u.0 f) >>= entry_of_parts)
second moment None = refl
second moment (Some u) = either_order moment u

first : (o : Option (ℤ × List ℕ)) → (o >>= λ m. name_at m.1 >>= λ x. field_at x.1 >>= λ f. entry_of m.0 x.0 f.0 f.1) ≡ ((o >>= λ m. field_at m.1 >>= λ u. field_at u.1 >>= λ f. parts_from m.0 u.0 f) >>= entry_of_parts)
unfolding name_at
first None = refl
first (Some m) = second m.0 (field_at m.1)

pub entry_by_parts : (bytes : List ℕ) (o : Option (Parts × List ℕ)) → o ≡ parts_at bytes → (o >>= entry_of_parts) ≡ entry_at bytes
unfolding parts_at entry_at
entry_by_parts bytes o is = ap (λ (p : Option (Parts × List ℕ)). p >>= entry_of_parts) is ∙ sym (first (i64_at bytes))

pub at_moment : (t moment : ℤ) (user body rest : List ℕ) → t ≡ moment → entry_of_parts (record { moment = t; user = user; body = body }, rest) ≡ entry_of_parts (record { moment = moment; user = user; body = body }, rest)
at_moment t moment user body rest is = ap (λ (m : ℤ). entry_of_parts (record { moment = m; user = user; body = body }, rest)) is

-- the name of the parts
pub by_name : (moment : ℤ) (text body rest : List ℕ) (n : Option (List ℕ)) → n ≡ only_if is_name text → (n >>= λ user. entry_of moment user body rest) ≡ entry_of_parts (record { moment = moment; user = text; body = body }, rest)
by_name moment text body rest n is = ap (λ (o : Option (List ℕ)). o >>= λ user. entry_of moment user body rest) is
